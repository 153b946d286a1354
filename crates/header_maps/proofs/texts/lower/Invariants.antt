use Rattle.std.proofs.Common.{◌-◌, ◌≡◌, ◌≤◌, ◌+◌, ◌++◌, length, take, drop}
use Rattle.http_header.specs.Token.{lowercase}
use Rattle.header_maps.proofs.texts.lower.Given as goal

-- what was gone through is in lower case
abbrev pub invariant-loop-at : goal.invariant-loop-at
invariant-loop-at l = record {
  last : l.last + 8 ≡ length l.initial.text;
  near : l.at ≤ l.last + 8;
  text : l.text ≡ lowercase (take l.at l.initial.text) ++ drop l.at l.initial.text;
}

abbrev pub decreases-loop-at : goal.decreases-loop-at
decreases-loop-at l = l.last - l.at
