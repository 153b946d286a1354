use Rattle.std.proofs.Common.{◌≡◌, length}
use Rattle.std.specs.Prelude.{bytes_eq}
use Rattle.http_header.specs.Token.{lowercase}
use Rattle.header_maps.proofs.judged.is_same_text.Given as goal

-- what is left of the texts decides
abbrev pub invariant-loop-left : goal.invariant-loop-left
invariant-loop-left l = record {
  long : length l.left ≡ length l.right;
  same : bytes_eq (lowercase l.left) (lowercase l.right) ≡ bytes_eq (lowercase l.a) (lowercase l.b);
}

abbrev pub decreases-loop-left : goal.decreases-loop-left
decreases-loop-left l = length l.left
