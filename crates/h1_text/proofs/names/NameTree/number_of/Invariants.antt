use Rattle.std.proofs.Common.{◌≡◌}
use Rattle.http_header.specs.Token.{lowercase}
use Rattle.h1_text.specs.Names.{number_from, number_of}
use Rattle.h1_text.proofs.names.NameTree.number_of.Given as goal

-- the steps that are left lead to what all of them do
abbrev pub invariant-loop-left : goal.invariant-loop-left
invariant-loop-left l = number_from l.left l.self.nodes.items (lowercase l.name) l.next ≡ number_of l.self (lowercase l.name)

abbrev pub decreases-loop-left : goal.decreases-loop-left
decreases-loop-left l = l.left
