use Rattle.std.proofs.Common.{◌≡◌, take}
use Rattle.wasm_copy.proofs.lists.copied.Given as goal

abbrev pub invariant-loop-member : goal.invariant-loop-member
invariant-loop-member g l = l.copy ≡ take l.member-index l.member-items
