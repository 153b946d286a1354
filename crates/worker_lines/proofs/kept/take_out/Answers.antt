use Rattle.std.proofs.Common.{◌≡◌, ◌<◌, ◌+◌, ◌∙◌, ℕ, sym, subst, arith, length}
use Rattle.std.specs.Prelude.{slice_set}
use Rattle.std.specs.List.{remove}
use Rattle.worker_lines.proofs.Listing.{remove_next}
use Rattle.worker_lines.proofs.Wished.{length_set}
use Rattle.worker_lines.proofs.kept.take_out.Goals as goal

pub loop-at-preserved : goal.loop-at-preserved
loop-at-preserved c =
    let long = c.loop-at.invariant.1 in
    let numbers = c.loop-at.numbers in
    let at = c.loop-at.at in
    let next = c.get-next.result.now in
    let low : at + 1 < length numbers = omega (arith, c.loop-at-test.true, c.len-last.ensures, long) in
    let moved = subst (λ (n : ℕ). remove (slice_set numbers at n) (at + 1) ≡ remove numbers at) (sym c.get-next.ensures) (remove_next numbers at next low) in
    (moved ∙ c.loop-at.invariant.0, length_set numbers at next ∙ long)
