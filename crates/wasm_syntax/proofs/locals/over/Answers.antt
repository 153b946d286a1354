use Rattle.std.proofs.Common.{◌≡◌, ℕ, suc, ◌+◌, ◌-◌, ◌/◌, ◌≤◌, ◌<◌, List, length, get_or, Some, arith, ap, subst}
use Rattle.std.specs.Prelude.{slice_get}
use Rattle.std.proofs.lemmas.Option.{slice_get-get_or, get_or_from_slice_get}
use Rattle.wasm_syntax.specs.declared.locals.LocalRun.{LocalRun}
use Rattle.wasm_syntax.specs.declared.types.ValueType.TheVariants.{I32}
use Rattle.wasm_syntax.specs.LocalRuns.{start_of}
use Rattle.wasm_syntax.proofs.RunLists.{start-step}
use Rattle.wasm_syntax.proofs.locals.over.Goals as goal

middle-in : (low high : ℕ) → low < high → low + (high - low) / 2 < high
middle-in low high lt = omega (arith, lt)

begins-behind : (rs : List LocalRun) (m x : ℕ) (d : LocalRun) → m < length rs → (get_or rs m d).end ≤ x → start_of 0 rs (m + 1) ≤ x
begins-behind rs m x d lt le =
    let next : m + 1 ≡ suc m = omega arith in
    omega (arith, le, ap (start_of 0 rs) next, start-step 0 rs m (get_or rs m d) (slice_get-get_or rs m d lt))

ends-at : (rs : List LocalRun) (m x : ℕ) (d r : LocalRun) → x < (get_or rs m d).end → slice_get rs m ≡ Some r → x < r.end
ends-at rs m x d r lt e = subst (λ (q : LocalRun). x < q.end) (get_or_from_slice_get rs m r d e) lt

pub loop-low-preserved-then-runs-middle : goal.loop-low-preserved-then-runs-middle
loop-low-preserved-then-runs-middle c =
    let h = c.loop-low.invariant in
    let m = middle-in c.loop-low.low c.loop-low.high c.loop-low-test.true in
    record {
      order = omega (arith, m);
      place = h.place;
      begins = begins-behind c.args.runs.now _ c.args.x (record { end = 0; of = I32 }) (omega (arith, m, h.place)) c.if-runs-middle.true;
      ends = h.ends;
    }

pub loop-low-preserved : goal.loop-low-preserved
loop-low-preserved c =
    let h = c.loop-low.invariant in
    let m = middle-in c.loop-low.low c.loop-low.high c.loop-low-test.true in
    record {
      order = omega arith;
      place = omega (arith, m, h.place);
      begins = h.begins;
      ends = λ r. ends-at c.args.runs.now _ c.args.x (record { end = 0; of = I32 }) r c.if-runs-middle.false;
    }
