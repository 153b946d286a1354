use Rattle.std.proofs.Common.{◌≡◌, ◌<◌, ◌≤◌, ◌+◌, ◌-◌, ◌++◌, ℕ, List, ◌∙◌, length, drop, get_or, sym, ap, subst, arith, length-append, length-drop}
use Rattle.std.specs.Prelude.{replicate}
use Rattle.std.proofs.lemmas.List.{length-replicate}
use Rattle.std.proofs.lemmas.Option.{slice_get-get_or}
use Rattle.wasm_syntax.specs.declared.types.ValueType.{ValueType}
use Rattle.wasm_syntax.specs.declared.types.ValueType.TheVariants.{I32}
use Rattle.wasm_syntax.specs.declared.locals.LocalRun.{LocalRun}
use Rattle.wasm_syntax.specs.LocalRuns.{unrolled, IsRising, IsOver}
use Rattle.wasm_syntax.proofs.RunLists.{has_run, in_run}
use Rattle.wasm_syntax.proofs.locals.LocalRuns.run.Goals as goal

record IsIn (rs : List LocalRun) (i x : ℕ) (all : List ValueType) (d : LocalRun) : Type 0 where
  pub place : i < length rs
  pub ends : x < (get_or rs i d).end
  pub within : x + ((get_or rs i d).end - x) ≤ length all
  pub run : drop x all ≡ replicate ((get_or rs i d).end - x) (get_or rs i d).of ++ drop (x + ((get_or rs i d).end - x)) all

run_within : (all : List ValueType) (x n : ℕ) (t : ValueType) → x < length all → drop x all ≡ replicate n t ++ drop (x + n) all → x + n ≤ length all
run_within all x n t lt e = omega (arith, lt, ap length e, length-drop x all, length-append (replicate n t) (drop (x + n) all), length-replicate n t)

is_in : (rs slice : List LocalRun) (i x : ℕ) (all : List ValueType) (d : LocalRun) → slice ≡ rs → unrolled 0 rs ≡ all → IsRising 0 rs → i ≤ length slice → IsOver slice i x → x < length all → IsIn slice i x all d
is_in rs slice i x all d e view h le o lt =
    let rising : IsRising 0 slice = subst (IsRising 0) (sym e) h in
    let same : unrolled 0 slice ≡ all = ap (unrolled 0) e ∙ view in
    let place : i < length slice = has_run slice i x rising le o (subst (λ (l : List ValueType). x < length l) (sym same) lt) in
    let at = slice_get-get_or slice i d place in
    let ends : x < (get_or slice i d).end = o.ends (get_or slice i d) at in
    let whole : x + ((get_or slice i d).end - x) ≡ (get_or slice i d).end = omega (arith, ends) in
    let n : x ≡ x - 0 = omega arith in
    let end : (get_or slice i d).end - 0 ≡ (get_or slice i d).end = omega arith in
    let run : drop x all ≡ replicate ((get_or slice i d).end - x) (get_or slice i d).of ++ drop (x + ((get_or slice i d).end - x)) all =
    sym (ap (drop x) same) ∙ ap (λ (k : ℕ). drop k (unrolled 0 slice)) n ∙ in_run 0 slice i x (get_or slice i d) rising at o.begins ends
    ∙ ap (λ (k : ℕ). replicate ((get_or slice i d).end - x) (get_or slice i d).of ++ drop k (unrolled 0 slice)) end
    ∙ ap (λ (l : List ValueType). replicate ((get_or slice i d).end - x) (get_or slice i d).of ++ drop (get_or slice i d).end l) same
    ∙ ap (λ (n : ℕ). replicate ((get_or slice i d).end - x) (get_or slice i d).of ++ drop n all) (sym whole) in
    record { place = place; ends = ends; within = run_within all x ((get_or slice i d).end - x) (get_or slice i d).of lt run; run = run }

abbrev first : LocalRun
first = record { end = 0; of = I32 }

pub bounds-runs-over : goal.bounds-runs-over
bounds-runs-over c = (is_in c.self.inside.runs c.as_slice-runs.result.now c.over.result c.args.x c.args.self.now first c.as_slice-runs.ensures c.self.view_is c.self.invariant c.over.ensures.place c.over.ensures.over c.requires).place

pub overflow_sub-result : goal.overflow_sub-result
overflow_sub-result c = omega (arith, (is_in c.self.inside.runs c.as_slice-runs.result.now c.over.result c.args.x c.args.self.now first c.as_slice-runs.ensures c.self.view_is c.self.invariant c.over.ensures.place c.over.ensures.over c.requires).ends)

pub returns-clause-some : goal.returns-clause-some
returns-clause-some c = omega (arith, (is_in c.self.inside.runs c.as_slice-runs.result.now c.over.result c.args.x c.args.self.now first c.as_slice-runs.ensures c.self.view_is c.self.invariant c.over.ensures.place c.over.ensures.over c.requires).ends)

pub returns-clause-run : goal.returns-clause-run
returns-clause-run c = (is_in c.self.inside.runs c.as_slice-runs.result.now c.over.result c.args.x c.args.self.now first c.as_slice-runs.ensures c.self.view_is c.self.invariant c.over.ensures.place c.over.ensures.over c.requires).run

pub returns-clause-within : goal.returns-clause-within
returns-clause-within c = (is_in c.self.inside.runs c.as_slice-runs.result.now c.over.result c.args.x c.args.self.now first c.as_slice-runs.ensures c.self.view_is c.self.invariant c.over.ensures.place c.over.ensures.over c.requires).within
