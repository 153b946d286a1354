-- Places in the lists of a worker.
use Rattle.std.proofs.Common.{◌≡◌, ◌≤◌, ℕ, ◌+◌, suc, List, [], ◌∷◌, length, ◌++◌, Bool, true, false, ap, sym, ◌∙◌, arith, Option, Some, None}
use Rattle.std.proofs.lemmas.List.{append-nil}
use Rattle.std.specs.Prelude.{not, cond, nat_lt}
use Rattle.exchange.specs.declared.types.Filter.{Filter}
use Rattle.worker_model.specs.declared.types.Line.{Line}
use Rattle.worker_model.specs.Steps.{place_for, filters_by}

pub place_within : (number : ℕ) (lines : List Line) → place_for number lines ≤ length lines
place_within number [] = omega arith
place_within number (line ∷ lines) = by (place_within number lines) (not (nat_lt number line.number))
  where
    by : place_for number lines ≤ length lines → (b : Bool) → cond b (1 + place_for number lines) 0 ≤ suc (length lines)
    by later true = omega arith
    by later false = omega arith

pub filters_none : (filters : List Filter) (o : Option Filter) → o ≡ None → filters ≡ filters ++ filters_by o
filters_none filters o is = sym (ap (λ (x : Option Filter). filters ++ filters_by x) is ∙ append-nil filters)

pub filters_some : (filters more : List Filter) (o : Option Filter) (f : Filter) → o ≡ Some f → more ≡ filters ++ f ∷ [] → more ≡ filters ++ filters_by o
filters_some filters more o f is more_is = more_is ∙ sym (ap (λ (x : Option Filter). filters ++ filters_by x) is)
