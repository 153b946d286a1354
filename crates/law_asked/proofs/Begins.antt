-- What is to be done after the head of a request.
use Rattle.std.proofs.Common.{◌≡◌, ◌<◌, ℕ, zero, suc, ◌+◌, Bool, true, false, List, [], ◌∷◌, ◌++◌, length, ap, ◌∙◌, sym, refl, subst, arith}
use Rattle.std.specs.Prelude.{◌≢◌, ◌==◌, slice_get, Option, Some}
use Rattle.std.proofs.lemmas.Bool.{eqb-true, eqb-false}
use Rattle.std.proofs.lemmas.List.{length-append}
use Rattle.worker_model.specs.declared.types.Job.{Job}
use Rattle.worker_model.specs.declared.types.Job.TheVariants as jobs
use Rattle.worker_model.specs.Steps.{exchange_jobs, create_jobs, put_jobs, refuse_jobs}
use Rattle.law_asked.specs.Begins.{ExchangesBeginInOrder}

in_front : (a b : List Job) (k : ℕ) → k < length a → slice_get (a ++ b) k ≡ slice_get a k
in_front [] b k less = absurd (omega (arith, less))
in_front (x ∷ a) b zero less = refl
in_front (x ∷ a) b (suc k) less = in_front a b k (omega (arith, less))

behind_all : (a : List Job) (x : Job) (b : List Job) → slice_get (a ++ x ∷ b) (length a) ≡ Some x
behind_all [] x b = refl
behind_all (y ∷ a) x b = behind_all a x b

creates_length : (number m : ℕ) → length (create_jobs number m) ≡ m
creates_length number zero = refl
creates_length number (suc m) =
    let more : length (create_jobs number m ++ jobs.Create number m ∷ []) ≡ length (create_jobs number m) + 1 = length-append (create_jobs number m) (jobs.Create number m ∷ []) in
    let before : length (create_jobs number m) ≡ m = creates_length number m in
    omega (arith, more, before)

behind_so_many : (a : List Job) (x : Job) (b : List Job) (k : ℕ) → length a ≡ k → slice_get (a ++ x ∷ b) k ≡ Some x
behind_so_many a x b k is = subst (λ (j : ℕ). slice_get (a ++ x ∷ b) j ≡ Some x) is (behind_all a x b)

creates_at : (number m k : ℕ) → k < m → slice_get (create_jobs number m) k ≡ Some (jobs.Create number k)
creates_at number zero k less = absurd (omega (arith, less))
creates_at number (suc m) k less = by_last (k == m) refl (λ earlier. creates_at number m k earlier)
  where
    by_last : (b : Bool) → (k == m) ≡ b → (k < m → slice_get (create_jobs number m) k ≡ Some (jobs.Create number k))
        → slice_get (create_jobs number m ++ jobs.Create number m ∷ []) k ≡ Some (jobs.Create number k)
    by_last true is before =
        let same : k ≡ m = eqb-true k m is in
        subst (λ (j : ℕ). slice_get (create_jobs number m ++ jobs.Create number m ∷ []) j ≡ Some (jobs.Create number j)) (sym same)
        (behind_so_many (create_jobs number m) (jobs.Create number m) [] m (creates_length number m))
    by_last false is before =
        let length_is : length (create_jobs number m) ≡ m = creates_length number m in
        let apart : k ≢ m = eqb-false k m is in
        in_front (create_jobs number m) (jobs.Create number m ∷ []) k (omega (arith, apart, less, length_is)) ∙ before (omega (arith, apart, less))

pub begin_in_order : ExchangesBeginInOrder
begin_in_order r status x =
    let first : List Job = create_jobs r.line (length x.filters) in
    let rest : List Job = put_jobs r.line false r.batch ++ refuse_jobs r.line status in
    let length_is : length first ≡ length x.filters = creates_length r.line (length x.filters) in
    record {
      refused = λ number is. ap (exchange_jobs r status x) is;
      creates = λ k is less.
          ap (λ (o : Option ℕ). slice_get (exchange_jobs r status x o) k) is
          ∙ (in_front first (jobs.Enter r.line ∷ rest) k (omega (arith, less, length_is)) ∙ creates_at r.line (length x.filters) k less);
      enters = λ is.
          ap (λ (o : Option ℕ). slice_get (exchange_jobs r status x o) (length x.filters)) is ∙ behind_so_many first (jobs.Enter r.line) rest (length x.filters) length_is;
    }
