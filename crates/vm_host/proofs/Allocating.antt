-- What an allocation asks of the guest, and what it leaves.
use Rattle.std.proofs.Common.{◌≡◌, ◌≤◌, ◌<◌, ℕ, zero, suc, List, [], ◌∷◌, length, Option, None, Some, refl, sym, ap, ◌∙◌, subst, arith}
use Rattle.std.specs.Prelude.{slice_get}
use Rattle.wasm_syntax.specs.declared.types.Value.{Value}
use Rattle.wasm_syntax.specs.declared.types.Value.TheVariants.{I32, I64}
use Rattle.wasm_syntax.specs.declared.types.ValueType.{ValueType}
use Rattle.wasm_syntax.specs.declared.types.ValueType.TheVariants as type
use Rattle.wasm_syntax.specs.declared.types.FunctionType.{FunctionType}
use Rattle.wasm_syntax.specs.Reduction.{Function, imported, Program}
use Rattle.wasm_syntax.specs.ReductionSteps.{Calling, calling, invoked, Config, invoked_config, answered_config}
use Rattle.wasm_syntax.specs.ReductionRuns.{Stopped, run, enough, Ran, ran, run_hosted}
use Rattle.wasm_syntax.specs.Typing.{Is}
use Rattle.wasm_syntax.specs.Numeric.{type_of}
use Rattle.wasm_machine.specs.Machines.{Takes, results_in, results_of, CanAnswer, asking, begun}
use Rattle.wasm_machine.specs.declared.machine.Pending.{Pending}
use Rattle.wasm_flat.specs.Sound.{IsAnswer}
use Rattle.abi_types.specs.declared.guest.Closing.{Closing}
use Rattle.vm_host.specs.Seeing.{AreClosings, Answers}
use Rattle.vm_host.specs.Numbers.{IsNumber}
use Rattle.abi_types.specs.GuestAt.{GuestAt, closed_host, invoked_at, alloced, allocating, allocating_by}
use Rattle.wasm_syntax.specs.ReductionLaws.{StandsOn, LeavesBelow}
use Rattle.wasm_syntax.proofs.BelowLaws.{calls_below_stay, answers_keep_depth}

some_is : {A : Type 0} {a b : A} → Some a ≡ Some b → a ≡ b
some_is same = cc

none_is : {A : Type 0} {a : A} → None ≡ Some a → ⊥
none_is same = cc

-- a function that is there is entered on top
stands_by : (x : ℕ) (o : Option Function) (F : Function) → o ≡ Some F → (args : List Value) (c : Config) → StandsOn c.calls (invoked_config x o args c)
stands_by x None F is args c = absurd (none_is is)
stands_by x (Some f) F is args c = (calling [] (invoked x f args), refl)

pub stands_invoked : (p : Program) (x : ℕ) (args : List Value) (c : Config) → Takes p x args → StandsOn c.calls (invoked_config x (slice_get p.functions x) args c)
stands_invoked p x args c (t, (f, is, same), types) = stands_by x (slice_get p.functions x) f is args c

-- where a member is there its place is inside
pub inside_of : {A : Type 0} (xs : List A) (i : ℕ) (x : A) → slice_get xs i ≡ Some x → i < length xs
inside_of [] i x is = absurd (none_is is)
inside_of (y ∷ xs) zero x is = omega arith
inside_of (y ∷ xs) (suc i) x is = let h : i < length xs = inside_of xs i x is in omega (arith, h)

-- what fits goes on to fit
pub moved_fit : (p q : Program) (closed now : List Closing) → q ≡ p → now ≡ closed → AreClosings p closed → AreClosings q now
moved_fit p q closed now same kept fit = subst (λ (r : Program). AreClosings r now) (sym same) (subst (λ (k : List Closing). AreClosings p k) (sym kept) fit)

module _ (p : Program) (closed : List Closing) (fit : AreClosings p closed) (x : ℕ) (t : FunctionType) (asked : Is p.functions x (imported t)) where
  pub closing_inside : x < length closed
  closing_inside = let k = fit x t asked in inside_of closed x k.0 k.1

  results_are : results_of p x ≡ t.results
  results_are = ap results_in asked

  pub closing_fits : (k : Closing) → slice_get closed x ≡ Some k → Answers k (results_of p x)
  closing_fits k is =
      let h = fit x t asked in
      let same : h.0 ≡ k = some_is (sym h.1 ∙ is) in
      subst (λ (j : Closing). Answers j (results_of p x)) same (subst (λ (ts : List ValueType). Answers h.0 ts) (sym results_are) h.2)

-- the host may answer so
pub can_answer : (p q : Program) (x f : ℕ) (v : Option Value) (cs ds ps : List Pending) → q ≡ p → cs ≡ asking (Some x) ds → ds ≡ begun f ps → IsAnswer (results_of p x) v → CanAnswer q cs v
can_answer p q x f v cs ds ps same is began h =
    subst (λ (r : Program). CanAnswer r cs v) (sym same) (subst (λ (ks : List Pending). CanAnswer p ks v) (sym (is ∙ ap (asking (Some x)) began)) h)

-- an answer leaves no more to run
pub smaller : (v : Option Value) (m k : ℕ) (d e : Config) → e ≡ answered_config v d → enough m d < k → enough m e < k
smaller v m k d e is less = subst (λ n. n < k) (sym (ap (enough m) is ∙ answers_keep_depth v m d)) less

pub no_more : (v : Option Value) (m : ℕ) (d e : Config) → e ≡ answered_config v d → enough m e ≤ enough m d
no_more v m d e is = omega (arith, ap (enough m) is ∙ answers_keep_depth v m d)

-- a run of the same program
pub run_of : (p q : Program) (n : ℕ) (c : Config) (s : Stopped) → q ≡ p → run q n c ≡ s → run p n c ≡ s
run_of p q n c s same is = subst (λ (r : Program). run r n c ≡ s) same is

-- what stands below where it stops
pub kept_by : (p : Program) (below : List Calling) (n : ℕ) (c : Config) (s : Stopped) → StandsOn below c → run p n c ≡ s → LeavesBelow below s
kept_by p below n c s stands is = subst (λ (x : Stopped). LeavesBelow below x) is (calls_below_stay p below n c stands)

-- how an allocation ends
pub allocated : (g : GuestAt) (f len : ℕ) → g.allocator ≡ Some f → (s : Stopped) → run_hosted (closed_host g.closed) g.program g.fuel tt (invoked_at f (I32 len ∷ []) g) ≡ ran s tt → allocating len g ≡ alloced g s
allocated g f len some s is = ap (λ o. allocating_by o len g) some ∙ ap (λ (x : Ran (Unit {0})). alloced g x.stopped) is

number_by : (v : Value) → type_of v ≡ type.I32 → IsNumber (Some v)
number_by (I32 n) is = tt
number_by (I64 n) is = absurd (cc)

number_in : (v : Option Value) → IsAnswer (type.I32 ∷ []) v → IsNumber v
number_in None is = absurd is
number_in (Some v) is = number_by v is

-- the allocator gives a number
pub gives_number : (p : Program) (f : ℕ) (v : Option Value) → results_of p f ≡ type.I32 ∷ [] → IsAnswer (results_of p f) v → IsNumber v
gives_number p f v is h = number_in v (subst (λ (ts : List ValueType). IsAnswer ts v) is h)
