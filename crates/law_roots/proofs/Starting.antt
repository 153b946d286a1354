-- At the first event the root of each plug-in is to come.
use Rattle.std.proofs.Common.{◌≡◌, ◌<◌, ℕ, zero, suc, ◌+◌, Bool, true, false, ◌==◌, ◌||◌, if◌then◌else◌, List, [], ◌∷◌, ◌++◌, Some, refl, sym, ap, ◌∙◌, subst, arith, inl, inr, ⊎_elim, eq-eqb}
use Rattle.std.specs.Prelude.{Contains, slice_get}
use Rattle.std.specs.List.{list_any}
use Rattle.std.proofs.lemmas.Bool.{cases_Bool, cases_eq}
use Rattle.std.proofs.lemmas.List.Elements.{Contains-append_left, Contains-append_right, Contains-push}
use Rattle.contexts.specs.declared.parts.Plugin.{Plugin}
use Rattle.worker_model.specs.Turn.{calls_due, deadline_jobs, happening, is_of, notices_of, roots_from, start_of, start_jobs, starts_of, ticks_due, vms_in}
use Rattle.worker_model.specs.declared.types.Job.{Job}
use Rattle.worker_model.specs.declared.types.Job.TheVariants as jobs
use Rattle.law_roots.specs.Roots.{StartsHaveRoots}

some_same : {A : Type 0} (a b : A) → Some a ≡ Some b → a ≡ b
some_same a b e = cc e

here : (job : Job) (more : List Job) → Contains (job ∷ more) job
here job more = Contains-append_left (job ∷ []) more job (Contains-push [] job)

behind : (one job : Job) (more : List Job) → Contains more job → Contains (one ∷ more) job
behind one job more there = Contains-append_right (one ∷ []) more job there

abbrev HasRoot : List Job → (vm p : ℕ) → Type 0
HasRoot list vm p = (b : Bool) × Contains list (jobs.Root vm p b)

same_vm : (vm : ℕ) (p q : Plugin) → Some p ≡ Some q → q.vm ≡ vm → is_of vm p ≡ true
same_vm vm p q at is = ap (λ (x : Plugin). x.vm == vm) (some_same p q at) ∙ eq-eqb q.vm vm is

roots_in : (plugins : List Plugin) (vm place i : ℕ) (first : Bool) (q : Plugin) → slice_get plugins i ≡ Some q → q.vm ≡ vm → HasRoot (roots_from vm place first plugins) vm (place + i)
roots_in [] vm place zero first q at is = absurd (cc at)
roots_in [] vm place (suc i) first q at is = absurd (cc at)
roots_in (p ∷ ps) vm place zero first q at is =
    let place_is : place ≡ place + 0 = omega arith in (
      first,
      subst (λ (b : Bool). Contains (if b then jobs.Root vm place first ∷ roots_from vm (place + 1) false ps else roots_from vm (place + 1) first ps) (jobs.Root vm (place + 0) first)) (sym (same_vm vm p q at is))
          (subst (λ (k : ℕ). Contains (jobs.Root vm place first ∷ roots_from vm (place + 1) false ps) (jobs.Root vm k first)) place_is (here (jobs.Root vm place first) (roots_from vm (place + 1) false ps))),
    )
roots_in (p ∷ ps) vm place (suc i) first q at is =
    let place_is : place + 1 + i ≡ place + suc i = omega arith in
    elim (cases_Bool (is_of vm p)) [
      | inl own ↦
          let far = roots_in ps vm (place + 1) i false q at is in (
            far.0,
            subst (λ (b : Bool). Contains (if b then jobs.Root vm place first ∷ roots_from vm (place + 1) false ps else roots_from vm (place + 1) first ps) (jobs.Root vm (place + suc i) far.0)) (sym own)
                (behind (jobs.Root vm place first) (jobs.Root vm (place + suc i) far.0) (roots_from vm (place + 1) false ps)
                (subst (λ (k : ℕ). Contains (roots_from vm (place + 1) false ps) (jobs.Root vm k far.0)) place_is far.1)),
          )
      | inr other ↦
          let far = roots_in ps vm (place + 1) i first q at is in (
            far.0,
            subst (λ (b : Bool). Contains (if b then jobs.Root vm place first ∷ roots_from vm (place + 1) false ps else roots_from vm (place + 1) first ps) (jobs.Root vm (place + suc i) far.0)) (sym other)
                (subst (λ (k : ℕ). Contains (roots_from vm (place + 1) first ps) (jobs.Root vm k far.0)) place_is far.1),
          )
    ]

or_true : (a b : Bool) → b ≡ true → (a || b) ≡ true
or_true true b h = refl
or_true false b h = h

any_of : (plugins : List Plugin) (vm i : ℕ) (q : Plugin) → slice_get plugins i ≡ Some q → q.vm ≡ vm → list_any (is_of vm) plugins ≡ true
any_of [] vm zero q at is = absurd (cc at)
any_of [] vm (suc i) q at is = absurd (cc at)
any_of (p ∷ ps) vm zero q at is = ap (λ (b : Bool). b || list_any (is_of vm) ps) (same_vm vm p q at is)
any_of (p ∷ ps) vm (suc i) q at is = or_true (is_of vm p) (list_any (is_of vm) ps) (any_of ps vm i q at is)

start_has : (plugins : List Plugin) (vm i : ℕ) (q : Plugin) → slice_get plugins i ≡ Some q → q.vm ≡ vm → HasRoot (start_of vm plugins) vm i
start_has plugins vm i q at is =
    let far = roots_in plugins vm 0 i true q at is in
    let place_is : 0 + i ≡ i = omega arith in (
      far.0,
      subst (λ (b : Bool). Contains (if b then jobs.Begin vm ∷ roots_from vm 0 true plugins else []) (jobs.Root vm i far.0)) (sym (any_of plugins vm i q at is))
          (behind (jobs.Begin vm) (jobs.Root vm i far.0) (roots_from vm 0 true plugins)
          (subst (λ (k : ℕ). Contains (roots_from vm 0 true plugins) (jobs.Root vm k far.0)) place_is far.1)),
    )

less_of : (v n : ℕ) → v < suc n → (v ≡ n → ⊥) → v < n
less_of v n low apart = omega (arith, low, apart)

starts_have : (n : ℕ) (plugins : List Plugin) (vm i : ℕ) → vm < n → HasRoot (start_of vm plugins) vm i → HasRoot (starts_of n plugins) vm i
starts_have zero plugins vm i low has = absurd (omega (arith, low))
starts_have (suc n) plugins vm i low has =
    ⊎_elim
    (λ (same : vm ≡ n). (has.0, Contains-append_right (starts_of n plugins) (start_of n plugins) (jobs.Root vm i has.0) (subst (λ (k : ℕ). Contains (start_of k plugins) (jobs.Root vm i has.0)) same has.1)))
    (λ (apart : vm ≡ n → ⊥).
    let far = starts_have n plugins vm i (less_of vm n low apart) has in
    (far.0, Contains-append_left (starts_of n plugins) (start_of n plugins) (jobs.Root vm i far.0) far.1))
    (cases_eq vm n)

pub starts_have_roots : StartsHaveRoots
starts_have_roots plan what room p q begun at low =
    let plugins = room.hub.contexts.plugins in
    let far = starts_have (vms_in room) plugins q.vm p low (start_has plugins q.vm p q at refl) in
    let all : List Job = ticks_due room ++ (deadline_jobs plan ++ (calls_due room ++ (happening what room ++ notices_of plan (vms_in room)))) in (
      far.0,
      Contains-append_left (start_jobs room) all (jobs.Root q.vm p far.0)
          (subst (λ (b : Bool). Contains (if b then [] else starts_of (vms_in room) plugins) (jobs.Root q.vm p far.0)) (sym begun) far.1),
    )
