-- The parts of an invocation make its answer.
use Rattle.std.proofs.Common.{◌≡◌, ◌⊎◌, inl, inr, ℕ, List, [], ◌∷◌, Option, Some, None, Result, Ok, Err, refl, sym, ap, ◌∙◌, subst}
use Rattle.wasm_syntax.specs.declared.types.Value.{Value}
use Rattle.wasm_syntax.specs.declared.types.ValueType.{ValueType}
use Rattle.wasm_syntax.specs.declared.types.ValueType.TheVariants.{I32, I64}
use Rattle.wasm_syntax.specs.Numeric.{type_of}
use Rattle.wasm_syntax.specs.declared.module.Module.{Module}
use Rattle.wasm_syntax.specs.Grammar.{Spells}
use Rattle.wasm_syntax.specs.Validity.{IsValid}
use Rattle.wasm_syntax.specs.Reduction.{Program}
use Rattle.wasm_syntax.specs.ReductionSteps.{Config}
use Rattle.wasm_syntax.specs.ReductionPrograms.{program_of}
use Rattle.wasm_store.specs.declared.instance.Instance.{Instance}
use Rattle.wasm_store.specs.declared.instance.LinkEnd.{LinkEnd}
use Rattle.wasm_store.specs.declared.instance.LinkEnd.TheVariants as linking
use Rattle.wasm_store.specs.Linking.{link_fault, IsLinked, Links}
use Rattle.wasm_flat.specs.Holds.{types_of, HasType}
use Rattle.wasm_machine.specs.Machines.{View, program_at, config_at, Takes}
use Rattle.wasm_invoke.specs.declared.ends.End.{End}
use Rattle.wasm_invoke.specs.declared.ends.End.TheVariants as ends
use Rattle.wasm_invoke.specs.declared.ends.Invoked.{Invoked}
use Rattle.wasm_invoke.specs.declared.ends.Refusal.TheVariants as refusals
use Rattle.wasm_invoke.specs.Arguments.{value_of, AllFit, values_of}
use Rattle.wasm_invoke.specs.Ends.{of_linking}
use Rattle.wasm_invoke.specs.Invoking.{nothing_offered, pages, Went, Started, begins, started, called, Goes, Invokes}
use Rattle.wasm_invoke.specs.Readied.{IsLinkedModule, EndsAnyhow, IsReadied, AsksNobody, AreGiven, AreRefused, TakesNothing, StartsAs, WentAs}
use Rattle.wasm_invoke.proofs.Lone.{asks_nobody, takes_nothing}

-- ---- linking

links_none : (o : Option LinkEnd) (m : Module) (i : Instance) → Links o m pages (Ok i) → o ≡ None
links_none None m i h = refl
links_none (Some fault) m i h = cc

links_is : (o : Option LinkEnd) (m : Module) (i : Instance) → Links o m pages (Ok i) → IsLinked m pages i
links_is None m i h = h
links_is (Some fault) m i h = cc

pub linked_by : (bytes : List ℕ) (m : Module) (i : Instance) → Spells bytes m → IsValid m → Links (link_fault nothing_offered m pages) m pages (Ok i) → IsLinkedModule bytes i
linked_by bytes m i spelled valid h = record {
  of = m;
  is = record { spelled = spelled; valid = valid; linked = links_none (link_fault nothing_offered m pages) m i h };
  linked = links_is (link_fault nothing_offered m pages) m i h;
}

links_err : (o : Option LinkEnd) (m : Module) (e : LinkEnd) → Links o m pages (Err e) → (e ≡ linking.OutOfMemory) ⊎ (o ≡ Some e)
links_err None m e h = inl h
links_err (Some fault) m e h = inr (cc)

pub unlinked_by : (bytes : List ℕ) (m : Module) (e : LinkEnd) → Spells bytes m → IsValid m → Links (link_fault nothing_offered m pages) m pages (Err e) → EndsAnyhow bytes (of_linking e)
unlinked_by bytes m e spelled valid h export words = by e (links_err (link_fault nothing_offered m pages) m e h)
  where
    by : (e : LinkEnd) → (e ≡ linking.OutOfMemory) ⊎ (link_fault nothing_offered m pages ≡ Some e) → Invokes bytes export words (Err (of_linking e))
    by linking.OutOfMemory x = tt
    by (linking.UnknownImport index) (inr is) = (m, spelled, valid, is)
    by (linking.UnknownImport index) (inl is) = cc
    by (linking.ImportType index) (inr is) = (m, spelled, valid, is)
    by (linking.ImportType index) (inl is) = cc
    by linking.PagesOverCap (inr is) = (m, spelled, valid, is)
    by linking.PagesOverCap (inl is) = cc
    by (linking.ElementOutside index) (inr is) = (m, spelled, valid, is)
    by (linking.ElementOutside index) (inl is) = cc
    by (linking.DataOutside index) (inr is) = (m, spelled, valid, is)
    by (linking.DataOutside index) (inl is) = cc

-- ---- the machine that is ready

pub ready_takes : (bytes export : List ℕ) (start function : Option ℕ) (v : View) → IsReadied bytes export start function v → TakesNothing (program_at v) start
ready_takes bytes export start function v r =
    subst (λ (p : Program). TakesNothing p start) (sym r.program) (takes_nothing r.of r.is.valid start (sym r.start_is))

pub ready_alone : (bytes export : List ℕ) (start function : Option ℕ) (v : View) → IsReadied bytes export start function v → AsksNobody (program_at v)
ready_alone bytes export start function v r = subst (λ (p : Program). AsksNobody p) (sym r.program) (asks_nobody r.of r.is.linked)

-- ---- the answer

pub refused_by : (bytes export : List ℕ) (words : List (List ℕ)) (start : Option ℕ) (x : ℕ) (v : View) (e : End) → IsReadied bytes export start (Some x) v
    → AreRefused (program_at v) x words e → Invokes bytes export words (Err e)
refused_by bytes export words start x v (ends.Refused refusals.Arguments) r h =
    (r.of, x, r.is, sym r.function_is, λ a. h a.type (subst (λ (p : Program). HasType p x a.type) (sym r.program) a.typed) a.fit)
refused_by bytes export words start x v (ends.Refused (refusals.Unread n place)) r h = absurd h
refused_by bytes export words start x v (ends.Refused refusals.Invalid) r h = absurd h
refused_by bytes export words start x v (ends.Refused (refusals.Unlinked fault)) r h = absurd h
refused_by bytes export words start x v (ends.Refused refusals.NoExport) r h = absurd h
refused_by bytes export words start x v (ends.Trapped cause) r h = absurd h
refused_by bytes export words start x v ends.FuelSpent r h = absurd h
refused_by bytes export words start x v ends.OutOfMemory r h = tt

-- values of words are of the function's types
same_type : (t : ValueType) (w : List ℕ) → type_of (value_of t w) ≡ t
same_type I32 w = refl
same_type I64 w = refl

fitting_types : (types : List ValueType) (words : List (List ℕ)) → AllFit types words → types_of (values_of types words) ≡ types
fitting_types [] [] h = refl
fitting_types [] (w ∷ ws) h = absurd h
fitting_types (t ∷ ts) [] h = absurd h
fitting_types (t ∷ ts) (w ∷ ws) h = rw (same_type t w, fitting_types ts ws h.1)

pub given_takes : (p : Program) (x : ℕ) (words : List (List ℕ)) (values : List Value) → AreGiven p x words values → Takes p x values
given_takes p x words values g = (g.type, g.typed, ap types_of g.are ∙ fitting_types g.type.parameters words g.fit)

-- what the machine does is what the module means
goes_by : (bytes export : List ℕ) (words : List (List ℕ)) (start : Option ℕ) (x : ℕ) (values : List Value) (v : View) (w : Went) → IsReadied bytes export start (Some x) v
    → AreGiven (program_at v) x words values → called (program_at v) x values (started (program_at v) start (config_at v)) ≡ w → Goes bytes export words w
goes_by bytes export words start x values v w r g e = record {
  of = r.of;
  is = r.is;
  index = x;
  export_is = sym r.function_is;
  arguments = record { type = g.type; typed = subst (λ (p : Program). HasType p x g.type) r.program g.typed; fit = g.fit };
  how =
      subst (λ (c : Config). called (program_of r.of pages) x (values_of g.type.parameters words) (started (program_of r.of pages) r.of.start c) ≡ w) r.config
      (subst (λ (o : Option ℕ). called (program_of r.of pages) x (values_of g.type.parameters words) (started (program_of r.of pages) o (config_at v)) ≡ w) r.start_is
      (subst (λ (vs : List Value). called (program_of r.of pages) x vs (started (program_of r.of pages) start (config_at v)) ≡ w) g.are
      (subst (λ (p : Program). called p x values (started p start (config_at v)) ≡ w) r.program e)));
}

invoked_by : (bytes export : List ℕ) (words : List (List ℕ)) (r : Result Invoked End) (w : Went) → Goes bytes export words w → WentAs r w → Invokes bytes export words r
invoked_by bytes export words (Ok i) w g h = subst (λ (y : Went). Goes bytes export words y) h g
invoked_by bytes export words (Err (ends.Trapped cause)) w g h = subst (λ (y : Went). Goes bytes export words y) h g
invoked_by bytes export words (Err ends.FuelSpent) w g h = subst (λ (y : Went). Goes bytes export words y) h g
invoked_by bytes export words (Err (ends.Refused f)) w g h = absurd h
invoked_by bytes export words (Err ends.OutOfMemory) w g h = absurd h

-- the start function ended it
pub ended_by : (p : Program) (x : ℕ) (values : List Value) (s : Started) (c : Config) (e : End) → StartsAs (Err e) c s → WentAs (Err e) (called p x values s)
ended_by p x values s c (ends.Trapped cause) h = ap (λ (s : Started). called p x values s) h
ended_by p x values s c ends.FuelSpent h = ap (λ (s : Started). called p x values s) h
ended_by p x values s c (ends.Refused f) h = absurd h
ended_by p x values s c ends.OutOfMemory h = absurd h

-- the call went so, from where the start function left the machine
pub went_on : (p q : Program) (x : ℕ) (values : List Value) (s : Started) (c : Config) (r : Result Invoked End) → s ≡ begins c → q ≡ p
    → WentAs r (called q x values (begins c)) → WentAs r (called p x values s)
went_on p q x values s c r begun same h =
    subst (λ (s : Started). WentAs r (called p x values s)) (sym begun)
    (subst (λ (q : Program). WentAs r (called q x values (begins c))) same h)

-- the two calls make the answer
pub answered_by : (bytes export : List ℕ) (words : List (List ℕ)) (start : Option ℕ) (x : ℕ) (values : List Value) (v : View) (r : Result Invoked End) → IsReadied bytes export start (Some x) v
    → AreGiven (program_at v) x words values → WentAs r (called (program_at v) x values (started (program_at v) start (config_at v))) → Invokes bytes export words r
answered_by bytes export words start x values v r ready g h =
    invoked_by bytes export words r (called (program_at v) x values (started (program_at v) start (config_at v)))
    (goes_by bytes export words start x values v (called (program_at v) x values (started (program_at v) start (config_at v))) ready g refl)
    h
