-- How lives end.
use Rattle.std.proofs.Common.{◌≡◌, ◌≤◌, ◌∙◌, ◌&&◌, ℕ, Bool, true, false, suc, List, Option, refl, sym, subst, inl, inr, true≢false}
use Rattle.filter_host.specs.Called.{Calling}
use Rattle.fleet.specs.Closing.{Closes, ClosesAll}
use Rattle.fleet.specs.Lives.{Early, Lived, Lives, OneLife, is_memory}
use Rattle.gate_io.specs.declared.passed.Passed.{Passed}
use Rattle.store_model.specs.Made.{Made}
use Rattle.worker_model.specs.State.{Standing}
use Rattle.worker_model.specs.declared.types.Turn.{Turn}
use Rattle.worker_model.specs.declared.types.Turn.TheVariants.{Went, Stopped, WorldFault, OutOfMemory}

memory_is : (end : Turn) → is_memory end ≡ true → end ≡ OutOfMemory
memory_is Went h = absurd (cc h)
memory_is Stopped h = absurd (cc h)
memory_is WorldFault h = absurd (cc h)
memory_is OutOfMemory h = refl

both : (a b : Bool) → (a && b) ≡ true → (a ≡ true) × (b ≡ true)
both true b h = (refl, h)
both false b h = absurd (cc h)

module _ {H S : Type 0} (calling : Calling H) (performs : S → List Made → S → Type 0) (first : Standing H) where
  by_end : (end : Turn) (took : Bool) (s : S) (old : Option (List Passed)) (t : S) (left : Option (List Passed)) → end ≡ OutOfMemory → took ≡ true
      → OneLife calling performs first s old end took t left → Lived calling performs first s old OutOfMemory true t left
  by_end end took s old t left is took_it (inl lived) =
      subst (λ (e : Turn). Lived calling performs first s old e true t left) is (subst (λ (b : Bool). Lived calling performs first s old end b t left) took_it lived)
  by_end end took s old t left is took_it (inr none) = absurd (true≢false (sym took_it ∙ none.took_is))

  -- it took an event and ended for want of memory
  lived_of : (end : Turn) (took : Bool) (s : S) (old : Option (List Passed)) (t : S) (left : Option (List Passed)) → (is_memory end && took) ≡ true
      → OneLife calling performs first s old end took t left → Lived calling performs first s old OutOfMemory true t left
  lived_of end took s old t left is one = let two = both (is_memory end) took is in by_end end took s old t left (memory_is end two.0) two.1 one

  pub one_more_ended : (n : ℕ) (s : S) (old : Option (List Passed)) (at : S) (mid : Option (List Passed)) (end : Turn) (took : Bool) (t : S) (left new : Option (List Passed))
      → Early calling performs first n s old at mid → (is_memory end && took) ≡ true → OneLife calling performs first at mid end took t left → ClosesAll left new
      → Early calling performs first (suc n) s old t new
  one_more_ended n s old at mid end took t left new early is one closes =
      (at, mid, early, record { left = left; lived = lived_of end took at mid t left is one; closes = closes })

  pub lives_last : (n : ℕ) (s : S) (old : Option (List Passed)) (at : S) (mid : Option (List Passed)) (end : Turn) (took again : Bool) (t : S) (new : Option (List Passed))
      → (again ≡ false → n ≡ 0) → (again ≡ true → 1 ≤ n) → Early calling performs first n s old at mid → (is_memory end && took) ≡ false → OneLife calling performs first at mid end took t new
      → Lives calling performs first s old end again t new
  lives_last n s old at mid end took again t new once more early is one =
      record { count = n; at = at; mid = mid; early = early; once = once; more = λ e. inl (more e); last = inl (record { took = took; once = one; none = is }) }

  pub lives_cut : (n : ℕ) (s : S) (old : Option (List Passed)) (at : S) (mid : Option (List Passed)) (end : Turn) (took : Bool) (t : S) (left new : Option (List Passed))
      → Early calling performs first n s old at mid → (is_memory end && took) ≡ true → OneLife calling performs first at mid end took t left → Closes left new
      → Lives calling performs first s old OutOfMemory true t new
  lives_cut n s old at mid end took t left new early is one closes =
      record { count = n; at = at; mid = mid; early = early; once = λ e. absurd (true≢false e); more = λ e. inr refl; last = inr (record { end_is = refl; left = left; lived = lived_of end took at mid t left is one; closes = closes }) }
