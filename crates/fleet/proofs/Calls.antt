-- The calls of lives.
use Rattle.std.proofs.Common.{◌≡◌, ℕ, Bool, zero, suc, List, [], ◌++◌, Option, sym, subst, inl, inr, ◌⊎◌}
use Rattle.filter_host.specs.Called.{Calling}
use Rattle.fleet.specs.Lives.{Turns, Life, OneLife, Cut, Early, Last, Lives}
use Rattle.fleet.specs.Made.{made_in_turn, made_in_turns, made_in_life, made_in_one, made_in_early, made_in_last, made_in}
use Rattle.gate_io.specs.declared.passed.Passed.{Passed}
use Rattle.store_model.specs.Made.{Made}
use Rattle.worker_model.specs.State.{Standing}
use Rattle.streams_model.specs.Turned.{Turned}
use Rattle.worker_model.specs.declared.types.Turn.{Turn}
use Rattle.worker_model.specs.declared.types.Turn.TheVariants.{Went, Stopped, WorldFault, OutOfMemory}

module _ {H S : Type 0} (calling : Calling H) (performs : S → List Made → S → Type 0) (nothing : (s : S) → performs s [] s) (joined : (s t u : S) (a b : List Made) → performs s a t → performs t b u → performs s (a ++ b) u) where
  still : (s t : S) → t ≡ s → performs s [] t
  still s t e = subst (λ (x : S). performs s [] x) (sym e) (nothing s)

  turned_made : (end : Turn) (s : S) (old : Option (List Passed)) (from to : Standing H) (t : S) (new : Option (List Passed)) → (h : Turned calling performs s old from end to t new)
      → performs s (made_in_turn calling performs end s old from to t new h) t
  turned_made Went s old from to t new h = h.goes.performed
  turned_made Stopped s old from to t new h = h.goes.performed
  turned_made WorldFault s old from to t new h = still s t h.shared
  turned_made OutOfMemory s old from to t new (inl a) = still s t a.shared
  turned_made OutOfMemory s old from to t new (inr (inl u)) = u.goes.performed
  turned_made OutOfMemory s old from to t new (inr (inr p)) = p.goes.performed

  turns_made : (n : ℕ) (s : S) (old : Option (List Passed)) (from to : Standing H) (t : S) (new : Option (List Passed)) → (h : Turns calling performs n s old from to t new)
      → performs s (made_in_turns calling performs n s old from to t new h) t
  turns_made zero s old from to t new h = still s t h.1
  turns_made (suc n) s old from to t new h = joined s h.1 t _ _ (turns_made n s old from h.0 h.1 h.2 h.3) (turned_made Went h.1 h.2 h.0 to t new h.4)

  life_made : (s : S) (old : Option (List Passed)) (from : Standing H) (end : Turn) (to : Standing H) (t : S) (new : Option (List Passed)) → (h : Life calling performs s old from end to t new)
      → performs s (made_in_life calling performs s old from end to t new h) t
  life_made s old from end to t new h = joined s h.at t _ _ (turns_made h.count s old from h.before h.at h.mid h.went) (turned_made end h.at h.mid h.before to t new h.last)

  one_made : (first : Standing H) (s : S) (old : Option (List Passed)) (end : Turn) (took : Bool) (t : S) (new : Option (List Passed)) → (h : OneLife calling performs first s old end took t new)
      → performs s (made_in_one calling performs first s old end took t new h) t
  one_made first s old end took t new (inl l) = life_made s old first end l.after t new l.life
  one_made first s old end took t new (inr e) = still s t e.shared

  early_made : (first : Standing H) (n : ℕ) (s : S) (old : Option (List Passed)) (t : S) (new : Option (List Passed)) → (h : Early calling performs first n s old t new)
      → performs s (made_in_early calling performs first n s old t new h) t
  early_made first zero s old t new h = still s t h.0
  early_made first (suc n) s old t new h = joined s h.0 t _ _ (early_made first n s old h.0 h.1 h.2) (life_made h.0 h.1 first OutOfMemory h.3.lived.after t h.3.left h.3.lived.life)

  last_made : (first : Standing H) (s : S) (old : Option (List Passed)) (end : Turn) (t : S) (new : Option (List Passed)) → (h : Last calling performs first s old end t new ⊎ Cut calling performs first s old end t new)
      → performs s (made_in_last calling performs first s old end t new h) t
  last_made first s old end t new (inl l) = one_made first s old end l.took t new l.once
  last_made first s old end t new (inr k) = life_made s old first OutOfMemory k.lived.after t k.left k.lived.life

  pub lives_made : (first : Standing H) (s : S) (old : Option (List Passed)) (end : Turn) (again : Bool) (t : S) (new : Option (List Passed)) → (h : Lives calling performs first s old end again t new)
      → performs s (made_in calling performs first s old end again t new h) t
  lives_made first s old end again t new h = joined s h.at t _ _ (early_made first h.count s old h.at h.mid h.early) (last_made first h.at h.mid end t new h.last)
