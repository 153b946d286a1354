-- Where a worker ended with Stop and none of its lives ended for want of memory, it had one.
use Rattle.std.proofs.Common.{◌≡◌, ◌∙◌, ℕ, zero, suc, Bool, false, List, [], ◌∷◌, ◌++◌, Option, arith, inl, inr, ◌⊎◌, refl, sym, subst}
use Rattle.filter_host.specs.Called.{Calling}
use Rattle.fleet.specs.Lives.{Cut, Early, Last, Life, Lives, OneLife}
use Rattle.fleet.specs.Made.{events_in_last, events_in_life, events_in_one, events_of_each, events_of_early, made_in, made_in_early, made_in_last, made_in_life, made_in_one, standing_at_end, standing_of_last, standing_of_one}
use Rattle.gate_io.specs.declared.event.Event.{Event}
use Rattle.gate_io.specs.declared.passed.Passed.{Passed}
use Rattle.store_model.specs.Made.{Made}
use Rattle.worker_model.specs.State.{Standing}
use Rattle.worker_model.specs.declared.types.Turn.{Turn}
use Rattle.worker_model.specs.declared.types.Turn.TheVariants.{OutOfMemory, Stopped}

not_both : (end : Turn) → end ≡ Stopped → end ≡ OutOfMemory → ⊥
not_both end stopped short = let e : Stopped ≡ OutOfMemory = sym stopped ∙ short in cc e

module _ {H S : Type 0} (calling : Calling H) (performs : S → List Made → S → Type 0) (first : Standing H) where
  -- one life, with its events and its calls
  pub record OneLived (s : S) (old : Option (List Passed)) (end : Turn) (to : Standing H) (t : S) (new : Option (List Passed)) (lives : List (List Event)) (calls : List Made) : Type 0 where
    pub life : Life calling performs s old first end to t new
    pub events_are : events_in_life calling performs s old first end to t new life ∷ [] ≡ lives
    pub calls_are : made_in_life calling performs s old first end to t new life ≡ calls

  none_early : (n : ℕ) (s : S) (old : Option (List Passed)) (at : S) (mid : Option (List Passed)) → n ≡ 0 → (h : Early calling performs first n s old at mid)
      → (at ≡ s) × (mid ≡ old) × (events_of_early calling performs first n s old at mid h ≡ []) × (made_in_early calling performs first n s old at mid h ≡ [])
  none_early zero s old at mid e h = (h.0, h.1, refl, refl)
  none_early (suc n) s old at mid e h = absurd (omega (arith, e))

  by_one : (s : S) (old : Option (List Passed)) (end : Turn) (took : Bool) (t : S) (new : Option (List Passed)) → end ≡ Stopped → (h : OneLife calling performs first s old end took t new)
      → OneLived s old end (standing_of_one calling performs first s old end took t new h) t new (events_in_one calling performs first s old end took t new h ∷ []) (made_in_one calling performs first s old end took t new h)
  by_one s old end took t new stopped (inl l) = record { life = l.life; events_are = refl; calls_are = refl }
  by_one s old end took t new stopped (inr e) = absurd (not_both end stopped e.end_is)

  by_last : (s : S) (old : Option (List Passed)) (end : Turn) (t : S) (new : Option (List Passed)) → end ≡ Stopped → (h : Last calling performs first s old end t new ⊎ Cut calling performs first s old end t new)
      → OneLived s old end (standing_of_last calling performs first s old end t new h) t new (events_in_last calling performs first s old end t new h ∷ []) (made_in_last calling performs first s old end t new h)
  by_last s old end t new stopped (inl l) = by_one s old end l.took t new stopped l.once
  by_last s old end t new stopped (inr k) = absurd (not_both end stopped k.end_is)

  pub one_life : (s : S) (old : Option (List Passed)) (end : Turn) (again : Bool) (t : S) (new : Option (List Passed)) → end ≡ Stopped → again ≡ false → (lives : Lives calling performs first s old end again t new)
      → OneLived s old end (standing_at_end calling performs first s old end again t new lives) t new (events_of_each calling performs first s old end again t new lives)
      (made_in calling performs first s old end again t new lives)
  one_life s old end again t new stopped one lives =
      let none = none_early lives.count s old lives.at lives.mid (lives.once one) lives.early in
      subst (λ (x : S × Option (List Passed) × List (List Event) × List Made). OneLived x.0 x.1 end (standing_at_end calling performs first s old end again t new lives) t new
      (x.2 ++ events_in_last calling performs first lives.at lives.mid end t new lives.last ∷ []) (x.3 ++ made_in_last calling performs first lives.at lives.mid end t new lives.last)) (λ i. (none.0 i, none.1 i, sym none.2 i, sym none.3 i))
      (by_last lives.at lives.mid end t new stopped lives.last)
