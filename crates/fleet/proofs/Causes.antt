-- Why a fleet ended as it did.
use Rattle.std.proofs.Common.{◌≡◌, ◌≢◌, ◌∙◌, ◌⊎◌, ◌&&◌, ◌||◌, not, ℕ, Bool, true, false, if◌then◌else◌, List, [], ◌∷◌, All, Option, None, Some, refl, sym, inl, inr}
use Rattle.filter_host.specs.Called.{Calling}
use Rattle.std.specs.List.{list_any}
use Rattle.gate_io.specs.Nature.{Nature}
use Rattle.gate_io.specs.declared.passed.Passed.{Passed}
use Rattle.store_model.specs.Made.{Made}
use Rattle.worker_model.specs.State.{Standing}
use Rattle.worker_model.specs.declared.types.Turn.{Turn}
use Rattle.worker_model.specs.declared.types.Turn.TheVariants.{Went, Stopped, WorldFault, OutOfMemory}
use Rattle.fleet.specs.Fleet.{Each, HasWorked}
use Rattle.fleet.specs.Lives.{Cut, Last, OneLife, is_memory}
use Rattle.fleet.specs.Run.{EndExamples, end_of, has_failed, is_clean, is_fault, is_stopped, ran_short}
use Rattle.fleet.specs.declared.post.Post.{Post}
use Rattle.fleet.specs.declared.run.FleetEnd.TheVariants as fleet_ends
use Rattle.fleet.proofs.Eaches.{Every, all_of}

or_false : (a b : Bool) → (a || b) ≡ false → (a ≡ false) × (b ≡ false)
or_false true b h = absurd (cc h)
or_false false b h = (refl, h)

-- ---- lives do not end with a turn after which a worker goes on

no_memory_went : (end : Turn) → end ≡ OutOfMemory → end ≢ Went
no_memory_went end is went = absurd (let e : OutOfMemory ≡ Went = sym is ∙ went in cc e)

module _ {H S : Type 0} (calling : Calling H) (performs : S → List Made → S → Type 0) (first : Standing H) (s : S) (old : Option (List Passed)) (t : S) (new : Option (List Passed)) where
  one_ended : (end : Turn) (took : Bool) → OneLife calling performs first s old end took t new → end ≢ Went
  one_ended end took (inl lived) = lived.life.ended
  one_ended end took (inr none) = no_memory_went end none.end_is

  last_ended : (end : Turn) → Last calling performs first s old end t new ⊎ Cut calling performs first s old end t new → end ≢ Went
  last_ended end (inl last) = one_ended end last.took last.once
  last_ended end (inr cut) = no_memory_went end cut.end_is

-- ---- where neither a world failed nor memory ran out

clean_end : (end : Turn) (again : Bool) → end ≢ Went → is_fault end ≡ false → (is_memory end || again) ≡ false → (is_stopped end && not again) ≡ true
clean_end Went again ended fault short = absurd (ended refl)
clean_end Stopped true ended fault short = absurd (cc short)
clean_end Stopped false ended fault short = refl
clean_end WorldFault again ended fault short = absurd (cc fault)
clean_end OutOfMemory again ended fault short = absurd (cc short)

none_so : (failed short : Bool) → (if failed then Some fleet_ends.WorldFault else if short then Some fleet_ends.OutOfMemory else None) ≡ None → (failed ≡ false) × (short ≡ false)
none_so true short h = absurd (cc h)
none_so false true h = absurd (cc h)
none_so false false h = (refl, refl)

fault_so : (failed short : Bool) → (if failed then Some fleet_ends.WorldFault else if short then Some fleet_ends.OutOfMemory else None) ≡ Some fleet_ends.WorldFault → failed ≡ true
fault_so true short h = refl
fault_so false true h = absurd (cc h)
fault_so false false h = absurd (cc h)

-- where a fault was told, a world failed
pub some_failed : {W : Type 0} (posts : List (Post W)) → end_of posts ≡ Some fleet_ends.WorldFault → list_any has_failed posts ≡ true
some_failed posts h = fault_so (list_any has_failed posts) (list_any ran_short posts) h

module _ {W H : Type 0} (trace_of : W → Option (List Passed)) (nature_of : W → Nature) (faults_of : W → ℕ) (calling : Calling H) (first : ℕ → List ℕ → Standing H) where
  one_clean : (p q : Post W) → HasWorked trace_of nature_of faults_of calling first p q → has_failed q ≡ false → ran_short q ≡ false → is_clean q ≡ true
  one_clean p q h fault short = clean_end q.end q.again (last_ended calling _ _ _ _ _ _ q.end h.lives.last) fault short

  every_clean : (before after : List (Post W)) → Each (HasWorked trace_of nature_of faults_of calling first) before after → list_any has_failed after ≡ false → list_any ran_short after ≡ false
      → Every (λ p. is_clean p ≡ true) after
  every_clean [] [] e fault short = tt
  every_clean [] (q ∷ qs) e fault short = absurd e
  every_clean (p ∷ ps) [] e fault short = absurd e
  every_clean (p ∷ ps) (q ∷ qs) e fault short =
      let f = or_false (has_failed q) (list_any has_failed qs) fault in
      let m = or_false (ran_short q) (list_any ran_short qs) short in
      (one_clean p q e.0 f.0 m.0, every_clean ps qs e.1 f.1 m.1)

  pub all_clean : (before after : List (Post W)) → Each (HasWorked trace_of nature_of faults_of calling first) before after → end_of after ≡ None → All (λ p. is_clean p ≡ true) after
  all_clean before after e none =
      let so = none_so (list_any has_failed after) (list_any ran_short after) none in
      all_of (λ p. is_clean p ≡ true) after (every_clean before after e so.0 so.1)

-- ---- worked examples

pub examples : (W : Type 0) → EndExamples W
examples W = record { well = λ w v s t. refl; last_life = λ w v s t. refl; life_before = λ w v s t. refl; fault_first = λ w v s t. refl }
