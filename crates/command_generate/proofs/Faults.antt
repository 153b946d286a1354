-- No world of the generator fails.
use Rattle.std.proofs.Common.{◌≡◌, ◌^◌, ◌<◌, ◌-◌, ℕ, List, [], ◌∷◌, ◌++◌, IsTrue, map, reverse, Option, Some, refl, sym, subst, inl, inr, arith}
use Rattle.filter_host.specs.Called.{Calling}
use Rattle.std.proofs.lemmas.Grind.{reverse_onto}
use Rattle.fleet.specs.Fleet.{Each, HasWorked}
use Rattle.fleet.specs.Moves.{world_in}
use Rattle.fleet.specs.Run.{AnyRose, EndedBy}
use Rattle.fleet.specs.declared.run.FleetEnd.TheVariants.{WorldFault}
use Rattle.fleet.specs.declared.post.Post.{Post}
use Rattle.gate_config.specs.declared.config.Config.{Config}
use Rattle.gate_io.specs.MemoryWorld.{MemoryWorld, nature_of, no_fault_counted}
use Rattle.gate_io.specs.Nature.{Nature}
use Rattle.gate_io.specs.declared.passed.Passed.{Passed}
use Rattle.worker_model.specs.State.{Standing}
use Rattle.command_generate.specs.Setting.{worlds_of}

abbrev pub faults_of : MemoryWorld → ℕ
faults_of w = w.faults

abbrev pub trace_of : MemoryWorld → Option (List Passed)
trace_of w = Some w.trace

-- its nature says that it fails no call
abbrev IsSound : MemoryWorld → Type 0
IsSound w = IsTrue (nature_of w).fails_no_call

abbrev AreSound : List MemoryWorld → Type 0
AreSound [] = Unit {0}
AreSound (w ∷ ws) = IsSound w × AreSound ws

append : (xs ys : List MemoryWorld) → AreSound xs → AreSound ys → AreSound (xs ++ ys)
append [] ys a b = b
append (x ∷ xs) ys a b = (a.0, append xs ys a.1 b)

fronts : (xs ys : List MemoryWorld) → AreSound (xs ++ ys) → AreSound xs
fronts [] ys a = tt
fronts (x ∷ xs) ys a = (a.0, fronts xs ys a.1)

backs : (xs ys : List MemoryWorld) → AreSound (xs ++ ys) → AreSound ys
backs [] ys a = a
backs (x ∷ xs) ys a = backs xs ys a.1

reversed : (xs : List MemoryWorld) → AreSound xs → AreSound (reverse xs)
reversed [] a = tt
reversed (x ∷ xs) a = subst AreSound (sym (reverse_onto xs x [])) (append (reverse xs) (x ∷ []) (reversed xs a.1) (a.0, tt))

unreversed : (xs : List MemoryWorld) → AreSound (reverse xs) → AreSound xs
unreversed [] a = tt
unreversed (x ∷ xs) a =
    let b : AreSound (reverse xs ++ x ∷ []) = subst AreSound (reverse_onto xs x []) a in
    ((backs (reverse xs) (x ∷ []) b).0, unreversed xs (fronts (reverse xs) (x ∷ []) b))

none_rose : (xs ys : List MemoryWorld) → AreSound ys → AnyRose faults_of xs ys → ⊥
none_rose [] ys a r = r
none_rose (x ∷ xs) [] a r = r
none_rose (x ∷ xs) (y ∷ ys) a (inl r) =
    let none : y.faults ≡ 0 = no_fault_counted y a.0 in
    let low : y.faults < 2 ^ 64 - 1 = omega (arith, none) in
    absurd (omega (arith, none, r low))
none_rose (x ∷ xs) (y ∷ ys) a (inr r) = none_rose xs ys a.1 r

first_sound : (n : ℕ) → AreSound (worlds_of n)
first_sound n = (refl, (refl, (refl, (refl, tt))))

module _ {H : Type 0} (calling : Calling H) (first : ℕ → List ℕ → Standing H) where
  worked_sound : (before after : List (Post MemoryWorld)) → Each (HasWorked trace_of nature_of faults_of calling first) before after → AreSound (map world_in before) → AreSound (map world_in after)
  worked_sound [] [] e a = tt
  worked_sound [] (q ∷ qs) e a = absurd e
  worked_sound (p ∷ ps) [] e a = absurd e
  worked_sound (p ∷ ps) (q ∷ qs) e a = (subst (λ (m : Nature). IsTrue m.fails_no_call) (sym e.0.nature) a.0, worked_sound ps qs e.1 a.1)

  pub no_fault : (config : Config) (n : ℕ) (worlds : List MemoryWorld) → EndedBy trace_of nature_of faults_of calling first config WorldFault (worlds_of n) worlds → AnyRose faults_of (worlds_of n) worlds → ⊥
  no_fault config n worlds e rose =
      let w = e.ended.worked in
      let before : AreSound (map world_in w.before) = unreversed (map world_in w.before) (subst AreSound (sym w.old_is) (first_sound n)) in
      let after : AreSound (reverse (map world_in w.after)) = reversed (map world_in w.after) (worked_sound w.before w.after w.worked before) in
      none_rose (worlds_of n) worlds (subst AreSound (sym w.new_is) after) rose
