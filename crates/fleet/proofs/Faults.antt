-- The world whose faults rose.
use Rattle.std.proofs.Common.{◌≡◌, ◌⊎◌, ℕ, Bool, true, false, List, [], ◌∷◌, ◌++◌, map, reverse, Option, refl, sym, subst, inl, inr, ⊎_elim, ◌||◌}
use Rattle.filter_host.specs.Called.{Calling}
use Rattle.std.specs.List.{list_any}
use Rattle.std.proofs.lemmas.Grind.{reverse_onto}
use Rattle.gate_io.specs.Nature.{Nature}
use Rattle.gate_io.specs.Told.{Rose}
use Rattle.gate_io.specs.declared.passed.Passed.{Passed}
use Rattle.worker_model.specs.declared.types.Turn.{Turn}
use Rattle.worker_model.specs.declared.types.Turn.TheVariants.{Went, Stopped, WorldFault, OutOfMemory}
use Rattle.fleet.specs.Fleet.{Each, HasWorked}
use Rattle.worker_model.specs.State.{Standing}
use Rattle.fleet.specs.Moves.{world_in}
use Rattle.fleet.specs.Run.{AnyRose, is_fault}
use Rattle.fleet.specs.declared.post.Post.{Post}
use Rattle.fleet.proofs.Eaches.{each_map, each_reverse}

fault_is : (turn : Turn) → is_fault turn ≡ true → turn ≡ WorldFault
fault_is Went h = cc h
fault_is Stopped h = cc h
fault_is WorldFault h = refl
fault_is OutOfMemory h = cc h

any_left : {W : Type 0} (f : W → ℕ) (xs more ys rest : List W) → AnyRose f xs ys → AnyRose f (xs ++ more) (ys ++ rest)
any_left f [] more ys rest a = absurd a
any_left f (x ∷ xs) more [] rest a = absurd a
any_left f (x ∷ xs) more (y ∷ ys) rest a = ⊎_elim (λ r. inl r) (λ r. inr (any_left f xs more ys rest r)) a

any_last : {W : Type 0} (R : W → W → Type 0) (f : W → ℕ) (xs ys : List W) (x y : W) → Each R xs ys → Rose (f x) (f y) → AnyRose f (xs ++ x ∷ []) (ys ++ y ∷ [])
any_last R f [] [] x y e r = inl r
any_last R f [] (v ∷ ys) x y e r = absurd e
any_last R f (u ∷ xs) [] x y e r = absurd e
any_last R f (u ∷ xs) (v ∷ ys) x y e r = inr (any_last R f xs ys x y e.1 r)

or_cases : (a b : Bool) → (a || b) ≡ true → (a ≡ true) ⊎ (b ≡ true)
or_cases true b h = inl refl
or_cases false b h = inr h

module _ {W H : Type 0} (trace_of : W → Option (List Passed)) (nature_of : W → Nature) (faults_of : W → ℕ) (calling : Calling H) (first : ℕ → List ℕ → Standing H) where
  pub worlds_rose : (before after : List (Post W)) → Each (HasWorked trace_of nature_of faults_of calling first) before after → list_any (λ (p : Post W). is_fault p.end) after ≡ true
      → AnyRose faults_of (reverse (map world_in before)) (reverse (map world_in after))
  worlds_rose [] [] e h = absurd (cc h)
  worlds_rose [] (q ∷ qs) e h = absurd e
  worlds_rose (p ∷ ps) [] e h = absurd e
  worlds_rose (p ∷ ps) (q ∷ qs) e h =
      let f : W → ℕ = faults_of in
      let xs : List W = map world_in ps in
      let ys : List W = map world_in qs in
      let R : W → W → Type 0 = λ x y. Unit {0} in
      let paired : Each R (reverse xs) (reverse ys) = each_reverse R xs ys (each_map (HasWorked trace_of nature_of faults_of calling first) R world_in world_in (λ x y w. tt) ps qs e.1) in
      let rose : AnyRose f (reverse xs ++ p.watched ∷ []) (reverse ys ++ q.watched ∷ []) =
      ⊎_elim (λ (now : is_fault q.end ≡ true). any_last R f (reverse xs) (reverse ys) p.watched q.watched paired (e.0.fault (fault_is q.end now)))
      (λ (later : list_any (λ (r : Post W). is_fault r.end) qs ≡ true). any_left f (reverse xs) (p.watched ∷ []) (reverse ys) (q.watched ∷ []) (worlds_rose ps qs e.1 later)) (or_cases (is_fault q.end) (list_any (λ (r : Post W). is_fault r.end) qs) h) in
      subst (λ (us : List W). AnyRose f us (reverse (map world_in (q ∷ qs)))) (sym (reverse_onto xs p.watched []))
      (subst (λ (vs : List W). AnyRose f (reverse xs ++ p.watched ∷ []) vs) (sym (reverse_onto ys q.watched [])) rose)
