-- A connection that is begun.
use Rattle.std.proofs.Common.{◌≡◌, ◌<◌, ℕ, zero, suc, List, [], ◌∷◌, Option, None, Some, length, slice_index_or, refl, sym, subst, arith}
use Rattle.std.specs.Prelude.{IfSome, slice_get}
use Rattle.live_lines.specs.Lines.{IsUnused, peer_of}
use Rattle.live_lines.specs.declared.upstream.Upstream.{Upstream}

-- what stands at a place of a list is there
pub stands_at : {A : Type 0} (xs : List A) (k : ℕ) (d : A) → k < length xs → slice_get xs k ≡ Some (slice_index_or xs k d)
stands_at [] k d low = absurd (omega arith)
stands_at (x ∷ xs) zero d low = refl
stands_at (x ∷ xs) (suc k) d low = stands_at xs k d (omega arith)

-- a line that goes on with an unused connection to the server has an unused one
pub unused_up : {P : Type 0} (gave took : P → Option (List ℕ)) (peer : Option P) (up : Option (Upstream P)) → peer_of up ≡ peer → IfSome peer (IsUnused gave took) → IfSome up (λ u. IsUnused gave took u.peer)
unused_up gave took peer None is unused = tt
unused_up gave took peer (Some u) is unused = subst (λ o. IfSome o (IsUnused gave took)) (sym is) unused
