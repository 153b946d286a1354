-- Worlds of a site, and their lines.
use Rattle.std.proofs.Common.{◌≡◌, ℕ, suc, zero, ◌<◌, List, [], ◌∷◌, ◌++◌, length, Option, sym, subst, arith}
use Rattle.std.specs.List.{All}
use Rattle.std.proofs.lemmas.List.{map-append}
use Rattle.gate_io.specs.Told.{Gains, gains_more}
use Rattle.gate_live.specs.Sites.{seeds_of}
use Rattle.gate_live.specs.declared.live_world.LiveWorld.{LiveWorld}
use Rattle.live_lines.specs.declared.line.SocketPair.{SocketPair}
use Rattle.live_sockets.specs.declared.origin.Neighbor.{Neighbor}
use Rattle.live_sockets.specs.Homes.{AreHome, AreUnused}
use Rattle.live_sockets.specs.Keeping.{AreKept}
use Rattle.live_sockets.proofs.Homes.{unused_home}
use Rattle.live_sockets.proofs.Kept.{kept_same}

-- nothing was heard of lines that are as before
pub kept_lines : {P : Type 0} (gave took : P → Option (List ℕ)) (lines : List (SocketPair P)) → AreKept gave took lines lines
kept_lines gave took lines = kept_same gave took lines

-- where none was offered a line, none was offered another's
pub home : (others : List Neighbor) → AreUnused others → AreHome 0 others
home others h = unused_home others h

-- one in front of others
pub all_first : {X : Type 0} (P : X → Type 0) (x : X) (xs : List X) → P x → All P xs → All P (x ∷ xs)
all_first P x xs h hs zero d below = h
all_first P x xs h hs (suc k) d below = hs k d (let b : suc k < suc (length xs) = below in omega arith)

-- the seeds of worlds and of one more
pub seeds_more : {R P : Type 0} (ws : List (LiveWorld R P)) (w : LiveWorld R P) → seeds_of (ws ++ w ∷ []) ≡ seeds_of ws ++ w.seed ∷ []
seeds_more {R} {P} ws w = map-append (λ (v : LiveWorld R P). v.seed) ws (w ∷ [])

-- a seed was drawn, and a world with it comes after others
pub drawn_more : {R P : Type 0} (first mid last : Option (List (List ℕ))) (ws vs : List (LiveWorld R P)) (seed : List ℕ)
    → Gains first (seeds_of ws) mid → Gains mid (seed ∷ []) last → seeds_of vs ≡ seeds_of ws ++ seed ∷ [] → Gains first (seeds_of vs) last
drawn_more first mid last ws vs seed before one more =
    subst (λ (seeds : List (List ℕ)). Gains first seeds last) (sym more) (gains_more first (seeds_of ws) mid (seed ∷ []) last before one)
