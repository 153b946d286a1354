-- Worlds over sockets in which nothing has happened.
use Rattle.std.specs.Prelude.{◌≡◌, ℕ, false, List, [], ◌∷◌, All, map}
use Rattle.std.specs.declared.net.socket_addr.SocketAddr.{SocketAddr}
use Rattle.std.specs.Net.Grammar.{IsSocketText}
use Rattle.live_sockets.specs.Origins.{Accepts}
use Rattle.gate_live.specs.declared.live_world.LiveWorld.{LiveWorld}

-- A world in which nothing has happened, with this address of the upstream server.
pub record IsUntouched {R P : Type 0} (upstream : SocketAddr) (w : LiveWorld R P) : Type 0 where
  pub now : w.now ≡ 0
  pub goes_on : w.stopped ≡ false
  pub faults : w.faults ≡ 0
  pub connects : w.sockets.upstream ≡ upstream
  pub lines : w.sockets.lines.items ≡ []

-- so are all of these
abbrev pub AreUntouched : {R P : Type 0} → SocketAddr → List (LiveWorld R P) → Type 0
AreUntouched upstream ws = All (λ w. IsUntouched upstream w) ws

-- the same, where the server's address is one that the text spells
abbrev pub AreNew : {R P : Type 0} → List ℕ → List (LiveWorld R P) → Type 0
AreNew text ws = (upstream : SocketAddr) × IsSocketText text upstream × AreUntouched upstream ws

-- the seeds of worlds, in order
abbrev pub seeds_of : {R P : Type 0} → List (LiveWorld R P) → List (List ℕ)
seeds_of {R} {P} ws = map (λ (w : LiveWorld R P). w.seed) ws

-- the first of the worlds accepts lines, so many at most
abbrev pub FirstAccepts : {R P : Type 0} → ℕ → List (LiveWorld R P) → Type 0
FirstAccepts most [] = ⊥
FirstAccepts most (w ∷ ws) = Accepts most w.sockets.origin
