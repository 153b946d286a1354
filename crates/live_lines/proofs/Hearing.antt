-- What the connections of a line gave and took in two calls, one after the other.
use Rattle.std.proofs.Common.{◌≡◌, inl, inr, ℕ, Bool, true, List, [], ◌++◌, Option, None, Some, refl, sym, ap, subst, ◌∙◌}
use Rattle.std.proofs.Common.{append_assoc}
use Rattle.std.proofs.lemmas.List.{append-nil}
use Rattle.std.specs.Prelude.{IsSome, IsSomeAnd, IfSome}
use Rattle.gate_io.specs.declared.event.Side.TheVariants.{Down, Up}
use Rattle.gate_io.specs.declared.event.Side.{Side}
use Rattle.gate_io.specs.declared.event.What.{What}
use Rattle.gate_io.specs.declared.event.What.TheVariants.{Opened, Bytes, End, Gone, Joined, Refused, Room, Clock, Stop}
use Rattle.gate_io.specs.Told.{gains_nothing, gains_more}
use Rattle.live_lines.specs.Passing.{told_from, GainsAt, GainsUp, GoesOnUp, TellsLast, StaysUnless, RefusedUnless, HasSide, IsOfStanding, HeardOn}
use Rattle.live_lines.specs.Told.{IsHeardFrom, IsLast}
use Rattle.live_lines.specs.Waiting.{GoesOn}
use Rattle.live_lines.specs.declared.line.SocketPair.{SocketPair}
use Rattle.live_lines.specs.declared.upstream.Upstream.{Upstream}

-- two steps are one
pub goes_on_more : (a : Option (List ℕ)) (w came : List ℕ) (b : Option (List ℕ)) (v : List ℕ) (c : Option (List ℕ)) (u : List ℕ) → GoesOn a w came b v → GoesOn b v [] c u → GoesOn a w came c u
goes_on_more a w came b v c u first second = record {
  gone = first.gone ++ second.gone;
  in_order = append_assoc first.gone second.gone u ∙ ap (λ xs. first.gone ++ xs) (second.in_order ∙ append-nil v) ∙ first.in_order;
  taken = gains_more a first.gone b second.gone c first.taken second.taken;
}

pub goes_on_none : (a : Option (List ℕ)) (w : List ℕ) → GoesOn a w [] a w
goes_on_none a w = record { gone = []; in_order = sym (append-nil w); taken = gains_nothing a }

pub at_same : {P : Type 0} (told : P → Option (List ℕ)) (a : Option P) → GainsAt told a [] a
at_same told None = (refl, refl)
at_same told (Some p) = gains_nothing (told p)

pub up_same : {P : Type 0} (told : P → Option (List ℕ)) (a : Option (Upstream P)) → GainsUp told a [] a
up_same told None = (refl, refl)
up_same told (Some p) = gains_nothing (told p.peer)

pub on_same : {P : Type 0} (took : P → Option (List ℕ)) (a : Option (Upstream P)) → GoesOnUp took a a
on_same took None = refl
on_same took (Some p) = goes_on_none (took p.peer) p.waiting

at_more : {P : Type 0} (told : P → Option (List ℕ)) (a b c : Option P) (bytes : List ℕ) → GainsAt told a [] b → GainsAt told b bytes c → GainsAt told a bytes c
at_more told None b c bytes first second = subst (λ x. GainsAt told x bytes c) first.1 second
at_more told (Some p) None c bytes first second = subst (λ x. GainsAt told (Some p) bytes x) (sym second.1) second.0
at_more told (Some p) (Some q) None bytes first second = second
at_more told (Some p) (Some q) (Some r) bytes first second = gains_more (told p) [] (told q) bytes (told r) first second

up_more : {P : Type 0} (told : P → Option (List ℕ)) (a b c : Option (Upstream P)) (bytes : List ℕ) → GainsUp told a [] b → GainsUp told b bytes c → GainsUp told a bytes c
up_more told None b c bytes first second = subst (λ x. GainsUp told x bytes c) first.1 second
up_more told (Some p) None c bytes first second = subst (λ x. GainsUp told (Some p) bytes x) (sym second.1) second.0
up_more told (Some p) (Some q) None bytes first second = second
up_more told (Some p) (Some q) (Some r) bytes first second = gains_more (told p.peer) [] (told q.peer) bytes (told r.peer) first second

on_more : {P : Type 0} (took : P → Option (List ℕ)) (a b c : Option (Upstream P)) → GoesOnUp took a b → GoesOnUp took b c → GoesOnUp took a c
on_more took None b c first second = subst (λ x. GoesOnUp took x c) first second
on_more took (Some p) None c first second = subst (λ x. GoesOnUp took (Some p) x) (sym second) tt
on_more took (Some p) (Some q) None first second = tt
on_more took (Some p) (Some q) (Some r) first second = goes_on_more (took p.peer) p.waiting [] (took q.peer) q.waiting (took r.peer) r.waiting first second

stays_same : {A : Type 0} (why : Type 0) (a : Option A) → StaysUnless why a a
stays_same why None = tt
stays_same why (Some p) = tt

stays_more : {A : Type 0} (why : Type 0) (a b c : Option A) → StaysUnless ⊥ a b → StaysUnless why b c → StaysUnless why a c
stays_more why None b c first second = tt
stays_more why (Some p) None c first second = absurd first
stays_more why (Some p) (Some q) None first second = second
stays_more why (Some p) (Some q) (Some r) first second = tt

refused_more : (n m : ℕ) (a b : Bool) (told : Option What) (c : Bool) → m ≡ n → RefusedUnless n a None b → RefusedUnless m b told c → RefusedUnless n a told c
refused_more n m a b told c same (inl first) (inl second) = inl (second ∙ first)
refused_more n m a b told c same (inl first) (inr second) = inr (second.0, second.1 ∙ ap (λ k. Some (Refused k)) same)
refused_more n m a b told c same (inr first) second = cc (first.1)

-- a connection that is there after a call was there before
down_stood : {P : Type 0} (told : P → Option (List ℕ)) (a b : Option P) → GainsAt told a [] b → IsSome b → IsSome a
down_stood told None b gains there = subst (λ x. IsSome x) gains.1 there
down_stood told (Some p) b gains there = refl

up_stood : {P : Type 0} (told : P → Option (List ℕ)) (a b : Option (Upstream P)) → GainsUp told a [] b → IsSome b → IsSome a
up_stood told None b gains there = subst (λ x. IsSome x) gains.1 there
up_stood told (Some p) b gains there = refl

side_stood : {P : Type 0} (gave took : P → Option (List ℕ)) (a b : SocketPair P) → HeardOn gave took a None b → (side : Side) → HasSide b side → HasSide a side
side_stood gave took a b first Down there = down_stood gave a.down b.down first.down there
side_stood gave took a b first Up there = up_stood gave a.up b.up first.up there

refused_stood : (n : ℕ) (a b : Bool) → RefusedUnless n a None b → b ≡ true → a ≡ true
refused_stood n a b (inl same) is = sym same ∙ is
refused_stood n a b (inr none) is = let told = none.1 in cc

standing_more : {P : Type 0} (gave took : P → Option (List ℕ)) (a b : SocketPair P) → HeardOn gave took a None b → (told : Option What) → IfSome told (IsOfStanding b) → IfSome told (IsOfStanding a)
standing_more gave took a b first None of = tt
standing_more gave took a b first (Some (Bytes l side bytes)) of = side_stood gave took a b first side of
standing_more gave took a b first (Some (End l side)) of = side_stood gave took a b first side of
standing_more gave took a b first (Some (Gone l side)) of = side_stood gave took a b first side of
standing_more gave took a b first (Some (Room l side)) of = side_stood gave took a b first side of
standing_more gave took a b first (Some (Joined l)) of = side_stood gave took a b first Up of
standing_more gave took a b first (Some (Refused l)) (inl there) = inl (side_stood gave took a b first Up there)
standing_more gave took a b first (Some (Refused l)) (inr is) = inr (refused_stood a.number a.refused b.refused first.refused is)
standing_more gave took a b first (Some (Opened l)) of = of
standing_more gave took a b first (Some Clock) of = of
standing_more gave took a b first (Some Stop) of = of

-- an event of a connection that is there
of_side_there : {P : Type 0} (line : SocketPair P) (n : ℕ) (side : Side) (told : Option What) → HasSide line side → IfSome told (IsHeardFrom n side) → IfSome told (IsOfStanding line)
of_side_there line n side None there from = tt
of_side_there line n side (Some (Bytes l s bytes)) there from = subst (λ x. HasSide line x) (sym from.1) there
of_side_there line n side (Some (End l s)) there from = subst (λ x. HasSide line x) (sym from.1) there
of_side_there line n side (Some (Gone l s)) there from = subst (λ x. HasSide line x) (sym from.1) there
of_side_there line n side (Some (Room l s)) there from = subst (λ x. HasSide line x) (sym from.1.0) there
of_side_there line n side (Some (Joined l)) there from = subst (λ x. HasSide line x) from.1 there
of_side_there line n side (Some (Refused l)) there from = inl (subst (λ x. HasSide line x) from.1 there)
of_side_there line n side (Some (Opened l)) there from = from
of_side_there line n side (Some Clock) there from = from
of_side_there line n side (Some Stop) there from = from

pub of_client : {P : Type 0} (line : SocketPair P) (told : Option What) → IsSome line.down → IfSome told (IsHeardFrom line.number Down) → IfSome told (IsOfStanding line)
of_client line told there from = of_side_there line line.number Down told there from

pub of_server : {P : Type 0} (line : SocketPair P) (told : Option What) → IsSome line.up → IfSome told (IsHeardFrom line.number Up) → IfSome told (IsOfStanding line)
of_server line told there from = of_side_there line line.number Up told there from

-- an event of a connection after which it is let go
pub tells_last : (line : ℕ) (side : Side) (told : Option What) → IsSomeAnd told IsLast → IfSome told (IsHeardFrom line side) → TellsLast line side told
tells_last line side None last from = absurd last
tells_last line side (Some what) last from = (last, from)

-- nothing is heard of a line that is as before
pub heard_same : {P : Type 0} (gave took : P → Option (List ℕ)) (line : SocketPair P) → HeardOn gave took line None line
heard_same gave took line = record {
  number = refl;
  down = at_same gave line.down;
  up = up_same gave line.up;
  kept = at_same took line.down;
  goes_on = on_same took line.up;
  down_stays = stays_same _ line.down;
  up_stays = stays_same _ line.up;
  refused = inl refl;
  standing = tt;
}

-- nothing is heard, and then this
pub heard_more : {P : Type 0} (gave took : P → Option (List ℕ)) (a b : SocketPair P) (told : Option What) (c : SocketPair P) → HeardOn gave took a None b → HeardOn gave took b told c → HeardOn gave took a told c
heard_more gave took a b told c first second = record {
  number = second.number ∙ first.number;
  down = at_more gave a.down b.down c.down (told_from Down told) first.down second.down;
  up = up_more gave a.up b.up c.up (told_from Up told) first.up second.up;
  kept = at_more took a.down b.down c.down [] first.kept second.kept;
  goes_on = on_more took a.up b.up c.up first.goes_on second.goes_on;
  down_stays = subst (λ n. StaysUnless (TellsLast n Down told) a.down c.down) first.number (stays_more (TellsLast b.number Down told) a.down b.down c.down first.down_stays second.down_stays);
  up_stays = subst (λ n. StaysUnless (TellsLast n Up told) a.up c.up) first.number (stays_more (TellsLast b.number Up told) a.up b.up c.up first.up_stays second.up_stays);
  refused = refused_more a.number b.number a.refused b.refused told c.refused first.number first.refused second.refused;
  standing = standing_more gave took a b first told second.standing;
}
