-- Lists of lines of which each keeps its number and its client's reader, and the exchange its server's, unless that is new.
use Rattle.std.proofs.Common.{◌≡◌, inl, ℕ, zero, suc, List, [], ◌∷◌, refl, ◌∙◌, sym, subst}
use Rattle.std.specs.Prelude.{Option, None, Some, slice_get, slice_set}
use Rattle.exchange.specs.declared.types.Exchange.{Exchange}
use Rattle.exchange.specs.declared.types.Hub.{Hub}
use Rattle.worker_model.specs.declared.types.Line.{Line}
use Rattle.worker_model.specs.Rooms.{Changes, in_exchange, in_line, at_some, at_place, all_lines}
use Rattle.worker_model.specs.Steps.{change_line, change_exchange, line_at, line_at_place}
use Rattle.law_reading.proofs.Readers.{ReaderGoes, reader_then}

pub record Alike (l m : Line) : Type 0 where
  pub number : m.number ≡ l.number
  pub requests : m.requests ≡ l.requests
  pub reader : ReaderGoes l.exchange m.exchange

pub alike_itself : (l : Line) → Alike l l
alike_itself l = record { number = refl; requests = refl; reader = inl (refl, λ a. a) }

pub alike_then : (l m k : Line) → Alike l m → Alike m k → Alike l k
alike_then l m k a b = record {
  number = b.number ∙ a.number;
  requests = b.requests ∙ a.requests;
  reader = reader_then l.exchange m.exchange k.exchange a.reader b.reader;
}

abbrev pub AreAlike : List Line → List Line → Type 0
AreAlike [] [] = Unit {0}
AreAlike [] (m ∷ later) = ⊥
AreAlike (l ∷ lines) [] = ⊥
AreAlike (l ∷ lines) (m ∷ later) = Alike l m × AreAlike lines later

pub are_itself : (lines : List Line) → AreAlike lines lines
are_itself [] = tt
are_itself (l ∷ lines) = (alike_itself l, are_itself lines)

pub are_then : (a b c : List Line) → AreAlike a b → AreAlike b c → AreAlike a c
are_then [] [] [] p q = tt
are_then [] [] (n ∷ c) p q = absurd q
are_then [] (m ∷ b) c p q = absurd p
are_then (l ∷ a) [] c p q = absurd p
are_then (l ∷ a) (m ∷ b) [] p q = absurd q
are_then (l ∷ a) (m ∷ b) (n ∷ c) p q = (alike_then l m n p.0 q.0, are_then a b c p.1 q.1)

pub alike_set : (lines : List Line) (k : ℕ) (l m : Line) → slice_get lines k ≡ Some l → Alike l m → AreAlike lines (slice_set lines k m)
alike_set [] k l m at alike = tt
alike_set (z ∷ lines) zero l m at alike = let same : z ≡ l = cc in (subst (λ (x : Line). Alike x m) (sym same) alike, are_itself lines)
alike_set (z ∷ lines) (suc k) l m at alike = (alike_itself z, alike_set lines k l m at alike)

-- ---- what is done to exchanges

abbrev pub KeepsReader : Changes → Type 0
KeepsReader change = (n : ℕ) (x : Exchange) (hub : Hub) → ReaderGoes (Some x) (Some (change n x hub).0)

in_line_alike : (change : Changes) → KeepsReader change → (l : Line) (hub : Hub) → Alike l (in_line change l hub).0
in_line_alike change keeps l hub = by_exchange l.exchange refl
  where
    by_exchange : (o : Option Exchange) → l.exchange ≡ o → Alike l (in_exchange change l o hub).0
    by_exchange None none = alike_itself l
    by_exchange (Some x) some = record {
      number = refl;
      requests = refl;
      reader = subst (λ (o : Option Exchange). ReaderGoes o (Some (change l.number x hub).0)) (sym some) (keeps l.number x hub);
    }

pub place_alike : (change : Changes) → KeepsReader change → (lines : List Line) (place : Option ℕ) (hub : Hub) → AreAlike lines (at_place change lines place hub).0
place_alike change keeps lines None hub = are_itself lines
place_alike change keeps lines (Some k) hub = by_line (slice_get lines k) refl
  where
    by_line : (o : Option Line) → slice_get lines k ≡ o → AreAlike lines (at_some change lines k o hub).0
    by_line None none = are_itself lines
    by_line (Some l) at = alike_set lines k l (in_line change l hub).0 at (in_line_alike change keeps l hub)

pub all_alike : (change : Changes) → KeepsReader change → (lines : List Line) (hub : Hub) → AreAlike lines (all_lines change lines hub).0
all_alike change keeps [] hub = tt
all_alike change keeps (l ∷ lines) hub = (in_line_alike change keeps l hub, all_alike change keeps lines (in_line change l hub).1)

-- ---- what is noted of them

pub change_alike : (g : Exchange → Exchange) → ((x : Exchange) → ReaderGoes (Some x) (Some (g x))) → (l : Line) → Alike l (change_line g l)
change_alike g keeps l = by_exchange l.exchange refl
  where
    by_exchange : (o : Option Exchange) → l.exchange ≡ o → Alike l (change_exchange g l o)
    by_exchange None none = alike_itself l
    by_exchange (Some x) some = record {
      number = refl;
      requests = refl;
      reader = subst (λ (o : Option Exchange). ReaderGoes o (Some (g x))) (sym some) (keeps x);
    }

pub on_alike : (f : Line → Line) (lines : List Line) (place : Option ℕ) → ((l : Line) → Alike l (f l)) → AreAlike lines (line_at_place f lines place)
on_alike f lines None alike = are_itself lines
on_alike f lines (Some k) alike = by_line (slice_get lines k) refl
  where
    by_line : (o : Option Line) → slice_get lines k ≡ o → AreAlike lines (line_at f lines k o)
    by_line None none = are_itself lines
    by_line (Some l) at = alike_set lines k l (f l) at (alike l)

pub change_on : (g : Exchange → Exchange) (lines : List Line) (place : Option ℕ) → ((x : Exchange) → ReaderGoes (Some x) (Some (g x))) → AreAlike lines (line_at_place (change_line g) lines place)
change_on g lines place keeps = on_alike (change_line g) lines place (change_alike g keeps)
