-- Asks from a place, one after the other.
use Rattle.std.specs.Prelude.{◌≡◌, ℕ, ◌==◌, List, [], ◌∷◌, ◌++◌, refl}
use Rattle.std.specs.List.{filter}
use Rattle.std.proofs.Common.{ap, sym, ◌∙◌}
use Rattle.std.proofs.lemmas.List.{append-nil}
use Rattle.turn_table.proofs.Prefixes.{prefix_self, prefix_trans}
use Rattle.store_model.specs.History.{own}
use Rattle.store_model.specs.Made.{Made, MadeAsk, asks_among}
use Rattle.turn_table.specs.Seats.{Seated}
use Rattle.metric_seats.specs.Places.{Asked, Metered, NamesGoOn, PlaceStays}

-- the asks of the metrics of a VM name
abbrev pub asks_on : ℕ → List Made → List MadeAsk
asks_on vm made = filter (λ m. m.vm == vm) (asks_among made)

-- from the place v this was asked first, and then what follows holds
pub record AskedFirst (v : Metered) (m : MadeAsk) (follows : Metered → Type 0) : Type 0 where
  pub before : Metered
  pub stays : PlaceStays v before
  pub after : Metered
  pub asked : Asked before m.ask m.reply after
  pub rest : follows after

-- FROM a place v these were asked, one after the other, each with its reply, and w is the place after them. Between them definitions of others may have been seen.
abbrev pub Measures : Metered → List MadeAsk → Metered → Type 0
Measures v [] w = PlaceStays v w
Measures v (m ∷ ms) w = AskedFirst v m (λ u. Measures u ms w)

pub names_stay : (v : Seated) → NamesGoOn v v []
names_stay v = record { same = refl; begins = prefix_self v.seen; legal = λ l. l; own_are = sym (append-nil (own v.number v.seen)) }

pub stays_still : (v : Metered) → PlaceStays v v
stays_still v = record { names = names_stay v.names; words = refl }

stays_on : (u v w : Metered) → PlaceStays u v → PlaceStays v w → PlaceStays u w
stays_on u v w p q =
    let n : v.names.number ≡ u.names.number = ap (λ (s : Seated). s.number) p.names.same in
    record {
      names = record {
        same = q.names.same ∙ ap (λ (s : Seated). let t : Seated = record s { seen = w.names.seen } in t) p.names.same;
        begins = prefix_trans u.names.seen v.names.seen w.names.seen p.names.begins q.names.begins;
        legal = λ l. q.names.legal (p.names.legal l);
        own_are = ap (λ k. own k w.names.seen) (sym n) ∙ (q.names.own_are ∙ (append-nil (own v.names.number v.names.seen) ∙ (ap (λ k. own k v.names.seen) n ∙ p.names.own_are)));
      };
      words = q.words ∙ p.words;
    }

-- what stays first, and is asked then, is asked
stays_then : (u v w : Metered) (ms : List MadeAsk) → PlaceStays u v → Measures v ms w → Measures u ms w
stays_then u v w [] p q = stays_on u v w p q
stays_then u v w (m ∷ ms) p q = record { before = q.before; stays = stays_on u v q.before p q.stays; after = q.after; asked = q.asked; rest = q.rest }

-- nothing may be asked
pub measures_nothing : (v : Metered) → Measures v [] v
measures_nothing v = stays_still v

-- these were asked, and then those
pub measures_joined : (u v w : Metered) (a b : List MadeAsk) → Measures u a v → Measures v b w → Measures u (a ++ b) w
measures_joined u v w [] b p q = stays_then u v w b p q
measures_joined u v w (m ∷ a) b p q = record { before = p.before; stays = p.stays; after = p.after; asked = p.asked; rest = measures_joined p.after v w a b p.rest q }
