-- What was handed on of a text that events spell is what that text spells.
use Rattle.std.proofs.Common.{ℕ, Bool, List, ◌++◌, ◌∙◌, sym, ap, subst}
use Rattle.std.specs.Prelude.{Option}
use Rattle.gate_io.specs.declared.event.Side.{Side}
use Rattle.gate_io.specs.declared.event.What.{What}
use Rattle.h1_model.proofs.Fronts.{pieces_are_a_front, fronts_of_one_text}
use Rattle.h1_model.proofs.Pieces.{pieces_are_whole, cuts_alike}
use Rattle.h1_model.specs.Messages.{Placed, Stop, Messages}
use Rattle.h1_model.specs.ReadingLaws.{IsWholeReading}
use Rattle.h1_model.specs.Unread.{Reading, none, IsNext, text_of}
use Rattle.law_reading.specs.Cuts.{SpellsAll, CutsDoNotMatter, FrontsAtAnyMoment}
use Rattle.law_reading.specs.Spelled.{text_of_side, has_ended, IsReadOf}

spells_all : (asked : Option (List ℕ)) (n : ℕ) (side : Side) (ws : List What) (r : Reading) (why : Stop) (reads : IsReadOf asked n side ws r)
    → IsNext r.ended r.asked r.due r.unread (none why) → SpellsAll asked n side ws r why reads
spells_all asked n side ws r why reads halted =
    let p : IsWholeReading asked reads.acts r.ended why = pieces_are_whole asked reads.acts r why reads.does halted in
    record {
      items = p.items;
      messages = subst (λ text. Messages text (has_ended n side ws) asked p.items why) reads.text
          (subst (λ ended. Messages (text_of reads.acts) ended asked p.items why) reads.ended p.spelled);
      same = p.same;
    }

pub cuts_do_not_matter : CutsDoNotMatter
cuts_do_not_matter = record {
  whole = spells_all;
  alike = λ asked n m side ws vs r s why reason one other same ends halted stopped.
      cuts_alike asked one.acts other.acts r s why reason one.does other.does (one.text ∙ (same ∙ sym other.text)) (one.ended ∙ (ends ∙ sym other.ended)) halted
      stopped;
}

-- ---- at any moment

-- what events spell is what came
came : (asked : Option (List ℕ)) (n : ℕ) (side : Side) (ws : List What) (r : Reading) (items : List Placed) (why : Stop) (reads : IsReadOf asked n side ws r)
    → Messages (text_of_side n side ws) (has_ended n side ws) asked items why → Messages (text_of reads.acts) r.ended asked items why
came asked n side ws r items why reads spells =
    subst (λ (text : List ℕ). Messages text r.ended asked items why) (sym reads.text)
    (subst (λ (ended : Bool). Messages (text_of_side n side ws) ended asked items why) (sym reads.ended) spells)

came_further : (asked : Option (List ℕ)) (n : ℕ) (side : Side) (ws : List What) (r : Reading) (more : List ℕ) (ended : Bool) (items : List Placed) (why : Stop)
    (reads : IsReadOf asked n side ws r) → Messages (text_of_side n side ws ++ more) ended asked items why → Messages (text_of reads.acts ++ more) ended asked items why
came_further asked n side ws r more ended items why reads spells =
    subst (λ (text : List ℕ). Messages (text ++ more) ended asked items why) (sym reads.text) spells

pub fronts_at_any_moment : FrontsAtAnyMoment
fronts_at_any_moment = record {
  so_far = λ asked n side ws r items why reads spells.
      pieces_are_a_front.so_far asked reads.acts r items why reads.does (came asked n side ws r items why reads spells);
  further = λ asked n side ws r more ended items why reads goes_on spells.
      pieces_are_a_front.longer asked reads.acts r more ended items why reads.does (reads.ended ∙ goes_on)
      (came_further asked n side ws r more ended items why reads spells);
  alike = λ asked n m side ws vs r s one other same ends.
      fronts_of_one_text.same asked one.acts other.acts r s one.does other.does (one.text ∙ (same ∙ sym other.text)) (one.ended ∙ (ends ∙ sym other.ended));
  behind = λ asked n m side ws vs r s more one other goes_on further.
      fronts_of_one_text.longer asked one.acts other.acts r s more one.does other.does (one.ended ∙ goes_on)
      (other.text ∙ (further ∙ ap (λ (text : List ℕ). text ++ more) (sym one.text)));
}
