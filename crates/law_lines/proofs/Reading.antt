-- A step in which a side of a line is read.
use Rattle.std.proofs.Common.{◌≡◌, ◌⊎◌, inl, inr, ℕ, ◌==◌, Bool, true, false, not, ◌||◌, ◌&&◌, List, [], refl, ap, ◌∙◌, sym, subst}
use Rattle.std.specs.Prelude.{Option, None, Some, is_some, option_map, if◌then◌else◌}
use Rattle.filter_host.specs.Course.{Course}
use Rattle.filter_host.specs.Heard.{Heard, hands, halts, Hears}
use Rattle.filter_host.proofs.Holds.{AllEnds}
use Rattle.exchange.specs.declared.types.Exchange.{Exchange}
use Rattle.filter_chain.specs.declared.item.ChainItem.{ChainItem}
use Rattle.gate_io.specs.declared.event.Sent.{Sent}
use Rattle.h1_model.specs.Messages.{head}
use Rattle.h1_model.specs.Unread.{Reading}
use Rattle.worker_model.specs.Room.{Room}
use Rattle.worker_model.specs.declared.types.Line.{Line}
use Rattle.worker_model.specs.declared.types.ReadBatch.{ReadBatch}
use Rattle.worker_model.specs.Plan.{Plan}
use Rattle.worker_model.specs.Steps.{Both, on_line, on_lines, exchange_on, exchange_of_line, exchange_reading, line_in, read_on, reading_on, line_reading, reads_in, reads_next, after_heard}
use Rattle.law_lines.proofs.Looks.{look, line_in_is, equal_by, equal_is}
use Rattle.law_lines.proofs.OnLines.{on_same}
use Rattle.law_lines.proofs.Story.{Tail, Rests, HasClose, pending, LineOk, ExOk, Known}
use Rattle.law_lines.proofs.Sides.{NotDown, line_aside, line_beside, ended_known, numbered_read}
use Rattle.law_lines.proofs.Beyond.{heard_beyond}
use Rattle.law_lines.proofs.Client.{client, batch_is, part_said, stop_said, first_said, none_said}

or_first : (u v : Bool) → (u || v) ≡ false → (u ≡ false) × (v ≡ false)
or_first true v is = absurd (cc)
or_first false v is = (refl, is)

reads_up : (o : Option Line) (x : Exchange) (reading : Reading) → exchange_of_line o ≡ Some x → line_reading true o ≡ Some reading → is_some x.reader ≡ true
reads_up None x reading on is = absurd (cc)
reads_up (Some l) x reading on is = ap is_some (ap exchange_reading (sym on) ∙ is)

module _ (plan : Plan) (past : List Sent) (room : Room) where
  abbrev still : Room
  still = record room { reading = None }

  known_line : (n : ℕ) (r : ReadBatch) → room.reading ≡ Some r → (k : Known plan n past room) → LineOk plan n past (Some r) [] room.lines (look n room.lines) room.hub
  known_line n r is k =
      subst (λ (q : Option ReadBatch). LineOk plan n past q [] room.lines (look n room.lines) room.hub) is
      (subst (λ l. LineOk plan n past room.reading l room.lines (look n room.lines) room.hub) (k.alone r is).0 k.line)

  -- where no exchange is there, nothing was read of it
  nothing_read : (r : ReadBatch) → room.reading ≡ Some r → Known plan r.line past room → (new : Reading)
      → (r.up || is_some (exchange_on r.line (on_lines (read_on r.up new) r.line still))) ≡ false → r.batch ≡ []
  nothing_read r is k new gone = by_line (look r.line room.lines) refl (known_line r.line r is k)
    where
      down : r.up ≡ false
      down = (or_first r.up _ gone).0

      batch : pending r.line (Some r) [] ≡ r.batch
      batch = λ i. if (equal_is r.line r.line refl i) && not (down i) then r.batch else []

      absent : is_some (exchange_on r.line (on_lines (read_on r.up new) r.line still)) ≡ false
      absent = (or_first r.up _ gone).1

      by_line : (o : Option Line) → look r.line room.lines ≡ o → LineOk plan r.line past (Some r) [] room.lines o room.hub → r.batch ≡ []
      by_line None at ok = sym batch ∙ ok.0
      by_line (Some l) at ok = by_exchange l.exchange refl ok.1
        where
          by_exchange : (o : Option Exchange) → l.exchange ≡ o → ExOk plan r.line past (Some r) [] room.lines l.requests.due o room.hub → r.batch ≡ []
          by_exchange None none ok = sym batch ∙ ok.none
          by_exchange (Some x) some ok =
              let found : look r.line (on_line (read_on r.up new) r.line room.lines) ≡ Some (read_on false new l)
              = on_same r.line r.line (read_on r.up new) room.lines (numbered_read r.up new) k.once (equal_is r.line r.line refl) ∙ ((λ i. option_map (read_on (down i) new) (at i))) in
              let there : is_some (exchange_on r.line (on_lines (read_on r.up new) r.line still)) ≡ true
              = ap (λ (o : Option Line). is_some (exchange_of_line o)) (line_in_is r.line (on_line (read_on r.up new) r.line room.lines) ∙ found) ∙ ap is_some some in
              let never : ◌≡◌ {A = Bool} true false = sym there ∙ absent in absurd (cc)

  module _ {H : Type 0} (host : H) (n : ℕ) where
    abbrev Goal : Course (Both H) → Type 0
    Goal course = AllEnds (λ (b : Both H). Known plan n past b.room) course

    -- another side
    others_known : (r : ReadBatch) → room.reading ≡ Some r → Known plan n past room → Known plan r.line past room → NotDown n r → Goal (reads_in plan r (reading_on r room) host room)
    others_known r is k km other = by_reading (reading_on r room) refl
      where
        ok : LineOk plan n past (Some r) [] room.lines (look n room.lines) room.hub
        ok = known_line n r is k

        by_reading : (o : Option Reading) → reading_on r room ≡ o → Goal (reads_in plan r o host room)
        by_reading None reads =
            ended_known plan n past still k.once k.parts (subst Tail (sym (k.alone r is).0) tt) refl
            (subst (λ l. LineOk plan n past None l room.lines (look n room.lines) room.hub) (sym (k.alone r is).0)
            (line_beside plan n past r other None [] (record { batch = refl; puts = refl; unclosed = tt; none = tt; reads = λ x. tt }) room.lines room.lines (look n room.lines) (look n room.lines) room.hub room.hub refl refl
            (line_aside n (look n room.lines) room.hub room.hub refl) ok))
        by_reading (Some reading) reads = λ h says.
            heard_beyond plan n r other past still k.once k.parts (k.alone r is).0 refl (k.alone r is).1 ok
            (λ here up x on.
            reads_up (look n room.lines) x reading on
            (ap (line_reading true) (sym (line_in_is n room.lines) ∙ ap (λ (m : ℕ). line_in m room.lines) (sym (equal_by r.line n here))) ∙ (ap (λ u. line_reading u (line_in r.line room.lines)) (sym up) ∙ reads))) h (λ new gone. nothing_read r is km new gone)

    -- the client's
    client_known : (b : List ChainItem) → room.reading ≡ Some (client n b) → Known plan n past room → Goal (reads_in plan (client n b) (reading_on (client n b) room) host room)
    client_known b is k = by_line (look n room.lines) refl (known_line n (client n b) is k)
      where
        jobless : room.jobs ≡ []
        jobless = (k.alone (client n b) is).0

        resting : Rests room.lines
        resting = (k.alone (client n b) is).1

        by_line : (o : Option Line) → look n room.lines ≡ o → LineOk plan n past (Some (client n b)) [] room.lines o room.hub → Goal (reads_in plan (client n b) (reading_on (client n b) room) host room)
        by_line None at ok =
            let none : reading_on (client n b) room ≡ None = ap (line_reading false) (line_in_is n room.lines ∙ at) in
            subst (λ (o : Option Reading). Goal (reads_in plan (client n b) o host room)) (sym none)
            (ended_known plan n past still k.once k.parts (subst Tail (sym jobless) tt) refl
            (subst (λ l. LineOk plan n past None l room.lines (look n room.lines) room.hub) (sym jobless) (subst (λ (o : Option Line). LineOk plan n past None [] room.lines o room.hub) (sym at) (refl, ok.1))))
        by_line (Some l) at ok =
            let there : reading_on (client n b) room ≡ Some l.requests = ap (line_reading false) (line_in_is n room.lines ∙ at) in
            subst (λ (o : Option Reading). Goal (reads_in plan (client n b) o host room)) (sym there) (by_exchange l.exchange refl ok.1)
          where
            asked_none : l.requests.asked ≡ None
            asked_none = ok.0

            by_exchange : (o : Option Exchange) → l.exchange ≡ o → ExOk plan n past (Some (client n b)) [] room.lines l.requests.due o room.hub → Goal (reads_in plan (client n b) (Some l.requests) host room)
            by_exchange None none ok =
                let empty : b ≡ [] = sym (batch_is n b) ∙ ok.none in
                subst (λ (c : List ChainItem). Goal (reads_in plan (client n c) (Some l.requests) host room)) (sym empty) (λ h says. first_heard h says)
              where
                is_due : (l.requests.due ≡ head) ⊎ HasClose n [] → l.requests.due ≡ head
                is_due (inl e) = e
                is_due (inr e) = absurd e

                first_heard : (h : Heard) → Hears l.requests h → Known plan n past (after_heard plan (client n []) h still)
                first_heard (hands p new) says = first_said plan n past still l k.once k.parts jobless refl resting at asked_none none (is_due ok.due_or) ok.idle p new says
                first_heard (halts why new) says = none_said plan n past still l k.once k.parts jobless refl resting at asked_none none (is_due ok.due_or) ok.idle why new says
            by_exchange (Some x) some ok = λ h says. more_heard h says
              where
                more_heard : (h : Heard) → Hears l.requests h → Known plan n past (after_heard plan (client n b) h still)
                more_heard (hands p new) says = part_said plan n past still l k.once k.parts jobless refl resting at asked_none b x some ok p new says
                more_heard (halts why new) says = stop_said plan n past still l k.once k.parts jobless refl resting at asked_none b x some ok why new says

    side_known : (r : ReadBatch) → room.reading ≡ Some r → Known plan n past room → Known plan r.line past room → Goal (reads_in plan r (reading_on r room) host room)
    side_known r is k km = by_test (r.line == n) r.up refl refl
      where
        by_test : (a u : Bool) → (r.line == n) ≡ a → r.up ≡ u → Goal (reads_in plan r (reading_on r room) host room)
        by_test true false here down =
            let same : r ≡ client n r.batch = λ i. record { line = equal_by r.line n here i; up = down i; batch = r.batch } in
            subst (λ (q : ReadBatch). Goal (reads_in plan q (reading_on q room) host room)) (sym same) (client_known r.batch (is ∙ ap Some same) k)
        by_test true true here up = others_known r is k km (λ e down. let never : ◌≡◌ {A = Bool} true false = sym up ∙ down in absurd (cc))
        by_test false u here up = others_known r is k km (λ e down. let never : ◌≡◌ {A = Bool} false true = sym here ∙ e in absurd (cc))

    -- A READING LEAVES KNOWN what is known, where it is known of the line that is read too
    pub reading_known : (r : ReadBatch) → room.reading ≡ Some r → Known plan n past room → Known plan r.line past room → Goal (reads_next plan room.reading host room)
    reading_known r is k km = subst (λ (q : Option ReadBatch). Goal (reads_next plan q host room)) (sym is) (side_known r is k km)
