-- A line in pieces: what is handed on is what the whole text spells.
use Rattle.std.proofs.Common.{◌≡◌, ℕ, ◌+◌, ◌≤◌, Bool, true, false, List, [], ◌∷◌, ◌++◌, map, length, drop, Option, refl, sym, ap, ◌∙◌, subst, inl, inr, arith}
use Rattle.std.proofs.lemmas.List.{drop-drop, drop-append-le, append-nil, append_assoc, map-append}
use Rattle.std.proofs.Math.Seq.{drop-append-add}
use Rattle.std.specs.Prelude.{◌⊎◌}
use Rattle.h1_model.specs.Lines.{empty_line_bytes, after_empty_lines}
use Rattle.h1_model.specs.Chunks as chunks
use Rattle.h1_model.specs.Messages.{Item, Placed, counted, coded, unbounded, Due, head, body, done, Stop, stop, IsCodedStep, StepsTo, Messages}
use Rattle.h1_model.specs.Unread.{Part, part, IsNext, Reading, new_reading, reading_with_bytes, reading_with_end, moved_on, due_at, unread_at, awaiting_bytes, Hands, Halts, Act, feeds, ends, hands, halts, DoesAll, text_of, items_in, items_handed}
use Rattle.h1_model.specs.ReadingLaws.{item_at, PiecesAreWhole, CutsAlike}
use Rattle.h1_model.proofs.EmptyLines.{empties, empties-append, skipped-behind, after-behind, empty_front}
use Rattle.h1_model.proofs.Parts.{none_is_stop, head_stop}
use Rattle.h1_model.proofs.Chains.{Chain, chain_joins, chain_spells, chain_grows, chain_fits, chain_part, section_part_behind, head_part_behind}
use Rattle.h1_model.proofs.ChunkLaws.{sought_stays, section_within}
use Rattle.h1_model.proofs.Sections.{section_goes_behind}
use Rattle.h1_model.proofs.Readings.{one_reading}

-- Where `next` is due at the place `at` of a text, a reader has this due and this unread: it stands there, and nothing was read;
record IsThere (text : List ℕ) (next : Due) (at : ℕ) (due : Due) (unread : List ℕ) : Type 0 where
  same_due : due ≡ next
  are : drop at text ≡ unread

-- or behind empty lines in front of a head;
record IsBehindLines (text : List ℕ) (next : Due) (at : ℕ) (due : Due) (unread : List ℕ) : Type 0 where
  next_is : next ≡ head
  due_is : due ≡ head
  lines : List Bool
  are : drop at text ≡ empties lines ++ unread

-- or after what stands in front of a trailer section
record IsInSection (text : List ℕ) (next : Due) (at : ℕ) (due : Due) (unread : List ℕ) : Type 0 where
  connection : List (List ℕ)
  place : chunks.Place
  size : ℕ
  next_is : next ≡ body (coded connection place)
  due_is : due ≡ body (coded connection chunks.section)
  found : chunks.sought place (drop at text) ≡ chunks.section_at size
  are : drop size (drop at text) ≡ unread

abbrev IsUnread : (text : List ℕ) (next : Due) (at : ℕ) (due : Due) (unread : List ℕ) → Type 0
IsUnread text next at due unread = IsThere text next at due unread ⊎ (IsBehindLines text next at due unread ⊎ IsInSection text next at due unread)

-- These items were handed on of a text, and a reader stands after them.
record Stands (asked : Option (List ℕ)) (text : List ℕ) (handed : List Item) (r : Reading) : Type 0 where
  same_asked : r.asked ≡ asked
  items : List Placed
  at : ℕ
  next : Due
  chain : Chain text r.ended asked head 0 items next at
  same : map item_at items ≡ handed
  left : IsUnread text next at r.due r.unread

-- ---- one act

no_waiting : (size : ℕ) → chunks.section_at size ≡ chunks.waiting → ⊥
no_waiting size e = cc

unread_fed : (text bytes : List ℕ) (next : Due) (at : ℕ) (due : Due) (unread : List ℕ) → at ≤ length text → IsUnread text next at due unread
    → IsUnread (text ++ bytes) next at due (unread ++ bytes)
unread_fed text bytes next at due unread fits (inl x) =
    inl (record { same_due = x.same_due; are = drop-append-le at text bytes fits ∙ ap (λ (t : List ℕ). t ++ bytes) x.are })
unread_fed text bytes next at due unread fits (inr (inl x)) = inr (inl (record {
  next_is = x.next_is;
  due_is = x.due_is;
  lines = x.lines;
  are = drop-append-le at text bytes fits ∙ ap (λ (t : List ℕ). t ++ bytes) x.are ∙ append_assoc (empties x.lines) unread bytes;
}))
unread_fed text bytes next at due unread fits (inr (inr x)) =
    let split : drop at (text ++ bytes) ≡ drop at text ++ bytes = drop-append-le at text bytes fits in
    let within : x.size ≤ length (drop at text) = section_within x.place (drop at text) x.size x.found in
    inr (inr (record {
      connection = x.connection;
      place = x.place;
      size = x.size;
      next_is = x.next_is;
      due_is = x.due_is;
      found = ap (chunks.sought x.place) split
          ∙ sought_stays x.place (drop at text) bytes (chunks.section_at x.size) x.found (no_waiting x.size);
      are = ap (drop x.size) split ∙ drop-append-le x.size (drop at text) bytes within ∙ ap (λ (t : List ℕ). t ++ bytes) x.are;
    }))

stands_fed : (asked : Option (List ℕ)) (text bytes : List ℕ) (handed : List Item) (r : Reading) → Stands asked text handed r → r.ended ≡ false
    → Stands asked (text ++ bytes) handed (reading_with_bytes bytes r)
stands_fed asked text bytes handed r s goes_on =
    let chain : Chain text false asked head 0 s.items s.next s.at = subst (λ (e : Bool). Chain text e asked head 0 s.items s.next s.at) goes_on s.chain in
    let fits : s.at ≤ length text = chain_fits text asked head 0 s.items s.next s.at (omega arith) chain in
    record {
      same_asked = s.same_asked;
      items = s.items;
      at = s.at;
      next = s.next;
      chain = chain_grows text bytes r.ended asked head 0 s.items s.next s.at (omega arith) chain;
      same = s.same;
      left = unread_fed text bytes s.next s.at r.due r.unread fits s.left;
    }

chain_ends : (text : List ℕ) (asked : Option (List ℕ)) (items : List Placed) (due : Due) (at : ℕ) (e : Bool) → Chain text e asked head 0 items due at
    → Chain text true asked head 0 items due at
chain_ends text asked items due at true x = x
chain_ends text asked items due at false x =
    subst (λ (t : List ℕ). Chain t true asked head 0 items due at) (append-nil text) (chain_grows text [] true asked head 0 items due at (omega arith) x)

stands_finished : (asked : Option (List ℕ)) (text : List ℕ) (handed : List Item) (r : Reading) → Stands asked text handed r → Stands asked text handed (reading_with_end r)
stands_finished asked text handed r s = record {
  same_asked = s.same_asked;
  items = s.items;
  at = s.at;
  next = s.next;
  chain = chain_ends text asked s.items s.next s.at r.ended s.chain;
  same = s.same;
  left = s.left;
}

-- what is next of what is unread, at its place in the text
record NextThere (text : List ℕ) (ended : Bool) (asked : Option (List ℕ)) (next : Due) (at : ℕ) (unread : List ℕ) (p : Part) (used : ℕ) (behind : Due) : Type 0 where
  more : ℕ
  there : IsNext ended asked next (drop at text) (part p more behind)
  left : drop more (drop at text) ≡ drop used unread

next_there : (text : List ℕ) (ended : Bool) (asked : Option (List ℕ)) (next : Due) (at : ℕ) (due : Due) (unread : List ℕ) (p : Part) (used : ℕ) (behind : Due)
    → IsUnread text next at due unread → IsNext ended asked due unread (part p used behind) → NextThere text ended asked next at unread p used behind
next_there text ended asked next at due unread p used behind (inl u) x =
    let here : IsNext ended asked next unread (part p used behind) = subst (λ (d : Due). IsNext ended asked d unread (part p used behind)) u.same_due x in
    record {
      more = used;
      there = subst (λ (t : List ℕ). IsNext ended asked next t (part p used behind)) (sym u.are) here;
      left = ap (drop used) u.are;
    }
next_there text ended asked next at due unread p used behind (inr (inl u)) x =
    let front = empties u.lines in
    let further : empty_line_bytes (drop at text) ≡ length front + empty_line_bytes unread = ap empty_line_bytes u.are ∙ skipped-behind u.lines unread in
    let after : after_empty_lines (drop at text) ≡ after_empty_lines unread = ap after_empty_lines u.are ∙ after-behind u.lines unread in
    let here : IsNext ended asked head unread (part p used behind) = subst (λ (d : Due). IsNext ended asked d unread (part p used behind)) u.due_is x in
    record {
      more = length front + used;
      there = subst (λ (d : Due). IsNext ended asked d (drop at text) (part p (length front + used) behind)) (sym u.next_is)
          (head_part_behind ended asked (length front) (drop at text) unread p used behind further after here);
      left = ap (drop (length front + used)) u.are ∙ drop-append-add front unread used;
    }
next_there text ended asked next at due unread p used behind (inr (inr u)) x =
    let here : IsNext ended asked (body (coded u.connection chunks.section)) unread (part p used behind) =
    subst (λ (d : Due). IsNext ended asked d unread (part p used behind)) u.due_is x in
    let moved : IsNext ended asked (body (coded u.connection chunks.section)) (drop u.size (drop at text)) (part p used behind) =
    subst (λ (t : List ℕ). IsNext ended asked (body (coded u.connection chunks.section)) t (part p used behind)) (sym u.are) here in
    record {
      more = u.size + used;
      there = subst (λ (d : Due). IsNext ended asked d (drop at text) (part p (u.size + used) behind)) (sym u.next_is)
          (section_part_behind ended asked u.connection u.place u.size (drop at text) p used behind u.found moved);
      left = sym (drop-drop used u.size (drop at text)) ∙ ap (drop used) u.are;
    }

stands_handed : (asked : Option (List ℕ)) (text : List ℕ) (handed : List Item) (r new : Reading) (p : Part) → Stands asked text handed r → Hands r p new
    → Stands asked text (handed ++ items_in asked p) new
stands_handed asked text handed r new p s h =
    let next : IsNext r.ended asked r.due r.unread (part p h.used h.due) =
    subst (λ (a : Option (List ℕ)). IsNext r.ended a r.due r.unread (part p h.used h.due)) s.same_asked h.next in
    let n = next_there text r.ended asked s.next s.at r.due r.unread p h.used h.due s.left next in
    let c = chain_part text r.ended asked s.next s.at p n.more h.due n.there in
    let moved : Stands asked text (handed ++ items_in asked p) (moved_on h.used h.due r) = record {
      same_asked = s.same_asked;
      items = s.items ++ c.items;
      at = s.at + n.more;
      next = h.due;
      chain = chain_joins text r.ended asked head 0 s.items c.items s.next h.due s.at (s.at + n.more) s.chain c.chain;
      same = map-append item_at s.items c.items ∙ (λ k. s.same k ++ c.same k);
      left = inl (record { same_due = refl; are = sym (drop-drop n.more s.at text) ∙ n.left });
    } in
    subst (λ (q : Reading). Stands asked text (handed ++ items_in asked p) q) (sym h.is) moved

-- ---- what counts as read

abbrev Waits : List ℕ → Due → ℕ → Due → List ℕ → Type 0
Waits text next at due unread = IsUnread text next at (due_at due unread) (unread_at due unread)

waits_in_head : (text : List ℕ) (next : Due) (at : ℕ) (unread : List ℕ) → IsUnread text next at head unread → Waits text next at head unread
waits_in_head text next at unread (inl u) =
    let f = empty_front unread in
    inr (inl (record { next_is = sym u.same_due; due_is = refl; lines = f.lines; are = u.are ∙ f.are }))
waits_in_head text next at unread (inr (inl u)) =
    let f = empty_front unread in
    inr (inl (record {
      next_is = u.next_is;
      due_is = refl;
      lines = u.lines ++ f.lines;
      are = u.are ∙ ap (λ (t : List ℕ). empties u.lines ++ t) f.are
          ∙ sym (append_assoc (empties u.lines) (empties f.lines) (after_empty_lines unread))
          ∙ ap (λ (t : List ℕ). t ++ after_empty_lines unread) (sym (empties-append u.lines f.lines));
    }))
waits_in_head text next at unread (inr (inr u)) = absurd (no_body u.due_is)
  where
    no_body : head ≡ body (coded u.connection chunks.section) → ⊥
    no_body e = cc

waits_in_coding : (text : List ℕ) (next : Due) (at : ℕ) (connection : List (List ℕ)) (place : chunks.Place) (unread : List ℕ) (s : chunks.Sought)
    → chunks.sought place unread ≡ s → IsUnread text next at (body (coded connection place)) unread
    → IsUnread text next at (body (coded connection (chunks.place_taken place s))) (drop (chunks.section_taken s) unread)
waits_in_coding text next at connection place unread (chunks.data_at n left) is x = x
waits_in_coding text next at connection place unread chunks.waiting is x = x
waits_in_coding text next at connection place unread chunks.malformed is x = x
waits_in_coding text next at connection place unread (chunks.section_at n) is (inl u) = inr (inr (record {
  connection = connection;
  place = place;
  size = n;
  next_is = sym u.same_due;
  due_is = refl;
  found = ap (chunks.sought place) u.are ∙ is;
  are = ap (drop n) u.are;
}))
waits_in_coding text next at connection place unread (chunks.section_at n) is (inr (inl u)) = absurd (no_head u.due_is)
  where
    no_head : body (coded connection place) ≡ head → ⊥
    no_head e = cc
waits_in_coding text next at connection place unread (chunks.section_at n) is (inr (inr u)) = inr (inr (record {
  connection = u.connection;
  place = u.place;
  size = u.size;
  next_is = u.next_is;
  due_is = ap (λ (c : List (List ℕ)). body (coded c chunks.section)) (same_names u.due_is);
  found = u.found;
  are = u.are ∙ ap (λ (k : ℕ). drop k unread) (same_place (sym is ∙ ap (λ (p : chunks.Place). chunks.sought p unread) (same_section u.due_is)));
}))
  where
    same_names : body (coded connection place) ≡ body (coded u.connection chunks.section) → connection ≡ u.connection
    same_names e = cc

    same_section : body (coded connection place) ≡ body (coded u.connection chunks.section) → place ≡ chunks.section
    same_section e = cc

    same_place : chunks.section_at n ≡ chunks.section_at 0 → 0 ≡ n
    same_place e = cc

waits : (text : List ℕ) (next : Due) (at : ℕ) (due : Due) (unread : List ℕ) → IsUnread text next at due unread → Waits text next at due unread
waits text next at head unread left = waits_in_head text next at unread left
waits text next at (body (counted n)) unread left = left
waits text next at (body (coded connection place)) unread left =
    waits_in_coding text next at connection place unread (chunks.sought place unread) refl left
waits text next at (body unbounded) unread left = left
waits text next at done unread left = left

stands_halted : (asked : Option (List ℕ)) (text : List ℕ) (handed : List Item) (r new : Reading) (why : Stop) → Stands asked text handed r → Halts r why new
    → Stands asked text handed new
stands_halted asked text handed r new why s h =
    let waiting_there : Stands asked text handed (awaiting_bytes r) = record {
      same_asked = s.same_asked;
      items = s.items;
      at = s.at;
      next = s.next;
      chain = s.chain;
      same = s.same;
      left = waits text s.next s.at r.due r.unread s.left;
    } in
    subst (λ (q : Reading). Stands asked text handed q) (sym h.is) waiting_there

-- ---- all acts

stands_behind : (asked : Option (List ℕ)) (acts : List Act) (text : List ℕ) (handed : List Item) (old r : Reading) → Stands asked text handed old
    → DoesAll old acts r → Stands asked (text ++ text_of acts) (handed ++ items_handed asked acts) r
stands_behind asked [] text handed old r s d =
    let here : Stands asked text handed r = subst (λ (q : Reading). Stands asked text handed q) (sym d) s in
    subst (λ (t : List ℕ). Stands asked t (handed ++ []) r) (sym (append-nil text))
    (subst (λ (is : List Item). Stands asked text is r) (sym (append-nil handed)) here)
stands_behind asked (feeds bytes ∷ acts) text handed old r s d =
    let here : Stands asked (text ++ bytes) handed d.0 =
    subst (λ (q : Reading). Stands asked (text ++ bytes) handed q) (sym d.1.1) (stands_fed asked text bytes handed old s d.1.0) in
    subst (λ (t : List ℕ). Stands asked t (handed ++ items_handed asked acts) r) (append_assoc text bytes (text_of acts))
    (stands_behind asked acts (text ++ bytes) handed d.0 r here d.2)
stands_behind asked (ends ∷ acts) text handed old r s d =
    let here : Stands asked text handed d.0 =
    subst (λ (q : Reading). Stands asked text handed q) (sym d.1) (stands_finished asked text handed old s) in
    stands_behind asked acts text handed d.0 r here d.2
stands_behind asked (hands p ∷ acts) text handed old r s d =
    subst (λ (is : List Item). Stands asked (text ++ text_of acts) is r) (append_assoc handed (items_in asked p) (items_handed asked acts))
    (stands_behind asked acts text (handed ++ items_in asked p) d.0 r (stands_handed asked text handed old d.0 p s d.1) d.2)
stands_behind asked (halts why ∷ acts) text handed old r s d =
    stands_behind asked acts text handed d.0 r (stands_halted asked text handed old d.0 why s d.1) d.2

-- where no part is next of what is unread, the text stops
stops_there : (text : List ℕ) (ended : Bool) (asked : Option (List ℕ)) (next : Due) (at : ℕ) (due : Due) (unread : List ℕ) (why : Stop)
    → IsUnread text next at due unread → StepsTo ended asked due unread (stop why) → StepsTo ended asked next (drop at text) (stop why)
stops_there text ended asked next at due unread why (inl u) x =
    subst (λ (t : List ℕ). StepsTo ended asked next t (stop why)) (sym u.are)
    (subst (λ (d : Due). StepsTo ended asked d unread (stop why)) u.same_due x)
stops_there text ended asked next at due unread why (inr (inl u)) x =
    let after : after_empty_lines unread ≡ after_empty_lines (drop at text) =
    sym (ap after_empty_lines u.are ∙ after-behind u.lines unread) in
    let here : StepsTo ended asked head unread (stop why) = subst (λ (d : Due). StepsTo ended asked d unread (stop why)) u.due_is x in
    subst (λ (d : Due). StepsTo ended asked d (drop at text) (stop why)) (sym u.next_is) (head_stop ended asked unread (drop at text) why after here)
stops_there text ended asked next at due unread why (inr (inr u)) x =
    let here : StepsTo ended asked (body (coded u.connection chunks.section)) unread (stop why) =
    subst (λ (d : Due). StepsTo ended asked d unread (stop why)) u.due_is x in
    let moved : StepsTo ended asked (body (coded u.connection chunks.section)) (drop u.size (drop at text)) (stop why) =
    subst (λ (t : List ℕ). StepsTo ended asked (body (coded u.connection chunks.section)) t (stop why)) (sym u.are) here in
    let there : StepsTo ended asked (body (coded u.connection u.place)) (drop at text) (stop why) =
    subst (λ (s : chunks.Sought). IsCodedStep ended asked u.connection (drop at text) s (stop why)) (sym u.found)
    (section_goes_behind ended asked u.connection u.size (drop u.size (drop at text)) (stop why) moved) in
    subst (λ (d : Due). StepsTo ended asked d (drop at text) (stop why)) (sym u.next_is) there

-- a new reader stands in front of its text
stands_new : (asked : Option (List ℕ)) → Stands asked [] [] (new_reading asked)
stands_new asked = record {
  same_asked = refl;
  items = [];
  at = 0;
  next = head;
  chain = (refl, refl);
  same = refl;
  left = inl (record { same_due = refl; are = refl });
}

stands_now : (asked : Option (List ℕ)) (acts : List Act) (r : Reading) → DoesAll (new_reading asked) acts r
    → Stands asked (text_of acts) (items_handed asked acts) r
stands_now asked acts r does = stands_behind asked acts [] [] (new_reading asked) r (stands_new asked) does

-- What was handed on by now, whether or not a further part is there: a chain of items from the beginning of the text.
pub record HandedOn (asked : Option (List ℕ)) (acts : List Act) (ended : Bool) : Type 0 where
  pub items : List Placed
  pub at : ℕ
  pub next : Due
  pub chain : Chain (text_of acts) ended asked head 0 items next at
  pub same : map item_at items ≡ items_handed asked acts

pub handed_on : (asked : Option (List ℕ)) (acts : List Act) (r : Reading) → DoesAll (new_reading asked) acts r → HandedOn asked acts r.ended
handed_on asked acts r does =
    let s = stands_now asked acts r does in record { items = s.items; at = s.at; next = s.next; chain = s.chain; same = s.same }

pub pieces_are_whole : PiecesAreWhole
pieces_are_whole asked acts r why does next =
    let s = stands_now asked acts r does in
    let halted : StepsTo r.ended asked r.due r.unread (stop why) =
    subst (λ (a : Option (List ℕ)). StepsTo r.ended a r.due r.unread (stop why)) s.same_asked (none_is_stop r.ended r.asked r.due r.unread why next) in
    let there = stops_there (text_of acts) r.ended asked s.next s.at r.due r.unread why s.left halted in
    record { items = s.items; spelled = chain_spells (text_of acts) r.ended asked head 0 s.items s.next s.at why s.chain there; same = s.same }

pub cuts_alike : CutsAlike
cuts_alike asked acts others r s why reason does did same_text same_end next last =
    let x = pieces_are_whole asked acts r why does next in
    let y = pieces_are_whole asked others s reason did last in
    let text_moved : Messages (text_of others) r.ended asked x.items why =
    subst (λ (t : List ℕ). Messages t r.ended asked x.items why) same_text x.spelled in
    let moved : Messages (text_of others) s.ended asked x.items why =
    subst (λ (e : Bool). Messages (text_of others) e asked x.items why) same_end text_moved in
    let one = one_reading (text_of others) s.ended asked x.items y.items why reason moved y.spelled in
    (sym x.same ∙ ap (map item_at) one.0 ∙ y.same, one.1)
