-- What leaves a line is sent: proofs. Each is proved behind what was sent before, item by item.
use Rattle.std.proofs.Common.{◌≡◌, ℕ, ◌+◌, Bool, true, false, List, [], ◌∷◌, ◌++◌, ap, sym, ◌∙◌, refl, arith}
use Rattle.std.specs.Prelude.{if◌then◌else◌}
use Rattle.std.proofs.lemmas.List.{append_assoc}
use Rattle.filter_chain.specs.declared.item.ChainItem.{ChainItem}
use Rattle.filter_chain.specs.declared.item.ChainItem.TheVariants.{Head, Piece, Trailers}
use Rattle.filter_chain.specs.Items.{bytes_in, item_bytes}
use Rattle.gate_io.specs.declared.event.Sent.{Sent}
use Rattle.gate_io.specs.declared.event.Sent.TheVariants as to
use Rattle.gate_io.specs.declared.event.Side.{Side}
use Rattle.gate_io.specs.declared.event.Side.TheVariants.{Down, Up}
use Rattle.tcp_filters.specs.declared.line.TcpLine.{TcpLine}
use Rattle.tcp_filters.specs.Lines.{bytes_to, send_up, send_down, send_item, send_items}
use Rattle.tcp_filters.specs.Laws.{bytes_of, bytes_for, connects_in, closes_in, new_of, news_in, until_end, WhatLeavesIsSent}

pub append_none : (xs : List ℕ) → xs ++ [] ≡ xs
append_none [] = refl
append_none (x ∷ xs) = ap (λ (l : List ℕ). x ∷ l) (append_none xs)

-- ---- what is sent after other things

bytes_more : (side : Side) (a b : List Sent) → bytes_for side (a ++ b) ≡ bytes_for side a ++ bytes_for side b
bytes_more side [] b = refl
bytes_more side (one ∷ a) b = ap (λ (x : List ℕ). bytes_of side one ++ x) (bytes_more side a b) ∙ sym (append_assoc (bytes_of side one) (bytes_for side a) (bytes_for side b))

connects_more : (a b : List Sent) → connects_in (a ++ b) ≡ connects_in a + connects_in b
connects_more [] b = omega arith
connects_more (one ∷ a) b = let e = connects_more a b in omega arith

closes_more : (a b : List Sent) → closes_in (a ++ b) ≡ closes_in a + closes_in b
closes_more [] b = omega arith
closes_more (one ∷ a) b = let e = closes_more a b in omega arith

-- bytes for a side are those, and none for the other
to_up : (n : ℕ) (bytes : List ℕ) → bytes_for Up (bytes_to n Up bytes) ≡ bytes
to_up n [] = refl
to_up n (b ∷ bytes) = append_none (b ∷ bytes)

to_down : (n : ℕ) (bytes : List ℕ) → bytes_for Down (bytes_to n Down bytes) ≡ bytes
to_down n [] = refl
to_down n (b ∷ bytes) = append_none (b ∷ bytes)

to_up_alone : (n : ℕ) (bytes : List ℕ) → bytes_for Down (bytes_to n Up bytes) ≡ []
to_up_alone n [] = refl
to_up_alone n (b ∷ bytes) = refl

to_down_alone : (n : ℕ) (bytes : List ℕ) → bytes_for Up (bytes_to n Down bytes) ≡ []
to_down_alone n [] = refl
to_down_alone n (b ∷ bytes) = refl

to_opens : (n : ℕ) (side : Side) (bytes : List ℕ) → connects_in (bytes_to n side bytes) ≡ 0
to_opens n side [] = refl
to_opens n side (b ∷ bytes) = refl

to_closes : (n : ℕ) (side : Side) (bytes : List ℕ) → closes_in (bytes_to n side bytes) ≡ 0
to_closes n side [] = refl
to_closes n side (b ∷ bytes) = refl

-- ---- one item, of a line whose connection has not come to its end

first_of : {A : Type 0} (b : Bool) (x y : A) → b ≡ true → (if b then x else y) ≡ x
first_of true x y is = refl
first_of false x y is = cc

second_of : {A : Type 0} (b : Bool) (x y : A) → b ≡ false → (if b then x else y) ≡ y
second_of true x y is = cc
second_of false x y is = refl

item_up : (item : ChainItem) (l : TcpLine) (sent : List Sent) → l.has_ended ≡ false → send_item false item (l, sent) ≡ send_up item (l, sent)
item_up item l sent runs = second_of l.has_ended (l, sent) (send_up item (l, sent)) runs

item_down : (item : ChainItem) (l : TcpLine) (sent : List Sent) → l.has_ended ≡ false → send_item true item (l, sent) ≡ send_down item (l, sent)
item_down item l sent runs = second_of l.has_ended (l, sent) (send_down item (l, sent)) runs

-- nothing leaves once it has
ended_stays : (response : Bool) (items : List ChainItem) (l : TcpLine) (sent : List Sent) → l.has_ended ≡ true → (send_items response items (l, sent)).1 ≡ sent
ended_stays response [] l sent over = refl
ended_stays false (item ∷ items) l sent over =
    ap (λ (ls : TcpLine × List Sent). (send_items false items ls).1) (first_of l.has_ended (l, sent) (send_up item (l, sent)) over) ∙ ended_stays false items l sent over
ended_stays true (item ∷ items) l sent over =
    ap (λ (ls : TcpLine × List Sent). (send_items true items ls).1) (first_of l.has_ended (l, sent) (send_down item (l, sent)) over) ∙ ended_stays true items l sent over

-- ---- a measure of what is sent, item by item

module _ (M : Type 0) (none : M) (join : M → M → M) (of_sent : List Sent → M) (of_item : ChainItem → M) (of_items : List ChainItem → M)
    (right : (x : M) → join x none ≡ x) (assoc : (x y z : M) → join (join x y) z ≡ join x (join y z))
    (no_items : of_items [] ≡ none) (more_items : (item : ChainItem) (items : List ChainItem) → of_items (item ∷ items) ≡ join (of_item item) (of_items items)) where
  -- an item, and then others
  then_more : (item : ChainItem) (items : List ChainItem) (before after : M) → after ≡ join before (of_item item) → join after (of_items items) ≡ join before (of_items (item ∷ items))
  then_more item items before after is = ap (λ (x : M). join x (of_items items)) is ∙ (assoc before (of_item item) (of_items items) ∙ ap (join before) (sym (more_items item items)))

  -- an item, and no other
  then_none : (item : ChainItem) (before after : M) → after ≡ join before (of_item item) → after ≡ join before (of_items (item ∷ []))
  then_none item before after is = is ∙ ap (join before) (sym (right (of_item item)) ∙ (ap (join (of_item item)) (sym no_items) ∙ sym (more_items item [])))

  nothing_more : (before : M) → before ≡ join before (of_items [])
  nothing_more before = sym (right before) ∙ ap (join before) (sym no_items)

  -- towards the server: what was sent before, and all items
  goes_up : ((item : ChainItem) (l : TcpLine) (sent : List Sent) → of_sent (send_up item (l, sent)).1 ≡ join (of_sent sent) (of_item item))
      → (items : List ChainItem) (l : TcpLine) (sent : List Sent) → l.has_ended ≡ false → of_sent (send_items false items (l, sent)).1 ≡ join (of_sent sent) (of_items items)
  goes_up each [] l sent runs = nothing_more (of_sent sent)
  goes_up each (Head end ∷ items) l sent runs =
      ap (λ (ls : TcpLine × List Sent). of_sent (send_items false items ls).1) (item_up (Head end) l sent runs)
      ∙ (goes_up each items (record l { is_up = true }) (sent ++ to.Connect l.number ∷ []) runs
      ∙ then_more (Head end) items (of_sent sent) (of_sent (sent ++ to.Connect l.number ∷ [])) (each (Head end) l sent))
  goes_up each (Piece bytes end ∷ items) l sent runs =
      ap (λ (ls : TcpLine × List Sent). of_sent (send_items false items ls).1) (item_up (Piece bytes end) l sent runs)
      ∙ (goes_up each items l (sent ++ bytes_to l.number Up bytes) runs
      ∙ then_more (Piece bytes end) items (of_sent sent) (of_sent (sent ++ bytes_to l.number Up bytes)) (each (Piece bytes end) l sent))
  goes_up each (Trailers ∷ items) l sent runs =
      ap (λ (ls : TcpLine × List Sent). of_sent (send_items false items ls).1) (item_up Trailers l sent runs)
      ∙ (goes_up each items l sent runs ∙ then_more Trailers items (of_sent sent) (of_sent sent) (each Trailers l sent))

  -- towards the client: what was sent before, and the items up to the first end
  goes_down : ((item : ChainItem) (l : TcpLine) (sent : List Sent) → of_sent (send_down item (l, sent)).1 ≡ join (of_sent sent) (of_item item))
      → (items : List ChainItem) (l : TcpLine) (sent : List Sent) → l.has_ended ≡ false → of_sent (send_items true items (l, sent)).1 ≡ join (of_sent sent) (of_items (until_end items))
  goes_down each [] l sent runs = nothing_more (of_sent sent)
  goes_down each (Head end ∷ items) l sent runs =
      ap (λ (ls : TcpLine × List Sent). of_sent (send_items true items ls).1) (item_down (Head end) l sent runs)
      ∙ (goes_down each items l sent runs ∙ then_more (Head end) (until_end items) (of_sent sent) (of_sent sent) (each (Head end) l sent))
  goes_down each (Piece bytes true ∷ items) l sent runs =
      ap (λ (ls : TcpLine × List Sent). of_sent (send_items true items ls).1) (item_down (Piece bytes true) l sent runs)
      ∙ (ap of_sent (ended_stays true items (record l { has_ended = true }) (sent ++ bytes_to l.number Down bytes) refl)
      ∙ then_none (Piece bytes true) (of_sent sent) (of_sent (sent ++ bytes_to l.number Down bytes)) (each (Piece bytes true) l sent))
  goes_down each (Piece bytes false ∷ items) l sent runs =
      ap (λ (ls : TcpLine × List Sent). of_sent (send_items true items ls).1) (item_down (Piece bytes false) l sent runs)
      ∙ (goes_down each items (record l { has_ended = false }) (sent ++ bytes_to l.number Down bytes) refl
      ∙ then_more (Piece bytes false) (until_end items) (of_sent sent) (of_sent (sent ++ bytes_to l.number Down bytes)) (each (Piece bytes false) l sent))
  goes_down each (Trailers ∷ items) l sent runs =
      ap (λ (ls : TcpLine × List Sent). of_sent (send_items true items ls).1) (item_down Trailers l sent runs)
      ∙ (goes_down each items l sent runs ∙ then_more Trailers (until_end items) (of_sent sent) (of_sent sent) (each Trailers l sent))

-- ---- the measures of one item

plus_none : (x : ℕ) → x + 0 ≡ x
plus_none x = omega arith

plus_assoc : (x y z : ℕ) → (x + y) + z ≡ x + (y + z)
plus_assoc x y z = omega arith

abbrev both : List ℕ → List ℕ → List ℕ
both a b = a ++ b

up_one : (item : ChainItem) (l : TcpLine) (sent : List Sent) → bytes_for Up (send_up item (l, sent)).1 ≡ bytes_for Up sent ++ bytes_in item
up_one (Head end) l sent = bytes_more Up sent (to.Connect l.number ∷ [])
up_one (Piece bytes end) l sent = bytes_more Up sent (bytes_to l.number Up bytes) ∙ ap (λ (x : List ℕ). bytes_for Up sent ++ x) (to_up l.number bytes)
up_one Trailers l sent = sym (append_none (bytes_for Up sent))

up_alone_one : (item : ChainItem) (l : TcpLine) (sent : List Sent) → bytes_for Down (send_up item (l, sent)).1 ≡ bytes_for Down sent ++ []
up_alone_one (Head end) l sent = bytes_more Down sent (to.Connect l.number ∷ [])
up_alone_one (Piece bytes end) l sent = bytes_more Down sent (bytes_to l.number Up bytes) ∙ ap (λ (x : List ℕ). bytes_for Down sent ++ x) (to_up_alone l.number bytes)
up_alone_one Trailers l sent = sym (append_none (bytes_for Down sent))

up_opens_one : (item : ChainItem) (l : TcpLine) (sent : List Sent) → connects_in (send_up item (l, sent)).1 ≡ connects_in sent + new_of item
up_opens_one (Head end) l sent = connects_more sent (to.Connect l.number ∷ [])
up_opens_one (Piece bytes end) l sent = connects_more sent (bytes_to l.number Up bytes) ∙ ap (λ (x : ℕ). connects_in sent + x) (to_opens l.number Up bytes)
up_opens_one Trailers l sent = sym (plus_none (connects_in sent))

up_closes_one : (item : ChainItem) (l : TcpLine) (sent : List Sent) → closes_in (send_up item (l, sent)).1 ≡ closes_in sent + 0
up_closes_one (Head end) l sent = closes_more sent (to.Connect l.number ∷ [])
up_closes_one (Piece bytes end) l sent = closes_more sent (bytes_to l.number Up bytes) ∙ ap (λ (x : ℕ). closes_in sent + x) (to_closes l.number Up bytes)
up_closes_one Trailers l sent = sym (plus_none (closes_in sent))

down_one : (item : ChainItem) (l : TcpLine) (sent : List Sent) → bytes_for Down (send_down item (l, sent)).1 ≡ bytes_for Down sent ++ bytes_in item
down_one (Head end) l sent = sym (append_none (bytes_for Down sent))
down_one (Piece bytes end) l sent = bytes_more Down sent (bytes_to l.number Down bytes) ∙ ap (λ (x : List ℕ). bytes_for Down sent ++ x) (to_down l.number bytes)
down_one Trailers l sent = sym (append_none (bytes_for Down sent))

down_alone_one : (item : ChainItem) (l : TcpLine) (sent : List Sent) → bytes_for Up (send_down item (l, sent)).1 ≡ bytes_for Up sent ++ []
down_alone_one (Head end) l sent = sym (append_none (bytes_for Up sent))
down_alone_one (Piece bytes end) l sent = bytes_more Up sent (bytes_to l.number Down bytes) ∙ ap (λ (x : List ℕ). bytes_for Up sent ++ x) (to_down_alone l.number bytes)
down_alone_one Trailers l sent = sym (append_none (bytes_for Up sent))

down_opens_one : (item : ChainItem) (l : TcpLine) (sent : List Sent) → connects_in (send_down item (l, sent)).1 ≡ connects_in sent + 0
down_opens_one (Head end) l sent = sym (plus_none (connects_in sent))
down_opens_one (Piece bytes end) l sent = connects_more sent (bytes_to l.number Down bytes) ∙ ap (λ (x : ℕ). connects_in sent + x) (to_opens l.number Down bytes)
down_opens_one Trailers l sent = sym (plus_none (connects_in sent))

down_closes_one : (item : ChainItem) (l : TcpLine) (sent : List Sent) → closes_in (send_down item (l, sent)).1 ≡ closes_in sent + 0
down_closes_one (Head end) l sent = sym (plus_none (closes_in sent))
down_closes_one (Piece bytes end) l sent = closes_more sent (bytes_to l.number Down bytes) ∙ ap (λ (x : ℕ). closes_in sent + x) (to_closes l.number Down bytes)
down_closes_one Trailers l sent = sym (plus_none (closes_in sent))

zero_plus : (x : ℕ) → 0 + x ≡ x
zero_plus x = omega arith

-- ---- the law

abbrev no_bytes : List ChainItem → List ℕ
no_bytes items = []

abbrev none_of : List ChainItem → ℕ
none_of items = 0

pub what_leaves_is_sent : WhatLeavesIsSent
what_leaves_is_sent = record {
  up = λ items l runs. goes_up (List ℕ) [] both (bytes_for Up) bytes_in item_bytes append_none append_assoc refl (λ item more. refl) up_one items l [] runs;
  up_alone = λ items l runs. goes_up (List ℕ) [] both (bytes_for Down) (λ item. []) no_bytes append_none append_assoc refl (λ item more. refl) up_alone_one items l [] runs;
  up_opens = λ items l runs. goes_up ℕ 0 (λ x y. x + y) connects_in new_of news_in plus_none plus_assoc refl (λ item more. refl) up_opens_one items l [] runs ∙ zero_plus (news_in items);
  up_closes = λ items l runs. goes_up ℕ 0 (λ x y. x + y) closes_in (λ item. 0) none_of plus_none plus_assoc refl (λ item more. refl) up_closes_one items l [] runs;
  down = λ items l runs. goes_down (List ℕ) [] both (bytes_for Down) bytes_in item_bytes append_none append_assoc refl (λ item more. refl) down_one items l [] runs;
  down_alone = λ items l runs. goes_down (List ℕ) [] both (bytes_for Up) (λ item. []) no_bytes append_none append_assoc refl (λ item more. refl) down_alone_one items l [] runs;
  down_opens = λ items l runs. goes_down ℕ 0 (λ x y. x + y) connects_in (λ item. 0) none_of plus_none plus_assoc refl (λ item more. refl) down_opens_one items l [] runs;
  down_closes = λ items l runs. goes_down ℕ 0 (λ x y. x + y) closes_in (λ item. 0) none_of plus_none plus_assoc refl (λ item more. refl) down_closes_one items l [] runs;
  after_the_end = λ response items l over. ended_stays response items l [] over;
}
