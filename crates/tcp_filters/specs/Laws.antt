-- WHAT HOLDS OF EVERY LINE. What leaves it is sent: its bytes, in order, to their side alone; a connection is opened where New leaves, and none is
-- closed. And what is too much changes nothing.
use Rattle.std.specs.Prelude.{◌≡◌, ℕ, ◌+◌, Bool, true, false, List, [], ◌∷◌, ◌++◌}
use Rattle.contexts.specs.declared.parts.Contexts.{Contexts}
use Rattle.filter_chain.specs.declared.item.ChainItem.{ChainItem}
use Rattle.filter_chain.specs.declared.item.ChainItem.TheVariants.{Head, Piece, Trailers}
use Rattle.filter_chain.specs.Items.{item_bytes}
use Rattle.gate_io.specs.declared.event.Sent.{Sent}
use Rattle.gate_io.specs.declared.event.Sent.TheVariants as to
use Rattle.gate_io.specs.declared.event.Side.{Side}
use Rattle.gate_io.specs.declared.event.Side.TheVariants.{Down, Up}
use Rattle.gate_io.specs.declared.event.What.{What}
use Rattle.tcp_filters.specs.declared.line.TcpLine.{TcpLine}
use Rattle.tcp_filters.specs.declared.types.Action.{Action}
use Rattle.tcp_filters.specs.declared.types.TcpOutcome.TheVariants.{Over, Sends}
use Rattle.tcp_filters.specs.Lines.{Outcome, send_items, take_event, resume_at, let_through_at, answer_at, pause_at}

-- these bytes, where the sides are the same
abbrev pub where_same : Side → Side → List ℕ → List ℕ
where_same Down Down bytes = bytes
where_same Down Up bytes = []
where_same Up Down bytes = []
where_same Up Up bytes = bytes

-- the bytes in what is sent that one thing of it has for a side
abbrev pub bytes_of : Side → Sent → List ℕ
bytes_of side (to.Connect n) = []
bytes_of side (to.Bytes n s bytes) = where_same side s bytes
bytes_of side (to.Close n s) = []
bytes_of side (to.Log level text) = []

-- all bytes that are sent to a side, joined
abbrev pub bytes_for : Side → List Sent → List ℕ
bytes_for side [] = []
bytes_for side (one ∷ sent) = bytes_of side one ++ bytes_for side sent

-- 1 for the opening of a connection to the server
abbrev pub connects_of : Sent → ℕ
connects_of (to.Connect n) = 1
connects_of (to.Bytes n s bytes) = 0
connects_of (to.Close n s) = 0
connects_of (to.Log level text) = 0

-- how many connections are opened
abbrev pub connects_in : List Sent → ℕ
connects_in [] = 0
connects_in (one ∷ sent) = connects_of one + connects_in sent

-- 1 for the closing of a connection
abbrev pub closes_of : Sent → ℕ
closes_of (to.Connect n) = 0
closes_of (to.Bytes n s bytes) = 0
closes_of (to.Close n s) = 1
closes_of (to.Log level text) = 0

-- how many connections are closed
abbrev pub closes_in : List Sent → ℕ
closes_in [] = 0
closes_in (one ∷ sent) = closes_of one + closes_in sent

-- 1 for New
abbrev pub new_of : ChainItem → ℕ
new_of (Head end) = 1
new_of (Piece bytes end) = 0
new_of Trailers = 0

-- how often New is among these
abbrev pub news_in : List ChainItem → ℕ
news_in [] = 0
news_in (item ∷ items) = new_of item + news_in items

-- the items up to the first end, and with it
abbrev pub until_end : List ChainItem → List ChainItem
until_end [] = []
until_end (Head end ∷ items) = Head end ∷ until_end items
until_end (Piece bytes true ∷ items) = Piece bytes true ∷ []
until_end (Piece bytes false ∷ items) = Piece bytes false ∷ until_end items
until_end (Trailers ∷ items) = Trailers ∷ until_end items

-- what is sent where these leave, of a line whose connection has not come to its end
abbrev pub sent_of : Bool → List ChainItem → TcpLine → List Sent
sent_of response items l = (send_items response items (l, [])).1

-- THE LAW, of both directions
pub record WhatLeavesIsSent : Type 0 where
  -- towards the server all bytes are sent, and an end sends nothing
  pub up : (items : List ChainItem) (l : TcpLine) → l.has_ended ≡ false → bytes_for Up (sent_of false items l) ≡ item_bytes items
  pub up_alone : (items : List ChainItem) (l : TcpLine) → l.has_ended ≡ false → bytes_for Down (sent_of false items l) ≡ []
  pub up_opens : (items : List ChainItem) (l : TcpLine) → l.has_ended ≡ false → connects_in (sent_of false items l) ≡ news_in items
  pub up_closes : (items : List ChainItem) (l : TcpLine) → l.has_ended ≡ false → closes_in (sent_of false items l) ≡ 0
  -- towards the client those are sent that come up to the first end
  pub down : (items : List ChainItem) (l : TcpLine) → l.has_ended ≡ false → bytes_for Down (sent_of true items l) ≡ item_bytes (until_end items)
  pub down_alone : (items : List ChainItem) (l : TcpLine) → l.has_ended ≡ false → bytes_for Up (sent_of true items l) ≡ []
  pub down_opens : (items : List ChainItem) (l : TcpLine) → l.has_ended ≡ false → connects_in (sent_of true items l) ≡ 0
  pub down_closes : (items : List ChainItem) (l : TcpLine) → l.has_ended ≡ false → closes_in (sent_of true items l) ≡ 0
  -- nothing is sent once the connection has come to its end
  pub after_the_end : (response : Bool) (items : List ChainItem) (l : TcpLine) → l.has_ended ≡ true → sent_of response items l ≡ []

-- where it was too much, the line and the contexts are these
abbrev pub StaysIfOver : TcpLine → Contexts → Outcome → Type 0
StaysIfOver l h (Sends sent, after, held) = Unit {0}
StaysIfOver l h (Over, after, held) = (after ≡ l) × (held ≡ h)

-- WHAT IS TOO MUCH CHANGES NOTHING, but that a callback which was answered has returned
pub record OverChangesNothing : Type 0 where
  pub at_event : (what : What) (h : Contexts) (l : TcpLine) → StaysIfOver l h (take_event what h l)
  pub at_resume : (response : Bool) (k : ℕ) (l : TcpLine) (h : Contexts) → StaysIfOver l h (resume_at response k l h)
  pub at_let_through : (response : Bool) (k : ℕ) (l : TcpLine) (h : Contexts) → StaysIfOver l h (let_through_at response k l h)
  pub at_answer : (action : Action) (response : Bool) (k : ℕ) (l : TcpLine) (h : Contexts) → StaysIfOver l (pause_at response k l h) (answer_at action response k l h)
