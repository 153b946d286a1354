-- What worked events spell, and what is read of them.
use Rattle.std.specs.Prelude.{◌≡◌, ℕ, true, false, List, [], ◌∷◌, ◌++◌, Option, Some, None, codes}
use Rattle.filter_host.specs.Called.{Calling}
use Rattle.gate_config.specs.declared.config.Config.{Config}
use Rattle.gate_io.specs.declared.event.Side.TheVariants.{Down, Up}
use Rattle.gate_io.specs.declared.event.What.{What}
use Rattle.gate_io.specs.declared.event.What.TheVariants.{Opened, Bytes, End}
use Rattle.h1_model.specs.Examples.{worked_text, worked_response_text, worked_response}
use Rattle.h1_model.specs.Fronts.{AreFronts}
use Rattle.h1_model.specs.Messages.{Item, response, counted, body, done, Stop}
use Rattle.h1_model.specs.Unread.{piece, part, Reading, none, IsNext, text_of, items_handed}
use Rattle.worker_model.specs.Making.{first_room}
use Rattle.worker_model.specs.Plan.{Plan}
use Rattle.worker_model.specs.Steps.{Both, both, line_in}
use Rattle.worker_model.specs.declared.types.Line.{Line}
use Rattle.law_reading.specs.Spelled.{text_of_side, has_ended, IsReadOf}
use Rattle.law_reading.specs.Turns.{OneTurn, Turns, AreWhole, events_of}

-- two requests that come at once; and the same, cut behind some bytes of the second
abbrev pub at_once : List What
at_once = Bytes 1 Down (worked_text ++ worked_text) ∷ []

abbrev pub cut_events : (front rest : List ℕ) → List What
cut_events front rest = Bytes 1 Down (worked_text ++ front) ∷ Bytes 1 Down rest ∷ []

-- two lines whose bytes come in turns, one of which ends, and bytes of a server
abbrev pub woven : List What
woven =
    Bytes 1 Down (codes "GE") ∷ Bytes 2 Down (codes "PO") ∷ Bytes 1 Up (codes "HT") ∷ Bytes 1 Down (codes "T /") ∷ Bytes 2 Down (codes "ST") ∷ End 2 Down
    ∷ Bytes 1 Up (codes "TP") ∷ Bytes 2 Down (codes "x") ∷ []

-- the same as far as it has come then
abbrev pub so_far : (front : List ℕ) → List What
so_far front = Bytes 1 Down (worked_text ++ front) ∷ []

-- the response to a GET in two pieces, between which the client sends; and in one, on another line
abbrev pub get : Option (List ℕ)
get = Some (codes "GET")

abbrev pub in_pieces : List What
in_pieces = Bytes 1 Up (worked_response_text ++ codes "ab") ∷ Bytes 1 Down (codes "x") ∷ Bytes 1 Up (codes "c") ∷ []

abbrev pub in_one : List What
in_one = Bytes 2 Up (worked_response_text ++ codes "abc") ∷ []

-- a reader of it, which handed its head on: its body waits
abbrev pub before_body : Reading
before_body = record { asked = get; ended = false; due = body (counted 3); unread = codes "abc" }

abbrev pub head_alone : List Item
head_alone = response worked_response ∷ []

-- a line is opened, and then that happens, in whole turns of a new worker
pub record IsWorked (H : Type 0) (events : List What) (l : Line) : Type 0 where
  pub calling : Calling H
  pub plan : Plan
  pub config : Config
  pub seed : List ℕ
  pub host : H
  pub turns : List (OneTurn H)
  pub to : Both H
  pub run : Turns calling plan (both host (first_room config seed)) turns to
  pub whole : AreWhole turns
  pub are : events_of turns ≡ Opened 1 ∷ events
  pub there : line_in 1 to.room.lines ≡ Some l

pub record ReadingExamples (H G : Type 0) : Type 0 where
  pub once : text_of_side 1 Down at_once ≡ worked_text ++ worked_text
  pub twice : (front rest : List ℕ) → front ++ rest ≡ worked_text → text_of_side 1 Down (cut_events front rest) ≡ worked_text ++ worked_text
  pub first : text_of_side 1 Down woven ≡ codes "GET /"
  pub second : text_of_side 2 Down woven ≡ codes "POST"
  pub server : text_of_side 1 Up woven ≡ codes "HTTP"
  pub still_open : has_ended 1 Down woven ≡ false
  pub ended : has_ended 2 Down woven ≡ true
  -- so it is read in whole turns, wherever the second request is cut
  pub reads : (l : Line) (front rest : List ℕ) → front ++ rest ≡ worked_text → IsWorked H (cut_events front rest) l → (reads : IsReadOf None 1 Down (cut_events front rest) l.requests) × (text_of reads.acts ≡ worked_text ++ worked_text)
  pub reads_first : (l : Line) → IsWorked H woven l → (reads : IsReadOf None 1 Down woven l.requests) × (text_of reads.acts ≡ codes "GET /")
  -- and in two workers, the one of which is given both at once, the same is handed on, where none of them has a further part
  pub alike : (l m : Line) (front rest : List ℕ) (why reason : Stop) → front ++ rest ≡ worked_text → IsWorked H at_once l → IsWorked G (cut_events front rest) m
      → IsNext l.requests.ended l.requests.asked l.requests.due l.requests.unread (none why) → IsNext m.requests.ended m.requests.asked m.requests.due m.requests.unread (none reason)
      → (one : IsReadOf None 1 Down at_once l.requests) × (other : IsReadOf None 1 Down (cut_events front rest) m.requests) × (items_handed None one.acts ≡ items_handed None other.acts) × (why ≡ reason)
  -- and whether or not they have one, what is handed on of one is a front of what is handed on of the other; so it is while the second request is cut
  pub fronts : (l m : Line) (front rest : List ℕ) → front ++ rest ≡ worked_text → IsWorked H at_once l → IsWorked G (cut_events front rest) m
      → (one : IsReadOf None 1 Down at_once l.requests) × (other : IsReadOf None 1 Down (cut_events front rest) m.requests) × AreFronts (items_handed None one.acts) (items_handed None other.acts)
  pub earlier : (l m : Line) (front rest : List ℕ) → front ++ rest ≡ worked_text → IsWorked H (so_far front) l → IsWorked G at_once m
      → (one : IsReadOf None 1 Down (so_far front) l.requests) × (other : IsReadOf None 1 Down at_once m.requests) × AreFronts (items_handed None one.acts) (items_handed None other.acts)
  -- of a response the head alone was handed on, and a reader has a further part: what any reader hands on of the same text, however it comes, begins with
  -- that head, or is nothing yet
  pub server_reads : (reads : IsReadOf get 1 Up in_pieces before_body) × (items_handed get reads.acts ≡ head_alone)
  pub server_waits : IsNext before_body.ended before_body.asked before_body.due before_body.unread (part (piece (codes "abc") true) 3 done)
  pub server_fronts : (s : Reading) (other : IsReadOf get 2 Up in_one s) → AreFronts head_alone (items_handed get other.acts)
  -- what the definitions refuse: bytes in front of those that came before; those of another line
  pub in_order : (r : Reading) (reads : IsReadOf None 1 Down (Bytes 1 Down (codes "a") ∷ Bytes 1 Down (codes "b") ∷ []) r) → text_of reads.acts ≡ codes "ba" → ⊥
  pub own : (r : Reading) (reads : IsReadOf None 1 Down (Bytes 1 Down (codes "a") ∷ Bytes 2 Down (codes "b") ∷ []) r) → text_of reads.acts ≡ codes "ab" → ⊥
