-- What each line wants where nothing waits for its peers, and what of that is known.
use Rattle.std.specs.Prelude.{◌≡◌, ◌==◌, position, ℕ, Bool, false, ◌||◌, List, [], ◌∷◌, map, filter, length, nat_lt, Option, None, Some, option_map, slice_get, if◌then◌else◌, ◌⊎◌}
use Rattle.exchange.specs.declared.types.Exchange.{Exchange}
use Rattle.h1_model.specs.Unread.{Reading}
use Rattle.worker_lines.specs.Stirring.{Covers, StirsWithin}
use Rattle.worker_lines.specs.declared.kept.Kept.{Kept}
use Rattle.worker_lines.specs.declared.span.Span.{Span}
use Rattle.worker_model.specs.declared.types.Line.{Line}
use Rattle.worker_model.specs.declared.types.Seen.{Seen}
use Rattle.worker_model.specs.declared.types.Wish.{Wish}
use Rattle.worker_lines.specs.declared.wishes.Wishes.{Wishes}
use Rattle.worker_model.specs.Wants.{earlier}

-- less than 65,536 bytes of a text are unread
abbrev pub takes_more : Reading → Bool
takes_more reading = nat_lt (length reading.unread) 65536

abbrev pub takes_on : Option Reading → Bool
takes_on None = false
takes_on (Some reading) = takes_more reading

-- of the server's text, if there is a connection
abbrev pub takes_up : Option Exchange → Bool
takes_up None = false
takes_up (Some x) = takes_on x.reader

-- when a response that is waited for is due
abbrev pub falls_due : Option Exchange → Option ℕ
falls_due None = None
falls_due (Some x) = if x.is_headed || x.is_answered then None else x.due

abbrev pub wish_of : Line → Wish
wish_of line = record { number = line.number; down = takes_more line.requests; up = takes_up line.exchange; due = falls_due line.exchange }

-- the numbers of lines that want something
abbrev pub lines_with : (Wish → Bool) → List Wish → List ℕ
lines_with takes each = map (λ w. w.number) (filter takes each)

-- the earliest of a moment and of their responses
abbrev pub with_wishes : Option ℕ → List Wish → Option ℕ
with_wishes due [] = due
with_wishes due (w ∷ each) = with_wishes (earlier due w.due) each

-- what is asked of the world by all of them together, but for the moment
pub record Listed (kept : Kept) : Type 0 where
  pub down : kept.wants.down ≡ lines_with (λ w. w.down) kept.each.items
  pub up : kept.wants.up ≡ lines_with (λ w. w.up) kept.each.items
  pub first : kept.first ≡ with_wishes None kept.each.items

-- it is, unless something was done to all lines
pub record Lists (wishes : Wishes) : Type 0 where
  pub at : wishes.touched.is_all ≡ false → Listed wishes.kept

-- at other places the lines want what they wanted
pub record Fits (touched : Span) (each : List Wish) (lines : List Line) : Type 0 where
  pub at : (k : ℕ) → Covers touched k ⊎ (slice_get each k ≡ option_map wish_of (slice_get lines k))

-- something was done at a place more
pub record Touched (was : Wishes) (at : ℕ) (is : Wishes) : Type 0 where
  pub here : Covers is.touched at
  pub others : (k : ℕ) → Covers was.touched k → Covers is.touched k
  pub all : is.touched.is_all ≡ was.touched.is_all
  pub same : is.kept ≡ was.kept

-- the line that was looked for stands there
pub record Sees (seen : Option Seen) (lines : List Line) : Type 0 where
  pub at : (s : Seen) → seen ≡ Some s → position (λ (line : Line). line.number == s.number) lines ≡ Some s.place

-- what is known of the lines: where one of them stands, where something may be due, and what they want
pub record Sound (due : Span) (wishes : Wishes) (seen : Option Seen) (lines : List Line) : Type 0 where
  pub sees : Sees seen lines
  pub stirs : StirsWithin due lines
  pub fits : Fits wishes.touched wishes.kept.each.items lines
  pub lists : Lists wishes
