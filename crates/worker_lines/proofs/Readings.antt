-- What the reader of a line answers.
use Rattle.std.proofs.Common.{◌≡◌, ℕ, ◌==◌, get_or, Bool, List, refl, ap, sym, ◌∙◌, subst}
use Rattle.std.proofs.lemmas.List.{set-get_or}
use Rattle.std.proofs.lemmas.List.Quantifiers.{position-Some}
use Rattle.std.proofs.lemmas.Option.{get_or_from_slice_get, slice_get-get_or}
use Rattle.std.specs.Prelude.{Option, None, Some, Result, Ok, Err, IfOk, OnOk, slice_get, slice_set}
use Rattle.h1_model.specs.Unread.{Reading}
use Rattle.h1_stream.specs.declared.reader.Step as step
use Rattle.worker_model.specs.declared.types.Line.{Line}
use Rattle.worker_lines.specs.Hearing.{HearsLine, HearsOn}
use Rattle.worker_model.specs.Rooms.{place_in}
use Rattle.worker_model.specs.Steps.{in_place, line_in, line_at, line_at_place, line_reading, on_line, read_on}

-- what the reader of a side of a line says, the reader of that side of the line of that number says
pub hears_on : (up : Bool) (number place : ℕ) (lines later : List Line) (line new : Line) (s : Option step.Step) → place_in number lines ≡ Some place → slice_get lines place ≡ Some line
    → later ≡ slice_set lines place new → HearsLine up (line_reading up (Some line)) line s new → HearsOn up number (line_reading up (line_in number lines)) lines s later
hears_on up number place lines later line new s at is set_is hears =
    subst (λ (o : Option Line). HearsOn up number (line_reading up o) lines s later) (sym line_is) (by (line_reading up (Some line)) s hears)
  where
    line_is : line_in number lines ≡ Some line
    line_is = ap (in_place lines) at ∙ is

    on : (f : Line → Line) → on_line f number lines ≡ slice_set lines place (f line)
    on f = ap (line_at_place f lines) at ∙ ap (line_at f lines place) is

    same : slice_set lines place line ≡ lines
    same = ap (slice_set lines place) (sym (get_or_from_slice_get lines place line line is)) ∙ set-get_or lines place line

    by : (o : Option Reading) (t : Option step.Step) → HearsLine up o line t new → HearsOn up number o lines t later
    by None None h = set_is ∙ ap (slice_set lines place) h ∙ same
    by None (Some t) h = h
    by (Some r) None h = h
    by (Some r) (Some t) h = (h.0, h.1, set_is ∙ ap (slice_set lines place) h.2 ∙ sym (on (read_on up h.0)))

pub if_ok : {A E : Type 0} {P Q : A → Type 0} (r : Result A E) → ((a : A) → P a → Q a) → IfOk r P → IfOk r Q
if_ok (Ok a) f p = f a p
if_ok (Err e) f p = p

pub on_ok : {A E : Type 0} {P Q : Type 0} (r : Result A E) → (P → Q) → OnOk r P → OnOk r Q
on_ok (Ok a) f p = f p
on_ok (Err e) f p = p

-- the same of a line that is lent from the list
pub hears_at : (up : Bool) (number place : ℕ) (lines : List Line) (line new : Line) (s : Option step.Step) → place_in number lines ≡ Some place → line ≡ get_or lines place line
    → HearsLine up (line_reading up (Some line)) line s new → HearsOn up number (line_reading up (line_in number lines)) lines s (slice_set lines place new)
hears_at up number place lines line new s at value hears =
    let inside = (position-Some (λ (x : Line). x.number == number) lines place line at).0 in
    hears_on up number place lines (slice_set lines place new) line new s at (slice_get-get_or lines place line inside ∙ ap Some (sym value)) refl hears
