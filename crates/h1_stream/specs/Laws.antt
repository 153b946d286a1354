-- At each place of each text something is unread next.
use Rattle.std.specs.Prelude.{◌≡◌, ℕ, Bool, List, Option, ⊤, drop}
use Rattle.h1_model.specs.Chunks.{Place, section_at, sought, run_of}
use Rattle.h1_model.specs.Head.{HeadStep}
use Rattle.h1_model.specs.Lines.{after_empty_lines, whole, head_cut}
use Rattle.h1_model.specs.Messages.{counted, coded, unbounded, Due, head, body, done, SpellsHead}
use Rattle.h1_model.specs.Trailers.{ChunkStep, section_cut, IsEnd, piece_limit}
use Rattle.h1_model.specs.Unread.{Next, IsNext}

-- this is next, for some answer
abbrev pub HasNext : Bool → Option (List ℕ) → Due → List ℕ → Type 0
HasNext ended asked due text = (next : Next) × IsNext ended asked due text next

-- what the trailer section after so many bytes of a text gives
abbrev pub IsEndJudged : ℕ → List ℕ → Type 0
IsEndJudged at text = (c : ChunkStep) × IsEnd at (drop at text) (section_cut (drop at text)) c

-- the same of the section that a place in the coding has next, if it has one
abbrev pub IsSectionJudged : Place → List ℕ → Type 0
IsSectionJudged place text = (at : ℕ) → sought place text ≡ section_at at → IsEndJudged at text

-- What is next is known but for one thing: what the text of a whole head gives, or that of a whole trailer section, where one comes after the
-- data of one piece. `httparse` reads them by its grammar, which is a relation and no test. This says that it is known.
abbrev pub IsJudged : Option (List ℕ) → Due → List ℕ → Type 0
IsJudged asked head text = (h : HeadStep) × SpellsHead asked text h
IsJudged asked (body (counted n)) text = ⊤
IsJudged asked (body (coded connection place)) text =
    let run = run_of piece_limit place text in IsSectionJudged run.place (drop run.used text)
IsJudged asked (body unbounded) text = ⊤
IsJudged asked done text = ⊤

-- where it is known, this is next; so in each body that has a length or goes on until the line ends, and after a whole response
abbrev pub NextWhereJudged : Type 0
NextWhereJudged = (ended : Bool) (asked : Option (List ℕ)) (due : Due) (text : List ℕ) → IsJudged asked due text → HasNext ended asked due text

-- it is known of a head and of a section whose end has not come, or of which too much has
pub record JudgedUnlessWhole : Type 0 where
  pub heads : (asked : Option (List ℕ)) (text : List ℕ) → ((len : ℕ) → head_cut (after_empty_lines text) ≡ whole len → ⊥)
      → IsJudged asked head text
  pub sections : (at : ℕ) (text : List ℕ) → ((len : ℕ) → section_cut (drop at text) ≡ whole len → ⊥) → IsEndJudged at text

-- AT NO PLACE OF NO TEXT IS NOTHING NEXT: from each place on, whatever is due there and whether or not the text has ended, it cannot be that no
-- answer is right.
abbrev pub SomeNext : Type 0
SomeNext = (ended : Bool) (asked : Option (List ℕ)) (due : Due) (text : List ℕ) → (HasNext ended asked due text → ⊥) → ⊥
