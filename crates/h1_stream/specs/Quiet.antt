-- When a reader need not look at its text again.
use Rattle.std.specs.Prelude.{◌≡◌, ◌≤◌, ℕ, Bool, true, false, List, length}
use Rattle.h1_chunks.specs.Answers.{IsWithinSection}
use Rattle.h1_chunks.specs.Waits.{IsWithinSize}
use Rattle.h1_stream.specs.declared.reader.Quiet as quiet
use Rattle.h1_stream.specs.declared.reader.Quiet.TheVariants as quiets
use Rattle.h1_model.specs.Lines.{empty_line_bytes, head_cut, unfinished}
use Rattle.h1_model.specs.Messages.{counted, coded, unbounded, Due, head, body, done}

-- a head is due, with no empty lines before it, or a trailer section, and neither its end nor too much of it has come
abbrev pub IsOpen : Due → List ℕ → Type 0
IsOpen head text = (empty_line_bytes text ≡ 0) × (head_cut text ≡ unfinished)
IsOpen (body (counted n)) text = ⊥
IsOpen (body (coded connection place)) text = IsWithinSection place text
IsOpen (body unbounded) text = ⊥
IsOpen done text = ⊥

-- a size line is due that has come as far as into its extensions, and there is room for more of them
abbrev pub IsSizeOpen : Due → List ℕ → Type 0
IsSizeOpen head text = ⊥
IsSizeOpen (body (counted n)) text = ⊥
IsSizeOpen (body (coded connection place)) text = IsWithinSize place text × (length text ≤ 4094)
IsSizeOpen (body unbounded) text = ⊥
IsSizeOpen done text = ⊥

abbrev pub is_quiet : quiet.Quiet → Bool
is_quiet quiets.No = false
is_quiet quiets.Lines = true
is_quiet quiets.Size = true

-- that is all there is of the text so far
abbrev pub IsQuiet : quiet.Quiet → Bool → Due → List ℕ → Type 0
IsQuiet quiets.No ended due text = Unit {0}
IsQuiet quiets.Lines ended due text = (ended ≡ false) × IsOpen due text
IsQuiet quiets.Size ended due text = (ended ≡ false) × IsSizeOpen due text
