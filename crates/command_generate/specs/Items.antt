-- The lines of the summary.
use Rattle.std.specs.Prelude.{ℕ, Bool, if◌then◌else◌, List, [], ◌∷◌, ◌++◌, bytes_eq, codes, decimal, insert}
use Rattle.std.specs.Cmp.Lexicographic.{slice_cmp}
use Rattle.std.specs.List.{count_by, list_any, position_or_len}
use Rattle.std.specs.Ordering.{is_lt, nat_cmp}
use Rattle.workload.specs.declared.tally.Tally.{Tally}

-- whether the bytes of a text come before those of another
abbrev pub comes_before : List ℕ → List ℕ → Bool
comes_before text other = is_lt (slice_cmp nat_cmp text other)

-- a text at its place among others: before the first that comes after it, or at the end; one that is there already stays alone
abbrev pub put_in : List ℕ → List (List ℕ) → List (List ℕ)
put_in text texts = if list_any (bytes_eq text) texts then texts else insert texts (position_or_len (comes_before text) texts) text

abbrev pub put_all : List (List ℕ) → List (List ℕ) → List (List ℕ)
put_all [] texts = texts
put_all (item ∷ items) texts = put_all items (put_in item texts)

-- THE TEXTS OF ITEMS, each once, in the order of their bytes
abbrev pub texts_of : List (List ℕ) → List (List ℕ)
texts_of items = put_all items []

-- how many of the items are this text
abbrev pub count_of : List ℕ → List (List ℕ) → ℕ
count_of text items = count_by (bytes_eq text) items

-- a word, a number and the end of the line
abbrev pub number_line : List ℕ → ℕ → List ℕ
number_line word number = (word ++ decimal number) ++ (10 ∷ [])

-- `item TEXT COUNT`
abbrev pub item_line : List ℕ → ℕ → List ℕ
item_line text count = (codes "item " ++ text) ++ number_line (codes " ") count

abbrev pub lines_of : List (List ℕ) → List (List ℕ) → List ℕ
lines_of items [] = []
lines_of items (text ∷ texts) = item_line text (count_of text items) ++ lines_of items texts

-- A LINE FOR EACH TEXT
abbrev pub item_lines : List (List ℕ) → List ℕ
item_lines items = lines_of items (texts_of items)

-- the lines of the counts
abbrev pub tally_lines : Tally → List ℕ
tally_lines t = number_line (codes "requests ") t.connects ++ (number_line (codes "up ") t.up ++ number_line (codes "down ") t.down)
