-- Worked lines.
use Rattle.std.specs.Prelude.{◌≡◌, ℕ, List, [], ◌∷◌, ◌++◌, codes}
use Rattle.command_generate.specs.Items.{item_lines, tally_lines, texts_of}

-- five items: two of one text, one that begins another, and one of no byte
abbrev items : List (List ℕ)
items = codes "/k7" ∷ codes "/k0" ∷ codes "/k7" ∷ codes "/k" ∷ [] ∷ []

pub record LineExamples : Type 0 where
  pub texts : texts_of items ≡ [] ∷ codes "/k" ∷ codes "/k0" ∷ codes "/k7" ∷ []
  pub lines : item_lines items ≡ codes "item  1\n" ++ codes "item /k 1\n" ++ codes "item /k0 1\n" ++ codes "item /k7 2\n"
  pub none : item_lines [] ≡ []
  pub tally : tally_lines (record { connects = 1024; up = 614826; down = 55296 }) ≡ codes "requests 1024\n" ++ codes "up 614826\n" ++ codes "down 55296\n"
