-- Names that are looked for, and their marks, worked.
use Rattle.std.specs.Prelude.{◌≡◌, ◌++◌, ◌∷◌, [], ℕ, true, false, List, Option, None, Some, codes, replicate}
use Rattle.h1_text.specs.declared.names.NamesLeft.TheVariants as nexts
use Rattle.h1_text.specs.declared.names.Node.{Node}
use Rattle.h1_text.specs.Names.{found_in, is_met_among}

-- the names x-a, X-B and host, numbers 0 to 2: at place 0 the first two and the third differ, at place 2 the first two
abbrev some_names : List (List ℕ)
some_names = codes "x-a" ∷ codes "X-B" ∷ codes "host" ∷ []

abbrev some_nodes : List Node
some_nodes =
    record { place = 0; one = 0; next = replicate 104 nexts.Nothing ++ nexts.Name 2 ∷ replicate 15 nexts.Nothing ++ nexts.Node 1 ∷ replicate 7 nexts.Nothing }
    ∷ record { place = 2; one = 0; next = replicate 97 nexts.Nothing ++ nexts.Name 0 ∷ nexts.Name 1 ∷ replicate 29 nexts.Nothing }
    ∷ []

abbrev search : List ℕ → Option ℕ
search name = found_in some_names some_nodes (nexts.Node 0) name

-- a name is found under its number, in any case of letters; one that goes the same way and is another, one that is longer, and none at all are not found
pub record SearchExamples : Type 0 where
  pub first : search (codes "x-a") ≡ Some 0
  pub second : search (codes "x-b") ≡ Some 1
  pub third : search (codes "host") ≡ Some 2
  pub like : search (codes "y-a") ≡ None
  pub way : search (codes "x+a") ≡ None
  pub longer : search (codes "x-aa") ≡ None
  pub front : search (codes "x-") ≡ None
  pub empty : search [] ≡ None

-- by two values of Connection the second name alone is marked, which stands last in the second of them, and not its neighbours
pub record MarkExamples : Type 0 where
  pub first : is_met_among search 0 (codes "close, q" ∷ codes "keep-alive,x-b" ∷ []) ≡ false
  pub second : is_met_among search 1 (codes "close, q" ∷ codes "keep-alive,x-b" ∷ []) ≡ true
  pub third : is_met_among search 2 (codes "close, q" ∷ codes "keep-alive,x-b" ∷ []) ≡ false
  pub blanks : is_met_among search 2 (codes ",, HOST ,x-b" ∷ []) ≡ true
  pub none : is_met_among search 0 [] ≡ false
