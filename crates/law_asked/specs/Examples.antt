-- Worked examples: the head of a request passes four filters.
use Rattle.std.specs.Prelude.{◌≡◌, true, false, List, [], ◌∷◌, ◌++◌, None}
use Rattle.contexts.specs.declared.parts.Contexts.{Contexts}
use Rattle.contexts.specs.Creating.{stream_created}
use Rattle.filter_chain.specs.declared.item.ChainItem.{ChainItem}
use Rattle.filter_chain.specs.declared.item.ChainItem.TheVariants.{Head, Piece}
use Rattle.filter_chain.specs.Examples.{host, idle}
use Rattle.law_chain.specs.Acts.{Act, comes, calls, answers, resumes, lets, Standing, left_by}
use Rattle.law_asked.specs.Asked.{asked_of, gone_of, AreKept, Gathered, ComeOf, AreUnused}

-- one VM with a root, 1, and four streams of it, 2 to 5
abbrev pub host_of_four : Contexts
host_of_four = stream_created 0 1 7 (stream_created 0 1 7 host)

abbrev pub four : Standing
four = record { due = None; contexts = host_of_four; stages = idle 2 ∷ idle 3 ∷ idle 4 ∷ idle 5 ∷ [] }

-- a callback is asked, and answers Continue, or else Pause
abbrev pub goes : List Act
goes = calls host_of_four ∷ answers 0 ∷ []

abbrev pub holds : List Act
holds = calls host_of_four ∷ answers 1 ∷ []

-- ---- EACH OF FOUR lets the head go on

abbrev pub all_go : List Act
all_go = comes (Head true) ∷ goes ++ goes ++ goes ++ goes

abbrev pub three_went : List Act
three_went = comes (Head true) ∷ goes ++ goes ++ goes

-- ---- THE SECOND HOLDS THE HEAD, and is resumed later; the other two are asked only then

abbrev pub second_holds : List Act
second_holds = comes (Head true) ∷ goes ++ holds

abbrev pub second_resumed : List Act
second_resumed = second_holds ++ resumes 1 ∷ goes ++ goes

-- ---- THE VM OF THE THIRD DIES before the head comes to it

abbrev pub third_dies : List Act
third_dies = comes (Head true) ∷ goes ++ lets 2 ∷ goes ++ goes

abbrev pub the_head : List ChainItem
the_head = Head true ∷ []

pub record AskedExamples : Type 0 where
  pub unused : AreUnused four.stages
  -- all four are asked, and the head leaves after the fourth
  pub first_asked : asked_of 0 all_go four ≡ the_head
  pub second_asked : asked_of 1 all_go four ≡ the_head
  pub third_asked : asked_of 2 all_go four ≡ the_head
  pub fourth_asked : asked_of 3 all_go four ≡ the_head
  pub fourth_lets : gone_of 3 all_go four ≡ the_head
  pub all_left : left_by all_go four ≡ the_head
  -- where three let it go on, it has not left
  pub three_left : left_by three_went four ≡ []
  pub three_asked : asked_of 3 three_went four ≡ []
  -- while the second holds it, the third is not asked; it was asked, and has let nothing go on
  pub held_asked : asked_of 1 second_holds four ≡ the_head
  pub held_goes : gone_of 1 second_holds four ≡ []
  pub held_next : asked_of 2 second_holds four ≡ []
  pub held_left : left_by second_holds four ≡ []
  -- when it is resumed it lets the head go on, without being asked again
  pub resumed_asked : asked_of 1 second_resumed four ≡ the_head
  pub resumed_goes : gone_of 1 second_resumed four ≡ the_head
  pub resumed_next : asked_of 2 second_resumed four ≡ the_head
  pub resumed_last : asked_of 3 second_resumed four ≡ the_head
  pub resumed_left : left_by second_resumed four ≡ the_head
  -- a stage that is let through is not asked; the law says nothing of it, and the others are
  pub dead_asked : asked_of 2 third_dies four ≡ []
  pub dead_left : left_by third_dies four ≡ the_head
  pub dead_kept : AreKept 2 third_dies → ⊥
  pub others_kept : AreKept 3 third_dies
  pub others_asked : asked_of 3 third_dies four ≡ the_head
  -- a head does not come of nothing, nor of a piece; and pieces may be joined
  pub no_head_of_nothing : ComeOf the_head [] → ⊥
  pub no_head_of_a_piece : ComeOf the_head (Piece [] false ∷ []) → ⊥
  pub no_head_is_lost : Gathered the_head [] → ⊥
  pub pieces_join : ComeOf (Piece [] true ∷ []) (Piece [] false ∷ Piece [] true ∷ [])
