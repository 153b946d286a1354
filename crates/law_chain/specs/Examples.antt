-- Worked examples: three pieces pass two filters.
use Rattle.std.specs.Prelude.{◌≡◌, ℕ, true, false, List, [], ◌∷◌, ◌++◌, None, codes}
use Rattle.contexts.specs.declared.parts.StageBuffer as parts
use Rattle.contexts.specs.declared.parts.Contexts.{Contexts}
use Rattle.contexts.specs.Stages.{stage_changed}
use Rattle.filter_chain.specs.declared.stage.Stage.{Stage}
use Rattle.filter_chain.specs.declared.item.Asking.{Asking}
use Rattle.filter_chain.specs.declared.item.ChainItem.{ChainItem}
use Rattle.filter_chain.specs.declared.item.ChainItem.TheVariants.{Head, Piece, Trailers}
use Rattle.filter_chain.specs.Chains.{asked}
use Rattle.filter_chain.specs.Examples.{host, two}
use Rattle.filter_chain.specs.Items.{item_bytes}
use Rattle.law_chain.specs.Acts.{Act, comes, calls, answers, resumes, lets, Standing, done_by, left_by, items_put, buffers_by, stands_after, behind, AreActs}
use Rattle.law_chain.specs.PassThrough.{has_end, bare_all, bare_in, Thinner, IsInOrder, IsNew}

-- ---- scripts of acts

-- An item comes; a callback comes, which leaves all buffers as they are, or writes into that of the second filter; its action is put in force; the
-- first filter is resumed; the VM of the filter at a place dies, and it is let through.
pub data Play : Type 0 where
  reads : ChainItem → Play
  looks : Play
  writes : List ℕ → Play
  acts : ℕ → Play
  wakes : Play
  dies : ℕ → Play

-- the contexts when a stage was asked
abbrev pub asked_with : Asking × List Stage × Contexts → Contexts
asked_with (asking, stages, h) = h

-- the buffer of the second filter
abbrev pub written : List ℕ → Contexts → Contexts
written bytes h = stage_changed (λ (t : parts.StageBuffer). record t { held = bytes }) h 0 3 false

abbrev pub act_of : Play → Standing → Act
act_of (reads item) w = comes item
act_of looks w = calls (asked_with (asked w.contexts w.stages))
act_of (writes bytes) w = calls (written bytes (asked_with (asked w.contexts w.stages)))
act_of (acts value) w = answers value
act_of wakes w = resumes 0
act_of (dies k) w = lets k

abbrev pub played : List Play → Standing → List Act
played [] w = []
played (p ∷ plays) w = act_of p w ∷ played plays (done_by (act_of p w) w).1

-- two filters, of contexts 2 and 3 of one VM
abbrev pub start : Standing
start = record { due = None; contexts = host; stages = two }

abbrev pub played_here : List Play → List Act
played_here plays = played plays start

-- ---- THE SECOND FILTER CHANGES A PIECE: the body is `abcdef` in three pieces, and its body callback writes `XYZ` in place of `cd`

-- the first filter lets an item go on, then the second
abbrev pub passes_both : List Play
passes_both = looks ∷ acts 0 ∷ looks ∷ acts 0 ∷ []

abbrev pub first_piece : List Play
first_piece = reads (Head false) ∷ passes_both ++ reads (Piece (codes "ab") false) ∷ passes_both

abbrev pub changes_piece : List Play
changes_piece = reads (Piece (codes "cd") false) ∷ looks ∷ acts 0 ∷ writes (codes "XYZ") ∷ acts 0 ∷ []

abbrev pub last_piece : List Play
last_piece = reads (Piece (codes "ef") true) ∷ passes_both

abbrev pub changed : List Act
changed = played_here (first_piece ++ changes_piece ++ last_piece)

-- the same, when the callback has just written
abbrev pub changing : List Act
changing = played_here (first_piece ++ reads (Piece (codes "cd") false) ∷ looks ∷ acts 0 ∷ writes (codes "XYZ") ∷ [])

-- ---- THE FIRST FILTER HOLDS THE HEAD, and is resumed; no buffer is changed

abbrev pub holds_head : List Play
holds_head = reads (Head false) ∷ looks ∷ acts 1 ∷ reads (Piece (codes "ab") false) ∷ []

abbrev pub held_up : List Act
held_up = played_here holds_head

abbrev pub resumed : List Act
resumed = played_here (holds_head ++ wakes ∷ passes_both)

-- ---- THE FIRST FILTER'S VM DIES while it holds the head: what it held and what waits at it goes to the second, and so does what comes

abbrev pub let_on : List Act
let_on = played_here (holds_head ++ dies 0 ∷ passes_both ++ reads (Piece (codes "cd") true) ∷ looks ∷ acts 0 ∷ [])

pub record PassThroughExamples : Type 0 where
  -- nothing passed the two filters yet
  pub start_new : IsNew start
  -- the acts are those of the law, with the second filter the last that has a body callback
  pub changed_acts : AreActs 2 changed start
  pub changed_order : IsInOrder (items_put changed)
  pub changed_left : item_bytes (left_by changed start) ≡ codes "abXYZef"
  pub changed_buffers : buffers_by 1 changed start ≡ codes "abXYZef"
  pub changed_came : item_bytes (items_put changed) ≡ codes "abcdef"
  pub changed_ends : has_end (left_by changed start) ≡ true
  -- the head and three pieces left, the last with the end, and nothing is in the chain
  pub changed_bare : bare_all (left_by changed start) ≡ Head false ∷ Piece [] false ∷ Piece [] false ∷ Piece [] true ∷ []
  pub changed_inside : bare_in (stands_after changed start).stages ≡ []
  -- what was written has not left yet
  pub changing_acts : AreActs 2 changing start
  pub changing_left : item_bytes (left_by changing start) ≡ codes "ab"
  pub changing_buffers : buffers_by 1 changing start ≡ codes "abXYZ"
  pub changing_ends : has_end (left_by changing start) ≡ false
  pub changing_behind : behind 2 (stands_after changing start) ≡ codes "XYZ"
  pub changing_inside : bare_in (stands_after changing start).stages ≡ Piece [] false ∷ []
  -- no buffer is changed: nothing passes while the head is held, and what came passes after it
  pub held_acts : AreActs 0 held_up start
  pub held_left : left_by held_up start ≡ []
  pub held_came : item_bytes (items_put held_up) ≡ codes "ab"
  pub held_behind : behind 0 (stands_after held_up start) ≡ codes "ab"
  pub held_inside : bare_in (stands_after held_up start).stages ≡ Head false ∷ Piece [] false ∷ []
  pub resumed_acts : AreActs 0 resumed start
  pub resumed_left : left_by resumed start ≡ Head false ∷ []
  pub resumed_behind : behind 0 (stands_after resumed start) ≡ codes "ab"
  pub let_acts : AreActs 2 let_on start
  pub let_left : left_by let_on start ≡ Head false ∷ Piece (codes "ab") false ∷ Piece (codes "cd") true ∷ []
  pub let_buffers : buffers_by 1 let_on start ≡ codes "abcd"
  -- the last one with a body callback is let through in no act of the law with it as the last
  pub last_stays : AreActs 2 (lets 1 ∷ []) start → ⊥
  pub others_may : AreActs 0 (lets 1 ∷ []) start
  -- a piece that is not the end may be dropped; nothing else may, and nothing may be put elsewhere
  pub dropped : Thinner (Head false ∷ Piece [] false ∷ Trailers ∷ []) (Head false ∷ Trailers ∷ [])
  pub no_end_dropped : Thinner (Head false ∷ Piece [] true ∷ []) (Head false ∷ []) → ⊥
  pub no_trailers_for_an_end : Thinner (Head false ∷ Piece [] true ∷ []) (Head false ∷ Piece [] false ∷ Trailers ∷ []) → ⊥
  pub no_head_behind : Thinner (Head false ∷ Piece [] true ∷ []) (Piece [] true ∷ Head false ∷ []) → ⊥
