-- Worked examples: chains of two filters, and what passes them.
use Rattle.std.specs.Prelude.{◌≡◌, ℕ, Bool, true, false, List, [], ◌∷◌, ◌++◌, Option, None, Some, codes}
use Rattle.gate_base.specs.declared.level.Level.TheVariants as levels
use Rattle.contexts.specs.declared.parts.Contexts.{Contexts}
use Rattle.contexts.specs.Creating.{root_created, stream_created}
use Rattle.contexts.specs.Making.{no_contexts, with_vm, with_plugin}
use Rattle.contexts.specs.Stages.{held_at}
use Rattle.filter_chain.specs.declared.stage.Stage.{Stage}
use Rattle.filter_chain.specs.declared.item.ChainItem.{ChainItem}
use Rattle.filter_chain.specs.declared.item.ChainItem.TheVariants.{Head, Piece, Trailers}
use Rattle.filter_chain.specs.declared.item.Held.TheVariants as held
use Rattle.filter_chain.specs.declared.item.Ask.{Ask}
use Rattle.filter_chain.specs.declared.item.AskKind.{AskKind}
use Rattle.filter_chain.specs.declared.item.AskKind.TheVariants as kinds
use Rattle.filter_chain.specs.declared.item.Asking.{Asking}
use Rattle.filter_chain.specs.declared.item.Asking.TheVariants.{Nothing, Over, Asks}
use Rattle.filter_chain.specs.declared.item.PassOutcome.{PassOutcome}
use Rattle.filter_chain.specs.declared.item.PassOutcome.TheVariants as passed
use Rattle.filter_chain.specs.Chains.{put, asked, continued, paused, let_through, reach_count, fits}
use Rattle.filter_chain.specs.Flow.{left_in}

-- one VM with a root, 1, and two streams of it, 2 and 3
abbrev pub host : Contexts
host = stream_created 0 1 7 (stream_created 0 1 7 (root_created 0 0 (with_plugin 0 (codes "p") [] (with_vm (codes "m") [] (no_contexts levels.Info [])))))

abbrev pub idle : ℕ → Stage
idle context = record { vm = 0; context = context; response = false; waiting = []; held = held.Nothing; passes = false }

abbrev pub two : List Stage
two = idle 2 ∷ idle 3 ∷ []

-- ---- what is done to a chain: an item comes; the next callback is asked, and answers whether it continues; the stage at a
-- place is continued, or let through
pub data Step : Type 0 where
  comes : ChainItem → Step
  answers : Bool → Step
  goes_on : ℕ → Step
  opens : ℕ → Step

-- what was asked, what left, and how it stands then
pub record Walk : Type 0 where
  pub asks : List Ask
  pub out : List ChainItem
  pub stages : List Stage
  pub contexts : Contexts

abbrev pub left : Walk → PassOutcome × List Stage × Contexts → Walk
left w (p, stages, h) = record w { out = w.out ++ left_in p; stages = stages; contexts = h }

abbrev pub left_here : Walk → PassOutcome × List Stage → Walk
left_here w (p, stages) = record w { out = w.out ++ left_in p; stages = stages }

abbrev pub answered_by : Bool → Ask → Walk → Walk
answered_by true ask w = left w (continued w.contexts ask.stage w.stages)
answered_by false ask w = record w { contexts = paused w.contexts ask.stage w.stages }

abbrev pub asked_by : Bool → Walk → Asking × List Stage × Contexts → Walk
asked_by b w (Nothing, stages, h) = w
asked_by b w (Over k, stages, h) = w
asked_by b w (Asks ask, stages, h) = answered_by b ask (record w { asks = w.asks ++ ask ∷ []; stages = stages; contexts = h })

abbrev pub step : Step → Walk → Walk
step (comes item) w = left_here w (put w.contexts item w.stages)
step (answers b) w = asked_by b w (asked w.contexts w.stages)
step (goes_on k) w = left w (continued w.contexts k w.stages)
step (opens k) w = left w (let_through w.contexts k w.stages)

abbrev pub walk : List Step → Walk → Walk
walk [] w = w
walk (s ∷ steps) w = walk steps (step s w)

abbrev pub walked : List Step → Walk
walked steps = walk steps (record { asks = []; out = []; stages = two; contexts = host })

abbrev pub ask : ℕ → AskKind → ℕ → Bool → Ask
ask stage kind count end = record { stage = stage; kind = kind; count = count; end = end }

-- a head and one piece that ends the body, which both filters let go on
abbrev pub simple : List Step
simple = comes (Head false) ∷ answers true ∷ answers true ∷ comes (Piece (codes "ab") true) ∷ answers true ∷ answers true ∷ []

-- the first filter holds the body until its end
abbrev pub gathered : List Step
gathered =
    comes (Head false) ∷ answers true ∷ answers true ∷ comes (Piece (codes "ab") false) ∷ answers false ∷ comes (Piece (codes "c") false) ∷ answers false
    ∷ comes (Piece [] true) ∷ answers true ∷ answers true ∷ []

-- the first filter holds the head, and what comes after it waits; then it is continued
abbrev pub head_held : List Step
head_held = comes (Head false) ∷ answers false ∷ comes (Piece (codes "ab") true) ∷ answers true ∷ []

abbrev pub head_goes_on : List Step
head_goes_on = head_held ++ goes_on 0 ∷ answers true ∷ answers true ∷ answers true ∷ []

-- the first filter holds the body, and then the trailers with it
abbrev pub with_trailers : List Step
with_trailers = comes (Head false) ∷ answers true ∷ answers true ∷ comes (Piece (codes "ab") false) ∷ answers false ∷ comes Trailers ∷ answers false ∷ []

-- the first filter's VM died while it held bytes
abbrev pub let_by : List Step
let_by = comes (Head false) ∷ answers true ∷ answers true ∷ comes (Piece (codes "ab") false) ∷ answers false ∷ opens 0 ∷ comes (Piece (codes "c") true) ∷ answers true ∷ answers true ∷ []

pub record ChainExamples : Type 0 where
  -- no filter: the item leaves
  pub none : put host (Head true) [] ≡ (passed.Left (Head true ∷ []), [])
  pub simple_asks : (walked simple).asks ≡ ask 0 kinds.Head 0 false ∷ ask 1 kinds.Head 0 false ∷ ask 0 kinds.Piece 2 true ∷ ask 1 kinds.Piece 2 true ∷ []
  pub simple_out : (walked simple).out ≡ Head false ∷ Piece (codes "ab") true ∷ []
  -- the next piece is asked with the bytes held; they pass on as one piece
  pub gathered_asks : (walked gathered).asks
      ≡ ask 0 kinds.Head 0 false ∷ ask 1 kinds.Head 0 false ∷ ask 0 kinds.Piece 2 false ∷ ask 0 kinds.Piece 3 false ∷ ask 0 kinds.Piece 3 true ∷ ask 1 kinds.Piece 3 true ∷ []
  pub gathered_out : (walked gathered).out ≡ Head false ∷ Piece (codes "abc") true ∷ []
  -- after a head that is held nothing is asked; a continue passes it on and asks no more about it
  pub head_held_asks : (walked head_held).asks ≡ ask 0 kinds.Head 0 false ∷ []
  pub head_held_out : (walked head_held).out ≡ []
  pub head_goes_on_asks : (walked head_goes_on).asks ≡ ask 0 kinds.Head 0 false ∷ ask 1 kinds.Head 0 false ∷ ask 0 kinds.Piece 2 true ∷ ask 1 kinds.Piece 2 true ∷ []
  pub head_goes_on_out : (walked head_goes_on).out ≡ Head false ∷ Piece (codes "ab") true ∷ []
  -- trailers that are held go on after the bytes that are held
  pub trailers_held : held_at (walked with_trailers).contexts 0 2 false ≡ codes "ab"
  pub trailers_out : (walked (with_trailers ++ goes_on 0 ∷ answers true ∷ answers true ∷ [])).out ≡ Head false ∷ Piece (codes "ab") false ∷ Trailers ∷ []
  pub trailers_left : held_at (walked (with_trailers ++ goes_on 0 ∷ [])).contexts 0 2 false ≡ []
  -- a piece of no bytes is asked about, and goes on only with the end
  pub empty_asked : (walked (comes (Piece [] false) ∷ answers true ∷ [])).asks ≡ ask 0 kinds.Piece 0 false ∷ []
  pub empty_out : (walked (comes (Piece [] false) ∷ answers true ∷ answers true ∷ [])).out ≡ []
  pub empty_end : (walked (comes (Piece [] true) ∷ answers true ∷ answers true ∷ [])).out ≡ Piece [] true ∷ []
  -- a filter that is let through is asked no more, and what it held goes on first
  pub let_by_asks : (walked let_by).asks ≡ ask 0 kinds.Head 0 false ∷ ask 1 kinds.Head 0 false ∷ ask 0 kinds.Piece 2 false ∷ ask 1 kinds.Piece 2 false ∷ ask 1 kinds.Piece 1 true ∷ []
  pub let_by_out : (walked let_by).out ≡ Head false ∷ Piece (codes "ab") false ∷ Piece (codes "c") true ∷ []
  -- where nothing is held, a continue passes nothing on
  pub nothing_held : continued host 0 two ≡ (passed.Left [], two, host)
  -- how far the head has come
  pub reached_none : reach_count (walked (comes (Head false) ∷ [])).stages ≡ 0
  pub reached_held : reach_count (walked head_held).stages ≡ 1
  pub reached_one : reach_count (walked (comes (Head false) ∷ answers true ∷ [])).stages ≡ 1
  pub reached_all : reach_count (walked simple).stages ≡ 2
  -- 1,048,576 bytes and no more
  pub room : fits host 1048576 (idle 2) ≡ true
  pub no_room : fits host 1048577 (idle 2) ≡ false
