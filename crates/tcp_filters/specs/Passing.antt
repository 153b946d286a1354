-- ONE DIRECTION OF A LINE PASSES ITS BYTES: what is sent, and what is with its stages, is what was with them and what came, in order, where no
-- callback changes a buffer.
use Rattle.std.specs.Prelude.{◌≡◌, true, false, List, [], ◌∷◌, ◌++◌}
use Rattle.contexts.specs.declared.parts.Contexts.{Contexts}
use Rattle.filter_chain.specs.declared.stage.Stage.{Stage}
use Rattle.filter_chain.specs.declared.item.ChainItem.{ChainItem}
use Rattle.filter_chain.specs.Items.{item_bytes}
use Rattle.filter_chain.specs.Chains.{bytes_at}
use Rattle.filter_chain.specs.Flow.{flow, Act, Does, items_put}
use Rattle.gate_io.specs.declared.event.Side.TheVariants.{Down, Up}
use Rattle.tcp_filters.specs.declared.line.TcpLine.{TcpLine}
use Rattle.tcp_filters.specs.Laws.{bytes_for, sent_of, until_end}

-- the buffers of these stages are as they were
abbrev pub SameBuffers : Contexts → Contexts → List Stage → Type 0
SameBuffers h k [] = Unit {0}
SameBuffers h k (s ∷ ss) = (bytes_at k s ≡ bytes_at h s) × SameBuffers h k ss

-- Acts of the stages of a direction, one after another: what left, and what the contexts and the stages are then. In front of each, and at the end,
-- other things happen that change no buffer of theirs, as those of the other direction and of other lines.
abbrev pub DoesAmong : Contexts → List Stage → List Act → List ChainItem → Contexts → List Stage → Type 0
DoesAmong h stages [] out k after = (out ≡ []) × SameBuffers h k stages × (after ≡ stages)
DoesAmong h stages (act ∷ acts) out k after =
    (now later : List ChainItem) × (g d : Contexts) × (mid : List Stage) × SameBuffers h g stages × Does g stages act now d mid × DoesAmong d mid acts later k after × (out ≡ now ++ later)

-- WHAT IS SENT, AND WHAT IS WITH THE STAGES, IS WHAT WAS WITH THEM AND WHAT CAME
pub record StreamsPass : Type 0 where
  -- towards the server
  pub up : (h : Contexts) (stages : List Stage) (acts : List Act) (out : List ChainItem) (k : Contexts) (after : List Stage) (l : TcpLine) → l.has_ended ≡ false
      → DoesAmong h stages acts out k after → bytes_for Up (sent_of false out l) ++ flow k after ≡ flow h stages ++ item_bytes (items_put acts)
  -- towards the client, where nothing leaves after the end
  pub down : (h : Contexts) (stages : List Stage) (acts : List Act) (out : List ChainItem) (k : Contexts) (after : List Stage) (l : TcpLine) → l.has_ended ≡ false
      → until_end out ≡ out → DoesAmong h stages acts out k after → bytes_for Down (sent_of true out l) ++ flow k after ≡ flow h stages ++ item_bytes (items_put acts)
