-- A worked turn: three plug-ins filter a request, of which the second answers it. The answer passes those that were reached.
use Rattle.std.specs.Prelude.{false, List, [], ◌∷◌, ◌++◌, None, Some, codes}
use Rattle.contexts.specs.declared.parts.EffectKind.TheVariants as effects
use Rattle.filter_host.specs.Course.{Course, Met, heard}
use Rattle.filter_host.specs.Heard.{hands, halts}
use Rattle.filter_host.specs.declared.host.CallbackEnd.TheVariants.{Returned}
use Rattle.filter_host.specs.declared.host.Callback.TheVariants.{ContextCreate, RequestHeaders, ResponseHeaders, Done, Log, Delete}
use Rattle.gate_config.specs.declared.entries.PluginEntry.{PluginEntry}
use Rattle.gate_io.specs.declared.event.Sent.{Sent}
use Rattle.gate_io.specs.declared.event.Sent.TheVariants as sent
use Rattle.gate_io.specs.declared.event.Side.TheVariants.{Down}
use Rattle.gate_io.specs.declared.event.What.TheVariants as whats
use Rattle.header_maps.specs.declared.kind.ListKind.TheVariants.{Plain}
use Rattle.h1_model.specs.Examples.{worked_text, worked_head}
use Rattle.h1_model.specs.Messages.{head, rest}
use Rattle.h1_model.specs.Unread.{Reading, head_part, new_reading, reading_with_bytes, moved_on, awaiting_bytes}
use Rattle.worker_model.specs.Plan.{Plan}
use Rattle.worker_model.specs.Turn.{Outcome, turn}
use Rattle.law_turns.specs.Tables.{Call, call, Deed, calling_by, Comes}
use Rattle.law_turns.specs.Scenes.{line_of, first_date, plugin, contexts_with_roots, line, state, event, plan_of}

abbrev pub plugins : List PluginEntry
plugins = plugin (codes "p") false ∷ plugin (codes "q") false ∷ plugin (codes "r") false ∷ []

-- all three filter the path `/`
abbrev pub plan : Plan
plan = record (plan_of plugins) { routes = record { path = codes "/"; filters = 0 ∷ 1 ∷ 2 ∷ [] } ∷ [] }

-- the request callback of the second one, whose context is 5, asks for an answer and returns Continue
abbrev pub answers : List Deed
answers =
    record {
      name = RequestHeaders;
      context = 5;
      end = Returned (Some 0);
      effects = record { context = 5; what = effects.Answer 403 (record { kind = Plain; pairs = (codes "x-a", codes "1") ∷ [] }) (codes "no") } ∷ [];
    } ∷ []

-- what the reader has before and after the head of the request
abbrev pub unread : Reading
unread = reading_with_bytes worked_text (new_reading None)

abbrev pub behind_head : Reading
behind_head = moved_on 27 head unread

-- the head is read, and once the exchange has ended, that nothing is after it
abbrev pub met : List Met
met = heard (hands (head_part worked_head) behind_head) ∷ heard (halts rest (awaiting_bytes behind_head)) ∷ []

-- The response passes the second filter and then the first. Nothing but its making and its end is told to the third.
abbrev pub calls : List Call
calls =
    call ContextCreate 4 1 0 ∷ call ContextCreate 5 2 0 ∷ call ContextCreate 6 3 0
    ∷ call RequestHeaders 4 4 1 ∷ call RequestHeaders 5 4 1 ∷ call ResponseHeaders 5 2 0 ∷ call ResponseHeaders 4 2 0
    ∷ call Done 4 0 0 ∷ call Log 4 0 0 ∷ call Delete 4 0 0
    ∷ call Done 5 0 0 ∷ call Log 5 0 0 ∷ call Delete 5 0 0
    ∷ call Done 6 0 0 ∷ call Log 6 0 0 ∷ call Delete 6 0 0 ∷ []

-- the turn in which the text of the request comes
abbrev pub turned : Course (Outcome (List Call))
turned = turn (calling_by answers) plan (state (line 1 None ∷ []) (contexts_with_roots plugins)) (event 0 (whats.Bytes 1 Down worked_text))

-- no connection is opened
abbrev pub sends : List Sent
sends =
    sent.Bytes 1 Down (line_of (codes "HTTP/1.1 403 ") ++ line_of (codes "x-a: 1") ++ line_of (codes "content-length: 2") ++ first_date ++ line_of [] ++ codes "no")
    ∷ []

pub record AnswerExample : Type 0 where
  -- the line stays
  pub turns : Comes turned met calls sends (1 ∷ [])
