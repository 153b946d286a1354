-- Worked turns: a filter that changes the path, the fields and the body of a request.
use Rattle.std.specs.Prelude.{◌≡◌, ℕ, false, List, [], ◌∷◌, ◌++◌, map, None, Some, codes}
use Rattle.contexts.specs.Making.{no_contexts, with_vm, with_plugin}
use Rattle.contexts.specs.Stages.{stage_changed}
use Rattle.contexts.specs.declared.parts.Contexts.{Contexts}
use Rattle.contexts.specs.declared.parts.StageBuffer as parts
use Rattle.filter_host.specs.Called.{Called, called_back}
use Rattle.filter_host.specs.declared.host.CallbackEnd.TheVariants.{Returned}
use Rattle.filter_host.specs.declared.host.Callback.{Callback}
use Rattle.filter_host.specs.declared.host.Callback.TheVariants as callbacks
use Rattle.exchange.specs.Maps.{put_request}
use Rattle.law_exchange.specs.Traffic.{opens, byte, up_traffic, IsFront}
use Rattle.gate_base.specs.declared.level.Level.TheVariants.{Info}
use Rattle.gate_io.specs.declared.event.Event.{Event}
use Rattle.gate_io.specs.declared.event.Side.TheVariants.{Down}
use Rattle.gate_io.specs.declared.event.What.TheVariants as whats
use Rattle.h1_write.specs.Lines.{out_wire}
use Rattle.h1_write.specs.Round.{body_items}
use Rattle.store_model.specs.Program.{Program, done}
use Rattle.worker_model.specs.Steps.{Both, both}
use Rattle.law_lines.specs.Examples.{event}
use Rattle.law_lines.specs.Logs.{WriteLogs}
use Rattle.law_lines.specs.Requests.{IsBegun, IsMadeOf}
use Rattle.law_lines.specs.Turns.{Done, Turns, new_room, sent_in}
use Rattle.law_read_back.specs.Examples.{asked_text, filter_plan, first, made_fields, made_request, made_wire, posted}
use Rattle.law_read_back.specs.OneRequest.{IsReadAsOne}
use Rattle.law_read_back.specs.Sent.{bytes_in, IsTakenIn, Carries}

-- A machine whose filter sets other fields with another path when it is asked about the head of a request, and writes three bytes in place of the body when it
-- is asked about that; each time it answers Continue. It exports nothing else.
abbrev pub rewriting : ℕ → ℕ → Callback → ℕ → ℕ → ℕ → ℕ → Contexts → Program (Called ℕ)
rewriting host vm callbacks.RequestHeaders context one two now h = done (called_back (Returned (Some 0)) [] host (put_request made_fields 0 h))
rewriting host vm callbacks.RequestBody context one two now h =
    done (called_back (Returned (Some 0)) [] host (stage_changed (λ (t : parts.StageBuffer). record t { held = codes "XYZ" }) h 0 context false))
rewriting host vm name context one two now h = done (called_back (Returned None) [] host h)

-- a worker with that machine, the filter of its one plug-in
abbrev pub filter_contexts : Contexts
filter_contexts = with_plugin 0 (codes "p") [] (with_vm (codes "m") [] (no_contexts Info []))

abbrev pub filter_worker : Both ℕ
filter_worker = both 0 (new_room filter_contexts)

-- a client comes, and sends a POST of two bytes
abbrev pub filter_events : List Event
filter_events = event (whats.Opened 1) ∷ event (whats.Bytes 1 Down (asked_text ++ codes "ab")) ∷ []

-- what goes up: the bytes of the request of `FilterExample`
abbrev pub filter_wire : List ℕ
filter_wire = made_wire

-- THERE ARE SUCH TURNS, and that goes up in them. The exchange in them began as that of the example, whose request is one that it makes, of fields that make a
-- head which a reader takes in, and of a body that is carried: so all that is asked is met by what went up in turns, and their own bytes are read as that one
-- request.
pub record FilterRun : Type 0 where
  pub logs : WriteLogs rewriting
  pub turns : List (Done ℕ)
  pub to : Both ℕ
  pub run : Turns rewriting filter_plan filter_worker turns to
  pub happened : map (λ (t : Done ℕ). t.event) turns ≡ filter_events
  pub up : up_traffic 1 (sent_in turns) ≡ opens ∷ map byte filter_wire
  pub begun : IsBegun filter_plan posted first
  pub made : IsMadeOf posted first made_request
  pub meant : IsFront (bytes_in (up_traffic 1 (sent_in turns))) (out_wire made_request)
  pub taken : IsTakenIn made.fields made_request
  pub carries : Carries made_request.framing (body_items made_request.pieces made_request.ending)
  pub read : IsReadAsOne made_request (bytes_in (up_traffic 1 (sent_in turns)))
