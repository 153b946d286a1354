-- A MODULE THAT IS WRITTEN OUT, and that is run: for the head of a request it asks for an answer 403. And another, that returns Pause alone.
use Rattle.std.specs.Option.{option_map}
use Rattle.std.specs.Prelude.{◌≡◌, ℕ, pos, negsuc, true, List, [], ◌∷◌, None, Some, is_some, codes}
use Rattle.abi_maps.specs.Streams.{no_fields}
use Rattle.contexts.specs.Creating.{open_exchange, root_created, stream_created}
use Rattle.contexts.specs.Examples.{request}
use Rattle.contexts.specs.Making.{no_contexts, with_vm, with_plugin}
use Rattle.contexts.specs.Reached.{exchange_at}
use Rattle.contexts.specs.declared.parts.Contexts.{Contexts}
use Rattle.contexts.specs.declared.parts.ExchangeEntry.{ExchangeEntry}
use Rattle.contexts.specs.declared.parts.EffectKind.TheVariants as what
use Rattle.filter_host.specs.Called.{Called}
use Rattle.filter_host.specs.declared.host.CallbackEnd.TheVariants as call_end
use Rattle.filter_host.specs.declared.host.Callback.TheVariants as callbacks
use Rattle.filter_host.specs.declared.host.Death.TheVariants as death
use Rattle.gate_base.specs.declared.level.Level.TheVariants as levels
use Rattle.store_model.specs.Program.{Program, done}
use Rattle.vm_host.specs.Fits.{fit_fault}
use Rattle.vm_host.specs.Slots.{first_slot, slot_in, calling}
use Rattle.vm_host.specs.Vms.{first_vm}
use Rattle.vm_host.specs.declared.slots.Vms.{Vms}
use Rattle.wasm_syntax.specs.Grammar.{empty_module}
use Rattle.wasm_syntax.specs.declared.instr.Instr.{Instr}
use Rattle.wasm_syntax.specs.declared.instr.Instr.TheVariants as instr
use Rattle.wasm_syntax.specs.declared.module.ExportKind.TheVariants as exported
use Rattle.wasm_syntax.specs.declared.module.ImportKind.TheVariants as imported
use Rattle.wasm_syntax.specs.declared.module.Module.{Module}
use Rattle.wasm_syntax.specs.declared.types.FunctionType.{FunctionType}
use Rattle.wasm_syntax.specs.declared.types.ValueType.TheVariants.{I32}
use Rattle.law_runs.specs.Runs.{IsLive, AreAtHome}

-- ---- the modules

-- eight numbers to a number, as `proxy_send_local_response`; and three, as the callback of a request's head
abbrev pub eight_to_one : FunctionType
eight_to_one = record { parameters = I32 ∷ I32 ∷ I32 ∷ I32 ∷ I32 ∷ I32 ∷ I32 ∷ I32 ∷ []; results = I32 ∷ [] }

abbrev pub three_to_one : FunctionType
three_to_one = record { parameters = I32 ∷ I32 ∷ I32 ∷ []; results = I32 ∷ [] }

abbrev pub nothing_to_nothing : FunctionType
nothing_to_nothing = record { parameters = []; results = [] }

-- it asks for an answer of this status, without details, fields or body, and returns Pause
abbrev pub answers_with : ℕ → List Instr
answers_with status =
    instr.I32Const (pos status) ∷ instr.I32Const (pos 0) ∷ instr.I32Const (pos 0) ∷ instr.I32Const (pos 0) ∷ instr.I32Const (pos 0)
    ∷ instr.I32Const (pos 0) ∷ instr.I32Const (pos 0) ∷ instr.I32Const (negsuc 0) ∷ instr.Call 0 ∷ instr.Drop ∷ instr.I32Const (pos 1) ∷ instr.End ∷ []

-- A MODULE THAT DENIES: its function 1, exported for the head of a request, asks for 403
abbrev pub denies : Module
denies = record empty_module {
  types = eight_to_one ∷ three_to_one ∷ nothing_to_nothing ∷ [];
  imports = record { «module» = codes "env"; name = codes "proxy_send_local_response"; kind = imported.Function 0 } ∷ [];
  functions = 1 ∷ 2 ∷ [];
  memories = record { minimum = 1; maximum = None } ∷ [];
  exports =
      record { name = codes "proxy_on_request_headers"; kind = exported.Function 1 }
      ∷ record { name = codes "proxy_abi_version_0_2_1"; kind = exported.Function 2 }
      ∷ record { name = codes "memory"; kind = exported.Memory 0 } ∷ [];
  codes = record { locals = []; body = answers_with 403 } ∷ record { locals = []; body = instr.End ∷ [] } ∷ [];
}

-- ONE THAT STOPS: its callback for the head of a request returns Pause, and does nothing else
abbrev pub stops : Module
stops = record denies { codes = record { locals = []; body = instr.I32Const (pos 1) ∷ instr.End ∷ [] } ∷ record { locals = []; body = instr.End ∷ [] } ∷ [] }

-- ---- its machine, and contexts: VM 0 alone, with a root, and a stream of the exchange on line 7

abbrev pub vms_of : Module → Vms
vms_of m = record { slots = first_slot 0 m 1 100 ∷ [] }

abbrev pub at_home : Contexts
at_home = stream_created 0 1 7 (open_exchange 7 (request (codes "/")) (root_created 0 0 (with_plugin 0 (codes "p") [] (with_vm (codes "v") [] (no_contexts levels.Info [])))))

-- the head of the request, of 4 fields, comes to the stream
abbrev pub asked_of : Module → Program (Called Vms)
asked_of m = calling (vms_of m) 0 callbacks.RequestHeaders 2 4 0 0 at_home

-- the same of the first, with fuel for two of its instructions
abbrev pub poor : Program (Called Vms)
poor = calling (record { slots = first_slot 0 denies 1 2 ∷ [] }) 0 callbacks.RequestHeaders 2 4 0 0 at_home

-- what the callback came to
pub record Ended (m : Module) : Type 0 where
  pub called : Called Vms
  pub is : asked_of m ≡ done called

pub record DenyingExample : Type 0 where
  -- both are filters' modules: linking finds no fault
  pub fits : fit_fault denies 1 ≡ None
  pub fits_too : fit_fault stops 1 ≡ None
  -- the machine lives, at home
  pub live : IsLive (vms_of denies) 0 (first_vm 0 denies 1 100)
  pub home : AreAtHome (vms_of denies) at_home
  -- the one asks for 403 on its stream, once, and returns Pause; nothing is written, its machine is left, and its exchange has the mark of an answer
  pub denied : Ended denies
  pub returned : denied.called.end ≡ call_end.Returned (Some 1)
  pub asked : denied.called.contexts.effects ≡ record { context = 2; what = what.Answer 403 no_fields [] } ∷ []
  pub silent : denied.called.lines ≡ []
  pub left : is_some (slot_in denied.called.host 0).live ≡ true
  pub marked : option_map (λ (x : ExchangeEntry). x.view.is_answering) (exchange_at denied.called.contexts.exchanges 0) ≡ Some true
  -- the other returns Pause, and asks for nothing
  pub stopped : Ended stops
  pub paused : stopped.called.end ≡ call_end.Returned (Some 1)
  pub none_asked : stopped.called.contexts.effects ≡ []
  -- the first, with fuel for two of its instructions, spends that and dies
  pub spent : (c : Called Vms) × (poor ≡ done c) × (c.end ≡ call_end.Died death.FuelSpent)
