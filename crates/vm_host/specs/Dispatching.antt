-- What a host call does, by what its import stands for.
use Rattle.std.specs.Prelude.{◌≡◌, ◌++◌, ℕ, List, [], ◌∷◌, map, Option, None, Some, slice_get}
use Rattle.gate_base.specs.declared.cause.Cause.TheVariants as cause
use Rattle.wasm_syntax.specs.declared.types.Value.{Value}
use Rattle.wasm_syntax.specs.declared.types.Value.TheVariants.{I32}
use Rattle.wasm_syntax.specs.Reduction.{Program as Code}
use Rattle.store_model.specs.Program.{Program, done, bind}
use Rattle.contexts.specs.Reached.{seen, put}
use Rattle.wasm_syntax.specs.declared.types.ValueType.{ValueType}
use Rattle.wasm_syntax.specs.declared.types.ValueType.TheVariants as type
use Rattle.abi_model.specs.Table.{row_of, wasi_row_of}
use Rattle.abi_links.specs.Judging.{types_in, wasi_results}
use Rattle.abi_links.specs.Numbers.{number_of}
use Rattle.abi_links.specs.declared.target.ImportTarget.{ImportTarget}
use Rattle.abi_links.specs.declared.target.ImportTarget.TheVariants as target
use Rattle.abi_model.specs.Calls as model
use Rattle.abi_model.specs.declared.table.HostCall.{HostCall}
use Rattle.abi_model.specs.declared.table.WasiCall.{WasiCall}
use Rattle.abi_model.specs.declared.table.WasiCall.TheVariants as wasi
use Rattle.abi_calls.specs.Hosting.{Hosted, hosting, wasi_hosting}
use Rattle.abi_types.specs.GuestAt.{GuestAt}
use Rattle.vm_host.specs.Calling.{Called, called, call_trapped, call_spent, call_open}
use Rattle.vm_host.specs.HostStates.{HostState, host_state}
use Rattle.vm_host.specs.Targets.{AreTargets}
use Rattle.vm_host.specs.declared.dispatch.Dispatcher.{Dispatcher}

-- ---- a call of the tables: its answer is its status, and what it says is changed

abbrev pub ends_as : model.Called → HostState → Called HostState
ends_as (model.called status g) s = called (Some (I32 status)) g s
ends_as (model.called_trapped c left) s = call_trapped c left s
ends_as (model.called_spent left) s = call_spent left s
ends_as model.called_open s = call_open

abbrev pub served_as : (place : ℕ) → HostState → Hosted → Called HostState
served_as place s h = ends_as h.called (host_state (put h.changes place s.contexts) (s.lines ++ h.lines))

abbrev pub serve_calls : (place : ℕ) → HostState → Program Hosted → Program (Called HostState)
serve_calls place s p = bind p (λ h. done (served_as place s h))

-- ---- each call

-- a number is the answer, and nothing is done
abbrev pub answering : ℕ → HostState → GuestAt → Program (Called HostState)
answering n s g = done (called (Some (I32 n)) g s)

abbrev pub proxy_call : HostCall → (place now : ℕ) → HostState → List Value → GuestAt → Program (Called HostState)
proxy_call c place now s args g = serve_calls place s (hosting c now place (map number_of args) g (seen s.contexts place))

abbrev pub wasi_call : WasiCall → (place now : ℕ) → HostState → List Value → GuestAt → Program (Called HostState)
wasi_call wasi.ProcExit place now s args g = done (call_trapped cause.Exit g.fuel s)
wasi_call c place now s args g = serve_calls place s (wasi_hosting c now place (map number_of args) g (seen s.contexts place))

abbrev pub by_target : ImportTarget → (place now : ℕ) → HostState → List Value → GuestAt → Program (Called HostState)
by_target (target.Proxy c) place now s args g = proxy_call c place now s args g
by_target target.OtherProxy place now s args g = answering 12 s g
by_target target.MemoryGrowth place now s args g = done (called None g s)
by_target (target.Wasi c) place now s args g = wasi_call c place now s args g
by_target target.OtherWasi place now s args g = answering 52 s g

-- what is not imported is never asked
abbrev pub by_found : Option ImportTarget → (place now : ℕ) → HostState → List Value → GuestAt → Program (Called HostState)
by_found None place now s args g = done call_open
by_found (Some k) place now s args g = by_target k place now s args g

-- THE CALL of an import, at a moment
unfoldable pub dispatching : Dispatcher → (now : ℕ) → HostState → ℕ → List Value → GuestAt → Program (Called HostState)
dispatching d now s x args g = by_found (slice_get d.targets x) d.place now s args g

abbrev pub LinksTo : Dispatcher → Code → Type 0
LinksTo d p = AreTargets d.targets p

-- a call of the tables is given values of its row's types
abbrev pub TakesAs : ImportTarget → List ValueType → Type 0
TakesAs (target.Proxy c) ts = ts ≡ types_in (row_of c)
TakesAs target.OtherProxy ts = Unit {0}
TakesAs target.MemoryGrowth ts = Unit {0}
TakesAs (target.Wasi c) ts = ts ≡ types_in (wasi_row_of c)
TakesAs target.OtherWasi ts = Unit {0}

-- what a target gives
abbrev pub results_for : ImportTarget → List ValueType
results_for (target.Proxy c) = type.I32 ∷ []
results_for target.OtherProxy = type.I32 ∷ []
results_for target.MemoryGrowth = []
results_for (target.Wasi c) = wasi_results c
results_for target.OtherWasi = type.I32 ∷ []
