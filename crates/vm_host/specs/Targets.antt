-- What the imports of a module stand for, and what each is answered while the host is closed.
use Rattle.std.specs.Prelude.{◌≡◌, ℕ, true, List, map, Some, unwrap_or, slice_get}
use Rattle.std.specs.List.{list_any}
use Rattle.wasm_syntax.specs.declared.types.FunctionType.{FunctionType}
use Rattle.wasm_syntax.specs.declared.module.Import.{Import}
use Rattle.wasm_syntax.specs.Typing.{Is}
use Rattle.wasm_syntax.specs.Reduction.{imported, Program}
use Rattle.abi_links.specs.declared.target.ImportTarget.{ImportTarget}
use Rattle.abi_links.specs.declared.target.ImportTarget.TheVariants as target
use Rattle.abi_model.specs.declared.table.HostCall.TheVariants as call
use Rattle.abi_model.specs.declared.table.WasiCall.TheVariants as wasi
use Rattle.abi_links.specs.Judging.{target_of, fits_target}
use Rattle.abi_types.specs.declared.guest.Closing.{Closing}
use Rattle.abi_types.specs.declared.guest.Closing.TheVariants as closing
use Rattle.std.specs.Prelude.{Bool, false}

-- of an import that is linked; what is not is never asked
abbrev pub import_target : Import → ImportTarget
import_target i = unwrap_or (target_of i.module i.name) target.OtherProxy

abbrev pub targets_of : List Import → List ImportTarget
targets_of imports = map import_target imports

-- there is a target for each import, and it has the import's type
abbrev pub AreTargets : List ImportTarget → Program → Type 0
AreTargets targets p = (x : ℕ) (t : FunctionType) → Is p.functions x (imported t) → (k : ImportTarget) × (slice_get targets x ≡ Some k) × (fits_target k t ≡ true)

-- inside an allocation nothing is done: each call of `env` is an internal failure, and each of WASI is not there, but for the one
-- that ends the guest
abbrev pub closing_of : ImportTarget → Closing
closing_of (target.Proxy c) = closing.Status 10
closing_of target.OtherProxy = closing.Status 10
closing_of target.MemoryGrowth = closing.Nothing
closing_of (target.Wasi wasi.ProcExit) = closing.Exit
closing_of (target.Wasi c) = closing.Status 52
closing_of target.OtherWasi = closing.Status 52

abbrev pub closings_of : List ImportTarget → List Closing
closings_of targets = map closing_of targets

-- it registers queues
abbrev pub is_register : ImportTarget → Bool
is_register (target.Proxy call.RegisterSharedQueue) = true
is_register k = false

abbrev pub registers_in : List ImportTarget → Bool
registers_in targets = list_any is_register targets
