-- The names of causes, as lines of statuses write them.
use Rattle.std.specs.Prelude.{ℕ, ◌==◌, if◌then◌else◌, List, Option, None, Some, codes}
use Rattle.gate_base.specs.declared.cause.Cause.TheVariants as causes
use Rattle.wasm_store.specs.declared.instance.LinkEnd.{LinkEnd}
use Rattle.wasm_store.specs.declared.instance.LinkEnd.TheVariants as linking
use Rattle.wasm_invoke.specs.declared.ends.Refusal.{Refusal}
use Rattle.wasm_invoke.specs.declared.ends.Refusal.TheVariants as refusals
use Rattle.vm_host.specs.declared.fitting.FitEnd.{FitEnd}
use Rattle.vm_host.specs.declared.fitting.FitEnd.TheVariants as fitting
use Rattle.config_files.specs.declared.modules.ModuleFault.{ModuleFault}
use Rattle.config_files.specs.declared.modules.ModuleFault.TheVariants as faults
use Rattle.command_statuses.specs.declared.status.InvokeEnd.{InvokeEnd}
use Rattle.command_statuses.specs.declared.status.InvokeEnd.TheVariants.{Trap, FuelSpent}

-- the name of the row of a reader's fault
abbrev pub row_name : ℕ → List ℕ
row_name number =
    if number == 1 then codes "BadHeader"
    else if number == 2 then codes "Truncated"
    else if number == 3 then codes "BadInteger"
    else if number == 4 then codes "BadSection"
    else if number == 5 then codes "BadOpcode"
    else if number == 6 then codes "FloatOutOfProfile"
    else if number == 7 then codes "BadName"
    else if number == 8 then codes "SizeMismatch"
    else codes "OverLimit"

-- the name of what stands against linking (want of memory is no refusal of a module, and never comes)
abbrev pub link_name : LinkEnd → List ℕ
link_name (linking.UnknownImport index) = codes "UnknownImport"
link_name (linking.ImportType index) = codes "ImportType"
link_name linking.PagesOverCap = codes "PagesOverCap"
link_name (linking.ElementOutside index) = codes "ElementOutside"
link_name (linking.DataOutside index) = codes "DataOutside"
link_name linking.OutOfMemory = codes "OutOfMemory"

-- the name of what stands against a filter's module
abbrev pub fit_name : FitEnd → List ℕ
fit_name (fitting.Unlinked end) = link_name end
fit_name fitting.NoAbi = codes "NoAbi"
fit_name fitting.CallbackType = codes "CallbackType"

-- the name of a VM's refusal, and its place where it has one: the byte of the first fault
abbrev pub fault_name : ModuleFault → List ℕ
fault_name (faults.Unread number place) = row_name number
fault_name faults.Invalid = codes "Invalid"
fault_name (faults.Misfit end) = fit_name end

abbrev pub fault_place : ModuleFault → Option ℕ
fault_place (faults.Unread number place) = Some place
fault_place faults.Invalid = None
fault_place (faults.Misfit end) = None

-- the same of a call's refusal
abbrev pub refusal_name : Refusal → List ℕ
refusal_name (refusals.Unread number place) = row_name number
refusal_name refusals.Invalid = codes "Invalid"
refusal_name (refusals.Unlinked end) = link_name end
refusal_name refusals.NoExport = codes "NoExport"
refusal_name refusals.Arguments = codes "Arguments"

abbrev pub refusal_place : Refusal → Option ℕ
refusal_place (refusals.Unread number place) = Some place
refusal_place refusals.Invalid = None
refusal_place (refusals.Unlinked end) = None
refusal_place refusals.NoExport = None
refusal_place refusals.Arguments = None

-- the line of a call that gave no result
abbrev pub end_line : InvokeEnd → List ℕ
end_line (Trap causes.Unreachable) = codes "wasmgate: invoke unreachable\n"
end_line (Trap causes.Divide) = codes "wasmgate: invoke divide\n"
end_line (Trap causes.Overflow) = codes "wasmgate: invoke overflow\n"
end_line (Trap causes.Memory) = codes "wasmgate: invoke memory\n"
end_line (Trap causes.Table) = codes "wasmgate: invoke table\n"
end_line (Trap causes.Type) = codes "wasmgate: invoke type\n"
end_line (Trap causes.Stack) = codes "wasmgate: invoke stack\n"
end_line (Trap causes.Exit) = codes "wasmgate: invoke exit\n"
end_line FuelSpent = codes "wasmgate: invoke fuel\n"
