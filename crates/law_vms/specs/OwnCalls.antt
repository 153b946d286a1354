-- How many callouts a callback may ask for.
use Rattle.std.specs.Prelude.{ℕ, ◌+◌, ◌≤◌}
use Rattle.abi_services.specs.Callouts.{call_count, most_under_way, last_id}
use Rattle.contexts.specs.declared.parts.Contexts.{Contexts}
use Rattle.filter_host.specs.Called.{Called}
use Rattle.filter_host.specs.declared.host.Callback.{Callback}
use Rattle.vm_host.specs.declared.slots.Vms.{Vms}
use Rattle.vm_host.specs.Slots.{calling}
use Rattle.law_vms.specs.Apart.{AllEnds}

-- With those that are asked for, not too many callouts are under way, and each has an id.
pub record CallsFit (h : Contexts) : Type 0 where
  pub under_way : h.calls.under_way + call_count h.effects ≤ most_under_way
  pub ids : h.calls.last + call_count h.effects ≤ last_id

-- NO CALLBACK ASKS FOR MORE CALLOUTS THAN THERE IS ROOM FOR
abbrev pub CallsHaveRoom : Type 0
CallsHaveRoom =
    (v : Vms) (vm : ℕ) (name : Callback) (context first second now : ℕ) (contexts : Contexts) → CallsFit contexts
    → AllEnds (λ (c : Called Vms). CallsFit c.contexts) (calling v vm name context first second now contexts)
