use Rattle.std.proofs.Common.{◌≡◌, ◌++◌, drop}
use Rattle.command_serve.specs.Summary.{store_lines}
use Rattle.command_serve.proofs.telling.put_all_stores.Given as goal

abbrev pub invariant-vms : goal.invariant-vms
invariant-vms l = l.text ++ store_lines (drop l.n l.fn.vms) (drop l.n l.fn.closed.stores) ≡ l.fn.text ++ store_lines l.fn.vms l.fn.closed.stores
