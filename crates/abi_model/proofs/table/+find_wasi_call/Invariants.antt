use Rattle.std.proofs.Common.{length}
use Rattle.abi_model.proofs.table.+find_wasi_call.Given as goal

abbrev pub decreases-find_wasi_call : goal.decreases-find_wasi_call
decreases-find_wasi_call l = length l.calls.now
