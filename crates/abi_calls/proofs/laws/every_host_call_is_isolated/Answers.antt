use Rattle.abi_calls.proofs.Isolated.{are_isolated}
use Rattle.abi_calls.proofs.laws.every_host_call_is_isolated.Goals as goal

pub returns : goal.returns
returns c = are_isolated
