use Rattle.abi_model.proofs.Isolated.{calls_are_isolated, writes_are_isolated, asks_are_isolated}
use Rattle.abi_model.proofs.laws.host_calls_are_isolated.Goals as goal

pub returns-clause-local : goal.returns-clause-local
returns-clause-local c = calls_are_isolated

pub returns-clause-writing : goal.returns-clause-writing
returns-clause-writing c = writes_are_isolated

pub returns-clause-asking : goal.returns-clause-asking
returns-clause-asking c = asks_are_isolated
