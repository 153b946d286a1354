use Rattle.wasm_syntax.proofs.WorkedCases.{by_call, by_element, from_outside, host_asked, host_from_outside, answered, called_meanwhile}
use Rattle.wasm_syntax.proofs.reduction_laws.worked_orders.Goals as goal

pub returns : goal.returns
returns c = record {
  by_call = by_call;
  by_element = by_element;
  from_outside = from_outside;
  host_asked = host_asked;
  host_from_outside = host_from_outside;
  answered = answered;
  called_meanwhile = called_meanwhile;
}
