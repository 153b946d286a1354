use Rattle.wasm_syntax.proofs.WorkedCases.{room, no_room, nop_at_bound, tee_below_bound, tee_at_bound, tee_spent, answer_past_bound}
use Rattle.wasm_syntax.proofs.reduction_laws.worked_bounds.Goals as goal

pub returns : goal.returns
returns c = record {
  room = room;
  no_room = no_room;
  nop_at_bound = nop_at_bound;
  tee_below_bound = tee_below_bound;
  tee_at_bound = tee_at_bound;
  tee_spent = tee_spent;
  answer_past_bound = answer_past_bound;
}
