use Rattle.wasm_invoke.proofs.OneAnswer.{one_answer, one_way, refused_or_goes}
use Rattle.wasm_invoke.proofs.laws.one_answer.Goals as goal

pub returns : goal.returns
returns c = record {
  answer = one_answer;
  way = one_way;
  apart = refused_or_goes;
}
