use Rattle.law_turns.proofs.Texts.{request_texts, response_texts}
use Rattle.law_turns.proofs.laws.worked_texts.Goals as goal

pub returns : goal.returns
returns c = record {
  requests = request_texts;
  responses = response_texts;
}
