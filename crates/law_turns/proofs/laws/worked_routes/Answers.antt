use Rattle.law_turns.proofs.Uploads.{recoding_example, unrouted_example}
use Rattle.law_turns.proofs.laws.worked_routes.Goals as goal

pub returns : goal.returns
returns c = record {
  recoding = recoding_example;
  unrouted = unrouted_example;
}
