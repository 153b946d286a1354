use Rattle.law_turns.proofs.Uploads.{post_example, upload_example}
use Rattle.law_turns.proofs.laws.worked_uploads.Goals as goal

pub returns : goal.returns
returns c = record {
  post = post_example;
  upload = upload_example;
}
