-- The rows of these examples hold by computation.
use Rattle.std.proofs.Common.{refl}
use Rattle.http_header.specs.Token.{is_token_byte}
use Rattle.wasm_syntax.specs.ReductionRuns.{walk, walk_hosted}
use Rattle.law_host_calls.specs.Callouts.{AnswerExamples}

pub answer_examples : AnswerExamples
unfolding is_token_byte walk walk_hosted
answer_examples = record {
  body = refl;
  no_body = refl;
  size = refl;
  no_size = refl;
  fields = refl;
  trailers = refl;
  no_fields = refl;
  no_trailers = refl;
  trailers_pairs = refl;
  no_pairs = refl;
  fields_size = refl;
  trailers_size = refl;
  body_is_kept = refl;
  none_is_kept = refl;
  added = refl;
  added_nowhere = refl;
  replaced = refl;
  replaced_nowhere = refl;
  removed = refl;
  removed_nowhere = refl;
  set = refl;
  set_nowhere = refl;
  no_map = refl;
  no_such_map = refl;
}
