-- The worked examples of framing and of outgoing messages, by computation.
use Rattle.std.proofs.Common.{refl}
use Rattle.std.specs.Fmt.{digits}
use Rattle.httparse.proofs.OnLiterals.{httparse_on_literals}
use Rattle.local_reply.specs.FramingExamples.{FramingExamples, OutExamples}

pub framing_examples : FramingExamples
framing_examples = record {
  request_without_body = refl;
  request_of_five = refl;
  request_changed = refl;
  request_of_zero = refl;
  request_in_chunks = refl;
  response_of_three = refl;
  response_to_head = refl;
  response_to_head_in_chunks = refl;
  not_modified = refl;
  no_content = refl;
  early_hints = refl;
  chunks_to_old = refl;
  length_to_old = refl;
  changed_to_old = refl;
  open_kept = refl;
  open_changed = refl;
}

pub out_examples : OutExamples
unfolding httparse_on_literals digits
out_examples = record {
  five_bytes = refl;
  one_chunk = refl;
  no_request_body = refl;
  until_close = refl;
  with_trailers = refl;
  trailers_without_room = refl;
  empty_pieces = refl;
  interim_first = refl;
}
