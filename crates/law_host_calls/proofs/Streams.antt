-- The rows of these examples hold by computation.
use Rattle.std.proofs.Common.{refl}
use Rattle.http_header.specs.Token.{is_token_byte}
use Rattle.law_host_calls.specs.Streams.{StreamExamples, ResponseExamples}

pub stream_examples : StreamExamples
unfolding is_token_byte
stream_examples = record {
  request_continues = refl;
  response_continues = refl;
  no_client = refl;
  no_server = refl;
  no_such = refl;
  of_root = refl;
  request_closes = refl;
  response_closes = refl;
  no_client_closes = refl;
  no_server_closes = refl;
  none_closes = refl;
  root_closes = refl;
}

pub response_examples : ResponseExamples
unfolding is_token_byte
response_examples = record {
  asked = refl;
  empty = refl;
  status_below = refl;
  status_above = refl;
  of_root = refl;
  asked_before = refl;
  answered = refl;
  ended = refl;
  head_is_out = refl;
  bad_name = refl;
  no_pairs = refl;
  details_outside = refl;
  body_outside = refl;
  fields_outside = refl;
}
