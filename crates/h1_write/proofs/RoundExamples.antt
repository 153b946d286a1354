-- The worked examples of messages that are read back, by computation.
use Rattle.std.proofs.Common.{codes, refl, lit≤, arith}
use Rattle.std.specs.Fmt.{digits}
use Rattle.http_header.specs.Token as token
use Rattle.httparse.proofs.OnLiterals.{httparse_on_literals}
use Rattle.header_maps.specs.Kept.{IsHeaders}
use Rattle.h1_model.specs.Framing.{by_length, by_chunks}
use Rattle.h1_model.proofs.Examples.{slash_target}
use Rattle.h1_write.specs.Heads.{IsTail, IsReadable}
use Rattle.h1_write.specs.Requests.{IsReadableRequest}
use Rattle.h1_write.specs.RoundExamples.{tail_fields, written_response, ResponseExamples, written_request, RequestExamples}

tail_is : IsTail tail_fields.pairs
unfolding httparse_on_literals token.is_token_byte
tail_is = record { kept = refl; plain = refl }

response_list : IsHeaders written_response.fields
unfolding httparse_on_literals token.is_token_byte
response_list = record {
  shape = (record { name_is = refl; value = refl }, record { kept = refl; few = lit≤ tt });
  short = refl;
}

response_readable : IsReadable (by_length 3) written_response
unfolding httparse_on_literals token.is_token_byte digits
response_readable = record {
  kind = refl;
  list = response_list;
  other = λ e. omega arith;
  tail = tail_is;
  told = lit≤ tt;
  few = lit≤ tt;
  short = lit≤ tt;
}

pub response_examples : ResponseExamples
unfolding httparse_on_literals token.is_token_byte digits
response_examples = record {
  readable = response_readable;
  suits = refl;
  text = refl;
  fields = refl;
  length = refl;
  to_head = refl;
  close = refl;
  items = refl;
}

request_list : IsHeaders written_request.fields
unfolding httparse_on_literals token.is_token_byte
request_list = record {
  shape = (
    record { name_is = refl; value = refl },
    (
      record { name_is = refl; value = refl },
      (record { name_is = refl; value = refl }, (record { name_is = refl; value = refl }, record { kept = refl; few = lit≤ tt })),
    ),
  );
  short = refl;
}

request_readable : IsReadableRequest by_chunks written_request
unfolding httparse_on_literals token.is_token_byte digits
request_readable = record {
  kind = refl;
  list = request_list;
  target = slash_target (codes "POST");
  tail = tail_is;
  no_host = refl;
  framed = refl;
  told = tt;
  few = lit≤ tt;
  short = lit≤ tt;
}

pub request_examples : RequestExamples
unfolding httparse_on_literals token.is_token_byte digits
request_examples = record {
  readable = request_readable;
  suits = (refl, (record { kept = refl; few = lit≤ tt }, lit≤ tt));
  text = refl;
  fields = refl;
  length = refl;
  items = refl;
}
