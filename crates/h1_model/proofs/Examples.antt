-- The worked examples, by computation.
use Rattle.std.proofs.Common.{◌≡◌, ℕ, List, Option, true, false, [], ◌∷◌, None, Some, Ok, codes, refl, inl, inr, lit<, lit≤, arith}
use Rattle.std.proofs.lemmas.List.Sums.{AllPass-from_list_all}
use Rattle.std.proofs.lemmas.List.Elements.{All-cons, All-nil}
use Rattle.std.specs.Char.{is_ascii_digit}
use Rattle.http_header.specs.Token as header
use Rattle.httparse.specs.Grammar.{crlf, Field, IsField, RequestHead, IsRequestHead, ResponseHead, IsResponseHead, is_token_byte, is_uri_byte, is_value_byte}
use Rattle.httparse.proofs.OnLiterals.{httparse_on_literals}
use Rattle.http_uri.proofs.PathLemmas.{IsPathAndQuery_slash}
use Rattle.http_uri.proofs.UriLemmas.{cut_long}
use Rattle.http_uri.specs.Grammar.{IsUriText}
use Rattle.h1_model.specs.Head.{found, IsAnswer, IsResponseAnswer, not_yet}
use Rattle.h1_model.specs.Messages.{head, body, done, counted}
use Rattle.h1_model.specs.Target.{Target, GivesTarget, target_of, origin, http}
use Rattle.h1_model.specs.Examples.{closing_text, closing_head, worked_text, worked_head, WorkedHead, ClosingHead, ResponseExamples, OrderExamples, worked_response_text, worked_response, worked_bare_response, worked_interim_text, worked_interim, WorkedResponse, LineExamples, FieldExamples, WireExamples, LengthExamples, ResponseLengthExamples, BareExamples, ListExamples, TargetExamples, RefusalExamples}

abbrev pub host_field : Field
host_field = record { name = codes "Host"; raw = codes " a"; end = crlf }

abbrev worked_tree : RequestHead
worked_tree = record {
  blank = [];
  method = codes "GET";
  target = codes "/";
  minor = 1;
  line_end = crlf;
  fields = host_field ∷ [];
  last = crlf;
}

pub host_is_field : IsField host_field
unfolding httparse_on_literals
host_is_field = record {
  name = (lit< tt, AllPass-from_list_all is_token_byte (codes "Host") refl);
  raw = AllPass-from_list_all is_value_byte (codes " a") refl;
}

worked_is_head : IsRequestHead worked_tree
unfolding httparse_on_literals lib.Utf8.encode
worked_is_head = record {
  method = (lit< tt, AllPass-from_list_all is_token_byte (codes "GET") refl);
  target = (lit< tt, AllPass-from_list_all is_uri_byte (codes "/") refl);
  target_text = (codes "/", (refl, refl));
  minor = lit≤ tt;
  fields = All-cons IsField host_field [] host_is_field (All-nil IsField);
}

-- `/` is a target of every method
pub slash_target : (method : List ℕ) → GivesTarget method (codes "/") (record { form = origin; scheme = http; authority = None; path = codes "/" })
slash_target method = record {
  scheme = None;
  authority = None;
  kept = codes "/";
  reads = (lit≤ tt, ((inr refl, record { start = inr refl; short = lit≤ tt; kept = IsPathAndQuery_slash }), refl));
  gives = refl;
}

worked_target : GivesTarget (codes "GET") (codes "/") (record { form = origin; scheme = http; authority = None; path = codes "/" })
worked_target = slash_target (codes "GET")

worked_answer : IsAnswer worked_text (Ok worked_head)
unfolding httparse_on_literals header.is_token_byte
worked_answer = inl (record {
  head = worked_tree;
  reads = (worked_is_head, refl);
  judged = record { parts = Some (record { form = origin; scheme = http; authority = None; path = codes "/" }); gives = worked_target; is = refl };
})

-- ---- a request of HTTP/1.0 that closes

abbrev close_field : Field
close_field = record { name = codes "Connection"; raw = codes " close"; end = crlf }

abbrev plain_field : Field
plain_field = record { name = codes "X-B"; raw = codes " 1"; end = crlf }

abbrev closing_tree : RequestHead
closing_tree = record {
  blank = [];
  method = codes "GET";
  target = codes "/";
  minor = 0;
  line_end = crlf;
  fields = host_field ∷ close_field ∷ plain_field ∷ [];
  last = crlf;
}

close_is_field : IsField close_field
unfolding httparse_on_literals
close_is_field = record {
  name = (lit< tt, AllPass-from_list_all is_token_byte (codes "Connection") refl);
  raw = AllPass-from_list_all is_value_byte (codes " close") refl;
}

plain_is_field : IsField plain_field
unfolding httparse_on_literals
plain_is_field = record {
  name = (lit< tt, AllPass-from_list_all is_token_byte (codes "X-B") refl);
  raw = AllPass-from_list_all is_value_byte (codes " 1") refl;
}

closing_is_head : IsRequestHead closing_tree
unfolding httparse_on_literals lib.Utf8.encode
closing_is_head = record {
  method = (lit< tt, AllPass-from_list_all is_token_byte (codes "GET") refl);
  target = (lit< tt, AllPass-from_list_all is_uri_byte (codes "/") refl);
  target_text = (codes "/", (refl, refl));
  minor = lit≤ tt;
  fields = All-cons IsField host_field (close_field ∷ plain_field ∷ []) host_is_field
      (All-cons IsField close_field (plain_field ∷ []) close_is_field (All-cons IsField plain_field [] plain_is_field (All-nil IsField)));
}

closing_answer : IsAnswer closing_text (Ok closing_head)
unfolding httparse_on_literals header.is_token_byte
closing_answer = inl (record {
  head = closing_tree;
  reads = (closing_is_head, refl);
  judged = record { parts = Some (record { form = origin; scheme = http; authority = None; path = codes "/" }); gives = worked_target; is = refl };
})

pub closing_head_is : ClosingHead
closing_head_is = record { spelled = (Ok closing_head, closing_answer, refl); sent = refl }

-- ---- a response

abbrev length_field : Field
length_field = record { name = codes "Content-Length"; raw = codes " 3"; end = crlf }

abbrev response_tree : ResponseHead
response_tree = record {
  blank = [];
  minor = 1;
  digits = codes "200";
  reason = Some (codes "OK");
  line_end = crlf;
  fields = length_field ∷ [];
  last = crlf;
}

length_is_field : IsField length_field
unfolding httparse_on_literals
length_is_field = record {
  name = (lit< tt, AllPass-from_list_all is_token_byte (codes "Content-Length") refl);
  raw = AllPass-from_list_all is_value_byte (codes " 3") refl;
}

response_is_head : IsResponseHead response_tree
unfolding httparse_on_literals
response_is_head = record {
  minor = lit≤ tt;
  digits = (refl, AllPass-from_list_all is_ascii_digit (codes "200") refl);
  reason = AllPass-from_list_all is_value_byte (codes "OK") refl;
  fields = All-cons IsField length_field [] length_is_field (All-nil IsField);
}

response_answer : IsResponseAnswer false worked_response_text (Ok worked_response)
unfolding httparse_on_literals header.is_token_byte
response_answer = inl (record { head = response_tree; reads = (response_is_head, refl); judged = refl })

bare_answer : IsResponseAnswer true worked_response_text (Ok worked_bare_response)
unfolding httparse_on_literals header.is_token_byte
bare_answer = inl (record { head = response_tree; reads = (response_is_head, refl); judged = refl })

abbrev interim_tree : ResponseHead
interim_tree = record {
  blank = [];
  minor = 1;
  digits = codes "100";
  reason = Some (codes "Continue");
  line_end = crlf;
  fields = [];
  last = crlf;
}

interim_is_head : IsResponseHead interim_tree
unfolding httparse_on_literals
interim_is_head = record {
  minor = lit≤ tt;
  digits = (refl, AllPass-from_list_all is_ascii_digit (codes "100") refl);
  reason = AllPass-from_list_all is_value_byte (codes "Continue") refl;
  fields = All-nil IsField;
}

interim_answer : IsResponseAnswer false worked_interim_text (Ok worked_interim)
unfolding httparse_on_literals header.is_token_byte
interim_answer = inl (record { head = interim_tree; reads = (interim_is_head, refl); judged = refl })

pub worked_response_is : WorkedResponse
worked_response_is = record {
  spelled = (Ok worked_response, response_answer, refl);
  read = (
    25,
    head,
    (found worked_interim 25, (Ok worked_interim, interim_answer, refl), refl),
    refl,
    refl,
    (
      38,
      body (counted 3),
      (found worked_response 38, (Ok worked_response, response_answer, refl), refl),
      refl,
      refl,
      (
        1,
        body (counted 2),
        refl,
        refl,
        refl,
        (1, body (counted 1), refl, refl, refl, (1, body (counted 0), refl, refl, refl, (0, done, refl, refl, refl, refl))),
      ),
    ),
  );
  short = (
    38,
    body (counted 3),
    (found worked_response 38, (Ok worked_response, response_answer, refl), refl),
    refl,
    refl,
    (1, body (counted 2), refl, refl, refl, refl),
  );
  going_on = (
    38,
    body (counted 3),
    (found worked_response 38, (Ok worked_response, response_answer, refl), refl),
    refl,
    refl,
    (1, body (counted 2), refl, refl, refl, refl),
  );
  bare = (38, done, (found worked_bare_response 38, (Ok worked_bare_response, bare_answer, refl), refl), refl, refl, refl);
  missing = (not_yet, refl, refl);
}

pub worked_head_is : WorkedHead
worked_head_is = record {
  spelled = (Ok worked_head, worked_answer, refl);
  sent = refl;
  read = (27, head, (found worked_head 27, (Ok worked_head, worked_answer, refl), refl), refl, refl, (not_yet, refl, refl));
  behind_empty_lines = (30, head, (found worked_head 30, (Ok worked_head, worked_answer, refl), refl), refl, refl, (not_yet, refl, refl));
  nothing_unread = (not_yet, refl, refl);
}

pub response_examples : ResponseExamples
unfolding httparse_on_literals header.is_token_byte
response_examples = record { chunks = refl; closing = refl; closing_interim = refl; both = refl; interim_length = refl }

no_target : (t : Target) → ◌≡◌ {A = Option Target} None (Some t) → ⊥
no_target t e = cc

-- `*` is a target of OPTIONS alone
no_star : (t : Target) → GivesTarget (codes "GET") (codes "*") t → ⊥
no_star t g = by_form g.scheme g.authority g.kept g.reads g.gives
  where
    by_form : (s a : Option (List ℕ)) (k : List ℕ) → IsUriText (codes "*") s a k → target_of (codes "GET") (codes "*") s a ≡ Some t → ⊥
    by_form None None k h e = no_target t e
    by_form None (Some a) k h e = no_target t e
    by_form (Some s) None k h e = no_target t e
    by_form (Some s) (Some a) k h e = omega (arith, cut_long (codes "*") s a k h.1)

pub order_examples : OrderExamples
unfolding httparse_on_literals header.is_token_byte
order_examples = record {
  host_first = refl;
  target_first = record { parts = None; gives = no_star; is = refl };
  too_large = refl;
  too_large_response = refl;
}

pub line_examples : LineExamples
line_examples = record {
  lines = refl;
  skips = refl;
  lone_cr = refl;
  ends = refl;
  open_line = refl;
  hundred = refl;
  hundred_open = refl;
  hundred_one = refl;
  hundred_one_whole = refl;
}

pub field_examples : FieldExamples
unfolding httparse_on_literals
field_examples = record { list = refl; none = refl; listed = refl; part = refl; kept = refl; passing = refl; passing_response = refl }

pub wire_examples : WireExamples
unfolding httparse_on_literals
wire_examples = record { left_out = refl }

pub length_examples : LengthExamples
unfolding httparse_on_literals
length_examples = record {
  none = refl;
  five = refl;
  zeros = refl;
  no_body = refl;
  differ = refl;
  empty_member = refl;
  no_digits = refl;
  sign = refl;
  limit = refl;
  past_limit = refl;
  chunked_alone = refl;
  two_codings = refl;
  two_lines = refl;
  both = refl;
  old = refl;
}

pub response_length_examples : ResponseLengthExamples
unfolding httparse_on_literals
response_length_examples = record {
  none = refl;
  five = refl;
  no_body = refl;
  differ = refl;
  chunked_alone = refl;
  other_coding = refl;
  old = refl;
  both = refl;
}

pub bare_examples : BareExamples
unfolding httparse_on_literals header.is_token_byte
bare_examples = record { to_head = refl; no_content = refl; not_modified = refl; switching = refl; low = refl; high = refl }

pub list_examples : ListExamples
unfolding httparse_on_literals header.is_token_byte
list_examples = record { request = refl; response = refl; authority = refl; name = refl; value = refl }

pub target_examples : TargetExamples
target_examples = record {
  query = refl;
  fragment = refl;
  star = refl;
  star_of_get = refl;
  authority_form = refl;
  no_path = refl;
  no_path_query = refl;
  options = refl;
  options_slash = refl;
  user = refl;
  other_scheme = refl;
}

pub refusal_examples : RefusalExamples
refusal_examples = record {
  connect = refl;
  no_host = refl;
  no_host_old = refl;
  two_hosts = refl;
  empty_host = refl;
  blank_in_host = refl;
}
