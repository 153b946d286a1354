-- The messages of worked turns are read.
use Rattle.std.proofs.Common.{ℕ, List, true, false, [], ◌∷◌, None, Some, Ok, codes, refl, inl, lit<, lit≤}
use Rattle.std.proofs.lemmas.List.Sums.{AllPass-from_list_all}
use Rattle.std.proofs.lemmas.List.Elements.{All-cons, All-nil}
use Rattle.std.specs.Prelude.{All}
use Rattle.std.specs.Char.{is_ascii_digit}
use Rattle.http_header.specs.Token as header
use Rattle.httparse.specs.Grammar.{crlf, Field, IsField, RequestHead, IsRequestHead, ResponseHead, IsResponseHead, is_token_byte, is_uri_byte, is_value_byte}
use Rattle.httparse.proofs.OnLiterals.{httparse_on_literals}
use Rattle.h1_model.specs.Examples.{worked_response_text, worked_bare_response, worked_interim_text, worked_interim}
use Rattle.h1_model.specs.Head.{IsAnswer, IsResponseAnswer}
use Rattle.h1_model.specs.Target.{origin, http}
use Rattle.h1_model.proofs.Examples.{host_field, host_is_field, slash_target}
use Rattle.law_turns.specs.Texts.{RequestTexts, ResponseTexts, posted_text, posted_head, upload_text, upload_head, peek_text, peek_head, old_text, old_head, last_text, last_head, download_text, download_head, endless_text, endless_head, no_content_text, no_content_head, unmodified_text, unmodified_head}

abbrev field : List ℕ → List ℕ → Field
field name raw = record { name = name; raw = raw; end = crlf }

abbrev lists_field : Field
lists_field = field (codes "Connection") (codes " x-h")

abbrev listed_field : Field
listed_field = field (codes "X-H") (codes " 1")

abbrev passing_field : Field
passing_field = field (codes "X-B") (codes " 2")

abbrev length_field : Field
length_field = field (codes "Content-Length") (codes " 3")

abbrev coded_field : Field
coded_field = field (codes "Transfer-Encoding") (codes " chunked")

abbrev closing_field : Field
closing_field = field (codes "Connection") (codes " close")

lists_is_field : IsField lists_field
unfolding httparse_on_literals
lists_is_field = record {
  name = (lit< tt, AllPass-from_list_all is_token_byte (codes "Connection") refl);
  raw = AllPass-from_list_all is_value_byte (codes " x-h") refl;
}

listed_is_field : IsField listed_field
unfolding httparse_on_literals
listed_is_field = record {
  name = (lit< tt, AllPass-from_list_all is_token_byte (codes "X-H") refl);
  raw = AllPass-from_list_all is_value_byte (codes " 1") refl;
}

passing_is_field : IsField passing_field
unfolding httparse_on_literals
passing_is_field = record {
  name = (lit< tt, AllPass-from_list_all is_token_byte (codes "X-B") refl);
  raw = AllPass-from_list_all is_value_byte (codes " 2") refl;
}

length_is_field : IsField length_field
unfolding httparse_on_literals
length_is_field = record {
  name = (lit< tt, AllPass-from_list_all is_token_byte (codes "Content-Length") refl);
  raw = AllPass-from_list_all is_value_byte (codes " 3") refl;
}

coded_is_field : IsField coded_field
unfolding httparse_on_literals
coded_is_field = record {
  name = (lit< tt, AllPass-from_list_all is_token_byte (codes "Transfer-Encoding") refl);
  raw = AllPass-from_list_all is_value_byte (codes " chunked") refl;
}

close_is_field : IsField closing_field
unfolding httparse_on_literals
close_is_field = record {
  name = (lit< tt, AllPass-from_list_all is_token_byte (codes "Connection") refl);
  raw = AllPass-from_list_all is_value_byte (codes " close") refl;
}

-- ---- requests

abbrev tree : List ℕ → ℕ → List Field → RequestHead
tree method minor fields = record { blank = []; method = method; target = codes "/"; minor = minor; line_end = crlf; fields = fields; last = crlf }

abbrev posted_fields : List Field
posted_fields =
    host_field ∷ lists_field ∷ listed_field ∷ passing_field
    ∷ length_field ∷ []

posted_are : All IsField posted_fields
posted_are =
    All-cons IsField host_field (lists_field ∷ listed_field ∷ passing_field ∷ length_field ∷ []) host_is_field
    (All-cons IsField lists_field (listed_field ∷ passing_field ∷ length_field ∷ []) lists_is_field
    (All-cons IsField listed_field (passing_field ∷ length_field ∷ []) listed_is_field
    (All-cons IsField passing_field (length_field ∷ []) passing_is_field
    (All-cons IsField length_field [] length_is_field (All-nil IsField)))))

posted_is_head : IsRequestHead (tree (codes "POST") 1 posted_fields)
unfolding httparse_on_literals lib.Utf8.encode
posted_is_head = record {
  method = (lit< tt, AllPass-from_list_all is_token_byte (codes "POST") refl);
  target = (lit< tt, AllPass-from_list_all is_uri_byte (codes "/") refl);
  target_text = (codes "/", (refl, refl));
  minor = lit≤ tt;
  fields = posted_are;
}

posted_answer : IsAnswer posted_text (Ok posted_head)
unfolding httparse_on_literals header.is_token_byte
posted_answer = inl (record {
  head = tree (codes "POST") 1 posted_fields;
  reads = (posted_is_head, refl);
  judged = record { parts = Some (record { form = origin; scheme = http; authority = None; path = codes "/" }); gives = slash_target (codes "POST"); is = refl };
})

abbrev upload_fields : List Field
upload_fields = host_field ∷ coded_field ∷ []

upload_is_head : IsRequestHead (tree (codes "POST") 1 upload_fields)
unfolding httparse_on_literals lib.Utf8.encode
upload_is_head = record {
  method = (lit< tt, AllPass-from_list_all is_token_byte (codes "POST") refl);
  target = (lit< tt, AllPass-from_list_all is_uri_byte (codes "/") refl);
  target_text = (codes "/", (refl, refl));
  minor = lit≤ tt;
  fields = All-cons IsField host_field (coded_field ∷ []) host_is_field (All-cons IsField coded_field [] coded_is_field (All-nil IsField));
}

upload_answer : IsAnswer upload_text (Ok upload_head)
unfolding httparse_on_literals header.is_token_byte
upload_answer = inl (record {
  head = tree (codes "POST") 1 upload_fields;
  reads = (upload_is_head, refl);
  judged = record { parts = Some (record { form = origin; scheme = http; authority = None; path = codes "/" }); gives = slash_target (codes "POST"); is = refl };
})

abbrev plain_fields : List Field
plain_fields = host_field ∷ []

peek_is_head : IsRequestHead (tree (codes "HEAD") 1 plain_fields)
unfolding httparse_on_literals lib.Utf8.encode
peek_is_head = record {
  method = (lit< tt, AllPass-from_list_all is_token_byte (codes "HEAD") refl);
  target = (lit< tt, AllPass-from_list_all is_uri_byte (codes "/") refl);
  target_text = (codes "/", (refl, refl));
  minor = lit≤ tt;
  fields = All-cons IsField host_field [] host_is_field (All-nil IsField);
}

peek_answer : IsAnswer peek_text (Ok peek_head)
unfolding httparse_on_literals header.is_token_byte
peek_answer = inl (record {
  head = tree (codes "HEAD") 1 plain_fields;
  reads = (peek_is_head, refl);
  judged = record { parts = Some (record { form = origin; scheme = http; authority = None; path = codes "/" }); gives = slash_target (codes "HEAD"); is = refl };
})

old_is_head : IsRequestHead (tree (codes "GET") 0 plain_fields)
unfolding httparse_on_literals lib.Utf8.encode
old_is_head = record {
  method = (lit< tt, AllPass-from_list_all is_token_byte (codes "GET") refl);
  target = (lit< tt, AllPass-from_list_all is_uri_byte (codes "/") refl);
  target_text = (codes "/", (refl, refl));
  minor = lit≤ tt;
  fields = All-cons IsField host_field [] host_is_field (All-nil IsField);
}

old_answer : IsAnswer old_text (Ok old_head)
unfolding httparse_on_literals header.is_token_byte
old_answer = inl (record {
  head = tree (codes "GET") 0 plain_fields;
  reads = (old_is_head, refl);
  judged = record { parts = Some (record { form = origin; scheme = http; authority = None; path = codes "/" }); gives = slash_target (codes "GET"); is = refl };
})

abbrev last_fields : List Field
last_fields = host_field ∷ closing_field ∷ []

last_is_head : IsRequestHead (tree (codes "GET") 1 last_fields)
unfolding httparse_on_literals lib.Utf8.encode
last_is_head = record {
  method = (lit< tt, AllPass-from_list_all is_token_byte (codes "GET") refl);
  target = (lit< tt, AllPass-from_list_all is_uri_byte (codes "/") refl);
  target_text = (codes "/", (refl, refl));
  minor = lit≤ tt;
  fields = All-cons IsField host_field (closing_field ∷ []) host_is_field (All-cons IsField closing_field [] close_is_field (All-nil IsField));
}

last_answer : IsAnswer last_text (Ok last_head)
unfolding httparse_on_literals header.is_token_byte
last_answer = inl (record {
  head = tree (codes "GET") 1 last_fields;
  reads = (last_is_head, refl);
  judged = record { parts = Some (record { form = origin; scheme = http; authority = None; path = codes "/" }); gives = slash_target (codes "GET"); is = refl };
})

pub request_texts : RequestTexts
request_texts = record {
  posted = (Ok posted_head, posted_answer, refl);
  upload = (Ok upload_head, upload_answer, refl);
  peek = (Ok peek_head, peek_answer, refl);
  old = (Ok old_head, old_answer, refl);
  last = (Ok last_head, last_answer, refl);
}

-- ---- responses

abbrev reply : List ℕ → List ℕ → List Field → ResponseHead
reply digits reason fields = record { blank = []; minor = 1; digits = digits; reason = Some reason; line_end = crlf; fields = fields; last = crlf }

bare_is_head : IsResponseHead (reply (codes "200") (codes "OK") (length_field ∷ []))
unfolding httparse_on_literals
bare_is_head = record {
  minor = lit≤ tt;
  digits = (refl, AllPass-from_list_all is_ascii_digit (codes "200") refl);
  reason = AllPass-from_list_all is_value_byte (codes "OK") refl;
  fields = All-cons IsField length_field [] length_is_field (All-nil IsField);
}

bare_answer : IsResponseAnswer true worked_response_text (Ok worked_bare_response)
unfolding httparse_on_literals header.is_token_byte
bare_answer = inl (record { head = reply (codes "200") (codes "OK") (length_field ∷ []); reads = (bare_is_head, refl); judged = refl })

interim_is_head : IsResponseHead (reply (codes "100") (codes "Continue") [])
unfolding httparse_on_literals
interim_is_head = record {
  minor = lit≤ tt;
  digits = (refl, AllPass-from_list_all is_ascii_digit (codes "100") refl);
  reason = AllPass-from_list_all is_value_byte (codes "Continue") refl;
  fields = All-nil IsField;
}

interim_answer : IsResponseAnswer false worked_interim_text (Ok worked_interim)
unfolding httparse_on_literals header.is_token_byte
interim_answer = inl (record { head = reply (codes "100") (codes "Continue") []; reads = (interim_is_head, refl); judged = refl })

download_is_head : IsResponseHead (reply (codes "200") (codes "OK") (coded_field ∷ []))
unfolding httparse_on_literals
download_is_head = record {
  minor = lit≤ tt;
  digits = (refl, AllPass-from_list_all is_ascii_digit (codes "200") refl);
  reason = AllPass-from_list_all is_value_byte (codes "OK") refl;
  fields = All-cons IsField coded_field [] coded_is_field (All-nil IsField);
}

download_answer : IsResponseAnswer false download_text (Ok download_head)
unfolding httparse_on_literals header.is_token_byte
download_answer = inl (record {
  head = reply (codes "200") (codes "OK") (coded_field ∷ []);
  reads = (download_is_head, refl);
  judged = refl;
})

endless_is_head : IsResponseHead (reply (codes "200") (codes "OK") [])
unfolding httparse_on_literals
endless_is_head = record {
  minor = lit≤ tt;
  digits = (refl, AllPass-from_list_all is_ascii_digit (codes "200") refl);
  reason = AllPass-from_list_all is_value_byte (codes "OK") refl;
  fields = All-nil IsField;
}

endless_answer : IsResponseAnswer false endless_text (Ok endless_head)
unfolding httparse_on_literals header.is_token_byte
endless_answer = inl (record { head = reply (codes "200") (codes "OK") []; reads = (endless_is_head, refl); judged = refl })

no_content_is_head : IsResponseHead (reply (codes "204") (codes "No Content") [])
unfolding httparse_on_literals
no_content_is_head = record {
  minor = lit≤ tt;
  digits = (refl, AllPass-from_list_all is_ascii_digit (codes "204") refl);
  reason = AllPass-from_list_all is_value_byte (codes "No Content") refl;
  fields = All-nil IsField;
}

no_content_answer : IsResponseAnswer false no_content_text (Ok no_content_head)
unfolding httparse_on_literals header.is_token_byte
no_content_answer = inl (record { head = reply (codes "204") (codes "No Content") []; reads = (no_content_is_head, refl); judged = refl })

unmodified_is_head : IsResponseHead (reply (codes "304") (codes "Not Modified") (length_field ∷ []))
unfolding httparse_on_literals
unmodified_is_head = record {
  minor = lit≤ tt;
  digits = (refl, AllPass-from_list_all is_ascii_digit (codes "304") refl);
  reason = AllPass-from_list_all is_value_byte (codes "Not Modified") refl;
  fields = All-cons IsField length_field [] length_is_field (All-nil IsField);
}

unmodified_answer : IsResponseAnswer false unmodified_text (Ok unmodified_head)
unfolding httparse_on_literals header.is_token_byte
unmodified_answer = inl (record {
  head = reply (codes "304") (codes "Not Modified") (length_field ∷ []);
  reads = (unmodified_is_head, refl);
  judged = refl;
})

pub response_texts : ResponseTexts
response_texts = record {
  bare = (Ok worked_bare_response, bare_answer, refl);
  interim = (Ok worked_interim, interim_answer, refl);
  download = (Ok download_head, download_answer, refl);
  endless = (Ok endless_head, endless_answer, refl);
  no_content = (Ok no_content_head, no_content_answer, refl);
  unmodified = (Ok unmodified_head, unmodified_answer, refl);
}
