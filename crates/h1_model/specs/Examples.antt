-- Worked examples: what the definitions say of texts that are written out.
use Rattle.std.specs.Prelude.{◌≡◌, ℕ, true, false, List, [], ◌∷◌, ◌++◌, replicate, None, Some, Ok, Err, codes}
use Rattle.std.specs.List.{flat_map}
use Rattle.httparse.specs.Ascii.{crlf_bytes}
use Rattle.header_maps.specs.declared.kind.ListKind.TheVariants.{Request}
use Rattle.header_maps.specs.Operations.{no_headers, added, request_headers, response_headers}
use Rattle.h1_model.specs.Fields.{Pair, members, lists, kept_fields, passing_fields, passing_response_fields}
use Rattle.h1_model.specs.Length.{nothing, exactly, chunked, until_end, number_of, request_measure, response_measure}
use Rattle.h1_model.specs.Lines.{whole, too_large, unfinished, whole_lines, empty_line_bytes, head_cut}
use Rattle.h1_model.specs.Listed.{request_list, response_list}
use Rattle.h1_model.specs.Target.{Target, origin, absolute, asterisk, http, https, target_of}
use Rattle.h1_model.specs.Head.{Head, found, refused, early_refusal, IsJudged, SpellsStep, SpellsResponse, response_judged}
use Rattle.h1_model.specs.Messages.{request, interim, response, octet, end, rest, over, refusal, Messages}
use Rattle.h1_model.specs.Wire.{sent_fields, wire_of}

-- `GET / HTTP/1.1`, `Host: a`
abbrev pub worked_text : List ℕ
worked_text = codes "GET / HTTP/1.1" ++ crlf_bytes ++ codes "Host: a" ++ crlf_bytes ++ crlf_bytes

abbrev pub worked_head : Head
worked_head = record {
  fields = request_headers (codes "GET") (codes "http") (codes "a") (codes "/");
  tail = no_headers;
  form = Some origin;
  minor = 1;
  length = nothing;
  told = None;
  close = false;
  connection = [];
}

-- what goes up for it
abbrev pub worked_wire : List ℕ
worked_wire =
    codes "GET / HTTP/1.1" ++ crlf_bytes ++ codes "host: a" ++ crlf_bytes ++ codes "via: 1.1 wasmgate" ++ crlf_bytes
    ++ codes "connection: close" ++ crlf_bytes ++ crlf_bytes

-- the worked head, from its text to what goes up
pub record WorkedHead : Type 0 where
  pub spelled : SpellsStep worked_text (found worked_head 27)
  pub sent : wire_of worked_head ≡ worked_wire
  pub read : Messages worked_text true None (record { item = request worked_head; from = 0; to = 27 } ∷ []) over
  pub behind_empty_lines : Messages (crlf_bytes ++ 10 ∷ worked_text) false None
      (record { item = request worked_head; from = 3; to = 30 } ∷ []) rest
  pub nothing_unread : Messages (crlf_bytes ++ crlf_bytes) true None [] over

-- `GET / HTTP/1.0`, `Host: a`, `Connection: close`, `X-B: 1`
abbrev pub closing_text : List ℕ
closing_text =
    codes "GET / HTTP/1.0" ++ crlf_bytes ++ codes "Host: a" ++ crlf_bytes ++ codes "Connection: close" ++ crlf_bytes
    ++ codes "X-B: 1" ++ crlf_bytes ++ crlf_bytes

abbrev pub closing_head : Head
closing_head = record {
  fields = added (request_headers (codes "GET") (codes "http") (codes "a") (codes "/")) (codes "x-b") (codes "1");
  tail = no_headers;
  form = Some origin;
  minor = 0;
  length = nothing;
  told = None;
  close = true;
  connection = codes "close" ∷ [];
}

-- its wire: the field that passes stands between `host` and `via`, which tells the version received (the program sends no
-- request of HTTP/1.0 up as yet)
abbrev pub closing_wire : List ℕ
closing_wire =
    codes "GET / HTTP/1.1" ++ crlf_bytes ++ codes "host: a" ++ crlf_bytes ++ codes "x-b: 1" ++ crlf_bytes
    ++ codes "via: 1.0 wasmgate" ++ crlf_bytes ++ codes "connection: close" ++ crlf_bytes ++ crlf_bytes

pub record ClosingHead : Type 0 where
  pub spelled : SpellsStep closing_text (found closing_head 54)
  pub sent : wire_of closing_head ≡ closing_wire

-- `HTTP/1.1 200 OK`, `Content-Length: 3`
abbrev pub worked_response_text : List ℕ
worked_response_text = codes "HTTP/1.1 200 OK" ++ crlf_bytes ++ codes "Content-Length: 3" ++ crlf_bytes ++ crlf_bytes

abbrev pub worked_response : Head
worked_response = record {
  fields = added (response_headers 200) (codes "content-length") (codes "3");
  tail = no_headers;
  form = None;
  minor = 1;
  length = exactly 3;
  told = Some 3;
  close = false;
  connection = [];
}

-- the same in answer to a HEAD request
abbrev pub worked_bare_response : Head
worked_bare_response = record worked_response { length = nothing }

-- `HTTP/1.1 100 Continue`
abbrev pub worked_interim_text : List ℕ
worked_interim_text = codes "HTTP/1.1 100 Continue" ++ crlf_bytes ++ crlf_bytes

abbrev pub worked_interim : Head
worked_interim = record {
  fields = response_headers 100;
  tail = no_headers;
  form = None;
  minor = 1;
  length = nothing;
  told = None;
  close = false;
  connection = [];
}

-- a response after an interim head with its body, byte by byte; one that breaks off; and what a text spells that ends before a
-- response has come
pub record WorkedResponse : Type 0 where
  pub spelled : SpellsResponse false worked_response_text (found worked_response 38)
  pub read : Messages (worked_interim_text ++ worked_response_text ++ codes "abc") true (Some (codes "GET"))
      (record { item = interim worked_interim; from = 0; to = 25 } ∷ record { item = response worked_response; from = 25; to = 63 }
      ∷ record { item = octet 97; from = 63; to = 64 } ∷ record { item = octet 98; from = 64; to = 65 } ∷ record { item = octet 99; from = 65; to = 66 }
      ∷ record { item = end; from = 66; to = 66 } ∷ []) over
  pub short : Messages (worked_response_text ++ codes "a") true (Some (codes "GET"))
      (record { item = response worked_response; from = 0; to = 38 } ∷ record { item = octet 97; from = 38; to = 39 } ∷ []) (refusal 502)
  pub going_on : Messages (worked_response_text ++ codes "a") false (Some (codes "GET"))
      (record { item = response worked_response; from = 0; to = 38 } ∷ record { item = octet 97; from = 38; to = 39 } ∷ []) rest
  pub bare : Messages worked_response_text false (Some (codes "HEAD"))
      (record { item = response worked_bare_response; from = 0; to = 38 } ∷ []) over
  pub missing : Messages crlf_bytes true (Some (codes "GET")) [] (refusal 502)

-- a request line and so many lines after it
abbrev pub lines_text : ℕ → List ℕ
lines_text n = codes "a" ++ 10 ∷ flat_map (λ b. b ∷ 10 ∷ []) (replicate n 98)

pub record LineExamples : Type 0 where
  pub lines : whole_lines (codes "a" ++ crlf_bytes ++ 10 ∷ codes "b") ≡ (97 ∷ 13 ∷ 10 ∷ []) ∷ (10 ∷ []) ∷ []
  pub skips : empty_line_bytes (crlf_bytes ++ 10 ∷ codes "a" ++ 10 ∷ []) ≡ 3
  pub lone_cr : empty_line_bytes (13 ∷ 13 ∷ 10 ∷ []) ≡ 0
  pub ends : head_cut (codes "a" ++ 10 ∷ codes "b" ++ 10 ∷ crlf_bytes ++ codes "c") ≡ whole 6
  pub open_line : head_cut (codes "a" ++ 10 ∷ codes "b") ≡ unfinished
  pub hundred : head_cut (lines_text 100 ++ 10 ∷ []) ≡ whole 203
  pub hundred_open : head_cut (lines_text 100) ≡ unfinished
  pub hundred_one : head_cut (lines_text 101) ≡ too_large
  pub hundred_one_whole : head_cut (lines_text 101 ++ 10 ∷ []) ≡ too_large

-- `Connection: keep-alive, X-A` drops itself, Keep-Alive and x-a
abbrev pub connection_fields : List Pair
connection_fields =
    (codes "Host", codes "a") ∷ (codes "Connection", codes "keep-alive , X-A") ∷ (codes "x-a", codes "1")
    ∷ (codes "Keep-Alive", codes "5") ∷ (codes "X-B", []) ∷ (codes "x-b", codes "2") ∷ []

pub record FieldExamples : Type 0 where
  pub list : members (codes "a ,, b") ≡ codes "a" ∷ [] ∷ codes "b" ∷ []
  pub none : members [] ≡ [] ∷ []
  pub listed : lists (codes "close") (codes "x, CLOSE") ≡ true
  pub part : lists (codes "close") (codes "closed") ≡ false
  pub kept : kept_fields connection_fields ≡ (codes "x-b", []) ∷ (codes "x-b", codes "2") ∷ []
  pub passing : passing_fields connection_fields ≡ (codes "X-B", []) ∷ (codes "x-b", codes "2") ∷ []
  pub passing_response : passing_response_fields connection_fields ≡ (codes "Host", codes "a") ∷ (codes "X-B", []) ∷ (codes "x-b", codes "2") ∷ []

-- what a filter put in of its own goes out only where the gateway does not write it
pub record WireExamples : Type 0 where
  pub left_out : sent_fields ((codes ":path", codes "/") ∷ (codes "x-a", codes "1") ∷ (codes "content-length", codes "5") ∷ (codes "connection", codes "x-b")
      ∷ (codes "x-b", codes "2") ∷ (codes "te", []) ∷ (codes "host", codes "b") ∷ (codes "x-c", codes "3") ∷ [])
      ≡ (codes "x-a", codes "1") ∷ (codes "x-c", codes "3") ∷ []

-- the number of a refusal, or the length and the number told
pub record LengthExamples : Type 0 where
  pub none : request_measure 1 [] [] ≡ Ok (record { length = nothing; told = None })
  pub five : request_measure 1 [] (codes "5" ∷ []) ≡ Ok (record { length = exactly 5; told = Some 5 })
  pub zeros : request_measure 1 [] (codes "007" ∷ codes "7 , 07" ∷ []) ≡ Ok (record { length = exactly 7; told = Some 7 })
  pub no_body : request_measure 1 [] (codes "0" ∷ []) ≡ Ok (record { length = nothing; told = Some 0 })
  pub differ : request_measure 1 [] (codes "5, 6" ∷ []) ≡ Err 400
  pub empty_member : request_measure 1 [] (codes "5," ∷ []) ≡ Err 400
  pub no_digits : request_measure 1 [] ([] ∷ []) ≡ Err 400
  pub sign : request_measure 1 [] (codes "+5" ∷ []) ≡ Err 400
  pub limit : number_of (codes "9223372036854775807") ≡ Some 9223372036854775807
  pub past_limit : number_of (codes "9223372036854775808") ≡ None
  pub chunked_alone : request_measure 1 (codes "Chunked" ∷ []) [] ≡ Ok (record { length = chunked; told = None })
  pub two_codings : request_measure 1 (codes "gzip, chunked" ∷ []) [] ≡ Err 501
  pub two_lines : request_measure 1 (codes "chunked" ∷ codes "chunked" ∷ []) [] ≡ Err 501
  pub both : request_measure 1 (codes "gzip" ∷ []) (codes "5" ∷ []) ≡ Err 400
  pub old : request_measure 0 (codes "chunked" ∷ []) [] ≡ Err 400

-- a response that tells no length goes on until the line ends; all that is wrong is 502
pub record ResponseLengthExamples : Type 0 where
  pub none : response_measure 1 [] [] ≡ Ok (record { length = until_end; told = None })
  pub five : response_measure 1 [] (codes "5" ∷ []) ≡ Ok (record { length = exactly 5; told = Some 5 })
  pub no_body : response_measure 0 [] (codes "0" ∷ []) ≡ Ok (record { length = nothing; told = Some 0 })
  pub differ : response_measure 1 [] (codes "5" ∷ codes "6" ∷ []) ≡ Err 502
  pub chunked_alone : response_measure 1 (codes "chunked" ∷ []) [] ≡ Ok (record { length = chunked; told = None })
  pub other_coding : response_measure 1 (codes "gzip" ∷ []) [] ≡ Err 502
  pub old : response_measure 0 (codes "chunked" ∷ []) [] ≡ Err 502
  pub both : response_measure 1 (codes "chunked" ∷ []) (codes "5" ∷ []) ≡ Err 502

-- what is told is judged where there is no body too, and kept
pub record BareExamples : Type 0 where
  pub to_head : response_judged true 1 200 ((codes "Content-Length", codes "3") ∷ []) ≡ Ok worked_bare_response
  pub no_content : response_judged false 1 204 ((codes "Transfer-Encoding", codes "chunked") ∷ [])
      ≡ Ok (record { fields = response_headers 204; tail = no_headers; form = None; minor = 1; length = nothing; told = None; close = false; connection = [] })
  pub not_modified : response_judged false 1 304 ((codes "Content-Length", codes "x") ∷ []) ≡ Err 502
  pub switching : response_judged false 1 101 [] ≡ Err 502
  pub low : response_judged false 1 99 [] ≡ Err 502
  pub high : response_judged false 1 600 [] ≡ Err 502

-- what the fields of a response tell of its head, though they do not pass
pub record ResponseExamples : Type 0 where
  pub chunks : response_judged false 1 200 ((codes "Transfer-Encoding", codes "chunked") ∷ [])
      ≡ Ok (record { fields = response_headers 200; tail = no_headers; form = None; minor = 1; length = chunked; told = None; close = false; connection = [] })
  pub closing : response_judged false 0 200 ((codes "Connection", codes "x, Close") ∷ [])
      ≡ Ok (record { fields = response_headers 200; tail = no_headers; form = None; minor = 0; length = until_end; told = None; close = true; connection = codes "x, Close" ∷ [] })
  pub closing_interim : response_judged false 1 103 ((codes "Connection", codes "close") ∷ [])
      ≡ Ok (record { fields = response_headers 103; tail = no_headers; form = None; minor = 1; length = nothing; told = None; close = true; connection = codes "close" ∷ [] })
  pub both : response_judged false 1 200 ((codes "Transfer-Encoding", codes "chunked") ∷ (codes "Content-Length", codes "3") ∷ []) ≡ Err 502
  pub interim_length : response_judged false 1 103 ((codes "Content-Length", codes "x") ∷ []) ≡ Err 502

-- what is judged first: Host and then the target (400) before a coding that is not implemented (501), and too large before
-- malformed (431, of a response 502)
pub record OrderExamples : Type 0 where
  pub host_first : IsJudged (codes "GET") (codes "/") 1 ((codes "Transfer-Encoding", codes "gzip") ∷ []) (Err 400)
  pub target_first : IsJudged (codes "GET") (codes "*") 1 ((codes "Host", codes "a") ∷ (codes "Transfer-Encoding", codes "gzip") ∷ []) (Err 400)
  pub too_large : SpellsStep (lines_text 101 ++ 10 ∷ []) (refused 431)
  pub too_large_response : SpellsResponse false (lines_text 101 ++ 10 ∷ []) (refused 502)

-- the pseudo-headers first, then the fields that pass, with names in lower case; what no list takes gives none
abbrev pub worked_target : Target
worked_target = record { form = origin; scheme = http; authority = None; path = codes "/" }

pub record ListExamples : Type 0 where
  pub request : request_list (codes "GET") worked_target (codes "a") ((codes "X-A", codes "1") ∷ (codes "TE", codes "x") ∷ [])
      ≡ Some (record {
        kind = Request;
        pairs = (codes ":method", codes "GET") ∷ (codes ":scheme", codes "http")
            ∷ (codes ":authority", codes "a") ∷ (codes ":path", codes "/") ∷ (codes "x-a", codes "1") ∷ [];
      })
  pub response : response_list 404 ((codes "Server", codes "b") ∷ []) ≡ Some (added (response_headers 404) (codes "server") (codes "b"))
  pub authority : request_list (codes "GET") worked_target (codes "a b") [] ≡ None
  pub name : request_list (codes "GET") worked_target (codes "a") ((codes "x y", []) ∷ []) ≡ None
  pub value : response_list 200 ((codes "x", 10 ∷ []) ∷ []) ≡ None

pub record TargetExamples : Type 0 where
  pub query : target_of (codes "GET") (codes "/a?b") None None
      ≡ Some (record { form = origin; scheme = http; authority = None; path = codes "/a?b" })
  pub fragment : target_of (codes "GET") (codes "/a#b") None None ≡ None
  pub star : target_of (codes "OPTIONS") (codes "*") None None
      ≡ Some (record { form = asterisk; scheme = http; authority = None; path = codes "*" })
  pub star_of_get : target_of (codes "GET") (codes "*") None None ≡ None
  pub authority_form : target_of (codes "GET") (codes "a:1") None (Some (codes "a:1")) ≡ None
  pub no_path : target_of (codes "GET") (codes "http://a") (Some (codes "http")) (Some (codes "a"))
      ≡ Some (record { form = absolute; scheme = http; authority = Some (codes "a"); path = codes "/" })
  pub no_path_query : target_of (codes "GET") (codes "HTTPS://a?x") (Some (codes "https")) (Some (codes "a"))
      ≡ Some (record { form = absolute; scheme = https; authority = Some (codes "a"); path = codes "/?x" })
  pub options : target_of (codes "OPTIONS") (codes "http://a") (Some (codes "http")) (Some (codes "a"))
      ≡ Some (record { form = absolute; scheme = http; authority = Some (codes "a"); path = codes "*" })
  pub options_slash : target_of (codes "OPTIONS") (codes "http://a/") (Some (codes "http")) (Some (codes "a"))
      ≡ Some (record { form = absolute; scheme = http; authority = Some (codes "a"); path = codes "/" })
  pub user : target_of (codes "GET") (codes "http://u@a/") (Some (codes "http")) (Some (codes "u@a")) ≡ None
  pub other_scheme : target_of (codes "GET") (codes "ws://a/") (Some (codes "ws")) (Some (codes "a")) ≡ None

pub record RefusalExamples : Type 0 where
  pub connect : early_refusal (codes "CONNECT") 1 [] ≡ Some 501
  pub no_host : early_refusal (codes "GET") 1 [] ≡ Some 400
  pub no_host_old : early_refusal (codes "GET") 0 [] ≡ None
  pub two_hosts : early_refusal (codes "GET") 1 ((codes "Host", codes "a") ∷ (codes "HOST", codes "a") ∷ []) ≡ Some 400
  pub empty_host : early_refusal (codes "GET") 1 ((codes "host", []) ∷ []) ≡ None
  pub blank_in_host : early_refusal (codes "GET") 1 ((codes "Host", codes "a b") ∷ []) ≡ Some 400
