-- Worked examples: how messages are framed on their way out, and their bytes.
use Rattle.std.specs.Prelude.{◌≡◌, ℕ, true, false, List, [], ◌∷◌, ◌++◌, None, Some, codes}
use Rattle.httparse.specs.Ascii.{crlf_bytes}
use Rattle.header_maps.specs.declared.kind.ListKind.TheVariants.{Plain}
use Rattle.header_maps.specs.Headers.{Headers}
use Rattle.header_maps.specs.Operations.{no_headers, added, request_headers, response_headers}
use Rattle.h1_model.specs.Fields.{Pair}
use Rattle.h1_model.specs.Framing.{no_body, by_length, by_chunks, by_close, framing_of, head, interim, piece, trailers, items_wire}
use Rattle.h1_model.specs.Head.{Head}
use Rattle.h1_model.specs.Length.{nothing, exactly, chunked, until_end}
use Rattle.h1_model.specs.Wire.{via_of, close_field}

-- a head leaves with an end flag; a filter exports the callback for bodies; the client is one of HTTP/1.0
pub record FramingExamples : Type 0 where
  pub request_without_body : framing_of true true false None None nothing ≡ no_body
  pub request_of_five : framing_of false false false None (Some 5) (exactly 5) ≡ by_length 5
  pub request_changed : framing_of false true false None (Some 5) (exactly 5) ≡ by_chunks
  pub request_of_zero : framing_of true true false None (Some 0) nothing ≡ by_length 0
  pub request_in_chunks : framing_of false false false None None chunked ≡ by_chunks
  pub response_of_three : framing_of false false false (Some 200) (Some 3) (exactly 3) ≡ by_length 3
  pub response_to_head : framing_of true true false (Some 200) (Some 9) nothing ≡ by_length 9
  pub response_to_head_in_chunks : framing_of true false false (Some 200) None nothing ≡ no_body
  pub not_modified : framing_of true false false (Some 304) (Some 5) nothing ≡ by_length 5
  pub no_content : framing_of true false false (Some 204) (Some 5) nothing ≡ no_body
  pub early_hints : framing_of true false false (Some 103) (Some 5) nothing ≡ no_body
  pub chunks_to_old : framing_of false false true (Some 200) None chunked ≡ by_close
  pub length_to_old : framing_of false false true (Some 200) (Some 3) (exactly 3) ≡ by_length 3
  pub changed_to_old : framing_of false true true (Some 200) (Some 3) (exactly 3) ≡ by_close
  pub open_kept : framing_of false false false (Some 200) None until_end ≡ by_close
  pub open_changed : framing_of false true false (Some 200) None until_end ≡ by_chunks

abbrev line : List ℕ → List ℕ
line text = text ++ crlf_bytes

abbrev plain : List Pair → Headers
plain fields = record { kind = Plain; pairs = fields }

-- `POST / HTTP/1.1`, `Host: a`, `Content-Length: 5`
abbrev request_head : Head
request_head = record {
  fields = request_headers (codes "POST") (codes "http") (codes "a") (codes "/");
  tail = plain (via_of 1 ∷ close_field ∷ []);
  form = None;
  minor = 1;
  length = exactly 5;
  told = Some 5;
  close = false;
  connection = [];
}

abbrev request_start : List ℕ
request_start = line (codes "POST / HTTP/1.1") ++ line (codes "host: a")

abbrev request_end : List ℕ
request_end = line (codes "via: 1.1 wasmgate") ++ line (codes "connection: close") ++ line []

-- a response head of this status with one field, and `connection: close` after the framing field
abbrev response_head : ℕ → Head
response_head status = record {
  fields = added (response_headers status) (codes "x-a") (codes "1");
  tail = plain (close_field ∷ []);
  form = None;
  minor = 1;
  length = chunked;
  told = None;
  close = false;
  connection = [];
}

abbrev interim_head : Head
interim_head = record {
  fields = response_headers 100;
  tail = no_headers;
  form = None;
  minor = 1;
  length = nothing;
  told = None;
  close = false;
  connection = [];
}

-- trailers of which one goes out
abbrev two_trailers : Headers
two_trailers = plain ((codes "content-length", codes "1") ∷ (codes "x-sum", codes "1") ∷ [])

pub record OutExamples : Type 0 where
  pub five_bytes : items_wire (by_length 5) (head request_head ∷ piece (codes "abc") false ∷ piece (codes "de") true ∷ [])
      ≡ request_start ++ line (codes "content-length: 5") ++ request_end ++ codes "abcde"
  pub one_chunk : items_wire by_chunks (head request_head ∷ piece (codes "HELLO!!") true ∷ [])
      ≡ request_start ++ line (codes "transfer-encoding: chunked") ++ request_end ++ line (codes "7") ++ line (codes "HELLO!!")
      ++ line (codes "0") ++ line []
  pub no_request_body : items_wire no_body (head request_head ∷ []) ≡ request_start ++ request_end
  pub until_close : items_wire by_close (head (response_head 200) ∷ piece (codes "ok") false ∷ trailers two_trailers ∷ [])
      ≡ line (codes "HTTP/1.1 200 ") ++ line (codes "x-a: 1") ++ line (codes "connection: close") ++ line [] ++ codes "ok"
  pub with_trailers : items_wire by_chunks (head (response_head 200) ∷ piece (codes "ok") false ∷ trailers two_trailers ∷ [])
      ≡ line (codes "HTTP/1.1 200 ") ++ line (codes "x-a: 1") ++ line (codes "transfer-encoding: chunked")
      ++ line (codes "connection: close") ++ line [] ++ line (codes "2") ++ line (codes "ok") ++ line (codes "0")
      ++ line (codes "x-sum: 1") ++ line []
  pub trailers_without_room : items_wire (by_length 2) (piece (codes "ok") false ∷ trailers two_trailers ∷ []) ≡ codes "ok"
  pub empty_pieces : items_wire by_chunks (piece [] false ∷ piece (codes "a") false ∷ piece [] false ∷ piece [] true ∷ [])
      ≡ line (codes "1") ++ line (codes "a") ++ line (codes "0") ++ line []
  pub interim_first : items_wire by_chunks (interim interim_head ∷ []) ≡ line (codes "HTTP/1.1 100 ") ++ line []
