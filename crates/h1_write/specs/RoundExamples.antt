-- Messages that are written and read back, worked on texts that are written out.
use Rattle.std.specs.Prelude.{◌≡◌, ℕ, true, false, List, [], ◌∷◌, ◌++◌, None, Some, codes}
use Rattle.httparse.specs.Ascii.{crlf_bytes}
use Rattle.header_maps.specs.declared.kind.ListKind.TheVariants as kinds
use Rattle.header_maps.specs.Headers.{Headers}
use Rattle.h1_model.specs.Framing.{by_length, by_chunks, items_wire}
use Rattle.h1_model.specs.Framing as out
use Rattle.h1_model.specs.Head.{Head}
use Rattle.h1_model.specs.Length.{nothing, exactly, chunked}
use Rattle.h1_model.specs.Messages.{octet, end, trailers}
use Rattle.h1_model.specs.Target.{origin}
use Rattle.h1_write.specs.Heads.{IsReadable, head_read, connection_read}
use Rattle.h1_write.specs.Requests.{IsReadableRequest, request_read}
use Rattle.h1_write.specs.Round.{last_bytes, last_trailers, body_items, Suits, items_read}

-- fields that stand after the framing field
abbrev pub tail_fields : Headers
tail_fields = record { kind = kinds.Plain; pairs = (codes "via", codes "1.1 wasmgate") ∷ (codes "connection", codes "close") ∷ [] }

abbrev pub written_response : Head
written_response = record {
  fields = record { kind = kinds.Response; pairs = (codes ":status", codes "200") ∷ (codes "x-a", codes " 1") ∷ [] };
  tail = tail_fields;
  form = None;
  minor = 0;
  length = exactly 3;
  told = Some 3;
  close = false;
  connection = [];
}

abbrev pub response_text : List ℕ
response_text =
    codes "HTTP/1.1 200 " ++ crlf_bytes ++ codes "x-a:  1" ++ crlf_bytes ++ codes "content-length: 3" ++ crlf_bytes
    ++ codes "via: 1.1 wasmgate" ++ crlf_bytes ++ codes "connection: close" ++ crlf_bytes ++ crlf_bytes ++ codes "abc"

-- A response of three bytes. Read again, it has no blanks around its value, tells its length, and closes.
pub record ResponseExamples : Type 0 where
  pub readable : IsReadable (by_length 3) written_response
  pub suits : Suits (by_length 3) (codes "ab" ∷ []) (last_bytes (codes "c")) false []
  pub text : items_wire (by_length 3) (out.head written_response ∷ body_items (codes "ab" ∷ []) (last_bytes (codes "c"))) ≡ response_text
  pub fields : (head_read false (by_length 3) written_response).fields.pairs
      ≡ (codes ":status", codes "200") ∷ (codes "x-a", codes "1") ∷ (codes "content-length", codes "3") ∷ (codes "via", codes "1.1 wasmgate") ∷ []
  pub length : (head_read false (by_length 3) written_response).length ≡ exactly 3
  pub to_head : (head_read true (by_length 3) written_response).length ≡ nothing
  pub close : (head_read false (by_length 3) written_response).close ≡ true
  pub items : items_read (Some (codes "GET")) (connection_read written_response) (exactly 3) (codes "ab" ∷ []) (last_bytes (codes "c"))
      ≡ octet 97 ∷ octet 98 ∷ octet 99 ∷ end ∷ []

abbrev pub written_request : Head
written_request = record {
  fields = record {
    kind = kinds.Request;
    pairs = (codes ":method", codes "POST") ∷ (codes ":scheme", codes "https") ∷ (codes ":authority", codes "a") ∷ (codes ":path", codes "/")
        ∷ (codes "x-a", codes "1") ∷ [];
  };
  tail = tail_fields;
  form = Some origin;
  minor = 1;
  length = chunked;
  told = None;
  close = false;
  connection = [];
}

-- trailers, of which the head's Connection lists one
abbrev pub some_trailers : Headers
some_trailers = record { kind = kinds.Plain; pairs = (codes "x-t", codes "1") ∷ (codes "close", codes "2") ∷ [] }

abbrev pub request_text : List ℕ
request_text =
    codes "POST / HTTP/1.1" ++ crlf_bytes ++ codes "host: a" ++ crlf_bytes ++ codes "x-a: 1" ++ crlf_bytes
    ++ codes "transfer-encoding: chunked" ++ crlf_bytes ++ codes "via: 1.1 wasmgate" ++ crlf_bytes ++ codes "connection: close" ++ crlf_bytes
    ++ crlf_bytes ++ codes "2" ++ crlf_bytes ++ codes "ab" ++ crlf_bytes ++ codes "0" ++ crlf_bytes ++ codes "x-t: 1" ++ crlf_bytes
    ++ codes "close: 2" ++ crlf_bytes ++ crlf_bytes

-- A request in chunks, with trailers. Read again, its scheme is that of the line, and a trailer that Connection lists is gone.
pub record RequestExamples : Type 0 where
  pub readable : IsReadableRequest by_chunks written_request
  pub suits : Suits by_chunks (codes "ab" ∷ []) (last_trailers some_trailers) false []
  pub text : items_wire by_chunks (out.head written_request ∷ body_items (codes "ab" ∷ []) (last_trailers some_trailers)) ≡ request_text
  pub fields : (request_read by_chunks written_request).fields.pairs
      ≡ (codes ":method", codes "POST") ∷ (codes ":scheme", codes "http") ∷ (codes ":authority", codes "a") ∷ (codes ":path", codes "/")
      ∷ (codes "x-a", codes "1") ∷ (codes "via", codes "1.1 wasmgate") ∷ []
  pub length : (request_read by_chunks written_request).length ≡ chunked
  pub items : items_read None (connection_read written_request) chunked (codes "ab" ∷ []) (last_trailers some_trailers)
      ≡ octet 97 ∷ octet 98 ∷ trailers ((codes "x-t", codes "1") ∷ []) ∷ []
