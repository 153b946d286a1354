-- Messages that worked turns read: requests and responses as texts, and their heads.
use Rattle.std.specs.Prelude.{ℕ, true, false, List, [], ◌∷◌, ◌++◌, None, Some, codes}
use Rattle.header_maps.specs.Operations.{no_headers, added, request_headers, response_headers}
use Rattle.h1_model.specs.Examples.{worked_response_text, worked_bare_response, worked_interim_text, worked_interim}
use Rattle.h1_model.specs.Head.{Head, found, SpellsStep, SpellsResponse}
use Rattle.h1_model.specs.Length.{BodyLength, nothing, exactly, chunked, until_end}
use Rattle.h1_model.specs.Target.{origin}
use Rattle.law_turns.specs.Scenes.{line_of}

-- a request for `/` of host `a`, without fields of its own
abbrev plain_request : List ℕ → BodyLength → Head
plain_request method length = record {
  fields = request_headers method (codes "http") (codes "a") (codes "/");
  tail = no_headers;
  form = Some origin;
  minor = 1;
  length = length;
  told = None;
  close = false;
  connection = [];
}

-- a request of three bytes, with a field that Connection lists and one that passes
abbrev pub posted_text : List ℕ
posted_text =
    line_of (codes "POST / HTTP/1.1") ++ line_of (codes "Host: a") ++ line_of (codes "Connection: x-h") ++ line_of (codes "X-H: 1")
    ++ line_of (codes "X-B: 2") ++ line_of (codes "Content-Length: 3") ++ line_of []

abbrev pub posted_head : Head
posted_head = record (plain_request (codes "POST") (exactly 3)) {
  fields = added (added (request_headers (codes "POST") (codes "http") (codes "a") (codes "/")) (codes "x-b") (codes "2")) (codes "content-length") (codes "3");
  told = Some 3;
  connection = codes "x-h" ∷ [];
}

-- one in chunks
abbrev pub upload_text : List ℕ
upload_text = line_of (codes "POST / HTTP/1.1") ++ line_of (codes "Host: a") ++ line_of (codes "Transfer-Encoding: chunked") ++ line_of []

abbrev pub upload_head : Head
upload_head = plain_request (codes "POST") chunked

-- one for a head alone
abbrev pub peek_text : List ℕ
peek_text = line_of (codes "HEAD / HTTP/1.1") ++ line_of (codes "Host: a") ++ line_of []

abbrev pub peek_head : Head
peek_head = plain_request (codes "HEAD") nothing

-- one of HTTP/1.0
abbrev pub old_text : List ℕ
old_text = line_of (codes "GET / HTTP/1.0") ++ line_of (codes "Host: a") ++ line_of []

abbrev pub old_head : Head
old_head = record (plain_request (codes "GET") nothing) { minor = 0 }

-- one of HTTP/1.1 that closes
abbrev pub last_text : List ℕ
last_text = line_of (codes "GET / HTTP/1.1") ++ line_of (codes "Host: a") ++ line_of (codes "Connection: close") ++ line_of []

abbrev pub last_head : Head
last_head = record (plain_request (codes "GET") nothing) { close = true; connection = codes "close" ∷ [] }

pub record RequestTexts : Type 0 where
  pub posted : SpellsStep posted_text (found posted_head 80)
  pub upload : SpellsStep upload_text (found upload_head 56)
  pub peek : SpellsStep peek_text (found peek_head 28)
  pub old : SpellsStep old_text (found old_head 27)
  pub last : SpellsStep last_text (found last_head 46)

-- a response without fields
abbrev plain_response : ℕ → BodyLength → Head
plain_response status length = record {
  fields = response_headers status;
  tail = no_headers;
  form = None;
  minor = 1;
  length = length;
  told = None;
  close = false;
  connection = [];
}

-- a response in chunks
abbrev pub download_text : List ℕ
download_text = line_of (codes "HTTP/1.1 200 OK") ++ line_of (codes "Transfer-Encoding: chunked") ++ line_of []

abbrev pub download_head : Head
download_head = plain_response 200 chunked

-- one that goes on until its line ends
abbrev pub endless_text : List ℕ
endless_text = line_of (codes "HTTP/1.1 200 OK") ++ line_of []

abbrev pub endless_head : Head
endless_head = plain_response 200 until_end

abbrev pub no_content_text : List ℕ
no_content_text = line_of (codes "HTTP/1.1 204 No Content") ++ line_of []

abbrev pub no_content_head : Head
no_content_head = plain_response 204 nothing

-- one of 304 that tells the length of what was not modified
abbrev pub unmodified_text : List ℕ
unmodified_text = line_of (codes "HTTP/1.1 304 Not Modified") ++ line_of (codes "Content-Length: 3") ++ line_of []

abbrev pub unmodified_head : Head
unmodified_head = record (plain_response 304 nothing) { fields = added (response_headers 304) (codes "content-length") (codes "3"); told = Some 3 }

-- of the worked response to a HEAD request, and the worked interim one, their heads alone too
pub record ResponseTexts : Type 0 where
  pub bare : SpellsResponse true worked_response_text (found worked_bare_response 38)
  pub interim : SpellsResponse false worked_interim_text (found worked_interim 25)
  pub download : SpellsResponse false download_text (found download_head 47)
  pub endless : SpellsResponse false endless_text (found endless_head 19)
  pub no_content : SpellsResponse false no_content_text (found no_content_head 27)
  pub unmodified : SpellsResponse false unmodified_text (found unmodified_head 48)
