-- Worked examples of what is unread: pieces of bodies with their end flags, trailers, and texts that break off.
use Rattle.std.specs.Prelude.{◌≡◌, true, false, [], ◌∷◌, ◌++◌, None, Some, codes}
use Rattle.httparse.specs.Ascii.{crlf_bytes}
use Rattle.h1_model.specs.Length.{chunked}
use Rattle.h1_model.specs.Chunks.{size_line, inside, section, start}
use Rattle.h1_model.specs.ChunkWire.{last_chunk}
use Rattle.h1_model.specs.ChunkExamples.{chunked_text}
use Rattle.h1_model.specs.Messages.{octet, end, trailers, counted, coded, unbounded, head, body, done, rest, over, refusal, item, due_behind, trailers_left, StepsTo, lead_of}
use Rattle.h1_model.specs.Unread.{piece, trailer_part, part, none, IsNext, due_at, unread_at, cut_behind}

-- a body of so many bytes: whole, in part, at its end alone, and broken off
pub record CountedExamples : Type 0 where
  pub whole : IsNext false None (body (counted 3)) (codes "xyzGET") (part (piece (codes "xyz") true) 3 head)
  pub in_part : IsNext false None (body (counted 3)) (codes "xy") (part (piece (codes "xy") false) 2 (body (counted 1)))
  pub waits : IsNext false None (body (counted 1)) [] (none rest)
  pub broken_off : IsNext true None (body (counted 1)) [] (none (refusal 400))
  pub broken_response : IsNext true (Some (codes "GET")) (body (counted 1)) [] (none (refusal 502))
  pub last_of_response : IsNext false (Some (codes "GET")) (body (counted 1)) (codes "zHTTP") (part (piece (codes "z") true) 1 done)

-- one that ends with its line
pub record UnboundedExamples : Type 0 where
  pub in_part : IsNext false (Some (codes "GET")) (body unbounded) (codes "ab") (part (piece (codes "ab") false) 2 (body unbounded))
  pub ended : IsNext true (Some (codes "GET")) (body unbounded) (codes "ab") (part (piece (codes "ab") true) 2 done)
  pub end_alone : IsNext true (Some (codes "GET")) (body unbounded) [] (part (piece [] true) 0 done)
  pub waits : IsNext false (Some (codes "GET")) (body unbounded) [] (none rest)
  pub nothing_behind : IsNext false (Some (codes "GET")) done (codes "HTTP") (none over)

-- one in chunks: the end flag is on the last piece unless trailers follow; `host` is no trailer of a request, but may be one of a
-- response
pub record CodedExamples : Type 0 where
  pub first : IsNext false None (body (coded [] size_line)) chunked_text (part (piece (codes "abcde") false) 8 (body (coded [] (inside 0))))
  pub trailers : IsNext false None (body (coded [] (inside 0))) (crlf_bytes ++ codes "0" ++ crlf_bytes ++ codes "X-Sum: 1" ++ crlf_bytes ++ crlf_bytes)
      (part (trailer_part ((codes "x-sum", codes "1") ∷ [])) 17 head)
  pub whole : IsNext false None (body (coded [] size_line)) (codes "5" ++ crlf_bytes ++ codes "abcde" ++ crlf_bytes ++ last_chunk ++ crlf_bytes)
      (part (piece (codes "abcde") true) 15 head)
  pub in_part : IsNext false None (body (coded [] size_line)) (codes "5" ++ crlf_bytes ++ codes "ab") (part (piece (codes "ab") false) 5 (body (coded [] (inside 3))))
  pub end_alone : IsNext false None (body (coded [] (inside 0))) (crlf_bytes ++ last_chunk ++ crlf_bytes) (part (piece [] true) 7 head)
  pub waits : IsNext false None (body (coded [] (inside 0))) (crlf_bytes ++ last_chunk) (none rest)
  pub broken_off : IsNext true None (body (coded [] (inside 0))) (crlf_bytes ++ last_chunk) (none (refusal 400))
  pub malformed : IsNext false (Some (codes "GET")) (body (coded [] (inside 0))) (codes "X") (none (refusal 502))
  pub host_dropped : IsNext false None (body (coded [] size_line)) (last_chunk ++ codes "Host: a" ++ crlf_bytes ++ crlf_bytes) (part (piece [] true) 14 head)
  pub host_kept : IsNext false (Some (codes "GET")) (body (coded [] size_line)) (last_chunk ++ codes "Host: a" ++ crlf_bytes ++ crlf_bytes)
      (part (trailer_part ((codes "host", codes "a") ∷ [])) 14 done)

-- What counts as read after the data of a chunked body: nothing of it before the last chunk's line is whole, and then that line with the
-- CR LF in front of it, however little follows. Within the section nothing is, and what stands there is what stood there with the line.
pub record SectionExamples : Type 0 where
  pub before_the_line : unread_at (body (coded [] (inside 0))) (crlf_bytes ++ codes "0\r") ≡ crlf_bytes ++ codes "0\r"
  pub still_in_data : due_at (body (coded [] (inside 0))) (crlf_bytes ++ codes "0\r") ≡ body (coded [] (inside 0))
  pub line_alone : unread_at (body (coded [] (inside 0))) (crlf_bytes ++ last_chunk) ≡ []
  pub line_of_an_empty_body : unread_at (body (coded [] size_line)) (codes "00;a" ++ crlf_bytes ++ codes "X") ≡ codes "X"
  pub front_left : unread_at (body (coded [] (inside 0))) (crlf_bytes ++ last_chunk ++ codes "X-S") ≡ codes "X-S"
  pub in_the_section : due_at (body (coded [] (inside 0))) (crlf_bytes ++ last_chunk ++ codes "X-S") ≡ body (coded [] section)
  pub names_kept : due_at (body (coded (codes "x-sum" ∷ []) size_line)) last_chunk ≡ body (coded (codes "x-sum" ∷ []) section)
  pub nothing_more : unread_at (body (coded [] section)) (codes "X-S") ≡ codes "X-S"
  pub data_left : unread_at (body (coded [] size_line)) (codes "1" ++ crlf_bytes ++ codes "a") ≡ codes "1" ++ crlf_bytes ++ codes "a"
  pub next_size_left : unread_at (body (coded [] (inside 0))) (crlf_bytes ++ codes "2" ++ crlf_bytes) ≡ crlf_bytes ++ codes "2" ++ crlf_bytes
  pub end_there : IsNext false None (body (coded [] section)) crlf_bytes (part (piece [] true) 2 head)
  pub waits_there : IsNext false None (body (coded [] section)) [] (none rest)
  pub broken_off_there : IsNext true None (body (coded [] section)) (codes "X-S") (none (refusal 400))
  pub broken_response : IsNext true (Some (codes "GET")) (body (coded [] section)) (codes "X-S") (none (refusal 502))

-- What the head's Connection lists is no trailer: with `X-Sum: 1` alone after the last chunk the last piece has the end flag. It may
-- be listed in any case of letters, beside another name, and after an empty member.
pub record ListedExamples : Type 0 where
  pub listed : IsNext false None (body (coded (codes "x-sum" ∷ []) size_line)) chunked_text (part (piece (codes "abcde") true) 25 head)
  pub in_capitals : IsNext false (Some (codes "GET")) (body (coded (codes "X-SUM" ∷ []) size_line)) chunked_text
      (part (piece (codes "abcde") true) 25 done)
  pub of_two : IsNext false None (body (coded (codes "close, X-Sum" ∷ []) size_line)) chunked_text (part (piece (codes "abcde") true) 25 head)
  pub empty_member : IsNext false None (body (coded (codes ",x-sum" ∷ []) size_line)) chunked_text (part (piece (codes "abcde") true) 25 head)
  pub other : IsNext false None (body (coded (codes "x-sum-2" ∷ []) (inside 0)))
      (crlf_bytes ++ codes "0" ++ crlf_bytes ++ codes "X-Sum: 1" ++ crlf_bytes ++ crlf_bytes)
      (part (trailer_part ((codes "x-sum", codes "1") ∷ [])) 17 head)

-- what is left of trailers, and where the values stand while a body is read
pub record LeftExamples : Type 0 where
  pub of_request : trailers_left None (codes "close" ∷ codes "X-B , x-a" ∷ [])
      ((codes "x-a", codes "1") ∷ (codes "x-b", codes "2") ∷ (codes "x-c", codes "3") ∷ (codes "host", codes "a") ∷ (codes "x-a", []) ∷ [])
      ≡ (codes "x-c", codes "3") ∷ []
  pub of_response : trailers_left (Some (codes "GET")) (codes "x-a,, " ∷ []) ((codes "x-a", codes "1") ∷ (codes "host", codes "a") ∷ [])
      ≡ (codes "host", codes "a") ∷ []
  pub host_listed : trailers_left (Some (codes "GET")) (codes "Host" ∷ []) ((codes "host", codes "a") ∷ []) ≡ []
  pub none_listed : trailers_left None [] ((codes "x-a", codes "1") ∷ []) ≡ (codes "x-a", codes "1") ∷ []
  pub behind_head : due_behind done (codes "x-sum" ∷ []) chunked ≡ body (coded (codes "x-sum" ∷ []) start)

-- the places of bytes, and how a run is cut
pub record PlacedExamples : Type 0 where
  pub byte : StepsTo false None (body (coded [] size_line)) chunked_text (item (octet 97) 4 (body (coded [] (inside 4))))
  pub in_front : lead_of (body (coded [] size_line)) chunked_text ≡ 3
  pub ended_piece : cut_behind [] (octet 1 ∷ octet 2 ∷ end ∷ []) ≡ piece (1 ∷ 2 ∷ []) true ∷ []
  pub before_trailers : cut_behind [] (octet 1 ∷ trailers ((codes "a", codes "b") ∷ []) ∷ octet 2 ∷ [])
      ≡ piece (1 ∷ []) false ∷ trailer_part ((codes "a", codes "b") ∷ []) ∷ piece (2 ∷ []) false ∷ []
  pub empty_end : cut_behind [] (end ∷ []) ≡ piece [] true ∷ []
