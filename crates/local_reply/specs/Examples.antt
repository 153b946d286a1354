-- Worked examples: the texts of moments, and replies byte by byte.
use Rattle.std.specs.Prelude.{◌≡◌, ℕ, true, false, List, [], ◌∷◌, ◌++◌, codes}
use Rattle.httparse.specs.Ascii.{crlf_bytes}
use Rattle.h1_model.specs.Fields.{Pair}
use Rattle.h1_model.specs.LocalReply.{local_reply_of}
use Rattle.h1_model.specs.Moment.{moment_text}

-- the first second and the second one, the example of RFC 9110, section 5.6.7, the first and last seconds of days and years, the
-- end of February in a leap year and in a year that is none, and the last moment of 64 bits
pub record MomentExamples : Type 0 where
  pub first : moment_text 0 ≡ codes "Thu, 01 Jan 1970 00:00:00 GMT"
  pub same_second : moment_text 999_999_999 ≡ codes "Thu, 01 Jan 1970 00:00:00 GMT"
  pub next_second : moment_text 1_000_000_000 ≡ codes "Thu, 01 Jan 1970 00:00:01 GMT"
  pub of_the_standard : moment_text 784_111_777_000_000_000 ≡ codes "Sun, 06 Nov 1994 08:49:37 GMT"
  pub end_of_day : moment_text 86_399_999_999_999 ≡ codes "Thu, 01 Jan 1970 23:59:59 GMT"
  pub next_day : moment_text 86_400_000_000_000 ≡ codes "Fri, 02 Jan 1970 00:00:00 GMT"
  pub end_of_year : moment_text 31_535_999_000_000_000 ≡ codes "Thu, 31 Dec 1970 23:59:59 GMT"
  pub next_year : moment_text 31_536_000_000_000_000 ≡ codes "Fri, 01 Jan 1971 00:00:00 GMT"
  pub leap_day : moment_text 951_782_400_000_000_000 ≡ codes "Tue, 29 Feb 2000 00:00:00 GMT"
  pub no_leap_day : moment_text 4_107_542_400_000_000_000 ≡ codes "Mon, 01 Mar 2100 00:00:00 GMT"
  pub last : moment_text 18_446_744_073_709_551_615 ≡ codes "Sun, 21 Jul 2554 23:34:33 GMT"

abbrev line : List ℕ → List ℕ
line text = text ++ crlf_bytes

-- the line of the first second
abbrev first_date : List ℕ
first_date = line (codes "date: Thu, 01 Jan 1970 00:00:00 GMT")

-- fields of which three go out
abbrev mixed : List Pair
mixed =
    (codes "x-b", codes "1") ∷ (codes "connection", codes "x-c, Close") ∷ (codes "x-c", codes "2") ∷ (codes "host", codes "a")
    ∷ (codes "content-length", codes "9") ∷ (codes "keep-alive", codes "5") ∷ (codes "proxy-connection", codes "x") ∷ (codes "te", [])
    ∷ (codes "transfer-encoding", codes "chunked") ∷ (codes "upgrade", codes "h2c") ∷ (codes "x-a", codes "3")
    ∷ (codes "x-b", codes "4") ∷ []

abbrev dated : List Pair
dated = (codes "date", codes "yesterday") ∷ []

-- a Connection field that lists `date`
abbrev listed_date : List Pair
listed_date = (codes "connection", codes "date") ∷ (codes "date", codes "yesterday") ∷ []

pub record ReplyExamples : Type 0 where
  pub not_found : local_reply_of 404 [] [] false false 0
      ≡ line (codes "HTTP/1.1 404 ") ++ line (codes "content-length: 0") ++ first_date ++ line []
  pub too_large : local_reply_of 413 [] [] false true 0
      ≡ line (codes "HTTP/1.1 413 ") ++ line (codes "content-length: 0") ++ first_date ++ line (codes "connection: close") ++ line []
  pub mixed_fields : local_reply_of 200 mixed (codes "hello world") false false 1_000_000_000
      ≡ line (codes "HTTP/1.1 200 ") ++ line (codes "x-b: 1") ++ line (codes "x-a: 3") ++ line (codes "x-b: 4")
      ++ line (codes "content-length: 11") ++ line (codes "date: Thu, 01 Jan 1970 00:00:01 GMT") ++ line [] ++ codes "hello world"
  pub own_date : local_reply_of 200 dated (codes "a") false false 0
      ≡ line (codes "HTTP/1.1 200 ") ++ line (codes "date: yesterday") ++ line (codes "content-length: 1") ++ line [] ++ codes "a"
  pub date_left_out : local_reply_of 200 listed_date (codes "a") false false 0
      ≡ line (codes "HTTP/1.1 200 ") ++ line (codes "content-length: 1") ++ first_date ++ line [] ++ codes "a"
  pub to_head : local_reply_of 200 [] (codes "abc") true false 0
      ≡ line (codes "HTTP/1.1 200 ") ++ line (codes "content-length: 3") ++ first_date ++ line []
  pub no_content : local_reply_of 204 [] (codes "abc") false false 0
      ≡ line (codes "HTTP/1.1 204 ") ++ first_date ++ line []
  pub not_modified : local_reply_of 304 dated (codes "abc") true true 0
      ≡ line (codes "HTTP/1.1 304 ") ++ line (codes "date: yesterday") ++ line (codes "connection: close") ++ line []
