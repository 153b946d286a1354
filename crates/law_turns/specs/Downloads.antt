-- Worked turns of responses, from the requests' texts to what goes down: one after another, for a client of HTTP/1.0, and where the line
-- is closed.
use Rattle.std.specs.Prelude.{ℕ, true, false, List, [], ◌∷◌, ◌++◌, None, Some, codes}
use Rattle.filter_host.specs.Course.{Course, Met, heard}
use Rattle.filter_host.specs.Heard.{hands, halts}
use Rattle.gate_io.specs.declared.event.Sent.{Sent}
use Rattle.gate_io.specs.declared.event.Sent.TheVariants as sent
use Rattle.gate_io.specs.declared.event.Side.TheVariants.{Down, Up}
use Rattle.gate_io.specs.declared.event.What.TheVariants as whats
use Rattle.h1_model.specs.ChunkExamples.{chunked_text}
use Rattle.h1_model.specs.Chunks.{size_line, inside}
use Rattle.h1_model.specs.Examples.{worked_text, worked_head, worked_interim_text, worked_interim, worked_response_text, worked_response, worked_bare_response}
use Rattle.h1_model.specs.Messages.{body, done, coded, unbounded, head, rest}
use Rattle.h1_model.specs.Unread.{Reading, head_part, interim_part, piece, trailer_part, new_reading, reading_with_bytes, reading_with_end, moved_on, awaiting_bytes}
use Rattle.worker_model.specs.Steps.{Both}
use Rattle.worker_model.specs.Turn.{Outcome}
use Rattle.law_turns.specs.Tables.{Call, Comes}
use Rattle.law_turns.specs.Scenes.{line_of, first_date, one_line, up_start, up_end, closing}
use Rattle.law_turns.specs.Answer.{behind_head}
use Rattle.law_turns.specs.Passage.{behind_response, behind_body}
use Rattle.law_turns.specs.Texts.{peek_text, peek_head, old_text, old_head, last_text, last_head, download_text, download_head, endless_text, endless_head, unmodified_text, unmodified_head}
use Rattle.law_turns.specs.Uploads.{turn_of}

-- ---- PIPELINED: a GET and a HEAD come at once

abbrev pub both_asked : Reading
both_asked = reading_with_bytes (worked_text ++ peek_text) (new_reading None)

abbrev pub one_left : Reading
one_left = moved_on 27 head both_asked

abbrev pub none_left : Reading
none_left = moved_on 28 head one_left

abbrev pub asks : Course (Outcome (List Call))
asks = turn_of one_line (whats.Bytes 1 Down (worked_text ++ peek_text))

abbrev pub asks_met : List Met
asks_met = heard (hands (head_part worked_head) one_left) ∷ []

-- the second waits
abbrev pub asks_sends : List Sent
asks_sends = sent.Connect 1 ∷ sent.Bytes 1 Up (up_start (codes "GET") ++ up_end (codes "1.1")) ∷ []

abbrev pub gets : Both (List Call) → Course (Outcome (List Call))
gets from = turn_of from (whats.Bytes 1 Up (worked_response_text ++ codes "abc"))

abbrev pub gets_met : List Met
gets_met =
    heard (hands (head_part worked_response) behind_response) ∷ heard (hands (piece (codes "abc") true) behind_body)
    ∷ heard (hands (head_part peek_head) none_left) ∷ []

abbrev pub three_told : List ℕ
three_told = line_of (codes "HTTP/1.1 200 ") ++ line_of (codes "content-length: 3") ++ first_date ++ line_of []

-- its connection is closed before one is opened for the second
abbrev pub gets_sends : List Sent
gets_sends =
    sent.Bytes 1 Down (three_told ++ codes "abc") ∷ sent.Close 1 Up ∷ sent.Connect 1 ∷ sent.Bytes 1 Up (up_start (codes "HEAD") ++ up_end (codes "1.1")) ∷ []

abbrev pub peeked : Reading
peeked = reading_with_bytes (worked_response_text ++ codes "abc") (new_reading (Some (codes "HEAD")))

abbrev pub behind_peeked : Reading
behind_peeked = moved_on 38 done peeked

abbrev pub peeks : Both (List Call) → Course (Outcome (List Call))
peeks from = turn_of from (whats.Bytes 1 Up (worked_response_text ++ codes "abc"))

abbrev pub peeks_met : List Met
peeks_met = heard (hands (head_part worked_bare_response) behind_peeked) ∷ heard (halts rest (awaiting_bytes none_left)) ∷ []

-- what comes of a body goes nowhere
abbrev pub peeks_sends : List Sent
peeks_sends = sent.Bytes 1 Down three_told ∷ sent.Close 1 Up ∷ []

pub record PipelineExample : Type 0 where
  pub first : Comes asks asks_met [] asks_sends (1 ∷ [])
  pub second : Comes (gets first.end.state) gets_met [] gets_sends (1 ∷ [])
  -- the line stays
  pub third : Comes (peeks second.end.state) peeks_met [] peeks_sends (1 ∷ [])

-- ---- A CLIENT OF HTTP/1.0 is sent a response in chunks as its bytes alone, after which the line is closed

abbrev pub old : Reading
old = reading_with_bytes old_text (new_reading None)

abbrev pub behind_old : Reading
behind_old = moved_on 27 head old

abbrev pub old_asks : Course (Outcome (List Call))
old_asks = turn_of one_line (whats.Bytes 1 Down old_text)

abbrev pub old_asks_met : List Met
old_asks_met = heard (hands (head_part old_head) behind_old) ∷ []

-- the version that was received is told
abbrev pub old_asks_sends : List Sent
old_asks_sends = sent.Connect 1 ∷ sent.Bytes 1 Up (up_start (codes "GET") ++ up_end (codes "1.0")) ∷ []

abbrev pub coming : Reading
coming = reading_with_bytes (worked_interim_text ++ download_text ++ chunked_text) (new_reading (Some (codes "GET")))

abbrev pub behind_interim : Reading
behind_interim = moved_on 25 head coming

abbrev pub behind_download : Reading
behind_download = moved_on 47 (body (coded [] size_line)) behind_interim

abbrev pub behind_data : Reading
behind_data = moved_on 8 (body (coded [] (inside 0))) behind_download

abbrev pub behind_trailers : Reading
behind_trailers = moved_on 17 done behind_data

abbrev pub old_gets : Both (List Call) → Course (Outcome (List Call))
old_gets from = turn_of from (whats.Bytes 1 Up (worked_interim_text ++ download_text ++ chunked_text))

abbrev pub old_gets_met : List Met
old_gets_met =
    heard (hands (interim_part worked_interim) behind_interim) ∷ heard (hands (head_part download_head) behind_download)
    ∷ heard (hands (piece (codes "abcde") false) behind_data) ∷ heard (hands (trailer_part ((codes "x-sum", codes "1") ∷ [])) behind_trailers) ∷ []

abbrev pub old_gets_sends : List Sent
old_gets_sends =
    sent.Bytes 1 Down (line_of (codes "HTTP/1.1 200 ") ++ first_date ++ closing ++ line_of [] ++ codes "abcde")
    ∷ sent.Close 1 Up ∷ sent.Close 1 Down ∷ []

-- and so it is after a response with a length
abbrev pub old_counts : Both (List Call) → Course (Outcome (List Call))
old_counts from = turn_of from (whats.Bytes 1 Up (worked_response_text ++ codes "abc"))

abbrev pub old_counts_met : List Met
old_counts_met = heard (hands (head_part worked_response) behind_response) ∷ heard (hands (piece (codes "abc") true) behind_body) ∷ []

abbrev pub old_counts_sends : List Sent
old_counts_sends =
    sent.Bytes 1 Down (line_of (codes "HTTP/1.1 200 ") ++ line_of (codes "content-length: 3") ++ first_date ++ closing ++ line_of [] ++ codes "abc")
    ∷ sent.Close 1 Up ∷ sent.Close 1 Down ∷ []

pub record OldExample : Type 0 where
  pub request : Comes old_asks old_asks_met [] old_asks_sends (1 ∷ [])
  pub answer : Comes (old_gets request.end.state) old_gets_met [] old_gets_sends []
  pub counted : Comes (old_counts request.end.state) old_counts_met [] old_counts_sends []

-- ---- A CLIENT THAT CLOSES is sent 304, which has no body and keeps the length that it tells

abbrev pub last : Reading
last = reading_with_bytes last_text (new_reading None)

abbrev pub behind_last : Reading
behind_last = moved_on 46 head last

abbrev pub last_asks : Course (Outcome (List Call))
last_asks = turn_of one_line (whats.Bytes 1 Down last_text)

abbrev pub last_asks_met : List Met
last_asks_met = heard (hands (head_part last_head) behind_last) ∷ []

abbrev pub last_asks_sends : List Sent
last_asks_sends = sent.Connect 1 ∷ sent.Bytes 1 Up (up_start (codes "GET") ++ up_end (codes "1.1")) ∷ []

abbrev pub unmodified : Reading
unmodified = reading_with_bytes (unmodified_text ++ codes "abc") (new_reading (Some (codes "GET")))

abbrev pub behind_unmodified : Reading
behind_unmodified = moved_on 48 done unmodified

abbrev pub last_gets : Both (List Call) → Course (Outcome (List Call))
last_gets from = turn_of from (whats.Bytes 1 Up (unmodified_text ++ codes "abc"))

abbrev pub last_gets_met : List Met
last_gets_met = heard (hands (head_part unmodified_head) behind_unmodified) ∷ []

abbrev pub last_gets_sends : List Sent
last_gets_sends =
    sent.Bytes 1 Down (line_of (codes "HTTP/1.1 304 ") ++ line_of (codes "content-length: 3") ++ first_date ++ closing ++ line_of [])
    ∷ sent.Close 1 Up ∷ sent.Close 1 Down ∷ []

pub record UnmodifiedExample : Type 0 where
  pub request : Comes last_asks last_asks_met [] last_asks_sends (1 ∷ [])
  pub answer : Comes (last_gets request.end.state) last_gets_met [] last_gets_sends []

-- ---- A RESPONSE THAT ENDS WITH ITS LINE closes the client's

abbrev pub get_asks : Course (Outcome (List Call))
get_asks = turn_of one_line (whats.Bytes 1 Down worked_text)

abbrev pub get_asks_met : List Met
get_asks_met = heard (hands (head_part worked_head) behind_head) ∷ []

abbrev pub endless : Reading
endless = reading_with_bytes (endless_text ++ codes "ok") (new_reading (Some (codes "GET")))

abbrev pub behind_endless : Reading
behind_endless = moved_on 19 (body unbounded) endless

abbrev pub behind_ok : Reading
behind_ok = moved_on 2 (body unbounded) behind_endless

abbrev pub begins : Both (List Call) → Course (Outcome (List Call))
begins from = turn_of from (whats.Bytes 1 Up (endless_text ++ codes "ok"))

abbrev pub begins_met : List Met
begins_met =
    heard (hands (head_part endless_head) behind_endless) ∷ heard (hands (piece (codes "ok") false) behind_ok) ∷ heard (halts rest (awaiting_bytes behind_ok)) ∷ []

abbrev pub begins_sends : List Sent
begins_sends = sent.Bytes 1 Down (line_of (codes "HTTP/1.1 200 ") ++ first_date ++ closing ++ line_of [] ++ codes "ok") ∷ []

abbrev pub ended : Reading
ended = reading_with_end (awaiting_bytes behind_ok)

abbrev pub behind_end : Reading
behind_end = moved_on 0 done ended

abbrev pub stops : Both (List Call) → Course (Outcome (List Call))
stops from = turn_of from (whats.End 1 Up)

abbrev pub stops_met : List Met
stops_met = heard (hands (piece [] true) behind_end) ∷ []

pub record EndlessExample : Type 0 where
  pub request : Comes get_asks get_asks_met [] asks_sends (1 ∷ [])
  pub begin : Comes (begins request.end.state) begins_met [] begins_sends (1 ∷ [])
  pub end_comes : Comes (stops begin.end.state) stops_met [] (sent.Close 1 Up ∷ sent.Close 1 Down ∷ []) []
