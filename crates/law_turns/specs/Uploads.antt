-- Worked turns of requests with bodies, from their texts to what goes up, and of their responses.
use Rattle.std.specs.Prelude.{ℕ, true, false, List, [], ◌∷◌, ◌++◌, None, Some, codes}
use Rattle.filter_host.specs.Course.{Course, Met, heard}
use Rattle.filter_host.specs.Heard.{hands, halts}
use Rattle.gate_config.specs.declared.entries.PluginEntry.{PluginEntry}
use Rattle.gate_io.specs.declared.event.Sent.{Sent}
use Rattle.gate_io.specs.declared.event.Sent.TheVariants as sent
use Rattle.gate_io.specs.declared.event.Side.TheVariants.{Down, Up}
use Rattle.gate_io.specs.declared.event.What.{What}
use Rattle.gate_io.specs.declared.event.What.TheVariants as whats
use Rattle.h1_model.specs.ChunkExamples.{chunked_text}
use Rattle.h1_model.specs.Chunks.{size_line, inside}
use Rattle.h1_model.specs.Examples.{worked_interim_text, worked_interim, worked_response_text, worked_response}
use Rattle.h1_model.specs.Messages.{body, done, counted, coded, head, rest}
use Rattle.h1_model.specs.Unread.{Reading, head_part, interim_part, piece, trailer_part, new_reading, reading_with_bytes, moved_on, awaiting_bytes}
use Rattle.worker_model.specs.Plan.{Plan}
use Rattle.worker_model.specs.Steps.{Both, both}
use Rattle.worker_model.specs.Turn.{Outcome, turn}
use Rattle.law_turns.specs.Tables.{Call, calling_by, Comes}
use Rattle.law_turns.specs.Scenes.{line_of, first_date, plugin, contexts_with_roots, line, room, event, plan_of, open_plan, one_line, up_start, up_end, closing}
use Rattle.law_turns.specs.Texts.{posted_text, posted_head, upload_text, upload_head, download_text, download_head, no_content_text, no_content_head}

-- a turn without filters, at the first moment
abbrev pub turn_of : Both (List Call) → What → Course (Outcome (List Call))
turn_of from what = turn (calling_by []) open_plan from (event 0 what)

-- ---- A LENGTH. Two of three bytes come with the head; an interim response comes in front of the third; and then the response.

abbrev pub posted : Reading
posted = reading_with_bytes (posted_text ++ codes "ab") (new_reading None)

abbrev pub behind_posted : Reading
behind_posted = moved_on 80 (body (counted 3)) posted

abbrev pub behind_two : Reading
behind_two = moved_on 2 (body (counted 1)) behind_posted

abbrev pub one_more : Reading
one_more = reading_with_bytes (codes "c") (awaiting_bytes behind_two)

abbrev pub behind_three : Reading
behind_three = moved_on 1 head one_more

abbrev pub posts : Course (Outcome (List Call))
posts = turn_of one_line (whats.Bytes 1 Down (posted_text ++ codes "ab"))

abbrev pub posts_met : List Met
posts_met =
    heard (hands (head_part posted_head) behind_posted) ∷ heard (hands (piece (codes "ab") false) behind_two)
    ∷ heard (halts rest (awaiting_bytes behind_two)) ∷ []

-- what Connection lists is gone with it, and the length is told once
abbrev pub posted_wire : List ℕ
posted_wire = up_start (codes "POST") ++ line_of (codes "x-b: 2") ++ line_of (codes "content-length: 3") ++ up_end (codes "1.1")

abbrev pub posts_sends : List Sent
posts_sends = sent.Connect 1 ∷ sent.Bytes 1 Up (posted_wire ++ codes "ab") ∷ []

abbrev pub interim : Reading
interim = reading_with_bytes worked_interim_text (new_reading (Some (codes "GET")))

abbrev pub behind_interim : Reading
behind_interim = moved_on 25 head interim

abbrev pub hints : Both (List Call) → Course (Outcome (List Call))
hints from = turn_of from (whats.Bytes 1 Up worked_interim_text)

abbrev pub hints_met : List Met
hints_met = heard (hands (interim_part worked_interim) behind_interim) ∷ heard (halts rest (awaiting_bytes behind_interim)) ∷ []

abbrev pub hints_sends : List Sent
hints_sends = sent.Bytes 1 Down (line_of (codes "HTTP/1.1 100 ") ++ line_of []) ∷ []

abbrev pub goes_on : Both (List Call) → Course (Outcome (List Call))
goes_on from = turn_of from (whats.Bytes 1 Down (codes "c"))

abbrev pub goes_on_met : List Met
goes_on_met = heard (hands (piece (codes "c") true) behind_three) ∷ []

abbrev pub no_content : Reading
no_content = reading_with_bytes no_content_text (awaiting_bytes behind_interim)

abbrev pub behind_no_content : Reading
behind_no_content = moved_on 27 done no_content

abbrev pub responds : Both (List Call) → Course (Outcome (List Call))
responds from = turn_of from (whats.Bytes 1 Up no_content_text)

abbrev pub responds_met : List Met
responds_met = heard (hands (head_part no_content_head) behind_no_content) ∷ heard (halts rest (awaiting_bytes behind_three)) ∷ []

-- 204 tells no length
abbrev pub responds_sends : List Sent
responds_sends = sent.Bytes 1 Down (line_of (codes "HTTP/1.1 204 ") ++ first_date ++ line_of []) ∷ sent.Close 1 Up ∷ []

pub record PostExample : Type 0 where
  pub first : Comes posts posts_met [] posts_sends (1 ∷ [])
  pub second : Comes (hints first.end.state) hints_met [] hints_sends (1 ∷ [])
  pub third : Comes (goes_on second.end.state) goes_on_met [] (sent.Bytes 1 Up (codes "c") ∷ []) (1 ∷ [])
  -- the line stays
  pub fourth : Comes (responds third.end.state) responds_met [] responds_sends (1 ∷ [])

-- ---- CHUNKS AND TRAILERS, both ways

abbrev pub upload : Reading
upload = reading_with_bytes (upload_text ++ chunked_text) (new_reading None)

abbrev pub behind_upload : Reading
behind_upload = moved_on 56 (body (coded [] size_line)) upload

abbrev pub behind_data : Reading
behind_data = moved_on 8 (body (coded [] (inside 0))) behind_upload

abbrev pub behind_trailers : Reading
behind_trailers = moved_on 17 head behind_data

abbrev pub uploads : Course (Outcome (List Call))
uploads = turn_of one_line (whats.Bytes 1 Down (upload_text ++ chunked_text))

abbrev pub uploads_met : List Met
uploads_met =
    heard (hands (head_part upload_head) behind_upload) ∷ heard (hands (piece (codes "abcde") false) behind_data)
    ∷ heard (hands (trailer_part ((codes "x-sum", codes "1") ∷ [])) behind_trailers) ∷ []

abbrev pub chunked_wire : List ℕ
chunked_wire = line_of (codes "5") ++ line_of (codes "abcde") ++ line_of (codes "0") ++ line_of (codes "x-sum: 1") ++ line_of []

abbrev pub uploads_sends : List Sent
uploads_sends =
    sent.Connect 1 ∷ sent.Bytes 1 Up (up_start (codes "POST") ++ line_of (codes "transfer-encoding: chunked") ++ up_end (codes "1.1") ++ chunked_wire) ∷ []

abbrev pub download : Reading
download = reading_with_bytes (download_text ++ chunked_text) (new_reading (Some (codes "GET")))

abbrev pub behind_download : Reading
behind_download = moved_on 47 (body (coded [] size_line)) download

abbrev pub behind_down_data : Reading
behind_down_data = moved_on 8 (body (coded [] (inside 0))) behind_download

abbrev pub behind_down_trailers : Reading
behind_down_trailers = moved_on 17 done behind_down_data

abbrev pub downloads : Both (List Call) → Course (Outcome (List Call))
downloads from = turn_of from (whats.Bytes 1 Up (download_text ++ chunked_text))

abbrev pub downloads_met : List Met
downloads_met =
    heard (hands (head_part download_head) behind_download) ∷ heard (hands (piece (codes "abcde") false) behind_down_data)
    ∷ heard (hands (trailer_part ((codes "x-sum", codes "1") ∷ [])) behind_down_trailers) ∷ heard (halts rest (awaiting_bytes behind_trailers)) ∷ []

abbrev pub downloads_sends : List Sent
downloads_sends =
    sent.Bytes 1 Down (line_of (codes "HTTP/1.1 200 ") ++ line_of (codes "transfer-encoding: chunked") ++ first_date ++ line_of [] ++ chunked_wire)
    ∷ sent.Close 1 Up ∷ []

pub record UploadExample : Type 0 where
  pub request : Comes uploads uploads_met [] uploads_sends (1 ∷ [])
  pub response : Comes (downloads request.end.state) downloads_met [] downloads_sends (1 ∷ [])

-- ---- FILTERED BODIES have chunks, whatever length was told; here of a plug-in whose VM is dead, and which lets messages pass then

abbrev pub plugins : List PluginEntry
plugins = plugin (codes "p") true ∷ []

abbrev pub filtering : Plan
filtering = record (plan_of plugins) {
  routes = record { path = codes "/"; filters = 0 ∷ [] } ∷ [];
  bodies = record { requests = true; responses = true } ∷ [];
}

abbrev pub with_dead : Both (List Call)
with_dead = both [] (record (room (line 1 None ∷ []) (contexts_with_roots plugins)) { dead = 0 ∷ [] })

abbrev pub filtered_turn : Both (List Call) → What → Course (Outcome (List Call))
filtered_turn from what = turn (calling_by []) filtering from (event 0 what)

abbrev pub whole : Reading
whole = reading_with_bytes (posted_text ++ codes "abc") (new_reading None)

abbrev pub behind_whole_head : Reading
behind_whole_head = moved_on 80 (body (counted 3)) whole

abbrev pub behind_whole : Reading
behind_whole = moved_on 3 head behind_whole_head

abbrev pub recodes : Course (Outcome (List Call))
recodes = filtered_turn with_dead (whats.Bytes 1 Down (posted_text ++ codes "abc"))

abbrev pub recodes_met : List Met
recodes_met = heard (hands (head_part posted_head) behind_whole_head) ∷ heard (hands (piece (codes "abc") true) behind_whole) ∷ []

abbrev pub one_chunk : List ℕ
one_chunk = line_of (codes "3") ++ line_of (codes "abc") ++ line_of (codes "0") ++ line_of []

abbrev pub recodes_sends : List Sent
recodes_sends =
    sent.Connect 1
    ∷ sent.Bytes 1 Up (up_start (codes "POST") ++ line_of (codes "x-b: 2") ++ line_of (codes "transfer-encoding: chunked") ++ up_end (codes "1.1") ++ one_chunk)
    ∷ []

abbrev pub response : Reading
response = reading_with_bytes (worked_response_text ++ codes "abc") (new_reading (Some (codes "GET")))

abbrev pub behind_response_head : Reading
behind_response_head = moved_on 38 (body (counted 3)) response

abbrev pub behind_response : Reading
behind_response = moved_on 3 done behind_response_head

abbrev pub recodes_back : Both (List Call) → Course (Outcome (List Call))
recodes_back from = filtered_turn from (whats.Bytes 1 Up (worked_response_text ++ codes "abc"))

abbrev pub recodes_back_met : List Met
recodes_back_met =
    heard (hands (head_part worked_response) behind_response_head) ∷ heard (hands (piece (codes "abc") true) behind_response)
    ∷ heard (halts rest (awaiting_bytes behind_whole)) ∷ []

abbrev pub recodes_back_sends : List Sent
recodes_back_sends =
    sent.Bytes 1 Down (line_of (codes "HTTP/1.1 200 ") ++ line_of (codes "transfer-encoding: chunked") ++ first_date ++ line_of [] ++ one_chunk)
    ∷ sent.Close 1 Up ∷ []

pub record RecodingExample : Type 0 where
  pub request : Comes recodes recodes_met [] recodes_sends (1 ∷ [])
  pub answer : Comes (recodes_back request.end.state) recodes_back_met [] recodes_back_sends (1 ∷ [])

-- ---- NO ROUTE takes a request of which a byte is missing: its line is closed after the answer, so that no byte of its body is read as a
-- request

abbrev pub unrouted : Course (Outcome (List Call))
unrouted = turn (calling_by []) (plan_of []) one_line (event 0 (whats.Bytes 1 Down (posted_text ++ codes "ab")))

abbrev pub unrouted_sends : List Sent
unrouted_sends =
    sent.Bytes 1 Down (line_of (codes "HTTP/1.1 404 ") ++ line_of (codes "content-length: 0") ++ first_date ++ closing ++ line_of []) ∷ sent.Close 1 Down ∷ []

pub record UnroutedExample : Type 0 where
  pub turns : Comes unrouted posts_met [] unrouted_sends []
