-- The worked turns of a filter, by computation.
use Rattle.std.proofs.Common.{◌≡◌, ℕ, Bool, true, false, List, [], ◌∷◌, ◌++◌, map, None, Some, codes, refl, ap, ◌∙◌, sym, subst, inl, inr, lit<, lit≤}
use Rattle.std.proofs.lemmas.List.{append-nil}
use Rattle.std.specs.Fmt.{digits}
use Rattle.filter_host.specs.Course.{Course, ends, hears, Met, heard, Reaches}
use Rattle.filter_host.specs.Heard.{Hears, hands}
use Rattle.filter_host.specs.declared.host.Callback.TheVariants as callbacks
use Rattle.exchange.specs.Heads.{path_of, route_in}
use Rattle.law_exchange.specs.Traffic.{opens, byte, up_traffic}
use Rattle.gate_io.specs.declared.event.Side.TheVariants.{Down}
use Rattle.gate_io.specs.declared.event.What.TheVariants as whats
use Rattle.http_header.specs.Token.{is_token_byte}
use Rattle.h1_model.proofs.Carried.{take_carries}
use Rattle.h1_model.specs.Head.{found}
use Rattle.h1_model.specs.Messages.{head, body, counted, item, request}
use Rattle.h1_model.specs.Messages as messages
use Rattle.h1_model.specs.Unread.{Reading, head_part, piece, new_reading, reading_with_bytes, moved_on}
use Rattle.httparse.proofs.OnLiterals.{httparse_on_literals}
use Rattle.matchit.proofs.OnLiterals.{matchit_on_literals}
use Rattle.worker_model.specs.Settling.{settling}
use Rattle.worker_model.specs.Steps.{exchange_for}
use Rattle.worker_model.specs.Turn.{Outcome, outcome, turn}
use Rattle.law_lines.specs.Examples.{event}
use Rattle.law_lines.specs.Logs.{WriteLogs}
use Rattle.law_lines.specs.Requests.{IsBegun}
use Rattle.law_lines.specs.Turns.{Done, Turns, sent_in}
use Rattle.law_read_back.specs.Examples.{asked_text, first, posted, filter_plan, made_fields, made_request}
use Rattle.law_read_back.specs.OneRequest.{IsReadAsOne}
use Rattle.law_read_back.specs.Runs.{rewriting, filter_worker, filter_wire, FilterRun}
use Rattle.law_read_back.specs.Sent.{bytes_in}
use Rattle.law_read_back.proofs.Sends.{bytes_are}
use Rattle.law_read_back.proofs.Worked.{posted_judged, posted_spelled, made_taken, made_carries, made_is, made_read}

-- ---- the end of a course that calls no store, after what it hears; or this, where it has none there

abbrev end_of : {A : Type 0} → A → List Met → Course A → A
end_of a ms (ends b) = b
end_of a (heard h ∷ ms) (hears r k) = end_of a ms (k h)
end_of a ms p = a

abbrev ends_there : {A : Type 0} → List Met → Course A → Bool
ends_there [] (ends b) = true
ends_there (heard h ∷ ms) (hears r k) = ends_there ms (k h)
ends_there ms p = false

abbrev Meets : {A : Type 0} → List Met → Course A → Type 0
Meets [] p = Unit {0}
Meets (heard h ∷ ms) (hears r k) = Hears r h × Meets ms (k h)
Meets (m ∷ ms) p = ⊥

reaches_end : {A : Type 0} (a : A) (ms : List Met) (p : Course A) → ends_there ms p ≡ true → Meets ms p → Reaches p ms (ends (end_of a ms p))
reaches_end a [] (ends b) there meets = refl
reaches_end a (heard h ∷ ms) (hears r k) there meets = (meets.0, reaches_end a ms (k h) there meets.1)
reaches_end a ms p there meets = absurd (cc)

abbrev comes_to : List Met → Course (Outcome ℕ) → Outcome ℕ
comes_to met course = end_of (outcome filter_worker []) met course

-- ---- what is read

abbrev asked : Reading
asked = reading_with_bytes (asked_text ++ codes "ab") (new_reading None)

abbrev behind_head : Reading
behind_head = moved_on 47 (body (counted 2)) asked

abbrev behind_body : Reading
behind_body = moved_on 2 head behind_head

head_is_read : Hears asked (hands (head_part posted) behind_head)
head_is_read = record { used = 47; due = body (counted 2); next = inl (record { step = item (request posted) 47 (body (counted 2)); there = (found posted 47, posted_spelled, refl); is = refl }); is = refl }

body_is_read : Hears behind_head (hands (piece (codes "ab") true) behind_body)
body_is_read = record {
  used = 2;
  due = head;
  next = inr (record {
    bytes = codes "ab";
    used = 2;
    mid = body (counted 0);
    behind = item messages.end 0 head;
    carried = take_carries false None 2 2 (codes "ab") (lit≤ tt) (lit≤ tt);
    some = lit< tt;
    few = lit≤ tt;
    there = refl;
    all = inl tt;
    is = refl;
  });
  is = refl;
}

-- ---- the turns

abbrev opened : Course (Outcome ℕ)
opened = turn rewriting filter_plan filter_worker (event (whats.Opened 1))

abbrev posting_met : List Met
posting_met = heard (hands (head_part posted) behind_head) ∷ heard (hands (piece (codes "ab") true) behind_body) ∷ []

abbrev posting : Course (Outcome ℕ)
posting = turn rewriting filter_plan (comes_to [] opened).state (event (whats.Bytes 1 Down (asked_text ++ codes "ab")))

opened_ends : ends_there [] opened ≡ true
unfolding settling
opened_ends = refl

posting_ends : ends_there posting_met posting ≡ true
unfolding settling httparse_on_literals digits matchit_on_literals is_token_byte
posting_ends = refl

posting_meets : Meets posting_met posting
unfolding settling httparse_on_literals digits matchit_on_literals is_token_byte
posting_meets = (head_is_read, (body_is_read, tt))

abbrev turns : List (Done ℕ)
turns =
    record { event = event (whats.Opened 1); met = []; end = comes_to [] opened }
    ∷ record { event = event (whats.Bytes 1 Down (asked_text ++ codes "ab")); met = posting_met; end = comes_to posting_met posting } ∷ []

runs : Turns rewriting filter_plan filter_worker turns (comes_to posting_met posting).state
runs = (reaches_end (outcome filter_worker []) [] opened opened_ends tt, (reaches_end (outcome filter_worker []) posting_met posting posting_ends posting_meets, refl))

goes_up : up_traffic 1 (sent_in turns) ≡ opens ∷ map byte filter_wire
unfolding settling httparse_on_literals digits matchit_on_literals is_token_byte
goes_up = refl

writes_logs : WriteLogs rewriting
writes_logs host vm callbacks.RequestHeaders context one two now h = tt
writes_logs host vm callbacks.RequestBody context one two now h = tt
writes_logs host vm name context one two now h = tt

-- ---- what went up in them is read as one request

route_is : route_in filter_plan.routes (path_of posted.fields) ≡ Some 0
unfolding httparse_on_literals digits matchit_on_literals is_token_byte
route_is = refl

begins : IsBegun filter_plan posted first
begins = record { place = 0; now = 0; dead = []; is = ap (λ r. exchange_for filter_plan 0 0 [] posted r) (sym route_is); judged = posted_judged }

went_is : bytes_in (up_traffic 1 (sent_in turns)) ≡ filter_wire
went_is = ap bytes_in goes_up ∙ bytes_are filter_wire

pub filter_run : FilterRun
filter_run = record {
  logs = writes_logs;
  turns = turns;
  to = (comes_to posting_met posting).state;
  run = runs;
  happened = refl;
  up = goes_up;
  begun = begins;
  made = record { fields = made_fields; head = refl; framing = refl };
  meant = ([], append-nil (bytes_in (up_traffic 1 (sent_in turns))) ∙ (went_is ∙ sym made_is));
  taken = made_taken;
  carries = made_carries;
  read = subst (IsReadAsOne made_request) (sym went_is) made_read;
}
