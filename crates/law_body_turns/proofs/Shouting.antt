-- The worked turns, by computation, behind texts that are read.
use Rattle.std.proofs.Common.{◌≡◌, true, false, List, [], ◌∷◌, map, None, codes, refl, inl, inr, lit<, lit≤}
use Rattle.std.specs.Fmt.{digits}
use Rattle.filter_host.specs.Course.{Course}
use Rattle.filter_host.specs.Heard.{Hears, hands, halts}
use Rattle.http_header.specs.Token.{is_token_byte}
use Rattle.h1_model.proofs.Carried.{take_carries}
use Rattle.h1_model.specs.Head.{found}
use Rattle.h1_model.specs.Messages.{head, body, counted, rest, item, stop, request}
use Rattle.h1_model.specs.Messages as messages
use Rattle.h1_model.specs.Moment.{year_from, month_from}
use Rattle.h1_model.specs.Unread.{head_part, piece, awaiting_bytes}
use Rattle.httparse.proofs.OnLiterals.{httparse_on_literals}
use Rattle.httpdate.proofs.OnLiterals.{httpdate_on_literals}
use Rattle.matchit.proofs.OnLiterals.{matchit_on_literals}
use Rattle.worker_model.specs.Settling.{settling}
use Rattle.worker_model.specs.Turn.{Outcome}
use Rattle.worker_model.specs.declared.types.Line.{Line}
use Rattle.law_turns.proofs.Following.{end_by, ends_there, Meets, reaches_by}
use Rattle.law_turns.proofs.Texts.{request_texts}
use Rattle.law_turns.specs.Tables.{Call}
use Rattle.law_turns.specs.Texts.{posted_head}
use Rattle.law_turns.specs.Uploads as up
use Rattle.law_turns.specs.Uploads.{posts_met, goes_on_met}
use Rattle.law_body_turns.specs.Shouting.{ShoutingExample, first, first_calls, first_sends, second, second_calls, second_sends}

-- ---- what is read

posted_is_read : Hears up.posted (hands (head_part posted_head) up.behind_posted)
posted_is_read = record {
  used = 80;
  due = body (counted 3);
  next = inl (record { step = item (request posted_head) 80 (body (counted 3)); there = (found posted_head 80, request_texts.posted, refl); is = refl });
  is = refl;
}

two_are_read : Hears up.behind_posted (hands (piece (codes "ab") false) up.behind_two)
two_are_read = record {
  used = 2;
  due = body (counted 1);
  next = inr (record {
    bytes = codes "ab";
    used = 2;
    mid = body (counted 1);
    behind = stop rest;
    carried = take_carries false None 3 2 (codes "ab") (lit≤ tt) (lit≤ tt);
    some = lit< tt;
    few = lit≤ tt;
    there = refl;
    all = inl tt;
    is = refl;
  });
  is = refl;
}

third_is_awaited : Hears up.behind_two (halts rest (awaiting_bytes up.behind_two))
third_is_awaited = record { next = inl (record { step = stop rest; there = refl; is = refl }); is = refl }

third_is_read : Hears up.one_more (hands (piece (codes "c") true) up.behind_three)
third_is_read = record {
  used = 1;
  due = head;
  next = inr (record {
    bytes = codes "c";
    used = 1;
    mid = body (counted 0);
    behind = item messages.end 0 head;
    carried = take_carries false None 1 1 (codes "c") (lit≤ tt) (lit≤ tt);
    some = lit< tt;
    few = lit≤ tt;
    there = refl;
    all = inl tt;
    is = refl;
  });
  is = refl;
}

-- ---- the turns

abbrev two : Course (Outcome (List Call))
two = second (end_by posts_met first).state

one_ends : ends_there posts_met first ≡ true
unfolding settling matchit_on_literals is_token_byte
one_ends = refl

one_meets : Meets posts_met first
unfolding settling matchit_on_literals is_token_byte
one_meets = (posted_is_read, (two_are_read, (third_is_awaited, tt)))

one_asks : (end_by posts_met first).state.host ≡ first_calls
unfolding settling matchit_on_literals is_token_byte
one_asks = refl

one_sends : (end_by posts_met first).sent ≡ first_sends
unfolding settling httparse_on_literals httpdate_on_literals digits year_from month_from matchit_on_literals is_token_byte
one_sends = refl

one_leaves : map (λ (l : Line). l.number) (end_by posts_met first).state.room.lines ≡ 1 ∷ []
unfolding settling matchit_on_literals is_token_byte
one_leaves = refl

two_ends : ends_there goes_on_met two ≡ true
unfolding settling matchit_on_literals is_token_byte
two_ends = refl

two_meets : Meets goes_on_met two
unfolding settling matchit_on_literals is_token_byte
two_meets = (third_is_read, tt)

two_asks : (end_by goes_on_met two).state.host ≡ second_calls
unfolding settling matchit_on_literals is_token_byte
two_asks = refl

two_sends : (end_by goes_on_met two).sent ≡ second_sends
unfolding settling httparse_on_literals httpdate_on_literals digits year_from month_from matchit_on_literals is_token_byte
two_sends = refl

two_leaves : map (λ (l : Line). l.number) (end_by goes_on_met two).state.room.lines ≡ 1 ∷ []
unfolding settling matchit_on_literals is_token_byte
two_leaves = refl

pub shouting_example : ShoutingExample
shouting_example = record {
  letters = refl;
  head_and_two = record {
    end = end_by posts_met first;
    reaches = reaches_by posts_met first one_ends one_meets;
    called = one_asks;
    hands_over = one_sends;
    leaves = one_leaves;
  };
  last = record {
    end = end_by goes_on_met two;
    reaches = reaches_by goes_on_met two two_ends two_meets;
    called = two_asks;
    hands_over = two_sends;
    leaves = two_leaves;
  };
}
