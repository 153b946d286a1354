-- Three turns of one exchange, by computation, behind texts that are read.
use Rattle.std.proofs.Common.{◌≡◌, true, false, List, [], ◌∷◌, map, Some, codes, refl, inl, inr, lit<, lit≤}
use Rattle.std.specs.Fmt.{digits}
use Rattle.filter_host.specs.Course.{Course}
use Rattle.filter_host.specs.Heard.{Hears, hands}
use Rattle.http_header.specs.Token.{is_token_byte}
use Rattle.h1_model.proofs.Carried.{take_carries}
use Rattle.h1_model.proofs.Examples.{worked_response_is}
use Rattle.h1_model.specs.Examples.{worked_response}
use Rattle.h1_model.specs.Head.{found}
use Rattle.h1_model.specs.Messages.{head, body, done, counted, rest, item, stop, request}
use Rattle.h1_model.specs.Messages as messages
use Rattle.h1_model.specs.Moment.{year_from, month_from}
use Rattle.h1_model.specs.Unread.{head_part, piece}
use Rattle.httparse.proofs.OnLiterals.{httparse_on_literals}
use Rattle.httpdate.proofs.OnLiterals.{httpdate_on_literals}
use Rattle.matchit.proofs.OnLiterals.{matchit_on_literals}
use Rattle.worker_model.specs.Settling.{settling}
use Rattle.worker_model.specs.Turn.{Outcome}
use Rattle.worker_model.specs.declared.types.Line.{Line}
use Rattle.law_turns.proofs.Answer.{head_is_read, nothing_behind}
use Rattle.law_turns.proofs.Following.{end_by, ends_there, Meets, reaches_by}
use Rattle.law_turns.specs.Tables.{Call}
use Rattle.law_turns.specs.Passage.{PassageExample, response, behind_response, behind_body, first, first_met, first_calls, second, second_calls, goes_up, third, third_met, third_calls, goes_down}

pub response_is_read : Hears response (hands (head_part worked_response) behind_response)
response_is_read = record {
  used = 38;
  due = body (counted 3);
  next = inl (record { step = item (messages.response worked_response) 38 (body (counted 3)); there = (found worked_response 38, worked_response_is.spelled, refl); is = refl });
  is = refl;
}

pub body_is_read : Hears behind_response (hands (piece (codes "abc") true) behind_body)
body_is_read = record {
  used = 3;
  due = done;
  next = inr (record {
    bytes = codes "abc";
    used = 3;
    mid = body (counted 0);
    behind = item messages.end 0 done;
    carried = take_carries false (Some (codes "GET")) 3 3 (codes "abc") (lit≤ tt) (lit≤ tt);
    some = lit< tt;
    few = lit≤ tt;
    there = refl;
    all = inl tt;
    is = refl;
  });
  is = refl;
}

abbrev two : Course (Outcome (List Call))
two = second (end_by first_met first).state

abbrev three : Course (Outcome (List Call))
three = third (end_by [] two).state

one_ends : ends_there first_met first ≡ true
unfolding settling matchit_on_literals is_token_byte
one_ends = refl

one_meets : Meets first_met first
unfolding settling matchit_on_literals is_token_byte
one_meets = (head_is_read, tt)

one_asks : (end_by first_met first).state.host ≡ first_calls
unfolding settling matchit_on_literals is_token_byte
one_asks = refl

one_sends : (end_by first_met first).sent ≡ []
unfolding settling httparse_on_literals httpdate_on_literals digits year_from month_from matchit_on_literals is_token_byte
one_sends = refl

one_leaves : map (λ (l : Line). l.number) (end_by first_met first).state.room.lines ≡ 1 ∷ []
unfolding settling matchit_on_literals is_token_byte
one_leaves = refl

two_ends : ends_there [] two ≡ true
unfolding settling matchit_on_literals is_token_byte
two_ends = refl

two_meets : Meets [] two
unfolding settling matchit_on_literals is_token_byte
two_meets = tt

two_asks : (end_by [] two).state.host ≡ second_calls
unfolding settling matchit_on_literals is_token_byte
two_asks = refl

two_sends : (end_by [] two).sent ≡ goes_up
unfolding settling httparse_on_literals httpdate_on_literals digits year_from month_from matchit_on_literals is_token_byte
two_sends = refl

two_leaves : map (λ (l : Line). l.number) (end_by [] two).state.room.lines ≡ 1 ∷ []
unfolding settling matchit_on_literals is_token_byte
two_leaves = refl

three_ends : ends_there third_met three ≡ true
unfolding settling matchit_on_literals is_token_byte
three_ends = refl

three_meets : Meets third_met three
unfolding settling matchit_on_literals is_token_byte
three_meets = (response_is_read, (body_is_read, (nothing_behind, tt)))

three_asks : (end_by third_met three).state.host ≡ third_calls
unfolding settling matchit_on_literals is_token_byte
three_asks = refl

three_sends : (end_by third_met three).sent ≡ goes_down
unfolding settling httparse_on_literals httpdate_on_literals digits year_from month_from matchit_on_literals is_token_byte
three_sends = refl

three_leaves : map (λ (l : Line). l.number) (end_by third_met three).state.room.lines ≡ 1 ∷ []
unfolding settling matchit_on_literals is_token_byte
three_leaves = refl

pub passage_example : PassageExample
passage_example = record {
  holds_back = record {
    end = end_by first_met first;
    reaches = reaches_by first_met first one_ends one_meets;
    called = one_asks;
    hands_over = one_sends;
    leaves = one_leaves;
  };
  lets_go = record {
    end = end_by [] two;
    reaches = reaches_by [] two two_ends two_meets;
    called = two_asks;
    hands_over = two_sends;
    leaves = two_leaves;
  };
  responds = record {
    end = end_by third_met three;
    reaches = reaches_by third_met three three_ends three_meets;
    called = three_asks;
    hands_over = three_sends;
    leaves = three_leaves;
  };
}
