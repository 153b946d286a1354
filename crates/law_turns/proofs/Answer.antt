-- The answer of a filter, by computation, after a request that is read.
use Rattle.std.proofs.Common.{◌≡◌, true, [], ◌∷◌, map, refl, inl}
use Rattle.std.specs.Fmt.{digits}
use Rattle.filter_host.specs.Heard.{Hears, hands, halts}
use Rattle.h1_model.proofs.Examples.{worked_head_is}
use Rattle.h1_model.specs.Examples.{worked_head}
use Rattle.h1_model.specs.Head.{found, not_yet}
use Rattle.h1_model.specs.Messages.{head, rest, item, stop, request}
use Rattle.http_header.specs.Token.{is_token_byte}
use Rattle.h1_model.specs.Moment.{year_from, month_from}
use Rattle.httparse.proofs.OnLiterals.{httparse_on_literals}
use Rattle.httpdate.proofs.OnLiterals.{httpdate_on_literals}
use Rattle.h1_model.specs.Unread.{head_part, awaiting_bytes}
use Rattle.matchit.proofs.OnLiterals.{matchit_on_literals}
use Rattle.worker_model.specs.Settling.{settling}
use Rattle.worker_model.specs.declared.types.Line.{Line}
use Rattle.law_turns.proofs.Following.{end_by, ends_there, Meets, reaches_by}
use Rattle.law_turns.specs.Answer.{AnswerExample, behind_head, calls, met, sends, turned, unread}

pub head_is_read : Hears unread (hands (head_part worked_head) behind_head)
head_is_read = record {
  used = 27;
  due = head;
  next = inl (record { step = item (request worked_head) 27 head; there = (found worked_head 27, worked_head_is.spelled, refl); is = refl });
  is = refl;
}

pub nothing_behind : Hears behind_head (halts rest (awaiting_bytes behind_head))
nothing_behind = record { next = inl (record { step = stop rest; there = (not_yet, refl, refl); is = refl }); is = refl }

it_ends : ends_there met turned ≡ true
unfolding settling matchit_on_literals is_token_byte
it_ends = refl

it_meets : Meets met turned
unfolding settling matchit_on_literals is_token_byte
it_meets = (head_is_read, (nothing_behind, tt))

it_asks : (end_by met turned).state.host ≡ calls
unfolding settling matchit_on_literals is_token_byte
it_asks = refl

it_sends : (end_by met turned).sent ≡ sends
unfolding settling httparse_on_literals httpdate_on_literals digits year_from month_from matchit_on_literals is_token_byte
it_sends = refl

it_leaves : map (λ (l : Line). l.number) (end_by met turned).state.room.lines ≡ 1 ∷ []
unfolding settling matchit_on_literals is_token_byte
it_leaves = refl

pub answer_example : AnswerExample
answer_example = record {
  turns = record {
    end = end_by met turned;
    reaches = reaches_by met turned it_ends it_meets;
    called = it_asks;
    hands_over = it_sends;
    leaves = it_leaves;
  };
}
