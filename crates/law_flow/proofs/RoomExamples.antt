-- The worked example of a worker, by computation.
use Rattle.std.proofs.Common.{ℕ, true, false, List, [], ◌∷◌, refl, arith}
use Rattle.std.specs.Prelude.{Some, codes}
use Rattle.contexts.specs.declared.parts.StageBuffer as parts
use Rattle.contexts.specs.Stages.{stage_changed}
use Rattle.filter_host.specs.Called.{Called, called_back}
use Rattle.filter_host.specs.declared.host.CallbackEnd.TheVariants as call_ends
use Rattle.exchange.specs.declared.types.Exchange.{Exchange}
use Rattle.exchange.specs.Passing.{put_read_items}
use Rattle.filter_chain.specs.declared.item.ChainItem.{ChainItem}
use Rattle.filter_chain.specs.declared.item.ChainItem.TheVariants.{Head, Piece}
use Rattle.filter_chain.specs.Chains.{asked}
use Rattle.worker_model.specs.Room.{Room}
use Rattle.worker_model.specs.Rooms.{on_number}
use Rattle.law_chain.specs.Examples.{asked_with}
use Rattle.law_body.specs.Examples.{upload_start}
use Rattle.law_flow.specs.RoomExamples.{upload_room, RoomExample}
use Rattle.law_body.proofs.Examples.{exchange_examples}
use Rattle.httparse.proofs.OnLiterals.{httparse_on_literals}
use Rattle.std.specs.Fmt.{digits}
use Rattle.law_flow.specs.Rooms.{IsAsked, IsMove, IsPut, asked_exchange, moves, puts, Run, rests, goes, moved_exchange, moved_room}

-- what a callback leaves: the contexts with the buffer as it was, or written
abbrev looks : Exchange → Room → Called ℕ
looks x room = called_back (call_ends.Returned (Some 0)) [] 0 (asked_with (asked room.hub.contexts x.request))

abbrev writes : List ℕ → Exchange → Room → Called ℕ
writes bytes x room =
    called_back (call_ends.Returned (Some 0)) [] 0 (stage_changed (λ (t : parts.StageBuffer). record t { held = bytes }) (asked_with (asked room.hub.contexts x.request)) 0 2 false)

abbrev head : List ChainItem
head = Head false ∷ []

abbrev body : List ChainItem
body = Piece (codes "ab") true ∷ []

-- ---- the head is put, and goes on

abbrev first_put : IsPut false 1 1 head upload_start.exchange upload_room
first_put = record {
  on = record { place = 0; line = _; stands = refl; at = refl; number = refl; exchange = refl };
  unanswered = refl;
  deeds = (record { runs = (refl, refl); acts = (tt, tt); chain = tt }, tt);
}

abbrev first_exchange : Exchange
first_exchange = (put_read_items false head 1 upload_start.exchange upload_room.hub).0

abbrev first_room : Room
first_room = on_number (put_read_items false head) 1 upload_room

abbrev first_asked : IsAsked false 1 first_exchange first_room
first_asked = record {
  on = record { place = 0; line = _; stands = refl; at = refl; number = refl; exchange = refl };
  direction = refl;
  ask = _;
  stages = _;
  contexts = _;
  asks = refl;
  stage = _;
  at = refl;
}

abbrev first_move : IsMove 1 (looks first_exchange first_room) first_asked
first_move = record {
  runs = (refl, refl);
  value = Some 0;
  returned = refl;
  call = (tt, (((omega arith), _, refl), tt));
  behind = asked_exchange first_asked;
  effects = (refl, record { place = 0; line = _; stands = refl; at = refl; number = refl; exchange = refl });
  answer = record { runs = (refl, refl); acts = ((tt, λ _. tt), tt); chain = tt };
}

-- ---- the piece is put, is written, and goes on

abbrev second_exchange : Exchange
second_exchange = moved_exchange first_move

abbrev second_room : Room
second_room = moved_room first_move

abbrev second_put : IsPut false 1 1 body second_exchange second_room
second_put = record {
  on = record { place = 0; line = _; stands = refl; at = refl; number = refl; exchange = refl };
  unanswered = refl;
  deeds = (record { runs = (refl, refl); acts = (tt, tt); chain = tt }, tt);
}

abbrev third_exchange : Exchange
third_exchange = (put_read_items false body 1 second_exchange second_room.hub).0

abbrev third_room : Room
third_room = on_number (put_read_items false body) 1 second_room

abbrev second_asked : IsAsked false 1 third_exchange third_room
second_asked = record {
  on = record { place = 0; line = _; stands = refl; at = refl; number = refl; exchange = refl };
  direction = refl;
  ask = _;
  stages = _;
  contexts = _;
  asks = refl;
  stage = _;
  at = refl;
}

abbrev second_move : IsMove 1 (writes (codes "XYZ") third_exchange third_room) second_asked
second_move = record {
  runs = (refl, refl);
  value = Some 0;
  returned = refl;
  call = (tt, (((omega arith), _, refl), tt));
  behind = asked_exchange second_asked;
  effects = (refl, record { place = 0; line = _; stands = refl; at = refl; number = refl; exchange = refl });
  answer = record { runs = (refl, refl); acts = ((refl, λ _. tt), tt); chain = tt };
}

abbrev whole_run : Run ℕ false 1 1 upload_start.exchange upload_room (moved_exchange second_move) (moved_room second_move)
whole_run =
    goes (puts head first_put) (goes (moves (looks first_exchange first_room) first_asked first_move)
    (goes (puts body second_put) (goes (moves (writes (codes "XYZ") third_exchange third_room) second_asked second_move) (rests (moved_exchange second_move) (moved_room second_move)))))

pub room_example : RoomExample
unfolding httparse_on_literals digits
room_example = record {
  last = moved_exchange second_move;
  after = moved_room second_move;
  run = whole_run;
  starts_new = exchange_examples.upload_new;
  items = refl;
  buffers = refl;
  passed = refl;
  ended = refl;
}
