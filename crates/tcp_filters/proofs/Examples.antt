-- The worked examples, by computation.
use Rattle.std.proofs.Common.{refl}
use Rattle.tcp_filters.specs.Examples.{LineExamples, LimitExamples}

pub line_examples : LineExamples
line_examples = record {
  none_sent = refl;
  none_client_ends = refl;
  none_stays = refl;
  none_server_ends = refl;
  none_is_over = refl;
  new_asks = refl;
  new_waits = refl;
  new_leaves = refl;
  held_asks = refl;
  held_sent = refl;
  goes_on_asks = refl;
  goes_on_sent = refl;
  ahead_sent = refl;
  ahead_asks = refl;
  ahead_goes_on = refl;
  ahead_opens = refl;
  ahead_resumes = refl;
  opens_asks = refl;
  both_asks = refl;
  both_sent = refl;
  apart = refl;
  end_waits = refl;
  end_sent = refl;
  end_left = refl;
  end_told = refl;
  over_asks = refl;
  over_sent = refl;
  early = refl;
  no_server = refl;
  late = refl;
  elsewhere = refl;
  once = refl;
  client_gone = refl;
  client_lost = refl;
  server_gone = refl;
  refused = refl;
  holds = refl;
  gone_holds = refl;
  closed_holds = refl;
  closed_stages = refl;
}

pub limit_examples : LimitExamples
limit_examples = record {
  behind_new = λ bytes many. rw many refl;
  past_new = λ bytes b many. rw many refl;
  end_behind_new = λ bytes. refl;
  asked_about = λ bytes many. rw many refl;
  past_held = λ bytes b many. rw many refl;
  room_for_one = λ bytes b many. rw many refl;
  past_next = λ bytes b many. rw many refl;
}
