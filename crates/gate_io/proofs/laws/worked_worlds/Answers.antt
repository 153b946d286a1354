use Rattle.std.proofs.Common.{ℕ, zero, suc, List, [], ◌∷◌, Contains, refl, inl, inr, rules, lit<, lit≤, arith}
use Rattle.gate_io.proofs.laws.worked_worlds.Goals as goal

abbrev first_and_third : List ℕ
first_and_third = 1 ∷ 3 ∷ []

first : Contains first_and_third 1
first = (0, lit< tt, refl)

not_second : Contains first_and_third 2 → ⊥
not_second (zero, low, same) = cc
not_second (suc zero, low, same) = cc
not_second (suc (suc k), low, same) = absurd (omega (arith, low))

abbrev no_number : List ℕ
no_number = []

none_refused : Contains no_number 1 → ⊥
none_refused (k, low, same) = absurd (omega (arith, low))

none_listed : {n : ℕ} → Contains no_number n → ⊥
none_listed (k, low, same) = absurd (omega (arith, low))

abbrev second_only : List ℕ
second_only = 2 ∷ []

second_refused : Contains second_only 2
second_refused = (0, lit< tt, refl)

not_first_refused : Contains second_only 1 → ⊥
not_first_refused (zero, low, same) = cc
not_first_refused (suc k, low, same) = absurd (omega (arith, low))

pub returns-clause-order : goal.returns-clause-order
returns-clause-order c = record {
  rising = search rules;
  falling = λ order. omega (arith, order.1.0.rises);
  behind_stop = λ order. cc (order.1.0.stays refl);
  stop_earlier = λ order. omega (arith, order.1.0.rises);
  no_bytes = λ order. omega (arith, order.0.sized.0);
  most_bytes = λ bytes long. (record { rises = lit≤ tt; stays = λ stopped. cc; sized = (omega arith, omega arith) }, tt);
  too_many_bytes = λ bytes long order. omega (arith, order.0.sized.1);
  wanted = (0, lit< tt, refl);
  unwanted = search rules;
  wanted_up = (0, lit< tt, refl);
  unwanted_down = search rules;
  last = refl;
}

pub returns-clause-calls : goal.returns-clause-calls
returns-clause-calls c = record {
  next_fails = (first, refl);
  next_gives_nothing = λ event after a. a.0 first;
  next_gives = (not_second, refl, record { rises = lit≤ tt; stays = λ stopped. cc; sized = tt }, refl);
  next_fails_not = λ after a. not_second a.0;
  send_fails = inl (inl first, refl);
  send_takes_nothing = λ n after a. a.0 first;
  send_takes_two = (not_second, none_refused, refl, refl);
  send_takes_no_more = λ after a. cc (a.2);
  connect_fails = inl (first, refl);
  connects = (not_second, refl);
  first_send = (none_listed, not_first_refused, refl, refl);
  second_send = inl (inr second_refused, refl);
  second_send_takes_nothing = λ n after a. a.1 second_refused;
  other_calls_go_on = (none_listed, refl);
}
