-- What a worker notes of an exchange.
use Rattle.std.proofs.Common.{◌≡◌, ℕ, Bool, true, false, ◌||◌, List, [], refl, ap}
use Rattle.exchange.specs.declared.types.Exchange.{Exchange}
use Rattle.exchange.specs.Heads.{length_in}
use Rattle.law_exchange.specs.Lives.{IsKin}
use Rattle.law_exchange.specs.Responses.{IsKinDown}
use Rattle.law_exchange.proofs.Quiet.{by_bool}
use Rattle.filter_chain.specs.declared.item.ChainItem.{ChainItem}
use Rattle.worker_model.specs.Steps.{with_read_mark, exchange_with_stages}
use Rattle.law_turns.specs.Noted.{NotesAreFair, NotesAreFairDown}
use Rattle.law_turns.proofs.Begins.{no_stages, no_stages_back}

itself : (x : Exchange) → x.request ≡ [] → IsKin x x
itself x is = record { unfiltered = is; framed = refl; stays_over = λ o. o }

item_noted : (up : Bool) (item : ChainItem) (x : Exchange) → x.request ≡ [] → IsKin x (with_read_mark up item x)
item_noted false item x is = record { unfiltered = is; framed = refl; stays_over = λ o. o }
item_noted true item x is = record { unfiltered = is; framed = refl; stays_over = λ o. o }

stages_made : (dead : List ℕ) (x : Exchange) → x.request ≡ [] → x.filters ≡ [] → IsKin x (exchange_with_stages dead x)
stages_made dead x is none =
    by_bool (IsKin x) (x.has_ended || x.is_answered) x _ (λ e. itself x is)
    (λ e. record { unfiltered = no_stages dead x.filters none; framed = refl; stays_over = λ o. o })

pub notes_are_fair : NotesAreFair
notes_are_fair = record {
  reader = λ reading x is. record { unfiltered = is; framed = refl; stays_over = λ o. o };
  item = item_noted;
  text = λ stops bytes x is. record { unfiltered = is; framed = refl; stays_over = λ o. o };
  head = λ h x is. record { unfiltered = is; framed = refl; stays_over = λ o. o };
  stages = stages_made;
  client_gone = λ x is. record { unfiltered = is; framed = refl; stays_over = λ o. refl };
}

never : (b : Bool) → b ≡ false → b ≡ true → {A : Type 0} → A
never b here there = absurd (cc)

itself_down : (x : Exchange) → x.request ≡ [] → x.response ≡ [] → IsKinDown x x
itself_down x is back = record {
  request = is;
  response = back;
  head = refl;
  answered = refl;
  method = refl;
  version = refl;
  framed = λ o. refl;
  stays = λ o r. refl;
  ended = λ e. (e, refl);
  ends = λ runs e. never x.has_ended runs e;
}

item_noted_down : (up : Bool) (item : ChainItem) (x : Exchange) → x.request ≡ [] → x.response ≡ [] → IsKinDown x (with_read_mark up item x)
item_noted_down false item x is back = record {
  request = is;
  response = back;
  head = refl;
  answered = refl;
  method = refl;
  version = refl;
  framed = λ o. refl;
  stays = λ o r. refl;
  ended = λ e. (e, refl);
  ends = λ runs e. never x.has_ended runs e;
}
item_noted_down true item x is back = record {
  request = is;
  response = back;
  head = refl;
  answered = refl;
  method = refl;
  version = refl;
  framed = λ o. refl;
  stays = λ o r. refl;
  ended = λ e. (e, refl);
  ends = λ runs e. never x.has_ended runs e;
}

stages_made_down : (dead : List ℕ) (x : Exchange) → x.request ≡ [] → x.response ≡ [] → x.filters ≡ [] → IsKinDown x (exchange_with_stages dead x)
stages_made_down dead x is back none =
    by_bool (IsKinDown x) (x.has_ended || x.is_answered) x _ (λ e. itself_down x is back)
    (λ e. record {
      request = no_stages dead x.filters none;
      response = no_stages_back dead x.filters none;
      head = refl;
      answered = refl;
      method = refl;
      version = refl;
      framed = λ o. refl;
      stays = λ o r. refl;
      ended = λ d. (d, refl);
      ends = λ runs d. never x.has_ended runs d;
    })

pub notes_are_fair_down : NotesAreFairDown
notes_are_fair_down = record {
  reader = λ reading x is back. record {
    request = is;
    response = back;
    head = refl;
    answered = refl;
    method = refl;
    version = refl;
    framed = λ o. refl;
    stays = λ o r. refl;
    ended = λ e. (e, refl);
    ends = λ runs e. never x.has_ended runs e;
  };
  item = item_noted_down;
  text = λ stops bytes x is back. record {
    request = is;
    response = back;
    head = refl;
    answered = refl;
    method = refl;
    version = refl;
    framed = λ o. refl;
    stays = λ o r. refl;
    ended = λ e. (e, refl);
    ends = λ runs e. never x.has_ended runs e;
  };
  head = λ h x is back unsent. record {
    request = is;
    response = back;
    head = refl;
    answered = refl;
    method = refl;
    version = refl;
    framed = λ o. never x.is_head_out unsent o;
    stays = λ o r. refl;
    ended = λ e. (e, refl);
    ends = λ runs e. never x.has_ended runs e;
  };
  stages = stages_made_down;
  client_gone = λ x is back runs. record {
    request = is;
    response = back;
    head = refl;
    answered = refl;
    method = refl;
    version = refl;
    framed = λ o. refl;
    stays = λ o r. absurd (cc);
    ended = λ e. never x.has_ended runs e;
    ends = λ r e. refl;
  };
  heard = λ h items x is. λ runs unanswered. record {
    minor = is.minor;
    codings = is.codings;
    lengths = is.lengths;
    measure = is.measure;
    to_head = x.is_head_up;
    status = is.status;
    judged = is.judged;
    received = record { method = refl; code = is.code; length = ap length_in is.length; told = is.told };
    ends = refl;
  };
}
