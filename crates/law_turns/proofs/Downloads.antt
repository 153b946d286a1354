-- Responses on their way down, by computation, behind texts that are read.
use Rattle.std.proofs.Common.{◌≡◌, true, false, List, [], ◌∷◌, map, Some, codes, refl, inl, inr, lit<, lit≤}
use Rattle.std.proofs.lemmas.List.Elements.{All-cons, All-nil}
use Rattle.std.specs.Fmt.{digits}
use Rattle.filter_host.specs.Course.{Course}
use Rattle.filter_host.specs.Heard.{Hears, hands, halts}
use Rattle.gate_io.specs.declared.event.Sent.TheVariants as sent
use Rattle.gate_io.specs.declared.event.Side.TheVariants.{Down, Up}
use Rattle.http_header.specs.Token.{is_token_byte}
use Rattle.httparse.specs.Grammar.{crlf, IsField}
use Rattle.h1_model.proofs.Carried.{run_carries, take_carries_unbounded}
use Rattle.h1_model.proofs.ChunkExamples.{sum_field, sum_is_field}
use Rattle.h1_model.proofs.Examples.{worked_head_is}
use Rattle.h1_model.specs.ChunkExamples.{chunked_text}
use Rattle.h1_model.specs.Chunks.{size_line, inside, run_of}
use Rattle.h1_model.specs.Examples.{worked_head, worked_interim, worked_bare_response}
use Rattle.h1_model.specs.Head.{found, not_yet}
use Rattle.h1_model.specs.Messages.{head, body, done, counted, coded, unbounded, rest, item, stop, request, interim, response}
use Rattle.h1_model.specs.Messages as messages
use Rattle.h1_model.specs.Moment.{year_from, month_from}
use Rattle.h1_model.specs.Trailers.{ended}
use Rattle.h1_model.specs.Unread.{head_part, interim_part, piece, trailer_part, awaiting_bytes}
use Rattle.httparse.proofs.OnLiterals.{httparse_on_literals}
use Rattle.httpdate.proofs.OnLiterals.{httpdate_on_literals}
use Rattle.matchit.proofs.OnLiterals.{matchit_on_literals}
use Rattle.worker_model.specs.Settling.{settling}
use Rattle.worker_model.specs.Turn.{Outcome}
use Rattle.worker_model.specs.declared.types.Line.{Line}
use Rattle.law_turns.proofs.Following.{end_by, ends_there, Meets, reaches_by}
use Rattle.law_turns.proofs.Texts.{request_texts, response_texts}
use Rattle.law_turns.specs.Tables.{Call}
use Rattle.law_turns.proofs.Answer.{head_is_read}
use Rattle.law_turns.proofs.Passage.{response_is_read, body_is_read}
use Rattle.law_turns.specs.Texts.{peek_head, old_head, last_head, download_head, endless_head, unmodified_head}
use Rattle.law_turns.specs.Downloads as down
use Rattle.law_turns.specs.Downloads.{PipelineExample, OldExample, UnmodifiedExample, EndlessExample}

-- ---- what is read

first_is_read : Hears down.both_asked (hands (head_part worked_head) down.one_left)
first_is_read = record {
  used = 27;
  due = head;
  next = inl (record { step = item (request worked_head) 27 head; there = (found worked_head 27, worked_head_is.spelled, refl); is = refl });
  is = refl;
}

second_is_read : Hears down.one_left (hands (head_part peek_head) down.none_left)
second_is_read = record {
  used = 28;
  due = head;
  next = inl (record { step = item (request peek_head) 28 head; there = (found peek_head 28, request_texts.peek, refl); is = refl });
  is = refl;
}

none_is_left : Hears down.none_left (halts rest (awaiting_bytes down.none_left))
none_is_left = record { next = inl (record { step = stop rest; there = (not_yet, refl, refl); is = refl }); is = refl }

peeked_is_read : Hears down.peeked (hands (head_part worked_bare_response) down.behind_peeked)
peeked_is_read = record {
  used = 38;
  due = done;
  next = inl (record { step = item (response worked_bare_response) 38 done; there = (found worked_bare_response 38, response_texts.bare, refl); is = refl });
  is = refl;
}

old_is_read : Hears down.old (hands (head_part old_head) down.behind_old)
old_is_read = record {
  used = 27;
  due = head;
  next = inl (record { step = item (request old_head) 27 head; there = (found old_head 27, request_texts.old, refl); is = refl });
  is = refl;
}

pub interim_is_read : Hears down.coming (hands (interim_part worked_interim) down.behind_interim)
interim_is_read = record {
  used = 25;
  due = head;
  next = inl (record { step = item (interim worked_interim) 25 head; there = (found worked_interim 25, response_texts.interim, refl); is = refl });
  is = refl;
}

pub download_is_read : Hears down.behind_interim (hands (head_part download_head) down.behind_download)
download_is_read = record {
  used = 47;
  due = body (coded [] size_line);
  next = inl (record { step = item (response download_head) 47 (body (coded [] size_line)); there = (found download_head 47, response_texts.download, refl); is = refl });
  is = refl;
}

pub data_is_read : Hears down.behind_download (hands (piece (codes "abcde") false) down.behind_data)
unfolding httparse_on_literals run_of
data_is_read = record {
  used = 8;
  due = body (coded [] (inside 0));
  next = inr (record {
    bytes = codes "abcde";
    used = 8;
    mid = body (coded [] (inside 0));
    behind = item (messages.trailers ((codes "x-sum", codes "1") ∷ [])) 17 done;
    carried = run_carries false (Some (codes "GET")) [] 5 size_line chunked_text;
    some = lit< tt;
    few = lit≤ tt;
    there = (
      ended ((codes "x-sum", codes "1") ∷ []) 17,
      record {
        trailers = Some ((codes "x-sum", codes "1") ∷ []);
        section = record {
          fields = sum_field ∷ [];
          last = crlf;
          reads = (All-cons IsField sum_field [] sum_is_field (All-nil IsField), refl);
          are = refl;
        };
        is = refl;
      },
      refl,
    );
    all = inl tt;
    is = refl;
  });
  is = refl;
}

pub trailers_are_read : Hears down.behind_data (hands (trailer_part ((codes "x-sum", codes "1") ∷ [])) down.behind_trailers)
unfolding httparse_on_literals run_of
trailers_are_read = record {
  used = 17;
  due = done;
  next = inl (record {
    step = item (messages.trailers ((codes "x-sum", codes "1") ∷ [])) 17 done;
    there = (
      ended ((codes "x-sum", codes "1") ∷ []) 17,
      record {
        trailers = Some ((codes "x-sum", codes "1") ∷ []);
        section = record {
          fields = sum_field ∷ [];
          last = crlf;
          reads = (All-cons IsField sum_field [] sum_is_field (All-nil IsField), refl);
          are = refl;
        };
        is = refl;
      },
      refl,
    );
    is = refl;
  });
  is = refl;
}

last_is_read : Hears down.last (hands (head_part last_head) down.behind_last)
last_is_read = record {
  used = 46;
  due = head;
  next = inl (record { step = item (request last_head) 46 head; there = (found last_head 46, request_texts.last, refl); is = refl });
  is = refl;
}

unmodified_is_read : Hears down.unmodified (hands (head_part unmodified_head) down.behind_unmodified)
unmodified_is_read = record {
  used = 48;
  due = done;
  next = inl (record { step = item (response unmodified_head) 48 done; there = (found unmodified_head 48, response_texts.unmodified, refl); is = refl });
  is = refl;
}

endless_is_read : Hears down.endless (hands (head_part endless_head) down.behind_endless)
endless_is_read = record {
  used = 19;
  due = body unbounded;
  next = inl (record { step = item (response endless_head) 19 (body unbounded); there = (found endless_head 19, response_texts.endless, refl); is = refl });
  is = refl;
}

ok_is_read : Hears down.behind_endless (hands (piece (codes "ok") false) down.behind_ok)
ok_is_read = record {
  used = 2;
  due = body unbounded;
  next = inr (record {
    bytes = codes "ok";
    used = 2;
    mid = body unbounded;
    behind = stop rest;
    carried = take_carries_unbounded false (Some (codes "GET")) 2 (codes "ok") (lit≤ tt);
    some = lit< tt;
    few = lit≤ tt;
    there = refl;
    all = inl tt;
    is = refl;
  });
  is = refl;
}

more_is_awaited : Hears down.behind_ok (halts rest (awaiting_bytes down.behind_ok))
more_is_awaited = record { next = inl (record { step = stop rest; there = refl; is = refl }); is = refl }

end_is_read : Hears down.ended (hands (piece [] true) down.behind_end)
end_is_read = record {
  used = 0;
  due = done;
  next = inl (record { step = item messages.end 0 done; there = refl; is = refl });
  is = refl;
}

-- ---- pipelined

asking_ends : ends_there down.asks_met down.asks ≡ true
unfolding settling matchit_on_literals is_token_byte
asking_ends = refl

asking_meets : Meets down.asks_met down.asks
unfolding settling matchit_on_literals is_token_byte
asking_meets = (first_is_read, tt)

asking_asks : (end_by down.asks_met down.asks).state.host ≡ []
unfolding settling matchit_on_literals is_token_byte
asking_asks = refl

asking_sends : (end_by down.asks_met down.asks).sent ≡ down.asks_sends
unfolding settling httparse_on_literals httpdate_on_literals digits year_from month_from matchit_on_literals is_token_byte
asking_sends = refl

asking_leaves : map (λ (l : Line). l.number) (end_by down.asks_met down.asks).state.room.lines ≡ 1 ∷ []
unfolding settling matchit_on_literals is_token_byte
asking_leaves = refl

abbrev getting : Course (Outcome (List Call))
getting = down.gets (end_by down.asks_met down.asks).state

getting_ends : ends_there down.gets_met getting ≡ true
unfolding settling matchit_on_literals is_token_byte
getting_ends = refl

getting_meets : Meets down.gets_met getting
unfolding settling matchit_on_literals is_token_byte
getting_meets = (response_is_read, (body_is_read, (second_is_read, tt)))

getting_asks : (end_by down.gets_met getting).state.host ≡ []
unfolding settling matchit_on_literals is_token_byte
getting_asks = refl

getting_sends : (end_by down.gets_met getting).sent ≡ down.gets_sends
unfolding settling httparse_on_literals httpdate_on_literals digits year_from month_from matchit_on_literals is_token_byte
getting_sends = refl

getting_leaves : map (λ (l : Line). l.number) (end_by down.gets_met getting).state.room.lines ≡ 1 ∷ []
unfolding settling matchit_on_literals is_token_byte
getting_leaves = refl

abbrev peeking : Course (Outcome (List Call))
peeking = down.peeks (end_by down.gets_met getting).state

peeking_ends : ends_there down.peeks_met peeking ≡ true
unfolding settling matchit_on_literals is_token_byte
peeking_ends = refl

peeking_meets : Meets down.peeks_met peeking
unfolding settling matchit_on_literals is_token_byte
peeking_meets = (peeked_is_read, (none_is_left, tt))

peeking_asks : (end_by down.peeks_met peeking).state.host ≡ []
unfolding settling matchit_on_literals is_token_byte
peeking_asks = refl

peeking_sends : (end_by down.peeks_met peeking).sent ≡ down.peeks_sends
unfolding settling httparse_on_literals httpdate_on_literals digits year_from month_from matchit_on_literals is_token_byte
peeking_sends = refl

peeking_leaves : map (λ (l : Line). l.number) (end_by down.peeks_met peeking).state.room.lines ≡ 1 ∷ []
unfolding settling matchit_on_literals is_token_byte
peeking_leaves = refl

pub pipeline_example : PipelineExample
pipeline_example = record {
  first = record {
    end = end_by down.asks_met down.asks;
    reaches = reaches_by down.asks_met down.asks asking_ends asking_meets;
    called = asking_asks;
    hands_over = asking_sends;
    leaves = asking_leaves;
  };
  second = record {
    end = end_by down.gets_met getting;
    reaches = reaches_by down.gets_met getting getting_ends getting_meets;
    called = getting_asks;
    hands_over = getting_sends;
    leaves = getting_leaves;
  };
  third = record {
    end = end_by down.peeks_met peeking;
    reaches = reaches_by down.peeks_met peeking peeking_ends peeking_meets;
    called = peeking_asks;
    hands_over = peeking_sends;
    leaves = peeking_leaves;
  };
}

-- ---- a client of HTTP/1.0

old_asking_ends : ends_there down.old_asks_met down.old_asks ≡ true
unfolding settling matchit_on_literals is_token_byte
old_asking_ends = refl

old_asking_meets : Meets down.old_asks_met down.old_asks
unfolding settling matchit_on_literals is_token_byte
old_asking_meets = (old_is_read, tt)

old_asking_asks : (end_by down.old_asks_met down.old_asks).state.host ≡ []
unfolding settling matchit_on_literals is_token_byte
old_asking_asks = refl

old_asking_sends : (end_by down.old_asks_met down.old_asks).sent ≡ down.old_asks_sends
unfolding settling httparse_on_literals httpdate_on_literals digits year_from month_from matchit_on_literals is_token_byte
old_asking_sends = refl

old_asking_leaves : map (λ (l : Line). l.number) (end_by down.old_asks_met down.old_asks).state.room.lines ≡ 1 ∷ []
unfolding settling matchit_on_literals is_token_byte
old_asking_leaves = refl

abbrev old_getting : Course (Outcome (List Call))
old_getting = down.old_gets (end_by down.old_asks_met down.old_asks).state

old_getting_ends : ends_there down.old_gets_met old_getting ≡ true
unfolding settling matchit_on_literals is_token_byte
old_getting_ends = refl

old_getting_meets : Meets down.old_gets_met old_getting
unfolding settling matchit_on_literals is_token_byte
old_getting_meets = (interim_is_read, (download_is_read, (data_is_read, (trailers_are_read, tt))))

old_getting_asks : (end_by down.old_gets_met old_getting).state.host ≡ []
unfolding settling matchit_on_literals is_token_byte
old_getting_asks = refl

old_getting_sends : (end_by down.old_gets_met old_getting).sent ≡ down.old_gets_sends
unfolding settling httparse_on_literals httpdate_on_literals digits year_from month_from matchit_on_literals is_token_byte
old_getting_sends = refl

old_getting_leaves : map (λ (l : Line). l.number) (end_by down.old_gets_met old_getting).state.room.lines ≡ []
unfolding settling matchit_on_literals is_token_byte
old_getting_leaves = refl

abbrev old_counting : Course (Outcome (List Call))
old_counting = down.old_counts (end_by down.old_asks_met down.old_asks).state

old_counting_ends : ends_there down.old_counts_met old_counting ≡ true
unfolding settling matchit_on_literals is_token_byte
old_counting_ends = refl

old_counting_meets : Meets down.old_counts_met old_counting
unfolding settling matchit_on_literals is_token_byte
old_counting_meets = (response_is_read, (body_is_read, tt))

old_counting_asks : (end_by down.old_counts_met old_counting).state.host ≡ []
unfolding settling matchit_on_literals is_token_byte
old_counting_asks = refl

old_counting_sends : (end_by down.old_counts_met old_counting).sent ≡ down.old_counts_sends
unfolding settling httparse_on_literals httpdate_on_literals digits year_from month_from matchit_on_literals is_token_byte
old_counting_sends = refl

old_counting_leaves : map (λ (l : Line). l.number) (end_by down.old_counts_met old_counting).state.room.lines ≡ []
unfolding settling matchit_on_literals is_token_byte
old_counting_leaves = refl

pub old_example : OldExample
old_example = record {
  request = record {
    end = end_by down.old_asks_met down.old_asks;
    reaches = reaches_by down.old_asks_met down.old_asks old_asking_ends old_asking_meets;
    called = old_asking_asks;
    hands_over = old_asking_sends;
    leaves = old_asking_leaves;
  };
  answer = record {
    end = end_by down.old_gets_met old_getting;
    reaches = reaches_by down.old_gets_met old_getting old_getting_ends old_getting_meets;
    called = old_getting_asks;
    hands_over = old_getting_sends;
    leaves = old_getting_leaves;
  };
  counted = record {
    end = end_by down.old_counts_met old_counting;
    reaches = reaches_by down.old_counts_met old_counting old_counting_ends old_counting_meets;
    called = old_counting_asks;
    hands_over = old_counting_sends;
    leaves = old_counting_leaves;
  };
}

-- ---- a client that closes

last_asking_ends : ends_there down.last_asks_met down.last_asks ≡ true
unfolding settling matchit_on_literals is_token_byte
last_asking_ends = refl

last_asking_meets : Meets down.last_asks_met down.last_asks
unfolding settling matchit_on_literals is_token_byte
last_asking_meets = (last_is_read, tt)

last_asking_asks : (end_by down.last_asks_met down.last_asks).state.host ≡ []
unfolding settling matchit_on_literals is_token_byte
last_asking_asks = refl

last_asking_sends : (end_by down.last_asks_met down.last_asks).sent ≡ down.last_asks_sends
unfolding settling httparse_on_literals httpdate_on_literals digits year_from month_from matchit_on_literals is_token_byte
last_asking_sends = refl

last_asking_leaves : map (λ (l : Line). l.number) (end_by down.last_asks_met down.last_asks).state.room.lines ≡ 1 ∷ []
unfolding settling matchit_on_literals is_token_byte
last_asking_leaves = refl

abbrev last_getting : Course (Outcome (List Call))
last_getting = down.last_gets (end_by down.last_asks_met down.last_asks).state

last_getting_ends : ends_there down.last_gets_met last_getting ≡ true
unfolding settling matchit_on_literals is_token_byte
last_getting_ends = refl

last_getting_meets : Meets down.last_gets_met last_getting
unfolding settling matchit_on_literals is_token_byte
last_getting_meets = (unmodified_is_read, tt)

last_getting_asks : (end_by down.last_gets_met last_getting).state.host ≡ []
unfolding settling matchit_on_literals is_token_byte
last_getting_asks = refl

last_getting_sends : (end_by down.last_gets_met last_getting).sent ≡ down.last_gets_sends
unfolding settling httparse_on_literals httpdate_on_literals digits year_from month_from matchit_on_literals is_token_byte
last_getting_sends = refl

last_getting_leaves : map (λ (l : Line). l.number) (end_by down.last_gets_met last_getting).state.room.lines ≡ []
unfolding settling matchit_on_literals is_token_byte
last_getting_leaves = refl

pub unmodified_example : UnmodifiedExample
unmodified_example = record {
  request = record {
    end = end_by down.last_asks_met down.last_asks;
    reaches = reaches_by down.last_asks_met down.last_asks last_asking_ends last_asking_meets;
    called = last_asking_asks;
    hands_over = last_asking_sends;
    leaves = last_asking_leaves;
  };
  answer = record {
    end = end_by down.last_gets_met last_getting;
    reaches = reaches_by down.last_gets_met last_getting last_getting_ends last_getting_meets;
    called = last_getting_asks;
    hands_over = last_getting_sends;
    leaves = last_getting_leaves;
  };
}

-- ---- a response that ends with its line

get_asking_ends : ends_there down.get_asks_met down.get_asks ≡ true
unfolding settling matchit_on_literals is_token_byte
get_asking_ends = refl

get_asking_meets : Meets down.get_asks_met down.get_asks
unfolding settling matchit_on_literals is_token_byte
get_asking_meets = (head_is_read, tt)

get_asking_asks : (end_by down.get_asks_met down.get_asks).state.host ≡ []
unfolding settling matchit_on_literals is_token_byte
get_asking_asks = refl

get_asking_sends : (end_by down.get_asks_met down.get_asks).sent ≡ down.asks_sends
unfolding settling httparse_on_literals httpdate_on_literals digits year_from month_from matchit_on_literals is_token_byte
get_asking_sends = refl

get_asking_leaves : map (λ (l : Line). l.number) (end_by down.get_asks_met down.get_asks).state.room.lines ≡ 1 ∷ []
unfolding settling matchit_on_literals is_token_byte
get_asking_leaves = refl

abbrev beginning : Course (Outcome (List Call))
beginning = down.begins (end_by down.get_asks_met down.get_asks).state

beginning_ends : ends_there down.begins_met beginning ≡ true
unfolding settling matchit_on_literals is_token_byte
beginning_ends = refl

beginning_meets : Meets down.begins_met beginning
unfolding settling matchit_on_literals is_token_byte
beginning_meets = (endless_is_read, (ok_is_read, (more_is_awaited, tt)))

beginning_asks : (end_by down.begins_met beginning).state.host ≡ []
unfolding settling matchit_on_literals is_token_byte
beginning_asks = refl

beginning_sends : (end_by down.begins_met beginning).sent ≡ down.begins_sends
unfolding settling httparse_on_literals httpdate_on_literals digits year_from month_from matchit_on_literals is_token_byte
beginning_sends = refl

beginning_leaves : map (λ (l : Line). l.number) (end_by down.begins_met beginning).state.room.lines ≡ 1 ∷ []
unfolding settling matchit_on_literals is_token_byte
beginning_leaves = refl

abbrev stopping : Course (Outcome (List Call))
stopping = down.stops (end_by down.begins_met beginning).state

stopping_ends : ends_there down.stops_met stopping ≡ true
unfolding settling matchit_on_literals is_token_byte
stopping_ends = refl

stopping_meets : Meets down.stops_met stopping
unfolding settling matchit_on_literals is_token_byte
stopping_meets = (end_is_read, tt)

stopping_asks : (end_by down.stops_met stopping).state.host ≡ []
unfolding settling matchit_on_literals is_token_byte
stopping_asks = refl

stopping_sends : (end_by down.stops_met stopping).sent ≡ sent.Close 1 Up ∷ sent.Close 1 Down ∷ []
unfolding settling httparse_on_literals httpdate_on_literals digits year_from month_from matchit_on_literals is_token_byte
stopping_sends = refl

stopping_leaves : map (λ (l : Line). l.number) (end_by down.stops_met stopping).state.room.lines ≡ []
unfolding settling matchit_on_literals is_token_byte
stopping_leaves = refl

pub endless_example : EndlessExample
endless_example = record {
  request = record {
    end = end_by down.get_asks_met down.get_asks;
    reaches = reaches_by down.get_asks_met down.get_asks get_asking_ends get_asking_meets;
    called = get_asking_asks;
    hands_over = get_asking_sends;
    leaves = get_asking_leaves;
  };
  begin = record {
    end = end_by down.begins_met beginning;
    reaches = reaches_by down.begins_met beginning beginning_ends beginning_meets;
    called = beginning_asks;
    hands_over = beginning_sends;
    leaves = beginning_leaves;
  };
  end_comes = record {
    end = end_by down.stops_met stopping;
    reaches = reaches_by down.stops_met stopping stopping_ends stopping_meets;
    called = stopping_asks;
    hands_over = stopping_sends;
    leaves = stopping_leaves;
  };
}
