-- Requests with bodies and their responses, by computation, behind texts that are read.
use Rattle.std.proofs.Common.{◌≡◌, true, false, List, [], ◌∷◌, map, None, Some, codes, refl, inl, inr, lit<, lit≤}
use Rattle.std.proofs.lemmas.List.Elements.{All-cons, All-nil}
use Rattle.std.specs.Fmt.{digits}
use Rattle.filter_host.specs.Course.{Course}
use Rattle.filter_host.specs.Heard.{Hears, hands, halts}
use Rattle.gate_io.specs.declared.event.Sent.TheVariants as sent
use Rattle.gate_io.specs.declared.event.Side.TheVariants.{Up}
use Rattle.http_header.specs.Token.{is_token_byte}
use Rattle.httparse.specs.Grammar.{crlf, IsField}
use Rattle.h1_model.proofs.Carried.{run_carries, take_carries}
use Rattle.h1_model.proofs.ChunkExamples.{sum_field, sum_is_field}
use Rattle.h1_model.proofs.Examples.{worked_response_is}
use Rattle.h1_model.specs.ChunkExamples.{chunked_text}
use Rattle.h1_model.specs.Chunks.{size_line, inside, run_of}
use Rattle.h1_model.specs.Examples.{worked_interim, worked_response}
use Rattle.h1_model.specs.Head.{found, not_yet}
use Rattle.h1_model.specs.Messages.{head, body, done, counted, coded, unbounded, rest, item, stop, request, interim, response}
use Rattle.h1_model.specs.Messages as messages
use Rattle.h1_model.specs.Moment.{year_from, month_from}
use Rattle.h1_model.specs.Trailers.{ended}
use Rattle.h1_model.specs.Unread.{head_part, interim_part, piece, trailer_part, awaiting_bytes}
use Rattle.httparse.proofs.OnLiterals.{httparse_on_literals}
use Rattle.httpdate.proofs.OnLiterals.{httpdate_on_literals}
use Rattle.matchit.proofs.OnLiterals.{matchit_on_literals}
use Rattle.worker_model.specs.Settling.{settling}
use Rattle.worker_model.specs.Turn.{Outcome}
use Rattle.worker_model.specs.declared.types.Line.{Line}
use Rattle.law_turns.proofs.Following.{end_by, ends_there, Meets, reaches_by}
use Rattle.law_turns.proofs.Texts.{request_texts, response_texts}
use Rattle.law_turns.specs.Tables.{Call}
use Rattle.law_turns.specs.Texts.{posted_head, upload_head, download_head, no_content_head}
use Rattle.law_turns.specs.Uploads as up
use Rattle.law_turns.specs.Uploads.{PostExample, UploadExample, RecodingExample, UnroutedExample}

-- ---- what is read

posted_is_read : Hears up.posted (hands (head_part posted_head) up.behind_posted)
posted_is_read = record {
  used = 80;
  due = body (counted 3);
  next = inl (record { step = item (request posted_head) 80 (body (counted 3)); there = (found posted_head 80, request_texts.posted, refl); is = refl });
  is = refl;
}

two_are_read : Hears up.behind_posted (hands (piece (codes "ab") false) up.behind_two)
two_are_read = record {
  used = 2;
  due = body (counted 1);
  next = inr (record {
    bytes = codes "ab";
    used = 2;
    mid = body (counted 1);
    behind = stop rest;
    carried = take_carries false None 3 2 (codes "ab") (lit≤ tt) (lit≤ tt);
    some = lit< tt;
    few = lit≤ tt;
    there = refl;
    all = inl tt;
    is = refl;
  });
  is = refl;
}

third_is_awaited : Hears up.behind_two (halts rest (awaiting_bytes up.behind_two))
third_is_awaited = record { next = inl (record { step = stop rest; there = refl; is = refl }); is = refl }

interim_is_read : Hears up.interim (hands (interim_part worked_interim) up.behind_interim)
interim_is_read = record {
  used = 25;
  due = head;
  next = inl (record { step = item (interim worked_interim) 25 head; there = (found worked_interim 25, response_texts.interim, refl); is = refl });
  is = refl;
}

response_is_awaited : Hears up.behind_interim (halts rest (awaiting_bytes up.behind_interim))
response_is_awaited = record { next = inl (record { step = stop rest; there = (not_yet, refl, refl); is = refl }); is = refl }

third_is_read : Hears up.one_more (hands (piece (codes "c") true) up.behind_three)
third_is_read = record {
  used = 1;
  due = head;
  next = inr (record {
    bytes = codes "c";
    used = 1;
    mid = body (counted 0);
    behind = item messages.end 0 head;
    carried = take_carries false None 1 1 (codes "c") (lit≤ tt) (lit≤ tt);
    some = lit< tt;
    few = lit≤ tt;
    there = refl;
    all = inl tt;
    is = refl;
  });
  is = refl;
}

no_content_is_read : Hears up.no_content (hands (head_part no_content_head) up.behind_no_content)
no_content_is_read = record {
  used = 27;
  due = done;
  next = inl (record { step = item (response no_content_head) 27 done; there = (found no_content_head 27, response_texts.no_content, refl); is = refl });
  is = refl;
}

nothing_behind_three : Hears up.behind_three (halts rest (awaiting_bytes up.behind_three))
nothing_behind_three = record { next = inl (record { step = stop rest; there = (not_yet, refl, refl); is = refl }); is = refl }

upload_is_read : Hears up.upload (hands (head_part upload_head) up.behind_upload)
upload_is_read = record {
  used = 56;
  due = body (coded [] size_line);
  next = inl (record { step = item (request upload_head) 56 (body (coded [] size_line)); there = (found upload_head 56, request_texts.upload, refl); is = refl });
  is = refl;
}

data_is_read : Hears up.behind_upload (hands (piece (codes "abcde") false) up.behind_data)
unfolding httparse_on_literals run_of
data_is_read = record {
  used = 8;
  due = body (coded [] (inside 0));
  next = inr (record {
    bytes = codes "abcde";
    used = 8;
    mid = body (coded [] (inside 0));
    behind = item (messages.trailers ((codes "x-sum", codes "1") ∷ [])) 17 head;
    carried = run_carries false None [] 5 size_line chunked_text;
    some = lit< tt;
    few = lit≤ tt;
    there = (
      ended ((codes "x-sum", codes "1") ∷ []) 17,
      record {
        trailers = Some ((codes "x-sum", codes "1") ∷ []);
        section = record {
          fields = sum_field ∷ [];
          last = crlf;
          reads = (All-cons IsField sum_field [] sum_is_field (All-nil IsField), refl);
          are = refl;
        };
        is = refl;
      },
      refl,
    );
    all = inl tt;
    is = refl;
  });
  is = refl;
}

trailers_are_read : Hears up.behind_data (hands (trailer_part ((codes "x-sum", codes "1") ∷ [])) up.behind_trailers)
unfolding httparse_on_literals run_of
trailers_are_read = record {
  used = 17;
  due = head;
  next = inl (record {
    step = item (messages.trailers ((codes "x-sum", codes "1") ∷ [])) 17 head;
    there = (
      ended ((codes "x-sum", codes "1") ∷ []) 17,
      record {
        trailers = Some ((codes "x-sum", codes "1") ∷ []);
        section = record {
          fields = sum_field ∷ [];
          last = crlf;
          reads = (All-cons IsField sum_field [] sum_is_field (All-nil IsField), refl);
          are = refl;
        };
        is = refl;
      },
      refl,
    );
    is = refl;
  });
  is = refl;
}

download_is_read : Hears up.download (hands (head_part download_head) up.behind_download)
download_is_read = record {
  used = 47;
  due = body (coded [] size_line);
  next = inl (record { step = item (response download_head) 47 (body (coded [] size_line)); there = (found download_head 47, response_texts.download, refl); is = refl });
  is = refl;
}

down_data_is_read : Hears up.behind_download (hands (piece (codes "abcde") false) up.behind_down_data)
unfolding httparse_on_literals run_of
down_data_is_read = record {
  used = 8;
  due = body (coded [] (inside 0));
  next = inr (record {
    bytes = codes "abcde";
    used = 8;
    mid = body (coded [] (inside 0));
    behind = item (messages.trailers ((codes "x-sum", codes "1") ∷ [])) 17 done;
    carried = run_carries false (Some (codes "GET")) [] 5 size_line chunked_text;
    some = lit< tt;
    few = lit≤ tt;
    there = (
      ended ((codes "x-sum", codes "1") ∷ []) 17,
      record {
        trailers = Some ((codes "x-sum", codes "1") ∷ []);
        section = record {
          fields = sum_field ∷ [];
          last = crlf;
          reads = (All-cons IsField sum_field [] sum_is_field (All-nil IsField), refl);
          are = refl;
        };
        is = refl;
      },
      refl,
    );
    all = inl tt;
    is = refl;
  });
  is = refl;
}

down_trailers_are_read : Hears up.behind_down_data (hands (trailer_part ((codes "x-sum", codes "1") ∷ [])) up.behind_down_trailers)
unfolding httparse_on_literals run_of
down_trailers_are_read = record {
  used = 17;
  due = done;
  next = inl (record {
    step = item (messages.trailers ((codes "x-sum", codes "1") ∷ [])) 17 done;
    there = (
      ended ((codes "x-sum", codes "1") ∷ []) 17,
      record {
        trailers = Some ((codes "x-sum", codes "1") ∷ []);
        section = record {
          fields = sum_field ∷ [];
          last = crlf;
          reads = (All-cons IsField sum_field [] sum_is_field (All-nil IsField), refl);
          are = refl;
        };
        is = refl;
      },
      refl,
    );
    is = refl;
  });
  is = refl;
}

nothing_behind_trailers : Hears up.behind_trailers (halts rest (awaiting_bytes up.behind_trailers))
nothing_behind_trailers = record { next = inl (record { step = stop rest; there = (not_yet, refl, refl); is = refl }); is = refl }

whole_head_is_read : Hears up.whole (hands (head_part posted_head) up.behind_whole_head)
whole_head_is_read = record {
  used = 80;
  due = body (counted 3);
  next = inl (record { step = item (request posted_head) 80 (body (counted 3)); there = (found posted_head 80, request_texts.posted, refl); is = refl });
  is = refl;
}

whole_is_read : Hears up.behind_whole_head (hands (piece (codes "abc") true) up.behind_whole)
whole_is_read = record {
  used = 3;
  due = head;
  next = inr (record {
    bytes = codes "abc";
    used = 3;
    mid = body (counted 0);
    behind = item messages.end 0 head;
    carried = take_carries false None 3 3 (codes "abc") (lit≤ tt) (lit≤ tt);
    some = lit< tt;
    few = lit≤ tt;
    there = refl;
    all = inl tt;
    is = refl;
  });
  is = refl;
}

nothing_behind_whole : Hears up.behind_whole (halts rest (awaiting_bytes up.behind_whole))
nothing_behind_whole = record { next = inl (record { step = stop rest; there = (not_yet, refl, refl); is = refl }); is = refl }

response_head_is_read : Hears up.response (hands (head_part worked_response) up.behind_response_head)
response_head_is_read = record {
  used = 38;
  due = body (counted 3);
  next = inl (record { step = item (response worked_response) 38 (body (counted 3)); there = (found worked_response 38, worked_response_is.spelled, refl); is = refl });
  is = refl;
}

response_body_is_read : Hears up.behind_response_head (hands (piece (codes "abc") true) up.behind_response)
response_body_is_read = record {
  used = 3;
  due = done;
  next = inr (record {
    bytes = codes "abc";
    used = 3;
    mid = body (counted 0);
    behind = item messages.end 0 done;
    carried = take_carries false (Some (codes "GET")) 3 3 (codes "abc") (lit≤ tt) (lit≤ tt);
    some = lit< tt;
    few = lit≤ tt;
    there = refl;
    all = inl tt;
    is = refl;
  });
  is = refl;
}

-- ---- a length

posting_ends : ends_there up.posts_met up.posts ≡ true
unfolding settling matchit_on_literals is_token_byte
posting_ends = refl

posting_meets : Meets up.posts_met up.posts
unfolding settling matchit_on_literals is_token_byte
posting_meets = (posted_is_read, (two_are_read, (third_is_awaited, tt)))

posting_asks : (end_by up.posts_met up.posts).state.host ≡ []
unfolding settling matchit_on_literals is_token_byte
posting_asks = refl

posting_sends : (end_by up.posts_met up.posts).sent ≡ up.posts_sends
unfolding settling httparse_on_literals httpdate_on_literals digits year_from month_from matchit_on_literals is_token_byte
posting_sends = refl

posting_leaves : map (λ (l : Line). l.number) (end_by up.posts_met up.posts).state.room.lines ≡ 1 ∷ []
unfolding settling matchit_on_literals is_token_byte
posting_leaves = refl

abbrev hinting : Course (Outcome (List Call))
hinting = up.hints (end_by up.posts_met up.posts).state

hinting_ends : ends_there up.hints_met hinting ≡ true
unfolding settling matchit_on_literals is_token_byte
hinting_ends = refl

hinting_meets : Meets up.hints_met hinting
unfolding settling matchit_on_literals is_token_byte
hinting_meets = (interim_is_read, (response_is_awaited, tt))

hinting_asks : (end_by up.hints_met hinting).state.host ≡ []
unfolding settling matchit_on_literals is_token_byte
hinting_asks = refl

hinting_sends : (end_by up.hints_met hinting).sent ≡ up.hints_sends
unfolding settling httparse_on_literals httpdate_on_literals digits year_from month_from matchit_on_literals is_token_byte
hinting_sends = refl

hinting_leaves : map (λ (l : Line). l.number) (end_by up.hints_met hinting).state.room.lines ≡ 1 ∷ []
unfolding settling matchit_on_literals is_token_byte
hinting_leaves = refl

abbrev going_on : Course (Outcome (List Call))
going_on = up.goes_on (end_by up.hints_met hinting).state

going_on_ends : ends_there up.goes_on_met going_on ≡ true
unfolding settling matchit_on_literals is_token_byte
going_on_ends = refl

going_on_meets : Meets up.goes_on_met going_on
unfolding settling matchit_on_literals is_token_byte
going_on_meets = (third_is_read, tt)

going_on_asks : (end_by up.goes_on_met going_on).state.host ≡ []
unfolding settling matchit_on_literals is_token_byte
going_on_asks = refl

going_on_sends : (end_by up.goes_on_met going_on).sent ≡ sent.Bytes 1 Up (codes "c") ∷ []
unfolding settling httparse_on_literals httpdate_on_literals digits year_from month_from matchit_on_literals is_token_byte
going_on_sends = refl

going_on_leaves : map (λ (l : Line). l.number) (end_by up.goes_on_met going_on).state.room.lines ≡ 1 ∷ []
unfolding settling matchit_on_literals is_token_byte
going_on_leaves = refl

abbrev responding : Course (Outcome (List Call))
responding = up.responds (end_by up.goes_on_met going_on).state

responding_ends : ends_there up.responds_met responding ≡ true
unfolding settling matchit_on_literals is_token_byte
responding_ends = refl

responding_meets : Meets up.responds_met responding
unfolding settling matchit_on_literals is_token_byte
responding_meets = (no_content_is_read, (nothing_behind_three, tt))

responding_asks : (end_by up.responds_met responding).state.host ≡ []
unfolding settling matchit_on_literals is_token_byte
responding_asks = refl

responding_sends : (end_by up.responds_met responding).sent ≡ up.responds_sends
unfolding settling httparse_on_literals httpdate_on_literals digits year_from month_from matchit_on_literals is_token_byte
responding_sends = refl

responding_leaves : map (λ (l : Line). l.number) (end_by up.responds_met responding).state.room.lines ≡ 1 ∷ []
unfolding settling matchit_on_literals is_token_byte
responding_leaves = refl

pub post_example : PostExample
post_example = record {
  first = record {
    end = end_by up.posts_met up.posts;
    reaches = reaches_by up.posts_met up.posts posting_ends posting_meets;
    called = posting_asks;
    hands_over = posting_sends;
    leaves = posting_leaves;
  };
  second = record {
    end = end_by up.hints_met hinting;
    reaches = reaches_by up.hints_met hinting hinting_ends hinting_meets;
    called = hinting_asks;
    hands_over = hinting_sends;
    leaves = hinting_leaves;
  };
  third = record {
    end = end_by up.goes_on_met going_on;
    reaches = reaches_by up.goes_on_met going_on going_on_ends going_on_meets;
    called = going_on_asks;
    hands_over = going_on_sends;
    leaves = going_on_leaves;
  };
  fourth = record {
    end = end_by up.responds_met responding;
    reaches = reaches_by up.responds_met responding responding_ends responding_meets;
    called = responding_asks;
    hands_over = responding_sends;
    leaves = responding_leaves;
  };
}

-- ---- chunks and trailers

uploading_ends : ends_there up.uploads_met up.uploads ≡ true
unfolding settling matchit_on_literals is_token_byte
uploading_ends = refl

uploading_meets : Meets up.uploads_met up.uploads
unfolding settling matchit_on_literals is_token_byte
uploading_meets = (upload_is_read, (data_is_read, (trailers_are_read, tt)))

uploading_asks : (end_by up.uploads_met up.uploads).state.host ≡ []
unfolding settling matchit_on_literals is_token_byte
uploading_asks = refl

uploading_sends : (end_by up.uploads_met up.uploads).sent ≡ up.uploads_sends
unfolding settling httparse_on_literals httpdate_on_literals digits year_from month_from matchit_on_literals is_token_byte
uploading_sends = refl

uploading_leaves : map (λ (l : Line). l.number) (end_by up.uploads_met up.uploads).state.room.lines ≡ 1 ∷ []
unfolding settling matchit_on_literals is_token_byte
uploading_leaves = refl

abbrev downloading : Course (Outcome (List Call))
downloading = up.downloads (end_by up.uploads_met up.uploads).state

downloading_ends : ends_there up.downloads_met downloading ≡ true
unfolding settling matchit_on_literals is_token_byte
downloading_ends = refl

downloading_meets : Meets up.downloads_met downloading
unfolding settling matchit_on_literals is_token_byte
downloading_meets = (download_is_read, (down_data_is_read, (down_trailers_are_read, (nothing_behind_trailers, tt))))

downloading_asks : (end_by up.downloads_met downloading).state.host ≡ []
unfolding settling matchit_on_literals is_token_byte
downloading_asks = refl

downloading_sends : (end_by up.downloads_met downloading).sent ≡ up.downloads_sends
unfolding settling httparse_on_literals httpdate_on_literals digits year_from month_from matchit_on_literals is_token_byte
downloading_sends = refl

downloading_leaves : map (λ (l : Line). l.number) (end_by up.downloads_met downloading).state.room.lines ≡ 1 ∷ []
unfolding settling matchit_on_literals is_token_byte
downloading_leaves = refl

pub upload_example : UploadExample
upload_example = record {
  request = record {
    end = end_by up.uploads_met up.uploads;
    reaches = reaches_by up.uploads_met up.uploads uploading_ends uploading_meets;
    called = uploading_asks;
    hands_over = uploading_sends;
    leaves = uploading_leaves;
  };
  response = record {
    end = end_by up.downloads_met downloading;
    reaches = reaches_by up.downloads_met downloading downloading_ends downloading_meets;
    called = downloading_asks;
    hands_over = downloading_sends;
    leaves = downloading_leaves;
  };
}

-- ---- filtered bodies

recoding_ends : ends_there up.recodes_met up.recodes ≡ true
unfolding settling matchit_on_literals is_token_byte
recoding_ends = refl

recoding_meets : Meets up.recodes_met up.recodes
unfolding settling matchit_on_literals is_token_byte
recoding_meets = (whole_head_is_read, (whole_is_read, tt))

recoding_asks : (end_by up.recodes_met up.recodes).state.host ≡ []
unfolding settling matchit_on_literals is_token_byte
recoding_asks = refl

recoding_sends : (end_by up.recodes_met up.recodes).sent ≡ up.recodes_sends
unfolding settling httparse_on_literals httpdate_on_literals digits year_from month_from matchit_on_literals is_token_byte
recoding_sends = refl

recoding_leaves : map (λ (l : Line). l.number) (end_by up.recodes_met up.recodes).state.room.lines ≡ 1 ∷ []
unfolding settling matchit_on_literals is_token_byte
recoding_leaves = refl

abbrev recoding_back : Course (Outcome (List Call))
recoding_back = up.recodes_back (end_by up.recodes_met up.recodes).state

recoding_back_ends : ends_there up.recodes_back_met recoding_back ≡ true
unfolding settling matchit_on_literals is_token_byte
recoding_back_ends = refl

recoding_back_meets : Meets up.recodes_back_met recoding_back
unfolding settling matchit_on_literals is_token_byte
recoding_back_meets = (response_head_is_read, (response_body_is_read, (nothing_behind_whole, tt)))

recoding_back_asks : (end_by up.recodes_back_met recoding_back).state.host ≡ []
unfolding settling matchit_on_literals is_token_byte
recoding_back_asks = refl

recoding_back_sends : (end_by up.recodes_back_met recoding_back).sent ≡ up.recodes_back_sends
unfolding settling httparse_on_literals httpdate_on_literals digits year_from month_from matchit_on_literals is_token_byte
recoding_back_sends = refl

recoding_back_leaves : map (λ (l : Line). l.number) (end_by up.recodes_back_met recoding_back).state.room.lines ≡ 1 ∷ []
unfolding settling matchit_on_literals is_token_byte
recoding_back_leaves = refl

pub recoding_example : RecodingExample
recoding_example = record {
  request = record {
    end = end_by up.recodes_met up.recodes;
    reaches = reaches_by up.recodes_met up.recodes recoding_ends recoding_meets;
    called = recoding_asks;
    hands_over = recoding_sends;
    leaves = recoding_leaves;
  };
  answer = record {
    end = end_by up.recodes_back_met recoding_back;
    reaches = reaches_by up.recodes_back_met recoding_back recoding_back_ends recoding_back_meets;
    called = recoding_back_asks;
    hands_over = recoding_back_sends;
    leaves = recoding_back_leaves;
  };
}

-- ---- no route

unrouting_ends : ends_there up.posts_met up.unrouted ≡ true
unfolding settling matchit_on_literals is_token_byte
unrouting_ends = refl

unrouting_meets : Meets up.posts_met up.unrouted
unfolding settling matchit_on_literals is_token_byte
unrouting_meets = (posted_is_read, (two_are_read, (third_is_awaited, tt)))

unrouting_asks : (end_by up.posts_met up.unrouted).state.host ≡ []
unfolding settling matchit_on_literals is_token_byte
unrouting_asks = refl

unrouting_sends : (end_by up.posts_met up.unrouted).sent ≡ up.unrouted_sends
unfolding settling httparse_on_literals httpdate_on_literals digits year_from month_from matchit_on_literals is_token_byte
unrouting_sends = refl

unrouting_leaves : map (λ (l : Line). l.number) (end_by up.posts_met up.unrouted).state.room.lines ≡ []
unfolding settling matchit_on_literals is_token_byte
unrouting_leaves = refl

pub unrouted_example : UnroutedExample
unrouted_example = record {
  turns = record {
    end = end_by up.posts_met up.unrouted;
    reaches = reaches_by up.posts_met up.unrouted unrouting_ends unrouting_meets;
    called = unrouting_asks;
    hands_over = unrouting_sends;
    leaves = unrouting_leaves;
  };
}
