-- The worked examples of what is unread, by computation.
use Rattle.std.proofs.Common.{true, false, [], ◌∷◌, ◌++◌, None, Some, codes, refl, inl, inr, lit<, lit≤}
use Rattle.std.proofs.lemmas.List.Elements.{All-cons, All-nil}
use Rattle.httparse.specs.Ascii.{crlf_bytes}
use Rattle.httparse.specs.Grammar.{crlf, IsField}
use Rattle.httparse.proofs.OnLiterals.{httparse_on_literals}
use Rattle.h1_model.specs.Chunks.{size_line, inside, run_of}
use Rattle.h1_model.specs.ChunkWire.{last_chunk}
use Rattle.h1_model.specs.ChunkExamples.{chunked_text}
use Rattle.h1_model.specs.Trailers.{ended, not_yet}
use Rattle.h1_model.specs.Messages.{end, trailers, counted, coded, unbounded, head, body, done, rest, over, refusal, item, stop}
use Rattle.h1_model.specs.ReadingExamples.{CountedExamples, UnboundedExamples, CodedExamples, SectionExamples, ListedExamples, LeftExamples, PlacedExamples}
use Rattle.h1_model.proofs.Carried.{run_carries, take_carries, take_carries_unbounded}
use Rattle.h1_model.proofs.ChunkExamples.{sum_field, sum_is_field}
use Rattle.h1_model.proofs.Examples.{host_field, host_is_field}

pub counted_examples : CountedExamples
counted_examples = record {
  whole = inr (record {
    bytes = codes "xyz";
    used = 3;
    mid = body (counted 0);
    behind = item end 0 head;
    carried = take_carries false None 3 3 (codes "xyzGET") (lit≤ tt) (lit≤ tt);
    some = lit< tt;
    few = lit≤ tt;
    there = refl;
    all = inl tt;
    is = refl;
  });
  in_part = inr (record {
    bytes = codes "xy";
    used = 2;
    mid = body (counted 1);
    behind = stop rest;
    carried = take_carries false None 3 2 (codes "xy") (lit≤ tt) (lit≤ tt);
    some = lit< tt;
    few = lit≤ tt;
    there = refl;
    all = inl tt;
    is = refl;
  });
  waits = inl (record { step = stop rest; there = refl; is = refl });
  broken_off = inl (record { step = stop (refusal 400); there = refl; is = refl });
  broken_response = inl (record { step = stop (refusal 502); there = refl; is = refl });
  last_of_response = inr (record {
    bytes = codes "z";
    used = 1;
    mid = body (counted 0);
    behind = item end 0 done;
    carried = take_carries false (Some (codes "GET")) 1 1 (codes "zHTTP") (lit≤ tt) (lit≤ tt);
    some = lit< tt;
    few = lit≤ tt;
    there = refl;
    all = inl tt;
    is = refl;
  });
}

pub unbounded_examples : UnboundedExamples
unbounded_examples = record {
  in_part = inr (record {
    bytes = codes "ab";
    used = 2;
    mid = body unbounded;
    behind = stop rest;
    carried = take_carries_unbounded false (Some (codes "GET")) 2 (codes "ab") (lit≤ tt);
    some = lit< tt;
    few = lit≤ tt;
    there = refl;
    all = inl tt;
    is = refl;
  });
  ended = inr (record {
    bytes = codes "ab";
    used = 2;
    mid = body unbounded;
    behind = item end 0 done;
    carried = take_carries_unbounded true (Some (codes "GET")) 2 (codes "ab") (lit≤ tt);
    some = lit< tt;
    few = lit≤ tt;
    there = refl;
    all = inl tt;
    is = refl;
  });
  end_alone = inl (record { step = item end 0 done; there = refl; is = refl });
  waits = inl (record { step = stop rest; there = refl; is = refl });
  nothing_behind = inl (record { step = stop over; there = refl; is = refl });
}

pub coded_examples : CodedExamples
unfolding httparse_on_literals run_of
coded_examples = record {
  first = inr (record {
    bytes = codes "abcde";
    used = 8;
    mid = body (coded [] (inside 0));
    behind = item (trailers ((codes "x-sum", codes "1") ∷ [])) 17 head;
    carried = run_carries false None [] 5 size_line chunked_text;
    some = lit< tt;
    few = lit≤ tt;
    there = (
      ended ((codes "x-sum", codes "1") ∷ []) 17,
      record {
        trailers = Some ((codes "x-sum", codes "1") ∷ []);
        section = record {
          fields = sum_field ∷ [];
          last = crlf;
          reads = (All-cons IsField sum_field [] sum_is_field (All-nil IsField), refl);
          are = refl;
        };
        is = refl;
      },
      refl,
    );
    all = inl tt;
    is = refl;
  });
  trailers = inl (record {
    step = item (trailers ((codes "x-sum", codes "1") ∷ [])) 17 head;
    there = (
      ended ((codes "x-sum", codes "1") ∷ []) 17,
      record {
        trailers = Some ((codes "x-sum", codes "1") ∷ []);
        section = record {
          fields = sum_field ∷ [];
          last = crlf;
          reads = (All-cons IsField sum_field [] sum_is_field (All-nil IsField), refl);
          are = refl;
        };
        is = refl;
      },
      refl,
    );
    is = refl;
  });
  whole = inr (record {
    bytes = codes "abcde";
    used = 8;
    mid = body (coded [] (inside 0));
    behind = item end 7 head;
    carried = run_carries false None [] 5 size_line (codes "5" ++ crlf_bytes ++ codes "abcde" ++ crlf_bytes ++ last_chunk ++ crlf_bytes);
    some = lit< tt;
    few = lit≤ tt;
    there = (
      ended [] 7,
      record { trailers = Some []; section = record { fields = []; last = crlf; reads = (All-nil IsField, refl); are = refl }; is = refl },
      refl,
    );
    all = inl tt;
    is = refl;
  });
  in_part = inr (record {
    bytes = codes "ab";
    used = 5;
    mid = body (coded [] (inside 3));
    behind = stop rest;
    carried = run_carries false None [] 2 size_line (codes "5" ++ crlf_bytes ++ codes "ab");
    some = lit< tt;
    few = lit≤ tt;
    there = refl;
    all = inl tt;
    is = refl;
  });
  end_alone = inl (record {
    step = item end 7 head;
    there = (
      ended [] 7,
      record { trailers = Some []; section = record { fields = []; last = crlf; reads = (All-nil IsField, refl); are = refl }; is = refl },
      refl,
    );
    is = refl;
  });
  waits = inl (record { step = stop rest; there = (not_yet, refl, refl); is = refl });
  broken_off = inl (record { step = stop (refusal 400); there = (not_yet, refl, refl); is = refl });
  malformed = inl (record { step = stop (refusal 502); there = refl; is = refl });
  host_dropped = inl (record {
    step = item end 14 head;
    there = (
      ended ((codes "host", codes "a") ∷ []) 14,
      record {
        trailers = Some ((codes "host", codes "a") ∷ []);
        section = record {
          fields = host_field ∷ [];
          last = crlf;
          reads = (All-cons IsField host_field [] host_is_field (All-nil IsField), refl);
          are = refl;
        };
        is = refl;
      },
      refl,
    );
    is = refl;
  });
  host_kept = inl (record {
    step = item (trailers ((codes "host", codes "a") ∷ [])) 14 done;
    there = (
      ended ((codes "host", codes "a") ∷ []) 14,
      record {
        trailers = Some ((codes "host", codes "a") ∷ []);
        section = record {
          fields = host_field ∷ [];
          last = crlf;
          reads = (All-cons IsField host_field [] host_is_field (All-nil IsField), refl);
          are = refl;
        };
        is = refl;
      },
      refl,
    );
    is = refl;
  });
}

pub section_examples : SectionExamples
unfolding httparse_on_literals run_of
section_examples = record {
  before_the_line = refl;
  still_in_data = refl;
  line_alone = refl;
  line_of_an_empty_body = refl;
  front_left = refl;
  in_the_section = refl;
  names_kept = refl;
  nothing_more = refl;
  data_left = refl;
  next_size_left = refl;
  end_there = inl (record {
    step = item end 2 head;
    there = (
      ended [] 2,
      record { trailers = Some []; section = record { fields = []; last = crlf; reads = (All-nil IsField, refl); are = refl }; is = refl },
      refl,
    );
    is = refl;
  });
  waits_there = inl (record { step = stop rest; there = (not_yet, refl, refl); is = refl });
  broken_off_there = inl (record { step = stop (refusal 400); there = (not_yet, refl, refl); is = refl });
  broken_response = inl (record { step = stop (refusal 502); there = (not_yet, refl, refl); is = refl });
}

pub listed_examples : ListedExamples
unfolding httparse_on_literals run_of
listed_examples = record {
  listed = inr (record {
    bytes = codes "abcde";
    used = 8;
    mid = body (coded (codes "x-sum" ∷ []) (inside 0));
    behind = item end 17 head;
    carried = run_carries false None (codes "x-sum" ∷ []) 5 size_line chunked_text;
    some = lit< tt;
    few = lit≤ tt;
    there = (
      ended ((codes "x-sum", codes "1") ∷ []) 17,
      record {
        trailers = Some ((codes "x-sum", codes "1") ∷ []);
        section = record {
          fields = sum_field ∷ [];
          last = crlf;
          reads = (All-cons IsField sum_field [] sum_is_field (All-nil IsField), refl);
          are = refl;
        };
        is = refl;
      },
      refl,
    );
    all = inl tt;
    is = refl;
  });
  in_capitals = inr (record {
    bytes = codes "abcde";
    used = 8;
    mid = body (coded (codes "X-SUM" ∷ []) (inside 0));
    behind = item end 17 done;
    carried = run_carries false (Some (codes "GET")) (codes "X-SUM" ∷ []) 5 size_line chunked_text;
    some = lit< tt;
    few = lit≤ tt;
    there = (
      ended ((codes "x-sum", codes "1") ∷ []) 17,
      record {
        trailers = Some ((codes "x-sum", codes "1") ∷ []);
        section = record {
          fields = sum_field ∷ [];
          last = crlf;
          reads = (All-cons IsField sum_field [] sum_is_field (All-nil IsField), refl);
          are = refl;
        };
        is = refl;
      },
      refl,
    );
    all = inl tt;
    is = refl;
  });
  of_two = inr (record {
    bytes = codes "abcde";
    used = 8;
    mid = body (coded (codes "close, X-Sum" ∷ []) (inside 0));
    behind = item end 17 head;
    carried = run_carries false None (codes "close, X-Sum" ∷ []) 5 size_line chunked_text;
    some = lit< tt;
    few = lit≤ tt;
    there = (
      ended ((codes "x-sum", codes "1") ∷ []) 17,
      record {
        trailers = Some ((codes "x-sum", codes "1") ∷ []);
        section = record {
          fields = sum_field ∷ [];
          last = crlf;
          reads = (All-cons IsField sum_field [] sum_is_field (All-nil IsField), refl);
          are = refl;
        };
        is = refl;
      },
      refl,
    );
    all = inl tt;
    is = refl;
  });
  empty_member = inr (record {
    bytes = codes "abcde";
    used = 8;
    mid = body (coded (codes ",x-sum" ∷ []) (inside 0));
    behind = item end 17 head;
    carried = run_carries false None (codes ",x-sum" ∷ []) 5 size_line chunked_text;
    some = lit< tt;
    few = lit≤ tt;
    there = (
      ended ((codes "x-sum", codes "1") ∷ []) 17,
      record {
        trailers = Some ((codes "x-sum", codes "1") ∷ []);
        section = record {
          fields = sum_field ∷ [];
          last = crlf;
          reads = (All-cons IsField sum_field [] sum_is_field (All-nil IsField), refl);
          are = refl;
        };
        is = refl;
      },
      refl,
    );
    all = inl tt;
    is = refl;
  });
  other = inl (record {
    step = item (trailers ((codes "x-sum", codes "1") ∷ [])) 17 head;
    there = (
      ended ((codes "x-sum", codes "1") ∷ []) 17,
      record {
        trailers = Some ((codes "x-sum", codes "1") ∷ []);
        section = record {
          fields = sum_field ∷ [];
          last = crlf;
          reads = (All-cons IsField sum_field [] sum_is_field (All-nil IsField), refl);
          are = refl;
        };
        is = refl;
      },
      refl,
    );
    is = refl;
  });
}

pub left_examples : LeftExamples
unfolding httparse_on_literals
left_examples = record {
  of_request = refl;
  of_response = refl;
  host_listed = refl;
  none_listed = refl;
  behind_head = refl;
}

pub placed_examples : PlacedExamples
placed_examples = record {
  byte = refl;
  in_front = refl;
  ended_piece = refl;
  before_trailers = refl;
  empty_end = refl;
}
