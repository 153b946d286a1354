-- The worked examples of the chunked coding, by computation.
use Rattle.std.proofs.Common.{◌≡◌, ℕ, false, List, [], ◌∷◌, ◌++◌, get_or, None, Some, codes, refl, sym, ap, ◌∙◌, lit<, arith}
use Rattle.std.proofs.lemmas.Bool.{false≢true}
use Rattle.std.specs.Prelude.{IsTrue}
use Rattle.std.proofs.lemmas.List.Sums.{AllPass-from_list_all}
use Rattle.std.proofs.lemmas.List.Elements.{All-cons, All-nil, All-head}
use Rattle.httparse.specs.Grammar.{LineEnd, crlf, lf, Field, IsField, print_section, is_token_byte, is_value_byte, AllPass, ReadsSection}
use Rattle.httparse.proofs.OnLiterals.{httparse_on_literals}
use Rattle.h1_model.specs.Chunks.{run_of}
use Rattle.h1_model.specs.ChunkExamples.{WorkedBody, SizeExamples, PlaceExamples, TrailerExamples, ChunkWireExamples}

pub size_examples : SizeExamples
size_examples = record {
  five = refl;
  letters = refl;
  zeros = refl;
  seventeen = refl;
  limit = refl;
  past_limit = refl;
  not_past_yet = refl;
  extension = refl;
  blanks = refl;
  nothing = refl;
  digit = refl;
  return = refl;
  lone_return = refl;
  lone_feed = refl;
  feed_in_extension = refl;
  blank_first = refl;
  no_digit = refl;
  sign = refl;
  other = refl;
  longest = refl;
  longest_open = refl;
  longest_return = refl;
  sixteen_zeros = refl;
  upper_limit = refl;
  return_in_extension = refl;
  control_in_extension = refl;
  too_long = refl;
}

pub place_examples : PlaceExamples
place_examples = record {
  data_left = refl;
  next_chunk = refl;
  no_data_yet = refl;
  half_end = refl;
  one_byte_more = refl;
  feed_alone = refl;
  other_end = refl;
  last = refl;
  behind_end = refl;
}

pub trailer_examples : TrailerExamples
unfolding httparse_on_literals
trailer_examples = record {
  kept = refl;
  none = refl;
  bare_feeds = refl;
  open_section = refl;
  hundred = refl;
  hundred_open = refl;
  hundred_one = refl;
}

pub wire_examples : ChunkWireExamples
wire_examples = record { five = refl; lower_case = refl; nine = refl; ten = refl; fifteen = refl; sixteen = refl; bare_end = refl; end_with_trailers = refl; empty = refl }

abbrev pub sum_field : Field
sum_field = record { name = codes "X-Sum"; raw = codes " 1"; end = crlf }

pub sum_is_field : IsField sum_field
unfolding httparse_on_literals
sum_is_field = record {
  name = (lit< tt, AllPass-from_list_all is_token_byte (codes "X-Sum") refl);
  raw = AllPass-from_list_all is_value_byte (codes " 1") refl;
}

-- a line that begins with a blank is no field line
blank_line : List ℕ
blank_line = codes " X" ++ 13 ∷ 10 ∷ 13 ∷ 10 ∷ []

abbrev first : List ℕ → ℕ
first text = get_or text 0 0

blank_is_no_token : is_token_byte 32 ≡ false
unfolding is_token_byte
blank_is_no_token = refl

no_blank_name : (name raw : List ℕ) (end : LineEnd) (fields : List Field) (last : LineEnd) → AllPass is_token_byte name
    → blank_line ≡ print_section (record { name = name; raw = raw; end = end } ∷ fields) last ++ [] → ⊥
unfolding blank_line
no_blank_name [] raw end fields last all e =
    let same : 32 ≡ 58 = ap first e in
    omega (arith, same)
no_blank_name (b ∷ name) raw end fields last all e =
    let same : 32 ≡ b = ap first e in
    false≢true (sym blank_is_no_token ∙ ap is_token_byte same ∙ All-head (λ x. IsTrue (is_token_byte x)) b name all)

no_blank_field : (fields : List Field) (last : LineEnd) → ReadsSection blank_line fields last [] → ⊥
unfolding blank_line
no_blank_field [] crlf reads = let same : 32 ≡ 13 = ap first reads.1 in omega (arith, same)
no_blank_field [] lf reads = let same : 32 ≡ 10 = ap first reads.1 in omega (arith, same)
no_blank_field (f ∷ fields) last reads =
    no_blank_name f.name f.raw f.end fields last (All-head IsField f fields reads.0).name.1 reads.1

pub worked_body : WorkedBody
unfolding httparse_on_literals blank_line run_of
worked_body = record {
  data_first = refl;
  end_behind = record {
    trailers = Some ((codes "x-sum", codes "1") ∷ []);
    section = record {
      fields = sum_field ∷ [];
      last = crlf;
      reads = (All-cons IsField sum_field [] sum_is_field (All-nil IsField), refl);
      are = refl;
    };
    is = refl;
  };
  part = refl;
  joined = refl;
  cut = refl;
  before_fault = refl;
  behind_data = refl;
  no_trailers = record {
    trailers = Some [];
    section = record { fields = []; last = crlf; reads = (All-nil IsField, refl); are = refl };
    is = refl;
  };
  no_end = refl;
  no_field = record { trailers = None; section = no_blank_field; is = refl };
}
