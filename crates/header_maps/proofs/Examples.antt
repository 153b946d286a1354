-- The worked examples, by computation.
use Rattle.std.proofs.Common.{◌≡◌, ℕ, zero, suc, List, All, true, false, refl, ap, bytes_eq, codes, lit≤, arith}
use Rattle.header_maps.specs.Places.{IsWithin}
use Rattle.http_header.specs.Token.{is_token_byte}
use Rattle.header_maps.specs.Examples.{OperationExamples, FaultExamples, StatusExamples, SetExamples, KeptExamples, PlaceExamples, worked_places}

pub operation_examples : OperationExamples
operation_examples = record {
  joined = refl;
  one = refl;
  none = refl;
  empty = refl;
  first = refl;
  add = refl;
  remove = refl;
  replace = refl;
  replace_new = refl;
  replace_path = refl;
  set = refl;
  status = refl;
  empty_size = refl;
  size = refl;
}

pub fault_examples : FaultExamples
unfolding is_token_byte
fault_examples = record {
  name = refl;
  no_name = refl;
  name_first = refl;
  value = refl;
  tab = refl;
  hundred = refl;
  hundred_one = refl;
  hundred_one_replaced = refl;
  hundred_kept = refl;
  pseudo_added = refl;
  pseudo_removed = refl;
  absent_removed = refl;
  other_pseudo = refl;
  unknown_pseudo = refl;
  connect = refl;
  scheme = refl;
  no_authority = refl;
  blank_in_authority = refl;
  star = refl;
  fragment = refl;
  relative = refl;
  no_path = refl;
}

pub status_examples : StatusExamples
unfolding is_token_byte
status_examples = record {
  least = refl;
  most = refl;
  past = refl;
  interim_in_response = refl;
  response_in_interim = refl;
  interim = refl;
  four_digits = refl;
  no_digits = refl;
  below = refl;
  above = refl;
}

pub set_examples : SetExamples
unfolding is_token_byte
set_examples = record {
  nothing = refl;
  pseudo_in_trailers = refl;
  missing = refl;
  twice = refl;
  names_before_values = refl;
  value = refl;
  hundred = refl;
  hundred_one = refl;
  pseudo_not_counted = refl;
}

no_truth : false ≡ true → ⊥
no_truth h = cc h

pub kept_examples : KeptExamples
unfolding is_token_byte
kept_examples = record {
  request = record {
    shape = (
      record { name_is = refl; value = refl },
      (
        record { name_is = refl; value = refl },
        (record { name_is = refl; value = refl }, (record { name_is = refl; value = refl }, record { kept = refl; few = lit≤ tt })),
      ),
    );
    short = refl;
  };
  late_pseudo = λ h. no_truth (ap (λ (x : List ℕ). bytes_eq x (codes ":status")) h.shape.0.name_is);
  upper_case = λ h. no_truth h.shape.kept;
}

-- a place at an end, as a list says it
place_examples_within : All (IsWithin 7) worked_places
place_examples_within zero d l = ((lit≤ tt, lit≤ tt), (lit≤ tt, lit≤ tt))
place_examples_within (suc zero) d l = ((lit≤ tt, lit≤ tt), (lit≤ tt, lit≤ tt))
place_examples_within (suc (suc k)) d l = absurd (omega arith)

pub place_examples : PlaceExamples
place_examples = record {
  pairs = refl;
  within = place_examples_within;
  short_buffer = λ h. let first = h 0 (record { name = 0; name_end = 0; value = 0; value_end = 0 }) (lit≤ tt) in absurd (omega (arith, first.1.1));
  put = refl;
  put_later = refl;
}
