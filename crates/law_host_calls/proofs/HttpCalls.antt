-- The rows of the call for a callout hold by computation.
use Rattle.std.proofs.Common.{◌≡◌, ℕ, true, List, [], ◌||◌, None, length, nat_lt, refl}
use Rattle.http_header.specs.Token.{is_token_byte}
use Rattle.wasm_syntax.specs.ReductionRuns.{walk, walk_hosted}
use Rattle.abi_model.specs.Calls as model
use Rattle.abi_services.specs.Callouts.{begun_unless, is_full_for, refusal_of, request_for}
use Rattle.header_maps.specs.declared.kind.ListKind.TheVariants as kinds
use Rattle.header_maps.specs.Operations.{all_set}
use Rattle.pair_codec.specs.Lists.{with_scheme}
use Rattle.law_host_calls.specs.HttpCalls.{asking_for, calls_with, CallsMade, CallsRefused, CallBounds}
use Rattle.law_host_calls.specs.Scenes.{seen}

pub calls_made : CallsMade
unfolding is_token_byte walk walk_hosted
calls_made = record {
  worked = refl;
  first = refl;
  of_root = refl;
  second = refl;
  behind_others = refl;
  whole = refl;
  last_under_way = refl;
  last_of_callback = refl;
  last_id = refl;
}

pub calls_refused : CallsRefused
unfolding is_token_byte walk walk_hosted
calls_refused = record {
  upstream_outside = refl;
  headers_outside = refl;
  body_outside = refl;
  trailers_outside = refl;
  place_outside = refl;
  no_context = refl;
  another = refl;
  unnamed = refl;
  upper_case = refl;
  headers_no_pairs = refl;
  trailers_no_pairs = refl;
  no_headers = refl;
  no_method = refl;
  no_path = refl;
  no_authority = refl;
  two_paths = refl;
  bad_name = refl;
  of_response = refl;
  bad_value = refl;
  bad_scheme = refl;
  bad_trailer = refl;
  bad_trailer_value = refl;
  trailer_path = refl;
  full = refl;
  full_with_this = refl;
  no_ids = refl;
  no_ids_with_this = refl;
  name_before_room = refl;
}

too_long : (body : List ℕ) → nat_lt 1048576 (length body) ≡ true → calls_with (asking_for []) body [] ≡ model.answers 10
unfolding is_token_byte
too_long body is = λ i.
    begun_unless (refusal_of None None (is i || is_full_for seen)) (request_for 2 (all_set kinds.Request (with_scheme (asking_for []))) body (all_set kinds.Plain []) 1000 seen) seen

pub call_bounds : CallBounds
unfolding is_token_byte
call_bounds = record {
  as_many = refl;
  too_many = refl;
  too_many_trailers = refl;
  bad_before_many = refl;
  missing_before_many = refl;
  too_long = too_long;
}
