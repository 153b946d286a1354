-- The rows of these examples hold by computation.
use Rattle.std.proofs.Common.{refl}
use Rattle.http_header.specs.Token.{is_token_byte}
use Rattle.wasm_syntax.specs.ReductionRuns.{walk, walk_hosted}
use Rattle.law_host_calls.specs.MapRows.{MapReads, MapWrites, MapChanges}

pub map_reads : MapReads
unfolding is_token_byte walk walk_hosted
map_reads = record {
  of_request = refl;
  of_request_trailers = refl;
  of_response = refl;
  of_response_trailers = refl;
  no_value = refl;
  no_map = refl;
  no_exchange = refl;
  no_such_map = refl;
  name_outside = refl;
  pairs = refl;
  no_pairs = refl;
  pairs_of_none = refl;
  pairs_outside = refl;
  size = refl;
  no_size = refl;
  size_of_none = refl;
  size_outside = refl;
}

pub map_writes : MapWrites
unfolding is_token_byte walk walk_hosted
map_writes = record {
  added = refl;
  added_to_trailers = refl;
  added_nowhere = refl;
  added_to_none = refl;
  added_unnamed = refl;
  one_too_many = refl;
  added_outside = refl;
  replaced = refl;
  put_last = refl;
  replaced_nowhere = refl;
  replaced_in_none = refl;
  replaced_unnamed = refl;
  replaced_past_all = refl;
  replaced_outside = refl;
}

pub map_changes : MapChanges
unfolding is_token_byte walk walk_hosted
map_changes = record {
  removed = refl;
  removed_from_response = refl;
  was_absent = refl;
  removed_nowhere = refl;
  removed_from_none = refl;
  removed_unnamed = refl;
  removed_pseudo = refl;
  removed_outside = refl;
  set = refl;
  emptied = refl;
  set_unnamed = refl;
  set_nowhere = refl;
  set_in_none = refl;
  no_pairs = refl;
  set_outside = refl;
}
