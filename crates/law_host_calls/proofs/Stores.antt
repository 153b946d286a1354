-- The rows of these examples hold by computation.
use Rattle.std.proofs.Common.{refl}
use Rattle.wasm_syntax.specs.ReductionRuns.{walk, walk_hosted}
use Rattle.law_host_calls.specs.Stores.{DataExamples, QueueExamples, ItemExamples}

pub data_examples : DataExamples
unfolding walk walk_hosted
data_examples = record {
  got = refl;
  empty = refl;
  absent = refl;
  no_room = refl;
  no_allocator = refl;
  place_outside = refl;
  set = refl;
  other_number = refl;
  full = refl;
  value_outside = refl;
}

pub queue_examples : QueueExamples
unfolding walk walk_hosted
queue_examples = record {
  registered = refl;
  no_more = refl;
  no_root = refl;
  not_registered = refl;
  resolved = refl;
  absent = refl;
  no_vm = refl;
  not_resolved = refl;
}

pub item_examples : ItemExamples
unfolding walk walk_hosted
item_examples = record {
  taken = refl;
  no_item = refl;
  no_queue = refl;
  of_no_vm = refl;
  not_taken = refl;
  put = refl;
  full = refl;
  put_nowhere = refl;
  put_to_no_vm = refl;
  not_put = refl;
}
