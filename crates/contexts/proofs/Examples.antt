-- The worked examples, by computation.
use Rattle.std.proofs.Common.{refl}
use Rattle.contexts.specs.Examples.{ContextExamples}

pub context_examples : ContextExamples
context_examples = record {
  first_ids = refl;
  second_ids = refl;
  names = refl;
  none_effective = refl;
  vm_configuration = refl;
  first_path = refl;
  same_path = refl;
  other_path = refl;
  no_path = refl;
  no_context = refl;
  effective_path = refl;
  set_here = refl;
  not_at_root = refl;
  not_at_other = refl;
  not_elsewhere = refl;
  ended_path = refl;
  last_path = refl;
  freed = refl;
  kept_open = refl;
  used_again = refl;
  gone_ids = refl;
  next_ids = refl;
  waits = refl;
  waits_no_more = refl;
  deleted_waits = refl;
  held = refl;
  held_more = refl;
  not_held = refl;
  held_gone = refl;
  asked_there = refl;
  bytes_there = refl;
  not_there = refl;
  property_put = refl;
  property_added = refl;
  property_absent = refl;
}
