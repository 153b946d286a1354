-- The rows of these examples hold by computation.
use Rattle.std.proofs.Common.{refl}
use Rattle.wasm_syntax.specs.ReductionRuns.{walk, walk_hosted}
use Rattle.law_host_calls.specs.Services.{LocalExamples, ContextExamples, PropertyExamples, PathExamples}

pub local_examples : LocalExamples
unfolding walk walk_hosted
local_examples = record {
  logged = refl;
  least = refl;
  last_level = refl;
  below = refl;
  no_such_level = refl;
  text_outside = refl;
  level = refl;
  level_outside = refl;
  time = refl;
  time_outside = refl;
}

pub context_examples : ContextExamples
unfolding walk walk_hosted
context_examples = record {
  tick = refl;
  no_tick = refl;
  tick_of_none = refl;
  effective = refl;
  no_such_context = refl;
  ended = refl;
  not_waiting = refl;
}

pub property_examples : PropertyExamples
unfolding walk walk_hosted
property_examples = record {
  got = refl;
  not_set = refl;
  path_outside = refl;
  set = refl;
  set_first = refl;
  of_none = refl;
  one_too_many = refl;
  value_outside = refl;
}

pub path_examples : PathExamples
unfolding walk walk_hosted
path_examples = record {
  plugin_name = refl;
  plugin_vm_id = refl;
  path = refl;
  method = refl;
  host = refl;
  scheme = refl;
  name_is_kept = refl;
  vm_id_is_kept = refl;
  path_is_kept = refl;
}
