-- The rows of these examples hold by computation.
use Rattle.std.proofs.Common.{refl}
use Rattle.wasm_syntax.specs.ReductionRuns.{walk, walk_hosted}
use Rattle.law_host_calls.specs.Buffers.{BufferReads, BufferSizes, BufferWrites}

pub buffer_reads : BufferReads
unfolding walk walk_hosted
buffer_reads = record {
  part = refl;
  of_response = refl;
  of_vm = refl;
  of_plugin = refl;
  short = refl;
  at_the_end = refl;
  past_the_end = refl;
  no_such = refl;
  never_there = refl;
  not_there = refl;
  no_context = refl;
  outside = refl;
  no_allocator = refl;
}

pub buffer_sizes : BufferSizes
unfolding walk walk_hosted
buffer_sizes = record {
  of_request = refl;
  of_response = refl;
  of_vm = refl;
  turned = refl;
  not_there = refl;
  no_such = refl;
  outside = refl;
}

pub buffer_writes : BufferWrites
unfolding walk walk_hosted
buffer_writes = record {
  replaced = refl;
  of_response = refl;
  in_front = refl;
  past_the_end = refl;
  taken_away = refl;
  vm_is_kept = refl;
  plugin_is_kept = refl;
  no_such = refl;
  not_there = refl;
  idle_stage = refl;
  outside = refl;
}
