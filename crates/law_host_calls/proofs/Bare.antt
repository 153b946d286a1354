-- The rows of these examples hold by computation.
use Rattle.std.proofs.Common.{refl}
use Rattle.wasm_syntax.specs.ReductionRuns.{walk, walk_hosted}
use Rattle.law_host_calls.specs.Bare.{NoAllocator}

pub no_allocator : NoAllocator
unfolding walk walk_hosted
no_allocator = record {
  value = refl;
  pairs = refl;
  item = refl;
  property = refl;
}
