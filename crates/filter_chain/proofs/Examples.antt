-- The worked examples, by computation.
use Rattle.std.proofs.Common.{refl}
use Rattle.filter_chain.specs.Examples.{ChainExamples}

pub chain_examples : ChainExamples
chain_examples = record {
  none = refl;
  simple_asks = refl;
  simple_out = refl;
  gathered_asks = refl;
  gathered_out = refl;
  head_held_asks = refl;
  head_held_out = refl;
  head_goes_on_asks = refl;
  head_goes_on_out = refl;
  trailers_held = refl;
  trailers_out = refl;
  trailers_left = refl;
  empty_asked = refl;
  empty_out = refl;
  empty_end = refl;
  let_by_asks = refl;
  let_by_out = refl;
  nothing_held = refl;
  reached_none = refl;
  reached_held = refl;
  reached_one = refl;
  reached_all = refl;
  room = refl;
  no_room = refl;
}
