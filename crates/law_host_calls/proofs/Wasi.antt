-- The rows of these examples hold by computation.
use Rattle.std.proofs.Common.{refl}
use Rattle.rand_core.specs.Steps.{u32_at}
use Rattle.law_host_calls.specs.Wasi.{WasiExamples, NoArguments, RandomExamples}

pub wasi_examples : WasiExamples
wasi_examples = record {
  errors = refl;
  output = refl;
  below = refl;
  no_such_file = refl;
  joined = refl;
  piece_outside = refl;
  entries_outside = refl;
  count_outside = refl;
  time_of_day = refl;
  rising = refl;
  no_such_clock = refl;
  time_outside = refl;
  random_outside = refl;
}

pub no_arguments : NoArguments
no_arguments = record {
  environment = refl;
  arguments = refl;
  environment_sizes = refl;
  argument_sizes = refl;
  environment_outside = refl;
  arguments_outside = refl;
  exit = refl;
}

pub random_examples : RandomExamples
unfolding u32_at
random_examples = record {
  drawn = refl;
}
