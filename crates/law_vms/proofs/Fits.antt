-- The worked modules, by computation.
use Rattle.std.proofs.Common.{refl}
use Rattle.abi_links.specs.Judging.{target_of}
use Rattle.vm_host.specs.Fits.{type_in, is_misfit, is_marker, no_marker, a_misfit, unlinked}
use Rattle.vm_host.specs.Roles.{role_named}
use Rattle.law_vms.specs.Fits.{FitExamples}

pub fit_examples : FitExamples
unfolding a_misfit is_marker is_misfit no_marker role_named target_of type_in unlinked
fit_examples = record {
  marker_alone = refl;
  older_marker = refl;
  other_version = refl;
  no_marker = refl;
  memory_as_marker = refl;
  behind_others = refl;
  done_fits = refl;
  takes_nothing = refl;
  gives_nothing = refl;
  takes_a_long_one = refl;
  takes_two = refl;
  is_memory = refl;
  behind_a_good_one = refl;
  before_marker = refl;
  other_name = refl;
  misfit_unmarked = refl;
  unknown_unmarked = refl;
  unknown_marked = refl;
  other_type = refl;
  pages_unmarked = refl;
  pages_misfit = refl;
  as_many_pages = refl;
  as_many_unmarked = refl;
}
