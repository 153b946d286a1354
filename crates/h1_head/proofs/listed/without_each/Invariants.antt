use Rattle.std.proofs.Common.{◌≡◌, drop, true}
use Rattle.std.specs.List.{list_all}
use Rattle.header_maps.specs.Kept.{is_kept_field}
use Rattle.h1_model.specs.Fields.{fields_not_listed}
use Rattle.h1_head.proofs.listed.without_each.Given as goal

-- what is left of the values decides
abbrev pub invariant-loop-value : goal.invariant-loop-value
invariant-loop-value l = record {
  left : fields_not_listed (drop l.value-index l.connection) l.fields.pairs ≡ fields_not_listed l.connection l.fn.fields.pairs;
  kept : list_all is_kept_field l.fields.pairs ≡ true;
}
