use Rattle.wasm_store.proofs.Causes.{told_is_first, first_is_told, none_is_clear, clear_is_none}
use Rattle.wasm_store.proofs.link_laws.the_first_cause_is_told.Goals as goal

pub returns : goal.returns
returns c = record {
  told = λ host m pages e. (told_is_first host m pages e, first_is_told host m pages e);
  none = λ host m pages. (none_is_clear host m pages, clear_is_none host m pages);
}
