-- The jobs of the start of a VM.
use Rattle.std.proofs.Common.{◌≡◌, ℕ, List, [], ◌∷◌, ◌++◌, Bool, true, false, ap, sym, ◌∙◌}
use Rattle.std.proofs.lemmas.List.{append-nil}
use Rattle.std.specs.List.{list_any}
use Rattle.std.specs.Prelude.{cond}
use Rattle.contexts.specs.declared.parts.Plugin.{Plugin}
use Rattle.worker_model.specs.Turn.{is_of, start_of, roots_from}
use Rattle.worker_model.specs.declared.types.Job.{Job}
use Rattle.worker_model.specs.declared.types.Job.TheVariants as jobs

pub none_starts : (vm : ℕ) (plugins : List Plugin) (before : List Job) → list_any (is_of vm) plugins ≡ false → before ≡ before ++ start_of vm plugins
none_starts vm plugins before none =
    sym (ap (λ (b : Bool). before ++ cond b (jobs.Begin vm ∷ roots_from vm 0 true plugins) []) none ∙ append-nil before)
