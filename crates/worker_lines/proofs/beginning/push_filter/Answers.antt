use Rattle.std.proofs.Common.{◌∙◌, sym}
use Rattle.worker_model.specs.Steps.{filter_at_plugin}
use Rattle.worker_lines.proofs.Places.{filters_none, filters_some}
use Rattle.worker_lines.proofs.Readings.{on_ok}
use Rattle.worker_lines.proofs.beginning.push_filter.Goals as goal

pub returns-in-None : goal.returns-in-None
returns-in-None c = filters_none c.args.filters.now (filter_at_plugin c.args.plugins.now c.args.plugin) (sym c.filter_at_plugin.ensures ∙ c.in-None.is)

pub returns-in-Some : goal.returns-in-Some
returns-in-Some c =
    on_ok c.push.result (λ is. filters_some c.args.filters.now c.push.new.self (filter_at_plugin c.args.plugins.now c.args.plugin) c.in-Some.f (sym c.filter_at_plugin.ensures ∙ c.in-Some.is) is) c.push.ensures.ok
