-- How many VMs have contexts stays.
use Rattle.std.proofs.Common.{◌≡◌, ℕ, length, Option, None, Some, ◌∙◌}
use Rattle.std.proofs.lemmas.List.{length-set}
use Rattle.contexts.specs.Reached.{vm_in, context_in, view_at, vm_after}
use Rattle.contexts.specs.declared.parts.Contexts.{Contexts}
use Rattle.contexts.specs.declared.parts.ExchangeView.{ExchangeView}
use Rattle.exchange.specs.Maps.{in_view}
use Rattle.law_runs.proofs.Changing.{IsClosed}

abbrev pub Counted : ℕ → Contexts → Type 0
Counted m h = length h.vms ≡ m

viewed : (m : ℕ) (change : ExchangeView → ExchangeView) (place : ℕ) (o : Option ExchangeView) (h : Contexts) → Counted m h → Counted m (in_view change place o h)
viewed m change place None h is = is
viewed m change place (Some v) h is = is

pub counted : IsClosed Counted
counted = record {
  put = λ m s vm e h none is. length-set h.vms vm (vm_after s e (context_in h vm e) (vm_in h vm)) ∙ is;
  view = λ m change place h lowers is. viewed m change place (view_at h.exchanges place) h is;
  free = λ m n h is. is;
  end = λ m n h is. is;
  begin = λ m line request h is. is;
  vm = λ m n v h is. length-set h.vms n v ∙ is;
  plugins = λ m ps h is. is;
  effects = λ m es h is. is;
  calls = λ m c h is. is;
}
