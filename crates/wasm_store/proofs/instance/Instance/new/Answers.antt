use Rattle.std.proofs.Common.{◌≡◌, ◌≤◌, ◌∙◌, ap, sym, subst, None, Option}
use Rattle.wasm_syntax.specs.declared.module.Module.{Module}
use Rattle.wasm_syntax.specs.Validity.{IsValid}
use Rattle.wasm_syntax.specs.Stores.{first_pages, growth_bound, table_size, initial_stores, initial_globals}
use Rattle.wasm_store.specs.Linking.{link_fault}
use Rattle.wasm_store.proofs.Kept.{nothing_against, cap_passes, minimum_fits, instance_kept}
use Rattle.wasm_store.proofs.instance.Instance.new.Goals as goal

pub filled_memory-requires-clause-within : goal.filled_memory-requires-clause-within
filled_memory-requires-clause-within g c =
    let host = g.L.Links.judged c.args.links.now in
    let m = c.module-2.result.now in
    let same : m ≡ c.module.result.now = c.module-2.ensures.holds ∙ sym c.module.ensures.holds in
    let clear = ap (λ (x : Module). link_fault host x c.args.pages) same ∙ sym c.fault.ensures ∙ c.in_default.is in
    minimum_fits m c.args.pages c.module-2.ensures.valid (cap_passes m c.args.pages (nothing_against host m c.args.pages clear).cap)

pub invariant_of-result : goal.invariant_of-result
invariant_of-result g c =
    let host = g.L.Links.judged c.args.links.now in
    let m = c.args.m in
    let clear = ap (λ (x : Module). link_fault host x c.args.pages) (sym c.module.ensures.holds) ∙ sym c.fault.ensures ∙ c.in_default.is in
    instance_kept host (g.met.L.Links.linked_is_short c.args.links.now) m c.args.pages c.in_ok-memory.memory c.in_ok-table.table c.in_ok-globals.globals
    (subst IsValid c.module.ensures.holds c.module.ensures.valid) clear c.in_ok-memory.ensures.whole
    (c.in_ok-memory.ensures.most ∙ ap (λ (x : Module). growth_bound x c.args.pages) c.module-2.ensures.holds)
    (c.in_ok-table.ensures.is ∙ ap (λ (x : Module). (initial_stores x).table) c.module-3.ensures.holds)
    (c.in_ok-table.ensures.size ∙ ap table_size c.module-3.ensures.holds)
    (c.in_ok-globals.ensures ∙ ap initial_globals c.module-4.ensures.holds)
