-- The worked examples of filters, by computation.
use Rattle.std.proofs.Common.{◌≡◌, ℕ, zero, suc, true, List, [], ◌∷◌, length, ap, ◌∙◌, sym, refl}
use Rattle.std.specs.Prelude.{None, Some, slice_get}
use Rattle.exchange.specs.declared.types.Filter.{Filter}
use Rattle.gate_config.specs.declared.entries.PluginEntry.{PluginEntry}
use Rattle.law_asked.specs.Filters.{Chosen, no_filter, takes, filter_dead, unknown}
use Rattle.law_asked.specs.FilterExamples.{FilterExamples, plugins, all_four, filter_of}

-- where no VM is dead and each plug-in is there
count_chosen : {entries : List PluginEntry} {ps : List ℕ} {fs : List Filter} → Chosen entries [] ps fs → ((at p : ℕ) → slice_get ps at ≡ Some p → slice_get entries p ≡ None → ⊥) → length fs ≡ length ps
count_chosen no_filter known = refl
count_chosen (takes at alive is more) known = ap suc (count_chosen more (λ i q. known (suc i) q))
count_chosen (filter_dead at gone more) known = absurd (cc gone)
count_chosen (unknown {p} none more) known = absurd (known 0 p refl none)

first_chosen : {entries : List PluginEntry} {ps : List ℕ} {fs : List Filter} → Chosen entries [] ps fs → (q : ℕ) (rest : List ℕ) (g : Filter) (more : List Filter) → ps ≡ q ∷ rest → fs ≡ g ∷ more
    → (slice_get entries q ≡ None → ⊥) → g.plugin ≡ q
first_chosen no_filter q rest g more first second known = absurd (cc first)
first_chosen (takes {p} {e} {f} at alive is later) q rest g more first second known =
    let same : p ≡ q = (cc first) in
    let one : f ≡ g = (cc second) in
    ap (λ (x : Filter). x.plugin) (sym one) ∙ (is.plugin ∙ same)
first_chosen (filter_dead at gone later) q rest g more first second known = absurd (cc gone)
first_chosen {entries} (unknown {p} none later) q rest g more first second known =
    let same : p ≡ q = (cc first) in
    absurd (known (ap (slice_get entries) (sym same) ∙ none))

all_known : (at p : ℕ) → slice_get all_four at ≡ Some p → slice_get (plugins true) p ≡ None → ⊥
all_known zero p at none =
    let is : 0 ≡ p = (cc at) in
    cc (ap (slice_get (plugins true)) is ∙ none)
all_known (suc zero) p at none =
    let is : 1 ≡ p = (cc at) in
    cc (ap (slice_get (plugins true)) is ∙ none)
all_known (suc (suc zero)) p at none =
    let is : 2 ≡ p = (cc at) in
    cc (ap (slice_get (plugins true)) is ∙ none)
all_known (suc (suc (suc zero))) p at none =
    let is : 3 ≡ p = (cc at) in
    cc (ap (slice_get (plugins true)) is ∙ none)
all_known (suc (suc (suc (suc i)))) p at none = cc at

pub filter_examples : FilterExamples
filter_examples = record {
  all = refl;
  served = refl;
  without_third = refl;
  opens = refl;
  closes = refl;
  up = refl;
  down = refl;
  up_without = refl;
  down_without = refl;
  no_three = λ chosen. cc (count_chosen chosen all_known);
  no_reverse = λ chosen. cc (first_chosen chosen 0 (1 ∷ 2 ∷ 3 ∷ []) (filter_of 3 0) (filter_of 2 0 ∷ filter_of 1 0 ∷ filter_of 0 0 ∷ []) refl refl (λ none. cc none));
}
