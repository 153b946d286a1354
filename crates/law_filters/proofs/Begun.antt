-- What is known of a worker as it is made.
use Rattle.std.proofs.Common.{◌≡◌, inr, refl, ℕ, zero, suc, ◌+◌, ◌<◌, ◌≤◌, ◌==◌, Bool, true, ◌&&◌, List, [], ◌∷◌, ◌++◌, length, map, ap, ◌∙◌, sym, subst, arith, eq-eqb, append_assoc, append-nil}
use Rattle.std.proofs.lemmas.Bool.{lt-ltb, le-leb}
use Rattle.std.proofs.lemmas.List.{length-append}
use Rattle.std.specs.Prelude.{All, slice_get, slice_index_or, nat_lt, nat_le, Option, None, Some}
use Rattle.contexts.specs.Creating.{no_plugin, plugin_in}
use Rattle.contexts.specs.Making.{no_contexts, new_vm, new_plugin, with_vm, with_plugin}
use Rattle.contexts.specs.Reached.{no_vm, vm_in}
use Rattle.contexts.specs.declared.parts.Context.{Context}
use Rattle.contexts.specs.declared.parts.Contexts.{Contexts}
use Rattle.contexts.specs.declared.parts.Plugin.{Plugin}
use Rattle.contexts.specs.declared.parts.VmContexts.{VmContexts}
use Rattle.gate_config.specs.Kept.{IsPlugin}
use Rattle.gate_config.specs.declared.config.Config.{Config}
use Rattle.gate_config.specs.declared.entries.PluginEntry.{PluginEntry}
use Rattle.gate_config.specs.declared.entries.VmEntry.{VmEntry}
use Rattle.worker_model.specs.Making.{with_vms, with_plugins, contexts_of, first_room}
use Rattle.worker_model.specs.Plan.{Plan}
use Rattle.law_vms.specs.OwnChanges.{outline}
use Rattle.law_filters.proofs.Ids.{AreDrawn, AreLow, and_true, some_same}
use Rattle.law_filters.proofs.Same.{same_itself}
use Rattle.law_filters.proofs.Sound.{IsSound, Nobody}

-- ---- no VM has a context

abbrev Blank : List VmContexts → Type 0
Blank [] = Unit {0}
Blank (v ∷ vms) = (v.contexts ≡ []) × Blank vms

blank_push : (vms : List VmContexts) (v : VmContexts) → v.contexts ≡ [] → Blank vms → Blank (vms ++ v ∷ [])
blank_push [] v is blank = (is, tt)
blank_push (x ∷ vms) v is blank = (blank.0, blank_push vms v is blank.1)

blank_at : (vms : List VmContexts) (vm : ℕ) → Blank vms → (slice_index_or vms vm no_vm).contexts ≡ []
blank_at [] vm blank = refl
blank_at (v ∷ vms) zero blank = blank.0
blank_at (v ∷ vms) (suc vm) blank = blank_at vms vm blank.1

vms_blank : (h : Contexts) (entries : List VmEntry) → Blank h.vms → Blank (with_vms h entries).vms
vms_blank h [] blank = blank
vms_blank h (v ∷ entries) blank = vms_blank (with_vm v.name v.configuration h) entries (blank_push h.vms (new_vm v.name v.configuration) refl blank)

as_many_vms : (h : Contexts) (entries : List VmEntry) → length (with_vms h entries).vms ≡ length h.vms + length entries
as_many_vms h [] = omega arith
as_many_vms h (e ∷ entries) =
    let one : length (with_vm e.name e.configuration h).vms ≡ length h.vms + 1 = length-append h.vms (new_vm e.name e.configuration ∷ []) in
    let rest : length (with_vms (with_vm e.name e.configuration h) entries).vms ≡ length (with_vm e.name e.configuration h).vms + length entries = as_many_vms (with_vm e.name e.configuration h) entries in
    rest ∙ (let sum : length (with_vm e.name e.configuration h).vms + length entries ≡ length h.vms + suc (length entries) = omega (arith, one) in sum)

vms_leave : (h : Contexts) (entries : List VmEntry) → (with_vms h entries).plugins ≡ h.plugins
vms_leave h [] = refl
vms_leave h (e ∷ entries) = vms_leave (with_vm e.name e.configuration h) entries

plugins_leave : (h : Contexts) (plugins : List PluginEntry) → (with_plugins h plugins).vms ≡ h.vms
plugins_leave h [] = refl
plugins_leave h (p ∷ plugins) = plugins_leave (with_plugin p.vm p.name p.configuration h) plugins

-- ---- the table of plug-ins

abbrev plugin_of : PluginEntry → Plugin
plugin_of p = new_plugin p.vm p.name p.configuration

plugins_are : (h : Contexts) (plugins : List PluginEntry) → (with_plugins h plugins).plugins ≡ h.plugins ++ map plugin_of plugins
plugins_are h [] = sym (append-nil h.plugins)
plugins_are h (p ∷ plugins) = plugins_are (with_plugin p.vm p.name p.configuration h) plugins ∙ append_assoc h.plugins (plugin_of p ∷ []) (map plugin_of plugins)

rootless : (ps : List PluginEntry) (p : ℕ) → (slice_index_or (map plugin_of ps) p no_plugin).root ≡ None
rootless [] p = refl
rootless (x ∷ ps) zero = refl
rootless (x ∷ ps) (suc p) = rootless ps p

as_many : (ps : List PluginEntry) → length (map plugin_of ps) ≡ length ps
as_many [] = refl
as_many (x ∷ ps) = ap suc (as_many ps)

its_vm : (ps : List PluginEntry) (p : ℕ) (e : PluginEntry) → slice_get ps p ≡ Some e → (slice_index_or (map plugin_of ps) p no_plugin).vm ≡ e.vm
its_vm [] zero e at = absurd (cc at)
its_vm [] (suc p) e at = absurd (cc at)
its_vm (x ∷ ps) zero e at = ap (λ (y : PluginEntry). y.vm) (some_same x e at)
its_vm (x ∷ ps) (suc p) e at = its_vm ps p e at

within : (ps : List PluginEntry) (p : ℕ) (e : PluginEntry) → slice_get ps p ≡ Some e → p < length ps
within [] zero e at = absurd (cc at)
within [] (suc p) e at = absurd (cc at)
within (x ∷ ps) zero e at = omega arith
within (x ∷ ps) (suc p) e at = let less : p < length ps = within ps p e at in omega (arith, less)

all_at : (P : PluginEntry → Type 0) (ps : List PluginEntry) (p : ℕ) (e : PluginEntry) → slice_get ps p ≡ Some e → slice_index_or ps p e ≡ e
all_at P [] p e at = refl
all_at P (x ∷ ps) zero e at = some_same x e at
all_at P (x ∷ ps) (suc p) e at = all_at P ps p e at

in_all : (n : ℕ) (ps : List PluginEntry) (p : ℕ) (e : PluginEntry) → All (IsPlugin n) ps → slice_get ps p ≡ Some e → IsPlugin n e
in_all n ps p e all at = subst (IsPlugin n) (all_at (IsPlugin n) ps p e at) (all p e (within ps p e at))

may_by : (a b c d : Bool) → a ≡ true → b ≡ true → c ≡ true → d ≡ true → (((a && b) && c) && d) ≡ true
may_by a b c d x y z w = and_true ((a && b) && c) d (and_true (a && b) c (and_true a b x y) z) w

below : (a b : ℕ) → a < b → nat_lt a b ≡ true
below a b less = lt-ltb a b less

at_most : (a : ℕ) → a < 64 → nat_le a 65535 ≡ true
at_most a less = let more : a ≤ 65535 = omega (arith, less) in le-leb a 65535 more

first_drawn : (config : Config) (seed : List ℕ) (plan : Plan) → plan.plugins ≡ config.plugins → AreDrawn plan (contexts_of config seed)
first_drawn config seed plan same =
    let base : Contexts = no_contexts config.log_level seed in
    let h : Contexts = contexts_of config seed in
    let ps : h.plugins ≡ map plugin_of config.plugins = plugins_are (with_vms base config.vms) config.plugins ∙ ap (λ (l : List Plugin). l ++ map plugin_of config.plugins) (vms_leave base config.vms) in
    let vms : h.vms ≡ (with_vms base config.vms).vms = plugins_leave (with_vms base config.vms) config.plugins in
    let blank : Blank h.vms = subst Blank (sym vms) (vms_blank base config.vms tt) in
    let none : 0 + length config.vms ≡ length config.vms = omega arith in
    let count : length h.vms ≡ length config.vms = ap length vms ∙ (as_many_vms base config.vms ∙ none) in
    record {
      ids = λ vm. subst (λ (cs : List Context). AreLow (vm_in h vm).last (map outline cs)) (sym (blank_at h.vms vm blank)) tt;
      within = λ p root is.
          absurd (none_some root (sym (ap (λ (l : List Plugin). (slice_index_or l p no_plugin).root) ps ∙ rootless config.plugins p) ∙ is));
      table = λ p e at.
          (let there : slice_get config.plugins p ≡ Some e = ap (λ (l : List PluginEntry). slice_get l p) (sym same) ∙ at in
          let plugin : IsPlugin (length config.vms) e = in_all (length config.vms) config.plugins p e config.kept.all_plugins there in
          let inside : p < length config.plugins = within config.plugins p e there in
          let many : length config.plugins ≤ 64 = config.kept.plugin_count in
          let low : p < 64 = omega (arith, inside, many) in
          may_by (nat_lt e.vm (length h.vms)) (nat_le p 65535) (nat_lt p (length h.plugins)) ((plugin_in h p).vm == e.vm) (below e.vm (length h.vms) (subst (λ (n : ℕ). e.vm < n) (sym count) plugin.vm)) (at_most p low)
          (below p (length h.plugins) (subst (λ (n : ℕ). p < n) (sym (ap length ps ∙ as_many config.plugins)) inside))
          (eq-eqb (plugin_in h p).vm e.vm (ap (λ (l : List Plugin). (slice_index_or l p no_plugin).vm) ps ∙ its_vm config.plugins p e there)));
      few = subst (λ (n : ℕ). n ≤ 16) (sym count) config.kept.vm_count;
    }
  where
    none_some : (root : ℕ) → ◌≡◌ {A = Option ℕ} None (Some root) → ⊥
    none_some root is = cc is

pub first_sound : (config : Config) (seed : List ℕ) (plan : Plan) → plan.plugins ≡ config.plugins → IsSound plan Nobody (first_room config seed)
first_sound config seed plan same =
    record {
      contexts = contexts_of config seed;
      holds = (
        tt,
        same_itself (contexts_of config seed),
        record {
          drawn = first_drawn config seed plan same;
          of_jobs = tt;
          of_waits = tt;
          ordered = tt;
          begun = inr (refl, refl, refl);
          no_line = λ p vm has. absurd has;
          each = λ begun p e at. absurd (cc begun);
        },
      );
    }
