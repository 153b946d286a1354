-- Roots stand.
use Rattle.std.proofs.Common.{◌≡◌, ◌<◌, ℕ, Bool, true, false, not, cond, ◌==◌, ◌&&◌, ◌||◌, if◌then◌else◌, List, [], ◌∷◌, map, length, Option, None, Some, refl, sym, ap, ◌∙◌, subst, ⊎_elim, eq-eqb, length-set, get_or-set_same, get_or-set_other}
use Rattle.std.specs.Prelude.{is_none, nat_lt, slice_index_or, slice_set}
use Rattle.std.specs.Option.{option_or}
use Rattle.std.proofs.lemmas.Bool.{cases_eq, ltb-true}
use Rattle.std.proofs.lemmas.List.Folds.{find-append}
use Rattle.contexts.specs.Creating.{is_root, is_root_at, next_id, no_plugin, plugin_in, root_context, root_created, with_context, with_root}
use Rattle.contexts.specs.Keyed.{first_of_number}
use Rattle.contexts.specs.Reached.{context_in, context_no, no_vm, vm_in}
use Rattle.contexts.specs.declared.parts.Context.{Context}
use Rattle.contexts.specs.declared.parts.Contexts.{Contexts}
use Rattle.contexts.specs.declared.parts.Plugin.{Plugin}
use Rattle.contexts.specs.declared.parts.VmContexts.{VmContexts}
use Rattle.law_vms.specs.OwnChanges.{outline, outlines}
use Rattle.filter_host.specs.declared.host.Death.TheVariants as deaths
use Rattle.worker_model.specs.Rooms.{lose_vm_in, is_dead, with_contexts}
use Rattle.worker_model.specs.declared.types.NewContext.{NewContext}
use Rattle.worker_model.specs.Steps.{has_vm, with_jobs_first, is_drawn_out, may_root, may_stream, new_one, root_jobs, create_root, create_stream, with_stream}
use Rattle.worker_model.specs.Room.{Room}
use Rattle.law_roots.specs.Roots.{CallbacksKeepRoots, FiltersGetContexts, RootStands, RootsAreMade, StreamsKeepRoots}

both_true : (a b : Bool) → (a && b) ≡ true → (a ≡ true) × (b ≡ true)
both_true true b h = (refl, h)
both_true false b h = absurd (cc h)

and_true : (a b : Bool) → a ≡ true → b ≡ true → (a && b) ≡ true
and_true a b x y = (λ i. x i && b) ∙ y

-- ---- a root, by the outlines of contexts

abbrev Outline : Type 0
Outline = ℕ × ℕ × ℕ × Option ℕ

abbrev has_root : ℕ → List Outline → Bool
has_root id [] = false
has_root id (o ∷ os) = cond (o.0 == id) ((o.2 == id) && is_none o.3) (has_root id os)

by_case : (id : ℕ) (b : Bool) (c : Context) (o : Option Context) (rest : Bool) → is_root_at id o ≡ rest → is_root_at id (cond b (Some c) o) ≡ cond b ((c.root == id) && is_none c.exchange) rest
by_case id true c o rest ih = refl
by_case id false c o rest ih = ih

by_outlines : (id : ℕ) (cs : List Context) → is_root_at id (first_of_number context_no id cs) ≡ has_root id (map outline cs)
by_outlines id [] = refl
by_outlines id (c ∷ cs) = by_case id (c.id == id) c (first_of_number context_no id cs) (has_root id (map outline cs)) (by_outlines id cs)

pub callbacks_keep_roots : CallbacksKeepRoots
callbacks_keep_roots vm p other before after c r =
    let both = both_true (has_vm other before) (is_root before other r.root) r.streams in
    let same_root : is_root after other r.root ≡ is_root before other r.root =
    ⊎_elim
    (λ (same : other ≡ vm).
    by_outlines r.root (vm_in after other).contexts
    ∙ ap (has_root r.root) (subst (λ (v : ℕ). outlines after v ≡ outlines before v) (sym same) c.outlined)
    ∙ sym (by_outlines r.root (vm_in before other).contexts))
    (λ (apart : other ≡ vm → ⊥). ap (λ (v : VmContexts). is_root_at r.root (first_of_number context_no r.root v.contexts)) (c.others other apart))
    (cases_eq other vm) in
    record {
      root = r.root;
      is = ap (λ (ps : List Plugin). (slice_index_or ps p no_plugin).root) c.plugins ∙ r.is;
      streams = and_true (has_vm other after) (is_root after other r.root) (ap (λ (n : ℕ). nat_lt other n) c.count ∙ both.0) (same_root ∙ both.1);
    }

-- ---- one context more

still_root : (id : ℕ) (o x : Option Context) → is_root_at id o ≡ true → is_root_at id (option_or o x) ≡ true
still_root id None x h = absurd (cc h)
still_root id (Some c) x h = h

more_keeps : (id : ℕ) (c : Context) (v : VmContexts) → is_root_at id (first_of_number context_no id v.contexts) ≡ true → is_root_at id (first_of_number context_no id (with_context c v).contexts) ≡ true
more_keeps id c v h =
    ap (is_root_at id) (find-append (λ (x : Context). context_no x == id) v.contexts (c ∷ [])) ∙ still_root id (first_of_number context_no id v.contexts) (first_of_number context_no id (c ∷ [])) h

-- where the contexts of one VM change so, a root of any stays
set_keeps : (h : Contexts) (vm other id : ℕ) (v : VmContexts) → (is_root_at id (first_of_number context_no id (vm_in h vm).contexts) ≡ true → is_root_at id (first_of_number context_no id v.contexts) ≡ true)
    → may_stream other id h ≡ true → may_stream other id (record h { vms = slice_set h.vms vm v }) ≡ true
set_keeps h vm other id v keeps may =
    let both = both_true (has_vm other h) (is_root h other id) may in
    let there : other < length h.vms = ltb-true other (length h.vms) both.0 in
    and_true _ _ (ap (λ (n : ℕ). nat_lt other n) (length-set h.vms vm v) ∙ both.0)
    (⊎_elim
    (λ (same : other ≡ vm).
    subst (λ (w : ℕ). is_root_at id (first_of_number context_no id (slice_index_or (slice_set h.vms w v) other no_vm).contexts) ≡ true) same
    (ap (λ (x : VmContexts). is_root_at id (first_of_number context_no id x.contexts)) (get_or-set_same h.vms other v no_vm there)
    ∙ keeps (subst (λ (w : ℕ). is_root_at id (first_of_number context_no id (vm_in h w).contexts) ≡ true) same both.1)))
    (λ (apart : other ≡ vm → ⊥). ap (λ (x : VmContexts). is_root_at id (first_of_number context_no id x.contexts)) (get_or-set_other h.vms vm other v no_vm apart) ∙ both.1)
    (cases_eq other vm))

pub streams_keep_roots : StreamsKeepRoots
streams_keep_roots vm root number p other h r =
    record { root = r.root; is = r.is; streams = set_keeps h vm other r.root _ (more_keeps r.root _ (vm_in h vm)) r.streams }

-- ---- a root is made

at_end : (id : ℕ) (o : Option Context) (c : Context) → o ≡ None → is_root_at id (option_or o (cond (context_no c == id) (Some c) None)) ≡ is_root_at id (cond (context_no c == id) (Some c) None)
at_end id o c none = ap (λ (x : Option Context). is_root_at id (option_or x (cond (context_no c == id) (Some c) None))) none

new_root : (id plugin : ℕ) (v : VmContexts) → first_of_number context_no id v.contexts ≡ None → is_root_at id (first_of_number context_no id (with_context (root_context id plugin) v).contexts) ≡ true
new_root id plugin v none =
    ap (is_root_at id) (find-append (λ (x : Context). context_no x == id) v.contexts (root_context id plugin ∷ []))
    ∙ at_end id (first_of_number context_no id v.contexts) (root_context id plugin) none
    ∙ ap (λ (b : Bool). is_root_at id (cond b (Some (root_context id plugin)) None)) (eq-eqb id id refl)
    ∙ ap (λ (b : Bool). b && true) (eq-eqb id id refl)

made_stands : (h : Contexts) (vm p : ℕ) → may_root vm p h ≡ true → context_in h vm (next_id h vm) ≡ None → RootStands (root_created vm p h) p vm
made_stands h vm p may none =
    let a = both_true _ _ may in
    let b = both_true _ _ a.0 in
    let c = both_true _ _ b.0 in
    let within : vm < length h.vms = ltb-true vm (length h.vms) c.0 in
    let there : p < length h.plugins = ltb-true p (length h.plugins) b.1 in
    let id = next_id h vm in
    record {
      root = id;
      is = ap (λ (x : Plugin). x.root) (get_or-set_same h.plugins p (with_root id (plugin_in h p)) no_plugin there);
      streams = and_true _ _ (ap (λ (n : ℕ). nat_lt vm n) (length-set h.vms vm (with_context (root_context id p) (vm_in h vm))) ∙ c.0)
          (ap (λ (x : VmContexts). is_root_at id (first_of_number context_no id x.contexts)) (get_or-set_same h.vms vm (with_context (root_context id p) (vm_in h vm)) no_vm within) ∙ new_root id p (vm_in h vm) none);
    }

-- the last of three cases
last_case : {A : Type 0} (a b c : Bool) (x y z : A) → a ≡ false → b ≡ true → c ≡ false → (if a || not b then x else (if c then y else z)) ≡ z
last_case a b c x y z e f g = λ i. if e i || not (f i) then x else (if g i then y else z)

pub roots_are_made : RootsAreMade
roots_are_made vm p first room live may drawn none =
    let h = room.hub.contexts in
    let made : Option NewContext × Room = (Some (new_one vm (next_id h vm) 0), with_jobs_first (root_jobs vm (next_id h vm) p first) (with_contexts (root_created vm p h) room)) in
    let no_more : Option NewContext × Room = (None, room) in
    let out : Option NewContext × Room = (None, lose_vm_in vm deaths.Ids room) in
    let opened : create_root vm p first room ≡ made = last_case (is_dead vm room) (may_root vm p h) (is_drawn_out vm h) no_more out made live may drawn in
    subst (λ (x : Option NewContext × Room). RootStands x.1.hub.contexts p vm) (sym opened) (made_stands h vm p may none)

pub filters_get_contexts : FiltersGetContexts
filters_get_contexts number k f room live drawn r =
    let no_more : Option NewContext × Room = (None, room) in
    let out : Option NewContext × Room = (None, lose_vm_in f.vm deaths.Ids room) in
    ap (λ (o : Option ℕ). create_stream number k f o room) r.is
    ∙ last_case (is_dead f.vm room) (may_stream f.vm r.root room.hub.contexts) (is_drawn_out f.vm room.hub.contexts) no_more out (with_stream number k f r.root room) live r.streams drawn
