-- Ids of contexts, and the roots of plug-ins, where contexts are made and taken away.
use Rattle.std.proofs.Common.{◌≡◌, ◌⊎◌, inl, inr, refl, ℕ, zero, suc, ◌+◌, ◌<◌, ◌≤◌, ◌==◌, Bool, true, false, not, cond, ◌&&◌, List, [], ◌∷◌, ◌++◌, length, map, ap, ◌∙◌, sym, subst, ⊎_elim, arith, eq-eqb}
use Rattle.std.proofs.lemmas.Bool.{ltb-true, eqb-true, ne_eqb}
use Rattle.std.proofs.lemmas.List.{length-set, get_or-set_same}
use Rattle.std.proofs.lemmas.List.Folds.{find-append}
use Rattle.std.specs.Option.{option_or}
use Rattle.std.specs.Prelude.{is_none, slice_set, slice_get, slice_index_or, nat_lt, nat_le, Option, None, Some}
use Rattle.contexts.specs.Creating.{is_root, is_root_at, next_id, no_plugin, plugin_in, plugin_at, open_place, root_context, stream_context, root_created, stream_created, with_context, with_root, without_id, without_context, delete_id, freed, freed_of, is_referred, has_ended}
use Rattle.contexts.specs.Keyed.{first_of_number, without_first}
use Rattle.contexts.specs.Reached.{context_in, context_no, no_vm, vm_in, exchange_at, exchange_of}
use Rattle.contexts.specs.declared.parts.Context.{Context}
use Rattle.contexts.specs.declared.parts.Contexts.{Contexts}
use Rattle.contexts.specs.declared.parts.Plugin.{Plugin}
use Rattle.contexts.specs.declared.parts.VmContexts.{VmContexts}
use Rattle.gate_config.specs.declared.entries.PluginEntry.{PluginEntry}
use Rattle.law_roots.specs.Roots.{RootStands}
use Rattle.law_vms.specs.OwnChanges.{outline, outlines}
use Rattle.worker_model.specs.Plan.{Plan}
use Rattle.worker_model.specs.Steps.{has_vm, may_root, may_stream}
use Rattle.law_filters.proofs.Same.{pick, SameIds, same_itself, set_vm}

pub some_same : {A : Type 0} (a b : A) → Some a ≡ Some b → a ≡ b
some_same a b e = cc e

pub both_true : (a b : Bool) → (a && b) ≡ true → (a ≡ true) × (b ≡ true)
both_true true b h = (refl, h)
both_true false b h = absurd (cc h)

pub and_true : (a b : Bool) → a ≡ true → b ≡ true → (a && b) ≡ true
and_true a b x y = (λ i. x i && b) ∙ y

-- ---- what is known of ids

abbrev pub last_in : Contexts → ℕ → ℕ
last_in h vm = (vm_in h vm).last

-- An id that was drawn, and is that of no root
pub record IsItem (h : Contexts) (vm c : ℕ) : Type 0 where
  pub low : c ≤ last_in h vm
  pub no_root : (p : ℕ) → (plugin_in h p).vm ≡ vm → (plugin_in h p).root ≡ Some c → ⊥

abbrev Outline : Type 0
Outline = ℕ × ℕ × ℕ × Option ℕ

-- the ids are at most that
abbrev pub AreLow : ℕ → List (ℕ × ℕ × ℕ × Option ℕ) → Type 0
AreLow n [] = Unit {0}
AreLow n (o ∷ os) = (o.0 ≤ n) × AreLow n os

-- The ids of contexts are at most the last one drawn, those of roots too, and the table of plug-ins is that of the plan.
pub record AreDrawn (plan : Plan) (h : Contexts) : Type 0 where
  pub ids : (vm : ℕ) → AreLow (last_in h vm) (outlines h vm)
  pub within : (p root : ℕ) → (plugin_in h p).root ≡ Some root → root ≤ last_in h (plugin_in h p).vm
  pub table : (p : ℕ) (e : PluginEntry) → slice_get plan.plugins p ≡ Some e → may_root e.vm p h ≡ true
  pub few : length h.vms ≤ 16

-- ---- where ids stay the same

pub plugin_same : (h k : Contexts) → SameIds h k → (p : ℕ) → plugin_in k p ≡ plugin_in h p
plugin_same h k same p = ap (λ (ps : List Plugin). slice_index_or ps p no_plugin) same.plugins

pub item_same : (h k : Contexts) → SameIds h k → (vm c : ℕ) → IsItem h vm c → IsItem k vm c
item_same h k same vm c i = record {
  low = subst (λ (n : ℕ). c ≤ n) (sym (same.last vm)) i.low;
  no_root = λ p of is. i.no_root p (ap (λ (q : Plugin). q.vm) (sym (plugin_same h k same p)) ∙ of) (ap (λ (q : Plugin). q.root) (sym (plugin_same h k same p)) ∙ is);
}

may_root_same : (h k : Contexts) → SameIds h k → (vm p : ℕ) → may_root vm p k ≡ may_root vm p h
may_root_same h k same vm p = λ i. ((nat_lt vm (same.count i) && nat_le p 65535) && nat_lt p (length (same.plugins i))) && (plugin_same h k same p i).vm == vm

pub drawn_same : (plan : Plan) (h k : Contexts) → SameIds h k → AreDrawn plan h → AreDrawn plan k
drawn_same plan h k same d = record {
  ids = λ vm. subst (λ (n : ℕ). AreLow n (outlines k vm)) (sym (same.last vm)) (subst (AreLow (last_in h vm)) (sym (same.outlined vm)) (d.ids vm));
  within = λ p root is.
      (let q = plugin_same h k same p in
      subst (λ (n : ℕ). root ≤ n) (sym (ap (λ (x : Plugin). last_in k x.vm) q ∙ same.last (plugin_in h p).vm)) (d.within p root (ap (λ (x : Plugin). x.root) (sym q) ∙ is)));
  table = λ p e at. may_root_same h k same e.vm p ∙ d.table p e at;
  few = subst (λ (n : ℕ). n ≤ 16) (sym same.count) d.few;
}

-- ---- roots, by outlines

abbrev has_root : ℕ → List Outline → Bool
has_root id [] = false
has_root id (o ∷ os) = cond (o.0 == id) ((o.2 == id) && is_none o.3) (has_root id os)

by_case : (id : ℕ) (b : Bool) (c : Context) (o : Option Context) (rest : Bool) → is_root_at id o ≡ rest → is_root_at id (cond b (Some c) o) ≡ cond b ((c.root == id) && is_none c.exchange) rest
by_case id true c o rest ih = refl
by_case id false c o rest ih = ih

by_outlines : (id : ℕ) (cs : List Context) → is_root_at id (first_of_number context_no id cs) ≡ has_root id (map outline cs)
by_outlines id [] = refl
by_outlines id (c ∷ cs) = by_case id (c.id == id) c (first_of_number context_no id cs) (has_root id (map outline cs)) (by_outlines id cs)

pub root_same : (h k : Contexts) → SameIds h k → (p vm : ℕ) → RootStands h p vm → RootStands k p vm
root_same h k same p vm r =
    let both = both_true (has_vm vm h) (is_root h vm r.root) r.streams in
    let same_root : is_root k vm r.root ≡ is_root h vm r.root
    = by_outlines r.root (vm_in k vm).contexts ∙ (ap (has_root r.root) (same.outlined vm) ∙ sym (by_outlines r.root (vm_in h vm).contexts)) in
    record {
      root = r.root;
      is = ap (λ (x : Plugin). x.root) (plugin_same h k same p) ∙ r.is;
      streams = and_true (has_vm vm k) (is_root k vm r.root) (ap (λ (n : ℕ). nat_lt vm n) same.count ∙ both.0) (same_root ∙ both.1);
    }

-- ---- one context more

low_more : (n m : ℕ) (os : List Outline) → n ≤ m → AreLow n os → AreLow m os
low_more n m [] le low = tt
low_more n m (o ∷ os) le low = ((let a : o.0 ≤ m = omega (arith, le, low.0) in a), low_more n m os le low.1)

low_push : (n m : ℕ) (cs : List Context) (c : Context) → n ≤ m → c.id ≤ m → AreLow n (map outline cs) → AreLow m (map outline (cs ++ c ∷ []))
low_push n m [] c le one low = (one, tt)
low_push n m (x ∷ cs) c le one low = ((let b : x.id ≤ n = low.0 in let a : x.id ≤ m = omega (arith, le, b) in a), low_push n m cs c le one low.1)

-- of one VM among others: the new one, or as before
pub vm_cases : (vms : List VmContexts) (vm w : ℕ) (v : VmContexts) (P : ℕ → VmContexts → Type 0) → ((w ≡ vm) → P w v) → P w (slice_index_or vms w no_vm) → P w (slice_index_or (slice_set vms vm v) w no_vm)
vm_cases [] vm w v P new old = old
vm_cases (x ∷ vms) zero zero v P new old = new refl
vm_cases (x ∷ vms) zero (suc w) v P new old = old
vm_cases (x ∷ vms) (suc vm) zero v P new old = old
vm_cases (x ∷ vms) (suc vm) (suc w) v P new old = vm_cases vms vm w v (λ (n : ℕ) (y : VmContexts). P (suc n) y) (λ (e : w ≡ vm). new (ap suc e)) old

abbrev LowVm : ℕ → VmContexts → Type 0
LowVm n v = AreLow v.last (map outline v.contexts)

-- ids only grow
pub record Grows (h k : Contexts) : Type 0 where
  pub last : (vm : ℕ) → last_in h vm ≤ last_in k vm
  pub count : length k.vms ≡ length h.vms

still_root : (id : ℕ) (o x : Option Context) → is_root_at id o ≡ true → is_root_at id (option_or o x) ≡ true
still_root id None x h = absurd (cc h)
still_root id (Some c) x h = h

more_keeps : (id : ℕ) (c : Context) (v : VmContexts) → is_root_at id (first_of_number context_no id v.contexts) ≡ true → is_root_at id (first_of_number context_no id (with_context c v).contexts) ≡ true
more_keeps id c v h =
    ap (is_root_at id) (find-append (λ (x : Context). context_no x == id) v.contexts (c ∷ [])) ∙ still_root id (first_of_number context_no id v.contexts) (first_of_number context_no id (c ∷ [])) h

-- where the contexts of one VM change so, a root of any stays
pub set_keeps : (h : Contexts) (vm other id : ℕ) (v : VmContexts)
    → ((other ≡ vm) → is_root_at id (first_of_number context_no id (vm_in h other).contexts) ≡ true → is_root_at id (first_of_number context_no id v.contexts) ≡ true)
    → may_stream other id h ≡ true → may_stream other id (record h { vms = slice_set h.vms vm v }) ≡ true
set_keeps h vm other id v keeps may =
    let both = both_true (has_vm other h) (is_root h other id) may in
    and_true _ _ (ap (λ (n : ℕ). nat_lt other n) (length-set h.vms vm v) ∙ both.0)
    (vm_cases h.vms vm other v (λ (n : ℕ) (y : VmContexts). is_root_at id (first_of_number context_no id y.contexts) ≡ true) (λ (same : other ≡ vm). keeps same both.1) both.1)

-- what is drawn next
abbrev pub with_new : Contexts → (vm : ℕ) → Context → Contexts
with_new h vm c = record h { vms = slice_set h.vms vm (with_context c (vm_in h vm)) }

pub new_grows : (h : Contexts) (vm : ℕ) (c : Context) → c.id ≡ next_id h vm → Grows h (with_new h vm c)
new_grows h vm c is = record {
  last = λ w. vm_cases h.vms vm w (with_context c (vm_in h vm)) (λ (n : ℕ) (y : VmContexts). last_in h n ≤ y.last)
      (λ (same : w ≡ vm).
      (let one : c.id ≡ last_in h vm + 1 = is in
      let low : last_in h vm ≤ c.id = omega (arith, one) in
      subst (λ (n : ℕ). last_in h n ≤ c.id) (sym same) low))
      (let itself : last_in h w ≤ last_in h w = omega arith in itself);
  count = length-set h.vms vm (with_context c (vm_in h vm));
}

pub new_ids : (h : Contexts) (vm : ℕ) (c : Context) → c.id ≡ next_id h vm → ((w : ℕ) → AreLow (last_in h w) (outlines h w)) → (w : ℕ) → AreLow (last_in (with_new h vm c) w) (outlines (with_new h vm c) w)
new_ids h vm c is ids w =
    vm_cases h.vms vm w (with_context c (vm_in h vm)) LowVm
    (λ (same : w ≡ vm).
    (let one : c.id ≡ last_in h vm + 1 = is in
    let low : last_in h vm ≤ c.id = omega (arith, one) in
    let itself : c.id ≤ c.id = omega arith in
    low_push (last_in h vm) c.id (vm_in h vm).contexts c low itself (ids vm)))
    (ids w)

-- the new id is that of no context
not_among : (id : ℕ) (n : ℕ) (cs : List Context) → n < id → AreLow n (map outline cs) → first_of_number context_no id cs ≡ None
not_among id n [] less low = refl
not_among id n (c ∷ cs) less low =
    let apart : (c.id == id) ≡ false = ne_eqb c.id id (λ (e : c.id ≡ id). let b : c.id ≤ n = low.0 in omega (arith, e, less, b)) in
    ap (λ (b : Bool). cond b (Some c) (first_of_number context_no id cs)) apart ∙ not_among id n cs less low.1

pub next_is_new : (plan : Plan) (h : Contexts) (vm : ℕ) → AreDrawn plan h → context_in h vm (next_id h vm) ≡ None
next_is_new plan h vm d = let less : last_in h vm < last_in h vm + 1 = omega arith in not_among (next_id h vm) (last_in h vm) (vm_in h vm).contexts less (d.ids vm)

-- ---- a stream is made

abbrev pub new_stream : (vm root line : ℕ) → Contexts → Context
new_stream vm root line h = stream_context (next_id h vm) (plugin_at (context_in h vm root)) root (open_place line h.exchanges)

may_root_new : (h : Contexts) (vm w p : ℕ) (c : Context) → may_root w p (with_new h vm c) ≡ may_root w p h
may_root_new h vm w p c = ap (λ (n : ℕ). ((nat_lt w n && nat_le p 65535) && nat_lt p (length h.plugins)) && (plugin_in h p).vm == w) (length-set h.vms vm (with_context c (vm_in h vm)))

pub stream_drawn : (plan : Plan) (vm root line : ℕ) (h : Contexts) → AreDrawn plan h → AreDrawn plan (stream_created vm root line h)
stream_drawn plan vm root line h d =
    let c : Context = new_stream vm root line h in
    let grows : Grows h (with_new h vm c) = new_grows h vm c refl in
    record {
      ids = new_ids h vm c refl d.ids;
      within = λ p r is.
          (let old : r ≤ last_in h (plugin_in h p).vm = d.within p r is in
          let more : last_in h (plugin_in h p).vm ≤ last_in (with_new h vm c) (plugin_in h p).vm = grows.last (plugin_in h p).vm in
          let low : r ≤ last_in (with_new h vm c) (plugin_in h p).vm = omega (arith, old, more) in
          low);
      table = λ p e at. may_root_new h vm e.vm p c ∙ d.table p e at;
      few = subst (λ (n : ℕ). n ≤ 16) (sym grows.count) d.few;
    }

pub item_grows : (h k : Contexts) → Grows h k → k.plugins ≡ h.plugins → (vm c : ℕ) → IsItem h vm c → IsItem k vm c
item_grows h k grows same vm c i =
    let q : (p : ℕ) → plugin_in h p ≡ plugin_in k p = λ p. ap (λ (ps : List Plugin). slice_index_or ps p no_plugin) (sym same) in
    let more : last_in h vm ≤ last_in k vm = grows.last vm in
    let old : c ≤ last_in h vm = i.low in
    record {
      low = (let low : c ≤ last_in k vm = omega (arith, old, more) in low);
      no_root = λ p of is. i.no_root p (ap (λ (x : Plugin). x.vm) (q p) ∙ of) (ap (λ (x : Plugin). x.root) (q p) ∙ is);
    }

pub stream_root : (vm root line p other : ℕ) (h : Contexts) → RootStands h p other → RootStands (stream_created vm root line h) p other
stream_root vm root line p other h r =
    record { root = r.root; is = r.is; streams = set_keeps h vm other r.root _ (λ (same : other ≡ vm) is. more_keeps r.root (new_stream vm root line h) (vm_in h vm) (subst (λ (w : ℕ). is_root_at r.root (first_of_number context_no r.root (vm_in h w).contexts) ≡ true) same is)) r.streams }

-- the id of the new one
pub stream_item : (plan : Plan) (vm root line : ℕ) (h : Contexts) → AreDrawn plan h → vm < length h.vms → IsItem (stream_created vm root line h) vm (next_id h vm)
stream_item plan vm root line h d there =
    let c : Context = new_stream vm root line h in
    let last : last_in (with_new h vm c) vm ≡ next_id h vm = ap (λ (y : VmContexts). y.last) (get_or-set_same h.vms vm (with_context c (vm_in h vm)) no_vm there) in
    record {
      low = subst (λ (n : ℕ). next_id h vm ≤ n) (sym last) (let itself : next_id h vm ≤ next_id h vm = omega arith in itself);
      no_root = λ p of is.
          (let old : next_id h vm ≤ last_in h (plugin_in h p).vm = d.within p (next_id h vm) is in
          let here : last_in h vm + 1 ≤ last_in h vm = subst (λ (w : ℕ). next_id h vm ≤ last_in h w) of old in
          let never : ⊥ = omega (arith, here) in
          never);
    }

-- ---- a root is made

pub plugin_cases : (ps : List Plugin) (p q : ℕ) (x : Plugin) (P : Plugin → Type 0) → ((q ≡ p) → P x) → P (slice_index_or ps q no_plugin) → P (slice_index_or (slice_set ps p x) q no_plugin)
plugin_cases [] p q x P new old = old
plugin_cases (y ∷ ps) zero zero x P new old = new refl
plugin_cases (y ∷ ps) zero (suc q) x P new old = old
plugin_cases (y ∷ ps) (suc p) zero x P new old = old
plugin_cases (y ∷ ps) (suc p) (suc q) x P new old = plugin_cases ps p q x P (λ (e : q ≡ p). new (ap suc e)) old

module _ (plan : Plan) (vm p : ℕ) (h : Contexts) (d : AreDrawn plan h) (may : may_root vm p h ≡ true) where
  abbrev made : Contexts
  made = root_created vm p h

  abbrev c : Context
  c = root_context (next_id h vm) p

  all_may : (((nat_lt vm (length h.vms) ≡ true) × (nat_le p 65535 ≡ true)) × (nat_lt p (length h.plugins) ≡ true)) × (((plugin_in h p).vm == vm) ≡ true)
  all_may = let a = both_true _ _ may in let b = both_true _ _ a.0 in let e = both_true _ _ b.0 in ((e, b.1), a.1)

  there : vm < length h.vms
  there = ltb-true vm (length h.vms) all_may.0.0.0

  its_vm : (plugin_in h p).vm ≡ vm
  its_vm = eqb-true (plugin_in h p).vm vm all_may.1

  its_last : last_in made vm ≡ next_id h vm
  its_last = ap (λ (y : VmContexts). y.last) (get_or-set_same h.vms vm (with_context c (vm_in h vm)) no_vm there)

  -- each plug-in has its VM still
  vm_kept : (q : ℕ) → (plugin_in made q).vm ≡ (plugin_in h q).vm
  vm_kept q = plugin_cases h.plugins p q (with_root (next_id h vm) (plugin_in h p)) (λ (x : Plugin). x.vm ≡ (plugin_in h q).vm) (λ (e : q ≡ p). ap (λ (n : ℕ). (plugin_in h n).vm) (sym e)) refl

  -- its root is as it was, or the new one
  root_cases : (q : ℕ) → ((plugin_in made q).root ≡ (plugin_in h q).root) ⊎ ((q ≡ p) × ((plugin_in made q).root ≡ Some (next_id h vm)))
  root_cases q =
      plugin_cases h.plugins p q (with_root (next_id h vm) (plugin_in h p)) (λ (x : Plugin). (x.root ≡ (plugin_in h q).root) ⊎ ((q ≡ p) × (x.root ≡ Some (next_id h vm)))) (λ (e : q ≡ p). inr (e, refl)) (inl refl)

  pub root_grows : Grows h made
  root_grows = record { last = λ w. (new_grows h vm c refl).last w; count = (new_grows h vm c refl).count }

  pub root_drawn : AreDrawn plan made
  root_drawn = record {
    ids = new_ids h vm c refl d.ids;
    within = λ q r is.
        ⊎_elim
        (λ (old : (plugin_in made q).root ≡ (plugin_in h q).root).
        (let low : r ≤ last_in h (plugin_in h q).vm = d.within q r (sym old ∙ is) in
        let more : last_in h (plugin_in h q).vm ≤ last_in made (plugin_in h q).vm = root_grows.last (plugin_in h q).vm in
        let all : r ≤ last_in made (plugin_in h q).vm = omega (arith, low, more) in
        subst (λ (w : ℕ). r ≤ last_in made w) (sym (vm_kept q)) all))
        (λ (new : (q ≡ p) × ((plugin_in made q).root ≡ Some (next_id h vm))).
        (let same : next_id h vm ≡ r = some_same (next_id h vm) r (sym new.1 ∙ is) in
        let of : (plugin_in made q).vm ≡ vm = vm_kept q ∙ (ap (λ (n : ℕ). (plugin_in h n).vm) new.0 ∙ its_vm) in
        let low : r ≤ last_in made vm = subst (λ (n : ℕ). r ≤ n) (sym (its_last ∙ same)) (let itself : r ≤ r = omega arith in itself) in
        subst (λ (w : ℕ). r ≤ last_in made w) (sym of) low))
        (root_cases q);
    table = λ q e at.
        (let old = d.table q e at in
        (λ i. ((nat_lt e.vm (length-set h.vms vm (with_context c (vm_in h vm)) i) && nat_le q 65535) && nat_lt q (length-set h.plugins p (with_root (next_id h vm) (plugin_in h p)) i)) && (vm_kept q i) == e.vm) ∙ old);
    few = subst (λ (n : ℕ). n ≤ 16) (sym root_grows.count) d.few;
  }

  pub root_item : (w id : ℕ) → IsItem h w id → IsItem made w id
  root_item w id i =
      let more : last_in h w ≤ last_in made w = root_grows.last w in
      let old : id ≤ last_in h w = i.low in
      record {
        low = (let low : id ≤ last_in made w = omega (arith, old, more) in low);
        no_root = λ q of is.
            ⊎_elim (λ (kept : (plugin_in made q).root ≡ (plugin_in h q).root). i.no_root q (sym (vm_kept q) ∙ of) (sym kept ∙ is))
            (λ (new : (q ≡ p) × ((plugin_in made q).root ≡ Some (next_id h vm))).
            (let same : next_id h vm ≡ id = some_same (next_id h vm) id (sym new.1 ∙ is) in
            let its : w ≡ vm = sym of ∙ (vm_kept q ∙ (ap (λ (n : ℕ). (plugin_in h n).vm) new.0 ∙ its_vm)) in
            let here : id ≤ last_in h vm = subst (λ (n : ℕ). id ≤ last_in h n) its old in
            let next : last_in h vm + 1 ≡ id = same in
            let never : ⊥ = omega (arith, here, next) in
            never))
            (root_cases q);
      }

  new_root : is_root_at (next_id h vm) (first_of_number context_no (next_id h vm) (with_context c (vm_in h vm)).contexts) ≡ true
  new_root =
      let id = next_id h vm in
      let none : first_of_number context_no id (vm_in h vm).contexts ≡ None = next_is_new plan h vm d in
      ap (is_root_at id) (find-append (λ (x : Context). context_no x == id) (vm_in h vm).contexts (c ∷ []))
      ∙ (ap (λ (x : Option Context). is_root_at id (option_or x (cond (context_no c == id) (Some c) None))) none
      ∙ (ap (λ (b : Bool). is_root_at id (cond b (Some c) None)) (eq-eqb id id refl) ∙ ap (λ (b : Bool). b && true) (eq-eqb id id refl)))

  pub root_made : RootStands made p vm
  root_made = record {
    root = next_id h vm;
    is = ap (λ (x : Plugin). x.root) (get_or-set_same h.plugins p (with_root (next_id h vm) (plugin_in h p)) no_plugin (ltb-true p (length h.plugins) all_may.0.1));
    streams = and_true _ _ (ap (λ (n : ℕ). nat_lt vm n) (length-set h.vms vm (with_context c (vm_in h vm))) ∙ all_may.0.0.0)
        (ap (λ (x : VmContexts). is_root_at (next_id h vm) (first_of_number context_no (next_id h vm) x.contexts)) (get_or-set_same h.vms vm (with_context c (vm_in h vm)) no_vm there) ∙ new_root);
  }

  -- the root of another plug-in stays
  pub root_kept : (q other : ℕ) → (q ≡ p → ⊥) → RootStands h q other → RootStands made q other
  root_kept q other apart r = record {
    root = r.root;
    is = ⊎_elim (λ (kept : (plugin_in made q).root ≡ (plugin_in h q).root). kept ∙ r.is) (λ (new : (q ≡ p) × ((plugin_in made q).root ≡ Some (next_id h vm))). absurd (apart new.0)) (root_cases q);
    streams = set_keeps h vm other r.root _ (λ (same : other ≡ vm) is. more_keeps r.root c (vm_in h vm) (subst (λ (w : ℕ). is_root_at r.root (first_of_number context_no r.root (vm_in h w).contexts) ≡ true) same is)) r.streams;
  }

-- ---- a context is taken away

other_found : (id gone : ℕ) (cs : List Context) → (id ≡ gone → ⊥) → first_of_number context_no id (without_first context_no gone cs) ≡ first_of_number context_no id cs
other_found id gone [] apart = refl
other_found id gone (c ∷ cs) apart = by_test (other_found id gone cs apart) (c.id == gone) refl
  where
    by_test : first_of_number context_no id (without_first context_no gone cs) ≡ first_of_number context_no id cs → (b : Bool) → (c.id == gone) ≡ b
        → first_of_number context_no id (cond b cs (c ∷ without_first context_no gone cs)) ≡ cond (c.id == id) (Some c) (first_of_number context_no id cs)
    by_test later true is =
        let no : (c.id == id) ≡ false = ne_eqb c.id id (λ (e : c.id ≡ id). apart (sym e ∙ eqb-true c.id gone is)) in
        sym (ap (λ (b : Bool). cond b (Some c) (first_of_number context_no id cs)) no)
    by_test later false is = ap (λ (o : Option Context). cond (c.id == id) (Some c) o) later

low_without : (n gone : ℕ) (cs : List Context) → AreLow n (map outline cs) → AreLow n (map outline (without_first context_no gone cs))
low_without n gone [] low = tt
low_without n gone (c ∷ cs) low = by_test (low_without n gone cs low.1) (c.id == gone)
  where
    by_test : AreLow n (map outline (without_first context_no gone cs)) → (b : Bool) → AreLow n (map outline (cond b cs (c ∷ without_first context_no gone cs)))
    by_test later true = low.1
    by_test later false = (low.0, later)

-- the place of an exchange may be free again: that is no matter of ids
pub freed_same : (n : ℕ) (h : Contexts) → SameIds h (freed n h)
freed_same n h = pick (SameIds h) (has_ended (exchange_at h.exchanges n) && not (is_referred n h.vms)) (record h { exchanges = slice_set h.exchanges n None }) h (record { outlined = λ vm. refl; last = λ vm. refl; count = refl; plugins = refl }) (same_itself h)

freed_of_same : (o : Option ℕ) (h : Contexts) → SameIds h (freed_of o h)
freed_of_same None h = same_itself h
freed_of_same (Some n) h = freed_same n h

module _ (plan : Plan) (vm id : ℕ) (h : Contexts) (d : AreDrawn plan h) (i : IsItem h vm id) where
  abbrev left : Contexts
  left = without_context vm id h

  then_freed : SameIds left (delete_id vm id h)
  then_freed = freed_of_same (exchange_of (context_in h vm id)) left

  left_last : (w : ℕ) → last_in left w ≡ last_in h w
  left_last w = set_vm (λ (v : VmContexts). v.last) h.vms vm w (without_id id (vm_in h vm)) refl

  left_drawn : AreDrawn plan left
  left_drawn = record {
    ids = λ w. vm_cases h.vms vm w (without_id id (vm_in h vm)) LowVm (λ (same : w ≡ vm). low_without (last_in h vm) id (vm_in h vm).contexts (d.ids vm)) (d.ids w);
    within = λ p r is. subst (λ (n : ℕ). r ≤ n) (sym (left_last (plugin_in h p).vm)) (d.within p r is);
    table = λ p e at.
        ap (λ (n : ℕ). ((nat_lt e.vm n && nat_le p 65535) && nat_lt p (length h.plugins)) && (plugin_in h p).vm == e.vm) (length-set h.vms vm (without_id id (vm_in h vm))) ∙ d.table p e at;
    few = subst (λ (n : ℕ). n ≤ 16) (sym (length-set h.vms vm (without_id id (vm_in h vm)))) d.few;
  }

  pub delete_drawn : AreDrawn plan (delete_id vm id h)
  delete_drawn = drawn_same plan left (delete_id vm id h) then_freed left_drawn

  pub delete_item : (w c : ℕ) → IsItem h w c → IsItem (delete_id vm id h) w c
  delete_item w c j = item_same left (delete_id vm id h) then_freed w c (record { low = subst (λ (n : ℕ). c ≤ n) (sym (left_last w)) j.low; no_root = j.no_root })

  pub delete_root : (p other : ℕ) → (plugin_in h p).vm ≡ other → RootStands h p other → RootStands (delete_id vm id h) p other
  delete_root p other of r =
      root_same left (delete_id vm id h) then_freed p other
      (record {
        root = r.root;
        is = r.is;
        streams = set_keeps h vm other r.root (without_id id (vm_in h vm))
            (λ (same : other ≡ vm) is.
            ap (is_root_at r.root) (other_found r.root id (vm_in h vm).contexts (λ (e : r.root ≡ id). i.no_root p (of ∙ same) (r.is ∙ ap (λ (n : ℕ). Some n) e)))
            ∙ subst (λ (w : ℕ). is_root_at r.root (first_of_number context_no r.root (vm_in h w).contexts) ≡ true) same is) r.streams;
      })
