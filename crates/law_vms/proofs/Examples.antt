-- The worked contexts of two VMs.
use Rattle.std.proofs.Common.{◌≡◌, ℕ, ◌==◌, Bool, true, false, cond, List, Option, None, Some, refl, ap, sym, subst, ◌∙◌, arith, codes}
use Rattle.std.proofs.lemmas.Option.{none-some}
use Rattle.std.proofs.lemmas.List.{get_or-set_other}
use Rattle.std.specs.Option.{option_map}
use Rattle.contexts.proofs.Places.{from_some}
use Rattle.contexts.specs.Examples.{host, set}
use Rattle.contexts.specs.Keyed.{first_of_number}
use Rattle.contexts.specs.Properties.{property_of}
use Rattle.contexts.specs.Reached.{no_vm, common_of, reach_by, seen_of, exchange_of, context_no, vm_in}
use Rattle.contexts.specs.Creating.{root_context, stream_context}
use Rattle.contexts.specs.declared.parts.Context.{Context}
use Rattle.contexts.specs.declared.parts.VmContexts.{VmContexts}
use Rattle.law_vms.specs.Examples.{together, separate, closes, calls, IsolationExamples}
use Rattle.law_vms.specs.OwnChanges.{HasNoneAt, ChangesItsOwn}
use Rattle.law_vms.specs.OwnEffects.{IsEffectOf}
use Rattle.law_vms.specs.OwnStores.{IsRootOf}
use Rattle.law_vms.specs.SeesItsOwn.{LookTheSame, ShareNone}

-- one of two
of_two : (P : Context → Type 0) (b d : Bool) (x y c : Context) → cond b (Some x) (cond d (Some y) None) ≡ Some c → P x → P y → P c
of_two P true d x y c is px py = subst P (from_some is) px
of_two P false true x y c is px py = subst P (from_some is) py
of_two P false false x y c is px py = absurd (none-some c is)

abbrev NotAt : ℕ → Context → Type 0
NotAt n c = c.exchange ≡ Some n → ⊥

-- the contexts of VM 1, and the first stream of VM 0
abbrev stream : Context
stream = stream_context 2 1 1 (Some 0)

none_there : HasNoneAt host 1 1
none_there e c is =
    of_two (NotAt 1) (1 == e) (2 == e) (root_context 1 1) stream c is (λ of. none-some 1 of) (λ of. (let same : 0 ≡ 1 = from_some of in omega (arith, same)))

one_there : HasNoneAt host 1 0 → ⊥
one_there none = none 2 stream refl refl

shared : ShareNone host 0 1 → ⊥
shared none = none 2 0 stream refl refl 2 (stream_context 2 0 1 (Some 0)) refl refl

-- the property of the first stream of a VM 0
abbrev property_in : VmContexts → Option (Option (List ℕ))
property_in v = option_map (λ (c : Context). property_of (codes "k") c.own.properties) (first_of_number context_no 2 v.contexts)

was_set : vm_in set 0 ≡ vm_in host 0 → ⊥
was_set same =
    let values : Some (Some (codes "v")) ≡ Some None = ap property_in same in
    none-some (codes "v") (sym (from_some values))

changed : ChangesItsOwn 0 host set
changed = record {
  others = λ other is. get_or-set_other host.vms 0 other (vm_in set 0) no_vm is;
  exchanges = λ n none. refl;
  name = refl;
  configuration = refl;
  last = refl;
  outlined = refl;
  count = refl;
  places = refl;
  lines = λ n. refl;
  plugins = refl;
  level = refl;
  random_key = refl;
  calls = refl;
  is_tcp = refl;
}

not_another : ChangesItsOwn 1 host set → ⊥
not_another own = was_set (own.others 0 (λ is. omega (arith, is)))

unseen : LookTheSame 1 host set
unseen = record {
  own = refl;
  plugins = λ e c is. refl;
  views = λ e n c is of. refl;
  names = refl;
  level = refl;
  effects = refl;
  random_key = refl;
  random_place = refl;
  calls = refl;
  is_tcp = refl;
}

of_root : IsEffectOf host 0 (closes 1) → ⊥
of_root is =
    let on : (n : ℕ) × (is.0.exchange ≡ Some n) = is.2 in
    none-some on.0 (ap (λ (c : Context). c.exchange) (from_some is.1) ∙ on.1)

of_another : IsEffectOf host 1 (closes 3) → ⊥
of_another is = none-some is.0 is.1

call_for_another : IsEffectOf host 0 (calls 1 1 1) → ⊥
call_for_another is = (let same : 1 ≡ 0 = is.2.0 in omega (arith, same))

call_for_a_stream : IsEffectOf host 0 (calls 1 0 2) → ⊥
call_for_a_stream is = (let same : 2 ≡ 1 = is.2.1 in omega (arith, same))

-- one of three
of_three : (P : Context → Type 0) (b d f : Bool) (x y z c : Context) → cond b (Some x) (cond d (Some y) (cond f (Some z) None)) ≡ Some c → P x → P y → P z → P c
of_three P true d f x y z c is px py pz = subst P (from_some is) px
of_three P false d f x y z c is px py pz = of_two P d f y z c is py pz

abbrev HasRoot1 : Context → Type 0
HasRoot1 c = c.root ≡ 1

not_by_stream : IsRootOf host 0 2 → ⊥
not_by_stream is =
    let one : is.1.root ≡ 1 = of_three HasRoot1 (1 == is.0) (2 == is.0) (3 == is.0) (root_context 1 0) (stream_context 2 0 1 (Some 0)) (stream_context 3 0 1 (Some 1)) is.1 is.2 refl refl refl in
    let two : is.1.root ≡ 2 = is.3 in
    omega (arith, one, two)

-- ---- streams of one exchange and of two

-- the same reach, whichever context it is
reach_alike : (b d f : Bool) → reach_by together (vm_in together 0) (cond b (Some (root_context 1 0)) (cond d (Some (stream_context 2 0 1 (Some 0))) (cond f (Some (stream_context 3 0 1 (Some 0))) None)))
    ≡ reach_by separate (vm_in separate 0) (cond b (Some (root_context 1 0)) (cond d (Some (stream_context 2 0 1 (Some 0))) (cond f (Some (stream_context 3 0 1 (Some 1))) None)))
reach_alike true d f = refl
reach_alike false true f = refl
reach_alike false false true = refl
reach_alike false false false = refl

alike : (e : ℕ) → seen_of together 0 e ≡ seen_of separate 0 e
alike e = λ i. record { common = common_of together (vm_in together 0); reach = reach_alike (1 == e) (2 == e) (3 == e) i }

not_one : ◌≡◌ {A = Option ℕ} (Some 0) (Some 1) → ⊥
not_one same = let no : 0 ≡ 1 = from_some same in omega (arith, no)

pub isolation_examples : IsolationExamples
isolation_examples = record {
  outlined = refl;
  first_line = refl;
  second_line = refl;
  no_line = refl;
  none_there = none_there;
  one_there = one_there;
  shared = shared;
  changed = changed;
  not_another = not_another;
  unseen = unseen;
  seen = λ same. was_set (sym same.own);
  of_stream = (stream_context 3 0 1 (Some 1), refl, (1, refl));
  of_root = of_root;
  of_another = of_another;
  call_of_root = (root_context 1 0, refl, (refl, refl));
  call_for_another = call_for_another;
  call_for_a_stream = call_for_a_stream;
  marks = refl;
  line = (omega arith, omega arith);
  above = (omega arith, omega arith);
  below = λ is. (let no = is.0 in omega (arith, no));
  bytes = λ is. is;
  in_step = (refl, refl, λ r. refl);
  out_of_step = λ is. (let no = is.0 in omega (arith, no));
  own_value = refl;
  another_value = λ is. omega (arith, is);
  queue = (omega arith, refl);
  another_queue = λ is. (let no = is.1 in omega (arith, no));
  no_such_vm = λ is. omega (arith, is);
  registered = (refl, (1, root_context 1 0, refl, refl));
  not_by_stream = λ is. not_by_stream is.1;
  takes_part = λ x. refl;
  not_yet = λ x. refl;
  no_more = λ x. refl;
  another_part = λ x. refl;
  looks_alike = alike;
  not_the_same = λ same. not_one (ap (λ (v : VmContexts). exchange_of (first_of_number context_no 3 v.contexts)) same.own);
  told_together = refl;
  not_told_apart = refl;
}
