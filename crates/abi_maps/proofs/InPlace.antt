-- A map that is taken out, changed and put in again.
use Rattle.std.proofs.Common.{◌≡◌, ◌<◌, ◌≤◌, ℕ, zero, suc, ◌==◌, Bool, true, false, cond, List, [], ◌∷◌, length, Option, None, Some, Result, Ok, Err, refl, sym, ap, ◌∙◌}
use Rattle.std.specs.Prelude.{slice_set, if◌then◌else◌, IfOk, OnOk, OnErr, IsErr}
use Rattle.std.specs.Option.{option_map}
use Rattle.std.proofs.lemmas.Bool.{le-ltb}
use Rattle.header_maps.specs.declared.end.HeaderEnd.{HeaderEnd}
use Rattle.header_maps.specs.declared.end.HeaderEnd.TheVariants.{BadName, BadValue, TooMany, OutOfMemory}
use Rattle.header_maps.specs.Faults.{Fault, bad_name, bad_value, too_many, fault_of}
use Rattle.header_maps.specs.Headers.{Headers}
use Rattle.contexts.specs.declared.parts.Maps.{Maps}
use Rattle.contexts.specs.declared.parts.ExchangeView.{ExchangeView}
use Rattle.contexts.specs.declared.parts.ExchangeEntry.{ExchangeEntry}
use Rattle.contexts.specs.declared.parts.Context.{Context}
use Rattle.contexts.specs.declared.parts.VmContexts.{VmContexts}
use Rattle.contexts.specs.declared.parts.Contexts.{Contexts}
use Rattle.contexts.specs.Reached.{no_changes, vm_in, no_vm, context_in, exchange_at, view_at, view_in, with_view, contexts_after, exchanges_by, exchanges_after, put, reach_by, seen}
use Rattle.contexts.proofs.Places.{none_is, from_some, nothing_behind, set_same}
use Rattle.abi_model.specs.Calls.{Made, answers}
use Rattle.abi_model.specs.declared.ends.Outcome.{Outcome}
use Rattle.abi_maps.specs.Maps.{map_at, map_in, there, with_map, without_map, IsTold, unless, on_map, mapped, no_change, changing_map}

-- ---- an exchange whose view is put in as it was, and contexts of which nothing is changed

view_back : (x : Option ExchangeEntry) (v : ExchangeView) → option_map (λ (y : ExchangeEntry). y.view) x ≡ Some v → option_map (with_view v) x ≡ x
view_back None v is = absurd (none_is is)
view_back (Some e) v is = λ j. Some (record e { view = from_some (sym is) j })

same_view : (n : ℕ) (v : ExchangeView) (xs : List (Option ExchangeEntry)) → view_at xs n ≡ Some v → slice_set xs n (option_map (with_view v) (exchange_at xs n)) ≡ xs
same_view n v [] is = absurd (none_is is)
same_view zero v (x ∷ xs) is = ap (λ y. y ∷ xs) (view_back x v is)
same_view (suc n) v (x ∷ xs) is = ap (λ ys. x ∷ ys) (same_view n v xs is)

place_back : (m : Option ℕ) (xs : List (Option ExchangeEntry)) (v : ExchangeView) → view_in xs m ≡ Some v → exchanges_by (record no_changes { exchange = Some v }) m xs ≡ xs
place_back None xs v is = refl
place_back (Some n) xs v is = same_view n v xs is

seen_back : (o : Option Context) (h : Contexts) (w : VmContexts) (v : ExchangeView) → (reach_by h w o).exchange ≡ Some v → exchanges_after (record no_changes { exchange = Some v }) o h.exchanges ≡ h.exchanges
seen_back None h w v is = refl
seen_back (Some c) h w v is = place_back c.exchange h.exchanges v is

no_contexts : (e : ℕ) (o : Option Context) (cs : List Context) (v : ExchangeView) → contexts_after (record no_changes { exchange = Some v }) e o cs ≡ cs
no_contexts e None cs v = refl
no_contexts e (Some c) cs v = refl

view_kept : (h : Contexts) (vm : ℕ) (v : ExchangeView) → vm < length h.vms → (seen h vm).reach.exchange ≡ Some v → put (record no_changes { exchange = Some v }) vm h ≡ h
view_kept h vm v within is =
    let w = vm_in h vm in
    (λ j. record h {
      vms = slice_set h.vms vm (record w { contexts = no_contexts w.effective (context_in h vm w.effective) w.contexts v j });
      exchanges = seen_back (context_in h vm w.effective) h w v is j;
      effects = nothing_behind h.effects j;
    })
    ∙ (λ j. record h { vms = set_same h.vms vm no_vm within j })

none_after : (e : ℕ) (o : Option Context) (cs : List Context) → contexts_after no_changes e o cs ≡ cs
none_after e None cs = refl
none_after e (Some c) cs = refl

none_by : (m : Option ℕ) (xs : List (Option ExchangeEntry)) → exchanges_by no_changes m xs ≡ xs
none_by None xs = refl
none_by (Some n) xs = refl

none_changed : (o : Option Context) (xs : List (Option ExchangeEntry)) → exchanges_after no_changes o xs ≡ xs
none_changed None xs = refl
none_changed (Some c) xs = none_by c.exchange xs

nothing_put : (h : Contexts) (vm : ℕ) → vm < length h.vms → put no_changes vm h ≡ h
nothing_put h vm within =
    let w = vm_in h vm in
    (λ j. record h {
      vms = slice_set h.vms vm (record w { contexts = none_after w.effective (context_in h vm w.effective) w.contexts j });
      exchanges = none_changed (context_in h vm w.effective) h.exchanges j;
      effects = nothing_behind h.effects j;
    })
    ∙ (λ j. record h { vms = set_same h.vms vm no_vm within j })

-- ---- the maps of an exchange

abbrev with_by : (a b c : Bool) → Headers → Maps → Maps
with_by a b c l m = cond a (record m { request = Some l }) (cond b (record m { request_trailers = Some l }) (cond c (record m { response = Some l }) (record m { response_trailers = Some l })))

abbrev without_by : (a b c d : Bool) → Maps → Maps
without_by a b c d m = cond a (record m { request = None }) (cond b (record m { request_trailers = None }) (cond c (record m { response = None }) (cond d (record m { response_trailers = None }) m)))

in_again : (a b c d : Bool) (l : Headers) (m : Maps) → with_by a b c l (without_by a b c d m) ≡ with_by a b c l m
in_again true b c d l m = refl
in_again false true c d l m = refl
in_again false false true d l m = refl
in_again false false false true l m = refl
in_again false false false false l m = refl

kept_by : (a b c d : Bool) (l : Headers) (m : Maps) → cond a m.request (cond b m.request_trailers (cond c m.response (cond d m.response_trailers None))) ≡ Some l → with_by a b c l m ≡ m
kept_by true b c d l m is = λ j. record m { request = sym is j }
kept_by false true c d l m is = λ j. record m { request_trailers = sym is j }
kept_by false false true d l m is = λ j. record m { response = sym is j }
kept_by false false false true l m is = λ j. record m { response_trailers = sym is j }
kept_by false false false false l m is = absurd (none_is is)

gone_by : (a b c d : Bool) (m : Maps) → cond a m.request (cond b m.request_trailers (cond c m.response (cond d m.response_trailers None))) ≡ None → without_by a b c d m ≡ m
gone_by true b c d m is = λ j. record m { request = sym is j }
gone_by false true c d m is = λ j. record m { request_trailers = sym is j }
gone_by false false true d m is = λ j. record m { response = sym is j }
gone_by false false false true m is = λ j. record m { response_trailers = sym is j }
gone_by false false false false m is = refl

-- ---- what each call sees of the map

abbrev by_view : (none n : ℕ) → Option ExchangeView → Bool → (Headers → Result Headers ℕ) → Made
by_view none n e b g = if b then answers none else mapped n e (on_map (there (map_in n e)) g)

module _ (h : Contexts) (vm n : ℕ) (g : Headers → Result Headers ℕ) (within : vm < length h.vms) (bound : n ≤ 5) (v : ExchangeView) (is : (seen h vm).reach.exchange ≡ Some v) where
  abbrev with_maps : Maps → Contexts
  with_maps m = put (record no_changes { exchange = Some (record v { maps = m }) }) vm h

  viewed : changing_map n g (seen h vm) ≡ mapped n (Some v) (on_map (there (map_at n v.maps)) g)
  viewed = λ j. by_view (no_change n (seen h vm)) n (is j) (le-ltb 5 n bound j) g

  -- the map is not there
  absent : map_at n v.maps ≡ None → changing_map n g (seen h vm) ≡ answers 1
  absent none = viewed ∙ ap (λ o. mapped n (Some v) (on_map (there o) g)) none

  pub no_map : (after : Maps) → map_at n v.maps ≡ None → after ≡ without_map n v.maps → with_maps after ≡ put (changing_map n g (seen h vm)).changes vm h
  no_map after none out =
      ap with_maps (out ∙ gone_by (n == 0) (n == 1) (n == 2) (n == 3) v.maps none)
      ∙ view_kept h vm v within is
      ∙ sym (ap (λ (m : Made). put m.changes vm h) (absent none) ∙ nothing_put h vm within)

  -- the map is there: it becomes k where there is no fault f
  module _ (l k : Headers) (f : Option Fault) (at : map_at n v.maps ≡ Some l) (made : g l ≡ unless f k) (out after : Maps) (new : Headers)
      (taken : out ≡ without_map n v.maps) (back : after ≡ with_map n new out) where
    changed_is : changing_map n g (seen h vm) ≡ mapped n (Some v) (unless f k)
    changed_is = viewed ∙ ap (λ o. mapped n (Some v) (on_map (there o) g)) at ∙ ap (mapped n (Some v)) made

    after_is : after ≡ with_map n new v.maps
    after_is = back ∙ ap (with_map n new) taken ∙ in_again (n == 0) (n == 1) (n == 2) (n == 3) new v.maps

    -- it stays as it was
    stays : new ≡ l → with_maps after ≡ h
    stays same = ap with_maps (after_is ∙ ap (λ x. with_map n x v.maps) same ∙ kept_by (n == 0) (n == 1) (n == 2) (n == 3) l v.maps at) ∙ view_kept h vm v within is

    refused_by : (b : Fault) → new ≡ l → f ≡ Some b → with_maps after ≡ put (mapped n (Some v) (unless f k)).changes vm h
    refused_by b same fault = stays same ∙ sym (ap (λ x. put (mapped n (Some v) (unless x k)).changes vm h) fault ∙ nothing_put h vm within)

    put_by : {A : Type 0} (end : Result A HeaderEnd) (o : Outcome) → IsTold end o → fault_of end ≡ f → OnOk end (new ≡ k) → OnErr end (new ≡ l) → with_maps after ≡ put (mapped n (Some v) (unless f k)).changes vm h
    put_by (Ok x) o said fault ok err = ap with_maps (after_is ∙ ap (λ y. with_map n y v.maps) ok) ∙ ap (λ y. put (mapped n (Some v) (unless y k)).changes vm h) fault
    put_by (Err BadName) o said fault ok err = refused_by bad_name err (sym fault)
    put_by (Err BadValue) o said fault ok err = refused_by bad_value err (sym fault)
    put_by (Err TooMany) o said fault ok err = refused_by too_many err (sym fault)
    put_by (Err OutOfMemory) o said fault ok err = absurd said

    pub changes_are : {A E : Type 0} (r : Result Outcome E) (end : Result A HeaderEnd) → IfOk r (IsTold end) → fault_of end ≡ f → OnOk end (new ≡ k) → OnErr end (new ≡ l)
        → IfOk r (λ _. with_maps after ≡ put (changing_map n g (seen h vm)).changes vm h)
    changes_are (Ok o) end said fault ok err = put_by end o said fault ok err ∙ sym (ap (λ (m : Made). put m.changes vm h) changed_is)
    changes_are (Err e) end said fault ok err = said

    stays_by : {A : Type 0} (end : Result A HeaderEnd) → IsErr end → OnErr end (new ≡ l) → with_maps after ≡ h
    stays_by (Ok x) is_err err = cc
    stays_by (Err e) is_err err = stays err

    pub nothing_changed : {A E : Type 0} (r : Result Outcome E) (end : Result A HeaderEnd) → OnErr r (IsErr end) → OnErr end (new ≡ l) → OnErr r (with_maps after ≡ h)
    nothing_changed (Ok o) end is_err err = is_err
    nothing_changed (Err e) end is_err err = stays_by end is_err err
