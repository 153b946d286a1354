-- A call for a callout that is refused changes nothing; and what it is once its parts were judged.
use Rattle.std.proofs.Common.{◌≡◌, ◌<◌, ℕ, Bool, true, List, Option, None, Some, length, refl, sym, ap, ◌∙◌, subst}
use Rattle.std.proofs.lemmas.Bool.{false≢true}
use Rattle.std.specs.Prelude.{slice_set, bytes_eq, is_some, if◌then◌else◌}
use Rattle.contexts.proofs.Places.{nothing_behind, set_same}
use Rattle.contexts.specs.declared.parts.Context.{Context}
use Rattle.contexts.specs.declared.parts.Contexts.{Contexts}
use Rattle.contexts.specs.declared.parts.ExchangeEntry.{ExchangeEntry}
use Rattle.contexts.specs.declared.parts.Own.{Own}
use Rattle.contexts.specs.declared.parts.Request.{Request}
use Rattle.contexts.specs.Reached.{Seen, no_changes, no_vm, vm_in, context_in, contexts_after, exchanges_by, exchanges_after, put}
use Rattle.header_maps.specs.Faults.{Fault}
use Rattle.header_maps.specs.Pairs.{Pair}
use Rattle.pair_codec.specs.Reading.{pairs_in}
use Rattle.abi_model.specs.Calls.{answers}
use Rattle.abi_model.specs.declared.opening.Inputs.{Inputs}
use Rattle.abi_services.specs.Callouts.{upstream, refusal_of, begun_unless, calling_with, calling_of, calling_by}

none_after : (e : ℕ) (o : Option Context) (cs : List Context) → contexts_after no_changes e o cs ≡ cs
none_after e None cs = refl
none_after e (Some c) cs = refl

none_by : (m : Option ℕ) (xs : List (Option ExchangeEntry)) → exchanges_by no_changes m xs ≡ xs
none_by None xs = refl
none_by (Some n) xs = refl

none_seen : (o : Option Context) (xs : List (Option ExchangeEntry)) → exchanges_after no_changes o xs ≡ xs
none_seen None xs = refl
none_seen (Some c) xs = none_by c.exchange xs

nothing_put : (vm : ℕ) (h : Contexts) → vm < length h.vms → put no_changes vm h ≡ h
nothing_put vm h within =
    let v = vm_in h vm in
    (λ i. record h {
      vms = slice_set h.vms vm (record v { contexts = none_after v.effective (context_in h vm v.effective) v.contexts i });
      exchanges = none_seen (context_in h vm v.effective) h.exchanges i;
      effects = nothing_behind h.effects i;
    })
    ∙ (λ i. record h { vms = set_same h.vms vm no_vm within i })

-- the faults that were found are those of the pairs
pub refused_same : (found_headers headers found_trailers trailers : Option Fault) (no_room : Bool) (status : ℕ) (q : Request) (s : Seen) (vm : ℕ) (h : Contexts) → vm < length h.vms
    → found_headers ≡ headers → found_trailers ≡ trailers → refusal_of found_headers found_trailers no_room ≡ Some status
    → h ≡ put (begun_unless (refusal_of headers trailers no_room) q s).changes vm h
refused_same found_headers headers found_trailers trailers no_room status q s vm h within of_headers of_trailers is =
    let same : refusal_of headers trailers no_room ≡ Some status = ap (λ f. refusal_of f trailers no_room) (sym of_headers) ∙ ap (λ f. refusal_of found_headers f no_room) (sym of_trailers) ∙ is in
    subst (λ (r : Option ℕ). h ≡ put (begun_unless r q s).changes vm h) (sym same) (sym (nothing_put vm h within))

-- ---- pairs that were read, and a call that is one of the upstream

pub calling_read : (asker : ℕ) (headers_in trailers_in : Option (List Pair)) (headers trailers : List Pair) (body : List ℕ) (timeout : ℕ) (s : Seen) → headers_in ≡ Some headers → trailers_in ≡ Some trailers
    → calling_of asker headers_in body trailers_in timeout s ≡ calling_with asker headers body trailers timeout s
calling_read asker headers_in trailers_in headers trailers body timeout s of_headers of_trailers =
    ap (λ x. calling_of asker x body trailers_in timeout s) of_headers ∙ ap (λ x. calling_of asker (Some headers) body x timeout s) of_trailers

pub called_by : (asker : ℕ) (inputs : Inputs) (timeout : ℕ) (o : Option Own) (s : Seen) → is_some o ≡ true → bytes_eq inputs.first upstream ≡ true
    → calling_by asker inputs timeout o s ≡ calling_of asker (pairs_in inputs.second) inputs.third (pairs_in inputs.fourth) timeout s
called_by asker inputs timeout None s there named = absurd (false≢true there)
called_by asker inputs timeout (Some o) s there named = ap (λ (b : Bool). if b then calling_of asker (pairs_in inputs.second) inputs.third (pairs_in inputs.fourth) timeout s else answers 2) named
