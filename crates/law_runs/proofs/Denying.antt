-- The worked modules, by computation.
use Rattle.std.proofs.Common.{◌≡◌, true, false, [], ◌∷◌, None, Some, is_some, refl, ap, subst}
use Rattle.std.specs.Option.{option_map}
use Rattle.abi_maps.specs.Streams.{no_fields}
use Rattle.contexts.specs.Reached.{exchange_at}
use Rattle.contexts.specs.declared.parts.ExchangeEntry.{ExchangeEntry as Held}
use Rattle.contexts.specs.declared.parts.ExchangeView.{ExchangeView}
use Rattle.contexts.specs.declared.parts.EffectKind.TheVariants as what
use Rattle.filter_host.specs.Called.{Called}
use Rattle.filter_host.specs.declared.host.CallbackEnd.TheVariants as call_end
use Rattle.filter_host.specs.declared.host.Death.TheVariants as death
use Rattle.exchange.specs.declared.types.Exchange.{Exchange}
use Rattle.abi_links.specs.Judging.{target_of}
use Rattle.store_model.specs.Program.{Program, done, ask, measure}
use Rattle.vm_host.specs.Calling.{running}
use Rattle.vm_host.specs.Dispatching.{dispatching}
use Rattle.vm_host.specs.Fits.{fit_fault, type_in, is_misfit, is_marker, no_marker, a_misfit, unlinked}
use Rattle.vm_host.specs.Roles.{role_named}
use Rattle.vm_host.specs.Slots.{slot_in, calling, calling_live, calling_slot}
use Rattle.vm_host.specs.Vms as vms
use Rattle.vm_host.specs.declared.slots.Vms.{Vms}
use Rattle.wasm_syntax.specs.Nested.{nests}
use Rattle.wasm_syntax.specs.ReductionRuns.{walk}
use Rattle.law_runs.specs.Marks.{is_asking, told_behind, MarkExamples}
use Rattle.law_runs.specs.Denying.{denies, stops, at_home, asked_of, poor, DenyingExample}

-- what a program that asks nothing is done with
abbrev end_or : {A : Type 0} → A → Program A → A
end_or a (done b) = b
end_or a (ask vm call k) = a
end_or a (measure vm asked k) = a

abbrev nothing : Called Vms
nothing = record { end = call_end.Returned None; lines = []; host = record { slots = [] }; contexts = at_home }

fits : fit_fault denies 1 ≡ None
unfolding a_misfit is_marker is_misfit no_marker role_named target_of type_in unlinked
fits = refl

fits_too : fit_fault stops 1 ≡ None
unfolding a_misfit is_marker is_misfit no_marker role_named target_of type_in unlinked
fits_too = refl

-- ---- the one that denies

abbrev came : Called Vms
came = end_or nothing (asked_of denies)

came_so : asked_of denies ≡ done came
unfolding calling calling_slot calling_live vms.running running dispatching target_of walk nests
came_so = refl

returned : came.end ≡ call_end.Returned (Some 1)
unfolding calling calling_slot calling_live vms.running running dispatching target_of walk nests
returned = refl

asks : came.contexts.effects ≡ record { context = 2; what = what.Answer 403 no_fields [] } ∷ []
unfolding calling calling_slot calling_live vms.running running dispatching target_of walk nests
asks = refl

silent : came.lines ≡ []
unfolding calling calling_slot calling_live vms.running running dispatching target_of walk nests
silent = refl

left : is_some (slot_in came.host 0).live ≡ true
unfolding calling calling_slot calling_live vms.running running dispatching target_of walk nests
left = refl

marked : option_map (λ (x : Held). x.view.is_answering) (exchange_at came.contexts.exchanges 0) ≡ Some true
unfolding calling calling_slot calling_live vms.running running dispatching target_of walk nests
marked = refl

-- ---- the one that stops

abbrev stayed : Called Vms
stayed = end_or nothing (asked_of stops)

stayed_so : asked_of stops ≡ done stayed
unfolding calling calling_slot calling_live vms.running running dispatching target_of walk nests
stayed_so = refl

paused : stayed.end ≡ call_end.Returned (Some 1)
unfolding calling calling_slot calling_live vms.running running dispatching target_of walk nests
paused = refl

none_asked : stayed.contexts.effects ≡ []
unfolding calling calling_slot calling_live vms.running running dispatching target_of walk nests
none_asked = refl

-- ---- the one that has no fuel for it

abbrev died : Called Vms
died = end_or nothing poor

died_so : poor ≡ done died
unfolding calling calling_slot calling_live vms.running running dispatching target_of walk nests
died_so = refl

dead : died.end ≡ call_end.Died death.FuelSpent
unfolding calling calling_slot calling_live vms.running running dispatching target_of walk nests
dead = refl

pub denying_example : DenyingExample
denying_example = record {
  fits = fits;
  fits_too = fits_too;
  live = record { stands = refl; place = refl };
  home = refl;
  denied = record { called = came; is = came_so };
  returned = returned;
  asked = asks;
  silent = silent;
  left = left;
  marked = marked;
  stopped = record { called = stayed; is = stayed_so };
  paused = paused;
  none_asked = none_asked;
  spent = (died, died_so, dead);
}

-- ---- the mark

done_of : {A : Type 0} (a : A) (p : Program A) (c : A) → p ≡ done c → end_or a p ≡ c
done_of a p c is = ap (end_or a) is

asking_if : (c : Called Vms) → came ≡ c → is_asking (exchange_at c.contexts.exchanges 0) ≡ true
unfolding calling calling_slot calling_live vms.running running dispatching target_of walk nests
asking_if c is = subst (λ (d : Called Vms). is_asking (exchange_at d.contexts.exchanges 0) ≡ true) is refl

dropped_if : (c : Called Vms) (x : Exchange) → came ≡ c → option_map (λ (v : ExchangeView). v.is_answering) (told_behind c x) ≡ Some false
unfolding calling calling_slot calling_live vms.running running dispatching target_of walk nests
dropped_if c x is = subst (λ (d : Called Vms). option_map (λ (v : ExchangeView). v.is_answering) (told_behind d x) ≡ Some false) is refl

told_if : (c : Called Vms) (x : Exchange) → came ≡ c → option_map (λ (v : ExchangeView). v.is_answered) (told_behind c x) ≡ Some true
unfolding calling calling_slot calling_live vms.running running dispatching target_of walk nests
told_if c x is = subst (λ (d : Called Vms). option_map (λ (v : ExchangeView). v.is_answered) (told_behind d x) ≡ Some true) is refl

pub mark_examples : MarkExamples
mark_examples = record {
  returning_asks_none = λ n host vm name context first second now h is. is;
  before = refl;
  behind = λ c is. asking_if c (done_of nothing (asked_of denies) c is);
  on_its_line = λ c x. refl;
  dropped = λ c x is. dropped_if c x (done_of nothing (asked_of denies) c is);
  told = λ c x is. told_if c x (done_of nothing (asked_of denies) c is);
}
