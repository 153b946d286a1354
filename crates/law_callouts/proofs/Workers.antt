-- The machines that run modules leave the counts of callouts.
use Rattle.std.proofs.Common.{◌≡◌}
use Rattle.filter_host.specs.Called.{Called}
use Rattle.store_model.specs.Program.{Program, done, ask, measure}
use Rattle.vm_host.specs.Slots.{calling}
use Rattle.vm_host.specs.declared.slots.Vms.{Vms}
use Rattle.law_vms.specs.Apart as programs
use Rattle.law_vms.specs.OwnChanges.{ArePlaced, ChangesItsOwn, CallbacksChangeTheirOwn, PlacesStay}
use Rattle.law_callouts.specs.Ends.{AllOf}
use Rattle.law_callouts.specs.Workers.{WorkersEndCalloutsOnce, WorkersBeginCalloutsNew, WorkersStaySound}
use Rattle.law_callouts.proofs.Ending.{end_once, begin_new, sound_life}
use Rattle.law_callouts.proofs.Steps.{KeepsGood}

both_of : {A : Type 0} (P Q R : A → Type 0) (p : Program A) → programs.AllEnds P p → programs.AllEnds Q p → ((a : A) → P a → Q a → R a) → AllOf R p
both_of P Q R (done a) one two so = so a one two
both_of P Q R (ask vm call k) one two so = λ r. both_of P Q R (k r) (one r) (two r) so
both_of P Q R (measure vm asked k) one two so = λ r. both_of P Q R (k r) (one r) (two r) so

pub kept : CallbacksChangeTheirOwn → PlacesStay → KeepsGood calling ArePlaced
kept change stay = record {
  keeps = λ host vm name context first second now h placed.
      both_of (λ (c : Called Vms). ChangesItsOwn vm h c.contexts) (λ (c : Called Vms). ArePlaced c.host) (λ (c : Called Vms). ArePlaced c.host × (c.contexts.calls ≡ h.calls))
      (calling host vm name context first second now h) (change host vm name context first second now h placed) (stay host vm name context first second now h placed)
      (λ c own there. (there, own.calls));
}

pub workers_end_once : CallbacksChangeTheirOwn → PlacesStay → WorkersEndCalloutsOnce
workers_end_once change stay plan b e events all c m fate placed sound is there new life still_open =
    end_once calling ArePlaced (kept change stay) plan b e events all c m fate placed sound is there new life still_open

pub workers_begin_new : CallbacksChangeTheirOwn → PlacesStay → WorkersBeginCalloutsNew
workers_begin_new change stay plan b e event all id placed sound is high life = begin_new calling ArePlaced (kept change stay) plan b e event all id placed sound is high life

pub workers_stay_sound : CallbacksChangeTheirOwn → PlacesStay → WorkersStaySound
workers_stay_sound change stay plan b e events all placed sound life = sound_life calling ArePlaced plan (kept change stay) b e events all life placed sound
