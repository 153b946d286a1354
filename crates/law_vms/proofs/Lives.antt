-- What callbacks keep of the machines, turns and lives keep.
use Rattle.std.proofs.Common.{◌≡◌, ℕ, ap, ◌∙◌, sym, subst, ⊎_elim}
use Rattle.std.proofs.lemmas.Bool.{cases_eq}
use Rattle.filter_host.proofs.Holds.{all_reached}
use Rattle.filter_host.specs.Called.{Called}
use Rattle.store_model.specs.Program.{Program, done, ask, measure}
use Rattle.vm_host.specs.declared.slots.Vms.{Vms}
use Rattle.vm_host.specs.Slots.{calling}
use Rattle.law_vms.specs.Apart.{IsApart}
use Rattle.law_vms.specs.Apart as programs
use Rattle.law_vms.specs.Lives.{Lives, no_turn, one_turn, Goes, no_step, one_step, next_turn, IsNoMore, StaysForLife, BeginsSo, LivesKeepPlaces}
use Rattle.law_vms.specs.OwnChanges.{ArePlaced}
use Rattle.law_vms.specs.Silent.{AreTied}
use Rattle.law_vms.proofs.Apart.{apart}
use Rattle.law_vms.proofs.Ends.{all_weaker}
use Rattle.law_vms.proofs.Lasting.{AllOf, KeptBy, step_so, turn_so}
use Rattle.law_vms.proofs.MadeVms.{in_place}
use Rattle.law_vms.proofs.OwnChanges.{change_their_own, places_stay}
use Rattle.law_vms.proofs.OwnEffects.{effects_own}
use Rattle.law_vms.proofs.Silent.{dead_are_silent, ties_stay}
use Rattle.worker_model.specs.Plan.{Plan}
use Rattle.worker_model.specs.Rooms.{next_of}
use Rattle.worker_model.specs.Steps.{Both, both, step}
use Rattle.worker_model.specs.Turn.{Outcome, without_sent, room_for_event, turn}

-- ---- what a callback keeps

-- the two ways to say it
pub all_of : {A : Type 0} (P : A → Type 0) (p : Program A) → programs.AllEnds P p → AllOf P p
all_of P (done a) is = is
all_of P (ask vm call k) is = λ r. all_of P (k r) (is r)
all_of P (measure vm asked k) is = λ r. all_of P (k r) (is r)

gone_kept : (vm : ℕ) → KeptBy calling (IsNoMore vm)
gone_kept vm v called name context first second now h gone =
    ⊎_elim
    (λ (same : called ≡ vm).
    subst (λ (wm : ℕ). AllOf (λ (c : Called Vms). IsNoMore vm c.host) (calling v wm name context first second now h)) (sym same)
    (subst (AllOf (λ (c : Called Vms). IsNoMore vm c.host)) (sym (dead_are_silent v vm name context first second now h gone)) gone))
    (λ (other : called ≡ vm → ⊥).
    all_of (λ (c : Called Vms). IsNoMore vm c.host) (calling v called name context first second now h)
    (all_weaker (IsApart v called) (λ (c : Called Vms). IsNoMore vm c.host) (calling v called name context first second now h) (apart v called name context first second now h)
    (λ c is. ap (λ s. s.live) (is.others vm (λ same. other (sym same))) ∙ gone)))
    (cases_eq called vm)

module _ (P : Vms → Type 0) (kept : KeptBy calling P) where
  pub life_so : (plan : Plan) (b e : Both Vms) → Lives plan b e → P b.host → P e.host
  life_so plan _ _ (no_turn b) is = is
  life_so plan _ _ (one_turn b e event ms out reaches later) is =
      life_so plan out.state e later (all_reached (λ (o : Outcome Vms). P o.state.host) ms (turn calling plan b event) out (turn_so calling P kept plan b event is) reaches)

  pub goes_so : (plan : Plan) (b e : Both Vms) → Goes plan b e → P b.host → P e.host
  goes_so plan _ _ (no_step b) is = is
  goes_so plan _ _ (one_step b m e ms reaches later) is =
      goes_so plan m e later (all_reached (λ (o : Both Vms). P o.host) ms (step calling plan (next_of b.room) b.host b.room) m (step_so calling P kept plan (next_of b.room) b.host b.room is) reaches)
  goes_so plan _ _ (next_turn b e event later) is = goes_so plan (both b.host (room_for_event plan event (without_sent b.room))) e later is

placed_kept : KeptBy calling ArePlaced
placed_kept v vm name context first second now h placed =
    all_of (λ (c : Called Vms). ArePlaced c.host) (calling v vm name context first second now h) (places_stay v vm name context first second now h placed)

tied_kept : KeptBy calling AreTied
tied_kept v vm name context first second now h tied =
    all_of (λ (c : Called Vms). AreTied c.host) (calling v vm name context first second now h) (ties_stay v vm name context first second now h tied)

stays_by : (b e : Both Vms) → ((P : Vms → Type 0) → KeptBy calling P → P b.host → P e.host) → StaysForLife b e
stays_by b e stays = record {
  placed = stays ArePlaced placed_kept;
  tied = stays AreTied tied_kept;
  no_more = λ vm gone. stays (IsNoMore vm) (gone_kept vm) gone;
  silent = λ vm name context first second now contexts gone. dead_are_silent e.host vm name context first second now contexts (stays (IsNoMore vm) (gone_kept vm) gone);
}

begins_by : (b e : Both Vms) → StaysForLife b e → BeginsSo b e
begins_by b e stays = record {
  placed = λ entries is. stays.placed (subst ArePlaced (sym is) (in_place.placed entries));
  tied = λ entries is. stays.tied (subst AreTied (sym is) (in_place.tied entries));
}

pub lives_keep : LivesKeepPlaces
lives_keep = record {
  turns = λ plan b e life. stays_by b e (λ P kept is. life_so P kept plan b e life is);
  steps = λ plan b e goes. stays_by b e (λ P kept is. goes_so P kept plan b e goes is);
  calls = λ plan b e goes. record {
    changes = λ placed vm name context first second now contexts.
        change_their_own e.host vm name context first second now contexts (goes_so ArePlaced placed_kept plan b e goes placed);
    asks = λ placed vm name context first second now contexts.
        effects_own e.host vm name context first second now contexts (goes_so ArePlaced placed_kept plan b e goes placed);
  };
  begins = λ plan b e life. begins_by b e (stays_by b e (λ P kept is. life_so P kept plan b e life is));
  goes = λ plan b e goes. begins_by b e (stays_by b e (λ P kept is. goes_so P kept plan b e goes is));
}
