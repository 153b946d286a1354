-- Callouts stay sound.
use Rattle.std.proofs.Common.{◌≡◌, ◌<◌, ◌≤◌, ◌==◌, ℕ, suc, Bool, true, false, cond, List, [], ◌∷◌, ◌++◌, length, refl, sym, ap, ◌∙◌, subst, eqb-true, ne_eqb, eq-eqb, arith}
use Rattle.std.specs.Prelude.{Option, None, Some}
use Rattle.callouts.specs.Callouts.{Coming, reads, fails, nothing, comes_of, callout_at, line_in, begun, callout_in, without, Taken, has, too_long, takes, is_last, after_taken, after_stop, after_heard, with_reading}
use Rattle.callouts.specs.Steps.{put_callout, after_coming, after_event_of, after_event, callout_after, after_read}
use Rattle.callouts.specs.declared.types.Callout.{Callout}
use Rattle.callouts.specs.declared.types.CallStep.{CallStep}
use Rattle.contexts.specs.declared.parts.Calls.{Calls}
use Rattle.contexts.specs.declared.parts.Contexts.{Contexts}
use Rattle.contexts.specs.Making.{no_contexts, with_vm, with_plugin}
use Rattle.filter_host.specs.Heard.{Heard, hands, halts}
use Rattle.gate_config.specs.declared.config.Config.{Config}
use Rattle.gate_config.specs.declared.entries.PluginEntry.{PluginEntry}
use Rattle.gate_config.specs.declared.entries.VmEntry.{VmEntry}
use Rattle.gate_io.specs.declared.event.What.{What}
use Rattle.h1_model.specs.Messages.{Stop, rest, over, refusal}
use Rattle.h1_model.specs.Unread.{Reading}
use Rattle.worker_model.specs.Calls.{with_call_step}
use Rattle.worker_model.specs.Making.{with_vms, with_plugins, contexts_of}
use Rattle.worker_model.specs.Room.{Room}
use Rattle.worker_model.specs.Rooms.{next_call}
use Rattle.law_callouts.specs.Sound.{AreRising, AreUpTo, AreSound, CalloutsStaySound}

-- ---- ids that are not there

-- none of those above it has an id
pub none_above : (id low : ℕ) (calls : List Callout) → id ≤ low → AreRising low calls → callout_in id calls ≡ None
none_above id low [] below rising = refl
none_above id low (c ∷ calls) below rising =
    ap (λ (b : Bool). cond b (Some c) (callout_in id calls)) (ne_eqb c.id id (λ same. absurd (omega (arith, same, below, rising.0))))
    ∙ none_above id c.id calls (omega (arith, below, rising.0)) rising.1

-- none of those up to another has an id above that
pub none_beyond : (id last : ℕ) (calls : List Callout) → last < id → AreUpTo last calls → callout_in id calls ≡ None
none_beyond id last [] beyond drawn = refl
none_beyond id last (c ∷ calls) beyond drawn =
    ap (λ (b : Bool). cond b (Some c) (callout_in id calls)) (ne_eqb c.id id (λ same. absurd (omega (arith, same, beyond, drawn.0))))
    ∙ none_beyond id last calls beyond drawn.1

-- ---- one in the place of another of its id

put_length : (id : ℕ) (c : Callout) (calls : List Callout) → length (put_callout id c calls) ≡ length calls
put_length id c [] = refl
put_length id c (d ∷ calls) = by (put_length id c calls) (d.id == id)
  where
    by : length (put_callout id c calls) ≡ length calls → (b : Bool) → length (cond b (c ∷ calls) (d ∷ put_callout id c calls)) ≡ suc (length calls)
    by later true = refl
    by later false = ap suc later

put_rising : (low id : ℕ) (c : Callout) (calls : List Callout) → c.id ≡ id → AreRising low calls → AreRising low (put_callout id c calls)
put_rising low id c [] same rising = tt
put_rising low id c (d ∷ calls) same rising = by (put_rising d.id id c calls same rising.1) (d.id == id) refl
  where
    by : AreRising d.id (put_callout id c calls) → (b : Bool) → (d.id == id) ≡ b → AreRising low (cond b (c ∷ calls) (d ∷ put_callout id c calls))
    by later true is = subst (λ (n : ℕ). (low < n) × AreRising n calls) (eqb-true d.id id is ∙ sym same) rising
    by later false is = (rising.0, later)

put_up_to : (last id : ℕ) (c : Callout) (calls : List Callout) → c.id ≡ id → AreUpTo last calls → AreUpTo last (put_callout id c calls)
put_up_to last id c [] same drawn = tt
put_up_to last id c (d ∷ calls) same drawn = by (put_up_to last id c calls same drawn.1) (d.id == id) refl
  where
    by : AreUpTo last (put_callout id c calls) → (b : Bool) → (d.id == id) ≡ b → AreUpTo last (cond b (c ∷ calls) (d ∷ put_callout id c calls))
    by later true is = (subst (λ (n : ℕ). n ≤ last) (eqb-true d.id id is ∙ sym same) drawn.0, drawn.1)
    by later false is = (drawn.0, later)

-- ---- one more

add_rising : (low last : ℕ) (c : Callout) (calls : List Callout) → low ≤ last → last < c.id → AreRising low calls → AreUpTo last calls → AreRising low (calls ++ c ∷ [])
add_rising low last c [] below beyond rising drawn = (omega (arith, below, beyond), tt)
add_rising low last c (d ∷ calls) below beyond rising drawn = (rising.0, add_rising d.id last c calls drawn.0 beyond rising.1 drawn.1)

add_up_to : (last more : ℕ) (c : Callout) (calls : List Callout) → last ≤ more → c.id ≤ more → AreUpTo last calls → AreUpTo more (calls ++ c ∷ [])
add_up_to last more c [] below up drawn = (up, tt)
add_up_to last more c (d ∷ calls) below up drawn = (omega (arith, below, drawn.0), add_up_to last more c calls below up drawn.1)

add_there : (id : ℕ) (c : Callout) (calls : List Callout) → c.id ≡ id → callout_in id calls ≡ None → callout_in id (calls ++ c ∷ []) ≡ Some c
add_there id c [] same none = ap (λ (b : Bool). cond b (Some c) None) (eq-eqb c.id id same)
add_there id c (d ∷ calls) same none = by (add_there id c calls same) (d.id == id) none
  where
    by : (callout_in id calls ≡ None → callout_in id (calls ++ c ∷ []) ≡ Some c) → (b : Bool) → cond b (Some d) (callout_in id calls) ≡ None
        → cond b (Some d) (callout_in id (calls ++ c ∷ [])) ≡ Some c
    by later true none = absurd (cc)
    by later false none = later none

-- ---- one less

-- what is above the one is above what that is above
lower : (low high : ℕ) (calls : List Callout) → low ≤ high → AreRising high calls → AreRising low calls
lower low high [] below rising = tt
lower low high (c ∷ calls) below rising = (omega (arith, below, rising.0), rising.1)

without_rising : (low id : ℕ) (calls : List Callout) → AreRising low calls → AreRising low (without id calls)
without_rising low id [] rising = tt
without_rising low id (c ∷ calls) rising = by (without_rising c.id id calls rising.1) (c.id == id)
  where
    by : AreRising c.id (without id calls) → (b : Bool) → AreRising low (cond b calls (c ∷ without id calls))
    by later true = lower low c.id calls (omega (arith, rising.0)) rising.1
    by later false = (rising.0, later)

without_up_to : (last id : ℕ) (calls : List Callout) → AreUpTo last calls → AreUpTo last (without id calls)
without_up_to last id [] drawn = tt
without_up_to last id (c ∷ calls) drawn = by (without_up_to last id calls drawn.1) (c.id == id)
  where
    by : AreUpTo last (without id calls) → (b : Bool) → AreUpTo last (cond b calls (c ∷ without id calls))
    by later true = drawn.1
    by later false = (drawn.0, later)

pub without_gone : (low id : ℕ) (calls : List Callout) → AreRising low calls → callout_in id (without id calls) ≡ None
without_gone low id [] rising = refl
without_gone low id (c ∷ calls) rising = by (without_gone c.id id calls rising.1) (c.id == id) refl
  where
    by : callout_in id (without id calls) ≡ None → (b : Bool) → (c.id == id) ≡ b → callout_in id (cond b calls (c ∷ without id calls)) ≡ None
    by later true is = none_above id c.id calls (omega (arith, eqb-true c.id id is)) rising.1
    by later false is = ap (λ (b : Bool). cond b (Some c) (callout_in id (without id calls))) is ∙ later

-- ---- what a reader says of a callout leaves its id

taken_id : (is_whole : Bool) (c : Callout) (t : Taken) → (callout_after (after_taken is_whole c t)).id ≡ c.id
taken_id true c (has a) = refl
taken_id false c (has a) = refl
taken_id is_whole c too_long = refl

stop_id : (why : Stop) (r : Reading) (c : Callout) → (callout_after (after_stop why r c)).id ≡ c.id
stop_id rest r c = refl
stop_id over r c = refl
stop_id (refusal number) r c = refl

pub heard_id : (h : Heard) (c : Callout) → (callout_after (after_heard h c)).id ≡ c.id
heard_id (hands part new) c = taken_id (is_last part) (with_reading new c) (takes part c.answer)
heard_id (halts why new) c = stop_id why new c

pub found_id : (id : ℕ) (calls : List Callout) (c : Callout) → callout_in id calls ≡ Some c → c.id ≡ id
found_id id [] c is = absurd (cc)
found_id id (d ∷ calls) c is = by (found_id id calls c) (d.id == id) refl is
  where
    by : (callout_in id calls ≡ Some c → c.id ≡ id) → (b : Bool) → (d.id == id) ≡ b → cond b (Some d) (callout_in id calls) ≡ Some c → c.id ≡ id
    by later true same is =
        let one : d ≡ c = (cc) in
        sym (ap (λ (x : Callout). x.id) one) ∙ eqb-true d.id id same
    by later false same is = later is

-- ---- a worker that has done nothing

vms_call_none : (h : Contexts) (vms : List VmEntry) → (with_vms h vms).calls ≡ h.calls
vms_call_none h [] = refl
vms_call_none h (v ∷ vms) = vms_call_none (with_vm v.name v.configuration h) vms

plugins_call_none : (h : Contexts) (plugins : List PluginEntry) → (with_plugins h plugins).calls ≡ h.calls
plugins_call_none h [] = refl
plugins_call_none h (p ∷ plugins) = plugins_call_none (with_plugin p.vm p.name p.configuration h) plugins

pub none_called : (config : Config) (seed : List ℕ) → (contexts_of config seed).calls ≡ (no_contexts config.log_level seed).calls
none_called config seed = plugins_call_none (with_vms (no_contexts config.log_level seed) config.vms) config.plugins ∙ vms_call_none (no_contexts config.log_level seed) config.vms

-- ---- the steps

pub put_sound : (id : ℕ) (c : Callout) (room : Room) → c.id ≡ id → AreSound room → AreSound (record room { calls = put_callout id c room.calls })
put_sound id c room same sound = record {
  rising = put_rising 0 id c room.calls same sound.rising;
  drawn = put_up_to room.hub.contexts.calls.last id c room.calls same sound.drawn;
  counted = sound.counted ∙ sym (put_length id c room.calls);
}

pub next_sound : (next : Option CallStep) (room : Room) → AreSound room → AreSound (with_call_step next room)
next_sound None room sound = sound
next_sound (Some step) room sound = record { rising = sound.rising; drawn = sound.drawn; counted = sound.counted }

coming_sound : (c : Callout) (coming : Coming) (room : Room) → AreSound room → AreSound (record room { calls = (after_coming c coming room.calls).calls })
coming_sound c (reads r) room sound = put_sound c.id (with_reading r c) room refl sound
coming_sound c fails room sound = sound
coming_sound c nothing room sound = sound

event_sound : (o : Option Callout) (what : What) (room : Room) → AreSound room → AreSound (record room { calls = (after_event_of o what room.calls).calls })
event_sound None what room sound = sound
event_sound (Some c) what room sound = coming_sound c (comes_of what c.reader) room sound

pub stays_sound : CalloutsStaySound
stays_sound = record {
  first = λ config seed. record { rising = tt; drawn = tt; counted = ap (λ (n : Calls). n.under_way) (none_called config seed) };
  begins = λ q room sound. record {
    rising = add_rising 0 room.hub.contexts.calls.last (begun (next_call room) room.hub.moment q) room.calls (omega arith) (omega arith) sound.rising sound.drawn;
    drawn = add_up_to room.hub.contexts.calls.last (next_call room) (begun (next_call room) room.hub.moment q) room.calls (omega arith) (omega arith) sound.drawn;
    counted = refl;
  };
  comes = λ what room sound. next_sound (after_event what room.calls).next (record room { calls = (after_event what room.calls).calls }) (event_sound (callout_at (line_in what) room.calls) what room sound);
  hears = λ id c h room is sound.
      next_sound (after_read id (after_heard h c) room.calls).next (record room { calls = (after_read id (after_heard h c) room.calls).calls })
      (put_sound id (callout_after (after_heard h c)) room (heard_id h c ∙ found_id id room.calls c is) sound);
  ends = λ id room sound. record {
    rising = without_rising 0 id room.calls sound.rising;
    drawn = without_up_to room.hub.contexts.calls.last id room.calls sound.drawn;
    counted = refl;
  };
  is_new = λ room sound. none_beyond (next_call room) room.hub.contexts.calls.last room.calls (omega arith) sound.drawn;
  is_there = λ q room sound.
      add_there (next_call room) (begun (next_call room) room.hub.moment q) room.calls refl (none_beyond (next_call room) room.hub.contexts.calls.last room.calls (omega arith) sound.drawn);
  is_gone = λ id room sound. without_gone 0 id room.calls sound.rising;
}
