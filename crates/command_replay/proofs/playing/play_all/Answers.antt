use Rattle.std.proofs.Common.{◌≤◌, ◌-◌, ◌+◌, ℕ, List, length, get_or, refl, sym, ap, ◌∙◌, subst, arith, length-set}
use Rattle.std.proofs.lemmas.List.Elements.{All-get_or}
use Rattle.gate_io.specs.Told.{Gains, GainsFront, gains_none}
use Rattle.command_replay.specs.Replay.{setup_of}
use Rattle.command_replay.proofs.Answered.{on_err}
use Rattle.command_replay.proofs.Progresses.{all_in, far_start, far_on, far_flushed, far_cut, far_done}
use Rattle.command_replay.proofs.playing.play_all.Goals as goal

pub turns-init : goal.turns-init
turns-init g c = record {
  can_turn = c.requires.can_turn;
  count = refl;
  far = λ config host commands ready are. far_start (setup_of g.H.Host.calling g.H.Host.exported g.H.Host.registering config host) commands _ _ _ _ _ _ c.new-pending.ensures ready;
  faults = omega arith;
}

pub advance-requires-clause-there : goal.advance-requires-clause-there
advance-requires-clause-there g c =
    let n = length c.args.crew.now.workers in
    let P : ℕ → Type 0 = λ who. (1 ≤ who) × (who ≤ n) in
    let there : P c.who-item.result = subst P (sym c.who-item.is) (All-get_or P c.args.whose.now c.turns.who-index c.who-item.result c.turns-test.true c.requires.there) in
    omega (arith, there.1, c.turns.invariant.count)

pub returns-in_err-advance-clause-front : goal.returns-in_err-advance-clause-front
returns-in_err-advance-clause-front g c = λ config host commands ready are.
    on_err c.from_residual.result _
    (far_cut (setup_of g.H.Host.calling g.H.Host.exported g.H.Host.registering config host) commands c.turns.who-index _ _ _ _ _ _ _ _ (omega (arith, c.turns-test.true, ap length are))
    (all_in (setup_of g.H.Host.calling g.H.Host.exported g.H.Host.registering config host) commands _ _ _ _ _ ready are c.requires.there) (c.turns.invariant.far config host commands ready are) (gains_none _ c.turns.pending))

pub returns-in_err-flush-clause-front : goal.returns-in_err-flush-clause-front
returns-in_err-flush-clause-front g c = λ config host commands ready are.
    let n = length c.args.crew.now.workers in
    let P : ℕ → Type 0 = λ who. (1 ≤ who) × (who ≤ n) in
    let there : P c.who-item.result = subst P (sym c.who-item.is) (All-get_or P c.args.whose.now c.turns.who-index c.who-item.result c.turns-test.true c.requires.there) in
    on_err c.from_residual-in_err-flush.result _
    (far_cut (setup_of g.H.Host.calling g.H.Host.exported g.H.Host.registering config host) commands (c.turns.who-index + 1) _ _ _ _ _ _ _ _ (omega (arith, c.turns-test.true, ap length are))
    (all_in (setup_of g.H.Host.calling g.H.Host.exported g.H.Host.registering config host) commands _ _ _ _ _ ready are c.requires.there)
    (far_on (setup_of g.H.Host.calling g.H.Host.exported g.H.Host.registering config host) commands c.turns.who-index c.who-item.result _ _ _ _ _ _ _ _ _ _ _ _ (omega (arith, c.turns-test.true, ap length are))
    (c.who-item.is ∙ ap (λ (ws : List ℕ). get_or ws c.turns.who-index c.who-item.result) are) (omega (arith, there.0, there.1, c.turns.invariant.count)) (c.turns.invariant.far config host commands ready are)
    c.in_ok-advance.ensures.advances) c.in_err-flush.ensures.err)

pub turns-preserved : goal.turns-preserved
turns-preserved g c =
    let n = length c.args.crew.now.workers in
    let P : ℕ → Type 0 = λ who. (1 ≤ who) × (who ≤ n) in
    let there : P c.who-item.result = subst P (sym c.who-item.is) (All-get_or P c.args.whose.now c.turns.who-index c.who-item.result c.turns-test.true c.requires.there) in
    let at = c.in_ok-advance.ensures.advances.at in
    record {
      can_turn = c.in_ok-advance.ensures.can_turn;
      count = ap length at.new_is ∙ length-set c.turns.crew.workers (c.who-item.result - 1) at.new ∙ c.turns.invariant.count;
      far = λ config host commands ready are.
          far_flushed (setup_of g.H.Host.calling g.H.Host.exported g.H.Host.registering config host) commands (c.turns.who-index + 1) _ _ _ _ _ (g.O.Sink.taken c.turns.out) _ _ _
          (far_on (setup_of g.H.Host.calling g.H.Host.exported g.H.Host.registering config host) commands c.turns.who-index c.who-item.result _ _ _ _ _ _ _ _ _ _ _ _ (omega (arith, c.turns-test.true, ap length are))
          (c.who-item.is ∙ ap (λ (ws : List ℕ). get_or ws c.turns.who-index c.who-item.result) are) (omega (arith, there.0, there.1, c.turns.invariant.count)) (c.turns.invariant.far config host commands ready are)
          c.in_ok-advance.ensures.advances) c.in_ok-flush.ensures.ok;
      faults = omega (arith, c.turns.invariant.faults, c.in_ok-flush.ensures.faults);
    }

pub returns-in_err-write_whole-clause-front : goal.returns-in_err-write_whole-clause-front
returns-in_err-write_whole-clause-front g c = λ config host commands ready are.
    on_err c.from_residual-in_err-write_whole.result _
    (far_cut (setup_of g.H.Host.calling g.H.Host.exported g.H.Host.registering config host) commands c.turns.who-index _ _ _ _ _ (g.O.Sink.taken c.turns.out) (g.O.Sink.taken c.write_whole.new.sink) _ (omega (arith, c.turns.auto.who-index-end, ap length are))
    (all_in (setup_of g.H.Host.calling g.H.Host.exported g.H.Host.registering config host) commands _ _ _ _ _ ready are c.requires.there)
    (c.turns.invariant.far config host commands ready are)
    (subst (λ (t : List ℕ). GainsFront (g.O.Sink.taken c.turns.out) t (g.O.Sink.taken c.write_whole.new.sink)) c.as_slice.ensures c.in_err-write_whole.ensures.err))

pub returns-clause-done : goal.returns-clause-done
returns-clause-done g c = λ config host commands ready are.
    far_done (setup_of g.H.Host.calling g.H.Host.exported g.H.Host.registering config host) commands c.turns.who-index _ _ _ _ _ (g.O.Sink.taken c.turns.out) (g.O.Sink.taken c.write_whole.new.sink) _ (omega (arith, c.turns.auto.who-index-end, c.turns-test.false, ap length are))
    (all_in (setup_of g.H.Host.calling g.H.Host.exported g.H.Host.registering config host) commands _ _ _ _ _ ready are c.requires.there)
    (c.turns.invariant.far config host commands ready are)
    (subst (λ (t : List ℕ). Gains (g.O.Sink.taken c.turns.out) t (g.O.Sink.taken c.write_whole.new.sink)) c.as_slice.ensures c.in_ok-write_whole.ensures.ok)
