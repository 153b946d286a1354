use Rattle.std.proofs.Common.{◌≤◌, ◌∙◌, ℕ, List, inr, ap, sym, subst}
use Rattle.std.specs.Prelude.{All}
use Rattle.replay_script.specs.Scripts.{AreLines, at_start, workers_of}
use Rattle.command_replay.specs.declared.playing.PlayEnd.TheVariants.{OutFault, OutOfMemory}
use Rattle.command_replay.proofs.Answered.{of_err}
use Rattle.command_replay.proofs.playing.play.Goals as goal

pub play_all-requires-clause-there : goal.play_all-requires-clause-there
play_all-requires-clause-there g c =
    let n = c.args.config.workers in
    let lines : AreLines (at_start n) c.deref.result.now = subst (AreLines (at_start n)) (sym c.deref.ensures.value) c.requires.lines in
    let there : All (λ (who : ℕ). (1 ≤ who) × (who ≤ n)) c.in_ok-whose.whose.items = c.in_ok-whose.ensures.there n c.args.config.kept.worker_count.0 lines in
    subst (λ (x : List ℕ × ℕ). All (λ (who : ℕ). (1 ≤ who) × (who ≤ x.1)) x.0) (λ j. (sym c.deref-2.ensures.value j, sym c.in_ok-crew.ensures.count j)) there

pub returns-clause-done : goal.returns-clause-done
returns-clause-done g c =
    c.play_all.ensures.done c.args.config (g.M.MakesHost.made c.args.maker.now c.args.config) c.args.commands.items c.in_ok-crew.ensures.ready
    (c.deref-2.ensures.value ∙ c.in_ok-whose.ensures.workers ∙ ap workers_of c.deref.ensures.value)

pub returns-clause-out_fault : goal.returns-clause-out_fault
returns-clause-out_fault g c = λ is.
    of_err c.play_all.result OutFault _ is
    (c.play_all.ensures.front c.args.config (g.M.MakesHost.made c.args.maker.now c.args.config) c.args.commands.items c.in_ok-crew.ensures.ready
    (c.deref-2.ensures.value ∙ c.in_ok-whose.ensures.workers ∙ ap workers_of c.deref.ensures.value))

pub returns-clause-memory : goal.returns-clause-memory
returns-clause-memory g c = λ is.
    inr (of_err c.play_all.result OutOfMemory _ is
    (c.play_all.ensures.front c.args.config (g.M.MakesHost.made c.args.maker.now c.args.config) c.args.commands.items c.in_ok-crew.ensures.ready
    (c.deref-2.ensures.value ∙ c.in_ok-whose.ensures.workers ∙ ap workers_of c.deref.ensures.value)))
