use Rattle.std.proofs.Common.{[], IfOk, subst, sym}
use Rattle.std.proofs.lemmas.Result.{IfOk-weaker}
use Rattle.std.specs.Prelude.{IfNone, Contains}
use Rattle.gate_io.specs.Told.{Gains}
use Rattle.live_lines.specs.Told.{bytes_told}
use Rattle.live_lines.specs.Turns.{IsSilent}
use Rattle.live_lines.specs.Waiting.{GoesOn}
use Rattle.live_lines.proofs.Turns.{silent_behind}
use Rattle.live_lines.proofs.line.heard_behind.Goals as goal

pub returns-clause-gave : goal.returns-clause-gave
returns-clause-gave g c =
    let gave = g.P.Duplex.gave in
    subst (λ before. IfOk c.heard_up.result (λ told. Gains before (bytes_told told) (gave c.heard_up.new.peer))) c.flush.ensures.gave c.heard_up.ensures.gave

pub returns-clause-goes_on : goal.returns-clause-goes_on
returns-clause-goes_on g c =
    let took = g.P.Duplex.took in let up = c.args.up.now in
    subst (λ after. GoesOn (took up.peer) up.waiting [] after c.flush.new.self.waiting) (sym c.heard_up.ensures.kept) c.flush.ensures.goes_on

pub returns-clause-silent : goal.returns-clause-silent
returns-clause-silent g c =
    let ready = g.P.Duplex.ready in let reads = g.P.Duplex.reads in
    let asked : Type 0 = Contains c.args.wants.now.up c.args.line in
    let a = c.args.up.now.peer in let b = c.flush.new.self.peer in let d = c.heard_up.new.peer in
    IfOk-weaker c.heard_up.result (λ told. IfNone told (IsSilent ready reads asked b d)) (λ told. IfNone told (IsSilent ready reads asked a d)) (λ told. silent_behind ready reads asked a b d told c.flush.ensures.ready) c.heard_up.ensures.silent
