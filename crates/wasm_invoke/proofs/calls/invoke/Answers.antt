use Rattle.std.proofs.Common.{map, string_bytes}
use Rattle.wasm_invoke.proofs.Joined.{ready_takes, ready_alone}
use Rattle.wasm_invoke.proofs.calls.invoke.Goals as goal

pub answered-answer-requires-clause-start : goal.answered-answer-requires-clause-start
answered-answer-requires-clause-start c =
    ready_takes c.args.bytes.now c.args.export.now c.in-Ok.ready.start c.in-Ok.ready.function c.in-Ok.ready.machine c.in-Ok.ensures.ready

pub answered-answer-requires-clause-alone : goal.answered-answer-requires-clause-alone
answered-answer-requires-clause-alone c =
    ready_alone c.args.bytes.now c.args.export.now c.in-Ok.ready.start c.in-Ok.ready.function c.in-Ok.ready.machine c.in-Ok.ensures.ready

pub returns-in-Ok : goal.returns-in-Ok
returns-in-Ok c = c.answered-answer.ensures c.args.bytes.now c.args.export.now c.in-Ok.ensures.ready

pub returns-in-Err : goal.returns-in-Err
returns-in-Err c = c.in-Err.ensures.refused c.args.export.now (map string_bytes c.args.words.now)
