use Rattle.std.proofs.Common.{◌≡◌, ◌+◌, ◌-◌, length, drop, reverse, ap, ◌∙◌, arith}
use Rattle.wasm_syntax.specs.Format.{fault}
use Rattle.std.proofs.lemmas.Result.{err_from_is_err_and}
use Rattle.wasm_syntax.specs.Opcodes.{opcode_of}
use Rattle.wasm_syntax.specs.Grammar.{open_after, instruction, expression}
use Rattle.wasm_reader.specs.Steps.{fence_of}
use Rattle.wasm_reader.proofs.Chain.{link_goes_on, link_stops, link_ends, fuel_ends, expression_starts, closes, continues}
use Rattle.wasm_reader.proofs.code.expression.Goals as goal

pub loop-init : goal.loop-init
loop-init c = (c.requires.place, expression_starts c.args.b.now c.args.at (fence_of c.args.b.now c.args.k) c.new-body.result c.new-blocks.result c.new-body.ensures c.new-blocks.ensures)

pub returns-in_err-instr : goal.returns-in_err-instr
returns-in_err-instr c =
    let p = err_from_is_err_and c.from_residual.result c.from_residual.ensures.1 in
    rw (p.1, p.2) (link_ends instruction (λ blocks i. open_after blocks (opcode_of i)) c.args.b.now c.in_err-instr.field-0.0 c.loop.body (length c.args.b.now - c.loop.counter) (reverse c.loop.blocks) (fence_of c.args.b.now c.args.k) (drop c.loop.place c.args.b.now)
    (expression.reads (fence_of c.args.b.now c.args.k) (drop c.args.at c.args.b.now)) (omega arith) c.in_err-instr.ensures c.loop.invariant.1)

pub returns-then-not-branch : goal.returns-then-not-branch
returns-then-not-branch c = (
  c.in_ok-instr.ensures.0,
  rw (c.settle.ensures, c.in_ok-push.ensures.ok) (link_stops instruction (λ blocks i. open_after blocks (opcode_of i)) c.loop.body (length c.args.b.now - c.loop.counter) (reverse c.loop.blocks) (fence_of c.args.b.now c.args.k) (drop c.loop.place c.args.b.now)
      c.in_ok-instr.instr (drop c.in_ok-instr.behind c.args.b.now) (expression.reads (fence_of c.args.b.now c.args.k) (drop c.args.at c.args.b.now)) (omega arith) c.in_ok-instr.ensures.1
      (closes (reverse c.loop.blocks) _ c.in_ok-instr.instr c.opcode-opcode.result c.in_ok-goes_on.field-0 c.opcode-opcode.ensures c.in_ok-goes_on.ensures c.if-not-branch.true) c.loop.invariant.1),
)

pub loop-preserved : goal.loop-preserved
loop-preserved c =
    let f : length c.args.b.now - c.loop.counter - 1 ≡ length c.args.b.now - (c.loop.counter + 1) = omega arith in (
      c.in_ok-instr.ensures.0,
      rw (c.in_ok-push.ensures.ok, ← f) (link_goes_on instruction (λ blocks i. open_after blocks (opcode_of i)) c.loop.body (length c.args.b.now - c.loop.counter) (reverse c.loop.blocks) (reverse c.goes_on.new.blocks) (fence_of c.args.b.now c.args.k) (drop c.loop.place c.args.b.now)
          c.in_ok-instr.instr (drop c.in_ok-instr.behind c.args.b.now) (expression.reads (fence_of c.args.b.now c.args.k) (drop c.args.at c.args.b.now)) (omega arith) c.in_ok-instr.ensures.1
          (continues (reverse c.loop.blocks) (reverse c.goes_on.new.blocks) c.in_ok-instr.instr c.opcode-opcode.result c.in_ok-goes_on.field-0 c.opcode-opcode.ensures c.in_ok-goes_on.ensures c.if-not-branch.false) c.loop.invariant.1),
    )

pub returns : goal.returns
returns c =
    let zero : 0 ≡ length c.args.b.now - length c.args.b.now = omega arith in
    let none : length c.args.b.now - c.loop.counter ≡ 0 = omega arith in
    rw c.cut_off.ensures (
      omega arith,
      fuel_ends instruction (λ blocks i. open_after blocks (opcode_of i)) c.loop.body (length c.args.b.now - c.loop.counter) (reverse c.loop.blocks) (fence_of c.args.b.now c.args.k) (drop c.loop.place c.args.b.now)
          (expression.reads (fence_of c.args.b.now c.args.k) (drop c.args.at c.args.b.now)) none c.loop.invariant.1 ∙ ap (λ n. fault 2 n) zero,
    )
