use Rattle.std.proofs.Common.{◌≡◌, ◌+◌, ◌-◌, ◌<◌, length, drop, Err, ap, sym, ◌∙◌, arith}
use Rattle.std.proofs.lemmas.List.{length-drop}
use Rattle.std.proofs.lemmas.Result.{err_from_is_err_and}
use Rattle.wasm_syntax.specs.Grammar.{sections_read, module_made, before_all}
use Rattle.wasm_reader.specs.Steps.{fence_of}
use Rattle.wasm_reader.specs.declared.ends.Bounds.TheVariants as bounds
use Rattle.wasm_reader.proofs.Whole.{no_fence, section_goes_on, section_ends, sections_cut, sections_start, at_the_end, lacks_at_the_end}
use Rattle.wasm_reader.proofs.module.all_sections.Goals as goal

pub loop-init : goal.loop-init
loop-init c = (c.requires.place, sections_start (sections_read (length c.args.b.now - c.args.at) before_all (drop c.args.at c.args.b.now)) c.args.made.now c.requires.empty)

pub returns-then-place-b-clause-ok : goal.returns-then-place-b-clause-ok
returns-then-place-b-clause-ok c =
    at_the_end c.loop.made c.args.b.now c.complete.result (length c.args.b.now - c.loop.counter) c.loop.place c.loop.before _ (omega arith) c.loop.invariant.1 (c.complete.ensures.ok c.loop.made)

pub returns-then-place-b-clause-err : goal.returns-then-place-b-clause-err
returns-then-place-b-clause-err c =
    lacks_at_the_end c.loop.made c.args.b.now c.complete.result (length c.args.b.now - c.loop.counter) c.loop.place c.loop.before _ (omega arith) c.loop.invariant.1 (c.complete.ensures.err c.loop.made)

pub returns-in_err-section-clause-err : goal.returns-in_err-section-clause-err
returns-in_err-section-clause-err c =
    let p = err_from_is_err_and c.from_residual.result c.from_residual.ensures.1 in
    let there : 0 < length (drop c.loop.place c.args.b.now) = omega (arith, length-drop c.loop.place c.args.b.now, c.loop.invariant.0) in
    rw (p.1, p.2) (section_ends c.loop.made c.args.b.now c.in_err-section.field-0.0 (length c.args.b.now - c.loop.counter) c.loop.before (fence_of c.args.b.now (bounds.Passes (length c.args.b.now))) (drop c.loop.place c.args.b.now)
    (module_made (sections_read (length c.args.b.now - c.args.at) before_all (drop c.args.at c.args.b.now))) (omega arith) there (no_fence c.args.b.now) c.in_err-section.ensures c.loop.invariant.1)

pub loop-preserved : goal.loop-preserved
loop-preserved c =
    let there : 0 < length (drop c.loop.place c.args.b.now) = omega (arith, length-drop c.loop.place c.args.b.now, c.loop.invariant.0) in
    let f : length c.args.b.now - c.loop.counter - 1 ≡ length c.args.b.now - (c.loop.counter + 1) = omega arith in (
      c.in_ok-section.ensures.0,
      rw (c.put.ensures, c.after-before.ensures, ← f) (section_goes_on c.loop.made (length c.args.b.now - c.loop.counter) c.loop.before (fence_of c.args.b.now (bounds.Passes (length c.args.b.now))) (drop c.loop.place c.args.b.now)
          c.in_ok-section.section (drop c.in_ok-section.behind c.args.b.now) (module_made (sections_read (length c.args.b.now - c.args.at) before_all (drop c.args.at c.args.b.now))) (omega arith) there (no_fence c.args.b.now) c.in_ok-section.ensures.1 c.loop.invariant.1),
    )

pub returns-then-place-b-2-clause-err : goal.returns-then-place-b-2-clause-err
returns-then-place-b-2-clause-err c =
    let there : 0 < length (drop c.loop.place c.args.b.now) = omega (arith, length-drop c.loop.place c.args.b.now, c.loop.invariant.0) in
    let zero : 0 ≡ length c.args.b.now - length c.args.b.now = omega arith in
    rw c.cut_off.ensures (
      omega arith,
      sections_cut c.loop.made (length c.args.b.now - c.loop.counter) c.loop.before (drop c.loop.place c.args.b.now) (module_made (sections_read (length c.args.b.now - c.args.at) before_all (drop c.args.at c.args.b.now)))
          (omega arith) there c.loop.invariant.1 ∙ ap (λ n. Err (record { number = 2; left = n })) zero,
    )
