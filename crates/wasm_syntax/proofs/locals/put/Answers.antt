use Rattle.std.proofs.Common.{◌≡◌, ◌∙◌, ap, Result, Ok, Err}
use Rattle.std.specs.Prelude.{OnOk, OnErr, ◌++◌, ◌∷◌, [], List}
use Rattle.wasm_syntax.specs.declared.types.ValueType.{ValueType}
use Rattle.wasm_syntax.specs.declared.locals.LocalRun.{LocalRun}
use Rattle.wasm_syntax.specs.LocalRuns.{IsRising, unrolled}
use Rattle.wasm_syntax.proofs.RunLists.{opened-rising, put-rising, put-more}
use Rattle.wasm_syntax.proofs.locals.put.Goals as goal

rising : {A E : Type 0} (r : Result A E) (old opened new : List LocalRun) (q : LocalRun) → OnOk r (new ≡ opened ++ q ∷ []) → OnErr r (new ≡ opened) → IsRising 0 (opened ++ q ∷ []) → IsRising 0 opened → IsRising 0 new
rising (Ok x) old opened new q ok err more less = rw ok more
rising (Err e) old opened new q ok err more less = rw err less

more : {A E : Type 0} (r : Result A E) (opened new : List LocalRun) (q : LocalRun) (all : List ValueType) → OnOk r (new ≡ opened ++ q ∷ []) → unrolled 0 (opened ++ q ∷ []) ≡ all → OnOk r (unrolled 0 new ≡ all)
more (Ok x) opened new q all ok is = ap (unrolled 0) ok ∙ is
more (Err e) opened new q all ok is = tt

pub returns-clause-rising : goal.returns-clause-rising
returns-clause-rising c =
    rising c.push.result c.args.runs.now c.open.new.runs c.push.new.self c.args.run c.push.ensures.ok c.push.ensures.err
    (put-rising c.args.runs.now c.open.new.runs c.args.run c.open.ensures c.requires.rising c.requires.end)
    (opened-rising c.args.runs.now c.open.new.runs c.args.run.of c.open.ensures c.requires.rising)

pub returns-clause-more : goal.returns-clause-more
returns-clause-more c =
    more c.push.result c.open.new.runs c.push.new.self c.args.run _ c.push.ensures.ok
    (put-more c.args.runs.now c.open.new.runs c.args.run c.open.ensures c.requires.rising c.requires.end)
