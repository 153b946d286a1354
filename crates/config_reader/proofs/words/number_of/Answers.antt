use Rattle.std.proofs.Common.{◌≡◌, ℕ, ◌+◌, ◌-◌, ◌*◌, min, drop, get_or, ap, sym, ◌∙◌, arith}
use Rattle.config_reader.specs.Words.{number_from}
use Rattle.config_reader.proofs.Numbers.{number_step, number_end}
use Rattle.config_reader.proofs.words.number_of.Goals as goal

pub loop-b-preserved : goal.loop-b-preserved
loop-b-preserved c =
    let s = c.args.s.now in
    let i = c.loop-b.b-index in
    let n = c.loop-b.n in
    let next : c.min-n.result ≡ min (n * 10 + (get_or s i 0 - 48)) 1000000 = c.min-n.ensures ∙ ap (λ (k : ℕ). min (n * 10 + k) 1000000) (c.from.ensures ∙ c.saturating_sub.ensures) in
    (c.loop-b.invariant.0 ∙ number_step n s i c.loop-b-test.true ∙ ap (λ (k : ℕ). number_from k (drop (i + 1) s)) (sym next), omega arith)

pub returns : goal.returns
returns c = sym (c.loop-b.invariant.0 ∙ number_end c.loop-b.n c.args.s.now c.loop-b.b-index c.loop-b-test.false)
