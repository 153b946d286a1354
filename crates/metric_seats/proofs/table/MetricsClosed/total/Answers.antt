use Rattle.std.proofs.Common.{rules, arith, ◌≡◌, ◌≤◌, ◌+◌, ◌-◌, ◌%◌, ◌^◌, ℕ, suc, get_or, ap, sym, ◌∙◌}
use Rattle.metric_table.specs.Places.{place_of}
use Rattle.metric_seats.proofs.Totals.{summed_more, summed_to}
use Rattle.metric_seats.proofs.table.MetricsClosed.total.Goals as goal

pub loop-number-preserved : goal.loop-number-preserved
loop-number-preserved c =
    let words = c.args.self.now.totals in let kind = c.args.kind in let id = c.args.id in
    let k = c.loop-number.number in
    let n : c.unwrap-who.result ≡ k = search rules in
    let word : c.word-total.result ≡ get_or words (place_of k kind id) 0 = c.word-total.ensures ∙ ap (λ who. get_or words (place_of who kind id) 0) n in
    let low : 1 ≤ k = (let a = c.loop-number.auto.number in omega arith) in
    let here : suc (k - 1) ≡ k = omega arith in
    let next : k + 1 - 1 ≡ suc (k - 1) = omega arith in
    let more : summed_to words kind id (k + 1 - 1) ≡ summed_to words kind id (k - 1) + get_or words (place_of k kind id) 0 =
    ap (summed_to words kind id) next ∙ (summed_more words kind id (k - 1) ∙ ap (λ who. summed_to words kind id (k - 1) + get_or words (place_of who kind id) 0) here) in
    let so_far = c.loop-number.invariant in omega arith

pub returns : goal.returns
returns c =
    let all : c.loop-number.number - 1 ≡ 8 = (let a = c.loop-number.auto.number in let b = c.loop-number-test.false in omega arith) in
    c.loop-number.invariant ∙ ap (λ n. summed_to c.args.self.now.totals c.args.kind c.args.id n % 2 ^ 64) all
