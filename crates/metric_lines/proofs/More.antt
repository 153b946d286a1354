-- One more metric.
use Rattle.std.proofs.Common.{◌≡◌, ℕ, suc, ◌+◌, List, [], ◌∷◌, ◌++◌, length, refl, ap, sym, ◌∙◌, arith, append_assoc}
use Rattle.std.proofs.lemmas.List.{append-nil}
use Rattle.store_model.specs.declared.metric.MetricName.{MetricName}
use Rattle.metric_seats.specs.Totals.{total_in}
use Rattle.metric_lines.specs.Lines.{metric_line, metric_lines}
use Rattle.metric_lines.specs.Totals.{put_all, put_in, totals_from}
use Rattle.metric_lines.specs.declared.totals.MetricTotal.{MetricTotal}

pub lines_more : (vm : List ℕ) (ms : List MetricTotal) (m : MetricTotal) → metric_lines vm (ms ++ m ∷ []) ≡ metric_lines vm ms ++ metric_line vm m
lines_more vm [] m = append-nil (metric_line vm m)
lines_more vm (x ∷ ms) m = ap (λ l. metric_line vm x ++ l) (lines_more vm ms m) ∙ sym (append_assoc (metric_line vm x) (metric_lines vm ms) (metric_line vm m))

-- a metric of this id, with its total
abbrev pub total_at : List ℕ → ℕ → MetricName → MetricTotal
total_at words id n = record { kind = n.kind; name = n.name; total = total_in words n.kind id }

totals_more : (words : List ℕ) (id : ℕ) (ns : List MetricName) (n : MetricName) → totals_from words id (ns ++ n ∷ []) ≡ totals_from words id ns ++ total_at words (id + length ns) n ∷ []
totals_more words id [] n = ap (λ k. total_at words k n ∷ []) (let e : id ≡ id + 0 = omega arith in e)
totals_more words id (x ∷ ns) n = ap (λ l. total_at words id x ∷ l) (totals_more words (id + 1) ns n ∙ ap (λ k. totals_from words (id + 1) ns ++ total_at words k n ∷ []) (let e : id + 1 + length ns ≡ id + suc (length ns) = omega arith in e))

put_more : (ms done : List MetricTotal) (m : MetricTotal) → put_all (ms ++ m ∷ []) done ≡ put_in m (put_all ms done)
put_more [] done m = refl
put_more (x ∷ ms) done m = put_more ms (put_in x done) m

pub told_more : (words : List ℕ) (ns : List MetricName) (n : MetricName) (k : ℕ) → length ns ≡ k → put_all (totals_from words 1 (ns ++ n ∷ [])) [] ≡ put_in (total_at words (k + 1) n) (put_all (totals_from words 1 ns) [])
told_more words ns n k is =
    ap (λ l. put_all l []) (totals_more words 1 ns n) ∙ (put_more (totals_from words 1 ns) [] (total_at words (1 + length ns) n)
    ∙ ap (λ j. put_in (total_at words j n) (put_all (totals_from words 1 ns) [])) (let e : 1 + length ns ≡ k + 1 = omega arith in e))
