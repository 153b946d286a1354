use Rattle.std.proofs.Common.{◌≡◌, ◌+◌, ◌++◌, ℕ, List, append_assoc, ap, drop, sym, ◌∙◌}
use Rattle.command_generate.specs.Items.{count_of, item_line, lines_of}
use Rattle.command_generate.proofs.Texts.{one_line}
use Rattle.command_generate.proofs.items.put_lines.Goals as goal

pub loop-text-preserved : goal.loop-text-preserved
loop-text-preserved c =
    let items = c.args.items.now in
    let text = c.text-item.result in
    let rest = lines_of items (drop (c.loop-text.text-index + 1) c.args.texts.now) in
    let count : c.count_of.result ≡ count_of text items = c.count_of.ensures ∙ ap (λ (t : List ℕ). count_of t items) c.as_slice-bytes.ensures in
    let line : c.put_item_line.new.out ≡ c.loop-text.out ++ item_line text (count_of text items) =
    c.in_ok-put_item_line.ensures ∙ (λ k. c.loop-text.out ++ item_line (c.as_slice-bytes.ensures k) (count k)) in
    ap (λ (o : List ℕ). o ++ rest) line ∙ append_assoc c.loop-text.out (item_line text (count_of text items)) rest
    ∙ ap (λ (o : List ℕ). c.loop-text.out ++ o) (sym (one_line items c.args.texts.now c.loop-text.text-index text c.loop-text-test.true c.text-item.is)) ∙ c.loop-text.invariant
