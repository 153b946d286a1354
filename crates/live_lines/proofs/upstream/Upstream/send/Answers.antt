use Rattle.std.proofs.Common.{take, drop, sym, ap, ◌++◌, ◌∙◌}
use Rattle.std.proofs.lemmas.List.{take-append-drop, take_rest}
use Rattle.live_lines.proofs.Passing.{in_front, on_err}
use Rattle.live_lines.proofs.upstream.Upstream.send.Goals as goal

pub returns-in_err-put-clause-lost : goal.returns-in_err-put-clause-lost
returns-in_err-put-clause-lost g c = let n = c.offer-n.result in let bytes = c.args.bytes.now in
    on_err c.from_residual.result _ (record { front = take n bytes; rest = drop n bytes; whole_is = sym (take-append-drop n bytes); gained = c.offer-n.ensures.took })

pub returns-clause-ok : goal.returns-clause-ok
returns-clause-ok g c = let n = c.offer-n.result in let bytes = c.args.bytes.now in let waiting = c.args.self.now.waiting in
    let waits = c.in_ok-put.ensures.ok ∙ ap (λ rest. waiting ++ rest) (take_rest bytes n) in
    record { gone = take n bytes; in_order = ap (λ now. take n bytes ++ now) waits ∙ in_front n waiting bytes c.offer-n.ensures.behind; taken = c.offer-n.ensures.took }
