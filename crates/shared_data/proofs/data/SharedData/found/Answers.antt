use Rattle.std.proofs.Common.{Some, None, sym, ap, ◌∙◌}
use Rattle.shared_data.specs.Found.{found_of}
use Rattle.shared_data.proofs.Seeing.{held-seen}
use Rattle.shared_data.proofs.data.SharedData.found.Goals as goal

pub returns-in_err-kept : goal.returns-in_err-kept
returns-in_err-kept c =
    c.from_residual.ensures ∙ sym (ap found_of (held-seen c.self.inside.map.entries c.self.inside.next c.args.key.now None c.args.self.now c.self.view_is c.in_err-kept.ensures.value))

pub returns : goal.returns
returns c =
    (λ i. Some (record { number = c.in_ok-kept.kept.now.number; value_len = c.len.ensures i }))
    ∙ sym (ap found_of (held-seen c.self.inside.map.entries c.self.inside.next c.args.key.now (Some c.in_ok-kept.kept.now) c.args.self.now c.self.view_is c.in_ok-kept.ensures.value))
