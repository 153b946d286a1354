use Rattle.std.proofs.Common.{◌≡◌, ◌++◌, ◌∙◌, List, append_assoc, ap, sym}
use Rattle.gate_io.specs.Passing.{received}
use Rattle.gate_io.specs.declared.event.Sent.{Sent}
use Rattle.workload.specs.Tallies.{sum_of, tally_of}
use Rattle.command_generate.specs.Generating.{all_received}
use Rattle.command_generate.proofs.telling.tally_of.Goals as goal

pub loop-world-preserved : goal.loop-world-preserved
loop-world-preserved c =
    let counted = c.loop-world.invariant.0 in
    let got = received c.in-Some.world.trace in
    let count : c.count.result ≡ tally_of got = c.count.ensures ∙ ap tally_of (c.as_slice.ensures ∙ c.in_ok-received.ensures) in
    let sum : c.plus-tally.result ≡ tally_of (counted ++ got) = c.plus-tally.ensures ∙ (λ k. sum_of (c.loop-world.invariant.1 k) (count k)) ∙ sym (c.tallies_add_up.ensures counted got) in
    let next : all_received c.loop-world.world-iterator.rest.items ≡ got ++ all_received c.next.new.self.rest.items = ap all_received c.in-Some.ensures.steps.0 in (
      counted ++ got,
      sum,
      append_assoc counted got (all_received c.next.new.self.rest.items) ∙ ap (λ (l : List Sent). counted ++ l) (sym next) ∙ c.loop-world.invariant.2,
    )
