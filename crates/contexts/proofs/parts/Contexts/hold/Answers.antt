use Rattle.std.proofs.Common.{refl, ap, sym, ◌∙◌}
use Rattle.std.specs.Option.{option_copied_mut}
use Rattle.contexts.proofs.Putting.{stage_put_same, err_then}
use Rattle.contexts.proofs.parts.Contexts.hold.Goals as goal

pub returns-in-Some-clause-err : goal.returns-in-Some-clause-err
returns-in-Some-clause-err c =
    err_then c.hold.result (λ kept. stage_put_same c.args.self.now c.args.vm c.args.id c.args.response c.in-Some.own.now c.hold.new.self (c.if-not-has_vm.ensures.0 refl) (sym (ap option_copied_mut c.in-Some.is) ∙ c.own_of_mut.ensures.value) (kept ∙ c.stage_mut.ensures.value)) c.hold.ensures.err
