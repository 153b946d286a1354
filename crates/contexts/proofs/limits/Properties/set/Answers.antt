use Rattle.std.proofs.Common.{arith}
use Rattle.contexts.proofs.Short.{within_set, within_push}
use Rattle.contexts.proofs.limits.Properties.set.Goals as goal

pub invariant_of-self : goal.invariant_of-self
invariant_of-self c = within_set c.self.inside.items c.in_ok-self-inside-in-Some.field-0 c.args.path.now c.args.value.now c.in_ok-self-inside-in-Some.ensures (omega (arith, c.if-path-gt-PROPERTY_BYTES.false)) (omega (arith, c.if-value-gt-PROPERTY_BYTES.false)) c.self.invariant c.in-Some.at

pub invariant_of-self-in_ok-push-in-None : goal.invariant_of-self-in_ok-push-in-None
invariant_of-self-in_ok-push-in-None c = within_push c.self.inside.items c.in_ok-copied-in-None.field-0 c.args.path.now c.args.value.now c.in_ok-copied-in-None.ensures (omega (arith, c.if-path-gt-PROPERTY_BYTES.false)) (omega (arith, c.if-value-gt-PROPERTY_BYTES.false)) c.self.invariant c.push.new.self c.in_ok-push-in-None.ensures.ok (omega (arith, c.len.ensures, c.if-len-ge-PROPERTY_LIMIT.false))
