use Rattle.std.proofs.Common.{◌≡◌, ℕ, true, false, Option, None, Some, sym, ◌∙◌, subst}
use Rattle.store_model.specs.Program.{Program, done, Runs}
use Rattle.vm_host.specs.Vms.{VmAt}
use Rattle.vm_host.specs.Slots.{Came, came, is_at_home, calling_slot}
use Rattle.vm_host.proofs.Calling.{home_part, none_part, away_part}
use Rattle.vm_host.proofs.slots.call_slot.Goals as goal

pub returns-in-None-clause-run : goal.returns-in-None-clause-run
returns-in-None-clause-run g c =
    let n = c.args.numbers in
    let h = c.args.contexts.now in
    subst (λ (o : Option VmAt). Runs g.S.Shared.performs c.args.shared.now (calling_slot c.args.most o c.args.name n.context n.first n.second c.args.now h) (done (came c.silence.result.end c.silence.result.lines None h)) c.args.shared.now) (sym c.in-None.is)
    (none_part g.S.Shared.performs g.met.S.Shared.nothing c.args.name n.context n.first n.second c.args.now h c.args.shared.now c.silence.result.end c.silence.result.lines c.silence.ensures.end c.silence.ensures.lines c.args.most)

pub returns-in-Ok-clause-run : goal.returns-in-Ok-clause-run
returns-in-Ok-clause-run g c =
    let n = c.args.numbers in
    let h = c.args.contexts.now in
    let home = subst (λ (p : ℕ). is_at_home c.args.most p h ≡ true) c.place.ensures (sym c.is_at_home.ensures ∙ c.if-is_at_home.true) in
    let end = done (came c.in-Ok.outcome.answer.end c.in-Ok.outcome.answer.lines c.in-Ok.outcome.vm c.call_live.new.contexts) in
    subst (λ (o : Option VmAt). Runs g.S.Shared.performs c.args.shared.now (calling_slot c.args.most o c.args.name n.context n.first n.second c.args.now h) end c.call_live.new.shared) (sym c.in-Some.is)
    (home_part g.S.Shared.performs c.args.name n.context n.first n.second c.args.now h c.args.shared.now c.call_live.new.shared c.args.most c.in-Some.vm home end c.in-Ok.ensures.run)

pub returns-in-Err-clause-run : goal.returns-in-Err-clause-run
returns-in-Err-clause-run g c =
    let n = c.args.numbers in
    let h = c.args.contexts.now in
    let home = subst (λ (p : ℕ). is_at_home c.args.most p h ≡ true) c.place.ensures (sym c.is_at_home.ensures ∙ c.if-is_at_home.true) in
    let r = c.in-Err.ensures.run in
    subst (λ (o : Option VmAt). (q : Program Came) × Runs g.S.Shared.performs c.args.shared.now (calling_slot c.args.most o c.args.name n.context n.first n.second c.args.now h) q c.call_live.new.shared) (sym c.in-Some.is)
    (r.0, home_part g.S.Shared.performs c.args.name n.context n.first n.second c.args.now h c.args.shared.now c.call_live.new.shared c.args.most c.in-Some.vm home r.0 r.1)

pub returns-else-is_at_home-clause-run : goal.returns-else-is_at_home-clause-run
returns-else-is_at_home-clause-run g c =
    let n = c.args.numbers in
    let h = c.args.contexts.now in
    let q = c.silence-else-is_at_home in
    let away = subst (λ (p : ℕ). is_at_home c.args.most p h ≡ false) c.place.ensures (sym c.is_at_home.ensures ∙ c.if-is_at_home.false) in
    subst (λ (o : Option VmAt). Runs g.S.Shared.performs c.args.shared.now (calling_slot c.args.most o c.args.name n.context n.first n.second c.args.now h) (done (came q.result.end q.result.lines (Some c.in-Some.vm) h)) c.args.shared.now) (sym c.in-Some.is)
    (away_part g.S.Shared.performs g.met.S.Shared.nothing c.args.name n.context n.first n.second c.args.now h c.args.shared.now q.result.end q.result.lines q.ensures.end q.ensures.lines c.args.most c.in-Some.vm away)
