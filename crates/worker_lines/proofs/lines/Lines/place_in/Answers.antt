use Rattle.std.proofs.Common.{◌≡◌, ◌∙◌, ◌==◌, ℕ, true, sym, subst, Some}
use Rattle.std.specs.Prelude.{position}
use Rattle.worker_model.specs.declared.types.Line.{Line}
use Rattle.worker_lines.proofs.Wished.{same_by}
use Rattle.worker_lines.proofs.lines.Lines.place_in.Goals as goal

pub returns-then-eq : goal.returns-then-eq
returns-then-eq c =
    let found = c.self.invariant.sees.at c.in-Some.seen c.in-Some.is in
    let equal : (c.in-Some.seen.number == c.args.number) ≡ true = sym c.eq.ensures ∙ c.if-eq.true in
    let same : c.in-Some.seen.number ≡ c.args.number = same_by c.in-Some.seen.number c.args.number equal in
    rw (← c.self.view_is) (sym (subst (λ (m : ℕ). position (λ (line : Line). line.number == m) c.self.inside.list.items ≡ Some c.in-Some.seen.place) same found))
