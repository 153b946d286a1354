use Rattle.std.proofs.Common.{◌≡◌, ◌⊎◌, inl, inr, ◌↔◌, rules, ℕ, ◌<◌, ◌≤◌, List, Bool, length, take, subst, arith, ⊎_elim}
use Rattle.std.specs.Prelude.{MatchBool}
use Rattle.wasm_syntax.specs.declared.valid.Part.TheVariants as part
use Rattle.wasm_syntax.specs.Validity.{IsGood, IsExport, IsExported}
use Rattle.wasm_validator.specs.Seen.{IsSeen}
use Rattle.wasm_validator.proofs.Finding.{grown, read_at}
use Rattle.wasm_validator.proofs.ExportNames.{differ, named-more}
use Rattle.wasm_validator.proofs.export.first_bad_export.Goals as goal

pub loop-n-preserved : goal.loop-n-preserved
loop-n-preserved c =
    let m = c.args.m.now in
    let n = c.loop-n.n in
    let e = c.get-e.result.now in
    let name_is = c.as_str.ensures in
    let is_there : n < length m.exports = omega (arith, c.loop-n-test.true, c.len.ensures) in
    let low : n ≤ length m.exports = omega (arith, is_there) in
    let told = subst (λ (b : Bool). MatchBool b (IsSeen c.loop-n.seen c.as_str.result.now → ⊥) (IsSeen c.loop-n.seen c.as_str.result.now)) c.if-not-branch.false c.in_ok-add.ensures.told in
    let new : IsSeen c.loop-n.seen e.name → ⊥ = subst (λ (q : List ℕ). IsSeen c.loop-n.seen q → ⊥) name_is told in
    let differs = differ m.exports n e low (λ h. new ((c.loop-n.invariant.names e.name).1 h)) in
    let exported : IsExported m e.kind = c.if-not-is_exported.ensures.0 (search rules) in
    record {
      within = omega (arith, is_there);
      good = grown (IsGood m part.Export) n c.loop-n.invariant.good (read_at m.exports n e (IsExport m (take n m.exports)) is_there c.get-e.ensures (exported, differs));
      names = λ q.
          let more = named-more m.exports n e q is_there c.get-e.ensures in
          let seen = subst (λ (x : List ℕ). IsSeen c.add.new.self q ↔ (IsSeen c.loop-n.seen q ⊎ (q ≡ x))) name_is (c.in_ok-add.ensures.seen q) in
          let before = c.loop-n.invariant.names q in (
            (λ h. more.0 (⊎_elim (λ s. inl (before.0 s)) (λ s. inr s) (seen.0 h))),
            (λ h. seen.1 (⊎_elim (λ s. inl (before.1 s)) (λ s. inr s) (more.1 h))),
          );
    }
