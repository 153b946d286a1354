use Rattle.std.proofs.Common.{◌≡◌, ℕ, ◌+◌, ◌<◌, List, ◌++◌, length, take, get_or, sym, ap, subst, ◌∙◌, arith}
use Rattle.std.specs.List.{flat_map}
use Rattle.std.proofs.lemmas.List.{flat_map_more, take_more}
use Rattle.wasm_syntax.specs.Grammar.{header, Spells}
use Rattle.wasm_syntax.specs.Numbers.{IsShortest}
use Rattle.wasm_syntax.specs.declared.kinds.TheConstants.{SECTIONS}
use Rattle.wasm_writer.specs.Written.{part_bytes, module_bytes}
use Rattle.wasm_writer.proofs.Whole.{written_shortest}
use Rattle.wasm_writer.proofs.module.write_module.Goals as goal

more : {A : Type 0} (f : A → List ℕ) (front out new : List ℕ) (xs : List A) (i : ℕ) (d : A) → i < length xs → out ≡ front ++ flat_map f (take i xs) → new ≡ out ++ f (get_or xs i d) → new ≡ front ++ flat_map f (take (i + 1) xs)
more f front out new xs i d lt e n =
    n ∙ (ap (λ (l : List ℕ). l ++ f (get_or xs i d)) e ∙ (flat_map_more f front (take i xs) (get_or xs i d) ∙ ap (λ l. front ++ flat_map f l) (sym (take_more xs i d lt))))

pub loop-kind-preserved : goal.loop-kind-preserved
loop-kind-preserved c = more (part_bytes c.args.m.now) header c.loop-kind.out c.write_part.new.out SECTIONS c.loop-kind.kind-index _ c.loop-kind-test.true c.loop-kind.invariant c.in_ok-write_part.ensures

pub returns-clause-shortest : goal.returns-clause-shortest
unfolding module_bytes
returns-clause-shortest c =
    let all : c.loop-kind.kind-index ≡ 12 = omega arith in
    let e : c.loop-kind.out ≡ module_bytes c.args.m.now = c.loop-kind.invariant ∙ ap (λ (n : ℕ). header ++ flat_map (part_bytes c.args.m.now) (take n SECTIONS)) all in
    subst (IsShortest (λ b. Spells b c.args.m.now)) (sym e) (written_shortest c.requires.bytes c.args.m.now c.requires.are_bytes c.requires.spelled)
