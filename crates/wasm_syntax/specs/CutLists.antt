-- A flat list that is cut at a mark.
use Rattle.std.specs.Prelude.{◌≡◌, List, ◌∷◌, ◌++◌}
use Rattle.wasm_syntax.specs.declared.instr.Instr.{Instr}
use Rattle.wasm_syntax.specs.Nested.{Nested, Cut, nests, Writes}

-- it is a list that the sequence is written as, the mark, and a rest that nests so
pub record CutAt (mark : Instr) (code : Nested) (behind : Cut) (is : List Instr) : Type 0 where
  pub body : List Instr
  pub rest : List Instr
  pub parts : is ≡ body ++ mark ∷ rest
  pub written : Writes code body
  pub nested : nests rest ≡ behind
