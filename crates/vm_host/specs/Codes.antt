-- Nested code and threads as lists, by which a proof tells them apart.
use Rattle.std.specs.Prelude.{◌≡◌, ◌⊎◌, ℕ, List, [], ◌∷◌, ◌++◌, refl}
use Rattle.std.specs.Coded.{Coded, code_by, coded_ℕ, coded_list, coded×, coded⊎}
use Rattle.std.proofs.Common.{ap, ◌∙◌, inl, inr, append_assoc}
use base.Stored.{coded_unit}
use Rattle.wasm_syntax.specs.declared.types.Value.{Value}
use Rattle.wasm_syntax.specs.declared.instr.Instr.{Instr}
use Rattle.wasm_syntax.specs.declared.instr.BlockType.{BlockType}
use Rattle.wasm_syntax.specs.contracts.types.Value as values
use Rattle.wasm_syntax.specs.contracts.instr.Instr as instrs
use Rattle.wasm_syntax.specs.contracts.instr.BlockType as block_types
use Rattle.wasm_syntax.specs.Nested.{Nested, nothing, simple, block, loop, choice}
use Rattle.wasm_syntax.specs.Reduction.{Thread, code, label, frame, at_host}

-- ---- nested code: what each construct is made of comes before it

abbrev Word : Type 0
Word = Unit {0} ⊎ (Instr ⊎ (BlockType ⊎ (BlockType ⊎ BlockType)))

abbrev words : Nested → List Word
words nothing = inl tt ∷ []
words (simple i rest) = words rest ++ (inr (inl i) ∷ [])
words (block t body rest) = words body ++ (words rest ++ (inr (inr (inl t)) ∷ []))
words (loop t body rest) = words body ++ (words rest ++ (inr (inr (inr (inl t))) ∷ []))
words (choice t then other rest) = words then ++ (words other ++ (words rest ++ (inr (inr (inr (inr t))) ∷ [])))

-- what a word makes of those that stand before it, the last first
abbrev made : Word → List Nested → List Nested
made (inl u) ns = nothing ∷ ns
made (inr (inl i)) (rest ∷ ns) = simple i rest ∷ ns
made (inr (inl i)) [] = []
made (inr (inr (inl t))) (rest ∷ body ∷ ns) = block t body rest ∷ ns
made (inr (inr (inl t))) (rest ∷ []) = []
made (inr (inr (inl t))) [] = []
made (inr (inr (inr (inl t)))) (rest ∷ body ∷ ns) = loop t body rest ∷ ns
made (inr (inr (inr (inl t)))) (rest ∷ []) = []
made (inr (inr (inr (inl t)))) [] = []
made (inr (inr (inr (inr t)))) (rest ∷ other ∷ then ∷ ns) = choice t then other rest ∷ ns
made (inr (inr (inr (inr t)))) (rest ∷ other ∷ []) = []
made (inr (inr (inr (inr t)))) (rest ∷ []) = []
made (inr (inr (inr (inr t)))) [] = []

abbrev all_made : List Word → List Nested → List Nested
all_made [] ns = ns
all_made (w ∷ ws) ns = all_made ws (made w ns)

abbrev topmost : List Nested → Nested
topmost [] = nothing
topmost (n ∷ ns) = n

rebuilt : (n : Nested) (ws : List Word) (ns : List Nested) → all_made (words n ++ ws) ns ≡ all_made ws (n ∷ ns)
rebuilt nothing ws ns = refl
rebuilt (simple i rest) ws ns =
    ap (λ (x : List Word). all_made x ns) (append_assoc (words rest) (inr (inl i) ∷ []) ws) ∙ rebuilt rest (inr (inl i) ∷ ws) ns
rebuilt (block t body rest) ws ns =
    ap (λ (x : List Word). all_made x ns) (append_assoc (words body) (words rest ++ (inr (inr (inl t)) ∷ [])) ws)
    ∙ rebuilt body ((words rest ++ (inr (inr (inl t)) ∷ [])) ++ ws) ns
    ∙ ap (λ (x : List Word). all_made x (body ∷ ns)) (append_assoc (words rest) (inr (inr (inl t)) ∷ []) ws)
    ∙ rebuilt rest (inr (inr (inl t)) ∷ ws) (body ∷ ns)
rebuilt (loop t body rest) ws ns =
    ap (λ (x : List Word). all_made x ns) (append_assoc (words body) (words rest ++ (inr (inr (inr (inl t))) ∷ [])) ws)
    ∙ rebuilt body ((words rest ++ (inr (inr (inr (inl t))) ∷ [])) ++ ws) ns
    ∙ ap (λ (x : List Word). all_made x (body ∷ ns)) (append_assoc (words rest) (inr (inr (inr (inl t))) ∷ []) ws)
    ∙ rebuilt rest (inr (inr (inr (inl t))) ∷ ws) (body ∷ ns)
rebuilt (choice t then other rest) ws ns =
    ap (λ (x : List Word). all_made x ns) (append_assoc (words then) (words other ++ (words rest ++ (inr (inr (inr (inr t))) ∷ []))) ws)
    ∙ rebuilt then ((words other ++ (words rest ++ (inr (inr (inr (inr t))) ∷ []))) ++ ws) ns
    ∙ ap (λ (x : List Word). all_made x (then ∷ ns)) (append_assoc (words other) (words rest ++ (inr (inr (inr (inr t))) ∷ [])) ws)
    ∙ rebuilt other ((words rest ++ (inr (inr (inr (inr t))) ∷ [])) ++ ws) (then ∷ ns)
    ∙ ap (λ (x : List Word). all_made x (other ∷ then ∷ ns)) (append_assoc (words rest) (inr (inr (inr (inr t))) ∷ []) ws)
    ∙ rebuilt rest (inr (inr (inr (inr t))) ∷ ws) (other ∷ then ∷ ns)

pub again : (n : Nested) → topmost (all_made (words n ++ []) []) ≡ n
again n = ap topmost (rebuilt n [] [])

abbrev pub nested_code : Coded Nested
nested_code =
    code_by (List Word) (coded_list (coded⊎ coded_unit (coded⊎ instrs.the_row.coded (coded⊎ block_types.the_row.coded (coded⊎ block_types.the_row.coded block_types.the_row.coded)))))
    (λ n. words n ++ []) (λ ws. topmost (all_made ws [])) again

-- ---- threads: what is around, the outermost first, and the code inside

abbrev Layer : Type 0
Layer = (List Value × (ℕ × (Nested × Nested))) ⊎ ((List Value × (ℕ × (List Value × Nested))) ⊎ ℕ)

abbrev layers : Thread → List Layer
layers (code vs rest) = []
layers (label vs arity next inside rest) = inl (vs, (arity, (next, rest))) ∷ layers inside
layers (frame vs arity own inside rest) = inr (inl (vs, (arity, (own, rest)))) ∷ layers inside
layers (at_host x inside) = inr (inr x) ∷ layers inside

abbrev inmost : Thread → List Value × Nested
inmost (code vs rest) = (vs, rest)
inmost (label vs arity next inside rest) = inmost inside
inmost (frame vs arity own inside rest) = inmost inside
inmost (at_host x inside) = inmost inside

abbrev around : List Layer → List Value × Nested → Thread
around [] z = code z.0 z.1
around (inl (vs, (arity, (next, rest))) ∷ ls) z = label vs arity next (around ls z) rest
around (inr (inl (vs, (arity, (own, rest)))) ∷ ls) z = frame vs arity own (around ls z) rest
around (inr (inr x) ∷ ls) z = at_host x (around ls z)

pub rebuilds : (t : Thread) → around (layers t) (inmost t) ≡ t
rebuilds (code vs rest) = refl
rebuilds (label vs arity next inside rest) = ap (λ (t : Thread). label vs arity next t rest) (rebuilds inside)
rebuilds (frame vs arity own inside rest) = ap (λ (t : Thread). frame vs arity own t rest) (rebuilds inside)
rebuilds (at_host x inside) = ap (λ (t : Thread). at_host x t) (rebuilds inside)

abbrev values_code : Coded (List Value)
values_code = coded_list values.the_row.coded

abbrev pub thread_code : Coded Thread
thread_code =
    code_by (List Layer × (List Value × Nested))
    (coded× (coded_list (coded⊎ (coded× values_code (coded× coded_ℕ (coded× nested_code nested_code))) (coded⊎ (coded× values_code (coded× coded_ℕ (coded× values_code nested_code))) coded_ℕ))) (coded× values_code nested_code))
    (λ t. (layers t, inmost t)) (λ p. around p.0 p.1) rebuilds
