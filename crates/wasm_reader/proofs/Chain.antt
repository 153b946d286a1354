-- Reading a chain link by link, as a loop does.
use Rattle.std.proofs.Common.{◌≡◌, ℕ, suc, ◌-◌, ◌<◌, Bool, true, false, cond, reverse, Option, Some, None, List, [], ◌∷◌, ◌++◌, length, drop, Ok, Err, refl, sym, ap, ◌∙◌, append_assoc, arith}
use Rattle.std.proofs.lemmas.List.{length-drop}
use Rattle.wasm_syntax.specs.declared.instr.Instr.{Instr}
use Rattle.wasm_syntax.specs.declared.instr.Open.{Open}
use Rattle.wasm_syntax.specs.declared.opcode.Opcode.{Opcode}
use Rattle.wasm_syntax.specs.Opcodes.{opcode_of}
use Rattle.wasm_syntax.specs.Format.{Reading, ok, fault, and_then, Fence, Format, linked, chain_reads}
use Rattle.wasm_syntax.specs.Grammar.{open_after, instruction, expression}
use Rattle.wasm_reader.specs.declared.ends.ReadEnd.{ReadEnd}
use Rattle.wasm_reader.specs.declared.ends.ReadEnd.TheVariants.{Refused, OutOfMemory}
use Rattle.wasm_reader.specs.Steps.{Gives}
use Rattle.wasm_reader.proofs.Loop.{with_front}

-- the instructions from some open blocks on
abbrev pub expression_reads : ℕ → List Open → Fence → List ℕ → Reading (List Instr)
expression_reads fuel blocks k bytes = chain_reads instruction (λ blocks i. open_after blocks (opcode_of i)) fuel blocks k bytes

pub expression_is : (k : Fence) (bytes : List ℕ) → expression.reads k bytes ≡ expression_reads (length bytes) [] k bytes
unfolding expression
expression_is k bytes = refl

one_link : {S A : Type 0} (step : S → Format A) (next : S → A → Option S) (fuel : ℕ) (s : S) (k : Fence) (bytes : List ℕ) → chain_reads step next (suc fuel) s k bytes ≡ and_then ((step s).reads k bytes) (λ x rest. linked (next s x) x rest (λ t. chain_reads step next fuel t k rest))
unfolding chain_reads
one_link step next fuel s k bytes = refl

no_fuel : {S A : Type 0} (step : S → Format A) (next : S → A → Option S) (s : S) (k : Fence) (bytes : List ℕ) → chain_reads step next 0 s k bytes ≡ fault 2 0
unfolding chain_reads
no_fuel step next s k bytes = refl

regroup : {A : Type 0} (front : List A) (x : A) (read : Reading (List A)) → with_front front (and_then read (λ xs rest. ok (x ∷ xs) rest)) ≡ with_front (front ++ x ∷ []) read
regroup {A = A} front x (Ok r) = ap (λ (xs : List A). ok xs r.1) (sym (append_assoc front (x ∷ []) r.0))
regroup front x (Err e) = refl

-- what a chain gives, where one more link is read
link_read : {S A : Type 0} (step : S → Format A) (next : S → A → Option S) (fuel : ℕ) (s : S) (k : Fence) (bytes : List ℕ) (x : A) (after : List ℕ) → 0 < fuel → (step s).reads k bytes ≡ ok x after
    → chain_reads step next fuel s k bytes ≡ linked (next s x) x after (λ t. chain_reads step next (fuel - 1) t k after)
link_read step next fuel s k bytes x after some h =
    let n : fuel ≡ suc (fuel - 1) = omega arith in
    ap (λ f. chain_reads step next f s k bytes) n ∙ one_link step next (fuel - 1) s k bytes ∙ ap (λ r. and_then r (λ x rest. linked (next s x) x rest (λ t. chain_reads step next (fuel - 1) t k rest))) h

pub link_goes_on : {S A : Type 0} (step : S → Format A) (next : S → A → Option S) (front : List A) (fuel : ℕ) (s t : S) (k : Fence) (bytes : List ℕ) (x : A) (after : List ℕ) (total : Reading (List A))
    → 0 < fuel → (step s).reads k bytes ≡ ok x after → next s x ≡ Some t → with_front front (chain_reads step next fuel s k bytes) ≡ total
    → with_front (front ++ x ∷ []) (chain_reads step next (fuel - 1) t k after) ≡ total
link_goes_on step next front fuel s t k bytes x after total some h n so_far =
    let one = link_read step next fuel s k bytes x after some h ∙ ap (λ o. linked o x after (λ t. chain_reads step next (fuel - 1) t k after)) n in
    sym (regroup front x (chain_reads step next (fuel - 1) t k after)) ∙ sym (ap (with_front front) one) ∙ so_far

pub link_stops : {S A : Type 0} (step : S → Format A) (next : S → A → Option S) (front : List A) (fuel : ℕ) (s : S) (k : Fence) (bytes : List ℕ) (x : A) (after : List ℕ) (total : Reading (List A))
    → 0 < fuel → (step s).reads k bytes ≡ ok x after → next s x ≡ None → with_front front (chain_reads step next fuel s k bytes) ≡ total → total ≡ ok (front ++ x ∷ []) after
link_stops step next front fuel s k bytes x after total some h n so_far =
    sym so_far ∙ ap (with_front front) (link_read step next fuel s k bytes x after some h ∙ ap (λ o. linked o x after (λ t. chain_reads step next (fuel - 1) t k after)) n)

pub link_ends : {S A : Type 0} (step : S → Format A) (next : S → A → Option S) (b : List ℕ) (e : ReadEnd) (front : List A) (fuel : ℕ) (s : S) (k : Fence) (bytes : List ℕ) (total : Reading (List A))
    → 0 < fuel → Gives {A = A} b (Err e) ((step s).reads k bytes) → with_front front (chain_reads step next fuel s k bytes) ≡ total → Gives {A = List A} b (Err e) total
link_ends step next b OutOfMemory front fuel s k bytes total some h so_far = tt
link_ends step next b (Refused number place) front fuel s k bytes total some h so_far =
    let n : fuel ≡ suc (fuel - 1) = omega arith in
    let one = ap (λ f. chain_reads step next f s k bytes) n ∙ one_link step next (fuel - 1) s k bytes ∙ ap (λ r. and_then r (λ x rest. linked (next s x) x rest (λ t. chain_reads step next (fuel - 1) t k rest))) h.1 in
    (h.0, sym so_far ∙ ap (with_front front) one)

pub fuel_ends : {S A : Type 0} (step : S → Format A) (next : S → A → Option S) (front : List A) (fuel : ℕ) (s : S) (k : Fence) (bytes : List ℕ) (total : Reading (List A))
    → fuel ≡ 0 → with_front front (chain_reads step next fuel s k bytes) ≡ total → total ≡ fault 2 0
fuel_ends step next front fuel s k bytes total none so_far =
    sym so_far ∙ ap (λ f. with_front front (chain_reads step next f s k bytes)) none ∙ ap (with_front front) (no_fuel step next s k bytes)

-- ---- the loop over instructions

pub no_front : {A : Type 0} (read : Reading (List A)) → with_front [] read ≡ read
no_front (Ok r) = refl
no_front (Err e) = refl

pub expression_starts : (b : List ℕ) (at : ℕ) (k : Fence) (body : List Instr) (blocks : List Open) → body ≡ [] → blocks ≡ []
    → with_front body (expression_reads (length b - at) (reverse blocks) k (drop at b)) ≡ expression.reads k (drop at b)
expression_starts b at k body blocks e f =
    ap (λ l. with_front l (expression_reads (length b - at) (reverse blocks) k (drop at b))) e ∙ no_front (expression_reads (length b - at) (reverse blocks) k (drop at b))
    ∙ ap (λ l. expression_reads (length b - at) (reverse l) k (drop at b)) f ∙ ap (λ n. expression_reads n [] k (drop at b)) (sym (length-drop at b)) ∙ sym (expression_is k (drop at b))

-- what the blocks are behind an instruction
pub closes : (blocks new : List Open) (i : Instr) (o : Opcode) (on : Bool) → o ≡ opcode_of i → open_after blocks o ≡ cond on (Some new) None → on ≡ false → open_after blocks (opcode_of i) ≡ None
closes blocks new i o on e h f = ap (open_after blocks) (sym e) ∙ (h ∙ ap (λ t. cond t (Some new) None) f)

pub continues : (blocks new : List Open) (i : Instr) (o : Opcode) (on : Bool) → o ≡ opcode_of i → open_after blocks o ≡ cond on (Some new) None → on ≡ true → open_after blocks (opcode_of i) ≡ Some new
continues blocks new i o on e h f = ap (open_after blocks) (sym e) ∙ (h ∙ ap (λ t. cond t (Some new) None) f)
