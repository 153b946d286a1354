-- Values of the types of a row are its arguments.
use Rattle.std.proofs.Common.{◌≡◌, ◌<◌, ◌^◌, ℕ, suc, ◌+◌, List, [], ◌∷◌, ◌++◌, length, map, refl, sym, ap, ◌∙◌, subst, arith, length-append, append_assoc}
use Rattle.wasm_syntax.specs.declared.types.Value.{Value}
use Rattle.wasm_syntax.specs.declared.types.Value.TheVariants as value
use Rattle.wasm_syntax.specs.declared.types.ValueType.{ValueType}
use Rattle.wasm_syntax.specs.declared.types.ValueType.TheVariants.{I32, I64}
use Rattle.wasm_syntax.specs.Numeric.{type_of}
use Rattle.abi_model.specs.declared.table.Param.{Param}
use Rattle.abi_model.specs.declared.table.Param.TheVariants as param
use Rattle.abi_model.specs.Table.{Are, arg}
use Rattle.abi_links.specs.Judging.{types_in}
use Rattle.abi_links.specs.Numbers.{number_of, IsWithin, AreWithin}

narrow : (v : Value) → type_of v ≡ I32 → IsWithin v → number_of v < 2 ^ 32
narrow (value.I32 n) is h = h
narrow (value.I64 n) is h = absurd (cc)

wide : (v : Value) → type_of v ≡ I64 → IsWithin v → number_of v < 2 ^ 64
wide (value.I32 n) is h = absurd (cc)
wide (value.I64 n) is h = h

arg_at : (front : List Value) (v : Value) (vs : List Value) (i : ℕ) → length front ≡ i → arg (map number_of (front ++ (v ∷ vs))) i ≡ number_of v
arg_at [] v vs i is = ap (λ n. arg (number_of v ∷ map number_of vs) n) (sym is)
arg_at (w ∷ front) v vs i is = ap (λ n. arg (number_of w ∷ map number_of (front ++ (v ∷ vs))) n) (sym is) ∙ arg_at front v vs (length front) refl

first_type : {t u : ValueType} {ts us : List ValueType} → t ∷ ts ≡ u ∷ us → t ≡ u
first_type same = cc

more_types : {t u : ValueType} {ts us : List ValueType} → t ∷ ts ≡ u ∷ us → ts ≡ us
more_types same = cc

two_more : (i : ℕ) → (i + 1) + 1 ≡ i + 2
two_more i = omega arith

length_mapped : (vs : List Value) → length (map number_of vs) ≡ length vs
length_mapped [] = refl
length_mapped (v ∷ vs) = ap suc (length_mapped vs)

-- one more stands in front
moved : (ps : List Param) (front : List Value) (v : Value) (vs : List Value) (i : ℕ) → Are ps (i + 1) (map number_of ((front ++ (v ∷ [])) ++ vs)) → Are ps (i + 1) (map number_of (front ++ (v ∷ vs)))
moved ps front v vs i h = subst (λ (ws : List Value). Are ps (i + 1) (map number_of ws)) (append_assoc front (v ∷ []) vs) h

longer : (front : List Value) (v : Value) (i : ℕ) → length front ≡ i → length (front ++ (v ∷ [])) ≡ i + 1
longer front v i is = omega (arith, length-append front (v ∷ []), is)

pub are_from : (ps : List Param) (front vs : List Value) (i : ℕ) → length front ≡ i → map type_of vs ≡ types_in ps → AreWithin vs → Are ps i (map number_of (front ++ vs))
are_from [] front [] i is types fit = length_mapped (front ++ []) ∙ omega (arith, length-append front [], is)
are_from [] front (v ∷ vs) i is types fit = absurd (cc)
are_from (param.Number ∷ ps) front [] i is types fit = absurd (cc)
are_from (param.Number ∷ ps) front (v ∷ vs) i is types fit = (
  subst (λ n. n < 2 ^ 32) (sym (arg_at front v vs i is)) (narrow v (first_type types) fit.0),
  moved ps front v vs i (are_from ps (front ++ (v ∷ [])) vs (i + 1) (longer front v i is) (more_types types) fit.1),
)
are_from (param.Wide ∷ ps) front [] i is types fit = absurd (cc)
are_from (param.Wide ∷ ps) front (v ∷ vs) i is types fit = (
  subst (λ n. n < 2 ^ 64) (sym (arg_at front v vs i is)) (wide v (first_type types) fit.0),
  moved ps front v vs i (are_from ps (front ++ (v ∷ [])) vs (i + 1) (longer front v i is) (more_types types) fit.1),
)
are_from (param.Result ∷ ps) front [] i is types fit = absurd (cc)
are_from (param.Result ∷ ps) front (v ∷ vs) i is types fit = (
  subst (λ n. n < 2 ^ 32) (sym (arg_at front v vs i is)) (narrow v (first_type types) fit.0),
  moved ps front v vs i (are_from ps (front ++ (v ∷ [])) vs (i + 1) (longer front v i is) (more_types types) fit.1),
)
are_from (param.WideResult ∷ ps) front [] i is types fit = absurd (cc)
are_from (param.WideResult ∷ ps) front (v ∷ vs) i is types fit = (
  subst (λ n. n < 2 ^ 32) (sym (arg_at front v vs i is)) (narrow v (first_type types) fit.0),
  moved ps front v vs i (are_from ps (front ++ (v ∷ [])) vs (i + 1) (longer front v i is) (more_types types) fit.1),
)
are_from (param.Input ∷ ps) front [] i is types fit = absurd (cc)
are_from (param.Input ∷ ps) front (v ∷ []) i is types fit = absurd (cc)
are_from (param.Input ∷ ps) front (v ∷ w ∷ vs) i is types fit =
    let one = longer front v i is in
    let all : (front ++ (v ∷ [])) ++ (w ∷ vs) ≡ front ++ (v ∷ w ∷ vs) = append_assoc front (v ∷ []) (w ∷ vs) in (
      subst (λ n. n < 2 ^ 32) (sym (arg_at front v (w ∷ vs) i is)) (narrow v (first_type types) fit.0),
      subst (λ n. n < 2 ^ 32) (sym (ap (λ (ws : List Value). arg (map number_of ws) (i + 1)) (sym all) ∙ arg_at (front ++ (v ∷ [])) w vs (i + 1) one)) (narrow w (first_type (more_types types)) fit.1.0),
      subst (λ (ws : List Value). Are ps (i + 2) (map number_of ws)) (append_assoc (front ++ (v ∷ [])) (w ∷ []) vs ∙ all)
          (subst (λ n. Are ps n (map number_of (((front ++ (v ∷ [])) ++ (w ∷ [])) ++ vs))) (two_more i)
          (are_from ps ((front ++ (v ∷ [])) ++ (w ∷ [])) vs ((i + 1) + 1) (longer (front ++ (v ∷ [])) w (i + 1) one) (more_types (more_types types)) fit.1.1)),
    )
are_from (param.Output ∷ ps) front [] i is types fit = absurd (cc)
are_from (param.Output ∷ ps) front (v ∷ []) i is types fit = absurd (cc)
are_from (param.Output ∷ ps) front (v ∷ w ∷ vs) i is types fit =
    let one = longer front v i is in
    let all : (front ++ (v ∷ [])) ++ (w ∷ vs) ≡ front ++ (v ∷ w ∷ vs) = append_assoc front (v ∷ []) (w ∷ vs) in (
      subst (λ n. n < 2 ^ 32) (sym (arg_at front v (w ∷ vs) i is)) (narrow v (first_type types) fit.0),
      subst (λ n. n < 2 ^ 32) (sym (ap (λ (ws : List Value). arg (map number_of ws) (i + 1)) (sym all) ∙ arg_at (front ++ (v ∷ [])) w vs (i + 1) one)) (narrow w (first_type (more_types types)) fit.1.0),
      subst (λ (ws : List Value). Are ps (i + 2) (map number_of ws)) (append_assoc (front ++ (v ∷ [])) (w ∷ []) vs ∙ all)
          (subst (λ n. Are ps n (map number_of (((front ++ (v ∷ [])) ++ (w ∷ [])) ++ vs))) (two_more i)
          (are_from ps ((front ++ (v ∷ [])) ++ (w ∷ [])) vs ((i + 1) + 1) (longer (front ++ (v ∷ [])) w (i + 1) one) (more_types (more_types types)) fit.1.1)),
    )

-- THE LEMMA: values of a row's types, each within its type, are its arguments
pub are_typed : (ps : List Param) (vs : List Value) → map type_of vs ≡ types_in ps → AreWithin vs → Are ps 0 (map number_of vs)
are_typed ps vs types fit = are_from ps [] vs 0 refl types fit
