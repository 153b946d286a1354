-- The first fault of a module that bytes spell.
use Rattle.std.proofs.Common.{◌≡◌, ◌⊎◌, inl, inr, ℕ, ◌<◌, ◌≤◌, length, Some, refl, sym, subst, arith, ⊎_elim}
use Rattle.std.specs.Prelude.{All, slice_get}
use Rattle.std.proofs.lemmas.List.Elements.{All-from_recursion}
use Rattle.std.proofs.lemmas.Option.{slice_get_within, get_or_from_slice_get}
use Rattle.wasm_syntax.specs.declared.module.Code.{Code}
use Rattle.wasm_syntax.specs.declared.module.Module.{Module}
use Rattle.wasm_syntax.specs.declared.valid.Part.{Part}
use Rattle.wasm_syntax.specs.declared.valid.Part.TheVariants as part
use Rattle.wasm_syntax.specs.Spelled.{IsSpelled, IsSpelledCode}
use Rattle.wasm_syntax.specs.Validity.{IsBounded, IsGood, IsValid, entries_of, turn_of}
use Rattle.wasm_syntax.proofs.FaultPlaces.{untyped_is_within}
use Rattle.wasm_validator.specs.Codes.{IsFirstBadCode, AllGood}
use Rattle.wasm_validator.specs.Ends.{IsFound, AllValid}

-- ---- codes of a spelled module

pub spelled_code : (m : Module) (n : ℕ) (code : Code) → IsSpelled m → slice_get m.codes n ≡ Some code → IsSpelledCode code
spelled_code m n code h is =
    let all : All IsSpelledCode m.codes = All-from_recursion IsSpelledCode m.codes h.each_code in
    subst IsSpelledCode (get_or_from_slice_get m.codes n code code is) (all n code (slice_get_within m.codes n code is))

pub bounded_codes : (m : Module) → IsSpelled m → All IsBounded m.codes
bounded_codes m h = λ n d lt. let all : All IsSpelledCode m.codes = All-from_recursion IsSpelledCode m.codes h.each_code in (all n d lt).bounded

-- ---- parts before

earlier : (q : Part) → turn_of q < 10 → (turn_of q < 9) ⊎ (q ≡ part.Export)
earlier part.Signature lt = inl (omega arith)
earlier part.Import lt = inl (omega arith)
earlier part.Function lt = inl (omega arith)
earlier part.Table lt = inl (omega arith)
earlier part.Memory lt = inl (omega arith)
earlier part.Global lt = inl (omega arith)
earlier part.Element lt = inl (omega arith)
earlier part.Segment lt = inl (omega arith)
earlier part.Start lt = inl (omega arith)
earlier part.Export lt = inr refl
earlier part.Code lt = absurd (omega arith)

-- the first bad code is the first fault, where all parts before are valid
pub found_code : (m : Module) (n place : ℕ) → IsSpelled m → ((q : Part) (k : ℕ) → turn_of q < 9 → k < entries_of m q → IsGood m q k) → AllGood m part.Export → IsFirstBadCode m n place →
    IsFound m (record { part = part.Code; index = n; place = place })
found_code m n place spelled parts exports h =
    let short : length m.codes ≤ 65536 = spelled.codes in
    let code = spelled_code m n h.at.0 spelled h.at.1 in
    let within : place < length h.at.0.body = untyped_is_within m n h.at.0 place code.bounded h.at.2 in
    let few : length h.at.0.body ≤ 4194304 = code.short in
    record {
      first = record {
        there = h.first.there;
        bad = h.first.bad;
        before = λ q k before lt. ⊎_elim
            (λ (e : turn_of q < 10). ⊎_elim
            (λ (t : turn_of q < 9). parts q k t lt)
            (λ (x : q ≡ part.Export). subst (λ p. k < entries_of m p → IsGood m p k) (sym x) (exports k) lt)
            (earlier q e))
            (λ (e : (q ≡ part.Code) × (k < n)). subst (λ p. IsGood m p k) (sym e.0) (h.first.before k e.1))
            before;
        at = h.at;
      };
      index_fits = omega (arith, h.first.there, short);
      place_fits = omega (arith, within, few);
    }

-- a module without a fault is valid
pub valid_module : (m : Module) → IsSpelled m → AllValid m → IsValid m
valid_module m h good = record { entries = good; coded = h.coded; bounded = bounded_codes m h }
