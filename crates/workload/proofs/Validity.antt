-- The module of the filter is valid.
use Rattle.std.proofs.Common.{◌≡◌, ◌≢◌, ℕ, zero, suc, ◌<◌, List, [], ◌∷◌, ◌++◌, All, codes, get_or, refl, sym, ap, ◌∙◌, arith}
use Rattle.wasm_syntax.specs.declared.types.ValueType.{ValueType}
use Rattle.wasm_syntax.specs.declared.types.ValueType.TheVariants.{I32}
use Rattle.wasm_syntax.specs.declared.types.FunctionType.{FunctionType}
use Rattle.wasm_syntax.specs.declared.instr.Instr.{Instr}
use Rattle.wasm_syntax.specs.declared.instr.Instr.TheVariants.{Call, Drop}
use Rattle.wasm_syntax.specs.declared.module.Code.{Code}
use Rattle.wasm_syntax.specs.declared.module.Export.{Export}
use Rattle.wasm_syntax.specs.declared.valid.Part.{Part}
use Rattle.wasm_syntax.specs.declared.valid.Part.TheVariants as part
use Rattle.wasm_syntax.specs.Nested.{Nested, nothing, simple, nests}
use Rattle.wasm_syntax.specs.Rows.{row_of, labels_of}
use Rattle.wasm_syntax.specs.Typing.{Context, inside, Leads, Takes}
use Rattle.wasm_syntax.specs.Validity.{context_of, IsBounded, IsCode, IsGood, IsValid, entries_of}
use Rattle.workload.specs.Filter.{allocation, five_to_one, function, load, none_to_none, nothing_done, number, on_head, one_to_one, queue_filter, three_to_one}

step : (c : Context) (i : Instr) (takes gives below : List ValueType) → Takes c (row_of i) (labels_of i) takes gives → Leads c i (takes ++ below) (gives ++ below)
step c i takes gives below may = record { takes = takes; gives = gives; below = below; may = may; from = refl; to = refl }

-- ---- the codes

nothing_typed : IsCode queue_filter 0 nothing_done
unfolding nests
nothing_typed = record {
  context = context_of queue_filter none_to_none [];
  has = record { type_index = 2; type = none_to_none; declared = refl; typed = refl; context = refl };
  typed = (nothing, refl, refl);
}

abbrev allocation_context : Context
allocation_context = inside (I32 ∷ []) (context_of queue_filter one_to_one [])

allocation_typed : IsCode queue_filter 1 allocation
unfolding nests
allocation_typed = record {
  context = context_of queue_filter one_to_one [];
  has = record { type_index = 3; type = one_to_one; declared = refl; typed = refl; context = refl };
  typed = (simple (number 1024) nothing, refl, (I32 ∷ [], step allocation_context (number 1024) [] (I32 ∷ []) [] (refl, refl), refl));
}

abbrev head_context : Context
head_context = inside (I32 ∷ []) (context_of queue_filter three_to_one [])

abbrev head_sequence : Nested
head_sequence =
    simple (number 2) (simple (number 1) (simple (number 8) (simple (Call 0) (simple Drop (simple (number 0) (simple (number 3) (simple (number 5) (simple (number 12) (simple (number 16) (simple (Call 1) (simple Drop (simple (number 8) (simple load (simple (number 12) (simple load (simple (number 16) (simple load (simple (Call 2) (simple Drop (simple (number 0) nothing))))))))))))))))))))

head_typed : IsCode queue_filter 2 on_head
unfolding nests
head_typed = record {
  context = context_of queue_filter three_to_one [];
  has = record { type_index = 0; type = three_to_one; declared = refl; typed = refl; context = refl };
  typed = (
    head_sequence,
    refl,
    (
      I32 ∷ [],
      step head_context (number 2) [] (I32 ∷ []) [] (refl, refl),
      (
        I32 ∷ I32 ∷ [],
        step head_context (number 1) [] (I32 ∷ []) (I32 ∷ []) (refl, refl),
        (
          I32 ∷ I32 ∷ I32 ∷ [],
          step head_context (number 8) [] (I32 ∷ []) (I32 ∷ I32 ∷ []) (refl, refl),
          (
            I32 ∷ [],
            step head_context (Call 0) (I32 ∷ I32 ∷ I32 ∷ []) (I32 ∷ []) [] (0, three_to_one, refl, refl, (refl, refl)),
            (
              [],
              step head_context Drop (I32 ∷ []) [] [] (I32, (refl, refl)),
              (
                I32 ∷ [],
                step head_context (number 0) [] (I32 ∷ []) [] (refl, refl),
                (
                  I32 ∷ I32 ∷ [],
                  step head_context (number 3) [] (I32 ∷ []) (I32 ∷ []) (refl, refl),
                  (
                    I32 ∷ I32 ∷ I32 ∷ [],
                    step head_context (number 5) [] (I32 ∷ []) (I32 ∷ I32 ∷ []) (refl, refl),
                    (
                      I32 ∷ I32 ∷ I32 ∷ I32 ∷ [],
                      step head_context (number 12) [] (I32 ∷ []) (I32 ∷ I32 ∷ I32 ∷ []) (refl, refl),
                      (
                        I32 ∷ I32 ∷ I32 ∷ I32 ∷ I32 ∷ [],
                        step head_context (number 16) [] (I32 ∷ []) (I32 ∷ I32 ∷ I32 ∷ I32 ∷ []) (refl, refl),
                        (
                          I32 ∷ [],
                          step head_context (Call 1) (I32 ∷ I32 ∷ I32 ∷ I32 ∷ I32 ∷ []) (I32 ∷ []) [] (1, five_to_one, refl, refl, (refl, refl)),
                          (
                            [],
                            step head_context Drop (I32 ∷ []) [] [] (I32, (refl, refl)),
                            (
                              I32 ∷ [],
                              step head_context (number 8) [] (I32 ∷ []) [] (refl, refl),
                              (
                                I32 ∷ [],
                                step head_context load (I32 ∷ []) (I32 ∷ []) [] (omega arith, omega arith, (refl, refl)),
                                (
                                  I32 ∷ I32 ∷ [],
                                  step head_context (number 12) [] (I32 ∷ []) (I32 ∷ []) (refl, refl),
                                  (
                                    I32 ∷ I32 ∷ [],
                                    step head_context load (I32 ∷ []) (I32 ∷ []) (I32 ∷ []) (omega arith, omega arith, (refl, refl)),
                                    (
                                      I32 ∷ I32 ∷ I32 ∷ [],
                                      step head_context (number 16) [] (I32 ∷ []) (I32 ∷ I32 ∷ []) (refl, refl),
                                      (
                                        I32 ∷ I32 ∷ I32 ∷ [],
                                        step head_context load (I32 ∷ []) (I32 ∷ []) (I32 ∷ I32 ∷ []) (omega arith, omega arith, (refl, refl)),
                                        (
                                          I32 ∷ [],
                                          step head_context (Call 2) (I32 ∷ I32 ∷ I32 ∷ []) (I32 ∷ []) [] (0, three_to_one, refl, refl, (refl, refl)),
                                          (
                                            [],
                                            step head_context Drop (I32 ∷ []) [] [] (I32, (refl, refl)),
                                            (
                                              I32 ∷ [],
                                              step head_context (number 0) [] (I32 ∷ []) [] (refl, refl),
                                              refl,
                                            ),
                                          ),
                                        ),
                                      ),
                                    ),
                                  ),
                                ),
                              ),
                            ),
                          ),
                        ),
                      ),
                    ),
                  ),
                ),
              ),
            ),
          ),
        ),
      ),
    ),
  );
}

nothing_bounded : IsBounded nothing_done
unfolding nests
nothing_bounded = record { sequence = nothing; nests = refl; depth = omega arith; locals = omega arith }

allocation_bounded : IsBounded allocation
unfolding nests
allocation_bounded = record { sequence = simple (number 1024) nothing; nests = refl; depth = omega arith; locals = omega arith }

head_bounded : IsBounded on_head
unfolding nests
head_bounded = record { sequence = head_sequence; nests = refl; depth = omega arith; locals = omega arith }

bounded : All IsBounded (nothing_done ∷ allocation ∷ on_head ∷ [])
bounded zero d low = nothing_bounded
bounded (suc zero) d low = allocation_bounded
bounded (suc (suc zero)) d low = head_bounded
bounded (suc (suc (suc k))) d low = absurd (omega arith)

-- ---- the exports: names that differ at a place

differ : (i : ℕ) (xs ys : List ℕ) → (get_or xs i 0 ≡ get_or ys i 0 → ⊥) → xs ≢ ys
differ i xs ys h same = h (ap (λ (l : List ℕ). get_or l i 0) same)

abbrev marker : Export
marker = function (codes "proxy_abi_version_0_2_1") 3

abbrev allocator : Export
allocator = function (codes "malloc") 4

abbrev callback : Export
callback = function (codes "proxy_on_request_headers") 5

none_before : (e : Export) → All (λ (x : Export). x.name ≢ e.name) []
none_before e k d low = absurd (omega arith)

one_before : (x e : Export) → x.name ≢ e.name → All (λ (y : Export). y.name ≢ e.name) (x ∷ [])
one_before x e h zero d low = h
one_before x e h (suc k) d low = absurd (omega arith)

two_before : (x y e : Export) → x.name ≢ e.name → y.name ≢ e.name → All (λ (z : Export). z.name ≢ e.name) (x ∷ y ∷ [])
two_before x y e h g zero d low = h
two_before x y e h g (suc zero) d low = g
two_before x y e h g (suc (suc k)) d low = absurd (omega arith)

-- ---- the entries

entries : (p : Part) (n : ℕ) → n < entries_of queue_filter p → IsGood queue_filter p n
entries part.Signature zero low = (_, refl, omega arith)
entries part.Signature (suc zero) low = (_, refl, omega arith)
entries part.Signature (suc (suc zero)) low = (_, refl, omega arith)
entries part.Signature (suc (suc (suc zero))) low = (_, refl, omega arith)
entries part.Signature (suc (suc (suc (suc n)))) low = absurd (omega arith)
entries part.Import zero low = (_, refl, omega arith)
entries part.Import (suc zero) low = (_, refl, omega arith)
entries part.Import (suc (suc zero)) low = (_, refl, omega arith)
entries part.Import (suc (suc (suc n))) low = absurd (omega arith)
entries part.Function zero low = (2, refl, omega arith)
entries part.Function (suc zero) low = (3, refl, omega arith)
entries part.Function (suc (suc zero)) low = (0, refl, omega arith)
entries part.Function (suc (suc (suc n))) low = absurd (omega arith)
entries part.Table n low = absurd (omega arith)
entries part.Memory zero low = (_, refl, ((omega arith, tt, tt), omega arith))
entries part.Memory (suc n) low = absurd (omega arith)
entries part.Global n low = absurd (omega arith)
entries part.Element n low = absurd (omega arith)
entries part.Segment zero low = (_, refl, (omega arith, (refl, refl)))
entries part.Segment (suc n) low = absurd (omega arith)
entries part.Start n low = absurd (omega arith)
entries part.Export zero low = (marker, refl, (omega arith, none_before marker))
entries part.Export (suc zero) low = (allocator, refl, (omega arith, one_before marker allocator (differ 0 marker.name allocator.name (λ (e : 112 ≡ 109). absurd (omega (arith, e))))))
entries part.Export (suc (suc zero)) low = (
  callback,
  refl,
  (
    omega arith,
    two_before marker allocator callback (differ 6 marker.name callback.name (λ (e : 97 ≡ 111). absurd (omega (arith, e))))
        (differ 0 allocator.name callback.name (λ (e : 109 ≡ 112). absurd (omega (arith, e)))),
  ),
)
entries part.Export (suc (suc (suc n))) low = absurd (omega arith)
entries part.Code zero low = (_, refl, nothing_typed)
entries part.Code (suc zero) low = (_, refl, allocation_typed)
entries part.Code (suc (suc zero)) low = (_, refl, head_typed)
entries part.Code (suc (suc (suc n))) low = absurd (omega arith)

pub filter_valid : IsValid queue_filter
filter_valid = record { entries = entries; coded = refl; bounded = bounded }
