-- The names of the exports.
use Rattle.std.proofs.Common.{◌≡◌, ◌⊎◌, ◌↔◌, inl, inr, ℕ, ◌+◌, ◌<◌, ◌≤◌, List, length, take, get_or, Some, sym, ap, ◌∙◌, arith, ⊎_elim}
use Rattle.std.specs.Prelude.{All, slice_get, ◌≢◌}
use Rattle.std.proofs.lemmas.Bool.{cases_lt}
use Rattle.std.proofs.lemmas.Option.{slice_get-get_or, get_or_from_slice_get}
use Rattle.std.proofs.lemmas.List.{get_or-take, length-take-le}
use Rattle.wasm_syntax.specs.declared.module.Export.{Export}
use Rattle.wasm_validator.proofs.Finding.{read_is}

-- one of the first n exports has this name
pub record IsNamed (es : List Export) (n : ℕ) (q : List ℕ) : Type 0 where
  pub at : ℕ
  pub before : at < n
  pub entry : Export
  pub is : slice_get es at ≡ Some entry
  pub named : entry.name ≡ q

pub nobody : (es : List Export) (q : List ℕ) → IsNamed es 0 q → ⊥
nobody es q h = absurd (omega (arith, h.before))

-- no export of those before has the name of this one
pub differ : (es : List Export) (n : ℕ) (e : Export) → n ≤ length es → (IsNamed es n e.name → ⊥) → All (λ (x : Export). x.name ≢ e.name) (take n es)
differ es n e le none = λ k d lt same.
    let length_is : length (take n es) ≡ n = length-take-le n es le in
    let before : k < n = omega (arith, lt, length_is) in
    let there : k < length es = omega (arith, before, le) in
    none (record { at = k; before = before; entry = get_or es k d; is = slice_get-get_or es k d there; named = ap (λ (x : Export). x.name) (sym (get_or-take n es k d before)) ∙ same })

-- where one has it they do not all differ
pub alike : (es : List Export) (n : ℕ) (e : Export) → n ≤ length es → IsNamed es n e.name → All (λ (x : Export). x.name ≢ e.name) (take n es) → ⊥
alike es n e le h all =
    let length_is : length (take n es) ≡ n = length-take-le n es le in
    let within : h.at < length (take n es) = omega (arith, h.before, length_is) in
    let entry_is : get_or (take n es) h.at h.entry ≡ h.entry = get_or-take n es h.at h.entry h.before ∙ get_or_from_slice_get es h.at h.entry h.entry h.is in
    all h.at h.entry within (ap (λ (x : Export). x.name) entry_is ∙ h.named)

-- with one export more
pub named-more : (es : List Export) (n : ℕ) (e : Export) (q : List ℕ) → n < length es → e ≡ get_or es n e → (IsNamed es n q ⊎ (q ≡ e.name)) ↔ IsNamed es (n + 1) q
named-more es n e q lt read = (
  ⊎_elim
      (λ (h : IsNamed es n q). record { at = h.at; before = omega (arith, h.before); entry = h.entry; is = h.is; named = h.named })
      (λ (same : q ≡ e.name). record { at = n; before = omega arith; entry = e; is = read_is es n e lt read; named = sym same }),
  (λ h. ⊎_elim
      (λ (l : h.at < n). inl (record { at = h.at; before = l; entry = h.entry; is = h.is; named = h.named }))
      (λ (g : n ≤ h.at).
      let at_n : h.at ≡ n = omega (arith, g, h.before) in
      let both : Some h.entry ≡ Some e = sym h.is ∙ ap (slice_get es) at_n ∙ read_is es n e lt read in
      let one : h.entry ≡ e = cc in
      inr (sym h.named ∙ ap (λ (x : Export). x.name) one))
      (cases_lt h.at n)),
)
