-- The limits on stores that are described by how much they hold.
use Rattle.std.specs.Prelude.{◌≡◌, ℕ, zero, suc, ◌+◌, ◌&&◌, cond, [], ◌∷◌, ◌++◌, length, replicate, nat_lt, nat_le, None, refl}
use Rattle.std.proofs.Common.{ap, ◌∙◌, arith, length-append}
use Rattle.std.proofs.lemmas.List.{length-replicate}
use Rattle.std.proofs.lemmas.List.Sums.{sum_by-cons}
use Rattle.std.proofs.lemmas.Bool.Decides.{nat_tests}
use Rattle.store_model.specs.Bounds.{store_of, names_of_a_store, bytes_of_a_store}
use Rattle.store_model.specs.Keys.{no_keys, used_by_keys}
use Rattle.store_model.specs.Queues.{Queue, no_queue, named_from, item_bytes, register_reply}
use Rattle.store_model.specs.declared.call.Reply.TheVariants.{Done, Full, Id}
use Rattle.store_model.proofs.Uses.{uses, uses_push}

no_such_name : (n k : ℕ) → named_from k (107 ∷ []) (replicate n no_queue) ≡ None
no_such_name zero k = refl
no_such_name (suc n) k = no_such_name n (k + 1)

no_bytes : (n : ℕ) → uses (replicate n no_queue) ≡ 0
no_bytes zero = refl
no_bytes (suc n) = sum_by-cons (λ (x : Queue). length x.name + item_bytes x.items) no_queue (replicate n no_queue) ∙ ap (λ m. 0 + m) (no_bytes n)

below : (n : ℕ) → (nat_le (n + 1 + 0) 65536 && nat_le (0 + 1 + 0) 67108864) ≡ nat_lt n 65536
below n = grind (arith, nat_tests)

beside : (n : ℕ) → (nat_le (1 + n) 65536 && nat_le (1 + 0) 67108864) ≡ nat_lt n 65536
beside n = grind (arith, nat_tests)

pub names : names_of_a_store
names n =
    let new : Queue = record { name = 107 ∷ []; who = 1; root = 1; items = [] } in
    let qs = replicate n no_queue in
    let q = (store_of qs 0).queues in
    let many : length (qs ++ new ∷ []) ≡ n + 1 = omega (arith, length-append qs (new ∷ []), length-replicate n no_queue) in
    let few : uses (qs ++ new ∷ []) ≡ 0 + 1 = uses_push qs new ∙ ap (λ m. m + 1) (no_bytes n) in
    let id : 0 + length qs + 1 ≡ n + 1 = omega (arith, length-replicate n no_queue) in (
      ap (register_reply (used_by_keys no_keys) q 1 1 (107 ∷ [])) (no_such_name n 0) ∙ (λ i. cond (nat_le (many i + 0) 65536 && nat_le (few i + 0) 67108864) (Id (id i)) Full) ∙ ap (λ b. cond b (Id (n + 1)) Full) (below n),
      (λ i. cond (nat_le (1 + length-replicate n no_queue i) 65536 && nat_le (1 + no_bytes n i) 67108864) (Done 1) Full) ∙ ap (λ b. cond b (Done 1) Full) (beside n),
    )

pub bytes : bytes_of_a_store
bytes bs =
    let set : 0 + (1 + length bs) + 0 ≡ 1 + length bs = omega arith in
    let enqueue : 0 + (0 + (0 + length bs)) + 0 ≡ length bs = omega arith in
    let register : 0 + (length bs + 0) + 0 ≡ length bs = omega arith in (
      ap (λ n. cond (nat_le n 67108864) (Done 1) Full) set,
      ap (λ n. cond (nat_le n 67108864) (Done 0) Full) enqueue,
      ap (λ n. cond (nat_le n 67108864) (Id 1) Full) register,
    )
