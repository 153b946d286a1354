-- What goes up among what is sent: lists joined, and what is sent down.
use Rattle.std.proofs.Common.{◌≡◌, ℕ, ◌==◌, true, false, ◌⊎◌, inl, inr, List, [], ◌∷◌, ◌++◌, map, refl, ap, ◌∙◌}
use Rattle.std.proofs.lemmas.Bool.Decides.{eqb_tells}
use Rattle.std.proofs.lemmas.Grind.{flat_map-append}
use Rattle.std.proofs.lemmas.List.{append-nil}
use Rattle.std.specs.Prelude.{if◌then◌else◌}
use Rattle.exchange.specs.Leaving.{bytes_sent_to}
use Rattle.gate_io.specs.declared.event.Sent.{Sent}
use Rattle.gate_io.specs.declared.event.Side.TheVariants.{Down, Up}
use Rattle.law_exchange.specs.Traffic.{Traffic, byte, where_line, up_of, up_traffic}

pub ups_join : (n : ℕ) (a b : List Sent) → up_traffic n (a ++ b) ≡ up_traffic n a ++ up_traffic n b
ups_join n a b = flat_map-append (up_of n) a b

pub same : (n : ℕ) → (n == n) ≡ true
same n = by_test (eqb_tells n n)
  where
    by_test : (((n == n) ≡ true) × (n ≡ n)) ⊎ (((n == n) ≡ false) × (n ≡ n → ⊥)) → (n == n) ≡ true
    by_test (inl equal) = equal.0
    by_test (inr other) = absurd (other.1 refl)

pub here : (n : ℕ) (t : List Traffic) → where_line n n t ≡ t
here n t = ap (λ b. if b then t else []) (same n)

-- bytes for the client are none for the server
pub down_is_none : (n : ℕ) (bytes : List ℕ) → up_traffic n (bytes_sent_to n Down bytes) ≡ []
down_is_none n [] = refl
down_is_none n (b ∷ bytes) = refl

pub up_is_all : (n : ℕ) (bytes : List ℕ) → up_traffic n (bytes_sent_to n Up bytes) ≡ map byte bytes
up_is_all n [] = refl
up_is_all n (b ∷ bytes) = append-nil (where_line n n (map byte (b ∷ bytes))) ∙ here n (map byte (b ∷ bytes))

-- what sends nothing up adds nothing
pub adds_none : (n : ℕ) (before more : List Sent) → up_traffic n more ≡ [] → up_traffic n (before ++ more) ≡ up_traffic n before
adds_none n before more none = ups_join n before more ∙ (ap (λ t. up_traffic n before ++ t) none ∙ append-nil (up_traffic n before))

pub adds : (n : ℕ) (before more : List Sent) (t : List Traffic) → up_traffic n more ≡ t → up_traffic n (before ++ more) ≡ up_traffic n before ++ t
adds n before more t is = ups_join n before more ∙ ap (λ s. up_traffic n before ++ s) is
