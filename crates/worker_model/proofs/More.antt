-- MORE STEPS CHANGE NOTHING: where so many steps come to rest, more come to the same, by the same calls.
use Rattle.std.proofs.Common.{◌≡◌, ℕ, zero, suc, ◌+◌, Bool, true, false, List, [], ◌∷◌, ◌∙◌, sym, refl, subst, arith}
use Rattle.contexts.specs.declared.parts.Contexts.{Contexts}
use Rattle.filter_host.specs.Called.{Called}
use Rattle.filter_host.specs.Course.{Course, ends, asks, measures, hears, then_do, Met, called, measured, heard, Reaches}
use Rattle.filter_host.specs.declared.host.Callback.{Callback}
use Rattle.store_model.specs.Program.{Program}
use Rattle.worker_model.specs.Plan.{Plan}
use Rattle.worker_model.specs.Rooms.{next_of}
use Rattle.worker_model.specs.Steps.{Both, step}
use Rattle.worker_model.specs.Settling.{settling, settling_step, settling_rest, settling_none, is_rest}

-- what comes behind may be another that comes to the same
swaps : {A B : Type 0} (ms : List Met) (p : Course A) (f g : A → Course B) (c : B) → ((a : A) (ns : List Met) → Reaches (f a) ns (ends c) → Reaches (g a) ns (ends c))
    → Reaches (then_do p f) ms (ends c) → Reaches (then_do p g) ms (ends c)
swaps ms (ends a) f g c same reaches = same a ms reaches
swaps [] (asks vm call k) f g c same reaches = absurd (cc)
swaps (called m ∷ ms) (asks vm call k) f g c same reaches = (reaches.0, reaches.1, swaps ms (k m.reply) f g c same reaches.2)
swaps (measured m ∷ ms) (asks vm call k) f g c same reaches = elim reaches [ ]
swaps (heard h ∷ ms) (asks vm call k) f g c same reaches = elim reaches [ ]
swaps [] (measures vm call k) f g c same reaches = absurd (cc)
swaps (called m ∷ ms) (measures vm call k) f g c same reaches = elim reaches [ ]
swaps (measured m ∷ ms) (measures vm call k) f g c same reaches = (reaches.0, reaches.1, swaps ms (k m.reply) f g c same reaches.2)
swaps (heard h ∷ ms) (measures vm call k) f g c same reaches = elim reaches [ ]
swaps [] (hears r k) f g c same reaches = absurd (cc)
swaps (called m ∷ ms) (hears r k) f g c same reaches = elim reaches [ ]
swaps (measured m ∷ ms) (hears r k) f g c same reaches = elim reaches [ ]
swaps (heard h ∷ ms) (hears r k) f g c same reaches = (reaches.0, swaps ms (k h) f g c same reaches.1)

module _ {H : Type 0} (calling : H → ℕ → Callback → ℕ → ℕ → ℕ → ℕ → Contexts → Program (Called H)) (plan : Plan) where
  -- at rest nothing is done
  stays : (k : ℕ) (b : Both H) → is_rest (next_of b.room) ≡ true → settling calling plan k b.host b.room ≡ ends b
  stays zero b is = settling_none calling plan b.host b.room
  stays (suc k) b is = settling_rest calling plan k (next_of b.room) b.host b.room refl is

  pub more_steps : (n k : ℕ) (b c : Both H) (ms : List Met) → Reaches (settling calling plan n b.host b.room) ms (ends c) → is_rest (next_of c.room) ≡ true
      → Reaches (settling calling plan (n + k) b.host b.room) ms (ends c)
  more_steps zero k b c ms reaches at_rest =
      let one : Reaches (ends b) ms (ends c) = subst (λ (x : Course (Both H)). Reaches x ms (ends c)) (settling_none calling plan b.host b.room) reaches in
      let e : zero + k ≡ k = omega arith in
      subst (λ (m : ℕ). Reaches (settling calling plan m b.host b.room) ms (ends c)) (sym e) (at_none ms one)
    where
      at_none : (ns : List Met) → Reaches (ends b) ns (ends c) → Reaches (settling calling plan k b.host b.room) ns (ends c)
      at_none [] same =
          let one : b ≡ c = (cc) in
          stays k b (subst (λ (x : Both H). is_rest (next_of x.room) ≡ true) (sym one) at_rest) ∙ same
      at_none (n ∷ ns) same = elim same [ ]
  more_steps (suc n) k b c ms reaches at_rest =
      let e : suc n + k ≡ suc (n + k) = omega arith in
      subst (λ (m : ℕ). Reaches (settling calling plan m b.host b.room) ms (ends c)) (sym e) (by_rest (λ d ns now. more_steps n k d c ns now at_rest) (is_rest (next_of b.room)) refl)
    where
      by_rest : ((d : Both H) (ns : List Met) → Reaches (settling calling plan n d.host d.room) ns (ends c) → Reaches (settling calling plan (n + k) d.host d.room) ns (ends c)) → (r : Bool)
          → is_rest (next_of b.room) ≡ r → Reaches (settling calling plan (suc (n + k)) b.host b.room) ms (ends c)
      by_rest later true is =
          subst (λ (x : Course (Both H)). Reaches x ms (ends c))
          (settling_rest calling plan n (next_of b.room) b.host b.room refl is ∙ sym (settling_rest calling plan (n + k) (next_of b.room) b.host b.room refl is)) reaches
      by_rest later false is =
          subst (λ (x : Course (Both H)). Reaches x ms (ends c)) (sym (settling_step calling plan (n + k) (next_of b.room) b.host b.room refl is))
          (swaps ms (step calling plan (next_of b.room) b.host b.room) (λ d. settling calling plan n d.host d.room) (λ d. settling calling plan (n + k) d.host d.room) c later
          (subst (λ (x : Course (Both H)). Reaches x ms (ends c)) (settling_step calling plan n (next_of b.room) b.host b.room refl is) reaches))
