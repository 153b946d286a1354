-- The worked examples.
use Rattle.std.proofs.Common.{◌≡◌, ℕ, zero, suc, ◌<◌, ◌≤◌, cond, List, [], ◌∷◌, refl, ap, ◌∙◌, arith, ne_eqb}
use Rattle.store_model.specs.MetricLaws.{AskEntry, asks_by}
use Rattle.store_model.specs.declared.call.Reply.{Reply}
use Rattle.store_model.specs.declared.call.Reply.TheVariants as store
use Rattle.shared_seats.specs.Asked.{asks_from}
use Rattle.shared_seats.specs.Rows.{asks_of_two, made_by_two, names_of_two, second_id, totals_of_two, word_of_nobody, word_told_twice}

-- these asks are of workers of lesser numbers
abbrev AreBelow : ℕ → List AskEntry → Type 0
AreBelow who [] = Unit {0}
AreBelow who (a ∷ asks) = (a.who < who) × AreBelow who asks

none_by : (who : ℕ) (asks : List AskEntry) → AreBelow who asks → asks_by who asks ≡ []
none_by who [] h = refl
none_by who (a ∷ asks) h = ap (λ b. cond b (a ∷ asks_by who asks) (asks_by who asks)) (ne_eqb a.who who (λ e. let b = h.0 in absurd (omega arith))) ∙ none_by who asks h.1

no_third : (who : ℕ) → 2 < who → asks_by who asks_of_two ≡ []
no_third who h = let one : 1 < who = omega arith in none_by who asks_of_two (one, (h, (h, (one, (h, (one, (h, (one, (h, tt)))))))))

own_asks : (who : ℕ) → 1 ≤ who → who ≤ 2 → asks_by who asks_of_two ≡ asks_from who 0 (made_by_two who)
own_asks zero low high = absurd (omega arith)
own_asks (suc zero) low high = refl
own_asks (suc (suc zero)) low high = refl
own_asks (suc (suc (suc who))) low high = absurd (omega arith)

pub totals_are : totals_of_two
totals_are = (record { own = own_asks; no_others = no_third }, refl, refl)

pub names_are : names_of_two
names_are = (refl, refl, refl)

abbrev id_in : List Reply → ℕ
id_in (a ∷ store.Id n ∷ l) = n
id_in _ = 0

pub no_second_id : second_id
no_second_id legal = let two : ℕ = 2 in let one : ℕ = 1 in let e : two ≡ one = ap id_in legal in absurd (omega arith)

pub of_nobody : word_of_nobody
of_nobody l c is h = let none = h.no_other_words 128 (omega arith) in absurd (omega arith)

pub told_twice : word_told_twice
told_twice l v c at five ten h = let row = (h.words 0 l v refl at).each 0 (omega arith) in absurd (omega arith)
