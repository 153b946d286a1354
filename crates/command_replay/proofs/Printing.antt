-- What is printed of what several workers send.
use Rattle.std.proofs.Common.{◌≡◌, ℕ, ◌+◌, Bool, List, [], ◌∷◌, ◌++◌, length, refl, ap, sym, ◌∙◌, append_assoc, ◌<◌, get_or, take, eq-eqb}
use Rattle.std.specs.Prelude.{◌==◌, if◌then◌else◌}
use Rattle.std.proofs.lemmas.List.{append-nil, take_more}
use Rattle.gate_io.specs.declared.event.Sent.{Sent}
use Rattle.replay_script.specs.Prints.{Told, last_in, on_line, printed, printed_by, sent_line, tell}

-- what is printed of two lists of one worker
printed_joined : (a b : List Sent) → printed (a ++ b) ≡ printed a ++ printed b
printed_joined [] b = refl
printed_joined (x ∷ a) b = ap (λ (t : List ℕ). sent_line x ++ t) (printed_joined a b) ∙ sym (append_assoc (sent_line x) (printed a) (printed b))

-- one more of a list, printed
pub printed_snoc : (sent : List Sent) (i : ℕ) (old mid new : List ℕ) (x : Sent) → i < length sent → x ≡ get_or sent i x → mid ≡ old ++ printed (take i sent) → new ≡ mid ++ sent_line x
    → new ≡ old ++ printed (take (i + 1) sent)
printed_snoc sent i old mid new x low at so_far is =
    is ∙ ap (λ (t : List ℕ). t ++ sent_line x) so_far ∙ append_assoc old (printed (take i sent)) (sent_line x)
    ∙ ap (λ (t : List ℕ). old ++ t) (
    ap (λ (t : List ℕ). printed (take i sent) ++ t) (sym (append-nil (sent_line x)))
    ∙ sym (printed_joined (take i sent) (x ∷ []))
    ∙ ap printed (ap (λ (y : Sent). take i sent ++ (y ∷ [])) at ∙ sym (take_more sent i x low)))

abbrev heading : ℕ → ℕ → List ℕ
heading last who = if who == last then [] else on_line who

-- of two lists
pub printed_both : (last : ℕ) (a b : List Told) → printed_by last (a ++ b) ≡ printed_by last a ++ printed_by (last_in last a) b
printed_both last [] b = refl
printed_both last (t ∷ a) b =
    ap (λ (r : List ℕ). heading last t.who ++ (sent_line t.sent ++ r)) (printed_both t.who a b)
    ∙ ap (λ (r : List ℕ). heading last t.who ++ r) (sym (append_assoc (sent_line t.sent) (printed_by t.who a) (printed_by (last_in t.who a) b)))
    ∙ sym (append_assoc (heading last t.who) (sent_line t.sent ++ printed_by t.who a) (printed_by (last_in t.who a) b))

pub last_both : (last : ℕ) (a b : List Told) → last_in last (a ++ b) ≡ last_in (last_in last a) b
last_both last [] b = refl
last_both last (t ∷ a) b = last_both t.who a b

-- the worker of the line before is not named again
no_heading : (who : ℕ) → heading who who ≡ []
no_heading who = ap (λ (b : Bool). if b then [] else on_line who) (eq-eqb who who refl)

printed_tell : (who : ℕ) (sent : List Sent) → printed_by who (tell who sent) ≡ printed sent
printed_tell who [] = refl
printed_tell who (x ∷ sent) =
    ap (λ (h : List ℕ). h ++ (sent_line x ++ printed_by who (tell who sent))) (no_heading who) ∙ ap (λ (r : List ℕ). sent_line x ++ r) (printed_tell who sent)

last_tell : (who : ℕ) (sent : List Sent) → last_in who (tell who sent) ≡ who
last_tell who [] = refl
last_tell who (x ∷ sent) = last_tell who sent

-- what one worker sends, after its name where it is another
pub named_text : (last who : ℕ) (sent : List Sent) (old mid new : List ℕ) → (sent ≡ [] → ⊥) → mid ≡ old ++ (if who == last then [] else on_line who) → new ≡ mid ++ printed sent
    → new ≡ old ++ printed_by last (tell who sent)
named_text last who [] old mid new some named is = absurd (some refl)
named_text last who (x ∷ sent) old mid new some named is =
    is ∙ ap (λ (t : List ℕ). t ++ printed (x ∷ sent)) named ∙ append_assoc old (heading last who) (printed (x ∷ sent))
    ∙ ap (λ (r : List ℕ). old ++ (heading last who ++ (sent_line x ++ r))) (sym (printed_tell who sent))

pub named_last : (last who : ℕ) (sent : List Sent) → (sent ≡ [] → ⊥) → last_in last (tell who sent) ≡ who
named_last last who [] some = absurd (some refl)
named_last last who (x ∷ sent) some = last_tell who sent

-- nothing was sent
pub none_text : (last who : ℕ) (sent : List Sent) (old : List ℕ) → sent ≡ [] → old ≡ old ++ printed_by last (tell who sent)
none_text last who sent old none = sym (append-nil old) ∙ ap (λ (s : List Sent). old ++ printed_by last (tell who s)) (sym none)

pub none_last : (last who : ℕ) (sent : List Sent) → sent ≡ [] → last ≡ last_in last (tell who sent)
none_last last who sent none = ap (λ (s : List Sent). last_in last (tell who s)) (sym none)
