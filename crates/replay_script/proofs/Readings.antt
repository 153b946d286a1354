-- A text is one script at most, or has one first line of no form.
use Rattle.std.proofs.Common.{◌≡◌, ◌⊎◌, inl, inr, ℕ, ◌+◌, ◌≤◌, ◌<◌, false, List, [], ◌∷◌, ◌++◌, length, refl, ap, sym, ◌∙◌, subst, append_assoc, arith, length-append}
use Rattle.std.proofs.lemmas.List.{append-nil}
use Rattle.replay_script.specs.declared.command.Command.{Command}
use Rattle.replay_script.specs.Commands.{IsFree, IsInForm, Spells, text_of}
use Rattle.replay_script.specs.Scripts.{script_text, Standing, at_start, behind, behind_all, moment_behind, worker_behind, ComesNext, AreLines, IsScript, FirstBad}
use Rattle.replay_script.proofs.Spaces.{split_alone, has_no_such}
use Rattle.replay_script.proofs.LineEnds.{text_has_no_end}
use Rattle.replay_script.proofs.Texts.{text_alone}

-- one more line
script_more : (cs : List Command) (c : Command) (more : List ℕ) → script_text (cs ++ (c ∷ [])) ++ more ≡ script_text cs ++ (text_of c ++ (10 ∷ more))
script_more [] c more = append_assoc (text_of c) (10 ∷ []) more
script_more (d ∷ cs) c more =
    append_assoc (text_of d) (10 ∷ script_text (cs ++ (c ∷ []))) more
    ∙ ap (λ (xs : List ℕ). text_of d ++ (10 ∷ xs)) (script_more cs c more)
    ∙ sym (append_assoc (text_of d) (10 ∷ script_text cs) (text_of c ++ (10 ∷ more)))

pub lines_more : (s : Standing) (cs : List Command) (c : Command) → AreLines s cs → ComesNext (behind_all s cs) c → AreLines s (cs ++ (c ∷ []))
lines_more s [] c lines next = (next, tt)
lines_more s (d ∷ cs) c lines next = (lines.0, lines_more (behind s d) cs c lines.1 next)

pub behind_more : (s : Standing) (cs : List Command) (c : Command) → behind_all s (cs ++ (c ∷ [])) ≡ behind (behind_all s cs) c
behind_more s [] c = refl
behind_more s (d ∷ cs) c = behind_more (behind s d) cs c

-- a line that sets an earlier moment, or a worker that is not there, may not come next
pub falls : (s : Standing) (now : ℕ) (c : Command) → s.now ≡ now → moment_behind now c < now → ComesNext s c → ⊥
falls s now c same low next =
    let rises : now ≤ moment_behind now c = subst (λ (m : ℕ). m ≤ moment_behind m c) same next.rises in
    omega (arith, low, rises)

pub strays : (s : Standing) (who workers : ℕ) (c : Command) → s.who ≡ who → s.workers ≡ workers → workers < worker_behind who c → ComesNext s c → ⊥
strays s who workers c same all high next =
    let there : worker_behind who c ≤ s.workers = subst (λ (w : ℕ). worker_behind w c ≤ s.workers) same next.there in
    omega (arith, high, there, all)

-- any other may, where no `stop` was there
pub rises : (s : Standing) (now who workers : ℕ) (c : Command) → s ≡ record { now = now; who = who; stopped = false; workers = workers } → now ≤ moment_behind now c
    → worker_behind who c ≤ workers → IsInForm c → ComesNext s c
rises s now who workers c same low there form = subst (λ (t : Standing). ComesNext t c) (sym same) (record { in_form = form; rises = low; there = there; goes_on = refl })

-- no line is nothing
no_line : (xs ys : List ℕ) → [] ≡ xs ++ (10 ∷ ys) → ⊥
no_line xs ys e = omega (arith, ap length e, length-append xs (10 ∷ ys))

-- a text with no LF begins with no line
pub no_line_there : (rest : List ℕ) → IsFree 10 rest → (command : Command) (more : List ℕ) → rest ≡ text_of command ++ (10 ∷ more) → ⊥
no_line_there rest free command more e = has_no_such 10 (text_of command) more (subst (λ (xs : List ℕ). IsFree 10 xs) e free)

-- a first line that spells no command
pub no_command_there : (line more rest : List ℕ) → IsFree 10 line → rest ≡ line ++ (10 ∷ more) → ((c : Command) → Spells line c → ⊥)
    → (s : Standing) (command : Command) (behind : List ℕ) → ComesNext s command → rest ≡ text_of command ++ (10 ∷ behind) → ⊥
no_command_there line more rest free at none s command behind next e =
    none command (record { in_form = next.in_form; text = (split_alone 10 line (text_of command) more behind free (text_has_no_end command next.in_form) (sym at ∙ e)).0 })

-- a first line that spells a command which may not come next
pub not_next_there : (line more rest : List ℕ) (c : Command) → IsFree 10 line → rest ≡ line ++ (10 ∷ more) → Spells line c
    → (s : Standing) → (ComesNext s c → ⊥) → (command : Command) (behind : List ℕ) → ComesNext s command → rest ≡ text_of command ++ (10 ∷ behind) → ⊥
not_next_there line more rest c free at spells s none command behind next e =
    let same : line ≡ text_of command = (split_alone 10 line (text_of command) more behind free (text_has_no_end command next.in_form) (sym at ∙ e)).0 in
    none (subst (ComesNext s) (sym (text_alone c command spells.in_form next.in_form (sym spells.text ∙ same))) next)

-- the one list is the other and more: a line that may come next and others, and s is what they spell and r after them
pub record Extends (at : Standing) (f g : List Command) (r s : List ℕ) : Type 0 where
  pub line : Command
  pub more : List Command
  pub is : f ≡ g ++ (line ∷ more)
  pub next : ComesNext (behind_all at g) line
  pub spelled : s ≡ text_of line ++ (10 ∷ (script_text more ++ r))

-- two readings of one text: the same, or one goes on where the other ends
fronts : (at : Standing) (f g : List Command) (r s : List ℕ) → AreLines at f → AreLines at g → script_text f ++ r ≡ script_text g ++ s
    → ((f ≡ g) × (r ≡ s)) ⊎ (Extends at f g r s ⊎ Extends at g f s r)
fronts at [] [] r s F G e = inl (refl, e)
fronts at [] (d ∷ g) r s F G e = inr (inr (record { line = d; more = g; is = refl; next = G.0; spelled = e ∙ append_assoc (text_of d) (10 ∷ script_text g) s }))
fronts at (c ∷ f) [] r s F G e = inr (inl (record { line = c; more = f; is = refl; next = F.0; spelled = sym e ∙ append_assoc (text_of c) (10 ∷ script_text f) r }))
fronts at (c ∷ f) (d ∷ g) r s F G e =
    let parts = split_alone 10 (text_of c) (text_of d) (script_text f ++ r) (script_text g ++ s) (text_has_no_end c F.0.in_form) (text_has_no_end d G.0.in_form)
    (sym (append_assoc (text_of c) (10 ∷ script_text f) r) ∙ e ∙ append_assoc (text_of d) (10 ∷ script_text g) s) in
    let same : c ≡ d = text_alone c d F.0.in_form G.0.in_form parts.0 in
    let F1 : AreLines (behind at d) f = subst (λ (x : Command). AreLines (behind at x) f) same F.1 in
    elim (fronts (behind at d) f g r s F1 G.1 parts.1) [
      | inl both ↦ inl (cc (same, both.0), both.1)
      | inr one ↦ elim one [
        | inl x ↦ inr (inl (record { line = x.line; more = x.more; is = cc (same, x.is); next = x.next; spelled = x.spelled }))
        | inr y ↦ inr (inr (record {
          line = y.line;
          more = y.more;
          is = cc (same, y.is);
          next = subst (λ (x : Command). ComesNext (behind_all (behind at x) f) y.line) (sym same) y.next;
          spelled = y.spelled;
        }))
      ]
    ]

-- a text is one script at most
pub one_script : (workers : ℕ) (text : List ℕ) (a b : List Command) → IsScript workers text a → IsScript workers text b → a ≡ b
one_script workers text a b A B =
    elim (fronts (at_start workers) a b [] [] A.lines B.lines (append-nil (script_text a) ∙ sym A.is ∙ B.is ∙ sym (append-nil (script_text b)))) [
      | inl both ↦ both.0
      | inr one ↦ elim one [ inl x ↦ absurd (no_line _ _ x.spelled) | inr y ↦ absurd (no_line _ _ y.spelled) ]
    ]

-- no script has a first line of no form
pub script_or_bad : (workers : ℕ) (text : List ℕ) (a : List Command) (n : ℕ) → IsScript workers text a → FirstBad workers text n → ⊥
script_or_bad workers text a n A B =
    elim (fronts (at_start workers) a B.front [] B.rest A.lines B.lines (append-nil (script_text a) ∙ sym A.is ∙ B.is)) [
      | inl both ↦ B.some (sym both.1)
      | inr one ↦ elim one [ inl x ↦ B.bad x.line _ x.next x.spelled | inr y ↦ no_line _ _ y.spelled ]
    ]

-- there is one first line of no form at most
pub one_first_bad : (workers : ℕ) (text : List ℕ) (m n : ℕ) → FirstBad workers text m → FirstBad workers text n → m ≡ n
one_first_bad workers text m n A B =
    elim (fronts (at_start workers) A.front B.front A.rest B.rest A.lines B.lines (sym A.is ∙ B.is)) [
      | inl both ↦ A.number_is ∙ ap (λ (cs : List Command). length cs + 1) both.0 ∙ sym B.number_is
      | inr one ↦ elim one [ inl x ↦ absurd (B.bad x.line _ x.next x.spelled) | inr y ↦ absurd (A.bad y.line _ y.next y.spelled) ]
    ]

-- the text after one more line
pub is_more : (text : List ℕ) (cs new : List Command) (rest line more : List ℕ) (c : Command) → text ≡ script_text cs ++ rest → rest ≡ line ++ (10 ∷ more) → line ≡ text_of c
    → new ≡ cs ++ (c ∷ []) → text ≡ script_text new ++ more
is_more text cs new rest line more c at front spelled added =
    at ∙ ap (λ (xs : List ℕ). script_text cs ++ xs) (front ∙ ap (λ (xs : List ℕ). xs ++ (10 ∷ more)) spelled)
    ∙ sym (script_more cs c more) ∙ ap (λ (ds : List Command). script_text ds ++ more) (sym added)
