-- What holds of the readers of one side of all lines, while lines are read, change, come and go.
use Rattle.std.proofs.Common.{◌≡◌, inl, inr, ℕ, ◌==◌, Bool, true, false, List, [], ◌∷◌, refl, ap, ◌∙◌, sym, subst, arith}
use Rattle.std.specs.Prelude.{Option, None, Some, if◌then◌else◌}
use Rattle.filter_host.specs.Heard.{Heard, hands, halts, Hears}
use Rattle.exchange.specs.declared.types.Exchange.{Exchange}
use Rattle.h1_model.specs.Unread.{Reading, new_reading}
use Rattle.worker_model.specs.declared.types.Line.{Line}
use Rattle.worker_model.specs.Steps.{line_reading, exchange_reading, change_line, change_exchange, with_reader, read_on, new_line}
use Rattle.law_reading.specs.Lines.{AreAbove, AreRising}
use Rattle.law_reading.proofs.Readers.{ReaderGoes}
use Rattle.law_reading.proofs.Alike.{Alike, AreAlike}
use Rattle.law_reading.proofs.Lines.{equal_by, other_by, by_if, found_in, set_in, without, with_new}

abbrev pub reading_in : Heard → Reading
reading_in (hands part new) = new
reading_in (halts why new) = new

abbrev pub OfLine : Bool → (ℕ → Reading → Type 0) → Line → Type 0
OfLine up P l = (r : Reading) → line_reading up (Some l) ≡ Some r → P l.number r

abbrev pub Every : Bool → (ℕ → Reading → Type 0) → List Line → Type 0
Every up P [] = Unit {0}
Every up P (l ∷ lines) = OfLine up P l × Every up P lines

-- it stays so whatever a reader hands on, and is so of the reader of a new connection
pub record Closed (up : Bool) (P : ℕ → Reading → Type 0) : Type 0 where
  pub hears : (n : ℕ) (old : Reading) (h : Heard) → P n old → Hears old h → P n (reading_in h)
  pub young : (n : ℕ) (method : List ℕ) → up ≡ true → P n (new_reading (Some method))

-- ---- a line that is alike

pub line_alike : (up : Bool) (P : ℕ → Reading → Type 0) → Closed up P → (l m : Line) → Alike l m → OfLine up P l → OfLine up P m
line_alike false P closed l m alike of r is =
    let old : Some l.requests ≡ Some r = ap Some (sym alike.requests) ∙ is in subst (λ (n : ℕ). P n r) (sym alike.number) (of r old)
line_alike true P closed l m alike of r is = by_reader alike.reader
  where
    by_reader : ReaderGoes l.exchange m.exchange → P m.number r
    by_reader (inl same) = subst (λ (n : ℕ). P n r) (sym alike.number) (of r (sym same.0 ∙ is))
    by_reader (inr (inl none)) = let e : ◌≡◌ {A = Option Reading} None (Some r) = sym none ∙ is in absurd (cc)
    by_reader (inr (inr (method, new))) =
        let e : Some (new_reading (Some method)) ≡ Some r = sym new ∙ is in
        let same : new_reading (Some method) ≡ r = cc in
        subst (λ (q : Reading). P m.number q) same (closed.young m.number method refl)

pub every_alike : (up : Bool) (P : ℕ → Reading → Type 0) → Closed up P → (lines later : List Line) → AreAlike lines later → Every up P lines → Every up P later
every_alike up P closed [] [] alike all = tt
every_alike up P closed [] (m ∷ later) alike all = absurd alike
every_alike up P closed (l ∷ lines) [] alike all = absurd alike
every_alike up P closed (l ∷ lines) (m ∷ later) alike all = (line_alike up P closed l m alike.0 all.0, every_alike up P closed lines later alike.1 all.1)

-- ---- a line goes

pub every_without : (up : Bool) (P : ℕ → Reading → Type 0) (n : ℕ) (lines : List Line) → Every up P lines → Every up P (without n lines)
every_without up P n [] all = tt
every_without up P n (l ∷ lines) all = by_if (Every up P) (l.number == n) lines (l ∷ without n lines) (λ e. all.1) (λ e. (all.0, every_without up P n lines all.1))

-- ---- a side is read

change_same : (g : Exchange → Exchange) (l : Line) → ((change_line g l).number ≡ l.number) × ((change_line g l).requests ≡ l.requests)
change_same g l = by_exchange l.exchange
  where
    by_exchange : (o : Option Exchange) → ((change_exchange g l o).number ≡ l.number) × ((change_exchange g l o).requests ≡ l.requests)
    by_exchange None = (refl, refl)
    by_exchange (Some x) = (refl, refl)

pub read_number : (up : Bool) (new : Reading) (l : Line) → (read_on up new l).number ≡ l.number
read_number false new l = refl
read_number true new l = (change_same (with_reader new) l).0

line_read : (up : Bool) (P : ℕ → Reading → Type 0) → Closed up P → (side : Bool) (l : Line) (old : Reading) (h : Heard) → line_reading side (Some l) ≡ Some old → Hears old h
    → OfLine up P l → OfLine up P (read_on side (reading_in h) l)
line_read false P closed false l old h there heard of r is =
    let same : reading_in h ≡ r = cc in subst (λ (q : Reading). P l.number q) same (closed.hears l.number old h (of old there) heard)
line_read false P closed true l old h there heard of r is =
    let kept = change_same (with_reader (reading_in h)) l in
    let e : Some l.requests ≡ Some r = ap Some (sym kept.1) ∙ is in subst (λ (n : ℕ). P n r) (sym kept.0) (of r e)
line_read true P closed false l old h there heard of r is = of r is
line_read true P closed true l old h there heard of r is = by_exchange l.exchange refl r is
  where
    by_exchange : (o : Option Exchange) → l.exchange ≡ o → OfLine true P (change_exchange (with_reader (reading_in h)) l o)
    by_exchange None none q e = let gone : ◌≡◌ {A = Option Reading} None (Some old) = ap exchange_reading (sym none) ∙ there in absurd (cc)
    by_exchange (Some x) some q e = let same : reading_in h ≡ q = cc in subst (λ (q : Reading). P l.number q) same (closed.hears l.number old h (of old there) heard)

pub every_read : (up : Bool) (P : ℕ → Reading → Type 0) → Closed up P → (side : Bool) (n : ℕ) (old : Reading) (h : Heard) (lines : List Line) → line_reading side (found_in n lines) ≡ Some old → Hears old h
    → Every up P lines → Every up P (set_in (read_on side (reading_in h)) n lines)
every_read up P closed side n old h [] there heard all = tt
every_read up P closed side n old h (l ∷ lines) there heard all = by_test (λ e. every_read up P closed side n old h lines e heard all.1) (l.number == n) refl there
  where
    by_test : (line_reading side (found_in n lines) ≡ Some old → Every up P (set_in (read_on side (reading_in h)) n lines)) → (b : Bool) → (l.number == n) ≡ b → line_reading side (if b then Some l else found_in n lines) ≡ Some old
        → Every up P (if b then read_on side (reading_in h) l ∷ lines else l ∷ set_in (read_on side (reading_in h)) n lines)
    by_test rest true is e = (line_read up P closed side l old h e heard all.0, all.1)
    by_test rest false is e = (all.0, rest e)

-- ---- a line changes, and its reader may become another

pub every_other : (up : Bool) (P Q : ℕ → Reading → Type 0) → ((n : ℕ) (r : Reading) → P n r → Q n r) → (lines : List Line) → Every up P lines → Every up Q lines
every_other up P Q goes [] all = tt
every_other up P Q goes (l ∷ lines) all = ((λ r is. goes l.number r (all.0 r is)), every_other up P Q goes lines all.1)

-- those above a number
pub every_above : (up : Bool) (P Q : ℕ → Reading → Type 0) (m : ℕ) → ((n : ℕ) (r : Reading) → (n ≡ m → ⊥) → P n r → Q n r) → (lines : List Line) → AreAbove m lines → Every up P lines → Every up Q lines
every_above up P Q m goes [] above all = tt
every_above up P Q m goes (l ∷ lines) above all =
    let apart : l.number ≡ m → ⊥ = λ e. omega (arith, above.0, e) in ((λ r is. goes l.number r apart (all.0 r is)), every_above up P Q m goes lines above.1 all.1)

pub every_set : (up : Bool) (P Q : ℕ → Reading → Type 0) (f : Line → Line) (m : ℕ) → ((l : Line) → l.number ≡ m → OfLine up P l → OfLine up Q (f l)) → ((n : ℕ) (r : Reading) → (n ≡ m → ⊥) → P n r → Q n r)
    → (lines : List Line) → AreRising lines → Every up P lines → Every up Q (set_in f m lines)
every_set up P Q f m there goes [] rising all = tt
every_set up P Q f m there goes (l ∷ lines) rising all =
    by_if (Every up Q) (l.number == m) (f l ∷ lines) (l ∷ set_in f m lines)
    (λ e. (there l (equal_by l.number m e) all.0, every_above up P Q m goes lines (subst (λ (n : ℕ). AreAbove n lines) (equal_by l.number m e) rising.0) all.1))
    (λ e. ((λ r is. goes l.number r (other_by l.number m e) (all.0 r is)), every_set up P Q f m there goes lines rising.1 all.1))

pub every_new : (up : Bool) (Q : ℕ → Reading → Type 0) (m : ℕ) → (up ≡ false → Q m (new_reading None)) → (lines : List Line) → Every up Q lines → Every up Q (with_new m lines)
every_new up Q m new lines all = by_list lines all
  where
    one : (b : Bool) → b ≡ up → OfLine up Q (new_line m)
    one false is = subst (λ (u : Bool). OfLine u Q (new_line m)) is (λ r e. let same : new_reading None ≡ r = cc in subst (λ (q : Reading). Q m q) same (new (sym is)))
    one true is = subst (λ (u : Bool). OfLine u Q (new_line m)) is (λ r e. absurd (cc))

    by_list : (lines : List Line) → Every up Q lines → Every up Q (with_new m lines)
    by_list [] all = (one up refl, tt)
    by_list (l ∷ lines) all = by_if (Every up Q) (_) (new_line m ∷ l ∷ lines) (l ∷ with_new m lines) (λ e. (one up refl, all)) (λ e. (all.0, by_list lines all.1))

-- the line of a number that is found
pub found_of : (up : Bool) (P : ℕ → Reading → Type 0) (n : ℕ) (lines : List Line) (l : Line) → found_in n lines ≡ Some l → Every up P lines → (r : Reading) → line_reading up (Some l) ≡ Some r → P n r
found_of up P n [] l there all r is = absurd (cc)
found_of up P n (k ∷ lines) l there all r is = by_test (λ found. found_of up P n lines l found all.1 r is) (k.number == n) refl there
  where
    by_test : (found_in n lines ≡ Some l → P n r) → (b : Bool) → (k.number == n) ≡ b → (if b then Some k else found_in n lines) ≡ Some l → P n r
    by_test rest true e found = let same : k ≡ l = cc in subst (λ (m : ℕ). P m r) (equal_by k.number n e) (all.0 r (ap (λ (x : Line). line_reading up (Some x)) same ∙ is))
    by_test rest false e found = rest found
