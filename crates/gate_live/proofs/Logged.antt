-- Lines of the log.
use Rattle.std.proofs.Common.{◌≡◌, inl, inr, ℕ, ◌+◌, ◌-◌, ◌<◌, ◌≤◌, Bool, true, false, List, [], ◌∷◌, ◌++◌, length, take, take-add, drop, Option, refl, sym, subst, ap, ◌∙◌, arith, length-append}
use Rattle.std.specs.Prelude.{nat_lt}
use Rattle.std.proofs.lemmas.List.{take_all}
use Rattle.std.proofs.lemmas.List.Elements.{All-nil, All-push}
use Rattle.gate_io.specs.Told.{Gains, gains_more}
use Rattle.gate_live.specs.Logged.{AreLogged, Drops, IsLogged, IsNotice, LogState, MayNotice, Notices, Writes, end_of}

-- one more piece of a line
pub piece_more : (old : Option (List ℕ)) (line : List ℕ) (at end : ℕ) (mid new : Option (List ℕ)) → at ≤ end → Gains old (take at line) mid → Gains mid (take (end - at) (drop at line)) new → Gains old (take end line) new
piece_more old line at end mid new le first second =
    let whole : at + (end - at) ≡ end = omega arith in
    let joined : take at line ++ take (end - at) (drop at line) ≡ take end line = sym (take-add at (end - at) line) ∙ ap (λ (n : ℕ). take n line) whole in
    subst (λ (xs : List ℕ). Gains old xs new) joined (gains_more old (take at line) mid (take (end - at) (drop at line)) new first second)

-- the end of the last line, and then all of this one
pub writes_all : {R : Type 0} (logged : R → Option (List ℕ)) (old mid : R) (cut : Bool) (line : List ℕ) (n : ℕ) (new : R) (still : Bool)
    → Gains (logged old) (end_of cut) (logged mid) → Gains (logged mid) (take n line) (logged new) → length line ≤ n → still ≡ false → Writes logged old cut line new still
writes_all logged old mid cut line n new still first second all ended = record {
  gained = subst (λ (xs : List ℕ). Gains (logged old) (end_of cut ++ xs) (logged new)) (take_all n line all) (gains_more (logged old) (end_of cut) (logged mid) (take n line) (logged new) first second);
  ended = ended;
}

-- or a part of it
pub drops_part : {R : Type 0} (logged : R → Option (List ℕ)) (refuses : R → Type 0) (old mid : R) (cut : Bool) (line : List ℕ) (n : ℕ) (new : R) (still : Bool)
    → Gains (logged old) (end_of cut) (logged mid) → Gains (logged mid) (take n line) (logged new) → n < length line → still ≡ nat_lt 0 n → refuses new → Drops logged refuses old cut line new still
drops_part logged refuses old mid cut line n new still first second short is refused = record {
  refused = refused;
  wrote = inr (record { part = n; short = short; gained = gains_more (logged old) (end_of cut) (logged mid) (take n line) (logged new) first second; cut_is = is });
}

-- or not even the end of the last one
pub drops_none : {R : Type 0} (logged : R → Option (List ℕ)) (refuses : R → Type 0) (old : R) (cut : Bool) (line : List ℕ) (new : R) (still : Bool)
    → logged new ≡ logged old → cut ≡ true → still ≡ true → refuses new → Drops logged refuses old cut line new still
drops_none logged refuses old cut line new still same was is refused = record { refused = refused; wrote = inl (same, (was, is)) }

-- one more line
logged_more : {R : Type 0} (logged : R → Option (List ℕ)) (refuses : R → Type 0) (a : LogState R) (lines : List (List ℕ)) (b : LogState R) (line : List ℕ) (c : LogState R)
    → AreLogged logged refuses a lines b → IsLogged logged refuses b line c → AreLogged logged refuses a (lines ++ line ∷ []) c
logged_more {R} logged refuses a [] b line c before one = (c, subst (λ (s : LogState R). IsLogged logged refuses s line c) before one, refl)
logged_more {R} logged refuses a (l ∷ lines) b line c before one = (before.0, before.1, logged_more logged refuses before.0 lines b line c before.2 one)

-- nothing was logged so far
pub no_notices : {R : Type 0} (logged : R → Option (List ℕ)) (refuses : R → Type 0) (most : ℕ) (old new : LogState R) → new ≡ old → Notices logged refuses most old new
no_notices logged refuses most old new same = record { lines = []; few = omega arith; each = All-nil IsNotice; are = same }

-- one more notice, or nothing
pub more_notices : {R : Type 0} (logged : R → Option (List ℕ)) (refuses : R → Type 0) (most : ℕ) (a b c : LogState R) → Notices logged refuses most a b → MayNotice logged refuses b c → Notices logged refuses (most + 1) a c
more_notices {R} logged refuses most a b c before (inl same) =
    record { lines = before.lines; few = (let few = before.few in omega arith); each = before.each; are = subst (λ (s : LogState R). AreLogged logged refuses a before.lines s) (sym same) before.are }
more_notices {R} logged refuses most a b c before (inr one) = record {
  lines = before.lines ++ one.0 ∷ [];
  few = (let few = before.few in let longer = length-append before.lines (one.0 ∷ []) in omega arith);
  each = All-push IsNotice before.lines one.0 before.each one.1;
  are = logged_more logged refuses a before.lines b one.0 c before.are one.2;
}
