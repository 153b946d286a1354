-- Lines on which something is due stand where they were looked for.
use Rattle.std.proofs.Common.{◌≡◌, ◌≤◌, ◌<◌, ℕ, zero, suc, List, [], ◌∷◌, length, Bool, true, false, not, ◌&&◌, ◌||◌, refl, sym, ap, subst, arith, Option, Some, None, ◌⊎◌, inl, inr, nat_lt}
use Rattle.std.specs.Prelude.{slice_get, slice_set, position}
use Rattle.exchange.specs.declared.types.Exchange.{Exchange}
use Rattle.filter_chain.specs.Chains.{ready}
use Rattle.worker_model.specs.Rooms.{has_move, is_over, exchange_moves, exchange_ends}
use Rattle.worker_lines.specs.Stirring.{stirs, stirs_in, Covers, StirsWithin}
use Rattle.worker_lines.specs.declared.span.Span.{Span}
use Rattle.worker_model.specs.declared.types.Line.{Line}
use Rattle.worker_lines.proofs.Firsts.{Fails, fails_none, low_or_high}

-- in a list of which one member was set, each is that one or as it was
get_set : {X : Type 0} (xs : List X) (at k : ℕ) (x y : X) → slice_get (slice_set xs at x) k ≡ Some y → (k ≡ at) ⊎ (slice_get xs k ≡ Some y)
get_set [] at k x y is = inr is
get_set (z ∷ zs) zero zero x y is = inl refl
get_set (z ∷ zs) zero (suc k) x y is = inr is
get_set (z ∷ zs) (suc at) zero x y is = inr is
get_set (z ∷ zs) (suc at) (suc k) x y is = by (get_set zs at k x y is)
  where
    by : (k ≡ at) ⊎ (slice_get zs k ≡ Some y) → (suc k ≡ suc at) ⊎ (slice_get (z ∷ zs) (suc k) ≡ Some y)
    by (inl same) = inl (ap suc same)
    by (inr there) = inr there

-- whatever is put at a place that is covered
pub stirs_set : (old new : Span) (lines : List Line) (at : ℕ) (line : Line) → StirsWithin old lines → Covers new at → ((k : ℕ) → Covers old k → Covers new k)
    → StirsWithin new (slice_set lines at line)
stirs_set old new lines at line within here others = record { at = λ k x there is. covered k x is (get_set lines at k line x there) }
  where
    covered : (k : ℕ) (x : Line) → stirs x ≡ true → (k ≡ at) ⊎ (slice_get lines k ≡ Some x) → Covers new k
    covered k x is (inl same) = subst (λ (n : ℕ). Covers new n) (sym same) here
    covered k x is (inr was) = others k (within.at k x was is)

-- all are covered
pub stirs_all : (span : Span) (lines : List Line) → span.is_all ≡ true → StirsWithin span lines
stirs_all span lines all = record { at = λ k x there is not_all. absurd (cc) }

-- what moves, or is over, stirs
pub moves_stirs : (line : Line) → has_move line ≡ true → stirs line ≡ true
moves_stirs line is = by line.exchange is
  where
    both : (a b : Bool) → (not a && b) ≡ true → (a || b) ≡ true
    both true b is = refl
    both false b is = is

    by : (x : Option Exchange) → exchange_moves x ≡ true → stirs_in x ≡ true
    by None is = is
    by (Some x) is = both x.has_ended _ is

pub over_stirs : (line : Line) → is_over line ≡ true → stirs line ≡ true
over_stirs line is = by line.exchange is
  where
    by : (x : Option Exchange) → exchange_ends x ≡ true → stirs_in x ≡ true
    by None is = is
    by (Some x) is = ap (λ (b : Bool). b || (nat_lt 0 (ready x.request) || nat_lt 0 (ready x.response))) is

fails_of : (b : Bool) → (b ≡ true → ⊥) → b ≡ false
fails_of true never = absurd (never refl)
fails_of false never = refl

-- none in front of those that are covered, and none after them
module _ (p : Line → Bool) (is_due : (line : Line) → p line ≡ true → stirs line ≡ true) (span : Span) (lines : List Line) (within : StirsWithin span lines) where
  pub fails_before : (n : ℕ) → ((k : ℕ) → Covers span k → n ≤ k) → Fails p lines n
  fails_before n low k x less there = fails_of (p x) (λ is. let at = low k (within.at k x there (is_due x is)) in omega arith)

  pub fails_behind : (n : ℕ) → ((k : ℕ) → k < length lines → Covers span k → k < n) → Fails p lines n → Fails p lines (length lines)
  fails_behind n high fails k x less there = by (low_or_high k n)
    where
      by : k < n ⊎ n ≤ k → p x ≡ false
      by (inl low) = fails k x low there
      by (inr past) = fails_of (p x) (λ is. let at = high k less (within.at k x there (is_due x is)) in omega arith)

-- none moves, and none is over
fail_both : (line : Line) → has_move line ≡ false → is_over line ≡ false → stirs line ≡ false
fail_both line first next = by line.exchange first next
  where
    both : (a b : Bool) → (not a && b) ≡ false → a ≡ false → (a || b) ≡ false
    both true b first next = next
    both false b first next = first

    by : (x : Option Exchange) → exchange_moves x ≡ false → exchange_ends x ≡ false → stirs_in x ≡ false
    by None first next = refl
    by (Some x) first next = both x.has_ended _ first next

pub stirs_calm : (span : Span) (lines : List Line) → position has_move lines ≡ None → position is_over lines ≡ None → StirsWithin span lines
stirs_calm span lines first next = record { at = λ k x there is. absurd (never k x there is) }
  where
    never : (k : ℕ) (x : Line) → slice_get lines k ≡ Some x → stirs x ≡ true → ⊥
    never k x there is =
        let no : stirs x ≡ false = fail_both x (fails_none has_move lines k x first there) (fails_none is_over lines k x next there) in
        absurd (cc)
