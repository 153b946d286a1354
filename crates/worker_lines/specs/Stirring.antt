-- The lines on which something is due, and where they stand.
use Rattle.std.specs.Prelude.{◌≡◌, ◌≤◌, ℕ, Bool, true, false, ◌||◌, List, Option, None, Some, slice_get, nat_lt}
use Rattle.exchange.specs.declared.types.Exchange.{Exchange}
use Rattle.filter_chain.specs.Chains.{ready}
use Rattle.worker_lines.specs.declared.span.Span.{Span}
use Rattle.worker_model.specs.declared.types.Line.{Line}

-- a stage is to be asked, or the end is due
abbrev pub stirs_in : Option Exchange → Bool
stirs_in None = false
stirs_in (Some x) = x.has_ended || (nat_lt 0 (ready x.request) || nat_lt 0 (ready x.response))

abbrev pub stirs : Line → Bool
stirs line = stirs_in line.exchange

-- a place is among these
pub record Among (span : Span) (k : ℕ) : Type 0 where
  pub some : span.is_any ≡ true
  pub low : span.first ≤ k
  pub high : k ≤ span.last

-- it is, or all are
abbrev pub Covers : Span → ℕ → Type 0
Covers span k = span.is_all ≡ false → Among span k

-- lines on which something is due stand at these places alone
pub record StirsWithin (span : Span) (lines : List Line) : Type 0 where
  pub at : (k : ℕ) (line : Line) → slice_get lines k ≡ Some line → stirs line ≡ true → Covers span k
