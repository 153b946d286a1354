-- What goes to the log, and what of it is dropped.
use Rattle.std.specs.Prelude.{◌≡◌, ◌⊎◌, ℕ, ◌+◌, ◌-◌, ◌^◌, ◌<◌, ◌≤◌, min, nat_lt, Bool, true, false, List, [], ◌∷◌, ◌++◌, length, take, All, Option, codes}
use Rattle.std.specs.Fmt.{decimal}
use Rattle.gate_base.specs.declared.level.Level.TheVariants.{Warn}
use Rattle.gate_io.specs.Told.{Gains}
use Rattle.gate_live.specs.LogLine.{line_of}

-- the end of the last line, where that was cut off
abbrev pub end_of : Bool → List ℕ
end_of true = 10 ∷ []
end_of false = []

-- A line is written whole, after the end of the last one where that was cut off.
pub record Writes {R : Type 0} (logged : R → Option (List ℕ)) (old : R) (cut : Bool) (line : List ℕ) (new : R) (still : Bool) : Type 0 where
  pub gained : Gains (logged old) (end_of cut ++ line) (logged new)
  pub ended : still ≡ false

-- nothing is written: not even the end of the last line, which stays cut off
abbrev pub WritesNone : {R : Type 0} → (R → Option (List ℕ)) → R → Bool → R → Bool → Type 0
WritesNone logged old cut new still = (logged new ≡ logged old) × ((cut ≡ true) × (still ≡ true))

-- The last line is ended, and a part of this one is written that is less than all of it. Where some of it is, it is cut off.
pub record WritesPart {R : Type 0} (logged : R → Option (List ℕ)) (old : R) (cut : Bool) (line : List ℕ) (new : R) (still : Bool) : Type 0 where
  pub part : ℕ
  pub short : part < length line
  pub gained : Gains (logged old) (end_of cut ++ take part line) (logged new)
  pub cut_is : still ≡ nat_lt 0 part

-- A line is dropped as the log refuses more.
pub record Drops {R : Type 0} (logged : R → Option (List ℕ)) (refuses : R → Type 0) (old : R) (cut : Bool) (line : List ℕ) (new : R) (still : Bool) : Type 0 where
  pub refused : refuses new
  pub wrote : WritesNone logged old cut new still ⊎ WritesPart logged old cut line new still

-- The handle that the log is written on, whether its last line was cut off, and how many lines were dropped that were not counted among the notices.
pub record LogState (R : Type 0) : Type 0 where
  pub rt : R
  pub is_cut : Bool
  pub dropped : ℕ

-- A line of the log is written once. Or it is dropped, where the log refuses it, and counted, up to 2^32 - 1.
abbrev pub IsLogged : {R : Type 0} → (R → Option (List ℕ)) → (R → Type 0) → LogState R → List ℕ → LogState R → Type 0
IsLogged logged refuses old line new =
    (Writes logged old.rt old.is_cut line new.rt new.is_cut × (new.dropped ≡ old.dropped)) ⊎ (Drops logged refuses old.rt old.is_cut line new.rt new.is_cut × (new.dropped ≡ min (old.dropped + 1) (2 ^ 32 - 1)))

-- these lines, one after the other
abbrev pub AreLogged : {R : Type 0} → (R → Option (List ℕ)) → (R → Type 0) → LogState R → List (List ℕ) → LogState R → Type 0
AreLogged {R} logged refuses old [] new = new ≡ old
AreLogged {R} logged refuses old (line ∷ lines) new = (mid : LogState R) × IsLogged logged refuses old line mid × AreLogged logged refuses mid lines new

-- a line that tells the operator how often something happened
abbrev pub notice_of : List ℕ → ℕ → List ℕ
notice_of text count = line_of Warn (text ++ (codes ": " ++ decimal count))

-- a line is a notice: a text and how often it came
abbrev pub IsNotice : List ℕ → Type 0
IsNotice line = (text : List ℕ) × (count : ℕ) × (line ≡ notice_of text count)

-- one notice was logged, or nothing
abbrev pub MayNotice : {R : Type 0} → (R → Option (List ℕ)) → (R → Type 0) → LogState R → LogState R → Type 0
MayNotice logged refuses old new = (new ≡ old) ⊎ ((line : List ℕ) × IsNotice line × IsLogged logged refuses old line new)

-- Nothing was logged but notices, so many at most.
pub record Notices {R : Type 0} (logged : R → Option (List ℕ)) (refuses : R → Type 0) (most : ℕ) (old new : LogState R) : Type 0 where
  pub lines : List (List ℕ)
  pub few : length lines ≤ most
  pub each : All IsNotice lines
  pub are : AreLogged logged refuses old lines new
