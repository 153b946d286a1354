-- Formats: how values are spelled in bytes, and how bytes are read from left to right up to the first
-- fault. Spelling is a relation between a value and bytes and knows of no order; reading gives the value
-- and the bytes behind it, or the fault. That the two agree is a law (read_again, read_is_spelled).
use Rattle.std.specs.Prelude.{◌≡◌, ℕ, zero, suc, Bool, true, List, [], ◌∷◌, ◌++◌, length, Option, Some, None, Result, Ok, Err, nat_lt, if◌then◌else◌}

-- An item at fault: by which row of the reader's table, and how many bytes of the input are left from
-- its place on.
pub record Fault : Type 0 where
  pub number : ℕ
  pub left : ℕ

abbrev pub Reading : Type 0 → Type 0
Reading A = Result (A × List ℕ) Fault

-- a value and the bytes behind it
abbrev pub ok : {A : Type 0} → A → List ℕ → Reading A
ok x rest = Ok (x, rest)

abbrev pub fault : {A : Type 0} → ℕ → ℕ → Reading A
fault number left = Err (record { number = number; left = left })

abbrev pub and_then : {A B : Type 0} → Reading A → (A → List ℕ → Reading B) → Reading B
and_then (Ok x) f = f x.0 x.1
and_then (Err e) f = Err e

-- what a test lets through
abbrev pub tested : {A : Type 0} → Bool → ℕ → ℕ → A → List ℕ → Reading A
tested test number left x rest = if test then ok x rest else fault number left

-- A section or body whose items are read: where it ends, as the bytes of the input that are left behind
-- it, or that it passes the input's end; and the bytes that are left from its size on.
pub data Fence : Type 0 where
  Ends : (left size : ℕ) → Fence
  Passes : (size : ℕ) → Fence

-- So many bytes have to be left behind each item.
abbrev pub left_of : Fence → ℕ
left_of (Ends left size) = left
left_of (Passes size) = 0

abbrev pub size_of : Fence → ℕ
size_of (Ends left size) = size
size_of (Passes size) = size

pub record Format (A : Type 0) : Type 1 where
  -- the value is spelled by these bytes
  pub spells : A → List ℕ → Type 0
  -- what reading gives, within a section or body, from some bytes on
  pub reads : Fence → List ℕ → Reading A

-- ---- nothing at all

abbrev pub done : {A : Type 0} → A → Format A
done x = record {
  spells = λ y text. (y ≡ x) × (text ≡ []);
  reads = λ k bytes. ok x bytes;
}

-- ---- one format behind another, which may depend on the first one's value

pub record Follows {A B : Type 0} (first : A → List ℕ → Type 0) (second : A → B → List ℕ → Type 0) (y : B) (text : List ℕ) : Type 0 where
  pub value : A
  pub front : List ℕ
  pub back : List ℕ
  pub parts : text ≡ front ++ back
  pub first_spelled : first value front
  pub second_spelled : second value y back

infixl 10 ◌>>=◌
abbrev pub ◌>>=◌ : {A B : Type 0} → Format A → (A → Format B) → Format B
m >>= f = record {
  spells = Follows m.spells (λ x. (f x).spells);
  reads = λ k bytes. and_then (m.reads k bytes) (λ x rest. (f x).reads k rest);
}

-- ---- an item is read on the whole input, and then judged against the end of its section or body (8)

abbrev pub fenced : {A : Type 0} → Fence → A → List ℕ → Reading A
fenced k x rest = if nat_lt (length rest) (left_of k) then fault 8 (size_of k) else ok x rest

abbrev pub item : {A : Type 0} → (A → List ℕ → Type 0) → (List ℕ → Reading A) → Format A
item spells reads = record {
  spells = spells;
  reads = λ k bytes. and_then (reads bytes) (fenced k);
}

-- ---- what is judged last: a bound of the profile (9), at the first byte

abbrev pub bounded : {A : Type 0} → (A → Bool) → Format A → Format A
bounded within m = record {
  spells = λ x text. m.spells x text × (within x ≡ true);
  reads = λ k bytes. and_then (m.reads k bytes) (λ x rest. tested (within x) 9 (length bytes) x rest);
}

-- ---- so many in a row

unfoldable pub repeated : {A : Type 0} → ℕ → Format A → Format (List A)
repeated zero m = done []
repeated (suc n) m = do
  x ← m
  xs ← repeated n m
  done (x ∷ xs)

-- ---- one after another, each from the state that the ones before leave, up to the last

abbrev pub goes_on : {S : Type 0} → Option S → Type 0 → (S → Type 0) → Type 0
goes_on None last more = last
goes_on (Some s) last more = more s

pub record Links {A : Type 0} (first : A → List ℕ → Type 0) (others : List ℕ → Type 0) (x : A) (text : List ℕ) : Type 0 where
  pub front : List ℕ
  pub back : List ℕ
  pub parts : text ≡ front ++ back
  pub first_spelled : first x front
  pub others_spelled : others back

-- nothing is left
abbrev pub IsLast : {A : Type 0} → List A → List ℕ → Type 0
IsLast xs back = (xs ≡ []) × (back ≡ [])

unfoldable pub ChainSpells : {S A : Type 0} → (S → Format A) → (S → A → Option S) → S → List A → List ℕ → Type 0
ChainSpells step next s [] text = ⊥
ChainSpells step next s (x ∷ xs) text = Links (step s).spells (λ back. goes_on (next s x) (IsLast xs back) (λ t. ChainSpells step next t xs back)) x text

abbrev pub linked : {S A : Type 0} → Option S → A → List ℕ → (S → Reading (List A)) → Reading (List A)
linked None x rest more = ok (x ∷ []) rest
linked (Some s) x rest more = and_then (more s) (λ xs r. ok (x ∷ xs) r)

-- at most `fuel` of them; the input ends before one more (2)
unfoldable pub chain_reads : {S A : Type 0} → (S → Format A) → (S → A → Option S) → ℕ → S → Fence → List ℕ → Reading (List A)
chain_reads step next zero s k bytes = fault 2 0
chain_reads step next (suc fuel) s k bytes = and_then ((step s).reads k bytes) (λ x rest. linked (next s x) x rest (λ t. chain_reads step next fuel t k rest))

-- each of them takes a byte at least, so there are no more than bytes
abbrev pub chained : {S A : Type 0} → (S → Format A) → (S → A → Option S) → S → Format (List A)
chained step next s = record {
  spells = ChainSpells step next s;
  reads = λ k bytes. chain_reads step next (length bytes) s k bytes;
}
