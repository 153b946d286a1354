-- A flat list nests as the sequence that it is written from, and is written from the sequence as which it nests.
use Rattle.std.proofs.Common.{◌≡◌, ◌↔◌, List, [], ◌∷◌, ◌++◌, refl, sym, ap, subst, ◌∙◌, append_assoc, append-nil, inl, inr}
use Rattle.wasm_syntax.specs.declared.instr.Instr.{Instr}
use Rattle.wasm_syntax.specs.declared.instr.Instr.TheVariants as instr
use Rattle.wasm_syntax.specs.declared.instr.BlockType.{BlockType}
use Rattle.wasm_syntax.specs.Rows.{row_of}
use Rattle.wasm_syntax.specs.Nested.{Nested, nothing, simple, block, loop, choice, Cut, whole, ended, parted, broken, first_as, closed_by, chosen_by, Mark, stands_alone, mark_of, in_front, nests, NestsAs, Parted, Writes}
use Rattle.wasm_syntax.specs.CutLists.{CutAt}

-- ---- one sequence and then another

abbrev follow : Nested → Nested → Nested
follow nothing d = d
follow (simple i rest) d = simple i (follow rest d)
follow (block t body rest) d = block t body (follow rest d)
follow (loop t body rest) d = loop t body (follow rest d)
follow (choice t then other rest) d = choice t then other (follow rest d)

follow_nothing : (c : Nested) → follow c nothing ≡ c
follow_nothing nothing = refl
follow_nothing (simple i rest) = ap (simple i) (follow_nothing rest)
follow_nothing (block t body rest) = ap (block t body) (follow_nothing rest)
follow_nothing (loop t body rest) = ap (loop t body) (follow_nothing rest)
follow_nothing (choice t then other rest) = ap (choice t then other) (follow_nothing rest)

first_as_it_is : (cut : Cut) → first_as (λ c. c) cut ≡ cut
first_as_it_is (whole c) = refl
first_as_it_is (ended c behind) = refl
first_as_it_is (parted c behind) = refl
first_as_it_is broken = refl

first_as_twice : (f g : Nested → Nested) (cut : Cut) → first_as f (first_as g cut) ≡ first_as (λ c. f (g c)) cut
first_as_twice f g (whole c) = refl
first_as_twice f g (ended c behind) = refl
first_as_twice f g (parted c behind) = refl
first_as_twice f g broken = refl

-- ---- what is written nests so, whatever stands behind it

-- the sequence stands in front of whatever stands behind the list
abbrev NestsBefore : Nested → List Instr → List Instr → Type 0
NestsBefore code is tail = nests (is ++ tail) ≡ first_as (follow code) (nests tail)

at_mark : (mark : Instr) (is front back tail : List Instr) → is ≡ front ++ mark ∷ back → nests (is ++ tail) ≡ nests (front ++ mark ∷ (back ++ tail))
at_mark mark is front back tail e = ap (λ (l : List Instr). nests (l ++ tail)) e ∙ ap nests (append_assoc front (mark ∷ back) tail)

to_end : (code : Nested) (front tail : List Instr) → NestsBefore code front (instr.End ∷ tail) → nests (front ++ instr.End ∷ tail) ≡ ended code (nests tail)
unfolding nests
to_end code front tail e = e ∙ ap (λ (c : Nested). ended c (nests tail)) (follow_nothing code)

to_else : (code : Nested) (front tail : List Instr) → NestsBefore code front (instr.Else ∷ tail) → nests (front ++ instr.Else ∷ tail) ≡ parted code (nests tail)
unfolding nests
to_else code front tail e = e ∙ ap (λ (c : Nested). parted c (nests tail)) (follow_nothing code)

-- the parts of a body and what follows its end
ends_before : (body rest : Nested) (is tail : List Instr) (p : Parted instr.End (Writes body) (Writes rest) is)
    → NestsBefore body p.front (instr.End ∷ (p.back ++ tail)) → NestsBefore rest p.back tail → nests (is ++ tail) ≡ ended body (first_as (follow rest) (nests tail))
ends_before body rest is tail p one two =
    at_mark instr.End is p.front p.back tail p.parts ∙ to_end body p.front (p.back ++ tail) one ∙ ap (ended body) two

closed_before : (make : Nested → Nested → Nested) (body rest : Nested) (is tail : List Instr) (p : Parted instr.End (Writes body) (Writes rest) is)
    → NestsBefore body p.front (instr.End ∷ (p.back ++ tail)) → NestsBefore rest p.back tail → closed_by make (nests (is ++ tail)) ≡ first_as (λ c. make body (follow rest c)) (nests tail)
closed_before make body rest is tail p one two =
    ap (closed_by make) (ends_before body rest is tail p one two) ∙ first_as_twice (make body) (follow rest) (nests tail)

pub written_nests : (code : Nested) (is tail : List Instr) → Writes code is → NestsBefore code is tail
unfolding nests
written_nests nothing is tail w = ap (λ (l : List Instr). nests (l ++ tail)) w ∙ sym (first_as_it_is (nests tail))
written_nests (simple i rest) is tail w =
    ap (λ (l : List Instr). nests (l ++ tail)) w.2
    ∙ ap (λ (m : Mark). in_front i m (nests (w.1 ++ tail))) w.0
    ∙ ap (first_as (simple i)) (written_nests rest w.1 tail w.3)
    ∙ first_as_twice (simple i) (follow rest) (nests tail)
written_nests (block t body rest) is tail w =
    ap (λ (l : List Instr). nests (l ++ tail)) w.1
    ∙ closed_before (block t) body rest w.0 tail w.2 (written_nests body w.2.front (instr.End ∷ (w.2.back ++ tail)) w.2.first_written) (written_nests rest w.2.back tail w.2.second_written)
written_nests (loop t body rest) is tail w =
    ap (λ (l : List Instr). nests (l ++ tail)) w.1
    ∙ closed_before (loop t) body rest w.0 tail w.2 (written_nests body w.2.front (instr.End ∷ (w.2.back ++ tail)) w.2.first_written) (written_nests rest w.2.back tail w.2.second_written)
written_nests (choice t then other rest) is tail w =
    ap (λ (l : List Instr). nests (l ++ tail)) w.1
    ∙ elim w.2 [
      | inl p ↦
          let q : Parted instr.End (Writes other) (Writes rest) p.back = p.second_written in
          ap (chosen_by t) (at_mark instr.Else w.0 p.front p.back tail p.parts ∙ to_else then p.front (p.back ++ tail) (written_nests then p.front (instr.Else ∷ (p.back ++ tail)) p.first_written))
          ∙ closed_before (choice t then) other rest p.back tail q (written_nests other q.front (instr.End ∷ (q.back ++ tail)) q.first_written) (written_nests rest q.back tail q.second_written)
      | inr n ↦
          let p : Parted instr.End (Writes then) (Writes rest) w.0 = n.1 in
          ap (chosen_by t) (ends_before then rest w.0 tail p (written_nests then p.front (instr.End ∷ (p.back ++ tail)) p.first_written) (written_nests rest p.back tail p.second_written))
          ∙ first_as_twice (choice t then nothing) (follow rest) (nests tail)
          ∙ ap (λ (o : Nested). first_as (λ c. choice t then o (follow rest c)) (nests tail)) (sym n.0)
    ]

pub written_ends : (code : Nested) (body rest : List Instr) → Writes code body → nests (body ++ instr.End ∷ rest) ≡ ended code (nests rest)
written_ends code body rest w = to_end code body rest (written_nests code body (instr.End ∷ rest) w)

-- ---- a list is written from the sequences as which it nests

abbrev Describes : Cut → List Instr → Type 0
Describes (whole c) is = Writes c is
Describes (ended c behind) is = (x : CutAt instr.End c behind is) × Describes behind x.rest
Describes (parted c behind) is = (x : CutAt instr.Else c behind is) × Describes behind x.rest
Describes broken is = Unit {0}

-- instructions in front of the first sequence
put_before : (f : Nested → Nested) (pre : List Instr) → ((c : Nested) (l : List Instr) → Writes c l → Writes (f c) (pre ++ l)) → (cut : Cut) (is : List Instr) → Describes cut is → Describes (first_as f cut) (pre ++ is)
put_before f pre h (whole c) is d = h c is d
put_before f pre h (ended c behind) is d = (
  record {
    body = pre ++ d.0.body;
    rest = d.0.rest;
    parts = ap (λ (l : List Instr). pre ++ l) d.0.parts ∙ sym (append_assoc pre d.0.body (instr.End ∷ d.0.rest));
    written = h c d.0.body d.0.written;
    nested = d.0.nested;
  },
  d.1,
)
put_before f pre h (parted c behind) is d = (
  record {
    body = pre ++ d.0.body;
    rest = d.0.rest;
    parts = ap (λ (l : List Instr). pre ++ l) d.0.parts ∙ sym (append_assoc pre d.0.body (instr.Else ∷ d.0.rest));
    written = h c d.0.body d.0.written;
    nested = d.0.nested;
  },
  d.1,
)
put_before f pre h broken is d = tt

-- instructions that open a block around the first sequence
opened : (make : Nested → Nested → Nested) (pre : List Instr) → ((body rest : Nested) (l : List Instr) → Parted instr.End (Writes body) (Writes rest) l → Writes (make body rest) (pre ++ l)) → (cut : Cut) (is : List Instr) → Describes cut is → Describes (closed_by make cut) (pre ++ is)
opened make pre h (whole c) is d = tt
opened make pre h (ended body behind) is d =
    let b : List Instr = d.0.body in
    let r : List Instr = d.0.rest in
    let wrote : (c : Nested) (l : List Instr) → Writes c l → Writes (make body c) ((pre ++ (b ++ instr.End ∷ [])) ++ l) = λ c l w.
    subst (λ (x : List Instr). Writes (make body c) x) (sym (append_assoc pre (b ++ instr.End ∷ []) l))
    (h body c ((b ++ instr.End ∷ []) ++ l) (record { front = b; back = l; parts = append_assoc b (instr.End ∷ []) l; first_written = d.0.written; second_written = w })) in
    let joined : (pre ++ (b ++ instr.End ∷ [])) ++ r ≡ pre ++ is =
    append_assoc pre (b ++ instr.End ∷ []) r ∙ ap (λ (l : List Instr). pre ++ l) (append_assoc b (instr.End ∷ []) r ∙ sym d.0.parts) in
    subst (λ (l : List Instr). Describes (first_as (make body) behind) l) joined (put_before (make body) (pre ++ (b ++ instr.End ∷ [])) wrote behind r d.1)
opened make pre h (parted c behind) is d = tt
opened make pre h broken is d = tt

chosen : (t : BlockType) (cut : Cut) (is : List Instr) → Describes cut is → Describes (chosen_by t cut) (instr.If t ∷ is)
chosen t (whole c) is d = tt
chosen t (ended then behind) is d = opened (λ b r. choice t b nothing r) (instr.If t ∷ []) (λ body rest l p. (l, refl, inr (refl, p))) (ended then behind) is d
chosen t (parted then behind) is d =
    let b : List Instr = d.0.body in
    let r : List Instr = d.0.rest in
    let wrote : (body rest : Nested) (l : List Instr) → Parted instr.End (Writes body) (Writes rest) l → Writes (choice t then body rest) ((instr.If t ∷ (b ++ instr.Else ∷ [])) ++ l) = λ body rest l p.
    ((b ++ instr.Else ∷ []) ++ l, refl, inl (record { front = b; back = l; parts = append_assoc b (instr.Else ∷ []) l; first_written = d.0.written; second_written = p })) in
    let joined : (instr.If t ∷ (b ++ instr.Else ∷ [])) ++ r ≡ instr.If t ∷ is =
    ap (λ (l : List Instr). instr.If t ∷ l) (append_assoc b (instr.Else ∷ []) r ∙ sym d.0.parts) in
    subst (λ (l : List Instr). Describes (closed_by (choice t then) behind) l) joined (opened (choice t then) (instr.If t ∷ (b ++ instr.Else ∷ [])) wrote behind r d.1)
chosen t broken is d = tt

-- the instructions by their marks
data Stands : Instr → Type 0 where
  begins_a_block : (t : BlockType) → Stands (instr.Block t)
  begins_a_loop : (t : BlockType) → Stands (instr.Loop t)
  begins_an_if : (t : BlockType) → Stands (instr.If t)
  is_else : Stands instr.Else
  is_end : Stands instr.End
  is_alone : {i : Instr} → mark_of (row_of i) ≡ stands_alone → Stands i

stands : (i : Instr) → Stands i
stands (instr.Block t) = begins_a_block t
stands (instr.Loop t) = begins_a_loop t
stands (instr.If t) = begins_an_if t
stands instr.Else = is_else
stands instr.End = is_end
stands i = is_alone refl

one_more : {i : Instr} → Stands i → (cut : Cut) (is : List Instr) → nests is ≡ cut → Describes cut is → Describes (in_front i (mark_of (row_of i)) cut) (i ∷ is)
one_more (begins_a_block t) cut is e d = opened (block t) (instr.Block t ∷ []) (λ body rest l p. (l, refl, p)) cut is d
one_more (begins_a_loop t) cut is e d = opened (loop t) (instr.Loop t ∷ []) (λ body rest l p. (l, refl, p)) cut is d
one_more (begins_an_if t) cut is e d = chosen t cut is d
one_more is_else cut is e d = (record { body = []; rest = is; parts = refl; written = refl; nested = e }, d)
one_more is_end cut is e d = (record { body = []; rest = is; parts = refl; written = refl; nested = e }, d)
one_more (is_alone {i} m) cut is e d = subst (λ (k : Mark). Describes (in_front i k cut) (i ∷ is)) (sym m) (put_before (simple i) (i ∷ []) (λ c l w. (m, l, refl, w)) cut is d)

described : (is : List Instr) → Describes (nests is) is
unfolding nests
described [] = refl
described (i ∷ is) = one_more (stands i) (nests is) is refl (described is)

described_as : (is : List Instr) (cut : Cut) → nests is ≡ cut → Describes cut is
described_as is cut e = subst (λ (k : Cut). Describes k is) e (described is)

-- ---- the laws

pub cut_at_end : (is : List Instr) (code : Nested) (behind : Cut) → (nests is ≡ ended code behind) ↔ CutAt instr.End code behind is
cut_at_end is code behind = (
  λ e. let d : Describes (ended code behind) is = described_as is (ended code behind) e in d.0,
  λ x. ap nests x.parts ∙ written_ends code x.body x.rest x.written ∙ ap (ended code) x.nested,
)

pub cut_at_else : (is : List Instr) (code : Nested) (behind : Cut) → (nests is ≡ parted code behind) ↔ CutAt instr.Else code behind is
cut_at_else is code behind = (
  λ e. let d : Describes (parted code behind) is = described_as is (parted code behind) e in d.0,
  λ x. ap nests x.parts ∙ to_else code x.body x.rest (written_nests code x.body (instr.Else ∷ x.rest) x.written) ∙ ap (parted code) x.nested,
)

written_whole : (code : Nested) (is : List Instr) → Writes code is → nests is ≡ whole code
unfolding nests
written_whole code is w = ap nests (sym (append-nil is)) ∙ written_nests code is [] w ∙ ap whole (follow_nothing code)

pub uncut : (is : List Instr) (code : Nested) → (nests is ≡ whole code) ↔ Writes code is
uncut is code = (described_as is (whole code), written_whole code is)

-- what nests as nothing is nothing
pub nothing_left : (rest : List Instr) → nests rest ≡ whole nothing → rest ≡ []
nothing_left rest e = described_as rest (whole nothing) e

pub bodies : (is : List Instr) (code : Nested) → NestsAs is code ↔ ((body : List Instr) × (is ≡ body ++ instr.End ∷ []) × Writes code body)
bodies is code = (
  λ e. let x : CutAt instr.End code (whole nothing) is = (cut_at_end is code (whole nothing)).0 e in
      (x.body, x.parts ∙ ap (λ (l : List Instr). x.body ++ instr.End ∷ l) (nothing_left x.rest x.nested), x.written),
  λ x. ap nests x.1 ∙ written_ends code x.0 [] x.2 ∙ ap (ended code) (written_whole nothing [] refl),
)

pub one_nesting : (is : List Instr) (c d : Nested) → NestsAs is c → NestsAs is d → c ≡ d
one_nesting is c d e f = let g : ended c (whole nothing) ≡ ended d (whole nothing) = sym e ∙ f in cc

pub one_writer : (is : List Instr) (c d : Nested) → Writes c is → Writes d is → c ≡ d
one_writer is c d w v = let g : whole c ≡ whole d = sym (written_whole c is w) ∙ written_whole d is v in cc
