-- All acts, and what each stage was asked after them.
use Rattle.std.proofs.Common.{◌≡◌, ◌<◌, ℕ, zero, suc, Bool, true, false, ◌||◌, List, [], ◌∷◌, ◌++◌, length, ap, ◌∙◌, sym, refl, subst, arith}
use Rattle.std.specs.Prelude.{slice_set, drop}
use Rattle.std.proofs.lemmas.List.{append-nil}
use Rattle.filter_chain.specs.declared.stage.Stage.{Stage}
use Rattle.filter_chain.specs.declared.item.ChainItem.{ChainItem}
use Rattle.filter_chain.specs.declared.item.ChainItem.TheVariants.{Piece}
use Rattle.filter_chain.specs.Chains.{without_hold, bypassed_stage}
use Rattle.law_chain.specs.Acts.{Act, Standing, done_by, left_by, item_in, items_put, stands_after}
use Rattle.law_chain.specs.PassThrough.{bare_all, bare_held, bare_in}
use Rattle.law_chain.specs.Sound.{AreOpen, IsCut}
use Rattle.law_chain.proofs.Targets.{comes_in, goes_in}
use Rattle.law_chain.proofs.Open.{open_at, open_comes, open_goes, open_set, stays_comes, stays_goes, stays_set}
use Rattle.law_chain.proofs.Order.{ends_more}
use Rattle.law_asked.specs.Asked.{all_of, where_same, asked_by, asked_of, gone_by, gone_of, IsKept, AreKept, Gathered, none, keeps, joins, drops, ComeOf, AreUnused}
use Rattle.law_asked.specs.Laws.{IsAsked, EachIsAsked, is_head, has_head, HeadsAreAsked}
use Rattle.law_asked.proofs.Gathering.{gather_here, gather_same, gather_both, gather_at, gather_steps, where_apart}
use Rattle.law_asked.proofs.Inside.{fore, held_in, holds_come, holds_go, fore_comes, fore_goes, fore_asks, holds_asks}
use Rattle.law_asked.proofs.Seen.{Tag, came_by, gone_with, asked_with, Seen, seen_still, seen_lost, seen_came, seen_goes, seen_opens, seen_asks, did}
use Rattle.law_asked.proofs.Beyond.{exit, stage_at, place, outs, lets_thin, seen_behind, exit_outs, stage_outs}

-- ---- what stays

open_seen : {kept : ℕ → Type 0} {ss : List Stage} {tag : Tag} {left : List ChainItem} {after : List Stage} → Seen kept ss tag left after → AreOpen ss → AreOpen after
open_seen seen_still all = all
open_seen (seen_lost end) all = all
open_seen {kept} {ss} (seen_came items) all = open_comes items ss all
open_seen {kept} {ss} (seen_goes j s items at thin) all = open_goes items ss j (without_hold s) (λ passes. record { waiting = (open_at ss j s at all passes).waiting; holding = refl }) all
open_seen {kept} {ss} (seen_opens j s items at thin apart) all = open_goes items ss j (bypassed_stage s) (λ passes. record { waiting = refl; holding = refl }) all
open_seen {kept} {ss} (seen_asks j s t told at asked) all =
    open_set ss j t (λ passes. absurd (waits (sym asked.waits ∙ (open_at ss j s at all (sym asked.passes ∙ passes)).waiting))) all
  where
    waits : asked.item ∷ asked.later ≡ [] → ⊥
    waits is = cc is

cut_seen : (k : ℕ) {kept : ℕ → Type 0} {ss : List Stage} {tag : Tag} {left : List ChainItem} {after : List Stage} → Seen kept ss tag left after → kept k → IsCut (suc k) ss → IsCut (suc k) after
cut_seen k seen_still here cut = cut
cut_seen k (seen_lost end) here cut = cut
cut_seen k {kept} {ss} (seen_came items) here cut = stays_comes (suc k) items ss cut
cut_seen k {kept} {ss} (seen_goes j s items at thin) here cut = stays_goes (suc k) items ss j s (without_hold s) at (λ _ is. is) cut
cut_seen k {kept} {ss} (seen_opens j s items at thin apart) here cut = stays_goes (suc k) items ss j s (bypassed_stage s) at (λ same _. absurd (apart k here (one same))) cut
  where
    one : suc j ≡ suc k → j ≡ k
    one same = cc same
cut_seen k {kept} {ss} (seen_asks j s t told at asked) here cut = stays_set (suc k) ss j s t at (λ is. asked.passes ∙ is) cut

-- ---- what one act does

holds_seen : (k : ℕ) {kept : ℕ → Type 0} {ss : List Stage} {tag : Tag} {left : List ChainItem} {after : List Stage} → Seen kept ss tag left after → kept k
    → Gathered (held_in k ss ++ asked_with k tag) (gone_with k tag ++ held_in k after)
holds_seen k {kept} {ss} seen_still here = gather_same (held_in k ss ++ []) (held_in k ss) (append-nil (held_in k ss))
holds_seen k {kept} {ss} (seen_lost end) here = gather_same (held_in k ss ++ []) (held_in k ss) (append-nil (held_in k ss))
holds_seen k {kept} {ss} (seen_came items) here =
    gather_same (held_in k ss ++ []) (held_in k (comes_in items ss).1) (append-nil (held_in k ss) ∙ sym (holds_come k items ss))
holds_seen k {kept} {ss} (seen_goes j s items at thin) here =
    gather_same (held_in k ss ++ []) (where_same k j (bare_held s.held) ++ held_in k (goes_in j (without_hold s) items ss).1)
    (append-nil (held_in k ss) ∙ holds_go k items ss j s (without_hold s) at refl)
holds_seen k {kept} {ss} (seen_opens j s items at thin apart) here =
    gather_same (held_in k ss ++ []) (held_in k (goes_in j (bypassed_stage s) items ss).1)
    (append-nil (held_in k ss)
    ∙ (holds_go k items ss j s (bypassed_stage s) at refl
    ∙ ap (λ (l : List ChainItem). l ++ held_in k (goes_in j (bypassed_stage s) items ss).1) (none_there k j (bare_held s.held) (apart k here))))
  where
    none_there : (k j : ℕ) (l : List ChainItem) → (j ≡ k → ⊥) → where_same k j l ≡ []
    none_there k j l apart = where_apart k j l apart
holds_seen k {kept} {ss} (seen_asks j s t told at asked) here = holds_asks asked k ss j at

fore_seen : (k : ℕ) {kept : ℕ → Type 0} {ss : List Stage} {tag : Tag} {left : List ChainItem} {after : List Stage} → Seen kept ss tag left after → kept k → AreOpen ss → IsCut (suc k) ss
    → Gathered (fore k ss ++ came_by tag) (asked_with k tag ++ fore k after)
fore_seen k {kept} {ss} seen_still here all cut = gather_same (fore k ss ++ []) (fore k ss) (append-nil (fore k ss))
fore_seen k {kept} {ss} (seen_lost end) here all cut =
    gather_at (fore k ss ++ Piece [] end ∷ []) (fore k ss ++ Piece [] end ∷ []) (fore k ss) (fore k ss ++ []) refl (sym (append-nil (fore k ss)))
    (gather_both (gather_here (fore k ss)) (drops none))
fore_seen k {kept} {ss} (seen_came items) here all cut = fore_comes k items ss all cut
fore_seen k {kept} {ss} (seen_goes j s items at thin) here all cut =
    let g : List ChainItem = fore k (goes_in j (without_hold s) items ss).1 in
    gather_at (fore k ss ++ []) (fore k ss) g g (append-nil (fore k ss)) refl (fore_goes k items ss j s (without_hold s) at all cut (λ _. refl) (lets_thin s items thin))
fore_seen k {kept} {ss} (seen_opens j s items at thin apart) here all cut =
    let g : List ChainItem = fore k (goes_in j (bypassed_stage s) items ss).1 in
    gather_at (fore k ss ++ []) (fore k ss) g g (append-nil (fore k ss)) refl (fore_goes k items ss j s (bypassed_stage s) at all cut (λ same. absurd (apart k here same)) thin)
fore_seen k {kept} {ss} (seen_asks j s t told at asked) here all cut =
    let g : List ChainItem = where_same k j (told ∷ []) ++ fore k (slice_set ss j t) in
    gather_at (fore k ss ++ []) (fore k ss) g g (append-nil (fore k ss)) refl (fore_asks asked k ss j at)

-- ---- all acts

-- What holds of the stages stays, and what is inside, with what comes in by an act, is what goes out by it and what is inside then.
pub record Flows : Type 1 where
  pub inside : List Stage → List ChainItem
  pub ins : Act → Standing → List ChainItem
  pub outs : Act → Standing → List ChainItem
  pub Holds : List Stage → Type 0
  pub May : Act → Type 0
  pub stays : (act : Act) (w : Standing) → May act → Holds w.stages → Holds (done_by act w).1.stages
  pub flows : (act : Act) (w : Standing) → May act → Holds w.stages → Gathered (inside w.stages ++ ins act w) (outs act w ++ inside (done_by act w).1.stages)

abbrev pub AllMay : Flows → List Act → Type 0
AllMay f [] = Unit {0}
AllMay f (act ∷ acts) = f.May act × AllMay f acts

pub flow_all : (f : Flows) (acts : List Act) (w : Standing) → AllMay f acts → f.Holds w.stages
    → Gathered (f.inside w.stages ++ all_of f.ins acts w) (all_of f.outs acts w ++ f.inside (stands_after acts w).stages)
flow_all f [] w may holds = gather_same (f.inside w.stages ++ []) (f.inside w.stages) (append-nil (f.inside w.stages))
flow_all f (act ∷ acts) w may holds =
    let next : Standing = (done_by act w).1 in
    gather_steps (f.inside w.stages) (f.ins act w) (all_of f.ins acts next) (f.inside next.stages) (f.outs act w) (all_of f.outs acts next) (f.inside (stands_after acts next).stages)
    (f.flows act w may.0 holds) (flow_all f acts next may.1 (f.stays act w may.0 holds))

-- no stage may be let through but others
pub record Sure (k : ℕ) (ss : List Stage) : Type 0 where
  pub all : AreOpen ss
  pub cut : IsCut (suc k) ss

sure_stays : (k : ℕ) (act : Act) (w : Standing) → IsKept k act → Sure k w.stages → Sure k (done_by act w).1.stages
sure_stays k act w kept sure =
    let d = did act w in
    record { all = open_seen d.seen sure.all; cut = cut_seen k d.seen kept sure.cut }

abbrev came_of : Act → Standing → List ChainItem
came_of act w = bare_all (item_in act)

abbrev coming : ℕ → Flows
coming k = record {
  inside = fore k;
  ins = came_of;
  outs = asked_by k;
  Holds = Sure k;
  May = IsKept k;
  stays = sure_stays k;
  flows = λ act w kept sure.
      let d = did act w in
      gather_at (fore k w.stages ++ bare_all (item_in act)) (fore k w.stages ++ came_by d.tag) (asked_by k act w ++ fore k (done_by act w).1.stages)
      (asked_with k d.tag ++ fore k (done_by act w).1.stages) (ap (λ (l : List ChainItem). fore k w.stages ++ l) d.comes_is)
      (ap (λ (l : List ChainItem). l ++ fore k (done_by act w).1.stages) (d.asked_is k)) (fore_seen k d.seen kept sure.all sure.cut);
}

abbrev holding : ℕ → Flows
holding k = record {
  inside = held_in k;
  ins = asked_by k;
  outs = gone_by k;
  Holds = Sure k;
  May = IsKept k;
  stays = sure_stays k;
  flows = λ act w kept sure.
      let d = did act w in
      gather_at (held_in k w.stages ++ asked_by k act w) (held_in k w.stages ++ asked_with k d.tag) (gone_by k act w ++ held_in k (done_by act w).1.stages)
      (gone_with k d.tag ++ held_in k (done_by act w).1.stages) (ap (λ (l : List ChainItem). held_in k w.stages ++ l) (d.asked_is k))
      (ap (λ (l : List ChainItem). l ++ held_in k (done_by act w).1.stages) (d.gone_is k)) (holds_seen k d.seen kept);
}

abbrev left_of : Act → Standing → List ChainItem
left_of act w = bare_all (done_by act w).0

abbrev leaving : ℕ → Flows
leaving k = record {
  inside = λ ss. bare_in (drop (suc k) ss);
  ins = gone_by k;
  outs = left_of;
  Holds = Sure k;
  May = IsKept k;
  stays = sure_stays k;
  flows = λ act w kept sure.
      let d = did act w in
      let after : List ChainItem = bare_in (drop (suc k) (done_by act w).1.stages) in
      gather_at (bare_in (drop (suc k) w.stages) ++ gone_by k act w) (bare_in (drop (suc k) w.stages) ++ gone_with k d.tag) (bare_all (done_by act w).0 ++ after)
      (outs exit k d.tag (bare_all (done_by act w).0) ++ after) (ap (λ (l : List ChainItem). bare_in (drop (suc k) w.stages) ++ l) (d.gone_is k))
      (ap (λ (l : List ChainItem). l ++ after) (sym (exit_outs k d.seen))) (seen_behind exit k d.seen kept (λ i is. absurd is) sure.all sure.cut tt);
}

pub record Both (k m : ℕ) (ss : List Stage) : Type 0 where
  pub first : Sure k ss
  pub second : Sure (place k m) ss

cut_behind : (k m : ℕ) (ss : List Stage) → IsCut (suc (place k m)) ss → IsCut (suc m) (drop (suc k) ss)
cut_behind zero m [] cut = absurd cut
cut_behind zero m (s ∷ ss) cut = cut
cut_behind (suc k) m [] cut = absurd cut
cut_behind (suc k) m (s ∷ ss) cut = cut_behind k m ss cut

abbrev passing : ℕ → ℕ → Flows
passing k m = record {
  inside = λ ss. fore m (drop (suc k) ss);
  ins = gone_by k;
  outs = asked_by (place k m);
  Holds = Both k m;
  May = λ act. IsKept k act × IsKept (place k m) act;
  stays = λ act w kept both. record { first = sure_stays k act w kept.0 both.first; second = sure_stays (place k m) act w kept.1 both.second };
  flows = λ act w kept both.
      let d = did act w in
      let after : List ChainItem = fore m (drop (suc k) (done_by act w).1.stages) in
      gather_at (fore m (drop (suc k) w.stages) ++ gone_by k act w) (fore m (drop (suc k) w.stages) ++ gone_with k d.tag) (asked_by (place k m) act w ++ after)
      (outs (stage_at m) k d.tag (bare_all (done_by act w).0) ++ after) (ap (λ (l : List ChainItem). fore m (drop (suc k) w.stages) ++ l) (d.gone_is k))
      (ap (λ (l : List ChainItem). l ++ after) (d.asked_is (place k m) ∙ sym (stage_outs m k d.tag (bare_all (done_by act w).0))))
      (seen_behind (stage_at m) k d.seen kept.0 (λ i is. subst (λ (j : ℕ). IsKept (place k j) act) (sym is) kept.1) both.first.all both.first.cut (cut_behind k m w.stages both.second.cut));
}

-- ---- a chain through which nothing passed yet

fore_none : (k : ℕ) (ss : List Stage) → AreUnused ss → fore k ss ≡ []
fore_none k [] new = refl
fore_none zero (s ∷ ss) new = ap bare_all new.0.waiting
fore_none (suc k) (s ∷ ss) new = (λ i. fore k ss ++ (bare_held (new.0.holding i) ++ bare_all (new.0.waiting i))) ∙ (append-nil (fore k ss) ∙ fore_none k ss new.1)

held_none : (k : ℕ) (ss : List Stage) → AreUnused ss → held_in k ss ≡ []
held_none k [] new = refl
held_none zero (s ∷ ss) new = ap bare_held new.0.holding
held_none (suc k) (s ∷ ss) new = held_none k ss new.1

in_none : (ss : List Stage) → AreUnused ss → bare_in ss ≡ []
in_none [] new = refl
in_none (s ∷ ss) new = (λ i. bare_in ss ++ (bare_held (new.0.holding i) ++ bare_all (new.0.waiting i))) ∙ (append-nil (bare_in ss) ∙ in_none ss new.1)

new_behind : (n : ℕ) (ss : List Stage) → AreUnused ss → AreUnused (drop n ss)
new_behind zero ss new = new
new_behind (suc n) [] new = tt
new_behind (suc n) (s ∷ ss) new = new_behind n ss new.1

new_open : (ss : List Stage) → AreUnused ss → AreOpen ss
new_open [] new = tt
new_open (s ∷ ss) new = (λ passes. absurd (cc (passes, new.0.asking)), new_open ss new.1)

new_cut : (k : ℕ) (ss : List Stage) → AreUnused ss → k < length ss → IsCut (suc k) ss
new_cut k [] new less = absurd (omega (arith, less))
new_cut zero (s ∷ ss) new less = new.0.asking
new_cut (suc k) (s ∷ ss) new less = new_cut k ss new.1 (omega (arith, less))

new_sure : (k : ℕ) (ss : List Stage) → AreUnused ss → k < length ss → Sure k ss
new_sure k ss new less = record { all = new_open ss new; cut = new_cut k ss new less }

-- ---- the laws

came_all : (acts : List Act) (w : Standing) → all_of came_of acts w ≡ bare_all (items_put acts)
came_all [] w = refl
came_all (act ∷ acts) w = ap (λ (l : List ChainItem). bare_all (item_in act) ++ l) (came_all acts (done_by act w).1) ∙ sym (ends_more (item_in act) (items_put acts))

left_all : (acts : List Act) (w : Standing) → all_of left_of acts w ≡ bare_all (left_by acts w)
left_all [] w = refl
left_all (act ∷ acts) w =
    ap (λ (l : List ChainItem). bare_all (done_by act w).0 ++ l) (left_all acts (done_by act w).1) ∙ sym (ends_more (done_by act w).0 (left_by acts (done_by act w).1))

may_come : (k : ℕ) (acts : List Act) → AreKept k acts → AllMay (coming k) acts
may_come k [] kept = tt
may_come k (act ∷ acts) kept = (kept.0, may_come k acts kept.1)

may_hold : (k : ℕ) (acts : List Act) → AreKept k acts → AllMay (holding k) acts
may_hold k [] kept = tt
may_hold k (act ∷ acts) kept = (kept.0, may_hold k acts kept.1)

may_leave : (k : ℕ) (acts : List Act) → AreKept k acts → AllMay (leaving k) acts
may_leave k [] kept = tt
may_leave k (act ∷ acts) kept = (kept.0, may_leave k acts kept.1)

may_pass : (k m : ℕ) (acts : List Act) → AreKept k acts → AreKept (place k m) acts → AllMay (passing k m) acts
may_pass k m [] kept there = tt
may_pass k m (act ∷ acts) kept there = ((kept.0, there.0), may_pass k m acts kept.1 there.1)

-- from a chain with nothing inside
from_none : {a b : List ChainItem} (c d : List ChainItem) → a ≡ [] → Gathered (a ++ b) (c ++ d) → ComeOf c b
from_none {a} {b} c d nothing q = (d, subst (λ (l : List ChainItem). Gathered (l ++ b) (c ++ d)) nothing q)

far : (k j : ℕ) → k < j → (m : ℕ) × (j ≡ place k m)
far zero zero less = absurd (omega (arith, less))
far zero (suc j) less = (j, refl)
far (suc k) zero less = absurd (omega (arith, less))
far (suc k) (suc j) less =
    let rest = far k j (omega (arith, less)) in
    (rest.0, ap suc rest.1)

pub each_is_asked : EachIsAsked
each_is_asked w acts k new less kept =
    let sure : Sure k w.stages = new_sure k w.stages new less in
    let after : List Stage = (stands_after acts w).stages in
    record {
      comes = subst (ComeOf (asked_of k acts w)) (came_all acts w)
          (from_none (asked_of k acts w) (fore k after) (fore_none k w.stages new) (flow_all (coming k) acts w (may_come k acts kept) sure));
      goes_on = from_none (gone_of k acts w) (held_in k after) (held_none k w.stages new) (flow_all (holding k) acts w (may_hold k acts kept) sure);
      leaves = subst (λ (l : List ChainItem). ComeOf l (gone_of k acts w)) (left_all acts w)
          (from_none (all_of left_of acts w) (bare_in (drop (suc k) after)) (in_none (drop (suc k) w.stages) (new_behind (suc k) w.stages new))
          (flow_all (leaving k) acts w (may_leave k acts kept) sure));
      next = λ j more within others. passes_on j (far k j more) within others;
    }
  where
    passes_on : (j : ℕ) → (m : ℕ) × (j ≡ place k m) → j < length w.stages → AreKept j acts → ComeOf (asked_of j acts w) (gone_of k acts w)
    passes_on j (m, is) within others =
        subst (λ (i : ℕ). ComeOf (asked_of i acts w) (gone_of k acts w)) (sym is)
        (from_none (asked_of (place k m) acts w) (fore m (drop (suc k) (stands_after acts w).stages)) (fore_none m (drop (suc k) w.stages) (new_behind (suc k) w.stages new))
        (flow_all (passing k m) acts w (may_pass k m acts kept (subst (λ (i : ℕ). AreKept i acts) is others))
        (record { first = new_sure k w.stages new less; second = new_sure (place k m) w.stages new (subst (λ (i : ℕ). i < length w.stages) is within) })))

-- ---- heads

or_true : (b c d : Bool) → (c ≡ true → d ≡ true) → (b || c) ≡ true → (b || d) ≡ true
or_true true c d more is = refl
or_true false c d more is = more is

pub heads_of : {a b : List ChainItem} → Gathered a b → has_head b ≡ true → has_head a ≡ true
heads_of none is = is
heads_of (keeps {i} {ms} {ns} q) is = or_true (is_head i) (has_head ns) (has_head ms) (heads_of q) is
heads_of (joins q) is = heads_of q is
heads_of (drops q) is = heads_of q is

has_front : (a b : List ChainItem) → has_head a ≡ true → has_head (a ++ b) ≡ true
has_front [] b is = absurd (cc is)
has_front (i ∷ a) b is = or_true (is_head i) (has_head a) (has_head (a ++ b)) (has_front a b) is

pub head_of : (later : List ChainItem) {earlier : List ChainItem} → ComeOf later earlier → has_head later ≡ true → has_head earlier ≡ true
head_of later (rest, q) is = heads_of q (has_front later rest is)

pub heads_are_asked : HeadsAreAsked
heads_are_asked w acts k new less kept =
    let each : IsAsked k acts w = each_is_asked w acts k new less kept in
    record {
      asked = λ is. head_of (gone_of k acts w) each.goes_on (head_of (bare_all (left_by acts w)) each.leaves is);
      let_on = λ is. head_of (bare_all (left_by acts w)) each.leaves is;
      next = λ j more within others is. head_of (asked_of j acts w) (each.next j more within others) is;
    }
