-- All acts, and what has passed after them.
use Rattle.std.proofs.Common.{◌≡◌, ◌≤◌, ℕ, zero, suc, List, [], ◌∷◌, ◌++◌, length, ap, ◌∙◌, sym, refl, subst, arith}
use Rattle.std.specs.Prelude.{Option, None, Some, drop, if◌then◌else◌}
use Rattle.std.proofs.lemmas.List.{append_assoc, append-nil}
use Rattle.contexts.specs.declared.parts.Contexts.{Contexts}
use Rattle.filter_chain.specs.declared.stage.Stage.{Stage}
use Rattle.filter_chain.specs.declared.item.Ask.{Ask}
use Rattle.filter_chain.specs.declared.item.AskKind.{AskKind}
use Rattle.filter_chain.specs.declared.item.AskKind.TheVariants as kinds
use Rattle.filter_chain.specs.declared.item.ChainItem.{ChainItem}
use Rattle.filter_chain.specs.Items.{item_bytes, holds_bytes}
use Rattle.filter_chain.specs.Flow.{flow}
use Rattle.law_chain.specs.Acts.{Act, Standing, done_by, left_by, item_in, items_put, buffer_due, is_body, where_one, buffer_at, stands_after, pending_for, bytes_pending, behind, AreActs}
use Rattle.law_chain.specs.PassThrough.{bare_all, bare_held, bare_in, Thinner, IsInOrder, AreIdle, IsNew, PassesThrough}
use Rattle.law_chain.specs.Sound.{AreOpen, IsCut, AreCalm, CalmFor, CalmWhile, AreClean, IsSound}
use Rattle.law_chain.specs.Laws.{sources, BodiesPassThrough}
use Rattle.law_chain.proofs.Cuts.{joined_more}
use Rattle.law_chain.proofs.Order.{ends_more, thin_here, thin_same, thin_both, thin_then, last_thin, last_in, last_left, ends_behind}
use Rattle.law_chain.proofs.Calm.{flow_none, none_busy}
use Rattle.law_chain.proofs.Steps.{source, Stepped, steps}

-- ---- all acts

sources_none : (n : ℕ) (w : Standing) → sources n [] w ≡ []
sources_none zero w = refl
sources_none (suc k) w = refl

sources_more : (n : ℕ) (act : Act) (acts : List Act) (w : Standing) → sources n (act ∷ acts) w ≡ source n act w ++ sources n acts (done_by act w).1
sources_more zero act acts w = joined_more (item_in act) (items_put acts)
sources_more (suc k) act acts w = refl

pub record Went (n : ℕ) (acts : List Act) (w : Standing) : Type 0 where
  pub keeps : IsSound n (stands_after acts w)
  pub bytes : item_bytes (left_by acts w) ++ behind n (stands_after acts w) ≡ behind n w ++ sources n acts w
  pub thin : Thinner (bare_in w.stages ++ bare_all (items_put acts)) (bare_all (left_by acts w) ++ bare_in (stands_after acts w).stages)

pub went : (n : ℕ) (acts : List Act) (w : Standing) → IsSound n w → AreActs n acts w → Went n acts w
went n [] w keeps are = record {
  keeps = keeps;
  bytes = sym (ap (λ (l : List ℕ). behind n w ++ l) (sources_none n w) ∙ append-nil (behind n w));
  thin = thin_same (bare_in w.stages ++ []) (bare_in w.stages) (append-nil (bare_in w.stages));
}
went n (act ∷ acts) w keeps are =
    let r : List ChainItem × Standing = done_by act w in
    let one : Stepped n w (item_in act) (source n act w) r = steps n act w keeps are.0 in
    let all : Went n acts r.1 = went n acts r.1 one.keeps are.1 in
    let last : Standing = stands_after acts r.1 in
    let later : List ChainItem = left_by acts r.1 in
    let first : Thinner (bare_in w.stages ++ bare_all (item_in act ++ items_put acts)) ((bare_all r.0 ++ bare_in r.1.stages) ++ bare_all (items_put acts))
    = subst (λ (l : List ChainItem). Thinner l ((bare_all r.0 ++ bare_in r.1.stages) ++ bare_all (items_put acts)))
    (append_assoc (bare_in w.stages) (bare_all (item_in act)) (bare_all (items_put acts)) ∙ ap (λ (l : List ChainItem). bare_in w.stages ++ l) (sym (ends_more (item_in act) (items_put acts))))
    (thin_both one.thin (thin_here (bare_all (items_put acts)))) in
    let second : Thinner (bare_all r.0 ++ (bare_in r.1.stages ++ bare_all (items_put acts))) (bare_all r.0 ++ (bare_all later ++ bare_in last.stages)) = thin_both (thin_here (bare_all r.0)) all.thin in
    record {
      keeps = all.keeps;
      bytes =
          ap (λ (l : List ℕ). l ++ behind n last) (joined_more r.0 later)
          ∙ (append_assoc (item_bytes r.0) (item_bytes later) (behind n last)
          ∙ (ap (λ (l : List ℕ). item_bytes r.0 ++ l) all.bytes
          ∙ (sym (append_assoc (item_bytes r.0) (behind n r.1) (sources n acts r.1))
          ∙ (ap (λ (l : List ℕ). l ++ sources n acts r.1) one.bytes
          ∙ (append_assoc (behind n w) (source n act w) (sources n acts r.1) ∙ ap (λ (l : List ℕ). behind n w ++ l) (sym (sources_more n act acts w)))))));
      thin =
          thin_then first
          (subst (λ (l : List ChainItem). Thinner l (bare_all (r.0 ++ later) ++ bare_in last.stages)) (sym (append_assoc (bare_all r.0) (bare_in r.1.stages) (bare_all (items_put acts))))
          (subst (Thinner (bare_all r.0 ++ (bare_in r.1.stages ++ bare_all (items_put acts))))
          (sym (append_assoc (bare_all r.0) (bare_all later) (bare_in last.stages)) ∙ ap (λ (l : List ChainItem). l ++ bare_in last.stages) (sym (ends_more r.0 later)))
          second));
    }

-- ---- of a direction through which nothing passed yet

idle_flow : (h : Contexts) (ss : List Stage) → AreIdle h ss → flow h ss ≡ []
idle_flow h [] idle = refl
idle_flow h (s ∷ ss) idle = λ i. idle_flow h ss idle.1 i ++ (idle.0.empty i ++ item_bytes (idle.0.waiting i))

idle_behind : (n : ℕ) (h : Contexts) (ss : List Stage) → AreIdle h ss → flow h (drop n ss) ≡ []
idle_behind zero h ss idle = idle_flow h ss idle
idle_behind (suc n) h [] idle = refl
idle_behind (suc n) h (s ∷ ss) idle = idle_behind n h ss idle.1

pub idle_ends : (h : Contexts) (ss : List Stage) → AreIdle h ss → bare_in ss ≡ []
idle_ends h [] idle = refl
idle_ends h (s ∷ ss) idle = λ i. idle_ends h ss idle.1 i ++ (bare_held (idle.0.holding i) ++ bare_all (idle.0.waiting i))

idle_calm : (h : Contexts) (ss : List Stage) → AreIdle h ss → AreCalm ss
idle_calm h [] idle = tt
idle_calm h (s ∷ ss) idle = (ap holds_bytes idle.0.holding, idle_calm h ss idle.1)

idle_open : (h : Contexts) (ss : List Stage) → AreIdle h ss → AreOpen ss
idle_open h [] idle = tt
idle_open h (s ∷ ss) idle = (λ passes. record { waiting = idle.0.waiting; holding = idle.0.holding }, idle_open h ss idle.1)

idle_cut : (n : ℕ) (h : Contexts) (ss : List Stage) → AreIdle h ss → n ≤ length ss → IsCut n ss
idle_cut zero h ss idle within = tt
idle_cut (suc n) h [] idle within = absurd (omega (arith, within))
idle_cut (suc zero) h (s ∷ ss) idle within = idle.0.asking
idle_cut (suc (suc n)) h (s ∷ ss) idle within = idle_cut (suc n) h ss idle.1 (omega (arith, within))

idle_clean : (n : ℕ) (h : Contexts) (ss : List Stage) → AreIdle h ss → AreClean h (drop n ss)
idle_clean zero h [] idle = tt
idle_clean zero h (s ∷ ss) idle = (λ _. idle.0.empty, idle_clean zero h ss idle.1)
idle_clean (suc n) h [] idle = tt
idle_clean (suc n) h (s ∷ ss) idle = idle_clean n h ss idle.1

pub new_keeps : (n : ℕ) (w : Standing) → IsNew w → n ≤ length w.stages → IsSound n w
new_keeps n w new within = record {
  apart = new.apart;
  there = new.there;
  open_ = idle_open w.contexts w.stages new.idle;
  calm = subst (λ (o : Option Ask). CalmWhile o w.stages) (sym new.due) (idle_calm w.contexts w.stages new.idle);
  clean = idle_clean n w.contexts w.stages new.idle;
  cut = idle_cut n w.contexts w.stages new.idle within;
}

new_pending : (n : ℕ) (w : Standing) → w.due ≡ None → bytes_pending n w ≡ []
new_pending zero w due = refl
new_pending (suc k) w due = ap (pending_for k w.contexts w.stages) due

new_behind : (n : ℕ) (w : Standing) → IsNew w → behind n w ≡ []
new_behind n w new = λ i. idle_behind n w.contexts w.stages new.idle i ++ new_pending n w new.due i

-- ---- once the end has left, nothing is after the cut

none_pending : (n : ℕ) (w : Standing) → bare_in w.stages ≡ [] → CalmWhile w.due w.stages → bytes_pending n w ≡ []
none_pending zero w is calm = refl
none_pending (suc k) w is calm = by_due w.due calm
  where
    by_kind : (ask : Ask) (kind : AskKind) → ask.kind ≡ kind → CalmFor kind ask.stage w.stages → buffer_due k w.contexts w.stages ask ≡ []
    by_kind ask kinds.Head kind calm_here = ap (λ (a : AskKind). if is_body a then where_one k ask.stage (buffer_at w.contexts w.stages k) else []) kind
    by_kind ask kinds.Piece kind calm_here = absurd (none_busy ask.stage w.stages is calm_here)
    by_kind ask kinds.Trailers kind calm_here = ap (λ (a : AskKind). if is_body a then where_one k ask.stage (buffer_at w.contexts w.stages k) else []) kind

    by_due : (o : Option Ask) → CalmWhile o w.stages → pending_for k w.contexts w.stages o ≡ []
    by_due None calm_here = refl
    by_due (Some ask) calm_here = by_kind ask ask.kind refl calm_here

none_behind : (n : ℕ) (w : Standing) → IsSound n w → bare_in w.stages ≡ [] → behind n w ≡ []
none_behind n w keeps is = λ i. flow_none w.contexts (drop n w.stages) (ends_behind n w.stages is) keeps.clean i ++ none_pending n w is keeps.calm i

-- ---- THE LAW

passes : (n : ℕ) (w : Standing) (acts : List Act) → IsNew w → n ≤ length w.stages → AreActs n acts w → IsInOrder (items_put acts)
    → PassesThrough (items_put acts) (sources n acts w) (left_by acts w) (behind n (stands_after acts w)) (stands_after acts w).stages
passes n w acts new within are order =
    let all : Went n acts w = went n acts w (new_keeps n w new within) are in
    let last : Standing = stands_after acts w in
    let bytes : item_bytes (left_by acts w) ++ behind n last ≡ sources n acts w = all.bytes ∙ ap (λ (l : List ℕ). l ++ sources n acts w) (new_behind n w new) in
    let thin : Thinner (bare_all (items_put acts)) (bare_all (left_by acts w) ++ bare_in last.stages)
    = subst (λ (l : List ChainItem). Thinner (l ++ bare_all (items_put acts)) (bare_all (left_by acts w) ++ bare_in last.stages)) (idle_ends w.contexts w.stages new.idle) all.thin in
    let in_order : IsInOrder (bare_all (left_by acts w) ++ bare_in last.stages) = last_thin thin (last_in (items_put acts) order) in
    record {
      bytes = bytes;
      order = thin;
      all = λ ended.
          let gone : bare_in last.stages ≡ [] = last_left (left_by acts w) (bare_in last.stages) in_order ended in (
            sym (append-nil (item_bytes (left_by acts w))) ∙ (ap (λ (l : List ℕ). item_bytes (left_by acts w) ++ l) (sym (none_behind n last all.keeps gone)) ∙ bytes),
            subst (Thinner (bare_all (items_put acts))) (ap (λ (l : List ChainItem). bare_all (left_by acts w) ++ l) gone ∙ append-nil (bare_all (left_by acts w))) thin,
            gone,
          );
    }

pub bodies_pass : BodiesPassThrough
bodies_pass = record {
  last_stage = λ k w acts new within are order. passes (suc k) w acts new (omega arith) are order;
  unchanged = λ w acts new are order. passes 0 w acts new (omega arith) are order;
  goes_on = λ n w acts sound are.
      let all : Went n acts w = went n acts w sound are in
      record { bytes = all.bytes; order = all.thin; sound = all.keeps };
}
