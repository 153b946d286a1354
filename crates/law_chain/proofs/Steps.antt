-- One act: what is after a cut, what left and what passes the cut; and the order of what is in the chain.
use Rattle.std.proofs.Common.{◌≡◌, ◌≤◌, ℕ, zero, suc, ◌+◌, ◌==◌, Bool, true, false, List, [], ◌∷◌, ◌++◌, length, ap, ◌∙◌, sym, refl, subst, arith}
use Rattle.std.specs.Prelude.{Option, None, Some, slice_get, slice_set, drop, if◌then◌else◌}
use Rattle.std.proofs.lemmas.Bool.{eqb-true, eqb-false}
use Rattle.std.proofs.lemmas.List.{append_assoc, append-nil}
use Rattle.contexts.specs.declared.parts.Contexts.{Contexts}
use Rattle.filter_chain.specs.declared.stage.Stage.{Stage}
use Rattle.filter_chain.specs.declared.item.Ask.{Ask}
use Rattle.filter_chain.specs.declared.item.AskKind.{AskKind}
use Rattle.filter_chain.specs.declared.item.AskKind.TheVariants as kinds
use Rattle.filter_chain.specs.declared.item.Asking.{Asking}
use Rattle.filter_chain.specs.declared.item.Asking.TheVariants.{Nothing, Over, Asks}
use Rattle.filter_chain.specs.declared.item.ChainItem.{ChainItem}
use Rattle.filter_chain.specs.declared.item.PassOutcome.{PassOutcome}
use Rattle.filter_chain.specs.declared.item.PassOutcome.TheVariants as passed
use Rattle.filter_chain.specs.Items.{item_bytes, held_items, holds_bytes, size}
use Rattle.filter_chain.specs.Chains.{target, accepts, append_to, hand_over_to, put, asked, bytes_at, bytes_held, without_held, without_hold, unless_over, continued_at, continued, bypassed_stage, let_through_at, let_through}
use Rattle.filter_chain.specs.Flow.{flow, left_in}
use Rattle.law_chain.specs.Acts.{Act, comes, calls, answers, resumes, lets, turns, Standing, put_in, gone_on, unless_at, called, after_return, answered, done_by, item_in, is_body, where_one, buffer_in, buffer_at, buffer_due, buffer_called, buffer_by, pending_for, bytes_pending, behind, HoldSame, AreThere, IsLeft, IsContinue, IsCall, IsAnswer, IsOfAnother, IsAct}
use Rattle.law_chain.specs.PassThrough.{bare_all, bare_in, Thinner, AreApart}
use Rattle.law_chain.specs.Sound.{AreOpen, IsCut, AreCalm, CalmBut, CalmFor, CalmWhile, IsClean, AreClean, IsSound}
use Rattle.law_chain.proofs.Targets.{by_bool, comes_in, goes_in, comes_is, goes_is}
use Rattle.law_chain.proofs.Open.{open_at, open_comes, open_goes, open_set, stays_comes, stays_goes, stays_set}
use Rattle.law_chain.proofs.Alike.{AreSame, same_set, goes_same, comes_same, there_same, apart_same, there_at}
use Rattle.law_chain.proofs.Holding.{HoldBut, hold_drop, hold_at, paused_same, paused_there, gone_but, gone_there, gone_here, gone_bytes}
use Rattle.law_chain.proofs.Cuts.{joined_more, joined_held, cut_set, over, over_apart, into, cut_goes, cut_comes, cut_same}
use Rattle.law_chain.proofs.Order.{thin_same, comes_ends, set_ends, goes_ends, through_ends}
use Rattle.law_chain.proofs.Calm.{calm_at, busy_at, calm_beside, while_comes, calm_goes, beside_goes, answer_goes, clean_same, clean_comes, clean_set, clean_goes}
use Rattle.law_chain.proofs.Asks.{TookFor, took, taken_same, taken_kept, taken_but, taken_clean, taken_calm, taken_ends, taken_passes, taken_waits, held_nothing}

-- what comes to the cut by an act
abbrev pub source : ℕ → Act → Standing → List ℕ
source zero act w = item_bytes (item_in act)
source (suc k) act w = buffer_by k act w

pub record Stepped (n : ℕ) (w : Standing) (items : List ChainItem) (more : List ℕ) (r : List ChainItem × Standing) : Type 0 where
  pub keeps : IsSound n r.1
  pub bytes : item_bytes r.0 ++ behind n r.1 ≡ behind n w ++ more
  pub thin : Thinner (bare_in w.stages ++ bare_all items) (bare_all r.0 ++ bare_in r.1.stages)

-- what left and what is after the cut, with what is pending in front of it
joins : (left after before over_ pend last more : List ℕ) → left ++ after ≡ before ++ over_ → over_ ++ last ≡ pend ++ more → left ++ (after ++ last) ≡ (before ++ pend) ++ more
joins left after before over_ pend last more one two =
    sym (append_assoc left after last)
    ∙ (ap (λ (l : List ℕ). l ++ last) one
    ∙ (append_assoc before over_ last ∙ (ap (λ (l : List ℕ). before ++ l) two ∙ sym (append_assoc before pend more))))

-- ---- buffers of stages that stay

buffer_same : (h : Contexts) (ss ts : List Stage) (j : ℕ) → AreSame ss ts → buffer_at h ts j ≡ buffer_at h ss j
buffer_same h [] [] j same = refl
buffer_same h [] (t ∷ ts) j same = absurd same
buffer_same h (s ∷ ss) [] j same = absurd same
buffer_same h (s ∷ ss) (t ∷ ts) zero same =
    λ i. bytes_at h (record t { vm = same.0.vm i; context = same.0.context i; response = same.0.response i })
buffer_same h (s ∷ ss) (t ∷ ts) (suc j) same = buffer_same h ss ts j same.1

buffer_hold : (b c : Contexts) (ss : List Stage) (j : ℕ) → HoldSame b c ss → buffer_at c ss j ≡ buffer_at b ss j
buffer_hold b c [] j same = refl
buffer_hold b c (s ∷ ss) zero same = same.0
buffer_hold b c (s ∷ ss) (suc j) same = buffer_hold b c ss j same.1

due_same : (k : ℕ) (b c : Contexts) (ss ts : List Stage) (due : Option Ask) → buffer_at c ts k ≡ buffer_at b ss k → pending_for k c ts due ≡ pending_for k b ss due
due_same k b c ss ts None same = refl
due_same k b c ss ts (Some ask) same = ap (λ (l : List ℕ). if is_body ask.kind then where_one k ask.stage l else []) same

-- ---- AN ITEM COMES

handed_is : (h : Contexts) (n : ℕ) (items : List ChainItem) (to : ℕ) (stages changed : List Stage) (o : Option Stage) → IsLeft (hand_over_to h n items to stages changed o).0
    → hand_over_to h n items to stages changed o ≡ append_to to items changed o
handed_is h n items to stages changed None left = refl
handed_is h n items to stages changed (Some s) left = by_room (accepts h n (Some s)) refl
  where
    by_room : (b : Bool) → accepts h n (Some s) ≡ b → hand_over_to h n items to stages changed (Some s) ≡ append_to to items changed (Some s)
    by_room true is = rw is
    by_room false is = absurd (rw is at left)

put_is : (h : Contexts) (item : ChainItem) (ss : List Stage) → IsLeft (put h item ss).0 → put h item ss ≡ comes_in (item ∷ []) ss
put_is h item ss left =
    handed_is h (size (item ∷ [])) (item ∷ []) (target 0 ss) ss ss (slice_get ss (target 0 ss)) left ∙ comes_is (item ∷ []) ss

comes_pending : (n : ℕ) (item : ChainItem) (w : Standing)
    → into n (item_bytes (item ∷ [])) ++ bytes_pending n (put_in w (comes_in (item ∷ []) w.stages)).1 ≡ bytes_pending n w ++ source n (comes item) w
comes_pending zero item w = append-nil (item_bytes (item ∷ []))
comes_pending (suc k) item w =
    due_same k w.contexts w.contexts w.stages (comes_in (item ∷ []) w.stages).1 w.due
    (buffer_same w.contexts w.stages (comes_in (item ∷ []) w.stages).1 k (comes_same (item ∷ []) w.stages))
    ∙ sym (append-nil (pending_for k w.contexts w.stages w.due))

comes_step : (n : ℕ) (item : ChainItem) (w : Standing) → IsSound n w → IsAct n (comes item) w → Stepped n w (item_in (comes item)) (source n (comes item) w) (done_by (comes item) w)
comes_step n item w keeps left =
    let items : List ChainItem = item ∷ [] in
    let r : PassOutcome × List Stage = comes_in items w.stages in
    let same : AreSame w.stages r.1 = comes_same items w.stages in
    subst (λ (p : PassOutcome × List Stage). Stepped n w items (source n (comes item) w) (put_in w p)) (sym (put_is w.contexts item w.stages left))
    (record {
      keeps = record {
        apart = apart_same w.stages r.1 same keeps.apart;
        there = there_same w.contexts w.stages r.1 same keeps.there;
        open_ = open_comes items w.stages keeps.open_;
        calm = while_comes items w.due w.stages keeps.calm;
        clean = clean_comes n w.contexts items w.stages keeps.clean;
        cut = stays_comes n items w.stages keeps.cut;
      };
      bytes = joins (item_bytes (left_in r.0)) (flow w.contexts (drop n r.1)) (flow w.contexts (drop n w.stages)) (into n (item_bytes items)) (bytes_pending n w)
          (bytes_pending n (put_in w r).1) (source n (comes item) w)
          (cut_comes n w.contexts items w.stages keeps.open_ keeps.clean keeps.cut) (comes_pending n item w);
      thin = comes_ends items w.stages keeps.open_;
    })

-- ---- A CALLBACK COMES

calls_pending : (n : ℕ) (after : Contexts) (w : Standing) (ask : Ask) (mid : List Stage) (k : Contexts) → w.due ≡ None → asked w.contexts w.stages ≡ (Asks ask, mid, k)
    → [] ++ bytes_pending n (record { due = Some ask; contexts = after; stages = mid }) ≡ bytes_pending n w ++ source n (calls after) w
calls_pending zero after w ask mid k idle is = refl
calls_pending (suc j) after w ask mid k idle is =
    ap (buffer_called j after) (sym is) ∙ ap (λ (o : Option Ask). pending_for j w.contexts w.stages o ++ buffer_called j after (asked w.contexts w.stages)) (sym idle)

calls_to : (n : ℕ) (after : Contexts) (w : Standing) (r : Asking × List Stage × Contexts) → IsSound n w → w.due ≡ None → asked w.contexts w.stages ≡ r → TookFor w.contexts w.stages r → IsCall n after r
    → Stepped n w [] (source n (calls after) w) (called after w r)
calls_to n after w (Nothing, mid, k) keeps idle is it call = absurd call
calls_to n after w (Over j, mid, k) keeps idle is it call = absurd call
calls_to n after w (Asks ask, mid, k) keeps idle is it call =
    let h : Contexts = w.contexts in
    let ss : List Stage = w.stages in
    let s : Stage = it.old in
    let t : Stage = it.new in
    let all : AreCalm ss = subst (λ (o : Option Ask). CalmWhile o ss) idle keeps.calm in
    let one : holds_bytes s.held ≡ false = calm_at ss ask.stage s it.at all in
    let but : HoldBut h k ask.stage ss = taken_but it.taken ss ask.stage it.at keeps.apart keeps.there in
    let same : AreSame ss mid = subst (AreSame ss) (sym it.mid_is) (same_set ss ask.stage s t it.at (taken_same it.taken)) in
    let clean : AreClean k (drop n mid)
    = subst (λ (l : List Stage). AreClean k (drop n l)) (sym it.mid_is) (clean_set n h k ss ask.stage s t it.at (taken_clean it.taken one) but keeps.clean) in
    let flows : flow k (drop n mid) ≡ flow h (drop n ss)
    = ap (λ (l : List Stage). flow k (drop n l)) it.mid_is ∙ cut_set n h k ss ask.stage s t it.at (taken_kept it.taken (there_at h ss ask.stage s it.at keeps.there)) but in
    record {
      keeps = record {
        apart = apart_same ss mid same keeps.apart;
        there = call.1;
        open_ = subst AreOpen (sym it.mid_is) (open_set ss ask.stage t (λ passes. absurd (taken_waits it.taken (open_at ss ask.stage s it.at keeps.open_ ((taken_passes it.taken) ∙ passes)))) keeps.open_);
        calm = subst (CalmFor ask.kind ask.stage) (sym it.mid_is) (taken_calm it.taken ss ask.stage it.at one all);
        clean = clean_same k after (drop n mid) call.0 clean;
        cut = subst (IsCut n) (sym it.mid_is) (stays_set n ss ask.stage s t it.at (λ is. sym (taken_passes it.taken) ∙ is) keeps.cut);
      };
      bytes = joins [] (flow after (drop n mid)) (flow h (drop n ss)) [] (bytes_pending n w) (bytes_pending n (record { due = Some ask; contexts = after; stages = mid })) (source n (calls after) w)
          (cut_same 0 k after (drop n mid) call.0 ∙ flows ∙ sym (append-nil (flow h (drop n ss)))) (calls_pending n after w ask mid k idle is);
      thin = thin_same (bare_in ss ++ []) (bare_in mid)
          (append-nil (bare_in ss) ∙ sym (ap bare_in it.mid_is ∙ set_ends ss ask.stage s t it.at (taken_ends it.taken (held_nothing s.held it.free one))));
    }

calls_step : (n : ℕ) (after : Contexts) (w : Standing) → IsSound n w → IsAct n (calls after) w → Stepped n w [] (source n (calls after) w) (done_by (calls after) w)
calls_step n after w keeps act = calls_to n after w (asked w.contexts w.stages) keeps act.0 refl (took w.contexts w.stages) act.1

-- ---- WHAT A STAGE HOLDS GOES ON

abbrev pub goes_to : Contexts → ℕ → List Stage → Stage → PassOutcome × List Stage
goes_to h k ss s = goes_in k (without_hold s) (held_items s.held (bytes_held h s)) ss

went_is : (b c : Contexts) (n : ℕ) (items : List ChainItem) (to : ℕ) (stages changed : List Stage) (o : Option Stage) → IsLeft (unless_over b c (hand_over_to b n items to stages changed o)).0
    → unless_over b c (hand_over_to b n items to stages changed o) ≡ ((append_to to items changed o).0, (append_to to items changed o).1, c)
went_is b c n items to stages changed None left = refl
went_is b c n items to stages changed (Some s) left = by_room (accepts b n (Some s)) refl
  where
    by_room : (f : Bool) → accepts b n (Some s) ≡ f
        → unless_over b c (hand_over_to b n items to stages changed (Some s)) ≡ ((append_to to items changed (Some s)).0, (append_to to items changed (Some s)).1, c)
    by_room true is = rw is
    by_room false is = absurd (rw is at left)

pub continued_is : (h : Contexts) (k : ℕ) (ss : List Stage) (s : Stage) → slice_get ss k ≡ Some s → IsLeft (continued h k ss).0
    → continued h k ss ≡ ((goes_to h k ss s).0, (goes_to h k ss s).1, without_held h s)
continued_is h k ss s at left =
    let first : continued h k ss ≡ continued_at h k ss (Some s) = ap (continued_at h k ss) at in
    let left_there : IsLeft (continued_at h k ss (Some s)).0 = subst (λ (r : PassOutcome × List Stage × Contexts). IsLeft r.0) first left in
    let items : List ChainItem = held_items s.held (bytes_held h s) in
    let changed : List Stage = slice_set ss k (without_hold s) in
    first
    ∙ went_is h (without_held h s) (length (bytes_held h s)) items (target (k + 1) ss) ss changed (slice_get ss (target (k + 1) ss)) left_there
    ∙ ap (λ (r : PassOutcome × List Stage). (r.0, r.1, without_held h s)) (goes_is items ss k s (without_hold s) at)

none_is : (h : Contexts) (k : ℕ) (ss : List Stage) → slice_get ss k ≡ None → continued h k ss ≡ (passed.Left [], ss, h)
none_is h k ss at = ap (continued_at h k ss) at

-- of what goes on, whatever is due then
goes_keep : (n : ℕ) (due then_due : Option Ask) (h : Contexts) (ss : List Stage) (k : ℕ) (s : Stage) → IsSound n (record { due = due; contexts = h; stages = ss }) → slice_get ss k ≡ Some s
    → CalmWhile then_due (goes_to h k ss s).1 → IsSound n (record { due = then_due; contexts = without_held h s; stages = (goes_to h k ss s).1 })
goes_keep n due then_due h ss k s keeps at calm =
    let items : List ChainItem = held_items s.held (bytes_held h s) in
    let after : List Stage = (goes_to h k ss s).1 in
    let same : AreSame ss after = goes_same items ss k s (without_hold s) at (record { vm = refl; context = refl; response = refl }) in
    record {
      apart = apart_same ss after same keeps.apart;
      there = there_same (without_held h s) ss after same (gone_there h ss k s at keeps.there);
      open_ = open_goes items ss k (without_hold s) (λ passes. record { waiting = (open_at ss k s at keeps.open_ passes).waiting; holding = refl }) keeps.open_;
      calm = calm;
      clean = clean_goes n h (without_held h s) items ss k s (without_hold s) at (λ clean _. gone_here h s (there_at h ss k s at keeps.there) clean)
          (gone_but h ss k s at keeps.apart keeps.there) keeps.clean;
      cut = stays_goes n items ss k s (without_hold s) at (λ _ is. is) keeps.cut;
    }

goes_bytes : (n : ℕ) (h : Contexts) (ss : List Stage) (k : ℕ) (s : Stage) → AreApart ss → AreThere h ss → slice_get ss k ≡ Some s → AreOpen ss → AreClean h (drop n ss) → IsCut n ss
    → item_bytes (left_in (goes_to h k ss s).0) ++ flow (without_held h s) (drop n (goes_to h k ss s).1) ≡ flow h (drop n ss) ++ over n k (bytes_held h s)
goes_bytes n h ss k s apart there at all clean cut =
    let items : List ChainItem = held_items s.held (bytes_held h s) in
    let is : item_bytes items ≡ bytes_held h s = joined_held s.held (bytes_at h s) in
    cut_goes n h (without_held h s) items ss k s (without_hold s) at
    (λ _.
    (λ i. is i ++ (bytes_at (without_held h s) s ++ item_bytes s.waiting))
    ∙ (sym (append_assoc (bytes_held h s) (bytes_at (without_held h s) s) (item_bytes s.waiting))
    ∙ ap (λ (l : List ℕ). l ++ item_bytes s.waiting) (gone_bytes h s (there_at h ss k s at there))))
    (gone_but h ss k s at apart there) all clean cut
    ∙ ap (λ (l : List ℕ). flow h (drop n ss) ++ over n k l) is

goes_thin : (h : Contexts) (ss : List Stage) (k : ℕ) (s : Stage) → slice_get ss k ≡ Some s → AreOpen ss
    → Thinner (bare_in ss ++ []) (bare_all (left_in (goes_to h k ss s).0) ++ bare_in (goes_to h k ss s).1)
goes_thin h ss k s at all =
    subst (λ (l : List ChainItem). Thinner l (bare_all (left_in (goes_to h k ss s).0) ++ bare_in (goes_to h k ss s).1)) (sym (append-nil (bare_in ss)))
    (goes_ends (bytes_held h s) ss k s at all)

where_none : (j k : ℕ) → where_one j k [] ≡ []
where_none zero zero = refl
where_none zero (suc k) = refl
where_none (suc j) zero = refl
where_none (suc j) (suc k) = where_none j k

where_at : (j k : ℕ) (f : ℕ → List ℕ) → where_one j k (f j) ≡ where_one j k (f k)
where_at zero zero f = refl
where_at zero (suc k) f = refl
where_at (suc j) zero f = refl
where_at (suc j) (suc k) f = where_at j k (λ i. f (suc i))

not_held : (h : Contexts) (s : Stage) → holds_bytes s.held ≡ false → bytes_held h s ≡ []
not_held h s is = ap (λ b. if b then bytes_at h s else []) is

-- ---- ANOTHER CALLBACK RESUMES A STAGE

other_calm : (due : Option Ask) (ss : List Stage) (k : ℕ) (s : Stage) → slice_get ss k ≡ Some s → IsOfAnother k due → CalmWhile due ss → holds_bytes s.held ≡ false
other_calm None ss k s at other calm = calm_at ss k s at calm
other_calm (Some ask) ss k s at other calm = by_kind ask.kind calm
  where
    by_kind : (kind : AskKind) → CalmFor kind ask.stage ss → holds_bytes s.held ≡ false
    by_kind kinds.Head calm_here = calm_at ss k s at calm_here
    by_kind kinds.Piece calm_here = calm_beside ss ask.stage k s at calm_here other
    by_kind kinds.Trailers calm_here = calm_at ss k s at calm_here

resumed_calm : (due : Option Ask) (h : Contexts) (ss : List Stage) (k : ℕ) (s : Stage) → IsOfAnother k due → CalmWhile due ss → CalmWhile due (goes_to h k ss s).1
resumed_calm None h ss k s other calm = calm_goes (held_items s.held (bytes_held h s)) ss k (without_hold s) refl calm
resumed_calm (Some ask) h ss k s other calm = beside_goes (held_items s.held (bytes_held h s)) ss ask k (without_hold s) refl calm other

resumes_pending : (n : ℕ) (due : Option Ask) (h : Contexts) (ss : List Stage) (k : ℕ) (s : Stage) → slice_get ss k ≡ Some s → holds_bytes s.held ≡ false
    → over n k (bytes_held h s) ++ bytes_pending n (record { due = due; contexts = without_held h s; stages = (goes_to h k ss s).1 })
    ≡ bytes_pending n (record { due = due; contexts = h; stages = ss }) ++ source n (resumes k) (record { due = due; contexts = h; stages = ss })
resumes_pending zero due h ss k s at calm = refl
resumes_pending (suc j) due h ss k s at calm =
    let items : List ChainItem = held_items s.held (bytes_held h s) in
    let same : AreSame ss (goes_to h k ss s).1 = goes_same items ss k s (without_hold s) at (record { vm = refl; context = refl; response = refl }) in
    let gone : without_held h s ≡ h = gone_none (holds_bytes s.held) calm in
    (λ i. (ap (where_one j k) (not_held h s calm) ∙ where_none j k) i ++ pending_for j (without_held h s) (goes_to h k ss s).1 due)
    ∙ (due_same j h (without_held h s) ss (goes_to h k ss s).1 due ((λ i. buffer_at (gone i) (goes_to h k ss s).1 j) ∙ buffer_same h ss (goes_to h k ss s).1 j same)
    ∙ sym (append-nil (pending_for j h ss due)))
  where
    gone_none : (b : Bool) → holds_bytes s.held ≡ false → without_held h s ≡ h
    gone_none b is = rw is

resumes_step : (n : ℕ) (k : ℕ) (w : Standing) → IsSound n w → IsAct n (resumes k) w → Stepped n w [] (source n (resumes k) w) (done_by (resumes k) w)
resumes_step n k w keeps act = by_stage (slice_get w.stages k) refl
  where
    by_stage : (o : Option Stage) → slice_get w.stages k ≡ o → Stepped n w [] (source n (resumes k) w) (done_by (resumes k) w)
    by_stage None at =
        subst (λ (r : PassOutcome × List Stage × Contexts). Stepped n w [] (source n (resumes k) w) (gone_on w.due r)) (sym (none_is w.contexts k w.stages at))
        (record { keeps = keeps; bytes = sym (nothing n); thin = thin_same (bare_in w.stages ++ []) (bare_in w.stages) (append-nil (bare_in w.stages)) })
      where
        nothing : (m : ℕ) → behind m w ++ source m (resumes k) w ≡ behind m w
        nothing zero = append-nil (behind zero w)
        nothing (suc m) = append-nil (behind (suc m) w)
    by_stage (Some s) at =
        let calm : holds_bytes s.held ≡ false = other_calm w.due w.stages k s at act.0 keeps.calm in
        subst (λ (r : PassOutcome × List Stage × Contexts). Stepped n w [] (source n (resumes k) w) (gone_on w.due r)) (sym (continued_is w.contexts k w.stages s at act.1))
        (record {
          keeps = goes_keep n w.due w.due w.contexts w.stages k s keeps at (resumed_calm w.due w.contexts w.stages k s act.0 keeps.calm);
          bytes = joins (item_bytes (left_in (goes_to w.contexts k w.stages s).0)) (flow (without_held w.contexts s) (drop n (goes_to w.contexts k w.stages s).1)) (flow w.contexts (drop n w.stages))
              (over n k (bytes_held w.contexts s)) (bytes_pending n w) (bytes_pending n (record { due = w.due; contexts = without_held w.contexts s; stages = (goes_to w.contexts k w.stages s).1 }))
              (source n (resumes k) w)
              (goes_bytes n w.contexts w.stages k s keeps.apart keeps.there at keeps.open_ keeps.clean keeps.cut) (resumes_pending n w.due w.contexts w.stages k s at calm);
          thin = goes_thin w.contexts w.stages k s at keeps.open_;
        })

-- ---- ITS ACTION IS PUT IN FORCE

but_there : (k : ℕ) (ss : List Stage) → CalmBut k ss → slice_get ss k ≡ None → ⊥
but_there k [] calm at = calm
but_there zero (s ∷ ss) calm at = cc at
but_there (suc k) (s ∷ ss) calm at = but_there k ss calm.1 at

-- it is no body callback that pauses, or whose stage is there no more
pub record NoBody (n : ℕ) (ask : Ask) (w : Standing) : Type 0 where
  pub calm : AreCalm w.stages
  pub none : bytes_pending n (record w { due = Some ask }) ≡ []

no_body_at : (n : ℕ) (ask : Ask) (w : Standing) (kind : AskKind) → ask.kind ≡ kind → is_body kind ≡ false → AreCalm w.stages → NoBody n ask w
no_body_at n ask w kind is no_ calm = record { calm = calm; none = none_at n }
  where
    none_at : (m : ℕ) → bytes_pending m (record w { due = Some ask }) ≡ []
    none_at zero = refl
    none_at (suc j) = ap (λ (b : Bool). if b then where_one j ask.stage (buffer_at w.contexts w.stages j) else []) (ap is_body is ∙ no_)

no_body : (n : ℕ) (ask : Ask) (w : Standing) (kind : AskKind) → ask.kind ≡ kind → CalmFor kind ask.stage w.stages → (is_body kind ≡ true → ⊥) → NoBody n ask w
no_body n ask w kinds.Head is calm no_ = no_body_at n ask w kinds.Head is refl calm
no_body n ask w kinds.Piece is calm no_ = absurd (no_ refl)
no_body n ask w kinds.Trailers is calm no_ = no_body_at n ask w kinds.Trailers is refl calm

pauses_no_body : (kind : AskKind) (value : ℕ) → IsContinue kind value → (value == 0) ≡ false → is_body kind ≡ true → ⊥
pauses_no_body kinds.Head value goes is body = cc body
pauses_no_body kinds.Piece value goes is body = let e : (value == 0) ≡ true = ap (λ v. v == 0) goes in cc (e, is)
pauses_no_body kinds.Trailers value goes is body = cc body

none_no_body : (kind : AskKind) (k : ℕ) (ss : List Stage) → slice_get ss k ≡ None → CalmFor kind k ss → is_body kind ≡ true → ⊥
none_no_body kinds.Head k ss at calm body = cc body
none_no_body kinds.Piece k ss at calm body = but_there k ss calm at
none_no_body kinds.Trailers k ss at calm body = cc body

-- where nothing goes on
stays_step : (n value : ℕ) (ask : Ask) (w : Standing) → w.due ≡ Some ask → IsSound n w → NoBody n ask w
    → Stepped n w [] (source n (answers value) w) ([], record { due = None; contexts = after_return ask w; stages = w.stages })
stays_step n value ask w due keeps no_ =
    let same : HoldSame w.contexts (after_return ask w) w.stages = paused_same w.contexts w.stages ask.stage keeps.apart keeps.there in
    let flows : flow (after_return ask w) (drop n w.stages) ≡ flow w.contexts (drop n w.stages) = cut_same n w.contexts (after_return ask w) w.stages same in
    record {
      keeps = record {
        apart = keeps.apart;
        there = paused_there w.contexts w.stages ask.stage keeps.there;
        open_ = keeps.open_;
        calm = no_.calm;
        clean = clean_same w.contexts (after_return ask w) (drop n w.stages) (hold_drop n w.contexts (after_return ask w) w.stages same) keeps.clean;
        cut = keeps.cut;
      };
      bytes = joins [] (flow (after_return ask w) (drop n w.stages)) (flow w.contexts (drop n w.stages)) [] (bytes_pending n w)
          (bytes_pending n (record { due = None; contexts = after_return ask w; stages = w.stages })) (source n (answers value) w)
          (flows ∙ sym (append-nil (flow w.contexts (drop n w.stages)))) (nothing n no_.none);
      thin = thin_same (bare_in w.stages ++ []) (bare_in w.stages) (append-nil (bare_in w.stages));
    }
  where
    nothing : (m : ℕ) → bytes_pending m (record w { due = Some ask }) ≡ []
        → [] ++ bytes_pending m (record { due = None; contexts = after_return ask w; stages = w.stages }) ≡ bytes_pending m w ++ source m (answers value) w
    nothing zero is = refl
    nothing (suc j) is =
        let here : pending_for j w.contexts w.stages w.due ≡ [] = ap (pending_for j w.contexts w.stages) due ∙ is in
        λ i. sym here i ++ []

-- what was pending passes the cut
answer_pending : (n value : ℕ) (ask : Ask) (w : Standing) (s : Stage) → w.due ≡ Some ask → IsSound n w → slice_get w.stages ask.stage ≡ Some s
    → over n ask.stage (bytes_held (after_return ask w) s) ++ bytes_pending n (record { due = None; contexts = without_held (after_return ask w) s; stages = (goes_to (after_return ask w) ask.stage w.stages s).1 })
    ≡ bytes_pending n w ++ source n (answers value) w
answer_pending zero value ask w s due keeps at = refl
answer_pending (suc j) value ask w s due keeps at =
    (λ i. passes_for ask.kind refl (subst (λ (o : Option Ask). CalmWhile o w.stages) due keeps.calm) i ++ [])
    ∙ ap (λ (o : Option Ask). pending_for j w.contexts w.stages o ++ []) (sym due)
  where
    passes_for : (kind : AskKind) → ask.kind ≡ kind → CalmFor kind ask.stage w.stages → where_one j ask.stage (bytes_held (after_return ask w) s) ≡ buffer_due j w.contexts w.stages ask
    passes_for kinds.Head is calm =
        ap (where_one j ask.stage) (not_held (after_return ask w) s (calm_at w.stages ask.stage s at calm)) ∙ where_none j ask.stage
        ∙ ap (λ (k : AskKind). if is_body k then where_one j ask.stage (buffer_at w.contexts w.stages j) else []) (sym is)
    passes_for kinds.Trailers is calm =
        ap (where_one j ask.stage) (not_held (after_return ask w) s (calm_at w.stages ask.stage s at calm)) ∙ where_none j ask.stage
        ∙ ap (λ (k : AskKind). if is_body k then where_one j ask.stage (buffer_at w.contexts w.stages j) else []) (sym is)
    passes_for kinds.Piece is calm =
        let same : HoldSame w.contexts (after_return ask w) w.stages = paused_same w.contexts w.stages ask.stage keeps.apart keeps.there in
        let bytes : bytes_held (after_return ask w) s ≡ bytes_at w.contexts s
        = ap (λ b. if b then bytes_at (after_return ask w) s else []) (busy_at w.stages ask.stage s at calm) ∙ hold_at w.contexts (after_return ask w) w.stages ask.stage s at same in
        ap (where_one j ask.stage) (bytes ∙ ap (buffer_in w.contexts) (sym at)) ∙ sym (where_at j ask.stage (buffer_at w.contexts w.stages))
        ∙ ap (λ (k : AskKind). if is_body k then where_one j ask.stage (buffer_at w.contexts w.stages j) else []) (sym is)

goes_step : (n value : ℕ) (ask : Ask) (w : Standing) → w.due ≡ Some ask → IsSound n w → IsLeft (continued (after_return ask w) ask.stage w.stages).0
    → Stepped n w [] (source n (answers value) w) (gone_on None (continued (after_return ask w) ask.stage w.stages))
goes_step n value ask w due keeps left = by_stage (slice_get w.stages ask.stage) refl
  where
    calm : CalmWhile (Some ask) w.stages
    calm = subst (λ (o : Option Ask). CalmWhile o w.stages) due keeps.calm

    by_stage : (o : Option Stage) → slice_get w.stages ask.stage ≡ o → Stepped n w [] (source n (answers value) w) (gone_on None (continued (after_return ask w) ask.stage w.stages))
    by_stage None at =
        subst (λ (r : PassOutcome × List Stage × Contexts). Stepped n w [] (source n (answers value) w) (gone_on None r)) (sym (none_is (after_return ask w) ask.stage w.stages at))
        (stays_step n value ask w due keeps (no_body n ask w ask.kind refl calm (none_no_body ask.kind ask.stage w.stages at calm)))
    by_stage (Some s) at =
        let h : Contexts = after_return ask w in
        let same : HoldSame w.contexts h w.stages = paused_same w.contexts w.stages ask.stage keeps.apart keeps.there in
        let there : AreThere h w.stages = paused_there w.contexts w.stages ask.stage keeps.there in
        let now : IsSound n (record { due = Some ask; contexts = h; stages = w.stages })
        = record {
          apart = keeps.apart;
          there = there;
          open_ = keeps.open_;
          calm = calm;
          clean = clean_same w.contexts h (drop n w.stages) (hold_drop n w.contexts h w.stages same) keeps.clean;
          cut = keeps.cut;
        } in
        let after : Standing = record { due = None; contexts = without_held h s; stages = (goes_to h ask.stage w.stages s).1 } in
        subst (λ (r : PassOutcome × List Stage × Contexts). Stepped n w [] (source n (answers value) w) (gone_on None r)) (sym (continued_is h ask.stage w.stages s at left))
        (record {
          keeps = goes_keep n (Some ask) None h w.stages ask.stage s now at (answer_goes (held_items s.held (bytes_held h s)) w.stages ask (without_hold s) refl calm);
          bytes = joins (item_bytes (left_in (goes_to h ask.stage w.stages s).0)) (flow (without_held h s) (drop n (goes_to h ask.stage w.stages s).1)) (flow w.contexts (drop n w.stages))
              (over n ask.stage (bytes_held h s)) (bytes_pending n w) (bytes_pending n after) (source n (answers value) w)
              (goes_bytes n h w.stages ask.stage s keeps.apart there at keeps.open_ now.clean keeps.cut
              ∙ ap (λ (l : List ℕ). l ++ over n ask.stage (bytes_held h s)) (cut_same n w.contexts h w.stages same))
              (answer_pending n value ask w s due keeps at);
          thin = goes_thin h w.stages ask.stage s at keeps.open_;
        })

answers_step : (n value : ℕ) (w : Standing) → IsSound n w → IsAct n (answers value) w → Stepped n w [] (source n (answers value) w) (done_by (answers value) w)
answers_step n value w keeps act = by_due w.due refl act
  where
    by_due : (o : Option Ask) → w.due ≡ o → IsAnswer value w o → Stepped n w [] (source n (answers value) w) (answered value w o)
    by_due None due answer = absurd answer
    by_due (Some ask) due answer =
        by_bool (Stepped n w [] (source n (answers value) w)) (value == 0) (gone_on None (continued (after_return ask w) ask.stage w.stages))
        ([], record { due = None; contexts = after_return ask w; stages = w.stages })
        (λ is. goes_step n value ask w due keeps (answer.1 is))
        (λ is. stays_step n value ask w due keeps
        (no_body n ask w ask.kind refl (subst (λ (p : Option Ask). CalmWhile p w.stages) due keeps.calm) (pauses_no_body ask.kind value answer.0 is)))

-- ---- A STAGE IS LET THROUGH

abbrev pub through_items : Contexts → Stage → List ChainItem
through_items h s = held_items s.held (bytes_held h s) ++ s.waiting

abbrev pub through_to : Contexts → ℕ → List Stage → Stage → PassOutcome × List Stage
through_to h k ss s = goes_in k (bypassed_stage s) (through_items h s) ss

pub through_is : (h : Contexts) (k : ℕ) (ss : List Stage) (s : Stage) → slice_get ss k ≡ Some s → IsLeft (let_through h k ss).0
    → let_through h k ss ≡ ((through_to h k ss s).0, (through_to h k ss s).1, without_held h s)
through_is h k ss s at left =
    let first : let_through h k ss ≡ let_through_at h k ss (Some s) = ap (let_through_at h k ss) at in
    let left_there : IsLeft (let_through_at h k ss (Some s)).0 = subst (λ (r : PassOutcome × List Stage × Contexts). IsLeft r.0) first left in
    let changed : List Stage = slice_set ss k (bypassed_stage s) in
    first
    ∙ went_is h (without_held h s) (length (bytes_held h s) + size s.waiting) (through_items h s) (target (k + 1) ss) ss changed (slice_get ss (target (k + 1) ss)) left_there
    ∙ ap (λ (r : PassOutcome × List Stage). (r.0, r.1, without_held h s)) (goes_is (through_items h s) ss k s (bypassed_stage s) at)

through_keep : (n : ℕ) (due then_due : Option Ask) (h : Contexts) (ss : List Stage) (k : ℕ) (s : Stage) → IsSound n (record { due = due; contexts = h; stages = ss }) → slice_get ss k ≡ Some s
    → (suc k ≡ n → ⊥) → CalmWhile then_due (through_to h k ss s).1 → IsSound n (record { due = then_due; contexts = without_held h s; stages = (through_to h k ss s).1 })
through_keep n due then_due h ss k s keeps at apart calm =
    let items : List ChainItem = through_items h s in
    let after : List Stage = (through_to h k ss s).1 in
    let same : AreSame ss after = goes_same items ss k s (bypassed_stage s) at (record { vm = refl; context = refl; response = refl }) in
    record {
      apart = apart_same ss after same keeps.apart;
      there = there_same (without_held h s) ss after same (gone_there h ss k s at keeps.there);
      open_ = open_goes items ss k (bypassed_stage s) (λ passes. record { waiting = refl; holding = refl }) keeps.open_;
      calm = calm;
      clean = clean_goes n h (without_held h s) items ss k s (bypassed_stage s) at (λ clean _. gone_here h s (there_at h ss k s at keeps.there) clean)
          (gone_but h ss k s at keeps.apart keeps.there) keeps.clean;
      cut = stays_goes n items ss k s (bypassed_stage s) at (λ is _. absurd (apart is)) keeps.cut;
    }

clean_at : (n : ℕ) (h : Contexts) (ss : List Stage) (k : ℕ) (s : Stage) → slice_get ss k ≡ Some s → n ≤ k → AreClean h (drop n ss) → IsClean h s
clean_at n h [] k s at less clean = absurd (cc)
clean_at zero h (x ∷ xs) zero s at less clean =
    let here : x ≡ s = (cc) in
    subst (IsClean h) here clean.0
clean_at zero h (x ∷ xs) (suc k) s at less clean = clean_at zero h xs k s at (omega arith) clean.1
clean_at (suc n) h (x ∷ xs) zero s at less clean = absurd (omega (arith, less))
clean_at (suc n) h (x ∷ xs) (suc k) s at less clean = clean_at n h xs k s at (omega (arith, less)) clean

through_bytes : (n : ℕ) (h : Contexts) (ss : List Stage) (k : ℕ) (s : Stage) → AreApart ss → AreThere h ss → slice_get ss k ≡ Some s → AreOpen ss → AreClean h (drop n ss) → IsCut n ss
    → (suc k ≡ n → ⊥) → item_bytes (left_in (through_to h k ss s).0) ++ flow (without_held h s) (drop n (through_to h k ss s).1) ≡ flow h (drop n ss) ++ []
through_bytes n h ss k s apart there at all clean cut beside =
    let items : List ChainItem = through_items h s in
    let is : item_bytes items ≡ bytes_held h s ++ item_bytes s.waiting
    = joined_more (held_items s.held (bytes_held h s)) s.waiting ∙ ap (λ (l : List ℕ). l ++ item_bytes s.waiting) (joined_held s.held (bytes_at h s)) in
    cut_goes n h (without_held h s) items ss k s (bypassed_stage s) at
    (λ less.
    let gone : bytes_at (without_held h s) s ≡ [] = gone_here h s (there_at h ss k s at there) (clean_at n h ss k s at less clean) in
    let held_is : bytes_held h s ≡ bytes_at h s
    = sym (append-nil (bytes_held h s)) ∙ (ap (λ (l : List ℕ). bytes_held h s ++ l) (sym gone) ∙ gone_bytes h s (there_at h ss k s at there)) in
    ap (λ (l : List ℕ). item_bytes items ++ (l ++ [])) gone ∙ (append-nil (item_bytes items) ∙ (is ∙ ap (λ (l : List ℕ). l ++ item_bytes s.waiting) held_is)))
    (gone_but h ss k s at apart there) all clean cut
    ∙ ap (λ (l : List ℕ). flow h (drop n ss) ++ l) (over_apart n k (item_bytes items) beside)

through_calm : (due : Option Ask) (h : Contexts) (ss : List Stage) (k : ℕ) (s : Stage) → CalmWhile due ss → CalmWhile (unless_at k due) (through_to h k ss s).1
through_calm None h ss k s calm = calm_goes (through_items h s) ss k (bypassed_stage s) refl calm
through_calm (Some ask) h ss k s calm =
    by_bool (λ (o : Option Ask). CalmWhile o (through_to h k ss s).1) (ask.stage == k) None (Some ask)
    (λ is. subst (λ (j : ℕ). AreCalm (goes_in j (bypassed_stage s) (through_items h s) ss).1) (eqb-true ask.stage k is) (answer_goes (through_items h s) ss ask (bypassed_stage s) refl calm))
    (λ is. beside_goes (through_items h s) ss ask k (bypassed_stage s) refl calm (λ same. eqb-false ask.stage k is (sym same)))

where_apart : (j k : ℕ) (bytes : List ℕ) → (j ≡ k → ⊥) → where_one j k bytes ≡ []
where_apart zero zero bytes apart = absurd (apart refl)
where_apart zero (suc k) bytes apart = refl
where_apart (suc j) zero bytes apart = refl
where_apart (suc j) (suc k) bytes apart = where_apart j k bytes (λ is. apart (ap suc is))

buffer_but : (b c : Contexts) (ss : List Stage) (k j : ℕ) → HoldBut b c k ss → (j ≡ k → ⊥) → buffer_at c ss j ≡ buffer_at b ss j
buffer_but b c [] k j same apart = refl
buffer_but b c (x ∷ xs) zero zero same apart = absurd (apart refl)
buffer_but b c (x ∷ xs) zero (suc j) same apart = buffer_hold b c xs j same
buffer_but b c (x ∷ xs) (suc k) zero same apart = same.0
buffer_but b c (x ∷ xs) (suc k) (suc j) same apart = buffer_but b c xs k j same.1 (λ is. apart (ap suc is))

no_buffer : (is : Bool) (bytes : List ℕ) → bytes ≡ [] → (if is then bytes else []) ≡ []
no_buffer true bytes none = none
no_buffer false bytes none = refl

-- what is due of the last stage with a body callback stays due
unless_pending : (j k : ℕ) (b c : Contexts) (ss ts : List Stage) (due : Option Ask) → (j ≡ k → ⊥) → buffer_at c ts j ≡ buffer_at b ss j
    → pending_for j c ts (unless_at k due) ≡ pending_for j b ss due
unless_pending j k b c ss ts None apart same = refl
unless_pending j k b c ss ts (Some ask) apart same =
    by_bool (λ (o : Option Ask). pending_for j c ts o ≡ buffer_due j b ss ask) (ask.stage == k) None (Some ask)
    (λ is.
    sym (no_buffer (is_body ask.kind) (where_one j ask.stage (buffer_at b ss j)) (where_apart j ask.stage (buffer_at b ss j) (λ here. apart (here ∙ eqb-true ask.stage k is)))))
    (λ is. due_same j b c ss ts (Some ask) same)

lets_pending : (n k : ℕ) (w : Standing) (s : Stage) → IsSound n w → slice_get w.stages k ≡ Some s → (suc k ≡ n → ⊥)
    → [] ++ bytes_pending n (record { due = unless_at k w.due; contexts = without_held w.contexts s; stages = (through_to w.contexts k w.stages s).1 }) ≡ bytes_pending n w ++ source n (lets k) w
lets_pending zero k w s keeps at apart = refl
lets_pending (suc j) k w s keeps at apart =
    let items : List ChainItem = through_items w.contexts s in
    let after : List Stage = (through_to w.contexts k w.stages s).1 in
    let same : AreSame w.stages after = goes_same items w.stages k s (bypassed_stage s) at (record { vm = refl; context = refl; response = refl }) in
    let beside : j ≡ k → ⊥ = λ is. apart (ap suc (sym is)) in
    unless_pending j k w.contexts (without_held w.contexts s) w.stages after w.due beside
    (buffer_same (without_held w.contexts s) w.stages after j same
    ∙ buffer_but w.contexts (without_held w.contexts s) w.stages k j (gone_but w.contexts w.stages k s at keeps.apart keeps.there) beside)
    ∙ sym (append-nil (pending_for j w.contexts w.stages w.due))

-- no stage is there, and so none whose callback could be due
none_through : (h : Contexts) (k : ℕ) (ss : List Stage) → slice_get ss k ≡ None → let_through h k ss ≡ (passed.Left [], ss, h)
none_through h k ss at = ap (let_through_at h k ss) at

none_calm : (due : Option Ask) (k : ℕ) (ss : List Stage) → slice_get ss k ≡ None → CalmWhile due ss → CalmWhile (unless_at k due) ss
none_calm None k ss at calm = calm
none_calm (Some ask) k ss at calm = by_bool (λ (o : Option Ask). CalmWhile o ss) (ask.stage == k) None (Some ask) (λ is. at_all ask.kind (eqb-true ask.stage k is) calm) (λ is. calm)
  where
    at_all : (kind : AskKind) → ask.stage ≡ k → CalmFor kind ask.stage ss → AreCalm ss
    at_all kinds.Head same here = here
    at_all kinds.Piece same here = absurd (but_there ask.stage ss here (ap (slice_get ss) same ∙ at))
    at_all kinds.Trailers same here = here

lets_step : (n k : ℕ) (w : Standing) → IsSound n w → IsAct n (lets k) w → Stepped n w [] (source n (lets k) w) (done_by (lets k) w)
lets_step n k w keeps act = by_stage (slice_get w.stages k) refl
  where
    by_stage : (o : Option Stage) → slice_get w.stages k ≡ o → Stepped n w [] (source n (lets k) w) (done_by (lets k) w)
    by_stage None at =
        subst (λ (r : PassOutcome × List Stage × Contexts). Stepped n w [] (source n (lets k) w) (gone_on (unless_at k w.due) r)) (sym (none_through w.contexts k w.stages at))
        (record {
          keeps = record {
            apart = keeps.apart;
            there = keeps.there;
            open_ = keeps.open_;
            calm = none_calm w.due k w.stages at keeps.calm;
            clean = keeps.clean;
            cut = keeps.cut;
          };
          bytes = ap (λ (l : List ℕ). flow w.contexts (drop n w.stages) ++ l) (same_pending n act.0) ∙ sym (nothing n);
          thin = thin_same (bare_in w.stages ++ []) (bare_in w.stages) (append-nil (bare_in w.stages));
        })
      where
        same_pending : (m : ℕ) → (suc k ≡ m → ⊥) → bytes_pending m (record w { due = unless_at k w.due }) ≡ bytes_pending m w
        same_pending zero apart = refl
        same_pending (suc j) apart = unless_pending j k w.contexts w.contexts w.stages w.stages w.due (λ is. apart (ap suc (sym is))) refl

        nothing : (m : ℕ) → behind m w ++ source m (lets k) w ≡ behind m w
        nothing zero = append-nil (behind zero w)
        nothing (suc m) = append-nil (behind (suc m) w)
    by_stage (Some s) at =
        let r : PassOutcome × List Stage = through_to w.contexts k w.stages s in
        subst (λ (r : PassOutcome × List Stage × Contexts). Stepped n w [] (source n (lets k) w) (gone_on (unless_at k w.due) r)) (sym (through_is w.contexts k w.stages s at act.1))
        (record {
          keeps = through_keep n w.due (unless_at k w.due) w.contexts w.stages k s keeps at act.0 (through_calm w.due w.contexts w.stages k s keeps.calm);
          bytes = joins (item_bytes (left_in r.0)) (flow (without_held w.contexts s) (drop n r.1)) (flow w.contexts (drop n w.stages)) [] (bytes_pending n w)
              (bytes_pending n (record { due = unless_at k w.due; contexts = without_held w.contexts s; stages = r.1 })) (source n (lets k) w)
              (through_bytes n w.contexts w.stages k s keeps.apart keeps.there at keeps.open_ keeps.clean keeps.cut act.0) (lets_pending n k w s keeps at act.0);
          thin =
              subst (λ (l : List ChainItem). Thinner l (bare_all (left_in r.0) ++ bare_in r.1)) (sym (append-nil (bare_in w.stages)))
              (through_ends (bytes_held w.contexts s) w.stages k s at keeps.open_);
        })

-- ---- SOMETHING ELSE BECOMES OF THE CONTEXTS

turns_step : (n : ℕ) (after : Contexts) (w : Standing) → IsSound n w → IsAct n (turns after) w → Stepped n w [] (source n (turns after) w) (done_by (turns after) w)
turns_step n after w keeps act = record {
  keeps = record {
    apart = keeps.apart;
    there = act.1;
    open_ = keeps.open_;
    calm = keeps.calm;
    clean = clean_same w.contexts after (drop n w.stages) (hold_drop n w.contexts after w.stages act.0) keeps.clean;
    cut = keeps.cut;
  };
  bytes = joins [] (flow after (drop n w.stages)) (flow w.contexts (drop n w.stages)) [] (bytes_pending n w) (bytes_pending n (record w { contexts = after })) (source n (turns after) w)
      (cut_same n w.contexts after w.stages act.0 ∙ sym (append-nil (flow w.contexts (drop n w.stages)))) (nothing n);
  thin = thin_same (bare_in w.stages ++ []) (bare_in w.stages) (append-nil (bare_in w.stages));
}
  where
    nothing : (m : ℕ) → [] ++ bytes_pending m (record w { contexts = after }) ≡ bytes_pending m w ++ source m (turns after) w
    nothing zero = refl
    nothing (suc j) =
        due_same j w.contexts after w.stages w.stages w.due (buffer_hold w.contexts after w.stages j act.0) ∙ sym (append-nil (pending_for j w.contexts w.stages w.due))

-- ---- each act

pub steps : (n : ℕ) (act : Act) (w : Standing) → IsSound n w → IsAct n act w → Stepped n w (item_in act) (source n act w) (done_by act w)
steps n (comes item) w keeps is = comes_step n item w keeps is
steps n (calls after) w keeps is = calls_step n after w keeps is
steps n (answers value) w keeps is = answers_step n value w keeps is
steps n (resumes k) w keeps is = resumes_step n k w keeps is
steps n (lets k) w keeps is = lets_step n k w keeps is
steps n (turns after) w keeps is = turns_step n after w keeps is
