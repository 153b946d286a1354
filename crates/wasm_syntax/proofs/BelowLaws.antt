-- A run never touches the calls below the topmost one, and an answer leaves no more to run.
use Rattle.std.proofs.Common.{◌≡◌, ℕ, zero, suc, ◌+◌, ◌-◌, ◌*◌, Bool, true, false, List, [], ◌∷◌, Option, refl, sym, ap, subst}
use Rattle.wasm_syntax.specs.declared.types.Value.{Value}
use Rattle.wasm_syntax.specs.Stores.{Stores}
use Rattle.wasm_syntax.specs.Reduction.{Program, Thread, code, label, frame, at_host, Cost, free, paid, paid_over, paid_more, Reduced, goes, ended, leaving, returning, asking, trapping, stuck, reduce}
use Rattle.wasm_syntax.specs.ReductionSteps.{Calling, calling, Config, config, Stepped, moves, finished, asks_host, traps, overflows, no_step, moved_over, moved, ending_call, stepped_by, step_if, is_within, step, answered, answer_first, all_values, most_values}
use Rattle.std.specs.Prelude.{nat_le, nat_lt, if◌then◌else◌}
use Rattle.wasm_syntax.specs.ReductionLaws.{StandsOn, LeavesBelow, CallsBelowStay, AnswersStayAbove, AnswersKeepDepth}
use Rattle.wasm_syntax.specs.ReductionRuns.{Stopped, has_asked, has_trapped, has_spent, pay, unit_if, walk_by, walk, enough, depth_in, all_depth}

abbrev StepKeeps : List Calling → Stepped → Type 0
StepKeeps below (moves units d) = StandsOn below d
StepKeeps below (finished v d) = d.calls ≡ below
StepKeeps below (asks_host is_paid x args d) = StandsOn below d
StepKeeps below (traps c) = Unit {0}
StepKeeps below overflows = Unit {0}
StepKeeps below no_step = Unit {0}

over_keeps : (below : List Calling) (b : Bool) (d : Config) → StandsOn below d → StepKeeps below (moved_over b d)
over_keeps below true d h = h
over_keeps below false d h = tt

moved_keeps : (below : List Calling) (cost : Cost) (d : Config) → StandsOn below d → StepKeeps below (moved cost d)
moved_keeps below free d h = h
moved_keeps below paid d h = h
moved_keeps below (paid_more further) d h = h
moved_keeps below paid_over d h = over_keeps below (nat_lt (all_values d.calls) most_values) d h

ending_keeps : (s : Stores) (vs : List Value) (below : List Calling) → StepKeeps below (ending_call s vs below)
ending_keeps s vs [] = tt
ending_keeps s vs (c ∷ below) = refl

stepped_keeps : (s : Stores) (below : List Calling) (r : Reduced) → StepKeeps below (stepped_by s below r)
stepped_keeps s below (goes cost s' own t) = moved_keeps below cost (config s' (calling own t ∷ below)) (calling own t, refl)
stepped_keeps s below (ended vs) = ending_keeps s vs below
stepped_keeps s below (leaving l vs) = tt
stepped_keeps s below (returning vs) = tt
stepped_keeps s below (asking cost x args own t) = (calling own t, refl)
stepped_keeps s below (trapping c) = tt
stepped_keeps s below stuck = tt

if_keeps : (below : List Calling) (b : Bool) (x : Stepped) → StepKeeps below x → StepKeeps below (step_if b x)
if_keeps below true x h = h
if_keeps below false x h = tt

step_keeps : (p : Program) (below : List Calling) (s : Stores) (c : Calling) → StepKeeps below (step p (config s (c ∷ below)))
step_keeps p below s c = if_keeps below (is_within (config s (c ∷ below))) (stepped_by s below (reduce p s c.own c.thread)) (stepped_keeps s below (reduce p s c.own c.thread))

paid_keeps : (below : List Calling) (b : Bool) (n left : ℕ) (go : ℕ → Stopped) → LeavesBelow below (go left) → LeavesBelow below (if b then go left else has_spent n)
paid_keeps below true n left go h = h
paid_keeps below false n left go h = tt

pay_keeps : (below : List Calling) (units n : ℕ) (go : ℕ → Stopped) → ((m : ℕ) → LeavesBelow below (go m)) → LeavesBelow below (pay units n go)
pay_keeps below units n go h = paid_keeps below (nat_le units n) n (n - units) go (h (n - units))

by_keeps : (below : List Calling) (x : Stepped) (n : ℕ) (go : ℕ → Config → Stopped) → StepKeeps below x → ((m : ℕ) (d : Config) → StandsOn below d → LeavesBelow below (go m d)) → LeavesBelow below (walk_by x n go)
by_keeps below (moves units d) n go kept ih = pay_keeps below units n (λ m. go m d) (λ m. ih m d kept)
by_keeps below (finished v d) n go kept ih = kept
by_keeps below (asks_host is_paid x args d) n go kept ih = pay_keeps below (unit_if is_paid) n (λ m. has_asked x args d m) (λ m. kept)
by_keeps below (traps c) n go kept ih = pay_keeps below 1 n (λ m. has_trapped c m) (λ m. tt)
by_keeps below overflows n go kept ih = tt
by_keeps below no_step n go kept ih = tt

walk_keeps : (p : Program) (below : List Calling) (g n : ℕ) (d : Config) → StandsOn below d → LeavesBelow below (walk p g n d)
unfolding walk
walk_keeps p below zero n d h = tt
walk_keeps p below (suc g) n d (c, is) =
    by_keeps below (step p d) n (λ m e. walk p g m e)
    (subst (λ (cs : List Calling). StepKeeps below (step p (config d.store cs))) (sym is) (step_keeps p below d.store c))
    (λ m e stands. walk_keeps p below g m e stands)

-- THE LAW of runs
pub calls_below_stay : CallsBelowStay
calls_below_stay p below n d h = walk_keeps p below (enough n d) n d h

-- ---- answers keep the depth

depth_answered : (v : Option Value) (t : Thread) → depth_in (answered v t) ≡ depth_in t
depth_answered v (code vs rest) = refl
depth_answered v (label vs a again t rest) = ap (λ n. n + 1) (depth_answered v t)
depth_answered v (frame vs a own t rest) = ap (λ n. n + 1) (depth_answered v t)
depth_answered v (at_host x t) = ap (λ n. n + 1) (depth_answered v t)

depth_first : (v : Option Value) (cs : List Calling) → all_depth (answer_first v cs) ≡ all_depth cs
depth_first v [] = refl
depth_first v (c ∷ cs) = ap (λ n. n + (1 + all_depth cs)) (depth_answered v c.thread)

pub answers_keep_depth : AnswersKeepDepth
answers_keep_depth v n d = ap (λ k. 3 * n + (k + 1)) (depth_first v d.calls)

pub answers_stay_above : AnswersStayAbove
answers_stay_above v below d (c, is) = (calling c.own (answered v c.thread), ap (answer_first v) is)
