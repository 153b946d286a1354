-- The frames of all calls of a guest count together.
use Rattle.std.proofs.Common.{◌≡◌, ◌≤◌, ◌<◌, ℕ, suc, ◌+◌, ◌*◌, Bool, true, false, nat_le, List, [], ◌∷◌, Some, refl, ap, sym, subst, ◌∙◌, arith, slice_get}
use Rattle.std.proofs.lemmas.Bool.{lt-leb, and_left, false≢true}
use Rattle.abi_types.specs.GuestAt.{GuestAt, alloc_gave, alloc_trapped, alloced, closed_host, allocating_by, allocating, invoked_at}
use Rattle.gate_base.specs.declared.cause.Cause.TheVariants as cause
use Rattle.law_vms.specs.Frames.{FramesCountTogether, AllocationsNeedAFrame, one_on_other, three_deep, FrameExamples}
use Rattle.wasm_syntax.specs.Nested.{Nested}
use Rattle.wasm_syntax.specs.Reduction.{inside, Program}
use Rattle.wasm_syntax.specs.ReductionRuns.{Stopped, has_trapped, walk_by, walk, all_depth, enough, run, Host, Ran, ran, hosted_by, walk_hosted, run_hosted}
use Rattle.wasm_syntax.specs.ReductionSteps.{Config, config, most_frames, all_frames, all_values, is_within, step_if, step_calls, invoked_config, most_values}
use Rattle.wasm_syntax.specs.declared.types.FunctionType.{FunctionType}
use Rattle.wasm_syntax.specs.declared.types.Value.{Value}
use Rattle.wasm_syntax.specs.declared.types.Value.TheVariants.{I32}
use Rattle.wasm_syntax.specs.declared.types.ValueType.{ValueType}

enough_is : (n : ℕ) (c : Config) → enough n c ≡ suc (3 * n + all_depth c.calls)
enough_is n c = omega arith

past_if : (b : Bool) (p : Program) (n : ℕ) (c : Config) (go : ℕ → Config → Stopped) → b ≡ false → walk_by (step_if b (step_calls p c.store c.calls)) n go ≡ has_trapped cause.Stack n
past_if true p n c go is = absurd (false≢true (sym is))
past_if false p n c go is = refl

is_past : (c : Config) → most_frames < all_frames c.calls → is_within c ≡ false
is_past c past = and_left (nat_le (all_frames c.calls) most_frames) (nat_le (all_values c.calls) most_values) (lt-leb (all_frames c.calls) most_frames past)

walk_past : (p : Program) (g n : ℕ) (c : Config) → most_frames < all_frames c.calls → walk p (suc g) n c ≡ has_trapped cause.Stack n
unfolding walk
walk_past p g n c past = past_if (is_within c) p n c (λ m d. walk p g m d) (is_past c past)

run_past : (p : Program) (n : ℕ) (c : Config) → most_frames < all_frames c.calls → run p n c ≡ has_trapped cause.Stack n
run_past p n c past = ap (λ g. walk p g n c) (enough_is n c) ∙ walk_past p (3 * n + all_depth c.calls) n c past

pub count_together : FramesCountTogether
count_together p fuel s calls past = run_past p fuel (config s calls) past

-- ---- an allocation

hosted_past : {H : Type 0} (host : Host H) (p : Program) (g n : ℕ) (h : H) (c : Config) → most_frames < all_frames c.calls → walk_hosted host p (suc g) n h c ≡ ran (has_trapped cause.Stack n) h
unfolding walk_hosted
hosted_past host p g n h c past = ap (λ x. hosted_by host x h (λ d m i. walk_hosted host p g m i d)) (run_past p n c past)

run_hosted_past : {H : Type 0} (host : Host H) (p : Program) (n : ℕ) (h : H) (c : Config) → most_frames < all_frames c.calls → run_hosted host p n h c ≡ ran (has_trapped cause.Stack n) h
run_hosted_past host p n h c past = ap (λ g. walk_hosted host p g n h c) (enough_is n c) ∙ hosted_past host p (3 * n + all_depth c.calls) n h c past

-- a function that is the guest's own enters a frame
one_more : (x : ℕ) (t : FunctionType) (locals : List ValueType) (body : Nested) (args : List Value) (c : Config) → most_frames ≤ all_frames c.calls
    → most_frames < all_frames (invoked_config x (Some (inside t locals body)) args c).calls
one_more x t locals body args c full = omega (arith, full)

invoked_past : (g : GuestAt) (f : ℕ) (args : List Value) (t : FunctionType) (locals : List ValueType) (body : Nested) → slice_get g.program.functions f ≡ Some (inside t locals body)
    → most_frames ≤ all_frames g.config.calls → most_frames < all_frames (invoked_at f args g).calls
invoked_past g f args t locals body is full =
    subst (λ o. most_frames < all_frames (invoked_config f o args g.config).calls) (sym is) (one_more f t locals body args g.config full)

pub need_a_frame : AllocationsNeedAFrame
need_a_frame g f len t locals body allocates is full =
    ap (λ o. allocating_by o len g) allocates
    ∙ ap (λ (r : Ran (Unit {0})). alloced g r.stopped) (run_hosted_past (closed_host g.closed) g.program g.fuel tt (invoked_at f (I32 len ∷ []) g) (invoked_past g f (I32 len ∷ []) t locals body is full))

-- ---- worked

given : allocating 8 (three_deep 253 100) ≡ alloc_gave 64 (three_deep 253 95)
unfolding walk walk_hosted
given = refl

third : allocating 8 (three_deep 254 100) ≡ alloc_trapped cause.Stack 96
unfolding walk walk_hosted
third = refl

first : allocating 8 (three_deep 256 100) ≡ alloc_trapped cause.Stack 100
unfolding walk walk_hosted
first = refl

pub frame_examples : FrameExamples
frame_examples = record {
  within = refl;
  past = refl;
  stack = λ p fuel. run_past p fuel (one_on_other 57 200) (omega arith);
  given = given;
  third = third;
  first = first;
}
