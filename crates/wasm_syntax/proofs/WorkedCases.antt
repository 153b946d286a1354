-- More worked runs.
use Rattle.std.proofs.Common.{◌≡◌, pos, [], ◌∷◌, Some, refl}
use Rattle.gate_base.specs.declared.cause.Cause.TheVariants as cause
use Rattle.wasm_syntax.specs.declared.types.Value.TheVariants as value
use Rattle.wasm_syntax.specs.declared.instr.Instr.TheVariants as instr
use Rattle.wasm_syntax.specs.Nested.{nests}
use Rattle.wasm_syntax.specs.ReductionRuns.{has_finished, has_trapped, has_spent, walk, run}
use Rattle.wasm_syntax.specs.ReductionSteps.{answered_config, idle_config}
use Rattle.wasm_syntax.specs.ReductionPrograms.{program_of, first_config}
use Rattle.wasm_syntax.specs.ReductionCases.{pair_module, run_pair, asked_of, calls_pair, calls_element, asks_pair, resumed, called_while, then_resumed, small, run_small, gave, select_body, shift_body, quotient_body, lone_if_body, dropping_body, tee_body, globals_body, load_body, store_body, grow_body, standing, none}

pub by_call : run_pair calls_pair 2 [] 6 ≡ has_finished (Some (value.I32 5)) (first_config (pair_module calls_pair)) 0
unfolding walk nests
by_call = refl

pub by_element : run_pair calls_element 2 [] 7 ≡ has_finished (Some (value.I32 5)) (first_config (pair_module calls_element)) 0
unfolding walk nests
by_element = refl

pub from_outside : run_pair calls_pair 1 (value.I32 9 ∷ value.I32 4 ∷ []) 3 ≡ has_finished (Some (value.I32 5)) (first_config (pair_module calls_pair)) 0
unfolding walk nests
from_outside = refl

pub host_asked : asked_of (run_pair asks_pair 2 [] 4) ≡ Some (0, value.I32 9 ∷ value.I32 4 ∷ [])
unfolding walk nests
host_asked = refl

pub host_from_outside : asked_of (run_pair asks_pair 0 (value.I32 9 ∷ value.I32 4 ∷ []) 0) ≡ Some (0, value.I32 9 ∷ value.I32 4 ∷ [])
unfolding walk nests
host_from_outside = refl

pub answered : resumed (program_of (pair_module asks_pair) 1) (Some (value.I32 1)) 1 (run_pair asks_pair 2 [] 4) ≡ has_finished (Some (value.I32 99)) (first_config (pair_module asks_pair)) 0
unfolding walk nests
answered = refl

pub called_meanwhile : then_resumed (program_of (pair_module asks_pair) 1) (Some (value.I32 1)) 1 (called_while (program_of (pair_module asks_pair) 1) 1 (value.I32 9 ∷ value.I32 4 ∷ []) 3 (run_pair asks_pair 2 [] 4)) ≡ has_finished (Some (value.I32 99)) (first_config (pair_module asks_pair)) 0
unfolding walk nests
called_meanwhile = refl

pub select_upper : run_small (select_body 0) 4 ≡ gave 9 small
unfolding walk nests
select_upper = refl

pub select_lower : run_small (select_body 2) 4 ≡ gave 7 small
unfolding walk nests
select_lower = refl

pub shift_signed : run_small (shift_body instr.I32ShrS) 3 ≡ gave 4294967292 small
unfolding walk nests
shift_signed = refl

pub shift_unsigned : run_small (shift_body instr.I32ShrU) 3 ≡ gave 2147483644 small
unfolding walk nests
shift_unsigned = refl

pub quotient : run_small quotient_body 3 ≡ gave 3 small
unfolding walk nests
quotient = refl

pub if_taken : run_small (lone_if_body 3) 5 ≡ gave 1 small
unfolding walk nests
if_taken = refl

pub if_passed : run_small (lone_if_body 0) 3 ≡ gave 0 small
unfolding walk nests
if_passed = refl

pub drops_lower : run_small dropping_body 5 ≡ gave 3 small
unfolding walk nests
drops_lower = refl

pub tee : run_small tee_body 4 ≡ gave 10 small
unfolding walk nests
tee = refl

pub globals : run_small globals_body 6 ≡ gave 30 (record small { globals = value.I32 21 ∷ value.I64 30 ∷ [] })
unfolding walk nests
globals = refl

pub load_signed : run_small (load_body (instr.I32Load8S (record { align = 0; offset = 2 }))) 2 ≡ gave 4294967172 small
unfolding walk nests
load_signed = refl

pub load_unsigned : run_small (load_body (instr.I32Load16U (record { align = 0; offset = 2 }))) 2 ≡ gave 0x584 small
unfolding walk nests
load_unsigned = refl

pub load_past : run_small (load_body (instr.I32Load (record { align = 0; offset = 4 }))) 2 ≡ has_trapped cause.Memory 0
unfolding walk nests
load_past = refl

pub load_spent : run_small (load_body (instr.I32Load (record { align = 0; offset = 4 }))) 1 ≡ has_spent 0
unfolding walk nests
load_spent = refl

pub store : run_small (store_body 5) 4 ≡ gave 0 (record small { memory = 1 ∷ 2 ∷ 3 ∷ 0x84 ∷ 5 ∷ 6 ∷ 0x67 ∷ 0x45 ∷ [] })
unfolding walk nests
store = refl

pub store_past : run_small (store_body 6) 3 ≡ has_trapped cause.Memory 0
unfolding walk nests
store_past = refl

pub grow : run_small grow_body 5 ≡ gave 0 small
unfolding walk nests
grow = refl

pub room : run none 1 (standing 32766 (instr.I32Const (pos 1))) ≡ has_finished (Some (value.I32 1)) (idle_config small) 0
unfolding walk nests
room = refl

pub no_room : run none 1 (standing 32767 (instr.I32Const (pos 1))) ≡ has_trapped cause.Stack 0
unfolding walk nests
no_room = refl

pub nop_at_bound : run none 1 (standing 32767 instr.Nop) ≡ has_finished (Some (value.I32 1)) (idle_config small) 0
unfolding walk nests
nop_at_bound = refl

pub tee_below_bound : run none 1 (standing 32766 (instr.LocalTee 0)) ≡ has_finished (Some (value.I32 1)) (idle_config small) 0
unfolding walk nests
tee_below_bound = refl

pub tee_at_bound : run none 1 (standing 32767 (instr.LocalTee 0)) ≡ has_trapped cause.Stack 0
unfolding walk nests
tee_at_bound = refl

pub tee_spent : run none 0 (standing 32767 (instr.LocalTee 0)) ≡ has_spent 0
unfolding walk nests
tee_spent = refl

pub answer_past_bound : run none 0 (answered_config (Some (value.I32 1)) (standing 32767 instr.Nop)) ≡ has_trapped cause.Stack 0
unfolding walk nests
answer_past_bound = refl
