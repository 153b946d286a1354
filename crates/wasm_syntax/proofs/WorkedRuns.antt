-- The worked runs.
use Rattle.std.proofs.Common.{◌≡◌, [], ◌∷◌, Some, refl}
use Rattle.gate_base.specs.declared.cause.Cause.TheVariants as cause
use Rattle.wasm_syntax.specs.declared.types.Value.TheVariants as value
use Rattle.wasm_syntax.specs.Nested.{nests}
use Rattle.wasm_syntax.specs.ReductionRuns.{has_finished, has_trapped, has_spent, ran, walk, walk_hosted}
use Rattle.wasm_syntax.specs.ReductionPrograms.{first_config}
use Rattle.wasm_syntax.specs.ReductionExamples.{call, sum_module, run_body, rests, unreachable_body, divide_body, overflow_body, memory_body, element_body, endless_body, if_body, table_body, return_body, asking_module, echo, exit, ask}

pub sum_of_0 : call sum_module 0 (value.I32 0 ∷ []) 6 ≡ has_finished (Some (value.I32 0)) (first_config sum_module) 0
unfolding walk nests
sum_of_0 = refl

pub sum_of_1 : call sum_module 0 (value.I32 1 ∷ []) 19 ≡ has_finished (Some (value.I32 1)) (first_config sum_module) 0
unfolding walk nests
sum_of_1 = refl

pub sum_of_3 : call sum_module 0 (value.I32 3 ∷ []) 45 ≡ has_finished (Some (value.I32 6)) (first_config sum_module) 0
unfolding walk nests
sum_of_3 = refl

pub sum_spends : call sum_module 0 (value.I32 3 ∷ []) 44 ≡ has_spent 0
unfolding walk nests
sum_spends = refl

pub sum_leaves : call sum_module 0 (value.I32 3 ∷ []) 1000 ≡ has_finished (Some (value.I32 6)) (first_config sum_module) 955
unfolding walk nests
sum_leaves = refl

pub unreachable : run_body unreachable_body 1 ≡ has_trapped cause.Unreachable 0
unfolding walk nests
unreachable = refl

pub divide : run_body divide_body 3 ≡ has_trapped cause.Divide 0
unfolding walk nests
divide = refl

pub overflow : run_body overflow_body 3 ≡ has_trapped cause.Overflow 0
unfolding walk nests
overflow = refl

pub outside : run_body memory_body 2 ≡ has_trapped cause.Memory 0
unfolding walk nests
outside = refl

pub past_table : run_body (element_body 2 1) 3 ≡ has_trapped cause.Table 0
unfolding walk nests
past_table = refl

pub never_set : run_body (element_body 1 1) 3 ≡ has_trapped cause.Table 0
unfolding walk nests
never_set = refl

pub other_type : run_body (element_body 0 2) 3 ≡ has_trapped cause.Type 0
unfolding walk nests
other_type = refl

pub this_type : run_body (element_body 0 1) 6 ≡ has_finished (Some (value.I32 42)) (rests (element_body 0 1)) 0
unfolding walk nests
this_type = refl

pub many_frames : run_body endless_body 255 ≡ has_spent 0
unfolding walk nests
many_frames = refl

pub stack : run_body endless_body 256 ≡ has_trapped cause.Stack 0
unfolding walk nests
stack = refl

pub spent_first : run_body unreachable_body 0 ≡ has_spent 0
unfolding walk nests
spent_first = refl

pub exits : ask exit 1 [] 3 ≡ ran (has_trapped cause.Exit 0) ((value.I32 6 ∷ []) ∷ [])
unfolding walk walk_hosted nests
exits = refl

pub echoes : ask echo 1 [] 4 ≡ ran (has_finished (Some (value.I32 11)) (first_config asking_module) 0) ((value.I32 6 ∷ []) ∷ [])
unfolding walk walk_hosted nests
echoes = refl

pub from_outside : ask echo 0 (value.I32 8 ∷ []) 0 ≡ ran (has_finished (Some (value.I32 8)) (first_config asking_module) 0) ((value.I32 8 ∷ []) ∷ [])
unfolding walk walk_hosted nests
from_outside = refl

pub if_else : run_body (if_body 2) 3 ≡ has_finished (Some (value.I32 7)) (rests (if_body 2)) 0
unfolding walk nests
if_else = refl

pub if_not : run_body (if_body 0) 3 ≡ has_finished (Some (value.I32 9)) (rests (if_body 0)) 0
unfolding walk nests
if_not = refl

pub table_0 : run_body (table_body 0) 9 ≡ has_finished (Some (value.I32 1110)) (rests (table_body 0)) 0
unfolding walk nests
table_0 = refl

pub table_1 : run_body (table_body 1) 7 ≡ has_finished (Some (value.I32 1010)) (rests (table_body 1)) 0
unfolding walk nests
table_1 = refl

pub table_last : run_body (table_body 7) 5 ≡ has_finished (Some (value.I32 10)) (rests (table_body 7)) 0
unfolding walk nests
table_last = refl

pub leaves_all : run_body return_body 6 ≡ has_finished (Some (value.I32 3)) (rests return_body) 0
unfolding walk nests
leaves_all = refl
