use Rattle.wasm_flat.proofs.Valid.{module_is_sound, first_store_is_typed}
use Rattle.wasm_flat.proofs.Unstuck.{module_is_never_stuck, flat_module_follows}
use Rattle.wasm_flat.proofs.safety.modules_never_stick.Goals as goal

pub returns : goal.returns
returns c = record { sound = module_is_sound; first = first_store_is_typed; run = module_is_never_stuck; flat = flat_module_follows }
