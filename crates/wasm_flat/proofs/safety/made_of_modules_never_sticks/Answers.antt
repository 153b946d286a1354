use Rattle.wasm_flat.proofs.Made.{made_is_sound, made_has_step, made_is_never_stuck, flat_follows_made}
use Rattle.wasm_flat.proofs.safety.made_of_modules_never_sticks.Goals as goal

pub returns : goal.returns
returns c = record { sound = made_is_sound; step = made_has_step; run = made_is_never_stuck; flat = flat_follows_made }
