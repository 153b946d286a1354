-- The worlds of the generator are fresh, and as many as its workers.
use Rattle.std.proofs.Common.{◌≡◌, ℕ, zero, suc, List, [], length, All, IfSome, Some, ap, refl, sym, subst, arith, ◌∙◌}
use Rattle.gate_config.specs.Given.{Given, given}
use Rattle.gate_config.specs.declared.config.Config.{Config}
use Rattle.gate_io.specs.MemoryWorld.{MemoryWorld}
use Rattle.command_generate.specs.Setting.{generator_config, worlds_of}

-- nothing has passed in the worlds
fresh_ones : (n : ℕ) → All (λ (w : MemoryWorld). IfSome (Some w.trace) (λ trace. trace ≡ [])) (worlds_of n)
fresh_ones n zero d low = refl
fresh_ones n (suc zero) d low = refl
fresh_ones n (suc (suc zero)) d low = refl
fresh_ones n (suc (suc (suc zero))) d low = refl
fresh_ones n (suc (suc (suc (suc k)))) d low = absurd (omega (arith, low))

pub are_fresh : (n : ℕ) (worlds : List MemoryWorld) → worlds ≡ worlds_of n → All (λ (w : MemoryWorld). IfSome (Some w.trace) (λ trace. trace ≡ [])) worlds
are_fresh n worlds e = subst (All (λ (w : MemoryWorld). IfSome (Some w.trace) (λ trace. trace ≡ []))) (sym e) (fresh_ones n)

pub are_four : (n : ℕ) (worlds : List MemoryWorld) (config : Config) → worlds ≡ worlds_of n → given config ≡ generator_config → length worlds ≡ config.workers
are_four n worlds config e is = ap length e ∙ sym (ap (λ (g : Given). g.workers) is)
