-- A closed run, as far as it has come.
use Rattle.std.proofs.Common.{◌≡◌, ◌≤◌, ◌<◌, ℕ, suc, ◌-◌, List, Option, refl, sym, ap, ◌∙◌, arith}
use Rattle.wasm_syntax.specs.declared.types.Value.{Value}
use Rattle.wasm_syntax.specs.Reduction.{Program}
use Rattle.wasm_syntax.specs.ReductionSteps.{Config, answered_config}
use Rattle.wasm_syntax.specs.ReductionRuns.{Stopped, has_asked, run, enough, answers, ends, Host, Ran, ran, hosted, hosted_by, walk_hosted, run_hosted}

module _ {H : Type 0} (host : Host H) (p : Program) where
  -- what is left of a hosted run
  pub record Going (target : Ran H) (n : ℕ) (h : H) (c : Config) : Type 0 where
    pub bound : ℕ
    pub far : enough n c ≤ bound
    pub rest : target ≡ walk_hosted host p bound n h c

  pub goes : (n : ℕ) (h : H) (c : Config) → Going (run_hosted host p n h c) n h c
  goes n h c = record { bound = enough n c; far = omega arith; rest = refl }

  more : (k n : ℕ) (h : H) (c : Config) → walk_hosted host p (suc k) n h c ≡ hosted_by host (run p n c) h (λ d m i. walk_hosted host p k m i d)
  unfolding walk_hosted
  more k n h c = refl

  -- it stops so
  pub going_stop : (target : Ran H) (n : ℕ) (h : H) (c : Config) (g : Going target n h c) (s : Stopped) → run p n c ≡ s → target ≡ hosted_by host s h (λ d m i. walk_hosted host p (g.bound - 1) m i d)
  going_stop target n h c g s is =
      let one : g.bound ≡ suc (g.bound - 1) = omega (arith, g.far) in
      g.rest ∙ ap (λ (k : ℕ). walk_hosted host p k n h c) one ∙ more (g.bound - 1) n h c ∙ ap (λ (x : Stopped). hosted_by host x h (λ d m i. walk_hosted host p (g.bound - 1) m i d)) is

  -- the host has answered
  pub going_on : (target : Ran H) (n : ℕ) (h : H) (c : Config) → Going target n h c → (x m : ℕ) (args : List Value) (d : Config) → run p n c ≡ has_asked x args d m → enough m d < enough n c →
      (v : Option Value) (e : Config) (left : ℕ) (i : H) → host h x args d m ≡ answers v e left i → (f : Config) → f ≡ answered_config v e → enough left f ≤ enough m d → Going target left i f
  going_on target n h c g x m args d is less v e left i answer f f_is low =
      record {
        bound = g.bound - 1;
        far = omega (arith, g.far, less, low);
        rest = going_stop target n h c g (has_asked x args d m) is
            ∙ ap (λ a. hosted (has_asked x args d m) h a (λ b k j. walk_hosted host p (g.bound - 1) k j b)) answer
            ∙ ap (λ (y : Config). walk_hosted host p (g.bound - 1) left i y) (sym f_is);
      }

  -- the host has ended it
  pub going_end : (target : Ran H) (n : ℕ) (h : H) (c : Config) → Going target n h c → (x m : ℕ) (args : List Value) (d : Config) → run p n c ≡ has_asked x args d m →
      (s : Stopped) (i : H) → host h x args d m ≡ ends s i → target ≡ ran s i
  going_end target n h c g x m args d is s i answer =
      going_stop target n h c g (has_asked x args d m) is ∙ ap (λ a. hosted (has_asked x args d m) h a (λ b k j. walk_hosted host p (g.bound - 1) k j b)) answer
