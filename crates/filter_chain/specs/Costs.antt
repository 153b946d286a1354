-- HOW MUCH IS LEFT TO DO in a chain: an item that waits is to be asked and then passed on at each stage, one that is held is
-- to be passed on. No byte counts, and no context.
use Rattle.std.specs.Prelude.{◌≡◌, ◌<◌, ◌≤◌, ℕ, ◌+◌, true, false, List, [], ◌∷◌, length, drop}
use Rattle.contexts.specs.declared.parts.Contexts.{Contexts}
use Rattle.filter_chain.specs.declared.stage.Stage.{Stage}
use Rattle.filter_chain.specs.declared.item.ChainItem.{ChainItem}
use Rattle.filter_chain.specs.declared.item.Held.{Held}
use Rattle.filter_chain.specs.declared.item.Held.TheVariants as held
use Rattle.filter_chain.specs.declared.item.Asking.{Asking}
use Rattle.filter_chain.specs.declared.item.Asking.TheVariants.{Nothing, Over, Asks}
use Rattle.filter_chain.specs.Chains.{put, continued, let_through, asked}

-- each of these items costs so much
abbrev pub cost_of_items : ℕ → List ChainItem → ℕ
cost_of_items c [] = 0
cost_of_items c (i ∷ items) = c + cost_of_items c items

-- what is held by a stage with so many after it
abbrev pub held_cost : ℕ → Held → ℕ
held_cost r held.Nothing = 0
held_cost r (held.Head end) = 1 + (r + r)
held_cost r (held.Body end) = 1 + (r + r)
held_cost r (held.Trailers false) = 1 + (r + r)
held_cost r (held.Trailers true) = 2 + (r + r) + (r + r)

abbrev pub stage_cost : ℕ → Stage → ℕ
stage_cost r s = cost_of_items (2 + (r + r)) s.waiting + held_cost r s.held

abbrev pub chain_cost : List Stage → ℕ
chain_cost [] = 0
chain_cost (s ∷ ss) = chain_cost ss + stage_cost (length ss) s

-- less is left, where a callback is to come
abbrev pub Falls : List Stage → Asking × List Stage × Contexts → Type 0
Falls stages (Nothing, after, h) = Unit {0}
Falls stages (Over k, after, h) = Unit {0}
Falls stages (Asks ask, after, h) = chain_cost after < chain_cost stages

-- each ask that asks leaves less to do
abbrev pub AskingFalls : Type 0
AskingFalls = (h : Contexts) (stages : List Stage) → Falls stages (asked h stages)

-- what goes on leaves no more to do, wherever it goes and also where it is too much; an item that comes adds two a stage
pub record GoingOnAddsNothing : Type 0 where
  pub continued_cost : (h : Contexts) (k : ℕ) (stages : List Stage) → chain_cost (continued h k stages).1 ≤ chain_cost stages
  pub let_through_cost : (h : Contexts) (k : ℕ) (stages : List Stage) → chain_cost (let_through h k stages).1 ≤ chain_cost stages
  pub put_cost : (h : Contexts) (item : ChainItem) (stages : List Stage) → chain_cost (put h item stages).1 ≤ chain_cost stages + (length stages + length stages)
  pub drop_cost : (n : ℕ) (stages : List Stage) → chain_cost (drop n stages) ≤ chain_cost stages

-- no call makes a chain longer or shorter
pub record StagesStay : Type 0 where
  pub continued_length : (h : Contexts) (k : ℕ) (stages : List Stage) → length (continued h k stages).1 ≡ length stages
  pub let_through_length : (h : Contexts) (k : ℕ) (stages : List Stage) → length (let_through h k stages).1 ≡ length stages
  pub put_length : (h : Contexts) (item : ChainItem) (stages : List Stage) → length (put h item stages).1 ≡ length stages
