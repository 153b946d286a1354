-- HOW MANY MOVES AN EXCHANGE HAS LEFT at most, whatever its filters do: a number that each move makes less, and that nothing but new
-- items and new stages make more. No byte counts, and no context.
use Rattle.std.specs.Prelude.{ℕ, ◌+◌, Bool, true, false, List, [], ◌∷◌, length}
use Rattle.exchange.specs.declared.types.Exchange.{Exchange}
use Rattle.filter_chain.specs.Costs.{chain_cost}

-- so much for each
abbrev pub for_each : {A : Type 0} → ℕ → List A → ℕ
for_each c [] = 0
for_each c (x ∷ xs) = c + for_each c xs

-- An answer that passes the stages of the response may still come: its head and its body are two items, each of which is two at each stage.
-- None comes after an answer, or after the head of a response.
abbrev pub spare_of : (is_answered is_head_out is_headed : Bool) → ℕ → ℕ
spare_of true is_head_out is_headed stages = 0
spare_of false true is_headed stages = 0
spare_of false false true stages = 0
spare_of false false false stages = (stages + stages) + (stages + stages)

abbrev pub spare : Exchange → ℕ
spare x = spare_of x.is_answered x.is_head_out x.is_headed (length x.response)

-- what is left to do in its chains
abbrev pub chains_left : Exchange → ℕ
chains_left x = chain_cost x.request + chain_cost x.response

-- none where it has ended
abbrev pub moves_of : (has_ended : Bool) → ℕ → ℕ → ℕ
moves_of true chains spare = 0
moves_of false chains spare = 1 + chains + spare

abbrev pub moves_left : Exchange → ℕ
moves_left x = moves_of x.has_ended (chains_left x) (spare x)
