-- One direction of a line passes its bytes: proofs, over those of a chain.
use Rattle.std.proofs.Common.{◌≡◌, ℕ, List, [], ◌∷◌, ◌++◌, ap, sym, ◌∙◌, refl}
use Rattle.std.proofs.lemmas.List.{append_assoc}
use Rattle.contexts.specs.declared.parts.Contexts.{Contexts}
use Rattle.filter_chain.specs.declared.stage.Stage.{Stage}
use Rattle.filter_chain.specs.declared.item.ChainItem.{ChainItem}
use Rattle.filter_chain.specs.Items.{bytes_in, item_bytes}
use Rattle.filter_chain.specs.Flow.{flow, Act, puts, asks, pauses, continues, Does, items_put}
use Rattle.filter_chain.proofs.Flows.{all_keep}
use Rattle.tcp_filters.specs.Passing.{SameBuffers, DoesAmong, StreamsPass}
use Rattle.tcp_filters.proofs.Sending.{append_none, what_leaves_is_sent}

joined_more : (a b : List ChainItem) → item_bytes (a ++ b) ≡ item_bytes a ++ item_bytes b
joined_more [] b = refl
joined_more (i ∷ a) b = ap (λ (x : List ℕ). bytes_in i ++ x) (joined_more a b) ∙ sym (append_assoc (bytes_in i) (item_bytes a) (item_bytes b))

no_more : (items : List ChainItem) → items ++ [] ≡ items
no_more [] = refl
no_more (i ∷ items) = ap (λ (l : List ChainItem). i ∷ l) (no_more items)

came_more : (act : Act) (acts : List Act) → item_bytes (items_put (act ∷ acts)) ≡ item_bytes (items_put (act ∷ [])) ++ item_bytes (items_put acts)
came_more (puts item) acts = ap (λ (l : List ℕ). l ++ item_bytes (items_put acts)) (sym (append_none (bytes_in item)))
came_more (asks k) acts = refl
came_more (pauses k) acts = refl
came_more (continues k) acts = refl

-- what is with stages whose buffers are as they were is as it was
flow_same : (h k : Contexts) (ss : List Stage) → SameBuffers h k ss → flow k ss ≡ flow h ss
flow_same h k [] same = refl
flow_same h k (s ∷ ss) same = (λ i. flow_same h k ss same.1 i ++ (same.0 i ++ item_bytes s.waiting))

one_keeps : (h : Contexts) (stages : List Stage) (act : Act) (out : List ChainItem) (k : Contexts) (after : List Stage) → Does h stages act out k after
    → item_bytes out ++ flow k after ≡ flow h stages ++ item_bytes (items_put (act ∷ []))
one_keeps h stages act out k after does = all_keep h stages (act ∷ []) out k after (out, [], k, after, does, (refl, refl, refl), sym (no_more out))

among_keeps : (h : Contexts) (stages : List Stage) (acts : List Act) (out : List ChainItem) (k : Contexts) (after : List Stage) → DoesAmong h stages acts out k after
    → item_bytes out ++ flow k after ≡ flow h stages ++ item_bytes (items_put acts)
among_keeps h stages [] out k after does =
    (λ i. item_bytes (does.0 i) ++ flow k (does.2 i)) ∙ (flow_same h k stages does.1 ∙ sym (append_none (flow h stages)))
among_keeps h stages (act ∷ acts) out k after does =
    ap (λ (o : List ChainItem). item_bytes o ++ flow k after) does.8
    ∙ (ap (λ (l : List ℕ). l ++ flow k after) (joined_more does.0 does.1)
    ∙ (append_assoc (item_bytes does.0) (item_bytes does.1) (flow k after)
    ∙ (ap (λ (l : List ℕ). item_bytes does.0 ++ l) (among_keeps does.3 does.4 acts does.1 k after does.7)
    ∙ (sym (append_assoc (item_bytes does.0) (flow does.3 does.4) (item_bytes (items_put acts)))
    ∙ (ap (λ (l : List ℕ). l ++ item_bytes (items_put acts)) (one_keeps does.2 stages act does.0 does.3 does.4 does.6)
    ∙ (ap (λ (l : List ℕ). (l ++ item_bytes (items_put (act ∷ []))) ++ item_bytes (items_put acts)) (flow_same h does.2 stages does.5)
    ∙ (append_assoc (flow h stages) (item_bytes (items_put (act ∷ []))) (item_bytes (items_put acts)) ∙ ap (λ (l : List ℕ). flow h stages ++ l) (sym (came_more act acts)))))))))

pub streams_pass : StreamsPass
streams_pass = record {
  up = λ h stages acts out k after l runs does. ap (λ (x : List ℕ). x ++ flow k after) (what_leaves_is_sent.up out l runs) ∙ among_keeps h stages acts out k after does;
  down = λ h stages acts out k after l runs whole does.
      ap (λ (x : List ℕ). x ++ flow k after) (what_leaves_is_sent.down out l runs ∙ ap item_bytes whole) ∙ among_keeps h stages acts out k after does;
}
