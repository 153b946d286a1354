-- The worked examples, by computation.
use Rattle.std.proofs.Common.{◌≡◌, true, false, List, [], ◌∷◌, ap, ◌∙◌, sym, refl, subst, arith}
use Rattle.filter_chain.specs.declared.item.ChainItem.{ChainItem}
use Rattle.filter_chain.specs.declared.item.ChainItem.TheVariants.{Head, Piece, Trailers}
use Rattle.law_chain.specs.Acts.{AreActs}
use Rattle.law_chain.specs.Examples.{PassThroughExamples, changed, changing, held_up, resumed, let_on, start}
use Rattle.law_chain.specs.PassThrough.{Thinner, none, keeps, drops}

changed_are : AreActs 2 changed start
changed_are = (tt, ((refl, (tt, (((omega arith), _, refl), (((omega arith), _, refl), tt)))), ((tt, λ _. tt), ((refl, (tt, (((omega arith), _, refl), (((omega arith), _, refl), tt)))), ((tt, λ _. tt), (tt, ((refl, (tt, (((omega arith), _, refl), (((omega arith), _, refl), tt)))), ((refl, λ _. tt), ((refl, (tt, (((omega arith), _, refl), (((omega arith), _, refl), tt)))), ((refl, λ _. tt), (tt, ((refl, (tt, (((omega arith), _, refl), (((omega arith), _, refl), tt)))), ((refl, λ _. tt), ((refl, (tt, (((omega arith), _, refl), (((omega arith), _, refl), tt)))), ((refl, λ _. tt), (tt, ((refl, (tt, (((omega arith), _, refl), (((omega arith), _, refl), tt)))), ((refl, λ _. tt), ((refl, (tt, (((omega arith), _, refl), (((omega arith), _, refl), tt)))), ((refl, λ _. tt), tt))))))))))))))))))))

changing_are : AreActs 2 changing start
changing_are = (tt, ((refl, (tt, (((omega arith), _, refl), (((omega arith), _, refl), tt)))), ((tt, λ _. tt), ((refl, (tt, (((omega arith), _, refl), (((omega arith), _, refl), tt)))), ((tt, λ _. tt), (tt, ((refl, (tt, (((omega arith), _, refl), (((omega arith), _, refl), tt)))), ((refl, λ _. tt), ((refl, (tt, (((omega arith), _, refl), (((omega arith), _, refl), tt)))), ((refl, λ _. tt), (tt, ((refl, (tt, (((omega arith), _, refl), (((omega arith), _, refl), tt)))), ((refl, λ _. tt), ((refl, (tt, (((omega arith), _, refl), (((omega arith), _, refl), tt)))), tt))))))))))))))

held_are : AreActs 0 held_up start
held_are = (tt, ((refl, ((refl, (refl, tt)), (((omega arith), _, refl), (((omega arith), _, refl), tt)))), ((tt, λ e. absurd (cc e)), (tt, tt))))

resumed_are : AreActs 0 resumed start
resumed_are = (tt, ((refl, ((refl, (refl, tt)), (((omega arith), _, refl), (((omega arith), _, refl), tt)))), ((tt, λ e. absurd (cc e)), (tt, ((tt, tt), ((refl, ((refl, (refl, tt)), (((omega arith), _, refl), (((omega arith), _, refl), tt)))), ((tt, λ _. tt), ((refl, ((refl, (refl, tt)), (((omega arith), _, refl), (((omega arith), _, refl), tt)))), ((refl, λ _. tt), tt)))))))))

-- what is no piece without the end is not dropped
first_kept : {a b : List ChainItem} → Thinner a b → (first : ChainItem) (rest : List ChainItem) → a ≡ first ∷ rest → (first ≡ Piece [] false → ⊥) → (kept : List ChainItem) × (b ≡ first ∷ kept) × Thinner rest kept
first_kept none first rest is other = absurd (cc is)
first_kept (keeps {i} {ms} {ns} q) first rest is other =
    let one : i ≡ first = (cc is) in
    let more : ms ≡ rest = (cc is) in
    (ns, ap (λ (k : ChainItem). k ∷ ns) one, subst (λ (l : List ChainItem). Thinner l ns) more q)
first_kept (drops q) first rest is other =
    let one : Piece [] false ≡ first = (cc is) in
    absurd (other (sym one))

end_kept : Thinner (Head false ∷ Piece [] true ∷ []) (Head false ∷ []) → ⊥
end_kept thin =
    let first = first_kept thin (Head false) (Piece [] true ∷ []) refl (λ e. cc e) in
    let second = first_kept first.2 (Piece [] true) [] refl (λ e. cc e) in
    let same : Head false ∷ [] ≡ Head false ∷ Piece [] true ∷ second.0 = first.1 ∙ ap (λ (l : List ChainItem). Head false ∷ l) second.1 in
    cc same

kind_kept : Thinner (Head false ∷ Piece [] true ∷ []) (Head false ∷ Piece [] false ∷ Trailers ∷ []) → ⊥
kind_kept thin =
    let first = first_kept thin (Head false) (Piece [] true ∷ []) refl (λ e. cc e) in
    let second = first_kept first.2 (Piece [] true) [] refl (λ e. cc e) in
    let same : Head false ∷ Piece [] false ∷ Trailers ∷ [] ≡ Head false ∷ Piece [] true ∷ second.0 = first.1 ∙ ap (λ (l : List ChainItem). Head false ∷ l) second.1 in
    cc same

place_kept : Thinner (Head false ∷ Piece [] true ∷ []) (Piece [] true ∷ Head false ∷ []) → ⊥
place_kept thin =
    let first = first_kept thin (Head false) (Piece [] true ∷ []) refl (λ e. cc e) in
    cc first.1

let_are : AreActs 2 let_on start
let_are = (tt, ((refl, (tt, (((omega arith), _, refl), (((omega arith), _, refl), tt)))), ((tt, λ e. absurd (cc e)), (tt, ((λ e. absurd (cc e), tt), ((refl, (tt, (((omega arith), _, refl), (((omega arith), _, refl), tt)))), ((tt, λ _. tt), ((refl, (tt, (((omega arith), _, refl), (((omega arith), _, refl), tt)))), ((refl, λ _. tt), (tt, ((refl, (tt, (((omega arith), _, refl), (((omega arith), _, refl), tt)))), ((refl, λ _. tt), tt))))))))))))

pub pass_through_examples : PassThroughExamples
pass_through_examples = record {
  start_new = record {
    due = refl;
    idle = (record { waiting = refl; holding = refl; asking = refl; empty = refl }, (record { waiting = refl; holding = refl; asking = refl; empty = refl }, tt));
    there = (((omega arith), _, refl), (((omega arith), _, refl), tt));
    apart = ((λ vm context response. cc context, tt), (tt, tt));
  };
  changed_acts = changed_are;
  changed_order = (λ e. absurd (cc e), (λ e. absurd (cc e), (λ e. absurd (cc e), (λ _. refl, tt))));
  changed_left = refl;
  changed_buffers = refl;
  changed_came = refl;
  changed_ends = refl;
  changed_bare = refl;
  changed_inside = refl;
  changing_acts = changing_are;
  changing_left = refl;
  changing_buffers = refl;
  changing_ends = refl;
  changing_behind = refl;
  changing_inside = refl;
  held_acts = held_are;
  held_left = refl;
  held_came = refl;
  held_behind = refl;
  held_inside = refl;
  resumed_acts = resumed_are;
  resumed_left = refl;
  resumed_behind = refl;
  let_acts = let_are;
  let_left = refl;
  let_buffers = refl;
  last_stays = λ are. are.0.0 refl;
  others_may = ((λ e. absurd (cc e), tt), tt);
  dropped = keeps (drops (keeps none));
  no_end_dropped = end_kept;
  no_trailers_for_an_end = kind_kept;
  no_head_behind = place_kept;
}
