use Rattle.std.proofs.Common.{rules, false, All, IfSome, ◌≡◌, ◌∙◌, ◌+◌, [], ◌∷◌, ◌++◌, List, map, reverse, ap, sym, subst, vec_len, ℕ}
use Rattle.shared_seats.specs.Seats.{SeatsOf}
use Rattle.fleet.specs.Moves.{AreFrom}
use Rattle.fleet.specs.declared.post.Post.{Post}
use Rattle.worker_model.specs.declared.types.Turn.TheVariants.{Stopped}
use Rattle.fleet.proofs.Eaches.{all_left}
use Rattle.fleet.proofs.Moving.{moved, one_more}
use Rattle.fleet.proofs.moves.post_all.Goals as goal

pub moves-preserved : goal.moves-preserved
moves-preserved g c =
    let so = c.moves.invariant in
    let put = c.push_reserved.ensures.items in
    let W : Type 0 = g.row.W.Denot in
    let ps : List (Post W) = c.moves.posts.items in
    let p : Post W = record { watched = c.new-in-Some.result; seats = c.unwrap-seats.result; who = c.unwrap-who.result; end = Stopped; again = false } in
    let same : c.new-in-Some.result ≡ c.in-Some.world = c.new-in-Some.ensures in
    let lists_are : c.moves.lists.items ≡ c.pop-in-Some.new.self.items ++ c.unwrap-seats.result ∷ [] = search rules in
    let fewer : vec_len c.moves.worlds ≡ vec_len c.pop.new.self + 1 = search rules in
    let who : c.unwrap-who.result ≡ vec_len c.pop.new.self + 1 = search rules in
    record {
      worlds = rw put (moved {A = Post W} {B = W} (λ q. q.watched) c.pop.new.self.items ps p c.args.worlds.now.items (ap (λ (w : W). (c.pop.new.self.items ++ w ∷ []) ++ reverse (map (λ (q : Post W). q.watched) ps)) same ∙ ap (λ (l : List W). l ++ reverse (map (λ (q : Post W). q.watched) ps)) (sym c.in-Some.ensures.items) ∙ so.worlds));
      lists = rw put (moved {A = Post W} {B = SeatsOf} (λ q. q.seats) c.pop-in-Some.new.self.items ps p c.args.lists.now.items (ap (λ (l : List SeatsOf). l ++ reverse (map (λ (q : Post W). q.seats) ps)) (sym lists_are) ∙ so.lists));
      fresh = all_left (λ (w : W). IfSome (g.W.World.trace w) (λ trace. trace ≡ [])) c.pop.new.self.items (c.in-Some.world ∷ []) (subst (λ (l : List W). All (λ (w : W). IfSome (g.W.World.trace w) (λ trace. trace ≡ [])) l) c.in-Some.ensures.items so.fresh);
      as_many = search rules;
      all = search rules;
      numbers = rw put (one_more (vec_len c.pop.new.self) ps p (subst (λ (n : ℕ). AreFrom n ps) fewer so.numbers) who);
      room = search rules;
      worlds_room = search rules;
      lists_room = search rules;
    }
