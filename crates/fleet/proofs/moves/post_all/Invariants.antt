use Rattle.std.proofs.Common.{◌≡◌, ◌+◌, ◌++◌, [], All, IfSome, map, reverse, vec_len, vec_capacity}
use Rattle.fleet.specs.Moves.{world_in, seats_in, AreFrom}
use Rattle.fleet.proofs.moves.post_all.Given as goal

abbrev pub invariant-moves : goal.invariant-moves
invariant-moves g l = record {
  worlds : l.worlds.items ++ reverse (map world_in l.posts.items) ≡ l.fn.worlds.items;
  lists : l.lists.items ++ reverse (map seats_in l.posts.items) ≡ l.fn.lists.items;
  fresh : All (λ w. IfSome (g.W.World.trace w) (λ trace. trace ≡ [])) l.worlds.items;
  as_many : vec_len l.worlds ≡ vec_len l.lists;
  all : vec_len l.posts + vec_len l.worlds ≡ vec_len l.fn.worlds;
  numbers : AreFrom (vec_len l.worlds) l.posts.items;
  room : vec_capacity l.posts ≡ vec_capacity l.fn.posts;
  worlds_room : vec_capacity l.worlds ≡ vec_capacity l.fn.worlds;
  lists_room : vec_capacity l.lists ≡ vec_capacity l.fn.lists;
}

abbrev pub decreases-moves : goal.decreases-moves
decreases-moves g l = vec_len l.worlds
