use Rattle.std.proofs.Common.{◌≡◌, ◌<◌, ◌≤◌, ℕ, vec_len}
use Rattle.live_sockets.specs.Numbers.{home_of}
use Rattle.live_sockets.specs.Places.{most_places}
use Rattle.live_sockets.proofs.origin.Acceptor.free_number.Given as goal

-- the numbers after the last one up to this are of workers that have no place
abbrev pub invariant-loop : goal.invariant-loop
invariant-loop l =
    record {
      grows : l.fn.self.number ≤ l.number;
      passed : (k : ℕ) → l.fn.self.number < k → k ≤ l.number → home_of k (vec_len l.fn.self.others) ≡ 0 → most_places ≤ l.kept;
    }
