use Rattle.std.proofs.Common.{◌≡◌, ◌<◌, ◌≤◌, ℕ, ◌+◌, vec_len}
use Rattle.live_sockets.specs.Homes.{AreHome, offers}
use Rattle.live_sockets.specs.Numbers.{home_of}
use Rattle.live_sockets.specs.Places.{most_places}
use Rattle.live_sockets.proofs.origin.Acceptor.accept.Given as goal

-- of this many lines at most, more were accepted, each for its worker, and none for the first, of which numbers were passed over only while it had no place
abbrev pub invariant-loop : goal.invariant-loop
invariant-loop g l =
    record {
      grows : l.fn.self.accepted ≤ l.self.accepted;
      rises : l.fn.self.number ≤ l.self.number;
      most : l.self.most ≡ l.fn.self.most;
      within : l.fn.self.accepted ≤ l.fn.self.most → l.self.accepted ≤ l.self.most;
      few : l.self.accepted + l.self.left ≤ l.fn.self.accepted + l.fn.self.left;
      all : (k : ℕ) → l.fn.self.number < k → k ≤ l.self.number → home_of k (vec_len l.self.others) ≡ 0 → most_places ≤ l.kept;
      others : vec_len l.self.others ≡ vec_len l.fn.self.others;
      offered : AreHome l.fn.self.number l.fn.self.others.items → AreHome l.self.number l.self.others.items;
      given : l.self.accepted + offers l.fn.self.others.items ≡ l.fn.self.accepted + offers l.self.others.items;
    }
