-- What holds of the operations on bodies.
use Rattle.std.specs.Prelude.{◌≡◌, ◌≤◌, ◌<◌, ℕ, ◌+◌, ◌-◌, List, length, slice_index}
use Rattle.body_buffers.specs.Bodies.{spliced, part_of}

-- a splice within the bytes: what stood before the range stays at its place, the given bytes follow, then what stood behind it
pub record SplicePutsInPlace : Type 0 where
  pub before :
      (bytes given : List ℕ) (start size k : ℕ) → start + size ≤ length bytes → k < start
      → slice_index (spliced bytes start size given) k ≡ slice_index bytes k
  pub inside :
      (bytes given : List ℕ) (start size k : ℕ) → start + size ≤ length bytes → k < length given
      → slice_index (spliced bytes start size given) (start + k) ≡ slice_index given k
  pub behind :
      (bytes given : List ℕ) (start size k : ℕ) → start + size ≤ length bytes → k < length bytes - (start + size)
      → slice_index (spliced bytes start size given) (start + length given + k) ≡ slice_index bytes (start + size + k)
  pub many :
      (bytes given : List ℕ) (start size : ℕ) → start + size ≤ length bytes
      → length (spliced bytes start size given) + size ≡ length bytes + length given
  -- what was given is read back
  pub read_back :
      (bytes given : List ℕ) (start size : ℕ) → start ≤ length bytes
      → part_of (spliced bytes start size given) start (length given) ≡ given
