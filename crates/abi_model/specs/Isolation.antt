-- Isolation of host calls: of any row, whatever the call itself is.
use Rattle.std.specs.Prelude.{◌≡◌, ◌<◌, ℕ, List, length}
use Rattle.abi_types.specs.GuestAt.{GuestAt}
use Rattle.contexts.specs.declared.parts.Contexts.{Contexts}
use Rattle.contexts.specs.Reached.{seen_of, put_of}
use Rattle.abi_model.specs.Asking.{Asking, asks}
use Rattle.abi_model.specs.Calls.{Own, does}
use Rattle.abi_model.specs.Writing.{Writing, writes}
use Rattle.abi_model.specs.declared.table.Param.{Param}

-- two hosts that look the same to the effective context give the same end for the guest and the same changes, and look the same
-- to that context afterwards, also where the call made another one effective
abbrev pub CallsAreIsolated : Type 0
CallsAreIsolated = (outside : ℕ) (row : List Param) (own : Own) (args : List ℕ) (g : GuestAt) (vm e : ℕ) (h k : Contexts)
    → vm < length h.vms → vm < length k.vms → seen_of h vm e ≡ seen_of k vm e
    → (does outside row own args g (seen_of h vm e) ≡ does outside row own args g (seen_of k vm e))
    × (seen_of (put_of (does outside row own args g (seen_of h vm e)).changes vm e h) vm e
    ≡ seen_of (put_of (does outside row own args g (seen_of k vm e)).changes vm e k) vm e)

-- the same lines for the log
abbrev pub WritesAreIsolated : Type 0
WritesAreIsolated = (outside : ℕ) (row : List Param) (own : Writing) (args : List ℕ) (g : GuestAt) (vm e : ℕ) (h k : Contexts)
    → seen_of h vm e ≡ seen_of k vm e → writes outside row own args g (seen_of h vm e) ≡ writes outside row own args g (seen_of k vm e)

-- the same calls on the stores, and for equal replies the same further calls and the same end
abbrev pub AsksAreIsolated : Type 0
AsksAreIsolated = (row : List Param) (own : Asking) (args : List ℕ) (g : GuestAt) (vm e : ℕ) (h k : Contexts)
    → seen_of h vm e ≡ seen_of k vm e → asks row own vm args g (seen_of h vm e) ≡ asks row own vm args g (seen_of k vm e)
