-- Stores whose tables were closed.
use Rattle.std.specs.Prelude.{ℕ, List, slice_index_or}
use Rattle.store_model.specs.Store.{empty_store}
use Rattle.shared_store.specs.declared.closed.ClosedStore.{ClosedStore}

-- the closed store of a VM's number, an empty one that was never called where there is none
abbrev pub closed_at : List ClosedStore → ℕ → ClosedStore
closed_at stores vm = slice_index_or stores vm (record { store = empty_store vm; calls = 0 })
