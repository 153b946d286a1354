-- The tables of all stores and metrics, and a worker's seats at them.
use Rattle.std.specs.Prelude.{◌≡◌, ℕ, List, [], length, map, slice_set}
use mathlib.Core.Option.{some}
use lib.ListN.{get_elem?}
use Rattle.turn_table.specs.Seats.{Seated, TurnTableId}
use Rattle.metric_seats.specs.Places.{IsSamePlace, Metered, MetricTableId, tables_of}
use Rattle.shared_store.specs.Moving as moving
use Rattle.shared_store.specs.Tables as store

pub record TablesOf : Type 0 where
  pub stores : List TurnTableId
  pub metrics : List MetricTableId

pub record SeatsOf : Type 0 where
  pub stores : List Seated
  pub metrics : List Metered

-- the seats at no tables
abbrev pub no_seats : SeatsOf
no_seats = record { stores = []; metrics = [] }

-- one seat at each table, and one place at the metrics of each VM name
pub record AreAtMetrics (tables : TablesOf) (stores : List Seated) (metrics : List Metered) : Type 0 where
  pub places : map tables_of metrics ≡ tables.metrics
  pub as_many : length metrics ≡ length stores

pub record AreAt (tables : TablesOf) (seats : SeatsOf) : Type 0 where
  pub stores : store.AreAt tables.stores seats.stores
  pub metrics : AreAtMetrics tables seats.stores seats.metrics

-- just one seat went on: the one at the store of this VM
pub record StoreWent (old : SeatsOf) (vm : ℕ) (new : SeatsOf) (went : Seated → Seated → Type 0) : Type 0 where
  pub stores : moving.OneWent old.stores vm new.stores went
  pub metrics : new.metrics ≡ old.metrics

-- just one place went on: the one at the metrics of this VM
pub record OneWent (old : SeatsOf) (vm : ℕ) (new : SeatsOf) (went : Metered → Metered → Type 0) : Type 0 where
  pub before : Metered
  pub after : Metered
  pub there_is : get_elem? old.metrics vm ≡ some before
  pub new_is : new ≡ record old { metrics = slice_set old.metrics vm after }
  pub same : IsSamePlace before after
  pub how : went before after
