-- Worked examples of the places and the looks, and what they are.
use Rattle.std.specs.Prelude.{◌≡◌, ℕ, ◌<◌, [], ◌∷◌}
use Rattle.store_model.specs.declared.metric.MetricKind.{MetricKind}
use Rattle.store_model.specs.declared.metric.MetricKind.TheVariants.{Counter, Gauge}
use Rattle.metric_table.specs.Places.{last_seen, looks_at, place_of}
use Rattle.metric_table.specs.Steps.{look_at}

-- the first word, the last counter and the first gauge of a worker, the first word of the next one, and the last word
abbrev pub worked_places : Type 0
worked_places =
    (place_of 1 Counter 1 ≡ 0) × (place_of 1 Counter 64 ≡ 63) × (place_of 1 Gauge 1 ≡ 64) × (place_of 2 Counter 1 ≡ 128) × (place_of 8 Gauge 64 ≡ 1023)

-- two looks at one word, and one at another between them
abbrev pub worked_looks : Type 0
worked_looks =
    let looks = look_at 128 5 ∷ look_at 0 9 ∷ look_at 128 7 ∷ [] in
    (looks_at 128 looks ≡ 5 ∷ 7 ∷ []) × (last_seen 128 looks ≡ 7) × (last_seen 0 looks ≡ 9) × (last_seen 64 looks ≡ 0)

-- Each worker, kind and id has a word of its own, and there are 1,024 of them.
pub record IsOnlyPlace (who other : ℕ) (kind another : MetricKind) (id further : ℕ) : Type 0 where
  pub within : place_of who kind id < 1024
  pub who_is : place_of who kind id ≡ place_of other another further → who ≡ other
  pub kind_is : place_of who kind id ≡ place_of other another further → kind ≡ another
  pub id_is : place_of who kind id ≡ place_of other another further → id ≡ further
