-- Laws of what passes between a world and its worker.
use Rattle.std.specs.Prelude.{◌≡◌, List, ◌++◌, length, Option, Some, option_map}
use Rattle.gate_io.specs.declared.passed.Passed.{Passed}
use Rattle.gate_io.specs.Passing.{happened, received, asked, short, short_from}
use Rattle.gate_io.specs.Told.{Gains}

-- What is read off what passed goes on by what is read off that by which it goes on. A shortfall's count of events goes on too.
pub record ReadsGoOn : Type 0 where
  pub events : (old : Option (List Passed)) (more : List Passed) (new : Option (List Passed)) → Gains old more new → Gains (option_map happened old) (happened more) (option_map happened new)
  pub sent : (old : Option (List Passed)) (more : List Passed) (new : Option (List Passed)) → Gains old more new → Gains (option_map received old) (received more) (option_map received new)
  pub wants : (old : Option (List Passed)) (more : List Passed) (new : Option (List Passed)) → Gains old more new → Gains (option_map asked old) (asked more) (option_map asked new)
  pub shortfalls : (old more new : List Passed) → Gains (Some old) more (Some new) → short new ≡ short old ++ short_from (length (happened old)) more
