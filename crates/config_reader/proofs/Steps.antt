-- One step along the keys.
use Rattle.std.proofs.Common.{◌≡◌, ℕ, ◌+◌, ◌<◌, List, ◌∷◌, map, length, get_or, drop, Option, ap, sym, rules}
use Rattle.std.proofs.lemmas.List.{drop_more}
use Rattle.toml.specs.Data.{Members}
use Rattle.gate_config.specs.Given.{Given}
use Rattle.config_reader.specs.declared.keys.Key.{Key}
use Rattle.config_reader.specs.Rows.{row_of}
use Rattle.config_reader.specs.Judge.{fault_of, first_fault, or_then}

pub key_step : (keys : List Key) (i : ℕ) (d : Key) (g : Given) (ms : Members) (r : Option ℕ) → i < length keys → r ≡ fault_of (row_of (get_or keys i d)) g ms → first_fault (map row_of (drop i keys)) g ms ≡ or_then (get_or keys i d).name.now r (first_fault (map row_of (drop (i + 1) keys)) g ms)
key_step keys i d g ms r h e = rw (drop_more keys i d h) (ap (λ (o : Option ℕ). or_then (get_or keys i d).name.now o (first_fault (map row_of (drop (i + 1) keys)) g ms)) (sym e))
