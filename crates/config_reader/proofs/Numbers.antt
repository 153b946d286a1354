-- One digit more.
use Rattle.std.proofs.Common.{◌≡◌, ℕ, ◌+◌, ◌-◌, ◌*◌, ◌<◌, ◌≤◌, min, List, length, get_or, drop, refl, ap, sym, ◌∙◌}
use Rattle.std.proofs.lemmas.List.{drop_more, drop_all}
use Rattle.config_reader.specs.Words.{number_from}

pub number_step : (n : ℕ) (s : List ℕ) (i : ℕ) → i < length s → number_from n (drop i s) ≡ number_from (min (n * 10 + (get_or s i 0 - 48)) 1000000) (drop (i + 1) s)
unfolding number_from
number_step n s i low = rw (drop_more s i 0 low)

pub number_end : (n : ℕ) (s : List ℕ) (i : ℕ) → length s ≤ i → number_from n (drop i s) ≡ n
unfolding number_from
number_end n s i past = rw (drop_all i s past)
