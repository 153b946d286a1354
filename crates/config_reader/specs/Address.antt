-- The addresses of a configuration: four numbers with dots, a colon and a port.
use Rattle.std.specs.Prelude.{ℕ, ◌+◌, List, Bool, false, ◌&&◌, ◌==◌, take, drop, position, Option, Some, None, option_map}
use Rattle.config_reader.specs.Words.{is_between}

-- what stands before the first such byte, and after it
abbrev pub cut : ℕ → List ℕ → Option (List ℕ × List ℕ)
cut b s = option_map (λ i. (take i s, drop (i + 1) s)) (position (λ x. x == b) s)

-- the text is cut, what stands before the cut passes the first test, and what stands after it the second
abbrev pub parts_are : (List ℕ → Bool) → (List ℕ → Bool) → Option (List ℕ × List ℕ) → Bool
parts_are first second None = false
parts_are first second (Some p) = first p.0 && second p.1

abbrev pub is_octet : List ℕ → Bool
is_octet s = is_between 0 255 s

abbrev pub is_pair : List ℕ → Bool
is_pair s = parts_are is_octet is_octet (cut 46 s)

abbrev pub is_triple : List ℕ → Bool
is_triple s = parts_are is_octet is_pair (cut 46 s)

-- four numbers up to 255 with a dot between two
abbrev pub is_host : List ℕ → Bool
is_host s = parts_are is_octet is_triple (cut 46 s)

abbrev pub is_port : List ℕ → Bool
is_port s = is_between 1 65535 s

abbrev pub is_address : List ℕ → Bool
is_address s = parts_are is_host is_port (cut 58 s)
