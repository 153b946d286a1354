-- The first words of a list, which `clap` reads, and the words after them.
use Rattle.std.proofs.Common.{◌≡◌, ℕ, ◌+◌, ◌≤◌, List, [], ◌∷◌, Bool, true, ◌&&◌, map, length, take, drop, refl, ap, sym, codes, bytes_eq, nat_le, arith, string_bytes, String}
use Rattle.std.specs.List.{list_all}
use Rattle.std.proofs.lemmas.List.{length-map}
use Rattle.std.specs.declared.alloc.Global.{Global}
use Rattle.std.proofs.lemmas.Bool.{and_parts}
use Rattle.command_words.specs.Forms.{is_plain, are_plain, are_numbers, names_script, is_replay, is_invoke, is_one, is_two, second, third, behind_two, behind_three}

abbrev pub Words : Type 0
Words = List (String Global)

abbrev pub texts : Words → List (List ℕ)
texts ws = map string_bytes ws

two_by : (ws : List (List ℕ)) → is_replay ws ≡ true → 2 ≤ length ws
two_by [] h = cc
two_by (a ∷ []) h = cc
two_by (a ∷ b ∷ more) h = omega arith

three_by : (ws : List (List ℕ)) → is_invoke ws ≡ true → 3 ≤ length ws
three_by [] h = cc
three_by (a ∷ []) h = cc
three_by (a ∷ b ∷ []) h = cc
three_by (a ∷ b ∷ c ∷ more) h = omega arith

pub replay_long : (ws : Words) → is_replay (texts ws) ≡ true → 2 ≤ length ws
replay_long ws h = omega (arith, two_by (texts ws) h, length-map ws string_bytes)

pub invoke_long : (ws : Words) → is_invoke (texts ws) ≡ true → 3 ≤ length ws
invoke_long ws h = omega (arith, three_by (texts ws) h, length-map ws string_bytes)

pub replay_one : (ws : Words) → is_replay (texts ws) ≡ true → is_one (texts (take 2 ws)) ≡ true
replay_one [] h = cc
replay_one (a ∷ []) h = cc
replay_one (a ∷ s ∷ ms) h =
    let p = and_parts (bytes_eq (string_bytes a) (codes "replay")) _ h in
    (and_parts (names_script (string_bytes s)) (nat_le (length (texts ms)) 16 && are_plain (texts ms)) p.1).0

pub invoke_two : (ws : Words) → is_invoke (texts ws) ≡ true → is_two (texts (take 3 ws)) ≡ true
invoke_two [] h = cc
invoke_two (a ∷ []) h = cc
invoke_two (a ∷ m ∷ []) h = cc
invoke_two (a ∷ m ∷ e ∷ ns) h =
    let p = and_parts (bytes_eq (string_bytes a) (codes "invoke")) _ h in
    let q = and_parts (is_plain (string_bytes m)) (is_plain (string_bytes e) && (nat_le (length (texts ns)) 16 && are_numbers (texts ns))) p.1 in
    let r = and_parts (is_plain (string_bytes e)) (nat_le (length (texts ns)) 16 && are_numbers (texts ns)) q.1 in
    rw (q.0, r.0)

pub second-cut_two : (ws : Words) → second (texts (take 2 ws)) ≡ second (texts ws)
second-cut_two [] = refl
second-cut_two (a ∷ []) = refl
second-cut_two (a ∷ b ∷ more) = refl

pub second-cut_three : (ws : Words) → second (texts (take 3 ws)) ≡ second (texts ws)
second-cut_three [] = refl
second-cut_three (a ∷ []) = refl
second-cut_three (a ∷ b ∷ []) = refl
second-cut_three (a ∷ b ∷ c ∷ more) = refl

pub third-cut_three : (ws : Words) → third (texts (take 3 ws)) ≡ third (texts ws)
third-cut_three [] = refl
third-cut_three (a ∷ []) = refl
third-cut_three (a ∷ b ∷ []) = refl
third-cut_three (a ∷ b ∷ c ∷ more) = refl

pub rest_of_two : (ws : Words) → texts (drop 2 ws) ≡ behind_two (texts ws)
rest_of_two [] = refl
rest_of_two (a ∷ []) = refl
rest_of_two (a ∷ b ∷ more) = refl

pub rest_of_three : (ws : Words) → texts (drop 3 ws) ≡ behind_three (texts ws)
rest_of_three [] = refl
rest_of_three (a ∷ []) = refl
rest_of_three (a ∷ b ∷ []) = refl
rest_of_three (a ∷ b ∷ c ∷ more) = refl
