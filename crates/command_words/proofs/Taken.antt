-- What `clap` reads of a list of words of each form.
use Rattle.std.proofs.Common.{◌≡◌, ◌≢◌, ℕ, ◌==◌, ◌&&◌, nat_le, cond, List, [], ◌∷◌, Bool, true, false, not, Option, Some, None, refl, codes, bytes_eq, ap, ◌∙◌, sym, subst, rules, arith}
use Rattle.std.specs.List.{list_all}
use Rattle.std.proofs.lemmas.Bool.{and_parts}
use Rattle.std.proofs.lemmas.Bool.Decides.{nat_tests}
use Rattle.std.proofs.lemmas.Slice.Eq.{bytes_eq-Decides}
use Rattle.clap.specs.Words.{App, Text, takes, matches_of, first_of}
use Rattle.command_words.specs.Forms.{is_plain, names_script, is_digit, is_number, number_of, is_within, is_between, is_one, is_two, is_replay_config, is_serve_until, is_serve, is_check, is_generate, is_report, second, third, fourth}
use Rattle.command_words.proofs.Apps.{one_app, two_app, replay_app, serve_app, one_value, one_takes, one_value_input, one_takes_input, two_takes, two_module, two_export, replay_takes, replay_takes_input, replay_config, replay_script, replay_config_input, replay_script_input, serve_takes, serve_config, serve_stop}

not_true : (b : Bool) → not b ≡ true → b ≡ false
not_true true h = cc
not_true false h = refl

-- the command takes the words, and reads these texts at these ids
pub record Reads (app : App) (words : List Text) (id : Text) (text : Text) : Type 0 where
  pub takes : takes app words ≡ true
  pub value : first_of id (matches_of app words) ≡ Some text

by_input : (a : Text) (x y : ℕ) (c : Text) (v : Bool) → (x == 45) ≡ false → (y == 45) ≡ v → Reads replay_app (a ∷ codes "--config" ∷ (x ∷ c) ∷ (y ∷ []) ∷ []) (codes "config") (x ∷ c) × Reads replay_app (a ∷ codes "--config" ∷ (x ∷ c) ∷ (y ∷ []) ∷ []) (codes "script") (y ∷ [])
by_input a x y c true e f = (record { takes = replay_takes_input a x y c e f; value = replay_config_input a x y c e f }, record { takes = replay_takes_input a x y c e f; value = replay_script_input a x y c e f })
by_input a x y c false e f = (record { takes = replay_takes a x y c [] e f; value = replay_config a x y c [] e f }, record { takes = replay_takes a x y c [] e f; value = replay_script a x y c [] e f })

replay_plain : (a c s : Text) → is_plain c ≡ true → names_script s ≡ true → Reads replay_app (a ∷ codes "--config" ∷ c ∷ s ∷ []) (codes "config") c × Reads replay_app (a ∷ codes "--config" ∷ c ∷ s ∷ []) (codes "script") s
replay_plain a [] s p q = cc
replay_plain a (x ∷ c) [] p q = cc
replay_plain a (x ∷ c) (y ∷ []) p q = by_input a x y c (y == 45) (not_true (x == 45) p) refl
replay_plain a (x ∷ c) (y ∷ z ∷ s) p q =
    let e = not_true (x == 45) p in
    let f = not_true (y == 45) q in
    (record { takes = replay_takes a x y c (z ∷ s) e f; value = replay_config a x y c (z ∷ s) e f }, record { takes = replay_takes a x y c (z ∷ s) e f; value = replay_script a x y c (z ∷ s) e f })

same : (a b : Text) → bytes_eq a b ≡ true → b ≡ a
same a b h = sym ((bytes_eq-Decides a b).0 h)

replay_four : (a b c s : Text) → (bytes_eq a (codes "replay") && (bytes_eq b (codes "--config") && (is_plain c && names_script s))) ≡ true → Reads replay_app (a ∷ b ∷ c ∷ s ∷ []) (codes "config") c × Reads replay_app (a ∷ b ∷ c ∷ s ∷ []) (codes "script") s
replay_four a b c s h =
    let p = and_parts (bytes_eq a (codes "replay")) _ h in
    let q = and_parts (bytes_eq b (codes "--config")) _ p.1 in
    let r = and_parts (is_plain c) (names_script s) q.1 in
    subst (λ (t : Text). Reads replay_app (a ∷ t ∷ c ∷ s ∷ []) (codes "config") c × Reads replay_app (a ∷ t ∷ c ∷ s ∷ []) (codes "script") s) (same b (codes "--config") q.0) (replay_plain a c s r.0 r.1)

pub replay_reads : (ws : List Text) → is_replay_config ws ≡ true → Reads replay_app ws (codes "config") (third ws) × Reads replay_app ws (codes "script") (fourth ws)
replay_reads [] h = cc
replay_reads (a ∷ []) h = cc
replay_reads (a ∷ b ∷ []) h = cc
replay_reads (a ∷ b ∷ c ∷ []) h = cc
replay_reads (a ∷ b ∷ c ∷ s ∷ []) h = replay_four a b c s h
replay_reads (a ∷ b ∷ c ∷ s ∷ t ∷ more) h = cc

-- ---- numbers are plain

within_number : (least most : ℕ) (w : Text) (b : Bool) → is_number w ≡ b → is_between least most w ≡ true → b ≡ true
unfolding number_of
within_number least most w true e h = refl
within_number least most w false e h = let bad : false ≡ true = rw e at h in cc

digit_plain : (x : ℕ) → is_digit x ≡ true → (x == 45) ≡ false
digit_plain x h = let p = and_parts (nat_le 48 x) (nat_le x 57) h in grind (arith, nat_tests)

number_plain : (x : ℕ) (n : Text) → is_number (x ∷ n) ≡ true → (x == 45) ≡ false
number_plain x [] h = digit_plain x h
number_plain x (y ∷ n) h =
    let p = and_parts (not (x == 48)) (list_all is_digit (x ∷ y ∷ n)) h in
    digit_plain x (and_parts (is_digit x) (list_all is_digit (y ∷ n)) p.1).0

serve_plain : (a c n : Text) → is_plain c ≡ true → is_number n ≡ true → Reads serve_app (a ∷ c ∷ codes "--stop-after" ∷ n ∷ []) (codes "config") c × Reads serve_app (a ∷ c ∷ codes "--stop-after" ∷ n ∷ []) (codes "stop") n
serve_plain a [] n p q = cc
serve_plain a (x ∷ c) [] p q = cc
serve_plain a (x ∷ c) (y ∷ n) p q =
    let e = not_true (x == 45) p in
    let f = number_plain y n q in
    (record { takes = serve_takes a x y c n e f; value = serve_config a x y c n e f }, record { takes = serve_takes a x y c n e f; value = serve_stop a x y c n e f })

serve_four : (a c b n : Text) → (bytes_eq a (codes "serve") && (bytes_eq b (codes "--stop-after") && (is_plain c && is_between 1 1000000 n))) ≡ true → Reads serve_app (a ∷ c ∷ b ∷ n ∷ []) (codes "config") c × Reads serve_app (a ∷ c ∷ b ∷ n ∷ []) (codes "stop") n
serve_four a c b n h =
    let p = and_parts (bytes_eq a (codes "serve")) _ h in
    let q = and_parts (bytes_eq b (codes "--stop-after")) _ p.1 in
    let r = and_parts (is_plain c) (is_between 1 1000000 n) q.1 in
    subst (λ (t : Text). Reads serve_app (a ∷ c ∷ t ∷ n ∷ []) (codes "config") c × Reads serve_app (a ∷ c ∷ t ∷ n ∷ []) (codes "stop") n) (same b (codes "--stop-after") q.0) (serve_plain a c n r.0 (within_number 1 1000000 n (is_number n) refl r.1))

pub serve_reads : (ws : List Text) → is_serve_until ws ≡ true → Reads serve_app ws (codes "config") (second ws) × Reads serve_app ws (codes "stop") (fourth ws)
serve_reads [] h = cc
serve_reads (a ∷ []) h = cc
serve_reads (a ∷ b ∷ []) h = cc
serve_reads (a ∷ b ∷ c ∷ []) h = cc
serve_reads (a ∷ b ∷ c ∷ s ∷ []) h = serve_four a b c s h
serve_reads (a ∷ b ∷ c ∷ s ∷ t ∷ more) h = cc

one_input : (name a : Text) (y : ℕ) (v : Bool) → (y == 45) ≡ v → Reads (one_app name) (a ∷ (y ∷ []) ∷ []) (codes "value") (y ∷ [])
one_input name a y true e = record { takes = one_takes_input name a y e; value = one_value_input name a y e }
one_input name a y false e = record { takes = one_takes name a y [] e; value = one_value name a y [] e }

one_plain : (name a b : Text) → names_script b ≡ true → Reads (one_app name) (a ∷ b ∷ []) (codes "value") b
one_plain name a [] q = cc
one_plain name a (y ∷ []) q = one_input name a y (y == 45) refl
one_plain name a (y ∷ z ∷ b) q = let f = not_true (y == 45) q in record { takes = one_takes name a y (z ∷ b) f; value = one_value name a y (z ∷ b) f }

pub one_reads : (name : Text) (ws : List Text) → is_one ws ≡ true → Reads (one_app name) ws (codes "value") (second ws)
one_reads name [] h = cc
one_reads name (a ∷ []) h = cc
one_reads name (a ∷ b ∷ []) h = one_plain name a b h
one_reads name (a ∷ b ∷ c ∷ more) h = cc

two_plain : (a b c : Text) → is_plain b ≡ true → is_plain c ≡ true → Reads two_app (a ∷ b ∷ c ∷ []) (codes "module") b × Reads two_app (a ∷ b ∷ c ∷ []) (codes "export") c
two_plain a [] c p q = cc
two_plain a (x ∷ b) [] p q = cc
two_plain a (x ∷ b) (y ∷ c) p q =
    let e = not_true (x == 45) p in
    let f = not_true (y == 45) q in
    (record { takes = two_takes a x y b c e f; value = two_module a x y b c e f }, record { takes = two_takes a x y b c e f; value = two_export a x y b c e f })

pub two_reads : (ws : List Text) → is_two ws ≡ true → Reads two_app ws (codes "module") (second ws) × Reads two_app ws (codes "export") (third ws)
two_reads [] h = cc
two_reads (a ∷ []) h = cc
two_reads (a ∷ b ∷ []) h = cc
two_reads (a ∷ b ∷ c ∷ []) h = let p = and_parts (is_plain b) (is_plain c) h in two_plain a b c p.0 p.1
two_reads (a ∷ b ∷ c ∷ d ∷ more) h = cc

number_names : (n : Text) → is_number n ≡ true → names_script n ≡ true
number_names [] h = cc
number_names (y ∷ []) h = refl
number_names (y ∷ z ∷ n) h = let f = number_plain y (z ∷ n) h in rw f

plain_names : (w : Text) → is_plain w ≡ true → names_script w ≡ true
plain_names [] h = cc
plain_names (y ∷ []) h = refl
plain_names (y ∷ z ∷ w) h = h

-- the words of each command with one value
pub serve_one : (ws : List Text) → is_serve ws ≡ true → is_one ws ≡ true
serve_one [] h = cc
serve_one (a ∷ []) h = cc
serve_one (a ∷ c ∷ []) h = plain_names c (and_parts (bytes_eq a (codes "serve")) (is_plain c) h).1
serve_one (a ∷ b ∷ c ∷ more) h = cc

pub check_one : (ws : List Text) → is_check ws ≡ true → is_one ws ≡ true
check_one [] h = cc
check_one (a ∷ []) h = cc
check_one (a ∷ c ∷ []) h = plain_names c (and_parts (bytes_eq a (codes "check")) (is_plain c) h).1
check_one (a ∷ b ∷ c ∷ more) h = cc

pub report_one : (ws : List Text) → is_report ws ≡ true → is_one ws ≡ true
report_one [] h = cc
report_one (a ∷ []) h = cc
report_one (a ∷ m ∷ []) h = plain_names m (and_parts (bytes_eq a (codes "report")) (is_plain m) h).1
report_one (a ∷ b ∷ c ∷ more) h = cc

pub generate_one : (ws : List Text) → is_generate ws ≡ true → is_one ws ≡ true
generate_one [] h = cc
generate_one (a ∷ []) h = cc
generate_one (a ∷ n ∷ []) h =
    number_names n (within_number 0 4294967295 n (is_number n) refl (and_parts (bytes_eq a (codes "generate")) (is_between 0 4294967295 n) h).1)
generate_one (a ∷ b ∷ c ∷ more) h = cc

some_number : (least most : ℕ) (o : Option ℕ) → is_within least most o ≡ true → o ≢ None
some_number least most None h = cc
some_number least most (Some n) h = λ none. cc

pub generate_number : (ws : List Text) → is_generate ws ≡ true → number_of (second ws) ≢ None
generate_number [] h = cc
generate_number (a ∷ []) h = cc
generate_number (a ∷ n ∷ []) h = some_number 0 4294967295 (number_of n) (and_parts (bytes_eq a (codes "generate")) (is_between 0 4294967295 n) h).1
generate_number (a ∷ b ∷ c ∷ more) h = cc
