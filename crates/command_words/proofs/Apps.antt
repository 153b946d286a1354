-- What `clap` makes of the words of each form.
use Rattle.std.proofs.Common.{◌≡◌, ℕ, ◌==◌, ◌&&◌, List, [], ◌∷◌, Bool, true, false, not, Option, Some, None, refl, codes, bytes_eq, ap, ◌∙◌, sym, subst, inl, inr, arith}
use Rattle.std.proofs.lemmas.Bool.{and_parts, cases_Bool}
use Rattle.std.proofs.lemmas.Slice.Eq.{bytes_eq-Decides}
use Rattle.clap.specs.Words.{App, Rule, Text, Row, new_app, new_rule, with_rule, takes, matches_of, first_of, is_simple}
use Rattle.clap.specs.declared.builder.ArgAction.TheVariants.{Set}
use Rattle.clap.proofs.OnLiterals.{clap_on_literals}
use Rattle.command_words.specs.Forms.{is_plain}

abbrev pub value_rule : Rule
value_rule = record (new_rule (codes "value")) { action = Some Set; required = true }

-- a command of this name with one value
abbrev pub one_app : Text → App
one_app name = with_rule (new_app name) value_rule

abbrev pub module_rule : Rule
module_rule = record (new_rule (codes "module")) { action = Some Set; required = true }

abbrev pub export_rule : Rule
export_rule = record (new_rule (codes "export")) { action = Some Set; required = true }

abbrev pub two_app : App
two_app = with_rule (with_rule (new_app (codes "invoke")) module_rule) export_rule

abbrev pub config_rule : Rule
config_rule = record (new_rule (codes "config")) { long = Some (codes "config"); action = Some Set; required = true }

abbrev pub script_rule : Rule
script_rule = record (new_rule (codes "script")) { action = Some Set; required = true }

abbrev pub path_rule : Rule
path_rule = record (new_rule (codes "config")) { action = Some Set; required = true }

abbrev pub stop_rule : Rule
stop_rule = record (new_rule (codes "stop")) { long = Some (codes "stop-after"); action = Some Set }

abbrev pub replay_app : App
replay_app = with_rule (with_rule (new_app (codes "replay")) config_rule) script_rule

abbrev pub serve_app : App
serve_app = with_rule (with_rule (new_app (codes "serve")) path_rule) stop_rule

pub one_simple : (name : Text) → is_simple (one_app name) ≡ true
one_simple name = refl

pub two_simple : is_simple two_app ≡ true
two_simple = refl

pub replay_simple : is_simple replay_app ≡ true
replay_simple = refl

pub serve_simple : is_simple serve_app ≡ true
serve_simple = refl

pub one_value : (name a : Text) (x : ℕ) (n : Text) → (x == 45) ≡ false → first_of (codes "value") (matches_of (one_app name) (a ∷ (x ∷ n) ∷ [])) ≡ Some (x ∷ n)
unfolding clap_on_literals
one_value name a x n e = simp e

pub one_takes : (name a : Text) (x : ℕ) (n : Text) → (x == 45) ≡ false → takes (one_app name) (a ∷ (x ∷ n) ∷ []) ≡ true
unfolding clap_on_literals
one_takes name a x n e = simp e

-- `-` alone is a value too
pub one_value_input : (name a : Text) (x : ℕ) → (x == 45) ≡ true → first_of (codes "value") (matches_of (one_app name) (a ∷ (x ∷ []) ∷ [])) ≡ Some (x ∷ [])
unfolding clap_on_literals
one_value_input name a x e = simp e

pub one_takes_input : (name a : Text) (x : ℕ) → (x == 45) ≡ true → takes (one_app name) (a ∷ (x ∷ []) ∷ []) ≡ true
unfolding clap_on_literals
one_takes_input name a x e = simp e

pub two_takes : (a : Text) (x y : ℕ) (m t : Text) → (x == 45) ≡ false → (y == 45) ≡ false → takes two_app (a ∷ (x ∷ m) ∷ (y ∷ t) ∷ []) ≡ true
unfolding clap_on_literals
two_takes a x y m t e f = simp (e, f)

pub two_module : (a : Text) (x y : ℕ) (m t : Text) → (x == 45) ≡ false → (y == 45) ≡ false → first_of (codes "module") (matches_of two_app (a ∷ (x ∷ m) ∷ (y ∷ t) ∷ [])) ≡ Some (x ∷ m)
unfolding clap_on_literals
two_module a x y m t e f = simp (e, f)

pub two_export : (a : Text) (x y : ℕ) (m t : Text) → (x == 45) ≡ false → (y == 45) ≡ false → first_of (codes "export") (matches_of two_app (a ∷ (x ∷ m) ∷ (y ∷ t) ∷ [])) ≡ Some (y ∷ t)
unfolding clap_on_literals
two_export a x y m t e f = simp (e, f)

pub replay_takes : (a : Text) (x y : ℕ) (c s : Text) → (x == 45) ≡ false → (y == 45) ≡ false → takes replay_app (a ∷ codes "--config" ∷ (x ∷ c) ∷ (y ∷ s) ∷ []) ≡ true
unfolding clap_on_literals
replay_takes a x y c s e f = simp (e, f)

pub replay_takes_input : (a : Text) (x y : ℕ) (c : Text) → (x == 45) ≡ false → (y == 45) ≡ true → takes replay_app (a ∷ codes "--config" ∷ (x ∷ c) ∷ (y ∷ []) ∷ []) ≡ true
unfolding clap_on_literals
replay_takes_input a x y c e f = simp (e, f)

pub replay_config : (a : Text) (x y : ℕ) (c s : Text) → (x == 45) ≡ false → (y == 45) ≡ false → first_of (codes "config") (matches_of replay_app (a ∷ codes "--config" ∷ (x ∷ c) ∷ (y ∷ s) ∷ [])) ≡ Some (x ∷ c)
unfolding clap_on_literals
replay_config a x y c s e f = simp (e, f)

pub replay_script : (a : Text) (x y : ℕ) (c s : Text) → (x == 45) ≡ false → (y == 45) ≡ false → first_of (codes "script") (matches_of replay_app (a ∷ codes "--config" ∷ (x ∷ c) ∷ (y ∷ s) ∷ [])) ≡ Some (y ∷ s)
unfolding clap_on_literals
replay_script a x y c s e f = simp (e, f)

pub replay_config_input : (a : Text) (x y : ℕ) (c : Text) → (x == 45) ≡ false → (y == 45) ≡ true → first_of (codes "config") (matches_of replay_app (a ∷ codes "--config" ∷ (x ∷ c) ∷ (y ∷ []) ∷ [])) ≡ Some (x ∷ c)
unfolding clap_on_literals
replay_config_input a x y c e f = simp (e, f)

pub replay_script_input : (a : Text) (x y : ℕ) (c : Text) → (x == 45) ≡ false → (y == 45) ≡ true → first_of (codes "script") (matches_of replay_app (a ∷ codes "--config" ∷ (x ∷ c) ∷ (y ∷ []) ∷ [])) ≡ Some (y ∷ [])
unfolding clap_on_literals
replay_script_input a x y c e f = simp (e, f)

pub serve_takes : (a : Text) (x y : ℕ) (c n : Text) → (x == 45) ≡ false → (y == 45) ≡ false → takes serve_app (a ∷ (x ∷ c) ∷ codes "--stop-after" ∷ (y ∷ n) ∷ []) ≡ true
unfolding clap_on_literals
serve_takes a x y c n e f = simp (e, f)

pub serve_config : (a : Text) (x y : ℕ) (c n : Text) → (x == 45) ≡ false → (y == 45) ≡ false → first_of (codes "config") (matches_of serve_app (a ∷ (x ∷ c) ∷ codes "--stop-after" ∷ (y ∷ n) ∷ [])) ≡ Some (x ∷ c)
unfolding clap_on_literals
serve_config a x y c n e f = simp (e, f)

pub serve_stop : (a : Text) (x y : ℕ) (c n : Text) → (x == 45) ≡ false → (y == 45) ≡ false → first_of (codes "stop") (matches_of serve_app (a ∷ (x ∷ c) ∷ codes "--stop-after" ∷ (y ∷ n) ∷ [])) ≡ Some (y ∷ n)
unfolding clap_on_literals
serve_stop a x y c n e f = simp (e, f)
