-- Worked examples: lists of words, and what they ask for.
use Rattle.std.specs.Prelude.{◌≡◌, ℕ, List, [], ◌∷◌, Option, None, Some, codes}
use Rattle.command_words.specs.Forms.{Command, replay, replay_config, serve, check, invoke, generate, report, form_of}

pub record WordExamples : Type 0 where
  pub nothing : form_of [] ≡ None
  pub script : form_of (codes "replay" ∷ codes "s" ∷ []) ≡ Some (replay (codes "s") [])
  pub script_of_input : form_of (codes "replay" ∷ codes "-" ∷ codes "m" ∷ []) ≡ Some (replay (codes "-") (codes "m" ∷ []))
  pub module_of_input : form_of (codes "replay" ∷ codes "s" ∷ codes "-" ∷ []) ≡ None
  pub over_a_configuration : form_of (codes "replay" ∷ codes "--config" ∷ codes "c" ∷ codes "-" ∷ []) ≡ Some (replay_config (codes "c") (codes "-"))
  pub option_behind : form_of (codes "replay" ∷ codes "s" ∷ codes "--config" ∷ codes "c" ∷ []) ≡ None
  pub option_joined : form_of (codes "replay" ∷ codes "--config=c" ∷ codes "s" ∷ []) ≡ None
  pub served : form_of (codes "serve" ∷ codes "c" ∷ []) ≡ Some (serve (codes "c") None)
  pub served_until : form_of (codes "serve" ∷ codes "c" ∷ codes "--stop-after" ∷ codes "1000000" ∷ []) ≡ Some (serve (codes "c") (Some 1000000))
  pub served_until_none : form_of (codes "serve" ∷ codes "c" ∷ codes "--stop-after" ∷ codes "0" ∷ []) ≡ None
  pub served_too_long : form_of (codes "serve" ∷ codes "c" ∷ codes "--stop-after" ∷ codes "1000001" ∷ []) ≡ None
  pub leading_zero : form_of (codes "serve" ∷ codes "c" ∷ codes "--stop-after" ∷ codes "01" ∷ []) ≡ None
  pub checked : form_of (codes "check" ∷ codes "c" ∷ []) ≡ Some (check (codes "c"))
  pub checked_input : form_of (codes "check" ∷ codes "-" ∷ []) ≡ None
  pub invoked : form_of (codes "invoke" ∷ codes "m" ∷ codes "f" ∷ codes "0" ∷ codes "4294967296" ∷ []) ≡ Some (invoke (codes "m") (codes "f") (codes "0" ∷ codes "4294967296" ∷ []))
  pub signed : form_of (codes "invoke" ∷ codes "m" ∷ codes "f" ∷ codes "+1" ∷ []) ≡ None
  pub generated : form_of (codes "generate" ∷ codes "4294967295" ∷ []) ≡ Some (generate 4294967295)
  pub generated_too_much : form_of (codes "generate" ∷ codes "4294967296" ∷ []) ≡ None
  pub reported : form_of (codes "report" ∷ codes "m" ∷ []) ≡ Some (report (codes "m"))
  pub reported_input : form_of (codes "report" ∷ codes "-" ∷ []) ≡ None
  pub reported_twice : form_of (codes "report" ∷ codes "m" ∷ codes "n" ∷ []) ≡ None
  pub help : form_of (codes "--help" ∷ []) ≡ None
  pub abbreviation : form_of (codes "rep" ∷ codes "s" ∷ []) ≡ None
  pub empty_word : form_of (codes "replay" ∷ [] ∷ []) ≡ None
