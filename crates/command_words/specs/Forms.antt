-- The forms of a list of words.
use Rattle.std.specs.Prelude.{ℕ, ◌==◌, nat_le, nat_lt, ◌&&◌, ◌^◌, not, Bool, true, false, List, [], ◌∷◌, length, map, Option, None, Some, bytes_eq, codes, option_map, unwrap_or, if◌then◌else◌, string_bytes}
use Rattle.std.specs.List.{list_all}
use Rattle.std.specs.Str.Parse.{digits_value}
use Rattle.command_words.specs.declared.forms.Form.{Form}
use Rattle.command_words.specs.declared.forms.Form.TheVariants as form

-- a word: not empty, and not begun by `-`
abbrev pub is_plain : List ℕ → Bool
is_plain [] = false
is_plain (first ∷ more) = not (first == 45)

-- a word that names a script: not begun by `-` but for `-` alone
abbrev pub names_script : List ℕ → Bool
names_script [] = false
names_script (first ∷ []) = true
names_script (first ∷ (second ∷ more)) = not (first == 45)

abbrev pub is_digit : ℕ → Bool
is_digit b = nat_le 48 b && nat_le b 57

-- a number of any length
abbrev pub is_number : List ℕ → Bool
is_number [] = false
is_number (only ∷ []) = is_digit only
is_number (first ∷ (second ∷ more)) = not (first == 48) && list_all is_digit (first ∷ (second ∷ more))

-- the number below 2^32 that a word writes
unfoldable pub number_of : List ℕ → Option ℕ
number_of word = if is_number word && nat_lt (digits_value 10 word) (2 ^ 32) then Some (digits_value 10 word) else None

abbrev pub is_within : ℕ → ℕ → Option ℕ → Bool
is_within least most None = false
is_within least most (Some n) = nat_le least n && nat_le n most

abbrev pub is_between : ℕ → ℕ → List ℕ → Bool
is_between least most word = is_within least most (number_of word)

abbrev pub are_plain : List (List ℕ) → Bool
are_plain words = list_all is_plain words

abbrev pub are_numbers : List (List ℕ) → Bool
are_numbers words = list_all is_number words

-- what the words of a command ask for
pub data Command : Type 0 where
  replay : (script : List ℕ) (modules : List (List ℕ)) → Command
  replay_config : (config script : List ℕ) → Command
  serve : (config : List ℕ) (stop_after : Option ℕ) → Command
  check : (config : List ℕ) → Command
  invoke : (file export : List ℕ) (arguments : List (List ℕ)) → Command
  generate : ℕ → Command
  report : (file : List ℕ) → Command

-- ---- the forms, one by one

abbrev pub is_replay : List (List ℕ) → Bool
is_replay (a ∷ (s ∷ ms)) = bytes_eq a (codes "replay") && (names_script s && (nat_le (length ms) 16 && are_plain ms))
is_replay _ = false

abbrev pub is_replay_config : List (List ℕ) → Bool
is_replay_config (a ∷ (b ∷ (c ∷ (s ∷ [])))) = bytes_eq a (codes "replay") && (bytes_eq b (codes "--config") && (is_plain c && names_script s))
is_replay_config _ = false

abbrev pub is_serve : List (List ℕ) → Bool
is_serve (a ∷ (c ∷ [])) = bytes_eq a (codes "serve") && is_plain c
is_serve _ = false

abbrev pub is_serve_until : List (List ℕ) → Bool
is_serve_until (a ∷ (c ∷ (b ∷ (n ∷ [])))) = bytes_eq a (codes "serve") && (bytes_eq b (codes "--stop-after") && (is_plain c && is_between 1 1000000 n))
is_serve_until _ = false

abbrev pub is_check : List (List ℕ) → Bool
is_check (a ∷ (c ∷ [])) = bytes_eq a (codes "check") && is_plain c
is_check _ = false

abbrev pub is_invoke : List (List ℕ) → Bool
is_invoke (a ∷ (m ∷ (e ∷ ns))) = bytes_eq a (codes "invoke") && (is_plain m && (is_plain e && (nat_le (length ns) 16 && are_numbers ns)))
is_invoke _ = false

abbrev pub is_generate : List (List ℕ) → Bool
is_generate (a ∷ (n ∷ [])) = bytes_eq a (codes "generate") && is_between 0 4294967295 n
is_generate _ = false

-- `report MODULE`
abbrev pub is_report : List (List ℕ) → Bool
is_report (a ∷ (m ∷ [])) = bytes_eq a (codes "report") && is_plain m
is_report _ = false

abbrev pub second : List (List ℕ) → List ℕ
second (a ∷ (b ∷ more)) = b
second _ = []

abbrev pub third : List (List ℕ) → List ℕ
third (a ∷ (b ∷ (c ∷ more))) = c
third _ = []

abbrev pub fourth : List (List ℕ) → List ℕ
fourth (a ∷ (b ∷ (c ∷ (d ∷ more)))) = d
fourth _ = []

abbrev pub behind_two : List (List ℕ) → List (List ℕ)
behind_two (a ∷ (b ∷ more)) = more
behind_two _ = []

abbrev pub behind_three : List (List ℕ) → List (List ℕ)
behind_three (a ∷ (b ∷ (c ∷ more))) = more
behind_three _ = []

-- a command's word and one more, which may be `-` alone
abbrev pub is_one : List (List ℕ) → Bool
is_one (a ∷ (b ∷ [])) = names_script b
is_one _ = false

-- a command's word and two more
abbrev pub is_two : List (List ℕ) → Bool
is_two (a ∷ (b ∷ (c ∷ []))) = is_plain b && is_plain c
is_two _ = false

abbrev pub others_of : List (List ℕ) → Option Command
others_of ws =
    if is_invoke ws then Some (invoke (second ws) (third ws) (behind_three ws))
    else (if is_generate ws then option_map generate (number_of (second ws))
    else (if is_report ws then Some (report (second ws)) else None))

-- THE COMMAND OF A LIST OF WORDS, and none where they are of no form
abbrev pub form_of : List (List ℕ) → Option Command
form_of ws =
    if is_replay ws then Some (replay (second ws) (behind_two ws))
    else (if is_replay_config ws then Some (replay_config (third ws) (fourth ws))
    else (if is_serve ws then Some (serve (second ws) None)
    else (if is_serve_until ws then Some (serve (second ws) (number_of (fourth ws)))
    else (if is_check ws then Some (check (second ws))
    else others_of ws))))

-- what the code's answer stands for
abbrev pub seen : Form → Command
seen (form.Replay script modules) = replay script.now (map string_bytes modules.now)
seen (form.ReplayConfig config script) = replay_config config.now script.now
seen (form.Serve config n) = serve config.now n
seen (form.Check config) = check config.now
seen (form.Invoke file export arguments) = invoke file.now export.now (map string_bytes arguments.now)
seen (form.Generate n) = generate n
seen (form.Report file) = report file.now
