-- The lines of the log: the level's word, a space, the text, and LF.
use Rattle.std.specs.Prelude.{ℕ, ◌+◌, ◌/◌, ◌%◌, nat_le, nat_lt, ◌&&◌, if◌then◌else◌, List, [], ◌∷◌, ◌++◌, codes}
use Rattle.gate_base.specs.declared.level.Level.{Level}
use Rattle.gate_base.specs.declared.level.Level.TheVariants.{Trace, Debug, Info, Warn, Error, Critical}

-- a level, with the space after it
abbrev pub level_word : Level → List ℕ
level_word Trace = codes "trace "
level_word Debug = codes "debug "
level_word Info = codes "info "
level_word Warn = codes "warn "
level_word Error = codes "error "
level_word Critical = codes "critical "

abbrev pub hex_digit : ℕ → ℕ
hex_digit n = if nat_lt n 10 then 48 + n else 87 + n

-- a byte of a text: itself where it is printable ASCII, and else `\x` and its two hexadecimal digits
abbrev pub shown : ℕ → List ℕ
shown b = if nat_le 32 b && nat_le b 126 then b ∷ [] else 92 ∷ 120 ∷ hex_digit (b / 16) ∷ hex_digit (b % 16) ∷ []

abbrev pub shown_all : List ℕ → List ℕ
shown_all [] = []
shown_all (b ∷ text) = shown b ++ shown_all text

abbrev pub line_of : Level → List ℕ → List ℕ
line_of level text = level_word level ++ shown_all text ++ 10 ∷ []
