-- What one read tells.
use Rattle.std.proofs.Common.{◌≡◌, ℕ, ◌<◌, Bool, false, nat_le, nat_lt, true, if◌then◌else◌, List, [], ◌∷◌, length, Result, Option, None, Some, Ok, Err, refl, sym, subst, arith, ◌^◌, codes}
use Rattle.std.specs.Result.{OnOk, OnErr, IfOk, IfErr}
use Rattle.std.proofs.lemmas.Bool.Decides.{nat_tests}
use Rattle.gate_io.specs.Paths.{ReadsTold, file_at, noted}
use Rattle.gate_io.specs.Told.{Gains, GainsFront}
use Rattle.gate_io.specs.declared.ends.FileEnd.{FileEnd}
use Rattle.gate_io.specs.declared.ends.FileEnd.TheVariants.{Failed, TooLong, OutOfMemory}
use Rattle.wasm_syntax.specs.Grammar.{header, header_read, body_read, most_bytes, module_read, FirstFault}
use Rattle.gate_config.specs.Given.{given}
use Rattle.gate_config.specs.declared.config.Config.{Config}
use Rattle.config_reader.specs.Whole.{config_of}
use Rattle.wasm_syntax.specs.declared.module.Module.{Module}
use Rattle.config_files.specs.Modules.{HasFault, IsFilter, IsModule}
use Rattle.config_files.specs.Loading.{Told, HoldsOf, IsCode, IsConfigEnd, IsNoCode, IsNoCodeOf, IsNoConfig, IsNoConfigAt, IsRead, OfFile, ReadsNoCode, ReadsRefused}
use Rattle.config_files.specs.declared.reading.CodeEnd.{CodeEnd}
use Rattle.config_files.specs.declared.reading.CodeEnd.TheVariants as code
use Rattle.config_files.specs.declared.reading.LoadEnd.{LoadEnd}
use Rattle.config_files.specs.declared.reading.LoadEnd.TheVariants as load
use Rattle.config_files.specs.declared.modules.ModuleFault.{ModuleFault}

-- what holds of the bytes that were read holds of the file
pub of_file : (files : Told) (path bytes : List ℕ) (most : ℕ) (P : List ℕ → Type 0) → ReadsTold files path most (Ok bytes) → P bytes → OfFile files path P
of_file None path bytes most P h p = tt
of_file (Some fs) path bytes most P h p = subst (λ (o : Option (List ℕ)). HoldsOf o P) (sym h) p

-- what holds of all longer texts holds of a file that is longer
pub of_long : (files : Told) (path : List ℕ) (most : ℕ) (P : List ℕ → Type 0) → ReadsTold files path most (Err TooLong) → ((text : List ℕ) → most < length text → P text) → OfFile files path P
of_long None path most P h p = tt
of_long (Some fs) path most P h p = subst (λ (o : Option (List ℕ)). HoldsOf o P) (sym h.1) (p h.0 h.2)

pub one_path : (path : List ℕ) (old new : Option (List (List ℕ))) (r : Result (List ℕ) FileEnd) → Gains old (noted path r) new → OnOk r (Gains old (path ∷ []) new)
one_path path old new (Ok bytes) h = h
one_path path old new (Err e) h = tt

pub front_path : (path : List ℕ) (old new : Option (List (List ℕ))) (r : Result (List ℕ) FileEnd) → Gains old (noted path r) new → OnErr r (GainsFront old (path ∷ []) new)
front_path path old new (Ok bytes) h = tt
front_path path old new (Err Failed) h = record { front = path ∷ []; rest = []; whole_is = refl; gained = h }
front_path path old new (Err TooLong) h = record { front = path ∷ []; rest = []; whole_is = refl; gained = h }
front_path path old new (Err OutOfMemory) h = record { front = []; rest = path ∷ []; whole_is = refl; gained = h }

pub long_path : (path : List ℕ) (old new : Option (List (List ℕ))) (r : Result (List ℕ) FileEnd) → Gains old (noted path r) new → r ≡ Err TooLong → Gains old (path ∷ []) new
long_path path old new (Ok bytes) h e = h
long_path path old new (Err Failed) h e = h
long_path path old new (Err TooLong) h e = h
long_path path old new (Err OutOfMemory) h e = absurd (cc)

-- ---- what was read where a file is refused

pub code_end_read : (path : List ℕ) (e : CodeEnd) (old new : Option (List (List ℕ))) → Gains old (path ∷ []) new → ReadsNoCode path e old new
code_end_read path (code.Refused fault) old new h = h
code_end_read path code.FileFault old new h = tt
code_end_read path code.OutOfMemory old new h = tt

pub code_read : {T : Type 0} (path : List ℕ) (r : Result T CodeEnd) (old new : Option (List (List ℕ))) → Gains old (path ∷ []) new → IfErr r (λ e. ReadsNoCode path e old new)
code_read path (Ok x) old new h = tt
code_read path (Err e) old new h = code_end_read path e old new h

pub fault_read : (path : List ℕ) (e : CodeEnd) (fault : ModuleFault) (old new : Option (List (List ℕ))) → e ≡ code.Refused fault → ReadsNoCode path e old new → Gains old (path ∷ []) new
fault_read path e fault old new is h = subst (λ (x : CodeEnd). ReadsNoCode path x old new) is h

pub end_read : (path : List ℕ) (e : LoadEnd) (old new : Option (List (List ℕ))) → Gains old (path ∷ []) new → ReadsRefused path e old new
end_read path (load.Config number key) old new h = h
end_read path (load.Module vm fault) old new h = h
end_read path load.FileFault old new h = tt
end_read path load.OutOfMemory old new h = tt

-- ---- what holds anyway

pub on_ok : {T E : Type 0} (r : Result T E) (P : Type 0) → P → OnOk r P
on_ok (Ok x) P p = p
on_ok (Err e) P p = tt

pub on_err : {T E : Type 0} (r : Result T E) (P : Type 0) → P → OnErr r P
on_err (Ok x) P p = tt
on_err (Err e) P p = p

-- ---- texts that are too long

past_most : (b : List ℕ) → most_bytes < length b → nat_le (length b) most_bytes ≡ false
past_most b long = grind (arith, long)

pub long_is_fault : (b : List ℕ) → most_bytes < length b → FirstFault b 9 0
unfolding module_read
long_is_fault b long = record {
  left = length b;
  reading = subst (λ (t : Bool). (if t then body_read (header_read header b) else Err (record { number = 9; left = length b })) ≡ Err (record { number = 9; left = length b })) (sym (past_most b long)) refl;
  at = omega arith;
}

pub long_config : (text : List ℕ) → 1048576 < length text → config_of text ≡ Err (7, codes "-")
long_config text long =
    let past : nat_lt (2 ^ 20) (length text) ≡ true = grind (arith, nat_tests) in
    rw past

-- nothing holds of a file that is missing
pub of_missing : (files : List (List ℕ × List ℕ)) (path : List ℕ) (P : List ℕ → Type 0) → file_at files path ≡ None → OfFile (Some files) path P → ⊥
of_missing files path P missing h = subst (λ (o : Option (List ℕ)). HoldsOf o P) missing h

-- ---- what is said of the bytes of a file is said of the file

pub no_code : (files : Told) (path bytes : List ℕ) (most pages : ℕ) (e : CodeEnd) → ReadsTold files path most (Ok bytes) → IsNoCodeOf bytes pages e → IsNoCode files path pages e
no_code files path bytes most pages (code.Refused fault) read h = of_file files path bytes most (λ b. HasFault b pages fault) read h
no_code files path bytes most pages code.FileFault read h = absurd h
no_code files path bytes most pages code.OutOfMemory read h = tt

pub no_codes : {T : Type 0} (files : Told) (path bytes : List ℕ) (most pages : ℕ) (r : Result T CodeEnd) → ReadsTold files path most (Ok bytes) → IfErr r (IsNoCodeOf bytes pages) → IfErr r (IsNoCode files path pages)
no_codes files path bytes most pages (Ok x) read h = tt
no_codes files path bytes most pages (Err e) read h = no_code files path bytes most pages e read h

pub codes_are : (files : Told) (path bytes : List ℕ) (most pages : ℕ) (r : Result Module CodeEnd) → ReadsTold files path most (Ok bytes) → IfOk r (IsFilter bytes pages) → IfOk r (IsCode files path pages)
codes_are files path bytes most pages (Ok m) read h = record { file = of_file files path bytes most (λ b. IsModule b m) read h.is; fits = h.fits }
codes_are files path bytes most pages (Err e) read h = tt

pub no_config : (files : Told) (path bytes : List ℕ) (most : ℕ) (e : LoadEnd) → ReadsTold files path most (Ok bytes) → IsNoConfig bytes e → IsNoConfigAt files path e
no_config files path bytes most (load.Config number key) read h = of_file files path bytes most (λ b. config_of b ≡ Err (number, key)) read h
no_config files path bytes most (load.Module vm fault) read h = h
no_config files path bytes most load.FileFault read h = tt
no_config files path bytes most load.OutOfMemory read h = tt

pub no_configs : {T : Type 0} (files : Told) (path bytes : List ℕ) (most : ℕ) (r : Result T LoadEnd) → ReadsTold files path most (Ok bytes) → IfErr r (IsNoConfig bytes) → IfErr r (IsNoConfigAt files path)
no_configs files path bytes most (Ok x) read h = tt
no_configs files path bytes most (Err e) read h = no_config files path bytes most e read h

pub configs_are : (files : Told) (path bytes : List ℕ) (most : ℕ) (r : Result Config LoadEnd) → ReadsTold files path most (Ok bytes) → IfOk r (λ c. config_of bytes ≡ Ok (given c)) → IfOk r (λ c. IsRead files path (Ok (given c)))
configs_are files path bytes most (Ok c) read h = of_file files path bytes most (λ b. config_of b ≡ Ok (given c)) read h
configs_are files path bytes most (Err e) read h = tt

pub long_no_config : (files : Told) (path : List ℕ) (most : ℕ) (e : LoadEnd) → ReadsTold files path most (Err TooLong) → ((text : List ℕ) → most < length text → IsNoConfig text e) → IsConfigEnd e → IsNoConfigAt files path e
long_no_config files path most (load.Config number key) read h is = of_long files path most (λ b. config_of b ≡ Err (number, key)) read h
long_no_config files path most (load.Module vm fault) read h is = is
long_no_config files path most load.FileFault read h is = tt
long_no_config files path most load.OutOfMemory read h is = tt
