-- How a check ends, by what was loaded and printed.
use Rattle.std.proofs.Common.{◌≡◌, ℕ, List, ◌∷◌, Result, Option, Ok, Err, subst}
use Rattle.config_files.specs.Loading.{Told, IsLoaded, modules_of}
use Rattle.config_files.specs.declared.reading.LoadEnd.{LoadEnd}
use Rattle.gate_config.specs.Given.{Given}
use Rattle.gate_io.specs.Told.{Gains}
use Rattle.config_check.specs.Check.{IsChecked, IsPrinted, ReadsAll, Reaches, counts_line}
use Rattle.config_check.specs.declared.checking.CheckEnd.{CheckEnd}
use Rattle.config_check.specs.declared.checking.CheckEnd.TheVariants.{NotLoaded, OutFault, OutOfMemory}

pub printed_checked : (files : Told) (path : List ℕ) (g : Given) (r : Result (Unit {0}) CheckEnd) (old new : Option (List ℕ)) → IsLoaded files path g → IsPrinted (counts_line g) r old new → IsChecked files path r old new
printed_checked files path g (Ok u) old new is h = (g, is, h)
printed_checked files path g (Err OutFault) old new is h = (g, is, h)
printed_checked files path g (Err OutOfMemory) old new is h = h
printed_checked files path g (Err (NotLoaded e)) old new is h = absurd h

pub no_file_fault : (line : List ℕ) (r : Result (Unit {0}) CheckEnd) (e : LoadEnd) (old new : Option (List ℕ)) → IsPrinted line r old new → r ≡ Err (NotLoaded e) → ⊥
no_file_fault line r e old new h is = subst (λ (x : Result (Unit {0}) CheckEnd). IsPrinted line x old new) is h

-- the same line, otherwise written
pub printed_as : (a b : List ℕ) (r : Result (Unit {0}) CheckEnd) (old new : Option (List ℕ)) → a ≡ b → IsPrinted a r old new → IsPrinted b r old new
printed_as a b r old new e h = subst (λ (l : List ℕ). IsPrinted l r old new) e h

-- a configuration that is loaded was read with all its modules
read_all : (files : Told) (path : List ℕ) (g : Given) (old new : Option (List (List ℕ))) → IsLoaded files path g → Gains old (path ∷ modules_of g.vms) new → ReadsAll files path old new
read_all files path g old new is h = (g, is, h)

pub reaches_all : (files : Told) (path : List ℕ) (g : Given) (line : List ℕ) (r : Result (Unit {0}) CheckEnd) (old new : Option (List (List ℕ))) (before after : Option (List ℕ))
    → IsLoaded files path g → IsPrinted line r before after → Gains old (path ∷ modules_of g.vms) new → Reaches files path r old new
reaches_all files path g line (Ok u) old new before after is p h = read_all files path g old new is h
reaches_all files path g line (Err OutFault) old new before after is p h = read_all files path g old new is h
reaches_all files path g line (Err OutOfMemory) old new before after is p h = tt
reaches_all files path g line (Err (NotLoaded e)) old new before after is p h = absurd p
