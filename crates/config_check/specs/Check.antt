-- What `check` prints of a configuration, and how it ends.
use Rattle.std.specs.Prelude.{ℕ, List, [], ◌∷◌, ◌++◌, length, codes, decimal, Option, Result, Ok, Err}
use Rattle.gate_io.specs.Told.{Gains, GainsFront}
use Rattle.config_files.specs.Loading.{Told, IsLoaded, IsNotLoaded, StopsAt, modules_of}
use Rattle.gate_config.specs.Given.{Given}
use Rattle.config_check.specs.declared.checking.CheckEnd.{CheckEnd}
use Rattle.config_check.specs.declared.checking.CheckEnd.TheVariants.{NotLoaded, OutFault, OutOfMemory}

-- a word with its blanks, and a number
abbrev pub count : List ℕ → ℕ → List ℕ
count word n = word ++ decimal n

-- the line of a configuration: how many workers, VMs, plug-ins and routes it has
abbrev pub counts_line : Given → List ℕ
counts_line g =
    ((((codes "ok" ++ count (codes " workers ") g.workers) ++ count (codes " vms ") (length g.vms)) ++ count (codes " plugins ") (length g.plugins)) ++ count (codes " routes ") (length g.routes)) ++ codes "\n"

-- HOW A CHECK ENDS: the line of the configuration of this file is printed, or a front of it where the output failed; else nothing is printed, and
-- the end tells the first refusal
abbrev pub IsChecked : Told → List ℕ → Result (Unit {0}) CheckEnd → (old new : Option (List ℕ)) → Type 0
IsChecked files path (Ok u) old new = (g : Given) × IsLoaded files path g × Gains old (counts_line g) new
IsChecked files path (Err OutFault) old new = (g : Given) × IsLoaded files path g × GainsFront old (counts_line g) new
IsChecked files path (Err (NotLoaded e)) old new = IsNotLoaded files path e × Gains old [] new
IsChecked files path (Err OutOfMemory) old new = Gains old [] new

-- a line is printed, or a front of it, or there was no memory for it
abbrev pub IsPrinted : List ℕ → Result (Unit {0}) CheckEnd → (old new : Option (List ℕ)) → Type 0
IsPrinted line (Ok u) old new = Gains old line new
IsPrinted line (Err OutFault) old new = GainsFront old line new
IsPrinted line (Err OutOfMemory) old new = Gains old [] new
IsPrinted line (Err (NotLoaded e)) old new = ⊥

-- the configuration was read and all its modules
abbrev pub ReadsAll : Told → List ℕ → (old new : Option (List (List ℕ))) → Type 0
ReadsAll files path old new = (g : Given) × IsLoaded files path g × Gains old (path ∷ modules_of g.vms) new

-- HOW FAR A CHECK READS: to the refused file, or all of them
abbrev pub Reaches : Told → List ℕ → Result (Unit {0}) CheckEnd → (old new : Option (List (List ℕ))) → Type 0
Reaches files path (Ok u) old new = ReadsAll files path old new
Reaches files path (Err OutFault) old new = ReadsAll files path old new
Reaches files path (Err (NotLoaded e)) old new = StopsAt files path e old new
Reaches files path (Err OutOfMemory) old new = Unit {0}
