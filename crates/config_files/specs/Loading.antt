-- What is read from files: the text of a configuration, and then the module of each of its VMs, in their order.
use Rattle.std.specs.Prelude.{◌≡◌, ◌⊎◌, ℕ, zero, suc, List, [], ◌∷◌, map, take, Option, None, Some, Ok, Err}
use Rattle.gate_io.specs.Paths.{file_at}
use Rattle.gate_io.specs.Told.{Gains, GainsFront}
use Rattle.wasm_syntax.specs.declared.module.Module.{Module}
use Rattle.gate_config.specs.declared.entries.VmEntry.{VmEntry}
use Rattle.gate_config.specs.Given.{Given, with_code}
use Rattle.vm_host.specs.Fits.{fit_fault}
use Rattle.config_reader.specs.Whole.{Judged, config_of}
use Rattle.config_reader.specs.declared.read.ConfigEnd.{ConfigEnd}
use Rattle.config_reader.specs.declared.read.ConfigEnd.TheVariants.{Refused, OutOfMemory as NoMemory}
use Rattle.config_files.specs.Modules.{IsModule, HasFault}
use Rattle.config_files.specs.declared.modules.ModuleFault.{ModuleFault}
use Rattle.config_files.specs.declared.reading.CodeEnd.{CodeEnd}
use Rattle.config_files.specs.declared.reading.CodeEnd.TheVariants as code
use Rattle.config_files.specs.declared.reading.LoadEnd.{LoadEnd}
use Rattle.config_files.specs.declared.reading.LoadEnd.TheVariants.{Config as NoConfig, Module as NoModule, FileFault, OutOfMemory}

-- what files are, where they are told: paths with their bytes
abbrev pub Told : Type 0
Told = Option (List (List ℕ × List ℕ))

-- a file is there, and this holds of its bytes
abbrev pub HoldsOf : Option (List ℕ) → (List ℕ → Type 0) → Type 0
HoldsOf None P = ⊥
HoldsOf (Some bytes) P = P bytes

-- where the files are told, that of this path is among them, and this holds of its bytes
abbrev pub OfFile : Told → List ℕ → (List ℕ → Type 0) → Type 0
OfFile None path P = Unit {0}
OfFile (Some files) path P = HoldsOf (file_at files path) P

-- the file of this path is this module, which is one of a filter whose memory may have so many pages
pub record IsCode (files : Told) (path : List ℕ) (pages : ℕ) (m : Module) : Type 0 where
  pub file : OfFile files path (λ bytes. IsModule bytes m)
  pub fits : fit_fault m pages ≡ None

-- the file of this path has this fault as a module with so many pages
abbrev pub HasFaultAt : Told → List ℕ → (pages : ℕ) → ModuleFault → Type 0
HasFaultAt files path pages fault = OfFile files path (λ bytes. HasFault bytes pages fault)

-- the second is the first with the module of its file
pub record HoldsCode (files : Told) (vm held : VmEntry) : Type 0 where
  pub code : Module
  pub file : IsCode files vm.«module» vm.pages code
  pub is : held ≡ record vm { code = Some code }

-- each VM holds the module of its file
abbrev pub AllHold : Told → List VmEntry → List VmEntry → Type 0
AllHold files [] held = held ≡ []
AllHold files (vm ∷ vms) [] = ⊥
AllHold files (vm ∷ vms) (h ∷ held) = HoldsCode files vm h × AllHold files vms held

-- the second is the first, and each VM holds the module of its file
pub record HoldsAll (files : Told) (said config : Given) : Type 0 where
  pub vms : AllHold files said.vms config.vms
  pub others : config ≡ record said { vms = config.vms }

-- a VM holds a module
abbrev pub HasModule : VmEntry → Type 0
HasModule vm = (m : Module) × (vm.code ≡ Some m)

-- the file of this VM has this fault, and those of the VMs before it are modules
abbrev pub IsFirstBad : Told → List VmEntry → List ℕ → ModuleFault → Type 0
IsFirstBad files [] name fault = ⊥
IsFirstBad files (vm ∷ vms) name fault =
    ((vm.name ≡ name) × HasFaultAt files vm.«module» vm.pages fault)
    ⊎ ((m : Module) × IsCode files vm.«module» vm.pages m × IsFirstBad files vms name fault)

-- the text of the file of this path comes to this as a configuration
abbrev pub IsRead : Told → List ℕ → Judged → Type 0
IsRead files path judged = OfFile files path (λ text. config_of text ≡ judged)

-- THE CONFIGURATION OF A FILE: what its text says, and each VM holds the module of its file. None of these files is missing.
pub record IsLoaded (files : Told) (path : List ℕ) (config : Given) : Type 0 where
  pub said : Given
  pub read : IsRead files path (Ok said)
  pub holds : HoldsAll files said config

-- the text of the file of this path is a configuration, and this module is the first bad one of its VMs
pub record HasBadModule (files : Told) (path name : List ℕ) (fault : ModuleFault) : Type 0 where
  pub said : Given
  pub read : IsRead files path (Ok said)
  pub first : IsFirstBad files said.vms name fault

-- why nothing was loaded from the file of this path: it is there and is refused, or a module's is
abbrev pub IsNotLoaded : Told → List ℕ → LoadEnd → Type 0
IsNotLoaded files path (NoConfig number key) = IsRead files path (Err (number, key))
IsNotLoaded files path (NoModule vm fault) = HasBadModule files path vm fault
IsNotLoaded files path FileFault = Unit {0}
IsNotLoaded files path OutOfMemory = Unit {0}

-- ---- the steps on the way

abbrev pub IsNoConfig : List ℕ → LoadEnd → Type 0
IsNoConfig text (NoConfig number key) = config_of text ≡ Err (number, key)
IsNoConfig text (NoModule vm fault) = ⊥
IsNoConfig text FileFault = Unit {0}
IsNoConfig text OutOfMemory = Unit {0}

abbrev pub IsNoConfigAt : Told → List ℕ → LoadEnd → Type 0
IsNoConfigAt files path (NoConfig number key) = IsRead files path (Err (number, key))
IsNoConfigAt files path (NoModule vm fault) = ⊥
IsNoConfigAt files path FileFault = Unit {0}
IsNoConfigAt files path OutOfMemory = Unit {0}

abbrev pub refusal_of : ConfigEnd → LoadEnd
refusal_of (Refused number key) = NoConfig number key
refusal_of NoMemory = OutOfMemory

-- why bytes, or a file, are no code
abbrev pub IsNoCodeOf : List ℕ → (pages : ℕ) → CodeEnd → Type 0
IsNoCodeOf bytes pages (code.Refused fault) = HasFault bytes pages fault
IsNoCodeOf bytes pages code.FileFault = ⊥
IsNoCodeOf bytes pages code.OutOfMemory = Unit {0}

abbrev pub IsNoCode : Told → List ℕ → (pages : ℕ) → CodeEnd → Type 0
IsNoCode files path pages (code.Refused fault) = HasFaultAt files path pages fault
IsNoCode files path pages code.FileFault = Unit {0}
IsNoCode files path pages code.OutOfMemory = Unit {0}

-- the refusal of a module of this name, or want of memory
abbrev pub IsModuleEnd : List ℕ → ModuleFault → LoadEnd → Type 0
IsModuleEnd name fault (NoModule n f) = (n ≡ name) × (f ≡ fault)
IsModuleEnd name fault OutOfMemory = Unit {0}
IsModuleEnd name fault (NoConfig number key) = ⊥
IsModuleEnd name fault FileFault = ⊥

-- why this VM has no module
abbrev pub IsBad : Told → VmEntry → LoadEnd → Type 0
IsBad files vm (NoModule name fault) = (vm.name ≡ name) × HasFaultAt files vm.«module» vm.pages fault
IsBad files vm (NoConfig number key) = ⊥
IsBad files vm FileFault = Unit {0}
IsBad files vm OutOfMemory = Unit {0}

abbrev pub IsBadAt : Told → ℕ → List VmEntry → LoadEnd → Type 0
IsBadAt files n [] e = ⊥
IsBadAt files zero (vm ∷ vms) e = IsBad files vm e
IsBadAt files (suc n) (vm ∷ vms) e = IsBadAt files n vms e

-- why not all of these VMs have a module
abbrev pub IsBadIn : Told → List VmEntry → LoadEnd → Type 0
IsBadIn files vms (NoModule name fault) = IsFirstBad files vms name fault
IsBadIn files vms (NoConfig number key) = ⊥
IsBadIn files vms FileFault = Unit {0}
IsBadIn files vms OutOfMemory = Unit {0}

abbrev pub module_at : ℕ → List VmEntry → List ℕ
module_at n [] = []
module_at zero (vm ∷ vms) = vm.«module»
module_at (suc n) (vm ∷ vms) = module_at n vms

abbrev pub pages_at : ℕ → List VmEntry → ℕ
pages_at n [] = 0
pages_at zero (vm ∷ vms) = vm.pages
pages_at (suc n) (vm ∷ vms) = pages_at n vms

-- the VM of this place holds the module of its file, and all else is as it was
pub record HoldsAt (files : Told) (n : ℕ) (old new : Given) : Type 0 where
  pub code : Module
  pub file : IsCode files (module_at n old.vms) (pages_at n old.vms) code
  pub is : new ≡ with_code n code old

-- so many of the VMs hold the modules of their files, and the others are as they were
abbrev pub Holding : Told → ℕ → List VmEntry → List VmEntry → Type 0
Holding files zero vms held = held ≡ vms
Holding files (suc n) [] held = ⊥
Holding files (suc n) (vm ∷ vms) [] = ⊥
Holding files (suc n) (vm ∷ vms) (h ∷ held) = HoldsCode files vm h × Holding files n vms held

-- ---- the paths

-- the paths of the modules
abbrev pub modules_of : List VmEntry → List (List ℕ)
modules_of vms = map (λ vm. vm.«module») vms

-- the paths that are read: the configuration's, and where it is one those of its modules
abbrev pub paths_of : List ℕ → Judged → List (List ℕ)
paths_of path (Ok said) = path ∷ modules_of said.vms
paths_of path (Err refusal) = path ∷ []

-- the file of this VM is a module that it can run
abbrev pub HasCode : Told → VmEntry → Type 0
HasCode files vm = (m : Module) × IsCode files vm.«module» vm.pages m

-- these are reads for the first of these VMs, in their order, and none stands after a refusal: after the read for a VM comes another
-- only where its file is a module that it can run
abbrev pub NoneBehind : Told → List VmEntry → (reads : List (List ℕ)) → Type 0
NoneBehind files vms [] = Unit {0}
NoneBehind files vms (read ∷ []) = Unit {0}
NoneBehind files [] (read ∷ next ∷ reads) = Unit {0}
NoneBehind files (vm ∷ vms) (read ∷ next ∷ reads) = HasCode files vm × NoneBehind files vms (next ∷ reads)

-- the same of reads of which the first is that of the configuration
abbrev pub NoneBehindConfig : Told → Judged → (reads : List (List ℕ)) → Type 0
NoneBehindConfig files judged [] = Unit {0}
NoneBehindConfig files (Ok said) (read ∷ reads) = NoneBehind files said.vms reads
NoneBehindConfig files (Err refusal) (read ∷ reads) = reads ≡ []

-- this is what a text comes to as a configuration; where there is none, it is not one
abbrev pub IsOfText : Option (List ℕ) → Judged → Type 0
IsOfText None (Ok said) = ⊥
IsOfText None (Err refusal) = Unit {0}
IsOfText (Some text) judged = config_of text ≡ judged

-- the same of the text of the file of this path, where the files are told: a file that is missing names no module
abbrev pub IsJudged : Told → List ℕ → Judged → Type 0
IsJudged None path judged = Unit {0}
IsJudged (Some files) path judged = IsOfText (file_at files path) judged

-- THE FILES THAT ARE READ, on every end: those of a front of these paths, each once and in their order, and none after a refusal
pub record ReadsInOrder (files : Told) (path : List ℕ) (old new : Option (List (List ℕ))) : Type 0 where
  pub judged : Judged
  pub of_file : IsJudged files path judged
  pub gained : GainsFront old (paths_of path judged) new
  pub none_behind : NoneBehindConfig files judged gained.front

-- the VM of this place has this name, its file has this fault, and those of the VMs before it are modules that they can run
abbrev pub IsFirstBadAt : Told → (place : ℕ) → List VmEntry → List ℕ → ModuleFault → Type 0
IsFirstBadAt files place [] name fault = ⊥
IsFirstBadAt files zero (vm ∷ vms) name fault = (vm.name ≡ name) × HasFaultAt files vm.«module» vm.pages fault
IsFirstBadAt files (suc place) (vm ∷ vms) name fault = HasCode files vm × IsFirstBadAt files place vms name fault

-- exactly the modules up to and with the first bad one were read
pub record StopsAtBad (files : Told) (vms : List VmEntry) (name : List ℕ) (fault : ModuleFault) (old new : Option (List (List ℕ))) : Type 0 where
  pub place : ℕ
  pub first : IsFirstBadAt files place vms name fault
  pub gained : Gains old (modules_of (take (suc place) vms)) new

-- exactly the configuration and its modules up to and with the first bad one were read
pub record StopsAtModule (files : Told) (path name : List ℕ) (fault : ModuleFault) (old new : Option (List (List ℕ))) : Type 0 where
  pub said : Given
  pub read : IsRead files path (Ok said)
  pub place : ℕ
  pub first : IsFirstBadAt files place said.vms name fault
  pub gained : Gains old (path ∷ modules_of (take (suc place) said.vms)) new

-- WHERE READING STOPS at a refusal: after the refused file nothing was read. At other ends any read may be the last.
abbrev pub StopsAt : Told → (path : List ℕ) → LoadEnd → (old new : Option (List (List ℕ))) → Type 0
StopsAt files path (NoConfig number key) old new = Gains old (path ∷ []) new
StopsAt files path (NoModule name fault) old new = StopsAtModule files path name fault old new
StopsAt files path FileFault old new = Unit {0}
StopsAt files path OutOfMemory old new = Unit {0}

-- the same where the modules of these VMs alone are read
abbrev pub StopsIn : Told → List VmEntry → LoadEnd → (old new : Option (List (List ℕ))) → Type 0
StopsIn files vms (NoConfig number key) old new = ⊥
StopsIn files vms (NoModule name fault) old new = StopsAtBad files vms name fault old new
StopsIn files vms FileFault old new = Unit {0}
StopsIn files vms OutOfMemory old new = Unit {0}

-- ---- the steps on the way to them

-- a front of the modules of these VMs was read, and none after a refusal
pub record ReadsModules (files : Told) (vms : List VmEntry) (old new : Option (List (List ℕ))) : Type 0 where
  pub gained : GainsFront old (modules_of vms) new
  pub none_behind : NoneBehind files vms gained.front

-- the refusal of a configuration, or want of memory
abbrev pub IsConfigEnd : LoadEnd → Type 0
IsConfigEnd (NoConfig number key) = Unit {0}
IsConfigEnd (NoModule vm fault) = ⊥
IsConfigEnd FileFault = ⊥
IsConfigEnd OutOfMemory = Unit {0}

-- where the file of this path is refused it was read
abbrev pub ReadsRefused : (path : List ℕ) → LoadEnd → (old new : Option (List (List ℕ))) → Type 0
ReadsRefused path (NoConfig number key) old new = Gains old (path ∷ []) new
ReadsRefused path (NoModule vm fault) old new = Gains old (path ∷ []) new
ReadsRefused path FileFault old new = Unit {0}
ReadsRefused path OutOfMemory old new = Unit {0}

abbrev pub ReadsNoCode : (path : List ℕ) → CodeEnd → (old new : Option (List (List ℕ))) → Type 0
ReadsNoCode path (code.Refused fault) old new = Gains old (path ∷ []) new
ReadsNoCode path code.FileFault old new = Unit {0}
ReadsNoCode path code.OutOfMemory old new = Unit {0}
