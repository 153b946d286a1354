-- The plain configuration over modules, VM by VM.
use Rattle.std.proofs.Common.{◌≡◌, ℕ, zero, suc, ◌+◌, ◌<◌, List, [], ◌∷◌, ◌++◌, map, length, get_or, set, append_assoc, Option, refl, ap, sym, subst, ◌∙◌, arith}
use Rattle.std.proofs.lemmas.List.{append-nil}
use Rattle.gate_config.specs.declared.entries.VmEntry.{VmEntry}
use Rattle.gate_config.specs.declared.config.Config.{Config}
use Rattle.gate_config.specs.Given.{Given, given}
use Rattle.gate_config.specs.Plain.{IsPlain, first_n, plain_vm}
use Rattle.gate_io.specs.Told.{gains_nothing}
use Rattle.config_files.specs.Loading.{Told, ReadsModules, NoneBehind, modules_of}
use Rattle.config_files.specs.Plain.{IsPlainLoaded, ReadsPlain, naming, plain_over, vm_over, vms_over, without_module}

-- so many of these paths, and no path in place of each of the others
abbrev pub so_far : ℕ → List (List ℕ) → List (List ℕ)
so_far n [] = []
so_far zero (path ∷ paths) = [] ∷ so_far zero paths
so_far (suc n) (path ∷ paths) = path ∷ so_far n paths

one_more : (k : ℕ) (paths : List (List ℕ)) → first_n plain_vm k ++ vms_over k (so_far 0 paths) ≡ first_n plain_vm (k + length paths)
one_more k [] = append-nil (first_n plain_vm k) ∙ ap (first_n plain_vm) (let e : k ≡ k + 0 = omega arith in e)
one_more k (path ∷ paths) =
    let first : first_n plain_vm k ++ vms_over k (so_far 0 (path ∷ paths)) ≡ first_n plain_vm (suc k) ++ vms_over (k + 1) (so_far 0 paths) = sym (append_assoc (first_n plain_vm k) (plain_vm k ∷ []) (vms_over (k + 1) (so_far 0 paths))) in
    let same : first_n plain_vm (suc k) ≡ first_n plain_vm (k + 1) = ap (first_n plain_vm) (let e : suc k ≡ k + 1 = omega arith in e) in
    let last : (k + 1) + length paths ≡ k + length (path ∷ paths) = omega arith in
    first ∙ ap (λ (l : List VmEntry). l ++ vms_over (k + 1) (so_far 0 paths)) same ∙ one_more (k + 1) paths ∙ ap (first_n plain_vm) last

-- at first no VM has a path
pub none_named : (paths : List (List ℕ)) → first_n plain_vm (length paths) ≡ vms_over 0 (so_far 0 paths)
none_named paths = ap (first_n plain_vm) (let e : length paths ≡ 0 + length paths = omega arith in e) ∙ sym (one_more 0 paths)

-- without their paths they are the VMs of the plain configuration
bare_more : (k : ℕ) (paths : List (List ℕ)) → map without_module (vms_over k paths) ≡ vms_over k (so_far 0 paths)
bare_more k [] = refl
bare_more k (path ∷ paths) = ap (λ (l : List VmEntry). plain_vm k ∷ l) (bare_more (k + 1) paths)

pub bare : (paths : List (List ℕ)) → map without_module (vms_over 0 paths) ≡ first_n plain_vm (length paths)
bare paths = bare_more 0 paths ∙ sym (none_named paths)

pub first_is : (paths : List (List ℕ)) (n : ℕ) (config : Config) → IsPlain n config → n ≡ length paths → given config ≡ record (plain_over paths) { vms = vms_over 0 (so_far 0 paths) }
first_is paths n config is e =
    let at : IsPlain (length paths) config = subst (λ (m : ℕ). IsPlain m config) e is in
    let vms : config.vms ≡ vms_over 0 (so_far 0 paths) = at.vms ∙ none_named paths in
    cc

-- then one more
pub named_is : (n : ℕ) (path : List ℕ) (vms : List VmEntry) (x : VmEntry) → n < length vms → x ≡ get_or vms n x → set vms n (record x { «module» = path }) ≡ naming n path vms
named_is n path [] x low e = absurd (omega arith)
named_is zero path (v ∷ vms) x low e = ap (λ (y : VmEntry). record y { «module» = path } ∷ vms) e
named_is (suc n) path (v ∷ vms) x low e = ap (λ (l : List VmEntry). v ∷ l) (named_is n path vms x (omega arith) e)

pub one_named : (k n : ℕ) (paths : List (List ℕ)) (d : List ℕ) → n < length paths → naming n (get_or paths n d) (vms_over k (so_far n paths)) ≡ vms_over k (so_far (suc n) paths)
one_named k n [] d low = absurd (omega (arith, low))
one_named k zero (path ∷ paths) d low = refl
one_named k (suc n) (path ∷ paths) d low = ap (λ (l : List VmEntry). vm_over k path ∷ l) (one_named (k + 1) n paths d (omega (arith, low)))

-- and in the end all
pub all_named : (paths : List (List ℕ)) → so_far (length paths) paths ≡ paths
all_named [] = refl
all_named (path ∷ paths) = ap (λ (l : List (List ℕ)). path ∷ l) (all_named paths)

pub length-over : (k : ℕ) (paths : List (List ℕ)) → length (vms_over k paths) ≡ length paths
length-over k [] = refl
length-over k (path ∷ paths) = ap suc (length-over (k + 1) paths)

pub length-so_far : (n : ℕ) (paths : List (List ℕ)) → length (so_far n paths) ≡ length paths
length-so_far n [] = refl
length-so_far zero (path ∷ paths) = ap suc (length-so_far zero paths)
length-so_far (suc n) (path ∷ paths) = ap suc (length-so_far n paths)

pub modules_over : (k : ℕ) (paths : List (List ℕ)) → modules_of (vms_over k paths) ≡ paths
modules_over k [] = refl
modules_over k (path ∷ paths) = ap (λ (l : List (List ℕ)). path ∷ l) (modules_over (k + 1) paths)

-- the reads of the modules of its VMs are those of the paths
pub plain_read : (files : Told) (paths : List (List ℕ)) (vms : List VmEntry) (old new : Option (List (List ℕ))) → vms ≡ vms_over 0 paths → ReadsModules files vms old new → ReadsPlain files paths old new
plain_read files paths vms old new e r = record {
  gained = record {
    front = r.gained.front;
    rest = r.gained.rest;
    whole_is = sym (ap modules_of e ∙ modules_over 0 paths) ∙ r.gained.whole_is;
    gained = r.gained.gained;
  };
  none_behind = subst (λ (v : List VmEntry). NoneBehind files v r.gained.front) e r.none_behind;
}

pub none_read : (files : Told) (paths : List (List ℕ)) (old : Option (List (List ℕ))) → ReadsPlain files paths old old
none_read files paths old = record { gained = record { front = []; rest = paths; whole_is = refl; gained = gains_nothing old }; none_behind = tt }

-- a member of a list that is mapped
pub mapped : {A : Type 0} (of : A → List ℕ) (xs : List A) (n : ℕ) (x : A) → n < length xs → x ≡ get_or xs n x → get_or (map of xs) n [] ≡ of x
mapped of [] n x low e = absurd (omega (arith, low))
mapped of (y ∷ ys) zero x low e = ap of (sym e)
mapped of (y ∷ ys) (suc n) x low e = mapped of ys n x (omega (arith, low)) e

-- over no paths it is the plain configuration of no VM
pub plain_of_none : (files : Told) (config : Config) → IsPlainLoaded files [] (given config) → IsPlain 0 config
plain_of_none files config h =
    let is = h.others in record {
      workers = ap (λ (g : Given). g.workers) is;
      listen = ap (λ (g : Given). g.listen) is;
      upstream = ap (λ (g : Given). g.upstream) is;
      deadline = ap (λ (g : Given). g.deadline_ms) is;
      log_level = ap (λ (g : Given). g.log_level) is;
      vms = h.vms;
      plugins = ap (λ (g : Given). g.plugins) is;
      routes = ap (λ (g : Given). g.routes) is;
      tcp = ap (λ (g : Given). g.tcp) is;
    }
