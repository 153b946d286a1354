-- Files that are told have one text each, and spell one configuration with one module for each VM.
use Rattle.std.proofs.Common.{◌≡◌, ℕ, List, [], ◌∷◌, Option, None, Some, ap, sym, ◌∙◌, subst}
use Rattle.std.specs.Prelude.{Ok, Err}
use Rattle.config_files.specs.Loading.{AllHold, HoldsAll, HoldsCode, HoldsOf, IsLoaded}
use Rattle.config_files.specs.Modules.{IsModule}
use Rattle.gate_config.specs.Given.{Given}
use Rattle.gate_config.specs.declared.entries.VmEntry.{VmEntry}
use Rattle.gate_io.specs.Paths.{file_at}
use Rattle.config_reader.specs.Whole.{Judged, config_of}
use Rattle.wasm_syntax.proofs.ModuleLaws.{one_module}
use Rattle.wasm_syntax.specs.declared.module.Module.{Module}

abbrev or_this : {A : Type 0} → A → Option A → A
or_this x None = x
or_this x (Some y) = y

pub some_same : {A : Type 0} (a b : A) → Some a ≡ Some b → a ≡ b
some_same a b e = ap (or_this a) e

module _ (files : List (List ℕ × List ℕ)) where
  module_same : (o : Option (List ℕ)) (m n : Module) → HoldsOf o (λ bytes. IsModule bytes m) → HoldsOf o (λ bytes. IsModule bytes n) → m ≡ n
  module_same None m n a b = absurd a
  module_same (Some bytes) m n a b = one_module bytes m n a.spelled b.spelled

  code_same : (vm a b : VmEntry) → HoldsCode (Some files) vm a → HoldsCode (Some files) vm b → a ≡ b
  code_same vm a b p q =
      p.is ∙ ap (λ (m : Module). record vm { code = Some m }) (module_same (file_at files vm.«module») p.code q.code p.file.file q.file.file) ∙ sym q.is

  all_same : (vms a b : List VmEntry) → AllHold (Some files) vms a → AllHold (Some files) vms b → a ≡ b
  all_same [] a b p q = p ∙ sym q
  all_same (vm ∷ vms) [] b p q = absurd p
  all_same (vm ∷ vms) (x ∷ a) [] p q = absurd q
  all_same (vm ∷ vms) (x ∷ a) (y ∷ b) p q = λ i. code_same vm x y p.0 q.0 i ∷ all_same vms a b p.1 q.1 i

  pub held_same : (said a b : Given) → HoldsAll (Some files) said a → HoldsAll (Some files) said b → a ≡ b
  held_same said a b p q = p.others ∙ ap (λ (vms : List VmEntry). record said { vms = vms }) (all_same said.vms a.vms b.vms p.vms q.vms) ∙ sym q.others

  abbrev said_in : Given → Judged → Given
  said_in other (Ok g) = g
  said_in other (Err e) = other

  said_same : (o : Option (List ℕ)) (a b : Given) → HoldsOf o (λ text. config_of text ≡ Ok a) → HoldsOf o (λ text. config_of text ≡ Ok b) → a ≡ b
  said_same None a b p q = absurd p
  said_same (Some text) a b p q = ap (said_in a) (sym p ∙ q)

  pub loaded_same : (path : List ℕ) (a b : Given) → IsLoaded (Some files) path a → IsLoaded (Some files) path b → a ≡ b
  loaded_same path a b p q =
      let said : q.said ≡ p.said = said_same (file_at files path) q.said p.said q.read p.read in
      held_same p.said a b p.holds (subst (λ (g : Given). HoldsAll (Some files) g b) said q.holds)
