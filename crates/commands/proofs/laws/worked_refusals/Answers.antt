use Rattle.std.proofs.Common.{◌∷◌, List, ℕ, [], None, Ok, Err, ⊎_elim, codes}
use Rattle.config_reader.specs.Whole.{Judged}
use Rattle.config_files.specs.Loading.{Told, AllHold, IsOfText, NoneBehindConfig}
use Rattle.config_files.specs.Plain.{vms_over}
use Rattle.gate_config.specs.declared.entries.VmEntry.{VmEntry}
use Rattle.commands.specs.Examples.{no_module}
use Rattle.wasm_syntax.specs.Grammar.{Spells}
use Rattle.wasm_syntax.specs.declared.module.Module.{Module}
use Rattle.commands.proofs.laws.worked_refusals.Goals as goal

not_spelled : (m : Module) → Spells [] m → ⊥
not_spelled m h = let parts = h.parts in cc

-- after a configuration that is missing comes no read
no_more : (files : Told) (path next : List ℕ) (judged : Judged) (reads : List (List ℕ)) → IsOfText None judged → NoneBehindConfig files judged (path ∷ next ∷ reads) → ⊥
no_more files path next (Ok said) reads is h = is
no_more files path next (Err refusal) reads is h = cc

-- no VM holds a module that is missing
none_holds : (held : List VmEntry) → AllHold no_module (vms_over 0 (codes "b.wasm" ∷ [])) held → ⊥
none_holds [] h = h
none_holds (vm ∷ held) h = h.0.file.file

pub returns : goal.returns
returns c = record {
  no_module_behind = λ judged h. not_spelled h.0.0 h.0.1.file.spelled;
  no_script_behind = λ judged h. not_spelled h.0.0 h.0.1.file.spelled;
  itself = λ judged. tt;
  alone = λ judged number key new h. h;
  not_played = λ config old new h. absurd (cc (h.1));
  not_cut = λ config old new h. absurd (cc (h.1));
  nothing_printed = λ config old new h. ⊎_elim (λ nothing. nothing) (λ cut. absurd (cc (cut.1))) h;
  not_called = λ h. h;
  called = tt;
  not_loaded = λ config h. h.read;
  not_refused = λ number key h. h;
  not_checked = λ old new h. h.1.read;
  none_behind = λ judged reads is h. no_more no_module _ _ judged reads is h;
  not_held = λ pages m h. h.file;
  nothing_played = λ status old new h. ⊎_elim (λ unloaded. unloaded.1) (λ played. absurd (none_holds played.0.vms played.1.vms)) h;
}
