use Rattle.std.proofs.Common.{List, ℕ, [], ◌∷◌, subst}
use Rattle.gate_io.specs.Told.{Gains}
use Rattle.config_files.specs.Loading.{IsCode}
use Rattle.config_files.proofs.Read.{end_read, fault_read}
use Rattle.config_files.proofs.reading.vm_code.Goals as goal

pub returns-in-Ok-clause-code : goal.returns-in-Ok-clause-code
returns-in-Ok-clause-code g c = subst (λ (p : List ℕ). IsCode (g.F.Files.holds c.args.files.now) p c.args.vm.now.pages c.in-Ok.code) c.as_str.ensures c.in-Ok.ensures.code

pub returns-in-Err-Refused-clause-refused_read : goal.returns-in-Err-Refused-clause-refused_read
returns-in-Err-Refused-clause-refused_read g c =
    let old = g.F.Files.paths c.args.files.now in
    let new = g.F.Files.paths c.code_at.new.files in
    let read = fault_read c.as_str.result.now c.in-Err-Refused.field-0 c.in-Err-Refused.fault old new c.in-Err-Refused.field-0-is c.in-Err-Refused.ensures.refused_read in
    end_read c.args.vm.now.«module» c.bad_module.result old new (subst (λ (p : List ℕ). Gains old (p ∷ []) new) c.as_str.ensures read)
