use Rattle.std.proofs.Common.{◌≡◌, Ok, Err}
use Rattle.config_files.specs.Modules.{HasFault, IsModule}
use Rattle.config_files.proofs.Read.{of_missing}
use Rattle.config_reader.specs.Whole.{config_of}
use Rattle.config_files.proofs.laws.missing_is_nothing.Goals as goal

pub returns-clause-loaded : goal.returns-clause-loaded
returns-clause-loaded c files path config missing h = of_missing files path (λ text. config_of text ≡ Ok h.said) missing h.read

pub returns-clause-refused : goal.returns-clause-refused
returns-clause-refused c files path number key missing h = of_missing files path (λ text. config_of text ≡ Err (number, key)) missing h

pub returns-clause-held : goal.returns-clause-held
returns-clause-held c files path pages m missing h = of_missing files path (λ bytes. IsModule bytes m) missing h.file

pub returns-clause-bad : goal.returns-clause-bad
returns-clause-bad c files path pages fault missing h = of_missing files path (λ bytes. HasFault bytes pages fault) missing h
