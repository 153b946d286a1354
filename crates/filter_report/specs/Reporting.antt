-- The report of the module that bytes are, or why there is none.
use Rattle.std.specs.Prelude.{◌≡◌, ℕ, List}
use Rattle.wasm_syntax.specs.declared.module.Module.{Module}
use Rattle.wasm_syntax.specs.Grammar.{Spells, FirstFault}
use Rattle.wasm_syntax.specs.Validity.{IsValid}
use Rattle.filter_report.specs.declared.bytes.ReportEnd.{ReportEnd}
use Rattle.filter_report.specs.declared.bytes.ReportEnd.TheVariants as ends
use Rattle.filter_report.specs.Report.{report_of}

-- the bytes spell a valid module, and this is its report
pub record IsReport (bytes text : List ℕ) : Type 0 where
  pub of : Module
  pub spelled : Spells bytes of
  pub valid : IsValid of
  pub is : text ≡ report_of of

-- the bytes spell a module that is not valid
pub record IsInvalid (bytes : List ℕ) : Type 0 where
  pub of : Module
  pub spelled : Spells bytes of
  pub invalid : IsValid of → ⊥

-- why there is no report: this is the first fault of the bytes; the module is not valid; or memory ran out
abbrev pub IsNoReport : List ℕ → ReportEnd → Type 0
IsNoReport bytes (ends.Unread number place) = FirstFault bytes number place
IsNoReport bytes ends.Invalid = IsInvalid bytes
IsNoReport bytes ends.OutOfMemory = Unit {0}
