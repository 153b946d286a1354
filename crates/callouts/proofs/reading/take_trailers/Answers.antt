use Rattle.std.proofs.Common.{sym, ap, ◌∙◌}
use Rattle.header_maps.specs.Headers.{Headers}
use Rattle.header_maps.specs.declared.kind.ListKind.{ListKind}
use Rattle.callouts.specs.declared.types.Callout.{Callout}
use Rattle.callouts.proofs.reading.take_trailers.Goals as goal

pub returns-in-Plain-clause-callout : goal.returns-in-Plain-clause-callout
returns-in-Plain-clause-callout c =
    let with_kind : ListKind → Callout = λ k. record c.args.c.now { answer = record c.args.c.now.answer { trailers = record { kind = k; pairs = c.args.fields.pairs } } } in
    ap with_kind (sym c.kind.ensures.kind ∙ c.in-Plain.is)
