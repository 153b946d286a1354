use Rattle.std.proofs.Common.{◌∙◌, sym}
use Rattle.http_header.specs.Token.{lowercase}
use Rattle.h1_text.proofs.Marked.{met_is_listed, found_within}
use Rattle.h1_text.proofs.names.ListedNames.is_listed.Goals as goal

pub returns-in-Some-clause-some : goal.returns-in-Some-clause-some
returns-in-Some-clause-some c =
    let tree = c.args.self.now.tree in
    let name = lowercase c.args.name.now in
    let h = sym c.found.ensures ∙ c.in-Some.is in
    λ values marked. c.mark_of.ensures ∙ marked.each c.in-Some.number (found_within tree name c.in-Some.number h) ∙ met_is_listed tree name c.in-Some.number values h
