use Rattle.law_body.proofs.Deaths.{deaths_are_deeds, deaths_pass, dropping_drops}
use Rattle.law_body.proofs.laws.deaths_cut_or_pass.Goals as goal

pub returns-clause-deaths : goal.returns-clause-deaths
returns-clause-deaths c = deaths_pass

pub returns-clause-dropped : goal.returns-clause-dropped
returns-clause-dropped c = dropping_drops

pub returns-clause-deeds : goal.returns-clause-deeds
returns-clause-deeds c = deaths_are_deeds
