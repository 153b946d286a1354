use Rattle.std.proofs.Common.{ap, sym, refl, subst}
use Rattle.h1_model.specs.Chunks.{Place, data_at}
use Rattle.h1_model.specs.Trailers.{carried}
use Rattle.h1_chunks.specs.declared.reader.ChunkStep.TheVariants as steps
use Rattle.h1_chunks.specs.Answers.{Answers}
use Rattle.h1_chunks.specs.Seen.{seen_place}
use Rattle.h1_chunks.proofs.Ends.{spells_along}
use Rattle.h1_chunks.proofs.reader.ChunkReader.next.Goals as goal

pub returns-in_ok-run-in-Data-clause-ok : goal.returns-in_ok-run-in-Data-clause-ok
returns-in_ok-run-in-Data-clause-ok c =
    subst (λ (p : Place). Answers p c.args.text.now (steps.Data c.in_ok-run-in-Data.run'.bytes c.in_ok-run-in-Data.run'.used) (seen_place c.in_ok-run-in-Data.run'.place)) c.self.view_is (record {
      spelled = spells_along (seen_place c.self.inside.place) c.args.text.now (data_at c.in-Data.at c.in-Data.left) _ (sym c.in-Data.ensures.sought) (ap carried c.in_ok-run-in-Data.ensures.run);
      leaves = refl;
    })
