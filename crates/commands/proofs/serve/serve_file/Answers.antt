use Rattle.std.proofs.Common.{inl, inr, subst, sym, refl, Some}
use Rattle.gate_config.specs.Given.{given}
use Rattle.gate_io.specs.Told.{gains_nothing}
use Rattle.command_statuses.specs.declared.status.Status.{Status}
use Rattle.config_files.specs.Loading.{IsNotLoaded}
use Rattle.commands.specs.Scripts.{IsUnloaded}
use Rattle.commands.proofs.Loaded.{unloaded}
use Rattle.commands.proofs.FilesRead.{reads_serve, reads_serve_stopped}
use Rattle.command_words.specs.Forms.{serve}
use Rattle.commands.specs.Reading.{ReadsFor}
use Rattle.commands.proofs.serve.serve_file.Goals as goal

pub returns-in-Ok-clause-serves : goal.returns-in-Ok-clause-serves
returns-in-Ok-clause-serves g c = inr (c.in-Ok.config, c.in-Ok.ensures.loaded, c.serve_by.ensures.served)

pub returns-in-Err-clause-serves : goal.returns-in-Err-clause-serves
returns-in-Err-clause-serves g c =
    inl (record {
      why = subst (λ (s : Status). IsUnloaded (IsNotLoaded (g.F.Files.holds c.args.files.now) c.args.path.now) s) (sym c.of_load.ensures)
          (unloaded (IsNotLoaded (g.F.Files.holds c.args.files.now) c.args.path.now) c.in-Err.end c.in-Err.ensures.refused);
      site_is = refl;
      nothing = gains_nothing (g.O.Sink.taken c.args.out.now);
    })

pub returns-in-Ok-clause-reads : goal.returns-in-Ok-clause-reads
returns-in-Ok-clause-reads g c =
    reads_serve (g.F.Files.holds c.args.files.now) c.args.path.now (given c.in-Ok.config) c.in-Ok.ensures.loaded _ _ c.in-Ok.ensures.all_read
    c.args.stop_after c.serve_by.result c.serve_by.ensures.served.end c.serve_by.ensures.served.status_is

pub returns-in-Err-clause-reads : goal.returns-in-Err-clause-reads
returns-in-Err-clause-reads g c =
    subst (λ (s : Status). ReadsFor (g.F.Files.holds c.args.files.now) (Some (serve c.args.path.now c.args.stop_after)) s (g.F.Files.paths c.args.files.now) (g.F.Files.paths c.load.new.files)) (sym c.of_load.ensures)
    (reads_serve_stopped (g.F.Files.holds c.args.files.now) c.args.path.now _ _ c.load.ensures.paths c.args.stop_after c.in-Err.end c.in-Err.ensures.stopped)
