use Rattle.std.proofs.Common.{inl, inr, subst, sym, Some}
use Rattle.gate_config.specs.Given.{given}
use Rattle.gate_io.specs.Told.{gains_nothing}
use Rattle.command_statuses.specs.declared.status.Status.{Status}
use Rattle.config_files.specs.Loading.{IsNotLoaded}
use Rattle.commands.specs.Scripts.{IsUnloaded, Plays}
use Rattle.commands.proofs.Loaded.{unloaded}
use Rattle.commands.proofs.FilesRead.{reads_config, reads_config_stopped}
use Rattle.command_words.specs.Forms.{replay_config}
use Rattle.commands.specs.Reading.{ReadsFor}
use Rattle.commands.proofs.replay.replay_config.Goals as goal

pub returns-in-Ok-clause-replays : goal.returns-in-Ok-clause-replays
returns-in-Ok-clause-replays g c =
    inr (
      c.in-Ok.config,
      c.in-Ok.ensures.loaded,
      subst (λ h. Plays h c.args.script.now c.in-Ok.config c.play_file.result (g.O.Sink.taken c.args.out.now) (g.O.Sink.taken c.play_file.new.out)) c.load.ensures.holds c.play_file.ensures.plays,
    )

pub returns-in-Err-clause-replays : goal.returns-in-Err-clause-replays
returns-in-Err-clause-replays g c =
    inl (
      subst (λ (s : Status). IsUnloaded (IsNotLoaded (g.F.Files.holds c.args.files.now) c.args.config.now) s) (sym c.of_load.ensures)
          (unloaded (IsNotLoaded (g.F.Files.holds c.args.files.now) c.args.config.now) c.in-Err.end c.in-Err.ensures.refused),
      gains_nothing (g.O.Sink.taken c.args.out.now),
    )

pub returns-in-Ok-clause-reads : goal.returns-in-Ok-clause-reads
returns-in-Ok-clause-reads g c =
    reads_config (g.F.Files.holds c.args.files.now) c.args.config.now (given c.in-Ok.config) c.in-Ok.ensures.loaded c.args.script.now c.play_file.result _ _ _ c.in-Ok.ensures.all_read c.play_file.ensures.front c.play_file.ensures.one

pub returns-in-Err-clause-reads : goal.returns-in-Err-clause-reads
returns-in-Err-clause-reads g c =
    subst (λ (s : Status). ReadsFor (g.F.Files.holds c.args.files.now) (Some (replay_config c.args.config.now c.args.script.now)) s (g.F.Files.paths c.args.files.now) (g.F.Files.paths c.load.new.files)) (sym c.of_load.ensures)
    (reads_config_stopped (g.F.Files.holds c.args.files.now) c.args.config.now _ _ c.load.ensures.paths c.args.script.now c.in-Err.end c.in-Err.ensures.stopped)
