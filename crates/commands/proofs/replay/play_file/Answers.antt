use Rattle.std.proofs.Common.{ℕ, List, Err, subst}
use Rattle.gate_io.specs.Paths.{ReadsTold}
use Rattle.commands.specs.Scripts.{PlaysText, script_limit}
use Rattle.commands.proofs.OneFile.{long_script, plays_text, script_read}
use Rattle.commands.proofs.replay.play_file.Goals as goal

pub returns-in-Ok-clause-plays : goal.returns-in-Ok-clause-plays
returns-in-Ok-clause-plays g c =
    plays_text (g.F.Files.holds c.args.files.now) c.args.path.now c.in-Ok.text script_limit c.args.config c.play_text.result (g.O.Sink.taken c.args.out.now) (g.O.Sink.taken c.play_text.new.out) c.in-Ok.ensures.content
    (subst (λ (t : List ℕ). PlaysText c.args.config t c.play_text.result (g.O.Sink.taken c.args.out.now) (g.O.Sink.taken c.play_text.new.out)) c.as_slice.ensures c.play_text.ensures.plays)

pub returns-in-Ok-clause-one : goal.returns-in-Ok-clause-one
returns-in-Ok-clause-one g c = script_read c.args.config c.args.path.now c.as_slice.result.now c.play_text.result _ _ _ _ c.play_text.ensures.plays c.in-Ok.ensures.paths

pub returns-in-Err-TooLong-clause-plays : goal.returns-in-Err-TooLong-clause-plays
returns-in-Err-TooLong-clause-plays g c =
    long_script (g.F.Files.holds c.args.files.now) c.args.path.now c.args.config (g.O.Sink.taken c.args.out.now)
    (subst (λ e. ReadsTold (g.F.Files.holds c.args.files.now) c.args.path.now script_limit (Err e)) c.in-Err-TooLong.field-0-is c.in-Err-TooLong.ensures.content)
