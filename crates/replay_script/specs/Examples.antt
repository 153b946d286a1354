-- Worked scripts: their events, moments that rise and that fall, and what the world of a script keeps.
use Rattle.std.specs.Prelude.{◌≡◌, ℕ, [], ◌∷◌, length, codes, None}
use Rattle.gate_io.specs.declared.event.Event.{Event}
use Rattle.gate_io.specs.declared.event.Sent.TheVariants as sent
use Rattle.gate_io.specs.declared.event.Side.TheVariants.{Down, Up}
use Rattle.gate_io.specs.declared.event.What.{What}
use Rattle.gate_io.specs.declared.event.What.TheVariants as what
use Rattle.gate_io.specs.declared.passed.Passed.TheVariants.{Asked, Gave, Took}
use Rattle.gate_io.specs.declared.passed.Wants.{Wants}
use Rattle.replay_script.specs.declared.command.Command.TheVariants.{On, At, Open, Bytes, End, Gone, Joined, Refused, UpBytes, UpEnd, UpGone, Clock, Stop}
use Rattle.replay_script.specs.Scripts.{events_of, workers_of, IsScript, FirstBad}
use Rattle.replay_script.specs.ScriptWorld.{taken_since, zero_seed}

abbrev moment : ℕ → What → Event
moment now what = record { now = now; what = what }

abbrev wants : Wants
wants = record { down = []; up = []; due = None }

pub record WorkedScripts : Type 0 where
  -- what stands after `at` happens at its moment, and so does the Stop at the end
  pub moments : events_of (Open 1 ∷ At 5 ∷ Bytes 1 (65 ∷ []) ∷ Clock ∷ At 9 ∷ []) ≡ moment 0 (what.Opened 1) ∷ moment 5 (what.Bytes 1 Down (65 ∷ [])) ∷ moment 5 what.Clock ∷ moment 9 what.Stop ∷ []
  pub client : events_of (End 1 ∷ Gone 1 ∷ []) ≡ moment 0 (what.End 1 Down) ∷ moment 0 (what.Gone 1 Down) ∷ moment 0 what.Stop ∷ []
  pub server : events_of (Joined 1 ∷ UpBytes 1 (66 ∷ []) ∷ UpEnd 1 ∷ UpGone 1 ∷ Refused 2 ∷ []) ≡
      moment 0 (what.Joined 1) ∷ moment 0 (what.Bytes 1 Up (66 ∷ [])) ∷ moment 0 (what.End 1 Up) ∷ moment 0 (what.Gone 1 Up) ∷ moment 0 (what.Refused 2) ∷ moment 0 what.Stop ∷ []
  -- the end of the script is a `stop`
  pub end : events_of (At 5 ∷ []) ≡ events_of (At 5 ∷ Stop ∷ [])
  pub empty : events_of [] ≡ moment 0 what.Stop ∷ []
  -- a moment may come again, and may not fall
  pub rising : IsScript 1 (codes "at 5\nclock\nat 5\nstop\n") (At 5 ∷ Clock ∷ At 5 ∷ Stop ∷ [])
  pub falling : FirstBad 1 (codes "at 5\nclock\nat 4\nstop\n") 3
  -- what stands after `on` happens at its worker, from worker 1 on; a worker that is not there is of no form
  pub workers : workers_of (Open 1 ∷ On 2 ∷ Open 1 ∷ At 5 ∷ Clock ∷ On 1 ∷ End 1 ∷ []) ≡ 1 ∷ 2 ∷ 2 ∷ 1 ∷ 1 ∷ []
  pub no_worker : FirstBad 2 (codes "on 2\non 3\nstop\n") 2
  -- what was taken since the last event
  pub kept : taken_since (Asked wants ∷ Gave (moment 0 (what.Opened 1)) ∷ Took (sent.Connect 1) ∷ Asked wants ∷ Gave (moment 0 what.Clock) ∷ Took (sent.Connect 2) ∷ Took (sent.Close 2 Down) ∷ [])
      ≡ sent.Connect 2 ∷ sent.Close 2 Down ∷ []
  pub none : taken_since (Took (sent.Connect 1) ∷ Asked wants ∷ Gave (moment 0 what.Stop) ∷ []) ≡ []
  pub seed : length zero_seed ≡ 32
