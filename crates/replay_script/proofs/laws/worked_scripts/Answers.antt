use Rattle.std.proofs.Common.{[], ◌∷◌, codes, refl, arith, false, lit<, lit≤}
use Rattle.std.specs.Fmt.{digits}
use Rattle.replay_script.specs.declared.command.Command.TheVariants.{On, At, Clock, Stop}
use Rattle.replay_script.specs.Commands.{text_of}
use Rattle.replay_script.specs.Scripts.{FirstBad, IsScript}
use Rattle.replay_script.proofs.LineEnds.{text_has_no_end}
use Rattle.replay_script.proofs.Readings.{not_next_there}
use Rattle.replay_script.proofs.laws.worked_scripts.Goals as goal

rising : IsScript 1 (codes "at 5\nclock\nat 5\nstop\n") (At 5 ∷ Clock ∷ At 5 ∷ Stop ∷ [])
unfolding digits
rising = record {
  lines = (
    record { in_form = lit< tt; rises = lit≤ tt; there = lit≤ tt; goes_on = refl },
    (
      record { in_form = tt; rises = lit≤ tt; there = lit≤ tt; goes_on = refl },
      (record { in_form = lit< tt; rises = lit≤ tt; there = lit≤ tt; goes_on = refl }, (record { in_form = tt; rises = lit≤ tt; there = lit≤ tt; goes_on = refl }, tt)),
    ),
  );
  is = refl;
}

falling : FirstBad 1 (codes "at 5\nclock\nat 4\nstop\n") 3
unfolding digits
falling = record {
  front = At 5 ∷ Clock ∷ [];
  rest = codes "at 4\nstop\n";
  lines = (record { in_form = lit< tt; rises = lit≤ tt; there = lit≤ tt; goes_on = refl }, (record { in_form = tt; rises = lit≤ tt; there = lit≤ tt; goes_on = refl }, tt));
  is = refl;
  number_is = refl;
  some = λ e. cc;
  bad = not_next_there (text_of (At 4)) (codes "stop\n") (codes "at 4\nstop\n") (At 4) (text_has_no_end (At 4) (lit< tt)) refl
      (record { in_form = lit< tt; text = refl }) (record { now = 5; who = 1; stopped = false; workers = 1 }) (λ next. omega (arith, next.rises));
}

no_worker : FirstBad 2 (codes "on 2\non 3\nstop\n") 2
unfolding digits
no_worker = record {
  front = On 2 ∷ [];
  rest = codes "on 3\nstop\n";
  lines = (record { in_form = record { low = lit≤ tt; high = lit≤ tt }; rises = lit≤ tt; there = lit≤ tt; goes_on = refl }, tt);
  is = refl;
  number_is = refl;
  some = λ e. cc;
  bad = not_next_there (text_of (On 3)) (codes "stop\n") (codes "on 3\nstop\n") (On 3) (text_has_no_end (On 3) (record { low = lit≤ tt; high = lit≤ tt })) refl
      (record { in_form = record { low = lit≤ tt; high = lit≤ tt }; text = refl }) (record { now = 0; who = 2; stopped = false; workers = 2 }) (λ next. omega (arith, next.there));
}

pub returns : goal.returns
unfolding digits
returns c = record {
  moments = refl;
  client = refl;
  server = refl;
  end = refl;
  empty = refl;
  rising = rising;
  falling = falling;
  workers = refl;
  no_worker = no_worker;
  kept = refl;
  none = refl;
  seed = refl;
}
