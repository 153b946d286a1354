-- The worked exchange, by computation.
use Rattle.std.proofs.Common.{refl}
use Rattle.law_asked.specs.LineExamples.{LineExample}

pub line_example : LineExample
line_example = record {
  unused = (
    record { waiting = refl; holding = refl; asking = refl },
    (
      record { waiting = refl; holding = refl; asking = refl },
      (record { waiting = refl; holding = refl; asking = refl }, (record { waiting = refl; holding = refl; asking = refl }, tt)),
    ),
  );
  may = (
    ((refl, refl), tt),
    (
      tt,
      (
        ((refl, refl), λ _. tt),
        (tt, (((refl, refl), λ _. tt), (((refl, refl), tt), (tt, (((refl, refl), λ _. tt), (tt, (((refl, refl), λ _. tt), tt))))))),
      ),
    ),
  );
  held_asked = refl;
  held_next = refl;
  held_sent = refl;
  three_sent = refl;
  all_asked = refl;
  all_let = refl;
  all_left = refl;
  all_sent = refl;
}
