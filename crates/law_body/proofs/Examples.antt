-- The worked example of an exchange, by computation.
use Rattle.std.proofs.Common.{false, refl, arith}
use Rattle.law_body.specs.Deeds.{AreDeeds}
use Rattle.httparse.proofs.OnLiterals.{httparse_on_literals}
use Rattle.std.specs.Fmt.{digits}
use Rattle.law_body.specs.Examples.{ExchangeExamples, uploaded, upload_start}

upload_are : AreDeeds false 1 1 uploaded upload_start
upload_are = (
  record { runs = (refl, refl); acts = (tt, tt); chain = tt },
  (
    record { runs = (refl, refl); acts = ((refl, (tt, (((omega arith), _, refl), tt))), tt); chain = tt },
    (
      record { runs = (refl, refl); acts = ((tt, λ _. tt), tt); chain = tt },
      (
        record { runs = (refl, refl); acts = (tt, tt); chain = tt },
        (
          record { runs = (refl, refl); acts = ((refl, (tt, (((omega arith), _, refl), tt))), tt); chain = tt },
          (record { runs = (refl, refl); acts = ((refl, λ _. tt), tt); chain = tt }, tt),
        ),
      ),
    ),
  ),
)

pub exchange_examples : ExchangeExamples
unfolding httparse_on_literals digits
exchange_examples = record {
  upload_new = record {
    due = refl;
    idle = (record { waiting = refl; holding = refl; asking = refl; empty = refl }, tt);
    there = (((omega arith), _, refl), tt);
    apart = (tt, tt);
  };
  upload_deeds = upload_are;
  upload_order = (λ e. absurd (cc e), (λ _. refl, tt));
  upload_left = refl;
  upload_buffers = refl;
  upload_ends = refl;
  upload_sent = refl;
}
