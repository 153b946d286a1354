-- The worked examples, by computation.
use Rattle.std.proofs.Common.{refl}
use Rattle.std.specs.Fmt.{digits}
use Rattle.httparse.proofs.OnLiterals.{httparse_on_literals}
use Rattle.httpdate.proofs.OnLiterals.{httpdate_on_literals}
use Rattle.h1_model.specs.Moment.{year_from, month_from}
use Rattle.local_reply.specs.Examples.{MomentExamples, ReplyExamples}

pub moment_examples : MomentExamples
unfolding httpdate_on_literals year_from month_from
moment_examples = record {
  first = refl;
  same_second = refl;
  next_second = refl;
  of_the_standard = refl;
  end_of_day = refl;
  next_day = refl;
  end_of_year = refl;
  next_year = refl;
  leap_day = refl;
  no_leap_day = refl;
  last = refl;
}

pub reply_examples : ReplyExamples
unfolding httparse_on_literals httpdate_on_literals digits year_from month_from
reply_examples = record {
  not_found = refl;
  too_large = refl;
  mixed_fields = refl;
  own_date = refl;
  date_left_out = refl;
  to_head = refl;
  no_content = refl;
  not_modified = refl;
}
