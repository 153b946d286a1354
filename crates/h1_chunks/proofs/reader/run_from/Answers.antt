use Rattle.std.proofs.Common.{◌≡◌, ◌+◌, ◌-◌, ◌<◌, ◌≤◌, ◌++◌, slice_range, length, take, drop, ap, sym, ◌∙◌, arith}
use Rattle.std.proofs.lemmas.List.{take_rest, length-drop}
use Rattle.h1_chunks.specs.Seen.{seen_place}
use Rattle.h1_chunks.proofs.Runs.{gathers_none, gathers_more, gathers_full, gathers_all, more_length, not_data}
use Rattle.h1_chunks.proofs.reader.run_from.Goals.{else-loop-rest-test, then-loop-rest-test+in_default}
use Rattle.h1_chunks.proofs.reader.run_from.Goals as goal

pub loop-rest-init : goal.loop-rest-init
loop-rest-init c =
    let none : length c.new.result ≡ 0 = ap length c.new.ensures in
    record {
      within = omega arith;
      few = omega (arith, none);
      run = gathers_none c.new.result (seen_place c.args.place) c.args.text.now c.new.ensures;
    }

pub loop-rest-preserved : goal.loop-rest-preserved
loop-rest-preserved c =
    let text = c.args.text.now in
    let used = c.loop-rest.run.used in
    let bytes = c.loop-rest.run.bytes in
    let rest = take_rest text used in
    let len : length (take (length text - used) (drop used text)) ≡ length text - used = ap length rest ∙ length-drop used text in
    let fits = c.in-Data.ensures.within in
    let more : c.extend_from_slice.new.self ≡ bytes ++ slice_range (take (length text - used) (drop used text)) c.in-Data.at (c.in-Data.at + c.next_len-len.result) =
    c.in_ok-extend_from_slice.ensures.ok in
    let there : c.in-Data.at + c.next_len-len.result ≤ length (take (length text - used) (drop used text)) =
    omega (arith, fits.0, c.next_len-len.ensures.there) in
    let room : c.next_len-len.result ≤ 16384 - length bytes =
    omega (arith, c.next_len-len.ensures.room, c.len.ensures, c.len-in-loop-rest.ensures, c.loop-rest-test.true) in
    let some : 0 < c.next_len-len.result =
    c.next_len-len.ensures.some (omega (arith, fits.0)) fits.1 (omega (arith, c.len.ensures, c.len-in-loop-rest.ensures, c.loop-rest-test.true)) in
    let grown = more_length bytes c.extend_from_slice.new.self (take (length text - used) (drop used text)) c.in-Data.at c.next_len-len.result more there in
    record {
      within = omega (arith, there, len, c.loop-rest.invariant.within);
      few = omega (arith, grown, room, c.loop-rest.invariant.few);
      run = gathers_more bytes c.extend_from_slice.new.self used c.in-Data.at c.in-Data.left c.next_len-len.result
          (seen_place c.loop-rest.run.place) (seen_place c.args.place) text (take (length text - used) (drop used text)) rest
          (sym c.in-Data.ensures.sought) some room c.next_len-len.ensures.left there more c.loop-rest.invariant.run;
    }

pub returns-clause-run : goal.returns-clause-run
returns-clause-run c =
    let text = c.args.text.now in
    let used = c.loop-rest.run.used in
    elim c.loop-rest-test.branch [
      | else-loop-rest-test w ↦
          gathers_full c.loop-rest.run.bytes used (seen_place c.loop-rest.run.place) (seen_place c.args.place) text
          (omega (arith, c.len.ensures, w.loop-rest-test.false)) c.loop-rest.invariant.run
      | then-loop-rest-test+in_default w ↦
          gathers_all c.loop-rest.run.bytes used (seen_place c.loop-rest.run.place) (seen_place c.args.place) text
          (take (length text - used) (drop used text)) (take_rest text used)
          (not_data w.sought.result _ w.in_default.not-Data w.sought.ensures.sought) c.loop-rest.invariant.run
    ]
