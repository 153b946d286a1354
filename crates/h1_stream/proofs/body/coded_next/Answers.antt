use Rattle.std.proofs.Common.{◌≡◌, true, List, ℕ, ◌+◌, ◌-◌, Some, length, take, drop, ap, sym, subst, arith}
use Rattle.std.proofs.lemmas.List.{take_all, length-drop}
use Rattle.h1_model.specs.Chunks.{Place}
use Rattle.h1_model.specs.Trailers.{SpellsChunks, ended, not_yet, refused}
use Rattle.h1_model.specs.Messages.{Due, body, coded, section_step}
use Rattle.h1_model.specs.Unread.{piece, part, none, IsNext}
use Rattle.h1_model.proofs.TrailerLaws.{trailers_are_fields}
use Rattle.h1_chunks.specs.declared.reader.ChunkStep.{ChunkStep}
use Rattle.h1_chunks.specs.Answers.{seen_step}
use Rattle.h1_stream.specs.Behind.{StandsBehind}
use Rattle.h1_stream.specs.Seen.{asked_of, seen_next, seen_stop}
use Rattle.h1_stream.proofs.Bodies.{alone}
use Rattle.h1_model.proofs.Carried.{coded_there}
use Rattle.h1_stream.proofs.Coded.{piece_ends, piece_goes_on}
use Rattle.h1_stream.proofs.body.coded_next.Goals as goal

-- what a slice from a place on has
suffix_is : (n : ℕ) (text : List ℕ) → take (length text - n) (drop n text) ≡ drop n text
suffix_is n text = take_all (length text - n) (drop n text) (omega (arith, length-drop n text))

pub end_next-requires : goal.end_next-requires
end_next-requires c =
    let placed = subst (λ (p : Place). SpellsChunks p c.args.text.now (seen_step c.next.new.self c.in_ok-bytes.field-0)) c.copy-reader.ensures c.in_ok-bytes.ensures.ok.spelled in
    let spelled = subst (λ (s : ChunkStep). SpellsChunks c.args.at.now c.args.text.now (seen_step c.next.new.self s)) c.in-End.is placed in
    trailers_are_fields c.args.at.now c.args.text.now c.in-End.trailers.pairs c.in-End.used spelled

pub returns-in-Some-clause-next : goal.returns-in-Some-clause-next
returns-in-Some-clause-next c =
    let asked = asked_of c.args.kind in
    let placed = subst (λ (p : Place). SpellsChunks p c.args.text.now (seen_step c.next.new.self c.in_ok-bytes.field-0)) c.copy-reader.ensures c.in_ok-bytes.ensures.ok.spelled in
    let spelled = subst (λ (s : ChunkStep). SpellsChunks c.args.at.now c.args.text.now (seen_step c.next.new.self s)) c.in-Data.is placed in
    let there = subst (λ (t : List ℕ). StandsBehind c.args.ended asked c.args.connection.now c.next.new.self t c.in_ok-more-in-Data.field-0) (suffix_is c.in-Data.used c.args.text.now) (c.in_ok-more-in-Data.ensures.behind c.args.ended) in
    let behind = subst (λ f. StandsBehind c.args.ended asked c.args.connection.now c.next.new.self (drop c.in-Data.used c.args.text.now) f) c.in-Some.is there in
    let next = piece_ends c.args.ended asked c.args.connection.now c.args.at.now c.args.text.now (record { bytes = c.in-Data.bytes; used = c.in-Data.used; place = c.next.new.self }) c.in-Some.more spelled behind in
    let moved = subst (λ (d : Due). IsNext c.args.ended asked (body (coded c.args.connection.now c.args.at.now)) c.args.text.now (part (piece c.in-Data.bytes true) (c.in-Data.used + c.in-Some.more) d)) (sym c.due_next.ensures) next in
    subst (λ n. IsNext c.args.ended asked (body (coded c.args.connection.now c.args.at.now)) c.args.text.now (seen_next (body (coded c.args.connection.now c.args.at.now)) n)) (sym c.piece.ensures) moved

pub returns-in-None-clause-next : goal.returns-in-None-clause-next
returns-in-None-clause-next c =
    let asked = asked_of c.args.kind in
    let placed = subst (λ (p : Place). SpellsChunks p c.args.text.now (seen_step c.next.new.self c.in_ok-bytes.field-0)) c.copy-reader.ensures c.in_ok-bytes.ensures.ok.spelled in
    let spelled = subst (λ (s : ChunkStep). SpellsChunks c.args.at.now c.args.text.now (seen_step c.next.new.self s)) c.in-Data.is placed in
    let there = subst (λ (t : List ℕ). StandsBehind c.args.ended asked c.args.connection.now c.next.new.self t c.in_ok-more-in-Data.field-0) (suffix_is c.in-Data.used c.args.text.now) (c.in_ok-more-in-Data.ensures.behind c.args.ended) in
    let behind = subst (λ f. StandsBehind c.args.ended asked c.args.connection.now c.next.new.self (drop c.in-Data.used c.args.text.now) f) c.in-None.is there in
    piece_goes_on c.args.ended asked c.args.connection.now c.args.at.now c.args.text.now (record { bytes = c.in-Data.bytes; used = c.in-Data.used; place = c.next.new.self }) spelled behind

pub returns-in-End-clause-next : goal.returns-in-End-clause-next
returns-in-End-clause-next c =
    let asked = asked_of c.args.kind in
    let placed = subst (λ (p : Place). SpellsChunks p c.args.text.now (seen_step c.next.new.self c.in_ok-bytes.field-0)) c.copy-reader.ensures c.in_ok-bytes.ensures.ok.spelled in
    let spelled = subst (λ (s : ChunkStep). SpellsChunks c.args.at.now c.args.text.now (seen_step c.next.new.self s)) c.in-End.is placed in
    let there = coded_there c.args.ended asked c.args.connection.now c.args.at.now c.args.text.now (ended c.in-End.trailers.pairs c.in-End.used) spelled tt in
    alone c.args.ended asked (body (coded c.args.connection.now c.args.at.now)) c.args.text.now (section_step c.args.ended asked c.args.connection.now (ended c.in-End.trailers.pairs c.in-End.used)) (seen_next (body (coded c.args.connection.now c.args.at.now)) c.end_next.result) there (c.end_next.ensures.next (body (coded c.args.connection.now c.args.at.now)))

pub returns-in-NotYet-clause-next : goal.returns-in-NotYet-clause-next
returns-in-NotYet-clause-next c =
    let asked = asked_of c.args.kind in
    let placed = subst (λ (p : Place). SpellsChunks p c.args.text.now (seen_step c.next.new.self c.in_ok-bytes.field-0)) c.copy-reader.ensures c.in_ok-bytes.ensures.ok.spelled in
    let spelled = subst (λ (s : ChunkStep). SpellsChunks c.args.at.now c.args.text.now (seen_step c.next.new.self s)) c.in-NotYet.is placed in
    let there = coded_there c.args.ended asked c.args.connection.now c.args.at.now c.args.text.now not_yet spelled tt in
    alone c.args.ended asked (body (coded c.args.connection.now c.args.at.now)) c.args.text.now (section_step c.args.ended asked c.args.connection.now not_yet) (none (seen_stop c.stop_short.result)) there (ap (λ w. Some (none w)) (sym c.stop_short.ensures))

pub returns-in-Refused-clause-next : goal.returns-in-Refused-clause-next
returns-in-Refused-clause-next c =
    let asked = asked_of c.args.kind in
    let placed = subst (λ (p : Place). SpellsChunks p c.args.text.now (seen_step c.next.new.self c.in_ok-bytes.field-0)) c.copy-reader.ensures c.in_ok-bytes.ensures.ok.spelled in
    let spelled = subst (λ (s : ChunkStep). SpellsChunks c.args.at.now c.args.text.now (seen_step c.next.new.self s)) c.in-Refused.is placed in
    let there = coded_there c.args.ended asked c.args.connection.now c.args.at.now c.args.text.now (refused c.in-Refused.number) spelled tt in
    alone c.args.ended asked (body (coded c.args.connection.now c.args.at.now)) c.args.text.now (section_step c.args.ended asked c.args.connection.now (refused c.in-Refused.number)) (none (seen_stop c.malformed.result)) there (ap (λ w. Some (none w)) (sym c.malformed.ensures))
