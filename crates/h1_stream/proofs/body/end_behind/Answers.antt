use Rattle.std.proofs.Common.{◌≡◌, Bool, true, sym, ◌∙◌, subst}
use Rattle.h1_model.specs.Chunks.{Place}
use Rattle.h1_model.specs.Trailers.{SpellsChunks}
use Rattle.h1_model.proofs.TrailerLaws.{trailers_are_fields}
use Rattle.h1_chunks.specs.declared.reader.ChunkStep.{ChunkStep}
use Rattle.h1_chunks.specs.Answers.{seen_step}
use Rattle.h1_stream.specs.Seen.{asked_of}
use Rattle.h1_stream.proofs.Coded.{byte_there, end_there, trailers_there, rest_there, refusal_there, no_data_carried}
use Rattle.h1_stream.proofs.body.end_behind.Goals as goal

pub left_trailers-requires : goal.left_trailers-requires
left_trailers-requires c =
    let placed = subst (λ (p : Place). SpellsChunks p c.args.text.now (seen_step c.next.new.self c.in_ok-trailers.field-0)) c.copy.ensures c.in_ok-trailers.ensures.ok.spelled in
    let spelled = subst (λ (s : ChunkStep). SpellsChunks c.args.reader.now c.args.text.now (seen_step c.next.new.self s)) c.in-End.is placed in
    trailers_are_fields c.args.reader.now c.args.text.now c.in-End.trailers.pairs c.in-End.used spelled

pub returns-then-has_data-clause-behind : goal.returns-then-has_data-clause-behind
returns-then-has_data-clause-behind c = λ (e : Bool). byte_there e (asked_of c.args.kind) c.args.connection.now c.args.reader.now c.args.text.now (sym c.has_data.ensures ∙ c.if-has_data.true)

pub returns-then-is_empty-clause-behind : goal.returns-then-is_empty-clause-behind
returns-then-is_empty-clause-behind c = λ (e : Bool).
    let placed = subst (λ (p : Place). SpellsChunks p c.args.text.now (seen_step c.next.new.self c.in_ok-trailers.field-0)) c.copy.ensures c.in_ok-trailers.ensures.ok.spelled in
    let spelled = subst (λ (s : ChunkStep). SpellsChunks c.args.reader.now c.args.text.now (seen_step c.next.new.self s)) c.in-End.is placed in
    end_there e (asked_of c.args.kind) c.args.connection.now c.args.reader.now c.args.text.now c.in-End.trailers.pairs c.in-End.used spelled (sym c.left_trailers.ensures ∙ c.is_empty-in-End.ensures.0 c.if-is_empty.true)

pub returns-in-End-clause-behind : goal.returns-in-End-clause-behind
returns-in-End-clause-behind c = λ (e : Bool).
    let placed = subst (λ (p : Place). SpellsChunks p c.args.text.now (seen_step c.next.new.self c.in_ok-trailers.field-0)) c.copy.ensures c.in_ok-trailers.ensures.ok.spelled in
    let spelled = subst (λ (s : ChunkStep). SpellsChunks c.args.reader.now c.args.text.now (seen_step c.next.new.self s)) c.in-End.is placed in
    trailers_there e (asked_of c.args.kind) c.args.connection.now c.args.reader.now c.args.text.now c.in-End.trailers.pairs c.in-End.used spelled (λ none. let some : c.is_empty-in-End.result ≡ true = c.is_empty-in-End.ensures.1 (c.left_trailers.ensures ∙ none) in cc)

pub returns-in-Data-clause-behind : goal.returns-in-Data-clause-behind
returns-in-Data-clause-behind c = λ (e : Bool).
    let placed = subst (λ (p : Place). SpellsChunks p c.args.text.now (seen_step c.next.new.self c.in_ok-trailers.field-0)) c.copy.ensures c.in_ok-trailers.ensures.ok.spelled in
    let spelled = subst (λ (s : ChunkStep). SpellsChunks c.args.reader.now c.args.text.now (seen_step c.next.new.self s)) c.in-Data.is placed in
    absurd (no_data_carried c.args.reader.now c.args.text.now _ spelled (sym c.has_data.ensures ∙ c.if-has_data.false))

pub returns-in-NotYet-clause-behind : goal.returns-in-NotYet-clause-behind
returns-in-NotYet-clause-behind c = λ (e : Bool).
    let placed = subst (λ (p : Place). SpellsChunks p c.args.text.now (seen_step c.next.new.self c.in_ok-trailers.field-0)) c.copy.ensures c.in_ok-trailers.ensures.ok.spelled in
    let spelled = subst (λ (s : ChunkStep). SpellsChunks c.args.reader.now c.args.text.now (seen_step c.next.new.self s)) c.in-NotYet.is placed in
    rest_there e (asked_of c.args.kind) c.args.connection.now c.args.reader.now c.args.text.now spelled

pub returns-clause-behind : goal.returns-clause-behind
returns-clause-behind c = λ (e : Bool).
    let placed = subst (λ (p : Place). SpellsChunks p c.args.text.now (seen_step c.next.new.self c.in_ok-trailers.field-0)) c.copy.ensures c.in_ok-trailers.ensures.ok.spelled in
    let spelled = subst (λ (s : ChunkStep). SpellsChunks c.args.reader.now c.args.text.now (seen_step c.next.new.self s)) c.in-Refused.is placed in
    refusal_there e (asked_of c.args.kind) c.args.connection.now c.args.reader.now c.args.text.now c.in-Refused.number spelled
