-- Worked: the maps of the turns of a filter, and what is refused.
use Rattle.std.proofs.Common.{◌≡◌, ℕ, ◌≤◌, zero, suc, true, false, List, [], ◌∷◌, ◌++◌, map, length, arith, length-append, refl}
use Rattle.std.specs.Prelude.{codes}
use Rattle.contexts.specs.declared.parts.StageBuffer as parts
use Rattle.filter_host.specs.declared.host.Callback.TheVariants as callbacks
use Rattle.exchange.specs.Heads.{request_of, sent_head, up_framing, up_tail}
use Rattle.law_exchange.specs.Traffic.{Traffic, byte, closes}
use Rattle.httparse.specs.Ascii.{crlf_bytes}
use Rattle.httparse.proofs.OnLiterals.{httparse_on_literals}
use Rattle.http_header.specs.Token.{is_token_byte}
use Rattle.h1_model.specs.Framing.{Framing, framing_line, start_lines, head_wire}
use Rattle.h1_model.specs.Head.{Head}
use Rattle.h1_model.specs.Wire.{field_lines, sent_fields}
use Rattle.law_read_back.specs.Examples.{filter_plan, made_fields}
use Rattle.law_read_back.specs.Maps.{IsFieldList, AreLists, KeepLists, BeginsWithHead, smuggled_fields, MapExamples, written_head}
use Rattle.law_read_back.specs.Runs.{rewriting, filter_contexts}
use Rattle.law_read_back.proofs.Places.{stage_lists, view_lists}
use Rattle.law_read_back.proofs.Running.{filter_run}
use Rattle.law_read_back.proofs.Staying.{maps_stay_lists}
use Rattle.law_read_back.proofs.Worked.{made_taken}

made_shape : IsFieldList made_fields
made_shape = record { kind = made_taken.listed.kind; shape = made_taken.listed.list.shape }

rewriting_keeps : KeepLists rewriting
rewriting_keeps host vm callbacks.RequestHeaders context one two now h are = view_lists _ 0 h (λ v has. made_shape) are
rewriting_keeps host vm callbacks.RequestBody context one two now h are = stage_lists (λ (t : parts.StageBuffer). record t { held = codes "XYZ" }) h 0 context false are
rewriting_keeps host vm name context one two now h are = are

filter_lists : AreLists filter_contexts
filter_lists zero = tt
filter_lists (suc place) = tt

-- a head is some bytes
some_wire : (framing : Framing) (h : Head) → 2 ≤ length (head_wire framing h)
some_wire framing h = longer (start_lines h h.fields.kind) (field_lines (sent_fields h.fields.pairs)) (framing_line framing) (field_lines h.tail.pairs)
  where
    longer : (a b c d : List ℕ) → 2 ≤ length (a ++ b ++ c ++ d ++ crlf_bytes)
    longer a b c d = omega (arith, length-append (a ++ b ++ c ++ d) crlf_bytes)

begins_with : (bytes : List ℕ) (rest : List Traffic) → 2 ≤ length bytes → [] ≡ map byte bytes ++ rest → ⊥
begins_with [] rest some is = omega (arith, some)
begins_with (b ∷ bytes) rest some is = absurd (cc)

begins_close : (bytes : List ℕ) (rest : List Traffic) → 2 ≤ length bytes → closes ∷ [] ≡ map byte bytes ++ rest → ⊥
begins_close [] rest some is = omega (arith, some)
begins_close (b ∷ bytes) rest some is = absurd (cc)

none_bare : BeginsWithHead [] → ⊥
none_bare e = begins_with (written_head e.fields e.head e.filtered) e.rest (some_wire (up_framing e.filtered (request_of e.head)) (sent_head e.fields (up_tail e.head.minor))) e.is

none_closed : BeginsWithHead (closes ∷ []) → ⊥
none_closed e = begins_close (written_head e.fields e.head e.filtered) e.rest (some_wire (up_framing e.filtered (request_of e.head)) (sent_head e.fields (up_tail e.head.minor))) e.is

none_smuggled : IsFieldList smuggled_fields → ⊥
unfolding httparse_on_literals is_token_byte
none_smuggled is = let never : false ≡ true = is.shape.1.1.1.1.kept in absurd (cc)

pub map_examples : MapExamples
map_examples = record {
  keeps = rewriting_keeps;
  run = filter_run;
  kept = maps_stay_lists ℕ rewriting filter_plan filter_contexts 0 filter_run.turns filter_run.to 1 refl filter_run.logs rewriting_keeps filter_lists filter_run.run;
  bare = λ e. none_bare e.0;
  closed = λ e. none_closed e.0;
  smuggled = none_smuggled;
}
