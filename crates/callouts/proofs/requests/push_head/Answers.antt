use Rattle.std.proofs.Common.{List, ◌++◌, ap, ◌∙◌}
use Rattle.httparse.specs.Ascii.{crlf_bytes}
use Rattle.h1_head.specs.Seen.{bare_head}
use Rattle.h1_model.specs.Fields.{Pair}
use Rattle.h1_model.specs.Framing.{start_lines, framing_line}
use Rattle.h1_model.specs.Wire.{close_field, field_line, field_lines, sent_fields}
use Rattle.h1_write.specs.Seen.{seen_framing}
use Rattle.callouts.proofs.Framed.{five}
use Rattle.callouts.proofs.requests.push_head.Goals as goal

pub returns : goal.returns
returns c =
    let f = c.args.fields.now in
    five c.args.out.now (start_lines (bare_head f) f.kind) (field_lines (sent_fields f.pairs)) (framing_line (seen_framing c.args.framing)) (field_line close_field) crlf_bytes
    c.push_start.new.out c.push_fields.new.out c.push_framing.new.out c.push_field.new.out c.extend_from_slice.new.self
    c.in_ok-push_start.ensures
    (c.in_ok-push_fields.ensures.ok ∙ ap (λ (ps : List Pair). c.push_start.new.out ++ field_lines (sent_fields ps)) c.texts.ensures)
    c.in_ok-push_framing.ensures c.in_ok-push_field.ensures.ok c.in_ok-extend_from_slice.ensures.ok
