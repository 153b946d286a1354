use Rattle.std.proofs.Common.{◌≡◌, ◌∷◌, ◌++◌, [], codes, decimal, ◌∙◌}
use Rattle.command_statuses.proofs.Written.{all_written, front_written, more_written, on_err, ok_map, err_map}
use Rattle.command_statuses.proofs.lines.report_config.Goals as goal

pub returns-in_err-write_three-clause-err : goal.returns-in_err-write_three-clause-err
returns-in_err-write_three-clause-err g c =
    let digits : c.as_bytes.result.now ≡ decimal c.args.number = c.as_bytes.ensures.value ∙ c.format-digits.ensures.text in
    on_err c.from_residual.result _ (front_written (codes "wasmgate: config ") c.as_bytes.result.now (codes " ") (decimal c.args.number) (c.args.key.now ++ 10 ∷ []) _ _ digits c.in_err-write_three.ensures.err)

pub returns-clause-ok : goal.returns-clause-ok
returns-clause-ok g c =
    let digits : c.as_bytes.result.now ≡ decimal c.args.number = c.as_bytes.ensures.value ∙ c.format-digits.ensures.text in
    ok_map c.write_two.result _ _ (λ last. all_written (codes "wasmgate: config ") c.as_bytes.result.now (codes " ") (decimal c.args.number) (c.args.key.now ++ 10 ∷ []) _ (g.E.Sink.taken c.write_three.new.sink) _ digits c.in_ok-write_three.ensures.ok last)
    c.write_two.ensures.ok

pub returns-clause-err : goal.returns-clause-err
returns-clause-err g c =
    let digits : c.as_bytes.result.now ≡ decimal c.args.number = c.as_bytes.ensures.value ∙ c.format-digits.ensures.text in
    err_map c.write_two.result _ _ (λ last. more_written (codes "wasmgate: config ") c.as_bytes.result.now (codes " ") (decimal c.args.number) (c.args.key.now ++ 10 ∷ []) _ (g.E.Sink.taken c.write_three.new.sink) _ digits c.in_ok-write_three.ensures.ok last)
    c.write_two.ensures.err
