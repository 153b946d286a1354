use Rattle.std.proofs.Common.{◌≡◌, ◌∙◌, ◌∷◌, ◌++◌}
use Rattle.std.specs.Fmt.{decimal}
use Rattle.gate_live.proofs.live_world.notice_line.Goals as goal

pub returns : goal.returns
returns c =
    let text : c.as_bytes.result.now ≡ c.args.text.now ++ (58 ∷ 32 ∷ decimal c.args.count) = c.as_bytes.ensures.value ∙ c.in_ok-told.ensures.ok in
    rw text at c.log_line.ensures
