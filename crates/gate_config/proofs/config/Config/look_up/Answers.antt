use Rattle.std.proofs.lemmas.Str.{IsUtf8-from_ascii}
use Rattle.gate_config.proofs.config.Config.look_up.Goals as goal

pub unreachable-requires : goal.unreachable-requires
unreachable-requires c = c.in_default.ensures.cases.0 (IsUtf8-from_ascii c.args.path.now c.requires)
