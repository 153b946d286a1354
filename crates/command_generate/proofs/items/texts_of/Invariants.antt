use Rattle.std.proofs.Common.{◌≡◌, [], take}
use Rattle.command_generate.specs.Items.{put_all}
use Rattle.command_generate.proofs.items.texts_of.Given as goal

-- the texts of the items so far
abbrev pub invariant-loop-item : goal.invariant-loop-item
invariant-loop-item l = l.texts.items ≡ put_all (take l.item-index l.items) []
