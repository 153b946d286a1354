use Rattle.std.proofs.Common.{◌≡◌, ◌++◌, drop}
use Rattle.command_generate.specs.Items.{lines_of}
use Rattle.command_generate.proofs.items.put_lines.Given as goal

-- with the lines of what is left it has all lines
abbrev pub invariant-loop-text : goal.invariant-loop-text
invariant-loop-text l = l.out ++ lines_of l.items (drop l.text-index l.texts) ≡ l.fn.out ++ lines_of l.items l.texts
