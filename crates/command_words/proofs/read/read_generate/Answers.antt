use Rattle.std.proofs.Common.{map, string_bytes}
use Rattle.command_words.proofs.Taken.{generate_one, generate_number}
use Rattle.command_words.proofs.read.read_generate.Goals as goal

pub read_one-requires : goal.read_one-requires
read_one-requires c = generate_one (map string_bytes c.args.words.now) c.requires
