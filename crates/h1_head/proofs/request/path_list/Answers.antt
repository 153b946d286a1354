use Rattle.h1_head.proofs.Whole.{path_taken}
use Rattle.h1_head.proofs.request.path_list.Goals as goal

pub request_read-requires-clause-judged_path : goal.request_read-requires-clause-judged_path
request_read-requires-clause-judged_path c = path_taken c.args.path.now c.requires.plain
