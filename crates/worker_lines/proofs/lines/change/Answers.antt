use Rattle.worker_lines.proofs.lines.change.Goals as goal

pub returns-in-Close : goal.returns-in-Close
returns-in-Close c = rw c.in-Close.is (c.close.ensures c.args.n)
