use Rattle.config_files.proofs.Read.{one_path, front_path, long_path}
use Rattle.config_files.proofs.reading.read_file.Goals as goal

pub returns-clause-one : goal.returns-clause-one
returns-clause-one g c = one_path c.args.path.now (g.F.Files.paths c.args.files.now) (g.F.Files.paths c.read.new.self) c.read.result c.read.ensures.paths

pub returns-clause-front : goal.returns-clause-front
returns-clause-front g c = front_path c.args.path.now (g.F.Files.paths c.args.files.now) (g.F.Files.paths c.read.new.self) c.read.result c.read.ensures.paths

pub returns-clause-long_read : goal.returns-clause-long_read
returns-clause-long_read g c = long_path c.args.path.now (g.F.Files.paths c.args.files.now) (g.F.Files.paths c.read.new.self) c.read.result c.read.ensures.paths
