use Rattle.std.proofs.Common.{◌≡◌, ◌≤◌, take, true}
use Rattle.fleet.specs.Closing.{is_in, rank}
use Rattle.fleet.specs.declared.watched.Connection.{Connection}
use Rattle.fleet.proofs.watched.first_of.Given as goal

abbrev pub invariant-list : goal.invariant-list
invariant-list l = record {
  there : is_in l.first l.fn.list ≡ true;
  least : (c : Connection) → is_in c (take l.one-index l.list) ≡ true → rank l.first ≤ rank c;
}
