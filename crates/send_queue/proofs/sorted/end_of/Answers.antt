use Rattle.std.proofs.Common.{rules}
use lib.Dec.{leb}
use Rattle.gate_io.specs.declared.event.Sent.{Sent}
use Rattle.std.proofs.lemmas.List.Sorted.{IsPartitionedBy-leb, IsPartitionPoint-from_clause}
use Rattle.send_queue.specs.Sorted.{rank_of}
use Rattle.send_queue.proofs.Sorting.{rising, parted_at}
use Rattle.send_queue.proofs.sorted.end_of.Goals as goal

pub returns : goal.returns
returns c =
    let members = c.args.members.now in
    let most = c.args.most in
    let facts = c.partition_point.ensures in
    parted_at most members c.partition_point.result facts.bound c.requires
    (IsPartitionPoint-from_clause (λ (s : Sent). leb (rank_of s) most) members c.partition_point.result facts.partitioned (IsPartitionedBy-leb rank_of members most (rising members c.requires))
    (λ a r f called. search rules))
