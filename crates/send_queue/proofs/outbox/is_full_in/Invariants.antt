use Rattle.std.proofs.Common.{◌≡◌, ◌<◌, ◌+◌, drop}
use Rattle.send_queue.specs.Places.{marks_at, octets_in}
use Rattle.send_queue.proofs.outbox.is_full_in.Given as goal

-- the bytes so far fit in the room that is gone
abbrev pub invariant-loop-member : goal.invariant-loop-member
invariant-loop-member l = record {
  some : 0 < l.room;
  so_far : l.room + octets_in (marks_at l.place l.members) ≡ 65536 + octets_in (marks_at l.place (drop l.member-index l.members));
}
