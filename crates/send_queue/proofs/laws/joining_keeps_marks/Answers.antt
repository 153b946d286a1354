use Rattle.send_queue.proofs.Joins.{marks_at-joined, IsJoined-joined, joined_same, joined_once, joined-push, joined_in_parts}
use Rattle.send_queue.proofs.laws.joining_keeps_marks.Goals as goal

pub returns : goal.returns
returns c = record { marks = marks_at-joined; apart = IsJoined-joined; same = joined_same; once = joined_once; more = joined-push; in_parts = joined_in_parts }
