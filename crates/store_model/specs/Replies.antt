-- The replies that each call may have.
use Rattle.std.specs.Prelude.{◌≡◌, ◌≤◌, length}
use Rattle.store_model.specs.declared.used.TheConstants.{MOST_BYTES}
use Rattle.store_model.specs.declared.call.Call.{Call}
use Rattle.store_model.specs.declared.call.Call.TheVariants.{Get, Set, Register, Resolve, Enqueue, Dequeue, Notice}
use Rattle.store_model.specs.declared.call.Reply.{Reply}
use Rattle.store_model.specs.declared.call.Reply.TheVariants.{Absent, Value, Done, CasMismatch, Full, Id, Item, Empty, Owed, NoneOwed}

abbrev pub IsGetReply : Reply → Type 0
IsGetReply Absent = Unit {0}
IsGetReply (Value value number) = length value ≤ MOST_BYTES
IsGetReply _ = ⊥

abbrev pub IsSetReply : Reply → Type 0
IsSetReply (Done number) = Unit {0}
IsSetReply CasMismatch = Unit {0}
IsSetReply Full = Unit {0}
IsSetReply _ = ⊥

abbrev pub IsRegisterReply : Reply → Type 0
IsRegisterReply (Id queue) = Unit {0}
IsRegisterReply Full = Unit {0}
IsRegisterReply _ = ⊥

abbrev pub IsResolveReply : Reply → Type 0
IsResolveReply (Id queue) = Unit {0}
IsResolveReply Absent = Unit {0}
IsResolveReply _ = ⊥

abbrev pub IsEnqueueReply : Reply → Type 0
IsEnqueueReply (Done number) = number ≡ 0
IsEnqueueReply Absent = Unit {0}
IsEnqueueReply Full = Unit {0}
IsEnqueueReply _ = ⊥

abbrev pub IsDequeueReply : Reply → Type 0
IsDequeueReply (Item item) = length item ≤ MOST_BYTES
IsDequeueReply Absent = Unit {0}
IsDequeueReply Empty = Unit {0}
IsDequeueReply _ = ⊥

abbrev pub IsNoticeReply : Reply → Type 0
IsNoticeReply (Owed root queue) = Unit {0}
IsNoticeReply NoneOwed = Unit {0}
IsNoticeReply _ = ⊥

-- the call may be answered so
abbrev pub IsReplyTo : Call → Reply → Type 0
IsReplyTo (Get key) reply = IsGetReply reply
IsReplyTo (Set key value number) reply = IsSetReply reply
IsReplyTo (Register name root) reply = IsRegisterReply reply
IsReplyTo (Resolve name) reply = IsResolveReply reply
IsReplyTo (Enqueue queue item) reply = IsEnqueueReply reply
IsReplyTo (Dequeue queue) reply = IsDequeueReply reply
IsReplyTo Notice reply = IsNoticeReply reply
