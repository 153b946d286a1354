-- The readings, items and steps of the model that the code's values say.
use Rattle.std.specs.Prelude.{◌≡◌, ◌≤◌, ⊤, ℕ, Bool, true, false, List, Option, None, Some, codes, if◌then◌else◌}
use Rattle.h1_head.specs.Seen.{seen_head}
use Rattle.h1_head.specs.declared.item.Item as item
use Rattle.h1_head.specs.declared.item.Item.TheVariants as items
use Rattle.h1_head.specs.declared.head.Kind as kind
use Rattle.h1_head.specs.declared.head.Kind.TheVariants as kinds
use Rattle.h1_model.specs.Length.{BodyLength, nothing, exactly, chunked, until_end}
use Rattle.h1_model.specs.Chunks.{Place}
use Rattle.h1_model.specs.Messages as model
use Rattle.h1_model.specs.Unread as unread
use Rattle.h1_stream.specs.declared.next.Body as body
use Rattle.h1_stream.specs.declared.next.Body.TheVariants as bodies
use Rattle.h1_stream.specs.declared.next.Due as due
use Rattle.h1_stream.specs.declared.next.Due.TheVariants as dues
use Rattle.h1_stream.specs.declared.next.Stop as stop
use Rattle.h1_stream.specs.declared.next.Stop.TheVariants as stops
use Rattle.h1_stream.specs.declared.next.Next as next
use Rattle.h1_stream.specs.declared.next.Next.TheVariants as nexts

-- The method that a text of that kind answers, and none of requests. Of the others it matters alone that they are not HEAD.
abbrev pub asked_of : kind.Kind → Option (List ℕ)
asked_of kinds.Request = None
asked_of (kinds.Response to_head) = Some (if to_head then codes "HEAD" else codes "GET")

abbrev pub seen_body : body.Body → model.Body
seen_body (bodies.Counted left) = model.counted left
seen_body (bodies.Coded connection place) = model.coded connection place
seen_body bodies.Unbounded = model.unbounded

abbrev pub seen_due : due.Due → model.Due
seen_due dues.Head = model.head
seen_due (dues.Body b) = model.body (seen_body b)
seen_due dues.Done = model.done

-- a body of this length has no bytes
abbrev pub is_nothing : BodyLength → Bool
is_nothing nothing = true
is_nothing (exactly n) = false
is_nothing chunked = false
is_nothing until_end = false

abbrev pub seen_part : item.Item → unread.Part
seen_part (items.Head h end) = unread.head_part (seen_head h)
seen_part (items.Interim h) = unread.interim_part (seen_head h)
seen_part (items.Piece bytes end) = unread.piece bytes end
seen_part (items.Trailers fields) = unread.trailer_part fields.pairs

-- a head has the end flag exactly where no body follows
abbrev pub HasRightEnd : item.Item → Type 0
HasRightEnd (items.Head h end) = end ≡ is_nothing (seen_head h).length
HasRightEnd (items.Interim h) = ⊤
HasRightEnd (items.Piece bytes end) = ⊤
HasRightEnd (items.Trailers fields) = ⊤

abbrev pub seen_stop : stop.Stop → model.Stop
seen_stop stops.Rest = model.rest
seen_stop stops.Over = model.over
seen_stop (stops.Refusal number) = model.refusal number

-- a chunked body goes on at this place of the coding, after the same head; what else is due stays
abbrev pub gone_on : Place → model.Due → model.Due
gone_on place model.head = model.head
gone_on place (model.body (model.counted n)) = model.body (model.counted n)
gone_on place (model.body (model.coded connection at)) = model.body (model.coded connection place)
gone_on place (model.body model.unbounded) = model.body model.unbounded
gone_on place model.done = model.done

-- what is next, where that was due
abbrev pub seen_next : model.Due → next.Next → unread.Next
seen_next here (nexts.Part i used d) = unread.part (seen_part i) used (seen_due d)
seen_next here (nexts.Chunks bytes used place) = unread.part (unread.piece bytes false) used (gone_on place here)
seen_next here (nexts.Halt why) = unread.none (seen_stop why)

-- a part lies within so many bytes, and has its end flag
abbrev pub IsWithin : ℕ → next.Next → Type 0
IsWithin n (nexts.Part i used d) = used ≤ n
IsWithin n (nexts.Chunks bytes used place) = used ≤ n
IsWithin n (nexts.Halt why) = ⊤

abbrev pub IsFlagged : next.Next → Type 0
IsFlagged (nexts.Part i used d) = HasRightEnd i
IsFlagged (nexts.Chunks bytes used place) = ⊤
IsFlagged (nexts.Halt why) = ⊤
