-- The framings and items of the model that the code's values say.
use Rattle.h1_model.specs.Framing as model
use Rattle.h1_head.specs.Seen.{seen_head}
use Rattle.h1_head.specs.declared.item.Item as item
use Rattle.h1_head.specs.declared.item.Item.TheVariants as items
use Rattle.h1_write.specs.declared.framing.Framing as framing
use Rattle.h1_write.specs.declared.framing.Framing.TheVariants as framings

-- the framing that a value says
abbrev pub seen_framing : framing.Framing → model.Framing
seen_framing framings.Nothing = model.no_body
seen_framing (framings.Length n) = model.by_length n
seen_framing framings.Chunked = model.by_chunks
seen_framing framings.UntilClose = model.by_close

-- the item that a value says; what a head's `end` says is told by its framing
abbrev pub seen_item : item.Item → model.OutItem
seen_item (items.Head h last) = model.head (seen_head h)
seen_item (items.Interim h) = model.interim (seen_head h)
seen_item (items.Piece bytes last) = model.piece bytes last
seen_item (items.Trailers fields) = model.trailers fields
