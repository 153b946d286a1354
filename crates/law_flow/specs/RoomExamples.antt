-- A worked example: a worker whose filter changes the body of a request.
use Rattle.std.specs.Prelude.{◌≡◌, ℕ, true, false, [], ◌∷◌, None, Some, codes}
use Rattle.exchange.specs.declared.types.Exchange.{Exchange}
use Rattle.filter_chain.specs.declared.item.ChainItem.TheVariants.{Head, Piece}
use Rattle.filter_chain.specs.Items.{item_bytes}
use Rattle.h1_model.specs.Unread.{new_reading}
use Rattle.worker_model.specs.Room.{Room}
use Rattle.law_body.specs.Deeds.{standing_of, left_by}
use Rattle.law_body.specs.Examples.{upload_start}
use Rattle.law_chain.specs.PassThrough.{IsNew, has_end}
use Rattle.law_flow.specs.Rooms.{running_of, Run, run_deeds, run_items, run_buffers}

-- line 1 alone, with an exchange that begins, whose request has one filter
abbrev pub upload_room : Room
upload_room = record {
  lines = record { number = 1; requests = new_reading None; is_gone = false; exchange = Some upload_start.exchange } ∷ [];
  hub = upload_start.hub;
  reading = None;
  jobs = [];
  agenda = [];
  waits = [];
  dead = [];
  is_begun = true;
  calls = [];
  tcp = [];
}

-- The head is put, and the filter lets it go on; a piece of two bytes is put, and the filter writes three in its place and lets it go on.
pub record RoomExample : Type 0 where
  pub last : Exchange
  pub after : Room
  pub run : Run ℕ false 1 1 upload_start.exchange upload_room last after
  pub starts_new : IsNew (standing_of false (running_of None upload_start.exchange upload_room))
  pub items : run_items run ≡ Head false ∷ Piece (codes "ab") true ∷ []
  pub buffers : run_buffers 0 run ≡ codes "XYZ"
  pub passed : item_bytes (left_by false 1 (run_deeds run) (running_of None upload_start.exchange upload_room)) ≡ codes "XYZ"
  pub ended : has_end (left_by false 1 (run_deeds run) (running_of None upload_start.exchange upload_room)) ≡ true
