-- A worked example: an exchange whose filter changes the body of its request.
use Rattle.std.specs.Prelude.{◌≡◌, ℕ, true, false, List, [], ◌∷◌, ◌++◌, None, codes}
use Rattle.contexts.specs.declared.parts.StageBuffer as parts
use Rattle.contexts.specs.declared.parts.Contexts.{Contexts}
use Rattle.contexts.specs.Stages.{stage_changed}
use Rattle.exchange.specs.declared.types.Hub.{Hub}
use Rattle.exchange.specs.Examples as exchange
use Rattle.filter_chain.specs.declared.item.Held.TheVariants as held
use Rattle.filter_chain.specs.declared.item.ChainItem.TheVariants.{Head, Piece}
use Rattle.filter_chain.specs.Chains.{asked}
use Rattle.filter_chain.specs.Items.{item_bytes}
use Rattle.law_chain.specs.Examples.{asked_with}
use Rattle.law_chain.specs.PassThrough.{has_end, IsInOrder, IsNew}
use Rattle.law_body.specs.Deeds.{Deed, Running, standing_of, done_all, AreDeeds}
use Rattle.law_body.specs.Deeds as on_exchange
use Rattle.gate_io.specs.declared.event.Sent.{Sent}
use Rattle.gate_io.specs.declared.event.Sent.TheVariants.{Bytes}
use Rattle.gate_io.specs.declared.event.Side.TheVariants.{Up}
use Rattle.httparse.specs.Ascii.{crlf_bytes}

-- ---- AN EXCHANGE: its filter writes `XYZ` in place of the two bytes of a request's body

-- line 1, with a new exchange, whose request is sent in chunks
abbrev pub upload_start : Running
upload_start = record { due = None; exchange = exchange.uploading held.Nothing; hub = exchange.hub_of exchange.host }

abbrev pub hub_with : Contexts → Hub → Hub
hub_with h hub = record hub { contexts = h }

-- the filter is asked, and its callback leaves the buffer as it is, or with these bytes
abbrev pub looks_at : Running → Deed
looks_at w = on_exchange.calls (hub_with (asked_with (asked w.hub.contexts w.exchange.request)) w.hub)

abbrev pub writes_at : List ℕ → Running → Deed
writes_at bytes w =
    on_exchange.calls (hub_with (stage_changed (λ (t : parts.StageBuffer). record t { held = bytes }) (asked_with (asked w.hub.contexts w.exchange.request)) 0 2 false) w.hub)

abbrev pub head_comes : List Deed
head_comes = on_exchange.comes (Head false) ∷ []

abbrev pub after_head : Running
after_head = done_all false 1 head_comes upload_start

abbrev pub head_passes : List Deed
head_passes = head_comes ++ looks_at after_head ∷ on_exchange.answers 0 ∷ on_exchange.comes (Piece (codes "ab") true) ∷ []

abbrev pub after_piece : Running
after_piece = done_all false 1 head_passes upload_start

abbrev pub uploaded : List Deed
uploaded = head_passes ++ writes_at (codes "XYZ") after_piece ∷ on_exchange.answers 0 ∷ []

-- the last that is sent
abbrev pub last_sent : List Sent → List Sent
last_sent [] = []
last_sent (s ∷ []) = s ∷ []
last_sent (s ∷ t ∷ sent) = last_sent (t ∷ sent)

pub record ExchangeExamples : Type 0 where
  pub upload_new : IsNew (standing_of false upload_start)
  pub upload_deeds : AreDeeds false 1 1 uploaded upload_start
  pub upload_order : IsInOrder (on_exchange.items_put uploaded)
  pub upload_left : item_bytes (on_exchange.left_by false 1 uploaded upload_start) ≡ codes "XYZ"
  pub upload_buffers : on_exchange.buffers_by false 1 0 uploaded upload_start ≡ codes "XYZ"
  pub upload_ends : has_end (on_exchange.left_by false 1 uploaded upload_start) ≡ true
  -- it goes up as a chunk of three bytes, and the last chunk
  pub upload_sent : last_sent (done_all false 1 uploaded upload_start).hub.sent ≡ Bytes 1 Up (codes "3" ++ crlf_bytes ++ codes "XYZ" ++ crlf_bytes ++ codes "0" ++ crlf_bytes ++ crlf_bytes) ∷ []
