-- ROOMS THAT KEEP THE LIMITS OF A WORKER are far smaller than a turn allows: 2^38 things at most, where 2^56 would do.
use Rattle.std.specs.Prelude.{◌≤◌, ℕ, ◌^◌, List, [], ◌∷◌, length, Option, None, Some}
use Rattle.contexts.specs.Reached.{vm_in}
use Rattle.exchange.specs.declared.types.Exchange.{Exchange}
use Rattle.filter_chain.specs.declared.stage.Stage.{Stage}
use Rattle.worker_model.specs.Room.{Room}
use Rattle.worker_model.specs.declared.types.Line.{Line}
use Rattle.law_rest.specs.Left.{AllFit, calls_left}
use Rattle.law_rest.specs.Sizes.{reader_size, room_size}

-- what waits at a stage: pieces of 1,048,576 bytes at most, each of one byte at least, a head, an end alone, and trailers
abbrev pub WaitFew : List Stage → Type 0
WaitFew [] = Unit {0}
WaitFew (s ∷ stages) = (length s.waiting ≤ 1048579) × WaitFew stages

pub record ExchangeKeeps (x : Exchange) : Type 0 where
  pub unread : reader_size x.reader ≤ 81919
  pub request : WaitFew x.request
  pub response : WaitFew x.response

abbrev pub OpenKeeps : Option Exchange → Type 0
OpenKeeps None = Unit {0}
OpenKeeps (Some x) = ExchangeKeeps x

abbrev pub LinesKeep : List Line → Type 0
LinesKeep [] = Unit {0}
LinesKeep (line ∷ lines) = (length line.requests.unread ≤ 81919) × OpenKeeps line.exchange × LinesKeep lines

-- 128 lines; 65,535 bytes unread of each side, and 16,384 that came then; as many contexts of each VM as there are ids, and as many of 16 VMs that
-- wait for `proxy_done`; 64 plug-ins; and 64 callouts, with 81,919 bytes unread of each
pub record KeepsLimits (room : Room) : Type 0 where
  pub count : length room.lines ≤ 128
  pub lines : LinesKeep room.lines
  pub contexts : (vm : ℕ) → length (vm_in room.hub.contexts vm).contexts ≤ 2 ^ 32
  pub waits : length room.waits ≤ 2 ^ 36
  pub plugins : length room.hub.contexts.plugins ≤ 64
  pub calls : length room.calls ≤ 64
  pub unread : calls_left room.calls ≤ 5242816

abbrev pub LimitsAreSmall : Type 0
LimitsAreSmall = (room : Room) → AllFit 16 room.lines → KeepsLimits room → room_size room ≤ 2 ^ 38
