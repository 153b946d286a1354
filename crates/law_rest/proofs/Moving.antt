-- A MOVE leaves less to do, whatever the stage that is asked does.
use Rattle.std.proofs.Common.{◌≡◌, ℕ, ◌<◌, Bool, true, false, List, [], length, ap, ◌∙◌, sym, refl, subst, arith}
use Rattle.std.proofs.lemmas.Bool.{ltb-true}
use Rattle.std.specs.Prelude.{Option, None, Some, slice_get, position, not, nat_lt, ◌||◌}
use Rattle.contexts.specs.declared.parts.Contexts.{Contexts}
use Rattle.filter_host.specs.Called.{Called}
use Rattle.filter_host.specs.declared.host.Callback.{Callback}
use Rattle.filter_host.proofs.Holds.{AllEnds, all_then}
use Rattle.exchange.specs.declared.types.Exchange.{Exchange}
use Rattle.exchange.specs.declared.types.Hub.{Hub}
use Rattle.exchange.specs.Answering.{with_held}
use Rattle.exchange.specs.Passing.{chain_of, with_chain}
use Rattle.filter_chain.specs.Chains.{ready, asked}
use Rattle.filter_chain.specs.Costs.{chain_cost}
use Rattle.filter_chain.specs.declared.item.Asking.{Asking}
use Rattle.filter_chain.specs.declared.item.Asking.TheVariants.{Nothing, Over, Asks}
use Rattle.filter_chain.specs.declared.item.PassOutcome.TheVariants as passed
use Rattle.filter_chain.specs.declared.stage.Stage.{Stage as ChainStage}
use Rattle.store_model.specs.Program.{Program}
use Rattle.worker_model.specs.Room.{Room}
use Rattle.worker_model.specs.declared.types.Asked.{Asked}
use Rattle.worker_model.specs.declared.types.Line.{Line}
use Rattle.worker_model.specs.declared.types.Owner.TheVariants.{Stage}
use Rattle.worker_model.specs.Moves.{asks_chain, asks_exchange, asks_in, asks_line, asks_at}
use Rattle.worker_model.specs.Rooms.{exchange_moves, has_move, with_lines}
use Rattle.worker_model.specs.Steps.{Both, Answered, apply_stage_action, called_in, callback_of, number_of, moved, move_at, action_of}
use Rattle.exchange.specs.Passing.{apply_action}
use Rattle.law_rest.specs.Moves.{spare, spare_of, moves_left}
use Rattle.law_rest.specs.Left.{work_left, line_left, lines_left, open_left, exchange_left, AllFit, OpenFits}
use Rattle.law_rest.proofs.Exchanges.{IsClear, Adds, adds_then, open_moves, with_chain_adds, passed_on_adds, directly_over, answer_less, acts_adds}
use Rattle.law_rest.proofs.Lines.{reader_fewer, adds_leaves, set_left, set_fits, fits_at}
use Rattle.law_rest.proofs.Picking.{DoesPick, asked_picks}
use Rattle.law_rest.proofs.Rooms.{AtMost, IsLess, less_of, all_map, on_number_same, called_in_most}
use Rattle.law_rest.proofs.Tests.{both_hold, is_not, found_at}

-- ---- one exchange

chain_less : (response : Bool) (x : Exchange) (stages : List ChainStage) → x.has_ended ≡ false → chain_cost stages < chain_cost (chain_of response x) → length stages ≡ length (chain_of response x)
    → moves_left (with_chain response stages x) < moves_left x
chain_less false x stages going less same =
    let a = open_moves x going in
    let b = open_moves (with_chain false stages x) going in
    omega arith
chain_less true x stages going less same =
    let a = open_moves x going in
    let b = open_moves (with_chain true stages x) going in
    let s : spare (with_chain true stages x) ≡ spare x = ap (spare_of x.is_answered x.is_head_out x.is_headed) same in
    omega arith

-- it has fewer moves left
abbrev Moved : Exchange → Exchange → Type 0
Moved x y = Adds 0 x y × (moves_left y < moves_left x)

asks_chain_less : (response : Bool) (n : ℕ) (x : Exchange) (hub : Hub) (r : Asking × List ChainStage × Contexts) → x.has_ended ≡ false → (response ≡ false → x.is_answered ≡ false)
    → DoesPick (chain_of response x) r → Moved x (asks_chain response n x hub r).1
asks_chain_less response n x hub (Nothing, after, h) going unanswered does = elim does [ ]
asks_chain_less response n x hub (Asks ask, after, h) going unanswered does =
    (with_chain_adds response x after 0 (omega (arith, does.0)) does.1, chain_less response x after going does.0 does.1)
asks_chain_less false n x hub (Over k, after, h) going unanswered does =
    let same : length after ≡ length x.request = ap length does.0 in
    let cost : chain_cost after ≡ chain_cost x.request = ap chain_cost does.0 in
    let a = with_chain_adds false x after 0 (omega arith) same in
    let b = passed_on_adds false n passed.Over (with_chain false after x) (with_held h hub) in
    let l = answer_less n true 413 [] [] (with_chain false after x) (with_held h hub) going (unanswered refl) in
    (adds_then 0 0 a b, omega (arith, a.moves, l, does.1))
asks_chain_less true n x hub (Over k, after, h) going unanswered does =
    let same : length after ≡ length x.response = ap length does.0 in
    let cost : chain_cost after ≡ chain_cost x.response = ap chain_cost does.0 in
    let a = with_chain_adds true x after 0 (omega arith) same in
    let b = passed_on_adds true n passed.Over (with_chain true after x) (with_held h hub) in
    let d = directly_over n 500 [] [] (with_chain true after x) (with_held h hub) in
    let e = open_moves x going in
    (adds_then 0 0 a b, omega (arith, d.none))

none_ready : (x : Exchange) → IsClear x → 0 < ready x.request → (b : Bool) → x.is_answered ≡ b → b ≡ false
none_ready x clear some true is = let e : ready x.request ≡ 0 = ap ready (clear is) in absurd (omega arith)
none_ready x clear some false is = refl

asks_exchange_less : (n : ℕ) (x : Exchange) (hub : Hub) → exchange_moves (Some x) ≡ true → IsClear x → Moved x (asks_exchange n x hub).1
asks_exchange_less n x hub moving clear = by_ready (nat_lt 0 (ready x.request)) refl
  where
    going : x.has_ended ≡ false
    going = is_not x.has_ended (both_hold (not x.has_ended) (nat_lt 0 (ready x.request) || nat_lt 0 (ready x.response)) moving).0

    either : (nat_lt 0 (ready x.request) || nat_lt 0 (ready x.response)) ≡ true
    either = (both_hold (not x.has_ended) (nat_lt 0 (ready x.request) || nat_lt 0 (ready x.response)) moving).1

    other : (a b : Bool) → (a || b) ≡ true → a ≡ false → b ≡ true
    other true b is no' = absurd (cc)
    other false b is no' = is

    by_ready : (b : Bool) → nat_lt 0 (ready x.request) ≡ b → Moved x (asks_chain (not b) n x hub (asked hub.contexts (chain_of (not b) x))).1
    by_ready true is =
        let some = ltb-true 0 (ready x.request) is in
        asks_chain_less false n x hub (asked hub.contexts x.request) going (λ r. none_ready x clear some x.is_answered refl) (asked_picks hub.contexts x.request some)
    by_ready false is =
        asks_chain_less true n x hub (asked hub.contexts x.response) going (λ (r : true ≡ false). absurd (cc))
        (asked_picks hub.contexts x.response (ltb-true 0 (ready x.response) (other (nat_lt 0 (ready x.request)) (nat_lt 0 (ready x.response)) either is)))

-- ---- one line, and the room

abbrev LineLess : ℕ → Line → Line → Type 0
LineLess s l new = OpenFits s new.exchange × (line_left s new < line_left s l)

asks_line_less : (s : ℕ) (line : Line) (hub : Hub) → has_move line ≡ true → OpenFits s line.exchange → LineLess s line (asks_line line hub).1
asks_line_less s line hub moving fits = by_exchange line.exchange refl
  where
    by_exchange : (o : Option Exchange) → line.exchange ≡ o → LineLess s line (asks_in line o hub).1
    by_exchange None is = let e : has_move line ≡ false = ap exchange_moves is in absurd (cc)
    by_exchange (Some x) is =
        let here : OpenFits s (Some x) = subst (λ (o : Option Exchange). OpenFits s o) is fits in
        let m = asks_exchange_less line.number x hub (sym (ap exchange_moves is) ∙ moving) here.clear in
        let l = adds_leaves s 0 x (asks_exchange line.number x hub).1 m.0 here in
        let e : open_left s line.exchange ≡ exchange_left s x = ap (open_left s) is in
        (l.0, omega (arith, e, m.1, reader_fewer s x.reader (asks_exchange line.number x hub).1.reader m.0.unread))

-- what stands on the lines once the stage is asked
record LinesLess (s : ℕ) (old new : List Line) : Type 0 where
  fit : AllFit s new
  less : lines_left s new < lines_left s old

asks_at_less : (s place : ℕ) (line : Line) (lines : List Line) (hub : Hub) → slice_get lines place ≡ Some line → has_move line ≡ true → AllFit s lines
    → LinesLess s lines (asks_at place (Some line) lines hub).1
asks_at_less s place line lines hub at moving fit =
    let l = asks_line_less s line hub moving (fits_at s lines place line at fit) in
    record { fit = set_fits s lines place (asks_line line hub).1 fit l.0; less = omega (arith, l.1, set_left s lines place line (asks_line line hub).1 at) }

-- the action of the callback is put in force
acts_on_most : (s m : ℕ) (a : Asked) (value : Option (Option ℕ)) (room : Room) → AtMost s m room → AtMost s m (apply_stage_action a value room)
acts_on_most s m a None room most = most
acts_on_most s m a (Some value) room most =
    on_number_same s m (apply_action a.response a.ask.stage (action_of value)) a.line room most (λ n x hub. acts_adds a.response a.ask.stage (action_of value) n x hub)

module _ {H : Type 0} (calling : H → ℕ → Callback → ℕ → ℕ → ℕ → ℕ → Contexts → Program (Called H)) where
  moved_most : (s m : ℕ) (a : Option Asked) (host : H) (room : Room) → AtMost s m room → AllEnds (λ (b : Both H). AtMost s m b.room) (moved calling a host room)
  moved_most s m None host room most = most
  moved_most s m (Some a) host room most =
      all_then (λ (r : Answered H). AtMost s m r.both.room) (λ (b : Both H). AtMost s m b.room)
      (called_in calling a.vm (callback_of a.response a.ask.kind) a.context a.count (number_of a.ask.end) (Stage a.context a.response) host room) _
      (called_in_most calling s m a.vm (callback_of a.response a.ask.kind) a.context a.count (number_of a.ask.end) (Stage a.context a.response) host room most)
      (λ r here. acts_on_most s m a r.value r.both.room here)

  -- A MOVE on a line that has one
  pub move_less : (s place : ℕ) (host : H) (room : Room) → AllFit s room.lines → position has_move room.lines ≡ Some place
      → AllEnds (λ (b : Both H). IsLess s room b.room) (move_at calling place host room)
  move_less s place host room fit is = by_line (slice_get room.lines place) refl (found_at has_move room.lines place is)
    where
      by_line : (o : Option Line) → slice_get room.lines place ≡ o → (line : Line) × (slice_get room.lines place ≡ Some line) × (has_move line ≡ true)
          → AllEnds (λ (b : Both H). IsLess s room b.room) (moved calling (asks_at place o room.lines room.hub).0 host (with_lines room ((asks_at place o room.lines room.hub).1, (asks_at place o room.lines room.hub).2)))
      by_line None at found = absurd (cc)
      by_line (Some line) at found =
          let same : found.0 ≡ line = (cc) in
          let moving : has_move line ≡ true = sym (ap has_move same) ∙ found.2 in
          let l = asks_at_less s place line room.lines room.hub at moving fit in
          let next : Room = with_lines room ((asks_at place (Some line) room.lines room.hub).1, (asks_at place (Some line) room.lines room.hub).2) in
          all_map (λ (b : Both H). AtMost s (work_left s next) b.room) (λ (b : Both H). IsLess s room b.room) _
          (λ b most. less_of s (work_left s next) room b.room (omega (arith, l.less)) most)
          (moved_most s (work_left s next) (asks_at place (Some line) room.lines room.hub).0 host next (record { fit = l.fit; few = omega arith }))
