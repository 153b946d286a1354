-- What is too much changes nothing: proofs.
use Rattle.std.proofs.Common.{◌≡◌, ℕ, ◌+◌, Bool, true, false, List, [], ◌∷◌, ◌++◌, length, refl}
use Rattle.std.specs.Prelude.{not, ◌||◌, Option, None, Some, slice_get, slice_set, if◌then◌else◌}
use Rattle.contexts.specs.declared.parts.Contexts.{Contexts}
use Rattle.filter_chain.specs.declared.stage.Stage.{Stage}
use Rattle.filter_chain.specs.declared.item.ChainItem.{ChainItem}
use Rattle.filter_chain.specs.declared.item.ChainItem.TheVariants.{Head, Piece}
use Rattle.filter_chain.specs.Items.{size, held_items}
use Rattle.filter_chain.specs.Chains.{target, accepts, hand_over_to, unless_over, bytes_held, without_held, without_hold, bypassed_stage, continued, continued_at, let_through, let_through_at as chain_let_through_at}
use Rattle.gate_io.specs.declared.event.Side.{Side}
use Rattle.gate_io.specs.declared.event.Side.TheVariants.{Down, Up}
use Rattle.gate_io.specs.declared.event.What.{What}
use Rattle.gate_io.specs.declared.event.What.TheVariants as whats
use Rattle.tcp_filters.specs.declared.line.TcpLine.{TcpLine}
use Rattle.tcp_filters.specs.declared.types.Action.{Action}
use Rattle.tcp_filters.specs.declared.types.Action.TheVariants.{Continue, Pause}
use Rattle.tcp_filters.specs.Lines.{Outcome, no_change, ends_with, close_line, chain_of, take_put, take_move, put_item, is_response, fits_from, with_end, take_new, take_bytes, take_end, take_loss, take_own, take_event, is_of_line, resume_at, let_through_at, answer_at, pause_at}
use Rattle.tcp_filters.specs.Laws.{StaysIfOver, OverChangesNothing}

-- ---- an item comes

-- Too much leaves the stages as they are.
put_over : (response : Bool) (n : ℕ) (item : ChainItem) (to : ℕ) (h : Contexts) (l : TcpLine) (o : Option Stage)
    → StaysIfOver l h (take_put response l h (hand_over_to h n (item ∷ []) to (chain_of response l) (chain_of response l) o))
put_over false n item to h l None = tt
put_over true n item to h l None = tt
put_over false n item to h l (Some s) = by_room (accepts h n (Some s)) refl
  where
    by_room : (r : Bool) → accepts h n (Some s) ≡ r → StaysIfOver l h (take_put false l h (hand_over_to h n (item ∷ []) to l.down l.down (Some s)))
    by_room true is = rw is tt
    by_room false is = rw is (refl, refl)
put_over true n item to h l (Some s) = by_room (accepts h n (Some s)) refl
  where
    by_room : (r : Bool) → accepts h n (Some s) ≡ r → StaysIfOver l h (take_put true l h (hand_over_to h n (item ∷ []) to l.up l.up (Some s)))
    by_room true is = rw is tt
    by_room false is = rw is (refl, refl)

-- what has no bytes is never too much
none_over : (response : Bool) (item : ChainItem) (to : ℕ) (h : Contexts) (l m : TcpLine) (o : Option Stage)
    → StaysIfOver m h (take_put response l h (hand_over_to h 0 (item ∷ []) to (chain_of response l) (chain_of response l) o))
none_over response item to h l m None = tt
none_over response item to h l m (Some s) = tt

puts : (response : Bool) (bytes : List ℕ) (h : Contexts) (l : TcpLine) → StaysIfOver l h (put_item response (Piece bytes false) h l)
puts response bytes h l =
    put_over response (size (Piece bytes false ∷ [])) (Piece bytes false) (target 0 (chain_of response l)) h l (slice_get (chain_of response l) (target 0 (chain_of response l)))

puts_head : (h : Contexts) (l m : TcpLine) → StaysIfOver m h (put_item false (Head false) h l)
puts_head h l m = none_over false (Head false) (target 0 l.down) h l m (slice_get l.down (target 0 l.down))

puts_end : (response : Bool) (h : Contexts) (l m : TcpLine) → StaysIfOver m h (put_item response (Piece [] true) h l)
puts_end response h l m = none_over response (Piece [] true) (target 0 (chain_of response l)) h l m (slice_get (chain_of response l) (target 0 (chain_of response l)))

-- ---- events

-- either of two, which both leave it as it is
either : (l : TcpLine) (h : Contexts) (b : Bool) (x y : Outcome) → StaysIfOver l h x → StaysIfOver l h y → StaysIfOver l h (if b then x else y)
either l h true x y p q = p
either l h false x y p q = q

new_over : (h : Contexts) (l : TcpLine) → StaysIfOver l h (take_new h l)
new_over h l = either l h l.is_entered (no_change l h) (put_item false (Head false) h (record l { is_entered = true })) tt (puts_head h (record l { is_entered = true }) l)

bytes_over : (side : Side) (bytes : List ℕ) (h : Contexts) (l : TcpLine) → StaysIfOver l h (take_bytes side bytes h l)
bytes_over side bytes h l = either l h (fits_from side l) (put_item (is_response side) (Piece bytes false) h l) (no_change l h) (puts (is_response side) bytes h l) tt

end_over : (side : Side) (h : Contexts) (l : TcpLine) → StaysIfOver l h (take_end side h l)
end_over side h l =
    either l h (fits_from side l) (put_item (is_response side) (Piece [] true) h (with_end side l)) (no_change l h) (puts_end (is_response side) h (with_end side l) l) tt

loss_over : (side : Side) (h : Contexts) (l : TcpLine) → StaysIfOver l h (take_loss side h l)
loss_over Down h l = tt
loss_over Up h l = either l h l.is_up (ends_with (close_line (record l { up_ended = true }) h)) (no_change l h) tt tt

own_over : (what : What) (h : Contexts) (l : TcpLine) → StaysIfOver l h (take_own what h l)
own_over (whats.Opened n) h l = new_over h l
own_over (whats.Bytes n side bytes) h l = bytes_over side bytes h l
own_over (whats.End n side) h l = end_over side h l
own_over (whats.Gone n side) h l = loss_over side h l
own_over (whats.Joined n) h l = tt
own_over (whats.Refused n) h l = loss_over Up h l
own_over (whats.Room n side) h l = tt
own_over whats.Clock h l = tt
own_over whats.Stop h l = tt

event_over : (what : What) (h : Contexts) (l : TcpLine) → StaysIfOver l h (take_event what h l)
event_over what h l = either l h (l.has_ended || not (is_of_line l.number what)) (no_change l h) (take_own what h l) tt (own_over what h l)

-- ---- what a stage holds goes on

-- Too much leaves the stages and the contexts as they are.
move_over : (response : Bool) (n : ℕ) (items : List ChainItem) (to : ℕ) (changed : List Stage) (h held : Contexts) (l : TcpLine) (o : Option Stage)
    → StaysIfOver l h (take_move response l (unless_over h held (hand_over_to h n items to (chain_of response l) changed o)))
move_over false n items to changed h held l None = tt
move_over true n items to changed h held l None = tt
move_over false n items to changed h held l (Some s) = by_room (accepts h n (Some s)) refl
  where
    by_room : (r : Bool) → accepts h n (Some s) ≡ r → StaysIfOver l h (take_move false l (unless_over h held (hand_over_to h n items to l.down changed (Some s))))
    by_room true is = rw is tt
    by_room false is = rw is (refl, refl)
move_over true n items to changed h held l (Some s) = by_room (accepts h n (Some s)) refl
  where
    by_room : (r : Bool) → accepts h n (Some s) ≡ r → StaysIfOver l h (take_move true l (unless_over h held (hand_over_to h n items to l.up changed (Some s))))
    by_room true is = rw is tt
    by_room false is = rw is (refl, refl)

goes_over : (response : Bool) (k : ℕ) (l : TcpLine) (h : Contexts) (o : Option Stage) → StaysIfOver l h (take_move response l (continued_at h k (chain_of response l) o))
goes_over response k l h None = tt
goes_over response k l h (Some s) =
    move_over response (length (bytes_held h s)) (held_items s.held (bytes_held h s)) (target (k + 1) (chain_of response l)) (slice_set (chain_of response l) k (without_hold s))
    h (without_held h s) l (slice_get (chain_of response l) (target (k + 1) (chain_of response l)))

lets_over : (response : Bool) (k : ℕ) (l : TcpLine) (h : Contexts) (o : Option Stage) → StaysIfOver l h (take_move response l (chain_let_through_at h k (chain_of response l) o))
lets_over response k l h None = tt
lets_over response k l h (Some s) =
    move_over response (length (bytes_held h s) + size s.waiting) (held_items s.held (bytes_held h s) ++ s.waiting) (target (k + 1) (chain_of response l))
    (slice_set (chain_of response l) k (bypassed_stage s)) h (without_held h s) l (slice_get (chain_of response l) (target (k + 1) (chain_of response l)))

resume_over : (response : Bool) (k : ℕ) (l : TcpLine) (h : Contexts) → StaysIfOver l h (resume_at response k l h)
resume_over response k l h =
    either l h l.has_ended (no_change l h) (take_move response l (continued h k (chain_of response l))) tt (goes_over response k l h (slice_get (chain_of response l) k))

let_through_over : (response : Bool) (k : ℕ) (l : TcpLine) (h : Contexts) → StaysIfOver l h (let_through_at response k l h)
let_through_over response k l h =
    either l h l.has_ended (no_change l h) (take_move response l (let_through h k (chain_of response l))) tt (lets_over response k l h (slice_get (chain_of response l) k))

answer_over : (action : Action) (response : Bool) (k : ℕ) (l : TcpLine) (h : Contexts) → StaysIfOver l (pause_at response k l h) (answer_at action response k l h)
answer_over Continue response k l h = resume_over response k l (pause_at response k l h)
answer_over Pause response k l h = tt

pub over_changes_nothing : OverChangesNothing
over_changes_nothing = record { at_event = event_over; at_resume = resume_over; at_let_through = let_through_over; at_answer = answer_over }
