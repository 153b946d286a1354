-- What is done to contexts leaves the maps of requests lists.
use Rattle.std.proofs.Common.{◌≡◌, inl, inr, ℕ, zero, suc, ◌+◌, Bool, not, ◌&&◌, List, [], ◌∷◌, ◌++◌, length, refl, sym, subst}
use Rattle.std.specs.Prelude.{Option, None, Some, option_map, slice_get, slice_set, position, is_none, nat_le}
use Rattle.contexts.specs.declared.parts.Context.{Context}
use Rattle.contexts.specs.declared.parts.Contexts.{Contexts}
use Rattle.contexts.specs.declared.parts.ExchangeEntry as parts
use Rattle.contexts.specs.declared.parts.ExchangeView.{ExchangeView}
use Rattle.contexts.specs.declared.parts.Own as own
use Rattle.contexts.specs.declared.parts.StageBuffer as stages
use Rattle.contexts.specs.Creating.{new_exchange, placed_at, open_exchange, has_ended, is_referred, freed, freed_of, ended_one, end_exchange, without_context, delete_id}
use Rattle.contexts.specs.Lending.{stage_in, with_stage as with_own_stage}
use Rattle.contexts.specs.Reached.{Changes, no_changes, exchange_at, view_at, view_in, context_in, exchange_of, with_view, viewed_by, exchanges_by, exchanges_after, reach_by, seen_of, vm_in, put_of}
use Rattle.contexts.specs.Stages.{own_at, stage_after, stage_changed, without_buffer, with_buffered, with_bytes, returned}
use Rattle.contexts.specs.Stages.{let_go as emptied_stage}
use Rattle.exchange.specs.Maps.{in_view, or_none, request_in, request_map}
use Rattle.filter_chain.specs.Chains.{continued, continued_at, let_through, let_through_at, unless_over, without_held, hand_over, bytes_held, without_hold, bypassed_stage as let_pass, paused, paused_at, asked, asked_at, ask_stage, ask_item, with_stage, without_buffers, bytes_at, limit, ready, ask_of}
use Rattle.filter_chain.specs.Items.{holds_bytes, held_items, size}
use Rattle.filter_chain.specs.declared.item.AskKind.TheVariants as kinds
use Rattle.filter_chain.specs.declared.item.Asking.{Asking}
use Rattle.filter_chain.specs.declared.item.Asking.TheVariants.{Over}
use Rattle.filter_chain.specs.declared.item.Held.TheVariants as held
use Rattle.filter_chain.specs.declared.item.ChainItem.{ChainItem}
use Rattle.filter_chain.specs.declared.item.ChainItem.TheVariants.{Head, Piece, Trailers}
use Rattle.filter_chain.specs.declared.item.PassOutcome.{PassOutcome}
use Rattle.filter_chain.specs.declared.item.PassOutcome.TheVariants as passed
use Rattle.filter_chain.specs.declared.stage.Stage.{Stage}
use Rattle.header_maps.specs.Headers.{Headers}
use Rattle.law_lines.proofs.Kept.{by_bool}
use Rattle.law_read_back.specs.Maps.{IsFieldList, HasList, ViewHasList, AreLists, ListOrNone}

-- ---- places

abbrev All : List (Option parts.ExchangeEntry) → Type 0
All xs = (p : ℕ) → ViewHasList (view_at xs p)

abbrev Here : Option parts.ExchangeEntry → Type 0
Here o = ViewHasList (option_map (λ (x : parts.ExchangeEntry). x.view) o)

set_lists : (xs : List (Option parts.ExchangeEntry)) (n : ℕ) (o : Option parts.ExchangeEntry) → All xs → Here o → All (slice_set xs n o)
set_lists [] n o are is p = are p
set_lists (x ∷ xs) zero o are is zero = is
set_lists (x ∷ xs) zero o are is (suc p) = are (suc p)
set_lists (x ∷ xs) (suc n) o are is zero = are zero
set_lists (x ∷ xs) (suc n) o are is (suc p) = set_lists xs n o (λ q. are (suc q)) is p

behind_lists : (xs : List (Option parts.ExchangeEntry)) (o : Option parts.ExchangeEntry) → All xs → Here o → All (xs ++ o ∷ [])
behind_lists [] o are is zero = is
behind_lists [] o are is (suc p) = are p
behind_lists (x ∷ xs) o are is zero = are zero
behind_lists (x ∷ xs) o are is (suc p) = behind_lists xs o (λ q. are (suc q)) is p

-- ---- a view that is changed

-- it has such a map where it had one
abbrev pub LeavesView : Option ExchangeView → Option ExchangeView → Type 0
LeavesView None o = Unit {0}
LeavesView (Some w) None = Unit {0}
LeavesView (Some w) (Some v) = HasList v.maps.request → HasList w.maps.request

viewed_lists : (xs : List (Option parts.ExchangeEntry)) (n : ℕ) (c : Option ExchangeView) → All xs → LeavesView c (view_at xs n) → All (viewed_by n c xs)
viewed_lists xs n None are leaves = are
viewed_lists xs n (Some w) are leaves = set_lists xs n (option_map (with_view w) (exchange_at xs n)) are (by_one (exchange_at xs n) (are n) leaves)
  where
    by_one : (o : Option parts.ExchangeEntry) → Here o → LeavesView (Some w) (option_map (λ (x : parts.ExchangeEntry). x.view) o) → Here (option_map (with_view w) o)
    by_one None here leaves_ = tt
    by_one (Some x) here leaves_ = leaves_ here

pub put_lists : (s : Changes) (vm e : ℕ) (h : Contexts) → AreLists h → LeavesView s.exchange (seen_of h vm e).reach.exchange → AreLists (put_of s vm e h)
put_lists s vm e h are leaves = by_context (context_in h vm e) leaves
  where
    by_place : (m : Option ℕ) → LeavesView s.exchange (view_in h.exchanges m) → All (exchanges_by s m h.exchanges)
    by_place None leaves_ = are
    by_place (Some n) leaves_ = viewed_lists h.exchanges n s.exchange are leaves_

    by_context : (o : Option Context) → LeavesView s.exchange (reach_by h (vm_in h vm) o).exchange → All (exchanges_after s o h.exchanges)
    by_context None leaves_ = are
    by_context (Some c) leaves_ = by_place c.exchange leaves_

pub view_lists : (change : ExchangeView → ExchangeView) (place : ℕ) (h : Contexts) → ((v : ExchangeView) → HasList v.maps.request → HasList (change v).maps.request) → AreLists h
    → AreLists (in_view change place (view_at h.exchanges place) h)
view_lists change place h keeps are = by_view (view_at h.exchanges place) refl
  where
    by_view : (o : Option ExchangeView) → view_at h.exchanges place ≡ o → AreLists (in_view change place o h)
    by_view None at = are
    by_view (Some v) at = viewed_lists h.exchanges place (Some (change v)) are (subst (LeavesView (Some (change v))) (sym at) (keeps v))

-- ---- an exchange that is opened, ended, or free

pub opened_lists : (number : ℕ) (fields : Headers) (h : Contexts) → IsFieldList fields → AreLists h → AreLists (open_exchange number fields h)
opened_lists number fields h is are = by_place (position is_none h.exchanges)
  where
    by_place : (o : Option ℕ) → All (placed_at (new_exchange number fields) o h.exchanges)
    by_place None = behind_lists h.exchanges (Some (new_exchange number fields)) are is
    by_place (Some n) = set_lists h.exchanges n (Some (new_exchange number fields)) are is

freed_lists : (n : ℕ) (h : Contexts) → AreLists h → AreLists (freed n h)
freed_lists n h are = by_bool AreLists (has_ended (exchange_at h.exchanges n) && not (is_referred n h.vms)) (record h { exchanges = slice_set h.exchanges n None }) h (λ e. set_lists h.exchanges n None are tt) (λ e. are)

pub ended_lists : (n : ℕ) (h : Contexts) → AreLists h → AreLists (end_exchange n h)
ended_lists n h are =
    freed_lists n (record h { exchanges = slice_set h.exchanges n (option_map ended_one (exchange_at h.exchanges n)) })
    (set_lists h.exchanges n (option_map ended_one (exchange_at h.exchanges n)) are (by_one (exchange_at h.exchanges n) (are n)))
  where
    by_one : (o : Option parts.ExchangeEntry) → Here o → Here (option_map ended_one o)
    by_one None here = tt
    by_one (Some x) here = here

pub deleted_lists : (vm id : ℕ) (h : Contexts) → AreLists h → AreLists (delete_id vm id h)
deleted_lists vm id h are = by_place (exchange_of (context_in h vm id))
  where
    by_place : (o : Option ℕ) → AreLists (freed_of o (without_context vm id h))
    by_place None = are
    by_place (Some n) = freed_lists n (without_context vm id h) are

-- ---- what stages hold

pub stage_lists : (f : stages.StageBuffer → stages.StageBuffer) (h : Contexts) (vm e : ℕ) (r : Bool) → AreLists h → AreLists (stage_changed f h vm e r)
stage_lists f h vm e r are = by_own (own_at h vm e)
  where
    by_own : (o : Option own.Own) → AreLists (stage_after f h vm e r o)
    by_own None = are
    by_own (Some o) = put_lists (record no_changes { own = Some (with_own_stage r (f (stage_in r o)) o) }) vm e h are tt

held_lists : (h : Contexts) (s : Stage) → AreLists h → AreLists (without_held h s)
held_lists h s are = by_bool AreLists (holds_bytes s.held) (without_buffer h s.vm s.context s.response) h (λ e. stage_lists emptied_stage h s.vm s.context s.response are) (λ e. are)

unless_lists : (before after : Contexts) (r : PassOutcome × List Stage) → AreLists before → AreLists after → AreLists (unless_over before after r).2
unless_lists before after (passed.Over, stages) here there = here
unless_lists before after (passed.Left items, stages) here there = there

pub continued_lists : (h : Contexts) (k : ℕ) (stages : List Stage) → AreLists h → AreLists (continued h k stages).2
continued_lists h k stages are = by_stage (slice_get stages k)
  where
    by_stage : (o : Option Stage) → AreLists (continued_at h k stages o).2
    by_stage None = are
    by_stage (Some s) =
        unless_lists h (without_held h s) (hand_over h (length (bytes_held h s)) (held_items s.held (bytes_held h s)) (k + 1) stages (slice_set stages k (without_hold s))) are (held_lists h s are)

pub through_lists : (h : Contexts) (k : ℕ) (stages : List Stage) → AreLists h → AreLists (let_through h k stages).2
through_lists h k stages are = by_stage (slice_get stages k)
  where
    by_stage : (o : Option Stage) → AreLists (let_through_at h k stages o).2
    by_stage None = are
    by_stage (Some s) =
        unless_lists h (without_held h s) (hand_over h (length (bytes_held h s) + size s.waiting) (held_items s.held (bytes_held h s) ++ s.waiting) (k + 1) stages (slice_set stages k (let_pass s))) are (held_lists h s are)

pub paused_lists : (h : Contexts) (k : ℕ) (stages : List Stage) → AreLists h → AreLists (paused h k stages)
paused_lists h k stages are = by_stage (slice_get stages k)
  where
    by_stage : (o : Option Stage) → AreLists (paused_at h o)
    by_stage None = are
    by_stage (Some s) = stage_lists returned h s.vm s.context s.response are

pub asked_lists : (h : Contexts) (stages : List Stage) → AreLists h → AreLists (asked h stages).2
asked_lists h stages are = by_count (ready stages)
  where
    by_items : (k : ℕ) (s : Stage) (items : List ChainItem) → AreLists (with_stage k stages (ask_item h k s items)).2
    by_items k s [] = are
    by_items k s (Head end ∷ items) = are
    by_items k s (Piece bytes end ∷ items) =
        by_bool (λ (t : Asking × Stage × Contexts). AreLists (with_stage k stages t).2) (nat_le (length (bytes_at h s) + length bytes) limit) (ask_of k kinds.Piece (length (bytes_at h s) + length bytes) end, record s { waiting = items; held = held.Body end }, with_buffered h s.vm s.context s.response bytes end) (Over k, s, h)
        (λ e. stage_lists (with_bytes bytes end) h s.vm s.context s.response are) (λ e. are)
    by_items k s (Trailers ∷ items) = are

    by_stage : (k : ℕ) (o : Option Stage) → AreLists (ask_stage h k stages o).2
    by_stage k None = are
    by_stage k (Some s) = by_items k s s.waiting

    by_count : (n : ℕ) → AreLists (asked_at h stages n).2
    by_count zero = are
    by_count (suc k) = by_stage k (slice_get stages k)

pub cleared_lists : (h : Contexts) (stages : List Stage) → AreLists h → AreLists (without_buffers h stages)
cleared_lists h [] are = are
cleared_lists h (s ∷ stages) are = cleared_lists (without_buffer h s.vm s.context s.response) stages (stage_lists emptied_stage h s.vm s.context s.response are)

-- ---- the map at a place

pub map_listed : (place : ℕ) (h : Contexts) → AreLists h → ListOrNone (request_map place h)
map_listed place h are = by_view (view_at h.exchanges place) (are place)
  where
    by_map : (o : Option Headers) → HasList o → ListOrNone (or_none o)
    by_map None has = absurd has
    by_map (Some fields) has = inl has

    by_view : (o : Option ExchangeView) → ViewHasList o → ListOrNone (request_in o)
    by_view None has = inr refl
    by_view (Some v) has = by_map v.maps.request has
