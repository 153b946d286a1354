-- What is done to one exchange passes by the stages of others.
use Rattle.std.proofs.Common.{◌≡◌, ℕ, zero, suc, ◌-◌, ◌+◌, ◌==◌, Bool, true, false, not, ◌||◌, List, [], ◌∷◌, ◌++◌, length, ap, ◌∙◌, sym, refl, subst}
use Rattle.std.specs.Prelude.{if◌then◌else◌, Option, None, Some, slice_get, slice_set, drop}
use Rattle.std.proofs.lemmas.List.{append_assoc, append-nil}
use Rattle.contexts.specs.declared.parts.Contexts.{Contexts}
use Rattle.contexts.specs.declared.parts.ExchangeView.{ExchangeView}
use Rattle.contexts.specs.Reached.{view_at}
use Rattle.contexts.specs.Stages.{let_go as nothing, returned, without_buffer}
use Rattle.exchange.specs.declared.types.Exchange.{Exchange}
use Rattle.exchange.specs.declared.types.Hub.{Hub}
use Rattle.exchange.specs.Answering.{none_held, cut_off, answer_directly, finish_response_put, take_response_put, put_response_item, exchange_with_answer, with_answer, answer_through_stages, is_direct, with_closes, answer_open, answer, with_held}
use Rattle.exchange.specs.Heads.{is_bare, is_final, passes_filters, closes_line}
use Rattle.exchange.specs.Leaving.{send_item, send_items, send_request_item, send_response_item, is_due}
use Rattle.exchange.specs.Maps.{in_view, put_response, answer_map}
use Rattle.exchange.specs.Passing.{take_move, take_put, finish_put, put_to_chain, put_all_to_chain, put_read_items, resume_held, bypass, resume_context, resume_place, stage_of, apply_action, close_exchange, bypass_vm_at, bypass_vm_stages, bypass_vm, lose_vm, fails_closed, refuse_exchange, expire_exchange, takes_nothing, chain_of, with_chain, pause_held}
use Rattle.filter_chain.specs.declared.item.ChainItem.{ChainItem}
use Rattle.filter_chain.specs.declared.item.ChainItem.TheVariants.{Head, Piece, Trailers}
use Rattle.filter_chain.specs.declared.item.PassOutcome.{PassOutcome}
use Rattle.filter_chain.specs.declared.item.PassOutcome.TheVariants as passed
use Rattle.filter_chain.specs.declared.stage.Stage.{Stage}
use Rattle.filter_chain.specs.Items.{holds_bytes, size, held_items}
use Rattle.filter_chain.specs.Chains.{put, target, accepts, append_to, hand_over_to, hand_over, unless_over, bytes_held, without_held, without_hold, bypassed_stage, continued, continued_at, let_through, let_through_at, paused, paused_at, without_buffers, reach_count, with_more}
use Rattle.filter_chain.specs.Flow.{NoneIs}
use Rattle.gate_io.specs.declared.event.Sent.{Sent}
use Rattle.h1_model.specs.Fields.{Pair}
use Rattle.law_chain.specs.Acts.{HoldSame, AreThere}
use Rattle.law_body.specs.Apart.{AreAliens, IsAlien, PassesBy, ExchangesPassBy}
use Rattle.law_chain.proofs.Holding.{hold_all, hold_then, hold_by_vms, there_by_vms, hold_other, there_other}

by_bool : {A : Type 0} (P : A → Type 0) (b : Bool) (a c : A) → (b ≡ true → P a) → (b ≡ false → P c) → P (if b then a else c)
by_bool P true a c here there = here refl
by_bool P false a c here there = there refl

-- ---- among the contexts

pub record Holds (ss : List Stage) (b c : Contexts) : Type 0 where
  pub holds : HoldSame b c ss
  pub there : AreThere b ss → AreThere c ss

pub same : (ss : List Stage) (b : Contexts) → Holds ss b b
same ss b = record { holds = hold_all b ss; there = λ t. t }

pub next : (ss : List Stage) (b c d : Contexts) → Holds ss b c → Holds ss c d → Holds ss b d
next ss b c d one two = record { holds = hold_then b c d ss one.holds two.holds; there = λ t. two.there (one.there t) }

pub by_vms : (ss : List Stage) (b c : Contexts) → c.vms ≡ b.vms → Holds ss b c
by_vms ss b c is = record { holds = hold_by_vms b c ss is; there = there_by_vms b c ss is }

clears : (ss : List Stage) (b : Contexts) (ts : List Stage) → AreAliens ss ts → Holds ss b (without_buffers b ts)
clears ss b [] alien = same ss b
clears ss b (t ∷ ts) alien =
    let one : Contexts = without_buffer b t.vm t.context t.response in
    next ss b one (without_buffers one ts) (record { holds = hold_other nothing b t ss alien.0; there = there_other nothing b t ss }) (clears ss one ts alien.1)

lets_go : (ss : List Stage) (b : Contexts) (s : Stage) → NoneIs s ss → Holds ss b (without_held b s)
lets_go ss b s none = by_bool (Holds ss b) (holds_bytes s.held) _ b (λ e. record { holds = hold_other nothing b s ss none; there = there_other nothing b s ss }) (λ e. same ss b)

pub alien_at : (ss ts : List Stage) (k : ℕ) (s : Stage) → slice_get ts k ≡ Some s → AreAliens ss ts → NoneIs s ss
alien_at ss [] k s at alien = absurd (cc)
alien_at ss (x ∷ xs) zero s at alien =
    let here : x ≡ s = (cc) in
    subst (λ (y : Stage). NoneIs y ss) here alien.0
alien_at ss (x ∷ xs) (suc k) s at alien = alien_at ss xs k s at alien.1

pub alien_set : (ss ts : List Stage) (k : ℕ) (t : Stage) → NoneIs t ss → AreAliens ss ts → AreAliens ss (slice_set ts k t)
alien_set ss [] k t none alien = tt
alien_set ss (x ∷ xs) zero t none alien = (none, alien.1)
alien_set ss (x ∷ xs) (suc k) t none alien = (alien.0, alien_set ss xs k t none alien.1)

alien_drop : (ss ts : List Stage) (n : ℕ) → AreAliens ss ts → AreAliens ss (drop n ts)
alien_drop ss ts zero alien = alien
alien_drop ss [] (suc n) alien = tt
alien_drop ss (t ∷ ts) (suc n) alien = alien_drop ss ts n alien.1

-- ---- chains

alien_onto : (ss : List Stage) (to : ℕ) (items : List ChainItem) (changed : List Stage) (o : Option Stage) → ((s : Stage) → o ≡ Some s → NoneIs s ss) → AreAliens ss changed
    → AreAliens ss (append_to to items changed o).1
alien_onto ss to items changed None none alien = alien
alien_onto ss to items changed (Some s) none alien = alien_set ss changed to (with_more items s) (none s refl) alien

alien_handed : (ss : List Stage) (h : Contexts) (n : ℕ) (items : List ChainItem) (to : ℕ) (stages changed : List Stage) → AreAliens ss stages → AreAliens ss changed
    → AreAliens ss (hand_over_to h n items to stages changed (slice_get stages to)).1
alien_handed ss h n items to stages changed old new =
    by_bool (λ (r : PassOutcome × List Stage). AreAliens ss r.1) (accepts h n (slice_get stages to)) (append_to to items changed (slice_get stages to)) (passed.Over, stages)
    (λ e. alien_onto ss to items changed (slice_get stages to) (λ s at. alien_at ss stages to s at old) new) (λ e. old)

pub alien_put : (ss : List Stage) (h : Contexts) (item : ChainItem) (ts : List Stage) → AreAliens ss ts → AreAliens ss (put h item ts).1
alien_put ss h item ts alien = alien_handed ss h (size (item ∷ [])) (item ∷ []) (target 0 ts) ts ts alien alien

pub record Chained (ss : List Stage) (b : Contexts) (r : PassOutcome × List Stage × Contexts) : Type 0 where
  pub alien : AreAliens ss r.1
  pub holds : Holds ss b r.2

unless : (ss : List Stage) (b c : Contexts) (r : PassOutcome × List Stage) → AreAliens ss r.1 → Holds ss b c → Chained ss b (unless_over b c r)
unless ss b c (passed.Over, stages) alien holds = record { alien = alien; holds = same ss b }
unless ss b c (passed.Left items, stages) alien holds = record { alien = alien; holds = holds }

pub continues : (ss : List Stage) (b : Contexts) (k : ℕ) (ts : List Stage) → AreAliens ss ts → Chained ss b (continued b k ts)
continues ss b k ts alien = by_stage (slice_get ts k) refl
  where
    by_stage : (o : Option Stage) → slice_get ts k ≡ o → Chained ss b (continued_at b k ts o)
    by_stage None at = record { alien = alien; holds = same ss b }
    by_stage (Some s) at =
        let none : NoneIs s ss = alien_at ss ts k s at alien in
        unless ss b (without_held b s) (hand_over b (length (bytes_held b s)) (held_items s.held (bytes_held b s)) (k + 1) ts (slice_set ts k (without_hold s)))
        (alien_handed ss b (length (bytes_held b s)) (held_items s.held (bytes_held b s)) (target (k + 1) ts) ts (slice_set ts k (without_hold s)) alien (alien_set ss ts k (without_hold s) none alien))
        (lets_go ss b s none)

pub lets : (ss : List Stage) (b : Contexts) (k : ℕ) (ts : List Stage) → AreAliens ss ts → Chained ss b (let_through b k ts)
lets ss b k ts alien = by_stage (slice_get ts k) refl
  where
    by_stage : (o : Option Stage) → slice_get ts k ≡ o → Chained ss b (let_through_at b k ts o)
    by_stage None at = record { alien = alien; holds = same ss b }
    by_stage (Some s) at =
        let none : NoneIs s ss = alien_at ss ts k s at alien in
        unless ss b (without_held b s) (hand_over b (length (bytes_held b s) + size s.waiting) (held_items s.held (bytes_held b s) ++ s.waiting) (k + 1) ts (slice_set ts k (bypassed_stage s)))
        (alien_handed ss b (length (bytes_held b s) + size s.waiting) (held_items s.held (bytes_held b s) ++ s.waiting) (target (k + 1) ts) ts (slice_set ts k (bypassed_stage s)) alien
        (alien_set ss ts k (bypassed_stage s) none alien))
        (lets_go ss b s none)

pub pauses_by : (ss : List Stage) (b : Contexts) (k : ℕ) (ts : List Stage) → AreAliens ss ts → Holds ss b (paused b k ts)
pauses_by ss b k ts alien = by_stage (slice_get ts k) refl
  where
    by_stage : (o : Option Stage) → slice_get ts k ≡ o → Holds ss b (paused_at b o)
    by_stage None at = same ss b
    by_stage (Some s) at =
        let none : NoneIs s ss = alien_at ss ts k s at alien in
        record { holds = hold_other returned b s ss none; there = there_other returned b s ss }

-- ---- exchanges

abbrev pub By : List Stage → Hub → Exchange × Hub → Type 0
By ss hub xh = PassesBy ss hub xh.0 xh.1

stays : (ss : List Stage) (x : Exchange) (hub : Hub) → IsAlien ss x → By ss hub (x, hub)
stays ss x hub alien = record { holds = hold_all hub.contexts ss; there = λ t. t; alien = alien; moment = refl; sent = ([], sym (append-nil hub.sent)) }

pub and_then : (ss : List Stage) (y : Exchange) (hub mid after : Hub) (z : Exchange) → PassesBy ss hub y mid → PassesBy ss mid z after → PassesBy ss hub z after
and_then ss y hub mid after z a b = record {
  holds = hold_then hub.contexts mid.contexts after.contexts ss a.holds b.holds;
  there = λ t. b.there (a.there t);
  alien = b.alien;
  moment = b.moment ∙ a.moment;
  sent = (a.sent.0 ++ b.sent.0, b.sent.1 ∙ (ap (λ (l : List Sent). l ++ b.sent.0) a.sent.1 ∙ append_assoc hub.sent a.sent.0 b.sent.0));
}

pub held_by : (ss : List Stage) (y : Exchange) (hub after : Hub) → Holds ss hub.contexts after.contexts → IsAlien ss y → after.moment ≡ hub.moment → after.sent ≡ hub.sent
    → PassesBy ss hub y after
held_by ss y hub after holds alien now said =
    record { holds = holds.holds; there = holds.there; alien = alien; moment = now; sent = ([], said ∙ sym (append-nil hub.sent)) }

leaves_by : (ss : List Stage) (response : Bool) (n : ℕ) (item : ChainItem) (x : Exchange) (hub : Hub) → IsAlien ss x → By ss hub (send_item response n item (x, hub))
leaves_by ss false n item x hub alien = by_bool (By ss hub) x.has_ended (x, hub) (send_request_item n item x hub) (λ e. stays ss x hub alien) (λ e. goes_up item)
  where
    goes_up : (i : ChainItem) → By ss hub (send_request_item n i x hub)
    goes_up (Head end) = record { holds = hold_all hub.contexts ss; there = λ t. t; alien = record { request = alien.request; response = alien.response }; moment = refl; sent = (_, refl) }
    goes_up (Piece bytes end) = record { holds = hold_all hub.contexts ss; there = λ t. t; alien = alien; moment = refl; sent = (_, refl) }
    goes_up Trailers = record { holds = hold_all hub.contexts ss; there = λ t. t; alien = alien; moment = refl; sent = (_, refl) }
leaves_by ss true n item x hub alien = by_bool (By ss hub) x.has_ended (x, hub) (send_response_item n item x hub) (λ e. stays ss x hub alien) (λ e. goes_down item)
  where
    goes_down : (i : ChainItem) → By ss hub (send_response_item n i x hub)
    goes_down (Head end) = record { holds = hold_all hub.contexts ss; there = λ t. t; alien = record { request = alien.request; response = alien.response }; moment = refl; sent = (_, refl) }
    goes_down (Piece bytes end) = record { holds = hold_all hub.contexts ss; there = λ t. t; alien = record { request = alien.request; response = alien.response }; moment = refl; sent = (_, refl) }
    goes_down Trailers = record { holds = hold_all hub.contexts ss; there = λ t. t; alien = record { request = alien.request; response = alien.response }; moment = refl; sent = (_, refl) }

left_by : (ss : List Stage) (response : Bool) (n : ℕ) (items : List ChainItem) (x : Exchange) (hub : Hub) → IsAlien ss x → By ss hub (send_items response n items (x, hub))
left_by ss response n [] x hub alien = stays ss x hub alien
left_by ss response n (item ∷ items) x hub alien =
    let first : By ss hub (send_item response n item (x, hub)) = leaves_by ss response n item x hub alien in
    let mid : Exchange × Hub = send_item response n item (x, hub) in
    let last : Exchange × Hub = send_items response n items mid in
    and_then ss mid.0 hub mid.1 last.1 last.0 first (left_by ss response n items mid.0 mid.1 first.alien)

-- ---- answers

pub drops : (ss : List Stage) (x : Exchange) (hub : Hub) → IsAlien ss x → Holds ss hub.contexts (none_held x hub).contexts
drops ss x hub alien =
    next ss hub.contexts (without_buffers hub.contexts x.request) (without_buffers (without_buffers hub.contexts x.request) x.response) (clears ss hub.contexts x.request alien.request)
    (clears ss (without_buffers hub.contexts x.request) x.response alien.response)

cut_off_by : (ss : List Stage) (x : Exchange) (hub : Hub) → IsAlien ss x → By ss hub (cut_off x hub)
cut_off_by ss x hub alien = held_by ss (cut_off x hub).0 hub (cut_off x hub).1 (drops ss x hub alien) (record { request = tt; response = tt }) refl refl

directly_by : (ss : List Stage) (n status : ℕ) (fields : List Pair) (body : List ℕ) (x : Exchange) (hub : Hub) → IsAlien ss x → By ss hub (answer_directly n status fields body x hub)
directly_by ss n status fields body x hub alien =
    by_bool (By ss hub) (x.is_head_out || not (is_final status)) (cut_off x hub) _ (λ e. cut_off_by ss x hub alien)
    (λ e. record { holds = (drops ss x hub alien).holds; there = (drops ss x hub alien).there; alien = record { request = tt; response = tt }; moment = refl; sent = (_, refl) })

passed_down_by : (ss : List Stage) (n : ℕ) (p : PassOutcome) (x : Exchange) (hub : Hub) → IsAlien ss x → By ss hub (finish_response_put n p x hub)
passed_down_by ss n passed.Over x hub alien = directly_by ss n 500 [] [] x hub alien
passed_down_by ss n (passed.Left items) x hub alien = left_by ss true n items x hub alien

puts_down_by : (ss : List Stage) (n : ℕ) (item : ChainItem) (x : Exchange) (hub : Hub) → IsAlien ss x → By ss hub (put_response_item n item (x, hub))
puts_down_by ss n item x hub alien =
    let t : PassOutcome × List Stage = put hub.contexts item x.response in
    by_bool (By ss hub) x.has_ended (x, hub) (take_response_put n x hub t) (λ e. stays ss x hub alien)
    (λ e. passed_down_by ss n t.0 (record x { response = t.1 }) hub (record { request = alien.request; response = alien_put ss hub.contexts item x.response alien.response }))

puts_two_by : (ss : List Stage) (n : ℕ) (one two : ChainItem) (x : Exchange) (hub : Hub) → IsAlien ss x → By ss hub (put_response_item n two (put_response_item n one (x, hub)))
puts_two_by ss n one two x hub alien =
    let mid : Exchange × Hub = put_response_item n one (x, hub) in
    let first : By ss hub mid = puts_down_by ss n one x hub alien in
    let last : Exchange × Hub = put_response_item n two mid in
    and_then ss mid.0 hub mid.1 last.1 last.0 first (puts_down_by ss n two mid.0 mid.1 first.alien)

response_vms : (ss : List Stage) (status : ℕ) (fields : List Pair) (place : ℕ) (h : Contexts) → (put_response (answer_map status fields) place h).vms ≡ h.vms
response_vms ss status fields place h = by_view (view_at h.exchanges place)
  where
    by_view : (v : Option ExchangeView) → (in_view (λ w. record w { maps = record w.maps { response = Some (answer_map status fields) } }) place v h).vms ≡ h.vms
    by_view None = refl
    by_view (Some v) = refl

through_by : (ss : List Stage) (n status : ℕ) (fields : List Pair) (body : List ℕ) (x : Exchange) (hub : Hub) → IsAlien ss x → By ss hub (answer_through_stages n status fields body x hub)
through_by ss n status fields body x hub alien =
    let y : Exchange = exchange_with_answer status body x in
    let k : Hub = with_answer status fields x hub in
    let mapped : Contexts = put_response (answer_map status fields) x.place hub.contexts in
    let here : Holds ss hub.contexts k.contexts
    = next ss hub.contexts mapped (without_buffers mapped x.request) (by_vms ss hub.contexts mapped (response_vms ss status fields x.place hub.contexts))
    (clears ss mapped x.request alien.request) in
    let new : IsAlien ss y
    = record { request = tt; response = alien_drop ss x.response (length x.response - (if x.is_entered then reach_count x.request else 0)) alien.response } in
    let last : Exchange × Hub = answer_through_stages n status fields body x hub in
    and_then ss y hub k last.1 last.0 (held_by ss y hub k here new refl refl)
    (by_bool (By ss k) (is_bare y.told.length) (put_response_item n (Head true) (y, k)) (put_response_item n (Piece body true) (put_response_item n (Head false) (y, k)))
    (λ e. puts_down_by ss n (Head true) y k new) (λ e. puts_two_by ss n (Head false) (Piece body true) y k new))

answers_open_by : (ss : List Stage) (n status : ℕ) (fields : List Pair) (body : List ℕ) (x : Exchange) (hub : Hub) → IsAlien ss x → By ss hub (answer_open n status fields body x hub)
answers_open_by ss n status fields body x hub alien =
    by_bool (By ss hub) (is_direct status x) (answer_directly n status fields body x hub) (answer_through_stages n status fields body x hub) (λ e. directly_by ss n status fields body x hub alien)
    (λ e. through_by ss n status fields body x hub alien)

answer_by : (ss : List Stage) (n : ℕ) (closes_line : Bool) (status : ℕ) (fields : List Pair) (body : List ℕ) (x : Exchange) (hub : Hub) → IsAlien ss x
    → By ss hub (answer n closes_line status fields body x hub)
answer_by ss n closes_line status fields body x hub alien =
    by_bool (By ss hub) (x.has_ended || x.is_answered) (x, hub) (answer_open n status fields body (with_closes closes_line x) hub) (λ e. stays ss x hub alien)
    (λ e. answers_open_by ss n status fields body (with_closes closes_line x) hub (record { request = alien.request; response = alien.response }))

-- ---- what is read, goes on, or is let through

pub alien_with : (ss : List Stage) (response : Bool) (stages : List Stage) (x : Exchange) → AreAliens ss stages → IsAlien ss x → IsAlien ss (with_chain response stages x)
alien_with ss false stages x new alien = record { request = new; response = alien.response }
alien_with ss true stages x new alien = record { request = alien.request; response = new }

pub alien_chain : (ss : List Stage) (response : Bool) (x : Exchange) → IsAlien ss x → AreAliens ss (chain_of response x)
alien_chain ss false x alien = alien.request
alien_chain ss true x alien = alien.response

pub passed_on_by : (ss : List Stage) (response : Bool) (n : ℕ) (p : PassOutcome) (x : Exchange) (hub : Hub) → IsAlien ss x → By ss hub (finish_put response n p x hub)
passed_on_by ss false n passed.Over x hub alien = answer_by ss n true 413 [] [] x hub alien
passed_on_by ss false n (passed.Left items) x hub alien = left_by ss false n items x hub alien
passed_on_by ss true n p x hub alien = passed_down_by ss n p x hub alien

puts_by : (ss : List Stage) (response : Bool) (n : ℕ) (item : ChainItem) (x : Exchange) (hub : Hub) → IsAlien ss x → By ss hub (put_to_chain response n item (x, hub))
puts_by ss response n item x hub alien =
    let t : PassOutcome × List Stage = put hub.contexts item (chain_of response x) in
    by_bool (By ss hub) (takes_nothing response x) (x, hub) (take_put response n x hub t) (λ e. stays ss x hub alien)
    (λ e. passed_on_by ss response n t.0 (with_chain response t.1 x) hub
    (alien_with ss response t.1 x (alien_put ss hub.contexts item (chain_of response x) (alien_chain ss response x alien)) alien))

puts_all_by : (ss : List Stage) (response : Bool) (n : ℕ) (items : List ChainItem) (x : Exchange) (hub : Hub) → IsAlien ss x → By ss hub (put_all_to_chain response n items (x, hub))
puts_all_by ss response n [] x hub alien = stays ss x hub alien
puts_all_by ss response n (item ∷ items) x hub alien =
    let mid : Exchange × Hub = put_to_chain response n item (x, hub) in
    let first : By ss hub mid = puts_by ss response n item x hub alien in
    let last : Exchange × Hub = put_all_to_chain response n items mid in
    and_then ss mid.0 hub mid.1 last.1 last.0 first (puts_all_by ss response n items mid.0 mid.1 first.alien)

put_in_by : (ss : List Stage) (response : Bool) (items : List ChainItem) (n : ℕ) (x : Exchange) (hub : Hub) → IsAlien ss x → By ss hub (put_read_items response items n x hub)
put_in_by ss response items n x hub alien =
    by_bool (By ss hub) x.is_answered (x, hub) (put_all_to_chain response n items (x, hub)) (λ e. stays ss x hub alien) (λ e. puts_all_by ss response n items x hub alien)

went_by : (ss : List Stage) (response : Bool) (n : ℕ) (x : Exchange) (hub : Hub) (t : PassOutcome × List Stage × Contexts) → Chained ss hub.contexts t → IsAlien ss x
    → By ss hub (take_move response n x hub t)
went_by ss response n x hub t chained alien =
    let y : Exchange = with_chain response t.1 x in
    let k : Hub = with_held t.2 hub in
    let last : Exchange × Hub = finish_put response n t.0 y k in
    let new : IsAlien ss y = alien_with ss response t.1 x chained.alien alien in
    and_then ss y hub k last.1 last.0 (held_by ss y hub k chained.holds new refl refl) (passed_on_by ss response n t.0 y k new)

goes_on_by : (ss : List Stage) (response : Bool) (n k : ℕ) (x : Exchange) (hub : Hub) → IsAlien ss x → By ss hub (resume_held response n k x hub)
goes_on_by ss response n k x hub alien =
    by_bool (By ss hub) x.has_ended (x, hub) (take_move response n x hub (continued hub.contexts k (chain_of response x))) (λ e. stays ss x hub alien)
    (λ e. went_by ss response n x hub (continued hub.contexts k (chain_of response x)) (continues ss hub.contexts k (chain_of response x) (alien_chain ss response x alien)) alien)

gives_way_by : (ss : List Stage) (response : Bool) (n k : ℕ) (x : Exchange) (hub : Hub) → IsAlien ss x → By ss hub (bypass response n k x hub)
gives_way_by ss response n k x hub alien =
    by_bool (By ss hub) x.has_ended (x, hub) (take_move response n x hub (let_through hub.contexts k (chain_of response x))) (λ e. stays ss x hub alien)
    (λ e. went_by ss response n x hub (let_through hub.contexts k (chain_of response x)) (lets ss hub.contexts k (chain_of response x) (alien_chain ss response x alien)) alien)

resumes_by : (ss : List Stage) (vm context : ℕ) (response : Bool) (n : ℕ) (x : Exchange) (hub : Hub) → IsAlien ss x → By ss hub (resume_context vm context response n x hub)
resumes_by ss vm context response n x hub alien = by_place (stage_of vm context (chain_of response x))
  where
    by_place : (o : Option ℕ) → By ss hub (resume_place response n o x hub)
    by_place None = stays ss x hub alien
    by_place (Some k) = goes_on_by ss response n k x hub alien

acts_by : (ss : List Stage) (response : Bool) (k value n : ℕ) (x : Exchange) (hub : Hub) → IsAlien ss x → By ss hub (apply_action response k value n x hub)
acts_by ss response k value n x hub alien =
    let h : Hub = pause_held response k x hub in
    let first : PassesBy ss hub x h = held_by ss x hub h (pauses_by ss hub.contexts k (chain_of response x) (alien_chain ss response x alien)) alien refl refl in
    by_bool (By ss hub) (value == 0) (resume_held response n k x h) (x, h)
    (λ e. let last : Exchange × Hub = resume_held response n k x h in and_then ss x hub h last.1 last.0 first (goes_on_by ss response n k x h alien)) (λ e. first)

closed_by : (ss : List Stage) (n : ℕ) (x : Exchange) (hub : Hub) → IsAlien ss x → By ss hub (close_exchange n x hub)
closed_by ss n x hub alien = by_bool (By ss hub) x.has_ended (x, hub) (cut_off x hub) (λ e. stays ss x hub alien) (λ e. cut_off_by ss x hub alien)

-- ---- deaths

opens_at_by : (ss : List Stage) (response : Bool) (vm n k : ℕ) (o : Option Stage) (x : Exchange) (hub : Hub) → IsAlien ss x → By ss hub (bypass_vm_at response vm n k o x hub)
opens_at_by ss response vm n k None x hub alien = stays ss x hub alien
opens_at_by ss response vm n k (Some s) x hub alien =
    by_bool (By ss hub) (s.vm == vm) (bypass response n k x hub) (x, hub) (λ e. gives_way_by ss response n k x hub alien) (λ e. stays ss x hub alien)

opens_by : (ss : List Stage) (response : Bool) (vm n m : ℕ) (x : Exchange) (hub : Hub) → IsAlien ss x → By ss hub (bypass_vm_stages response vm n m (x, hub))
opens_by ss response vm n zero x hub alien = stays ss x hub alien
opens_by ss response vm n (suc k) x hub alien =
    let mid : Exchange × Hub = bypass_vm_at response vm n k (slice_get (chain_of response x) k) x hub in
    let first : By ss hub mid = opens_at_by ss response vm n k (slice_get (chain_of response x) k) x hub alien in
    let last : Exchange × Hub = bypass_vm_stages response vm n k mid in
    and_then ss mid.0 hub mid.1 last.1 last.0 first (opens_by ss response vm n k mid.0 mid.1 first.alien)

opens_all_by : (ss : List Stage) (vm n : ℕ) (x : Exchange) (hub : Hub) → IsAlien ss x → By ss hub (bypass_vm vm n x hub)
opens_all_by ss vm n x hub alien =
    let mid : Exchange × Hub = bypass_vm_stages false vm n (length x.request) (x, hub) in
    let first : By ss hub mid = opens_by ss false vm n (length x.request) x hub alien in
    let last : Exchange × Hub = bypass_vm_stages true vm n (length mid.0.response) mid in
    and_then ss mid.0 hub mid.1 last.1 last.0 first (opens_by ss true vm n (length mid.0.response) mid.0 mid.1 first.alien)

dies_by : (ss : List Stage) (vm n : ℕ) (x : Exchange) (hub : Hub) → IsAlien ss x → By ss hub (lose_vm vm n x hub)
dies_by ss vm n x hub alien =
    by_bool (By ss hub) x.has_ended (x, hub) (if fails_closed vm x then answer_directly n 503 [] [] x hub else bypass_vm vm n x hub) (λ e. stays ss x hub alien)
    (λ e. by_bool (By ss hub) (fails_closed vm x) (answer_directly n 503 [] [] x hub) (bypass_vm vm n x hub) (λ d. directly_by ss n 503 [] [] x hub alien) (λ d. opens_all_by ss vm n x hub alien))

-- ---- fixed answers

refused_by : (ss : List Stage) (status n : ℕ) (x : Exchange) (hub : Hub) → IsAlien ss x → By ss hub (refuse_exchange status n x hub)
refused_by ss status n x hub alien =
    by_bool (By ss hub) (x.has_ended || x.is_answered) (x, hub)
    (if passes_filters status then answer n (closes_line status) status [] [] x hub else answer_directly n status [] [] (with_closes (closes_line status) x) hub) (λ e. stays ss x hub alien)
    (λ e. by_bool (By ss hub) (passes_filters status) (answer n (closes_line status) status [] [] x hub) (answer_directly n status [] [] (with_closes (closes_line status) x) hub)
    (λ d. answer_by ss n (closes_line status) status [] [] x hub alien)
    (λ d. directly_by ss n status [] [] (with_closes (closes_line status) x) hub (record { request = alien.request; response = alien.response })))

expires_by : (ss : List Stage) (n : ℕ) (x : Exchange) (hub : Hub) → IsAlien ss x → By ss hub (expire_exchange n x hub)
expires_by ss n x hub alien =
    by_bool (By ss hub) (is_due hub.moment x) (answer n false 504 [] [] x hub) (x, hub) (λ e. answer_by ss n false 504 [] [] x hub alien) (λ e. stays ss x hub alien)

pub exchanges_pass_by : ExchangesPassBy
exchanges_pass_by = record {
  putting = λ response items ss n x hub alien. put_in_by ss response items n x hub alien;
  acting = λ response k value ss n x hub alien. acts_by ss response k value n x hub alien;
  resuming = λ vm context response ss n x hub alien. resumes_by ss vm context response n x hub alien;
  closing = λ ss n x hub alien. closed_by ss n x hub alien;
  answering = λ closes_line status fields body ss n x hub alien. answer_by ss n closes_line status fields body x hub alien;
  dying = λ vm ss n x hub alien. dies_by ss vm n x hub alien;
  refusing = λ status ss n x hub alien. refused_by ss status n x hub alien;
  expiring = λ ss n x hub alien. expires_by ss n x hub alien;
}
