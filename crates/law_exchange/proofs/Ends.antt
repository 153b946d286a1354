-- Nothing follows the end of an exchange.
use Rattle.std.proofs.Common.{◌≡◌, ℕ, ◌==◌, Bool, true, false, not, ◌&&◌, ◌||◌, List, [], ◌∷◌, refl, ap, ◌∙◌, sym, subst}
use Rattle.std.specs.Prelude.{if◌then◌else◌, Option, None, Some, nat_le}
use Rattle.exchange.specs.declared.types.Exchange.{Exchange}
use Rattle.exchange.specs.declared.types.Hub.{Hub}
use Rattle.exchange.specs.Answering.{answer, answer_open, cut_off, answer_directly, with_closes}
use Rattle.exchange.specs.Heads.{passes_filters, closes_line}
use Rattle.exchange.specs.Leaving.{is_due_at}
use Rattle.exchange.specs.Passing as passing
use Rattle.exchange.specs.Passing.{take_put, put_to_chain, put_all_to_chain, put_read_items, chain_of, take_move, resume_held, resume_place, stage_of, pause_held, fails_closed, bypass_vm}
use Rattle.filter_chain.specs.Chains.{put, continued}
use Rattle.filter_chain.specs.declared.item.ChainItem.{ChainItem}
use Rattle.law_exchange.specs.Ends.{NothingFollowsTheEnd, StaysEnded}
use Rattle.law_exchange.specs.Lives.{comes, responds, acts, resumes, closes, answers, dies, refuses, expires, turns}
use Rattle.law_exchange.proofs.Quiet.{by_bool}

abbrev Stays : Exchange → Hub → Exchange × Hub → Type 0
Stays x hub xh = StaysEnded x hub xh.0 xh.1

still : (x : Exchange) (hub : Hub) → Stays x hub (x, hub)
still x hub = record { same = refl; sends = refl }

-- what is the same pair
as_is : (x : Exchange) (hub : Hub) (p : Exchange × Hub) → p ≡ (x, hub) → Stays x hub p
as_is x hub p is = subst (Stays x hub) (sym is) (still x hub)

-- what does nothing where it has ended
unless : (x : Exchange) (hub : Hub) (other : Exchange × Hub) → x.has_ended ≡ true → (if x.has_ended then (x, hub) else other) ≡ (x, hub)
unless x hub other is = ap (λ b. if b then (x, hub) else other) is

unless_or : (x : Exchange) (hub : Hub) (c : Bool) (other : Exchange × Hub) → x.has_ended ≡ true → (if x.has_ended || c then (x, hub) else other) ≡ (x, hub)
unless_or x hub c other is = ap (λ b. if b || c then (x, hub) else other) is

puts_none : (response : Bool) (n : ℕ) (items : List ChainItem) (x : Exchange) (hub : Hub) → x.has_ended ≡ true → put_all_to_chain response n items (x, hub) ≡ (x, hub)
puts_none response n [] x hub is = refl
puts_none response n (item ∷ items) x hub is =
    ap (put_all_to_chain response n items) (unless_or x hub (not response && x.is_answered) (take_put response n x hub (put hub.contexts item (chain_of response x))) is)
    ∙ puts_none response n items x hub is

put_none : (response : Bool) (n : ℕ) (items : List ChainItem) (x : Exchange) (hub : Hub) → x.has_ended ≡ true → Stays x hub (put_read_items response items n x hub)
put_none response n items x hub is =
    by_bool (Stays x hub) x.is_answered (x, hub) (put_all_to_chain response n items (x, hub)) (λ e. still x hub) (λ e. as_is x hub (put_all_to_chain response n items (x, hub)) (puts_none response n items x hub is))

goes_on_none : (response : Bool) (n k : ℕ) (x : Exchange) (hub : Hub) → x.has_ended ≡ true → resume_held response n k x hub ≡ (x, hub)
goes_on_none response n k x hub is = unless x hub (take_move response n x hub (continued hub.contexts k (chain_of response x))) is

resumes_none : (response : Bool) (n : ℕ) (o : Option ℕ) (x : Exchange) (hub : Hub) → x.has_ended ≡ true → resume_place response n o x hub ≡ (x, hub)
resumes_none response n None x hub is = refl
resumes_none response n (Some k) x hub is = goes_on_none response n k x hub is

acts_none : (response : Bool) (k value n : ℕ) (x : Exchange) (hub : Hub) → x.has_ended ≡ true → Stays x hub (passing.apply_action response k value n x hub)
acts_none response k value n x hub is =
    let h : Hub = pause_held response k x hub in
    let there : Stays x hub (x, h) = record { same = refl; sends = refl } in
    by_bool (Stays x hub) (value == 0) (resume_held response n k x h) (x, h) (λ e. subst (Stays x hub) (sym (goes_on_none response n k x h is)) there) (λ e. there)

and_none : (b : Bool) → (b && false) ≡ false
and_none true = refl
and_none false = refl

never_due : (now : ℕ) (o : Option ℕ) (x : Exchange) → x.has_ended ≡ true → is_due_at now o x ≡ false
never_due now None x is = refl
never_due now (Some due) x is =
    ap (λ b. ((nat_le due now && not x.is_headed) && not x.is_answered) && not b) is ∙ and_none ((nat_le due now && not x.is_headed) && not x.is_answered)

pub nothing_follows_end : NothingFollowsTheEnd
nothing_follows_end n (comes items) x hub own is = put_none false n items x hub is
nothing_follows_end n (responds items) x hub own is = put_none true n items x hub is
nothing_follows_end n (acts response k value) x hub own is = acts_none response k value n x hub is
nothing_follows_end n (resumes vm context response) x hub own is =
    as_is x hub (passing.resume_context vm context response n x hub) (resumes_none response n (stage_of vm context (chain_of response x)) x hub is)
nothing_follows_end n closes x hub own is = as_is x hub (passing.close_exchange n x hub) (unless x hub (cut_off x hub) is)
nothing_follows_end n (answers shut status fields body) x hub own is =
    as_is x hub (answer n shut status fields body x hub) (unless_or x hub x.is_answered (answer_open n status fields body (with_closes shut x) hub) is)
nothing_follows_end n (dies vm) x hub own is =
    as_is x hub (passing.lose_vm vm n x hub) (unless x hub (if fails_closed vm x then answer_directly n 503 [] [] x hub else bypass_vm vm n x hub) is)
nothing_follows_end n (refuses status) x hub own is =
    as_is x hub (passing.refuse_exchange status n x hub)
    (unless_or x hub x.is_answered (if passes_filters status then answer n (closes_line status) status [] [] x hub else answer_directly n status [] [] (with_closes (closes_line status) x) hub) is)
nothing_follows_end n expires x hub own is =
    as_is x hub (passing.expire_exchange n x hub) (ap (λ b. if b then answer n false 504 [] [] x hub else (x, hub)) (never_due hub.moment x.due x is))
nothing_follows_end n (turns y after) x hub own is = absurd own
