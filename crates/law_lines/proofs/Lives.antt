-- The deeds of an exchange, joined, after what was sent before, and with the items that came.
use Rattle.std.proofs.Common.{◌≡◌, ℕ, true, false, List, [], ◌∷◌, ◌++◌, map, refl, ap, ◌∙◌, sym, subst}
use Rattle.std.proofs.lemmas.List.{append_assoc}
use Rattle.contexts.specs.declared.parts.Contexts.{Contexts}
use Rattle.exchange.specs.declared.types.Exchange.{Exchange}
use Rattle.exchange.specs.declared.types.Hub.{Hub}
use Rattle.law_exchange.specs.Lives.{Deed, comes, responds, acts, resumes, closes, answers, dies, refuses, expires, turns, done_by, IsFair, items_by, items_out, all_out, Lives}
use Rattle.law_exchange.specs.Traffic.{up_traffic}
use Rattle.law_exchange.proofs.Traffic.{ups_join}
use Rattle.filter_chain.specs.declared.item.ChainItem.{ChainItem}
use Rattle.filter_chain.specs.declared.item.ChainItem.TheVariants.{Head as head, Piece, Trailers}
use Rattle.gate_io.specs.declared.event.Sent.{Sent}
use Rattle.h1_model.specs.Fields.{Pair}
use Rattle.h1_model.specs.Framing.{OutItem}
use Rattle.h1_model.specs.Head.{Head}
use Rattle.law_lines.specs.Living.{request_in, requests_in, LivesBy}
use Rattle.law_lines.specs.Requests.{AreOf}
use Rattle.law_lines.proofs.Earlier.{behind, behind_it, answer_later, put_in_later, resumes_later, acts_later, closed_later, dies_later, refused_later, expires_later}

-- ---- after what was sent before

abbrev pub behind_deed : List Sent → Deed → Deed
behind_deed b (comes items) = comes items
behind_deed b (responds items) = responds items
behind_deed b (acts response k value) = acts response k value
behind_deed b (resumes vm context response) = resumes vm context response
behind_deed b closes = closes
behind_deed b (answers shut status fields body) = answers shut status fields body
behind_deed b (dies vm) = dies vm
behind_deed b (refuses status) = refuses status
behind_deed b expires = expires
behind_deed b (turns y k) = turns y (behind b k)

deed_later : (b : List Sent) (n : ℕ) (deed : Deed) (x : Exchange) (hub : Hub) → done_by n (behind_deed b deed) x (behind b hub) ≡ behind_it b (done_by n deed x hub)
deed_later b n (comes items) x hub = put_in_later b false items n x hub
deed_later b n (responds items) x hub = put_in_later b true items n x hub
deed_later b n (acts response k value) x hub = acts_later b response k value n x hub
deed_later b n (resumes vm context response) x hub = resumes_later b vm context response n x hub
deed_later b n closes x hub = closed_later b n x hub
deed_later b n (answers shut status fields body) x hub = answer_later b n shut status fields body x hub
deed_later b n (dies vm) x hub = dies_later b vm n x hub
deed_later b n (refuses status) x hub = refused_later b status n x hub
deed_later b n expires x hub = expires_later b n x hub
deed_later b n (turns y k) x hub = refl

fair_later : (b : List Sent) (n : ℕ) (deed : Deed) (x : Exchange) (hub : Hub) → IsFair n deed x hub → IsFair n (behind_deed b deed) x (behind b hub)
fair_later b n (comes items) x hub fair = tt
fair_later b n (responds items) x hub fair = tt
fair_later b n (acts response k value) x hub fair = tt
fair_later b n (resumes vm context response) x hub fair = tt
fair_later b n closes x hub fair = tt
fair_later b n (answers shut status fields body) x hub fair = tt
fair_later b n (dies vm) x hub fair = tt
fair_later b n (refuses status) x hub fair = tt
fair_later b n expires x hub fair = tt
fair_later b n (turns y k) x hub fair = (fair.0, ups_join n b k.sent ∙ (ap (λ t. up_traffic n b ++ t) fair.1 ∙ sym (ups_join n b hub.sent)))

pub lives_behind : (b : List Sent) (n : ℕ) (deeds : List Deed) (x y : Exchange) (hub after : Hub) → LivesBy false n x hub deeds y after → LivesBy false n x (behind b hub) (map (behind_deed b) deeds) y (behind b after)
lives_behind b n [] x y hub after lives = (lives.0, ap (behind b) lives.1)
lives_behind b n (d ∷ deeds) x y hub after lives = (
  (fair_later b n d x hub lives.0.0, (λ e. absurd (cc))),
  subst (λ (p : Exchange × Hub). LivesBy false n p.0 p.1 (map (behind_deed b) deeds) y (behind b after)) (sym (deed_later b n d x hub)) (lives_behind b n deeds (done_by n d x hub).0 y (done_by n d x hub).1 after lives.1),
)

one_request : (b : List Sent) (d : Deed) → request_in (behind_deed b d) ≡ request_in d
one_request b (comes items) = refl
one_request b (responds items) = refl
one_request b (acts response k value) = refl
one_request b (resumes vm context response) = refl
one_request b closes = refl
one_request b (answers shut status fields body) = refl
one_request b (dies vm) = refl
one_request b (refuses status) = refl
one_request b expires = refl
one_request b (turns y k) = refl

pub requests_behind : (b : List Sent) (deeds : List Deed) → requests_in (map (behind_deed b) deeds) ≡ requests_in deeds
requests_behind b [] = refl
requests_behind b (d ∷ deeds) = λ i. one_request b d i ++ requests_behind b deeds i

-- ---- the items that came

abbrev pub came_of : ℕ → Exchange → Hub → List Deed → List OutItem
came_of n x hub [] = []
came_of n x hub (d ∷ deeds) = items_by d x hub ++ came_of n (done_by n d x hub).0 (done_by n d x hub).1 deeds

pub lives_with : (n : ℕ) (deeds : List Deed) (x y : Exchange) (hub after : Hub) → LivesBy false n x hub deeds y after → Lives n x hub deeds (came_of n x hub deeds) y after
lives_with n [] x y hub after lives = (refl, lives.0, lives.1)
lives_with n (d ∷ deeds) x y hub after lives =
    (came_of n (done_by n d x hub).0 (done_by n d x hub).1 deeds, lives.0.0, refl, lives_with n deeds (done_by n d x hub).0 y (done_by n d x hub).1 after lives.1)

pub came_join : (n : ℕ) (a b : List Deed) (x y : Exchange) (hub mid : Hub) → LivesBy false n x hub a y mid → came_of n x hub (a ++ b) ≡ came_of n x hub a ++ came_of n y mid b
came_join n [] b x y hub mid lives = λ i. came_of n (sym lives.0 i) (sym lives.1 i) b
came_join n (d ∷ a) b x y hub mid lives =
    ap (λ l. items_by d x hub ++ l) (came_join n a b (done_by n d x hub).0 y (done_by n d x hub).1 mid lives.1)
    ∙ sym (append_assoc (items_by d x hub) (came_of n (done_by n d x hub).0 (done_by n d x hub).1 a) (came_of n y mid b))

pub none_left : {A : Type 0} (a b : List A) → a ++ b ≡ [] → (a ≡ []) × (b ≡ [])
none_left [] b is = (refl, is)
none_left (x ∷ a) b is = absurd (cc)

pub none_of : (d : Deed) (x : Exchange) (hub : Hub) → request_in d ≡ [] → items_by d x hub ≡ []
none_of (comes items) x hub is = ap (items_out x hub) is
none_of (responds items) x hub is = refl
none_of (acts response k value) x hub is = refl
none_of (resumes vm context response) x hub is = refl
none_of closes x hub is = refl
none_of (answers shut status fields body) x hub is = refl
none_of (dies vm) x hub is = refl
none_of (refuses status) x hub is = refl
none_of expires x hub is = refl
none_of (turns y k) x hub is = refl

pub none_came : (n : ℕ) (deeds : List Deed) (x : Exchange) (hub : Hub) → requests_in deeds ≡ [] → came_of n x hub deeds ≡ []
none_came n [] x hub is = refl
none_came n (d ∷ deeds) x hub is =
    let both = none_left (request_in d) (requests_in deeds) is in
    λ i. none_of d x hub both.0 i ++ none_came n deeds (done_by n d x hub).0 (done_by n d x hub).1 both.1 i

pub of_join : (h : Head) (a b : List ChainItem) (c d : List OutItem) → AreOf h a c → AreOf h b d → AreOf h (a ++ b) (c ++ d)
of_join h [] b [] d first later = later
of_join h [] b (o ∷ c) d first later = absurd first
of_join h (i ∷ a) b [] d first later = absurd first
of_join h (i ∷ a) b (o ∷ c) d first later = (first.0, of_join h a b c d first.1 later)

-- no head among them
abbrev pub NoHead : List ChainItem → Type 0
NoHead [] = Unit {0}
NoHead (head end ∷ items) = ⊥
NoHead (Piece bytes end ∷ items) = NoHead items
NoHead (Trailers ∷ items) = NoHead items

pub body_of : (h : Head) (place minor : ℕ) (contexts : Contexts) (connection : List Pair) (items : List ChainItem) → NoHead items → AreOf h items (all_out place minor contexts connection items)
body_of h place minor contexts connection [] none = tt
body_of h place minor contexts connection (head end ∷ items) none = absurd none
body_of h place minor contexts connection (Piece bytes end ∷ items) none = ((refl, refl), body_of h place minor contexts connection items none)
body_of h place minor contexts connection (Trailers ∷ items) none = (tt, body_of h place minor contexts connection items none)
