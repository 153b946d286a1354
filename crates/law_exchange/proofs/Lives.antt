-- What goes up in the life of an exchange.
use Rattle.std.proofs.Common.{◌≡◌, ℕ, Bool, true, false, ◌||◌, List, [], ◌∷◌, ◌++◌, map, refl, ap, ◌∙◌, sym, subst}
use Rattle.std.proofs.lemmas.Grind.{flat_map-append}
use Rattle.std.proofs.lemmas.List.{append-nil, append_assoc, map-append}
use Rattle.exchange.specs.declared.types.Exchange.{Exchange}
use Rattle.exchange.specs.declared.types.Hub.{Hub}
use Rattle.exchange.specs.Leaving.{request_framing}
use Rattle.exchange.specs.Passing.{put_all_to_chain, put_read_items}
use Rattle.filter_chain.specs.declared.item.ChainItem.{ChainItem}
use Rattle.h1_model.specs.Framing.{Framing, OutItem, items_wire, item_wire, piece}
use Rattle.h1_model.specs.Framing as out
use Rattle.h1_write.proofs.Requests.{request_read_back}
use Rattle.h1_write.specs.Lines.{OutRequest, out_items, out_wire}
use Rattle.h1_write.specs.Round.{Ending, last_bytes, last_trailers, ending_item, body_items}
use Rattle.law_exchange.specs.Laws.{GoesUpOnce, OneRequestGoesUp, IsQuiet, NothingElseGoesUp}
use Rattle.law_exchange.specs.Lives.{Deed, comes, responds, acts, resumes, closes, answers, dies, refuses, expires, turns, done_by, is_over, IsFair, items_out, items_by, Lives}
use Rattle.law_exchange.specs.Traffic.{Traffic, opens, byte, up_traffic, item_traffic, traffic, IsFront}
use Rattle.law_exchange.proofs.Quiet.{by_bool, stays, responds_quiet, acts_quiet, resumes_quiet, closed_quiet, answer_quiet, dies_quiet, refused_quiet, expires_quiet}
use Rattle.law_exchange.proofs.Ups.{GoesUp, all_up, comes_over, comes_open}

-- ---- one thing that happens

nothing_mapped : (x : Exchange) (hub : Hub) (items : List ChainItem) → items_out x hub items ≡ [] → items ≡ []
nothing_mapped x hub [] is = refl
nothing_mapped x hub (item ∷ items) is = absurd (cc)

comes_none : (n : ℕ) (x : Exchange) (hub : Hub) → x.request ≡ [] → IsQuiet n x hub (put_read_items false [] n x hub).0 (put_read_items false [] n x hub).1
comes_none n x hub is = by_bool (λ (p : Exchange × Hub). IsQuiet n x hub p.0 p.1) x.is_answered (x, hub) (x, hub) (λ e. stays n x hub is) (λ e. stays n x hub is)

pub nothing_else : NothingElseGoesUp
nothing_else n (comes items) x hub is fair none =
    subst (λ (l : List ChainItem). IsQuiet n x hub (put_read_items false l n x hub).0 (put_read_items false l n x hub).1) (sym (nothing_mapped x hub items none)) (comes_none n x hub is)
nothing_else n (responds items) x hub is fair none = responds_quiet n items x hub is
nothing_else n (acts response k value) x hub is fair none = acts_quiet response k value n x hub is
nothing_else n (resumes vm context response) x hub is fair none = resumes_quiet vm context response n x hub is
nothing_else n closes x hub is fair none = closed_quiet n x hub is
nothing_else n (answers shuts status fields body) x hub is fair none = answer_quiet n shuts status fields body x hub is
nothing_else n (dies vm) x hub is fair none = dies_quiet vm n x hub is
nothing_else n (refuses status) x hub is fair none = refused_quiet status n x hub is
nothing_else n expires x hub is fair none = expires_quiet n x hub is
nothing_else n (turns y after) x hub is fair none = record { sends = fair.1; kin = fair.0 }

-- ---- once it is over

over_quiet : (n : ℕ) (deed : Deed) (x : Exchange) (hub : Hub) → x.request ≡ [] → is_over x ≡ true → IsFair n deed x hub
    → IsQuiet n x hub (done_by n deed x hub).0 (done_by n deed x hub).1
over_quiet n (comes items) x hub is over fair = subst (λ (p : Exchange × Hub). IsQuiet n x hub p.0 p.1) (sym (comes_over n items x hub over)) (stays n x hub is)
over_quiet n (responds items) x hub is over fair = responds_quiet n items x hub is
over_quiet n (acts response k value) x hub is over fair = acts_quiet response k value n x hub is
over_quiet n (resumes vm context response) x hub is over fair = resumes_quiet vm context response n x hub is
over_quiet n closes x hub is over fair = closed_quiet n x hub is
over_quiet n (answers shuts status fields body) x hub is over fair = answer_quiet n shuts status fields body x hub is
over_quiet n (dies vm) x hub is over fair = dies_quiet vm n x hub is
over_quiet n (refuses status) x hub is over fair = refused_quiet status n x hub is
over_quiet n expires x hub is over fair = expires_quiet n x hub is
over_quiet n (turns y after) x hub is over fair = record { sends = fair.1; kin = fair.0 }

record NoMore (n : ℕ) (hub : Hub) (y : Exchange) (after : Hub) : Type 0 where
  same : up_traffic n after.sent ≡ up_traffic n hub.sent
  over : is_over y ≡ true

no_more : (n : ℕ) (deeds : List Deed) (x y : Exchange) (hub after : Hub) (came : List OutItem) → x.request ≡ [] → is_over x ≡ true → Lives n x hub deeds came y after
    → NoMore n hub y after
no_more n [] x y hub after came is over lives = record { same = ap (λ (k : Hub). up_traffic n k.sent) lives.2; over = subst (λ (z : Exchange). is_over z ≡ true) (sym lives.1) over }
no_more n (deed ∷ deeds) x y hub after came is over lives =
    let first : IsQuiet n x hub (done_by n deed x hub).0 (done_by n deed x hub).1 = over_quiet n deed x hub is over lives.1 in
    let later : NoMore n (done_by n deed x hub).1 y after
    = no_more n deeds (done_by n deed x hub).0 y (done_by n deed x hub).1 after lives.0 first.kin.unfiltered (first.kin.stays_over over) lives.3 in
    record { same = later.same ∙ first.sends; over = later.over }

-- ---- before that

record Grows (n : ℕ) (framing : Framing) (came : List OutItem) (hub : Hub) (y : Exchange) (after : Hub) : Type 0 where
  went : List Traffic
  adds : up_traffic n after.sent ≡ up_traffic n hub.sent ++ went
  front : IsFront went (traffic framing came)
  all : is_over y ≡ false → went ≡ traffic framing came

traffic_join : (framing : Framing) (a b : List OutItem) → traffic framing (a ++ b) ≡ traffic framing a ++ traffic framing b
traffic_join framing a b = flat_map-append (item_traffic framing) a b

-- what went up first, and then the front of what was read later
grows_by : (n : ℕ) (framing : Framing) (now later came : List OutItem) (hub mid : Hub) (y : Exchange) (after : Hub) → up_traffic n mid.sent ≡ up_traffic n hub.sent ++ traffic framing now
    → came ≡ now ++ later → Grows n framing later mid y after → Grows n framing came hub y after
grows_by n framing now later came hub mid y after sent is g =
    let whole : traffic framing came ≡ traffic framing now ++ traffic framing later = ap (traffic framing) is ∙ traffic_join framing now later in
    record {
      went = traffic framing now ++ g.went;
      adds = g.adds ∙ (ap (λ t. t ++ g.went) sent ∙ append_assoc (up_traffic n hub.sent) (traffic framing now) g.went);
      front = (g.front.0, append_assoc (traffic framing now) g.went g.front.0 ∙ (ap (λ t. traffic framing now ++ t) g.front.1 ∙ sym whole));
      all = λ o. ap (λ t. traffic framing now ++ t) (g.all o) ∙ sym whole;
    }

none_grows : (n : ℕ) (framing : Framing) (came : List OutItem) (hub : Hub) (y : Exchange) (after : Hub) → NoMore n hub y after → Grows n framing came hub y after
none_grows n framing came hub y after ended = record {
  went = [];
  adds = ended.same ∙ sym (append-nil (up_traffic n hub.sent));
  front = (traffic framing came, refl);
  all = λ live. absurd_by ended.over live;
}
  where
    absurd_by : {A : Type 0} → is_over y ≡ true → is_over y ≡ false → A
    absurd_by over live = absurd (cc)

parts : (a b : Bool) → (a || b) ≡ false → (a ≡ false) × (b ≡ false)
parts true b is = absurd (cc)
parts false b is = (refl, is)

grows : (n : ℕ) (framing : Framing) (deeds : List Deed) (x y : Exchange) (hub after : Hub) (came : List OutItem) → x.request ≡ [] → request_framing x ≡ framing → is_over x ≡ false
    → Lives n x hub deeds came y after → Grows n framing came hub y after
grows n framing [] x y hub after came is framed live lives = record {
  went = [];
  adds = ap (λ (k : Hub). up_traffic n k.sent) lives.2 ∙ sym (append-nil (up_traffic n hub.sent));
  front = (traffic framing came, refl);
  all = λ o. sym (ap (traffic framing) lives.0);
}
grows n framing (deed ∷ deeds) x y hub after came is framed live lives =
    by_deed (λ z k more unstaged alike unended others. grows n framing deeds z y k after more unstaged alike unended others) deed lives
  where
    Later : Type 0
    Later = ((x : Exchange) (hub : Hub) (came : List OutItem) → x.request ≡ [] → request_framing x ≡ framing → is_over x ≡ false → Lives n x hub deeds came y after → Grows n framing came hub y after)

    -- what sends nothing up may end it
    quietly : Later → (deed : Deed) → items_by deed x hub ≡ [] → Lives n x hub (deed ∷ deeds) came y after → Grows n framing came hub y after
    quietly go deed none lives =
        let mid : Exchange × Hub = done_by n deed x hub in
        let first : IsQuiet n x hub mid.0 mid.1 = nothing_else n deed x hub is lives.1 none in
        let rest_is : came ≡ lives.0 = lives.2 ∙ ap (λ (l : List OutItem). l ++ lives.0) none in
        let later : Grows n framing lives.0 mid.1 y after = by_over go mid first lives.0 lives.3 (is_over mid.0) refl in
        grows_by n framing [] lives.0 came hub mid.1 y after (first.sends ∙ sym (append-nil (up_traffic n hub.sent))) rest_is later
      where
        by_over : Later → (mid : Exchange × Hub) → IsQuiet n x hub mid.0 mid.1 → (later : List OutItem) → Lives n mid.0 mid.1 deeds later y after → (b : Bool) → is_over mid.0 ≡ b
            → Grows n framing later mid.1 y after
        by_over go mid first later lives true over = none_grows n framing later mid.1 y after (no_more n deeds mid.0 y mid.1 after later first.kin.unfiltered over lives)
        by_over go mid first later lives false live = go mid.0 mid.1 later first.kin.unfiltered (first.kin.framed ∙ framed) live lives

    read : Later → (items : List ChainItem) → Lives n x hub (comes items ∷ deeds) came y after → Grows n framing came hub y after
    read go items lives =
        let o : (x.has_ended ≡ false) × (x.is_answered ≡ false) = parts x.has_ended x.is_answered live in
        let p : Exchange × Hub = put_all_to_chain false n items (x, hub) in
        let first : GoesUp n x hub items p.0 p.1 = all_up n items x hub is o.0 o.1 in
        let lives_on : Lives n p.0 p.1 deeds lives.0 y after = subst (λ (q : Exchange × Hub). Lives n q.0 q.1 deeds lives.0 y after) (comes_open n items x hub o.1) lives.3 in
        let still : is_over p.0 ≡ false = (λ i. first.ended i || first.answered i) ∙ live in
        let later : Grows n framing lives.0 p.1 y after = go p.0 p.1 lives.0 first.unfiltered (first.framed ∙ framed) still lives_on in
        grows_by n framing (items_out x hub items) lives.0 came hub p.1 y after
        (first.sent ∙ ap (λ (f : Framing). up_traffic n hub.sent ++ traffic f (items_out x hub items)) framed) lives.2 later

    by_deed : Later → (deed : Deed) → Lives n x hub (deed ∷ deeds) came y after → Grows n framing came hub y after
    by_deed go (comes items) lives = read go items lives
    by_deed go (responds items) lives = quietly go (responds items) refl lives
    by_deed go (acts response k value) lives = quietly go (acts response k value) refl lives
    by_deed go (resumes vm context response) lives = quietly go (resumes vm context response) refl lives
    by_deed go closes lives = quietly go closes refl lives
    by_deed go (answers shuts status fields body) lives = quietly go (answers shuts status fields body) refl lives
    by_deed go (dies vm) lives = quietly go (dies vm) refl lives
    by_deed go (refuses status) lives = quietly go (refuses status) refl lives
    by_deed go expires lives = quietly go expires refl lives
    by_deed go (turns z k) lives = quietly go (turns z k) refl lives

-- ---- one request

ending_traffic : (framing : Framing) (ending : Ending) → traffic framing (ending_item ending ∷ []) ≡ map byte (items_wire framing (ending_item ending ∷ []))
ending_traffic framing (last_bytes bytes) =
    append-nil (map byte (item_wire framing (piece bytes true))) ∙ sym (ap (map byte) (append-nil (item_wire framing (piece bytes true))))
ending_traffic framing (last_trailers fields) =
    append-nil (map byte (item_wire framing (out.trailers fields))) ∙ sym (ap (map byte) (append-nil (item_wire framing (out.trailers fields))))

body_traffic : (framing : Framing) (pieces : List (List ℕ)) (ending : Ending) → traffic framing (body_items pieces ending) ≡ map byte (items_wire framing (body_items pieces ending))
body_traffic framing [] ending = ending_traffic framing ending
body_traffic framing (bytes ∷ pieces) ending =
    ap (λ t. map byte (item_wire framing (piece bytes false)) ++ t) (body_traffic framing pieces ending)
    ∙ sym (map-append byte (item_wire framing (piece bytes false)) (items_wire framing (body_items pieces ending)))

request_traffic : (q : OutRequest) → traffic q.framing (out_items q) ≡ opens ∷ map byte (out_wire q)
request_traffic q =
    ap (λ t. opens ∷ map byte (item_wire q.framing (out.head q.head)) ++ t) (body_traffic q.framing q.pieces q.ending)
    ∙ ap (λ t. opens ∷ t) (sym (map-append byte (item_wire q.framing (out.head q.head)) (items_wire q.framing (body_items q.pieces q.ending))))

pub one_request : OneRequestGoesUp
one_request n x y hub after deeds came q is lives framed front = by_over (is_over x) refl
  where
    made : Grows n q.framing came hub y after → GoesUpOnce q came (is_over y) (up_traffic n hub.sent) (up_traffic n after.sent)
    made g =
        let whole : traffic q.framing came ++ traffic q.framing front.0 ≡ opens ∷ map byte (out_wire q)
        = sym (traffic_join q.framing came front.0) ∙ (ap (traffic q.framing) front.1 ∙ request_traffic q) in
        record {
          went = g.went;
          adds = g.adds;
          front = (
            g.front.0 ++ traffic q.framing front.0,
            sym (append_assoc g.went g.front.0 (traffic q.framing front.0)) ∙ (ap (λ t. t ++ traffic q.framing front.0) g.front.1 ∙ whole),
          );
          all = g.all;
          whole = λ live all_came. g.all live ∙ (ap (traffic q.framing) all_came ∙ request_traffic q);
          read_back = λ ended readable suits. request_read_back q.framing q.head q.pieces q.ending ended readable suits;
        }

    by_over : (b : Bool) → is_over x ≡ b → GoesUpOnce q came (is_over y) (up_traffic n hub.sent) (up_traffic n after.sent)
    by_over true over = made (none_grows n q.framing came hub y after (no_more n deeds x y hub after came is over lives))
    by_over false live = made (grows n q.framing deeds x y hub after came is (sym framed) live lives)
