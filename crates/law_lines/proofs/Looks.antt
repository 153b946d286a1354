-- What becomes of the line of a number by what brings no item.
use Rattle.std.proofs.Common.{◌≡◌, ◌⊎◌, inl, inr, ℕ, ◌==◌, Bool, true, false, cond, List, [], ◌∷◌, ◌++◌, map, refl, ap, ◌∙◌, sym, subst}
use Rattle.std.proofs.lemmas.Bool.Decides.{eqb_tells}
use Rattle.std.proofs.lemmas.Grind.{flat_map-append}
use Rattle.std.proofs.lemmas.List.{append-nil, append_assoc}
use Rattle.std.specs.Prelude.{Option, None, Some, is_some, slice_get, slice_set, find, if◌then◌else◌}
use Rattle.exchange.specs.declared.types.Exchange.{Exchange}
use Rattle.exchange.specs.declared.types.Hub.{Hub}
use Rattle.law_exchange.specs.Ends.{IsOwn}
use Rattle.exchange.specs.Answering.{with_held}
use Rattle.exchange.specs.Leaving.{request_framing}
use Rattle.exchange.specs.Passing.{chain_of, with_chain, finish_put}
use Rattle.law_exchange.specs.Lives.{Deed, comes, responds, acts, resumes, closes, answers, dies, refuses, expires, turns, done_by, is_over, IsKin}
use Rattle.law_exchange.specs.Own.{IsOn, AreOn, SendsOn}
use Rattle.law_exchange.specs.Responses.{IsKinDown, down_bytes, down_of, response_in, responses_in}
use Rattle.law_exchange.specs.Traffic.{Traffic, opens, byte, up_traffic, up_of}
use Rattle.law_exchange.proofs.Ends.{nothing_follows_end}
use Rattle.law_exchange.proofs.Own.{own_line}
use Rattle.law_exchange.proofs.Traffic.{ups_join}
use Rattle.exchange.specs.declared.types.Filter.{Filter}
use Rattle.filter_chain.specs.Chains.{asked}
use Rattle.filter_chain.specs.declared.item.ChainItem.{ChainItem}
use Rattle.filter_chain.specs.declared.item.PassOutcome.TheVariants as passed
use Rattle.gate_io.specs.declared.event.Sent.{Sent}
use Rattle.gate_io.specs.declared.event.Sent.TheVariants as to
use Rattle.gate_io.specs.declared.event.Side.TheVariants.{Down, Up}
use Rattle.worker_model.specs.declared.types.Line.{Line}
use Rattle.worker_model.specs.Rooms.{Changes, with_marks, in_exchange, in_line, at_some, at_place, all_lines}
use Rattle.worker_model.specs.Steps.{with_filter, change_line, change_exchange, line_at, line_at_place, in_place, line_in}
use Rattle.law_lines.specs.Clients.{client_traffic, client_of}
use Rattle.law_lines.specs.Living.{request_in, requests_in, IsFairly, LivesBy}
use Rattle.law_lines.proofs.Finding.{Seeks, missing, first, seeks, IsOnce, set_other, only_found, set_once, set_there}
use Rattle.law_lines.proofs.Kept.{Kept, Staid, over_told, put_in_kept, acts_kept, resumes_kept, closed_kept, answer_kept, dies_kept, refused_kept, expires_kept}
use Rattle.law_lines.proofs.Phases.{Phase, run, IsSound}
use Rattle.law_lines.proofs.Upward.{Keeps, keeps_then, still_keeps, aside_still, Onward, own_goes}

-- ---- lines by their numbers

abbrev pub is_n : ℕ → Line → Bool
is_n n line = line.number == n

abbrev pub look : ℕ → List Line → Option Line
look n lines = find (is_n n) lines

pub line_in_is : (n : ℕ) (lines : List Line) → line_in n lines ≡ look n lines
line_in_is n lines = by_seek (seeks (is_n n) lines)
  where
    by_seek : Seeks (is_n n) lines → line_in n lines ≡ look n lines
    by_seek (missing at none) = ap (in_place lines) at ∙ sym none
    by_seek (first k l at there passes found) = ap (in_place lines) at ∙ (there ∙ sym found)

pub equal_by : (a b : ℕ) → (a == b) ≡ true → a ≡ b
equal_by a b is = by_test (eqb_tells a b)
  where
    by_test : (((a == b) ≡ true) × (a ≡ b)) ⊎ (((a == b) ≡ false) × (a ≡ b → ⊥)) → a ≡ b
    by_test (inl e) = e.1
    by_test (inr e) = absurd (cc)

pub equal_is : (a b : ℕ) → a ≡ b → (a == b) ≡ true
equal_is a b is = by_test (eqb_tells a b)
  where
    by_test : (((a == b) ≡ true) × (a ≡ b)) ⊎ (((a == b) ≡ false) × (a ≡ b → ⊥)) → (a == b) ≡ true
    by_test (inl e) = e.0
    by_test (inr e) = absurd (e.1 is)

pub other_is : (a b : ℕ) → (a ≡ b → ⊥) → (a == b) ≡ false
other_is a b is = by_test (eqb_tells a b)
  where
    by_test : (((a == b) ≡ true) × (a ≡ b)) ⊎ (((a == b) ≡ false) × (a ≡ b → ⊥)) → (a == b) ≡ false
    by_test (inl e) = absurd (is e.1)
    by_test (inr e) = e.0

pub other_by : (a b : ℕ) → (a == b) ≡ false → a ≡ b → ⊥
other_by a b is same = let e : (a == b) ≡ true = equal_is a b same in absurd (cc)

-- ---- beside the line

-- nothing is sent on the line
pub record Beside (n : ℕ) (hub after : Hub) : Type 0 where
  pub up : up_traffic n after.sent ≡ up_traffic n hub.sent
  pub down : down_bytes n after.sent ≡ down_bytes n hub.sent
  pub client : client_traffic n after.sent ≡ client_traffic n hub.sent

pub beside_itself : (n : ℕ) (hub : Hub) → Beside n hub hub
beside_itself n hub = record { up = refl; down = refl; client = refl }

pub beside_then : (n : ℕ) (hub mid after : Hub) → Beside n hub mid → Beside n mid after → Beside n hub after
beside_then n hub mid after a b = record { up = b.up ∙ a.up; down = b.down ∙ a.down; client = b.client ∙ a.client }

pub none_up : (n m : ℕ) (more : List Sent) → (m == n) ≡ false → AreOn m more → up_traffic n more ≡ []
none_up n m [] other on = refl
none_up n m (s ∷ more) other on = (λ i. one s on.0 i ++ none_up n m more other on.1 i)
  where
    swapped : (k : ℕ) → k ≡ m → (n == k) ≡ false
    swapped k is = other_is n k (λ e. other_by m n other (sym is ∙ sym e))

    one : (s : Sent) → IsOn m s → up_of n s ≡ []
    one (to.Connect k) is = ap (λ b. if b then opens ∷ [] else []) (swapped k is)
    one (to.Bytes k Down bytes) is = refl
    one (to.Bytes k Up bytes) is = ap (λ b. if b then map byte bytes else []) (swapped k is)
    one (to.Close k side) is = absurd is
    one (to.Log level text) is = absurd is

none_down : (n m : ℕ) (more : List Sent) → (m == n) ≡ false → AreOn m more → down_bytes n more ≡ []
none_down n m [] other on = refl
none_down n m (s ∷ more) other on = (λ i. one s on.0 i ++ none_down n m more other on.1 i)
  where
    swapped : (k : ℕ) → k ≡ m → (n == k) ≡ false
    swapped k is = other_is n k (λ e. other_by m n other (sym is ∙ sym e))

    one : (s : Sent) → IsOn m s → down_of n s ≡ []
    one (to.Connect k) is = refl
    one (to.Bytes k Down bytes) is = ap (λ b. if b then bytes else []) (swapped k is)
    one (to.Bytes k Up bytes) is = refl
    one (to.Close k side) is = absurd is
    one (to.Log level text) is = absurd is

none_client : (n m : ℕ) (more : List Sent) → (m == n) ≡ false → AreOn m more → client_traffic n more ≡ []
none_client n m [] other on = refl
none_client n m (s ∷ more) other on = (λ i. one s on.0 i ++ none_client n m more other on.1 i)
  where
    swapped : (k : ℕ) → k ≡ m → (n == k) ≡ false
    swapped k is = other_is n k (λ e. other_by m n other (sym is ∙ sym e))

    one : (s : Sent) → IsOn m s → client_of n s ≡ []
    one (to.Connect k) is = refl
    one (to.Bytes k Down bytes) is = ap (λ b. if b then map byte bytes else []) (swapped k is)
    one (to.Bytes k Up bytes) is = refl
    one (to.Close k side) is = absurd is
    one (to.Log level text) is = absurd is

-- what is sent on another line
pub sends_beside : (n m : ℕ) (hub after : Hub) → (m == n) ≡ false → SendsOn m hub after → Beside n hub after
sends_beside n m hub after other s = record {
  up = ap (up_traffic n) s.adds ∙ (ups_join n hub.sent s.more ∙ (ap (λ t. up_traffic n hub.sent ++ t) (none_up n m s.more other s.own) ∙ append-nil (up_traffic n hub.sent)));
  down = ap (down_bytes n) s.adds ∙ (flat_map-append (down_of n) hub.sent s.more ∙ (ap (λ t. down_bytes n hub.sent ++ t) (none_down n m s.more other s.own) ∙ append-nil (down_bytes n hub.sent)));
  client = ap (client_traffic n) s.adds ∙ (flat_map-append (client_of n) hub.sent s.more ∙ (ap (λ t. client_traffic n hub.sent ++ t) (none_client n m s.more other s.own) ∙ append-nil (client_traffic n hub.sent)));
}

-- ---- an exchange lives on

abbrev pub IsPlain : Exchange → Type 0
IsPlain x = (x.filters ≡ []) × (x.request ≡ []) × (x.response ≡ [])

pub lives_join : (dn : Bool) (n : ℕ) (a b : List Deed) (x y z : Exchange) (hub mid after : Hub) → LivesBy dn n x hub a y mid → LivesBy dn n y mid b z after
    → LivesBy dn n x hub (a ++ b) z after
lives_join dn n [] b x y z hub mid after former later =
    subst (λ (p : Exchange × Hub). LivesBy dn n p.0 p.1 b z after) (λ i. (former.0 i, former.1 i)) later
lives_join dn n (d ∷ a) b x y z hub mid after former later = (former.0, lives_join dn n a b (done_by n d x hub).0 y z (done_by n d x hub).1 mid after former.1 later)

-- it becomes the other without an item
pub record LivesOn (n : ℕ) (x : Exchange) (hub : Hub) (y : Exchange) (after : Hub) : Type 0 where
  pub deeds : List Deed
  pub plain : IsPlain y
  pub lives : (dn : Bool) → LivesBy dn n x hub deeds y after
  pub no_request : requests_in deeds ≡ []
  pub no_response : responses_in deeds ≡ []
  pub ended : x.has_ended ≡ true → y.has_ended ≡ true
  pub told : y.is_answered ≡ false → y.has_ended ≡ false → (x.is_answered ≡ false) × (x.has_ended ≡ false) × (y.told ≡ x.told)
  pub opened : is_some x.reader ≡ true → is_some y.reader ≡ true

-- an own deed that brings no item
abbrev pub BringsNone : Deed → Type 0
BringsNone (comes items) = ⊥
BringsNone (responds items) = ⊥
BringsNone (acts response k value) = Unit {0}
BringsNone (resumes vm context response) = Unit {0}
BringsNone closes = Unit {0}
BringsNone (answers shut status fields body) = Unit {0}
BringsNone (dies vm) = Unit {0}
BringsNone (refuses status) = Unit {0}
BringsNone expires = Unit {0}
BringsNone (turns y hub) = ⊥

-- WHAT BECAME OF IT, thing by thing: something was sent that is not of its line; it did a deed of its own that brings no item; a stage of it was asked; too
-- much waited in a stage; the context of a filter was made
pub data Went (n : ℕ) : Exchange → Hub → Exchange → Hub → Type 0 where
  goes_aside : (x : Exchange) (hub after : Hub) → Beside n hub after → Went n x hub x after
  does_so : (deed : Deed) (x : Exchange) (hub : Hub) → BringsNone deed → Went n x hub (done_by n deed x hub).0 (done_by n deed x hub).1
  is_asked : (response : Bool) (x : Exchange) (hub : Hub)
      → Went n x hub (with_chain response (asked hub.contexts (chain_of response x)).1 x) (with_held (asked hub.contexts (chain_of response x)).2 hub)
  has_too_much : (response : Bool) (x : Exchange) (hub : Hub) → x.has_ended ≡ false → Went n x hub (finish_put response n passed.Over x hub).0 (finish_put response n passed.Over x hub).1
  has_filter : (k : ℕ) (f : Filter) (x : Exchange) (hub : Hub) → Went n x hub (with_filter k f x) hub
  goes_then : (x y z : Exchange) (hub mid after : Hub) → Went n x hub y mid → Went n y mid z after → Went n x hub z after

pub record Quietly (n : ℕ) (x : Exchange) (hub : Hub) (y : Exchange) (after : Hub) : Type 0 where
  pub more : List Traffic
  pub grows : up_traffic n after.sent ≡ up_traffic n hub.sent ++ more
  pub asked : y.asked ≡ x.asked
  pub place : y.place ≡ x.place
  pub staid : Staid x → Staid y
  pub filtered : y.filters ≡ [] → x.filters ≡ []
  pub entered : y.is_entered ≡ x.is_entered
  pub framed : request_framing y ≡ request_framing x
  pub over : is_over x ≡ true → is_over y ≡ true
  pub keeps : Keeps n (x, hub) (y, after)
  pub how : Went n x hub y after
  pub plain : IsPlain x → LivesOn n x hub y after

itself_kin : (x : Exchange) → IsPlain x → IsKin x x
itself_kin x p = record { unfiltered = p.1; framed = refl; stays_over = λ o. o }

never : (b : Bool) → b ≡ false → b ≡ true → {A : Type 0} → A
never b here there = absurd (cc)

itself_kin_down : (x : Exchange) → IsPlain x → IsKinDown x x
itself_kin_down x p = record {
  request = p.1;
  response = p.2;
  head = refl;
  answered = refl;
  method = refl;
  version = refl;
  framed = λ o. refl;
  stays = λ o r. refl;
  ended = λ e. (e, refl);
  ends = λ runs e. never x.has_ended runs e;
}

pub aside : (n : ℕ) (x : Exchange) (hub after : Hub) → Beside n hub after → Quietly n x hub x after
aside n x hub after b = record {
  more = [];
  grows = b.up ∙ sym (append-nil (up_traffic n hub.sent));
  asked = refl;
  place = refl;
  staid = λ s. s;
  filtered = λ e. e;
  entered = refl;
  framed = refl;
  over = λ o. o;
  keeps = still_keeps n (x, hub) (x, after) (aside_still n x hub after b.up);
  how = goes_aside x hub after b;
  plain = λ p. record {
    deeds = turns x after ∷ [];
    plain = p;
    lives = λ dn. (((itself_kin x p, b.up), (λ e. (itself_kin_down x p, b.down))), (refl, refl));
    no_request = refl;
    no_response = refl;
    ended = λ e. e;
    told = λ a e. (a, e, refl);
    opened = λ o. o;
  };
}

requests_join : (a b : List Deed) → requests_in a ≡ [] → requests_in b ≡ [] → requests_in (a ++ b) ≡ []
requests_join a b e f = flat_map-append request_in a b ∙ (λ i. e i ++ f i)

responses_join : (a b : List Deed) → responses_in a ≡ [] → responses_in b ≡ [] → responses_in (a ++ b) ≡ []
responses_join a b e f = flat_map-append response_in a b ∙ (λ i. e i ++ f i)

pub quietly_then : (n : ℕ) (x y z : Exchange) (hub mid after : Hub) → Quietly n x hub y mid → Quietly n y mid z after → Quietly n x hub z after
quietly_then n x y z hub mid after a b = record {
  more = a.more ++ b.more;
  grows = b.grows ∙ (ap (λ t. t ++ b.more) a.grows ∙ append_assoc (up_traffic n hub.sent) a.more b.more);
  asked = b.asked ∙ a.asked;
  place = b.place ∙ a.place;
  staid = λ s. b.staid (a.staid s);
  filtered = λ e. a.filtered (b.filtered e);
  entered = b.entered ∙ a.entered;
  framed = b.framed ∙ a.framed;
  over = λ o. b.over (a.over o);
  keeps = keeps_then n (x, hub) (y, mid) (z, after) a.keeps b.keeps;
  how = goes_then x y z hub mid after a.how b.how;
  plain = λ p. let former : LivesOn n x hub y mid = a.plain p in let later : LivesOn n y mid z after = b.plain former.plain in record {
    deeds = former.deeds ++ later.deeds;
    plain = later.plain;
    lives = λ dn. lives_join dn n former.deeds later.deeds x y z hub mid after (former.lives dn) (later.lives dn);
    no_request = requests_join former.deeds later.deeds former.no_request later.no_request;
    no_response = responses_join former.deeds later.deeds former.no_response later.no_response;
    ended = λ e. later.ended (former.ended e);
    told = λ o e. let l = later.told o e in let f = former.told l.0 l.1 in (f.0, f.1, l.2 ∙ f.2);
    opened = λ o. later.opened (former.opened o);
  };
}

-- ---- its own deeds

pub kept_by : (n : ℕ) (deed : Deed) (x : Exchange) (hub : Hub) → IsOwn deed → Kept x (done_by n deed x hub).0
kept_by n (comes items) x hub own = put_in_kept false items n x hub
kept_by n (responds items) x hub own = put_in_kept true items n x hub
kept_by n (acts response k value) x hub own = acts_kept response k value n x hub
kept_by n (resumes vm context response) x hub own = resumes_kept vm context response n x hub
kept_by n closes x hub own = closed_kept n x hub
kept_by n (answers shut status fields body) x hub own = answer_kept n shut status fields body x hub
kept_by n (dies vm) x hub own = dies_kept vm n x hub
kept_by n (refuses status) x hub own = refused_kept status n x hub
kept_by n expires x hub own = expires_kept n x hub
kept_by n (turns y after) x hub own = absurd own

record Brings (n : ℕ) (deed : Deed) (x : Exchange) (hub : Hub) : Type 0 where
  own : IsOwn deed
  fair : (dn : Bool) → IsFairly dn n deed x hub
  no_request : request_in deed ≡ []
  no_response : response_in deed ≡ []

brings_none : (n : ℕ) (deed : Deed) (x : Exchange) (hub : Hub) → BringsNone deed → Brings n deed x hub
brings_none n (comes items) x hub is = absurd is
brings_none n (responds items) x hub is = absurd is
brings_none n (acts response k value) x hub is = record { own = tt; fair = λ dn. (tt, λ e. tt); no_request = refl; no_response = refl }
brings_none n (resumes vm context response) x hub is = record { own = tt; fair = λ dn. (tt, λ e. tt); no_request = refl; no_response = refl }
brings_none n closes x hub is = record { own = tt; fair = λ dn. (tt, λ e. tt); no_request = refl; no_response = refl }
brings_none n (answers shut status fields body) x hub is = record { own = tt; fair = λ dn. (tt, λ e. tt); no_request = refl; no_response = refl }
brings_none n (dies vm) x hub is = record { own = tt; fair = λ dn. (tt, λ e. tt); no_request = refl; no_response = refl }
brings_none n (refuses status) x hub is = record { own = tt; fair = λ dn. (tt, λ e. tt); no_request = refl; no_response = refl }
brings_none n expires x hub is = record { own = tt; fair = λ dn. (tt, λ e. tt); no_request = refl; no_response = refl }
brings_none n (turns y after) x hub is = absurd is

pub plain_kept : (x y : Exchange) → Kept x y → IsPlain x → IsPlain y
plain_kept x y k p = (k.filters ∙ p.0, k.request p.1, k.response p.2)

pub quiet_deed : (n : ℕ) (deed : Deed) (x : Exchange) (hub : Hub) → BringsNone deed → Quietly n x hub (done_by n deed x hub).0 (done_by n deed x hub).1
quiet_deed n deed x hub is =
    let b : Brings n deed x hub = brings_none n deed x hub is in
    let k : Kept x (done_by n deed x hub).0 = kept_by n deed x hub b.own in
    let s : SendsOn n hub (done_by n deed x hub).1 = own_line n deed x hub b.own in
    record {
      more = up_traffic n s.more;
      grows = ap (up_traffic n) s.adds ∙ ups_join n hub.sent s.more;
      asked = k.asked;
      place = k.place;
      staid = k.staid;
      filtered = λ e. sym k.filters ∙ e;
      entered = k.entered;
      framed = k.framed;
      over = over_told x (done_by n deed x hub).0 k.told;
      keeps = λ t i u.
          subst (λ (j : Phase). Onward n hub (done_by n deed x hub) t j) (ap (run i) b.no_request) (own_goes n deed x hub t i b.own u (subst (λ (l : List ChainItem). IsSound (run i l)) (sym b.no_request) u.sound));
      how = does_so deed x hub is;
      plain = λ p. record {
        deeds = deed ∷ [];
        plain = plain_kept x (done_by n deed x hub).0 k p;
        lives = λ dn. (b.fair dn, (refl, refl));
        no_request = append-nil (request_in deed) ∙ b.no_request;
        no_response = append-nil (response_in deed) ∙ b.no_response;
        ended = λ e. ap (λ (z : Exchange). z.has_ended) (nothing_follows_end n deed x hub b.own e).same ∙ e;
        told = k.told;
        opened = k.opened;
      };
    }

-- ---- the line of the number, before and behind

abbrev pub Exs : ℕ → Option Exchange → Hub → Option Exchange → Hub → Type 0
Exs n None hub None after = Beside n hub after
Exs n None hub (Some y) after = ⊥
Exs n (Some x) hub None after = ⊥
Exs n (Some x) hub (Some y) after = Quietly n x hub y after

-- its text is as before
abbrev pub Looks : ℕ → Option Line → Hub → Option Line → Hub → Type 0
Looks n None hub None after = Beside n hub after
Looks n None hub (Some m) after = ⊥
Looks n (Some l) hub None after = ⊥
Looks n (Some l) hub (Some m) after = (m.requests ≡ l.requests) × (m.is_gone ≡ l.is_gone) × Exs n l.exchange hub m.exchange after

exs_aside : (n : ℕ) (o : Option Exchange) (hub after : Hub) → Beside n hub after → Exs n o hub o after
exs_aside n None hub after b = b
exs_aside n (Some x) hub after b = aside n x hub after b

exs_then : (n : ℕ) (o p q : Option Exchange) (hub mid after : Hub) → Exs n o hub p mid → Exs n p mid q after → Exs n o hub q after
exs_then n None None None hub mid after a b = beside_then n hub mid after a b
exs_then n None None (Some z) hub mid after a b = b
exs_then n None (Some y) q hub mid after a b = absurd a
exs_then n (Some x) None q hub mid after a b = absurd a
exs_then n (Some x) (Some y) None hub mid after a b = b
exs_then n (Some x) (Some y) (Some z) hub mid after a b = quietly_then n x y z hub mid after a b

pub looks_aside : (n : ℕ) (o : Option Line) (hub after : Hub) → Beside n hub after → Looks n o hub o after
looks_aside n None hub after b = b
looks_aside n (Some l) hub after b = (refl, refl, exs_aside n l.exchange hub after b)

looks_then : (n : ℕ) (o p q : Option Line) (hub mid after : Hub) → Looks n o hub p mid → Looks n p mid q after → Looks n o hub q after
looks_then n None None None hub mid after a b = beside_then n hub mid after a b
looks_then n None None (Some z) hub mid after a b = b
looks_then n None (Some y) q hub mid after a b = absurd a
looks_then n (Some x) None q hub mid after a b = absurd a
looks_then n (Some x) (Some y) None hub mid after a b = b
looks_then n (Some x) (Some y) (Some z) hub mid after a b = (b.0 ∙ a.0, b.1 ∙ a.1, exs_then n x.exchange y.exchange z.exchange hub mid after a.2 b.2)

-- ---- all lines

-- one line of a number at most; and of that the above
pub record Still (n : ℕ) (lines : List Line) (hub : Hub) (later : List Line) (after : Hub) : Type 0 where
  pub once : IsOnce (is_n n) later
  pub looks : Looks n (look n lines) hub (look n later) after

pub still_aside : (n : ℕ) (lines : List Line) (hub after : Hub) → IsOnce (is_n n) lines → Beside n hub after → Still n lines hub lines after
still_aside n lines hub after once b = record { once = once; looks = looks_aside n (look n lines) hub after b }

pub still_then : (n : ℕ) (a b c : List Line) (hub mid after : Hub) → Still n a hub b mid → Still n b mid c after → Still n a hub c after
still_then n a b c hub mid after p q = record { once = q.once; looks = looks_then n (look n a) (look n b) (look n c) hub mid after p.looks q.looks }

-- a line that changes by itself
pub record LineGoes (n : ℕ) (l : Line) (hub : Hub) (m : Line) (after : Hub) : Type 0 where
  pub number : m.number ≡ l.number
  pub on : (l.number == n) ≡ true → Looks n (Some l) hub (Some m) after
  pub off : (l.number == n) ≡ false → Beside n hub after

pub set_still : (n : ℕ) (lines : List Line) (k : ℕ) (l m : Line) (hub after : Hub) → IsOnce (is_n n) lines → slice_get lines k ≡ Some l → LineGoes n l hub m after
    → Still n lines hub (slice_set lines k m) after
set_still n lines k l m hub after once there goes = by_test (l.number == n) refl
  where
    alike : is_n n m ≡ is_n n l
    alike = ap (λ (a : ℕ). a == n) goes.number

    later : IsOnce (is_n n) (slice_set lines k m)
    later = set_once (is_n n) lines k l m once there alike

    by_test : (b : Bool) → (l.number == n) ≡ b → Still n lines hub (slice_set lines k m) after
    by_test true is =
        let before : look n lines ≡ Some l = only_found (is_n n) lines k l once there is in
        let behind : look n (slice_set lines k m) ≡ Some m = only_found (is_n n) (slice_set lines k m) k m later (set_there lines k l m there) (alike ∙ is) in
        record { once = later; looks = subst (λ (o : Option Line). Looks n o hub (look n (slice_set lines k m)) after) (sym before) (subst (λ (o : Option Line). Looks n (Some l) hub o after) (sym behind) (goes.on is)) }
    by_test false is =
        let same : look n (slice_set lines k m) ≡ look n lines = set_other (is_n n) lines k l m there is (alike ∙ is) in
        record { once = later; looks = subst (λ (o : Option Line). Looks n (look n lines) hub o after) (sym same) (looks_aside n (look n lines) hub after (goes.off is)) }

-- what is done to an exchange without an item
pub record Does (change : Changes) : Type 0 where
  pub on : (n : ℕ) (x : Exchange) (hub : Hub) → Quietly n x hub (change n x hub).0 (change n x hub).1
  pub off : (n m : ℕ) (x : Exchange) (hub : Hub) → (m == n) ≡ false → Beside n hub (change m x hub).1

-- by a deed
pub does_deed : (change : Changes) (deed : Deed) → BringsNone deed → ((m : ℕ) (x : Exchange) (hub : Hub) → done_by m deed x hub ≡ change m x hub) → Does change
does_deed change deed brings is = record {
  on = λ n x hub. subst (λ (q : Exchange × Hub). Quietly n x hub q.0 q.1) (is n x hub) (quiet_deed n deed x hub brings);
  off = λ n m x hub other. subst (λ (q : Exchange × Hub). Beside n hub q.1) (is m x hub)
      (sends_beside n m hub (done_by m deed x hub).1 other (own_line m deed x hub (brings_none m deed x hub brings).own));
}

-- and then marked
marked_goes : (n : ℕ) (change : Changes) (l : Line) (o : Option Exchange) (hub : Hub) → l.exchange ≡ o → Does change
    → LineGoes n l hub (in_exchange change l o hub).0 (in_exchange change l o hub).1
marked_goes n change l None hub there does = record { number = refl; on = λ e. looks_aside n (Some l) hub hub (beside_itself n hub); off = λ e. beside_itself n hub }
marked_goes n change l (Some x) hub there does = record {
  number = refl;
  on = λ e. (
    refl,
    refl,
    subst (λ (o : Option Exchange). Exs n o hub (Some (change l.number x hub).0) (with_marks (change l.number x hub)).1) (sym there)
        (subst (λ (m : ℕ). Quietly n x hub (change m x hub).0 (with_marks (change m x hub)).1) (sym (equal_by l.number n e)) on_n),
  );
  off = λ e. beside_then n hub (change l.number x hub).1 (with_marks (change l.number x hub)).1 (does.off n l.number x hub e) (record { up = refl; down = refl; client = refl });
}
  where
    on_n : Quietly n x hub (change n x hub).0 (with_marks (change n x hub)).1
    on_n = quietly_then n x (change n x hub).0 (change n x hub).0 hub (change n x hub).1 (with_marks (change n x hub)).1 (does.on n x hub)
        (aside n (change n x hub).0 (change n x hub).1 (with_marks (change n x hub)).1 (record { up = refl; down = refl; client = refl }))

pub line_goes : (n : ℕ) (change : Changes) (l : Line) (hub : Hub) → Does change → LineGoes n l hub (in_line change l hub).0 (in_line change l hub).1
line_goes n change l hub does = marked_goes n change l l.exchange hub refl does

-- at a place, whichever
pub place_still : (n : ℕ) (change : Changes) (lines : List Line) (o : Option ℕ) (hub : Hub) → IsOnce (is_n n) lines → Does change
    → Still n lines hub (at_place change lines o hub).0 (at_place change lines o hub).1
place_still n change lines None hub once does = still_aside n lines hub hub once (beside_itself n hub)
place_still n change lines (Some k) hub once does = by_line (slice_get lines k) refl
  where
    by_line : (o : Option Line) → slice_get lines k ≡ o → Still n lines hub (at_some change lines k o hub).0 (at_some change lines k o hub).1
    by_line None there = still_aside n lines hub hub once (beside_itself n hub)
    by_line (Some l) there = set_still n lines k l (in_line change l hub).0 hub (in_line change l hub).1 once there (line_goes n change l hub does)

-- on all of them
pub cons_still : (n : ℕ) (l m : Line) (lines later : List Line) (hub mid after : Hub) → IsOnce (is_n n) (l ∷ lines) → LineGoes n l hub m mid → Still n lines mid later after
    → Still n (l ∷ lines) hub (m ∷ later) after
cons_still n l m lines later hub mid after once goes rest = by_test (l.number == n) refl
  where
    alike : is_n n m ≡ is_n n l
    alike = ap (λ (a : ℕ). a == n) goes.number

    found_first : (k : Line) (ls : List Line) (b : Bool) → is_n n k ≡ b → look n (k ∷ ls) ≡ cond b (Some k) (look n ls)
    found_first k ls b is = ap (λ c. cond c (Some k) (look n ls)) is

    none_left : (o p : Option Line) → o ≡ None → Looks n o mid p after → (p ≡ None) × Beside n mid after
    none_left None None is looks = (refl, looks)
    none_left None (Some k) is looks = absurd looks
    none_left (Some k) p is looks = absurd (cc)

    by_test : (b : Bool) → (l.number == n) ≡ b → Still n (l ∷ lines) hub (m ∷ later) after
    by_test true is =
        let left = none_left (look n lines) (look n later) (once.0 is) rest.looks in
        record {
          once = (λ e. left.0, rest.once);
          looks = subst (λ (o : Option Line). Looks n o hub (look n (m ∷ later)) after) (sym (found_first l lines true is)) (subst (λ (o : Option Line). Looks n (Some l) hub o after) (sym (found_first m later true (alike ∙ is)))
              (looks_then n (Some l) (Some m) (Some m) hub mid after (goes.on is) (looks_aside n (Some m) mid after left.1)));
        }
    by_test false is =
        record {
          once = (λ e. never (is_n n m) (alike ∙ is) e, rest.once);
          looks = subst (λ (o : Option Line). Looks n o hub (look n (m ∷ later)) after) (sym (found_first l lines false is)) (subst (λ (o : Option Line). Looks n (look n lines) hub o after) (sym (found_first m later false (alike ∙ is)))
              (looks_then n (look n lines) (look n lines) (look n later) hub mid after (looks_aside n (look n lines) hub mid (goes.off is)) rest.looks));
        }

pub all_still : (n : ℕ) (change : Changes) (lines : List Line) (hub : Hub) → IsOnce (is_n n) lines → Does change
    → Still n lines hub (all_lines change lines hub).0 (all_lines change lines hub).1
all_still n change [] hub once does = still_aside n [] hub hub once (beside_itself n hub)
all_still n change (l ∷ lines) hub once does =
    let p : Line × Hub = in_line change l hub in
    let q : List Line × Hub = all_lines change lines p.1 in
    cons_still n l p.0 lines q.0 hub p.1 q.1 once (line_goes n change l hub does) (all_still n change lines p.1 once.1 does)

-- ---- what is noted of an exchange

pub note_goes : (n : ℕ) (g : Exchange → Exchange) (l : Line) (hub : Hub) → ((x : Exchange) → Quietly n x hub (g x) hub) → LineGoes n l hub (change_line g l) hub
note_goes n g l hub quiet = by_exchange l.exchange refl
  where
    by_exchange : (o : Option Exchange) → l.exchange ≡ o → LineGoes n l hub (change_exchange g l o) hub
    by_exchange None there = record { number = refl; on = λ e. looks_aside n (Some l) hub hub (beside_itself n hub); off = λ e. beside_itself n hub }
    by_exchange (Some x) there = record {
      number = refl;
      on = λ e. (refl, refl, subst (λ (o : Option Exchange). Exs n o hub (Some (g x)) hub) (sym there) (quiet x));
      off = λ e. beside_itself n hub;
    }

pub note_still : (n : ℕ) (g : Exchange → Exchange) (lines : List Line) (o : Option ℕ) (hub : Hub) → IsOnce (is_n n) lines → ((x : Exchange) → Quietly n x hub (g x) hub)
    → Still n lines hub (line_at_place (change_line g) lines o) hub
note_still n g lines None hub once quiet = still_aside n lines hub hub once (beside_itself n hub)
note_still n g lines (Some k) hub once quiet = by_line (slice_get lines k) refl
  where
    by_line : (o : Option Line) → slice_get lines k ≡ o → Still n lines hub (line_at (change_line g) lines k o) hub
    by_line None there = still_aside n lines hub hub once (beside_itself n hub)
    by_line (Some l) there = set_still n lines k l (change_line g l) hub hub once there (note_goes n g l hub quiet)
