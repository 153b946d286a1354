-- Why a death cuts an exchange short, or lets its stages through.
use Rattle.std.proofs.Common.{◌≡◌, ℕ, zero, suc, ◌==◌, Bool, true, false, not, ◌||◌, List, [], ◌∷◌, ◌++◌, length, ap, ◌∙◌, sym, refl, subst, ⊎_elim}
use Rattle.std.specs.Prelude.{Option, None, Some, slice_get, if◌then◌else◌}
use Rattle.std.proofs.lemmas.Bool.{cases_eq}
use Rattle.std.proofs.lemmas.List.{append-nil}
use Rattle.contexts.specs.declared.parts.Contexts.{Contexts}
use Rattle.contexts.specs.Stages.{without_buffer, let_go}
use Rattle.contexts.specs.Holding.{IsThere, IsOther}
use Rattle.contexts.proofs.Holding.{holds_its_own}
use Rattle.exchange.specs.declared.types.Exchange.{Exchange}
use Rattle.exchange.specs.declared.types.Hub.{Hub}
use Rattle.exchange.specs.Answering.{with_held, none_held, answer_directly}
use Rattle.exchange.specs.Heads.{is_final}
use Rattle.exchange.specs.Passing.{chain_of, with_chain, fails_closed, bypass_vm_at, bypass_vm_stages, bypass_vm, bypass, lose_vm}
use Rattle.filter_chain.specs.declared.item.ChainItem.{ChainItem}
use Rattle.filter_chain.specs.declared.item.PassOutcome.{PassOutcome}
use Rattle.filter_chain.specs.declared.item.PassOutcome.TheVariants as passed
use Rattle.filter_chain.specs.declared.stage.Stage.{Stage}
use Rattle.filter_chain.specs.Flow.{left_in}
use Rattle.filter_chain.specs.Chains.{bytes_at, without_buffers, bypassed_stage, let_through, with_more}
use Rattle.law_chain.specs.Acts.{HoldSame, AreThere, unless_at}
use Rattle.law_chain.specs.Acts as at_chain
use Rattle.law_chain.proofs.Alike.{AreSame, same_all, goes_same}
use Rattle.law_chain.proofs.Holding.{all_there}
use Rattle.law_chain.proofs.Steps.{through_to, through_items, through_is}
use Rattle.law_chain.proofs.Targets.{by_bool, ahead, comes_in, goes_in}
use Rattle.law_body.specs.Deaths.{HoldNothing, AreDropped, DroppingDrops, IsCutShort, vm_at, lets_at, lets_of, PassFrom, MayLet, between, CutIsAnothers, request_death, response_death, IsDeath, DeathsAreDeeds, DeathsPass}
use Rattle.law_body.specs.Apart.{AreAliens}
use Rattle.law_body.specs.Deeds.{Deed, lets, turns, Running, standing_of, done_by, items_put, IsDeed, AreDeeds, done_all}
use Rattle.law_body.proofs.Apart.{Holds, same, next, Chained, lets as lets_by}
use Rattle.law_body.proofs.Deeds.{deed_does, gives_is, passed_is}
use Rattle.law_body.proofs.Moved.{left_across, across_with}

-- ---- what is dropped

-- one of them was, and stays so whatever else is
still_nothing : (h : Contexts) (s t : Stage) → IsThere h t.vm t.context → bytes_at h s ≡ [] → bytes_at (without_buffer h t.vm t.context t.response) s ≡ []
still_nothing h s t there none =
    ⊎_elim
    (λ (vm : s.vm ≡ t.vm). ⊎_elim
    (λ (context : s.context ≡ t.context). by_response s.response refl t.response refl vm context)
    (λ (apart : s.context ≡ t.context → ⊥). other (λ _ context _. apart context))
    (cases_eq s.context t.context))
    (λ (apart : s.vm ≡ t.vm → ⊥). other (λ vm _ _. apart vm))
    (cases_eq s.vm t.vm)
  where
    other : IsOther t.vm t.context t.response s.vm s.context s.response → bytes_at (without_buffer h t.vm t.context t.response) s ≡ []
    other apart = holds_its_own.others let_go h t.vm t.context t.response s.vm s.context s.response there.0 apart ∙ none

    same : s.vm ≡ t.vm → s.context ≡ t.context → s.response ≡ t.response → bytes_at (without_buffer h t.vm t.context t.response) s ≡ []
    same vm context response =
        (λ i. bytes_at (without_buffer h t.vm t.context t.response) (record s { vm = vm i; context = context i; response = response i }))
        ∙ holds_its_own.emptied_here h t.vm t.context t.response there

    by_response : (a : Bool) → s.response ≡ a → (b : Bool) → t.response ≡ b → s.vm ≡ t.vm → s.context ≡ t.context → bytes_at (without_buffer h t.vm t.context t.response) s ≡ []
    by_response true is true it vm context = same vm context (is ∙ sym it)
    by_response false is false it vm context = same vm context (is ∙ sym it)
    by_response true is false it vm context = other (λ _ _ response. cc (sym is ∙ (response ∙ it)))
    by_response false is true it vm context = other (λ _ _ response. cc (sym is ∙ (response ∙ it)))

cleared_still : (h : Contexts) (s : Stage) (ts : List Stage) → AreThere h ts → bytes_at h s ≡ [] → bytes_at (without_buffers h ts) s ≡ []
cleared_still h s [] there none = none
cleared_still h s (t ∷ ts) there none =
    cleared_still (without_buffer h t.vm t.context t.response) s ts (all_there let_go h t.vm t.context t.response ts there.0 there.1) (still_nothing h s t there.0 none)

cleared_there : (h : Contexts) (ts ss : List Stage) → AreThere h ts → AreThere h ss → AreThere (without_buffers h ts) ss
cleared_there h [] ss there all = all
cleared_there h (t ∷ ts) ss there all =
    cleared_there (without_buffer h t.vm t.context t.response) ts ss (all_there let_go h t.vm t.context t.response ts there.0 there.1)
    (all_there let_go h t.vm t.context t.response ss there.0 all)

cleared_all : (h : Contexts) (ts : List Stage) → AreThere h ts → HoldNothing (without_buffers h ts) ts
cleared_all h [] there = tt
cleared_all h (t ∷ ts) there =
    let mid : Contexts = without_buffer h t.vm t.context t.response in
    let later : AreThere mid ts = all_there let_go h t.vm t.context t.response ts there.0 there.1 in
    (cleared_still mid t ts later (holds_its_own.emptied_here h t.vm t.context t.response there.0), cleared_all mid ts later)

still_all : (h : Contexts) (ss ts : List Stage) → AreThere h ts → HoldNothing h ss → HoldNothing (without_buffers h ts) ss
still_all h [] ts there none = tt
still_all h (s ∷ ss) ts there none = (cleared_still h s ts there none.0, still_all h ss ts there none.1)

pub dropping_drops : DroppingDrops
dropping_drops x hub request response =
    let mid : Contexts = without_buffers hub.contexts x.request in
    let there : AreThere mid x.response = cleared_there hub.contexts x.request x.response request response in
    record {
      requests = still_all mid x.request x.response there (cleared_all hub.contexts x.request request);
      responses = cleared_all mid x.response there;
    }

cut_short : (n : ℕ) (x : Exchange) (hub : Hub) → AreThere hub.contexts x.request → AreThere hub.contexts x.response
    → IsCutShort n x hub (answer_directly n 503 [] [] x hub).0 (answer_directly n 503 [] [] x hub).1
cut_short n x hub request response =
    let dropped : AreDropped x (none_held x hub).contexts = dropping_drops x hub request response in
    by_bool (λ (r : Exchange × Hub). IsCutShort n x hub r.0 r.1) (x.is_head_out || not (is_final 503)) _ _
    (λ is.
    record {
      ended = refl;
      request = refl;
      response = refl;
      requests = dropped.requests;
      responses = dropped.responses;
      answered = λ none. absurd (cc (sym is ∙ ap (λ (b : Bool). b || not (is_final 503)) none));
      silent = λ out. refl;
    })
    (λ is.
    record {
      ended = refl;
      request = refl;
      response = refl;
      requests = dropped.requests;
      responses = dropped.responses;
      answered = λ none. refl;
      silent = λ out. absurd (cc (sym is ∙ ap (λ (b : Bool). b || not (is_final 503)) out));
    })

closed_is : (n vm : ℕ) (x : Exchange) (hub : Hub) → x.has_ended ≡ false → fails_closed vm x ≡ true → lose_vm vm n x hub ≡ answer_directly n 503 [] [] x hub
closed_is n vm x hub runs closed = λ i. if runs i then (x, hub) else if closed i then answer_directly n 503 [] [] x hub else bypass_vm vm n x hub

open_is : (n vm : ℕ) (x : Exchange) (hub : Hub) → x.has_ended ≡ false → fails_closed vm x ≡ false → lose_vm vm n x hub ≡ bypass_vm vm n x hub
open_is n vm x hub runs fair = λ i. if runs i then (x, hub) else if fair i then answer_directly n 503 [] [] x hub else bypass_vm vm n x hub

-- ---- what is let through

pub same_next : (ss ts us : List Stage) → AreSame ss ts → AreSame ts us → AreSame ss us
same_next [] [] [] one two = tt
same_next [] [] (u ∷ us) one two = absurd two
same_next [] (t ∷ ts) us one two = absurd one
same_next (s ∷ ss) [] us one two = absurd one
same_next (s ∷ ss) (t ∷ ts) [] one two = absurd two
same_next (s ∷ ss) (t ∷ ts) (u ∷ us) one two = (
  record { vm = two.0.vm ∙ one.0.vm; context = two.0.context ∙ one.0.context; response = two.0.response ∙ one.0.response },
  same_next ss ts us one.1 two.1,
)

pub same_back : (ss ts : List Stage) → AreSame ss ts → AreSame ts ss
same_back [] [] same = tt
same_back [] (t ∷ ts) same = absurd same
same_back (s ∷ ss) [] same = absurd same
same_back (s ∷ ss) (t ∷ ts) same = (record { vm = sym same.0.vm; context = sym same.0.context; response = sym same.0.response }, same_back ss ts same.1)

pub hold_same : (b c : Contexts) (ss ts : List Stage) → AreSame ss ts → HoldSame b c ss → HoldSame b c ts
hold_same b c [] [] same holds = tt
hold_same b c [] (t ∷ ts) same holds = absurd same
hold_same b c (s ∷ ss) [] same holds = absurd same
hold_same b c (s ∷ ss) (t ∷ ts) same holds = (
  (λ i. bytes_at c (record t { vm = same.0.vm i; context = same.0.context i; response = same.0.response i }))
      ∙ (holds.0 ∙ (λ i. bytes_at b (record t { vm = sym same.0.vm i; context = sym same.0.context i; response = sym same.0.response i }))),
  hold_same b c ss ts same.1 holds.1,
)

vms_same : (ss ts : List Stage) (k : ℕ) → AreSame ss ts → vm_at ts k ≡ vm_at ss k
vms_same [] [] k same = refl
vms_same [] (t ∷ ts) k same = absurd same
vms_same (s ∷ ss) [] k same = absurd same
vms_same (s ∷ ss) (t ∷ ts) zero same = ap Some same.0.vm
vms_same (s ∷ ss) (t ∷ ts) (suc k) same = vms_same ss ts k same.1

lets_same : (vm k : ℕ) (ss ts : List Stage) → AreSame ss ts → lets_of vm k ts ≡ lets_of vm k ss
lets_same vm zero ss ts same = refl
lets_same vm (suc k) ss ts same = λ i. lets_at vm k (vms_same ss ts k same i) ++ lets_same vm k ss ts same i

passes_comes : (vm : ℕ) (items : List ChainItem) (ss : List Stage) → PassFrom vm zero ss → PassFrom vm zero (comes_in items ss).1
passes_comes vm items [] pass = tt
passes_comes vm items (s ∷ ss) pass =
    by_bool (λ (r : PassOutcome × List Stage). PassFrom vm zero r.1) s.passes (ahead s (comes_in items ss)) (passed.Left [], with_more items s ∷ ss)
    (λ is. (pass.0, passes_comes vm items ss pass.1)) (λ is. pass)

passes_goes : (vm : ℕ) (items : List ChainItem) (ss : List Stage) (k : ℕ) (t : Stage) → t.passes ≡ true → PassFrom vm (suc k) ss → PassFrom vm k (goes_in k t items ss).1
passes_goes vm items [] k t is pass = tt
passes_goes vm items (x ∷ xs) zero t is pass = (λ _. is, passes_comes vm items xs pass)
passes_goes vm items (x ∷ xs) (suc k) t is pass = passes_goes vm items xs k t is pass

-- one of another VM
passes_beside : (vm : ℕ) (ss : List Stage) (k of : ℕ) → vm_at ss k ≡ Some of → (of == vm) ≡ false → PassFrom vm (suc k) ss → PassFrom vm k ss
passes_beside vm [] k of at apart pass = tt
passes_beside vm (x ∷ xs) zero of at apart pass =
    let here : x.vm ≡ of = (cc at) in
    (λ is. absurd (cc (sym is ∙ (ap (λ (v : ℕ). v == vm) here ∙ apart))), pass)
passes_beside vm (x ∷ xs) (suc k) of at apart pass = passes_beside vm xs k of at apart pass

passes_none : (vm : ℕ) (ss : List Stage) (k : ℕ) → vm_at ss k ≡ None → PassFrom vm k ss
passes_none vm [] k at = tt
passes_none vm (x ∷ xs) zero at = absurd (cc at)
passes_none vm (x ∷ xs) (suc k) at = passes_none vm xs k at

passes_past : (vm : ℕ) (ss : List Stage) → PassFrom vm (length ss) ss
passes_past vm [] = tt
passes_past vm (s ∷ ss) = passes_past vm ss

abbrev Comes : Bool → ℕ → ℕ → ℕ → Running → List Deed → Type 0
Comes response n vm k w deeds =
    (((done_all response n deeds w).exchange, (done_all response n deeds w).hub) ≡ bypass_vm_stages response vm n k (w.exchange, w.hub))
    × PassFrom vm zero (chain_of response (bypass_vm_stages response vm n k (w.exchange, w.hub)).0)
    × AreSame (chain_of response w.exchange) (chain_of response (bypass_vm_stages response vm n k (w.exchange, w.hub)).0)

-- the stage at a place is there, or not
there_is : (ss : List Stage) (k of : ℕ) → vm_at ss k ≡ Some of → (s : Stage) × (slice_get ss k ≡ Some s) × (s.vm ≡ of)
there_is [] k of at = absurd (cc at)
there_is (x ∷ xs) zero of at = (x, refl, (cc at))
there_is (x ∷ xs) (suc k) of at = there_is xs k of at

nothing_at : (ss : List Stage) (k : ℕ) → vm_at ss k ≡ None → slice_get ss k ≡ None
nothing_at [] k at = refl
nothing_at (x ∷ xs) zero at = absurd (cc at)
nothing_at (x ∷ xs) (suc k) at = nothing_at xs k at

module _ (response : Bool) (n count vm : ℕ) where
  abbrev Later : ℕ → Type 0
  Later k = (u : Running) → PassFrom vm k (chain_of response u.exchange) → AreDeeds response n count (lets_of vm k (chain_of response u.exchange)) u
      → Comes response n vm k u (lets_of vm k (chain_of response u.exchange))

  comes_by : (k : ℕ) (w : Running) (deeds : List Deed) (u : Exchange × Hub) → bypass_vm_stages response vm n (suc k) (w.exchange, w.hub) ≡ bypass_vm_stages response vm n k u
      → ((done_all response n deeds w).exchange, (done_all response n deeds w).hub) ≡ bypass_vm_stages response vm n k u → PassFrom vm zero (chain_of response (bypass_vm_stages response vm n k u).0)
      → AreSame (chain_of response w.exchange) (chain_of response (bypass_vm_stages response vm n k u).0) → Comes response n vm (suc k) w deeds
  comes_by k w deeds u is one two three = (
    one ∙ sym is,
    subst (λ (r : Exchange × Hub). PassFrom vm zero (chain_of response r.0)) (sym is) two,
    subst (λ (r : Exchange × Hub). AreSame (chain_of response w.exchange) (chain_of response r.0)) (sym is) three,
  )

  none_there : (k : ℕ) (w : Running) → Later k → vm_at (chain_of response w.exchange) k ≡ None → AreDeeds response n count (lets_of vm k (chain_of response w.exchange)) w
      → Comes response n vm (suc k) w (lets_of vm k (chain_of response w.exchange))
  none_there k w later at are =
      let ss : List Stage = chain_of response w.exchange in
      let law : Comes response n vm k w (lets_of vm k ss) = later w (passes_none vm ss k at) are in
      comes_by k w (lets_of vm k ss) (w.exchange, w.hub)
      (ap (λ (o : Option Stage). bypass_vm_stages response vm n k (bypass_vm_at response vm n k o w.exchange w.hub)) (nothing_at ss k at)) law.0 law.1 law.2

  another_there : (k of : ℕ) (w : Running) → Later k → vm_at (chain_of response w.exchange) k ≡ Some of → (of == vm) ≡ false → PassFrom vm (suc k) (chain_of response w.exchange)
      → AreDeeds response n count (lets_of vm k (chain_of response w.exchange)) w → Comes response n vm (suc k) w (lets_of vm k (chain_of response w.exchange))
  another_there k of w later at apart pass are =
      let ss : List Stage = chain_of response w.exchange in
      let s = there_is ss k of at in
      let law : Comes response n vm k w (lets_of vm k ss) = later w (passes_beside vm ss k of at apart pass) are in
      comes_by k w (lets_of vm k ss) (w.exchange, w.hub)
      (ap (λ (o : Option Stage). bypass_vm_stages response vm n k (bypass_vm_at response vm n k o w.exchange w.hub)) s.1
      ∙ ap (λ (b : Bool). bypass_vm_stages response vm n k (if b then bypass response n k w.exchange w.hub else (w.exchange, w.hub))) (ap (λ (v : ℕ). v == vm) s.2 ∙ apart))
      law.0 law.1 law.2

  its_own : (k of : ℕ) (w : Running) → Later k → vm_at (chain_of response w.exchange) k ≡ Some of → (of == vm) ≡ true → PassFrom vm (suc k) (chain_of response w.exchange)
      → AreDeeds response n count (lets k ∷ lets_of vm k (chain_of response w.exchange)) w → Comes response n vm (suc k) w (lets k ∷ lets_of vm k (chain_of response w.exchange))
  its_own k of w later at own pass are =
      let ss : List Stage = chain_of response w.exchange in
      let h : Contexts = w.hub.contexts in
      let s = there_is ss k of at in
      let next : Running = done_by response n (lets k) w in
      let stands : standing_of response next ≡ (at_chain.gone_on (unless_at k w.due) (let_through h k ss)).1 = deed_does response n count (lets k) w are.0 in
      let chain_is : chain_of response next.exchange ≡ (through_to h k ss s.0).1
      = ap (λ (v : at_chain.Standing). v.stages) stands ∙ ap (λ (r : PassOutcome × List Stage × Contexts). r.1) (through_is h k ss s.0 s.1 are.0.acts.0.1) in
      let same : AreSame ss (chain_of response next.exchange)
      = subst (AreSame ss) (sym chain_is) (goes_same (through_items h s.0) ss k s.0 (bypassed_stage s.0) s.1 (record { vm = refl; context = refl; response = refl })) in
      let passes : PassFrom vm k (chain_of response next.exchange)
      = subst (PassFrom vm k) (sym chain_is) (passes_goes vm (through_items h s.0) ss k (bypassed_stage s.0) refl pass) in
      let deeds : lets_of vm k (chain_of response next.exchange) ≡ lets_of vm k ss = lets_same vm k ss (chain_of response next.exchange) same in
      let law : Comes response n vm k next (lets_of vm k (chain_of response next.exchange)) = later next passes (subst (λ (ds : List Deed). AreDeeds response n count ds next) (sym deeds) are.1) in
      let law_here : Comes response n vm k next (lets_of vm k ss) = subst (λ (ds : List Deed). Comes response n vm k next ds) deeds law in
      comes_by k w (lets k ∷ lets_of vm k ss) (bypass response n k w.exchange w.hub)
      (ap (λ (o : Option Stage). bypass_vm_stages response vm n k (bypass_vm_at response vm n k o w.exchange w.hub)) s.1
      ∙ ap (λ (b : Bool). bypass_vm_stages response vm n k (if b then bypass response n k w.exchange w.hub else (w.exchange, w.hub))) (ap (λ (v : ℕ). v == vm) s.2 ∙ own))
      law_here.0 law_here.1 (same_next ss (chain_of response next.exchange) (chain_of response (bypass_vm_stages response vm n k (next.exchange, next.hub)).0) same law_here.2)

  by_own : (k of : ℕ) (w : Running) → Later k → vm_at (chain_of response w.exchange) k ≡ Some of → (b : Bool) → (of == vm) ≡ b → PassFrom vm (suc k) (chain_of response w.exchange)
      → AreDeeds response n count ((if b then lets k ∷ [] else []) ++ lets_of vm k (chain_of response w.exchange)) w
      → Comes response n vm (suc k) w ((if b then lets k ∷ [] else []) ++ lets_of vm k (chain_of response w.exchange))
  by_own k of w later at true is pass are = its_own k of w later at is pass are
  by_own k of w later at false is pass are = another_there k of w later at is pass are

  by_vm : (k : ℕ) (w : Running) → Later k → (o : Option ℕ) → vm_at (chain_of response w.exchange) k ≡ o → PassFrom vm (suc k) (chain_of response w.exchange)
      → AreDeeds response n count (lets_at vm k o ++ lets_of vm k (chain_of response w.exchange)) w
      → Comes response n vm (suc k) w (lets_at vm k o ++ lets_of vm k (chain_of response w.exchange))
  by_vm k w later None at pass are = none_there k w later at are
  by_vm k w later (Some of) at pass are = by_own k of w later at (of == vm) refl pass are

  through : (k : ℕ) → Later k
  through zero w pass are = (refl, pass, same_all (chain_of response w.exchange))
  through (suc k) w pass are = by_vm k w (through k) (vm_at (chain_of response w.exchange) k) refl pass are

pub deaths_pass : DeathsPass
deaths_pass = record {
  ended = λ n vm x hub is. ap (λ (b : Bool). if b then (x, hub) else if fails_closed vm x then answer_directly n 503 [] [] x hub else bypass_vm vm n x hub) is;
  closed = λ n vm x hub runs closed request response.
      subst (λ (r : Exchange × Hub). IsCutShort n x hub r.0 r.1) (sym (closed_is n vm x hub runs closed)) (cut_short n x hub request response);
  open_ = open_is;
  let_through = λ response n count vm w are.
      let law = through response n count vm (length (chain_of response w.exchange)) w (passes_past vm (chain_of response w.exchange)) are in
      record { is = law.0; passes = law.1 };
}

-- ---- as a direction sees it

record IsAcross (response : Bool) (ss : List Stage) (x : Exchange) (hub : Hub) (xh : Exchange × Hub) : Type 0 where
  chain : chain_of (not response) xh.0 ≡ chain_of (not response) x
  holds : Holds ss hub.contexts xh.1.contexts

module _ (response : Bool) (n count vm : ℕ) (ss : List Stage) where
  abbrev Across : ℕ → Type 0
  Across k = (u : Running) → AreAliens ss (chain_of response u.exchange) → AreDeeds response n count (lets_of vm k (chain_of response u.exchange)) u
      → IsAcross response ss u.exchange u.hub (bypass_vm_stages response vm n k (u.exchange, u.hub))

  one_across : (k of : ℕ) (w : Running) → Across k → vm_at (chain_of response w.exchange) k ≡ Some of → (of == vm) ≡ true → AreAliens ss (chain_of response w.exchange)
      → AreDeeds response n count (lets k ∷ lets_of vm k (chain_of response w.exchange)) w → IsAcross response ss w.exchange w.hub (bypass_vm_stages response vm n (suc k) (w.exchange, w.hub))
  one_across k of w later at own alien are =
      let ts : List Stage = chain_of response w.exchange in
      let h : Contexts = w.hub.contexts in
      let s = there_is ts k of at in
      let next_ : Running = done_by response n (lets k) w in
      let r : PassOutcome × List Stage × Contexts = let_through h k ts in
      let stands : standing_of response next_ ≡ (at_chain.gone_on (unless_at k w.due) r).1 = deed_does response n count (lets k) w are.0 in
      let chained : Chained ss h r = lets_by ss h k ts alien in
      let chain_is : chain_of response next_.exchange ≡ r.1 = ap (λ (v : at_chain.Standing). v.stages) stands in
      let contexts_are : next_.hub.contexts ≡ r.2 = ap (λ (v : at_chain.Standing). v.contexts) stands in
      let through_them : r.1 ≡ (through_to h k ts s.0).1 = ap (λ (q : PassOutcome × List Stage × Contexts). q.1) (through_is h k ts s.0 s.1 are.0.acts.0.1) in
      let same_ : AreSame ts (chain_of response next_.exchange)
      = subst (AreSame ts) (sym (chain_is ∙ through_them)) (goes_same (through_items h s.0) ts k s.0 (bypassed_stage s.0) s.1 (record { vm = refl; context = refl; response = refl })) in
      let deeds : lets_of vm k (chain_of response next_.exchange) ≡ lets_of vm k ts = lets_same vm k ts (chain_of response next_.exchange) same_ in
      let law : IsAcross response ss next_.exchange next_.hub (bypass_vm_stages response vm n k (next_.exchange, next_.hub))
      = later next_ (subst (AreAliens ss) (sym chain_is) chained.alien) (subst (λ (ds : List Deed). AreDeeds response n count ds next_) (sym deeds) are.1) in
      let first : chain_of (not response) next_.exchange ≡ chain_of (not response) w.exchange
      = ap (λ (xh : Exchange × Hub). chain_of (not response) xh.0)
      (gives_is response n k w.exchange w.hub are.0.runs.0 ∙ passed_is response n r.0 (with_chain response r.1 w.exchange) (with_held r.2 w.hub) are.0.acts.0.1)
      ∙ (left_across response n (left_in r.0) (with_chain response r.1 w.exchange, with_held r.2 w.hub) ∙ across_with response r.1 w.exchange) in
      let is : bypass_vm_stages response vm n (suc k) (w.exchange, w.hub) ≡ bypass_vm_stages response vm n k (next_.exchange, next_.hub)
      = ap (λ (o : Option Stage). bypass_vm_stages response vm n k (bypass_vm_at response vm n k o w.exchange w.hub)) s.1
      ∙ ap (λ (b : Bool). bypass_vm_stages response vm n k (if b then bypass response n k w.exchange w.hub else (w.exchange, w.hub))) (ap (λ (v : ℕ). v == vm) s.2 ∙ own) in
      subst (IsAcross response ss w.exchange w.hub) (sym is)
      (record {
        chain = law.chain ∙ first;
        holds = next ss h next_.hub.contexts (bypass_vm_stages response vm n k (next_.exchange, next_.hub)).1.contexts (subst (Holds ss h) (sym contexts_are) chained.holds) law.holds;
      })

  beside_across : (k : ℕ) (w : Running) → Across k → bypass_vm_stages response vm n (suc k) (w.exchange, w.hub) ≡ bypass_vm_stages response vm n k (w.exchange, w.hub) → AreAliens ss (chain_of response w.exchange)
      → AreDeeds response n count (lets_of vm k (chain_of response w.exchange)) w → IsAcross response ss w.exchange w.hub (bypass_vm_stages response vm n (suc k) (w.exchange, w.hub))
  beside_across k w later is alien are = subst (IsAcross response ss w.exchange w.hub) (sym is) (later w alien are)

  across_own : (k of : ℕ) (w : Running) → Across k → vm_at (chain_of response w.exchange) k ≡ Some of → (b : Bool) → (of == vm) ≡ b → AreAliens ss (chain_of response w.exchange)
      → AreDeeds response n count ((if b then lets k ∷ [] else []) ++ lets_of vm k (chain_of response w.exchange)) w
      → IsAcross response ss w.exchange w.hub (bypass_vm_stages response vm n (suc k) (w.exchange, w.hub))
  across_own k of w later at true own alien are = one_across k of w later at own alien are
  across_own k of w later at false apart alien are =
      let s = there_is (chain_of response w.exchange) k of at in
      beside_across k w later
      (ap (λ (o : Option Stage). bypass_vm_stages response vm n k (bypass_vm_at response vm n k o w.exchange w.hub)) s.1
      ∙ ap (λ (b : Bool). bypass_vm_stages response vm n k (if b then bypass response n k w.exchange w.hub else (w.exchange, w.hub))) (ap (λ (v : ℕ). v == vm) s.2 ∙ apart))
      alien are

  across_vm : (k : ℕ) (w : Running) → Across k → (o : Option ℕ) → vm_at (chain_of response w.exchange) k ≡ o → AreAliens ss (chain_of response w.exchange)
      → AreDeeds response n count (lets_at vm k o ++ lets_of vm k (chain_of response w.exchange)) w → IsAcross response ss w.exchange w.hub (bypass_vm_stages response vm n (suc k) (w.exchange, w.hub))
  across_vm k w later None at alien are =
      beside_across k w later (ap (λ (o : Option Stage). bypass_vm_stages response vm n k (bypass_vm_at response vm n k o w.exchange w.hub)) (nothing_at (chain_of response w.exchange) k at)) alien are
  across_vm k w later (Some of) at alien are = across_own k of w later at (of == vm) refl alien are

  across : (k : ℕ) → Across k
  across zero w alien are = record { chain = refl; holds = same ss w.hub.contexts }
  across (suc k) w alien are = across_vm k w (across k) (vm_at (chain_of response w.exchange) k) refl alien are

-- ---- deeds, one list after the other

deeds_more : (response : Bool) (n count : ℕ) (a b : List Deed) (w : Running) → AreDeeds response n count a w → AreDeeds response n count b (done_all response n a w)
    → AreDeeds response n count (a ++ b) w
deeds_more response n count [] b w first later = later
deeds_more response n count (deed ∷ a) b w first later = (first.0, deeds_more response n count a b (done_by response n deed w) first.1 later)

done_more : (response : Bool) (n : ℕ) (a b : List Deed) (w : Running) → done_all response n (a ++ b) w ≡ done_all response n b (done_all response n a w)
done_more response n [] b w = refl
done_more response n (deed ∷ a) b w = done_more response n a b (done_by response n deed w)

lets_came : (vm k : ℕ) (stages : List Stage) (more : List Deed) → items_put more ≡ [] → items_put (lets_of vm k stages ++ more) ≡ []
lets_came vm zero stages more none = none
lets_came vm (suc k) stages more none = by_vm_ (vm_at stages k) (lets_came vm k stages more none)
  where
    by_own_ : (of : ℕ) (b : Bool) → items_put (lets_of vm k stages ++ more) ≡ [] → items_put (((if b then lets k ∷ [] else []) ++ lets_of vm k stages) ++ more) ≡ []
    by_own_ of true later = later
    by_own_ of false later = later

    by_vm_ : (o : Option ℕ) → items_put (lets_of vm k stages ++ more) ≡ [] → items_put ((lets_at vm k o ++ lets_of vm k stages) ++ more) ≡ []
    by_vm_ None later = later
    by_vm_ (Some of) later = by_own_ of (of == vm) later

-- what may be let through may be so whatever stage of another VM is the last with a body callback
raised_one : (response : Bool) (n count k : ℕ) (w : Running) → (suc k ≡ count → ⊥) → IsDeed response 0 (lets k) w → IsDeed response count (lets k) w
raised_one response n count k w apart is = record { runs = is.runs; acts = ((apart, is.acts.0.1), tt); chain = is.chain }

raised : (response : Bool) (n count vm : ℕ) (stages : List Stage) → CutIsAnothers count vm stages → (k : ℕ) (w : Running) → AreDeeds response n 0 (lets_of vm k stages) w
    → AreDeeds response n count (lets_of vm k stages) w
raised response n count vm stages cut zero w are = tt
raised response n count vm stages cut (suc k) w are = by_vm_ (λ u more. raised response n count vm stages cut k u more) (vm_at stages k) refl are
  where
    by_own_ : ((u : Running) → AreDeeds response n 0 (lets_of vm k stages) u → AreDeeds response n count (lets_of vm k stages) u) → (of : ℕ) → vm_at stages k ≡ Some of → (b : Bool) → (of == vm) ≡ b → AreDeeds response n 0 ((if b then lets k ∷ [] else []) ++ lets_of vm k stages) w
        → AreDeeds response n count ((if b then lets k ∷ [] else []) ++ lets_of vm k stages) w
    by_own_ later of at true own are_ = (raised_one response n count k w (λ e. cc (sym own ∙ cut k of e at)) are_.0, later (done_by response n (lets k) w) are_.1)
    by_own_ later of at false own are_ = later w are_

    by_vm_ : ((u : Running) → AreDeeds response n 0 (lets_of vm k stages) u → AreDeeds response n count (lets_of vm k stages) u) → (o : Option ℕ) → vm_at stages k ≡ o → AreDeeds response n 0 (lets_at vm k o ++ lets_of vm k stages) w → AreDeeds response n count (lets_at vm k o ++ lets_of vm k stages) w
    by_vm_ later None at are_ = later w are_
    by_vm_ later (Some of) at are_ = by_own_ later of at (of == vm) refl are_

deaths_of_request : (n count vm : ℕ) (w : Running) → w.exchange.has_ended ≡ false → fails_closed vm w.exchange ≡ false → CutIsAnothers count vm w.exchange.request → MayLet false n vm w
    → MayLet true n vm (record { due = None; exchange = (between vm n w.exchange w.hub).0; hub = (between vm n w.exchange w.hub).1 })
    → AreAliens (between vm n w.exchange w.hub).0.request (between vm n w.exchange w.hub).0.response
    → AreThere (between vm n w.exchange w.hub).1.contexts (between vm n w.exchange w.hub).0.request → IsDeath false n count vm (request_death n vm w) w
deaths_of_request n count vm w runs fair cut own other alien there =
    let mid : Exchange × Hub = between vm n w.exchange w.hub in
    let end : Exchange × Hub = bypass_vm vm n w.exchange w.hub in
    let ss : List Stage = mid.0.request in
    let first : List Deed = lets_of vm (length w.exchange.request) w.exchange.request in
    let it : Comes false n vm (length w.exchange.request) w first = through false n 0 vm (length w.exchange.request) w (passes_past vm w.exchange.request) own in
    let side : IsAcross true ss mid.0 mid.1 end = across true n 0 vm ss (length mid.0.response) (record { due = None; exchange = mid.0; hub = mid.1 }) alien other in
    let chain_is : (done_all false n first w).exchange.request ≡ ss = ap (λ (xh : Exchange × Hub). xh.0.request) it.0 in
    let contexts_are : (done_all false n first w).hub.contexts ≡ mid.1.contexts = ap (λ (xh : Exchange × Hub). xh.1.contexts) it.0 in
    let holds : Holds ss (done_all false n first w).hub.contexts end.1.contexts = subst (λ (b : Contexts). Holds ss b end.1.contexts) (sym contexts_are) side.holds in
    let last : AreDeeds false n count (turns end.0 end.1 ∷ []) (done_all false n first w)
    = (
      record {
        runs = tt;
        acts = (subst (λ (l : List Stage). HoldSame (done_all false n first w).hub.contexts end.1.contexts l × AreThere end.1.contexts l) (sym chain_is) (holds.holds, side.holds.there there), tt);
        chain = side.chain ∙ sym chain_is;
      },
      tt,
    ) in
    record {
      are = deeds_more false n count first (turns end.0 end.1 ∷ []) w (raised false n count vm w.exchange.request cut (length w.exchange.request) w own) last;
      none_came = lets_came vm (length w.exchange.request) w.exchange.request (turns end.0 end.1 ∷ []) refl;
      comes = ap (λ (u : Running). (u.exchange, u.hub)) (done_more false n first (turns end.0 end.1 ∷ []) w) ∙ sym (open_is n vm w.exchange w.hub runs fair);
    }

deaths_of_response : (n count vm : ℕ) (w : Running) → w.exchange.has_ended ≡ false → fails_closed vm w.exchange ≡ false → CutIsAnothers count vm w.exchange.response
    → MayLet false n vm (record { due = None; exchange = w.exchange; hub = w.hub })
    → MayLet true n vm (record w { exchange = (between vm n w.exchange w.hub).0; hub = (between vm n w.exchange w.hub).1 })
    → AreAliens w.exchange.response w.exchange.request → AreThere w.hub.contexts w.exchange.response → IsDeath true n count vm (response_death n vm w) w
deaths_of_response n count vm w runs fair cut other own alien there =
    let mid : Exchange × Hub = between vm n w.exchange w.hub in
    let ss : List Stage = w.exchange.response in
    let side : IsAcross false ss w.exchange w.hub mid = across false n 0 vm ss (length w.exchange.request) (record { due = None; exchange = w.exchange; hub = w.hub }) alien other in
    let u : Running = record w { exchange = mid.0; hub = mid.1 } in
    let later : List Deed = lets_of vm (length mid.0.response) mid.0.response in
    let cut_mid : CutIsAnothers count vm mid.0.response = subst (CutIsAnothers count vm) (sym side.chain) cut in
    let it : Comes true n vm (length mid.0.response) u later = through true n 0 vm (length mid.0.response) u (passes_past vm mid.0.response) own in
    record {
      are = (record { runs = tt; acts = ((side.holds.holds, side.holds.there there), tt); chain = side.chain }, raised true n count vm mid.0.response cut_mid (length mid.0.response) u own);
      none_came = ap items_put (sym (append-nil later)) ∙ lets_came vm (length mid.0.response) mid.0.response [] refl;
      comes = it.0 ∙ sym (open_is n vm w.exchange w.hub runs fair);
    }

pub deaths_are_deeds : DeathsAreDeeds
deaths_are_deeds = record { request = deaths_of_request; response = deaths_of_response }

-- ---- the stages are those of the same contexts after a death

lets_due : (response : Bool) (n vm k : ℕ) (stages : List Stage) (w : Running) → w.due ≡ None → (done_all response n (lets_of vm k stages) w).due ≡ None
lets_due response n vm zero stages w none = none
lets_due response n vm (suc k) stages w none = by_vm_ (λ u un. lets_due response n vm k stages u un) (vm_at stages k)
  where
    by_own_ : ((u : Running) → u.due ≡ None → (done_all response n (lets_of vm k stages) u).due ≡ None) → (b : Bool)
        → (done_all response n ((if b then lets k ∷ [] else []) ++ lets_of vm k stages) w).due ≡ None
    by_own_ later true = later (done_by response n (lets k) w) (ap (unless_at k) none)
    by_own_ later false = later w none

    by_vm_ : ((u : Running) → u.due ≡ None → (done_all response n (lets_of vm k stages) u).due ≡ None) → (o : Option ℕ) → (done_all response n (lets_at vm k o ++ lets_of vm k stages) w).due ≡ None
    by_vm_ later None = later w none
    by_vm_ later (Some of) = by_own_ later (of == vm)

-- what a death leaves of a direction's stages
pub record Left (response : Bool) (n vm : ℕ) (deeds : List Deed) (w : Running) : Type 0 where
  pub same : AreSame (chain_of response w.exchange) (chain_of response (lose_vm vm n w.exchange w.hub).0)
  pub due : (done_all response n deeds w).due ≡ None

pub left_of_request : (n vm : ℕ) (w : Running) → w.due ≡ None → w.exchange.has_ended ≡ false → fails_closed vm w.exchange ≡ false → MayLet false n vm w
    → MayLet true n vm (record { due = None; exchange = (between vm n w.exchange w.hub).0; hub = (between vm n w.exchange w.hub).1 })
    → AreAliens (between vm n w.exchange w.hub).0.request (between vm n w.exchange w.hub).0.response → Left false n vm (request_death n vm w) w
left_of_request n vm w none runs fair own other alien =
    let mid : Exchange × Hub = between vm n w.exchange w.hub in
    let end : Exchange × Hub = bypass_vm vm n w.exchange w.hub in
    let first : List Deed = lets_of vm (length w.exchange.request) w.exchange.request in
    let it : Comes false n vm (length w.exchange.request) w first = through false n 0 vm (length w.exchange.request) w (passes_past vm w.exchange.request) own in
    let side : IsAcross true mid.0.request mid.0 mid.1 end
    = across true n 0 vm mid.0.request (length mid.0.response) (record { due = None; exchange = mid.0; hub = mid.1 }) alien other in
    record {
      same =
          subst (AreSame w.exchange.request) (sym (ap (λ (xh : Exchange × Hub). xh.0.request) (open_is n vm w.exchange w.hub runs fair)))
          (subst (AreSame w.exchange.request) (sym side.chain) it.2);
      due = ap (λ (u : Running). u.due) (done_more false n first (turns end.0 end.1 ∷ []) w) ∙ lets_due false n vm (length w.exchange.request) w.exchange.request w none;
    }

pub left_of_response : (n vm : ℕ) (w : Running) → w.due ≡ None → w.exchange.has_ended ≡ false → fails_closed vm w.exchange ≡ false
    → MayLet false n vm (record { due = None; exchange = w.exchange; hub = w.hub })
    → MayLet true n vm (record w { exchange = (between vm n w.exchange w.hub).0; hub = (between vm n w.exchange w.hub).1 }) → AreAliens w.exchange.response w.exchange.request
    → Left true n vm (response_death n vm w) w
left_of_response n vm w none runs fair other own alien =
    let mid : Exchange × Hub = between vm n w.exchange w.hub in
    let side : IsAcross false w.exchange.response w.exchange w.hub mid
    = across false n 0 vm w.exchange.response (length w.exchange.request) (record { due = None; exchange = w.exchange; hub = w.hub }) alien other in
    let u : Running = record w { exchange = mid.0; hub = mid.1 } in
    let later : List Deed = lets_of vm (length mid.0.response) mid.0.response in
    let it : Comes true n vm (length mid.0.response) u later = through true n 0 vm (length mid.0.response) u (passes_past vm mid.0.response) own in
    record {
      same =
          subst (AreSame w.exchange.response) (sym (ap (λ (xh : Exchange × Hub). xh.0.response) (open_is n vm w.exchange w.hub runs fair)))
          (subst (λ (ss : List Stage). AreSame ss (bypass_vm_stages true vm n (length mid.0.response) mid).0.response) side.chain it.2);
      due = lets_due true n vm (length mid.0.response) mid.0.response u none;
    }
