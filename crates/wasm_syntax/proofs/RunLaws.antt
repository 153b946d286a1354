-- Runs take as many steps as they need, and each instruction has its rule.
use Rattle.std.proofs.Common.{◌≡◌, ℕ, zero, suc, ◌+◌, ◌-◌, ◌*◌, ◌<◌, ◌≤◌, Bool, true, false, List, [], ◌∷◌, length, Option, Some, None, refl, sym, ap, subst, ◌∙◌, arith, inl, inr}
use Rattle.std.specs.Prelude.{nat_le, nat_lt, nat_eq, slice_get, if◌then◌else◌}
use Rattle.std.proofs.lemmas.Bool.{cases_lt, le-leb, lt-leb}
use Rattle.wasm_syntax.specs.declared.types.Value.{Value}
use Rattle.wasm_syntax.specs.declared.instr.Instr.TheVariants as instr
use Rattle.wasm_syntax.specs.declared.instr.BlockType.{BlockType}
use Rattle.wasm_syntax.specs.Nested.{Nested, nothing, simple, block, loop, choice}
use Rattle.wasm_syntax.specs.Stores.{Stores}
use Rattle.wasm_syntax.specs.ReductionRows.{Done, gives, faults, lacks, Act, does, does_over, does_bytes, traps_with, branches, branches_if, branches_by, leaves, calls, calls_element, holds, act_of}
use Rattle.wasm_syntax.specs.Reduction.{Function, imported, inside, Program, Thread, code, label, frame, at_host, Cost, free, paid, paid_over, paid_more, Reduced, goes, ended, leaving, returning, asking, trapping, stuck, after_doing, doing, topmost, cost_of_bytes, branching_if, branching_by, choosing, invoking, Found, found, fails, unknown, called_by, invoking_found, flows, in_label, in_frame, in_host, reduce}
use Rattle.wasm_syntax.specs.ReductionSteps.{Calling, calling, Config, config, Stepped, moves, finished, asks_host, traps, overflows, no_step, moved, moved_over, is_paid_by, most_values, all_values, ending_call, stepped_by, step_calls, step_if, is_within, step, answered, answer_first, answered_config}
use Rattle.wasm_syntax.specs.ReductionRuns.{Stopped, has_finished, has_asked, has_trapped, has_spent, goes_on, is_stuck, pay, unit_if, walk_by, walk, depth_in, all_depth, enough, run, Answer, answers, ends, waits, Host, Ran, hosted, hosted_by, walk_hosted}
use Rattle.wasm_syntax.specs.ReductionLaws.{IsCutShort, RunsToItsEnd, GivesBack, IsWithin, HostedRunsToItsEnd, EachHasItsRule, HasMore, FuelOnlyBounds}

-- ---- each instruction has its rule

pub each_has_its_rule : EachHasItsRule
each_has_its_rule most (instr.Block t) h = absurd h
each_has_its_rule most (instr.Loop t) h = absurd h
each_has_its_rule most (instr.If t) h = absurd h
each_has_its_rule most instr.Else h = absurd h
each_has_its_rule most instr.End h = absurd h
each_has_its_rule most i h = tt

-- ---- how deep a reduction leads

abbrev Deepens : ℕ → Cost → ℕ → Type 0
Deepens d free e = e < d
Deepens d paid e = e ≤ d + 2
Deepens d paid_over e = e ≤ d + 2
Deepens d (paid_more k) e = e ≤ d + 2

abbrev Leads : ℕ → Reduced → Type 0
Leads d (goes cost s own t) = Deepens d cost (depth_in t)
Leads d (ended vs) = Unit {0}
Leads d (leaving l vs) = Unit {0}
Leads d (returning vs) = Unit {0}
Leads d (asking cost x args own t) = Deepens d cost (depth_in t)
Leads d (trapping c) = Unit {0}
Leads d stuck = Unit {0}

deeper : (d e : ℕ) (cost : Cost) → Deepens d cost e → Deepens (d + 1) cost (e + 1)
deeper d e free h = omega (arith, h)
deeper d e paid h = omega (arith, h)
deeper d e paid_over h = omega (arith, h)
deeper d e (paid_more k) h = omega (arith, h)

either : (d : ℕ) (r : Reduced) (b : Bool) → Leads d r → Leads d (if b then r else stuck)
either d r true h = h
either d r false h = tt

paid_after : (x : Done) (rest : Nested) → Leads 0 (after_doing paid x rest)
paid_after (gives vs s own) rest = omega arith
paid_after (faults c) rest = tt
paid_after lacks rest = tt

over_after : (x : Done) (rest : Nested) → Leads 0 (after_doing paid_over x rest)
over_after (gives vs s own) rest = omega arith
over_after (faults c) rest = tt
over_after lacks rest = tt

bytes_after : (o : Option ℕ) (x : Done) (rest : Nested) → Leads 0 (after_doing (cost_of_bytes o) x rest)
bytes_after None x rest = paid_after x rest
bytes_after (Some n) (gives vs s own) rest = omega arith
bytes_after (Some n) (faults c) rest = tt
bytes_after (Some n) lacks rest = tt

if_leads : (l : ℕ) (o : Option ℕ) (s : Stores) (own vs : List Value) (rest : Nested) → Leads 0 (branching_if l o s own vs rest)
if_leads l None s own vs rest = tt
if_leads l (Some zero) s own vs rest = omega arith
if_leads l (Some (suc n)) s own vs rest = tt

by_leads : (labels : List ℕ) (last : ℕ) (o : Option ℕ) (vs : List Value) → Leads 0 (branching_by labels last o vs)
by_leads labels last None vs = tt
by_leads labels last (Some n) vs = tt

choice_leads : (t : BlockType) (first second : Nested) (o : Option ℕ) (s : Stores) (own vs : List Value) (rest : Nested) → Leads 0 (choosing t first second o s own vs rest)
choice_leads t first second None s own vs rest = tt
choice_leads t first second (Some zero) s own vs rest = omega arith
choice_leads t first second (Some (suc n)) s own vs rest = omega arith

invoke_leads : (x : ℕ) (o : Option Function) (s : Stores) (own vs : List Value) (rest : Nested) → Leads 0 (invoking x o s own vs rest)
invoke_leads x None s own vs rest = tt
invoke_leads x (Some (imported t)) s own vs rest = either 0 _ (nat_le (length t.parameters) (length vs)) (omega arith)
invoke_leads x (Some (inside t locals body)) s own vs rest = either 0 _ (nat_le (length t.parameters) (length vs)) (omega arith)

found_leads : (p : Program) (f : Found) (s : Stores) (own vs : List Value) (rest : Nested) → Leads 0 (invoking_found p f s own vs rest)
found_leads p (found x) s own vs rest = invoke_leads x (slice_get p.functions x) s own vs rest
found_leads p (fails c) s own vs rest = tt
found_leads p unknown s own vs rest = tt

flow_leads : (p : Program) (a : Act) (s : Stores) (own vs : List Value) (rest : Nested) → Leads 0 (flows p a s own vs rest)
flow_leads p (does x) s own vs rest = paid_after (doing x s own vs) rest
flow_leads p (does_over x) s own vs rest = over_after (doing x s own vs) rest
flow_leads p (does_bytes x) s own vs rest = bytes_after (topmost vs) (doing x s own vs) rest
flow_leads p (traps_with c) s own vs rest = tt
flow_leads p (branches l) s own vs rest = tt
flow_leads p (branches_if l) s own [] rest = tt
flow_leads p (branches_if l) s own (v ∷ vs) rest = if_leads l (topmost (v ∷ vs)) s own vs rest
flow_leads p (branches_by labels last) s own [] rest = tt
flow_leads p (branches_by labels last) s own (v ∷ vs) rest = by_leads labels last (topmost (v ∷ vs)) vs
flow_leads p leaves s own vs rest = tt
flow_leads p (calls x) s own vs rest = invoke_leads x (slice_get p.functions x) s own vs rest
flow_leads p (calls_element y) s own [] rest = tt
flow_leads p (calls_element y) s own (v ∷ vs) rest = found_leads p (called_by p s y (topmost (v ∷ vs))) s own vs rest
flow_leads p holds s own vs rest = tt

label_leads : (d : ℕ) (vs : List Value) (a : ℕ) (again rest : Nested) (s : Stores) (own : List Value) (r : Reduced) → Leads d r → Leads (d + 1) (in_label vs a again rest s own r)
label_leads d vs a again rest s own (goes cost s' own' t) h = deeper d (depth_in t) cost h
label_leads d vs a again rest s own (ended ws) h = omega arith
label_leads d vs a again rest s own (leaving zero ws) h = either (d + 1) _ (nat_le a (length ws)) (omega arith)
label_leads d vs a again rest s own (leaving (suc l) ws) h = tt
label_leads d vs a again rest s own (returning ws) h = tt
label_leads d vs a again rest s own (asking cost x args own' t) h = deeper d (depth_in t) cost h
label_leads d vs a again rest s own (trapping c) h = tt
label_leads d vs a again rest s own stuck h = tt

frame_leads : (d : ℕ) (vs : List Value) (a : ℕ) (rest : Nested) (s : Stores) (own : List Value) (r : Reduced) → Leads d r → Leads (d + 1) (in_frame vs a rest s own r)
frame_leads d vs a rest s own (goes cost s' own' t) h = deeper d (depth_in t) cost h
frame_leads d vs a rest s own (ended ws) h = either (d + 1) _ (nat_eq (length ws) a) (omega arith)
frame_leads d vs a rest s own (leaving l ws) h = tt
frame_leads d vs a rest s own (returning ws) h = either (d + 1) _ (nat_le a (length ws)) (omega arith)
frame_leads d vs a rest s own (asking cost x args own' t) h = deeper d (depth_in t) cost h
frame_leads d vs a rest s own (trapping c) h = tt
frame_leads d vs a rest s own stuck h = tt

host_leads : (d x : ℕ) (own : List Value) (r : Reduced) → Leads d r → Leads (d + 1) (in_host x own r)
host_leads d x own (goes cost s' own' t) h = deeper d (depth_in t) cost h
host_leads d x own (ended ws) h = omega arith
host_leads d x own (leaving l ws) h = tt
host_leads d x own (returning ws) h = tt
host_leads d x own (asking cost y args own' t) h = deeper d (depth_in t) cost h
host_leads d x own (trapping c) h = tt
host_leads d x own stuck h = tt

leads : (p : Program) (s : Stores) (own : List Value) (t : Thread) → Leads (depth_in t) (reduce p s own t)
leads p s own (code vs nothing) = tt
leads p s own (code vs (simple i rest)) = flow_leads p (act_of p.most i) s own vs rest
leads p s own (code vs (block t body rest)) = omega arith
leads p s own (code vs (loop t body rest)) = omega arith
leads p s own (code [] (choice t first second rest)) = tt
leads p s own (code (v ∷ vs) (choice t first second rest)) = choice_leads t first second (topmost (v ∷ vs)) s own vs rest
leads p s own (label vs a again t rest) = label_leads (depth_in t) vs a again rest s own (reduce p s own t) (leads p s own t)
leads p s own (frame vs a inner t rest) = frame_leads (depth_in t) vs a rest s own (reduce p s inner t) (leads p s inner t)
leads p s own (at_host x t) = host_leads (depth_in t) x own (reduce p s own t) (leads p s own t)

-- ---- and a step

abbrev StepLeads : ℕ → Stepped → Type 0
StepLeads d (moves zero c) = all_depth c.calls < d
StepLeads d (moves (suc k) c) = all_depth c.calls ≤ d + 2
StepLeads d (finished v c) = Unit {0}
StepLeads d (asks_host true x args c) = all_depth c.calls ≤ d + 2
StepLeads d (asks_host false x args c) = all_depth c.calls < d
StepLeads d (traps c) = Unit {0}
StepLeads d overflows = Unit {0}
StepLeads d no_step = Unit {0}

over_leads : (d : ℕ) (c : Config) (b : Bool) → all_depth c.calls ≤ d + 2 → StepLeads d (moved_over b c)
over_leads d c true h = h
over_leads d c false h = tt

moved_leads : (d e : ℕ) (cost : Cost) (s : Stores) (own : List Value) (t : Thread) (below : List Calling) → Deepens d cost (depth_in t) →
    StepLeads (d + (1 + all_depth below)) (moved cost (config s (calling own t ∷ below)))
moved_leads d e free s own t below h = omega (arith, h)
moved_leads d e paid s own t below h = omega (arith, h)
moved_leads d e (paid_more k) s own t below h = omega (arith, h)
moved_leads d e paid_over s own t below h = over_leads (d + (1 + all_depth below)) (config s (calling own t ∷ below)) (nat_lt (all_values (calling own t ∷ below)) most_values) (omega (arith, h))

asked_leads : (d : ℕ) (cost : Cost) (s : Stores) (own : List Value) (t : Thread) (below : List Calling) (x : ℕ) (args : List Value) → Deepens d cost (depth_in t) →
    StepLeads (d + (1 + all_depth below)) (asks_host (is_paid_by cost) x args (config s (calling own t ∷ below)))
asked_leads d free s own t below x args h = omega (arith, h)
asked_leads d paid s own t below x args h = omega (arith, h)
asked_leads d paid_over s own t below x args h = omega (arith, h)
asked_leads d (paid_more k) s own t below x args h = omega (arith, h)

ending_leads : (d : ℕ) (s : Stores) (vs : List Value) (below : List Calling) → StepLeads d (ending_call s vs below)
ending_leads d s vs [] = tt
ending_leads d s vs (c ∷ below) = tt

reduced_leads : (d : ℕ) (s : Stores) (below : List Calling) (r : Reduced) → Leads d r → StepLeads (d + (1 + all_depth below)) (stepped_by s below r)
reduced_leads d s below (goes cost s' own t) h = moved_leads d 0 cost s' own t below h
reduced_leads d s below (ended vs) h = ending_leads (d + (1 + all_depth below)) s vs below
reduced_leads d s below (leaving l vs) h = tt
reduced_leads d s below (returning vs) h = tt
reduced_leads d s below (asking cost x args own t) h = asked_leads d cost s own t below x args h
reduced_leads d s below (trapping c) h = tt
reduced_leads d s below stuck h = tt

calls_lead : (p : Program) (s : Stores) (cs : List Calling) → StepLeads (all_depth cs) (step_calls p s cs)
calls_lead p s [] = tt
calls_lead p s (c ∷ below) = reduced_leads (depth_in c.thread) s below (reduce p s c.own c.thread) (leads p s c.own c.thread)

if_within : (d : ℕ) (b : Bool) (x : Stepped) → StepLeads d x → StepLeads d (step_if b x)
if_within d true x h = h
if_within d false x h = tt

step_leads : (p : Program) (c : Config) → StepLeads (all_depth c.calls) (step p c)
step_leads p c = if_within (all_depth c.calls) (is_within c) (step_calls p c.store c.calls) (calls_lead p c.store c.calls)

-- ---- what is paid

pub pay_spent : (units n : ℕ) (go : ℕ → Stopped) → n < units → pay units n go ≡ has_spent n
pay_spent units n go lt = ap (λ (b : Bool). if b then go (n - units) else has_spent n) (lt-leb units n lt)

pub pay_goes : (units n : ℕ) (go : ℕ → Stopped) → units ≤ n → pay units n go ≡ go (n - units)
pay_goes units n go le = ap (λ (b : Bool). if b then go (n - units) else has_spent n) (le-leb units n le)

pub pay_either : (P : Stopped → Type 0) (units n : ℕ) (go : ℕ → Stopped) → (n < units → P (has_spent n)) → (units ≤ n → P (go (n - units))) → P (pay units n go)
pay_either P units n go short there = elim (cases_lt n units) [
  | inl lt ↦ subst P (sym (pay_spent units n go lt)) (short lt)
  | inr le ↦ subst P (sym (pay_goes units n go le)) (there le)
]

-- ---- a walk that is long enough

-- it is not cut short, and where it asks the host there is less to come
abbrev Ends : ℕ → Stopped → Type 0
Ends m goes_on = ⊥
Ends m (has_asked x args c n) = 3 * n + all_depth c.calls < m
Ends m (has_finished v c n) = Unit {0}
Ends m (has_trapped c n) = Unit {0}
Ends m (has_spent n) = Unit {0}
Ends m is_stuck = Unit {0}

wider : (k m : ℕ) (x : Stopped) → k ≤ m → Ends k x → Ends m x
wider k m goes_on le h = h
wider k m (has_asked x args c n) le h = omega (arith, le, h)
wider k m (has_finished v c n) le h = tt
wider k m (has_trapped c n) le h = tt
wider k m (has_spent n) le h = tt
wider k m is_stuck le h = tt

less_to_come : (n d units : ℕ) (c : Config) → StepLeads d (moves units c) → units ≤ n → 3 * (n - units) + all_depth c.calls < 3 * n + d
less_to_come n d zero c h le = omega (arith, h)
less_to_come n d (suc k) c h le = omega (arith, h, le)

less_to_ask : (n d x : ℕ) (is_paid : Bool) (args : List Value) (c : Config) → StepLeads d (asks_host is_paid x args c) → unit_if is_paid ≤ n → 3 * (n - unit_if is_paid) + all_depth c.calls < 3 * n + d
less_to_ask n d x false args c h le = omega (arith, h)
less_to_ask n d x true args c h le = omega (arith, h, le)

walked_by : (p : Program) (g n d : ℕ) (x : Stepped) → StepLeads d x → 3 * n + d < suc g →
    ((m : ℕ) (c : Config) → 3 * m + all_depth c.calls < g → Ends (3 * m + all_depth c.calls) (walk p g m c)) →
    Ends (3 * n + d) (walk_by x n (λ m c. walk p g m c))
walked_by p g n d (moves units c) h lt ih = pay_either (λ x. Ends (3 * n + d) x) units n (λ m. walk p g m c) (λ short. tt) (λ le.
    let less = less_to_come n d units c h le in
    wider (3 * (n - units) + all_depth c.calls) (3 * n + d) (walk p g (n - units) c) (omega (arith, less)) (ih (n - units) c (omega (arith, less, lt))))
walked_by p g n d (finished v c) h lt ih = tt
walked_by p g n d (asks_host is_paid x args c) h lt ih =
    pay_either (λ x. Ends (3 * n + d) x) (unit_if is_paid) n (λ m. has_asked x args c m) (λ short. tt) (λ le. less_to_ask n d x is_paid args c h le)
walked_by p g n d (traps c) h lt ih = pay_either (λ x. Ends (3 * n + d) x) 1 n (λ m. has_trapped c m) (λ short. tt) (λ le. tt)
walked_by p g n d overflows h lt ih = tt
walked_by p g n d no_step h lt ih = tt

walks : (p : Program) (g n : ℕ) (c : Config) → 3 * n + all_depth c.calls < g → Ends (3 * n + all_depth c.calls) (walk p g n c)
unfolding walk
walks p zero n c lt = absurd (omega (arith, lt))
walks p (suc g) n c lt = walked_by p g n (all_depth c.calls) (step p c) (step_leads p c) lt (λ m d. walks p g m d)

runs : (p : Program) (n : ℕ) (c : Config) → Ends (3 * n + all_depth c.calls) (run p n c)
runs p n c = let lt : 3 * n + all_depth c.calls < enough n c = omega arith in walks p (enough n c) n c lt

no_cut : (m : ℕ) (x : Stopped) → Ends m x → IsCutShort x → ⊥
no_cut m goes_on h e = h
no_cut m (has_asked x args c n) h e = e
no_cut m (has_finished v c n) h e = e
no_cut m (has_trapped c n) h e = e
no_cut m (has_spent n) h e = e
no_cut m is_stuck h e = e

pub runs_to_its_end : RunsToItsEnd
runs_to_its_end p n c = no_cut (3 * n + all_depth c.calls) (run p n c) (runs p n c)

-- ---- the same with a host

same_depth : (v : Option Value) (t : Thread) → depth_in (answered v t) ≡ depth_in t
same_depth v (code vs rest) = refl
same_depth v (label vs a again t rest) = ap (λ (d : ℕ). d + 1) (same_depth v t)
same_depth v (frame vs a own t rest) = ap (λ (d : ℕ). d + 1) (same_depth v t)
same_depth v (at_host x t) = ap (λ (d : ℕ). d + 1) (same_depth v t)

same_calls : (v : Option Value) (cs : List Calling) → all_depth (answer_first v cs) ≡ all_depth cs
same_calls v [] = refl
same_calls v (c ∷ cs) = ap (λ (d : ℕ). d + (1 + all_depth cs)) (same_depth v c.thread)

answer_ends : {H : Type 0} (g m : ℕ) (asked : Stopped) (h : H) (d : Config) (left : ℕ) (a : Answer H) (go : Config → ℕ → H → Ran H) → Ends m asked → GivesBack d left a → 3 * left + all_depth d.calls < g →
    ((c : Config) (n : ℕ) (k : H) → 3 * n + all_depth c.calls < g → IsCutShort (go c n k).stopped → ⊥) →
    IsCutShort (hosted asked h a go).stopped → ⊥
answer_ends g m asked h d left (answers v d' n h') go e (kept, le) lt ih = ih (answered_config v d') n h' (let same : all_depth (answer_first v d'.calls) ≡ all_depth d.calls = same_calls v d'.calls ∙ ap all_depth kept in omega (arith, same, le, lt))
answer_ends g m asked h d left (ends x h') go e kept lt ih = kept
answer_ends g m asked h d left waits go e kept lt ih = no_cut m asked e

hosted_ends : {H : Type 0} (host : Host H) (g m : ℕ) (x : Stopped) (h : H) (go : Config → ℕ → H → Ran H) → IsWithin host → Ends m x → m < suc g →
    ((c : Config) (n : ℕ) (k : H) → 3 * n + all_depth c.calls < g → IsCutShort (go c n k).stopped → ⊥) →
    IsCutShort (hosted_by host x h go).stopped → ⊥
hosted_ends host g m goes_on h go within e lt ih = absurd e
hosted_ends host g m (has_asked x args c n) h go within e lt ih = answer_ends g m (has_asked x args c n) h c n (host h x args c n) go e (within h x args c n) (omega (arith, e, lt)) ih
hosted_ends host g m (has_finished v c n) h go within e lt ih = λ e. e
hosted_ends host g m (has_trapped c n) h go within e lt ih = λ e. e
hosted_ends host g m (has_spent n) h go within e lt ih = λ e. e
hosted_ends host g m is_stuck h go within e lt ih = λ e. e

walks_hosted : {H : Type 0} (host : Host H) (p : Program) → IsWithin host → (g n : ℕ) (h : H) (c : Config) → 3 * n + all_depth c.calls < g → IsCutShort (walk_hosted host p g n h c).stopped → ⊥
unfolding walk_hosted
walks_hosted host p within zero n h c lt = absurd (omega (arith, lt))
walks_hosted host p within (suc g) n h c lt = hosted_ends host g (3 * n + all_depth c.calls) (run p n c) h (λ d m k. walk_hosted host p g m k d) within (runs p n c) lt (λ d m k. walks_hosted host p within g m k d)

pub hosted_runs_to_its_end : (H : Type 0) → HostedRunsToItsEnd H
hosted_runs_to_its_end H host p n h c within = let lt : 3 * n + all_depth c.calls < enough n c = omega arith in walks_hosted host p within (enough n c) n h c lt

-- ---- more fuel

pay_more : (k units n : ℕ) (go more : ℕ → Stopped) → ((m : ℕ) → HasMore k (go m) (more (m + k))) → HasMore k (pay units n go) (pay units (n + k) more)
pay_more k units n go more h = pay_either (λ x. HasMore k x (pay units (n + k) more)) units n go (λ short. tt) (λ le.
    let e : n - units + k ≡ n + k - units = omega (arith, le) in
    subst (λ (y : Stopped). HasMore k (go (n - units)) y) (sym (pay_goes units (n + k) more (omega (arith, le)))) (subst (λ (m : ℕ). HasMore k (go (n - units)) (more m)) e (h (n - units))))

more_by : (p : Program) (g more n k : ℕ) (s : Stepped) → ((m : ℕ) (c : Config) → HasMore k (walk p g m c) (walk p more (m + k) c)) →
    HasMore k (walk_by s n (λ m d. walk p g m d)) (walk_by s (n + k) (λ m d. walk p more m d))
more_by p g more n k (moves units d) ih = pay_more k units n (λ m. walk p g m d) (λ m. walk p more m d) (λ m. ih m d)
more_by p g more n k (finished v d) ih = refl
more_by p g more n k (asks_host is_paid x args d) ih = pay_more k (unit_if is_paid) n (λ m. has_asked x args d m) (λ m. has_asked x args d m) (λ m. refl)
more_by p g more n k (traps c) ih = pay_more k 1 n (λ m. has_trapped c m) (λ m. has_trapped c m) (λ m. refl)
more_by p g more n k overflows ih = refl
more_by p g more n k no_step ih = refl

walks_more : (p : Program) (g more n k : ℕ) (c : Config) → g ≤ more → HasMore k (walk p g n c) (walk p more (n + k) c)
unfolding walk
walks_more p zero more n k c le = tt
walks_more p (suc g) zero n k c le = absurd (omega (arith, le))
walks_more p (suc g) (suc more) n k c le = more_by p g more n k (step p c) (λ m d. walks_more p g more m k d (omega (arith, le)))

pub fuel_only_bounds : FuelOnlyBounds
fuel_only_bounds p n k c = let le : enough n c ≤ enough (n + k) c = omega arith in walks_more p (enough n c) (enough (n + k) c) n k c le
