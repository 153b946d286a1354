-- A replay has its headline.
use Rattle.std.proofs.Common.{◌≡◌, ◌≤◌, ℕ, suc, Bool, true, false, List, [], ◌∷◌, length, map, Option, None, Some, refl, ap, sym, ◌∙◌, subst, arith, inl, inr}
use Rattle.std.specs.Prelude.{All, if◌then◌else◌, ◌==◌}
use Rattle.std.proofs.lemmas.List.{append-nil}
use Rattle.std.proofs.lemmas.List.Elements.{All-cons, All-nil, All-append}
use Rattle.commands.specs.Doing.{Obeys}
use Rattle.commands.specs.Scripts.{IsPlayed}
use Rattle.filter_host.specs.Course.{calls_in}
use Rattle.gate_config.specs.declared.config.Config.{Config as Configured}
use Rattle.gate_io.specs.declared.event.Event.{Event}
use Rattle.gate_io.specs.declared.event.What.{What}
use Rattle.command_replay_filters.specs.Filtered.{filtered}
use Rattle.replay_script.specs.Commands.{IsInForm, what_of}
use Rattle.replay_script.specs.Prints.{Told}
use Rattle.replay_script.specs.Scripts.{Standing, AreLines, at_start, behind, worker_behind, worker_of, workers_from, workers_of}
use Rattle.replay_script.specs.declared.command.Command.{Command}
use Rattle.replay_script.specs.declared.command.Command.TheVariants.{On, At, Open, Bytes, End, Gone, Joined, Refused, UpBytes, UpEnd, UpGone, Clock, Stop}
use Rattle.command_replay.specs.Delivered.{EachMeans, InItsWorld, Step, events_in, met_in, sent_of, placed_step, steps_of, turns_in}
use Rattle.command_replay.specs.Laws.{EachHasItsWorker}
use Rattle.command_replay.specs.Replay.{Placed, placed_of, seed}
use Rattle.store_model.specs.Made.{Made, MadeCall, calls_among, entries_on}
use Rattle.store_model.specs.History.{entry}
use Rattle.std.specs.List.{filter}
use Rattle.vm_host.specs.Slots.{calling}
use Rattle.command_words.specs.Forms.{replay, replay_config, serve, check, invoke, generate, report}
use Rattle.law_fleet.specs.Calls.{IsOfAWorker}
use Rattle.promises.specs.Headline.{IsMeant, IsWhole, Life}
use Rattle.promises.specs.Replays.{Played, ReplayHasItsHeadline, ScriptHeadline, events_at, first_of}
use Rattle.promises.proofs.Histories.{history_of, legal, own_history}

-- ---- the events of a script are at workers that are there

one_behind : (who : ℕ) (command : Command) → IsInForm command → 1 ≤ who → 1 ≤ worker_behind who command
one_behind who (On worker) form low = form.low
one_behind who (At moment) form low = low
one_behind who (Open line) form low = low
one_behind who (Bytes line bytes) form low = low
one_behind who (End line) form low = low
one_behind who (Gone line) form low = low
one_behind who (Joined line) form low = low
one_behind who (Refused line) form low = low
one_behind who (UpBytes line bytes) form low = low
one_behind who (UpEnd line) form low = low
one_behind who (UpGone line) form low = low
one_behind who Clock form low = low
one_behind who Stop form low = low

abbrev IsThere : ℕ → ℕ → Type 0
IsThere n who = (1 ≤ who) × (who ≤ n)

there_of : (n who : ℕ) (what : Option What) → IsThere n who → All (IsThere n) (worker_of who what)
there_of n who None there = All-nil (IsThere n)
there_of n who (Some what) there = All-cons (IsThere n) who [] there (All-nil (IsThere n))

all_there : (commands : List Command) (standing : Standing) → AreLines standing commands → IsThere standing.workers standing.who → All (IsThere standing.workers) (workers_from standing.who commands)
all_there [] standing lines there = All-cons (IsThere standing.workers) standing.who [] there (All-nil (IsThere standing.workers))
all_there (command ∷ commands) standing lines there =
    All-append (IsThere standing.workers) (worker_of standing.who (what_of command)) (workers_from (worker_behind standing.who command) commands) (there_of standing.workers standing.who (what_of command) there)
    (all_there commands (behind standing command) lines.1 (one_behind standing.who command lines.0.in_form there.0, lines.0.there))

-- each of these is at a worker up to the last
abbrev AreThere : ℕ → List Placed → Type 0
AreThere n [] = Unit {0}
AreThere n (p ∷ events) = (1 ≤ p.who) × (p.who ≤ n) × AreThere n events

there_placed : (n : ℕ) (events : List Placed) (whose : List ℕ) → map (λ (p : Placed). p.who) events ≡ whose → All (IsThere n) whose → AreThere n events
there_placed n [] whose is all = tt
there_placed n (p ∷ events) whose is all =
    let here = subst (All (IsThere n)) (sym is) all in
    let first = here 0 0 (omega arith) in
    (first.0, first.1, there_placed n events (map (λ (x : Placed). x.who) events) refl (λ k d low. here (suc k) d (omega (arith, low))))

-- ---- nobody else's calls

of_one : (n who : ℕ) (ms : List MadeCall) → IsThere n who → All (IsOfAWorker n) (map (λ (m : MadeCall). entry who m.call m.reply) ms)
of_one n who [] there = All-nil (IsOfAWorker n)
of_one n who (m ∷ ms) there = All-cons (IsOfAWorker n) (entry who m.call m.reply) _ there (of_one n who ms there)

of_all : (n vm : ℕ) (steps : List Step) → AreThere n (map placed_step steps) → All (IsOfAWorker n) (history_of vm steps)
unfolding history_of
of_all n vm [] there = All-nil (IsOfAWorker n)
of_all n vm (x ∷ steps) there =
    All-append (IsOfAWorker n) (entries_on x.who vm (calls_in x.met)) (history_of vm steps) (of_one n x.who (filter (λ (m : MadeCall). m.vm == vm) (calls_among (calls_in x.met))) (there.0, there.1))
    (of_all n vm steps there.2)

-- ---- the events of a worker

events_if : (b : Bool) (x : Step) (steps : List Step) (events : List Event) → events_in steps ≡ events → events_in (if b then x ∷ steps else steps) ≡ (if b then x.event ∷ events else events)
events_if true x steps events same = ap (λ (es : List Event). x.event ∷ es) same
events_if false x steps events same = same

events_same : (who : ℕ) (steps : List Step) → events_in (steps_of who steps) ≡ events_at who (map placed_step steps)
events_same who [] = refl
events_same who (x ∷ steps) = events_if (x.who == who) x (steps_of who steps) (events_at who (map placed_step steps)) (events_same who steps)

-- ---- the headline

pub script_headline : (config : Configured) (events : List Placed) (sent : List Told) → AreThere config.workers events → EachMeans (filtered config) events sent → ScriptHeadline config events sent
unfolding filtered
script_headline config events sent there e =
    let calls : ℕ → List Made = λ who. calls_in (met_in (steps_of who e.steps)) in
    record {
      calls = calls;
      each = λ who low high.
          let w : InItsWorld (filtered config) who (steps_of who e.steps) (sent_of who sent) = e.worlds who low high in
          let life : Life = record { events = events_in (steps_of who e.steps); met = met_in (steps_of who e.steps); passed = w.passed; closes = [] } in
          let whole : IsWhole calling (first_of config who seed) life =
          record {
            steps = w.passed;
            vain = [];
            passed_is = sym (append-nil w.passed);
            in_vain = inl refl;
            turns = record { state = w.state; turns = turns_in (steps_of who e.steps); means = w.means; waits = []; delivers = w.delivers };
          } in
          let meant : IsMeant calling (first_of config who seed) life = (inl whole, tt) in
          record {
            seed = seed;
            lives = life ∷ [];
            meant = All-cons (IsMeant calling (first_of config who seed)) life [] meant (All-nil (IsMeant calling (first_of config who seed)));
            calls_are = sym (append-nil (calls who));
            world = record {
              seed_is = refl;
              life = life;
              one = refl;
              events_are = events_same who e.steps ∙ ap (events_at who) e.placed_are;
              received_is = w.received_is;
            };
          };
      histories = λ vm low. record {
        history = history_of vm e.steps;
        legal = legal vm (length config.vms) e.steps e.shared low e.stepped;
        of_each = λ who least most. own_history who vm e.steps;
        no_others = of_all config.workers vm e.steps (subst (AreThere config.workers) (sym e.placed_are) there);
      };
    }

played : ((commands : List Command) → EachHasItsWorker commands) → (config : Configured) (text : List ℕ) (old new : Option (List ℕ)) → IsPlayed config text old new → Played config text old new
played placing config text old new p =
    let some = config.kept.worker_count.0 in
    let there = there_placed config.workers (placed_of p.commands) (workers_of p.commands) (placing p.commands).workers (all_there p.commands (at_start config.workers) p.script.lines ((omega arith), some)) in
    record {
      commands = p.commands;
      script = p.script;
      sent = p.prints.sent;
      headline = script_headline config (placed_of p.commands) p.prints.sent there p.prints.means;
      printed = p.prints.gained;
    }

pub replay_has_its_headline : (W : Type 0) → ((commands : List Command) → EachHasItsWorker commands) → ReplayHasItsHeadline W
unfolding Obeys
replay_has_its_headline W placing eyes files (replay script modules) site after old new (same, inl none) = absurd none.0
replay_has_its_headline W placing eyes files (replay script modules) site after old new (same, inr (config, loads, (text, is, p))) = (config, loads, (text, is, played placing config text old new p))
replay_has_its_headline W placing eyes files (replay_config path script) site after old new (same, inl none) = absurd none.0
replay_has_its_headline W placing eyes files (replay_config path script) site after old new (same, inr (config, loads, (text, is, p))) = (config, loads, (text, is, played placing config text old new p))
replay_has_its_headline W placing eyes files (serve config stop_after) site after old new obeys = tt
replay_has_its_headline W placing eyes files (check config) site after old new obeys = tt
replay_has_its_headline W placing eyes files (invoke file export arguments) site after old new obeys = tt
replay_has_its_headline W placing eyes files (generate n) site after old new obeys = tt
replay_has_its_headline W placing eyes files (report path) site after old new obeys = tt
