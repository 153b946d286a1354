-- Bounds and times.
use Rattle.std.proofs.Common.{◌≡◌, ◌≤◌, ℕ, zero, suc, ◌+◌, ◌*◌, ◌==◌, Bool, true, false, ◌||◌, List, [], ◌∷◌, length, refl, ap, ◌∙◌, sym, subst, le-leb, lt-ltb}
use Rattle.std.proofs.lemmas.List.Elements.{Contains-append_left, Contains-append_right, Contains-push}
use Rattle.std.specs.Prelude.{Contains, Option, None, Some, insert, is_some, nat_lt, slice_get, if◌then◌else◌}
use Rattle.exchange.specs.declared.types.Filter.{Filter}
use Rattle.filter_chain.specs.Chains.{bytes_at}
use Rattle.filter_chain.specs.Items.{size}
use Rattle.gate_io.specs.declared.event.Side.TheVariants.{Down}
use Rattle.gate_io.specs.declared.event.Sent.TheVariants as to
use Rattle.worker_model.specs.Room.{Room}
use Rattle.worker_model.specs.Rooms.{room_with_sent}
use Rattle.worker_model.specs.Steps.{at_most_last, close_line, done_jobs, drop_line, most_lines, new_line, place_for, read_side, root_jobs}
use Rattle.worker_model.specs.declared.types.Job.{Job}
use Rattle.worker_model.specs.declared.types.Job.TheVariants as jobs
use Rattle.law_bodies.specs.Bounds.{ContextsBeginAndEnd, LinesAreTakenAndStay, StagesHoldAMegabyte, TimesAreKept}
use Rattle.law_bodies.proofs.Stepwise.{is_not}

or_true : (b : Bool) → (b || true) ≡ true
or_true true = refl
or_true false = refl

pub hold_a_megabyte : StagesHoldAMegabyte
hold_a_megabyte h n s small = ap (λ b. (n == 0) || b) (le-leb (length (bytes_at h s) + size s.waiting + n) 1048576 small) ∙ or_true (n == 0)

-- ---- lines

-- a connection was opened, of a line that is there or not, with room for it or not
abbrev accepted : ℕ → Room → Bool → Bool → Room
accepted number room there has_room =
    if there then room else if has_room then record room { lines = insert room.lines (place_for number room.lines) (new_line number) } else room_with_sent (to.Close number Down ∷ []) room

-- a line after its exchange
abbrev after_exchange : ℕ → Room → Bool → Bool → Room
after_exchange number room gone stays = if gone then drop_line number room else if stays then read_side number false room else close_line number room

pub taken_and_stay : LinesAreTakenAndStay
taken_and_stay = record {
  taken = λ number room none few.
      ap (λ (o : Option ℕ). accepted number room (is_some o) (nat_lt (length room.lines) most_lines)) none ∙ ap (accepted number room false) (lt-ltb (length room.lines) 128 few);
  stays = λ line number room here. ap (λ b. after_exchange number room b true) here;
  closes = λ line number room here. ap (λ b. after_exchange number room b false) here;
}

-- ---- times

at_most : (moment : ℕ) → moment ≤ 18446744073709551615 → at_most_last moment ≡ moment
at_most moment low = ap (λ b. if b then moment else 18446744073709551615) (le-leb moment 18446744073709551615 low)

pub times_kept : TimesAreKept
times_kept = record {
  due = λ now deadline some low. ap (λ b. if b then None else Some (at_most_last (now + deadline * 1000000))) (is_not deadline 0 some) ∙ ap (λ (m : ℕ). Some m) (at_most (now + deadline * 1000000) low);
  never = λ now. refl;
  tick = λ now t low. at_most (now + t.period) low;
  period = λ now t. refl;
}

-- ---- contexts

here : (job : Job) (more : List Job) → Contains (job ∷ more) job
here job more = Contains-append_left (job ∷ []) more job (Contains-push [] job)

after : (one job : Job) (more : List Job) → Contains more job → Contains (one ∷ more) job
after one job more there = Contains-append_right (one ∷ []) more job there

configured : (vm root plugin : ℕ) (first : Bool) → Contains (if first then jobs.Start vm root ∷ jobs.Configure vm root plugin ∷ [] else jobs.Configure vm root plugin ∷ []) (jobs.Configure vm root plugin)
configured vm root plugin true = after (jobs.Start vm root) (jobs.Configure vm root plugin) (jobs.Configure vm root plugin ∷ []) (here (jobs.Configure vm root plugin) [])
configured vm root plugin false = here (jobs.Configure vm root plugin) []

some_filter : (f g : Filter) → Some f ≡ Some g → f ≡ g
some_filter f g is = cc

-- with one more in front, or not
in_done : (b : Bool) (one job : Job) (more : List Job) → Contains more job → Contains (if b then one ∷ more else more) job
in_done true one job more there = after one job more there
in_done false one job more there = there

all_done : (filters : List Filter) (place : ℕ) (f : Filter) → slice_get filters place ≡ Some f → f.created ≡ true → Contains (done_jobs filters) (jobs.Done (record { vm = f.vm; context = f.context }))
all_done [] zero f at made = absurd (cc at)
all_done [] (suc place) f at made = absurd (cc at)
all_done (g ∷ filters) zero f at made =
    let same : g ≡ f = some_filter g f at in
    subst (λ (b : Bool). Contains (if b then jobs.Done (record { vm = g.vm; context = g.context }) ∷ done_jobs filters else done_jobs filters) (jobs.Done (record { vm = f.vm; context = f.context })))
    (sym (ap (λ (k : Filter). k.created) same ∙ made))
    (subst (λ (k : Filter). Contains (jobs.Done (record { vm = k.vm; context = k.context }) ∷ done_jobs filters) (jobs.Done (record { vm = f.vm; context = f.context }))) (sym same)
    (here (jobs.Done (record { vm = f.vm; context = f.context })) (done_jobs filters)))
all_done (g ∷ filters) (suc place) f at made =
    in_done g.created (jobs.Done (record { vm = g.vm; context = g.context })) (jobs.Done (record { vm = f.vm; context = f.context })) (done_jobs filters) (all_done filters place f at made)

root_has : (vm root plugin : ℕ) (first : Bool) → Contains (root_jobs vm root plugin first) (jobs.Configure vm root plugin)
root_has vm root plugin true = configured vm root plugin true
root_has vm root plugin false = configured vm root plugin false

pub begin_and_end : ContextsBeginAndEnd
begin_and_end = record { configured = root_has; done = all_done }
