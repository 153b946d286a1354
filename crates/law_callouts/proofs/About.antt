-- The steps of callouts, in hand and still to come, that are about the one of an id.
use Rattle.std.proofs.Common.{◌≡◌, ℕ, zero, suc, ◌-◌, ◌==◌, Bool, true, false, not, ◌&&◌, List, [], ◌∷◌, ◌++◌, length, refl, sym, ap, ◌∙◌}
use Rattle.std.proofs.lemmas.List.{append_assoc}
use Rattle.std.specs.Prelude.{Option, None, Some, if◌then◌else◌}
use Rattle.callouts.specs.Callouts.{first_line, line_in}
use Rattle.callouts.specs.declared.types.CallStep.{CallStep}
use Rattle.callouts.specs.declared.types.CallStep.TheVariants as steps
use Rattle.exchange.specs.declared.types.Exchange.{Exchange}
use Rattle.exchange.specs.declared.types.Filter.{Filter}
use Rattle.filter_chain.specs.declared.item.ChainItem.{ChainItem}
use Rattle.worker_model.specs.Room.{Room}
use Rattle.worker_model.specs.Steps.{root_jobs, create_jobs, put_jobs, refuse_jobs, exchange_jobs, begin_jobs_for, begins_with_head, jobs_of, exchange_on, done_jobs}
use Rattle.worker_model.specs.declared.types.Job.{Job}
use Rattle.worker_model.specs.declared.types.Job.TheVariants as jobs
use Rattle.worker_model.specs.declared.types.OtherStep.{OtherStep}
use Rattle.worker_model.specs.declared.types.OtherStep.TheVariants as others
use Rattle.worker_model.specs.declared.types.ReadBatch.{ReadBatch}

abbrev pub is_at : ℕ → Option ℕ → Bool
is_at id None = false
is_at id (Some line) = (line - first_line) == id

abbrev pub is_about : ℕ → CallStep → Bool
is_about id (steps.Comes what) = is_at id (line_in what)
is_about id (steps.Read n) = n == id
is_about id (steps.Fail n) = n == id
is_about id (steps.Answer n) = n == id

abbrev pub about_step : ℕ → CallStep → List CallStep
about_step id s = if is_about id s then s ∷ [] else []

abbrev pub about_other : ℕ → OtherStep → List CallStep
about_other id (others.Call s) = about_step id s
about_other id (others.Tcp s) = []

abbrev pub about_job : ℕ → Job → List CallStep
about_job id (jobs.Begin vm) = []
about_job id (jobs.Root vm plugin first) = []
about_job id (jobs.Start vm root) = []
about_job id (jobs.Configure vm root plugin) = []
about_job id (jobs.Tick vm root) = []
about_job id jobs.Expire = []
about_job id (jobs.Happen what) = []
about_job id (jobs.Create number k) = []
about_job id (jobs.Enter number) = []
about_job id (jobs.Put number response list) = []
about_job id (jobs.Refuse number status) = []
about_job id (jobs.Done c) = []
about_job id (jobs.Log c) = []
about_job id (jobs.Delete c) = []
about_job id (jobs.Close number stays) = []
about_job id (jobs.Notice vm left) = []
about_job id (jobs.Ready vm root queue) = []
about_job id (jobs.Other s) = about_other id s

abbrev pub about : ℕ → List Job → List CallStep
about id [] = []
about id (job ∷ more) = about_job id job ++ about id more

-- in hand and to come
abbrev pub pend : ℕ → Room → List CallStep
pend id room = about id (room.jobs ++ room.agenda)

-- ---- lists of jobs

pub about_join : (id : ℕ) (a b : List Job) → about id (a ++ b) ≡ about id a ++ about id b
about_join id [] b = refl
about_join id (job ∷ a) b = ap (λ (l : List CallStep). about_job id job ++ l) (about_join id a b) ∙ sym (append_assoc (about_job id job) (about id a) (about id b))

-- two lists that say nothing of it
pub none_join : (id : ℕ) (a b : List Job) → about id a ≡ [] → about id b ≡ [] → about id (a ++ b) ≡ []
none_join id a b one two = about_join id a b ∙ ap (λ (l : List CallStep). l ++ about id b) one ∙ two

-- such jobs come first
pub first_none : (id : ℕ) (more js agenda : List Job) → about id more ≡ [] → about id ((more ++ js) ++ agenda) ≡ about id (js ++ agenda)
first_none id more js agenda none =
    ap (about id) (append_assoc more js agenda) ∙ about_join id more (js ++ agenda) ∙ ap (λ (l : List CallStep). l ++ about id (js ++ agenda)) none

-- such parts come first among those of the turn
pub agenda_none : (id : ℕ) (more js agenda : List Job) → about id more ≡ [] → about id (js ++ (more ++ agenda)) ≡ about id (js ++ agenda)
agenda_none id more js agenda none =
    about_join id js (more ++ agenda) ∙ ap (λ (l : List CallStep). about id js ++ l) (about_join id more agenda ∙ ap (λ (l : List CallStep). l ++ about id agenda) none)
    ∙ sym (about_join id js agenda)

-- ---- the lists that steps make say nothing of any callout

pub root_none : (id vm root plugin : ℕ) (first : Bool) → about id (root_jobs vm root plugin first) ≡ []
root_none id vm root plugin true = refl
root_none id vm root plugin false = refl

create_none : (id number k : ℕ) → about id (create_jobs number k) ≡ []
create_none id number zero = refl
create_none id number (suc k) = none_join id (create_jobs number k) (jobs.Create number k ∷ []) (create_none id number k) refl

put_none : (id number : ℕ) (response : Bool) (list : List ChainItem) → about id (put_jobs number response list) ≡ []
put_none id number response [] = refl
put_none id number response (item ∷ more) = refl

refuse_none : (id number : ℕ) (status : Option ℕ) → about id (refuse_jobs number status) ≡ []
refuse_none id number None = refl
refuse_none id number (Some status) = refl

exchange_none : (id : ℕ) (r : ReadBatch) (status : Option ℕ) (x : Exchange) (o : Option ℕ) → about id (exchange_jobs r status x o) ≡ []
exchange_none id r status x (Some number) = refl
exchange_none id r status x None =
    none_join id (create_jobs r.line (length x.filters)) (jobs.Enter r.line ∷ (put_jobs r.line false r.batch ++ refuse_jobs r.line status)) (create_none id r.line (length x.filters))
    (none_join id (put_jobs r.line false r.batch) (refuse_jobs r.line status) (put_none id r.line false r.batch) (refuse_none id r.line status))

begin_none : (id : ℕ) (r : ReadBatch) (status : Option ℕ) (o : Option Exchange) → about id (begin_jobs_for r status o) ≡ []
begin_none id r status None = refl
begin_none id r status (Some x) = exchange_none id r status x x.refusal

pub pick_none : (id : ℕ) (b : Bool) (x y : List Job) → about id x ≡ [] → about id y ≡ [] → about id (if b then x else y) ≡ []
pick_none id true x y one two = one
pick_none id false x y one two = two

pub read_none : (id : ℕ) (r : ReadBatch) (status : Option ℕ) (room : Room) → about id (jobs_of r status room) ≡ []
read_none id r status room =
    pick_none id (begins_with_head r.batch && not r.up) (begin_jobs_for r status (exchange_on r.line room)) (put_jobs r.line r.up r.batch ++ refuse_jobs r.line status) (begin_none id r status (exchange_on r.line room))
    (none_join id (put_jobs r.line r.up r.batch) (refuse_jobs r.line status) (put_none id r.line r.up r.batch) (refuse_none id r.line status))

pub done_none : (id : ℕ) (filters : List Filter) → about id (done_jobs filters) ≡ []
done_none id [] = refl
done_none id (f ∷ filters) = pick_none id f.created (jobs.Done (record { vm = f.vm; context = f.context }) ∷ done_jobs filters) (done_jobs filters) (done_none id filters) (done_none id filters)
