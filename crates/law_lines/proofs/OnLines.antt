-- A line of a number that changes, among the others; and the jobs of a line.
use Rattle.std.proofs.Common.{◌≡◌, ℕ, zero, suc, ◌==◌, Bool, true, false, not, ◌&&◌, cond, List, [], ◌∷◌, ◌++◌, length, refl, ap, ◌∙◌, sym, subst}
use Rattle.std.specs.Prelude.{Option, None, Some, option_map, slice_get, slice_set, find, if◌then◌else◌}
use Rattle.exchange.specs.declared.types.Exchange.{Exchange}
use Rattle.filter_chain.specs.declared.item.ChainItem.{ChainItem}
use Rattle.worker_model.specs.Room.{Room}
use Rattle.worker_model.specs.declared.types.Job.{Job}
use Rattle.worker_model.specs.declared.types.Job.TheVariants as jobs
use Rattle.worker_model.specs.declared.types.Line.{Line}
use Rattle.worker_model.specs.declared.types.ReadBatch.{ReadBatch}
use Rattle.worker_model.specs.Rooms.{has_move}
use Rattle.worker_model.specs.Steps.{on_line, line_at, line_at_place, create_jobs, refuse_jobs, put_jobs, exchange_jobs, begin_jobs_for, begins_with_head, jobs_of, exchange_on}
use Rattle.law_lines.proofs.Finding.{Seeks, missing, first, seeks, IsOnce, set_other, only_found, set_once, set_there}
use Rattle.law_lines.proofs.Kept.{by_bool}
use Rattle.law_lines.proofs.Looks.{is_n, look, equal_by}
use Rattle.law_lines.proofs.Story.{put_of, puts_of, NoClose, NoEnter, Tail, Rests}

-- what leaves a line its number
abbrev pub Numbered : (Line → Line) → Type 0
Numbered f = (l : Line) → (f l).number ≡ l.number

alike : (n : ℕ) (f : Line → Line) (l : Line) → Numbered f → is_n n (f l) ≡ is_n n l
alike n f l numbered = ap (λ (a : ℕ). a == n) (numbered l)

at_first : (f : Line → Line) (m : ℕ) (lines : List Line) → Seeks (is_n m) lines → (P : List Line → Type 0) → (look m lines ≡ None → P lines)
    → ((k : ℕ) (l : Line) → slice_get lines k ≡ Some l → is_n m l ≡ true → look m lines ≡ Some l → P (slice_set lines k (f l))) → P (on_line f m lines)
at_first f m lines (missing at none) P here there = subst P (sym (ap (line_at_place f lines) at)) (here none)
at_first f m lines (first k l at is passes found) P here there = subst P (sym (ap (line_at_place f lines) at ∙ ap (line_at f lines k) is)) (there k l is passes found)

pub on_once : (n m : ℕ) (f : Line → Line) (lines : List Line) → Numbered f → IsOnce (is_n n) lines → IsOnce (is_n n) (on_line f m lines)
on_once n m f lines numbered once = at_first f m lines (seeks (is_n m) lines) (IsOnce (is_n n)) (λ e. once) (λ k l there passes found. set_once (is_n n) lines k l (f l) once there (alike n f l numbered))

-- another line
pub on_other : (n m : ℕ) (f : Line → Line) (lines : List Line) → Numbered f → (m == n) ≡ false → look n (on_line f m lines) ≡ look n lines
on_other n m f lines numbered other =
    at_first f m lines (seeks (is_n m) lines) (λ ls. look n ls ≡ look n lines) (λ e. refl)
    (λ k l there passes found.
    let same : l.number ≡ m = equal_by l.number m passes in
    let is : is_n n l ≡ false = ap (λ (a : ℕ). a == n) same ∙ other in
    set_other (is_n n) lines k l (f l) there is (alike n f l numbered ∙ is))

-- the line
pub on_same : (n m : ℕ) (f : Line → Line) (lines : List Line) → Numbered f → IsOnce (is_n n) lines → (m == n) ≡ true → look n (on_line f m lines) ≡ option_map f (look n lines)
on_same n m f lines numbered once same =
    at_first f m lines (seeks (is_n m) lines) (λ ls. look n ls ≡ option_map f (look n lines))
    (λ none. let gone : look n lines ≡ None = subst (λ (a : ℕ). look a lines ≡ None) (equal_by m n same) none in gone ∙ sym (ap (option_map f) gone))
    (λ k l there passes found.
    let is : is_n n l ≡ true = subst (λ (a : ℕ). is_n a l ≡ true) (equal_by m n same) passes in
    let here : look n lines ≡ Some l = only_found (is_n n) lines k l once there is in
    only_found (is_n n) (slice_set lines k (f l)) k (f l) (set_once (is_n n) lines k l (f l) once there (alike n f l numbered)) (set_there lines k l (f l) there) (alike n f l numbered ∙ is)
    ∙ sym (ap (option_map f) here))

pub none_passes : {X : Type 0} (p : X → Bool) (xs : List X) (k : ℕ) (x : X) → find p xs ≡ None → slice_get xs k ≡ Some x → p x ≡ false
none_passes p [] k x none at = absurd (cc)
none_passes {X} p (z ∷ xs) k x none at = by_test (p z) refl k at (λ j d e. none_passes p xs j x d e)
  where
    found_first : (b : Bool) → p z ≡ b → find p (z ∷ xs) ≡ cond b (Some z) (find p xs)
    found_first b is = ap (λ c. cond c (Some z) (find p xs)) is

    by_test : (b : Bool) → p z ≡ b → (j : ℕ) → slice_get (z ∷ xs) j ≡ Some x → ((i : ℕ) → find p xs ≡ None → slice_get xs i ≡ Some x → p x ≡ false) → p x ≡ false
    by_test true is j at later = let some : find p (z ∷ xs) ≡ Some z = found_first true is in absurd (cc)
    by_test false is zero at later = let same : z ≡ x = cc in ap p (sym same) ∙ is
    by_test false is (suc j) at later = later j (sym (found_first false is) ∙ none) at

-- no chain moves, where it is none that moves
pub on_rests : (m : ℕ) (f : Line → Line) (lines : List Line) → ((l : Line) → look m lines ≡ Some l → has_move l ≡ false → has_move (f l) ≡ false) → Rests lines → Rests (on_line f m lines)
on_rests m f lines still rests =
    at_first f m lines (seeks (is_n m) lines) Rests (λ e. rests)
    (λ k l there passes found. let is : has_move l ≡ false = none_passes has_move lines k l rests there in set_other has_move lines k l (f l) there is (still l found is) ∙ rests)

-- ---- the jobs of a line

abbrev pub OfLine : ℕ → Job → Type 0
OfLine m (jobs.Create k at) = k ≡ m
OfLine m (jobs.Enter k) = k ≡ m
OfLine m (jobs.Put k response items) = k ≡ m
OfLine m (jobs.Refuse k status) = k ≡ m
OfLine m job = ⊥

abbrev pub AllOfLine : ℕ → List Job → Type 0
AllOfLine m [] = Unit {0}
AllOfLine m (job ∷ later) = OfLine m job × AllOfLine m later

line_join : (m : ℕ) (a b : List Job) → AllOfLine m a → AllOfLine m b → AllOfLine m (a ++ b)
line_join m [] b e f = f
line_join m (job ∷ a) b e f = (e.0, line_join m a b e.1 f)

creates_of : (m k : ℕ) → AllOfLine m (create_jobs m k)
creates_of m zero = tt
creates_of m (suc k) = line_join m (create_jobs m k) (jobs.Create m k ∷ []) (creates_of m k) (refl, tt)

refuses_of : (m : ℕ) (status : Option ℕ) → AllOfLine m (refuse_jobs m status)
refuses_of m None = tt
refuses_of m (Some status) = (refl, tt)

puts_items_of : (m : ℕ) (response : Bool) (items : List ChainItem) → AllOfLine m (put_jobs m response items)
puts_items_of m response [] = tt
puts_items_of m response (item ∷ items) = (refl, tt)

begins_of : (r : ReadBatch) (status : Option ℕ) (o : Option Exchange) → AllOfLine r.line (begin_jobs_for r status o)
begins_of r status None = tt
begins_of r status (Some x) = by_refusal x.refusal
  where
    by_refusal : (q : Option ℕ) → AllOfLine r.line (exchange_jobs r status x q)
    by_refusal (Some number) = (refl, tt)
    by_refusal None = line_join r.line (create_jobs r.line (length x.filters)) _ (creates_of r.line (length x.filters)) (refl, line_join r.line (put_jobs r.line false r.batch) (refuse_jobs r.line status) (puts_items_of r.line false r.batch) (refuses_of r.line status))

pub jobs_of_line : (r : ReadBatch) (status : Option ℕ) (room : Room) → AllOfLine r.line (jobs_of r status room)
jobs_of_line r status room =
    by_bool (AllOfLine r.line) (begins_with_head r.batch && not r.up) (begin_jobs_for r status (exchange_on r.line room)) _ (λ e. begins_of r status (exchange_on r.line room))
    (λ e. line_join r.line (put_jobs r.line r.up r.batch) (refuse_jobs r.line status) (puts_items_of r.line r.up r.batch) (refuses_of r.line status))

-- none of them is an event, or closes a line
pub line_tail : (m : ℕ) (js : List Job) → AllOfLine m js → Tail js
line_tail m [] are = tt
line_tail m (job ∷ later) are = one job are.0 (line_tail m later are.1)
  where
    one : (job : Job) → OfLine m job → Tail later → Tail (job ∷ later)
    one (jobs.Happen w) is tail = absurd is
    one (jobs.Close k stays) is tail = absurd is
    one job is tail = tail

pub line_unclosed : (n m : ℕ) (js : List Job) → AllOfLine m js → NoClose n js
line_unclosed n m [] are = tt
line_unclosed n m (job ∷ later) are = one job are.0 (line_unclosed n m later are.1)
  where
    one : (job : Job) → OfLine m job → NoClose n later → NoClose n (job ∷ later)
    one (jobs.Close k stays) is open_so = absurd is
    one job is open_so = open_so

-- those of another line make no stages of it
pub line_unentered : (n m : ℕ) (js : List Job) → (m == n) ≡ false → AllOfLine m js → NoEnter n js
line_unentered n m [] other are = tt
line_unentered n m (job ∷ later) other are = one job are.0 (line_unentered n m later other are.1)
  where
    one : (job : Job) → OfLine m job → NoEnter n later → NoEnter n (job ∷ later)
    one (jobs.Enter k) is none = (ap (λ (a : ℕ). a == n) is ∙ other, none)
    one job is none = none

-- those of another line put nothing
pub line_puts : (n m : ℕ) (js : List Job) → (m == n) ≡ false → AllOfLine m js → puts_of n js ≡ []
line_puts n m [] other are = refl
line_puts n m (job ∷ later) other are = λ i. one job are.0 i ++ line_puts n m later other are.1 i
  where
    one : (job : Job) → OfLine m job → put_of n job ≡ []
    one (jobs.Put k false items) is = ap (λ b. if b then items else []) (ap (λ (a : ℕ). a == n) is ∙ other)
    one (jobs.Put k true items) is = refl
    one job is = refl
