-- Two rooms that agree on a line without filters: the same is done in both.
use Rattle.std.proofs.Common.{◌≡◌, ℕ, ◌==◌, Bool, true, false, List, [], ◌∷◌, ◌++◌, refl, ap, ◌∙◌, sym, subst, if◌then◌else◌}
use Rattle.std.proofs.lemmas.List.{append-nil, append_assoc}
use Rattle.std.specs.Prelude.{Option, None, Some, option_map, slice_get, slice_set, remove, insert}
use Rattle.contexts.specs.declared.parts.Contexts.{Contexts}
use Rattle.contexts.specs.declared.parts.ExchangeView.{ExchangeView}
use Rattle.contexts.specs.Reached.{view_at}
use Rattle.exchange.specs.declared.types.Exchange.{Exchange}
use Rattle.exchange.specs.declared.types.Hub.{Hub}
use Rattle.gate_io.specs.declared.event.Sent.{Sent}
use Rattle.worker_model.specs.Room.{Room}
use Rattle.worker_model.specs.declared.types.Job.{Job}
use Rattle.worker_model.specs.declared.types.Line.{Line}
use Rattle.worker_model.specs.declared.types.ReadBatch.{ReadBatch}
use Rattle.worker_model.specs.Rooms.{Changes, with_marks, with_result, in_exchange, put_back, at_some, at_place, place_in, with_lines, on_number, with_contexts, room_with_sent}
use Rattle.worker_model.specs.Steps.{change_exchange, change_line, line_at, line_at_place, on_lines, exchange_of_line, exchange_on, line_in, in_contexts, without_place, drop_line, with_jobs_first, new_line, place_for}
use Rattle.law_lines.specs.Alike.{IsAlike, AreAlike, LooksAlike, IsLone}
use Rattle.law_lines.specs.Isolation.{IsUnfiltered}
use Rattle.law_lines.proofs.Depends.{placed, Meet, Same, marked_same}
use Rattle.law_lines.proofs.Finding.{Seeks, missing, first, seeks, IsOnce, only_found, set_once, set_there, insert_found, insert_once, remove_found, remove_once}
use Rattle.law_lines.proofs.Looks.{is_n, look, line_in_is, equal_by, equal_is, IsPlain}
use Rattle.law_lines.proofs.OnLines.{Numbered}
use Rattle.law_lines.proofs.OwnSteps.{KeepsLine, drops_free}
use Rattle.law_lines.proofs.Spared.{Free}
use Rattle.law_lines.proofs.Untouched.{free_at, free_set, free_insert}

pub to_once : (n : ℕ) (lines : List Line) → IsLone n lines → IsOnce (is_n n) lines
to_once n [] lone = tt
to_once n (x ∷ xs) lone = (lone.0, to_once n xs lone.1)

pub from_once : (n : ℕ) (lines : List Line) → IsOnce (is_n n) lines → IsLone n lines
from_once n [] once = tt
from_once n (x ∷ xs) once = (once.0, from_once n xs once.1)

-- ---- the line, where it stands

pub record Sits (n : ℕ) (lines : List Line) (l : Line) : Type 0 where
  pub k : ℕ
  pub place : place_in n lines ≡ Some k
  pub there : slice_get lines k ≡ Some l
  pub passes : (l.number == n) ≡ true

pub sits : (n : ℕ) (lines : List Line) (l : Line) → look n lines ≡ Some l → Sits n lines l
sits n lines l is = by_seek (seeks (is_n n) lines)
  where
    by_seek : Seeks (is_n n) lines → Sits n lines l
    by_seek (missing at none) = let never : ◌≡◌ {A = Option Line} None (Some l) = sym none ∙ is in absurd (cc)
    by_seek (first k m at there passes found) =
        let e : Some m ≡ Some l = sym found ∙ is in
        let same : m ≡ l = cc in
        record { k = k; place = at; there = there ∙ ap (λ (y : Line). Some y) same; passes = subst (λ (y : Line). (y.number == n) ≡ true) same passes }

pub absent : (n : ℕ) (lines : List Line) → look n lines ≡ None → place_in n lines ≡ None
absent n lines is = by_seek (seeks (is_n n) lines)
  where
    by_seek : Seeks (is_n n) lines → place_in n lines ≡ None
    by_seek (missing at none) = at
    by_seek (first k m at there passes found) = let never : ◌≡◌ {A = Option Line} None (Some m) = sym is ∙ found in absurd (cc)

-- another in its place
pub put_look : (n : ℕ) (lines : List Line) (k : ℕ) (l m : Line) → slice_get lines k ≡ Some l → (l.number == n) ≡ true → IsOnce (is_n n) lines → m.number ≡ l.number
    → IsOnce (is_n n) (slice_set lines k m) × (look n (slice_set lines k m) ≡ Some m)
put_look n lines k l m there passes once number =
    let alike : is_n n m ≡ is_n n l = ap (λ (a : ℕ). a == n) number in
    let later : IsOnce (is_n n) (slice_set lines k m) = set_once (is_n n) lines k l m once there alike in
    (later, only_found (is_n n) (slice_set lines k m) k m later (set_there lines k l m there) (alike ∙ passes))

-- ---- rooms that match on the line

pub record Match (n : ℕ) (a b : Room) : Type 0 where
  pub once : IsOnce (is_n n) a.lines
  pub other_once : IsOnce (is_n n) b.lines
  pub free : Free n a
  pub line : LooksAlike (look n a.lines) a.hub.contexts (look n b.lines) b.hub.contexts
  pub moment : b.hub.moment ≡ a.hub.moment

pub data Pair (n : ℕ) (a b : Room) : Type 0 where
  none : look n a.lines ≡ None → look n b.lines ≡ None → Pair n a b
  bare : (l m : Line) → look n a.lines ≡ Some l → look n b.lines ≡ Some m → m ≡ record l { exchange = m.exchange } → l.exchange ≡ None → m.exchange ≡ None → Pair n a b
  full : (l m : Line) (x y : Exchange) → look n a.lines ≡ Some l → look n b.lines ≡ Some m → m ≡ record l { exchange = m.exchange } → l.exchange ≡ Some x → m.exchange ≡ Some y
      → IsAlike x a.hub.contexts y b.hub.contexts → IsPlain x → Pair n a b

pub pair : (n : ℕ) (a b : Room) → Match n a b → Pair n a b
pair n a b fit = by_lines (look n a.lines) (look n b.lines) refl refl fit.line
  where
    by_exchanges : (l m : Line) → look n a.lines ≡ Some l → look n b.lines ≡ Some m → m ≡ record l { exchange = m.exchange } → (o p : Option Exchange) → l.exchange ≡ o → m.exchange ≡ p
        → AreAlike o a.hub.contexts p b.hub.contexts → Pair n a b
    by_exchanges l m la mb same None None lx my alike = bare l m la mb same lx my
    by_exchanges l m la mb same None (Some y) lx my alike = absurd alike
    by_exchanges l m la mb same (Some x) None lx my alike = absurd alike
    by_exchanges l m la mb same (Some x) (Some y) lx my alike =
        let s : Sits n a.lines l = sits n a.lines l la in
        full l m x y la mb same lx my alike (subst IsUnfiltered lx (free_at n a.lines s.k l s.there fit.free (equal_by l.number n s.passes)))

    by_lines : (o p : Option Line) → look n a.lines ≡ o → look n b.lines ≡ p → LooksAlike o a.hub.contexts p b.hub.contexts → Pair n a b
    by_lines None None la mb alike = none la mb
    by_lines None (Some m) la mb alike = absurd alike
    by_lines (Some l) None la mb alike = absurd alike
    by_lines (Some l) (Some m) la mb alike = by_exchanges l m la mb alike.0 l.exchange m.exchange refl refl alike.1

pub looks_none : (o p : Option Line) (h k : Contexts) → o ≡ None → p ≡ None → LooksAlike o h p k
looks_none o p h k a b = subst (λ (q : Option Line). LooksAlike q h p k) (sym a) (subst (λ (q : Option Line). LooksAlike None h q k) (sym b) tt)

pub looks_bare : (o p : Option Line) (h k : Contexts) (l m : Line) → o ≡ Some l → p ≡ Some m → m ≡ record l { exchange = m.exchange } → l.exchange ≡ None → m.exchange ≡ None → LooksAlike o h p k
looks_bare o p h k l m a b same lx my =
    subst (λ (q : Option Line). LooksAlike q h p k) (sym a) (subst (λ (q : Option Line). LooksAlike (Some l) h q k) (sym b)
    (same, subst (λ (q : Option Exchange). AreAlike q h m.exchange k) (sym lx) (subst (λ (q : Option Exchange). AreAlike None h q k) (sym my) tt)))

pub looks_full : (o p : Option Line) (h k : Contexts) (l m : Line) (x y : Exchange) → o ≡ Some l → p ≡ Some m → m ≡ record l { exchange = m.exchange } → l.exchange ≡ Some x → m.exchange ≡ Some y → IsAlike x h y k → LooksAlike o h p k
looks_full o p h k l m x y a b same lx my alike =
    subst (λ (q : Option Line). LooksAlike q h p k) (sym a) (subst (λ (q : Option Line). LooksAlike (Some l) h q k) (sym b)
    (same, subst (λ (q : Option Exchange). AreAlike q h m.exchange k) (sym lx) (subst (λ (q : Option Exchange). AreAlike (Some x) h q k) (sym my) alike)))

-- what does not tell by the place of the exchange
pub test_same : {B : Type 0} (T : Option Line → B) (n : ℕ) (a b : Room) → Match n a b
    → ((l : Line) (x : Exchange) (q : ℕ) → T (Some (record l { exchange = Some (record x { place = q }) })) ≡ T (Some (record l { exchange = Some x }))) → T (line_in n b.lines) ≡ T (line_in n a.lines)
test_same {B} T n a b fit same = by_pair (pair n a b fit)
  where
    by_pair : Pair n a b → T (line_in n b.lines) ≡ T (line_in n a.lines)
    by_pair (none la mb) = ap T ((line_in_is n b.lines ∙ mb) ∙ sym (line_in_is n a.lines ∙ la))
    by_pair (bare l m la mb is lx my) =
        ap T (line_in_is n b.lines ∙ mb) ∙ (ap (λ (z : Line). T (Some z)) (is ∙ ap (λ (e : Option Exchange). record l { exchange = e }) (my ∙ sym lx)) ∙ sym (ap T (line_in_is n a.lines ∙ la)))
    by_pair (full l m x y la mb is lx my alike plain) =
        ap T (line_in_is n b.lines ∙ mb)
        ∙ (ap (λ (z : Line). T (Some z)) (is ∙ ap (λ (e : Option Exchange). record l { exchange = e }) (my ∙ ap (λ (z : Exchange). Some z) alike.exchange))
        ∙ (same l x y.place
        ∙ (ap (λ (e : Option Exchange). T (Some (record l { exchange = e }))) (sym lx) ∙ sym (ap T (line_in_is n a.lines ∙ la)))))

-- ---- the same is done

pub record Did (n : ℕ) (a c b d : Room) : Type 0 where
  pub fit : Match n c d
  pub sent : List Sent
  pub sends : c.hub.sent ≡ a.hub.sent ++ sent
  pub other_sends : d.hub.sent ≡ b.hub.sent ++ sent
  pub front : List Job
  pub jobs : c.jobs ≡ front ++ a.jobs
  pub other_jobs : d.jobs ≡ front ++ b.jobs
  pub reading : b.reading ≡ a.reading → d.reading ≡ c.reading

pub did_itself : (n : ℕ) (a b : Room) → Match n a b → Did n a a b b
did_itself n a b fit = record { fit = fit; sent = []; sends = sym (append-nil a.hub.sent); other_sends = sym (append-nil b.hub.sent); front = []; jobs = refl; other_jobs = refl; reading = λ e. e }

pub did_then : (n : ℕ) (a c e b d f : Room) → Did n a c b d → Did n c e d f → Did n a e b f
did_then n a c e b d f one two = record {
  fit = two.fit;
  sent = one.sent ++ two.sent;
  sends = two.sends ∙ (ap (λ (l : List Sent). l ++ two.sent) one.sends ∙ append_assoc a.hub.sent one.sent two.sent);
  other_sends = two.other_sends ∙ (ap (λ (l : List Sent). l ++ two.sent) one.other_sends ∙ append_assoc b.hub.sent one.sent two.sent);
  front = two.front ++ one.front;
  jobs = two.jobs ∙ (ap (λ (l : List Job). two.front ++ l) one.jobs ∙ sym (append_assoc two.front one.front a.jobs));
  other_jobs = two.other_jobs ∙ (ap (λ (l : List Job). two.front ++ l) one.other_jobs ∙ sym (append_assoc two.front one.front b.jobs));
  reading = λ e. two.reading (one.reading e);
}

pub did_if : (n : ℕ) (a b : Room) (s t : Bool) → t ≡ s → (c d e f : Room) → (s ≡ true → Did n a c b e) → (s ≡ false → Did n a d b f) → Did n a (if s then c else d) b (if t then e else f)
did_if n a b s t is c d e f here there = subst (λ (u : Bool). Did n a (if s then c else d) b (if u then e else f)) (sym is) (by_test s here there)
  where
    by_test : (u : Bool) → (u ≡ true → Did n a c b e) → (u ≡ false → Did n a d b f) → Did n a (if u then c else d) b (if u then e else f)
    by_test true h t = h refl
    by_test false h t = t refl

-- the lines as they are
pub did_sends : (n : ℕ) (s t : List Sent) (a b : Room) → t ≡ s → Match n a b → Did n a (room_with_sent s a) b (room_with_sent t b)
did_sends n s t a b is fit = record {
  fit = record { once = fit.once; other_once = fit.other_once; free = fit.free; line = fit.line; moment = fit.moment };
  sent = s;
  sends = refl;
  other_sends = ap (λ (l : List Sent). b.hub.sent ++ l) is;
  front = [];
  jobs = refl;
  other_jobs = refl;
  reading = λ e. e;
}

pub did_front : (n : ℕ) (s t : List Job) (a b : Room) → t ≡ s → Match n a b → Did n a (with_jobs_first s a) b (with_jobs_first t b)
did_front n s t a b is fit = record {
  fit = record { once = fit.once; other_once = fit.other_once; free = fit.free; line = fit.line; moment = fit.moment };
  sent = [];
  sends = sym (append-nil a.hub.sent);
  other_sends = sym (append-nil b.hub.sent);
  front = s;
  jobs = refl;
  other_jobs = ap (λ (l : List Job). l ++ b.jobs) is;
  reading = λ e. e;
}

-- now this is read, or nothing
pub did_read : (n : ℕ) (o : Option ReadBatch) (a b : Room) → Match n a b → Did n a (record a { reading = o }) b (record b { reading = o })
did_read n o a b fit = record {
  fit = record { once = fit.once; other_once = fit.other_once; free = fit.free; line = fit.line; moment = fit.moment };
  sent = [];
  sends = sym (append-nil a.hub.sent);
  other_sends = sym (append-nil b.hub.sent);
  front = [];
  jobs = refl;
  other_jobs = refl;
  reading = λ e. refl;
}

-- ---- what is done to the exchange

abbrev with_set : Room → ℕ → Line → Exchange × Hub → Room
with_set a k l q = with_lines a (slice_set a.lines k (record l { exchange = Some q.0 }), q.1)

number_is : (n : ℕ) (change : Changes) (a : Room) (l : Line) (x : Exchange) (s : Sits n a.lines l) → l.exchange ≡ Some x → on_number change n a ≡ with_set a s.k l (with_marks (change n x a.hub))
number_is n change a l x s is =
    ap (λ (o : Option ℕ). with_lines a (at_place change a.lines o a.hub)) s.place
    ∙ (ap (λ (o : Option Line). with_lines a (at_some change a.lines s.k o a.hub)) s.there
    ∙ (ap (λ (o : Option Exchange). with_lines a (put_back a.lines s.k (in_exchange change l o a.hub))) is
    ∙ ap (λ (m : ℕ). with_lines a (put_back a.lines s.k (with_result l (with_marks (change m x a.hub))))) (equal_by l.number n s.passes)))

number_bare : (n : ℕ) (change : Changes) (a : Room) (l : Line) (s : Sits n a.lines l) → l.exchange ≡ None → on_number change n a ≡ with_lines a (slice_set a.lines s.k l, a.hub)
number_bare n change a l s is =
    ap (λ (o : Option ℕ). with_lines a (at_place change a.lines o a.hub)) s.place
    ∙ (ap (λ (o : Option Line). with_lines a (at_some change a.lines s.k o a.hub)) s.there
    ∙ ap (λ (o : Option Exchange). with_lines a (put_back a.lines s.k (in_exchange change l o a.hub))) is)

pub did_number : (n : ℕ) (change other : Changes) (a b : Room)
    → ((q : ℕ) (x : Exchange) → IsPlain x → Meet q x a.hub b.hub → Same q a.hub b.hub (change n x a.hub) (other n (placed q x) b.hub)) → Match n a b → Did n a (on_number change n a) b (on_number other n b)
did_number n change other a b does fit = by_pair (pair n a b fit)
  where
    by_pair : Pair n a b → Did n a (on_number change n a) b (on_number other n b)
    by_pair (none la mb) =
        subst (λ (r : Room). Did n a r b (on_number other n b)) (sym (ap (λ (o : Option ℕ). with_lines a (at_place change a.lines o a.hub)) (absent n a.lines la)))
        (subst (λ (r : Room). Did n a a b r) (sym (ap (λ (o : Option ℕ). with_lines b (at_place other b.lines o b.hub)) (absent n b.lines mb))) (did_itself n a b fit))
    by_pair (bare l m la mb is lx my) =
        let s : Sits n a.lines l = sits n a.lines l la in
        let t : Sits n b.lines m = sits n b.lines m mb in
        let p = put_look n a.lines s.k l l s.there s.passes fit.once refl in
        let q = put_look n b.lines t.k m m t.there t.passes fit.other_once refl in
        subst (λ (r : Room). Did n a r b (on_number other n b)) (sym (number_bare n change a l s lx))
        (subst (λ (r : Room). Did n a (with_lines a (slice_set a.lines s.k l, a.hub)) b r) (sym (number_bare n other b m t my))
        (record {
          fit = record {
            once = p.0;
            other_once = q.0;
            free = free_set n a.lines s.k l fit.free (λ e. free_at n a.lines s.k l s.there fit.free e);
            line = looks_bare _ _ a.hub.contexts b.hub.contexts l m p.1 q.1 is lx my;
            moment = fit.moment;
          };
          sent = [];
          sends = sym (append-nil a.hub.sent);
          other_sends = sym (append-nil b.hub.sent);
          front = [];
          jobs = refl;
          other_jobs = refl;
          reading = λ e. e;
        }))
    by_pair (full l m x y la mb is lx my alike plain) =
        let s : Sits n a.lines l = sits n a.lines l la in
        let t : Sits n b.lines m = sits n b.lines m mb in
        let u : Exchange × Hub = with_marks (change n x a.hub) in
        let v : Exchange × Hub = with_marks (other n y b.hub) in
        let same : Same y.place a.hub b.hub u v
        = marked_same y.place a.hub b.hub (change n x a.hub) (other n y b.hub)
        (subst (λ (z : Exchange). Same y.place a.hub b.hub (change n x a.hub) (other n z b.hub)) (sym alike.exchange) (does y.place x plain (record { moment = fit.moment; view = alike.maps }))) in
        let p = put_look n a.lines s.k l (record l { exchange = Some u.0 }) s.there s.passes fit.once refl in
        let q = put_look n b.lines t.k m (record m { exchange = Some v.0 }) t.there t.passes fit.other_once refl in
        let put_at : v.0.place ≡ y.place = ap (λ (z : Exchange). z.place) same.exchange in
        subst (λ (r : Room). Did n a r b (on_number other n b)) (sym (number_is n change a l x s lx))
        (subst (λ (r : Room). Did n a (with_set a s.k l u) b r) (sym (number_is n other b m y t my))
        (record {
          fit = record {
            once = p.0;
            other_once = q.0;
            free = free_set n a.lines s.k (record l { exchange = Some u.0 }) fit.free (λ e. same.plain);
            line = looks_full _ _ u.1.contexts v.1.contexts (record l { exchange = Some u.0 }) (record m { exchange = Some v.0 }) u.0 v.0 p.1 q.1 (ap (λ (z : Line). record z { exchange = Some v.0 }) is) refl refl
                (record {
                  exchange = same.exchange ∙ ap (λ (k : ℕ). record u.0 { place = k }) (sym put_at);
                  maps = ap (λ (k : ℕ). view_at v.1.contexts.exchanges k) put_at ∙ same.meet.view;
                });
            moment = same.meet.moment;
          };
          sent = same.more;
          sends = same.sent;
          other_sends = same.other_sent;
          front = [];
          jobs = refl;
          other_jobs = refl;
          reading = λ e. e;
        }))

-- ---- what is noted of the line

abbrev pub NotesAlike : (Line → Line) → Type 0
NotesAlike f = (l m : Line) (h k : Contexts) → LooksAlike (Some l) h (Some m) k → LooksAlike (Some (f l)) h (Some (f m)) k

pub notes_exchange : (g : Exchange → Exchange) → ((x : Exchange) (q : ℕ) → g (record x { place = q }) ≡ record (g x) { place = q }) → ((x : Exchange) → (g x).place ≡ x.place) → NotesAlike (change_line g)
notes_exchange g moves stays l m h k alike = by_exchanges l.exchange m.exchange refl refl alike.1
  where
    by_exchanges : (o p : Option Exchange) → l.exchange ≡ o → m.exchange ≡ p → AreAlike o h p k → LooksAlike (Some (change_exchange g l o)) h (Some (change_exchange g m p)) k
    by_exchanges None None lx my are = alike
    by_exchanges None (Some y) lx my are = absurd are
    by_exchanges (Some x) None lx my are = absurd are
    by_exchanges (Some x) (Some y) lx my are = (
      ap (λ (z : Line). record z { exchange = Some (g y) }) alike.0,
      record {
        exchange = ap g are.exchange ∙ (moves x y.place ∙ ap (λ (q : ℕ). record (g x) { place = q }) (sym (stays y)));
        maps = ap (λ (q : ℕ). view_at k.exchanges q) (stays y) ∙ (are.maps ∙ ap (λ (q : ℕ). view_at h.exchanges q) (sym (stays x)));
      },
    )

pub did_line : (n : ℕ) (f : Line → Line) (a b : Room) → Numbered f → KeepsLine n f → NotesAlike f → Match n a b → Did n a (on_lines f n a) b (on_lines f n b)
did_line n f a b numbered keeps notes fit = by_pair (pair n a b fit)
  where
    line_is : (r : Room) (l : Line) (s : Sits n r.lines l) → on_lines f n r ≡ record r { lines = slice_set r.lines s.k (f l) }
    line_is r l s = ap (λ (o : Option ℕ). record r { lines = line_at_place f r.lines o }) s.place ∙ ap (λ (o : Option Line). record r { lines = line_at f r.lines s.k o }) s.there

    set_alike : (l m : Line) → look n a.lines ≡ Some l → look n b.lines ≡ Some m → LooksAlike (Some l) a.hub.contexts (Some m) b.hub.contexts → Did n a (on_lines f n a) b (on_lines f n b)
    set_alike l m la mb alike =
        let s : Sits n a.lines l = sits n a.lines l la in
        let t : Sits n b.lines m = sits n b.lines m mb in
        let p = put_look n a.lines s.k l (f l) s.there s.passes fit.once (numbered l) in
        let q = put_look n b.lines t.k m (f m) t.there t.passes fit.other_once (numbered m) in
        subst (λ (r : Room). Did n a r b (on_lines f n b)) (sym (line_is a l s))
        (subst (λ (r : Room). Did n a (record a { lines = slice_set a.lines s.k (f l) }) b r) (sym (line_is b m t))
        (record {
          fit = record {
            once = p.0;
            other_once = q.0;
            free = free_set n a.lines s.k (f l) fit.free (keeps l (λ e. free_at n a.lines s.k l s.there fit.free e));
            line = subst (λ (o : Option Line). LooksAlike o a.hub.contexts (look n (slice_set b.lines t.k (f m))) b.hub.contexts) (sym p.1)
                (subst (λ (o : Option Line). LooksAlike (Some (f l)) a.hub.contexts o b.hub.contexts) (sym q.1) (notes l m a.hub.contexts b.hub.contexts alike));
            moment = fit.moment;
          };
          sent = [];
          sends = sym (append-nil a.hub.sent);
          other_sends = sym (append-nil b.hub.sent);
          front = [];
          jobs = refl;
          other_jobs = refl;
          reading = λ e. e;
        }))

    by_pair : Pair n a b → Did n a (on_lines f n a) b (on_lines f n b)
    by_pair (none la mb) =
        subst (λ (r : Room). Did n a r b (on_lines f n b)) (sym (ap (λ (o : Option ℕ). record a { lines = line_at_place f a.lines o }) (absent n a.lines la)))
        (subst (λ (r : Room). Did n a a b r) (sym (ap (λ (o : Option ℕ). record b { lines = line_at_place f b.lines o }) (absent n b.lines mb))) (did_itself n a b fit))
    by_pair (bare l m la mb is lx my) = set_alike l m la mb (looks_bare (Some l) (Some m) a.hub.contexts b.hub.contexts l m refl refl is lx my)
    by_pair (full l m x y la mb is lx my alike plain) = set_alike l m la mb (looks_full (Some l) (Some m) a.hub.contexts b.hub.contexts l m x y refl refl is lx my alike)

-- ---- the line goes

pub did_drop : (n : ℕ) (a b : Room) → Match n a b → Did n a (drop_line n a) b (drop_line n b)
did_drop n a b fit = by_pair (pair n a b fit)
  where
    drop_is : (r : Room) (l : Line) (s : Sits n r.lines l) → drop_line n r ≡ record r { lines = remove r.lines s.k }
    drop_is r l s = ap (λ (o : Option ℕ). record r { lines = without_place r.lines o }) s.place

    gone : (l m : Line) → look n a.lines ≡ Some l → look n b.lines ≡ Some m → Did n a (drop_line n a) b (drop_line n b)
    gone l m la mb =
        let s : Sits n a.lines l = sits n a.lines l la in
        let t : Sits n b.lines m = sits n b.lines m mb in
        let free : Free n (drop_line n a) = drops_free n n a fit.free in
        subst (λ (r : Room). Did n a r b (drop_line n b)) (sym (drop_is a l s))
        (subst (λ (r : Room). Did n a (record a { lines = remove a.lines s.k }) b r) (sym (drop_is b m t))
        (record {
          fit = record {
            once = remove_once (is_n n) a.lines s.k l fit.once s.there;
            other_once = remove_once (is_n n) b.lines t.k m fit.other_once t.there;
            free = subst (λ (r : Room). Free n r) (drop_is a l s) free;
            line = looks_none _ _ a.hub.contexts b.hub.contexts (remove_found (is_n n) a.lines s.k l fit.once s.there s.passes) (remove_found (is_n n) b.lines t.k m fit.other_once t.there t.passes);
            moment = fit.moment;
          };
          sent = [];
          sends = sym (append-nil a.hub.sent);
          other_sends = sym (append-nil b.hub.sent);
          front = [];
          jobs = refl;
          other_jobs = refl;
          reading = λ e. e;
        }))

    by_pair : Pair n a b → Did n a (drop_line n a) b (drop_line n b)
    by_pair (none la mb) =
        subst (λ (r : Room). Did n a r b (drop_line n b)) (sym (ap (λ (o : Option ℕ). record a { lines = without_place a.lines o }) (absent n a.lines la)))
        (subst (λ (r : Room). Did n a a b r) (sym (ap (λ (o : Option ℕ). record b { lines = without_place b.lines o }) (absent n b.lines mb))) (did_itself n a b fit))
    by_pair (bare l m la mb is lx my) = gone l m la mb
    by_pair (full l m x y la mb is lx my alike plain) = gone l m la mb

-- ---- what is put where its maps are

abbrev pub PutsThere : (ℕ → Contexts → Contexts) → Type 0
PutsThere f = (g : ExchangeView → ExchangeView) × ((q : ℕ) (h : Contexts) → view_at (f q h).exchanges q ≡ option_map g (view_at h.exchanges q))

pub did_contexts : (n : ℕ) (f : ℕ → Contexts → Contexts) (a b : Room) → PutsThere f → Match n a b → Did n a (in_contexts f (exchange_on n a) a) b (in_contexts f (exchange_on n b) b)
did_contexts n f a b puts fit = by_pair (pair n a b fit)
  where
    on_is : (r : Room) (o : Option Line) (p : Option Exchange) → look n r.lines ≡ o → exchange_of_line o ≡ p → in_contexts f (exchange_on n r) r ≡ in_contexts f p r
    on_is r o p is there = ap (λ (e : Option Exchange). in_contexts f e r) (ap exchange_of_line (line_in_is n r.lines ∙ is) ∙ there)

    by_pair : Pair n a b → Did n a (in_contexts f (exchange_on n a) a) b (in_contexts f (exchange_on n b) b)
    by_pair (none la mb) =
        subst (λ (r : Room). Did n a r b (in_contexts f (exchange_on n b) b)) (sym (on_is a None None la refl)) (subst (λ (r : Room). Did n a a b r) (sym (on_is b None None mb refl)) (did_itself n a b fit))
    by_pair (bare l m la mb is lx my) =
        subst (λ (r : Room). Did n a r b (in_contexts f (exchange_on n b) b)) (sym (on_is a (Some l) None la lx)) (subst (λ (r : Room). Did n a a b r) (sym (on_is b (Some m) None mb my)) (did_itself n a b fit))
    by_pair (full l m x y la mb is lx my alike plain) =
        subst (λ (r : Room). Did n a r b (in_contexts f (exchange_on n b) b)) (sym (on_is a (Some l) (Some x) la lx))
        (subst (λ (r : Room). Did n a (with_contexts (f x.place a.hub.contexts) a) b r) (sym (on_is b (Some m) (Some y) mb my))
        (record {
          fit = record {
            once = fit.once;
            other_once = fit.other_once;
            free = fit.free;
            line = looks_full _ _ (f x.place a.hub.contexts) (f y.place b.hub.contexts) l m x y la mb is lx my
                (record { exchange = alike.exchange; maps = puts.1 y.place b.hub.contexts ∙ (ap (option_map puts.0) alike.maps ∙ sym (puts.1 x.place a.hub.contexts)) });
            moment = fit.moment;
          };
          sent = [];
          sends = sym (append-nil a.hub.sent);
          other_sends = sym (append-nil b.hub.sent);
          front = [];
          jobs = refl;
          other_jobs = refl;
          reading = λ e. e;
        }))

-- ---- the line comes

pub did_insert : (n : ℕ) (a b : Room) → look n a.lines ≡ None → look n b.lines ≡ None → Match n a b
    → Did n a (record a { lines = insert a.lines (place_for n a.lines) (new_line n) }) b (record b { lines = insert b.lines (place_for n b.lines) (new_line n) })
did_insert n a b la mb fit = record {
  fit = record {
    once = insert_once (is_n n) a.lines (place_for n a.lines) (new_line n) fit.once (λ e. la);
    other_once = insert_once (is_n n) b.lines (place_for n b.lines) (new_line n) fit.other_once (λ e. mb);
    free = free_insert n a.lines (place_for n a.lines) (new_line n) fit.free (λ e. tt);
    line = looks_bare _ _ a.hub.contexts b.hub.contexts (new_line n) (new_line n) (insert_found (is_n n) a.lines (place_for n a.lines) (new_line n) la itself) (insert_found (is_n n) b.lines (place_for n b.lines) (new_line n) mb itself) refl refl refl;
    moment = fit.moment;
  };
  sent = [];
  sends = sym (append-nil a.hub.sent);
  other_sends = sym (append-nil b.hub.sent);
  front = [];
  jobs = refl;
  other_jobs = refl;
  reading = λ e. e;
}
  where
    itself : (n == n) ≡ true
    itself = equal_is n n refl
