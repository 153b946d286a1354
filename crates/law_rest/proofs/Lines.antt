-- WHAT IS LEFT ON THE LINES of a room, where something is done on one of them or on all.
use Rattle.std.proofs.Common.{◌≡◌, ℕ, zero, suc, ◌+◌, ◌≤◌, List, [], ◌∷◌, ap, ◌∙◌, sym, refl, subst, arith}
use Rattle.std.specs.Prelude.{Option, None, Some, slice_get, slice_set, remove, insert}
use Rattle.exchange.specs.declared.types.Exchange.{Exchange}
use Rattle.exchange.specs.declared.types.Hub.{Hub}
use Rattle.h1_model.specs.Unread.{Reading}
use Rattle.worker_model.specs.declared.types.Line.{Line}
use Rattle.worker_model.specs.Rooms.{Changes, in_exchange, in_line, at_some, at_place, all_lines, place_in}
use Rattle.worker_model.specs.Steps.{line_at, line_at_place, on_line, in_place, line_in, without_place}
use Rattle.law_rest.specs.Left.{byte_cost, reader_left, exchange_left, open_left, line_left, lines_left, Fits, OpenFits, AllFit}
use Rattle.law_rest.proofs.Exchanges.{unread_in, Adds}
use Rattle.law_rest.proofs.Sums.{for_each_fewer}

-- ---- one line among the others

pub set_left : (s : ℕ) (lines : List Line) (k : ℕ) (l new : Line) → slice_get lines k ≡ Some l → lines_left s (slice_set lines k new) + line_left s l ≡ lines_left s lines + line_left s new
set_left s [] k l new at = absurd (cc)
set_left s (x ∷ xs) zero l new at = let here : x ≡ l = (cc) in let e : line_left s x ≡ line_left s l = ap (line_left s) here in omega arith
set_left s (x ∷ xs) (suc k) l new at = let e = set_left s xs k l new at in omega arith

pub fits_at : (s : ℕ) (lines : List Line) (k : ℕ) (l : Line) → slice_get lines k ≡ Some l → AllFit s lines → OpenFits s l.exchange
fits_at s [] k l at fit = absurd (cc)
fits_at s (x ∷ xs) zero l at fit = let here : x ≡ l = (cc) in subst (λ (y : Line). OpenFits s y.exchange) here fit.0
fits_at s (x ∷ xs) (suc k) l at fit = fits_at s xs k l at fit.1

pub set_fits : (s : ℕ) (lines : List Line) (k : ℕ) (new : Line) → AllFit s lines → OpenFits s new.exchange → AllFit s (slice_set lines k new)
set_fits s [] k new fit fits = tt
set_fits s (x ∷ xs) zero new fit fits = (fits, fit.1)
set_fits s (x ∷ xs) (suc k) new fit fits = (fit.0, set_fits s xs k new fit.1 fits)

pub remove_left : (s : ℕ) (lines : List Line) (k : ℕ) → lines_left s (remove lines k) ≤ lines_left s lines
remove_left s [] zero = omega arith
remove_left s [] (suc k) = omega arith
remove_left s (x ∷ xs) zero = omega arith
remove_left s (x ∷ xs) (suc k) = let e = remove_left s xs k in omega arith

pub remove_fits : (s : ℕ) (lines : List Line) (k : ℕ) → AllFit s lines → AllFit s (remove lines k)
remove_fits s [] zero fit = tt
remove_fits s [] (suc k) fit = tt
remove_fits s (x ∷ xs) zero fit = fit.1
remove_fits s (x ∷ xs) (suc k) fit = (fit.0, remove_fits s xs k fit.1)

pub insert_left : (s : ℕ) (lines : List Line) (k : ℕ) (new : Line) → lines_left s (insert lines k new) ≡ lines_left s lines + line_left s new
insert_left s [] zero new = omega arith
insert_left s [] (suc k) new = omega arith
insert_left s (x ∷ xs) zero new = omega arith
insert_left s (x ∷ xs) (suc k) new = let e = insert_left s xs k new in omega arith

pub insert_fits : (s : ℕ) (lines : List Line) (k : ℕ) (new : Line) → AllFit s lines → OpenFits s new.exchange → AllFit s (insert lines k new)
insert_fits s [] zero new fit fits = (fits, fit)
insert_fits s [] (suc k) new fit fits = (fits, fit)
insert_fits s (x ∷ xs) zero new fit fits = (fits, fit)
insert_fits s (x ∷ xs) (suc k) new fit fits = (fit.0, insert_fits s xs k new fit.1 fits)

-- ---- changes of exchanges

-- The change leaves so much more to do at most, and fits where its exchange did.
abbrev pub Leaves : ℕ → ℕ → Exchange → Exchange → Type 0
Leaves s m x y = Fits s y × (exchange_left s y ≤ exchange_left s x + m)

abbrev pub LeavesBy : ℕ → ℕ → Changes → Type 0
LeavesBy s m change = (n : ℕ) (x : Exchange) (hub : Hub) → Fits s x → Leaves s m x (change n x hub).0

pub reader_fewer : (s : ℕ) (o p : Option Reading) → unread_in p ≤ unread_in o → reader_left s p ≤ reader_left s o
reader_fewer s None None few = omega arith
reader_fewer s None (Some q) few = for_each_fewer {B = ℕ} (byte_cost s) q.unread [] few
reader_fewer s (Some r) None few = omega arith
reader_fewer s (Some r) (Some q) few = for_each_fewer (byte_cost s) q.unread r.unread few

pub adds_leaves : (s m : ℕ) (x y : Exchange) → Adds m x y → Fits s x → Leaves s m x y
adds_leaves s m x y a fits = (
  record {
    filters = omega (arith, a.filters, fits.filters);
    request = omega (arith, a.request, fits.request);
    response = omega (arith, a.response, fits.response);
    clear = a.clear fits.clear;
  },
  omega (arith, a.moves, reader_fewer s x.reader y.reader a.unread),
)

-- the line that was changed
abbrev pub LineLeaves : ℕ → ℕ → Line → Line → Type 0
LineLeaves s m l new = OpenFits s new.exchange × (line_left s new ≤ line_left s l + m)

pub in_line_leaves : (s m : ℕ) (change : Changes) (line : Line) (hub : Hub) → LeavesBy s m change → OpenFits s line.exchange → LineLeaves s m line (in_line change line hub).0
in_line_leaves s m change line hub leaves fits = by_exchange line.exchange refl
  where
    by_exchange : (o : Option Exchange) → line.exchange ≡ o → LineLeaves s m line (in_exchange change line o hub).0
    by_exchange None is = (fits, omega arith)
    by_exchange (Some x) is =
        let here : OpenFits s (Some x) = subst (λ (o : Option Exchange). OpenFits s o) is fits in
        let l = leaves line.number x hub here in
        let e : open_left s line.exchange ≡ exchange_left s x = ap (open_left s) is in
        (l.0, omega (arith, l.1, e))

-- ---- the lines that were changed

pub record AllLeave (s m : ℕ) (old new : List Line) : Type 0 where
  pub fit : AllFit s new
  pub few : lines_left s new ≤ lines_left s old + m

pub all_same : (s m : ℕ) (lines : List Line) → AllFit s lines → AllLeave s m lines lines
all_same s m lines fit = record { fit = fit; few = omega arith }

pub set_leaves : (s m : ℕ) (lines : List Line) (k : ℕ) (l new : Line) → slice_get lines k ≡ Some l → AllFit s lines → LineLeaves s m l new → AllLeave s m lines (slice_set lines k new)
set_leaves s m lines k l new at fit leaves = record { fit = set_fits s lines k new fit leaves.0; few = omega (arith, set_left s lines k l new at, leaves.1) }

pub at_place_leaves : (s m : ℕ) (change : Changes) (lines : List Line) (o : Option ℕ) (hub : Hub) → LeavesBy s m change → AllFit s lines → AllLeave s m lines (at_place change lines o hub).0
at_place_leaves s m change lines None hub leaves fit = all_same s m lines fit
at_place_leaves s m change lines (Some k) hub leaves fit = by_line (slice_get lines k) refl
  where
    by_line : (o : Option Line) → slice_get lines k ≡ o → AllLeave s m lines (at_some change lines k o hub).0
    by_line None at = all_same s m lines fit
    by_line (Some l) at = set_leaves s m lines k l (in_line change l hub).0 at fit (in_line_leaves s m change l hub leaves (fits_at s lines k l at fit))

pub all_lines_leave : (s : ℕ) (change : Changes) (lines : List Line) (hub : Hub) → LeavesBy s 0 change → AllFit s lines → AllLeave s 0 lines (all_lines change lines hub).0
all_lines_leave s change [] hub leaves fit = all_same s 0 [] fit
all_lines_leave s change (line ∷ lines) hub leaves fit =
    let one = in_line_leaves s 0 change line hub leaves fit.0 in
    let more = all_lines_leave s change lines (in_line change line hub).1 leaves fit.1 in
    record { fit = (one.0, more.fit); few = omega (arith, one.1, more.few) }

-- ---- what is kept of a line by its number

pub record IsAt (lines : List Line) (number k : ℕ) (l : Line) : Type 0 where
  pub place : place_in number lines ≡ Some k
  pub at : slice_get lines k ≡ Some l

-- the line that is changed is the one that is found
pub on_line_is : (change : Line → Line) (number : ℕ) (lines : List Line) (l : Line) → line_in number lines ≡ Some l
    → (k : ℕ) × (slice_get lines k ≡ Some l) × (on_line change number lines ≡ slice_set lines k (change l))
on_line_is change number lines l there = by_place (place_in number lines) there
  where
    by_line : (k : ℕ) (o : Option Line) → slice_get lines k ≡ o → o ≡ Some l
        → (j : ℕ) × (slice_get lines j ≡ Some l) × (line_at change lines k o ≡ slice_set lines j (change l))
    by_line k None at is = absurd (cc)
    by_line k (Some m) at is = let same : m ≡ l = (cc) in (k, at ∙ is, ap (λ (x : Line). slice_set lines k (change x)) same)

    by_place : (o : Option ℕ) → in_place lines o ≡ Some l → (k : ℕ) × (slice_get lines k ≡ Some l) × (line_at_place change lines o ≡ slice_set lines k (change l))
    by_place None is = absurd (cc)
    by_place (Some k) is = by_line k (slice_get lines k) refl is

-- a change of the line of a number, if there is one
pub on_line_leaves : (s m : ℕ) (change : Line → Line) (number : ℕ) (lines : List Line) → AllFit s lines → ((l : Line) → OpenFits s l.exchange → LineLeaves s m l (change l))
    → AllLeave s m lines (on_line change number lines)
on_line_leaves s m change number lines fit leaves = by_place (place_in number lines)
  where
    by_line : (k : ℕ) (o : Option Line) → slice_get lines k ≡ o → AllLeave s m lines (line_at change lines k o)
    by_line k None at = all_same s m lines fit
    by_line k (Some l) at = set_leaves s m lines k l (change l) at fit (leaves l (fits_at s lines k l at fit))

    by_place : (o : Option ℕ) → AllLeave s m lines (line_at_place change lines o)
    by_place None = all_same s m lines fit
    by_place (Some k) = by_line k (slice_get lines k) refl

-- so much less is left where the line that is found has so much less then
pub on_line_less : (s m : ℕ) (change : Line → Line) (number : ℕ) (lines : List Line) (l : Line) → line_in number lines ≡ Some l → AllFit s lines → OpenFits s (change l).exchange
    → line_left s (change l) + m ≤ line_left s l → AllFit s (on_line change number lines) × (lines_left s (on_line change number lines) + m ≤ lines_left s lines)
on_line_less s m change number lines l there fit fits less =
    let is = on_line_is change number lines l there in
    let e = set_left s lines is.0 l (change l) is.1 in
    subst (λ (ls : List Line). AllFit s ls × (lines_left s ls + m ≤ lines_left s lines)) (sym is.2) (set_fits s lines is.0 (change l) fit fits, omega arith)

pub drops_leave : (s : ℕ) (lines : List Line) (o : Option ℕ) → AllFit s lines → AllLeave s 0 lines (without_place lines o)
drops_leave s lines None fit = all_same s 0 lines fit
drops_leave s lines (Some k) fit = record { fit = remove_fits s lines k fit; few = let e = remove_left s lines k in omega arith }
