-- Steps that call nothing.
use Rattle.std.proofs.Common.{◌≡◌, List, [], sym, subst}
use Rattle.std.specs.Prelude.{Result, Ok, Err, OnOk}
use Rattle.filter_host.specs.Course.{Course, ends, Goes, Ends}
use Rattle.filter_host.specs.Runs.{goes_still, goes_as}
use Rattle.store_model.specs.Made.{Made}
use Rattle.worker_model.specs.Room.{Room}
use Rattle.worker_model.specs.Steps.{Both, both}

-- the end that a part has come to is the function's
pub room_ends_on : {S H C E : Type 0} {performs : S → List Made → S → Type 0} {s t : S} {p : Course (Both H)} (host : H) (a b : Room) (r : Result C E) → OnOk r (b ≡ a)
    → Goes performs s p (ends (both host a)) t → Ends performs s p (λ _. both host b) r t
room_ends_on host a b (Ok x) is goes = goes_as goes (λ i. ends (both host (sym is i)))
room_ends_on host a b (Err e) is goes = (_, goes)

-- the same of a course that is spelled otherwise
pub ends_as : {S A B E : Type 0} (performs : S → List Made → S → Type 0) (s t : S) (p q : Course A) (view : B → A) (r : Result B E) → p ≡ q → Ends performs s p view r t
    → Ends performs s q view r t
ends_as performs s t p q view r same is = subst (λ (x : Course _). Ends performs s x view r t) same is

module _ {S : Type 0} (performs : S → List Made → S → Type 0) (s : S) (here : performs s [] s) where
  -- nothing was called
  pub quiet_ends : {H C E : Type 0} (host : H) (a b : Room) (r : Result C E) → OnOk r (b ≡ a) → Ends performs s (ends (both host a)) (λ _. both host b) r s
  quiet_ends host a b r is = room_ends_on host a b r is (goes_still performs s s (ends (both host a)) here)
