-- A callback, as far as it has come.
use Rattle.std.proofs.Common.{◌≡◌, ◌≤◌, ◌<◌, ℕ, suc, ◌-◌, List, [], ◌∷◌, ◌++◌, map, Option, refl, sym, ap, ◌∙◌, subst, arith}
use Rattle.wasm_syntax.specs.declared.types.Value.{Value}
use Rattle.wasm_syntax.specs.ReductionSteps.{Config}
use Rattle.wasm_syntax.specs.ReductionRuns.{Stopped, has_asked, run, enough, all_depth}
use Rattle.wasm_machine.specs.Machines.{asking}
use Rattle.wasm_machine.specs.declared.machine.Pending.{Pending}
use Rattle.store_model.specs.Made.{Made}
use Rattle.store_model.specs.Program.{Program, done, bind, Runs}
use Rattle.store_model.specs.Runs.{runs_none, runs_as, runs_bind, runs_then, then_part}
use Rattle.abi_types.specs.GuestAt.{GuestAt, invoked_at}
use Rattle.vm_host.specs.Seeing.{waiting_of}
use Rattle.vm_host.specs.Calling.{Called, called, Returned, Abi, now_asked, asked_at, answered_at, begun_at, serve_result, running_by, running, calling_back}

module _ {S H : Type 0} (performs : S → List Made → S → Type 0) (abi : Abi H) where
  more : (k : ℕ) (g : GuestAt) (h : H) → running abi (suc k) g h ≡ running_by abi (run g.program g.fuel g.config) g h (λ d i. running abi k d i)
  unfolding running
  more k g h = refl

  pub record Serving (s0 : S) (target : Program (Returned H)) (g : GuestAt) (h : H) (s : S) : Type 0 where
    pub bound : ℕ
    pub far : enough g.fuel g.config ≤ bound
    pub runs : Runs performs s0 target (running abi bound g h) s

  pub serves : ((s : S) → performs s [] s) → (s : S) (f : ℕ) (args : List Value) (g : GuestAt) (h : H) → Serving s (calling_back abi f args g h) (begun_at f args g) h s
  serves nothing s f args g h = record { bound = enough g.fuel (invoked_at f args g); far = omega arith; runs = runs_none performs nothing s (calling_back abi f args g h) }

  pub serving_stop : (s0 : S) (target : Program (Returned H)) (g : GuestAt) (h : H) (s : S) (r : Serving s0 target g h s) (x : Stopped) → run g.program g.fuel g.config ≡ x →
      Runs performs s0 target (running_by abi x g h (λ d i. running abi (r.bound - 1) d i)) s
  serving_stop s0 target g h s r x is =
      let one : r.bound ≡ suc (r.bound - 1) = omega (arith, r.far) in
      runs_as r.runs (ap (λ (k : ℕ). running abi k g h) one ∙ more (r.bound - 1) g h ∙ ap (λ (y : Stopped). running_by abi y g h (λ d i. running abi (r.bound - 1) d i)) is)

  module _ (joined : (s t u : S) (a b : List Made) → performs s a t → performs t b u → performs s (a ++ b) u) where
    -- a call was answered
    pub serving_on : (s0 : S) (target : Program (Returned H)) (g : GuestAt) (h : H) (s : S) → Serving s0 target g h s → (x n : ℕ) (args : List Value) (d : Config) → run g.program g.fuel g.config ≡ has_asked x args d n → enough n d < enough g.fuel g.config →
        (at : GuestAt) → at ≡ asked_at x d n g → (v : Option Value) (g' : GuestAt) (h' : H) (t : S) → Runs performs s (abi h x args at) (done (called v g' h')) t → enough g'.fuel g'.config ≤ enough n d →
        (now : GuestAt) → now ≡ answered_at v g' → enough now.fuel now.config ≤ enough g'.fuel g'.config → Serving s0 target now h' t
    serving_on s0 target g h s r x n args d is less at at_is v g' h' t call low now now_is still =
        let F = λ (c : Called H). serve_result c (λ e i. running abi (r.bound - 1) e i) in
        let first = serving_stop s0 target g h s r (has_asked x args d n) is in
        let next : Runs performs s (abi h x args (asked_at x d n g)) (done (called v g' h')) t = subst (λ (y : GuestAt). Runs performs s (abi h x args y) (done (called v g' h')) t) at_is call in
        record {
          bound = r.bound - 1;
          far = omega (arith, r.far, less, low, still);
          runs = runs_as (then_part joined F first next) (ap (λ (y : GuestAt). running abi (r.bound - 1) y h') (sym now_is));
        }

    -- a call ended the callback
    pub serving_end : (s0 : S) (target : Program (Returned H)) (g : GuestAt) (h : H) (s : S) (r : Serving s0 target g h s) (x n : ℕ) (args : List Value) (d : Config) → run g.program g.fuel g.config ≡ has_asked x args d n →
        (at : GuestAt) → at ≡ asked_at x d n g → (c : Called H) (t : S) → Runs performs s (abi h x args at) (done c) t → Runs performs s0 target (serve_result c (λ e i. running abi (r.bound - 1) e i)) t
    serving_end s0 target g h s r x n args d is at at_is c t call =
        then_part joined (λ (b : Called H). serve_result b (λ e i. running abi (r.bound - 1) e i)) (serving_stop s0 target g h s r (has_asked x args d n) is)
        (subst (λ (y : GuestAt). Runs performs s (abi h x args y) (done c) t) at_is call)

    -- it was cut short
    pub serving_cut : (s0 : S) (target : Program (Returned H)) (g : GuestAt) (h : H) (s : S) → Serving s0 target g h s → (x n : ℕ) (args : List Value) (d : Config) → run g.program g.fuel g.config ≡ has_asked x args d n →
        (at : GuestAt) → at ≡ asked_at x d n g → (t : S) → ((q : Program (Called H)) × Runs performs s (abi h x args at) q t) → (q : Program (Returned H)) × Runs performs s0 target q t
    serving_cut s0 target g h s r x n args d is at at_is t (q, call) =
        let F = λ (b : Called H). serve_result b (λ e i. running abi (r.bound - 1) e i) in (
          bind q F,
          runs_then joined (serving_stop s0 target g h s r (has_asked x args d n) is)
              (runs_bind performs F (subst (λ (y : GuestAt). Runs performs s (abi h x args y) q t) at_is call)),
        )

-- ---- unfinished calls, and how they are seen

pub seen_asking : (o : Option ℕ) (cs : List Pending) → map waiting_of (asking o cs) ≡ now_asked o (map waiting_of cs)
seen_asking o [] = refl
seen_asking o (c ∷ cs) = refl

pub same_pending : (cs ds : List Pending) → map waiting_of cs ≡ map waiting_of ds → cs ≡ ds
same_pending [] [] same = refl
same_pending [] (d ∷ ds) same = absurd (cc)
same_pending (c ∷ cs) [] same = absurd (cc)
same_pending (c ∷ cs) (d ∷ ds) same =
    let first : waiting_of c ≡ waiting_of d = cc in
    let rest : map waiting_of cs ≡ map waiting_of ds = cc in
    λ i. record { function = (first i).function; asked = (first i).asked } ∷ same_pending cs ds rest i

pub lower_by : (n m : ℕ) (c d : Config) → n ≤ m → c.calls ≡ d.calls → enough n c ≤ enough m d
lower_by n m c d less same = omega (arith, less, ap all_depth same)
