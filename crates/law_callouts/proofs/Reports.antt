-- While a context gets the report of a callout's end it has the answer.
use Rattle.std.proofs.Common.{◌≡◌, ◌<◌, ◌==◌, ℕ, Bool, true, false, not, ◌&&◌, ◌||◌, cond, List, [], ◌∷◌, length, map, refl, ap, ◌∙◌}
use Rattle.std.specs.Prelude.{Option, Some, nat_lt}
use Rattle.std.proofs.lemmas.Bool.{ltb-true}
use Rattle.contexts.proofs.Isolation.{put_is_seen}
use Rattle.contexts.specs.Keyed.{first_of_number}
use Rattle.contexts.specs.Reached.{context_no, contains, no_changes, fitted, reach_by, vm_in, seen, Seen}
use Rattle.contexts.specs.Stages.{own_at}
use Rattle.contexts.specs.declared.parts.Context.{Context}
use Rattle.contexts.specs.declared.parts.Contexts.{Contexts}
use Rattle.contexts.specs.declared.parts.Own.{Own}
use Rattle.worker_model.specs.Calls.{with_call_answer}
use Rattle.worker_model.specs.Rooms.{is_dead}
use Rattle.law_callouts.specs.Ends.{ReportsHaveAnswers}
use Rattle.law_callouts.specs.Scenes.{answer_in}

-- a context whose id is there is found
found_by : (e : ℕ) (cs : List Context) → contains e (map context_no cs) ≡ true → (x : Context) × (first_of_number context_no e cs ≡ Some x)
found_by e [] is = absurd (cc)
found_by e (c ∷ cs) is = by (found_by e cs) (c.id == e) refl is
  where
    by : (contains e (map context_no cs) ≡ true → (x : Context) × (first_of_number context_no e cs ≡ Some x)) → (b : Bool) → (c.id == e) ≡ b → (b || contains e (map context_no cs)) ≡ true
        → (x : Context) × (first_of_number context_no e (c ∷ cs) ≡ Some x)
    by later true here is = (c, ap (λ (b : Bool). cond b (Some c) (first_of_number context_no e cs)) here)
    by later false away is =
        let far = later is in
        (far.0, ap (λ (b : Bool). cond b (Some c) (first_of_number context_no e cs)) away ∙ far.1)

both_of : (x y z : Bool) → ((x && y) && z) ≡ true → (x ≡ true) × (z ≡ true)
both_of true true z is = (refl, is)
both_of true false z is = absurd (cc)
both_of false y z is = absurd (cc)

pub reports_have : ReportsHaveAnswers
reports_have answer c room is =
    let h : Contexts = room.hub.contexts in
    let parts = both_of (nat_lt c.vm (length h.vms)) (not (is_dead c.vm room)) (contains c.context (seen h c.vm).common.ids) is in
    let within : c.vm < length h.vms = ltb-true c.vm (length h.vms) parts.0 in
    let there = found_by c.context (vm_in h c.vm).contexts parts.1 in
    let own : own_at h c.vm c.context ≡ Some there.0.own = ap (λ (o : Option Context). (reach_by h (vm_in h c.vm) o).own) there.1 in
    let with_it : Own = record there.0.own { answer = answer } in
    let put : own_at (with_call_answer answer (Some there.0.own) c.vm c.context h) c.vm c.context ≡ Some with_it
    = ap (λ (s : Seen). s.reach.own) (put_is_seen (record no_changes { own = Some with_it }) c.vm c.context h within) ∙ ap (λ (o : Option Own). fitted o (Some with_it)) own in
    ap (λ (o : Option Own). answer_in (own_at (with_call_answer answer o c.vm c.context h) c.vm c.context)) own ∙ ap answer_in put
