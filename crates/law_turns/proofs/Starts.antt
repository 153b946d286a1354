-- The starts of VMs, by computation.
use Rattle.std.proofs.Common.{◌≡◌, true, List, [], ◌∷◌, ◌++◌, map, Some, codes, refl}
use Rattle.filter_host.specs.Course.{Course}
use Rattle.filter_host.specs.declared.host.Callback.TheVariants.{VmStart, Configure}
use Rattle.worker_model.specs.Settling.{settling}
use Rattle.worker_model.specs.Turn.{Outcome}
use Rattle.worker_model.specs.declared.types.Line.{Line}
use Rattle.law_turns.proofs.Following.{end_by, ends_there, reaches_by}
use Rattle.law_turns.specs.Tables.{Call, Comes}
use Rattle.law_turns.specs.Starts.{OneVmExample, TwoVmsExample, RefusedExample, StartTicksExample, roots_of, contexts_of, first, first_calls, next, second, second_calls, refused, says_no, no_start_calls, no_configure_calls, told, ticking, other_tick, all_ticks, last_moment}

-- ---- one VM

first_ends : ends_there [] first ≡ true
unfolding settling
first_ends = refl

first_asks : (end_by [] first).state.host ≡ first_calls
unfolding settling
first_asks = refl

first_sends : (end_by [] first).sent ≡ []
unfolding settling
first_sends = refl

first_leaves : map (λ (l : Line). l.number) (end_by [] first).state.room.lines ≡ 1 ∷ []
unfolding settling
first_leaves = refl

first_roots : roots_of (end_by [] first) ≡ Some 1 ∷ Some 2 ∷ []
unfolding settling
first_roots = refl

first_contexts : contexts_of (end_by [] first) ≡ (1 ∷ 2 ∷ []) ∷ []
unfolding settling
first_contexts = refl

abbrev then : Course (Outcome (List Call))
then = next (end_by [] first).state

then_ends : ends_there [] then ≡ true
unfolding settling
then_ends = refl

then_asks : (end_by [] then).state.host ≡ first_calls
unfolding settling
then_asks = refl

then_sends : (end_by [] then).sent ≡ []
unfolding settling
then_sends = refl

then_leaves : map (λ (l : Line). l.number) (end_by [] then).state.room.lines ≡ 1 ∷ 2 ∷ []
unfolding settling
then_leaves = refl

pub one_vm_example : OneVmExample
one_vm_example = record {
  starts = record { end = end_by [] first; reaches = reaches_by [] first first_ends tt; called = first_asks; hands_over = first_sends; leaves = first_leaves };
  roots = first_roots;
  contexts = first_contexts;
  goes_on = record { end = end_by [] then; reaches = reaches_by [] then then_ends tt; called = then_asks; hands_over = then_sends; leaves = then_leaves };
}

-- ---- two VMs

second_ends : ends_there [] second ≡ true
unfolding settling
second_ends = refl

second_asks : (end_by [] second).state.host ≡ second_calls
unfolding settling
second_asks = refl

second_sends : (end_by [] second).sent ≡ []
unfolding settling
second_sends = refl

second_leaves : map (λ (l : Line). l.number) (end_by [] second).state.room.lines ≡ 1 ∷ []
unfolding settling
second_leaves = refl

second_roots : roots_of (end_by [] second) ≡ Some 1 ∷ Some 1 ∷ Some 2 ∷ []
unfolding settling
second_roots = refl

second_contexts : contexts_of (end_by [] second) ≡ (1 ∷ 2 ∷ []) ∷ (1 ∷ []) ∷ [] ∷ []
unfolding settling
second_contexts = refl

second_dead : (end_by [] second).state.room.dead ≡ []
unfolding settling
second_dead = refl

pub two_vms_example : TwoVmsExample
two_vms_example = record {
  starts = record { end = end_by [] second; reaches = reaches_by [] second second_ends tt; called = second_asks; hands_over = second_sends; leaves = second_leaves };
  roots = second_roots;
  contexts = second_contexts;
  all_live = second_dead;
}

-- ---- a start that is refused

start_comes : Comes (refused VmStart) [] no_start_calls (told (codes "vm v died: start")) (1 ∷ [])
unfolding settling
start_comes = record { end = end_by [] (refused VmStart); reaches = reaches_by [] (refused VmStart) refl tt; called = refl; hands_over = refl; leaves = refl }

configure_comes : Comes (refused Configure) [] no_configure_calls (told (codes "vm v died: configure")) (1 ∷ [])
unfolding settling
configure_comes = record { end = end_by [] (refused Configure); reaches = reaches_by [] (refused Configure) refl tt; called = refl; hands_over = refl; leaves = refl }

pub refused_example : RefusedExample
unfolding settling start_comes configure_comes
refused_example = record {
  start = start_comes;
  start_dead = refl;
  start_roots = refl;
  configure = configure_comes;
  configure_dead = refl;
  configure_roots = refl;
}

-- ---- ticks that starts set

at_last_comes : Comes (ticking [] 18446744073709551615) [] (second_calls ++ all_ticks) [] (1 ∷ [])
unfolding settling
at_last_comes = record { end = end_by [] (ticking [] 18446744073709551615); reaches = reaches_by [] (ticking [] 18446744073709551615) refl tt; called = refl; hands_over = refl; leaves = refl }

dead_comes : Comes (ticking (says_no Configure) 18446744073709551615) [] (no_configure_calls ++ other_tick) (told (codes "vm v died: configure")) (1 ∷ [])
unfolding settling
dead_comes = record {
  end = end_by [] (ticking (says_no Configure) 18446744073709551615);
  reaches = reaches_by [] (ticking (says_no Configure) 18446744073709551615) refl tt;
  called = refl;
  hands_over = refl;
  leaves = refl;
}

earlier_ends : ends_there [] (ticking [] 18446744073709551614) ≡ true
unfolding settling
earlier_ends = refl

earlier_asks : (end_by [] (ticking [] 18446744073709551614)).state.host ≡ second_calls
unfolding settling
earlier_asks = refl

earlier_sends : (end_by [] (ticking [] 18446744073709551614)).sent ≡ []
unfolding settling
earlier_sends = refl

earlier_leaves : map (λ (l : Line). l.number) (end_by [] (ticking [] 18446744073709551614)).state.room.lines ≡ 1 ∷ []
unfolding settling
earlier_leaves = refl

abbrev later_turn : Course (Outcome (List Call))
later_turn = last_moment (end_by [] (ticking [] 18446744073709551614)).state

later_ends : ends_there [] later_turn ≡ true
unfolding settling
later_ends = refl

later_asks : (end_by [] later_turn).state.host ≡ second_calls ++ all_ticks
unfolding settling
later_asks = refl

later_sends : (end_by [] later_turn).sent ≡ []
unfolding settling
later_sends = refl

later_leaves : map (λ (l : Line). l.number) (end_by [] later_turn).state.room.lines ≡ 1 ∷ 2 ∷ []
unfolding settling
later_leaves = refl

pub start_ticks_example : StartTicksExample
start_ticks_example = record {
  at_last = at_last_comes;
  dead = dead_comes;
  earlier = record {
    end = end_by [] (ticking [] 18446744073709551614);
    reaches = reaches_by [] (ticking [] 18446744073709551614) earlier_ends tt;
    called = earlier_asks;
    hands_over = earlier_sends;
    leaves = earlier_leaves;
  };
  later = record { end = end_by [] later_turn; reaches = reaches_by [] later_turn later_ends tt; called = later_asks; hands_over = later_sends; leaves = later_leaves };
}
