use Rattle.std.proofs.Common.{◌≡◌, ◌∷◌, ◌++◌, [], ◌+◌, length, ap, sym, ◌∙◌, subst, arith, length-append, Bool, true, false}
use Rattle.replay_script.specs.Commands.{Spells}
use Rattle.replay_script.specs.Scripts.{Standing, at_start, behind, behind_all, AreLines}
use Rattle.replay_script.proofs.Readings.{is_more, lines_more, behind_more, falls, strays, rises, no_line_there, no_command_there, not_next_there}
use Rattle.replay_script.proofs.read.read_script.Goals as goal

pub returns-in_default-clause-bad : goal.returns-in_default-clause-bad
returns-in_default-clause-bad c = λ n e. record {
  front = c.loop-rest.commands.items;
  rest = c.loop-rest.rest.now;
  lines = c.loop-rest.invariant.lines;
  is = c.loop-rest.invariant.is;
  number_is = let same : c.len.result + 1 ≡ n = cc in omega (arith, c.loop-rest.commands.ok.0);
  some = λ empty. let none : c.is_empty.result ≡ true = rw empty at c.is_empty.ensures in cc;
  bad = λ command more next at. no_line_there c.loop-rest.rest.now c.in_default.ensures command more at;
}

pub returns-in_default-2-clause-bad : goal.returns-in_default-2-clause-bad
returns-in_default-2-clause-bad c = λ n e. record {
  front = c.loop-rest.commands.items;
  rest = c.loop-rest.rest.now;
  lines = c.loop-rest.invariant.lines;
  is = c.loop-rest.invariant.is;
  number_is = let same : c.len.result + 1 ≡ n = cc in omega (arith, c.loop-rest.commands.ok.0);
  some = λ empty. let none : c.is_empty.result ≡ true = rw empty at c.is_empty.ensures in cc;
  bad = no_command_there c.in-Some.line.now c.in-Some.more.now c.loop-rest.rest.now c.in-Some.ensures.0 c.in-Some.ensures.1
      (rw c.in_default-2.is at c.in_ok-command.ensures) (behind_all (at_start c.args.workers) c.loop-rest.commands.items);
}

pub returns-then-later-now-clause-bad : goal.returns-then-later-now-clause-bad
returns-then-later-now-clause-bad c = λ n e. record {
  front = c.loop-rest.commands.items;
  rest = c.loop-rest.rest.now;
  lines = c.loop-rest.invariant.lines;
  is = c.loop-rest.invariant.is;
  number_is = let same : c.len.result + 1 ≡ n = cc in omega (arith, c.loop-rest.commands.ok.0);
  some = λ empty. let none : c.is_empty.result ≡ true = rw empty at c.is_empty.ensures in cc;
  bad =
      let spells : Spells c.in-Some.line.now c.in-Some-2.command = rw c.in-Some-2.is at c.in_ok-command.ensures in
      not_next_there c.in-Some.line.now c.in-Some.more.now c.loop-rest.rest.now c.in-Some-2.command c.in-Some.ensures.0 c.in-Some.ensures.1 spells
      (behind_all (at_start c.args.workers) c.loop-rest.commands.items)
      (falls (behind_all (at_start c.args.workers) c.loop-rest.commands.items) c.loop-rest.now c.in-Some-2.command (ap (λ (s : Standing). s.now) c.loop-rest.invariant.standing) (rw (← c.moment_behind-later.ensures) c.if-later-now.true));
}

pub returns-then-get-workers-clause-bad : goal.returns-then-get-workers-clause-bad
returns-then-get-workers-clause-bad c = λ n e. record {
  front = c.loop-rest.commands.items;
  rest = c.loop-rest.rest.now;
  lines = c.loop-rest.invariant.lines;
  is = c.loop-rest.invariant.is;
  number_is = let same : c.len.result + 1 ≡ n = cc in omega (arith, c.loop-rest.commands.ok.0);
  some = λ empty. let none : c.is_empty.result ≡ true = rw empty at c.is_empty.ensures in cc;
  bad =
      let spells : Spells c.in-Some.line.now c.in-Some-2.command = rw c.in-Some-2.is at c.in_ok-command.ensures in
      not_next_there c.in-Some.line.now c.in-Some.more.now c.loop-rest.rest.now c.in-Some-2.command c.in-Some.ensures.0 c.in-Some.ensures.1 spells
      (behind_all (at_start c.args.workers) c.loop-rest.commands.items)
      (strays (behind_all (at_start c.args.workers) c.loop-rest.commands.items) c.loop-rest.who c.args.workers c.in-Some-2.command (ap (λ (s : Standing). s.who) c.loop-rest.invariant.standing)
      (ap (λ (s : Standing). s.workers) c.loop-rest.invariant.standing)
      (omega (arith, c.if-get-workers.true, c.get.ensures.number, c.worker_behind-whose.ensures)));
}

pub loop-rest-preserved : goal.loop-rest-preserved
loop-rest-preserved c =
    let spells : Spells c.in-Some.line.now c.in-Some-2.command = rw c.in-Some-2.is at c.in_ok-command.ensures in
    let added : c.push.new.self.items ≡ c.loop-rest.commands.items ++ (c.in-Some-2.command ∷ []) = c.in_ok-push.ensures.items in
    let going : c.loop-rest.stopped ≡ false = cc in
    let stood : behind_all (at_start c.args.workers) c.loop-rest.commands.items ≡ record { now = c.loop-rest.now; who = c.loop-rest.who; stopped = false; workers = c.args.workers } = c.loop-rest.invariant.standing ∙ ap (λ (b : Bool). record { now = c.loop-rest.now; who = c.loop-rest.who; stopped = b; workers = c.args.workers }) going in
    record {
      is = is_more c.args.text.now c.loop-rest.commands.items c.push.new.self.items c.loop-rest.rest.now c.in-Some.line.now c.in-Some.more.now c.in-Some-2.command
          c.loop-rest.invariant.is c.in-Some.ensures.1 spells.text added;
      lines = subst (AreLines (at_start c.args.workers)) (sym added)
          (lines_more (at_start c.args.workers) c.loop-rest.commands.items c.in-Some-2.command c.loop-rest.invariant.lines
          (rises (behind_all (at_start c.args.workers) c.loop-rest.commands.items) c.loop-rest.now c.loop-rest.who c.args.workers c.in-Some-2.command stood (rw (← c.moment_behind-later.ensures) c.if-later-now.false)
          (omega (arith, c.if-get-workers.false, c.get.ensures.number, c.worker_behind-whose.ensures)) spells.in_form));
      standing = ap (behind_all (at_start c.args.workers)) added ∙ behind_more (at_start c.args.workers) c.loop-rest.commands.items c.in-Some-2.command
          ∙ ap (λ (s : Standing). behind s c.in-Some-2.command) stood
          ∙ (λ i. record { now = sym c.moment_behind-later.ensures i; who = sym c.worker_behind-whose.ensures i; stopped = sym c.is_stop-stopped.ensures i; workers = c.args.workers });
      few = omega (arith, ap length added, ap length c.in-Some.ensures.1, length-append c.loop-rest.commands.items (c.in-Some-2.command ∷ []), length-append c.in-Some.line.now (10 ∷ c.in-Some.more.now), c.loop-rest.invariant.few);
    }
