-- Replays of the same files print the same.
use Rattle.std.proofs.Common.{◌≡◌, ℕ, List, ◌++◌, Option, Some, refl, ap, sym, ◌∙◌, subst, inl, inr}
use Rattle.commands.specs.Doing.{Obeys}
use Rattle.commands.specs.Scripts.{IsPlayed}
use Rattle.config_files.specs.Plain.{plain_over}
use Rattle.gate_config.specs.Given.{given}
use Rattle.gate_config.specs.declared.config.Config.{Config as Configured}
use Rattle.gate_io.specs.Paths.{file_at}
use Rattle.command_replay_filters.specs.Filtered.{filtered}
use Rattle.replay_script.specs.Prints.{Told, printed_by}
use Rattle.replay_script.specs.Scripts.{IsScript}
use Rattle.replay_script.specs.declared.command.Command.{Command}
use Rattle.command_replay.specs.Laws.{OneReplay}
use Rattle.command_replay.specs.Replay.{Replays}
use Rattle.vm_host.specs.declared.slots.Vms.{Vms}
use Rattle.command_words.specs.Forms.{replay, replay_config, serve, check, invoke, generate, report}
use Rattle.promises.specs.Replays.{OneOutput, ReplayIsAFunction}
use Rattle.promises.proofs.Alike.{replays_same}
use Rattle.promises.proofs.Files.{held_same, loaded_same, some_same}

-- a text is one script at most
abbrev pub OneScript : Type 0
OneScript = (workers : ℕ) (text : List ℕ) (a b : List Command) → IsScript workers text a → IsScript workers text b → a ≡ b

module _ (one_script : OneScript) (one_replay : OneReplay Vms) where
  -- over configurations that say the same, one text plays to one output
  played_same : (c d : Configured) (text other old one two : List ℕ) → given c ≡ given d → text ≡ other → IsPlayed c text (Some old) (Some one) → IsPlayed d other (Some old) (Some two) → one ≡ two
  played_same c d text other old one two same texts p q =
      let script : IsScript d.workers other p.commands = subst (λ (x : ℕ × List ℕ). IsScript x.0 x.1 p.commands) (λ i. ((same i).workers, texts i)) p.script in
      let commands : p.commands ≡ q.commands = one_script d.workers other p.commands q.commands script q.script in
      let replays : Replays (filtered d) q.commands p.prints.sent = subst (λ (cs : List Command). Replays (filtered d) cs p.prints.sent) commands (replays_same c d same p.commands p.prints.sent p.prints.replays) in
      let sent : p.prints.sent ≡ q.prints.sent = one_replay (filtered d) q.commands p.prints.sent q.prints.sent replays q.prints.replays in
      some_same one two (p.prints.gained ∙ ap (λ (l : List Told). Some (old ++ printed_by 1 l)) sent ∙ sym q.prints.gained)

  pub one_output : OneOutput
  one_output config text old one two p q = played_same config config text text old one two refl refl p q

  text_same : (o : Option (List ℕ)) (text other : List ℕ) → o ≡ Some text → o ≡ Some other → text ≡ other
  text_same o text other a b = some_same text other (sym a ∙ b)

  pub replay_is_a_function : (W V : Type 0) → ReplayIsAFunction W V
  unfolding Obeys
  replay_is_a_function W V eyes others files (replay script modules) site after other behind old one two is (s, inl none) q = absurd none.0
  replay_is_a_function W V eyes others files (replay script modules) site after other behind old one two is (s, inr p) (t, inl none) = absurd none.0
  replay_is_a_function W V eyes others files (replay script modules) site after other behind old one two is (s, inr (c, loads, (text, there, p))) (t, inr (d, loaded, (again, found, q))) =
      played_same c d text again old one two (held_same files (plain_over modules) (given c) (given d) loads loaded) (text_same (file_at files script) text again there found) p q
  replay_is_a_function W V eyes others files (replay_config path script) site after other behind old one two is (s, inl none) q = absurd none.0
  replay_is_a_function W V eyes others files (replay_config path script) site after other behind old one two is (s, inr p) (t, inl none) = absurd none.0
  replay_is_a_function W V eyes others files (replay_config path script) site after other behind old one two is (s, inr (c, loads, (text, there, p))) (t, inr (d, loaded, (again, found, q))) =
      played_same c d text again old one two (loaded_same files path (given c) (given d) loads loaded) (text_same (file_at files script) text again there found) p q
  replay_is_a_function W V eyes others files (serve path stop_after) site after other behind old one two is p q = absurd is
  replay_is_a_function W V eyes others files (check path) site after other behind old one two is p q = absurd is
  replay_is_a_function W V eyes others files (invoke path export arguments) site after other behind old one two is p q = absurd is
  replay_is_a_function W V eyes others files (generate n) site after other behind old one two is p q = absurd is
  replay_is_a_function W V eyes others files (report path) site after other behind old one two is p q = absurd is
