-- Which files were read, and how far.
use Rattle.std.proofs.Common.{◌≡◌, ℕ, List, [], ◌∷◌, ◌++◌, append_assoc, Result, Option, None, Some, Ok, Err, refl, ap, ◌∙◌, sym, subst}
use Rattle.std.proofs.lemmas.List.{append-nil}
use Rattle.config_check.specs.Check.{Reaches as CheckReaches}
use Rattle.config_check.specs.declared.checking.CheckEnd.{CheckEnd}
use Rattle.config_check.specs.declared.checking.CheckEnd.TheVariants as checks
use Rattle.config_files.proofs.Over.{modules_over}
use Rattle.config_files.proofs.Steps.{judged_of, modules_held, some_judged}
use Rattle.config_files.specs.Loading.{Told, AllHold, HasCode, IsJudged, IsLoaded, NoneBehind, ReadsInOrder, StopsAt, modules_of, paths_of as loading_paths}
use Rattle.config_files.specs.Plain.{ReadsPlain, StopsPlain, vms_over}
use Rattle.config_files.specs.declared.reading.LoadEnd.{LoadEnd}
use Rattle.config_files.specs.declared.reading.LoadEnd.TheVariants as ends
use Rattle.gate_config.specs.Given.{Given}
use Rattle.gate_config.specs.declared.entries.VmEntry.{VmEntry}
use Rattle.gate_io.specs.Told.{Gains, GainsFront, gains_more, gains_nothing}
use Rattle.command_generate.specs.declared.running.GenerateEnd.{GenerateEnd}
use Rattle.command_generate.specs.declared.running.GenerateEnd.TheVariants as generating
use Rattle.config_reader.specs.Whole.{Judged}
use Rattle.command_serve.specs.declared.running.ServeEnd.{ServeEnd}
use Rattle.command_serve.specs.declared.running.ServeEnd.TheVariants as serving
use Rattle.command_statuses.specs.Statuses.{of_load}
use Rattle.command_statuses.specs.declared.status.Status.{Status}
use Rattle.command_statuses.specs.declared.status.Status.TheVariants.{Done, Usage, Config, Module, Refused, FileFault, SiteFault, OutFault, OutOfMemory, Script, Invoke}
use Rattle.command_words.specs.Forms.{Command, replay, replay_config, serve, check, invoke, generate, report}
use Rattle.commands.specs.Doing.{serve_status}
use Rattle.commands.specs.Generated.{generate_status}
use Rattle.commands.specs.Reading.{IsJudgedFor, NoneRefused, Reaches, ReadsFor, ReadsOne, behind_config, config_path, paths_of}

-- ---- where nothing is read

some_judged_for : (files : Told) (path : Option (List ℕ)) → (judged : Judged) × IsJudgedFor files path judged
some_judged_for files None = (Err (0, []), tt)
some_judged_for files (Some path) = some_judged files path

none_yet : (files : Told) (command : Option Command) (judged : Judged) → NoneRefused files command judged []
none_yet files None judged = tt
none_yet files (Some (replay script modules)) judged = tt
none_yet files (Some (replay_config config script)) judged = tt
none_yet files (Some (serve config stop_after)) judged = tt
none_yet files (Some (check config)) judged = tt
none_yet files (Some (invoke file export arguments)) judged = tt
none_yet files (Some (generate n)) judged = tt
none_yet files (Some (report file)) judged = tt

reads_nothing : (files : Told) (command : Option Command) (status : Status) (old : Option (List (List ℕ)))
    → ((judged : Judged) → Reaches files command judged status old old) → ReadsFor files command status old old
reads_nothing files command status old reaches =
    let some = some_judged_for files (config_path command) in
    record {
      judged = some.0;
      of_file = some.1;
      gained = record { front = []; rest = paths_of command some.0; whole_is = refl; gained = gains_nothing old };
      none_refused = none_yet files command some.0;
      reaches = reaches some.0;
    }

pub reads_no_form : (files : Told) (command : Option Command) (old : Option (List (List ℕ))) → ReadsFor files command Usage old old
reads_no_form files command old = reads_nothing files command Usage old (λ judged. gains_nothing old)

pub reads_no_memory : (files : Told) (command : Option Command) (old : Option (List (List ℕ))) → ReadsFor files command OutOfMemory old old
reads_no_memory files command old = reads_nothing files command OutOfMemory old (λ judged. tt)

generated : (files : Told) (n : ℕ) (end : GenerateEnd) (old : Option (List (List ℕ))) → ReadsFor files (Some (generate n)) (generate_status end) old old
generated files n generating.Done old = reads_nothing files (Some (generate n)) Done old (λ judged. gains_nothing old)
generated files n generating.OutFault old = reads_nothing files (Some (generate n)) OutFault old (λ judged. gains_nothing old)
generated files n generating.OutOfMemory old = reads_nothing files (Some (generate n)) OutOfMemory old (λ judged. tt)

pub reads_generate : (files : Told) (n : ℕ) (status : Status) (end : GenerateEnd) (old : Option (List (List ℕ))) → status ≡ generate_status end → ReadsFor files (Some (generate n)) status old old
reads_generate files n status end old is = subst (λ (s : Status). ReadsFor files (Some (generate n)) s old old) (sym is) (generated files n end old)

-- ---- one file

invoke_reaches : (files : Told) (file export : List ℕ) (arguments : List (List ℕ)) (judged : Judged) (status : Status) (old new : Option (List (List ℕ)))
    → ReadsOne file status old new → Reaches files (Some (invoke file export arguments)) judged status old new
invoke_reaches files file export arguments judged Done old new h = h
invoke_reaches files file export arguments judged OutFault old new h = h
invoke_reaches files file export arguments judged (Script line) old new h = h
invoke_reaches files file export arguments judged (Refused refusal) old new h = h
invoke_reaches files file export arguments judged (Invoke end) old new h = h
invoke_reaches files file export arguments judged FileFault old new h = tt
invoke_reaches files file export arguments judged OutOfMemory old new h = tt
invoke_reaches files file export arguments judged Usage old new h = absurd h
invoke_reaches files file export arguments judged (Config number key) old new h = absurd h
invoke_reaches files file export arguments judged (Module vm fault) old new h = absurd h
invoke_reaches files file export arguments judged SiteFault old new h = absurd h

pub reads_invoke : (files : Told) (file export : List ℕ) (arguments : List (List ℕ)) (status : Status) (old new : Option (List (List ℕ)))
    → GainsFront old (file ∷ []) new → ReadsOne file status old new → ReadsFor files (Some (invoke file export arguments)) status old new
reads_invoke files file export arguments status old new a one = record {
  judged = Err (0, []);
  of_file = tt;
  gained = a;
  none_refused = tt;
  reaches = invoke_reaches files file export arguments (Err (0, [])) status old new one;
}

report_reaches : (files : Told) (file : List ℕ) (judged : Judged) (status : Status) (old new : Option (List (List ℕ)))
    → ReadsOne file status old new → Reaches files (Some (report file)) judged status old new
report_reaches files file judged Done old new h = h
report_reaches files file judged OutFault old new h = h
report_reaches files file judged (Script line) old new h = h
report_reaches files file judged (Refused refusal) old new h = h
report_reaches files file judged (Invoke end) old new h = h
report_reaches files file judged FileFault old new h = tt
report_reaches files file judged OutOfMemory old new h = tt
report_reaches files file judged Usage old new h = absurd h
report_reaches files file judged (Config number key) old new h = absurd h
report_reaches files file judged (Module vm fault) old new h = absurd h
report_reaches files file judged SiteFault old new h = absurd h

pub reads_report : (files : Told) (file : List ℕ) (status : Status) (old new : Option (List (List ℕ)))
    → GainsFront old (file ∷ []) new → ReadsOne file status old new → ReadsFor files (Some (report file)) status old new
reads_report files file status old new a one = record {
  judged = Err (0, []);
  of_file = tt;
  gained = a;
  none_refused = tt;
  reaches = report_reaches files file (Err (0, [])) status old new one;
}

-- ---- modules, and what comes after them

nothing_behind : (files : Told) (reads : List (List ℕ)) → NoneBehind files [] reads
nothing_behind files [] = tt
nothing_behind files (read ∷ []) = tt
nothing_behind files (read ∷ next ∷ reads) = tt

next_read : (files : Told) (vm : VmEntry) (vms : List VmEntry) (read : List ℕ) (reads : List (List ℕ)) → HasCode files vm → NoneBehind files vms reads → NoneBehind files (vm ∷ vms) (read ∷ reads)
next_read files vm vms read [] c h = tt
next_read files vm vms read (next ∷ reads) c h = (c, h)

-- where each VM holds its module, whatever comes after them stands behind no refusal
behind_all : (files : Told) (vms held : List VmEntry) (more : List (List ℕ)) → AllHold files vms held → NoneBehind files vms (modules_of held ++ more)
behind_all files [] held more h = nothing_behind files (modules_of held ++ more)
behind_all files (vm ∷ vms) [] more h = absurd h
behind_all files (vm ∷ vms) (x ∷ held) more h = next_read files vm vms x.«module» (modules_of held ++ more) (h.0.code, h.0.file) (behind_all files vms held more h.1)

-- ---- modules, and then a script

plain_reaches : (files : Told) (script : List ℕ) (modules : List (List ℕ)) (judged : Judged) (status : Status) (old mid new : Option (List (List ℕ)))
    → Gains old modules mid → ReadsOne script status mid new → Reaches files (Some (replay script modules)) judged status old new
plain_reaches files script modules judged Done old mid new a b = gains_more old modules mid (script ∷ []) new a b
plain_reaches files script modules judged OutFault old mid new a b = gains_more old modules mid (script ∷ []) new a b
plain_reaches files script modules judged (Script line) old mid new a b = gains_more old modules mid (script ∷ []) new a b
plain_reaches files script modules judged (Refused refusal) old mid new a b = gains_more old modules mid (script ∷ []) new a b
plain_reaches files script modules judged (Invoke end) old mid new a b = gains_more old modules mid (script ∷ []) new a b
plain_reaches files script modules judged FileFault old mid new a b = tt
plain_reaches files script modules judged OutOfMemory old mid new a b = tt
plain_reaches files script modules judged Usage old mid new a b = absurd b
plain_reaches files script modules judged (Config number key) old mid new a b = absurd b
plain_reaches files script modules judged (Module vm fault) old mid new a b = absurd b
plain_reaches files script modules judged SiteFault old mid new a b = absurd b

pub reads_plain : (files : Told) (script : List ℕ) (modules : List (List ℕ)) (held : List VmEntry) (status : Status) (old mid new : Option (List (List ℕ)))
    → AllHold files (vms_over 0 modules) held → Gains old modules mid → GainsFront mid (script ∷ []) new → ReadsOne script status mid new → ReadsFor files (Some (replay script modules)) status old new
reads_plain files script modules held status old mid new h a b one = record {
  judged = Err (0, []);
  of_file = tt;
  gained = record {
    front = modules ++ b.front;
    rest = b.rest;
    whole_is = ap (λ (l : List (List ℕ)). modules ++ l) b.whole_is ∙ sym (append_assoc modules b.front b.rest);
    gained = gains_more old modules mid b.front new a b.gained;
  };
  none_refused =
      subst (λ (l : List (List ℕ)). NoneBehind files (vms_over 0 modules) (l ++ b.front)) (modules_held files (vms_over 0 modules) held h ∙ modules_over 0 modules)
      (behind_all files (vms_over 0 modules) held b.front h);
  reaches = plain_reaches files script modules (Err (0, [])) status old mid new a one;
}

plain_stops : (files : Told) (script : List ℕ) (modules : List (List ℕ)) (judged : Judged) (end : LoadEnd) (old new : Option (List (List ℕ)))
    → StopsPlain files modules end old new → Reaches files (Some (replay script modules)) judged (of_load end) old new
plain_stops files script modules judged (ends.Config number key) old new h = absurd h
plain_stops files script modules judged (ends.Module vm fault) old new h = h
plain_stops files script modules judged ends.FileFault old new h = tt
plain_stops files script modules judged ends.OutOfMemory old new h = tt

pub reads_plain_stopped : (files : Told) (script : List ℕ) (modules : List (List ℕ)) (end : LoadEnd) (old new : Option (List (List ℕ)))
    → ReadsPlain files modules old new → StopsPlain files modules end old new → ReadsFor files (Some (replay script modules)) (of_load end) old new
reads_plain_stopped files script modules end old new r stops = record {
  judged = Err (0, []);
  of_file = tt;
  gained = record {
    front = r.gained.front;
    rest = r.gained.rest ++ script ∷ [];
    whole_is = ap (λ (l : List (List ℕ)). l ++ script ∷ []) r.gained.whole_is ∙ append_assoc r.gained.front r.gained.rest (script ∷ []);
    gained = r.gained.gained;
  };
  none_refused = r.none_behind;
  reaches = plain_stops files script modules (Err (0, [])) end old new stops;
}

-- ---- a configuration that is loaded, and what comes after its modules

module _ (files : Told) (path : List ℕ) (g : Given) (loaded : IsLoaded files path g) where
  judged_here : IsJudged files path (Ok loaded.said)
  judged_here = judged_of files path (Ok loaded.said) loaded.read

  -- a loaded configuration has the modules that its text says
  same_modules : modules_of g.vms ≡ modules_of loaded.said.vms
  same_modules = modules_held files loaded.said.vms g.vms loaded.holds.vms

  none_before : (more : List (List ℕ)) → NoneBehind files loaded.said.vms (modules_of loaded.said.vms ++ more)
  none_before more = subst (λ (ms : List (List ℕ)). NoneBehind files loaded.said.vms (ms ++ more)) same_modules (behind_all files loaded.said.vms g.vms more loaded.holds.vms)

  all_read : (old new : Option (List (List ℕ))) → Gains old (path ∷ modules_of g.vms) new → Gains old (path ∷ modules_of loaded.said.vms) new
  all_read old new h = subst (λ (ms : List (List ℕ)). Gains old (path ∷ ms) new) same_modules h

  module _ (script : List ℕ) where
    config_reaches : (status : Status) (old mid new : Option (List (List ℕ))) → Gains old (path ∷ modules_of loaded.said.vms) mid → ReadsOne script status mid new
        → Reaches files (Some (replay_config path script)) (Ok loaded.said) status old new
    config_reaches Done old mid new a b = gains_more old (path ∷ modules_of loaded.said.vms) mid (script ∷ []) new a b
    config_reaches OutFault old mid new a b = gains_more old (path ∷ modules_of loaded.said.vms) mid (script ∷ []) new a b
    config_reaches (Script line) old mid new a b = gains_more old (path ∷ modules_of loaded.said.vms) mid (script ∷ []) new a b
    config_reaches (Refused refusal) old mid new a b = gains_more old (path ∷ modules_of loaded.said.vms) mid (script ∷ []) new a b
    config_reaches (Invoke end) old mid new a b = gains_more old (path ∷ modules_of loaded.said.vms) mid (script ∷ []) new a b
    config_reaches FileFault old mid new a b = tt
    config_reaches OutOfMemory old mid new a b = tt
    config_reaches Usage old mid new a b = absurd b
    config_reaches (Config number key) old mid new a b = absurd b
    config_reaches (Module vm fault) old mid new a b = absurd b
    config_reaches SiteFault old mid new a b = absurd b

    pub reads_config : (status : Status) (old mid new : Option (List (List ℕ))) → Gains old (path ∷ modules_of g.vms) mid → GainsFront mid (script ∷ []) new → ReadsOne script status mid new
        → ReadsFor files (Some (replay_config path script)) status old new
    reads_config status old mid new a b one =
        let ms = modules_of loaded.said.vms in
        let all = all_read old mid a in
        record {
          judged = Ok loaded.said;
          of_file = judged_here;
          gained = record {
            front = path ∷ (ms ++ b.front);
            rest = b.rest;
            whole_is = ap (λ (l : List (List ℕ)). path ∷ l) (ap (λ (l : List (List ℕ)). ms ++ l) b.whole_is ∙ sym (append_assoc ms b.front b.rest));
            gained = gains_more old (path ∷ ms) mid b.front new all b.gained;
          };
          none_refused = none_before b.front;
          reaches = config_reaches status old mid new all one;
        }

  module _ (old new : Option (List (List ℕ))) (a : Gains old (path ∷ modules_of g.vms) new) where
    -- the configuration was read and all its modules, and no more
    loaded_all : Gains old (path ∷ (modules_of loaded.said.vms ++ [])) new
    loaded_all = subst (λ (l : List (List ℕ)). Gains old (path ∷ l) new) (sym (append-nil (modules_of loaded.said.vms))) (all_read old new a)

    abbrev loaded_front : GainsFront old (path ∷ (modules_of loaded.said.vms ++ [])) new
    loaded_front = record {
      front = path ∷ (modules_of loaded.said.vms ++ []);
      rest = [];
      whole_is = ap (λ (l : List (List ℕ)). path ∷ l) (sym (append-nil (modules_of loaded.said.vms ++ [])));
      gained = loaded_all;
    }

    serve_reaches : (stop_after : Option ℕ) (end : ServeEnd) → Reaches files (Some (serve path stop_after)) (Ok loaded.said) (serve_status end) old new
    serve_reaches stop_after serving.Done = loaded_all
    serve_reaches stop_after serving.SiteFault = loaded_all
    serve_reaches stop_after serving.OutFault = loaded_all
    serve_reaches stop_after serving.OutOfMemory = tt

    pub reads_serve : (stop_after : Option ℕ) (status : Status) (end : ServeEnd) → status ≡ serve_status end → ReadsFor files (Some (serve path stop_after)) status old new
    reads_serve stop_after status end is = record {
      judged = Ok loaded.said;
      of_file = judged_here;
      gained = loaded_front;
      none_refused = none_before [];
      reaches = subst (λ (s : Status). Reaches files (Some (serve path stop_after)) (Ok loaded.said) s old new) (sym is) (serve_reaches stop_after end);
    }

    -- a check whose line was printed, or not, for a write that failed
    reads_done : ReadsFor files (Some (check path)) Done old new
    reads_done = record { judged = Ok loaded.said; of_file = judged_here; gained = loaded_front; none_refused = none_before []; reaches = loaded_all }

    reads_cut : ReadsFor files (Some (check path)) OutFault old new
    reads_cut = record { judged = Ok loaded.said; of_file = judged_here; gained = loaded_front; none_refused = none_before []; reaches = loaded_all }

-- ---- a configuration, on every end

-- what is left of the paths, with more after the modules
abbrev left_of : Judged → (more rest : List (List ℕ)) → List (List ℕ)
left_of (Ok said) more rest = rest ++ more
left_of (Err refusal) more rest = rest

whole_of : (path : List ℕ) (more : List (List ℕ)) (judged : Judged) (front rest : List (List ℕ)) → loading_paths path judged ≡ front ++ rest → path ∷ behind_config judged more ≡ front ++ left_of judged more rest
whole_of path more (Ok said) front rest e = ap (λ (l : List (List ℕ)). l ++ more) e ∙ append_assoc front rest more
whole_of path more (Err refusal) front rest e = e

-- how a check ends, as a status
abbrev pub checked_status : Result (Unit {0}) CheckEnd → Status
checked_status (Ok u) = Done
checked_status (Err (checks.NotLoaded end)) = of_load end
checked_status (Err checks.OutFault) = OutFault
checked_status (Err checks.OutOfMemory) = OutOfMemory

module _ (files : Told) (path : List ℕ) (old new : Option (List (List ℕ))) (r : ReadsInOrder files path old new) where
  config_stops : (script : List ℕ) (end : LoadEnd) → StopsAt files path end old new → Reaches files (Some (replay_config path script)) r.judged (of_load end) old new
  config_stops script (ends.Config number key) h = h
  config_stops script (ends.Module vm fault) h = h
  config_stops script ends.FileFault h = tt
  config_stops script ends.OutOfMemory h = tt

  pub reads_config_stopped : (script : List ℕ) (end : LoadEnd) → StopsAt files path end old new → ReadsFor files (Some (replay_config path script)) (of_load end) old new
  reads_config_stopped script end h = record {
    judged = r.judged;
    of_file = r.of_file;
    gained = record {
      front = r.gained.front;
      rest = left_of r.judged (script ∷ []) r.gained.rest;
      whole_is = whole_of path (script ∷ []) r.judged r.gained.front r.gained.rest r.gained.whole_is;
      gained = r.gained.gained;
    };
    none_refused = r.none_behind;
    reaches = config_stops script end h;
  }

  serve_stops : (stop_after : Option ℕ) (end : LoadEnd) → StopsAt files path end old new → Reaches files (Some (serve path stop_after)) r.judged (of_load end) old new
  serve_stops stop_after (ends.Config number key) h = h
  serve_stops stop_after (ends.Module vm fault) h = h
  serve_stops stop_after ends.FileFault h = tt
  serve_stops stop_after ends.OutOfMemory h = tt

  pub reads_serve_stopped : (stop_after : Option ℕ) (end : LoadEnd) → StopsAt files path end old new → ReadsFor files (Some (serve path stop_after)) (of_load end) old new
  reads_serve_stopped stop_after end h = record {
    judged = r.judged;
    of_file = r.of_file;
    gained = record {
      front = r.gained.front;
      rest = left_of r.judged [] r.gained.rest;
      whole_is = whole_of path [] r.judged r.gained.front r.gained.rest r.gained.whole_is;
      gained = r.gained.gained;
    };
    none_refused = r.none_behind;
    reaches = serve_stops stop_after end h;
  }

  check_stops : (end : LoadEnd) → StopsAt files path end old new → Reaches files (Some (check path)) r.judged (of_load end) old new
  check_stops (ends.Config number key) h = h
  check_stops (ends.Module vm fault) h = h
  check_stops ends.FileFault h = tt
  check_stops ends.OutOfMemory h = tt

  reads_unchecked : (status : Status) → Reaches files (Some (check path)) r.judged status old new → ReadsFor files (Some (check path)) status old new
  reads_unchecked status reaches = record {
    judged = r.judged;
    of_file = r.of_file;
    gained = record {
      front = r.gained.front;
      rest = left_of r.judged [] r.gained.rest;
      whole_is = whole_of path [] r.judged r.gained.front r.gained.rest r.gained.whole_is;
      gained = r.gained.gained;
    };
    none_refused = r.none_behind;
    reaches = reaches;
  }

  pub reads_check : (result : Result (Unit {0}) CheckEnd) → CheckReaches files path result old new → ReadsFor files (Some (check path)) (checked_status result) old new
  reads_check (Ok u) h = reads_done files path h.0 h.1 old new h.2
  reads_check (Err (checks.NotLoaded end)) h = reads_unchecked (of_load end) (check_stops end h)
  reads_check (Err checks.OutFault) h = reads_cut files path h.0 h.1 old new h.2
  reads_check (Err checks.OutOfMemory) h = reads_unchecked OutOfMemory tt
