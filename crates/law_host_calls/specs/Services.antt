-- The calls on the log, the clock, ticks, the effective context and properties.
use Rattle.std.specs.Prelude.{◌≡◌, ℕ, List, [], ◌∷◌, ◌++◌, Option, None, Some, codes, replicate}
use Rattle.abi_calls.specs.Hosting.{Hosted}
use Rattle.abi_model.specs.declared.table.HostCall.TheVariants as call
use Rattle.contexts.specs.Reached.{Seen, Changes, no_changes}
use Rattle.contexts.specs.declared.parts.Own.{Own}
use Rattle.contexts.specs.declared.parts.Tick.{Tick}
use Rattle.gate_base.specs.declared.level.Level.TheVariants.{Error, Critical, Warn}
use Rattle.gate_io.specs.declared.event.Sent.{Sent}
use Rattle.gate_io.specs.declared.event.Sent.TheVariants.{Log}
use Rattle.store_model.specs.Program.{Program, done}
use Rattle.law_host_calls.specs.Scenes.{guest, letters, told, told_one, own, seen, in_none, in_own, calls_on, calls_in, calls, ends, answers, changes, writes, gives}

-- a line of the log
abbrev pub logs : Sent → Program Hosted
logs line = done (ends 0 (guest letters 9) no_changes (line ∷ []))

-- a tick that is set, or set off
abbrev pub ticks : Option Tick → Changes
ticks tick = record no_changes { tick = Some tick }

-- the least level is 3, and the moment is 1,000
pub record LocalExamples : Type 0 where
  pub logged : calls call.Log (4 ∷ 1 ∷ 2 ∷ []) ≡ logs (Log Error (codes "bc"))
  pub least : calls call.Log (3 ∷ 1 ∷ 2 ∷ []) ≡ logs (Log Warn (codes "bc"))
  pub last_level : calls call.Log (5 ∷ 4 ∷ 3 ∷ []) ≡ logs (Log Critical (codes "efg"))
  -- below it no line is sent
  pub below : calls call.Log (2 ∷ 1 ∷ 3 ∷ []) ≡ answers 0
  pub no_such_level : calls call.Log (6 ∷ 1 ∷ 2 ∷ []) ≡ answers 2
  pub text_outside : calls call.Log (4 ∷ 23 ∷ 2 ∷ []) ≡ answers 6
  pub level : calls call.GetLogLevel (4 ∷ []) ≡ done (writes (told_one 3 (codes "ijklmnopqrstuvwx")))
  pub level_outside : calls call.GetLogLevel (21 ∷ []) ≡ answers 6
  -- eight bytes, the lowest first
  pub time : calls call.GetCurrentTimeNanoseconds (4 ∷ []) ≡ done (writes (codes "abcd" ++ 232 ∷ 3 ∷ 0 ∷ 0 ∷ 0 ∷ 0 ∷ 0 ∷ 0 ∷ codes "mnopqrstuvwx"))
  pub time_outside : calls call.GetCurrentTimeNanoseconds (17 ∷ []) ≡ answers 6

pub record ContextExamples : Type 0 where
  -- seven milliseconds, from now on
  pub tick : calls call.SetTickPeriodMilliseconds (7 ∷ []) ≡ changes (ticks (Some (record { period = 7000000; due = 7001000 })))
  pub no_tick : calls call.SetTickPeriodMilliseconds (0 ∷ []) ≡ changes (ticks None)
  pub tick_of_none : calls_in in_none call.SetTickPeriodMilliseconds (7 ∷ []) ≡ answers 2
  pub effective : calls call.SetEffectiveContext (2 ∷ []) ≡ changes (record no_changes { effective = Some 2 })
  pub no_such_context : calls call.SetEffectiveContext (3 ∷ []) ≡ answers 2
  -- context 5 waits, and context 2 still does
  pub ended : calls call.Done [] ≡ changes (record no_changes { waiting = Some (2 ∷ []) })
  pub not_waiting : calls_in (record seen { common = record seen.common { waiting = 2 ∷ [] } }) call.Done [] ≡ answers 1

abbrev pub becomes : Own → Changes
becomes o = record no_changes { own = Some o }

-- 64 properties, which are as many as a context may have
abbrev pub full : Seen
full = in_own (record own { properties = replicate 64 (codes "k", codes "v") })

pub record PropertyExamples : Type 0 where
  -- what was set under `bc`
  pub got : calls call.GetProperty (1 ∷ 2 ∷ 4 ∷ 8 ∷ []) ≡ done (gives (told 19 3 (codes "mnopqrssetwx")))
  pub not_set : calls call.GetProperty (2 ∷ 3 ∷ 4 ∷ 8 ∷ []) ≡ answers 1
  pub path_outside : calls call.GetProperty (23 ∷ 2 ∷ 4 ∷ 8 ∷ []) ≡ answers 6
  -- `bc` anew, and `cd` after it
  pub set : calls call.SetProperty (1 ∷ 2 ∷ 4 ∷ 3 ∷ []) ≡ changes (becomes (record own { properties = (codes "bc", codes "efg") ∷ [] }))
  pub set_first : calls call.SetProperty (2 ∷ 3 ∷ 6 ∷ 4 ∷ []) ≡ changes (becomes (record own { properties = (codes "bc", codes "set") ∷ (codes "cde", codes "ghij") ∷ [] }))
  pub of_none : calls_in in_none call.SetProperty (1 ∷ 2 ∷ 4 ∷ 3 ∷ []) ≡ answers 2
  pub one_too_many : calls_in full call.SetProperty (1 ∷ 2 ∷ 4 ∷ 3 ∷ []) ≡ answers 10
  pub value_outside : calls call.SetProperty (1 ∷ 2 ∷ 22 ∷ 3 ∷ []) ≡ answers 6

-- a fixed path, after the letters
abbrev pub name : List ℕ
name = codes "plugin_name"

abbrev pub vm_id : List ℕ
vm_id = codes "plugin_vm_id"

abbrev pub of_request : List ℕ → List ℕ
of_request part = codes "request" ++ 0 ∷ part

abbrev pub reads_at : List ℕ → (len : ℕ) → Program Hosted
reads_at path len = calls_on (letters ++ path) call.GetProperty (24 ∷ len ∷ 4 ∷ 8 ∷ [])

-- it is not set
abbrev pub refuses : List ℕ → (len : ℕ) → Program Hosted
refuses path len = calls_on (letters ++ path) call.SetProperty (24 ∷ len ∷ 4 ∷ 3 ∷ [])

pub record PathExamples : Type 0 where
  pub plugin_name : reads_at name 11 ≡ done (gives (told 20 4 (codes "mnopqrstplug" ++ name)))
  pub plugin_vm_id : reads_at vm_id 12 ≡ done (gives (told 18 2 (codes "mnopqrm3uvwx" ++ vm_id)))
  pub path : reads_at (of_request (codes "path")) 12 ≡ done (gives (told 18 2 (codes "mnopqr/puvwx" ++ of_request (codes "path"))))
  pub method : reads_at (of_request (codes "method")) 14 ≡ done (gives (told 19 3 (codes "mnopqrsGETwx" ++ of_request (codes "method"))))
  pub host : reads_at (of_request (codes "host")) 12 ≡ done (gives (told 17 1 (codes "mnopqhstuvwx" ++ of_request (codes "host"))))
  pub scheme : reads_at (of_request (codes "scheme")) 14 ≡ done (gives (told 20 4 (codes "mnopqrsthttp" ++ of_request (codes "scheme"))))
  pub name_is_kept : refuses name 11 ≡ done (ends 2 (guest (letters ++ name) 9) no_changes [])
  pub vm_id_is_kept : refuses vm_id 12 ≡ done (ends 2 (guest (letters ++ vm_id) 9) no_changes [])
  pub path_is_kept : refuses (of_request (codes "path")) 12 ≡ done (ends 2 (guest (letters ++ of_request (codes "path")) 9) no_changes [])
