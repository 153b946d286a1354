-- The calls on buffers. The request holds `request`, the response `answer`.
use Rattle.std.specs.Prelude.{◌≡◌, ℕ, List, [], ◌∷◌, None, Some, codes}
use Rattle.abi_model.specs.declared.table.HostCall.TheVariants as call
use Rattle.contexts.specs.Reached.{Changes, no_changes}
use Rattle.contexts.specs.declared.parts.Own.{Own}
use Rattle.store_model.specs.Program.{done}
use Rattle.law_host_calls.specs.Scenes.{guest_of, allocates, letters, told, own, idle, in_none, in_own, calls_by, calls_in, calls, seen, ends, answers, changes, writes, gives}

pub record BufferReads : Type 0 where
  -- from byte 1 on, three at most: `equ`, to place 19
  pub part : calls call.GetBufferBytes (0 ∷ 1 ∷ 3 ∷ 4 ∷ 8 ∷ []) ≡ done (gives (told 19 3 (codes "mnopqrsequwx")))
  pub of_response : calls call.GetBufferBytes (1 ∷ 2 ∷ 3 ∷ 4 ∷ 8 ∷ []) ≡ done (gives (told 19 3 (codes "mnopqrsswewx")))
  -- the configurations of the VM and of the plug-in
  pub of_vm : calls call.GetBufferBytes (6 ∷ 1 ∷ 3 ∷ 4 ∷ 8 ∷ []) ≡ done (gives (told 19 3 (codes "mnopqrsf twx")))
  pub of_plugin : calls call.GetBufferBytes (7 ∷ 1 ∷ 3 ∷ 4 ∷ 8 ∷ []) ≡ done (gives (told 19 3 (codes "mnopqrsf pwx")))
  -- fewer are there: the last four
  pub short : calls call.GetBufferBytes (1 ∷ 2 ∷ 9 ∷ 4 ∷ 8 ∷ []) ≡ done (gives (told 20 4 (codes "mnopqrstswer")))
  -- at the end there are none, past it there is no part
  pub at_the_end : calls call.GetBufferBytes (0 ∷ 7 ∷ 3 ∷ 4 ∷ 8 ∷ []) ≡ done (writes (told 0 0 (codes "mnopqrstuvwx")))
  pub past_the_end : calls call.GetBufferBytes (0 ∷ 8 ∷ 3 ∷ 4 ∷ 12 ∷ []) ≡ answers 2
  pub no_such : calls call.GetBufferBytes (9 ∷ 1 ∷ 3 ∷ 4 ∷ 8 ∷ []) ≡ answers 2
  pub never_there : calls call.GetBufferBytes (5 ∷ 1 ∷ 3 ∷ 4 ∷ 8 ∷ []) ≡ answers 1
  -- no body callback runs, and nothing is held
  pub not_there : calls_in (in_own idle) call.GetBufferBytes (0 ∷ 1 ∷ 3 ∷ 4 ∷ 8 ∷ []) ≡ answers 1
  pub no_context : calls_in in_none call.GetBufferBytes (6 ∷ 1 ∷ 3 ∷ 4 ∷ 8 ∷ []) ≡ answers 1
  pub outside : calls call.GetBufferBytes (0 ∷ 1 ∷ 3 ∷ 4 ∷ 21 ∷ []) ≡ answers 6
  pub no_allocator : calls_by (guest_of None allocates letters 9) seen call.GetBufferBytes (0 ∷ 1 ∷ 3 ∷ 4 ∷ 8 ∷ []) ≡ done (ends 10 (guest_of None allocates letters 9) no_changes [])

pub record BufferSizes : Type 0 where
  -- seven bytes, with the end; six, without it
  pub of_request : calls call.GetBufferStatus (0 ∷ 4 ∷ 8 ∷ []) ≡ done (writes (told 7 1 (codes "mnopqrstuvwx")))
  pub of_response : calls call.GetBufferStatus (1 ∷ 4 ∷ 8 ∷ []) ≡ done (writes (told 6 0 (codes "mnopqrstuvwx")))
  pub of_vm : calls call.GetBufferStatus (6 ∷ 4 ∷ 8 ∷ []) ≡ done (writes (told 9 0 (codes "mnopqrstuvwx")))
  -- the flag at place 4, the size at place 8
  pub turned : calls call.GetBufferStatus (0 ∷ 8 ∷ 4 ∷ []) ≡ done (writes (told 1 7 (codes "mnopqrstuvwx")))
  pub not_there : calls call.GetBufferStatus (3 ∷ 4 ∷ 8 ∷ []) ≡ answers 1
  pub no_such : calls call.GetBufferStatus (9 ∷ 4 ∷ 8 ∷ []) ≡ answers 2
  pub outside : calls call.GetBufferStatus (0 ∷ 4 ∷ 21 ∷ []) ≡ answers 6

abbrev pub becomes : Own → Changes
becomes o = record no_changes { own = Some o }

abbrev pub request_is : List ℕ → Own
request_is bytes = record own { request = record own.request { held = bytes } }

abbrev pub response_is : List ℕ → Own
response_is bytes = record own { response = record own.response { held = bytes } }

pub record BufferWrites : Type 0 where
  -- from byte 1 on, three are replaced by the two letters at place 4
  pub replaced : calls call.SetBufferBytes (0 ∷ 1 ∷ 3 ∷ 4 ∷ 2 ∷ []) ≡ changes (becomes (request_is (codes "refest")))
  -- from byte 2 on, three are replaced by five
  pub of_response : calls call.SetBufferBytes (1 ∷ 2 ∷ 3 ∷ 4 ∷ 5 ∷ []) ≡ changes (becomes (response_is (codes "anefghir")))
  -- in front, and after the last byte
  pub in_front : calls call.SetBufferBytes (1 ∷ 0 ∷ 0 ∷ 4 ∷ 2 ∷ []) ≡ changes (becomes (response_is (codes "efanswer")))
  pub past_the_end : calls call.SetBufferBytes (0 ∷ 9 ∷ 1 ∷ 4 ∷ 2 ∷ []) ≡ changes (becomes (request_is (codes "requestef")))
  -- a range of no bytes takes bytes away, wherever it begins
  pub taken_away : calls call.SetBufferBytes (0 ∷ 1 ∷ 3 ∷ 99 ∷ 0 ∷ []) ≡ changes (becomes (request_is (codes "rest")))
  pub vm_is_kept : calls call.SetBufferBytes (6 ∷ 1 ∷ 3 ∷ 4 ∷ 2 ∷ []) ≡ answers 2
  pub plugin_is_kept : calls call.SetBufferBytes (7 ∷ 1 ∷ 3 ∷ 4 ∷ 2 ∷ []) ≡ answers 2
  pub no_such : calls call.SetBufferBytes (9 ∷ 1 ∷ 3 ∷ 4 ∷ 2 ∷ []) ≡ answers 2
  pub not_there : calls call.SetBufferBytes (8 ∷ 1 ∷ 3 ∷ 4 ∷ 2 ∷ []) ≡ answers 1
  pub idle_stage : calls_in (in_own idle) call.SetBufferBytes (0 ∷ 1 ∷ 3 ∷ 4 ∷ 2 ∷ []) ≡ answers 1
  pub outside : calls call.SetBufferBytes (0 ∷ 1 ∷ 3 ∷ 22 ∷ 5 ∷ []) ≡ answers 6
