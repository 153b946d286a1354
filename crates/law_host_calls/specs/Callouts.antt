-- The calls on what came back for a callout, while that is told: `called` with the fields of the response and the trailer `t: z`.
use Rattle.std.specs.Prelude.{◌≡◌, ℕ, List, [], ◌∷◌, ◌++◌, Some, codes, replicate}
use Rattle.abi_model.specs.declared.table.HostCall.TheVariants as call
use Rattle.contexts.specs.Reached.{Seen}
use Rattle.contexts.specs.declared.parts.CallAnswer.{CallAnswer}
use Rattle.store_model.specs.Program.{done}
use Rattle.law_host_calls.specs.Scenes.{guest, told, told_one, response, plain, own, in_own, calls_by, calls_in, calls, answers, writes, gives}

abbrev pub answer : CallAnswer
answer = record { fields = response; body = codes "called"; trailers = plain ((codes "t", codes "z") ∷ []) }

-- the pair `t: z` in serialised form
abbrev pub trailer : List ℕ
trailer = 1 ∷ 0 ∷ 0 ∷ 0 ∷ 1 ∷ 0 ∷ 0 ∷ 0 ∷ 1 ∷ 0 ∷ 0 ∷ 0 ∷ 116 ∷ 0 ∷ 122 ∷ 0 ∷ []

abbrev pub hearing : Seen
hearing = in_own (record own { answer = Some answer })

pub record AnswerExamples : Type 0 where
  -- the body from byte 1 on, three at most
  pub body : calls_in hearing call.GetBufferBytes (4 ∷ 1 ∷ 3 ∷ 4 ∷ 8 ∷ []) ≡ done (gives (told 19 3 (codes "mnopqrsallwx")))
  pub no_body : calls call.GetBufferBytes (4 ∷ 1 ∷ 3 ∷ 4 ∷ 8 ∷ []) ≡ answers 1
  -- six bytes
  pub size : calls_in hearing call.GetBufferStatus (4 ∷ 4 ∷ 8 ∷ []) ≡ done (writes (told 6 0 (codes "mnopqrstuvwx")))
  pub no_size : calls call.GetBufferStatus (4 ∷ 4 ∷ 8 ∷ []) ≡ answers 1
  -- the value of `bc`, and that of `t`
  pub fields : calls_in hearing call.GetHeaderMapValue (6 ∷ 1 ∷ 2 ∷ 4 ∷ 8 ∷ []) ≡ done (gives (told 18 2 (codes "mnopqrrsuvwx")))
  pub trailers : calls_in hearing call.GetHeaderMapValue (7 ∷ 19 ∷ 1 ∷ 4 ∷ 8 ∷ []) ≡ done (gives (told 17 1 (codes "mnopqzstuvwx")))
  pub no_fields : calls call.GetHeaderMapValue (6 ∷ 1 ∷ 2 ∷ 4 ∷ 8 ∷ []) ≡ answers 1
  pub no_trailers : calls call.GetHeaderMapValue (7 ∷ 19 ∷ 1 ∷ 4 ∷ 8 ∷ []) ≡ answers 1
  -- 16 bytes, to place 32 of 48
  pub trailers_pairs : calls_by (guest (replicate 48 0) 9) hearing call.GetHeaderMapPairs (7 ∷ 4 ∷ 8 ∷ []) ≡ done (gives (0 ∷ 0 ∷ 0 ∷ 0 ∷ 32 ∷ 0 ∷ 0 ∷ 0 ∷ 16 ∷ 0 ∷ 0 ∷ 0 ∷ replicate 20 0 ++ trailer))
  pub no_pairs : calls call.GetHeaderMapPairs (6 ∷ 4 ∷ 8 ∷ []) ≡ answers 1
  -- 38 bytes
  pub fields_size : calls_in hearing call.GetHeaderMapSize (6 ∷ 4 ∷ []) ≡ done (writes (told_one 38 (codes "ijklmnopqrstuvwx")))
  pub trailers_size : calls_in hearing call.GetHeaderMapSize (7 ∷ 4 ∷ []) ≡ done (writes (told_one 16 (codes "ijklmnopqrstuvwx")))
  -- each is read alone
  pub body_is_kept : calls_in hearing call.SetBufferBytes (4 ∷ 1 ∷ 3 ∷ 4 ∷ 2 ∷ []) ≡ answers 2
  pub none_is_kept : calls call.SetBufferBytes (4 ∷ 1 ∷ 3 ∷ 4 ∷ 2 ∷ []) ≡ answers 1
  pub added : calls_in hearing call.AddHeaderMapValue (6 ∷ 1 ∷ 2 ∷ 4 ∷ 3 ∷ []) ≡ answers 2
  pub added_nowhere : calls call.AddHeaderMapValue (6 ∷ 1 ∷ 2 ∷ 4 ∷ 3 ∷ []) ≡ answers 1
  pub replaced : calls_in hearing call.ReplaceHeaderMapValue (7 ∷ 1 ∷ 2 ∷ 4 ∷ 3 ∷ []) ≡ answers 2
  pub replaced_nowhere : calls call.ReplaceHeaderMapValue (7 ∷ 1 ∷ 2 ∷ 4 ∷ 3 ∷ []) ≡ answers 1
  pub removed : calls_in hearing call.RemoveHeaderMapValue (6 ∷ 1 ∷ 2 ∷ []) ≡ answers 2
  pub removed_nowhere : calls call.RemoveHeaderMapValue (6 ∷ 1 ∷ 2 ∷ []) ≡ answers 1
  pub set : calls_in hearing call.SetHeaderMapPairs (7 ∷ 2 ∷ 0 ∷ []) ≡ answers 2
  pub set_nowhere : calls call.SetHeaderMapPairs (7 ∷ 2 ∷ 0 ∷ []) ≡ answers 1
  -- the map 5 is never there
  pub no_map : calls_in hearing call.GetHeaderMapValue (5 ∷ 1 ∷ 2 ∷ 4 ∷ 8 ∷ []) ≡ answers 1
  pub no_such_map : calls_in hearing call.SetHeaderMapPairs (8 ∷ 2 ∷ 0 ∷ []) ≡ answers 2
