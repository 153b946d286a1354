-- The calls on streams, and the local response.
use Rattle.std.specs.Prelude.{◌≡◌, ℕ, true, false, List, [], ◌∷◌, ◌++◌, Some, codes}
use Rattle.abi_calls.specs.Hosting.{Hosted}
use Rattle.abi_model.specs.declared.table.HostCall.TheVariants as call
use Rattle.contexts.specs.Reached.{Seen, Changes, no_changes}
use Rattle.contexts.specs.declared.parts.EffectKind.{EffectKind}
use Rattle.contexts.specs.declared.parts.EffectKind.TheVariants as what
use Rattle.store_model.specs.Program.{Program, done}
use Rattle.law_host_calls.specs.Scenes.{guest, one_pair, plain, view, seen, in_root, in_view, calls_by, calls_on, calls_in, calls, ends, answers, changes}

-- one effect of context 5
abbrev pub asks_for : EffectKind → Changes
asks_for w = record no_changes { effects = record { context = 5; what = w } ∷ [] }

-- seven letters, and then the pair `b: cd`
abbrev pub memory : List ℕ
memory = codes "abcdefg" ++ one_pair

-- the fields are there, of which the name is wrong
abbrev pub pseudo : List ℕ
pseudo = codes "abcdefg" ++ 1 ∷ 0 ∷ 0 ∷ 0 ∷ 2 ∷ 0 ∷ 0 ∷ 0 ∷ 1 ∷ 0 ∷ 0 ∷ 0 ∷ 58 ∷ 98 ∷ 0 ∷ 99 ∷ 0 ∷ []

-- a status, two bytes of details at place 1, four of a body at place 3, 17 of fields at place 7, and a number that is not used
abbrev pub responds : Seen → (status : ℕ) → Program Hosted
responds s status = calls_by (guest memory 9) s call.SendLocalResponse (status ∷ 1 ∷ 2 ∷ 3 ∷ 4 ∷ 7 ∷ 17 ∷ 9 ∷ [])

-- a status alone, of the memory of a local response
abbrev pub refuses : (status : ℕ) → List ℕ → Program Hosted
refuses status bytes = done (ends status (guest bytes 9) no_changes [])

pub record StreamExamples : Type 0 where
  pub request_continues : calls call.ContinueStream (0 ∷ []) ≡ changes (asks_for (what.Continue false))
  pub response_continues : calls call.ContinueStream (1 ∷ []) ≡ changes (asks_for (what.Continue true))
  -- 2 and 3 are of connections
  pub no_client : calls call.ContinueStream (2 ∷ []) ≡ answers 12
  pub no_server : calls call.ContinueStream (3 ∷ []) ≡ answers 12
  pub no_such : calls call.ContinueStream (4 ∷ []) ≡ answers 2
  pub of_root : calls_in in_root call.ContinueStream (0 ∷ []) ≡ answers 2
  pub request_closes : calls call.CloseStream (0 ∷ []) ≡ changes (asks_for what.Close)
  pub response_closes : calls call.CloseStream (1 ∷ []) ≡ changes (asks_for what.Close)
  pub no_client_closes : calls call.CloseStream (2 ∷ []) ≡ answers 12
  pub no_server_closes : calls call.CloseStream (3 ∷ []) ≡ answers 12
  pub none_closes : calls call.CloseStream (4 ∷ []) ≡ answers 2
  pub root_closes : calls_in in_root call.CloseStream (0 ∷ []) ≡ answers 2

pub record ResponseExamples : Type 0 where
  -- the fields of the last range and the body of the second; from then on an answer is asked for
  pub asked : responds seen 403 ≡ done (ends 0 (guest memory 9) (record (asks_for (what.Answer 403 (plain ((codes "b", codes "cd") ∷ [])) (codes "defg"))) { exchange = Some (record view { is_answering = true }) }) [])
  -- no body and no fields
  pub empty : calls call.SendLocalResponse (204 ∷ 1 ∷ 2 ∷ 3 ∷ 0 ∷ 7 ∷ 0 ∷ 9 ∷ []) ≡ changes (record (asks_for (what.Answer 204 (plain []) [])) { exchange = Some (record view { is_answering = true }) })
  pub status_below : responds seen 199 ≡ refuses 2 memory
  pub status_above : responds seen 600 ≡ refuses 2 memory
  pub of_root : responds in_root 403 ≡ refuses 2 memory
  pub asked_before : responds (in_view (record view { is_answering = true })) 403 ≡ refuses 2 memory
  pub answered : responds (in_view (record view { is_answered = true })) 403 ≡ refuses 2 memory
  pub ended : responds (in_view (record view { has_ended = true })) 403 ≡ refuses 2 memory
  pub head_is_out : responds (in_view (record view { is_head_out = true })) 403 ≡ refuses 2 memory
  -- no field has a name that begins with a colon
  pub bad_name : calls_on pseudo call.SendLocalResponse (403 ∷ 1 ∷ 2 ∷ 3 ∷ 4 ∷ 7 ∷ 17 ∷ 9 ∷ []) ≡ refuses 2 pseudo
  -- 16 bytes of them are no pairs
  pub no_pairs : calls_on memory call.SendLocalResponse (403 ∷ 1 ∷ 2 ∷ 3 ∷ 4 ∷ 7 ∷ 16 ∷ 9 ∷ []) ≡ refuses 4 memory
  -- each of the ranges
  pub details_outside : calls call.SendLocalResponse (403 ∷ 23 ∷ 2 ∷ 3 ∷ 4 ∷ 7 ∷ 0 ∷ 9 ∷ []) ≡ answers 6
  pub body_outside : calls call.SendLocalResponse (403 ∷ 1 ∷ 2 ∷ 22 ∷ 4 ∷ 7 ∷ 0 ∷ 9 ∷ []) ≡ answers 6
  pub fields_outside : calls call.SendLocalResponse (403 ∷ 1 ∷ 2 ∷ 3 ∷ 4 ∷ 7 ∷ 18 ∷ 9 ∷ []) ≡ answers 6
