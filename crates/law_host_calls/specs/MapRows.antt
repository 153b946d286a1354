-- The calls on maps. The request has `bc: xyz` and `k: v`, its trailers `bc: qt`, the response `bc: rs`, its trailers `t: u`.
use Rattle.std.specs.Prelude.{◌≡◌, ℕ, List, [], ◌∷◌, ◌++◌, Some, codes, replicate}
use Rattle.abi_model.specs.declared.table.HostCall.TheVariants as call
use Rattle.contexts.specs.Reached.{Seen, Changes, no_changes}
use Rattle.contexts.specs.declared.parts.Maps.{Maps}
use Rattle.header_maps.specs.Pairs.{Pair}
use Rattle.store_model.specs.Program.{done}
use Rattle.law_host_calls.specs.Scenes.{guest, told, told_one, one_pair, request, response, plain, maps, view, in_root, in_view, calls_on, calls_in, calls, ends, answers, changes, writes, gives}

-- the pair `t: u` in serialised form
abbrev pub trailer : List ℕ
trailer = 1 ∷ 0 ∷ 0 ∷ 0 ∷ 1 ∷ 0 ∷ 0 ∷ 0 ∷ 1 ∷ 0 ∷ 0 ∷ 0 ∷ 116 ∷ 0 ∷ 117 ∷ 0 ∷ []

pub record MapReads : Type 0 where
  -- the value of `bc` in each map
  pub of_request : calls call.GetHeaderMapValue (0 ∷ 1 ∷ 2 ∷ 4 ∷ 8 ∷ []) ≡ done (gives (told 19 3 (codes "mnopqrsxyzwx")))
  pub of_request_trailers : calls call.GetHeaderMapValue (1 ∷ 1 ∷ 2 ∷ 4 ∷ 8 ∷ []) ≡ done (gives (told 18 2 (codes "mnopqrqtuvwx")))
  pub of_response : calls call.GetHeaderMapValue (2 ∷ 1 ∷ 2 ∷ 4 ∷ 8 ∷ []) ≡ done (gives (told 18 2 (codes "mnopqrrsuvwx")))
  pub of_response_trailers : calls call.GetHeaderMapValue (3 ∷ 19 ∷ 1 ∷ 4 ∷ 8 ∷ []) ≡ done (gives (told 17 1 (codes "mnopqustuvwx")))
  -- no field `cd`
  pub no_value : calls call.GetHeaderMapValue (0 ∷ 2 ∷ 3 ∷ 4 ∷ 8 ∷ []) ≡ answers 1
  pub no_map : calls call.GetHeaderMapValue (4 ∷ 1 ∷ 2 ∷ 3 ∷ 8 ∷ []) ≡ answers 1
  pub no_exchange : calls_in in_root call.GetHeaderMapValue (0 ∷ 1 ∷ 2 ∷ 4 ∷ 8 ∷ []) ≡ answers 1
  pub no_such_map : calls call.GetHeaderMapValue (9 ∷ 1 ∷ 2 ∷ 4 ∷ 8 ∷ []) ≡ answers 2
  pub name_outside : calls call.GetHeaderMapValue (0 ∷ 23 ∷ 2 ∷ 4 ∷ 8 ∷ []) ≡ answers 6
  -- 16 bytes, to place 32 of 48
  pub pairs : calls_on (replicate 48 0) call.GetHeaderMapPairs (3 ∷ 4 ∷ 8 ∷ []) ≡ done (gives (0 ∷ 0 ∷ 0 ∷ 0 ∷ 32 ∷ 0 ∷ 0 ∷ 0 ∷ 16 ∷ 0 ∷ 0 ∷ 0 ∷ replicate 20 0 ++ trailer))
  pub no_pairs : calls call.GetHeaderMapPairs (5 ∷ 4 ∷ 8 ∷ []) ≡ answers 1
  pub pairs_of_none : calls call.GetHeaderMapPairs (9 ∷ 4 ∷ 8 ∷ []) ≡ answers 2
  pub pairs_outside : calls call.GetHeaderMapPairs (3 ∷ 4 ∷ 21 ∷ []) ≡ answers 6
  -- how many bytes its pairs have in serialised form
  pub size : calls call.GetHeaderMapSize (3 ∷ 4 ∷ []) ≡ done (writes (told_one 16 (codes "ijklmnopqrstuvwx")))
  pub no_size : calls call.GetHeaderMapSize (6 ∷ 4 ∷ []) ≡ answers 1
  pub size_of_none : calls call.GetHeaderMapSize (8 ∷ 4 ∷ []) ≡ answers 2
  pub size_outside : calls call.GetHeaderMapSize (3 ∷ 21 ∷ []) ≡ answers 6

abbrev pub becomes : Maps → Changes
becomes m = record no_changes { exchange = Some (record view { maps = m }) }

abbrev pub request_is : List Pair → Changes
request_is fields = becomes (record maps { request = Some (request fields) })

-- a request with 100 fields, which are as many as a map may have
abbrev pub full : Seen
full = in_view (record view { maps = record maps { request = Some (request (replicate 100 (codes "k", codes "v"))) } })

pub record MapWrites : Type 0 where
  -- `bc: efg` comes after the others, and `bc: xyz` stays
  pub added : calls call.AddHeaderMapValue (0 ∷ 1 ∷ 2 ∷ 4 ∷ 3 ∷ []) ≡ changes (request_is ((codes "bc", codes "xyz") ∷ (codes "k", codes "v") ∷ (codes "bc", codes "efg") ∷ []))
  pub added_to_trailers : calls call.AddHeaderMapValue (3 ∷ 1 ∷ 2 ∷ 4 ∷ 5 ∷ []) ≡ changes (becomes (record maps { response_trailers = Some (plain ((codes "t", codes "u") ∷ (codes "bc", codes "efghi") ∷ [])) }))
  pub added_nowhere : calls call.AddHeaderMapValue (4 ∷ 1 ∷ 2 ∷ 5 ∷ 3 ∷ []) ≡ answers 1
  pub added_to_none : calls call.AddHeaderMapValue (8 ∷ 1 ∷ 2 ∷ 4 ∷ 3 ∷ []) ≡ answers 2
  -- a name of no bytes
  pub added_unnamed : calls call.AddHeaderMapValue (0 ∷ 1 ∷ 0 ∷ 4 ∷ 3 ∷ []) ≡ answers 2
  pub one_too_many : calls_in full call.AddHeaderMapValue (0 ∷ 1 ∷ 2 ∷ 4 ∷ 3 ∷ []) ≡ answers 10
  pub added_outside : calls call.AddHeaderMapValue (0 ∷ 1 ∷ 2 ∷ 22 ∷ 3 ∷ []) ≡ answers 6
  -- `bc: efg` is where `bc: xyz` was
  pub replaced : calls call.ReplaceHeaderMapValue (0 ∷ 1 ∷ 2 ∷ 4 ∷ 3 ∷ []) ≡ changes (request_is ((codes "bc", codes "efg") ∷ (codes "k", codes "v") ∷ []))
  -- no field `cde` was there
  pub put_last : calls call.ReplaceHeaderMapValue (1 ∷ 2 ∷ 3 ∷ 6 ∷ 4 ∷ []) ≡ changes (becomes (record maps { request_trailers = Some (plain ((codes "bc", codes "qt") ∷ (codes "cde", codes "ghij") ∷ [])) }))
  pub replaced_nowhere : calls call.ReplaceHeaderMapValue (4 ∷ 1 ∷ 2 ∷ 5 ∷ 3 ∷ []) ≡ answers 1
  pub replaced_in_none : calls call.ReplaceHeaderMapValue (8 ∷ 1 ∷ 2 ∷ 4 ∷ 3 ∷ []) ≡ answers 2
  pub replaced_unnamed : calls call.ReplaceHeaderMapValue (0 ∷ 1 ∷ 0 ∷ 4 ∷ 3 ∷ []) ≡ answers 2
  pub replaced_past_all : calls_in full call.ReplaceHeaderMapValue (0 ∷ 1 ∷ 2 ∷ 4 ∷ 3 ∷ []) ≡ answers 10
  pub replaced_outside : calls call.ReplaceHeaderMapValue (0 ∷ 1 ∷ 2 ∷ 22 ∷ 3 ∷ []) ≡ answers 6

pub record MapChanges : Type 0 where
  pub removed : calls call.RemoveHeaderMapValue (0 ∷ 1 ∷ 2 ∷ []) ≡ changes (request_is ((codes "k", codes "v") ∷ []))
  pub removed_from_response : calls call.RemoveHeaderMapValue (2 ∷ 1 ∷ 2 ∷ []) ≡ changes (becomes (record maps { response = Some (record response { pairs = (codes ":status", codes "204") ∷ [] }) }))
  -- no field `cde` was there: done
  pub was_absent : calls call.RemoveHeaderMapValue (1 ∷ 2 ∷ 3 ∷ []) ≡ changes (becomes maps)
  pub removed_nowhere : calls call.RemoveHeaderMapValue (4 ∷ 1 ∷ 2 ∷ []) ≡ answers 1
  pub removed_from_none : calls call.RemoveHeaderMapValue (8 ∷ 1 ∷ 2 ∷ []) ≡ answers 2
  pub removed_unnamed : calls call.RemoveHeaderMapValue (0 ∷ 1 ∷ 0 ∷ []) ≡ answers 2
  -- a pseudo-header is not removed
  pub removed_pseudo : calls_on (codes "abc:path") call.RemoveHeaderMapValue (0 ∷ 3 ∷ 5 ∷ []) ≡ done (ends 2 (guest (codes "abc:path") 9) no_changes [])
  pub removed_outside : calls call.RemoveHeaderMapValue (0 ∷ 23 ∷ 2 ∷ []) ≡ answers 6
  -- `b: cd` alone, from the 17 bytes at place 2
  pub set : calls_on (codes "ab" ++ one_pair) call.SetHeaderMapPairs (1 ∷ 2 ∷ 17 ∷ []) ≡ done (ends 0 (guest (codes "ab" ++ one_pair) 9) (becomes (record maps { request_trailers = Some (plain ((codes "b", codes "cd") ∷ [])) })) [])
  -- no bytes are no pairs
  pub emptied : calls call.SetHeaderMapPairs (3 ∷ 2 ∷ 0 ∷ []) ≡ changes (becomes (record maps { response_trailers = Some (plain []) }))
  -- a request without its pseudo-headers
  pub set_unnamed : calls_on (codes "ab" ++ one_pair) call.SetHeaderMapPairs (0 ∷ 2 ∷ 17 ∷ []) ≡ done (ends 2 (guest (codes "ab" ++ one_pair) 9) no_changes [])
  pub set_nowhere : calls call.SetHeaderMapPairs (4 ∷ 2 ∷ 0 ∷ []) ≡ answers 1
  pub set_in_none : calls call.SetHeaderMapPairs (8 ∷ 2 ∷ 0 ∷ []) ≡ answers 2
  pub no_pairs : calls call.SetHeaderMapPairs (1 ∷ 2 ∷ 5 ∷ []) ≡ answers 4
  pub set_outside : calls call.SetHeaderMapPairs (1 ∷ 22 ∷ 5 ∷ []) ≡ answers 6
