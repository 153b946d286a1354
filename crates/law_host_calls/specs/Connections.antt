-- The calls where lines are streams of bytes: context 5, whose root is 1, is a stream without an exchange.
use Rattle.std.specs.Prelude.{◌≡◌, ℕ, true, false, List, [], ◌∷◌, ◌++◌, codes}
use Rattle.abi_calls.specs.Hosting.{Hosted}
use Rattle.abi_model.specs.declared.table.HostCall.{HostCall}
use Rattle.abi_model.specs.declared.table.HostCall.TheVariants as call
use Rattle.contexts.specs.Reached.{Seen, no_changes}
use Rattle.contexts.specs.declared.parts.EffectKind.TheVariants as what
use Rattle.store_model.specs.Program.{Program, done}
use Rattle.law_host_calls.specs.Buffers.{becomes, request_is, response_is}
use Rattle.law_host_calls.specs.Scenes.{told, letters, guest, own, in_root, calls_by, calls_in, ends, answers, changes, writes, gives}
use Rattle.law_host_calls.specs.Services.{of_request}
use Rattle.law_host_calls.specs.Streams.{asks_for, memory, responds, refuses}

abbrev pub stream : Seen
stream = record in_root { common = record in_root.common { is_tcp = true } }

-- the effective context is its own root, or none
abbrev pub root : Seen
root = record stream { common = record stream.common { effective = 1 } }

abbrev pub connection_calls : HostCall → List ℕ → Program Hosted
connection_calls call args = calls_in stream call args

pub record ConnectionBuffers : Type 0 where
  -- 2 is what came of the client, 3 what came of the server
  pub of_client : connection_calls call.GetBufferBytes (2 ∷ 1 ∷ 3 ∷ 4 ∷ 8 ∷ []) ≡ done (gives (told 19 3 (codes "mnopqrsequwx")))
  pub of_server : connection_calls call.GetBufferBytes (3 ∷ 2 ∷ 3 ∷ 4 ∷ 8 ∷ []) ≡ done (gives (told 19 3 (codes "mnopqrsswewx")))
  pub of_request : connection_calls call.GetBufferBytes (0 ∷ 1 ∷ 3 ∷ 4 ∷ 8 ∷ []) ≡ answers 1
  pub of_response : connection_calls call.GetBufferBytes (1 ∷ 1 ∷ 3 ∷ 4 ∷ 8 ∷ []) ≡ answers 1
  pub of_vm : connection_calls call.GetBufferBytes (6 ∷ 1 ∷ 3 ∷ 4 ∷ 8 ∷ []) ≡ done (gives (told 19 3 (codes "mnopqrsf twx")))
  pub no_such : connection_calls call.GetBufferBytes (9 ∷ 1 ∷ 3 ∷ 4 ∷ 8 ∷ []) ≡ answers 2
  pub size : connection_calls call.GetBufferStatus (2 ∷ 4 ∷ 8 ∷ []) ≡ done (writes (told 7 1 (codes "mnopqrstuvwx")))
  pub no_size : connection_calls call.GetBufferStatus (1 ∷ 4 ∷ 8 ∷ []) ≡ answers 1
  pub client_becomes : connection_calls call.SetBufferBytes (2 ∷ 1 ∷ 3 ∷ 4 ∷ 2 ∷ []) ≡ changes (becomes (request_is (codes "refest")))
  pub server_becomes : connection_calls call.SetBufferBytes (3 ∷ 2 ∷ 3 ∷ 4 ∷ 5 ∷ []) ≡ changes (becomes (response_is (codes "anefghir")))
  pub no_request_becomes : connection_calls call.SetBufferBytes (0 ∷ 1 ∷ 3 ∷ 4 ∷ 2 ∷ []) ≡ answers 1
  pub no_map : connection_calls call.GetHeaderMapValue (0 ∷ 1 ∷ 2 ∷ 4 ∷ 8 ∷ []) ≡ answers 1

pub record ConnectionStreams : Type 0 where
  -- 2 goes to the server, 3 to the client
  pub client_continues : connection_calls call.ContinueStream (2 ∷ []) ≡ changes (asks_for (what.Continue false))
  pub server_continues : connection_calls call.ContinueStream (3 ∷ []) ≡ changes (asks_for (what.Continue true))
  pub client_closes : connection_calls call.CloseStream (2 ∷ []) ≡ changes (asks_for what.Close)
  pub server_closes : connection_calls call.CloseStream (3 ∷ []) ≡ changes (asks_for what.Close)
  -- 0 and 1 are of exchanges
  pub no_request : connection_calls call.ContinueStream (0 ∷ []) ≡ answers 12
  pub no_response : connection_calls call.CloseStream (1 ∷ []) ≡ answers 12
  pub no_such : connection_calls call.ContinueStream (4 ∷ []) ≡ answers 2
  -- a root is no stream, and that comes first
  pub of_root : calls_in root call.ContinueStream (2 ∷ []) ≡ answers 2
  pub root_closes : calls_in root call.CloseStream (0 ∷ []) ≡ answers 2
  -- there is no local response, once its values were judged
  pub no_local : responds stream 403 ≡ refuses 12 memory
  pub status_below : responds stream 199 ≡ refuses 2 memory
  pub root_responds : responds root 403 ≡ refuses 2 memory
  pub no_pairs : connection_calls call.SendLocalResponse (403 ∷ 1 ∷ 2 ∷ 3 ∷ 4 ∷ 7 ∷ 5 ∷ 9 ∷ []) ≡ answers 4

-- a path of a request, after the letters
abbrev pub memory_with : List ℕ → List ℕ
memory_with part = letters ++ of_request part

abbrev pub reads_path : Seen → List ℕ → (len : ℕ) → Program Hosted
reads_path s part len = calls_by (guest (memory_with part) 9) s call.GetProperty (24 ∷ len ∷ 4 ∷ 8 ∷ [])

abbrev pub sets_path : Seen → List ℕ → (len : ℕ) → Program Hosted
sets_path s part len = calls_by (guest (memory_with part) 9) s call.SetProperty (24 ∷ len ∷ 4 ∷ 3 ∷ [])

-- no more than this status
abbrev pub ends_with : ℕ → List ℕ → Program Hosted
ends_with status part = done (ends status (guest (memory_with part) 9) no_changes [])

pub record ConnectionPaths : Type 0 where
  -- those of a request are not there, and are not set
  pub no_path : reads_path stream (codes "path") 12 ≡ ends_with 1 (codes "path")
  pub path_is_kept : sets_path stream (codes "path") 12 ≡ ends_with 2 (codes "path")
  pub method_is_kept : sets_path stream (codes "method") 14 ≡ ends_with 2 (codes "method")
  pub host_is_kept : sets_path stream (codes "host") 12 ≡ ends_with 2 (codes "host")
  pub scheme_is_kept : sets_path stream (codes "scheme") 14 ≡ ends_with 2 (codes "scheme")
  -- so it is of a stream of HTTP that has no exchange any more
  pub without_exchange : sets_path in_root (codes "path") 12 ≡ ends_with 2 (codes "path")
  -- a root may set them
  pub of_root : sets_path root (codes "path") 12
      ≡ done (ends 0 (guest (memory_with (codes "path")) 9) (becomes (record own { properties = (codes "bc", codes "set") ∷ (of_request (codes "path"), codes "efg") ∷ [] })) [])
