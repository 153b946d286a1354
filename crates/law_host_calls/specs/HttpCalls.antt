-- The call for a callout. A guest has what it gives one behind the other in its memory, from place 0 on, and behind it four bytes for the id. Context 5
-- of VM 2 calls, at most 1,000 milliseconds are given, and no callout is under way where nothing else is said.
use Rattle.std.specs.Prelude.{◌≡◌, ℕ, ◌+◌, true, List, [], ◌∷◌, ◌++◌, length, nat_lt, codes, replicate}
use Rattle.abi_calls.specs.Hosting.{Hosted}
use Rattle.abi_model.specs.Calls as model
use Rattle.abi_model.specs.declared.table.HostCall.TheVariants as call
use Rattle.abi_services.specs.Callouts.{calling_with}
use Rattle.contexts.specs.Reached.{Seen, Changes, no_changes}
use Rattle.contexts.specs.declared.parts.Effect.{Effect}
use Rattle.contexts.specs.declared.parts.EffectKind.TheVariants as what
use Rattle.contexts.specs.declared.parts.Request.{Request}
use Rattle.header_maps.specs.Headers.{Headers}
use Rattle.header_maps.specs.Pairs.{Pair}
use Rattle.header_maps.specs.declared.kind.ListKind.TheVariants as kinds
use Rattle.pair_codec.specs.Serialised.{pairs_bytes}
use Rattle.store_model.specs.Program.{Program, done}
use Rattle.law_host_calls.specs.Scenes.{guest, plain, seen, in_root, in_none, calls_by, ends}

-- ---- what is given

pub record Given : Type 0 where
  pub upstream : List ℕ
  pub headers : List ℕ
  pub body : List ℕ
  pub trailers : List ℕ

-- `GET /auth` of `x`: three pairs in 65 bytes
abbrev pub auth : List ℕ
auth =
    3 ∷ 0 ∷ 0 ∷ 0 ∷ 7 ∷ 0 ∷ 0 ∷ 0 ∷ 3 ∷ 0 ∷ 0 ∷ 0 ∷ 5 ∷ 0 ∷ 0 ∷ 0 ∷ 5 ∷ 0 ∷ 0 ∷ 0 ∷ 10 ∷ 0 ∷ 0 ∷ 0 ∷ 1 ∷ 0 ∷ 0 ∷ 0 ∷ []
    ++ codes ":method" ++ 0 ∷ [] ++ codes "GET" ++ 0 ∷ [] ++ codes ":path" ++ 0 ∷ [] ++ codes "/auth" ++ 0 ∷ [] ++ codes ":authority" ++ 0 ∷ [] ++ codes "x" ++ 0 ∷ []

abbrev pub given : Given
given = record { upstream = codes "upstream"; headers = auth; body = []; trailers = [] }

abbrev pub with_headers : List Pair → Given
with_headers pairs = record given { headers = pairs_bytes pairs }

abbrev pub with_trailers : List Pair → Given
with_trailers pairs = record given { trailers = pairs_bytes pairs }

-- the pseudo-headers of that request without one of them, and with further pairs
abbrev pub method : Pair
method = (codes ":method", codes "GET")

abbrev pub path : Pair
path = (codes ":path", codes "/auth")

abbrev pub authority : Pair
authority = (codes ":authority", codes "x")

abbrev pub asking_for : List Pair → List Pair
asking_for more = method ∷ path ∷ authority ∷ more

-- ---- the call

abbrev pub memory_of : Given → (id : List ℕ) → List ℕ
memory_of x id = x.upstream ++ (x.headers ++ (x.body ++ (x.trailers ++ id)))

abbrev pub no_id : List ℕ
no_id = 0 ∷ 0 ∷ 0 ∷ 0 ∷ []

abbrev pub sizes_of : (first second third fourth : ℕ) → List ℕ
sizes_of first second third fourth = 0 ∷ first ∷ first ∷ second ∷ (first + second) ∷ third ∷ (first + second + third) ∷ fourth ∷ 1000 ∷ (first + second + third + fourth) ∷ []

abbrev pub asks_in : Seen → Given → Program Hosted
asks_in s x = calls_by (guest (memory_of x no_id) 9) s call.HttpCall (sizes_of (length x.upstream) (length x.headers) (length x.body) (length x.trailers))

abbrev pub asks : Given → Program Hosted
asks x = asks_in seen x

-- ---- how it ends

abbrev pub refused : ℕ → Given → Program Hosted
refused status x = done (ends status (guest (memory_of x no_id) 9) no_changes [])

abbrev pub asked_for : Request → Changes
asked_for q = record no_changes { effects = record { context = 5; what = what.Call q } ∷ [] }

-- it has begun, and its id is in the memory
abbrev pub begun : (id : List ℕ) → Request → Given → Program Hosted
begun id q x = done (ends 0 (guest (memory_of x id) 9) (asked_for q) [])

abbrev pub fields_of : (scheme : List ℕ) → List Pair → Headers
fields_of scheme fields = record { kind = kinds.Request; pairs = method ∷ (codes ":scheme", scheme) ∷ authority ∷ path ∷ fields }

abbrev pub wants : (fields : Headers) → (body : List ℕ) → (trailers : List Pair) → Request
wants fields body trailers = record { vm = 2; context = 5; fields = fields; body = body; trailers = plain trailers; timeout_ms = 1000 }

abbrev pub request : Request
request = wants (fields_of (codes "http") []) [] []

-- ---- what was there

abbrev pub with_calls : (under_way last : ℕ) → List Effect → Seen
with_calls under_way last effects = record seen { common = record seen.common { calls = record { under_way = under_way; last = last }; effects = effects } }

abbrev pub a_call : Effect
a_call = record { context = 5; what = what.Call request }

abbrev pub a_close : Effect
a_close = record { context = 5; what = what.Close }

-- THE WORKED CALL: its map at place 0, the upstream's name at 72, the id to 96
abbrev pub worked_memory : (id : List ℕ) → List ℕ
worked_memory id = auth ++ (replicate 7 0 ++ (codes "upstream" ++ (replicate 16 0 ++ id)))

pub record CallsMade : Type 0 where
  pub worked : calls_by (guest (worked_memory no_id) 9) seen call.HttpCall (72 ∷ 8 ∷ 0 ∷ 65 ∷ 0 ∷ 0 ∷ 0 ∷ 0 ∷ 1000 ∷ 96 ∷ [])
      ≡ done (ends 0 (guest (worked_memory (1 ∷ 0 ∷ 0 ∷ 0 ∷ [])) 9) (asked_for request) [])
  pub first : asks given ≡ begun (1 ∷ 0 ∷ 0 ∷ 0 ∷ []) request given
  -- a root calls too
  pub of_root : asks_in in_root given ≡ begun (1 ∷ 0 ∷ 0 ∷ 0 ∷ []) request given
  -- the second of one callback, whatever else that asked for
  pub second : asks_in (with_calls 0 0 (a_close ∷ a_call ∷ a_close ∷ [])) given ≡ begun (2 ∷ 0 ∷ 0 ∷ 0 ∷ []) request given
  -- behind those of earlier callbacks: 256 was the last, and one more was asked for
  pub behind_others : asks_in (with_calls 3 256 (a_call ∷ [])) given ≡ begun (2 ∷ 1 ∷ 0 ∷ 0 ∷ []) request given
  -- a scheme that is given stays; fields stand behind the pseudo-headers with their names in lower case; a body and trailers
  pub whole : asks (record given { headers = pairs_bytes ((codes "A", codes "1") ∷ asking_for ((codes ":scheme", codes "https") ∷ [])); body = codes "abc"; trailers = pairs_bytes ((codes "T", codes "u") ∷ []) })
      ≡ begun (1 ∷ 0 ∷ 0 ∷ 0 ∷ []) (wants (fields_of (codes "https") ((codes "a", codes "1") ∷ [])) (codes "abc") ((codes "t", codes "u") ∷ []))
      (record given { headers = pairs_bytes ((codes "A", codes "1") ∷ asking_for ((codes ":scheme", codes "https") ∷ [])); body = codes "abc"; trailers = pairs_bytes ((codes "T", codes "u") ∷ []) })
  -- 63 are under way, and with one of this callback 64; the last id is 2,147,483,647
  pub last_under_way : asks_in (with_calls 63 70 []) given ≡ begun (71 ∷ 0 ∷ 0 ∷ 0 ∷ []) request given
  pub last_of_callback : asks_in (with_calls 62 70 (a_call ∷ [])) given ≡ begun (72 ∷ 0 ∷ 0 ∷ 0 ∷ []) request given
  pub last_id : asks_in (with_calls 0 2147483646 []) given ≡ begun (255 ∷ 255 ∷ 255 ∷ 127 ∷ []) request given

pub record CallsRefused : Type 0 where
  -- each of the ranges, and the place
  pub upstream_outside : calls_by (guest (worked_memory no_id) 9) in_none call.HttpCall (93 ∷ 8 ∷ 0 ∷ 65 ∷ 0 ∷ 0 ∷ 0 ∷ 0 ∷ 1000 ∷ 96 ∷ []) ≡ done (ends 6 (guest (worked_memory no_id) 9) no_changes [])
  pub headers_outside : calls_by (guest (worked_memory no_id) 9) seen call.HttpCall (72 ∷ 8 ∷ 36 ∷ 65 ∷ 0 ∷ 0 ∷ 0 ∷ 0 ∷ 1000 ∷ 96 ∷ []) ≡ done (ends 6 (guest (worked_memory no_id) 9) no_changes [])
  pub body_outside : calls_by (guest (worked_memory no_id) 9) seen call.HttpCall (72 ∷ 8 ∷ 0 ∷ 65 ∷ 99 ∷ 2 ∷ 0 ∷ 0 ∷ 1000 ∷ 96 ∷ []) ≡ done (ends 6 (guest (worked_memory no_id) 9) no_changes [])
  pub trailers_outside : calls_by (guest (worked_memory no_id) 9) seen call.HttpCall (72 ∷ 8 ∷ 0 ∷ 65 ∷ 0 ∷ 0 ∷ 100 ∷ 1 ∷ 1000 ∷ 96 ∷ []) ≡ done (ends 6 (guest (worked_memory no_id) 9) no_changes [])
  pub place_outside : calls_by (guest (worked_memory no_id) 9) seen call.HttpCall (72 ∷ 8 ∷ 0 ∷ 65 ∷ 0 ∷ 0 ∷ 0 ∷ 0 ∷ 1000 ∷ 97 ∷ []) ≡ done (ends 6 (guest (worked_memory no_id) 9) no_changes [])
  -- no context, or another server, whatever else is given
  pub no_context : asks_in in_none given ≡ refused 2 given
  pub another : asks (record given { upstream = codes "upstreams"; headers = codes "x" }) ≡ refused 2 (record given { upstream = codes "upstreams"; headers = codes "x" })
  pub unnamed : asks (record given { upstream = []; trailers = codes "x" }) ≡ refused 2 (record given { upstream = []; trailers = codes "x" })
  pub upper_case : asks (record given { upstream = codes "Upstream" }) ≡ refused 2 (record given { upstream = codes "Upstream" })
  -- no serialised pairs, which comes before a bad name
  pub headers_no_pairs : asks (record given { headers = codes "x" }) ≡ refused 4 (record given { headers = codes "x" })
  pub trailers_no_pairs : asks (record given { headers = []; trailers = codes "x" }) ≡ refused 4 (record given { headers = []; trailers = codes "x" })
  -- a pseudo-header that is missing, or given twice
  pub no_headers : asks (record given { headers = [] }) ≡ refused 2 (record given { headers = [] })
  pub no_method : asks (with_headers (path ∷ authority ∷ [])) ≡ refused 2 (with_headers (path ∷ authority ∷ []))
  pub no_path : asks (with_headers (method ∷ authority ∷ [])) ≡ refused 2 (with_headers (method ∷ authority ∷ []))
  pub no_authority : asks (with_headers (method ∷ path ∷ [])) ≡ refused 2 (with_headers (method ∷ path ∷ []))
  pub two_paths : asks (with_headers (asking_for (path ∷ []))) ≡ refused 2 (with_headers (asking_for (path ∷ [])))
  -- a name, a value and a scheme that are none
  pub bad_name : asks (with_headers (asking_for ((codes "a b", []) ∷ []))) ≡ refused 2 (with_headers (asking_for ((codes "a b", []) ∷ [])))
  pub of_response : asks (with_headers (asking_for ((codes ":status", codes "200") ∷ []))) ≡ refused 2 (with_headers (asking_for ((codes ":status", codes "200") ∷ [])))
  pub bad_value : asks (with_headers (asking_for ((codes "a", 10 ∷ []) ∷ []))) ≡ refused 2 (with_headers (asking_for ((codes "a", 10 ∷ []) ∷ [])))
  pub bad_scheme : asks (with_headers (asking_for ((codes ":scheme", codes "ftp") ∷ []))) ≡ refused 2 (with_headers (asking_for ((codes ":scheme", codes "ftp") ∷ [])))
  -- the same of trailers, which have no pseudo-headers
  pub bad_trailer : asks (with_trailers ((codes "a b", []) ∷ [])) ≡ refused 2 (with_trailers ((codes "a b", []) ∷ []))
  pub bad_trailer_value : asks (with_trailers ((codes "a", 10 ∷ []) ∷ [])) ≡ refused 2 (with_trailers ((codes "a", 10 ∷ []) ∷ []))
  pub trailer_path : asks (with_trailers (path ∷ [])) ≡ refused 2 (with_trailers (path ∷ []))
  -- 64 are under way, those of this callback included, or the last id was drawn; a bad name comes before
  pub full : asks_in (with_calls 64 70 []) given ≡ refused 10 given
  pub full_with_this : asks_in (with_calls 62 70 (a_call ∷ a_call ∷ [])) given ≡ refused 10 given
  pub no_ids : asks_in (with_calls 0 2147483647 []) given ≡ refused 10 given
  pub no_ids_with_this : asks_in (with_calls 0 2147483646 (a_call ∷ [])) given ≡ refused 10 given
  pub name_before_room : asks_in (with_calls 64 70 []) (record given { headers = [] }) ≡ refused 2 (record given { headers = [] })

-- ---- too many fields, and too long a body, of what was read of the memory

abbrev pub many : ℕ → List Pair
many n = replicate n (codes "k", codes "v")

abbrev pub calls_with : (headers : List Pair) → (body : List ℕ) → (trailers : List Pair) → model.Made
calls_with headers body trailers = calling_with 2 headers body trailers 1000 seen

pub record CallBounds : Type 0 where
  pub as_many : (calls_with (asking_for (many 100)) [] (many 100)).status ≡ 0
  pub too_many : calls_with (asking_for (many 101)) [] [] ≡ model.answers 10
  pub too_many_trailers : calls_with (asking_for []) [] (many 101) ≡ model.answers 10
  -- a bad name of the one list comes before too many of the other
  pub bad_before_many : calls_with (asking_for (many 101)) [] (path ∷ []) ≡ model.answers 2
  pub missing_before_many : calls_with [] [] (many 101) ≡ model.answers 2
  pub too_long : (body : List ℕ) → nat_lt 1048576 (length body) ≡ true → calls_with (asking_for []) body [] ≡ model.answers 10
