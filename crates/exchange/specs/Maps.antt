-- The maps of an exchange, by its place among the contexts.
use Rattle.std.specs.Prelude.{ℕ, Bool, true, false, ◌&&◌, List, [], ◌∷◌, length, nat_le, Option, None, Some, is_none, if◌then◌else◌}
use Rattle.contexts.specs.declared.parts.Contexts.{Contexts}
use Rattle.contexts.specs.declared.parts.ExchangeView.{ExchangeView}
use Rattle.contexts.specs.Lending.{exchange_put_at}
use Rattle.contexts.specs.Reached.{view_at}
use Rattle.header_maps.specs.Faults.{add_fault}
use Rattle.header_maps.specs.Headers.{Headers}
use Rattle.header_maps.specs.Kept.{byte_limit}
use Rattle.header_maps.specs.Operations.{no_headers, response_headers, added}
use Rattle.h1_model.specs.Fields.{Pair}

-- ---- what they are; where there is none, it has no fields

abbrev pub or_none : Option Headers → Headers
or_none None = no_headers
or_none (Some map) = map

abbrev pub request_in : Option ExchangeView → Headers
request_in None = no_headers
request_in (Some v) = or_none v.maps.request

abbrev pub response_in : Option ExchangeView → Headers
response_in None = no_headers
response_in (Some v) = or_none v.maps.response

abbrev pub request_trailers_in : Option ExchangeView → Headers
request_trailers_in None = no_headers
request_trailers_in (Some v) = or_none v.maps.request_trailers

abbrev pub response_trailers_in : Option ExchangeView → Headers
response_trailers_in None = no_headers
response_trailers_in (Some v) = or_none v.maps.response_trailers

abbrev pub request_map : ℕ → Contexts → Headers
request_map place h = request_in (view_at h.exchanges place)

abbrev pub response_map : ℕ → Contexts → Headers
response_map place h = response_in (view_at h.exchanges place)

abbrev pub request_trailers : ℕ → Contexts → Headers
request_trailers place h = request_trailers_in (view_at h.exchanges place)

abbrev pub response_trailers : ℕ → Contexts → Headers
response_trailers place h = response_trailers_in (view_at h.exchanges place)

-- ---- what becomes of them; of an exchange that is not there nothing does

abbrev pub in_view : (ExchangeView → ExchangeView) → ℕ → Option ExchangeView → Contexts → Contexts
in_view change place None h = h
in_view change place (Some v) h = exchange_put_at h place (change v)

abbrev pub put_request : Headers → ℕ → Contexts → Contexts
put_request map place h = in_view (λ v. record v { maps = record v.maps { request = Some map } }) place (view_at h.exchanges place) h

abbrev pub put_response : Headers → ℕ → Contexts → Contexts
put_response map place h = in_view (λ v. record v { maps = record v.maps { response = Some map } }) place (view_at h.exchanges place) h

abbrev pub put_request_trailers : Headers → ℕ → Contexts → Contexts
put_request_trailers map place h = in_view (λ v. record v { maps = record v.maps { request_trailers = Some map } }) place (view_at h.exchanges place) h

abbrev pub put_response_trailers : Headers → ℕ → Contexts → Contexts
put_response_trailers map place h = in_view (λ v. record v { maps = record v.maps { response_trailers = Some map } }) place (view_at h.exchanges place) h

-- What host calls are told of the exchange: whether it was answered, has ended, and has its response head out. No local response was
-- asked for in the callback that runs.
abbrev pub marked : (is_answered has_ended is_head_out : Bool) → ExchangeView → ExchangeView
marked is_answered has_ended is_head_out v = record v { is_answering = false; is_answered = is_answered; has_ended = has_ended; is_head_out = is_head_out }

abbrev pub mark : (is_answered has_ended is_head_out : Bool) → ℕ → Contexts → Contexts
mark is_answered has_ended is_head_out place h = in_view (marked is_answered has_ended is_head_out) place (view_at h.exchanges place) h

-- ---- the map of an answer: its status, and its fields (each of which a list of headers takes)

abbrev pub is_taken : Headers → Pair → Bool
is_taken map field = nat_le (length field.1) byte_limit && is_none (add_fault map field.0 field.1)

abbrev pub with_field : Headers → Pair → Headers
with_field map field = if is_taken map field then added map field.0 field.1 else map

abbrev pub with_fields : Headers → List Pair → Headers
with_fields map [] = map
with_fields map (field ∷ fields) = with_fields (with_field map field) fields

abbrev pub answer_map : ℕ → List Pair → Headers
answer_map status fields = with_fields (response_headers status) fields

-- how many pairs a map has
abbrev pub pair_count : (response trailers : Bool) → ℕ → Contexts → ℕ
pair_count false false place h = length (request_map place h).pairs
pair_count false true place h = length (request_trailers place h).pairs
pair_count true false place h = length (response_map place h).pairs
pair_count true true place h = length (response_trailers place h).pairs
