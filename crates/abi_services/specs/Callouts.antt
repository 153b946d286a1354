-- The call for a callout: the upstream's name; the fields, the body and the trailers of a request; and how many milliseconds it may take.
use Rattle.std.specs.Prelude.{ℕ, suc, ◌+◌, Bool, true, false, ◌||◌, List, [], ◌∷◌, length, nat_lt, nat_le, bytes_eq, codes, Option, None, Some, if◌then◌else◌}
use Rattle.std.specs.List.{count_by}
use Rattle.body_buffers.specs.Bodies.{body_limit}
use Rattle.contexts.specs.declared.parts.Calls.{Calls}
use Rattle.contexts.specs.declared.parts.Effect.{Effect}
use Rattle.contexts.specs.declared.parts.EffectKind.{EffectKind}
use Rattle.contexts.specs.declared.parts.EffectKind.TheVariants as what
use Rattle.contexts.specs.declared.parts.Own.{Own as OwnParts}
use Rattle.contexts.specs.declared.parts.Request.{Request as CallRequest}
use Rattle.contexts.specs.Reached.{Seen, no_changes}
use Rattle.header_maps.specs.Faults.{Fault, bad_name, bad_value, too_many, set_fault}
use Rattle.header_maps.specs.Headers.{Headers}
use Rattle.header_maps.specs.Operations.{all_set}
use Rattle.header_maps.specs.Pairs.{Pair}
use Rattle.header_maps.specs.declared.kind.ListKind.TheVariants.{Request, Plain}
use Rattle.pair_codec.specs.Lists.{with_scheme}
use Rattle.pair_codec.specs.Reading.{pairs_in}
use Rattle.abi_model.specs.Calls.{Made, Own, answers}
use Rattle.abi_model.specs.Table.{arg}
use Rattle.abi_model.specs.declared.opening.Inputs.{Inputs}
use Rattle.abi_model.specs.declared.ends.Gives.TheVariants.{Number}

-- the only server that is asked
abbrev pub upstream : List ℕ
upstream = codes "upstream"

-- ---- what was asked for in this callback so far

-- it is a callout
abbrev pub is_call : EffectKind → Bool
is_call (what.Continue is_response) = false
is_call what.Close = false
is_call (what.Answer status fields body) = false
is_call (what.Call request) = true

-- how many of them are callouts
abbrev pub call_count : List Effect → ℕ
call_count effects = count_by (λ (e : Effect). is_call e.what) effects

-- ---- room

-- so many may be under way at once
abbrev pub most_under_way : ℕ
most_under_way = 64

-- the last id that is drawn
abbrev pub last_id : ℕ
last_id = 2147483647

-- behind so many more there is no room
abbrev pub is_full : ℕ → Calls → Bool
is_full more calls = nat_le most_under_way (calls.under_way + more) || nat_le last_id (calls.last + more)

-- those of this callback count too
abbrev pub is_full_for : Seen → Bool
is_full_for s = is_full (call_count s.common.effects) s.common.calls

-- the id that it has, once its callback has returned
abbrev pub next_call : Seen → ℕ
next_call s = suc (s.common.calls.last + call_count s.common.effects)

-- ---- refusals: a name or a value of either list comes before the counts, the body and the room

-- a name or a value is bad
abbrev pub is_bad : Option Fault → Bool
is_bad None = false
is_bad (Some bad_name) = true
is_bad (Some bad_value) = true
is_bad (Some too_many) = false

-- there are too many fields
abbrev pub is_over : Option Fault → Bool
is_over None = false
is_over (Some bad_name) = false
is_over (Some bad_value) = false
is_over (Some too_many) = true

-- the status why there is no callout, if there is none
abbrev pub refusal_of : (headers trailers : Option Fault) → (no_room : Bool) → Option ℕ
refusal_of headers trailers no_room =
    if is_bad headers || is_bad trailers then Some 2
    else if (is_over headers || is_over trailers) || no_room then Some 10
    else None

-- the body is too long, or there is no room
abbrev pub has_no_room : List ℕ → Seen → Bool
has_no_room body s = nat_lt body_limit (length body) || is_full_for s

-- ---- what is asked for

-- a request of the effective context of that VM
abbrev pub request_for : (vm : ℕ) → (fields : Headers) → (body : List ℕ) → (trailers : Headers) → (timeout : ℕ) → Seen → CallRequest
request_for vm fields body trailers timeout s = record { vm = vm; context = s.common.effective; fields = fields; body = body; trailers = trailers; timeout_ms = timeout }

-- one more effect of the effective context, and the id for the guest
abbrev pub begun : CallRequest → Seen → Made
begun q s = record {
  status = 0;
  changes = record no_changes { effects = record { context = s.common.effective; what = what.Call q } ∷ [] };
  gives = Number (next_call s);
}

-- the same, unless there is a status why not
abbrev pub begun_unless : Option ℕ → CallRequest → Seen → Made
begun_unless (Some status) q s = answers status
begun_unless None q s = begun q s

-- a request of these pairs, where a missing scheme is `http`
abbrev pub calling_with : (vm : ℕ) → (headers : List Pair) → (body : List ℕ) → (trailers : List Pair) → (timeout : ℕ) → Seen → Made
calling_with vm headers body trailers timeout s =
    begun_unless (refusal_of (set_fault Request (with_scheme headers)) (set_fault Plain trailers) (has_no_room body s))
    (request_for vm (all_set Request (with_scheme headers)) body (all_set Plain trailers) timeout s) s

-- the same, where both lists are serialised pairs
abbrev pub calling_of : (vm : ℕ) → (headers : Option (List Pair)) → (body : List ℕ) → (trailers : Option (List Pair)) → (timeout : ℕ) → Seen → Made
calling_of vm None body trailers timeout s = answers 4
calling_of vm (Some headers) body None timeout s = answers 4
calling_of vm (Some headers) body (Some trailers) timeout s = calling_with vm headers body trailers timeout s

-- by a context, of the upstream
abbrev pub calling_by : (vm : ℕ) → Inputs → (timeout : ℕ) → Option OwnParts → Seen → Made
calling_by vm inputs timeout None s = answers 2
calling_by vm inputs timeout (Some o) s =
    if bytes_eq inputs.first upstream then calling_of vm (pairs_in inputs.second) inputs.third (pairs_in inputs.fourth) timeout s else answers 2

-- THE CALL
abbrev pub own_http_call : (vm : ℕ) → Own
own_http_call vm args inputs s = calling_by vm inputs (arg args 8) s.reach.own s
