-- The calls on streams, and the local response. What they ask for comes after the callback has returned.
use Rattle.std.specs.Prelude.{ℕ, ◌==◌, ◌||◌, ◌+◌, ◌-◌, not, is_some, false, Bool, true, nat_lt, List, [], ◌∷◌, length, Option, None, Some, Result, Ok, Err, if◌then◌else◌}
use Rattle.body_buffers.specs.Bodies.{body_limit}
use Rattle.header_maps.specs.Headers.{Headers}
use Rattle.header_maps.specs.Faults.{set_fault}
use Rattle.header_maps.specs.Operations.{all_set}
use Rattle.header_maps.specs.Pairs.{Pair}
use Rattle.header_maps.specs.declared.kind.ListKind.TheVariants.{Plain}
use Rattle.pair_codec.specs.Reading.{pairs_in}
use Rattle.contexts.specs.declared.parts.ExchangeView.{ExchangeView}
use Rattle.contexts.specs.declared.parts.EffectKind.{EffectKind}
use Rattle.contexts.specs.declared.parts.EffectKind.TheVariants as what
use Rattle.contexts.specs.declared.parts.Contexts.{Contexts}
use Rattle.contexts.specs.Reached.{Seen, Changes, no_changes, seen, put}
use Rattle.abi_model.specs.Calls.{Made, Own, answers, changing, reads, only}
use Rattle.abi_model.specs.Table.{arg}
use Rattle.abi_model.specs.declared.ends.Outcome.{Outcome}
use Rattle.abi_maps.specs.Maps.{unless}

-- one more effect of the effective context
abbrev pub effect_of : EffectKind → Seen → Changes
effect_of w s = record no_changes { effects = record { context = s.common.effective; what = w } ∷ [] }

abbrev pub on_stream : ℕ → EffectKind → Seen → (is_stream : Bool) → Made
on_stream n w s false = answers 2
on_stream n w s true = if nat_lt 1 n then answers 12 else changing (effect_of w s)

-- The effective context is a stream: it has an exchange; or, where the lines are streams of bytes, a root that is another.
abbrev pub is_other : ℕ → Option ℕ → Bool
is_other e None = false
is_other e (Some root) = not (root == e)

abbrev pub is_stream : Seen → Bool
is_stream s = if s.common.is_tcp then is_other s.common.effective s.reach.root else is_some s.reach.exchange

-- where the lines are streams of bytes, 2 and 3 are its directions, and 0 and 1 are of HTTP
abbrev pub swapped : ℕ → ℕ
swapped n = if nat_lt n 2 then n + 2 else if nat_lt n 4 then n - 2 else n

abbrev pub stream_no : (is_tcp : Bool) → ℕ → ℕ
stream_no is_tcp n = if is_tcp then swapped n else n

-- the streams 0 and 1 are the request and the response; 2 and 3 are of TCP connections
abbrev pub continuing : ℕ → Seen → Made
continuing n s = if nat_lt 3 n then answers 2 else on_stream n (what.Continue (n == 1)) s (is_stream s)

abbrev pub closing : ℕ → Seen → Made
closing n s = if nat_lt 3 n then answers 2 else on_stream n what.Close s (is_stream s)

-- ---- a local response

-- an answer was asked for or given, or it is too late for one
abbrev pub is_too_late : ExchangeView → Bool
is_too_late v = v.is_answering || (v.is_answered || (v.has_ended || v.is_head_out))

abbrev pub no_fields : Headers
no_fields = record { kind = Plain; pairs = [] }

abbrev pub fields_by : Option (List Pair) → Result Headers ℕ
fields_by None = Err 4
fields_by (Some pairs) = unless (set_fault Plain pairs) (all_set Plain pairs)

-- the fields, none of which is a pseudo-header, or the status why there are none
abbrev pub fields_from : List ℕ → Result Headers ℕ
fields_from bytes = fields_by (pairs_in bytes)

-- the effect, and the mark that an answer was asked for
abbrev pub answer_changes : (status : ℕ) → Headers → List ℕ → ExchangeView → Seen → Changes
answer_changes status fields body v s = record (effect_of (what.Answer status fields body) s) { exchange = Some (record v { is_answering = true }) }

-- the same of the contexts, where there is an exchange
abbrev pub asked_by : (status : ℕ) → Headers → List ℕ → Option ExchangeView → (vm : ℕ) → Contexts → Contexts
asked_by status fields body None vm h = put (effect_of (what.Answer status fields body) (seen h vm)) vm h
asked_by status fields body (Some v) vm h = put (answer_changes status fields body v (seen h vm)) vm h

abbrev pub asked_with : (status : ℕ) → Headers → List ℕ → (vm : ℕ) → Contexts → Contexts
asked_with status fields body vm h = asked_by status fields body (seen h vm).reach.exchange vm h

abbrev pub answering_with : (status : ℕ) → List ℕ → Result Headers ℕ → ExchangeView → Seen → Made
answering_with status body (Err n) v s = answers n
answering_with status body (Ok fields) v s =
    if nat_lt body_limit (length body) then answers 10
    else changing (answer_changes status fields body v s)

abbrev pub answering_in : (status : ℕ) → (body headers : List ℕ) → Option ExchangeView → Seen → Made
answering_in status body headers None s = answers 2
answering_in status body headers (Some v) s = if is_too_late v then answers 2 else answering_with status body (fields_from headers) v s

-- where the lines are streams of bytes there is none, once its values were judged
abbrev pub judged : List ℕ → Result Headers ℕ → Outcome
judged body (Err n) = only n
judged body (Ok fields) = if nat_lt body_limit (length body) then only 10 else only 12

abbrev pub refusing : (body headers : List ℕ) → Seen → Outcome
refusing body headers s = if is_stream s then judged body (fields_from headers) else only 2

abbrev pub answering : (status : ℕ) → (body headers : List ℕ) → Seen → Made
answering status body headers s =
    if nat_lt status 200 || nat_lt 599 status then answers 2
    else if s.common.is_tcp then reads (refusing body headers s) else answering_in status body headers s.reach.exchange s

-- ---- the calls

abbrev pub own_continue_stream : Own
own_continue_stream args inputs s = continuing (stream_no s.common.is_tcp (arg args 0)) s

abbrev pub own_close_stream : Own
own_close_stream args inputs s = closing (stream_no s.common.is_tcp (arg args 0)) s

-- the first bytes, its details, are not used
abbrev pub own_send_local_response : Own
own_send_local_response args inputs s = answering (arg args 0) inputs.second inputs.third s
