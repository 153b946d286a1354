-- The calls on maps: 0 and 2 are the request and response fields of the effective context's exchange, 1 and 3 their trailers. 6 and 7 are
-- the fields and the trailers of what came back for a callout, while that is told. 4 and 5 are not there.
use Rattle.std.specs.Prelude.{◌≡◌, ℕ, ◌==◌, ◌||◌, is_some, cond, nat_lt, List, Option, None, Some, Result, Ok, Err, if◌then◌else◌}
use Rattle.header_maps.specs.declared.end.HeaderEnd.{HeaderEnd}
use Rattle.header_maps.specs.declared.end.HeaderEnd.TheVariants.{BadName, BadValue, TooMany, OutOfMemory}
use Rattle.header_maps.specs.Headers.{Headers}
use Rattle.header_maps.specs.Faults.{Fault, bad_name, bad_value, too_many, add_fault, replace_fault, remove_fault, set_fault}
use Rattle.header_maps.specs.Operations.{get_of, added, replaced, removed, all_set, size_of}
use Rattle.header_maps.specs.Pairs.{Pair}
use Rattle.pair_codec.specs.Reading.{pairs_in}
use Rattle.pair_codec.specs.Serialised.{pairs_bytes}
use Rattle.contexts.specs.declared.parts.CallAnswer.{CallAnswer}
use Rattle.contexts.specs.declared.parts.Own.{Own as OwnParts}
use Rattle.contexts.specs.declared.parts.Maps.{Maps}
use Rattle.contexts.specs.declared.parts.ExchangeView.{ExchangeView}
use Rattle.contexts.specs.Reached.{Seen, no_changes}
use Rattle.abi_model.specs.Calls.{Made, Own, answers, changing, reads, only, given}
use Rattle.abi_model.specs.Table.{arg}
use Rattle.abi_model.specs.declared.ends.Outcome.{Outcome}
use Rattle.abi_model.specs.declared.ends.Gives.TheVariants.{Bytes, Number}

abbrev pub map_at : ℕ → Maps → Option Headers
map_at n m = cond (n == 0) m.request (cond (n == 1) m.request_trailers (cond (n == 2) m.response (cond (n == 3) m.response_trailers None)))

abbrev pub map_in : ℕ → Option ExchangeView → Option Headers
map_in n None = None
map_in n (Some v) = map_at n v.maps

-- the fields and the trailers of what came back for a callout, while that is told
abbrev pub answer_map_in : ℕ → Option CallAnswer → Option Headers
answer_map_in n None = None
answer_map_in n (Some a) = Some (if n == 6 then a.fields else a.trailers)

abbrev pub answer_map : ℕ → Option OwnParts → Option Headers
answer_map n None = None
answer_map n (Some o) = answer_map_in n o.answer

abbrev pub there : Option Headers → Result Headers ℕ
there None = Err 1
there (Some l) = Ok l

-- the map of a number, or the status why it is none
abbrev pub map_for : ℕ → Seen → Result Headers ℕ
map_for n s = if nat_lt 7 n then Err 2 else there (if nat_lt 5 n then answer_map n s.reach.own else map_in n s.reach.exchange)

-- ---- reading

abbrev pub value_as : Option (List ℕ) → Outcome
value_as None = only 1
value_as (Some v) = given (Bytes v)

abbrev pub value_in : List ℕ → Result Headers ℕ → Outcome
value_in key (Err status) = only status
value_in key (Ok l) = value_as (get_of l key)

abbrev pub pairs_as : Result Headers ℕ → Outcome
pairs_as (Err status) = only status
pairs_as (Ok l) = given (Bytes (pairs_bytes l.pairs))

abbrev pub size_as : Result Headers ℕ → Outcome
size_as (Err status) = only status
size_as (Ok l) = given (Number (size_of l.pairs))

-- ---- writing

abbrev pub fault_status : Fault → ℕ
fault_status bad_name = 2
fault_status bad_value = 2
fault_status too_many = 10

abbrev pub unless : Option Fault → Headers → Result Headers ℕ
unless None l = Ok l
unless (Some f) l = Err (fault_status f)

-- what is told of a change that was made or refused; want of memory is no answer
abbrev pub IsTold : {A : Type 0} → Result A HeaderEnd → Outcome → Type 0
IsTold (Ok x) o = o ≡ only 0
IsTold (Err BadName) o = o ≡ only 2
IsTold (Err BadValue) o = o ≡ only 2
IsTold (Err TooMany) o = o ≡ only 10
IsTold (Err OutOfMemory) o = ⊥

abbrev pub on_map : Result Headers ℕ → (Headers → Result Headers ℕ) → Result Headers ℕ
on_map (Err status) f = Err status
on_map (Ok l) f = f l

abbrev pub with_map : ℕ → Headers → Maps → Maps
with_map n l m =
    cond (n == 0) (record m { request = Some l }) (cond (n == 1) (record m { request_trailers = Some l })
    (cond (n == 2) (record m { response = Some l }) (record m { response_trailers = Some l })))

-- the maps while the one of a number is changed
abbrev pub without_map : ℕ → Maps → Maps
without_map n m =
    cond (n == 0) (record m { request = None }) (cond (n == 1) (record m { request_trailers = None })
    (cond (n == 2) (record m { response = None }) (cond (n == 3) (record m { response_trailers = None }) m)))

abbrev pub mapped : ℕ → Option ExchangeView → Result Headers ℕ → Made
mapped n v (Err status) = answers status
mapped n None (Ok l) = answers 0
mapped n (Some v) (Ok l) = changing (record no_changes { exchange = Some (record v { maps = with_map n l v.maps }) })

abbrev pub set_by : Option (List Pair) → Headers → Result Headers ℕ
set_by None l = Err 4
set_by (Some pairs) l = unless (set_fault l.kind pairs) (all_set l.kind pairs)

-- what each call makes of a map, or the status why nothing
abbrev pub added_to : (name value : List ℕ) → Headers → Result Headers ℕ
added_to name value l = unless (add_fault l name value) (added l name value)

abbrev pub replaced_in : (name value : List ℕ) → Headers → Result Headers ℕ
replaced_in name value l = unless (replace_fault l name value) (replaced l name value)

abbrev pub removed_from : List ℕ → Headers → Result Headers ℕ
removed_from name l = unless (remove_fault name) (removed l name)

abbrev pub set_from : List ℕ → Headers → Result Headers ℕ
set_from bytes l = set_by (pairs_in bytes) l

-- the status of a change of a map that is none of an exchange: the maps of an answer are read alone
abbrev pub no_change : ℕ → Seen → ℕ
no_change n s = if nat_lt 7 n || is_some (answer_map n s.reach.own) then 2 else 1

abbrev pub changing_map : ℕ → (Headers → Result Headers ℕ) → Seen → Made
changing_map n f s = if nat_lt 5 n then answers (no_change n s) else mapped n s.reach.exchange (on_map (there (map_in n s.reach.exchange)) f)

-- ---- the calls

abbrev pub own_get_header_map_pairs : Own
own_get_header_map_pairs args inputs s = reads (pairs_as (map_for (arg args 0) s))

abbrev pub own_set_header_map_pairs : Own
own_set_header_map_pairs args inputs s = changing_map (arg args 0) (set_from inputs.first) s

abbrev pub own_get_header_map_size : Own
own_get_header_map_size args inputs s = reads (size_as (map_for (arg args 0) s))

abbrev pub own_get_header_map_value : Own
own_get_header_map_value args inputs s = reads (value_in inputs.first (map_for (arg args 0) s))

abbrev pub own_add_header_map_value : Own
own_add_header_map_value args inputs s = changing_map (arg args 0) (added_to inputs.first inputs.second) s

abbrev pub own_replace_header_map_value : Own
own_replace_header_map_value args inputs s = changing_map (arg args 0) (replaced_in inputs.first inputs.second) s

abbrev pub own_remove_header_map_value : Own
own_remove_header_map_value args inputs s = changing_map (arg args 0) (removed_from inputs.first) s
