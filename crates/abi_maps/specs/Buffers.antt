-- The calls on buffers: 0 is the request body and 1 the response body of the effective context's stage, 6 the configuration of its
-- VM, 7 that of its plug-in; 4 is the body of what came back for a callout, while that is told. 2, 3, 5 and 8 are not there.
use Rattle.std.specs.Prelude.{ℕ, ◌==◌, ◌||◌, ◌&&◌, is_some, Bool, false, cond, nat_lt, List, length, Option, None, Some, Result, Ok, Err, if◌then◌else◌}
use Rattle.body_buffers.specs.Bodies.{body_limit, spliced, part_of, IsOver}
use Rattle.contexts.specs.declared.parts.Contexts.{Contexts}
use Rattle.contexts.specs.declared.parts.Own.{Own as OwnParts}
use Rattle.contexts.specs.declared.parts.CallAnswer.{CallAnswer}
use Rattle.contexts.specs.declared.parts.StageBuffer.{StageBuffer}
use Rattle.contexts.specs.declared.parts.Plugin.{Plugin}
use Rattle.contexts.specs.Reached.{Seen, Reach, no_changes, put, seen}
use Rattle.contexts.specs.Stages.{is_there}
use Rattle.abi_model.specs.Calls.{Made, Own, answers, changing, reads, only, given}
use Rattle.abi_model.specs.Table.{arg}
use Rattle.abi_model.specs.declared.ends.Outcome.{Outcome}
use Rattle.abi_model.specs.declared.ends.Gives.TheVariants.{Bytes, Numbers}

-- a stage's buffer, there while its body callback runs or it holds bytes
abbrev pub staged : StageBuffer → Option (List ℕ)
staged t = if is_there t then Some t.held else None

abbrev pub request_bytes : Option OwnParts → Option (List ℕ)
request_bytes None = None
request_bytes (Some o) = staged o.request

abbrev pub response_bytes : Option OwnParts → Option (List ℕ)
response_bytes None = None
response_bytes (Some o) = staged o.response

-- there whenever the context is
abbrev pub vm_bytes : List ℕ → Option OwnParts → Option (List ℕ)
vm_bytes configuration None = None
vm_bytes configuration (Some o) = Some configuration

abbrev pub plugin_bytes : Option Plugin → Option (List ℕ)
plugin_bytes None = None
plugin_bytes (Some p) = Some p.configuration

-- the stage's buffers
abbrev pub body_at : ℕ → Option OwnParts → Option (List ℕ)
body_at n o = cond (n == 0) (request_bytes o) (response_bytes o)

-- what came back for a callout, while that is told
abbrev pub answer_in : Option CallAnswer → Option (List ℕ)
answer_in None = None
answer_in (Some a) = Some a.body

abbrev pub answer_bytes : Option OwnParts → Option (List ℕ)
answer_bytes None = None
answer_bytes (Some o) = answer_in o.answer

-- the configurations
abbrev pub configuration_at : ℕ → Reach → Option (List ℕ)
configuration_at n r = cond (n == 6) (vm_bytes r.vm_configuration r.own) (cond (n == 7) (plugin_bytes r.plugin) None)

-- what the buffer of a number holds, where it is there
abbrev pub held_at : ℕ → Reach → Option (List ℕ)
held_at n r = if n == 4 then answer_bytes r.own else if nat_lt 1 n then configuration_at n r else body_at n r.own

abbrev pub request_end : Option OwnParts → Bool
request_end None = false
request_end (Some o) = o.request.has_end

abbrev pub response_end : Option OwnParts → Bool
response_end None = false
response_end (Some o) = o.response.has_end

-- the end of the body came with what the buffer holds
abbrev pub has_end_at : ℕ → Reach → Bool
has_end_at n r = cond (n == 0) (request_end r.own) (cond (n == 1) (response_end r.own) false)

-- ---- reading

abbrev pub part_read : (start most : ℕ) → List ℕ → Outcome
part_read start most held = if nat_lt (length held) start then only 2 else given (Bytes (part_of held start most))

abbrev pub read_in : (start most : ℕ) → Option (List ℕ) → Outcome
read_in start most None = only 1
read_in start most (Some held) = part_read start most held

-- a part of a buffer, from `start` on
abbrev pub getting_bytes : (n start most : ℕ) → Seen → Outcome
getting_bytes n start most s = if nat_lt 8 n then only 2 else read_in start most (held_at n s.reach)

abbrev pub flag_of : Bool → ℕ
flag_of b = cond b 1 0

abbrev pub length_of : List ℕ → ℕ
length_of bytes = length bytes

abbrev pub status_in : Bool → Option (List ℕ) → Outcome
status_in has_end None = only 1
status_in has_end (Some held) = given (Numbers (length held) (flag_of has_end))

-- a buffer's size, and 1 where the end is with it
abbrev pub getting_status : ℕ → Seen → Outcome
getting_status n s = if nat_lt 8 n then only 2 else status_in (has_end_at n s.reach) (held_at n s.reach)

-- ---- writing

abbrev pub with_held : List ℕ → StageBuffer → StageBuffer
with_held bytes t = record t { held = bytes }

abbrev pub with_buffer : ℕ → List ℕ → OwnParts → OwnParts
with_buffer n bytes o = cond (n == 0) (record o { request = with_held bytes o.request }) (record o { response = with_held bytes o.response })

abbrev pub no_longer : List ℕ → Result (List ℕ) ℕ
no_longer bytes = if nat_lt body_limit (length bytes) then Err 10 else Ok bytes

abbrev pub spliced_in : (start size : ℕ) → List ℕ → Option (List ℕ) → Result (List ℕ) ℕ
spliced_in start size bytes None = Err 1
spliced_in start size bytes (Some held) = no_longer (spliced held start size bytes)

-- what a stage's buffer of that number holds
abbrev pub bytes_in : ℕ → OwnParts → List ℕ
bytes_in n o = cond (n == 0) o.request.held o.response.held

abbrev pub with_spliced : (n start size : ℕ) → List ℕ → OwnParts → OwnParts
with_spliced n start size bytes o = with_buffer n (spliced (bytes_in n o) start size bytes) o

abbrev pub put_in : (n start size : ℕ) → List ℕ → Option OwnParts → (vm : ℕ) → Contexts → Contexts
put_in n start size bytes None vm h = h
put_in n start size bytes (Some o) vm h = put (record no_changes { own = Some (with_spliced n start size bytes o) }) vm h

-- the contexts with bytes in place of some of a stage's buffer of the effective context, where there is one
abbrev pub buffer_put : (n start size : ℕ) → List ℕ → (vm : ℕ) → Contexts → Contexts
buffer_put n start size bytes vm h = put_in n start size bytes (seen h vm).reach.own vm h

-- that buffer would then be too long
abbrev pub IsOverIn : (n start size : ℕ) → List ℕ → Option OwnParts → Type 0
IsOverIn n start size bytes None = ⊥
IsOverIn n start size bytes (Some o) = IsOver (spliced (bytes_in n o) start size bytes)

-- a buffer that is read alone
abbrev pub is_kept : ℕ → Bool
is_kept n = nat_lt 8 n || ((n == 6) || (n == 7))

abbrev pub is_answer : ℕ → Reach → Bool
is_answer n r = (n == 4) && is_some (answer_bytes r.own)

-- what the buffer becomes, or the status why it does not
abbrev pub held_after : (n start size : ℕ) → List ℕ → Reach → Result (List ℕ) ℕ
held_after n start size bytes r =
    if is_kept n || is_answer n r then Err 2 else (if nat_lt 1 n then Err 1 else spliced_in start size bytes (body_at n r.own))

abbrev pub buffered : ℕ → Option OwnParts → Result (List ℕ) ℕ → Made
buffered n o (Err status) = answers status
buffered n None (Ok bytes) = answers 0
buffered n (Some o) (Ok bytes) = changing (record no_changes { own = Some (with_buffer n bytes o) })

-- bytes in place of some of a buffer
abbrev pub setting_bytes : (n start size : ℕ) → List ℕ → Seen → Made
setting_bytes n start size bytes s = buffered n s.reach.own (held_after n start size bytes s.reach)

-- ---- numbers: where the lines are streams of bytes, the stage's buffers are 2 and 3, and 0 and 1 are never there

abbrev pub stream_buffer : ℕ → ℕ
stream_buffer n = cond (n == 2) 0 (cond (n == 3) 1 (cond (nat_lt n 2) 5 n))

abbrev pub buffer_no : (is_tcp : Bool) → ℕ → ℕ
buffer_no is_tcp n = if is_tcp then stream_buffer n else n

-- ---- the calls

abbrev pub own_get_buffer_bytes : Own
own_get_buffer_bytes args inputs s = reads (getting_bytes (buffer_no s.common.is_tcp (arg args 0)) (arg args 1) (arg args 2) s)

abbrev pub own_get_buffer_status : Own
own_get_buffer_status args inputs s = reads (getting_status (buffer_no s.common.is_tcp (arg args 0)) s)

abbrev pub own_set_buffer_bytes : Own
own_set_buffer_bytes args inputs s = setting_bytes (buffer_no s.common.is_tcp (arg args 0)) (arg args 1) (arg args 2) inputs.first s
