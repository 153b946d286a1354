-- The maps of requests, whatever filters call, and the heads that are written of them.
use Rattle.std.specs.Prelude.{◌≡◌, ◌⊎◌, ℕ, Bool, false, List, [], ◌∷◌, ◌++◌, map, length, codes, Option, None, Some}
use Rattle.callouts.specs.Callouts.{is_call_line}
use Rattle.contexts.specs.declared.parts.Contexts.{Contexts}
use Rattle.contexts.specs.declared.parts.ExchangeView.{ExchangeView}
use Rattle.contexts.specs.Reached.{view_at}
use Rattle.filter_host.specs.Called.{Called, Calling}
use Rattle.filter_host.specs.declared.host.Callback.{Callback}
use Rattle.exchange.specs.Heads.{request_of, sent_head, up_framing, up_tail}
use Rattle.law_exchange.specs.Traffic.{Traffic, opens, byte, closes, up_traffic}
use Rattle.gate_config.specs.declared.config.Config.{Config}
use Rattle.gate_io.specs.declared.event.Sent.{Sent}
use Rattle.header_maps.specs.Headers.{Headers}
use Rattle.header_maps.specs.Kept.{BeginsWith}
use Rattle.header_maps.specs.Kinds.{pseudo_names}
use Rattle.header_maps.specs.Operations.{no_headers}
use Rattle.header_maps.specs.declared.kind.ListKind.TheVariants as kinds
use Rattle.h1_model.specs.Framing.{head_wire}
use Rattle.h1_model.specs.Head.{Head, SpellsStep, found}
use Rattle.httparse.specs.Ascii.{crlf_bytes}
use Rattle.law_lines.specs.Logs.{WriteLogs}
use Rattle.law_lines.specs.Requests.{IsJudged}
use Rattle.law_lines.specs.Turns.{Done, Turns, Worked, new_room, sent_in}
use Rattle.law_read_back.specs.Examples.{made_fields}
use Rattle.law_read_back.specs.Runs.{rewriting, FilterRun}
use Rattle.law_read_back.specs.Sent.{bytes_in}
use Rattle.store_model.specs.Made.{Made}
use Rattle.store_model.specs.Program.{Program, done, ask, measure}
use Rattle.store_model.specs.declared.call.Reply.{Reply}
use Rattle.store_model.specs.declared.metric.MetricReply.{MetricReply}
use Rattle.vm_host.specs.Slots as slots
use Rattle.vm_host.specs.declared.slots.Vms.{Vms}
use Rattle.worker_model.specs.Making.{new_worker}
use Rattle.worker_model.specs.Plan.{Plan}
use Rattle.worker_model.specs.State.{Standing}
use Rattle.worker_model.specs.Steps.{Both, both}

-- ---- maps

-- THE FIELDS OF A REQUEST: its four pseudo-headers stand first, each once, in order and with a right value; then stand at most 100 fields with valid names in
-- lower case and valid values. (So `IsRequestList` has it, which says besides that no name and no value has more bytes than 16,777,216.)
pub record IsFieldList (fields : Headers) : Type 0 where
  pub kind : fields.kind ≡ kinds.Request
  pub shape : BeginsWith fields.kind (pseudo_names fields.kind) fields.pairs

abbrev pub HasList : Option Headers → Type 0
HasList None = ⊥
HasList (Some fields) = IsFieldList fields

abbrev pub ViewHasList : Option ExchangeView → Type 0
ViewHasList None = Unit {0}
ViewHasList (Some v) = HasList v.maps.request

-- each exchange among the contexts has such a map of its request
abbrev pub AreLists : Contexts → Type 0
AreLists h = (place : ℕ) → ViewHasList (view_at h.exchanges place)

-- MACHINES KEEP LISTS: where the maps of requests were such, a callback leaves them so, whatever the stores reply
abbrev pub LeavesLists : {H : Type 0} → Program (Called H) → Type 0
LeavesLists (done c) = AreLists c.contexts
LeavesLists (ask vm call k) = (r : Reply) → LeavesLists (k r)
LeavesLists (measure vm call k) = (r : MetricReply) → LeavesLists (k r)

abbrev pub KeepLists : {H : Type 0} → Calling H → Type 0
KeepLists calling = (host : _) (vm : ℕ) (name : Callback) (context first second now : ℕ) (h : Contexts) → AreLists h → LeavesLists (calling host vm name context first second now h)

-- and those of the product do, whatever their modules call: so no call brings in a name or a value with an end of line
abbrev pub MachinesKeepLists : Type 0
MachinesKeepLists = KeepLists slots.calling

-- the map that an exchange begins with is one, in whatever form its target was received
abbrev pub HeadsHaveFieldLists : Type 0
HeadsHaveFieldLists = (h : Head) → IsJudged h → IsFieldList h.fields

-- ---- heads that went up

-- the fields of a map of a request; or none at all, which is what is written where the contexts have no exchange at the place (that they have one while it is
-- open is not said)
abbrev pub ListOrNone : Headers → Type 0
ListOrNone fields = IsFieldList fields ⊎ (fields ≡ no_headers)

-- the head of a request with these fields, as it goes up for a request whose head was this one
abbrev pub written_head : Headers → Head → (filtered : Bool) → List ℕ
written_head fields h filtered = head_wire (up_framing filtered (request_of h)) (sent_head fields (up_tail h.minor))

-- the bytes begin with a head of a request of such fields, whole, as the gateway writes it for a request whose head was judged: framed as that, or in chunks where
-- bodies are filtered, with `via` of the version received and `connection: close`
pub record BeginsWithHead (t : List Traffic) : Type 0 where
  pub fields : Headers
  pub listed : ListOrNone fields
  pub head : Head
  pub judged : IsJudged head
  pub filtered : Bool
  pub rest : List Traffic
  pub is : t ≡ map byte (written_head fields head filtered) ++ rest

-- EACH CONNECTION BEGINS WITH A HEAD of such fields
abbrev pub AreHeaded : List Traffic → Type 0
AreHeaded [] = Unit {0}
AreHeaded (opens ∷ t) = BeginsWithHead t × AreHeaded t
AreHeaded (byte b ∷ t) = AreHeaded t
AreHeaded (closes ∷ t) = AreHeaded t

-- WHERE SUCH A HEAD ENDS a reader ends it: whatever follows, where a reader of requests finds a head at the begin of these bytes, that head ends where the one
-- that was written does. (It may find none, as where the path is no target, or the head is too long.)
abbrev pub HeadsEndWhereWritten : Type 0
HeadsEndWhereWritten =
    (t : List Traffic) (b : BeginsWithHead t) (h : Head) (used : ℕ) → IsFieldList b.fields → SpellsStep (bytes_in t) (found h used)
    → used ≡ length (written_head b.fields b.head b.filtered)

-- ---- over turns

-- the maps, and what went up on a line
pub record KeptLists (n : ℕ) (contexts : Contexts) (sent : List Sent) : Type 0 where
  pub maps : AreLists contexts
  pub heads : AreHeaded (up_traffic n sent)

-- WHATEVER TURNS a new worker has had, of machines that write logs and keep lists: each map of a request among its contexts is such a list, and each connection
-- that went up on a line of a client (those from 2^31 on are of callouts) begins with a head of such fields, framed and with the tail of a request whose head was
-- judged. (That this is the head of the exchange that sent it, and these are the fields of `IsMadeOf` of `law_lines`, is not said.)
abbrev pub MapsStayLists : (H : Type 0) → Type 0
MapsStayLists H =
    (calling : Calling H) (plan : Plan) (contexts : Contexts) (host : H) (turns : List (Done H)) (to : Both H) (n : ℕ) → is_call_line n ≡ false → WriteLogs calling → KeepLists calling → AreLists contexts
    → Turns calling plan (both host (new_room contexts)) turns to → KeptLists n to.room.hub.contexts (sent_in turns)

-- the same of a worker that was made of a configuration without streams of bytes, by the whole turns that its code takes, over shared stores of any kind
abbrev pub MapsOfWorkersStayLists : (H S : Type 0) → (performs : S → List Made → S → Type 0) → Type 0
MapsOfWorkersStayLists H S performs =
    (calling : Calling H) (exported : H → ℕ → Callback → Bool) (registering : H → ℕ → Bool) (config : Config) (who : ℕ) (seed : List ℕ) (host : H)
    (sent : List Sent) (to : Standing H) (n : ℕ) → config.tcp ≡ [] → is_call_line n ≡ false → WriteLogs calling → KeepLists calling → Worked calling performs (new_worker exported registering config who seed host) sent to
    → KeptLists n to.state.room.hub.contexts sent

-- and with the machines of its VMs, whatever these are
abbrev pub MapsOfTheProductStayLists : (S : Type 0) → (performs : S → List Made → S → Type 0) → Type 0
MapsOfTheProductStayLists S performs =
    (config : Config) (who : ℕ) (seed : List ℕ) (host : Vms) (sent : List Sent) (to : Standing Vms) (n : ℕ) → config.tcp ≡ [] → is_call_line n ≡ false
    → Worked slots.calling performs (new_worker slots.exported_in slots.registering_in config who seed host) sent to
    → KeptLists n to.state.room.hub.contexts sent

-- ---- worked

-- a value with an end of line, and another field after it
abbrev pub smuggled_fields : Headers
smuggled_fields = record made_fields {
  pairs = (codes ":method", codes "POST") ∷ (codes ":scheme", codes "http") ∷ (codes ":authority", codes "a") ∷ (codes ":path", codes "/") ∷ (codes "x-b", codes "2" ++ crlf_bytes ++ codes "content-length: 9") ∷ [];
}

-- THE FILTER OF THE WORKED TURNS keeps lists, and so what went up in them begins with a head of one. No connection is opened without a head after it; fields with
-- an end of line in a value are none.
pub record MapExamples : Type 0 where
  pub keeps : KeepLists rewriting
  pub run : FilterRun
  pub kept : KeptLists 1 run.to.room.hub.contexts (sent_in run.turns)
  pub bare : AreHeaded (opens ∷ []) → ⊥
  pub closed : AreHeaded (opens ∷ closes ∷ []) → ⊥
  pub smuggled : IsFieldList smuggled_fields → ⊥
