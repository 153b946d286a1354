-- What the worked host calls begin with: a guest of 24 bytes, whose letters differ, and a context whose parts differ.
use Rattle.std.specs.Prelude.{ℕ, pos, true, false, List, [], ◌∷◌, ◌++◌, Option, None, Some, codes, replicate}
use Rattle.abi_calls.specs.Hosting.{Hosted, hosting, wasi_hosting}
use Rattle.abi_model.specs.Calls.{called}
use Rattle.abi_model.specs.declared.table.HostCall.{HostCall}
use Rattle.abi_model.specs.declared.table.WasiCall.{WasiCall}
use Rattle.abi_types.specs.GuestAt.{GuestAt}
use Rattle.contexts.specs.Making.{no_calls}
use Rattle.contexts.specs.Reached.{Seen, Changes, no_changes}
use Rattle.contexts.specs.declared.parts.ExchangeView.{ExchangeView}
use Rattle.contexts.specs.declared.parts.Maps.{Maps}
use Rattle.contexts.specs.declared.parts.Own.{Own}
use Rattle.gate_io.specs.declared.event.Sent.{Sent}
use Rattle.header_maps.specs.Headers.{Headers}
use Rattle.header_maps.specs.Pairs.{Pair}
use Rattle.header_maps.specs.declared.kind.ListKind.TheVariants.{Request, Response, Plain}
use Rattle.store_model.specs.Program.{Program, done, ask, measure}
use Rattle.store_model.specs.declared.call.Call.{Call}
use Rattle.store_model.specs.declared.call.Reply.{Reply}
use Rattle.store_model.specs.declared.call.Reply.TheVariants as reply
use Rattle.store_model.specs.declared.metric.MetricAsk.{MetricAsk}
use Rattle.store_model.specs.declared.metric.MetricReply.{MetricReply}
use Rattle.store_model.specs.declared.metric.MetricReply.TheVariants as metric
use Rattle.wasm_syntax.specs.Nested.{Nested, nothing, simple}
use Rattle.wasm_syntax.specs.Reduction.{inside}
use Rattle.wasm_syntax.specs.ReductionExamples.{word_to_word}
use Rattle.wasm_syntax.specs.ReductionSteps.{idle_config}
use Rattle.wasm_syntax.specs.declared.instr.Instr.TheVariants as instr

-- ---- the guest

-- its allocator runs this code; nothing else of it runs here
abbrev pub guest_of : Option ℕ → Nested → List ℕ → (fuel : ℕ) → GuestAt
guest_of allocator body memory fuel = record {
  program = record { types = word_to_word ∷ []; functions = inside word_to_word [] body ∷ []; most = 1 };
  allocator = allocator;
  closed = [];
  config = idle_config (record { memory = memory; table = []; globals = [] });
  waiting = [];
  fuel = fuel;
}

-- 16 places past the size that it is asked for: three units of fuel
abbrev pub allocates : Nested
allocates = simple (instr.LocalGet 0) (simple (instr.I32Const (pos 16)) (simple instr.I32Add nothing))

abbrev pub guest : List ℕ → (fuel : ℕ) → GuestAt
guest memory fuel = guest_of (Some 0) allocates memory fuel

-- a letter a byte, from place 0 to place 23
abbrev pub letters : List ℕ
letters = codes "abcdefghijklmnopqrstuvwx"

-- the first four letters, two numbers of four bytes, and then the bytes from place 12 on
abbrev pub told : (first second : ℕ) → List ℕ → List ℕ
told first second bytes = codes "abcd" ++ first ∷ 0 ∷ 0 ∷ 0 ∷ second ∷ 0 ∷ 0 ∷ 0 ∷ bytes

-- the first four letters, a number of four bytes, and then the bytes from place 8 on
abbrev pub told_one : (number : ℕ) → List ℕ → List ℕ
told_one number bytes = codes "abcd" ++ number ∷ 0 ∷ 0 ∷ 0 ∷ bytes

-- the serialised form of the one pair `b: cd`: a count, two sizes, a name and a value, each with a zero byte after it
abbrev pub one_pair : List ℕ
one_pair = 1 ∷ 0 ∷ 0 ∷ 0 ∷ 1 ∷ 0 ∷ 0 ∷ 0 ∷ 2 ∷ 0 ∷ 0 ∷ 0 ∷ 98 ∷ 0 ∷ 99 ∷ 100 ∷ 0 ∷ []

-- ---- what a call sees: VM 2 of three, in which context 5, a stream of root 1, is effective, and waits for its end

abbrev pub request : List Pair → Headers
request fields = record {
  kind = Request;
  pairs = (codes ":method", codes "GET") ∷ (codes ":scheme", codes "http") ∷ (codes ":authority", codes "h") ∷ (codes ":path", codes "/p") ∷ fields;
}

abbrev pub response : Headers
response = record { kind = Response; pairs = (codes ":status", codes "204") ∷ (codes "bc", codes "rs") ∷ [] }

abbrev pub plain : List Pair → Headers
plain pairs = record { kind = Plain; pairs = pairs }

abbrev pub maps : Maps
maps = record {
  request = Some (request ((codes "bc", codes "xyz") ∷ (codes "k", codes "v") ∷ []));
  request_trailers = Some (plain ((codes "bc", codes "qt") ∷ []));
  response = Some response;
  response_trailers = Some (plain ((codes "t", codes "u") ∷ []));
}

abbrev pub view : ExchangeView
view = record { maps = maps; is_answering = false; is_answered = false; has_ended = false; is_head_out = false }

-- the stages hold bytes, and the end of the request came with them
abbrev pub own : Own
own = record {
  request = record { held = codes "request"; is_asked = true; has_end = true };
  response = record { held = codes "answer"; is_asked = false; has_end = false };
  properties = (codes "bc", codes "set") ∷ [];
  answer = None;
}

abbrev pub seen : Seen
seen = record {
  common = record {
    level = 3;
    names = codes "m1" ∷ codes "bc" ∷ codes "m3" ∷ [];
    ids = 1 ∷ 2 ∷ 5 ∷ [];
    waiting = 2 ∷ 5 ∷ [];
    effective = 5;
    effects = [];
    random_key = replicate 32 0;
    random_place = 7;
    calls = no_calls;
    is_tcp = false;
  };
  reach = record {
    root = Some 1;
    plugin = Some (record { name = codes "plug"; configuration = codes "of plug"; vm = 2; root = Some 1 });
    vm_name = codes "m3";
    vm_configuration = codes "of the vm";
    own = Some own;
    tick = Some None;
    exchange = Some view;
  };
}

-- its root, which is of no exchange, and no context at all
abbrev pub in_root : Seen
in_root = record seen { reach = record seen.reach { exchange = None } }

abbrev pub in_none : Seen
in_none = record seen { reach = record seen.reach { root = None; plugin = None; own = None; tick = None; exchange = None } }

abbrev pub in_view : ExchangeView → Seen
in_view v = record seen { reach = record seen.reach { exchange = Some v } }

abbrev pub in_own : Own → Seen
in_own o = record seen { reach = record seen.reach { own = Some o } }

-- the stages of an idle filter
abbrev pub idle : Own
idle = record own { request = record own.request { held = []; is_asked = false }; response = record own.response { held = [] } }

-- ---- the calls, at the moment 1,000

abbrev pub calls_by : GuestAt → Seen → HostCall → List ℕ → Program Hosted
calls_by g s call args = hosting call 1000 2 args g s

abbrev pub calls_on : List ℕ → HostCall → List ℕ → Program Hosted
calls_on memory call args = calls_by (guest memory 9) seen call args

abbrev pub calls_in : Seen → HostCall → List ℕ → Program Hosted
calls_in s call args = calls_by (guest letters 9) s call args

abbrev pub calls : HostCall → List ℕ → Program Hosted
calls call args = calls_in seen call args

abbrev pub wasi_on : List ℕ → Seen → WasiCall → List ℕ → Program Hosted
wasi_on memory s call args = wasi_hosting call 1000 2 args (guest memory 9) s

-- ---- how they end

abbrev pub ends : (status : ℕ) → GuestAt → Changes → List Sent → Hosted
ends status g changes lines = record { called = called status g; changes = changes; lines = lines }

-- nothing but a status
abbrev pub only : ℕ → Hosted
only status = ends status (guest letters 9) no_changes []

abbrev pub answers : ℕ → Program Hosted
answers status = done (only status)

-- done, with these changes
abbrev pub changes : Changes → Program Hosted
changes c = done (ends 0 (guest letters 9) c [])

-- done: the memory now, without an allocation, and with one
abbrev pub writes : List ℕ → Hosted
writes memory = ends 0 (guest memory 9) no_changes []

abbrev pub gives : List ℕ → Hosted
gives memory = ends 0 (guest memory 6) no_changes []

-- ---- what they ask first

pub data Asked : Type 0 where
  -- a store is called, or metrics are asked, and so it goes on with the reply
  asked : (vm : ℕ) → Call → Program Hosted → Asked
  measured : (vm : ℕ) → MetricAsk → Program Hosted → Asked
  -- nothing is asked
  at_once : Hosted → Asked

abbrev pub replied : Reply → MetricReply → Program Hosted → Asked
replied r m (done h) = at_once h
replied r m (ask vm call k) = asked vm call (k r)
replied r m (measure vm a k) = measured vm a (k m)

-- where the store of that number is called so and gives this reply
abbrev pub by_store : Reply → Program Hosted → Asked
by_store r p = replied r metric.NotBuilt p

abbrev pub by_metrics : MetricReply → Program Hosted → Asked
by_metrics m p = replied reply.Absent m p
