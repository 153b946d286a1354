-- The heads and steps of the model that the code's values say.
use Rattle.std.specs.Prelude.{◌≡◌, ◌≤◌, ⊤, ℕ, Bool, true, false, List, [], Option, None, Some, Result, Ok, Err}
use Rattle.h1_model.specs.Head as model
use Rattle.h1_model.specs.Length as lengths
use Rattle.std.specs.Option.{option_map}
use Rattle.header_maps.specs.Headers.{Headers}
use Rattle.header_maps.specs.declared.kind.ListKind.TheVariants.{Plain}
use Rattle.header_maps.specs.declared.end.HeaderEnd.{HeaderEnd}
use Rattle.header_maps.specs.declared.end.HeaderEnd.TheVariants as ends
use Rattle.h1_model.specs.Fields.{Pair, is_dropped, is_dropped_from_response, passing_among}
use Rattle.h1_head.specs.declared.head.Head as head
use Rattle.h1_head.specs.declared.head.Kind as kind
use Rattle.h1_head.specs.declared.head.Kind.TheVariants as kinds
use Rattle.h1_head.specs.declared.head.HeadStep as step
use Rattle.h1_head.specs.declared.head.HeadStep.TheVariants as steps
use Rattle.h1_head.specs.Measures.{seen_length}
use Rattle.h1_head.specs.Targets.{seen_form}

-- the head that a value says
abbrev pub seen_head : head.Head → model.Head
seen_head h = record {
  fields = h.fields;
  tail = h.tail;
  form = option_map seen_form h.form;
  minor = h.minor;
  length = seen_length h.length;
  told = h.told;
  close = h.close;
  connection = h.connection;
}

-- a head with these fields, of which nothing else is written
abbrev pub bare_head : Headers → model.Head
bare_head fields = record {
  fields = fields;
  tail = record { kind = Plain; pairs = [] };
  form = None;
  minor = 1;
  length = lengths.nothing;
  told = None;
  close = false;
  connection = [];
}

-- a head that is taken in, or the number of a refusal
abbrev pub seen_answer : Result head.Head ℕ → Result model.Head ℕ
seen_answer (Ok h) = Ok (seen_head h)
seen_answer (Err number) = Err number

-- the step that a value says
abbrev pub seen_step : step.HeadStep → model.HeadStep
seen_step (steps.Head h used) = model.found (seen_head h) used
seen_step steps.NotYet = model.not_yet
seen_step (steps.Refused number) = model.refused number

-- what the text of a whole head of that kind gives, and the number of one that has grown too large
abbrev pub IsAnswerOf : kind.Kind → List ℕ → Result model.Head ℕ → Type 0
IsAnswerOf kinds.Request = model.IsAnswer
IsAnswerOf (kinds.Response to_head) = model.IsResponseAnswer to_head

abbrev pub large_number : kind.Kind → ℕ
large_number kinds.Request = 431
large_number (kinds.Response to_head) = 502

-- what a text of that kind spells where a head is due
abbrev pub Spells : kind.Kind → List ℕ → model.HeadStep → Type 0
Spells kind text step = model.SpellsBy (IsAnswerOf kind) (large_number kind) text step

-- a field of this name, in lower case, is dropped from a head with these fields, in which `host` may pass; and those that pass
abbrev pub dropped_from : Bool → List Pair → List ℕ → Bool
dropped_from true fields name = is_dropped_from_response fields name
dropped_from false fields name = is_dropped fields name

abbrev pub passing_in : Bool → List Pair → List Pair
passing_in host_passes fields = passing_among (dropped_from host_passes fields) fields

-- the header list where one was made, and none where a field or a pseudo-header is not taken; want of memory says nothing
abbrev pub IsListed : Option Headers → Result Headers HeaderEnd → Type 0
IsListed list (Ok headers) = list ≡ Some headers
IsListed list (Err ends.BadName) = list ≡ None
IsListed list (Err ends.BadValue) = list ≡ None
IsListed list (Err ends.TooMany) = list ≡ None
IsListed list (Err ends.OutOfMemory) = ⊤

-- the value of the Host lines where they are right, and none where they are wrong
abbrev pub IsHost : ℕ → List (List ℕ) → Option (List ℕ) → Type 0
IsHost minor hosts None = model.is_host_right minor hosts ≡ false
IsHost minor hosts (Some host) = (model.is_host_right minor hosts ≡ true) × (host ≡ model.host_of hosts)

-- a head uses up at most so many bytes
abbrev pub UsesWithin : ℕ → step.HeadStep → Type 0
UsesWithin n (steps.Head h used) = used ≤ n
UsesWithin n steps.NotYet = ⊤
UsesWithin n (steps.Refused number) = ⊤
