-- The head of a request that is written is read back as a head.
use Rattle.std.specs.Prelude.{◌≡◌, ◌≤◌, ℕ, Bool, true, false, not, List, [], ◌∷◌, ◌++◌, ◌==◌, map, length, None, Some, codes, bytes_eq, if◌then◌else◌}
use Rattle.std.specs.List.{list_all}
use Rattle.header_maps.specs.declared.kind.ListKind.TheVariants as kinds
use Rattle.header_maps.specs.Kept.{IsHeaders}
use Rattle.header_maps.specs.Operations.{no_headers}
use Rattle.h1_model.specs.Fields.{Pair, is_listed, fields_not_listed, kept_fields}
use Rattle.h1_model.specs.Framing.{Framing, no_body, by_length, by_chunks, by_close, items_wire, head_wire}
use Rattle.h1_model.specs.Framing as out
use Rattle.h1_model.specs.Head.{Head, found, SpellsStep}
use Rattle.h1_model.specs.Length.{nothing, exactly, chunked, Measure}
use Rattle.h1_model.specs.Lines.{head_limit, line_limit}
use Rattle.h1_model.specs.Messages.{request, head}
use Rattle.h1_model.specs.Target.{TargetForm, origin, asterisk, http, Target, GivesTarget}
use Rattle.h1_model.specs.Wire.{sent_fields, pseudo_of}
use Rattle.h1_write.specs.Heads.{written_fields, told_fields, IsTail, IsInLimit, tail_read, connection_read}
use Rattle.h1_write.specs.Laws.{read_field}
use Rattle.h1_write.specs.Round.{Ending, body_items, Suits, length_said, items_read, stop_behind, IsReadAs}

-- ---- what is written

-- the method, the path and the authority of a request's list
abbrev pub method_of : Head → List ℕ
method_of h = pseudo_of h.fields (codes ":method")

abbrev pub path_of : Head → List ℕ
path_of h = pseudo_of h.fields (codes ":path")

abbrev pub authority_of : Head → List ℕ
authority_of h = pseudo_of h.fields (codes ":authority")

-- the fields of a request head as they are written, in order: `host`, and those that every head has
abbrev pub request_fields : Framing → Head → List Pair
request_fields framing h = (codes "host", authority_of h) ∷ written_fields framing h

-- what the path gives as a target by itself
abbrev pub form_of : List ℕ → TargetForm
form_of path = if bytes_eq path (codes "*") then asterisk else origin

abbrev pub own_target : List ℕ → Target
own_target path = record { form = form_of path; scheme = http; authority = None; path = path }

-- the line does not tell where the body of a request ends
abbrev pub is_for_request : Framing → Bool
is_for_request no_body = true
is_for_request (by_length n) = true
is_for_request by_chunks = true
is_for_request by_close = false

-- A head of a request that a reader takes in once it is written: its list is one of a request, whose path is by itself a target
-- for its method (a list may hold other paths, as one with `<` in it, and `*` for a method other than OPTIONS), the tail has no
-- `host`, and all that is written has room in a reader.
pub record IsReadableRequest (framing : Framing) (h : Head) : Type 0 where
  pub kind : h.fields.kind ≡ kinds.Request
  pub list : IsHeaders h.fields
  pub target : GivesTarget (method_of h) (path_of h) (own_target (path_of h))
  pub tail : IsTail h.tail.pairs
  pub no_host : list_all (λ (f : Pair). not (bytes_eq f.0 (codes "host"))) h.tail.pairs ≡ true
  pub framed : is_for_request framing ≡ true
  pub told : IsInLimit framing
  pub few : length (request_fields framing h) ≤ line_limit
  pub short : length (head_wire framing h) ≤ head_limit

-- ---- what is read

-- what a request that is framed so tells
abbrev pub request_said : Framing → Measure
request_said no_body = record { length = nothing; told = None }
request_said (by_length n) = record { length = if n == 0 then nothing else exactly n; told = Some n }
request_said by_chunks = record { length = chunked; told = None }
request_said by_close = record { length = nothing; told = None }

-- the fields of the list that is read
abbrev pub request_fields_read : Framing → Head → List Pair
request_fields_read framing h =
    fields_not_listed (connection_read h) (map read_field (sent_fields h.fields.pairs ++ told_fields framing)) ++ kept_fields (tail_read h)

-- the head that is read: the same method, authority and path; the scheme is that of the line, which no byte tells
abbrev pub request_read : Framing → Head → Head
request_read framing h = record {
  fields = record {
    kind = kinds.Request;
    pairs = (codes ":method", method_of h) ∷ (codes ":scheme", codes "http") ∷ (codes ":authority", authority_of h)
        ∷ (codes ":path", path_of h) ∷ request_fields_read framing h;
  };
  tail = no_headers;
  form = Some (form_of (path_of h));
  minor = 1;
  length = (request_said framing).length;
  told = (request_said framing).told;
  close = is_listed (codes "close") (tail_read h);
  connection = connection_read h;
}

-- ---- the laws

-- A head of a request that is written is read as that head, and uses up all that was written.
abbrev pub RequestHeadReadBack : Type 0
RequestHeadReadBack =
    (framing : Framing) (h : Head) → IsReadableRequest framing h
    → SpellsStep (head_wire framing h) (found (request_read framing h) (length (head_wire framing h)))

-- A WHOLE REQUEST is read as its head and its body.
abbrev pub RequestReadBack : Type 0
RequestReadBack =
    (framing : Framing) (h : Head) (pieces : List (List ℕ)) (ending : Ending) (ended : Bool) → IsReadableRequest framing h
    → Suits framing pieces ending ended []
    → IsReadAs (items_wire framing (out.head h ∷ body_items pieces ending)) ended None head
    (request (request_read framing h) ∷ items_read None (connection_read h) (length_said framing) pieces ending) (stop_behind ended None)
