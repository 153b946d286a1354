-- Worked examples: two VMs, two lines, and their contexts.
use Rattle.std.specs.Prelude.{◌≡◌, ℕ, true, false, List, [], ◌∷◌, Option, None, Some, codes, replicate}
use Rattle.std.specs.Option.{option_map}
use Rattle.gate_base.specs.declared.level.Level.TheVariants as levels
use Rattle.header_maps.specs.Headers.{Headers}
use Rattle.header_maps.specs.Operations.{request_headers, get_of}
use Rattle.contexts.specs.declared.parts.Own.{Own}
use Rattle.contexts.specs.declared.parts.ExchangeView.{ExchangeView}
use Rattle.contexts.specs.declared.parts.Contexts.{Contexts}
use Rattle.contexts.specs.Reached.{Changes, Seen, no_changes, seen, seen_of, put, put_of, contains, exchange_at}
use Rattle.contexts.specs.Creating.{no_own, root_created, stream_created, open_exchange, end_exchange, delete_id, await_done_of, done_with, open_place}
use Rattle.contexts.specs.Making.{no_contexts, with_vm, with_plugin}
use Rattle.contexts.specs.Stages.{held_at, with_buffered, without_buffer, with_callback_answered, is_there}
use Rattle.contexts.specs.Properties.{property_of, property_set}

abbrev pub request : List ℕ → Headers
request path = request_headers (codes "GET") (codes "http") (codes "h") path

-- two VMs, each with one plug-in and its root
abbrev pub roots : Contexts
roots =
    root_created 1 1 (root_created 0 0 (with_plugin 1 (codes "q") [] (with_plugin 0 (codes "p") (codes "conf")
    (with_vm (codes "m2") [] (with_vm (codes "m1") (codes "vm conf") (no_contexts levels.Info []))))))

-- line 7 with a stream of each, and line 8 with one of the first
abbrev pub host : Contexts
host = stream_created 0 1 8 (open_exchange 8 (request (codes "/b")) (stream_created 1 1 7 (stream_created 0 1 7 (open_exchange 7 (request (codes "/a")) roots))))

abbrev pub path_in : Option Headers → Option (List ℕ)
path_in None = None
path_in (Some l) = get_of l (codes ":path")

-- the path of the request that a context sees
abbrev pub path_of : Option ExchangeView → Option (List ℕ)
path_of None = None
path_of (Some x) = path_in x.maps.request

abbrev pub path_seen : Contexts → (vm e : ℕ) → Option (List ℕ)
path_seen h vm e = path_of (seen_of h vm e).reach.exchange

abbrev pub with_property : Own → Own
with_property o = record o { properties = property_set (codes "k") (codes "v") o.properties }

abbrev pub property_seen : Contexts → (vm e : ℕ) → Option (Option (List ℕ))
property_seen h vm e = option_map (λ (o : Own). property_of (codes "k") o.properties) (seen_of h vm e).reach.own

-- the first stream sets a property
abbrev pub set : Contexts
set = put_of (record no_changes { own = Some (with_property no_own) }) 0 2 host

pub record ContextExamples : Type 0 where
  -- ids are drawn per VM from 1, roots first
  pub first_ids : (seen_of host 0 0).common.ids ≡ 1 ∷ 2 ∷ 3 ∷ []
  pub second_ids : (seen_of host 1 0).common.ids ≡ 1 ∷ 2 ∷ []
  pub names : (seen_of host 0 0).common.names ≡ codes "m1" ∷ codes "m2" ∷ []
  -- before the first callback no context is effective
  pub none_effective : (seen host 0).reach.root ≡ None
  pub vm_configuration : (seen host 0).reach.vm_configuration ≡ codes "vm conf"
  -- a stream sees its exchange, and so does one of another VM in the same exchange; a root sees none
  pub first_path : path_seen host 0 2 ≡ Some (codes "/a")
  pub same_path : path_seen host 1 2 ≡ Some (codes "/a")
  pub other_path : path_seen host 0 3 ≡ Some (codes "/b")
  pub no_path : path_seen host 0 1 ≡ None
  pub no_context : path_seen host 0 9 ≡ None
  -- the effective context counts, not that of the callback
  pub effective_path : path_of (seen (put (record no_changes { effective = Some 2 }) 0 host) 0).reach.exchange ≡ Some (codes "/a")
  -- a property is the context's own: neither its root nor another VM's context of the same id has it
  pub set_here : property_seen set 0 2 ≡ Some (Some (codes "v"))
  pub not_at_root : property_seen set 0 1 ≡ Some None
  pub not_at_other : property_seen set 0 3 ≡ Some None
  pub not_elsewhere : property_seen set 1 2 ≡ Some None
  -- the maps of an exchange that has ended live until its last context is deleted; then its place is free
  pub ended_path : path_seen (end_exchange 0 host) 0 2 ≡ Some (codes "/a")
  pub last_path : path_seen (delete_id 0 2 (end_exchange 0 host)) 1 2 ≡ Some (codes "/a")
  pub freed : exchange_at (delete_id 1 2 (delete_id 0 2 (end_exchange 0 host))).exchanges 0 ≡ None
  pub kept_open : open_place 8 (delete_id 1 2 (delete_id 0 2 (end_exchange 0 host))).exchanges ≡ Some 1
  pub used_again : open_place 9 (open_exchange 9 (request (codes "/c")) (delete_id 1 2 (delete_id 0 2 (end_exchange 0 host)))).exchanges ≡ Some 0
  pub gone_ids : (seen_of (delete_id 0 2 host) 0 0).common.ids ≡ 1 ∷ 3 ∷ []
  -- ids are not drawn again
  pub next_ids : (seen_of (stream_created 0 1 8 (delete_id 0 3 host)) 0 0).common.ids ≡ 1 ∷ 2 ∷ 4 ∷ []
  -- a context waits until it is done with, and not once it is deleted
  pub waits : (seen_of (await_done_of 0 2 host) 0 0).common.waiting ≡ 2 ∷ []
  pub waits_no_more : (seen_of (done_with 0 2 (await_done_of 0 2 host)) 0 0).common.waiting ≡ []
  pub deleted_waits : (seen_of (delete_id 0 2 (await_done_of 0 2 host)) 0 0).common.waiting ≡ []
  -- bytes are held by one context in one direction
  pub held : held_at (with_buffered host 0 2 false (codes "ab") true) 0 2 false ≡ codes "ab"
  pub held_more : held_at (with_buffered (with_buffered host 0 2 false (codes "ab") false) 0 2 false (codes "c") true) 0 2 false ≡ codes "abc"
  pub not_held : held_at (with_buffered host 0 2 false (codes "ab") true) 0 2 true ≡ []
  pub held_gone : held_at (without_buffer (with_buffered host 0 2 false (codes "ab") true) 0 2 false) 0 2 false ≡ []
  -- the buffer is there in the callback of an empty piece, and with bytes after it
  pub asked_there : is_there (record { held = []; is_asked = true; has_end = true }) ≡ true
  pub bytes_there : is_there (record { held = codes "a"; is_asked = false; has_end = false }) ≡ true
  pub not_there : is_there (record { held = []; is_asked = false; has_end = false }) ≡ false
  -- a value is put in place of the one at its path
  pub property_put : property_set (codes "a") (codes "2") ((codes "a", codes "1") ∷ (codes "b", []) ∷ []) ≡ (codes "a", codes "2") ∷ (codes "b", []) ∷ []
  pub property_added : property_set (codes "c") (codes "3") ((codes "a", codes "1") ∷ []) ≡ (codes "a", codes "1") ∷ (codes "c", codes "3") ∷ []
  pub property_absent : property_of (codes "c") ((codes "a", codes "1") ∷ []) ≡ None
