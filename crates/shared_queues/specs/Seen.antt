-- The fields of the code, as the queues of a store.
use Rattle.std.specs.Prelude.{◌≡◌, ℕ, ◌+◌, ◌≤◌, List, [], ◌∷◌, Option, Some, None, map, length, All, Vec}
use Rattle.std.specs.declared.alloc.Global.{Global}
use Rattle.std.specs.Map.{lookup}
use Rattle.std.specs.Str.{bytes_eq}
use Rattle.store_model.specs.Queues as model
use Rattle.store_model.specs.Queues.{Queues, base_of, named, used_by_queues}
use Rattle.store_model.specs.Limits.{IsWithin}
use Rattle.store_model.specs.declared.used.Used.{Used}
use Rattle.store_model.specs.declared.used.TheConstants.{MOST_ITEMS}
use Rattle.shared_queues.specs.Owing.{Owing}
use Rattle.shared_queues.specs.declared.queues.Queue.{Queue}

abbrev pub seen_queue : Queue → model.Queue
seen_queue q = record { name = q.name; who = q.who; root = q.root; items = q.items.items }

-- an index among the queues, as an id
abbrev pub seen_id : ℕ → ℕ → ℕ
seen_id vm k = base_of vm + k + 1

abbrev pub seen_queues : ℕ → List Queue → Owing → Queues
seen_queues vm qs o = record { vm = vm; queues = map seen_queue qs; owed = map (seen_id vm) o.owed }

abbrev pub seen_name : Vec ℕ Global × ℕ → List ℕ × ℕ
seen_name e = (e.0.items, e.1)

-- The map has each queue under its name, the notices know the registrants, the bytes are counted, and the limits hold.
pub record IsKept (q : Queues) (names : List (Vec ℕ Global × ℕ)) (o : Owing) (bytes : ℕ) : Type 0 where
  pub found : (name : List ℕ) → lookup (bytes_eq name) (map seen_name names) ≡ named q name
  pub whos : o.whos ≡ map (λ x. x.who) q.queues
  pub counted : bytes ≡ (used_by_queues q).bytes
  pub within : IsWithin (used_by_queues q)
  pub items : All (λ x. length x.items ≤ MOST_ITEMS) q.queues
  pub vm : q.vm ≤ 15

-- so many more names and bytes
abbrev pub used_more : Used → ℕ → ℕ → Used
used_more u names bytes = record { names = u.names + names; bytes = u.bytes + bytes }

-- the first item, if there is one
abbrev pub first_of : List (List ℕ) → Option (List ℕ)
first_of [] = None
first_of (item ∷ items) = Some item
