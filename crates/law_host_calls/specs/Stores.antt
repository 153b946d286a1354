-- The calls on shared data and queues: which store they call, with what, and what they make of its reply. The caller is VM 2.
use Rattle.std.specs.Prelude.{◌≡◌, ℕ, [], ◌∷◌, ◌++◌, None, codes}
use Rattle.abi_calls.specs.Hosting.{Hosted}
use Rattle.abi_model.specs.declared.table.HostCall.TheVariants as call
use Rattle.contexts.specs.Reached.{no_changes}
use Rattle.store_model.specs.Program.{Program, done}
use Rattle.store_model.specs.declared.call.Call.TheVariants as store
use Rattle.store_model.specs.declared.call.Reply.TheVariants as reply
use Rattle.law_host_calls.specs.Scenes.{guest_of, guest, allocates, letters, told, seen, in_none, calls_by, calls_in, calls, ends, answers, writes, gives, asked, by_store}

abbrev pub gets : Program Hosted
gets = calls call.GetSharedData (1 ∷ 2 ∷ 4 ∷ 8 ∷ 12 ∷ [])

-- the key `bc`, the value `efg`, and the number 9
abbrev pub sets : Program Hosted
sets = calls call.SetSharedData (1 ∷ 2 ∷ 4 ∷ 3 ∷ 9 ∷ [])

pub record DataExamples : Type 0 where
  -- three bytes and the number 9: place 19, size 3, and the number at place 12
  pub got : by_store (reply.Value (codes "xyz") 9) gets ≡ asked 2 (store.Get (codes "bc")) (done (gives (told 19 3 (9 ∷ 0 ∷ 0 ∷ 0 ∷ codes "qrsxyzwx"))))
  pub empty : by_store (reply.Value [] 9) gets ≡ asked 2 (store.Get (codes "bc")) (done (writes (told 0 0 (9 ∷ 0 ∷ 0 ∷ 0 ∷ codes "qrstuvwx"))))
  pub absent : by_store reply.Absent gets ≡ asked 2 (store.Get (codes "bc")) (answers 1)
  -- five bytes are not placed within 24
  pub no_room : by_store (reply.Value (codes "vwxyz") 9) gets ≡ asked 2 (store.Get (codes "bc")) (done (ends 6 (guest letters 6) no_changes []))
  pub no_allocator : by_store (reply.Value (codes "xyz") 9) (calls_by (guest_of None allocates letters 9) seen call.GetSharedData (1 ∷ 2 ∷ 4 ∷ 8 ∷ 12 ∷ [])) ≡ asked 2 (store.Get (codes "bc")) (done (ends 10 (guest_of None allocates letters 9) no_changes []))
  pub place_outside : calls call.GetSharedData (1 ∷ 2 ∷ 4 ∷ 8 ∷ 21 ∷ []) ≡ answers 6
  pub set : by_store (reply.Done 4) sets ≡ asked 2 (store.Set (codes "bc") (codes "efg") 9) (answers 0)
  pub other_number : by_store reply.CasMismatch sets ≡ asked 2 (store.Set (codes "bc") (codes "efg") 9) (answers 8)
  pub full : by_store reply.Full sets ≡ asked 2 (store.Set (codes "bc") (codes "efg") 9) (answers 10)
  pub value_outside : calls call.SetSharedData (1 ∷ 2 ∷ 22 ∷ 3 ∷ 9 ∷ []) ≡ answers 6

-- the queue `bc` of the caller
abbrev pub registers : Program Hosted
registers = calls call.RegisterSharedQueue (1 ∷ 2 ∷ 4 ∷ [])

-- the queue `efg` of the VM named `bc`, which is VM 1
abbrev pub resolves : Program Hosted
resolves = calls call.ResolveSharedQueue (1 ∷ 2 ∷ 4 ∷ 3 ∷ 8 ∷ [])

-- the first queue of VM 1; there is no VM 3
abbrev pub queue : ℕ
queue = 16777217

abbrev pub queue_of_none : ℕ
queue_of_none = 50331649

abbrev pub dequeues : Program Hosted
dequeues = calls call.DequeueSharedQueue (queue ∷ 4 ∷ 8 ∷ [])

abbrev pub enqueues : Program Hosted
enqueues = calls call.EnqueueSharedQueue (queue ∷ 1 ∷ 2 ∷ [])

pub record QueueExamples : Type 0 where
  -- root 1 registers: the id is 2 * 2^24 + 1
  pub registered : by_store (reply.Id 33554433) registers ≡ asked 2 (store.Register (codes "bc") 1) (done (writes (codes "abcd" ++ 1 ∷ 0 ∷ 0 ∷ 2 ∷ codes "ijklmnopqrstuvwx")))
  pub no_more : by_store reply.Full registers ≡ asked 2 (store.Register (codes "bc") 1) (answers 10)
  pub no_root : calls_in in_none call.RegisterSharedQueue (1 ∷ 2 ∷ 4 ∷ []) ≡ answers 2
  pub not_registered : calls call.RegisterSharedQueue (1 ∷ 2 ∷ 21 ∷ []) ≡ answers 6
  pub resolved : by_store (reply.Id queue) resolves ≡ asked 1 (store.Resolve (codes "efg")) (done (writes (codes "abcdefgh" ++ 1 ∷ 0 ∷ 0 ∷ 1 ∷ codes "mnopqrstuvwx")))
  pub absent : by_store reply.Absent resolves ≡ asked 1 (store.Resolve (codes "efg")) (answers 1)
  -- no VM is named `efg`: no store is called
  pub no_vm : calls call.ResolveSharedQueue (4 ∷ 3 ∷ 1 ∷ 2 ∷ 8 ∷ []) ≡ answers 1
  pub not_resolved : calls call.ResolveSharedQueue (1 ∷ 2 ∷ 22 ∷ 3 ∷ 8 ∷ []) ≡ answers 6

pub record ItemExamples : Type 0 where
  pub taken : by_store (reply.Item (codes "xyz")) dequeues ≡ asked 1 (store.Dequeue queue) (done (gives (told 19 3 (codes "mnopqrsxyzwx"))))
  pub no_item : by_store reply.Empty dequeues ≡ asked 1 (store.Dequeue queue) (answers 7)
  pub no_queue : by_store reply.Absent dequeues ≡ asked 1 (store.Dequeue queue) (answers 1)
  pub of_no_vm : calls call.DequeueSharedQueue (queue_of_none ∷ 4 ∷ 8 ∷ []) ≡ answers 1
  pub not_taken : calls call.DequeueSharedQueue (queue ∷ 4 ∷ 21 ∷ []) ≡ answers 6
  pub put : by_store (reply.Done 0) enqueues ≡ asked 1 (store.Enqueue queue (codes "bc")) (answers 0)
  pub full : by_store reply.Full enqueues ≡ asked 1 (store.Enqueue queue (codes "bc")) (answers 10)
  pub put_nowhere : by_store reply.Absent enqueues ≡ asked 1 (store.Enqueue queue (codes "bc")) (answers 1)
  pub put_to_no_vm : calls call.EnqueueSharedQueue (queue_of_none ∷ 1 ∷ 2 ∷ []) ≡ answers 1
  pub not_put : calls call.EnqueueSharedQueue (queue ∷ 23 ∷ 2 ∷ []) ≡ answers 6
