-- What is known of roots stays where contexts are made and done with.
use Rattle.std.proofs.Common.{◌≡◌, ◌⊎◌, inl, inr, refl, ℕ, zero, suc, ◌<◌, Bool, true, false, not, ◌||◌, ◌&&◌, List, [], ◌∷◌, ◌++◌, length, map, ap, ◌∙◌, sym, subst, ⊎_elim}
use Rattle.std.proofs.lemmas.Bool.{ltb-true, eqb-true, cases_eq}
use Rattle.std.proofs.lemmas.List.{length-set}
use Rattle.std.specs.Prelude.{slice_set, slice_get, Option, None, Some}
use Rattle.contexts.specs.Creating.{plugin_in, next_id, root_created, stream_created, await_done_of, delete_id}
use Rattle.contexts.specs.Reached.{vm_in, contains, seen}
use Rattle.contexts.specs.declared.parts.Contexts.{Contexts}
use Rattle.contexts.specs.declared.parts.VmContexts.{VmContexts}
use Rattle.exchange.specs.declared.types.Exchange.{Exchange}
use Rattle.exchange.specs.declared.types.Filter.{Filter}
use Rattle.filter_host.specs.declared.host.Death.TheVariants as deaths
use Rattle.gate_config.specs.declared.entries.PluginEntry.{PluginEntry}
use Rattle.law_roots.specs.Roots.{RootStands}
use Rattle.law_vms.specs.OwnChanges.{outline}
use Rattle.worker_model.specs.Plan.{Plan}
use Rattle.worker_model.specs.Room.{Room}
use Rattle.worker_model.specs.Rooms.{is_dead, with_contexts, place_in, lose_vm_in}
use Rattle.worker_model.specs.Steps.{with_jobs_first, is_zero, has_vm, await_done, last_jobs, finish_context, delete_context, is_drawn_out, may_root, may_stream, root_jobs, create_root, with_filter, change_exchange, change_line, line_at, line_at_place, on_line, with_stream, create_stream, create_filter, filter_at, create_context}
use Rattle.worker_model.specs.declared.types.ContextAt.{ContextAt}
use Rattle.worker_model.specs.declared.types.Job.{Job}
use Rattle.worker_model.specs.declared.types.Job.TheVariants as jobs
use Rattle.worker_model.specs.declared.types.Line.{Line}
use Rattle.worker_model.specs.declared.types.NewContext.{NewContext}
use Rattle.law_filters.proofs.Doing.{by_ended, never}
use Rattle.law_filters.proofs.Ids.{IsItem, AreDrawn, both_true, some_same, item_same, item_grows, stream_drawn, stream_item, stream_root, new_grows, new_stream, root_drawn, root_item, root_made, root_kept, delete_drawn, delete_item, delete_root}
use Rattle.law_filters.proofs.Rooms.{OfExchange, OfLine, OfEach, IsCalm, numbers, numbers_set, each_at, each_set, holding}
use Rattle.law_filters.proofs.Same.{pick, set_vm, SameIds, same_itself}
use Rattle.law_filters.proofs.Sound.{IsSound, OfFilters, Filtered, OfWaits, HasRoot, todo, SoundBut, Nobody, Moves, each_moves, jobs_move, waits_move, rebased, now_dead, sound_calm}
use Rattle.law_filters.proofs.Good as good

may_of : (a b : Bool) → (a || not b) ≡ false → b ≡ true
may_of true b is = absurd (cc is)
may_of false true is = refl
may_of false false is = absurd (cc is)

module _ (plan : Plan) where
  abbrev Known : Room → Type 0
  Known room = IsSound plan Nobody room

  abbrev Good : Room → Type 0
  Good room = Known room × (room.is_begun ≡ true)

  calm : IsCalm Known
  calm = sound_calm plan Nobody

  -- ---- contexts that are done with

  awaits : (c : ContextAt) (h : Contexts) (room : Room) → IsItem h c.vm c.context → SoundBut plan Nobody h room → room.is_begun ≡ true → SoundBut plan Nobody h (record room { waits = room.waits ++ c ∷ [] })
  awaits c h room item s begun =
      let r = s.2 in (
        s.0,
        s.1,
        good.turned_by plan h room (record room { waits = room.waits ++ c ∷ [] }) r begun begun r.of_jobs (waits_push room.waits r.of_waits) r.ordered (λ p vm has. has) (λ p vm has. has) r.no_line (λ vm is. is),
      )
    where
      waits_push : (ws : List ContextAt) → OfWaits h ws → OfWaits h (ws ++ c ∷ [])
      waits_push [] of = (item, tt)
      waits_push (w ∷ ws) of = (of.0, waits_push ws of.1)

  awaited_same : (vm id : ℕ) (k : Contexts) → SameIds k (await_done_of vm id k)
  awaited_same vm id k = record {
    outlined = λ w. set_vm (λ (v : VmContexts). map outline v.contexts) k.vms vm w (record (vm_in k vm) { waiting = (vm_in k vm).waiting ++ id ∷ [] }) refl;
    last = λ w. set_vm (λ (v : VmContexts). v.last) k.vms vm w (record (vm_in k vm) { waiting = (vm_in k vm).waiting ++ id ∷ [] }) refl;
    count = length-set k.vms vm (record (vm_in k vm) { waiting = (vm_in k vm).waiting ++ id ∷ [] });
    plugins = refl;
  }

  pub finish : (c : ContextAt) (value : Option (Option ℕ)) (room : Room) → Known (holding (jobs.Done c) room) → Known (finish_context c value room)
  finish c value room s =
      let h : Contexts = s.contexts in
      let now : SoundBut plan Nobody h room = good.popped_but plan h (jobs.Done c) room (λ p vm has. has) s.holds in
      let begun : room.is_begun ≡ true = good.begun_but plan Nobody h (jobs.Done c) room s.holds.2 in
      let item : IsItem h c.vm c.context = s.holds.2.of_jobs.0 in
      let last : Known (with_jobs_first (last_jobs c) room) = record { contexts = h; holds = good.fronted plan h (last_jobs c) room (tt, (tt, tt)) (item, (item, tt)) now begun } in
      let waiting : Known (await_done c room)
      = pick Known (has_vm c.vm room.hub.contexts) (with_contexts (await_done_of c.vm c.context room.hub.contexts) (record room { waits = room.waits ++ c ∷ [] })) room
      (calm.hub (record room { waits = room.waits ++ c ∷ [] }) (await_done_of c.vm c.context room.hub.contexts) (awaited_same c.vm c.context room.hub.contexts)
      (record { contexts = h; holds = awaits c h room item now begun })) (record { contexts = h; holds = now }) in
      by_value last waiting value
    where
      by_value : Known (with_jobs_first (last_jobs c) room) → Known (await_done c room) → (v : Option (Option ℕ)) → Known (finish_context c v room)
      by_value last waiting None = last
      by_value last waiting (Some v) = pick Known (is_zero v) (await_done c room) (with_jobs_first (last_jobs c) room) waiting last

  -- other contexts, of which as much is known
  grown : (h k : Contexts) (room : Room) → AreDrawn plan k → Moves h k → ((p : ℕ) (e : PluginEntry) → slice_get plan.plugins p ≡ Some e → RootStands h p e.vm → RootStands k p e.vm) → SoundBut plan Nobody h room
      → SoundBut plan Nobody k (with_contexts k room)
  grown h k room drawn moves roots s =
      let r = s.2 in (
        each_moves h k moves room.lines s.0,
        same_itself k,
        record {
          drawn = drawn;
          of_jobs = jobs_move h k moves (todo room) r.of_jobs;
          of_waits = waits_move h k moves room.waits r.of_waits;
          ordered = r.ordered;
          begun = r.begun;
          no_line = r.no_line;
          each = λ b p e at. rooted p e at (r.each b p e at);
        },
      )
    where
      rooted : (p : ℕ) (e : PluginEntry) → slice_get plan.plugins p ≡ Some e → ⊥ ⊎ ((is_dead e.vm room ≡ true) ⊎ (RootStands h p e.vm ⊎ HasRoot p e.vm (todo room)))
          → ⊥ ⊎ ((is_dead e.vm room ≡ true) ⊎ (RootStands k p e.vm ⊎ HasRoot p e.vm (todo room)))
      rooted p e at (inl none) = inl none
      rooted p e at (inr (inl dead)) = inr (inl dead)
      rooted p e at (inr (inr (inl stands))) = inr (inr (inl (roots p e at stands)))
      rooted p e at (inr (inr (inr has))) = inr (inr (inr has))

  vm_of : (h : Contexts) → AreDrawn plan h → (p : ℕ) (e : PluginEntry) → slice_get plan.plugins p ≡ Some e → (plugin_in h p).vm ≡ e.vm
  vm_of h d p e at = eqb-true (plugin_in h p).vm e.vm (both_true _ _ (d.table p e at)).1

  pub delete : (c : ContextAt) (value : Option (Option ℕ)) (room : Room) → Known (holding (jobs.Delete c) room) → Known (delete_context c value room)
  delete c value room s =
      let g : Good room = good.popped_other plan (jobs.Delete c) room tt s in
      let h : Contexts = room.hub.contexts in
      let here : SoundBut plan Nobody h room = rebased plan Nobody room g.0 in
      let d : AreDrawn plan h = here.2.drawn in
      let item : IsItem h c.vm c.context = item_same s.contexts h s.holds.1 c.vm c.context s.holds.2.of_jobs.0 in
      let k : Contexts = delete_id c.vm c.context h in
      pick Known (has_vm c.vm h && contains c.context (seen h c.vm).common.ids) (with_contexts k room) room
      (record {
        contexts = k;
        holds = grown h k room (delete_drawn plan c.vm c.context h d item) (delete_item plan c.vm c.context h d item) (λ p e at stands. delete_root plan c.vm c.context h d item p e.vm (vm_of h d p e at) stands) here;
      }) g.0

  -- ---- contexts that are made

  made_filter : (h : Contexts) (f : Filter) (context k : ℕ) (fs : List Filter) → IsItem h f.vm context → OfFilters h fs → OfFilters h (slice_set fs k (record f { created = true; context = context }))
  made_filter h f context k [] item of = tt
  made_filter h f context zero (g ∷ fs) item of = ((λ made. item), of.1)
  made_filter h f context (suc k) (g ∷ fs) item of = (of.0, made_filter h f context k fs item of.1)

  abbrev making : Filter → (context k : ℕ) → Line → Line
  making f context k = change_line (with_filter k (record f { created = true; context = context }))

  one_made : (h : Contexts) (f : Filter) (context k : ℕ) → IsItem h f.vm context → (line : Line) (o : Option Exchange) → line.exchange ≡ o → OfLine (Filtered h) line
      → OfLine (Filtered h) (change_exchange (with_filter k (record f { created = true; context = context })) line o) × ((change_exchange (with_filter k (record f { created = true; context = context })) line o).number ≡ line.number)
  one_made h f context k item line None is given = (given, refl)
  one_made h f context k item line (Some x) is given = (made_filter h f context k x.filters item (subst (OfExchange (Filtered h) line.number) is given), refl)

  made_on : (h : Contexts) (f : Filter) (context k : ℕ) → IsItem h f.vm context → (lines : List Line) (place : ℕ) (o : Option Line) → slice_get lines place ≡ o → OfEach (Filtered h) lines
      → OfEach (Filtered h) (line_at (making f context k) lines place o) × (numbers (line_at (making f context k) lines place o) ≡ numbers lines)
  made_on h f context k item lines place None is of = (of, refl)
  made_on h f context k item lines place (Some line) is of =
      let both = one_made h f context k item line line.exchange refl (each_at (Filtered h) lines place line is of) in
      (each_set (Filtered h) lines place (making f context k line) both.0 of, numbers_set lines place line (making f context k line) is both.1)

  filter_mild : (h : Contexts) (f : Filter) (context k : ℕ) → IsItem h f.vm context → (lines : List Line) (o : Option ℕ) → OfEach (Filtered h) lines
      → OfEach (Filtered h) (line_at_place (making f context k) lines o) × (numbers (line_at_place (making f context k) lines o) ≡ numbers lines)
  filter_mild h f context k item lines None of = (of, refl)
  filter_mild h f context k item lines (Some place) of = made_on h f context k item lines place (slice_get lines place) refl of

  abbrev KnownThere : Option NewContext × Room → Type 0
  KnownThere (c, room) = Known room

  stream : (n k : ℕ) (f : Filter) (root : ℕ) (room : Room) → may_stream f.vm root room.hub.contexts ≡ true → Good room → KnownThere (with_stream n k f root room)
  stream n k f root room may g =
      let h : Contexts = room.hub.contexts in
      let here : SoundBut plan Nobody h room = rebased plan Nobody room g.0 in
      let d : AreDrawn plan h = here.2.drawn in
      let there : f.vm < length h.vms = ltb-true f.vm (length h.vms) (both_true _ _ may).0 in
      let made : Contexts = stream_created f.vm root n h in
      let moves : Moves h made = item_grows h made (new_grows h f.vm (new_stream f.vm root n h) refl) refl in
      let after : SoundBut plan Nobody made (with_contexts made room) = grown h made room (stream_drawn plan f.vm root n h d) moves (λ p e at stands. stream_root f.vm root n p e.vm h stands) here in
      let both = filter_mild made f (next_id h f.vm) k (stream_item plan f.vm root n h d there) room.lines (place_in n room.lines) after.0 in
      record {
        contexts = made;
        holds = good.lined plan made (with_contexts made room) (on_line (making f (next_id h f.vm) k) n room.lines) room.reading after g.1 both.0 (λ p vm has. both.1 ∙ after.2.no_line p vm has);
      }

  by_root : (n k : ℕ) (f : Filter) (o : Option ℕ) (room : Room) → Good room → KnownThere (create_stream n k f o room)
  by_root n k f None room g = g.0
  by_root n k f (Some root) room g =
      by_ended KnownThere (is_dead f.vm room || not (may_stream f.vm root room.hub.contexts)) (None, room) _ (λ e. g.0)
      (λ fine.
      pick KnownThere (is_drawn_out f.vm room.hub.contexts) (None, lose_vm_in f.vm deaths.Ids room) (with_stream n k f root room) (calm.dies f.vm deaths.Ids room g.0)
      (stream n k f root room (may_of (is_dead f.vm room) (may_stream f.vm root room.hub.contexts) fine) g))

  by_filter : (n k : ℕ) (o : Option Filter) (room : Room) → Good room → KnownThere (create_filter n k o room)
  by_filter n k None room g = g.0
  by_filter n k (Some f) room g = by_root n k f (plugin_in room.hub.contexts f.plugin).root room g

  pub create : (n k : ℕ) (room : Room) → Known (holding (jobs.Create n k) room) → Known (create_context n k room).1
  create n k room s = by_filter n k (filter_at n k room.lines) room (good.popped_other plan (jobs.Create n k) room tt s)

  -- ---- a root

  roots_bare : (vm root p : ℕ) (first : Bool) → good.AreBare plan (root_jobs vm root p first)
  roots_bare vm root p true = (tt, (tt, tt))
  roots_bare vm root p false = (tt, tt)

  -- this plug-in, which is of this VM
  abbrev Its : (vm p : ℕ) → ℕ → Type 0
  Its vm p q = (q ≡ p) × ((e : PluginEntry) → slice_get plan.plugins p ≡ Some e → vm ≡ e.vm)

  -- all but its root is known
  spared : (vm p : ℕ) (first : Bool) (room : Room) → Known (holding (jobs.Root vm p first) room) → IsSound plan (Its vm p) room × (room.is_begun ≡ true)
  spared vm p first room s =
      let r = s.holds.2 in
      let begun : room.is_begun ≡ true = good.begun_but plan Nobody s.contexts (jobs.Root vm p first) room r in (
        record {
          contexts = s.contexts;
          holds = (
            s.holds.0,
            s.holds.1,
            record {
              drawn = r.drawn;
              of_jobs = r.of_jobs.1;
              of_waits = r.of_waits;
              ordered = r.ordered;
              begun = inl begun;
              no_line = λ q w has. r.no_line q w (inr has);
              each = λ b q e at. rooted q e at (r.each b q e at);
            },
          );
        },
        begun,
      )
    where
      its : (q : ℕ) (e : PluginEntry) → slice_get plan.plugins q ≡ Some e → vm ≡ e.vm → p ≡ q → Its vm p q
      its q e at of same = (sym same, λ other there. of ∙ ap (λ (x : PluginEntry). x.vm) (some_same e other (sym at ∙ (ap (slice_get plan.plugins) (sym same) ∙ there))))

      rooted : (q : ℕ) (e : PluginEntry) → slice_get plan.plugins q ≡ Some e
          → ⊥ ⊎ ((is_dead e.vm room ≡ true) ⊎ (RootStands s.contexts q e.vm ⊎ (((vm ≡ e.vm) × (p ≡ q)) ⊎ HasRoot q e.vm (todo room))))
          → Its vm p q ⊎ ((is_dead e.vm room ≡ true) ⊎ (RootStands s.contexts q e.vm ⊎ HasRoot q e.vm (todo room)))
      rooted q e at (inl none) = absurd none
      rooted q e at (inr (inl dead)) = inr (inl dead)
      rooted q e at (inr (inr (inl stands))) = inr (inr (inl stands))
      rooted q e at (inr (inr (inr (inl same)))) = inl (its q e at same.0 same.1)
      rooted q e at (inr (inr (inr (inr has)))) = inr (inr (inr has))

  -- its VM is dead
  settled : (vm p : ℕ) (room : Room) → is_dead vm room ≡ true → IsSound plan (Its vm p) room → Known room
  settled vm p room dead s =
      let r = s.holds.2 in
      record {
        contexts = s.contexts;
        holds = (
          s.holds.0,
          s.holds.1,
          record { drawn = r.drawn; of_jobs = r.of_jobs; of_waits = r.of_waits; ordered = r.ordered; begun = r.begun; no_line = r.no_line; each = λ b q e at. rooted q e at (r.each b q e at) },
        );
      }
    where
      rooted : (q : ℕ) (e : PluginEntry) → slice_get plan.plugins q ≡ Some e → Its vm p q ⊎ ((is_dead e.vm room ≡ true) ⊎ (RootStands s.contexts q e.vm ⊎ HasRoot q e.vm (todo room)))
          → ⊥ ⊎ ((is_dead e.vm room ≡ true) ⊎ (RootStands s.contexts q e.vm ⊎ HasRoot q e.vm (todo room)))
      rooted q e at (inl its) =
          inr (inl (subst (λ (w : ℕ). is_dead w room ≡ true) (its.1 e (ap (slice_get plan.plugins) (sym its.0) ∙ at)) dead))
      rooted q e at (inr more) = inr more

  -- no plug-in of the plan is this one
  unknown : (vm p : ℕ) (room : Room) → may_root vm p room.hub.contexts ≡ false → IsSound plan (Its vm p) room → Known room
  unknown vm p room may s =
      let r = s.holds.2 in
      record {
        contexts = s.contexts;
        holds = (
          s.holds.0,
          s.holds.1,
          record { drawn = r.drawn; of_jobs = r.of_jobs; of_waits = r.of_waits; ordered = r.ordered; begun = r.begun; no_line = r.no_line; each = λ b q e at. rooted q e at (r.each b q e at) },
        );
      }
    where
      table : (e : PluginEntry) → slice_get plan.plugins p ≡ Some e → may_root e.vm p room.hub.contexts ≡ true
      table e at = (rebased plan (Its vm p) room s).2.drawn.table p e at

      rooted : (q : ℕ) (e : PluginEntry) → slice_get plan.plugins q ≡ Some e → Its vm p q ⊎ ((is_dead e.vm room ≡ true) ⊎ (RootStands s.contexts q e.vm ⊎ HasRoot q e.vm (todo room)))
          → ⊥ ⊎ ((is_dead e.vm room ≡ true) ⊎ (RootStands s.contexts q e.vm ⊎ HasRoot q e.vm (todo room)))
      rooted q e at (inl its) =
          (let there : slice_get plan.plugins p ≡ Some e = ap (slice_get plan.plugins) (sym its.0) ∙ at in
          absurd (never (may_root vm p room.hub.contexts) may (ap (λ (w : ℕ). may_root w p room.hub.contexts) (its.1 e there) ∙ table e there)))
      rooted q e at (inr more) = inr more

  its_vm : (vm p : ℕ) (h : Contexts) → AreDrawn plan h → may_root vm p h ≡ true → (q : ℕ) (e : PluginEntry) → slice_get plan.plugins q ≡ Some e → q ≡ p → vm ≡ e.vm
  its_vm vm p h d may q e at same = sym (eqb-true (plugin_in h p).vm vm (both_true _ _ may).1) ∙ vm_of h d p e (ap (slice_get plan.plugins) (sym same) ∙ at)

  its_stands : (vm p : ℕ) (h : Contexts) → AreDrawn plan h → may_root vm p h ≡ true → (q : ℕ) (e : PluginEntry) → vm ≡ e.vm → q ≡ p → RootStands (root_created vm p h) q e.vm
  its_stands vm p h d may q e its same =
      subst (λ (n : ℕ). RootStands (root_created vm p h) n e.vm) (sym same) (subst (λ (w : ℕ). RootStands (root_created vm p h) p w) its (root_made plan vm p h d may))

  made_but : (vm p : ℕ) (h : Contexts) (room : Room) → may_root vm p h ≡ true → SoundBut plan (Its vm p) h room → SoundBut plan Nobody (root_created vm p h) (with_contexts (root_created vm p h) room)
  made_but vm p h room may here =
      let r = here.2 in
      let moves : Moves h (root_created vm p h) = root_item plan vm p h r.drawn may in (
        each_moves h (root_created vm p h) moves room.lines here.0,
        same_itself (root_created vm p h),
        record {
          drawn = root_drawn plan vm p h r.drawn may;
          of_jobs = jobs_move h (root_created vm p h) moves (todo room) r.of_jobs;
          of_waits = waits_move h (root_created vm p h) moves room.waits r.of_waits;
          ordered = r.ordered;
          begun = r.begun;
          no_line = r.no_line;
          each = λ b q e at. rooted q e at (r.each b q e at);
        },
      )
    where
      rooted : (q : ℕ) (e : PluginEntry) → slice_get plan.plugins q ≡ Some e → Its vm p q ⊎ ((is_dead e.vm room ≡ true) ⊎ (RootStands h q e.vm ⊎ HasRoot q e.vm (todo room)))
          → ⊥ ⊎ ((is_dead e.vm room ≡ true) ⊎ (RootStands (root_created vm p h) q e.vm ⊎ HasRoot q e.vm (todo room)))
      rooted q e at (inl its) = inr (inr (inl (its_stands vm p h here.2.drawn may q e (its_vm vm p h here.2.drawn may q e at its.0) its.0)))
      rooted q e at (inr (inl dead)) = inr (inl dead)
      rooted q e at (inr (inr (inl old))) =
          inr (inr (inl (⊎_elim (λ (same : q ≡ p). its_stands vm p h here.2.drawn may q e (its_vm vm p h here.2.drawn may q e at same) same)
          (λ (apart : q ≡ p → ⊥). root_kept plan vm p h here.2.drawn may q e.vm apart old) (cases_eq q p))))
      rooted q e at (inr (inr (inr has))) = inr (inr (inr has))

  made_root : (vm p : ℕ) (first : Bool) (room : Room) → may_root vm p room.hub.contexts ≡ true → IsSound plan (Its vm p) room → room.is_begun ≡ true
      → Known (with_jobs_first (root_jobs vm (next_id room.hub.contexts vm) p first) (with_contexts (root_created vm p room.hub.contexts) room))
  made_root vm p first room may s begun =
      let h : Contexts = room.hub.contexts in
      let k : Contexts = root_created vm p h in
      let front : List Job = root_jobs vm (next_id h vm) p first in
      record {
        contexts = k;
        holds = good.fronted plan k front (with_contexts k room) (good.all_other plan front (roots_bare vm (next_id h vm) p first)) (good.all_of plan k front (roots_bare vm (next_id h vm) p first))
            (made_but vm p h room may (rebased plan (Its vm p) room s)) begun;
      }

  root_none : (vm p : ℕ) (room : Room) → IsSound plan (Its vm p) room → (a b : Bool) → is_dead vm room ≡ a → may_root vm p room.hub.contexts ≡ b → (a || not b) ≡ true → Known room
  root_none vm p room s true b dead may is = settled vm p room dead s
  root_none vm p room s false true dead may is = absurd (cc is)
  root_none vm p room s false false dead may is = unknown vm p room may s

  pub root : (vm p : ℕ) (first : Bool) (room : Room) → Known (holding (jobs.Root vm p first) room) → Known (create_root vm p first room).1
  root vm p first room s =
      let g : IsSound plan (Its vm p) room × (room.is_begun ≡ true) = spared vm p first room s in
      by_ended KnownThere (is_dead vm room || not (may_root vm p room.hub.contexts)) (None, room) _
      (λ none. root_none vm p room g.0 (is_dead vm room) (may_root vm p room.hub.contexts) refl refl none)
      (λ fine.
      pick KnownThere (is_drawn_out vm room.hub.contexts) (None, lose_vm_in vm deaths.Ids room) _
      (settled vm p (lose_vm_in vm deaths.Ids room) (now_dead vm room.dead) ((sound_calm plan (Its vm p)).dies vm deaths.Ids room g.0))
      (made_root vm p first room (may_of (is_dead vm room) (may_root vm p room.hub.contexts) fine) g.0 g.1))
