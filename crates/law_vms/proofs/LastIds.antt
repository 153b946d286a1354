-- Ids are drawn up to the greatest.
use Rattle.std.proofs.Common.{◌≡◌, ◌<◌, ℕ, ◌+◌, ◌==◌, Bool, true, false, not, ◌||◌, ◌&&◌, if◌then◌else◌, Option, None, Some, refl, ap, ◌∙◌, arith, nat_lt, nat_le, length, ne_eqb, eq-eqb}
use Rattle.std.proofs.lemmas.Bool.{ltb-true}
use Rattle.std.proofs.lemmas.List.{get_or-set_same}
use Rattle.std.specs.Prelude.{slice_set}
use Rattle.contexts.specs.declared.parts.Context.{Context}
use Rattle.contexts.specs.declared.parts.Contexts.{Contexts}
use Rattle.contexts.specs.declared.parts.VmContexts.{VmContexts}
use Rattle.contexts.specs.Creating.{next_id, with_context, root_context, stream_context, root_created, plugin_at, open_place, plugin_in, is_root}
use Rattle.contexts.specs.Reached.{vm_in, no_vm, context_in}
use Rattle.filter_host.specs.declared.host.Death.TheVariants as deaths
use Rattle.exchange.specs.declared.types.Filter.{Filter}
use Rattle.law_vms.proofs.OwnChanges.{both_left}
use Rattle.law_vms.specs.LastIds.{last_of, greatest, IdsRunOut, LastIdExamples}
use Rattle.worker_model.specs.Room.{Room}
use Rattle.worker_model.specs.declared.types.NewContext.{NewContext}
use Rattle.worker_model.specs.Rooms.{is_dead, lose_vm_in, with_contexts}
use Rattle.worker_model.specs.Steps.{is_drawn_out, may_root, may_stream, new_one, root_jobs, with_jobs_first, create_root, with_stream, create_stream}

abbrev Making : Type 0
Making = Option NewContext × Room

-- which of the three it is
abbrev one_of : (dead may out : Bool) → (nothing gone made : Making) → Making
one_of dead may out nothing gone made = if dead || not may then nothing else if out then gone else made

is_made : (dead may out : Bool) (nothing gone made : Making) → dead ≡ false → may ≡ true → out ≡ false → one_of dead may out nothing gone made ≡ made
is_made dead may out nothing gone made lives is left =
    ap (λ d. one_of d may out nothing gone made) lives ∙ ap (λ m. one_of false m out nothing gone made) is ∙ ap (λ o. one_of false true o nothing gone made) left

is_gone : (dead may out : Bool) (nothing gone made : Making) → dead ≡ false → may ≡ true → out ≡ true → one_of dead may out nothing gone made ≡ gone
is_gone dead may out nothing gone made lives is left =
    ap (λ d. one_of d may out nothing gone made) lives ∙ ap (λ m. one_of false m out nothing gone made) is ∙ ap (λ o. one_of false true o nothing gone made) left

not_out : (n : ℕ) → n < greatest → (n == greatest) ≡ false
not_out n less = ne_eqb n greatest (λ same. (let s = same in omega (arith, s, less)))

out : (n : ℕ) → n ≡ greatest → (n == greatest) ≡ true
out n is = eq-eqb n greatest is

drawn : (h : Contexts) (vm : ℕ) (c : Context) → vm < length h.vms → c.id ≡ (vm_in h vm).last + 1
    → (vm_in (record h { vms = slice_set h.vms vm (with_context c (vm_in h vm)) }) vm).last ≡ (vm_in h vm).last + 1
drawn h vm c there is = ap (λ (w : VmContexts). w.last) (get_or-set_same h.vms vm (with_context c (vm_in h vm)) no_vm there) ∙ is

root_there : (vm plugin : ℕ) (h : Contexts) → may_root vm plugin h ≡ true → vm < length h.vms
root_there vm plugin h may =
    let a = nat_lt vm (length h.vms) in
    let b = nat_le plugin 65535 in
    let c = nat_lt plugin (length h.plugins) in
    ltb-true vm (length h.vms) (both_left a b (both_left (a && b) c (both_left ((a && b) && c) ((plugin_in h plugin).vm == vm) may)))

stream_there : (vm id : ℕ) (h : Contexts) → may_stream vm id h ≡ true → vm < length h.vms
stream_there vm id h may = ltb-true vm (length h.vms) (both_left (nat_lt vm (length h.vms)) (is_root h vm id) may)

root_made : (vm plugin : ℕ) (first : Bool) (room : Room) → Making
root_made vm plugin first room = (
  Some (new_one vm (next_id room.hub.contexts vm) 0),
  with_jobs_first (root_jobs vm (next_id room.hub.contexts vm) plugin first) (with_contexts (root_created vm plugin room.hub.contexts) room),
)

rooted : (vm plugin : ℕ) (first : Bool) (room : Room) → is_dead vm room ≡ false → may_root vm plugin room.hub.contexts ≡ true → last_of vm room < greatest
    → ((create_root vm plugin first room).0 ≡ Some (new_one vm (last_of vm room + 1) 0)) × (last_of vm (create_root vm plugin first room).1 ≡ last_of vm room + 1)
unfolding root_made
rooted vm plugin first room lives may left =
    let h = room.hub.contexts in
    let made : create_root vm plugin first room ≡ root_made vm plugin first room =
    is_made (is_dead vm room) (may_root vm plugin h) (is_drawn_out vm h) (None, room) (None, lose_vm_in vm deaths.Ids room) (root_made vm plugin first room) lives may (not_out (last_of vm room) left) in (
      ap (λ (m : Making). m.0) made,
      ap (λ (m : Making). last_of vm m.1) made ∙ drawn h vm (root_context (next_id h vm) plugin) (root_there vm plugin h may) refl,
    )

streamed : (number k id : ℕ) (f : Filter) (room : Room) → is_dead f.vm room ≡ false → may_stream f.vm id room.hub.contexts ≡ true → last_of f.vm room < greatest
    → ((create_stream number k f (Some id) room).0 ≡ Some (new_one f.vm (last_of f.vm room + 1) id)) × (last_of f.vm (create_stream number k f (Some id) room).1 ≡ last_of f.vm room + 1)
streamed number k id f room lives may left =
    let h = room.hub.contexts in
    let made : create_stream number k f (Some id) room ≡ with_stream number k f id room =
    is_made (is_dead f.vm room) (may_stream f.vm id h) (is_drawn_out f.vm h) (None, room) (None, lose_vm_in f.vm deaths.Ids room) (with_stream number k f id room) lives may (not_out (last_of f.vm room) left) in (
      ap (λ (m : Making). m.0) made,
      ap (λ (m : Making). last_of f.vm m.1) made
          ∙ drawn h f.vm (stream_context (next_id h f.vm) (plugin_at (context_in h f.vm id)) id (open_place number h.exchanges)) (stream_there f.vm id h may) refl,
    )

pub run_out : IdsRunOut
unfolding root_made
run_out = record {
  root = rooted;
  no_root = λ vm plugin first room lives may last.
      is_gone (is_dead vm room) (may_root vm plugin room.hub.contexts) (is_drawn_out vm room.hub.contexts) (None, room) (None, lose_vm_in vm deaths.Ids room) (root_made vm plugin first room) lives may (out (last_of vm room) last);
  stream = streamed;
  no_stream = λ number k id f room lives may last.
      is_gone (is_dead f.vm room) (may_stream f.vm id room.hub.contexts) (is_drawn_out f.vm room.hub.contexts) (None, room) (None, lose_vm_in f.vm deaths.Ids room) (with_stream number k f id room) lives may (out (last_of f.vm room) last);
}

pub last_examples : LastIdExamples
last_examples = record {
  root = refl;
  stream = refl;
  drawn = refl;
  no_root = refl;
  no_stream = refl;
  dead = refl;
  told = refl;
  once = refl;
  other = refl;
}
