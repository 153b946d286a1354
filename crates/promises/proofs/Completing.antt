-- Each status has its cause.
use Rattle.std.proofs.Common.{◌≡◌, ℕ, List, Option, None, Some, refl, subst, inl, inr}
use Rattle.commands.specs.Doing.{Obeys, serve_status}
use Rattle.commands.specs.Generated.{generate_status}
use Rattle.config_files.specs.Loading.{Told}
use Rattle.command_generate.specs.declared.running.GenerateEnd.{GenerateEnd}
use Rattle.command_generate.specs.declared.running.GenerateEnd.TheVariants as generating
use Rattle.command_serve.specs.Serving.{Eyes, Seen}
use Rattle.command_serve.specs.declared.running.ServeEnd.{ServeEnd}
use Rattle.command_serve.specs.declared.running.ServeEnd.TheVariants as serving
use Rattle.command_statuses.specs.declared.status.InvokeEnd.TheVariants.{Trap, FuelSpent}
use Rattle.command_statuses.specs.declared.status.Status.{Status}
use Rattle.command_statuses.specs.declared.status.Status.TheVariants.{Done, Usage, Config, Module, Refused, FileFault, SiteFault, OutFault, OutOfMemory, Script, Invoke}
use Rattle.command_words.specs.Forms.{Command, replay, replay_config, serve, check, invoke, generate, report}
use Rattle.promises.specs.Statuses.{Cause, StatusesAreComplete}

-- a status that neither serving nor the generator's load has
abbrev IsOther : Status → Type 0
IsOther Done = ⊥
IsOther Usage = Unit {0}
IsOther (Config number key) = Unit {0}
IsOther (Module vm fault) = Unit {0}
IsOther (Refused refusal) = Unit {0}
IsOther FileFault = ⊥
IsOther SiteFault = ⊥
IsOther OutFault = ⊥
IsOther OutOfMemory = ⊥
IsOther (Script line) = Unit {0}
IsOther (Invoke end) = Unit {0}

no_serve : (status : Status) (end : ServeEnd) → IsOther status → status ≡ serve_status end → ⊥
no_serve status serving.Done other is = subst IsOther is other
no_serve status serving.SiteFault other is = subst IsOther is other
no_serve status serving.OutFault other is = subst IsOther is other
no_serve status serving.OutOfMemory other is = subst IsOther is other

no_load : (status : Status) (end : GenerateEnd) → IsOther status → status ≡ generate_status end → ⊥
no_load status generating.Done other is = subst IsOther is other
no_load status generating.OutFault other is = subst IsOther is other
no_load status generating.OutOfMemory other is = subst IsOther is other

module _ {W : Type 0} (eyes : Eyes W) (files : Told) (site after : Seen W) (old new : Option (List ℕ)) (file of_site out : Type 0) where
  caused : (words : Option Command) (status : Status) → Obeys eyes files words status site after old new → (status ≡ FileFault → file) → (status ≡ SiteFault → of_site) → (status ≡ OutFault → out)
      → Cause files words file of_site out status
  unfolding Obeys
  caused words Done o f s w = tt
  caused words FileFault o f s w = f refl
  caused words SiteFault o f s w = s refl
  caused words OutFault o f s w = w refl
  caused words OutOfMemory o f s w = tt
  caused None Usage o f s w = refl
  caused None (Config number key) o f s w = absurd (cc o.1.0)
  caused None (Module vm fault) o f s w = absurd (cc o.1.0)
  caused None (Refused refusal) o f s w = absurd (cc o.1.0)
  caused None (Script line) o f s w = absurd (cc o.1.0)
  caused None (Invoke end) o f s w = absurd (cc o.1.0)
  caused (Some (replay script modules)) Usage (same, inl none) f s w = absurd none.0
  caused (Some (replay script modules)) Usage (same, inr (c, l, p)) f s w = absurd p
  caused (Some (replay script modules)) (Config number key) (same, inl none) f s w = absurd none.0
  caused (Some (replay script modules)) (Config number key) (same, inr (c, l, p)) f s w = absurd p
  caused (Some (replay script modules)) (Module vm fault) (same, inl none) f s w = inr (modules, refl, none.0)
  caused (Some (replay script modules)) (Module vm fault) (same, inr (c, l, p)) f s w = absurd p
  caused (Some (replay script modules)) (Refused refusal) (same, inl none) f s w = absurd none.0
  caused (Some (replay script modules)) (Refused refusal) (same, inr (c, l, p)) f s w = absurd p
  caused (Some (replay script modules)) (Script line) (same, inl none) f s w = absurd none.0
  caused (Some (replay script modules)) (Script line) (same, inr (c, l, p)) f s w = (script, refl, c.workers, p.0)
  caused (Some (replay script modules)) (Invoke end) (same, inl none) f s w = absurd none.0
  caused (Some (replay script modules)) (Invoke end) (same, inr (c, l, p)) f s w = absurd p
  caused (Some (replay_config config script)) Usage (same, inl none) f s w = absurd none.0
  caused (Some (replay_config config script)) Usage (same, inr (c, l, p)) f s w = absurd p
  caused (Some (replay_config config script)) (Config number key) (same, inl none) f s w = (config, refl, none.0)
  caused (Some (replay_config config script)) (Config number key) (same, inr (c, l, p)) f s w = absurd p
  caused (Some (replay_config config script)) (Module vm fault) (same, inl none) f s w = inl (config, refl, none.0)
  caused (Some (replay_config config script)) (Module vm fault) (same, inr (c, l, p)) f s w = absurd p
  caused (Some (replay_config config script)) (Refused refusal) (same, inl none) f s w = absurd none.0
  caused (Some (replay_config config script)) (Refused refusal) (same, inr (c, l, p)) f s w = absurd p
  caused (Some (replay_config config script)) (Script line) (same, inl none) f s w = absurd none.0
  caused (Some (replay_config config script)) (Script line) (same, inr (c, l, p)) f s w = (script, refl, c.workers, p.0)
  caused (Some (replay_config config script)) (Invoke end) (same, inl none) f s w = absurd none.0
  caused (Some (replay_config config script)) (Invoke end) (same, inr (c, l, p)) f s w = absurd p
  caused (Some (serve config stop_after)) Usage (inl none) f s w = absurd none.why
  caused (Some (serve config stop_after)) Usage (inr (c, l, h)) f s w = absurd (no_serve Usage h.end tt h.status_is)
  caused (Some (serve config stop_after)) (Config number key) (inl none) f s w = (config, refl, none.why)
  caused (Some (serve config stop_after)) (Config number key) (inr (c, l, h)) f s w = absurd (no_serve (Config number key) h.end tt h.status_is)
  caused (Some (serve config stop_after)) (Module vm fault) (inl none) f s w = inl (config, refl, none.why)
  caused (Some (serve config stop_after)) (Module vm fault) (inr (c, l, h)) f s w = absurd (no_serve (Module vm fault) h.end tt h.status_is)
  caused (Some (serve config stop_after)) (Refused refusal) (inl none) f s w = absurd none.why
  caused (Some (serve config stop_after)) (Refused refusal) (inr (c, l, h)) f s w = absurd (no_serve (Refused refusal) h.end tt h.status_is)
  caused (Some (serve config stop_after)) (Script line) (inl none) f s w = absurd none.why
  caused (Some (serve config stop_after)) (Script line) (inr (c, l, h)) f s w = absurd (no_serve (Script line) h.end tt h.status_is)
  caused (Some (serve config stop_after)) (Invoke end) (inl none) f s w = absurd none.why
  caused (Some (serve config stop_after)) (Invoke end) (inr (c, l, h)) f s w = absurd (no_serve (Invoke end) h.end tt h.status_is)
  caused (Some (check config)) Usage o f s w = absurd o.1
  caused (Some (check config)) (Config number key) o f s w = (config, refl, o.1.0)
  caused (Some (check config)) (Module vm fault) o f s w = inl (config, refl, o.1.0)
  caused (Some (check config)) (Refused refusal) o f s w = absurd o.1
  caused (Some (check config)) (Script line) o f s w = absurd o.1
  caused (Some (check config)) (Invoke end) o f s w = absurd o.1
  caused (Some (invoke path export arguments)) Usage o f s w = absurd o.1.may
  caused (Some (invoke path export arguments)) (Config number key) o f s w = absurd o.1.may
  caused (Some (invoke path export arguments)) (Module vm fault) o f s w = absurd o.1.may
  caused (Some (invoke path export arguments)) (Refused refusal) o f s w = λ text told. (o.1.called text told).0
  caused (Some (invoke path export arguments)) (Script line) o f s w = absurd o.1.may
  caused (Some (invoke path export arguments)) (Invoke (Trap cause)) o f s w = λ text told. (o.1.called text told).0
  caused (Some (invoke path export arguments)) (Invoke FuelSpent) o f s w = λ text told. (o.1.called text told).0
  caused (Some (generate n)) Usage o f s w = absurd (no_load Usage o.1.end tt o.1.status_is)
  caused (Some (generate n)) (Config number key) o f s w = absurd (no_load (Config number key) o.1.end tt o.1.status_is)
  caused (Some (generate n)) (Module vm fault) o f s w = absurd (no_load (Module vm fault) o.1.end tt o.1.status_is)
  caused (Some (generate n)) (Refused refusal) o f s w = absurd (no_load (Refused refusal) o.1.end tt o.1.status_is)
  caused (Some (generate n)) (Script line) o f s w = absurd (no_load (Script line) o.1.end tt o.1.status_is)
  caused (Some (generate n)) (Invoke end) o f s w = absurd (no_load (Invoke end) o.1.end tt o.1.status_is)
  caused (Some (report file)) Usage o f s w = absurd o.1.may
  caused (Some (report file)) (Config number key) o f s w = absurd o.1.may
  caused (Some (report file)) (Module vm fault) o f s w = absurd o.1.may
  caused (Some (report file)) (Refused refusal) o f s w = λ text told. (o.1.reported text told).0
  caused (Some (report file)) (Script line) o f s w = absurd o.1.may
  caused (Some (report file)) (Invoke end) o f s w = absurd o.1.may

pub statuses_are_complete : (W file of_site out : Type 0) → StatusesAreComplete W file of_site out
statuses_are_complete W file of_site out eyes files words status site after old new o f s w = caused eyes files site after old new file of_site out words status o f s w
