-- Steps of a worker of streams, one after another, until everything is at rest.
use Rattle.std.specs.Prelude.{◌≡◌, true, false, ℕ, zero, suc, refl}
use Rattle.std.proofs.Common.{ap, ◌∙◌}
use Rattle.filter_host.specs.Course.{Course, ends, then_do}
use Rattle.filter_host.specs.Called.{Calling}
use Rattle.worker_model.specs.Room.{Room}
use Rattle.worker_model.specs.declared.types.Next.{Next}
use Rattle.worker_model.specs.declared.types.Next.TheVariants.{Read, Move, Work, Free, End, Begin, Rest}
use Rattle.worker_model.specs.Plan.{Plan}
use Rattle.streams_model.specs.Rooms.{next_of}
use Rattle.worker_model.specs.Settling.{is_rest}
use Rattle.worker_model.specs.Steps.{Both, both}
use Rattle.streams_model.specs.Steps.{step}

module _ {H : Type 0} (calling : Calling H) (plan : Plan) where
  -- one step, and then what comes later; nothing at rest
  abbrev pub goes : Next → (H → Room → Course (Both H)) → H → Room → Course (Both H)
  goes Read later host room = then_do (step calling plan Read host room) (λ b. later b.host b.room)
  goes (Move place) later host room = then_do (step calling plan (Move place) host room) (λ b. later b.host b.room)
  goes Work later host room = then_do (step calling plan Work host room) (λ b. later b.host b.room)
  goes (Free at) later host room = then_do (step calling plan (Free at) host room) (λ b. later b.host b.room)
  goes (End place) later host room = then_do (step calling plan (End place) host room) (λ b. later b.host b.room)
  goes Begin later host room = then_do (step calling plan Begin host room) (λ b. later b.host b.room)
  goes Rest later host room = ends (both host room)

  -- AT MOST SO MANY STEPS, until all is at rest
  unfoldable pub settling : ℕ → H → Room → Course (Both H)
  settling zero host room = ends (both host room)
  settling (suc n) host room = goes (next_of room) (λ h r. settling n h r) host room

  pub settling_more : (n : ℕ) (host : H) (room : Room) → settling (suc n) host room ≡ goes (next_of room) (λ h r. settling n h r) host room
  unfolding settling
  settling_more n host room = refl

  -- one step of a settling that is not at rest
  pub settling_step : (n : ℕ) (next : Next) (host : H) (room : Room) → next_of room ≡ next → is_rest next ≡ false
      → settling (suc n) host room ≡ then_do (step calling plan next host room) (λ b. settling n b.host b.room)
  settling_step n next host room is goes_on = settling_more n host room ∙ (ap (λ (x : Next). goes x (λ h r. settling n h r) host room) is ∙ opened next goes_on)
    where
      opened : (next : Next) → is_rest next ≡ false → goes next (λ h r. settling n h r) host room ≡ then_do (step calling plan next host room) (λ b. settling n b.host b.room)
      opened Read goes_on = refl
      opened (Move place) goes_on = refl
      opened Work goes_on = refl
      opened (Free at) goes_on = refl
      opened (End place) goes_on = refl
      opened Begin goes_on = refl
      opened Rest goes_on = absurd (cc)

  pub settling_rest : (n : ℕ) (next : Next) (host : H) (room : Room) → next_of room ≡ next → is_rest next ≡ true → settling (suc n) host room ≡ ends (both host room)
  settling_rest n next host room is at_rest = settling_more n host room ∙ (ap (λ (x : Next). goes x (λ h r. settling n h r) host room) is ∙ closed next at_rest)
    where
      closed : (next : Next) → is_rest next ≡ true → goes next (λ h r. settling n h r) host room ≡ ends (both host room)
      closed Read at_rest = absurd (cc)
      closed (Move place) at_rest = absurd (cc)
      closed Work at_rest = absurd (cc)
      closed (Free at) at_rest = absurd (cc)
      closed (End place) at_rest = absurd (cc)
      closed Begin at_rest = absurd (cc)
      closed Rest at_rest = refl

  pub settling_none : (host : H) (room : Room) → settling 0 host room ≡ ends (both host room)
  unfolding settling
  settling_none host room = refl
