-- What comes of callbacks of HTTP is what worker_model says.
use Rattle.std.proofs.Common.{◌≡◌, ℕ, Bool, true, false, refl}
use Rattle.std.specs.Prelude.{Option, None, Some}
use Rattle.callouts.specs.Callouts.{callout_in}
use Rattle.callouts.specs.declared.types.Callout.{Callout}
use Rattle.callouts.specs.declared.types.CallStep.{CallStep}
use Rattle.callouts.specs.declared.types.CallStep.TheVariants as steps
use Rattle.filter_host.specs.Called.{Calling}
use Rattle.filter_host.specs.declared.host.Callback.{Callback}
use Rattle.filter_host.specs.declared.host.Death.{Death}
use Rattle.worker_model.specs.Room.{Room}
use Rattle.worker_model.specs.Rooms.{lose_vm_in, take_callback_end}
use Rattle.worker_model.specs.Steps as http
use Rattle.worker_model.specs.declared.types.ContextAt.{ContextAt}
use Rattle.worker_model.specs.declared.types.NewContext.{NewContext}
use Rattle.worker_model.specs.declared.types.Owner.{Owner}
use Rattle.streams_model.specs.Callbacks.{unless_zero, called_in, called_live, calls_live, tells, starts, finishes, forgets, made_one, ticks, tells_ready, ends_call, works_call}

unless_is : (vm : ℕ) (death : Death) (value : Option (Option ℕ)) (room : Room) → unless_zero lose_vm_in vm death value room ≡ http.unless_zero vm death value room
unless_is vm death None room = refl
unless_is vm death (Some value) room = refl

module _ {H : Type 0} (calling : Calling H) where
  pub called_is : (vm : ℕ) (name : Callback) (context first second : ℕ) (own : Owner) (host : H) (room : Room)
      → called_in take_callback_end calling vm name context first second own host room ≡ http.called_in calling vm name context first second own host room
  called_is vm name context first second own host room = refl

  pub live_is : (vm : ℕ) (name : Callback) (context first second : ℕ) (host : H) (room : Room)
      → called_live take_callback_end calling vm name context first second host room ≡ http.called_live calling vm name context first second host room
  live_is vm name context first second host room = refl

  pub tells_is : (vm : ℕ) (name : Callback) (context first : ℕ) (host : H) (room : Room)
      → tells take_callback_end calling vm name context first host room ≡ http.tells calling vm name context first host room
  tells_is vm name context first host room = refl

  pub starts_is : (vm : ℕ) (name : Callback) (root size : ℕ) (death : Death) (host : H) (room : Room)
      → starts take_callback_end calling lose_vm_in vm name root size death host room ≡ http.starts calling vm name root size death host room
  starts_is vm name root size death host room = λ i. calls_live take_callback_end calling vm name root size 0 (λ value r. unless_is vm death value r i) host room

  pub finishes_is : (c : ContextAt) (host : H) (room : Room) → finishes take_callback_end calling c host room ≡ http.finishes calling c host room
  finishes_is c host room = refl

  pub forgets_is : (c : ContextAt) (host : H) (room : Room) → forgets take_callback_end calling c host room ≡ http.forgets calling c host room
  forgets_is c host room = refl

  pub made_is : (c : Option NewContext) (host : H) (room : Room) → made_one take_callback_end calling c host room ≡ http.made_one calling c host room
  made_is None host room = refl
  made_is (Some c) host room = refl

  pub ticks_is : (vm root : ℕ) (host : H) (room : Room) → ticks take_callback_end calling vm root host room ≡ http.ticks calling vm root host room
  ticks_is vm root host room = refl

  pub ready_is : (vm root queue : ℕ) (host : H) (room : Room) → tells_ready take_callback_end calling vm root queue host room ≡ http.tells_ready calling vm root queue host room
  ready_is vm root queue host room = refl

  ends_is : (is_answered : Bool) (id : ℕ) (c : Option Callout) (host : H) (room : Room)
      → ends_call take_callback_end calling is_answered id c host room ≡ http.ends_call calling is_answered id c host room
  ends_is is_answered id None host room = refl
  ends_is is_answered id (Some c) host room = refl

  pub works_is : (step : CallStep) (host : H) (room : Room) → works_call take_callback_end calling step host room ≡ http.works_call calling step host room
  works_is (steps.Comes what) host room = refl
  works_is (steps.Read id) host room = refl
  works_is (steps.Fail id) host room = ends_is false id (callout_in id room.calls) host room
  works_is (steps.Answer id) host room = ends_is true id (callout_in id room.calls) host room
