-- What the world is asked for is what the worker wants.
use Rattle.std.proofs.Common.{◌≡◌, ℕ, List, [], ◌∷◌, ◌++◌, map, refl, ap, sym, ◌∙◌}
use Rattle.std.proofs.lemmas.List.{append-nil}
use Rattle.std.specs.Prelude.{Result, Ok, Err, OnOk}
use Rattle.callouts.specs.declared.types.Callout.{Callout}
use Rattle.gate_io.specs.declared.event.Sent.{Sent}
use Rattle.gate_io.specs.declared.event.Side.TheVariants.{Down, Up}
use Rattle.gate_io.specs.declared.passed.Wants.{Wants}
use Rattle.worker_lines.proofs.Wished.{wished_down, wished_up}
use Rattle.worker_lines.specs.Wishes.{wish_of, lines_with}
use Rattle.worker_model.specs.Plan.{Plan}
use Rattle.worker_model.specs.Room.{Room}
use Rattle.worker_model.specs.Wants.{wanted_of, call_lines, wants_of, due_in}
use Rattle.streams_model.proofs.Http.{wants_alike}
use Rattle.streams_model.specs.Wants.{down_of, up_of, down_among, up_among, wants_for}
use Rattle.worker_model.specs.declared.types.Line.{Line}
use Rattle.worker_model.specs.declared.types.TcpLine.{TcpLine}

-- where no callout is under way, there are no lines of callouts
no_calls : (up : List ℕ) (room : Room) → room.calls ≡ [] → up ≡ up ++ call_lines room.calls
no_calls up room none = sym (append-nil up) ∙ ap (λ (calls : List Callout). up ++ call_lines calls) (sym none)

-- what is kept is what the worker wants, where nothing waits and no callout is under way
pub asked_is : (plan : Plan) (room : Room) (waiting : List Sent) (lines : List Line) (wants : Wants) → lines ≡ room.lines → waiting ≡ [] → room.calls ≡ []
    → wants.down ≡ lines_with (λ w. w.down) (map wish_of lines) → wants.up ≡ lines_with (λ w. w.up) (map wish_of lines) → wants.due ≡ due_in plan room → wants ≡ wants_of plan room waiting
asked_is plan room waiting lines wants same none quiet down_is up_is due_is =
    let down = down_is ∙ wished_down (map wish_of lines) waiting lines none refl ∙ ap (λ (ls : List Line). wanted_of Down waiting ls) same in
    let up = up_is ∙ wished_up (map wish_of lines) waiting lines none refl ∙ ap (λ (ls : List Line). wanted_of Up waiting ls) same
    ∙ no_calls (wanted_of Up waiting room.lines) room quiet in
    λ i. record { down = down i; up = up i; due = due_is i }

-- the same by a plan without streams
pub asked_for : (plan : Plan) (room : Room) (waiting : List Sent) (lines : List Line) (wants : Wants) → plan.tcp ≡ [] → lines ≡ room.lines → waiting ≡ [] → room.calls ≡ []
    → wants.down ≡ lines_with (λ w. w.down) (map wish_of lines) → wants.up ≡ lines_with (λ w. w.up) (map wish_of lines) → wants.due ≡ due_in plan room → wants ≡ wants_for plan room waiting
asked_for plan room waiting lines wants http same none quiet down_is up_is due_is =
    asked_is plan room waiting lines wants same none quiet down_is up_is due_is ∙ sym (wants_alike plan room waiting http)

-- what is looked up is what the worker wants
pub looked_is : (plan : Plan) (room : Room) (waiting : List Sent) (wants : Wants)
    → wants.down ≡ down_among plan.tcp waiting room → wants.up ≡ up_among plan.tcp waiting room ++ call_lines room.calls → wants.due ≡ due_in plan room → wants ≡ wants_for plan room waiting
looked_is plan room waiting wants down_is up_is due_is = λ i. record { down = down_is i; up = up_is i; due = due_is i }

-- the same of a list that is this one
pub ok_also : {C E A : Type 0} (r : Result C E) (a b c : A) → b ≡ c → OnOk r (a ≡ b) → OnOk r (a ≡ c)
ok_also (Ok x) a b c same is = is ∙ same
ok_also (Err e) a b c same is = is

-- where the list of plug-ins of streams is empty
pub down_http : (ts : List ℕ) (waiting : List Sent) (room : Room) (lines : List Line) → lines ≡ room.lines → ts ≡ [] → wanted_of Down waiting lines ≡ down_among ts waiting room
down_http ts waiting room lines same none = ap (λ (x : List Line). wanted_of Down waiting x) same ∙ sym (ap (λ (x : List ℕ). down_among x waiting room) none)

pub up_http : (ts : List ℕ) (waiting : List Sent) (room : Room) (lines : List Line) → lines ≡ room.lines → ts ≡ [] → wanted_of Up waiting lines ≡ up_among ts waiting room
up_http ts waiting room lines same none = ap (λ (x : List Line). wanted_of Up waiting x) same ∙ sym (ap (λ (x : List ℕ). up_among x waiting room) none)

-- where it is not
pub down_streams : (ts : List ℕ) (waiting : List Sent) (room : Room) (lines : List TcpLine) → lines ≡ room.tcp → (ts ≡ [] → ⊥) → down_of waiting lines ≡ down_among ts waiting room
down_streams [] waiting room lines same some = absurd (some refl)
down_streams (p ∷ ps) waiting room lines same some = ap (λ (x : List TcpLine). down_of waiting x) same

pub up_streams : (ts : List ℕ) (waiting : List Sent) (room : Room) (lines : List TcpLine) → lines ≡ room.tcp → (ts ≡ [] → ⊥) → up_of waiting lines ≡ up_among ts waiting room
up_streams [] waiting room lines same some = absurd (some refl)
up_streams (p ∷ ps) waiting room lines same some = ap (λ (x : List TcpLine). up_of waiting x) same
