use Rattle.std.proofs.Common.{◌≡◌, Bool, false, not, ◌&&◌, Option, None, sym, subst, ◌∙◌}
use Rattle.std.proofs.lemmas.Result.{IfOk-weaker}
use Rattle.std.specs.Prelude.{Contains, IfSome, IfNone}
use Rattle.gate_io.specs.declared.event.Side.TheVariants.{Down, Up}
use Rattle.gate_io.specs.declared.event.What.{What}
use Rattle.live_lines.specs.Passing.{HeardOn}
use Rattle.live_lines.specs.Told.{IsHeardFrom}
use Rattle.live_lines.specs.Turns.{is_told_from, ClientIsSilent}
use Rattle.live_lines.specs.Waiting.{is_full}
use Rattle.live_lines.proofs.Hearing.{heard_more}
use Rattle.live_lines.proofs.Turns.{not_of_client, client_was_first}
use Rattle.live_lines.proofs.line.SocketPair.heard.Goals as goal

pub returns-clause-held : goal.returns-clause-held
returns-clause-held g c = c.heard_up-2.ensures.free (is_full c.args.self.now.up)

-- nothing is heard of the client, and then what is heard of the server
pub returns-clause-heard : goal.returns-clause-heard
returns-clause-heard g c =
    let gave = g.P.Duplex.gave in
    let took = g.P.Duplex.took in
    let old = c.args.self.now in
    let between = c.heard_down-2.new.self in
    let new = c.heard_up-2.new.self in
    let none : c.in_ok-told-2.field-0 ≡ None = cc in
    let first = subst (λ (told : Option What). HeardOn gave took old told between) none c.in_ok-told-2.ensures.heard in
    IfOk-weaker c.heard_up-2.result (λ told. HeardOn gave took between told new) (λ told. HeardOn gave took old told new) (λ told. heard_more gave took old between told new first) c.heard_up-2.ensures.heard

pub returns-clause-turn : goal.returns-clause-turn
returns-clause-turn g c =
    let old = c.args.self.now in
    let between = c.heard_down-2.new.self in
    let new = c.heard_up-2.new.self in
    let none : new.server_first ≡ false = c.heard_up-2.ensures.first ∙ c.heard_down-2.ensures.first ∙ c.if-self-2.false in
    λ _. IfOk-weaker c.heard_up-2.result (λ told. IfSome told (IsHeardFrom between.number Up)) (λ told. new.server_first ≡ (not old.server_first && is_told_from Down told))
    (λ told from. client_was_first old.server_first (is_told_from Down told) new.server_first c.if-self-2.false (none ∙ sym (not_of_client between.number told from))) c.heard_up-2.ensures.side

pub returns-clause-client : goal.returns-clause-client
returns-clause-client g c =
    let P : Type 0 = g.row.P.Denot in
    let ready = g.P.Duplex.ready in
    let reads = g.P.Duplex.reads in
    let old = c.args.self.now in
    let between = c.heard_down-2.new.self in
    let new = c.heard_up-2.new.self in
    let wanted : Type 0 = Contains c.args.wants.now.down old.number in
    let none : c.in_ok-told-2.field-0 ≡ None = cc in
    let there = subst (λ (told : Option What). IfNone told (ClientIsSilent ready reads ((c.is_full-is_full.result ≡ false) × wanted) old.down between.down)) none c.in_ok-told-2.ensures.silent in
    let full = subst (λ (b : Bool). ClientIsSilent ready reads ((b ≡ false) × wanted) old.down between.down) c.is_full-is_full.ensures there in
    let silent = subst (λ (d : Option P). ClientIsSilent ready reads ((is_full old.up ≡ false) × wanted) old.down d) (sym c.heard_up-2.ensures.down) full in
    λ _ _. IfOk-weaker c.heard_up-2.result (λ told. IfSome told (IsHeardFrom between.number Up)) (λ told. is_told_from Down told ≡ false → ClientIsSilent ready reads ((is_full old.up ≡ false) × wanted) old.down new.down)
    (λ told from _. silent) c.heard_up-2.ensures.side
