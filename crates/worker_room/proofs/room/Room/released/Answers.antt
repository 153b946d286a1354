use Rattle.std.proofs.Common.{◌≡◌, length, refl, sym, ◌∙◌, ap, arith, Some}
use Rattle.std.specs.Prelude.{position, slice_get}
use Rattle.std.proofs.lemmas.Option.{slice_get_read}
use Rattle.worker_model.specs.Room.{Room}
use Rattle.worker_model.specs.Rooms.{is_released}
use Rattle.worker_lines.proofs.Firsts.{first_is, none_is, fails_more}
use Rattle.worker_room.proofs.room.Room.released.Goals as goal

pub returns-then-is_released : goal.returns-then-is_released
returns-then-is_released c =
    let waits = c.as_slice-waits.result.now in
    let at = c.loop-at.at in
    let of = c.index-waits-at.result in
    let there : slice_get waits at ≡ Some of = slice_get_read waits (length waits) at of refl c.loop-at-test.true (cc) in
    let found = first_is (is_released c.args.self.now) waits at of c.loop-at.invariant there (sym c.is_released.ensures ∙ c.if-is_released.true) in
    sym found ∙ ap (position (is_released c.args.self.now)) c.as_slice-waits.ensures ∙ ap (λ (room : Room). position (is_released c.args.self.now) room.waits) c.self.view_is

pub loop-at-preserved : goal.loop-at-preserved
loop-at-preserved c =
    let waits = c.as_slice-waits.result.now in
    let at = c.loop-at.at in
    let of = c.index-waits-at.result in
    let there : slice_get waits at ≡ Some of = slice_get_read waits (length waits) at of refl c.loop-at-test.true (cc) in
    fails_more (is_released c.args.self.now) waits at of c.loop-at.invariant there (sym c.is_released.ensures ∙ c.if-is_released.false)

pub returns : goal.returns
returns c =
    let waits = c.as_slice-waits.result.now in
    let found = none_is (is_released c.args.self.now) waits (λ k x less there. c.loop-at.invariant k x (omega (arith, less, c.loop-at-test.false)) there) in
    sym found ∙ ap (position (is_released c.args.self.now)) c.as_slice-waits.ensures ∙ ap (λ (room : Room). position (is_released c.args.self.now) room.waits) c.self.view_is
