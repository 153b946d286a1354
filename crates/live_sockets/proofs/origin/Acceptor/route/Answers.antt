use Rattle.std.proofs.Common.{◌≡◌, ◌<◌, ◌+◌, ◌-◌, ◌∙◌, sym, ap, length, arith}
use Rattle.std.proofs.Math.Nat.{mod-lt}
use Rattle.live_sockets.specs.Numbers.{home_of}
use Rattle.live_sockets.proofs.Homes.{home_own, home_offered, offers_set}
use Rattle.live_sockets.proofs.origin.Acceptor.route.Goals as goal

pub returns-then-place-eq0-clause-offered : goal.returns-then-place-eq0-clause-offered
returns-then-place-eq0-clause-offered g c = λ last low h. home_own last c.args.guest.number c.args.self.now.others.items (omega arith) h

pub returns-clause-offered : goal.returns-clause-offered
returns-clause-offered g c = λ last low h.
    let others = c.args.self.now.others.items in let n = c.index_mut.result.now in let m = c.hand.new.self in let place = c.home_of-place.result in let number = c.args.guest.number in
    let one : place - 1 + 1 ≡ place = let z = c.if-place-eq0.false in omega arith in
    let all : c.len.result ≡ length others = let len = c.len.ensures in let ok = c.args.self.now.others.ok.0 in omega arith in
    let is : place ≡ home_of number (length others) = c.home_of-place.ensures ∙ ap (home_of number) all in
    let below : home_of number (length others) < length others + 1 = mod-lt (number - 1) (omega arith) in
    let inside : place - 1 < length others = omega arith in
    home_offered last number (place - 1) others n m (omega arith) inside (sym c.index_mut.ensures.value) (sym is ∙ sym one) c.hand.ensures.gains h

pub returns-clause-given : goal.returns-clause-given
returns-clause-given g c =
    let others = c.args.self.now.others.items in let place = c.home_of-place.result in let number = c.args.guest.number in
    let all : c.len.result ≡ length others = let len = c.len.ensures in let ok = c.args.self.now.others.ok.0 in omega arith in
    let is : place ≡ home_of number (length others) = c.home_of-place.ensures ∙ ap (home_of number) all in
    let below : home_of number (length others) < length others + 1 = mod-lt (number - 1) (omega arith) in
    let one : place - 1 + 1 ≡ place = let z = c.if-place-eq0.false in omega arith in
    offers_set (place - 1) number others c.index_mut.result.now c.hand.new.self (omega arith) (sym c.index_mut.ensures.value) c.hand.ensures.offered
