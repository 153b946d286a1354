use Rattle.std.proofs.Common.{◌≡◌, ◌<◌, ◌∙◌, inl, inr, true, false, List, None, length, slice_index_or, HoldsAt, refl, sym, subst, ap}
use Rattle.std.specs.Prelude.{◌==◌}
use Rattle.std.specs.List.{position}
use Rattle.live_lines.specs.declared.line.SocketPair.{SocketPair}
use Rattle.live_sockets.specs.Notices.{begins_answer, begins_bad_gateway}
use Rattle.live_sockets.proofs.Noticed.{begins_at}
use Rattle.live_sockets.proofs.sockets.Sockets.note_answer.Goals as goal

pub returns-then-begins_answer-clause-noted : goal.returns-then-begins_answer-clause-noted
returns-then-begins_answer-clause-noted g c =
    let P : Type 0 = g.row.P.Denot in let lines = c.args.self.now.lines.items in let at = c.in-Some.at in let line = c.index.result.now in
    let same : c.deref.result.now ≡ lines = (let h = c.deref.ensures.value in cc) in
    let found = subst (λ (ls : List (SocketPair P)). HoldsAt (λ (l : SocketPair P). l.number ≡ c.args.number) ls at) same c.in-Some.ensures.found in
    let inside : at < length lines = subst (λ (ls : List (SocketPair P)). at < length ls) same c.in-Some.ensures.within in
    let is : slice_index_or lines at line ≡ line = sym c.index.ensures in
    let one : begins_answer line ≡ true = sym c.begins_answer.ensures ∙ c.if-begins_answer.true in
    let begins : begins_bad_gateway c.args.bytes.now ≡ true = sym c.begins_bad_gateway.ensures ∙ c.if-not-begins_bad_gateway.false in
    inl (ap (λ n. n.counts) c.note.ensures, (begins, begins_at lines c.args.number at line true inside is found one))

pub returns-else-begins_answer-clause-noted : goal.returns-else-begins_answer-clause-noted
returns-else-begins_answer-clause-noted g c =
    let P : Type 0 = g.row.P.Denot in let lines = c.args.self.now.lines.items in let at = c.in-Some.at in let line = c.index.result.now in
    let same : c.deref.result.now ≡ lines = (let h = c.deref.ensures.value in cc) in
    let found = subst (λ (ls : List (SocketPair P)). HoldsAt (λ (l : SocketPair P). l.number ≡ c.args.number) ls at) same c.in-Some.ensures.found in
    let inside : at < length lines = subst (λ (ls : List (SocketPair P)). at < length ls) same c.in-Some.ensures.within in
    let is : slice_index_or lines at line ≡ line = sym c.index.ensures in
    let one : begins_answer line ≡ false = sym c.begins_answer.ensures ∙ c.if-begins_answer.false in
    inr (refl, inr (inr (begins_at lines c.args.number at line false inside is found one)))

pub returns-in_default-clause-noted : goal.returns-in_default-clause-noted
returns-in_default-clause-noted g c =
    let P : Type 0 = g.row.P.Denot in
    let same : c.deref.result.now ≡ c.args.self.now.lines.items = (let h = c.deref.ensures.value in cc) in
    inr (refl, inr (inl (subst (λ (ls : List (SocketPair P)). position (λ (line : SocketPair P). line.number == c.args.number) ls ≡ None) same c.in_default.ensures.none)))
