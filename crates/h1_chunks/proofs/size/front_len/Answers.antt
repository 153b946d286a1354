use Rattle.std.proofs.Common.{◌≡◌, ℕ, List, length, take, subst, arith}
use Rattle.std.proofs.lemmas.List.{length-take, take_all}
use Rattle.h1_model.specs.Chunks.{front_of}
use Rattle.h1_chunks.proofs.Sizes.{front_found, front_all, front_long}
use Rattle.h1_chunks.proofs.size.front_len.Goals as goal

pub returns-in-Some : goal.returns-in-Some
returns-in-Some c =
    let text = c.args.text.now in
    let n = c.min.result in
    let found = c.in-Some.ensures in
    let len = length-take n text in (
      omega (arith, len, found.0.high),
      front_found text n c.in-Some.at found.0.high found.1 (λ k lt. found.0.before k (omega arith) lt),
      omega (arith, len, found.0.high, c.min.ensures),
    )

pub returns-in-None : goal.returns-in-None
returns-in-None c =
    let text = c.args.text.now in
    let n = c.min.result in
    let len = length-take n text in
    let whole : take n text ≡ text = take_all n text (omega (arith, len, c.min.ensures, c.if-window.true)) in (
      omega (arith, len),
      subst (λ (t : List ℕ). front_of t ≡ take (length (take n text)) t) whole (front_all (take n text) (λ k lt. c.in-None.ensures k (omega arith) lt)),
      omega (arith, c.if-window.true),
    )

pub returns-in-None-2 : goal.returns-in-None-2
returns-in-None-2 c =
    let text = c.args.text.now in
    let n = c.min.result in
    omega (
      arith,
      length-take n text,
      c.min.ensures,
      c.if-window.false,
      front_long text n (λ k lt. c.in-None.ensures k (omega arith) lt),
    )
