use Rattle.std.proofs.Common.{◌≡◌, Bool, false, true, length, ap, sym, ◌∙◌, arith}
use Rattle.std.specs.Prelude.{◌&&◌, bytes_eq}
use Rattle.http_header.specs.Token.{lowercase}
use Rattle.header_maps.proofs.Blocks.{same_when_split}
use Rattle.header_maps.proofs.judged.is_same_text.Goals as goal

-- what decides where the first of two judgements is known
first_false : (r x v : Bool) → r ≡ (x && v) → x ≡ false → false ≡ r
first_false r x v both is = sym (both ∙ ap (λ t. t && v) is)

first_true : (r x v : Bool) → r ≡ (x && v) → x ≡ true → v ≡ r
first_true r x v both is = sym (both ∙ ap (λ t. t && v) is)

pub returns-then-not-is_same_block : goal.returns-then-not-is_same_block
returns-then-not-is_same_block c =
    let a = c.split_at.result in
    let b = c.split_at-in-loop-left.result in
    let parts = same_when_split 16 c.loop-left.left.now c.loop-left.right.now a.0.now b.0.now a.1.now b.1.now
    c.split_at.ensures.front c.split_at-in-loop-left.ensures.front c.split_at.ensures.back c.split_at-in-loop-left.ensures.back
    (omega arith) c.loop-left.invariant.long in
    first_false _ (bytes_eq (lowercase a.0.now) (lowercase b.0.now)) (bytes_eq (lowercase a.1.now) (lowercase b.1.now)) parts
    (sym c.is_same_block.ensures ∙ c.if-not-is_same_block.true)
    ∙ c.loop-left.invariant.same

pub loop-left-preserved : goal.loop-left-preserved
loop-left-preserved c =
    let a = c.split_at.result in
    let b = c.split_at-in-loop-left.result in
    let parts = same_when_split 16 c.loop-left.left.now c.loop-left.right.now a.0.now b.0.now a.1.now b.1.now
    c.split_at.ensures.front c.split_at-in-loop-left.ensures.front c.split_at.ensures.back c.split_at-in-loop-left.ensures.back
    (omega arith) c.loop-left.invariant.long in
    record {
      long = omega (arith, c.split_at.ensures.back_len, c.split_at-in-loop-left.ensures.back_len, c.loop-left.invariant.long);
      same = first_true _ (bytes_eq (lowercase a.0.now) (lowercase b.0.now)) (bytes_eq (lowercase a.1.now) (lowercase b.1.now)) parts
          (sym c.is_same_block.ensures ∙ c.if-not-is_same_block.false)
          ∙ c.loop-left.invariant.same;
    }
