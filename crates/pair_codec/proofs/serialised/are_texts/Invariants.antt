use Rattle.std.proofs.Common.{◌≡◌, ◌-◌, ◌*◌, drop}
use Rattle.std.specs.Prelude.{is_some}
use Rattle.pair_codec.specs.Reading.{texts_in}
use Rattle.pair_codec.proofs.serialised.are_texts.Given as goal

-- all are pairs where those that are left to be judged are
abbrev pub invariant-loop-k : goal.invariant-loop-k
invariant-loop-k l = is_some (texts_in l.count l.sizes l.texts) ≡ is_some (texts_in (l.count - l.k) (drop (8 * l.k) l.sizes) l.rest)
