use Rattle.wasm_invoke.proofs.Worked.{zeros, greatest, too_great, longer_type, far_too_great, plus, minus, nothing_written}
use Rattle.wasm_invoke.proofs.laws.worked_words.Goals as goal

pub returns : goal.returns
returns c = record {
  zeros = zeros;
  greatest = greatest;
  too_great = too_great;
  longer_type = longer_type;
  far_too_great = far_too_great;
  plus = plus;
  minus = minus;
  nothing = nothing_written;
}
