use Rattle.wasm_syntax.proofs.NestingLaws.{written_ends, cut_at_end, cut_at_else, uncut, bodies, one_nesting, one_writer}
use Rattle.wasm_syntax.proofs.typing_laws.lists_and_nesting_agree.Goals as goal

pub returns : goal.returns
returns c = record {
  written_ends = written_ends;
  at_end = cut_at_end;
  at_else = cut_at_else;
  uncut = uncut;
  bodies = bodies;
  one_nesting = one_nesting;
  one_writer = one_writer;
}
