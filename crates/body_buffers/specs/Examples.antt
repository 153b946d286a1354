-- Worked examples: what the definitions say of bodies that are written out.
use Rattle.std.specs.Prelude.{◌≡◌, [], codes, replicate}
use Rattle.body_buffers.specs.Bodies.{spliced, part_of}

pub record BodyExamples : Type 0 where
  pub replaced : spliced (codes "abcdef") 1 2 (codes "XYZ") ≡ codes "aXYZdef"
  pub inserted : spliced (codes "abc") 1 0 (codes "-") ≡ codes "a-bc"
  pub removed : spliced (codes "abcdef") 1 4 [] ≡ codes "af"
  pub appended : spliced (codes "abc") 3 0 (codes "de") ≡ codes "abcde"
  pub start_past_end : spliced (codes "abc") 9 2 (codes "de") ≡ codes "abcde"
  pub size_past_end : spliced (codes "abc") 1 9 (codes "X") ≡ codes "aX"
  pub whole : spliced (codes "abc") 0 3 (codes "HELLO!!") ≡ codes "HELLO!!"
  pub thousand : spliced (replicate 1000 7) 10 980 [] ≡ replicate 20 7
  pub part : part_of (codes "abcdef") 2 3 ≡ codes "cde"
  pub part_to_end : part_of (codes "abcdef") 4 9 ≡ codes "ef"
  pub part_at_end : part_of (codes "abcdef") 6 1 ≡ []
