-- Worked examples of the chunked coding.
use Rattle.std.specs.Prelude.{◌≡◌, ℕ, List, [], ◌∷◌, ◌++◌, replicate, codes}
use Rattle.std.specs.List.{flat_map}
use Rattle.httparse.specs.Ascii.{crlf_bytes}
use Rattle.h1_model.specs.Fields.{Pair}
use Rattle.h1_model.specs.Lines.{whole, too_large, unfinished}
use Rattle.h1_model.specs.Chunks.{sized, size_open, no_size, size_step, size_line, inside, over, data_at, section_at, malformed, sought, run_of}
use Rattle.h1_model.specs.Chunks as chunks
use Rattle.h1_model.specs.Trailers.{kept_trailers, section_cut, carried, ended, not_yet, refused, SpellsChunks}
use Rattle.h1_model.specs.ChunkWire.{chunk_of, chunks_of, last_chunk, body_end}

-- `5`, `abcde`, `0`, `X-Sum: 1`
abbrev pub chunked_text : List ℕ
chunked_text =
    codes "5" ++ crlf_bytes ++ codes "abcde" ++ crlf_bytes ++ codes "0" ++ crlf_bytes ++ codes "X-Sum: 1" ++ crlf_bytes ++ crlf_bytes

-- the same body in five chunks of one byte
abbrev pub split_text : List ℕ
split_text = chunks_of (codes "a" ∷ codes "b" ∷ codes "c" ∷ codes "d" ∷ codes "e" ∷ [])

-- the worked body, from its text to its trailers
pub record WorkedBody : Type 0 where
  pub data_first : SpellsChunks size_line chunked_text (carried (record { bytes = codes "abcde"; used = 8; place = inside 0 }))
  pub end_behind :
      SpellsChunks (inside 0) (crlf_bytes ++ codes "0" ++ crlf_bytes ++ codes "X-Sum: 1" ++ crlf_bytes ++ crlf_bytes)
      (ended ((codes "x-sum", codes "1") ∷ []) 17)
  pub part : SpellsChunks size_line (codes "5" ++ crlf_bytes ++ codes "ab") (carried (record { bytes = codes "ab"; used = 5; place = inside 3 }))
  pub joined : run_of 16384 size_line split_text ≡ record { bytes = codes "abcde"; used = 28; place = inside 0 }
  pub cut : run_of 2 size_line split_text ≡ record { bytes = codes "ab"; used = 10; place = inside 0 }
  pub before_fault : SpellsChunks size_line (codes "1" ++ crlf_bytes ++ codes "aX") (carried (record { bytes = codes "a"; used = 4; place = inside 0 }))
  pub behind_data : SpellsChunks (inside 0) (codes "X") (refused 400)
  pub no_trailers : SpellsChunks size_line (last_chunk ++ crlf_bytes) (ended [] 5)
  pub no_end : SpellsChunks (inside 0) (crlf_bytes ++ codes "0" ++ crlf_bytes ++ codes "X-Sum: 1" ++ crlf_bytes) not_yet
  pub no_field : SpellsChunks size_line (codes "0" ++ crlf_bytes ++ codes " X" ++ crlf_bytes ++ crlf_bytes) (refused 400)

pub record SizeExamples : Type 0 where
  pub five : size_step (codes "5" ++ crlf_bytes ++ codes "ab") ≡ sized 5 3
  pub letters : size_step (codes "1aF" ++ crlf_bytes) ≡ sized 431 5
  pub zeros : size_step (codes "0000000000000010" ++ crlf_bytes) ≡ sized 16 18
  pub seventeen : size_step (codes "00000000000000001") ≡ no_size
  pub limit : size_step (codes "7fffffffffffffff" ++ crlf_bytes) ≡ sized 9223372036854775807 18
  pub past_limit : size_step (codes "8000000000000000") ≡ no_size
  pub not_past_yet : size_step (codes "800000000000000") ≡ size_open
  pub extension : size_step (codes "5 \t;a=\"b;c\"" ++ crlf_bytes) ≡ sized 5 13
  pub blanks : size_step (codes "5  " ++ crlf_bytes) ≡ sized 5 5
  pub nothing : size_step [] ≡ size_open
  pub digit : size_step (codes "5") ≡ size_open
  pub return : size_step (codes "5\r") ≡ size_open
  pub lone_return : size_step (codes "5\r5") ≡ no_size
  pub lone_feed : size_step (codes "5\n") ≡ no_size
  pub feed_in_extension : size_step (codes "5;\n") ≡ no_size
  pub blank_first : size_step (codes " ") ≡ no_size
  pub no_digit : size_step (codes "\r") ≡ no_size
  pub sign : size_step (codes "+") ≡ no_size
  pub other : size_step (codes "5 a") ≡ no_size
  pub longest : size_step (codes "5;" ++ replicate 4092 97 ++ crlf_bytes) ≡ sized 5 4096
  pub longest_open : size_step (codes "5;" ++ replicate 4092 97) ≡ size_open
  pub longest_return : size_step (codes "5;" ++ replicate 4092 97 ++ codes "\r") ≡ size_open
  pub sixteen_zeros : size_step (codes "0000000000000000" ++ crlf_bytes) ≡ sized 0 18
  pub upper_limit : size_step (codes "7FFFFFFFFFFFFFFF" ++ crlf_bytes) ≡ sized 9223372036854775807 18
  pub return_in_extension : size_step (codes "5;a\rb") ≡ no_size
  pub control_in_extension : size_step (codes "5;" ++ 0 ∷ crlf_bytes) ≡ sized 5 5
  pub too_long : size_step (codes "5;" ++ replicate 4093 97) ≡ no_size

pub record PlaceExamples : Type 0 where
  pub data_left : sought (inside 3) (codes "ab") ≡ data_at 0 3
  pub next_chunk : sought (inside 0) (crlf_bytes ++ codes "2" ++ crlf_bytes ++ codes "c") ≡ data_at 5 2
  pub no_data_yet : sought (inside 0) (crlf_bytes ++ codes "2" ++ crlf_bytes) ≡ chunks.waiting
  pub half_end : sought (inside 0) (codes "\r") ≡ chunks.waiting
  pub one_byte_more : sought (inside 0) (codes "c") ≡ malformed
  pub feed_alone : sought (inside 0) (codes "\n") ≡ malformed
  pub other_end : sought (inside 0) (codes "\rc") ≡ malformed
  pub last : sought (inside 0) (crlf_bytes ++ codes "000;a" ++ crlf_bytes ++ codes "b") ≡ section_at 9
  pub behind_end : sought over (codes "5") ≡ chunks.waiting

-- so many field lines `a:`
abbrev pub fields_text : ℕ → List ℕ
fields_text n = flat_map (λ (line : List ℕ). line) (replicate n (codes "a:\n"))

abbrev pub mixed_fields : List Pair
mixed_fields =
    (codes "X-A", codes "1") ∷ (codes "Content-Length", codes "5") ∷ (codes "Connection", codes "x-b") ∷ (codes "X-B", codes "2")
    ∷ (codes "TE", []) ∷ (codes "Host", codes "h") ∷ []

pub record TrailerExamples : Type 0 where
  pub kept : kept_trailers mixed_fields ≡ (codes "x-a", codes "1") ∷ (codes "host", codes "h") ∷ []
  pub none : section_cut (crlf_bytes ++ codes "a") ≡ whole 2
  pub bare_feeds : section_cut (codes "a:\n\n") ≡ whole 4
  pub open_section : section_cut (codes "a:\n") ≡ unfinished
  pub hundred : section_cut (fields_text 100 ++ 10 ∷ []) ≡ whole 301
  pub hundred_open : section_cut (fields_text 100) ≡ unfinished
  pub hundred_one : section_cut (fields_text 101) ≡ too_large

pub record ChunkWireExamples : Type 0 where
  pub five : chunk_of (codes "abcde") ≡ codes "5" ++ crlf_bytes ++ codes "abcde" ++ crlf_bytes
  pub lower_case : chunk_of (replicate 171 97) ≡ codes "ab" ++ crlf_bytes ++ replicate 171 97 ++ crlf_bytes
  pub nine : chunk_of (replicate 9 97) ≡ codes "9" ++ crlf_bytes ++ replicate 9 97 ++ crlf_bytes
  pub ten : chunk_of (replicate 10 97) ≡ codes "a" ++ crlf_bytes ++ replicate 10 97 ++ crlf_bytes
  pub fifteen : chunk_of (replicate 15 97) ≡ codes "f" ++ crlf_bytes ++ replicate 15 97 ++ crlf_bytes
  pub sixteen : chunk_of (replicate 16 97) ≡ codes "10" ++ crlf_bytes ++ replicate 16 97 ++ crlf_bytes
  pub bare_end : body_end [] ≡ codes "0" ++ crlf_bytes ++ crlf_bytes
  pub end_with_trailers : body_end ((codes "x-sum", codes "1") ∷ []) ≡ codes "0" ++ crlf_bytes ++ codes "x-sum: 1" ++ crlf_bytes ++ crlf_bytes
  pub empty : chunks_of (codes "a" ∷ [] ∷ codes "b" ∷ []) ≡ codes "1" ++ crlf_bytes ++ codes "a" ++ crlf_bytes ++ codes "1" ++ crlf_bytes ++ codes "b" ++ crlf_bytes
