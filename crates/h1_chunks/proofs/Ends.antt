-- Lemmas on what a text spells, by what is sought in it.
use Rattle.std.proofs.Common.{◌≡◌, ℕ, ◌+◌, ◌≤◌, List, length, take, drop, Option, sym, ap, subst}
use Rattle.std.proofs.lemmas.List.{length-take-le}
use Rattle.h1_model.specs.Chunks.{Place, Sought, section_at, sought}
use Rattle.h1_model.specs.Fields.{Pair}
use Rattle.h1_model.specs.Lines.{Cut, whole}
use Rattle.h1_model.specs.Trailers.{ChunkStep, IsSection, end_of, IsEnd, section_cut, IsBehind, SpellsChunks}

pub spells_along : (p : Place) (text : List ℕ) (s : Sought) (step : ChunkStep) → sought p text ≡ s → IsBehind p text s step
    → SpellsChunks p text step
spells_along p text s step is behind = subst (λ x. IsBehind p text x step) (sym is) behind

pub ends_along : (p : Place) (text : List ℕ) (at : ℕ) (cut : Cut) (step : ChunkStep) → sought p text ≡ section_at at
    → section_cut (drop at text) ≡ cut → IsEnd at (drop at text) cut step → SpellsChunks p text step
ends_along p text at cut step is cut_is end =
    spells_along p text (section_at at) step is (subst (λ x. IsEnd at (drop at text) x step) (sym cut_is) end)

pub ends_whole : (p : Place) (text : List ℕ) (at len : ℕ) (trailers : Option (List Pair)) → sought p text ≡ section_at at
    → section_cut (drop at text) ≡ whole len → len ≤ length (drop at text) → IsSection (take len (drop at text)) trailers
    → SpellsChunks p text (end_of (at + len) trailers)
ends_whole p text at len trailers is cut_is fits section =
    ends_along p text at (whole len) (end_of (at + len) trailers) is cut_is (record {
      trailers = trailers;
      section = section;
      is = ap (λ n. end_of (at + n) trailers) (sym (length-take-le len (drop at text) fits));
    })
