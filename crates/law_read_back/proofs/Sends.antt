-- What an exchange sent up is a front of one request, whose body its framing carries.
use Rattle.std.proofs.Common.{◌≡◌, ℕ, zero, suc, ◌+◌, ◌-◌, ◌≤◌, true, false, List, [], ◌∷◌, ◌++◌, map, length, refl, ap, ◌∙◌, sym, subst, arith, length-append}
use Rattle.std.proofs.lemmas.Bool.{and_from, and_parts}
use Rattle.std.proofs.lemmas.Grind.{flat_map-append}
use Rattle.std.specs.List.{concat, list_all}
use Rattle.law_exchange.specs.Traffic.{byte, IsFront}
use Rattle.h1_write.specs.Laws.{is_short, middle_items}
use Rattle.h1_write.specs.Lines.{OutRequest, out_wire}
use Rattle.h1_write.specs.Round.{Ending, last_bytes, last_trailers, ending_item, body_items, all_pieces, FitsSection, Suits}
use Rattle.h1_model.specs.Framing.{Framing, no_body, by_length, by_chunks, by_close, OutItem, item_wire, items_wire}
use Rattle.h1_model.specs.Framing as out
use Rattle.law_read_back.specs.Sent.{bytes_in, pieces_in, sizes, is_ended, TrailersFit, Carries}

-- ---- bytes of traffic

pub bytes_are : (l : List ℕ) → bytes_in (map byte l) ≡ l
bytes_are [] = refl
bytes_are (b ∷ l) = ap (λ k. b ∷ k) (bytes_are l)

-- ---- pieces

pub sizes_are : (l : List (List ℕ)) → length (concat l) ≡ sizes l
sizes_are [] = refl
sizes_are (bytes ∷ l) = length-append bytes (concat l) ∙ ap (λ k. length bytes + k) (sizes_are l)

sizes_join : (a : List (List ℕ)) (last : List ℕ) → sizes (a ++ last ∷ []) ≡ sizes a + length last
sizes_join [] last = omega arith
sizes_join (bytes ∷ a) last = omega (arith, sizes_join a last)

short_join : (a : List (List ℕ)) (last : List ℕ) → list_all is_short a ≡ true → is_short last ≡ true → list_all is_short (a ++ last ∷ []) ≡ true
short_join [] last is short = and_from (is_short last) true short refl
short_join (bytes ∷ a) last is short =
    let both = and_parts (is_short bytes) (list_all is_short a) is in
    and_from (is_short bytes) (list_all is_short (a ++ last ∷ [])) both.0 (short_join a last both.1 short)

middle_pieces : (ps : List (List ℕ)) → pieces_in (middle_items ps) ≡ ps
middle_pieces [] = refl
middle_pieces (bytes ∷ ps) = ap (λ l. bytes ∷ l) (middle_pieces ps)

all_more : (bytes : List ℕ) (pieces : List (List ℕ)) (ending : Ending) → bytes ∷ all_pieces pieces ending ≡ all_pieces (bytes ∷ pieces) ending
all_more bytes pieces (last_bytes last) = refl
all_more bytes pieces (last_trailers fields) = refl

body_pieces : (pieces : List (List ℕ)) (ending : Ending) → pieces_in (body_items pieces ending) ≡ all_pieces pieces ending
body_pieces [] (last_bytes last) = refl
body_pieces [] (last_trailers fields) = refl
body_pieces (bytes ∷ pieces) ending = ap (λ l. bytes ∷ l) (body_pieces pieces ending) ∙ all_more bytes pieces ending

body_ended : (pieces : List (List ℕ)) (ending : Ending) → is_ended (body_items pieces ending) ≡ true
body_ended [] (last_bytes last) = refl
body_ended [] (last_trailers fields) = refl
body_ended (bytes ∷ pieces) ending = body_ended pieces ending

body_fits : (pieces : List (List ℕ)) (ending : Ending) → TrailersFit (body_items pieces ending) → FitsSection ending
body_fits [] (last_bytes last) fits = tt
body_fits [] (last_trailers fields) fits = fits.0
body_fits (bytes ∷ pieces) ending fits = body_fits pieces ending fits

-- ---- a whole body suits its framing

pub whole_suits : (framing : Framing) (pieces : List (List ℕ)) (ending : Ending) → Carries framing (body_items pieces ending) → Suits framing pieces ending false []
whole_suits no_body pieces ending carries = tt
whole_suits (by_length n) pieces ending carries = sizes_are (all_pieces pieces ending) ∙ (ap sizes (sym (body_pieces pieces ending)) ∙ carries.1 (body_ended pieces ending))
whole_suits by_chunks pieces ending carries = (ap (list_all is_short) (sym (body_pieces pieces ending)) ∙ carries.0, body_fits pieces ending carries.1)
whole_suits by_close pieces ending carries = absurd carries

-- ---- a front of a body is some of its pieces, or all of it

data Cut (items : List OutItem) (pieces : List (List ℕ)) (ending : Ending) : Type 0 where
  some : (ps : List (List ℕ)) → items ≡ middle_items ps → Cut items pieces ending
  all : items ≡ body_items pieces ending → Cut items pieces ending

no_items : (a b : List OutItem) → a ++ b ≡ [] → a ≡ []
no_items [] b is = refl
no_items (i ∷ a) b is = absurd (cc)

tail_same : (i j : OutItem) (a b : List OutItem) → i ∷ a ≡ j ∷ b → (i ≡ j) × (a ≡ b)
tail_same i j a b is = (cc, cc)

cut_of : (items : List OutItem) (pieces : List (List ℕ)) (ending : Ending) → IsFront items (body_items pieces ending) → Cut items pieces ending
cut_of [] pieces ending front = some [] refl
cut_of (i ∷ items) [] ending front =
    let same = tail_same i (ending_item ending) (items ++ front.0) [] front.1 in
    all (λ k. same.0 k ∷ no_items items front.0 same.1 k)
cut_of (i ∷ items) (bytes ∷ pieces) ending front =
    let same = tail_same i (out.piece bytes false) (items ++ front.0) (body_items pieces ending) front.1 in
    by_cut same.0 (cut_of items pieces ending (front.0, same.1))
  where
    by_cut : i ≡ out.piece bytes false → Cut items pieces ending → Cut (i ∷ items) (bytes ∷ pieces) ending
    by_cut same (some ps is) = some (bytes ∷ ps) (λ k. same k ∷ is k)
    by_cut same (all is) = all (λ k. same k ∷ is k)

-- ---- a request that it is a front of

-- so many bytes
zeros : ℕ → List ℕ
zeros zero = []
zeros (suc n) = 0 ∷ zeros n

zeros_length : (n : ℕ) → length (zeros n) ≡ n
unfolding zeros
zeros_length zero = refl
zeros_length (suc n) = omega (arith, zeros_length n)

-- the bytes that are missing of a body
missing : Framing → ℕ → List ℕ
missing no_body k = []
missing (by_length n) k = zeros (n - k)
missing by_chunks k = []
missing by_close k = []

pub record Completed (framing : Framing) (items : List OutItem) : Type 0 where
  pub pieces : List (List ℕ)
  pub ending : Ending
  pub front : IsFront items (body_items pieces ending)
  pub suits : Carries framing items → Suits framing pieces ending false []

some_suit : (framing : Framing) (ps : List (List ℕ)) → Carries framing (middle_items ps) → Suits framing ps (last_bytes (missing framing (sizes ps))) false []
unfolding missing
some_suit no_body ps carries = tt
some_suit (by_length n) ps carries =
    let room : sizes ps ≤ n = subst (λ (l : List (List ℕ)). sizes l ≤ n) (middle_pieces ps) carries.0 in
    sizes_are (ps ++ zeros (n - sizes ps) ∷ []) ∙ omega (arith, sizes_join ps (zeros (n - sizes ps)), zeros_length (n - sizes ps), room)
some_suit by_chunks ps carries = (short_join ps [] (ap (list_all is_short) (sym (middle_pieces ps)) ∙ carries.0) refl, tt)
some_suit by_close ps carries = absurd carries

pub completed : (framing : Framing) (items : List OutItem) (pieces : List (List ℕ)) (ending : Ending) → IsFront items (body_items pieces ending) → Completed framing items
completed framing items pieces ending front = by_cut (cut_of items pieces ending front)
  where
    by_cut : Cut items pieces ending → Completed framing items
    by_cut (some ps is) = record {
      pieces = ps;
      ending = last_bytes (missing framing (sizes ps));
      front = (ending_item (last_bytes (missing framing (sizes ps))) ∷ [], ap (λ (l : List OutItem). l ++ ending_item (last_bytes (missing framing (sizes ps))) ∷ []) is);
      suits = λ carries. some_suit framing ps (subst (Carries framing) is carries);
    }
    by_cut (all is) = record {
      pieces = pieces;
      ending = ending;
      front = front;
      suits = λ carries. whole_suits framing pieces ending (subst (Carries framing) is carries);
    }

-- its bytes are a front of those of the request
pub front_wire : (q : OutRequest) (items : List OutItem) → (front : IsFront items (body_items q.pieces q.ending))
    → items_wire q.framing (out.head q.head ∷ items) ++ items_wire q.framing front.0 ≡ out_wire q
front_wire q items front =
    sym (flat_map-append (item_wire q.framing) (out.head q.head ∷ items) front.0) ∙ ap (λ (l : List OutItem). items_wire q.framing (out.head q.head ∷ l)) front.1
