-- Why no trailer goes out that the Connection of its head lists.
use Rattle.std.proofs.Common.{◌≡◌, ℕ, Bool, true, false, cond, not, ◌||◌, List, [], ◌∷◌, ◌++◌, filter, map, codes, refl, ap, ◌∙◌}
use Rattle.std.proofs.lemmas.Bool.{and_from}
use Rattle.std.proofs.lemmas.List.{append-nil, map-append}
use Rattle.std.proofs.lemmas.List.Elements.{filter-append}
use Rattle.std.proofs.lemmas.List.Folds.{list_any-append}
use Rattle.std.specs.List.{list_all, list_any}
use Rattle.gate_io.specs.declared.event.Side.{Side}
use Rattle.gate_io.specs.declared.event.Side.TheVariants.{Down, Up}
use Rattle.header_maps.proofs.Shapes.{bytes_are}
use Rattle.header_maps.specs.Pairs.{is_pseudo}
use Rattle.http_header.specs.Token.{lowercase}
use Rattle.h1_model.specs.ChunkWire.{body_end}
use Rattle.h1_model.specs.Fields.{Pair, is_named, values_of, lists, is_listed, is_hop_name}
use Rattle.h1_model.specs.Framing.{Framing, by_chunks, trailer_wire}
use Rattle.h1_model.specs.Wire.{is_left_out, sent_fields}
use Rattle.std.specs.Prelude.{bytes_eq}
use Rattle.exchange.specs.declared.types.Hub.{Hub}
use Rattle.exchange.specs.Heads.{with_connection}
use Rattle.exchange.specs.Laws.{IsUnlisted, NoListedTrailerGoesOut}
use Rattle.exchange.specs.Leaving.{bytes_sent_to, hub_with_sent, request_framing, written_framing}
use Rattle.exchange.specs.Maps.{request_map, response_map, request_trailers, response_trailers}

-- ---- lists

filter_alike : (p q : Pair → Bool) (fields : List Pair) → ((f : Pair) → p f ≡ q f) → filter p fields ≡ filter q fields
filter_alike p q fields same = λ i. filter (λ f. same f i) fields

filter_twice : (q : Pair → Bool) (fields : List Pair) → filter q (filter q fields) ≡ filter q fields
filter_twice q [] = refl
filter_twice q (f ∷ fields) = by_test (q f) refl (filter_twice q fields)
  where
    by_test : (b : Bool) → q f ≡ b → filter q (filter q fields) ≡ filter q fields → filter q (cond b (f ∷ filter q fields) (filter q fields)) ≡ cond b (f ∷ filter q fields) (filter q fields)
    by_test true is later = ap (λ b. cond b (f ∷ filter q (filter q fields)) (filter q (filter q fields))) is ∙ ap (λ fs. f ∷ fs) later
    by_test false is later = later

filter_none : (p q : Pair → Bool) (fields : List Pair) → ((f : Pair) → q f ≡ true → p f ≡ false) → filter p (filter q fields) ≡ []
filter_none p q [] none = refl
filter_none p q (f ∷ fields) none = by_test (q f) refl (filter_none p q fields none)
  where
    by_test : (b : Bool) → q f ≡ b → filter p (filter q fields) ≡ [] → filter p (cond b (f ∷ filter q fields) (filter q fields)) ≡ []
    by_test true is later = ap (λ b. cond b (f ∷ filter p (filter q fields)) (filter p (filter q fields))) (none f is) ∙ later
    by_test false is later = later

all_filtered : (p q : Pair → Bool) (fields : List Pair) → ((f : Pair) → q f ≡ true → p f ≡ true) → list_all p (filter q fields) ≡ true
all_filtered p q [] so = refl
all_filtered p q (f ∷ fields) so = by_test (q f) refl (all_filtered p q fields so)
  where
    by_test : (b : Bool) → q f ≡ b → list_all p (filter q fields) ≡ true → list_all p (cond b (f ∷ filter q fields) (filter q fields)) ≡ true
    by_test true is later = and_from _ _ (so f is) later
    by_test false is later = later

-- ---- what the fields list, and those of the head

listed_both : (name : List ℕ) (trailers more : List Pair) → is_listed name (trailers ++ more) ≡ (is_listed name trailers || is_listed name more)
listed_both name trailers more =
    ap (λ (fs : List Pair). list_any (lists name) (map (λ (f : Pair). f.1) fs)) (filter-append (is_named (codes "connection")) trailers more)
    ∙ ap (list_any (lists name)) (map-append (λ (f : Pair). f.1) (filter (is_named (codes "connection")) trailers) (filter (is_named (codes "connection")) more))
    ∙ list_any-append (lists name) (values_of (codes "connection") trailers) (values_of (codes "connection") more)

listed_by_head : (name : List ℕ) (head : List Pair) → is_listed name (filter (is_named (codes "connection")) head) ≡ is_listed name head
listed_by_head name head = ap (λ (fs : List Pair). list_any (lists name) (map (λ (f : Pair). f.1) fs)) (filter_twice (is_named (codes "connection")) head)

reordered : (p h l k c : Bool) → (p || ((h || (l || k)) || c)) ≡ (k || (p || ((h || l) || c)))
reordered true h l true c = refl
reordered true h l false c = refl
reordered false true l true c = refl
reordered false true l false c = refl
reordered false false true true c = refl
reordered false false true false c = refl
reordered false false false true c = refl
reordered false false false false c = refl

left_out : (name : List ℕ) (head trailers : List Pair)
    → is_left_out (trailers ++ filter (is_named (codes "connection")) head) name ≡ (is_listed name head || is_left_out trailers name)
left_out name head trailers =
    ap (λ (b : Bool). is_pseudo name || ((is_hop_name name || b) || bytes_eq name (codes "content-length")))
    (listed_both name trailers (filter (is_named (codes "connection")) head) ∙ ap (λ (b : Bool). is_listed name trailers || b) (listed_by_head name head))
    ∙ reordered (is_pseudo name) (is_hop_name name) (is_listed name trailers) (is_listed name head) (bytes_eq name (codes "content-length"))

-- Connection itself never goes out
never_out : (all : List Pair) (f : Pair) → is_named (codes "connection") f ≡ true → not (is_left_out all (lowercase f.0)) ≡ false
never_out all f is = ap (λ (name : List ℕ). not (is_left_out all name)) (bytes_are (lowercase f.0) (codes "connection") is)

-- ---- the lines

abbrev lines_of : List Pair → List Pair → List Pair
lines_of head trailers = filter (λ (f : Pair). not (is_listed (lowercase f.0) head || is_left_out trailers (lowercase f.0))) trailers

first_not : (a b : Bool) → not (a || b) ≡ true → not a ≡ true
first_not true b is = is
first_not false b is = refl

unlisted_lines : (head trailers : List Pair) → IsUnlisted head trailers (lines_of head trailers)
unlisted_lines head trailers = record {
  unlisted = all_filtered (λ (f : Pair). not (is_listed (lowercase f.0) head)) (λ (f : Pair). not (is_listed (lowercase f.0) head || is_left_out trailers (lowercase f.0))) trailers
      (λ f is. first_not (is_listed (lowercase f.0) head) (is_left_out trailers (lowercase f.0)) is);
  all = refl;
}

sent_lines : (head trailers : List Pair) → sent_fields (trailers ++ filter (is_named (codes "connection")) head) ≡ lines_of head trailers
sent_lines head trailers =
    let own : List Pair = filter (is_named (codes "connection")) head in
    let goes : Pair → Bool = λ (f : Pair). not (is_left_out (trailers ++ own) (lowercase f.0)) in
    filter-append goes trailers own
    ∙ ap (λ (fs : List Pair). filter goes trailers ++ fs) (filter_none goes (is_named (codes "connection")) head (never_out (trailers ++ own)))
    ∙ append-nil (filter goes trailers)
    ∙ filter_alike goes (λ (f : Pair). not (is_listed (lowercase f.0) head || is_left_out trailers (lowercase f.0))) trailers
    (λ f. ap not (left_out (lowercase f.0) head trailers))

wire_is : (framing : Framing) (connection head trailers : List Pair) → framing ≡ by_chunks → connection ≡ filter (is_named (codes "connection")) head
    → trailer_wire framing (with_connection connection trailers) ≡ body_end (lines_of head trailers)
wire_is framing connection head trailers framed kept =
    (λ i. trailer_wire (framed i) (trailers ++ kept i)) ∙ ap body_end (sent_lines head trailers)

pub no_listed_trailer : NoListedTrailerGoesOut
no_listed_trailer = record {
  up_lines = λ n end x later hub after kept framed.
      let head : List Pair = (request_map x.place hub.contexts).pairs in
      let trailers : List Pair = (request_trailers later.place after.contexts).pairs in (
        lines_of head trailers,
        unlisted_lines head trailers,
        ap (λ (bytes : List ℕ). hub_with_sent (bytes_sent_to n Up bytes) after) (wire_is (request_framing later) later.connection_up head trailers framed kept),
      );
  down_lines = λ n end x later hub after kept framed.
      let head : List Pair = (response_map x.place hub.contexts).pairs in
      let trailers : List Pair = (response_trailers later.place after.contexts).pairs in (
        lines_of head trailers,
        unlisted_lines head trailers,
        ap (λ (bytes : List ℕ). hub_with_sent (bytes_sent_to n Down bytes) after) (wire_is (written_framing later) later.connection_down head trailers framed kept),
      );
  up_keeps = λ n bytes end x hub. refl;
  down_keeps = λ n bytes end x hub. refl;
}
