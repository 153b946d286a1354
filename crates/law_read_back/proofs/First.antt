-- Where a head that goes up ends, a reader ends it.
use Rattle.std.proofs.Common.{◌≡◌, ℕ, true, List, [], ◌∷◌, ◌++◌, map, length, codes, refl, ap, ◌∙◌, sym, subst}
use Rattle.std.specs.Prelude.{option_map, unwrap_or}
use Rattle.std.specs.List.{find}
use Rattle.exchange.specs.Heads.{request_of, sent_head, up_framing, up_tail}
use Rattle.law_exchange.specs.Traffic.{Traffic, byte}
use Rattle.h1_write.specs.Requests.{method_of, path_of, authority_of}
use Rattle.h1_write.proofs.RequestText.{RequestList}
use Rattle.h1_write.proofs.RequestTree.{tree_of, printed, tree_is}
use Rattle.header_maps.specs.Judged.{is_method, is_authority, is_path}
use Rattle.header_maps.specs.Kept.{BeginsWith}
use Rattle.header_maps.specs.Kinds.{pseudo_names}
use Rattle.header_maps.specs.Pairs.{Pair, is_named}
use Rattle.header_maps.specs.declared.kind.ListKind.{ListKind}
use Rattle.header_maps.specs.declared.kind.ListKind.TheVariants as kinds
use Rattle.h1_model.specs.Framing.{Framing, head_wire}
use Rattle.h1_model.specs.Head.{Head, SpellsStep, found}
use Rattle.http_header.specs.Token.{lowercase}
use Rattle.httparse.specs.Grammar.{IsRequestHead, print_request}
use Rattle.httparse.proofs.OnLiterals.{httparse_on_literals}
use Rattle.law_read_back.specs.Maps.{HeadsEndWhereWritten}
use Rattle.law_read_back.specs.Sent.{bytes_in}
use Rattle.law_read_back.proofs.Heads.{IsFine, fine_of}
use Rattle.law_read_back.proofs.Measures.{tail_is, up_framed}

abbrev value_in : List ℕ → List Pair → List ℕ
value_in name pairs = unwrap_or (option_map (λ (f : Pair). f.1) (find (is_named (lowercase name)) pairs)) []

-- a head of such fields, by the values of its list
listed : (h : Head) (pairs : List Pair) → h.fields.pairs ≡ pairs → BeginsWith kinds.Request (pseudo_names kinds.Request) pairs → RequestList h
unfolding httparse_on_literals
listed h [] is begins = absurd begins
listed h (m ∷ []) is begins = absurd begins.1
listed h (m ∷ s ∷ []) is begins = absurd begins.1.1
listed h (m ∷ s ∷ a ∷ []) is begins = absurd begins.1.1.1
listed h (m ∷ s ∷ a ∷ p ∷ fields) is begins =
    let same : h.fields.pairs ≡ (codes ":method", m.1) ∷ (codes ":scheme", s.1) ∷ (codes ":authority", a.1) ∷ (codes ":path", p.1) ∷ fields
    = is ∙ (λ t. (begins.0.name_is t, m.1) ∷ (begins.1.0.name_is t, s.1) ∷ (begins.1.1.0.name_is t, a.1) ∷ (begins.1.1.1.0.name_is t, p.1) ∷ fields) in
    let method : m.1 ≡ method_of h = sym (ap (value_in (codes ":method")) same) in
    let authority : a.1 ≡ authority_of h = sym (ap (value_in (codes ":authority")) same) in
    let path : p.1 ≡ path_of h = sym (ap (value_in (codes ":path")) same) in
    record {
      scheme = s.1;
      fields = fields;
      are = same ∙ (λ t. (codes ":method", method t) ∷ (codes ":scheme", s.1) ∷ (codes ":authority", authority t) ∷ (codes ":path", path t) ∷ fields);
      kept = begins.1.1.1.1;
      method_is = subst (λ (l : List ℕ). is_method l ≡ true) method begins.0.value;
      authority_is = subst (λ (l : List ℕ). is_authority l ≡ true) authority begins.1.1.0.value;
      path_is = subst (λ (l : List ℕ). is_path l ≡ true) path begins.1.1.1.0.value;
    }

bytes_join : (w : List ℕ) (t : List Traffic) → bytes_in (map byte w ++ t) ≡ w ++ bytes_in t
bytes_join [] t = refl
bytes_join (b ∷ w) t = ap (λ (l : List ℕ). b ∷ l) (bytes_join w t)

pub heads_end_where_written : HeadsEndWhereWritten
heads_end_where_written t b h used is spells =
    let f : Framing = up_framing b.filtered (request_of b.head) in
    let g : Head = sent_head b.fields (up_tail b.head.minor) in
    let text : head_wire f g ≡ print_request (tree_of f g) = printed f g is.kind in
    let begins : BeginsWith kinds.Request (pseudo_names kinds.Request) b.fields.pairs = subst (λ (k : ListKind). BeginsWith k (pseudo_names k) b.fields.pairs) is.kind is.shape in
    let list : RequestList g = listed g b.fields.pairs refl begins in
    let tree : IsRequestHead (tree_of f g) = tree_is f g list (tail_is b.head.minor).tail (up_framed b.filtered b.head b.judged).limit in
    let same : bytes_in t ≡ print_request (tree_of f g) ++ bytes_in b.rest = ap bytes_in b.is ∙ (bytes_join (head_wire f g) b.rest ∙ ap (λ (l : List ℕ). l ++ bytes_in b.rest) text) in
    let fine : IsFine f g used = fine_of f g list tree (bytes_in b.rest) h used (subst (λ (l : List ℕ). SpellsStep l (found h used)) same spells) in
    fine.ends ∙ ap length (sym text)
