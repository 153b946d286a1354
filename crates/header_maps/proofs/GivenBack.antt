-- A list that is given its own pairs stays as it is.
use Rattle.std.proofs.Common.{◌≡◌, ℕ, Bool, true, false, ◌&&◌, cond, List, [], ◌∷◌, map, filter, refl, sym, ◌∙◌, ap, subst, bytes_eq, codes}
use Rattle.std.specs.List.{list_all}
use Rattle.std.proofs.lemmas.Bool.{and_parts}
use Rattle.http_header.specs.Token.{lowercase}
use Rattle.header_maps.specs.declared.kind.ListKind.{ListKind}
use Rattle.header_maps.specs.declared.kind.ListKind.TheVariants.{Request, Response, Interim, Plain}
use Rattle.header_maps.specs.Judged.{is_field_name, is_field_value}
use Rattle.header_maps.specs.Kept.{is_kept_field, BeginsWith}
use Rattle.header_maps.specs.Kinds.{pseudo_names}
use Rattle.header_maps.specs.Laws.{SetGivesBack}
use Rattle.header_maps.specs.Operations.{in_order}
use Rattle.header_maps.specs.Pairs.{Pair, lowered, is_named, is_pseudo, plain_among}
use Rattle.header_maps.proofs.Kept.{listed}
use Rattle.header_maps.proofs.Shapes.{bytes_are, kept_plain, name_plain, pseudo_lowercase}

-- the fields stay as they are
fields_lowered : (fs : List Pair) → list_all is_kept_field fs ≡ true → map lowered (plain_among fs) ≡ fs
fields_lowered [] h = refl
fields_lowered (f ∷ fs) h =
    let parts = and_parts (is_kept_field f) (list_all is_kept_field fs) h in
    let rest = fields_lowered fs parts.1 in
    let plain = kept_plain f parts.0 in
    let names = and_parts (is_field_name f.0 && bytes_eq (lowercase f.0) f.0) (is_field_value f.1) parts.0 in
    let lower = bytes_are (lowercase f.0) f.0 (and_parts (is_field_name f.0) (bytes_eq (lowercase f.0) f.0) names.0).1 in
    let P : Bool → Type 0 = λ k. map lowered (cond k (f ∷ plain_among fs) (plain_among fs)) ≡ f ∷ fs in
    subst P (sym plain) (ap (λ (n : List ℕ). (n, f.1) ∷ map lowered (plain_among fs)) lower ∙ ap (λ xs. f ∷ xs) rest)

-- and none has the name of a pseudo-header
no_field : (n : List ℕ) (fs : List Pair) → is_pseudo n ≡ true → list_all is_kept_field fs ≡ true → filter (is_named n) fs ≡ []
no_field n [] p h = refl
no_field n (f ∷ fs) p h =
    let parts = and_parts (is_kept_field f) (list_all is_kept_field fs) h in
    let rest = no_field n fs p parts.1 in
    let names = and_parts (is_field_name f.0 && bytes_eq (lowercase f.0) f.0) (is_field_value f.1) parts.0 in
    let plain = name_plain f.0 (and_parts (is_field_name f.0) (bytes_eq (lowercase f.0) f.0) names.0).0 in
    let P : Bool → Type 0 = λ k. is_named n f ≡ k → cond k (f ∷ filter (is_named n) fs) (filter (is_named n) fs) ≡ [] in
    (elim (is_named n f) as P [
      | true ↦ λ e. absurd (let at = bytes_are (lowercase f.0) n e in
          let wrong : is_pseudo f.0 ≡ true = sym (pseudo_lowercase f.0) ∙ ap is_pseudo at ∙ p in cc (wrong, plain))
      | false ↦ λ e. rest
    ]) refl

status : (n v : List ℕ) (fs : List Pair) → codes ":status" ≡ n → list_all is_kept_field fs ≡ true → in_order Response ((n, v) ∷ fs) ≡ (n, v) ∷ fs
status n v fs e h =
    subst (λ (x : List ℕ). in_order Response ((x, v) ∷ fs) ≡ (x, v) ∷ fs) e
    (rw (no_field (codes ":status") fs refl h) (ap (λ xs. (codes ":status", v) ∷ xs) (fields_lowered fs h)))

request :
    (m s a p mv sv av pv : List ℕ) (fs : List Pair) → codes ":method" ≡ m → codes ":scheme" ≡ s → codes ":authority" ≡ a → codes ":path" ≡ p
    → list_all is_kept_field fs ≡ true
    → in_order Request ((m, mv) ∷ (s, sv) ∷ (a, av) ∷ (p, pv) ∷ fs) ≡ (m, mv) ∷ (s, sv) ∷ (a, av) ∷ (p, pv) ∷ fs
request m s a p mv sv av pv fs em es ea ep h =
    subst (λ (x : List ℕ). in_order Request ((x, mv) ∷ (s, sv) ∷ (a, av) ∷ (p, pv) ∷ fs) ≡ (x, mv) ∷ (s, sv) ∷ (a, av) ∷ (p, pv) ∷ fs) em
    (subst (λ (x : List ℕ). in_order Request ((codes ":method", mv) ∷ (x, sv) ∷ (a, av) ∷ (p, pv) ∷ fs) ≡ (codes ":method", mv) ∷ (x, sv) ∷ (a, av) ∷ (p, pv) ∷ fs) es
    (subst (λ (x : List ℕ). in_order Request ((codes ":method", mv) ∷ (codes ":scheme", sv) ∷ (x, av) ∷ (p, pv) ∷ fs) ≡ (codes ":method", mv) ∷ (codes ":scheme", sv) ∷ (x, av) ∷ (p, pv) ∷ fs) ea
    (subst (λ (x : List ℕ). in_order Request ((codes ":method", mv) ∷ (codes ":scheme", sv) ∷ (codes ":authority", av) ∷ (x, pv) ∷ fs)
    ≡ (codes ":method", mv) ∷ (codes ":scheme", sv) ∷ (codes ":authority", av) ∷ (x, pv) ∷ fs) ep
    (rw (no_field (codes ":method") fs refl h, no_field (codes ":scheme") fs refl h, no_field (codes ":authority") fs refl h, no_field (codes ":path") fs refl h)
    (ap (λ xs. (codes ":method", mv) ∷ (codes ":scheme", sv) ∷ (codes ":authority", av) ∷ (codes ":path", pv) ∷ xs) (fields_lowered fs h))))))

-- the list's own pairs, in order
back : (kind : ListKind) (pairs : List Pair) → BeginsWith kind (pseudo_names kind) pairs → in_order kind pairs ≡ pairs
back Request [] b = absurd b
back Request (m ∷ []) b = absurd b.1
back Request (m ∷ s ∷ []) b = absurd b.1.1
back Request (m ∷ s ∷ a ∷ []) b = absurd b.1.1.1
back Request (m ∷ s ∷ a ∷ p ∷ fs) b =
    request m.0 s.0 a.0 p.0 m.1 s.1 a.1 p.1 fs (sym b.0.name_is) (sym b.1.0.name_is) (sym b.1.1.0.name_is) (sym b.1.1.1.0.name_is) b.1.1.1.1.kept
back Response [] b = absurd b
back Response (p ∷ fs) b = status p.0 p.1 fs (sym b.0.name_is) b.1.kept
back Interim [] b = absurd b
back Interim (p ∷ fs) b = status p.0 p.1 fs (sym b.0.name_is) b.1.kept
back Plain fs b = fields_lowered fs b.kept

pub set_gives_back : SetGivesBack
set_gives_back h k = ap (λ (ps : List Pair). listed h.kind ps) (back h.kind h.pairs k.shape)
