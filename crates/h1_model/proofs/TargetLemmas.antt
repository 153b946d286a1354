-- A target gives one answer at most.
use Rattle.std.proofs.Common.{◌≡◌, ℕ, List, Option, None, Some, sym, ap, ◌∙◌, refl}
use Rattle.http_uri.specs.declared.uri.Uri.{Uri}
use Rattle.http_uri.specs.Grammar.{IsUriText}
use Rattle.http_uri.specs.Uri.{SpellsNone}
use Rattle.http_uri.proofs.Theorems.{Spells_unique}
use Rattle.h1_model.specs.Target.{Target, target_of, IsTargetOf}

-- the parts of a text are those of a value of `http_uri`
pub record IsUriOf (s a : Option (List ℕ)) (k : List ℕ) : Type 0 where
  pub uri : Uri
  pub scheme : uri.scheme ≡ s
  pub authority : uri.authority ≡ a
  pub kept : uri.path_and_query ≡ k

pub uri_of : (text : List ℕ) (s a : Option (List ℕ)) (k : List ℕ) → IsUriText text s a k → IsUriOf s a k
uri_of text None None k h = record {
  uri = record { scheme = None; authority = None; path_and_query = k; absolute = λ x e. absurd (cc); authority_alone = λ n x e. absurd (cc) };
  scheme = refl;
  authority = refl;
  kept = refl;
}
uri_of text None (Some a) k h = record {
  uri = record { scheme = None; authority = Some a; path_and_query = k; absolute = λ x e. absurd (cc); authority_alone = λ n x e. h.1.3 };
  scheme = refl;
  authority = refl;
  kept = refl;
}
uri_of text (Some s) None k h = absurd h.1
uri_of text (Some s) (Some a) k h = record {
  uri = record { scheme = Some s; authority = Some a; path_and_query = k; absolute = λ x e. refl; authority_alone = λ n. absurd (cc) };
  scheme = refl;
  authority = refl;
  kept = refl;
}

-- the text has one scheme and one authority
pub IsUriText-unique : (text : List ℕ) (s a : Option (List ℕ)) (k : List ℕ) (s' a' : Option (List ℕ)) (k' : List ℕ)
    → IsUriText text s a k → IsUriText text s' a' k' → (s ≡ s') × (a ≡ a')
IsUriText-unique text s a k s' a' k' h g =
    let x = uri_of text s a k h in
    let y = uri_of text s' a' k' g in
    let same = Spells_unique text x.uri y.uri (rw (x.scheme, x.authority, x.kept) h) (rw (y.scheme, y.authority, y.kept) g) in
    (sym x.scheme ∙ same.0 ∙ y.scheme, sym x.authority ∙ same.1 ∙ y.authority)

-- what a reading of the target gives is what it gives
pub target_given : (method target : List ℕ) (s a : Option (List ℕ)) (k : List ℕ) (parts : Option Target) → IsUriText target s a k
    → target_of method target s a ≡ parts → IsTargetOf method target parts
target_given method target s a k None h is = λ p g.
    let same = IsUriText-unique target s a k g.scheme g.authority g.kept h g.reads in
    let none : target_of method target g.scheme g.authority ≡ None =
    ap (λ x. target_of method target x g.authority) (sym same.0) ∙ ap (target_of method target s) (sym same.1) ∙ is in
    absurd (cc (none, g.gives))
target_given method target s a k (Some p) h is = record { scheme = s; authority = a; kept = k; reads = h; gives = is }

-- a target that is none of a request gives nothing
pub target_missing : (method target : List ℕ) → SpellsNone target → IsTargetOf method target None
target_missing method target none = λ p g. none g.scheme g.authority g.kept g.reads

pub IsTargetOf-unique : (method target : List ℕ) (x y : Option Target) → IsTargetOf method target x → IsTargetOf method target y → x ≡ y
IsTargetOf-unique method target None None h g = refl
IsTargetOf-unique method target None (Some q) h g = absurd (h q g)
IsTargetOf-unique method target (Some p) None h g = absurd (g p h)
IsTargetOf-unique method target (Some p) (Some q) h g =
    let same = IsUriText-unique target h.scheme h.authority h.kept g.scheme g.authority g.kept h.reads g.reads in
    let one : target_of method target h.scheme h.authority ≡ target_of method target g.scheme g.authority =
    ap (λ x. target_of method target x h.authority) same.0 ∙ ap (target_of method target g.scheme) same.1 in
    sym h.gives ∙ one ∙ g.gives
