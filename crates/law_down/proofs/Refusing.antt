-- What the definitions of what goes down refuse.
use Rattle.std.proofs.Common.{◌≡◌, ℕ, Bool, true, false, List, [], ◌∷◌, ◌++◌, map, refl, ◌∙◌, sym}
use Rattle.std.proofs.lemmas.List.{append-nil}
use Rattle.std.specs.List.{flat_map}
use Rattle.std.specs.Prelude.{Option, None, Some}
use Rattle.law_exchange.specs.Traffic.{Traffic, opens, byte, closes}
use Rattle.header_maps.specs.Headers.{Headers}
use Rattle.worker_model.specs.Plan.{Plan}
use Rattle.law_lines.proofs.Refusing.{unclosed, unclosed_bytes, none_there, closes_last}
use Rattle.law_down.specs.Downward.{Begun, Part, IsPartOf, last_wire, wire_of, close_of}
use Rattle.law_down.specs.Examples.{Refuses}

-- where there is a close, something is not unclosed
none_closed : (went s t : List Traffic) → unclosed went ≡ true → went ≡ s ++ closes ∷ t → ⊥
none_closed [] s t runs is = none_there s t is
none_closed (opens ∷ went) [] t runs is = cc
none_closed (byte b ∷ went) [] t runs is = cc
none_closed (closes ∷ went) s t runs is = cc
none_closed (opens ∷ went) (a ∷ s) t runs is = none_closed went s t runs (cc)
none_closed (byte b ∷ went) (a ∷ s) t runs is = none_closed went s t runs (cc)

closed_last : (shut : Bool) (bytes : List ℕ) (s t : List Traffic) → map byte bytes ++ close_of shut ≡ s ++ closes ∷ t → t ≡ []
closed_last true bytes s t is = closes_last (map byte bytes) s t (unclosed_bytes bytes) is
closed_last false bytes s t is = absurd (none_closed (map byte bytes) s t (unclosed_bytes bytes) (sym (append-nil (map byte bytes)) ∙ is))

no_interim : (l : List Headers) (fields : Headers) (more : List Headers) → l ≡ [] → l ≡ fields ∷ more → ⊥
no_interim l fields more none some = let e : ◌≡◌ {A = List Headers} [] (fields ∷ more) = sym none ∙ some in cc

lone_stays : (plan : Plan) (p : Part) (o : Option Begun) → o ≡ None → p.stays ≡ true → IsPartOf plan o p → ⊥
lone_stays plan p (Some b) none stays is = cc
lone_stays plan p None none stays is = let e : ◌≡◌ {A = Bool} true false = sym stays ∙ is.stays in cc

pub refuses : Refuses
refuses = record {
  last = λ c s t is. closed_last c.closed (flat_map wire_of c.staying ++ last_wire c.last) s t is;
  unfinished = λ to_head old_client wire r. let e : ◌≡◌ {A = Bool} true false = r.part refl in absurd (cc);
  old = λ plan b p fields more old some is. no_interim p.interims fields more (is.new_client old) some;
  lone = λ plan p none stays is. lone_stays plan p p.from none stays is;
}
