-- Items of one message, one after the other.
use Rattle.std.proofs.Common.{◌≡◌, Bool, true, false, ◌||◌, List, [], ◌∷◌, ◌++◌, refl, sym, subst}
use Rattle.law_exchange.specs.Responses.{IsBody, IsMessage}
use Rattle.filter_chain.specs.declared.item.ChainItem.{ChainItem}
use Rattle.filter_chain.specs.declared.item.ChainItem.TheVariants.{Head, Piece, Trailers}
use Rattle.worker_model.specs.Steps.{begins_with_head, is_last}
use Rattle.law_lines.proofs.Lives.{NoHead}
use Rattle.law_lines.proofs.Phases.{Phase, fresh, inside, bare, whole as all, run, IsSound}
use Rattle.law_lines.proofs.Story.{is_whole, Proper}

or_false : (b : Bool) → (b || false) ≡ b
or_false true = refl
or_false false = refl

-- an item of a body
abbrev pub OfBody : ChainItem → Type 0
OfBody (Head end) = ⊥
OfBody (Piece bytes end) = Unit {0}
OfBody Trailers = Unit {0}

record More (items : List ChainItem) (item : ChainItem) : Type 0 where
  body : IsBody (items ++ item ∷ [])
  whole : is_whole (items ++ item ∷ []) ≡ is_last item

body_more : (items : List ChainItem) (item : ChainItem) → IsBody items → is_whole items ≡ false → OfBody item → More items item
body_more [] (Head end) body part of = absurd of
body_more [] (Piece bytes false) body part of = record { body = tt; whole = refl }
body_more [] (Piece bytes true) body part of = record { body = refl; whole = refl }
body_more [] Trailers body part of = record { body = refl; whole = refl }
body_more (Head end ∷ items) item body part of = absurd body
body_more (Piece bytes false ∷ items) item body part of = let m : More items item = body_more items item body part of in record { body = m.body; whole = m.whole }
body_more (Piece bytes true ∷ items) item body part of = absurd (cc)
body_more (Trailers ∷ items) item body part of = absurd (cc)

-- a message of which more comes
pub proper_more : (items : List ChainItem) (item : ChainItem) → Proper items false → OfBody item → Proper (items ++ item ∷ []) (is_last item)
proper_more [] item p of = let never : ◌≡◌ {A = Bool} false true = p.0 in absurd (cc)
proper_more (Head false ∷ items) item p of = let m : More items item = body_more items item p.1 p.2 of in (refl, m.body, m.whole)
proper_more (Head true ∷ items) item p of = let never : ◌≡◌ {A = Bool} true false = p.2 in absurd (cc)
proper_more (Piece bytes end ∷ items) item p of = let never : ◌≡◌ {A = Bool} false true = p.0 in absurd (cc)
proper_more (Trailers ∷ items) item p of = let never : ◌≡◌ {A = Bool} false true = p.0 in absurd (cc)

-- a head alone
pub head_proper : (end : Bool) → Proper (Head end ∷ []) end
head_proper true = (refl, refl, refl)
head_proper false = (refl, tt, refl)

-- after the head no head comes
body_none : (b : List ChainItem) → IsBody b → NoHead b
body_none [] body = tt
body_none (Head end ∷ b) body = absurd body
body_none (Piece bytes false ∷ b) body = body_none b body
body_none (Piece bytes true ∷ b) body = subst NoHead (sym body) tt
body_none (Trailers ∷ b) body = subst NoHead (sym body) tt

empty_none : (a b : List ChainItem) → a ++ b ≡ [] → NoHead b
empty_none [] b is = subst NoHead (sym is) tt
empty_none (i ∷ a) b is = absurd (cc)

body_rest : (a b : List ChainItem) → IsBody (a ++ b) → NoHead b
body_rest [] b body = body_none b body
body_rest (Head end ∷ a) b body = absurd body
body_rest (Piece bytes false ∷ a) b body = body_rest a b body
body_rest (Piece bytes true ∷ a) b body = empty_none a b body
body_rest (Trailers ∷ a) b body = empty_none a b body

pub message_rest : (a b : List ChainItem) → begins_with_head a ≡ true → IsMessage (a ++ b) → NoHead b
message_rest [] b begins message = absurd (cc)
message_rest (Head false ∷ a) b begins message = body_rest a b message
message_rest (Head true ∷ a) b begins message = empty_none a b message
message_rest (Piece bytes end ∷ a) b begins message = absurd (cc)
message_rest (Trailers ∷ a) b begins message = absurd (cc)

pub none_begins : (b : List ChainItem) → NoHead b → begins_with_head b ≡ false
none_begins [] none = refl
none_begins (Head end ∷ b) none = absurd none
none_begins (Piece bytes end ∷ b) none = refl
none_begins (Trailers ∷ b) none = refl

pub begins_join : (a b : List ChainItem) → begins_with_head a ≡ true → begins_with_head (a ++ b) ≡ true
begins_join [] b begins = absurd (cc)
begins_join (i ∷ a) b begins = one i begins
  where
    one : (i : ChainItem) → begins_with_head (i ∷ a) ≡ true → begins_with_head (i ∷ a ++ b) ≡ true
    one (Head end) is = refl
    one (Piece bytes end) is = absurd (cc)
    one Trailers is = absurd (cc)

-- a front of a message is one
body_front : (a b : List ChainItem) → IsBody (a ++ b) → IsBody a
body_front [] b body = tt
body_front (Head end ∷ a) b body = absurd body
body_front (Piece bytes false ∷ a) b body = body_front a b body
body_front (Piece bytes true ∷ a) b body = none_front a b body
  where
    none_front : (a b : List ChainItem) → a ++ b ≡ [] → a ≡ []
    none_front [] b is = refl
    none_front (i ∷ a) b is = absurd (cc)
body_front (Trailers ∷ a) b body = none_front a b body
  where
    none_front : (a b : List ChainItem) → a ++ b ≡ [] → a ≡ []
    none_front [] b is = refl
    none_front (i ∷ a) b is = absurd (cc)

pub message_front : (a b : List ChainItem) → IsMessage (a ++ b) → IsMessage a
message_front [] b message = tt
message_front (Head false ∷ a) b message = body_front a b message
message_front (Head true ∷ a) b message = none_front a b message
  where
    none_front : (a b : List ChainItem) → a ++ b ≡ [] → a ≡ []
    none_front [] b is = refl
    none_front (i ∷ a) b is = absurd (cc)
message_front (Piece bytes end ∷ a) b message = absurd message
message_front (Trailers ∷ a) b message = absurd message

-- the phase of a message is sound
rest_sound : (a : List ChainItem) → a ≡ [] → (p : Phase) → IsSound p → IsSound (run p a)
rest_sound [] is p sound = sound
rest_sound (i ∷ a) is p sound = absurd (cc)

body_sound : (a : List ChainItem) → IsBody a → IsSound (run inside a)
body_sound [] body = tt
body_sound (Head end ∷ a) body = absurd body
body_sound (Piece bytes false ∷ a) body = body_sound a body
body_sound (Piece bytes true ∷ a) body = rest_sound a body all tt
body_sound (Trailers ∷ a) body = rest_sound a body all tt

pub message_sound : (a : List ChainItem) → IsMessage a → IsSound (run fresh a)
message_sound [] message = tt
message_sound (Head false ∷ a) message = body_sound a message
message_sound (Head true ∷ a) message = rest_sound a message bare tt
message_sound (Piece bytes end ∷ a) message = absurd message
message_sound (Trailers ∷ a) message = absurd message
