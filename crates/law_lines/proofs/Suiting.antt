-- What was heard of a body suits its framing: it has as many bytes as are told, and its pieces are short.
use Rattle.std.proofs.Common.{◌≡◌, inl, inr, ℕ, zero, suc, ◌+◌, ◌≤◌, Bool, true, false, List, [], ◌∷◌, ◌++◌, length, drop, refl, ap, ◌∙◌, sym, subst, arith}
use Rattle.std.specs.List.{list_all}
use Rattle.std.specs.Prelude.{Option, None, Some}
use Rattle.exchange.specs.Heads.{is_bare, length_in, length_of, request_of, up_framing}
use Rattle.law_exchange.specs.Responses.{IsBody, IsMessage}
use Rattle.law_exchange.specs.Traffic.{IsFront}
use Rattle.filter_chain.specs.Items.{bytes_in, size}
use Rattle.filter_chain.specs.declared.item.ChainItem.{ChainItem}
use Rattle.filter_chain.specs.declared.item.ChainItem.TheVariants as items
use Rattle.h1_write.specs.Laws.{is_short}
use Rattle.h1_write.specs.Lines.{OutRequest}
use Rattle.h1_write.specs.Round.{FitsSection, Suits, body_bytes, all_pieces}
use Rattle.h1_model.specs.Framing.{Framing, framing_of}
use Rattle.h1_model.specs.Head.{Head}
use Rattle.h1_model.specs.Length.{BodyLength, nothing, exactly, chunked, until_end}
use Rattle.h1_model.specs.Messages.{due_after, due_behind, request, interim, response, octet, end, trailers, counted, Due, head, body, Step, item, stop, counted_step, StepsTo}
use Rattle.h1_model.specs.Trailers.{piece_limit}
use Rattle.h1_model.specs.Unread.{due_at, Part, head_part, interim_part, piece, trailer_part, Next, part, none, Carries, by_itself, piece_before, IsNext, Reading, Hands, Act, feeds, ends, hands, halts, DoesAll}
use Rattle.worker_model.specs.Steps.{head_item}
use Rattle.law_lines.specs.Heard.{items_of, items_heard, WasHeard}
use Rattle.law_lines.specs.Requests.{is_whole}
use Rattle.law_lines.proofs.Readable.{IsSmall}
use Rattle.law_lines.proofs.Reader.{head_next}

-- ---- a body with a length

record Counts (bytes : List ℕ) (mid : Due) (m : ℕ) : Type 0 where
  left : ℕ
  due : mid ≡ body (counted left)
  adds : length bytes + left ≡ m

counts : (ended : Bool) (asked : Option (List ℕ)) (m : ℕ) (text bytes : List ℕ) (used : ℕ) (mid : Due) → Carries ended asked (body (counted m)) text bytes used mid → Counts bytes mid m
counts ended asked m text [] used mid carries = record { left = m; due = carries.1; adds = omega arith }
counts ended asked zero text (b ∷ bytes) used mid carries = let e : item (octet b) carries.0 carries.2 ≡ counted_step ended asked zero text = carries.3 in absurd (cc)
counts ended asked (suc m) [] (b ∷ bytes) used mid carries = let e : item (octet b) carries.0 carries.2 ≡ counted_step ended asked (suc m) [] = carries.3 in absurd (cc)
counts ended asked (suc m) (c ∷ text) (b ∷ bytes) used mid carries =
    let e : item (octet b) carries.0 carries.2 ≡ item (octet c) 1 (body (counted m)) = carries.3 in
    let due : carries.2 ≡ body (counted m) = cc in
    let later : Counts bytes mid m = counts ended asked m (drop carries.0 (c ∷ text)) bytes carries.1 mid (subst (λ (d : Due). Carries ended asked d (drop carries.0 (c ∷ text)) bytes carries.1 mid) due carries.4) in
    record { left = later.left; due = later.due; adds = omega (arith, later.adds) }

-- what a part leaves of it
abbrev CountedNext : Option (List ℕ) → ℕ → Part → Due → Type 0
CountedNext asked m (head_part h) next = ⊥
CountedNext asked m (interim_part h) next = ⊥
CountedNext asked m (piece bytes false) next = Counts bytes next m
CountedNext asked m (piece bytes true) next = length bytes ≡ m
CountedNext asked m (trailer_part fields) next = ⊥

abbrev AsCounted : Option (List ℕ) → ℕ → Option Next → Type 0
AsCounted asked m None = Unit {0}
AsCounted asked m (Some (none why)) = Unit {0}
AsCounted asked m (Some (part p used next)) = CountedNext asked m p next

alone_counted : (ended : Bool) (asked : Option (List ℕ)) (m : ℕ) (text : List ℕ) → AsCounted asked m (by_itself (counted_step ended asked m text))
alone_counted ended asked zero text = refl
alone_counted ended asked (suc m) [] = tt
alone_counted ended asked (suc m) (b ∷ text) = tt

piece_counted : (ended : Bool) (asked : Option (List ℕ)) (m left used : ℕ) (bytes text : List ℕ) (mid : Due) → mid ≡ body (counted left) → length bytes + left ≡ m
    → AsCounted asked m (Some (piece_before bytes used mid (counted_step ended asked left text)))
piece_counted ended asked m zero used bytes text mid due adds = omega (arith, adds)
piece_counted ended asked m (suc left) used bytes [] mid due adds = record { left = suc left; due = due; adds = adds }
piece_counted ended asked m (suc left) used bytes (b ∷ text) mid due adds = record { left = suc left; due = due; adds = adds }

counted_next : (ended : Bool) (asked : Option (List ℕ)) (m : ℕ) (text : List ℕ) (p : Part) (used : ℕ) (next : Due) → IsNext ended asked (body (counted m)) text (part p used next) → CountedNext asked m p next
counted_next ended asked m text p used next (inl a) = subst (AsCounted asked m) (ap by_itself (sym a.there) ∙ a.is) (alone_counted ended asked m text)
counted_next ended asked m text p used next (inr a) =
    let c : Counts a.bytes a.mid m = counts ended asked m text a.bytes a.used a.mid a.carried in
    let there : a.behind ≡ counted_step ended asked c.left (drop a.used text) = by_due a.mid c.due a.there in
    subst (λ (x : Next). AsCounted asked m (Some x)) (sym (a.is ∙ ap (piece_before a.bytes a.used a.mid) there)) (piece_counted ended asked m c.left a.used a.bytes (drop a.used text) a.mid c.due c.adds)
  where
    by_due : (mid : Due) {left : ℕ} {behind : Step} → mid ≡ body (counted left) → StepsTo ended asked mid (drop a.used text) behind → behind ≡ counted_step ended asked left (drop a.used text)
    by_due mid {left} {behind} is there = subst (λ (d : Due). StepsTo ended asked d (drop a.used text) behind) is there

-- pieces are short
abbrev AsShort : Option Next → Type 0
AsShort None = Unit {0}
AsShort (Some (none why)) = Unit {0}
AsShort (Some (part (head_part h) used next)) = Unit {0}
AsShort (Some (part (interim_part h) used next)) = Unit {0}
AsShort (Some (part (piece bytes last) used next)) = length bytes ≤ piece_limit
AsShort (Some (part (trailer_part fields) used next)) = Unit {0}

alone_short : (s : Step) → AsShort (by_itself s)
alone_short (item (request h) n due) = tt
alone_short (item (interim h) n due) = tt
alone_short (item (response h) n due) = tt
alone_short (item (octet b) n due) = tt
alone_short (item end n due) = omega arith
alone_short (item (trailers fields) n due) = tt
alone_short (stop why) = tt

piece_short : (bytes : List ℕ) (used : ℕ) (mid : Due) (s : Step) → length bytes ≤ piece_limit → AsShort (Some (piece_before bytes used mid s))
piece_short bytes used mid (item (request h) n due) few = few
piece_short bytes used mid (item (interim h) n due) few = few
piece_short bytes used mid (item (response h) n due) few = few
piece_short bytes used mid (item (octet b) n due) few = few
piece_short bytes used mid (item end n due) few = few
piece_short bytes used mid (item (trailers fields) n due) few = few
piece_short bytes used mid (stop why) few = few

short_next : (ended : Bool) (asked : Option (List ℕ)) (due : Due) (text : List ℕ) (next : Next) → IsNext ended asked due text next → AsShort (Some next)
short_next ended asked due text next (inl a) = subst AsShort a.is (alone_short a.step)
short_next ended asked due text next (inr a) = subst (λ (x : Next). AsShort (Some x)) (sym a.is) (piece_short a.bytes a.used a.mid a.behind a.few)

-- ---- all that was heard

abbrev pub AreShort : List ChainItem → Type 0
AreShort [] = Unit {0}
AreShort (i ∷ items) = (length (bytes_in i) ≤ piece_limit) × AreShort items

short_join : (a b : List ChainItem) → AreShort a → AreShort b → AreShort (a ++ b)
short_join [] b e f = f
short_join (i ∷ a) b e f = (e.0, short_join a b e.1 f)

short_of : (p : Part) (used : ℕ) (due : Due) → AsShort (Some (part p used due)) → AreShort (items_of p)
short_of (head_part h) used due is = (omega arith, tt)
short_of (interim_part h) used due is = tt
short_of (piece bytes last) used due is = (is, tt)
short_of (trailer_part fields) used due is = (omega arith, tt)

pub heard_short : (acts : List Act) (old new : Reading) → DoesAll old acts new → AreShort (items_heard acts)
heard_short [] old new does = tt
heard_short (feeds bytes ∷ acts) old new does = heard_short acts does.0 new does.2
heard_short (ends ∷ acts) old new does = heard_short acts does.0 new does.2
heard_short (halts why ∷ acts) old new does = heard_short acts does.0 new does.2
heard_short (hands p ∷ acts) old new does =
    short_join (items_of p) (items_heard acts) (short_of p does.1.used does.1.due (short_next old.ended old.asked old.due old.unread (part p does.1.used does.1.due) does.1.next)) (heard_short acts does.0 new does.2)

pub short_front : (a b : List ChainItem) → AreShort (a ++ b) → AreShort a
short_front [] b are = tt
short_front (i ∷ a) b are = (are.0, short_front a b are.1)

no_items : (a b : List ChainItem) → a ++ b ≡ [] → a ≡ []
no_items [] b is = refl
no_items (i ∷ a) b is = absurd (cc)

-- a whole front of it has as many bytes as were told
pub heard_counted : (acts : List Act) (old new : Reading) (m : ℕ) (came behind : List ChainItem) → old.asked ≡ None → old.due ≡ body (counted m) → DoesAll old acts new → came ++ behind ≡ items_heard acts → IsBody came → is_whole came ≡ true → size came ≡ m
heard_counted [] old new m came behind asked due does front is_body all = let none : came ≡ [] = no_items came behind front in let never : ◌≡◌ {A = Bool} false true = ap is_whole (sym none) ∙ all in absurd (cc)
heard_counted (feeds bytes ∷ acts) old new m came behind asked due does front is_body all =
    heard_counted acts does.0 new m came behind (ap (λ (r : Reading). r.asked) does.1.1 ∙ asked) (ap (λ (r : Reading). r.due) does.1.1 ∙ due) does.2 front is_body all
heard_counted (ends ∷ acts) old new m came behind asked due does front is_body all =
    heard_counted acts does.0 new m came behind (ap (λ (r : Reading). r.asked) does.1 ∙ asked) (ap (λ (r : Reading). r.due) does.1 ∙ due) does.2 front is_body all
heard_counted (halts why ∷ acts) old new m came behind asked due does front is_body all =
    heard_counted acts does.0 new m came behind (ap (λ (r : Reading). r.asked) does.1.is ∙ asked) (ap (λ (r : Reading). r.due) does.1.is ∙ ap (λ d. due_at d old.unread) due) does.2 front is_body all
heard_counted (hands p ∷ acts) old new m came behind asked due does front is_body all =
    by_part p does.1.due (counted_next old.ended old.asked m old.unread p does.1.used does.1.due (subst (λ (d : Due). IsNext old.ended old.asked d old.unread (part p does.1.used does.1.due)) due does.1.next)) (ap (λ (r : Reading). r.due) does.1.is) came front is_body all
    (λ k c due_k front_c body_c all_c. heard_counted acts does.0 new k c behind (ap (λ (r : Reading). r.asked) does.1.is ∙ asked) due_k does.2 front_c body_c all_c)
  where
    by_part : (q : Part) (next : Due) → CountedNext old.asked m q next → does.0.due ≡ next → (c : List ChainItem) → c ++ behind ≡ items_of q ++ items_heard acts → IsBody c → is_whole c ≡ true
        → ((k : ℕ) (d : List ChainItem) → does.0.due ≡ body (counted k) → d ++ behind ≡ items_heard acts → IsBody d → is_whole d ≡ true → size d ≡ k) → size c ≡ m
    by_part (head_part h) next counts is c front_c body_c all_c later = absurd counts
    by_part (interim_part h) next counts is c front_c body_c all_c later = absurd counts
    by_part (trailer_part fields) next counts is c front_c body_c all_c later = absurd counts
    by_part (piece bytes last) next counts is [] front_c body_c all_c later = absurd (cc)
    by_part (piece bytes last) next counts is (items.Head e ∷ d) front_c body_c all_c later = absurd body_c
    by_part (piece bytes last) next counts is (items.Trailers ∷ d) front_c body_c all_c later = absurd (cc)
    by_part (piece bytes false) next counts is (items.Piece got false ∷ d) front_c body_c all_c later =
        let same : got ≡ bytes = cc in
        let rest : d ++ behind ≡ items_heard acts = cc in
        let sum : size d ≡ counts.left = later counts.left d (is ∙ counts.due) rest body_c all_c in
        ap (λ (l : List ℕ). length l + size d) same ∙ (ap (λ k. length bytes + k) sum ∙ counts.adds)
    by_part (piece bytes false) next counts is (items.Piece got true ∷ d) front_c body_c all_c later = absurd (cc)
    by_part (piece bytes true) next counts is (items.Piece got false ∷ d) front_c body_c all_c later = absurd (cc)
    by_part (piece bytes true) next counts is (items.Piece got true ∷ d) front_c body_c all_c later =
        let same : got ≡ bytes = cc in
        ap (λ (l : List ℕ). length l + size d) same ∙ (ap (λ (l : List ChainItem). length bytes + size l) body_c ∙ omega (arith, counts))

-- ---- the request suits its framing

pub suits_of : (h : Head) (filtered : Bool) (q : OutRequest) (heard came : List ChainItem) (now : Reading) → IsSmall (record { length = h.length; told = h.told }) → q.framing ≡ up_framing filtered (request_of h) → WasHeard h heard now → IsFront came heard
    → IsMessage came → is_whole came ≡ true → length (body_bytes q.pieces q.ending) ≡ size came → (AreShort came → list_all is_short (all_pieces q.pieces q.ending) ≡ true) → FitsSection q.ending → (ended : Bool)
    → Suits q.framing q.pieces q.ending ended []
suits_of h filtered q heard came now small framing was front message all sized short fits ended =
    subst (λ (f : Framing). Suits f q.pieces q.ending ended []) (sym framing) (by_length h.length h.told refl refl)
  where
    mid : Reading
    mid = was.does.0

    handed : Hands was.first (head_part h) mid
    handed = was.does.1

    -- what is due after the head
    due_is : mid.due ≡ due_after h
    due_is =
        ap (λ (r : Reading). r.due) handed.is
        ∙ (head_next was.first.ended None was.first.unread (head_part h) handed.used handed.due
        (subst (λ (d : Due). IsNext was.first.ended None d was.first.unread (part (head_part h) handed.used handed.due)) was.due (subst (λ (a : Option (List ℕ)). IsNext was.first.ended a was.first.due was.first.unread (part (head_part h) handed.used handed.due)) was.asked handed.next))).1

    asked_is : mid.asked ≡ None
    asked_is = ap (λ (r : Reading). r.asked) handed.is ∙ was.asked

    are_short : AreShort came
    are_short = short_front came front.0 (subst AreShort (sym (front.1 ∙ was.are)) (omega arith, heard_short was.acts mid now was.does.2))

    -- the body of it
    sized_by : (c : List ChainItem) → c ++ front.0 ≡ head_item h ∷ items_heard was.acts → IsMessage c → is_whole c ≡ true → (n : ℕ) → h.length ≡ exactly n → size c ≡ n
    sized_by [] joined is_message whole_c n len = absurd (cc)
    sized_by (items.Head e ∷ c) joined is_message whole_c n len = by_end e joined is_message whole_c
      where
        flag : is_bare (length_in h.length) ≡ false
        flag = ap (λ b. is_bare (length_in b)) len

        by_end : (e : Bool) → items.Head e ∷ (c ++ front.0) ≡ head_item h ∷ items_heard was.acts → IsMessage (items.Head e ∷ c) → is_whole (items.Head e ∷ c) ≡ true → size (items.Head e ∷ c) ≡ n
        by_end true j m w = let same : true ≡ is_bare (length_in h.length) = cc in let never : ◌≡◌ {A = Bool} true false = same ∙ flag in absurd (cc)
        by_end false j m w =
            let rest : c ++ front.0 ≡ items_heard was.acts = cc in
            omega (arith, heard_counted was.acts mid now n c front.0 asked_is (due_is ∙ ap (due_behind head h.connection) len) was.does.2 rest m w)
    sized_by (items.Piece bytes e ∷ c) joined is_message whole_c n len = absurd is_message
    sized_by (items.Trailers ∷ c) joined is_message whole_c n len = absurd is_message

    none_by : (c : List ChainItem) → c ++ front.0 ≡ head_item h ∷ items_heard was.acts → IsMessage c → is_whole c ≡ true → h.length ≡ nothing → size c ≡ 0
    none_by [] joined is_message whole_c len = absurd (cc)
    none_by (items.Head e ∷ c) joined is_message whole_c len = by_end e joined is_message
      where
        flag : is_bare (length_in h.length) ≡ true
        flag = ap (λ b. is_bare (length_in b)) len

        by_end : (e : Bool) → items.Head e ∷ (c ++ front.0) ≡ head_item h ∷ items_heard was.acts → IsMessage (items.Head e ∷ c) → size (items.Head e ∷ c) ≡ 0
        by_end true j m = ap (λ (l : List ChainItem). 0 + size l) m
        by_end false j m = let same : false ≡ is_bare (length_in h.length) = cc in let never : ◌≡◌ {A = Bool} false true = same ∙ flag in absurd (cc)
    none_by (items.Piece bytes e ∷ c) joined is_message whole_c len = absurd is_message
    none_by (items.Trailers ∷ c) joined is_message whole_c len = absurd is_message

    by_length : (len : BodyLength) (told : Option ℕ) → h.length ≡ len → h.told ≡ told → Suits (framing_of (is_bare (length_in len)) filtered false None told (length_of (length_in len))) q.pieces q.ending ended []
    by_length nothing None is told_is = tt
    by_length nothing (Some n) is told_is = sized ∙ (none_by came (front.1 ∙ was.are) message all is ∙ sym (small.none is n told_is))
    by_length (exactly n) told is told_is = by_filter filtered
      where
        by_filter : (b : Bool) → Suits (framing_of false b false None told (exactly n)) q.pieces q.ending ended []
        by_filter true = (short are_short, fits)
        by_filter false = sized ∙ sized_by came (front.1 ∙ was.are) message all n is
    by_length chunked told is told_is = by_filter filtered
      where
        by_filter : (b : Bool) → Suits (framing_of false b false None told chunked) q.pieces q.ending ended []
        by_filter true = (short are_short, fits)
        by_filter false = (short are_short, fits)
    by_length until_end told is told_is = absurd (small.ends is)
