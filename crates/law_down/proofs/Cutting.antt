-- Where neighbours are joined, what was in order in two parts still is.
use Rattle.std.proofs.Common.{◌≡◌, ℕ, ◌==◌, Bool, true, false, List, [], ◌∷◌, ◌++◌, refl, ap, ◌∙◌, sym, subst}
use Rattle.std.specs.Prelude.{Option, None, Some, if◌then◌else◌}
use Rattle.gate_io.specs.declared.event.Sent.{Sent}
use Rattle.gate_io.specs.declared.event.Sent.TheVariants as to
use Rattle.gate_io.specs.declared.event.Side.{Side}
use Rattle.gate_io.specs.declared.event.Side.TheVariants.{Down, Up}
use Rattle.send_queue.specs.Joined.{are_one, as_one, behind_all, behind, joined_behind, join_neighbours}
use Rattle.law_down.specs.InOrder.{State, shut, stands, lost, passes, state_after_one, and_then, state_after}

-- ---- bytes behind bytes

passes_same : (side : Side) (bytes : List ℕ) (s t : State) → passes side bytes s ≡ Some t → t ≡ s
passes_same Up [] shut t is = absurd (cc)
passes_same Up [] (stands true) t is = absurd (cc)
passes_same Up [] (stands false) t is = absurd (cc)
passes_same Up [] lost t is = absurd (cc)
passes_same Up (b ∷ bytes) shut t is = absurd (cc)
passes_same Up (b ∷ bytes) (stands true) t is = cc
passes_same Up (b ∷ bytes) (stands false) t is = absurd (cc)
passes_same Up (b ∷ bytes) lost t is = absurd (cc)
passes_same Down [] shut t is = absurd (cc)
passes_same Down [] (stands up) t is = absurd (cc)
passes_same Down [] lost t is = absurd (cc)
passes_same Down (b ∷ bytes) shut t is = absurd (cc)
passes_same Down (b ∷ bytes) (stands up) t is = cc
passes_same Down (b ∷ bytes) lost t is = absurd (cc)

passes_more : (side : Side) (bytes more : List ℕ) (s t : State) → passes side bytes s ≡ Some t → passes side (bytes ++ more) s ≡ Some t
passes_more Up [] more shut t is = absurd (cc)
passes_more Up [] more (stands true) t is = absurd (cc)
passes_more Up [] more (stands false) t is = absurd (cc)
passes_more Up [] more lost t is = absurd (cc)
passes_more Up (b ∷ bytes) more shut t is = absurd (cc)
passes_more Up (b ∷ bytes) more (stands true) t is = is
passes_more Up (b ∷ bytes) more (stands false) t is = absurd (cc)
passes_more Up (b ∷ bytes) more lost t is = absurd (cc)
passes_more Down [] more shut t is = absurd (cc)
passes_more Down [] more (stands up) t is = absurd (cc)
passes_more Down [] more lost t is = absurd (cc)
passes_more Down (b ∷ bytes) more shut t is = absurd (cc)
passes_more Down (b ∷ bytes) more (stands up) t is = is
passes_more Down (b ∷ bytes) more lost t is = absurd (cc)

-- bytes leave the state as it is
bytes_stay : (n m : ℕ) (side : Side) (bytes : List ℕ) (s t : State) → state_after_one n (to.Bytes m side bytes) s ≡ Some t → t ≡ s
bytes_stay n m side bytes s t is = by_test (m == n) refl
  where
    by_test : (b : Bool) → (m == n) ≡ b → t ≡ s
    by_test true here = passes_same side bytes s t (sym (ap (λ b. if b then passes side bytes s else Some s) here) ∙ is)
    by_test false other = let e : Some s ≡ Some t = sym (ap (λ b. if b then passes side bytes s else Some s) other) ∙ is in cc

bytes_more : (n m : ℕ) (side : Side) (bytes more : List ℕ) (s t : State) → state_after_one n (to.Bytes m side bytes) s ≡ Some t → state_after_one n (to.Bytes m side (bytes ++ more)) s ≡ Some t
bytes_more n m side bytes more s t is = by_test (m == n) refl
  where
    by_test : (b : Bool) → (m == n) ≡ b → state_after_one n (to.Bytes m side (bytes ++ more)) s ≡ Some t
    by_test true here = ap (λ b. if b then passes side (bytes ++ more) s else Some s) here ∙ passes_more side bytes more s t (sym (ap (λ b. if b then passes side bytes s else Some s) here) ∙ is)
    by_test false other = ap (λ b. if b then passes side (bytes ++ more) s else Some s) other ∙ (sym (ap (λ b. if b then passes side bytes s else Some s) other) ∙ is)

-- what is joined with another is bytes, and so is the other
joins_stay : (n : ℕ) (first member : Sent) (s t : State) → are_one first member ≡ true → state_after_one n member s ≡ Some t → t ≡ s
joins_stay n (to.Bytes l side bytes) (to.Bytes m other more) s t one is = bytes_stay n m other more s t is
joins_stay n (to.Bytes l side bytes) (to.Connect m) s t one is = absurd (cc)
joins_stay n (to.Bytes l side bytes) (to.Close m other) s t one is = absurd (cc)
joins_stay n (to.Bytes l side bytes) (to.Log level text) s t one is = absurd (cc)
joins_stay n (to.Connect l) member s t one is = absurd (cc)
joins_stay n (to.Close l side) member s t one is = absurd (cc)
joins_stay n (to.Log level text) member s t one is = absurd (cc)

joins_more : (n : ℕ) (first member : Sent) (s t : State) → are_one first member ≡ true → state_after_one n first s ≡ Some t → state_after_one n (as_one first member) s ≡ Some t
joins_more n (to.Bytes l side bytes) (to.Bytes m other more) s t one is = bytes_more n l side bytes more s t is
joins_more n (to.Bytes l side bytes) (to.Connect m) s t one is = absurd (cc)
joins_more n (to.Bytes l side bytes) (to.Close m other) s t one is = absurd (cc)
joins_more n (to.Bytes l side bytes) (to.Log level text) s t one is = absurd (cc)
joins_more n (to.Connect l) member s t one is = absurd (cc)
joins_more n (to.Close l side) member s t one is = absurd (cc)
joins_more n (to.Log level text) member s t one is = absurd (cc)

-- ---- one member after others

-- it comes after them; or it is joined with the last of them
data Comes (n : ℕ) (first : Sent) (rest : List Sent) (member : Sent) : Type 0 where
  apart : behind_all first rest member ≡ first ∷ rest ++ member ∷ [] → Comes n first rest member
  together : (one : Sent) (others : List Sent) → behind_all first rest member ≡ one ∷ others → ((s t : State) → state_after n (first ∷ rest) s ≡ Some t → state_after n (one ∷ others) s ≡ Some t) → ((s t : State) → state_after_one n member s ≡ Some t → t ≡ s)
      → Comes n first rest member

then_more : (n : ℕ) (first : Sent) (a b : List Sent) → ((s t : State) → state_after n a s ≡ Some t → state_after n b s ≡ Some t) → (s t : State) → state_after n (first ∷ a) s ≡ Some t → state_after n (first ∷ b) s ≡ Some t
then_more n first a b more s t = by_state (state_after_one n first s)
  where
    by_state : (o : Option State) → and_then (state_after n a) o ≡ Some t → and_then (state_after n b) o ≡ Some t
    by_state None is = absurd (cc)
    by_state (Some u) is = more u t is

one_more : (n : ℕ) (a b : Sent) → ((s t : State) → state_after_one n a s ≡ Some t → state_after_one n b s ≡ Some t) → (s t : State) → state_after n (a ∷ []) s ≡ Some t → state_after n (b ∷ []) s ≡ Some t
one_more n a b more s t is = by_state (state_after_one n a s) refl is
  where
    by_state : (o : Option State) → state_after_one n a s ≡ o → and_then (state_after n []) o ≡ Some t → and_then (state_after n []) (state_after_one n b s) ≡ Some t
    by_state None at is = absurd (cc)
    by_state (Some u) at is = ap (and_then (state_after n [])) (more s u at) ∙ is

comes : (n : ℕ) (first : Sent) (rest : List Sent) (member : Sent) → Comes n first rest member
comes n first [] member = by_test (are_one first member) refl
  where
    by_test : (b : Bool) → are_one first member ≡ b → Comes n first [] member
    by_test false is = apart (ap (λ b. if b then as_one first member ∷ [] else first ∷ member ∷ []) is)
    by_test true is =
        together (as_one first member) [] (ap (λ b. if b then as_one first member ∷ [] else first ∷ member ∷ []) is) (one_more n first (as_one first member) (λ s t e. joins_more n first member s t is e)) (λ s t e. joins_stay n first member s t is e)
comes n first (next ∷ rest) member = by_rest (comes n next rest member)
  where
    by_rest : Comes n next rest member → Comes n first (next ∷ rest) member
    by_rest (apart is) = apart (ap (λ l. first ∷ l) is)
    by_rest (together one others is more stay) = together first (one ∷ others) (ap (λ l. first ∷ l) is) (then_more n first (next ∷ rest) (one ∷ others) more) stay

-- ---- many

-- the state after the first
after_first : (n : ℕ) (member : Sent) (sent : List Sent) (s t : State) → state_after n (member ∷ sent) s ≡ Some t → (u : State) × (state_after_one n member s ≡ Some u) × (state_after n sent u ≡ Some t)
after_first n member sent s t is = by_state (state_after_one n member s) refl is
  where
    by_state : (o : Option State) → state_after_one n member s ≡ o → and_then (state_after n sent) o ≡ Some t → (u : State) × (state_after_one n member s ≡ Some u) × (state_after n sent u ≡ Some t)
    by_state None at is = absurd (cc)
    by_state (Some u) at is = (u, at, is)

behind_list : (done : List Sent) (y : Sent) (e : List Sent) (z : Sent) → behind (done ++ y ∷ e) z ≡ done ++ behind (y ∷ e) z
behind_list [] y e z = refl
behind_list (d ∷ []) y e z = refl
behind_list (d ∷ f ∷ done) y e z = ap (λ l. d ∷ l) (behind_list (f ∷ done) y e z)

record Some_first (l : List Sent) : Type 0 where
  one : Sent
  others : List Sent
  is : l ≡ one ∷ others

some_first : (first : Sent) (rest : List Sent) (z : Sent) → Some_first (behind_all first rest z)
some_first first [] z = by_test (are_one first z)
  where
    by_test : (b : Bool) → Some_first (if b then as_one first z ∷ [] else first ∷ z ∷ [])
    by_test true = record { one = as_one first z; others = []; is = refl }
    by_test false = record { one = first; others = z ∷ []; is = refl }
some_first first (next ∷ rest) z = record { one = first; others = behind_all next rest z; is = refl }

joined_list : (b done : List Sent) (y : Sent) (e : List Sent) → joined_behind (done ++ y ∷ e) b ≡ done ++ joined_behind (y ∷ e) b
joined_list [] done y e = refl
joined_list (z ∷ b) done y e =
    let f : Some_first (behind_all y e z) = some_first y e z in
    ap (λ l. joined_behind l b) (behind_list done y e z ∙ ap (λ l. done ++ l) f.is) ∙ (joined_list b done f.one f.others ∙ ap (λ l. done ++ joined_behind l b) (sym f.is))

joined_append : (done a b : List Sent) → joined_behind done (a ++ b) ≡ joined_behind (joined_behind done a) b
joined_append done [] b = refl
joined_append done (x ∷ a) b = joined_append (behind done x) a b

module _ (n : ℕ) where
  runs_append : (a b : List Sent) (s t u : State) → state_after n a s ≡ Some t → state_after n b t ≡ Some u → state_after n (a ++ b) s ≡ Some u
  runs_append [] b s t u first later = let same : s ≡ t = cc in ap (state_after n b) same ∙ later
  runs_append (x ∷ a) b s t u first later = let f = after_first n x a s t first in ap (and_then (state_after n (a ++ b))) f.1 ∙ runs_append a b f.0 t u f.2 later

  behind_runs : (done : List Sent) (member : Sent) (s t u : State) → state_after n done s ≡ Some t → state_after_one n member t ≡ Some u → state_after n (behind done member) s ≡ Some u
  behind_runs [] member s t u first later = let same : s ≡ t = cc in ap (and_then (state_after n [])) (ap (state_after_one n member) same ∙ later)
  behind_runs (x ∷ rest) member s t u first later = by_comes (comes n x rest member)
    where
      by_comes : Comes n x rest member → state_after n (behind_all x rest member) s ≡ Some u
      by_comes (apart is) = ap (λ l. state_after n l s) is ∙ runs_append (x ∷ rest) (member ∷ []) s t u first (ap (and_then (state_after n [])) later)
      by_comes (together one others is more stay) = ap (λ l. state_after n l s) is ∙ (more s t first ∙ ap (λ (v : State). Some v) (sym (stay t u later)))

  joined_runs : (b done : List Sent) (s t u : State) → state_after n done s ≡ Some t → state_after n b t ≡ Some u → state_after n (joined_behind done b) s ≡ Some u
  joined_runs [] done s t u first later = first ∙ later
  joined_runs (x ∷ b) done s t u first later = let f = after_first n x b t u later in joined_runs b (behind done x) s f.0 u (behind_runs done x s t f.0 first f.1) f.2

  -- it is in two parts
  pub record Parted (from mid then_so after : State) (sent : List Sent) : Type 0 where
    pub front : List Sent
    pub rest : List Sent
    pub is : sent ≡ front ++ rest
    pub first : state_after n front from ≡ Some mid
    pub later : state_after n rest then_so ≡ Some after

  parted_same : (from mid then_so after : State) (sent others : List Sent) → others ≡ sent → Parted from mid then_so after sent → Parted from mid then_so after others
  parted_same from mid then_so after sent others same p = record { front = p.front; rest = p.rest; is = same ∙ p.is; first = p.first; later = p.later }

  parted_behind : (b : List Sent) (x : Sent) (rest : List Sent) (from mid then_so after : State) → state_after n (x ∷ rest) from ≡ Some mid → state_after n b then_so ≡ Some after → Parted from mid then_so after (joined_behind (x ∷ rest) b)
  parted_behind [] x rest from mid then_so after first later = record { front = x ∷ rest; rest = []; is = sym (nothing_more (x ∷ rest)); first = first; later = later }
    where
      nothing_more : (l : List Sent) → l ++ [] ≡ l
      nothing_more [] = refl
      nothing_more (y ∷ l) = ap (λ m. y ∷ m) (nothing_more l)
  parted_behind (z ∷ b) x rest from mid then_so after first later = by_comes (comes n x rest z) (λ one others u so more. parted_behind b one others from mid u after so more)
    where
      f : (u : State) × (state_after_one n z then_so ≡ Some u) × (state_after n b u ≡ Some after)
      f = after_first n z b then_so after later

      by_comes : Comes n x rest z → ((one : Sent) (others : List Sent) (u : State) → state_after n (one ∷ others) from ≡ Some mid → state_after n b u ≡ Some after → Parted from mid u after (joined_behind (one ∷ others) b))
          → Parted from mid then_so after (joined_behind (behind_all x rest z) b)
      by_comes (apart is) go = record {
        front = x ∷ rest;
        rest = joined_behind (z ∷ []) b;
        is = ap (λ l. joined_behind l b) is ∙ joined_list b (x ∷ rest) z [];
        first = first;
        later = joined_runs b (z ∷ []) then_so f.0 after (ap (and_then (state_after n [])) f.1) f.2;
      }
      by_comes (together one others is more stay) go =
          let same : f.0 ≡ then_so = stay then_so f.0 f.1 in
          parted_same from mid then_so after (joined_behind (one ∷ others) b) (joined_behind (behind_all x rest z) b) (ap (λ l. joined_behind l b) is)
          (go one others then_so (more from mid first) (subst (λ (u : State). state_after n b u ≡ Some after) same f.2))

  -- WHAT IS IN ORDER IN TWO PARTS is so where it is joined
  pub parted : (a b : List Sent) (from mid then_so after : State) → state_after n a from ≡ Some mid → state_after n b then_so ≡ Some after → Parted from mid then_so after (join_neighbours (a ++ b))
  parted a b from mid then_so after first later =
      parted_same from mid then_so after (joined_behind (join_neighbours a) b) (join_neighbours (a ++ b)) (joined_append [] a b) (by_done (join_neighbours a) (joined_runs a [] from from mid refl first))
    where
      by_done : (done : List Sent) → state_after n done from ≡ Some mid → Parted from mid then_so after (joined_behind done b)
      by_done [] is = record { front = []; rest = joined_behind [] b; is = refl; first = is; later = joined_runs b [] then_so then_so after refl later }
      by_done (x ∷ rest) is = parted_behind b x rest from mid then_so after is later
