-- A sum, look by look.
use Rattle.std.proofs.Common.{◌≡◌, ◌≢◌, ℕ, suc, ◌+◌, ◌%◌, ◌^◌, ◌<◌, ◌≤◌, List, [], ◌∷◌, ◌++◌, length, get_or, refl, ap, sym, subst, ◌∙◌, arith, append_assoc, length-append, sum}
use Rattle.std.proofs.lemmas.List.{get_or_append_left}
use Rattle.std.proofs.lemmas.List.Sums.{fold-append}
use mathlib.Core.Logic.{dite}
use native.Mathlib.Decide.{ℕ_discrete}
use Rattle.std.proofs.lemmas.List.{append-nil}
use Rattle.metric_table.specs.Places.{column_of, last_seen, place_of}
use Rattle.metric_table.specs.Seats.{Counting, Looked}
use Rattle.metric_table.specs.Steps.{look_at}
use Rattle.metric_table.specs.declared.view.Look.{Look}
use Rattle.metric_table.proofs.Keeps.{last_else}
use Rattle.store_model.specs.declared.metric.MetricKind.{MetricKind}
use Rattle.store_model.specs.declared.metric.MetricKind.TheVariants.{Counter}
use Rattle.store_model.specs.declared.metric.MetricReply.TheVariants.{Total}
use Rattle.metric_seats.specs.Places.{Metered, Reads, Summed, looks_over}

looks_snoc : (kind : MetricKind) (id n : ℕ) (rs : List ℕ) (r : ℕ) → looks_over kind id n (rs ++ r ∷ []) ≡ looks_over kind id n rs ++ look_at (place_of (n + length rs) kind id) r ∷ []
looks_snoc kind id n [] r = ap (λ k. look_at (place_of k kind id) r ∷ []) (let e : n ≡ n + 0 = omega arith in e)
looks_snoc kind id n (x ∷ rs) r = ap (λ l. look_at (place_of n kind id) x ∷ l) (looks_snoc kind id (suc n) rs r
    ∙ ap (λ k. looks_over kind id (suc n) rs ++ look_at (place_of k kind id) r ∷ []) (let e : suc n + length rs ≡ n + suc (length rs) = omega arith in e))

-- a look at other words does not change what was seen of one
last_over : (p : ℕ) (kind : MetricKind) (id n : ℕ) (l : List Look) (rs : List ℕ) → ((k : ℕ) → k < length rs → p ≢ place_of (n + k) kind id) → last_seen p (l ++ looks_over kind id n rs) ≡ last_seen p l
last_over p kind id n l [] apart = ap (last_seen p) (append-nil l)
last_over p kind id n l (r ∷ rs) apart =
    ap (last_seen p) (sym (append_assoc l (look_at (place_of n kind id) r ∷ []) (looks_over kind id (suc n) rs)))
    ∙ (last_over p kind id (suc n) (l ++ look_at (place_of n kind id) r ∷ []) rs (λ k h e. apart (suc k) (omega arith) (e ∙ ap (λ i. place_of i kind id) (let s : suc n + k ≡ n + suc k = omega arith in s)))
    ∙ last_else (place_of n kind id) p l r (λ e. apart 0 (omega arith) (e ∙ ap (λ i. place_of i kind id) (let s : n ≡ n + 0 = omega arith in s))))

-- the words of the workers below n were read, one look at each
pub record Summing (v : Counting) (kind : MetricKind) (id n total : ℕ) (w : Counting) : Type 0 where
  pub values : List ℕ
  pub as_many : length values + 1 ≡ n
  pub words : w ≡ record v { looks = v.looks ++ looks_over kind id 1 values }
  pub reads : Reads v kind id values
  pub total_is : total ≡ sum values % 2 ^ 64

pub none_read : (v : Counting) (kind : MetricKind) (id : ℕ) → Summing v kind id 1 0 v
none_read v kind id = record {
  values = [];
  as_many = refl;
  words = λ i. record v { looks = sym (append-nil v.looks) i };
  reads = record { own = λ k h is. absurd (omega arith); rises = λ k h is. absurd (omega arith) };
  total_is = refl;
}

last_of : (xs : List ℕ) (x : ℕ) → get_or (xs ++ x ∷ []) (length xs) 0 ≡ x
last_of [] x = refl
last_of (y ∷ xs) x = last_of xs x

one_more : (v w : Counting) (kind : MetricKind) (id : ℕ) (values : List ℕ) (r : ℕ) → w ≡ record v { looks = v.looks ++ looks_over kind id 1 values } → (u : Counting) → Looked w (suc (length values)) kind id r u → Reads v kind id values → Reads v kind id (values ++ r ∷ [])
one_more v w kind id values r is u looked reads = record {
  own = λ k h same. dite (ℕ_discrete k (length values))
      (λ (e : k ≡ length values). subst (λ i. get_or (values ++ r ∷ []) i 0 ≡ get_or v.own (column_of kind id) 0) (sym e)
      (last_of values r ∙ (looked.own (ap suc (sym e) ∙ (same ∙ sym (ap (λ (x : Counting). x.number) is))) ∙ ap (λ (x : Counting). get_or x.own (column_of kind id) 0) is)))
      (λ (ne : k ≢ length values). let b : k < length values = (let n = length-append values (r ∷ []) in omega arith) in get_or_append_left values (r ∷ []) 0 k b ∙ reads.own k b same);
  rises = λ k h counter. dite (ℕ_discrete k (length values))
      (λ (e : k ≡ length values). subst (λ i. last_seen (place_of (suc i) Counter id) v.looks ≤ get_or (values ++ r ∷ []) i 0) (sym e)
      (let high = looked.rises counter in
      let seen : last_seen (place_of (suc (length values)) Counter id) w.looks ≡ last_seen (place_of (suc (length values)) Counter id) v.looks =
      ap (λ (x : Counting). last_seen (place_of (suc (length values)) Counter id) x.looks) is
      ∙ last_over (place_of (suc (length values)) Counter id) kind id 1 v.looks values (λ j small same. absurd (apart j small (subst (λ c. place_of (suc (length values)) Counter id ≡ place_of (1 + j) c id) counter same))) in
      let last = last_of values r in omega arith))
      (λ (ne : k ≢ length values). let b : k < length values = (let n = length-append values (r ∷ []) in omega arith) in
      let same = get_or_append_left values (r ∷ []) 0 k b in let low = reads.rises k b counter in omega arith);
}
  where
    apart : (j : ℕ) → j < length values → place_of (suc (length values)) Counter id ≡ place_of (1 + j) Counter id → ⊥
    apart j small same = absurd (omega arith)

pub read_more : (v w u : Counting) (kind : MetricKind) (id n total r : ℕ) → Summing v kind id n total w → Looked w n kind id r u → Summing v kind id (n + 1) ((total + r) % 2 ^ 64) u
read_more v w u kind id n total r s looked =
    let here : n ≡ suc (length s.values) = (let e = s.as_many in omega arith) in
    let mine : Looked w (suc (length s.values)) kind id r u = subst (λ k. Looked w k kind id r u) here looked in
    record {
      values = s.values ++ r ∷ [];
      as_many = (let a = length-append s.values (r ∷ []) in let b = s.as_many in omega arith);
      words = looked.seat ∙ ((λ i. record (s.words i) { looks = (ap (λ (x : Counting). x.looks) s.words) i ++ look_at (place_of n kind id) r ∷ [] })
          ∙ (λ i. record v {
            looks = (append_assoc v.looks (looks_over kind id 1 s.values) (look_at (place_of n kind id) r ∷ [])
                ∙ ap (λ l. v.looks ++ l) (ap (λ k. looks_over kind id 1 s.values ++ look_at (place_of k kind id) r ∷ []) (let e : n ≡ 1 + length s.values = (let a = s.as_many in omega arith) in e) ∙ sym (looks_snoc kind id 1 s.values r))) i;
          }));
      reads = one_more v w kind id s.values r s.words u mine s.reads;
      total_is = (let a = s.total_is in let b : sum (s.values ++ r ∷ []) ≡ sum s.values + r = fold-append _ 0 s.values (r ∷ []) in omega arith);
    }

-- all eight words were read
pub read_all : (v w : Metered) (kind : MetricKind) (id total : ℕ) → Summing v.words kind id 9 total w.words → w.names ≡ v.names → Summed v kind id (Total total) w
read_all v w kind id total s names = record {
  names = names;
  values = s.values;
  as_many = (let e = s.as_many in omega arith);
  words = s.words;
  reads = s.reads;
  reply_is = ap Total s.total_is;
}
