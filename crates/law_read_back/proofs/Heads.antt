-- A head that a list of a request is written as: a reader takes it in, or makes nothing of it.
use Rattle.std.proofs.Common.{◌≡◌, inl, inr, ℕ, ◌+◌, ◌≤◌, Bool, true, false, ◌&&◌, ◌||◌, List, [], ◌∷◌, ◌++◌, map, length, take, drop, get_or, Option, None, Some, Result, Ok, Err, MatchOption, bytes_eq, codes, eqb, refl, ap, ◌∙◌, sym, subst, arith, append_assoc, length-append, length-take-le}
use Rattle.std.proofs.lemmas.Bool.{and_parts, cond-false, eqb-true}
use Rattle.std.proofs.lemmas.List.{append-nil, take-append-drop, length-map}
use Rattle.std.proofs.lemmas.List.Sums.{list_all-from_AllPass}
use Rattle.std.specs.List.{list_all}
use Rattle.std.specs.Prelude.{if◌then◌else◌}
use Rattle.header_maps.specs.Judged.{is_path, is_path_byte}
use Rattle.header_maps.proofs.Shapes.{bytes_are}
use Rattle.h1_write.specs.Lines.{OutRequest, out_wire, in_items}
use Rattle.h1_write.specs.Requests.{IsReadableRequest, method_of, path_of, own_target, request_fields}
use Rattle.h1_write.specs.Round.{body_items, Suits}
use Rattle.h1_write.proofs.Ending.{field_at}
use Rattle.h1_write.proofs.RequestText.{RequestList, request_list}
use Rattle.h1_write.proofs.RequestTree.{tree_of, printed, tree_is}
use Rattle.http_uri.specs.ByteClasses.{is_scheme_byte}
use Rattle.http_uri.specs.Grammar.{IsForm, IsAbsoluteForm}
use Rattle.httparse.specs.Grammar.{RequestHead, IsRequestHead, ReadsRequest, print_request, print_field, print_end, print_version}
use Rattle.httparse.proofs.GrammarLemmas.{request_unique}
use Rattle.h1_model.specs.Framing.{Framing, items_wire, head_wire}
use Rattle.h1_model.specs.Head.{Head, HeadStep, found, not_yet, refused, head_of_target, early_refusal, IsTargeted, pairs_of, IsAnswer, step_of, IsStepAt, SpellsStep}
use Rattle.h1_model.specs.Head as model
use Rattle.h1_model.specs.Lines.{Cut, whole, too_large, unfinished, head_cut, empty_line_bytes, after_empty_lines, is_empty_line, empty_len, whole_lines, head_limit, line_limit}
use Rattle.h1_model.specs.Messages.{Item, Placed, Stop, refusal, item, stop_at, step_from, SpellsHead, Messages}
use Rattle.h1_model.specs.ReadingLaws.{item_at}
use Rattle.h1_model.specs.Target.{origin, asterisk, http, Target, is_options, is_path_value, target_of, GivesTarget, IsTargetOf}
use Rattle.h1_model.proofs.GrammarLines.{AreParts, first_line, whole_lines-head, token_first, request_words-line, request_parts, request_prints, head_fills}
use Rattle.h1_model.proofs.Growth.{head_cut_fits}
use Rattle.h1_model.proofs.Readings.{item_is_no_stop, step_stays}
use Rattle.law_read_back.specs.OneRequest.{IsWritten, IsNeverTwo}
use Rattle.law_read_back.proofs.Fronts.{few_begin, read_as_one, one_begins}

-- ---- a path of a list is no absolute target

scheme_first : (b : ℕ) (name : List ℕ) → list_all is_scheme_byte (b ∷ name) ≡ true → b ≡ 47 → ⊥
scheme_first b name all is =
    let first : is_scheme_byte b ≡ true = (and_parts (is_scheme_byte b) (list_all is_scheme_byte name) all).0 in
    let slash : is_scheme_byte 47 ≡ true = subst (λ (c : ℕ). is_scheme_byte c ≡ true) is first in
    absurd (cc)

no_slash : (name behind : List ℕ) → list_all is_scheme_byte name ≡ true → get_or (name ++ 58 ∷ behind) 0 0 ≡ 47 → ⊥
no_slash [] behind all is = omega (arith, is)
no_slash (b ∷ name) behind all is = scheme_first b name all is

never_absolute : (path scheme authority kept : List ℕ) → is_path path ≡ true → IsAbsoluteForm path scheme authority kept → ⊥
never_absolute path scheme authority kept is f = by_star (bytes_eq path (codes "*")) refl is
  where
    behind : List ℕ
    behind = 47 ∷ 47 ∷ (authority ++ f.tail)

    spelled : path ≡ f.name ++ 58 ∷ behind
    spelled = f.spelled ∙ (append_assoc (f.name ++ codes "://") authority f.tail ∙ append_assoc f.name (codes "://") (authority ++ f.tail))

    by_star : (b : Bool) → bytes_eq path (codes "*") ≡ b → (b || (eqb (get_or path 0 0) 47 && list_all is_path_byte path)) ≡ true → ⊥
    by_star true e x =
        let same : path ≡ codes "*" = bytes_are path (codes "*") e in
        omega (arith, ap length same, ap length spelled, length-append f.name (58 ∷ behind))
    by_star false e x =
        let both = and_parts (eqb (get_or path 0 0) 47) (list_all is_path_byte path) x in
        no_slash f.name behind (list_all-from_AllPass is_scheme_byte f.name f.is_scheme.0) (sym (ap (λ (t : List ℕ). get_or t 0 0) spelled) ∙ eqb-true (get_or path 0 0) 47 both.0)

own : (method path : List ℕ) → is_path path ≡ true → (t : Target) → GivesTarget method path t → t ≡ own_target path
own method path is t gives = by_form gives.scheme gives.authority gives.reads.1 gives.gives
  where
    by_origin : (star options value : Bool) → bytes_eq path (codes "*") ≡ star
        → (if star then (if options then Some (record { form = asterisk; scheme = http; authority = None; path = path }) else None)
        else (if value then Some (record { form = origin; scheme = http; authority = None; path = path }) else None)) ≡ Some t
        → t ≡ own_target path
    by_origin true true value star e =
        let same : record { form = asterisk; scheme = http; authority = None; path = path } ≡ t = cc in
        sym same ∙ ap (λ b. record { form = if b then asterisk else origin; scheme = http; authority = None; path = path }) (sym star)
    by_origin true false value star e = absurd (cc)
    by_origin false options true star e =
        let same : record { form = origin; scheme = http; authority = None; path = path } ≡ t = cc in
        sym same ∙ ap (λ b. record { form = if b then asterisk else origin; scheme = http; authority = None; path = path }) (sym star)
    by_origin false options false star e = absurd (cc)

    by_form : (s a : Option (List ℕ)) → IsForm path s a gives.kept → target_of method path s a ≡ Some t → t ≡ own_target path
    by_form None None f e = by_origin (bytes_eq path (codes "*")) (is_options method) (is_path_value path) refl e
    by_form None (Some a) f e = absurd (cc)
    by_form (Some s) None f e = absurd f
    by_form (Some s) (Some a) f e = absurd (never_absolute path s a gives.kept is f)

-- ---- a head that is found is the one that was written, with a target and with room, and ends where that does

pub record IsFine (framing : Framing) (h : Head) (used : ℕ) : Type 0 where
  pub ends : used ≡ length (print_request (tree_of framing h))
  pub target : GivesTarget (method_of h) (path_of h) (own_target (path_of h))
  pub few : length (request_fields framing h) ≤ line_limit
  pub short : length (print_request (tree_of framing h)) ≤ head_limit

module _ (framing : Framing) (h : Head) (list : RequestList h) (is : IsRequestHead (tree_of framing h)) (body : List ℕ) where
  tree : RequestHead
  tree = tree_of framing h

  text : List ℕ
  text = print_request tree ++ body

  none : empty_line_bytes text ≡ 0
  unfolding text tree
  none =
      let p = request_parts (tree_of framing h) in
      let are : AreParts p = record { words = request_words-line (tree_of framing h) is; fields = is.fields } in
      let lines = whole_lines-head (print_request (tree_of framing h)) p body (request_prints (tree_of framing h)) are refl in
      let behind = 32 ∷ (path_of h ++ 32 ∷ print_version 1) in
      let first : is_empty_line (first_line p) ≡ false =
      ap is_empty_line (append_assoc (method_of h) behind (print_end p.line_end)) ∙ token_first (method_of h) (behind ++ print_end p.line_end) is.method.0 is.method.1 in
      let after = map print_field p.fields ++ print_end p.last ∷ whole_lines body in
      ap empty_len lines ∙ cond-false (is_empty_line (first_line p)) (length (first_line p) + empty_len after) 0 first

  pub fine_of : (hd : Head) (n : ℕ) → SpellsStep (print_request (tree_of framing h) ++ body) (found hd n) → IsFine framing h n
  unfolding text tree
  fine_of hd n spells = by_cut (after_empty_lines all) (ap (λ k. drop k all) none) (head_cut (after_empty_lines all)) refl spells
    where
      all : List ℕ
      all = print_request (tree_of framing h) ++ body

      by_judged : model.IsJudged (method_of h) (path_of h) 1 (pairs_of (tree_of framing h)) (Ok hd) → GivesTarget (method_of h) (path_of h) (own_target (path_of h))
      by_judged judged = by_early (early_refusal (method_of h) 1 (pairs_of (tree_of framing h))) judged
        where
          by_parts : (p : Option Target) → IsTargetOf (method_of h) (path_of h) p → Ok hd ≡ head_of_target (method_of h) 1 (pairs_of (tree_of framing h)) p → GivesTarget (method_of h) (path_of h) (own_target (path_of h))
          by_parts None gives e = absurd (cc)
          by_parts (Some t) gives e = subst (GivesTarget (method_of h) (path_of h)) (own (method_of h) (path_of h) list.path_is t gives) gives

          by_early : (o : Option ℕ) → MatchOption o (IsTargeted (method_of h) (path_of h) 1 (pairs_of (tree_of framing h)) (Ok hd)) (λ k. ◌≡◌ {A = Result Head ℕ} (Ok hd) (Err k))
              → GivesTarget (method_of h) (path_of h) (own_target (path_of h))
          by_early None x = by_parts x.parts x.gives x.is
          by_early (Some k) x = absurd (cc)

      by_head : (rest : List ℕ) (len : ℕ) → n ≡ empty_line_bytes all + len → rest ≡ all → head_cut rest ≡ whole len → (head : RequestHead) → ReadsRequest (take len rest) head [] → model.IsJudged head.method head.target head.minor (pairs_of head) (Ok hd) → IsFine framing h n
      by_head rest len spent same at head reads judged =
          let fits = head_cut_fits rest len at in
          let whole_is : rest ≡ print_request head ++ drop len rest
          = sym (take-append-drop len rest) ∙ ap (λ (t : List ℕ). t ++ drop len rest) (reads.1 ∙ append-nil (print_request head)) in
          let one : head ≡ tree_of framing h = (request_unique rest head (tree_of framing h) (drop len rest) body (reads.0, whole_is) (is, same)).0 in
          let none_first : empty_line_bytes rest ≡ 0 = ap empty_line_bytes same ∙ none in
          let full = head_fills rest len head [] at fits.1 fits.0 none_first reads in
          let few : length (map field_at (request_fields framing h)) ≤ 100 = subst (λ (k : RequestHead). length k.fields ≤ 100) one full.1 in
          let short : length (print_request (tree_of framing h)) ≤ 65536
          = subst (λ (k : RequestHead). length (print_request k) ≤ 65536) one
          (omega (arith, ap length reads.1, length-append (print_request head) [], length-take-le len rest fits.0, fits.1)) in
          record {
            ends = subst (λ (k : RequestHead). n ≡ length (print_request k)) one (omega (arith, spent, none, ap length reads.1, length-append (print_request head) [], length-take-le len rest fits.0));
            target = by_judged (subst (λ (k : RequestHead). model.IsJudged k.method k.target k.minor (pairs_of k) (Ok hd)) one judged);
            few = omega (arith, few, length-map (request_fields framing h) field_at);
            short = short;
          }

      by_answer : (rest : List ℕ) (len : ℕ) → n ≡ empty_line_bytes all + len → rest ≡ all → head_cut rest ≡ whole len → IsAnswer (take len rest) (Ok hd) → IsFine framing h n
      by_answer rest len spent same at (inl a) = by_head rest len spent same at a.head a.reads a.judged
      by_answer rest len spent same at (inr a) = let e : ◌≡◌ {A = Result Head ℕ} (Ok hd) (Err 400) = a.is in absurd (cc)

      by_result : (rest : List ℕ) (len m : ℕ) (answer : Result Head ℕ) → m ≡ empty_line_bytes all + len → rest ≡ all → head_cut rest ≡ whole len → IsAnswer (take len rest) answer → found hd n ≡ step_of m answer → IsFine framing h n
      by_result rest len m (Ok k) spent same at answers e = let one : k ≡ hd = cc in let used : n ≡ m = cc in by_answer rest len (used ∙ spent) same at (subst (λ (j : Head). IsAnswer (take len rest) (Ok j)) one answers)
      by_result rest len m (Err number) spent same at answers e = absurd (cc)

      by_cut : (rest : List ℕ) → rest ≡ all → (cut : Cut) → head_cut rest ≡ cut → IsStepAt IsAnswer 431 (empty_line_bytes all) rest cut (found hd n) → IsFine framing h n
      by_cut rest same (whole len) at x = by_result rest len (empty_line_bytes all + len) x.0 refl same at x.1 x.2
      by_cut rest same too_large at x = absurd (cc)
      by_cut rest same unfinished at x = absurd (cc)

-- ---- so it is never read as two

pub readable_of : (framing : Framing) (h : Head) → IsWritten framing h → GivesTarget (method_of h) (path_of h) (own_target (path_of h)) → length (request_fields framing h) ≤ line_limit
    → length (head_wire framing h) ≤ head_limit → IsReadableRequest framing h
readable_of framing h w target few short =
    record { kind = w.kind; list = w.list; target = target; tail = w.tail; no_host = w.no_host; framed = w.framed; told = w.told; few = few; short = short }

pub never_two : (q : OutRequest) (sent more : List ℕ) → sent ++ more ≡ out_wire q → IsWritten q.framing q.head → Suits q.framing q.pieces q.ending false [] → IsNeverTwo q sent
never_two q sent more front w suits = record {
  front = λ ended items why reads. by_items ended items why reads;
  few = λ ended items why reads. let f = by_items ended items why reads in few_begin (map item_at items) f.0 (in_items q) f.1 (one_begins q w.framed suits);
  one = one_begins q w.framed suits;
}
  where
    list : RequestList q.head
    list = request_list q.head w.kind w.list

    body : List ℕ
    body = items_wire q.framing (body_items q.pieces q.ending)

    same : sent ++ more ≡ print_request (tree_of q.framing q.head) ++ body
    same = front ∙ ap (λ (t : List ℕ). t ++ body) (printed q.framing q.head w.kind)

    readable : (hd : Head) (n : ℕ) → SpellsStep sent (found hd n) → IsReadableRequest q.framing q.head
    readable hd n spells =
        let longer : SpellsStep (sent ++ more) (found hd n) = step_stays None sent more (found hd n) spells (λ e. cc) in
        let fine : IsFine q.framing q.head n
        = fine_of q.framing q.head list (tree_is q.framing q.head list w.tail w.told) body hd n (subst (λ (t : List ℕ). SpellsStep t (found hd n)) same longer) in
        readable_of q.framing q.head w fine.target fine.few (subst (λ (t : List ℕ). length t ≤ head_limit) (sym (printed q.framing q.head w.kind)) fine.short)

    by_items : (ended : Bool) (items : List Placed) (why : Stop) → Messages sent ended None items why → (behind : List Item) × (map item_at items ++ behind ≡ in_items q)
    by_items ended [] why reads = (in_items q, refl)
    by_items ended (p ∷ xs) why reads = by_step reads.2.0 reads.2.1 reads.2.2
      where
        by_step : (s : HeadStep) → SpellsHead None sent s → item p.item reads.0 reads.1 ≡ step_from ended None sent s → (behind : List Item) × (map item_at (p ∷ xs) ++ behind ≡ in_items q)
        by_step (found hd n) spells is = (read_as_one q sent more front (readable hd n spells) suits).front ended (p ∷ xs) why reads
        by_step not_yet spells is = absurd (item_is_no_stop p.item reads.0 reads.1 (stop_at ended None sent) is)
        by_step (refused n) spells is = absurd (item_is_no_stop p.item reads.0 reads.1 (refusal n) is)
