-- A callout that is being read has of its answer what its reader handed on; and what its reader says decides as the text does.
use Rattle.std.proofs.Common.{◌≡◌, ℕ, Bool, true, false, List, [], ◌∷◌, ◌++◌, length, map, refl, sym, ap, ◌∙◌, subst, inl}
use Rattle.std.specs.Prelude.{Option, Some, if◌then◌else◌, nat_lt}
use Rattle.std.proofs.lemmas.List.{append-nil, append_assoc}
use Rattle.body_buffers.specs.Bodies.{body_limit}
use Rattle.contexts.specs.declared.parts.CallAnswer.{CallAnswer}
use Rattle.filter_host.specs.Heard as hearing
use Rattle.filter_host.specs.Heard.{Heard, Hears}
use Rattle.h1_model.specs.Length.{BodyLength, nothing, exactly, chunked, until_end}
use Rattle.h1_model.specs.Messages.{Item, request, interim, response, octet, end, trailers, counted, coded, unbounded, Due, head, body, done, Stop, rest, over, refusal, stop, due_behind}
use Rattle.h1_model.specs.Unread.{Part, head_part, interim_part, piece, trailer_part, none, IsNext, Reading, new_reading, reading_with_bytes, reading_with_end, due_at, Hands, Halts, Act, feeds, ends, hands, halts, Does, DoesAll, text_of, end_if, items_in, items_handed}
use Rattle.callouts.specs.Callouts.{no_answer, Taken, has, too_long, takes, is_last, longer, AfterRead, goes_on, waits, answers, breaks, with_part, after_taken, with_reading, after_part, after_stop, after_heard}
use Rattle.callouts.specs.Fates.{Verdict, unfinished, whole, broken, Says}
use Rattle.callouts.specs.declared.types.Callout.{Callout}
use Rattle.law_callouts.proofs.Shapes.{IsBody, PartShape, part_shape, last_done, ended_rests}
use Rattle.law_callouts.proofs.Texts.{head_of, bytes_of, trailers_of, answer_of, same_answer, by_stop, verdict_at, halted_says, burst_says, bytes_join}

-- ---- what was read so far, by what is due

abbrev pub NoHead : List Item → Type 0
NoHead [] = Unit {0}
NoHead (request h ∷ items) = ⊥
NoHead (interim h ∷ items) = NoHead items
NoHead (response h ∷ items) = ⊥
NoHead (octet b ∷ items) = NoHead items
NoHead (end ∷ items) = NoHead items
NoHead (trailers fields ∷ items) = NoHead items

abbrev pub NoTrailers : List Item → Type 0
NoTrailers [] = Unit {0}
NoTrailers (request h ∷ items) = NoTrailers items
NoTrailers (interim h ∷ items) = NoTrailers items
NoTrailers (response h ∷ items) = NoTrailers items
NoTrailers (octet b ∷ items) = NoTrailers items
NoTrailers (end ∷ items) = NoTrailers items
NoTrailers (trailers fields ∷ items) = ⊥

abbrev pub Stage : Due → List Item → Type 0
Stage head items = NoHead items × NoTrailers items
Stage (body b) items = NoTrailers items
Stage done items = Unit {0}

-- ---- one list behind another

head_behind : (a b : List Item) → NoHead a → head_of (a ++ b) ≡ head_of b
head_behind [] b lacks = refl
head_behind (request h ∷ a) b lacks = absurd lacks
head_behind (interim h ∷ a) b lacks = head_behind a b lacks
head_behind (response h ∷ a) b lacks = absurd lacks
head_behind (octet x ∷ a) b lacks = head_behind a b lacks
head_behind (end ∷ a) b lacks = head_behind a b lacks
head_behind (trailers fields ∷ a) b lacks = head_behind a b lacks

head_none : (b : List Item) → NoHead b → head_of b ≡ head_of []
head_none [] lacks = refl
head_none (request h ∷ b) lacks = absurd lacks
head_none (interim h ∷ b) lacks = head_none b lacks
head_none (response h ∷ b) lacks = absurd lacks
head_none (octet x ∷ b) lacks = head_none b lacks
head_none (end ∷ b) lacks = head_none b lacks
head_none (trailers fields ∷ b) lacks = head_none b lacks

head_before : (a b : List Item) → NoHead b → head_of (a ++ b) ≡ head_of a
head_before [] b lacks = head_none b lacks
head_before (request h ∷ a) b lacks = refl
head_before (interim h ∷ a) b lacks = head_before a b lacks
head_before (response h ∷ a) b lacks = refl
head_before (octet x ∷ a) b lacks = head_before a b lacks
head_before (end ∷ a) b lacks = head_before a b lacks
head_before (trailers fields ∷ a) b lacks = head_before a b lacks

trailers_behind : (a b : List Item) → NoTrailers a → trailers_of (a ++ b) ≡ trailers_of b
trailers_behind [] b lacks = refl
trailers_behind (request h ∷ a) b lacks = trailers_behind a b lacks
trailers_behind (interim h ∷ a) b lacks = trailers_behind a b lacks
trailers_behind (response h ∷ a) b lacks = trailers_behind a b lacks
trailers_behind (octet x ∷ a) b lacks = trailers_behind a b lacks
trailers_behind (end ∷ a) b lacks = trailers_behind a b lacks
trailers_behind (trailers fields ∷ a) b lacks = absurd lacks

trailers_none : (b : List Item) → NoTrailers b → trailers_of b ≡ trailers_of []
trailers_none [] lacks = refl
trailers_none (request h ∷ b) lacks = trailers_none b lacks
trailers_none (interim h ∷ b) lacks = trailers_none b lacks
trailers_none (response h ∷ b) lacks = trailers_none b lacks
trailers_none (octet x ∷ b) lacks = trailers_none b lacks
trailers_none (end ∷ b) lacks = trailers_none b lacks
trailers_none (trailers fields ∷ b) lacks = absurd lacks

trailers_before : (a b : List Item) → NoTrailers b → trailers_of (a ++ b) ≡ trailers_of a
trailers_before [] b lacks = trailers_none b lacks
trailers_before (request h ∷ a) b lacks = trailers_before a b lacks
trailers_before (interim h ∷ a) b lacks = trailers_before a b lacks
trailers_before (response h ∷ a) b lacks = trailers_before a b lacks
trailers_before (octet x ∷ a) b lacks = trailers_before a b lacks
trailers_before (end ∷ a) b lacks = trailers_before a b lacks
trailers_before (trailers fields ∷ a) b lacks = refl

no_head_join : (a b : List Item) → NoHead a → NoHead b → NoHead (a ++ b)
no_head_join [] b one two = two
no_head_join (request h ∷ a) b one two = absurd one
no_head_join (interim h ∷ a) b one two = no_head_join a b one two
no_head_join (response h ∷ a) b one two = absurd one
no_head_join (octet x ∷ a) b one two = no_head_join a b one two
no_head_join (end ∷ a) b one two = no_head_join a b one two
no_head_join (trailers fields ∷ a) b one two = no_head_join a b one two

no_trailers_join : (a b : List Item) → NoTrailers a → NoTrailers b → NoTrailers (a ++ b)
no_trailers_join [] b one two = two
no_trailers_join (request h ∷ a) b one two = no_trailers_join a b one two
no_trailers_join (interim h ∷ a) b one two = no_trailers_join a b one two
no_trailers_join (response h ∷ a) b one two = no_trailers_join a b one two
no_trailers_join (octet x ∷ a) b one two = no_trailers_join a b one two
no_trailers_join (end ∷ a) b one two = no_trailers_join a b one two
no_trailers_join (trailers fields ∷ a) b one two = absurd one

-- a piece has neither
octets_no_head : (bytes : List ℕ) (last : Bool) → NoHead (map octet bytes ++ end_if last)
octets_no_head [] true = tt
octets_no_head [] false = tt
octets_no_head (b ∷ bytes) last = octets_no_head bytes last

octets_no_trailers : (bytes : List ℕ) (last : Bool) → NoTrailers (map octet bytes ++ end_if last)
octets_no_trailers [] true = tt
octets_no_trailers [] false = tt
octets_no_trailers (b ∷ bytes) last = octets_no_trailers bytes last

octets_are : (bytes : List ℕ) (last : Bool) → bytes_of (map octet bytes ++ end_if last) ≡ bytes
octets_are [] true = refl
octets_are [] false = refl
octets_are (b ∷ bytes) last = ap (λ (l : List ℕ). b ∷ l) (octets_are bytes last)

-- ---- one part more

-- what a callout takes of a part is what the items with it say
abbrev TakesSo : List Item → Taken → Type 0
TakesSo items (has a) = (a ≡ answer_of items) × (nat_lt body_limit (length (bytes_of items)) ≡ false)
TakesSo items too_long = nat_lt body_limit (length (bytes_of items)) ≡ true

abbrev Fits : List Item → Type 0
Fits items = nat_lt body_limit (length (bytes_of items)) ≡ false

same_fits : (a b : List Item) → bytes_of b ≡ bytes_of a → Fits a → Fits b
same_fits a b same fits = ap (λ (l : List ℕ). nat_lt body_limit (length l)) same ∙ fits

longer_so : (items : List Item) (bytes : List ℕ) (a : CallAnswer) → record a { body = bytes } ≡ answer_of items → bytes ≡ bytes_of items → TakesSo items (longer bytes a)
longer_so items bytes a is same = by (nat_lt body_limit (length bytes)) refl
  where
    sizes : nat_lt body_limit (length bytes) ≡ nat_lt body_limit (length (bytes_of items))
    sizes = ap (λ (l : List ℕ). nat_lt body_limit (length l)) same

    by : (b : Bool) → nat_lt body_limit (length bytes) ≡ b → TakesSo items (if b then too_long else has (record a { body = bytes }))
    by true e = sym sizes ∙ e
    by false e = (is, sym sizes ∙ e)

takes_so : (m : List ℕ) (due : Due) (items : List Item) (p : Part) (next : Due) (a : CallAnswer) → PartShape due p next → Stage due items → a ≡ answer_of items → Fits items → TakesSo (items ++ items_in (Some m) p) (takes p a)
takes_so m head items (head_part h) next a shape stage is fits =
    let more : List Item = response h ∷ [] in
    let bytes : bytes_of (items ++ more) ≡ bytes_of items = bytes_join items more ∙ append-nil (bytes_of items) in (
      ap (λ (x : CallAnswer). record x { fields = h.fields }) is
          ∙ same_answer h.fields (head_of (items ++ more)) (bytes_of items) (bytes_of (items ++ more)) (trailers_of items) (trailers_of (items ++ more))
          (sym (head_behind items more stage.0)) (sym bytes) (sym (trailers_before items more tt)),
      same_fits items (items ++ more) bytes fits,
    )
takes_so m head items (interim_part h) next a shape stage is fits =
    let more : List Item = interim h ∷ [] in
    let bytes : bytes_of (items ++ more) ≡ bytes_of items = bytes_join items more ∙ append-nil (bytes_of items) in (
      is
          ∙ same_answer (head_of items) (head_of (items ++ more)) (bytes_of items) (bytes_of (items ++ more)) (trailers_of items) (trailers_of (items ++ more))
          (sym (head_before items more tt)) (sym bytes) (sym (trailers_before items more tt)),
      same_fits items (items ++ more) bytes fits,
    )
takes_so m head items (piece bytes last) next a shape stage is fits = absurd shape
takes_so m head items (trailer_part fields) next a shape stage is fits = absurd shape
takes_so m (body b) items (head_part h) next a shape stage is fits = absurd shape
takes_so m (body b) items (interim_part h) next a shape stage is fits = absurd shape
takes_so m (body b) items (piece bytes last) next a shape stage is fits =
    let more : List Item = map octet bytes ++ end_if last in
    let joined : bytes_of (items ++ more) ≡ bytes_of items ++ bytes = bytes_join items more ∙ ap (λ (l : List ℕ). bytes_of items ++ l) (octets_are bytes last) in
    let same : a.body ++ bytes ≡ bytes_of (items ++ more) = ap (λ (x : CallAnswer). x.body ++ bytes) is ∙ sym joined in
    longer_so (items ++ more) (a.body ++ bytes) a
    (ap (λ (x : CallAnswer). record x { body = a.body ++ bytes }) is
    ∙ same_answer (head_of items) (head_of (items ++ more)) (a.body ++ bytes) (bytes_of (items ++ more)) (trailers_of items) (trailers_of (items ++ more))
    (sym (head_before items more (octets_no_head bytes last))) same (sym (trailers_before items more (octets_no_trailers bytes last))))
    same
takes_so m (body b) items (trailer_part fields) next a shape stage is fits =
    let more : List Item = trailers fields ∷ [] in
    let bytes : bytes_of (items ++ more) ≡ bytes_of items = bytes_join items more ∙ append-nil (bytes_of items) in (
      ap (λ (x : CallAnswer). record x { trailers = trailers_of more }) is
          ∙ same_answer (head_of items) (head_of (items ++ more)) (bytes_of items) (bytes_of (items ++ more)) (trailers_of more) (trailers_of (items ++ more))
          (sym (head_before items more tt)) (sym bytes) (sym (trailers_behind items more stage)),
      same_fits items (items ++ more) bytes fits,
    )
takes_so m done items p next a shape stage is fits = absurd shape

-- what was read so far, with it
body_stage : (next : Due) (items : List Item) → IsBody next → NoTrailers items → Stage next items
body_stage head items is lacks = absurd is
body_stage (body b) items is lacks = lacks
body_stage done items is lacks = absurd is

behind_stage : (connection : List (List ℕ)) (length : BodyLength) (items : List Item) → NoTrailers items → Stage (due_behind done connection length) items
behind_stage connection nothing items lacks = tt
behind_stage connection (exactly n) items lacks = lacks
behind_stage connection chunked items lacks = lacks
behind_stage connection until_end items lacks = lacks

stage_so : (m : List ℕ) (due : Due) (items : List Item) (p : Part) (next : Due) → PartShape due p next → Stage due items → Stage next (items ++ items_in (Some m) p)
stage_so m head items (head_part h) next shape stage =
    subst (λ (d : Due). Stage d (items ++ response h ∷ [])) (sym shape) (behind_stage h.connection h.length (items ++ response h ∷ []) (no_trailers_join items (response h ∷ []) stage.1 tt))
stage_so m head items (interim_part h) next shape stage =
    subst (λ (d : Due). Stage d (items ++ interim h ∷ [])) (sym shape) (no_head_join items (interim h ∷ []) stage.0 tt, no_trailers_join items (interim h ∷ []) stage.1 tt)
stage_so m head items (piece bytes last) next shape stage = absurd shape
stage_so m head items (trailer_part fields) next shape stage = absurd shape
stage_so m (body b) items (head_part h) next shape stage = absurd shape
stage_so m (body b) items (interim_part h) next shape stage = absurd shape
stage_so m (body b) items (piece bytes true) next shape stage = subst (λ (d : Due). Stage d (items ++ (map octet bytes ++ end_if true))) (sym shape) tt
stage_so m (body b) items (piece bytes false) next shape stage = body_stage next (items ++ (map octet bytes ++ end_if false)) shape (no_trailers_join items (map octet bytes ++ end_if false) stage (octets_no_trailers bytes false))
stage_so m (body b) items (trailer_part fields) next shape stage = subst (λ (d : Due). Stage d (items ++ trailers fields ∷ [])) (sym shape) tt
stage_so m done items p next shape stage = absurd shape

-- what stands in front of the next part counts as read
due_stage : (due : Due) (text : List ℕ) (items : List Item) → Stage due items → Stage (due_at due text) items
due_stage head text items stage = stage
due_stage (body (counted n)) text items stage = stage
due_stage (body (coded connection place)) text items stage = stage
due_stage (body unbounded) text items stage = stage
due_stage done text items stage = stage

-- ---- acts

pub does_join : (a b : List Act) (old mid new : Reading) → DoesAll old a mid → DoesAll mid b new → DoesAll old (a ++ b) new
does_join [] b old mid new first later = subst (λ (r : Reading). DoesAll r b new) first later
does_join (act ∷ a) b old mid new first later = (first.0, first.1, does_join a b first.0 mid new first.2 later)

pub text_join : (a b : List Act) → text_of (a ++ b) ≡ text_of a ++ text_of b
text_join [] b = refl
text_join (feeds bytes ∷ a) b = ap (λ l. bytes ++ l) (text_join a b) ∙ sym (append_assoc bytes (text_of a) (text_of b))
text_join (ends ∷ a) b = text_join a b
text_join (hands p ∷ a) b = text_join a b
text_join (halts why ∷ a) b = text_join a b

pub handed_join : (asked : Option (List ℕ)) (a b : List Act) → items_handed asked (a ++ b) ≡ items_handed asked a ++ items_handed asked b
handed_join asked [] b = refl
handed_join asked (feeds bytes ∷ a) b = handed_join asked a b
handed_join asked (ends ∷ a) b = handed_join asked a b
handed_join asked (hands p ∷ a) b = ap (λ l. items_in asked p ++ l) (handed_join asked a b) ∙ sym (append_assoc (items_in asked p) (items_handed asked a) (items_handed asked b))
handed_join asked (halts why ∷ a) b = handed_join asked a b

does_asked : (act : Act) (old new : Reading) → Does old act new → new.asked ≡ old.asked
does_asked (feeds bytes) old new d = ap (λ (r : Reading). r.asked) d.1
does_asked ends old new d = ap (λ (r : Reading). r.asked) d
does_asked (hands p) old new d = ap (λ (r : Reading). r.asked) d.is
does_asked (halts why) old new d = ap (λ (r : Reading). r.asked) d.is

all_asked : (acts : List Act) (old new : Reading) → DoesAll old acts new → new.asked ≡ old.asked
all_asked [] old new d = ap (λ (r : Reading). r.asked) d
all_asked (act ∷ acts) old new d = all_asked acts d.0 new d.2 ∙ does_asked act old d.0 d.1

-- ---- A CALLOUT THAT IS READ: its reader did these acts on the text that came of its line, and it has of its answer what was handed on

pub record ReadsSo (m text : List ℕ) (ended : Bool) (d : Callout) : Type 0 where
  pub acts : List Act
  pub does : DoesAll (new_reading (Some m)) acts d.reader
  pub text_is : text_of acts ≡ text
  pub ended_is : d.reader.ended ≡ ended
  pub answer_is : d.answer ≡ answer_of (items_handed (Some m) acts)
  pub fits : nat_lt body_limit (length (bytes_of (items_handed (Some m) acts))) ≡ false
  pub stage : Stage d.reader.due (items_handed (Some m) acts)

-- one of which nothing came
pub new_reads : (m : List ℕ) (d : Callout) → d.reader ≡ new_reading (Some m) → d.answer ≡ no_answer → ReadsSo m [] false d
new_reads m d reader answer = record {
  acts = [];
  does = reader;
  text_is = refl;
  ended_is = ap (λ (r : Reading). r.ended) reader;
  answer_is = answer;
  fits = refl;
  stage = subst (λ (r : Reading). Stage r.due []) (sym reader) (tt, tt);
}

-- one act more, by which nothing is handed on
acts_more : (m text : List ℕ) (act : Act) (ended : Bool) (d : Callout) (r : Reading) (more : List ℕ) (now : Bool) → (reads : ReadsSo m text ended d) → Does d.reader act r → text_of (act ∷ []) ≡ more → r.ended ≡ now
    → items_handed (Some m) (act ∷ []) ≡ [] → Stage r.due (items_handed (Some m) reads.acts) → ReadsSo m (text ++ more) now (with_reading r d)
acts_more m text act ended d r more now reads does text_is ended_is none_handed stage =
    let items = items_handed (Some m) reads.acts in
    let same : items_handed (Some m) (reads.acts ++ act ∷ []) ≡ items = handed_join (Some m) reads.acts (act ∷ []) ∙ (ap (λ (l : List Item). items ++ l) none_handed ∙ append-nil items) in
    record {
      acts = reads.acts ++ act ∷ [];
      does = does_join reads.acts (act ∷ []) (new_reading (Some m)) d.reader r reads.does (r, does, refl);
      text_is = text_join reads.acts (act ∷ []) ∙ (ap (λ (l : List ℕ). l ++ text_of (act ∷ [])) reads.text_is ∙ ap (λ (l : List ℕ). text ++ l) text_is);
      ended_is = ended_is;
      answer_is = reads.answer_is ∙ ap answer_of (sym same);
      fits = same_fits items (items_handed (Some m) (reads.acts ++ act ∷ [])) (ap bytes_of same) reads.fits;
      stage = subst (λ (l : List Item). Stage r.due l) (sym same) stage;
    }

-- more text comes, and the text ends
pub feeds_reads : (m text bytes : List ℕ) (d : Callout) → ReadsSo m text false d → ReadsSo m (text ++ bytes) false (with_reading (reading_with_bytes bytes d.reader) d)
feeds_reads m text bytes d reads =
    acts_more m text (feeds bytes) false d (reading_with_bytes bytes d.reader) bytes false reads (reads.ended_is, refl) (append-nil bytes) reads.ended_is refl reads.stage

pub ends_reads : (m text : List ℕ) (d : Callout) → ReadsSo m text false d → ReadsSo m (text ++ []) true (with_reading (reading_with_end d.reader) d)
ends_reads m text d reads = acts_more m text ends false d (reading_with_end d.reader) [] true reads refl refl refl refl reads.stage

-- ---- its reader says something

-- what comes of that
abbrev pub HeardSo : List ℕ → List ℕ → Bool → AfterRead → Type 0
HeardSo m text ended (goes_on d) = ReadsSo m text ended d
HeardSo m text ended (waits d) = (ended ≡ false) × ReadsSo m text ended d × ((v : Verdict) → Says m ended text v → v ≡ unfinished)
HeardSo m text ended (answers d) = (v : Verdict) → Says m ended text v → v ≡ whole d.answer
HeardSo m text ended (breaks d) = (v : Verdict) → Says m ended text v → v ≡ broken

by_fits : (items : List Item) (why : Stop) → Fits items → verdict_at items why ≡ by_stop (answer_of items) why
by_fits items why fits = ap (λ (b : Bool). if b then broken else by_stop (answer_of items) why) fits

module _ (m text : List ℕ) (ended : Bool) (d : Callout) (reads : ReadsSo m text ended d) where
  abbrev so_far : List Item
  so_far = items_handed (Some m) reads.acts

  is_asked : d.reader.asked ≡ Some m
  is_asked = all_asked reads.acts (new_reading (Some m)) d.reader reads.does

  abbrev acts_with : Part → List Act
  acts_with p = reads.acts ++ hands p ∷ []

  abbrev items_then : Part → List Item
  items_then p = so_far ++ items_in (Some m) p

  does_with : (p : Part) (r : Reading) → Hands d.reader p r → DoesAll (new_reading (Some m)) (acts_with p) r
  does_with p r h = does_join reads.acts (hands p ∷ []) (new_reading (Some m)) d.reader r reads.does (r, h, refl)

  text_with : (p : Part) → text_of (acts_with p) ≡ text
  text_with p = text_join reads.acts (hands p ∷ []) ∙ (append-nil (text_of reads.acts) ∙ reads.text_is)

  ended_with : (p : Part) (r : Reading) → Hands d.reader p r → r.ended ≡ ended
  ended_with p r h = ap (λ (x : Reading). x.ended) h.is ∙ reads.ended_is

  items_with : (p : Part) → items_handed (Some m) (acts_with p) ≡ items_then p
  items_with p = handed_join (Some m) reads.acts (hands p ∷ []) ∙ ap (λ (l : List Item). so_far ++ l) (append-nil (items_in (Some m) p))

  -- it is whole with the part
  whole_so : (p : Part) (r : Reading) (a : CallAnswer) → Hands d.reader p r → r.due ≡ done → a ≡ answer_of (items_then p) → Fits (items_then p)
      → (v : Verdict) → Says m ended text v → v ≡ whole a
  whole_so p r a h due is fits v says =
      let stops : IsNext r.ended r.asked r.due r.unread (none over)
      = subst (λ (x : Due). IsNext r.ended r.asked x r.unread (none over)) (sym due) (inl (record { step = stop over; there = refl; is = refl })) in
      halted_says m ended text v (acts_with p) r over says (does_with p r h) (text_with p) (ended_with p r h) stops
      ∙ (ap (λ (l : List Item). verdict_at l over) (items_with p) ∙ (by_fits (items_then p) over fits ∙ ap whole (sym is)))

  -- it goes on after the part
  goes_so : (p : Part) (r : Reading) (a : CallAnswer) → Hands d.reader p r → a ≡ answer_of (items_then p) → Fits (items_then p) → Stage r.due (items_then p)
      → ReadsSo m text ended (record (with_reading r d) { answer = a })
  goes_so p r a h is fits stage = record {
    acts = acts_with p;
    does = does_with p r h;
    text_is = text_with p;
    ended_is = ended_with p r h;
    answer_is = is ∙ ap answer_of (sym (items_with p));
    fits = same_fits (items_then p) (items_handed (Some m) (acts_with p)) (ap bytes_of (items_with p)) fits;
    stage = subst (λ (l : List Item). Stage r.due l) (sym (items_with p)) stage;
  }

  -- its body is too long with the part
  bursts_so : (p : Part) (r : Reading) → Hands d.reader p r → nat_lt body_limit (length (bytes_of (items_then p))) ≡ true → (v : Verdict) → Says m ended text v → v ≡ broken
  bursts_so p r h burst v says =
      burst_says m ended text v (acts_with p) r says (does_with p r h) (text_with p) (ended_with p r h)
      (ap (λ (l : List Item). nat_lt body_limit (length (bytes_of l))) (items_with p) ∙ burst)

  hands_so : (p : Part) (r : Reading) → Hands d.reader p r → HeardSo m text ended (after_part p r d)
  hands_so p r h = by_taken (takes p d.answer) (takes_so m d.reader.due so_far p r.due d.answer shape reads.stage reads.answer_is reads.fits)
    where
      shape : PartShape d.reader.due p r.due
      shape = part_shape m d.reader p r is_asked h

      staged : Stage r.due (items_then p)
      staged = stage_so m d.reader.due so_far p r.due shape reads.stage

      by_last : (last : Bool) (a : CallAnswer) → is_last p ≡ last → a ≡ answer_of (items_then p) → Fits (items_then p) → HeardSo m text ended (with_part last (record (with_reading r d) { answer = a }))
      by_last true a last is fits = whole_so p r a h (last_done d.reader.due p r.due last shape) is fits
      by_last false a last is fits = goes_so p r a h is fits staged

      by_taken : (t : Taken) → TakesSo (items_then p) t → HeardSo m text ended (after_taken (is_last p) (with_reading r d) t)
      by_taken (has a) so = by_last (is_last p) a refl so.0 so.1
      by_taken too_long so = bursts_so p r h so

  -- it has lacks further part
  says_why : (why : Stop) (r : Reading) → Halts d.reader why r → (v : Verdict) → Says m ended text v → v ≡ by_stop d.answer why
  says_why why r h v says =
      halted_says m ended text v reads.acts d.reader why says reads.does reads.text_is reads.ended_is h.next
      ∙ (by_fits so_far why reads.fits ∙ ap (λ (a : CallAnswer). by_stop a why) (sym reads.answer_is))

  not_ended : (r : Reading) → Halts d.reader rest r → (e : Bool) → ended ≡ e → ended ≡ false
  not_ended r h false is = is
  not_ended r h true is =
      absurd (ended_rests m d.reader.due d.reader.unread
      (subst (λ (e : Bool). IsNext e (Some m) d.reader.due d.reader.unread (none rest)) (reads.ended_is ∙ is)
      (subst (λ (a : Option (List ℕ)). IsNext d.reader.ended a d.reader.due d.reader.unread (none rest)) is_asked h.next)))

  rests_so : (r : Reading) → Halts d.reader rest r → ReadsSo m text ended (with_reading r d)
  rests_so r h =
      subst (λ (t : List ℕ). ReadsSo m t ended (with_reading r d)) (append-nil text)
      (acts_more m text (halts rest) ended d r [] ended reads h refl (ap (λ (x : Reading). x.ended) h.is ∙ reads.ended_is) refl
      (subst (λ (x : Due). Stage x so_far) (sym (ap (λ (x : Reading). x.due) h.is)) (due_stage d.reader.due d.reader.unread so_far reads.stage)))

  halts_so : (why : Stop) (r : Reading) → Halts d.reader why r → HeardSo m text ended (after_stop why r d)
  halts_so rest r h = (not_ended r h ended refl, rests_so r h, says_why rest r h)
  halts_so over r h = says_why over r h
  halts_so (refusal number) r h = says_why (refusal number) r h

-- WHAT A CALLOUT'S READER SAYS decides as the whole text does
pub hears_so : (m text : List ℕ) (ended : Bool) (d : Callout) (h : Heard) → ReadsSo m text ended d → Hears d.reader h → HeardSo m text ended (after_heard h d)
hears_so m text ended d (hearing.hands p r) reads h = hands_so m text ended d reads p r h
hears_so m text ended d (hearing.halts why r) reads h = halts_so m text ended d reads why r h
