-- What asking a stage makes of it.
use Rattle.std.proofs.Common.{◌≡◌, ℕ, zero, suc, ◌+◌, Bool, true, false, ◌&&◌, List, [], ◌∷◌, ◌++◌, length, ap, ◌∙◌, sym, refl}
use Rattle.std.specs.Prelude.{Option, None, Some, slice_get, slice_set, nat_le}
use Rattle.std.proofs.lemmas.List.{append_assoc}
use Rattle.contexts.specs.declared.parts.Contexts.{Contexts}
use Rattle.contexts.specs.Stages.{with_buffered, with_bytes}
use Rattle.contexts.specs.Holding.{IsThere}
use Rattle.contexts.proofs.Holding.{holds_its_own}
use Rattle.filter_chain.specs.declared.stage.Stage.{Stage}
use Rattle.filter_chain.specs.declared.item.Ask.{Ask}
use Rattle.filter_chain.specs.declared.item.AskKind.{AskKind}
use Rattle.filter_chain.specs.declared.item.AskKind.TheVariants as kinds
use Rattle.filter_chain.specs.declared.item.Asking.{Asking}
use Rattle.filter_chain.specs.declared.item.Asking.TheVariants.{Nothing, Over, Asks}
use Rattle.filter_chain.specs.declared.item.Held.{Held}
use Rattle.filter_chain.specs.declared.item.Held.TheVariants as held
use Rattle.filter_chain.specs.declared.item.ChainItem.{ChainItem}
use Rattle.filter_chain.specs.declared.item.ChainItem.TheVariants.{Head, Piece, Trailers}
use Rattle.filter_chain.specs.Items.{item_bytes, holds_bytes, is_free}
use Rattle.filter_chain.specs.Chains.{limit, bytes_at, ready, asked, asked_at, ask_stage, ask_item, with_stage, is_any}
use Rattle.filter_chain.specs.Flow.{stage_bytes}
use Rattle.filter_chain.proofs.Picks.{ready_picks}
use Rattle.law_chain.specs.Acts.{AreThere}
use Rattle.law_chain.specs.PassThrough.{bare_at, AreApart}
use Rattle.law_chain.proofs.Alike.{IsSame}
use Rattle.law_chain.proofs.Holding.{HoldBut, but_all, but_changed}
use Rattle.law_chain.specs.Sound.{IsEmpty, AreCalm, CalmFor, IsClean}
use Rattle.law_chain.proofs.Calm.{calm_set, busy_set}

-- what the stage was asked about, and what it and the contexts are then
pub data Taken (h : Contexts) (s : Stage) : Stage → Contexts → AskKind → Type 0 where
  took_head : (end : Bool) (w : List ChainItem) → s.waiting ≡ Head end ∷ w → Taken h s (record s { waiting = w; held = held.Head end }) h kinds.Head
  took_piece : (bytes : List ℕ) (end : Bool) (w : List ChainItem) → s.waiting ≡ Piece bytes end ∷ w
      → Taken h s (record s { waiting = w; held = held.Body end }) (with_buffered h s.vm s.context s.response bytes end) kinds.Piece
  took_trailers : (w : List ChainItem) → s.waiting ≡ Trailers ∷ w → Taken h s (record s { waiting = w; held = held.Trailers (holds_bytes s.held) }) h kinds.Trailers

-- that at a place was asked
pub record Took (h : Contexts) (stages : List Stage) (ask : Ask) (mid : List Stage) (k : Contexts) : Type 0 where
  pub old : Stage
  pub new : Stage
  pub at : slice_get stages ask.stage ≡ Some old
  pub free : is_free old.held ≡ true
  pub mid_is : mid ≡ slice_set stages ask.stage new
  pub taken : Taken h old new k ask.kind

abbrev pub TookFor : Contexts → List Stage → Asking × List Stage × Contexts → Type 0
TookFor h stages (Nothing, mid, k) = Unit {0}
TookFor h stages (Over j, mid, k) = Unit {0}
TookFor h stages (Asks ask, mid, k) = Took h stages ask mid k

took_item : (h : Contexts) (stages : List Stage) (k : ℕ) (s : Stage) (w : List ChainItem) → slice_get stages k ≡ Some s → is_free s.held ≡ true → s.waiting ≡ w
    → TookFor h stages (with_stage k stages (ask_item h k s w))
took_item h stages k s [] at free waits = tt
took_item h stages k s (Head end ∷ w) at free waits =
    record { old = s; new = record s { waiting = w; held = held.Head end }; at = at; free = free; mid_is = refl; taken = took_head end w waits }
took_item h stages k s (Piece bytes end ∷ w) at free waits = by_room (nat_le (length (bytes_at h s) + length bytes) limit) refl
  where
    by_room : (r : Bool) → nat_le (length (bytes_at h s) + length bytes) limit ≡ r → TookFor h stages (with_stage k stages (ask_item h k s (Piece bytes end ∷ w)))
    by_room true is =
        rw is
        (record { old = s; new = record s { waiting = w; held = held.Body end }; at = at; free = free; mid_is = refl; taken = took_piece bytes end w waits })
    by_room false is = rw is tt
took_item h stages k s (Trailers ∷ w) at free waits =
    record { old = s; new = record s { waiting = w; held = held.Trailers (holds_bytes s.held) }; at = at; free = free; mid_is = refl; taken = took_trailers w waits }

free_of : (a b : Bool) → (a && b) ≡ true → b ≡ true
free_of true b is = is
free_of false b is = absurd (cc)

pub took : (h : Contexts) (stages : List Stage) → TookFor h stages (asked h stages)
took h stages = by_ready (ready stages) refl
  where
    by_stage : (k : ℕ) → ready stages ≡ suc k → (o : Option Stage) → slice_get stages k ≡ o → TookFor h stages (ask_stage h k stages o)
    by_stage k is None at = tt
    by_stage k is (Some s) at = took_item h stages k s s.waiting at (free_of (is_any s.waiting) (is_free s.held) (ready_picks stages k s is at)) refl

    by_ready : (n : ℕ) → ready stages ≡ n → TookFor h stages (asked_at h stages n)
    by_ready zero is = tt
    by_ready (suc k) is = by_stage k is (slice_get stages k) refl

-- ---- of what was taken

pub taken_same : {h : Contexts} {s t : Stage} {k : Contexts} {kind : AskKind} → Taken h s t k kind → IsSame s t
taken_same (took_head end w waits) = record { vm = refl; context = refl; response = refl }
taken_same (took_piece bytes end w waits) = record { vm = refl; context = refl; response = refl }
taken_same (took_trailers w waits) = record { vm = refl; context = refl; response = refl }

pub taken_passes : {h : Contexts} {s t : Stage} {k : Contexts} {kind : AskKind} → Taken h s t k kind → s.passes ≡ t.passes
taken_passes (took_head end w waits) = refl
taken_passes (took_piece bytes end w waits) = refl
taken_passes (took_trailers w waits) = refl

-- something waited at it
pub taken_waits : {h : Contexts} {s t : Stage} {k : Contexts} {kind : AskKind} → Taken h s t k kind → IsEmpty s → ⊥
taken_waits (took_head end w waits) empty = cc (sym waits ∙ empty.waiting)
taken_waits (took_piece bytes end w waits) empty = cc (sym waits ∙ empty.waiting)
taken_waits (took_trailers w waits) empty = cc (sym waits ∙ empty.waiting)

pub taken_kept : {h : Contexts} {s t : Stage} {k : Contexts} {kind : AskKind} → Taken h s t k kind → IsThere h s.vm s.context → stage_bytes k t ≡ stage_bytes h s
taken_kept {h} {s} (took_head end w waits) there = ap (λ (l : List ChainItem). bytes_at h s ++ item_bytes l) (sym waits)
taken_kept {h} {s} (took_piece bytes end w waits) there =
    ap (λ (l : List ℕ). l ++ item_bytes w) (holds_its_own.filled_here h s.vm s.context s.response bytes end there)
    ∙ (append_assoc (bytes_at h s) bytes (item_bytes w) ∙ ap (λ (l : List ChainItem). bytes_at h s ++ item_bytes l) (sym waits))
taken_kept {h} {s} (took_trailers w waits) there = ap (λ (l : List ChainItem). bytes_at h s ++ item_bytes l) (sym waits)

pub taken_but : {h : Contexts} {s t : Stage} {k : Contexts} {kind : AskKind} → Taken h s t k kind → (ss : List Stage) (j : ℕ) → slice_get ss j ≡ Some s → AreApart ss → AreThere h ss
    → HoldBut h k j ss
taken_but {h} (took_head end w waits) ss j at apart there = but_all h j ss
taken_but {h} {s} (took_piece bytes end w waits) ss j at apart there = but_changed (with_bytes bytes end) h ss j s at apart there
taken_but {h} (took_trailers w waits) ss j at apart there = but_all h j ss

pub taken_clean : {h : Contexts} {s t : Stage} {k : Contexts} {kind : AskKind} → Taken h s t k kind → holds_bytes s.held ≡ false → IsClean h s → IsClean k t
taken_clean (took_head end w waits) calm clean = λ is. clean calm
taken_clean (took_piece bytes end w waits) calm clean = λ is. absurd (cc)
taken_clean (took_trailers w waits) calm clean = λ is. clean calm

pub taken_calm : {h : Contexts} {s t : Stage} {k : Contexts} {kind : AskKind} → Taken h s t k kind → (ss : List Stage) (j : ℕ) → slice_get ss j ≡ Some s → holds_bytes s.held ≡ false → AreCalm ss
    → CalmFor kind j (slice_set ss j t)
taken_calm {h} {s} (took_head end w waits) ss j at calm all = calm_set ss j (record s { waiting = w; held = held.Head end }) refl all
taken_calm {h} {s} (took_piece bytes end w waits) ss j at calm all = busy_set ss j s (record s { waiting = w; held = held.Body end }) at refl all
taken_calm {h} {s} (took_trailers w waits) ss j at calm all = calm_set ss j (record s { waiting = w; held = held.Trailers (holds_bytes s.held) }) calm all

-- it held nothing
pub held_nothing : (h : Held) → is_free h ≡ true → holds_bytes h ≡ false → h ≡ held.Nothing
held_nothing held.Nothing free calm = refl
held_nothing (held.Head end) free calm = absurd (cc)
held_nothing (held.Body end) free calm = absurd (cc)
held_nothing (held.Trailers body) free calm = absurd (cc)

pub taken_ends : {h : Contexts} {s t : Stage} {k : Contexts} {kind : AskKind} → Taken h s t k kind → s.held ≡ held.Nothing → bare_at t ≡ bare_at s
taken_ends {h} {s} (took_head end w waits) is = λ i. bare_at (record s { waiting = sym waits i; held = sym is i })
taken_ends {h} {s} (took_piece bytes end w waits) is = λ i. bare_at (record s { waiting = sym waits i; held = sym is i })
taken_ends {h} {s} (took_trailers w waits) is =
    ap (λ (g : Held). bare_at (record s { waiting = w; held = held.Trailers (holds_bytes g) })) is ∙ λ i. bare_at (record s { waiting = sym waits i; held = sym is i })
