-- The worked examples of who is asked and what is barred.
use Rattle.std.proofs.Common.{◌≡◌, ◌⊎◌, inl, inr, refl, ℕ, Bool, false, List, [], ◌∷◌, ap, ◌∙◌, sym}
use Rattle.std.specs.Prelude.{Option, None, Some}
use Rattle.exchange.specs.declared.types.Exchange.{Exchange}
use Rattle.filter_chain.specs.declared.item.AskKind.{AskKind}
use Rattle.filter_chain.specs.declared.item.AskKind.TheVariants as kinds
use Rattle.filter_host.specs.Course.{Met, heard}
use Rattle.filter_host.specs.Heard.{hands}
use Rattle.h1_model.specs.Head.{Head}
use Rattle.h1_model.specs.Unread.{Reading, head_part, piece}
use Rattle.worker_model.specs.declared.types.ReadBatch.{ReadBatch}
use Rattle.law_filters.proofs.Doing.{never}
use Rattle.law_filters.specs.Every.{IsBarred}
use Rattle.law_filters.specs.EveryExamples.{EveryExamples}

no_piece : (head : Head) (one two : Reading) (bytes : List ℕ) (last : Bool) → ◌≡◌ {A = List Met} (heard (hands (piece bytes last) one) ∷ []) (heard (hands (head_part head) two) ∷ []) → ⊥
no_piece head one two bytes last is = cc is

batch_same : (a b : ReadBatch) → Some a ≡ Some b → a ≡ b
batch_same a b is = cc is

no_kind : ◌≡◌ {A = AskKind} kinds.Piece kinds.Head → ⊥
no_kind is = cc is

no_status : ◌≡◌ {A = Option ℕ} None (Some 503) → ⊥
no_status is = cc is

not_barred : (x : Exchange) → x.has_ended ≡ false → x.is_answered ≡ false → x.refusal ≡ None → IsBarred x → ⊥
not_barred x runs free none (inl (inl ended)) = never x.has_ended runs ended
not_barred x runs free none (inl (inr is)) = never x.is_answered free is.0
not_barred x runs free none (inr is) = no_status (sym none ∙ is.status)

pub every_examples : EveryExamples
every_examples = record {
  begins = λ n head left before after batch reads. record { batch = record { line = n; up = false; batch = batch }; reads = reads; on_line = refl; from_client = refl; left = left; hears = refl };
  piece_begins_none = λ n head left bytes last s is b. no_piece head left b.left bytes last (sym is ∙ b.hears);
  server_begins_none = λ n head r s reads up b. never r.up (ap (λ (q : ReadBatch). q.up) (batch_same r b.batch (sym reads ∙ b.reads)) ∙ b.from_client) up;
  closed = λ entry from steps shut w. never entry.fail_open shut w.fails_open;
  body = λ n vm context a is asked. no_kind (sym is ∙ asked.1.3);
  running = λ x runs free none is. not_barred x runs free none is;
  refused = λ x status unentered nothing. inr (record { status = status; unentered = unentered; nothing = nothing });
}
