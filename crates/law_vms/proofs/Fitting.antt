-- What each host call writes, asks for and changes of an exchange.
use Rattle.std.proofs.Common.{◌≡◌, ℕ, ◌≤◌, ◌==◌, ◌||◌, ◌&&◌, ◌+◌, ◌-◌, ◌^◌, min, zero, suc, Bool, true, false, cond, length, Option, None, Some, refl, sym, ap, subst, nat_lt, if◌then◌else◌, List, [], ◌∷◌, All, arith, Result, Ok, Err}
use Rattle.std.specs.Prelude.{is_some, bytes_eq}
use Rattle.std.proofs.lemmas.Bool.{ltb-false, false≢true}
use Rattle.std.proofs.lemmas.List.Elements.{All-nil, All-cons}
use Rattle.std.proofs.lemmas.Option.{none-some}
use Rattle.abi_calls.specs.Hosting.{Hosted, of_does, of_writes, of_called, locally, writing, asking, hosting, wasi_hosting}
use Rattle.abi_maps.specs.Buffers.{own_set_buffer_bytes, buffered, held_after, buffer_no}
use Rattle.body_buffers.specs.Bodies.{body_limit}
use Rattle.abi_maps.specs.Maps.{mapped, changing_map, on_map, there, map_in, no_change, set_from, added_to, replaced_in, removed_from, own_set_header_map_pairs, own_add_header_map_value, own_replace_header_map_value, own_remove_header_map_value, own_get_header_map_pairs, own_get_header_map_size, own_get_header_map_value}
use Rattle.abi_maps.specs.Buffers.{own_get_buffer_bytes, own_get_buffer_status}
use Rattle.abi_maps.specs.Streams.{effect_of, on_stream, is_other, is_stream, stream_no, refusing, answer_changes, is_too_late, fields_from, answering_with, answering_in, own_continue_stream, own_close_stream, own_send_local_response}
use Rattle.abi_model.specs.Asking.{Asking, asks}
use Rattle.abi_model.specs.Calls.{called, Made, Own, Does, does_made, answers, changing, reads, only, given}
use Rattle.abi_model.specs.Rows.{all_inside, input_bytes}
use Rattle.abi_model.specs.Table.{arg, row_of, wasi_row_of}
use Rattle.abi_model.specs.Writing.{Writes, Writing, writes_logged, quiet}
use Rattle.abi_model.specs.declared.ends.Gives.TheVariants.{Number, Written}
use Rattle.abi_model.specs.declared.opening.Inputs.{Inputs}
use Rattle.abi_model.specs.declared.table.HostCall.{HostCall}
use Rattle.abi_model.specs.declared.table.HostCall.TheVariants as call
use Rattle.abi_model.specs.declared.table.Param.{Param}
use Rattle.abi_model.specs.declared.table.WasiCall.{WasiCall}
use Rattle.abi_model.specs.declared.table.WasiCall.TheVariants as wasi
use Rattle.abi_services.specs.Callouts.{upstream, is_full_for, is_bad, is_over, refusal_of, has_no_room, request_for, begun_unless, calling_of, calling_by, own_http_call}
use Rattle.abi_services.specs.Data.{own_get_shared_data, own_set_shared_data}
use Rattle.abi_services.specs.Files.{are_inside, pieces, is_file, level_of_file, lines_of, file_written, fd_writes}
use Rattle.abi_services.specs.Local.{own_get_log_level, own_get_current_time, own_set_tick_period, own_set_effective_context, own_done, ticked}
use Rattle.abi_services.specs.Logging.{text_limit, level_at, written, own_log}
use Rattle.abi_services.specs.Metrics.{own_define_metric, own_increment_metric, own_record_metric, own_get_metric}
use Rattle.abi_services.specs.Properties.{own_get_property, own_set_property, set_in, is_fixed, is_past_limit, with_property}
use Rattle.abi_services.specs.Queues.{own_register_shared_queue, own_resolve_shared_queue, own_dequeue_shared_queue, own_enqueue_shared_queue}
use Rattle.abi_services.specs.Wasi.{own_clock_time_get, own_random_get, own_nothing, own_no_sizes, random_limit, words_for, random_bytes}
use Rattle.abi_types.specs.GuestAt.{GuestAt}
use Rattle.contexts.specs.Creating.{itself}
use Rattle.contexts.specs.Keyed.{without_first}
use Rattle.contexts.specs.Reached.{Seen, Changes, no_changes, level_no, contains}
use Rattle.contexts.specs.declared.parts.Effect.{Effect}
use Rattle.contexts.specs.declared.parts.ExchangeView.{ExchangeView}
use Rattle.contexts.specs.declared.parts.Own.{Own as OwnParts}
use Rattle.contexts.specs.declared.parts.Request.{Request}
use Rattle.contexts.specs.declared.parts.EffectKind.{EffectKind}
use Rattle.contexts.specs.declared.parts.EffectKind.TheVariants as what
use Rattle.gate_io.specs.declared.event.Sent.TheVariants as sent
use Rattle.header_maps.specs.Faults.{Fault, set_fault}
use Rattle.header_maps.specs.Headers.{Headers}
use Rattle.header_maps.specs.Operations.{all_set}
use Rattle.header_maps.specs.Pairs.{Pair}
use Rattle.header_maps.specs.declared.kind.ListKind.TheVariants as kinds
use Rattle.pair_codec.specs.Lists.{with_scheme}
use Rattle.pair_codec.specs.Reading.{pairs_in}
use Rattle.law_vms.proofs.Ends.{all_done}
use Rattle.law_vms.specs.Apart.{AllEnds}
use Rattle.law_vms.specs.OwnEffects.{IsLine}

-- ---- what stays of an exchange

abbrev pub view_marks : ExchangeView → Bool × Bool × Bool
view_marks v = (v.is_answered, v.has_ended, v.is_head_out)

abbrev pub KeepsMarks : Option ExchangeView → Option ExchangeView → Type 0
KeepsMarks o None = Unit {0}
KeepsMarks o (Some w) = (v : ExchangeView) × (o ≡ Some v) × (view_marks w ≡ view_marks v)

module _ (vm : ℕ) where
  -- ---- what a call may ask for and change

  -- what the effective context may ask for: a stream may ask all, and any context a callout, whose request names it and its VM, while there is room
  abbrev pub IsAskSeen : Seen → EffectKind → Type 0
  IsAskSeen s (what.Continue is_response) = is_stream s ≡ true
  IsAskSeen s what.Close = is_stream s ≡ true
  IsAskSeen s (what.Answer status fields body) = is_stream s ≡ true
  IsAskSeen s (what.Call q) = (is_some s.reach.own ≡ true) × (q.vm ≡ vm) × (q.context ≡ s.common.effective) × (is_full_for s ≡ false)

  -- an effect of the context that is effective
  abbrev pub IsEffectSeen : Seen → Effect → Type 0
  IsEffectSeen s e = (e.context ≡ s.common.effective) × IsAskSeen s e.what

  abbrev pub Fits : Seen → Changes → Type 0
  Fits s c = All (IsEffectSeen s) c.effects × KeepsMarks s.reach.exchange c.exchange × (length c.effects ≤ 1)

  abbrev pub IsGood : Seen → Hosted → Type 0
  IsGood s h = All (IsLine s.common.level) h.lines × Fits s h.changes

  abbrev FitsAll : Own → Type 0
  FitsAll own = (args : List ℕ) (inputs : Inputs) (s : Seen) → Fits s (own args inputs s).changes

  abbrev LinesFit : Writing → Type 0
  LinesFit own = (args : List ℕ) (inputs : Inputs) (s : Seen) → All (IsLine s.common.level) (own args inputs s).lines

  no_lines : (n : ℕ) → All (IsLine n) []
  no_lines n = All-nil (IsLine n)

  nothing_fits : (s : Seen) → Fits s no_changes
  nothing_fits s = (All-nil (IsEffectSeen s), tt, omega arith)

  -- ---- of a row

  does_fits : (b : Bool) (d e : Does) (s : Seen) → Fits s d.changes → Fits s e.changes → IsGood s (of_does (if b then d else e))
  does_fits true d e s here there = (no_lines s.common.level, here)
  does_fits false d e s here there = (no_lines s.common.level, there)

  local_good : (outside : ℕ) (row : List Param) (own : Own) → FitsAll own → (args : List ℕ) (g : GuestAt) (s : Seen) → AllEnds (IsGood s) (locally outside row own args g s)
  local_good outside row own fits args g s =
      does_fits (all_inside g.config.store.memory row 0 args) (does_made outside row args g (own args (input_bytes g.config.store.memory row args) s)) (record { called = called outside g; changes = no_changes }) s
      (fits args (input_bytes g.config.store.memory row args) s) (nothing_fits s)

  writes_fit : (b : Bool) (w x : Writes) (s : Seen) → All (IsLine s.common.level) w.lines → All (IsLine s.common.level) x.lines → IsGood s (of_writes (if b then w else x))
  writes_fit true w x s here there = (here, nothing_fits s)
  writes_fit false w x s here there = (there, nothing_fits s)

  writing_good : (outside : ℕ) (row : List Param) (own : Writing) → LinesFit own → (args : List ℕ) (g : GuestAt) (s : Seen) → AllEnds (IsGood s) (writing outside row own args g s)
  writing_good outside row own fits args g s =
      writes_fit (all_inside g.config.store.memory row 0 args) (writes_logged outside row args g (own args (input_bytes g.config.store.memory row args) s)) (record { called = called outside g; lines = [] }) s
      (fits args (input_bytes g.config.store.memory row args) s) (no_lines s.common.level)

  asking_good : (row : List Param) (own : Asking) (args : List ℕ) (g : GuestAt) (s : Seen) → AllEnds (IsGood s) (asking row own vm args g s)
  asking_good row own args g s = all_done (IsGood s) (asks row own vm args g s) of_called (λ c. (no_lines s.common.level, nothing_fits s))

  -- ---- lines

  level_is : (n : ℕ) → n ≤ 5 → level_no (level_at n) ≡ n
  level_is zero few = refl
  level_is (suc zero) few = refl
  level_is (suc (suc zero)) few = refl
  level_is (suc (suc (suc zero))) few = refl
  level_is (suc (suc (suc (suc zero)))) few = refl
  level_is (suc (suc (suc (suc (suc zero))))) few = refl
  level_is (suc (suc (suc (suc (suc (suc n)))))) few = absurd (omega (arith, few))

  one_line : (n : ℕ) (level : ℕ) (text : List ℕ) → n ≤ level_no (level_at level) → length text ≤ text_limit → All (IsLine n) (sent.Log (level_at level) text ∷ [])
  one_line n level text high short = All-cons (IsLine n) (sent.Log (level_at level) text) [] (high, short) (no_lines n)

  written_if : (b : Bool) (level : ℕ) (text : List ℕ) (s : Seen) → nat_lt level s.common.level ≡ b → level ≤ 5 → length text ≤ text_limit
      → All (IsLine s.common.level) (if b then quiet 0 else (record { outcome = only 0; lines = sent.Log (level_at level) text ∷ [] })).lines
  written_if true level text s is known short = no_lines s.common.level
  written_if false level text s is known short =
      one_line s.common.level level text (subst (λ n. s.common.level ≤ n) (sym (level_is level known)) (ltb-false level s.common.level is)) short

  either_false : (a b : Bool) → (a || b) ≡ false → (a ≡ false) × (b ≡ false)
  either_false true b is = absurd (false≢true (sym is))
  either_false false b is = (refl, is)

  logging_if : (b : Bool) (level : ℕ) (text : List ℕ) (s : Seen) → (nat_lt 5 level || nat_lt text_limit (length text)) ≡ b
      → All (IsLine s.common.level) (if b then quiet 2 else written level text s).lines
  logging_if true level text s is = no_lines s.common.level
  logging_if false level text s is =
      let both = either_false (nat_lt 5 level) (nat_lt text_limit (length text)) is in
      written_if (nat_lt level s.common.level) level text s refl (ltb-false 5 level both.0) (ltb-false text_limit (length text) both.1)

  log_fits : LinesFit own_log
  log_fits args inputs s = logging_if (nat_lt 5 (arg args 0) || nat_lt text_limit (length inputs.first)) (arg args 0) inputs.first s refl

  file_level : (b : Bool) (least : ℕ) (text : List ℕ) → nat_lt (cond b 2 4) least ≡ false → length text ≤ text_limit → All (IsLine least) (sent.Log (level_at (cond b 2 4)) text ∷ [])
  file_level true least text high short = one_line least 2 text (ltb-false 2 least high) short
  file_level false least text high short = one_line least 4 text (ltb-false 4 least high) short

  lines_if : (b : Bool) (fd : ℕ) (text : List ℕ) (s : Seen) → nat_lt (level_of_file fd) s.common.level ≡ b → length text ≤ text_limit
      → All (IsLine s.common.level) (if b then [] else sent.Log (level_at (level_of_file fd)) text ∷ [])
  lines_if true fd text s is short = no_lines s.common.level
  lines_if false fd text s is short = file_level (fd == 1) s.common.level text is short

  short_if : (b : Bool) (fd : ℕ) (text : List ℕ) (s : Seen) → nat_lt text_limit (length text) ≡ b
      → All (IsLine s.common.level) (if b then quiet 28 else (record { outcome = given (Number (length text)); lines = lines_of fd text s })).lines
  short_if true fd text s is = no_lines s.common.level
  short_if false fd text s is = lines_if (nat_lt (level_of_file fd) s.common.level) fd text s refl (ltb-false text_limit (length text) is)

  file_if : (b : Bool) (fd : ℕ) (text : List ℕ) (s : Seen)
      → All (IsLine s.common.level) (if b then (if nat_lt text_limit (length text) then quiet 28 else (record { outcome = given (Number (length text)); lines = lines_of fd text s })) else quiet 8).lines
  file_if true fd text s = short_if (nat_lt text_limit (length text)) fd text s refl
  file_if false fd text s = no_lines s.common.level

  fd_good : (args : List ℕ) (g : GuestAt) (s : Seen) → IsGood s (of_writes (fd_writes args g s))
  fd_good args g s =
      let text = pieces g.config.store.memory (arg args 1) (arg args 2) in
      writes_fit (all_inside g.config.store.memory (wasi_row_of wasi.FdWrite) 0 args && are_inside g.config.store.memory (arg args 1) (arg args 2))
      (writes_logged 21 (wasi_row_of wasi.FdWrite) args g (file_written (arg args 0) text s)) (record { called = called 21 g; lines = [] }) s
      (file_if (is_file (arg args 0)) (arg args 0) text s) (no_lines s.common.level)

  -- ---- what stays of an exchange, and what is asked for

  made_if : (b : Bool) (m n : Made) (s : Seen) → Fits s m.changes → Fits s n.changes → Fits s (if b then m else n).changes
  made_if true m n s here there = here
  made_if false m n s here there = there

  ticked_fits : (now n : ℕ) (o : Option ℕ) (s : Seen) → Fits s (ticked now n o).changes
  ticked_fits now n None s = nothing_fits s
  ticked_fits now n (Some root) s = nothing_fits s

  effective_fits : FitsAll own_set_effective_context
  effective_fits args inputs s = made_if (contains (arg args 0) s.common.ids) (changing (record no_changes { effective = Some (arg args 0) })) (answers 2) s (nothing_fits s) (nothing_fits s)

  done_fits : FitsAll own_done
  done_fits args inputs s =
      made_if (contains s.common.effective s.common.ids && contains s.common.effective s.common.waiting)
      (changing (record no_changes { waiting = Some (without_first itself s.common.effective s.common.waiting) })) (answers 1) s (nothing_fits s) (nothing_fits s)

  buffered_fits : (n : ℕ) (o : Option OwnParts) (r : Result (List ℕ) ℕ) (s : Seen) → Fits s (buffered n o r).changes
  buffered_fits n o (Err status) s = nothing_fits s
  buffered_fits n None (Ok bytes) s = nothing_fits s
  buffered_fits n (Some o) (Ok bytes) s = nothing_fits s

  buffer_fits : FitsAll own_set_buffer_bytes
  buffer_fits args inputs s =
      let n = buffer_no s.common.is_tcp (arg args 0) in
      buffered_fits n s.reach.own (held_after n (arg args 1) (arg args 2) inputs.first s.reach) s

  mapped_fits : (n : ℕ) (o : Option ExchangeView) (r : Result Headers ℕ) (s : Seen) → s.reach.exchange ≡ o → Fits s (mapped n o r).changes
  mapped_fits n o (Err status) s is = nothing_fits s
  mapped_fits n None (Ok l) s is = nothing_fits s
  mapped_fits n (Some v) (Ok l) s is = (All-nil (IsEffectSeen s), (v, is, refl), omega arith)

  map_fits : (n : ℕ) (f : Headers → Result Headers ℕ) (s : Seen) → Fits s (changing_map n f s).changes
  map_fits n f s =
      made_if (nat_lt 5 n) (answers (no_change n s)) (mapped n s.reach.exchange (on_map (there (map_in n s.reach.exchange)) f)) s (nothing_fits s)
      (mapped_fits n s.reach.exchange (on_map (there (map_in n s.reach.exchange)) f) s refl)

  one_effect : (w : EffectKind) (s : Seen) → IsAskSeen s w → All (IsEffectSeen s) (effect_of w s).effects
  one_effect w s is = All-cons (IsEffectSeen s) (record { context = s.common.effective; what = w }) [] (refl, is) (All-nil (IsEffectSeen s))

  stream_fits : (n : ℕ) (w : EffectKind) (s : Seen) (b : Bool) → (b ≡ true → IsAskSeen s w) → Fits s (on_stream n w s b).changes
  stream_fits n w s false may = nothing_fits s
  stream_fits n w s true may = made_if (nat_lt 1 n) (answers 12) (changing (effect_of w s)) s (nothing_fits s) (one_effect w s (may refl), tt, omega arith)

  continue_fits : FitsAll own_continue_stream
  continue_fits args inputs s =
      let n = stream_no s.common.is_tcp (arg args 0) in
      made_if (nat_lt 3 n) (answers 2) (on_stream n (what.Continue (n == 1)) s (is_stream s)) s (nothing_fits s) (stream_fits n (what.Continue (n == 1)) s (is_stream s) (λ is. is))

  close_fits : FitsAll own_close_stream
  close_fits args inputs s =
      let n = stream_no s.common.is_tcp (arg args 0) in
      made_if (nat_lt 3 n) (answers 2) (on_stream n what.Close s (is_stream s)) s (nothing_fits s) (stream_fits n what.Close s (is_stream s) (λ is. is))

  with_fits : (status : ℕ) (body : List ℕ) (r : Result Headers ℕ) (v : ExchangeView) (s : Seen) → is_stream s ≡ true → s.reach.exchange ≡ Some v → Fits s (answering_with status body r v s).changes
  with_fits status body (Err n) v s on is = nothing_fits s
  with_fits status body (Ok fields) v s on is =
      made_if (nat_lt body_limit (length body)) (answers 10) (changing (answer_changes status fields body v s)) s (nothing_fits s)
      (one_effect (what.Answer status fields body) s on, (v, is, refl), omega arith)

  in_fits : (status : ℕ) (body headers : List ℕ) (o : Option ExchangeView) (s : Seen) → s.common.is_tcp ≡ false → s.reach.exchange ≡ o → Fits s (answering_in status body headers o s).changes
  in_fits status body headers None s http is = nothing_fits s
  in_fits status body headers (Some v) s http is =
      let on : is_stream s ≡ true = λ i. if http i then is_other s.common.effective s.reach.root else is_some (is i) in
      made_if (is_too_late v) (answers 2) (answering_with status body (fields_from headers) v s) s (nothing_fits s) (with_fits status body (fields_from headers) v s on is)

  kind_fits : (b : Bool) (status : ℕ) (body headers : List ℕ) (s : Seen) → s.common.is_tcp ≡ b → Fits s (if b then reads (refusing body headers s) else answering_in status body headers s.reach.exchange s).changes
  kind_fits true status body headers s is = nothing_fits s
  kind_fits false status body headers s is = in_fits status body headers s.reach.exchange s is refl

  answer_fits : FitsAll own_send_local_response
  answer_fits args inputs s =
      made_if (nat_lt (arg args 0) 200 || nat_lt 599 (arg args 0)) (answers 2)
      (if s.common.is_tcp then reads (refusing inputs.second inputs.third s) else answering_in (arg args 0) inputs.second inputs.third s.reach.exchange s) s
      (nothing_fits s) (kind_fits s.common.is_tcp (arg args 0) inputs.second inputs.third s refl)

  -- a callout, which is not refused where there is no room
  abbrev refusal_by : (bad over no_room : Bool) → Option ℕ
  refusal_by bad over no_room = if bad then Some 2 else if over || no_room then Some 10 else None

  no_refusal : (bad over no_room : Bool) → refusal_by bad over no_room ≡ None → no_room ≡ false
  no_refusal true over no_room is = absurd (none-some 2 (sym is))
  no_refusal false true no_room is = absurd (none-some 10 (sym is))
  no_refusal false false true is = absurd (none-some 10 (sym is))
  no_refusal false false false is = refl

  ask_fits : (r : Option ℕ) (q : Request) (s : Seen) → (r ≡ None → IsAskSeen s (what.Call q)) → Fits s (begun_unless r q s).changes
  ask_fits (Some status) q s may = nothing_fits s
  ask_fits None q s may = (one_effect (what.Call q) s (may refl), tt, omega arith)

  faults_fit : (headers trailers : Option Fault) (q : Request) (body : List ℕ) (s : Seen) → is_some s.reach.own ≡ true → q.vm ≡ vm → q.context ≡ s.common.effective
      → Fits s (begun_unless (refusal_of headers trailers (has_no_room body s)) q s).changes
  faults_fit headers trailers q body s is of_vm of_context =
      ask_fits (refusal_of headers trailers (has_no_room body s)) q s
      (λ none. (
        is,
        of_vm,
        of_context,
        (either_false (nat_lt body_limit (length body)) (is_full_for s) (no_refusal (is_bad headers || is_bad trailers) (is_over headers || is_over trailers) (has_no_room body s) none)).1,
      ))

  pairs_fit : (headers trailers : Option (List Pair)) (body : List ℕ) (timeout : ℕ) (s : Seen) → is_some s.reach.own ≡ true → Fits s (calling_of vm headers body trailers timeout s).changes
  pairs_fit None trailers body timeout s is = nothing_fits s
  pairs_fit (Some headers) None body timeout s is = nothing_fits s
  pairs_fit (Some headers) (Some trailers) body timeout s is =
      faults_fit (set_fault kinds.Request (with_scheme headers)) (set_fault kinds.Plain trailers) (request_for vm (all_set kinds.Request (with_scheme headers)) body (all_set kinds.Plain trailers) timeout s) body s is refl refl

  own_fits : (inputs : Inputs) (timeout : ℕ) (o : Option OwnParts) (s : Seen) → s.reach.own ≡ o → Fits s (calling_by vm inputs timeout o s).changes
  own_fits inputs timeout None s is = nothing_fits s
  own_fits inputs timeout (Some o) s is =
      made_if (bytes_eq inputs.first upstream) (calling_of vm (pairs_in inputs.second) inputs.third (pairs_in inputs.fourth) timeout s) (answers 2) s
      (pairs_fit (pairs_in inputs.second) (pairs_in inputs.fourth) inputs.third timeout s (ap is_some is)) (nothing_fits s)

  call_fits : FitsAll (own_http_call vm)
  call_fits args inputs s = own_fits inputs (arg args 8) s.reach.own s refl

  set_fits : (path value : List ℕ) (o : Option OwnParts) (s : Seen) → Fits s (set_in path value s o).changes
  set_fits path value None s = nothing_fits s
  set_fits path value (Some o) s =
      made_if (is_fixed path s) (answers 2) (if is_past_limit path value o then answers 10 else changing (record no_changes { own = Some (with_property path value o) })) s (nothing_fits s)
      (made_if (is_past_limit path value o) (answers 10) (changing (record no_changes { own = Some (with_property path value o) })) s (nothing_fits s) (nothing_fits s))

  -- ---- EACH CALL

  pub env_good : (c : HostCall) (now : ℕ) (args : List ℕ) (g : GuestAt) (s : Seen) → AllEnds (IsGood s) (hosting c now vm args g s)
  env_good call.Log now args g s = writing_good 6 (row_of call.Log) own_log log_fits args g s
  env_good call.GetLogLevel now args g s = local_good 6 (row_of call.GetLogLevel) own_get_log_level (λ a i t. nothing_fits t) args g s
  env_good call.GetCurrentTimeNanoseconds now args g s = local_good 6 (row_of call.GetCurrentTimeNanoseconds) (own_get_current_time now) (λ a i t. nothing_fits t) args g s
  env_good call.SetTickPeriodMilliseconds now args g s = local_good 6 (row_of call.SetTickPeriodMilliseconds) (own_set_tick_period now) (λ a i t. ticked_fits now (arg a 0) t.reach.root t) args g s
  env_good call.SetEffectiveContext now args g s = local_good 6 (row_of call.SetEffectiveContext) own_set_effective_context effective_fits args g s
  env_good call.Done now args g s = local_good 6 (row_of call.Done) own_done done_fits args g s
  env_good call.GetBufferBytes now args g s = local_good 6 (row_of call.GetBufferBytes) own_get_buffer_bytes (λ a i t. nothing_fits t) args g s
  env_good call.GetBufferStatus now args g s = local_good 6 (row_of call.GetBufferStatus) own_get_buffer_status (λ a i t. nothing_fits t) args g s
  env_good call.SetBufferBytes now args g s = local_good 6 (row_of call.SetBufferBytes) own_set_buffer_bytes buffer_fits args g s
  env_good call.GetHeaderMapPairs now args g s = local_good 6 (row_of call.GetHeaderMapPairs) own_get_header_map_pairs (λ a i t. nothing_fits t) args g s
  env_good call.SetHeaderMapPairs now args g s = local_good 6 (row_of call.SetHeaderMapPairs) own_set_header_map_pairs (λ a i t. map_fits (arg a 0) (set_from i.first) t) args g s
  env_good call.GetHeaderMapSize now args g s = local_good 6 (row_of call.GetHeaderMapSize) own_get_header_map_size (λ a i t. nothing_fits t) args g s
  env_good call.GetHeaderMapValue now args g s = local_good 6 (row_of call.GetHeaderMapValue) own_get_header_map_value (λ a i t. nothing_fits t) args g s
  env_good call.AddHeaderMapValue now args g s = local_good 6 (row_of call.AddHeaderMapValue) own_add_header_map_value (λ a i t. map_fits (arg a 0) (added_to i.first i.second) t) args g s
  env_good call.ReplaceHeaderMapValue now args g s = local_good 6 (row_of call.ReplaceHeaderMapValue) own_replace_header_map_value (λ a i t. map_fits (arg a 0) (replaced_in i.first i.second) t) args g s
  env_good call.RemoveHeaderMapValue now args g s = local_good 6 (row_of call.RemoveHeaderMapValue) own_remove_header_map_value (λ a i t. map_fits (arg a 0) (removed_from i.first) t) args g s
  env_good call.ContinueStream now args g s = local_good 6 (row_of call.ContinueStream) own_continue_stream continue_fits args g s
  env_good call.CloseStream now args g s = local_good 6 (row_of call.CloseStream) own_close_stream close_fits args g s
  env_good call.SendLocalResponse now args g s = local_good 6 (row_of call.SendLocalResponse) own_send_local_response answer_fits args g s
  env_good call.HttpCall now args g s = local_good 6 (row_of call.HttpCall) (own_http_call vm) call_fits args g s
  env_good call.GetSharedData now args g s = asking_good (row_of call.GetSharedData) own_get_shared_data args g s
  env_good call.SetSharedData now args g s = asking_good (row_of call.SetSharedData) own_set_shared_data args g s
  env_good call.RegisterSharedQueue now args g s = asking_good (row_of call.RegisterSharedQueue) own_register_shared_queue args g s
  env_good call.ResolveSharedQueue now args g s = asking_good (row_of call.ResolveSharedQueue) own_resolve_shared_queue args g s
  env_good call.DequeueSharedQueue now args g s = asking_good (row_of call.DequeueSharedQueue) own_dequeue_shared_queue args g s
  env_good call.EnqueueSharedQueue now args g s = asking_good (row_of call.EnqueueSharedQueue) own_enqueue_shared_queue args g s
  env_good call.GetProperty now args g s = local_good 6 (row_of call.GetProperty) own_get_property (λ a i t. nothing_fits t) args g s
  env_good call.SetProperty now args g s = local_good 6 (row_of call.SetProperty) own_set_property (λ a i t. set_fits i.first i.second t.reach.own t) args g s
  env_good call.DefineMetric now args g s = asking_good (row_of call.DefineMetric) own_define_metric args g s
  env_good call.IncrementMetric now args g s = asking_good (row_of call.IncrementMetric) own_increment_metric args g s
  env_good call.RecordMetric now args g s = asking_good (row_of call.RecordMetric) own_record_metric args g s
  env_good call.GetMetric now args g s = asking_good (row_of call.GetMetric) own_get_metric args g s

  random_fits : FitsAll own_random_get
  random_fits args inputs s =
      made_if (nat_lt random_limit (arg args 1)) (answers 28)
      (record {
        status = 0;
        changes = record no_changes { random_place = Some (min (s.common.random_place + words_for (arg args 1)) (2 ^ 64 - 1)) };
        gives = Written (random_bytes (arg args 1) s.common.random_key s.common.random_place);
      }) s (nothing_fits s) (nothing_fits s)

  pub wasi_good : (c : WasiCall) (now : ℕ) (args : List ℕ) (g : GuestAt) (s : Seen) → AllEnds (IsGood s) (wasi_hosting c now vm args g s)
  wasi_good wasi.FdWrite now args g s = fd_good args g s
  wasi_good wasi.ClockTimeGet now args g s = local_good 21 (wasi_row_of wasi.ClockTimeGet) (own_clock_time_get now) (λ a i t. nothing_fits t) args g s
  wasi_good wasi.RandomGet now args g s = local_good 21 (wasi_row_of wasi.RandomGet) own_random_get random_fits args g s
  wasi_good wasi.EnvironGet now args g s = local_good 21 (wasi_row_of wasi.EnvironGet) own_nothing (λ a i t. nothing_fits t) args g s
  wasi_good wasi.ArgsGet now args g s = local_good 21 (wasi_row_of wasi.ArgsGet) own_nothing (λ a i t. nothing_fits t) args g s
  wasi_good wasi.EnvironSizesGet now args g s = local_good 21 (wasi_row_of wasi.EnvironSizesGet) own_no_sizes (λ a i t. nothing_fits t) args g s
  wasi_good wasi.ArgsSizesGet now args g s = local_good 21 (wasi_row_of wasi.ArgsSizesGet) own_no_sizes (λ a i t. nothing_fits t) args g s
  wasi_good wasi.ProcExit now args g s = (no_lines s.common.level, nothing_fits s)
