-- No call that is linked takes more than 16 values, and what is linked has the type of its target.
use Rattle.std.specs.Prelude.{◌≡◌, ◌≤◌, ℕ, Bool, true, false, if◌then◌else◌, List, [], ◌∷◌, Option, Some, None, length, nat_le, refl}
use Rattle.std.proofs.Common.{sym, subst, arith}
use Rattle.std.proofs.lemmas.Bool.{and_parts, leb-true}
use Rattle.wasm_syntax.specs.declared.types.ValueType.{ValueType}
use Rattle.wasm_syntax.specs.declared.types.ValueType.TheVariants.{I32, I64}
use Rattle.wasm_syntax.specs.declared.types.FunctionType.{FunctionType}
use Rattle.wasm_store.specs.declared.links.Judged.{Judged}
use Rattle.wasm_store.specs.declared.links.Judged.TheVariants.{Linked}
use Rattle.abi_model.specs.declared.table.HostCall.{HostCall}
use Rattle.abi_model.specs.declared.table.HostCall.TheVariants as call
use Rattle.abi_model.specs.declared.table.WasiCall.{WasiCall}
use Rattle.abi_model.specs.declared.table.WasiCall.TheVariants as wasi
use Rattle.abi_links.specs.declared.target.ImportTarget.{ImportTarget}
use Rattle.abi_links.specs.declared.target.ImportTarget.TheVariants as target
use Rattle.abi_model.specs.Table.{row_of, wasi_row_of}
use Rattle.abi_links.specs.Judging.{types_in, wasi_results, same_type, same_types, has_type, is_lenient, fits_target, misfit, target_of, judged_by, judged_of}

if_linked : (b : Bool) (x : Judged) → (x ≡ Linked → ⊥) → (if b then Linked else x) ≡ Linked → b ≡ true
if_linked true x apart is = refl
if_linked false x apart is = absurd (apart is)

misfits : (k : ImportTarget) → misfit k ≡ Linked → ⊥
misfits (target.Proxy c) is = cc
misfits target.OtherProxy is = cc
misfits target.MemoryGrowth is = cc
misfits (target.Wasi c) is = cc
misfits target.OtherWasi is = cc

-- WHAT IS LINKED is a target of its type
pub linked_fits : (o : Option ImportTarget) (t : FunctionType) → judged_by o t ≡ Linked → (k : ImportTarget) × (o ≡ Some k) × (fits_target k t ≡ true)
linked_fits None t is = absurd (cc)
linked_fits (Some k) t is = (k, refl, if_linked (fits_target k t) (misfit k) (misfits k) is)

type_is : (t u : ValueType) → same_type t u ≡ true → t ≡ u
type_is I32 I32 same = refl
type_is I32 I64 same = absurd (cc)
type_is I64 I32 same = absurd (cc)
type_is I64 I64 same = refl

pub types_are : (ts us : List ValueType) → same_types ts us ≡ true → ts ≡ us
types_are [] [] same = refl
types_are [] (u ∷ us) same = absurd (cc)
types_are (t ∷ ts) [] same = absurd (cc)
types_are (t ∷ ts) (u ∷ us) same =
    let h = and_parts (same_type t u) (same_types ts us) same in
    let first : t ≡ u = type_is t u h.0 in
    let rest : ts ≡ us = types_are ts us h.1 in cc

pub has_types : (takes gives : List ValueType) (t : FunctionType) → has_type takes gives t ≡ true → (t.parameters ≡ takes) × (t.results ≡ gives)
has_types takes gives t is =
    let h = and_parts (same_types t.parameters takes) (same_types t.results gives) is in
    (types_are t.parameters takes h.0, types_are t.results gives h.1)

pub lenient_gives : (t : FunctionType) → is_lenient t ≡ true → (length t.parameters ≤ 16) × (t.results ≡ I32 ∷ [])
lenient_gives t is =
    let h = and_parts (nat_le (length t.parameters) 16) (same_types t.results (I32 ∷ [])) is in
    (leb-true (length t.parameters) 16 h.0, types_are t.results (I32 ∷ []) h.1)

-- ONE LEMMA for each table: no row is longer
rows_are_short : (c : HostCall) → length (types_in (row_of c)) ≤ 16
rows_are_short call.Log = omega arith
rows_are_short call.GetLogLevel = omega arith
rows_are_short call.GetCurrentTimeNanoseconds = omega arith
rows_are_short call.SetTickPeriodMilliseconds = omega arith
rows_are_short call.SetEffectiveContext = omega arith
rows_are_short call.Done = omega arith
rows_are_short call.GetBufferBytes = omega arith
rows_are_short call.GetBufferStatus = omega arith
rows_are_short call.SetBufferBytes = omega arith
rows_are_short call.GetHeaderMapPairs = omega arith
rows_are_short call.SetHeaderMapPairs = omega arith
rows_are_short call.GetHeaderMapSize = omega arith
rows_are_short call.GetHeaderMapValue = omega arith
rows_are_short call.AddHeaderMapValue = omega arith
rows_are_short call.ReplaceHeaderMapValue = omega arith
rows_are_short call.RemoveHeaderMapValue = omega arith
rows_are_short call.ContinueStream = omega arith
rows_are_short call.CloseStream = omega arith
rows_are_short call.SendLocalResponse = omega arith
rows_are_short call.HttpCall = omega arith
rows_are_short call.GetSharedData = omega arith
rows_are_short call.SetSharedData = omega arith
rows_are_short call.RegisterSharedQueue = omega arith
rows_are_short call.ResolveSharedQueue = omega arith
rows_are_short call.DequeueSharedQueue = omega arith
rows_are_short call.EnqueueSharedQueue = omega arith
rows_are_short call.GetProperty = omega arith
rows_are_short call.SetProperty = omega arith
rows_are_short call.DefineMetric = omega arith
rows_are_short call.IncrementMetric = omega arith
rows_are_short call.RecordMetric = omega arith
rows_are_short call.GetMetric = omega arith

wasi_rows_are_short : (c : WasiCall) → length (types_in (wasi_row_of c)) ≤ 16
wasi_rows_are_short wasi.FdWrite = omega arith
wasi_rows_are_short wasi.ClockTimeGet = omega arith
wasi_rows_are_short wasi.RandomGet = omega arith
wasi_rows_are_short wasi.EnvironGet = omega arith
wasi_rows_are_short wasi.ArgsGet = omega arith
wasi_rows_are_short wasi.EnvironSizesGet = omega arith
wasi_rows_are_short wasi.ArgsSizesGet = omega arith
wasi_rows_are_short wasi.ProcExit = omega arith

short_by : (ts us : List ValueType) → ts ≡ us → length us ≤ 16 → length ts ≤ 16
short_by ts us same h = subst (λ (vs : List ValueType). length vs ≤ 16) (sym same) h

fits_short : (k : ImportTarget) (t : FunctionType) → fits_target k t ≡ true → length t.parameters ≤ 16
fits_short (target.Proxy c) t is = short_by t.parameters (types_in (row_of c)) (has_types (types_in (row_of c)) (I32 ∷ []) t is).0 (rows_are_short c)
fits_short target.OtherProxy t is = (lenient_gives t is).0
fits_short target.MemoryGrowth t is = short_by t.parameters (I32 ∷ []) (has_types (I32 ∷ []) [] t is).0 (omega arith)
fits_short (target.Wasi c) t is = short_by t.parameters (types_in (wasi_row_of c)) (has_types (types_in (wasi_row_of c)) (wasi_results c) t is).0 (wasi_rows_are_short c)
fits_short target.OtherWasi t is = (lenient_gives t is).0

pub linked_is_short : (home name : List ℕ) (t : FunctionType) → judged_of home name t ≡ Linked → length t.parameters ≤ 16
linked_is_short home name t is = let h = linked_fits (target_of home name) t is in fits_short h.0 t h.2
