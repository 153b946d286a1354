-- What holds of every host call.
use Rattle.std.proofs.Common.{Bool, ap, if◌then◌else◌}
use Rattle.contexts.proofs.Isolation.{is_isolated}
use Rattle.abi_model.specs.Asking.{asks}
use Rattle.abi_model.specs.Calls.{Does, called, does, does_made}
use Rattle.abi_model.specs.Rows.{input_bytes}
use Rattle.contexts.specs.Reached.{no_changes}
use Rattle.abi_model.specs.Writing.{writes}
use Rattle.abi_model.specs.Laws.{RangesComeFirst, EffectStands}
use Rattle.abi_model.specs.Isolation.{CallsAreIsolated, WritesAreIsolated, AsksAreIsolated}

pub calls_are_isolated : CallsAreIsolated
calls_are_isolated outside row own args g vm e h k within there same =
    (ap (does outside row own args g) same, is_isolated (λ s. (does outside row own args g s).changes) vm e h k within there same)

pub writes_are_isolated : WritesAreIsolated
writes_are_isolated outside row own args g vm e h k same = ap (writes outside row own args g) same

pub asks_are_isolated : AsksAreIsolated
asks_are_isolated row own args g vm e h k same = ap (asks row own vm args g) same

pub ranges_come_first : RangesComeFirst
ranges_come_first outside row own args g s is =
    ap (λ (b : Bool). if b then does_made outside row args g (own args (input_bytes g.config.store.memory row args) s) else (record { called = called outside g; changes = no_changes })) is

pub effect_stands : EffectStands
effect_stands outside row own args g s is =
    ap (λ (b : Bool). (let d : Does = if b then does_made outside row args g (own args (input_bytes g.config.store.memory row args) s) else (record { called = called outside g; changes = no_changes }) in d).changes) is
