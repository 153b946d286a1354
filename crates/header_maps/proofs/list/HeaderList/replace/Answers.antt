use Rattle.std.proofs.Common.{◌≡◌, List, ap, sym, subst, ◌∙◌, arith, false, None}
use Rattle.std.proofs.lemmas.Grind.{common_steps}
use Rattle.std.specs.List.{list_any}
use Rattle.std.specs.Prelude.{OnOk}
use Rattle.http_header.specs.Token.{lowercase}
use Rattle.header_maps.specs.Faults.{fault_of, add_fault, replace_fault}
use Rattle.header_maps.specs.Headers.{Headers}
use Rattle.header_maps.specs.Operations.{added, replaced}
use Rattle.header_maps.specs.Pairs.{Pair, is_named}
use Rattle.header_maps.proofs.Kept.{listed, headers_put, replace_found, replace_none}
use Rattle.header_maps.proofs.Replacing.{none_named, some_named, with_value_none}
use Rattle.header_maps.proofs.list.HeaderList.replace.Goals as goal

-- no pair has the name
none : (c : goal.After-add) → list_any (is_named (lowercase c.args.name.now)) c.self.inside.items ≡ false
none c =
    none_named (is_named (lowercase c.args.name.now)) c.self.inside.items (sym c.in_default.ensures)

pub returns-in_default-clause-cause : goal.returns-in_default-clause-cause
returns-in_default-clause-cause c =
    c.add.ensures.cause
    ∙ subst (λ (h : Headers). add_fault h c.args.name.now c.args.value.now ≡ replace_fault h c.args.name.now c.args.value.now) c.self.view_is
    (replace_none (listed c.self.inside.kind c.self.inside.items) c.args.name.now c.args.value.now c.self.invariant
    (sym c.if-not-has_name.ensures) (sym c.if-not-has_value.ensures) (none c))

pub returns-in_default-clause-ok : goal.returns-in_default-clause-ok
returns-in_default-clause-ok c =
    let last = sym (with_value_none (lowercase c.args.name.now) c.args.value.now c.self.inside.items (none c)) in
    let same = subst (λ (h : Headers). added h c.args.name.now c.args.value.now ≡ replaced h c.args.name.now c.args.value.now) c.self.view_is
    (ap (λ (ps : List Pair). listed c.self.inside.kind ps) last) in
    subst (λ (h : Headers). OnOk c.add.result (c.add.new.self ≡ h)) same c.add.ensures.ok

pub returns-in_err-put_value-clause-cause : goal.returns-in_err-put_value-clause-cause
returns-in_err-put_value-clause-cause c =
    let named = some_named (is_named (lowercase c.args.name.now)) c.self.inside.items c.in-Some.at (sym c.in-Some.ensures) in
    let right = subst (λ (h : Headers). None ≡ replace_fault h c.args.name.now c.args.value.now) c.self.view_is
    (replace_found (listed c.self.inside.kind c.self.inside.items) c.args.name.now c.args.value.now c.self.invariant
    (sym c.if-not-has_name.ensures) (sym c.if-not-has_value.ensures) named) in
    let free : fault_of c.from_residual.result ≡ None = grind (arith, common_steps) in free ∙ right

pub invariant_of-self-2 : goal.invariant_of-self-2
invariant_of-self-2 c =
    let named = some_named (is_named (lowercase c.args.name.now)) c.self.inside.items c.in-Some.at (sym c.in-Some.ensures) in
    rw (c.tighten.ensures, c.in_ok-put_value.ensures.ok)
    (headers_put c.self.inside.kind c.self.inside.items c.args.name.now c.args.value.now c.self.invariant
    (sym c.if-not-has_name.ensures) (sym c.if-not-has_value.ensures) c.requires named)

pub returns-clause-cause : goal.returns-clause-cause
returns-clause-cause c =
    let named = some_named (is_named (lowercase c.args.name.now)) c.self.inside.items c.in-Some.at (sym c.in-Some.ensures) in
    subst (λ (h : Headers). None ≡ replace_fault h c.args.name.now c.args.value.now) c.self.view_is
    (replace_found (listed c.self.inside.kind c.self.inside.items) c.args.name.now c.args.value.now c.self.invariant
    (sym c.if-not-has_name.ensures) (sym c.if-not-has_value.ensures) named)
