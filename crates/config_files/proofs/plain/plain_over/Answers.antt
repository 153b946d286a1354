use Rattle.std.proofs.Common.{◌≡◌, ℕ, ◌<◌, List, [], map, length, string_bytes, get_or, ap, sym, ◌∙◌, arith, add-one}
use Rattle.std.proofs.lemmas.List.{length-map}
use Rattle.gate_config.specs.declared.entries.VmEntry.{VmEntry}
use Rattle.gate_config.specs.Given.{Given, given}
use Rattle.config_files.specs.Plain.{plain_over, vms_over, with_module}
use Rattle.config_files.proofs.Over.{all_named, first_is, length-over, length-so_far, mapped, one_named, so_far}
use Rattle.config_files.proofs.plain.plain_over.Goals as goal

pub loop-place-init : goal.loop-place-init
loop-place-init c = first_is (map string_bytes c.args.paths.now) _ c.in_ok-config.config c.in_ok-config.ensures (omega (arith, c.requires, length-map c.args.paths.now string_bytes))

pub name_module-requires : goal.name_module-requires
name_module-requires c =
    let texts = map string_bytes c.args.paths.now in
    let n = c.loop-place.place in
    let vms : c.loop-place.config.vms ≡ vms_over 0 (so_far n texts) = ap (λ (g : Given). g.vms) c.loop-place.invariant in
    let low : n < length c.loop-place.config.vms =
    omega (arith, ap length vms, length-over 0 (so_far n texts), length-so_far n texts, length-map c.args.paths.now string_bytes, c.loop-place-test.true, c.loop-place.auto.place-end) in
    low

pub loop-place-preserved : goal.loop-place-preserved
loop-place-preserved c =
    let texts = map string_bytes c.args.paths.now in
    let n = c.loop-place.place in
    let low : n < length c.args.paths.now = omega (arith, c.loop-place-test.true) in
    let path : c.as_str.result.now ≡ get_or texts n [] = c.as_str.ensures.value ∙ sym (mapped string_bytes c.args.paths.now n c.index-paths-place.result low c.index-paths-place.is) in
    rw add-one (c.in_ok-name_module.ensures
    ∙ ap (λ (p : List ℕ). with_module n p (given c.loop-place.config)) path
    ∙ ap (with_module n (get_or texts n [])) c.loop-place.invariant
    ∙ ap (λ (vms : List VmEntry). record (plain_over texts) { vms = vms }) (one_named 0 n texts [] (omega (arith, length-map c.args.paths.now string_bytes, low))))

pub returns : goal.returns
returns c =
    let texts = map string_bytes c.args.paths.now in
    let all : c.loop-place.place ≡ length texts = omega (arith, length-map c.args.paths.now string_bytes, c.loop-place-test.false) in
    c.loop-place.invariant
    ∙ ap (λ (n : ℕ). record (plain_over texts) { vms = vms_over 0 (so_far n texts) }) all
    ∙ ap (λ (l : List (List ℕ)). record (plain_over texts) { vms = vms_over 0 l }) (all_named texts)
