use Rattle.std.proofs.Common.{ℕ, List, Some, ap, sym, ◌∙◌}
use Rattle.std.specs.Option.{option_copied_mut}
use Rattle.contexts.specs.Reached.{no_changes, effective_of, put}
use Rattle.contexts.proofs.Putting.{own_put_same, err_then}
use Rattle.abi_maps.specs.Buffers.{with_held}
use Rattle.abi_maps.proofs.buffers.splice.Goals as goal

pub returns-then-number-eq0-clause-err : goal.returns-then-number-eq0-clause-err
returns-then-number-eq0-clause-err c =
    let h = c.args.contexts.now in
    let o = c.in-Some.own.now in
    err_then c.splice.result
    (λ kept. ap (λ (bytes : List ℕ). put (record no_changes { own = Some (record o { request = with_held bytes o.request }) }) c.args.vm h) kept
    ∙ own_put_same h c.args.vm (effective_of h c.args.vm) o c.requires (sym (sym (ap option_copied_mut c.in-Some.is) ∙ c.own_mut.ensures.value)))
    c.splice.ensures.err

pub returns-else-number-eq0-clause-err : goal.returns-else-number-eq0-clause-err
returns-else-number-eq0-clause-err c =
    let h = c.args.contexts.now in
    let o = c.in-Some.own.now in
    err_then c.splice-else-number-eq0.result
    (λ kept. ap (λ (bytes : List ℕ). put (record no_changes { own = Some (record o { response = with_held bytes o.response }) }) c.args.vm h) kept
    ∙ own_put_same h c.args.vm (effective_of h c.args.vm) o c.requires (sym (sym (ap option_copied_mut c.in-Some.is) ∙ c.own_mut.ensures.value)))
    c.splice-else-number-eq0.ensures.err
