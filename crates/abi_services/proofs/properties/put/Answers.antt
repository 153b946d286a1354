use Rattle.std.proofs.Common.{ℕ, List, Some, ap, sym, ◌∙◌}
use Rattle.std.specs.Option.{option_copied_mut}
use Rattle.contexts.specs.Reached.{no_changes, effective_of, put}
use Rattle.contexts.proofs.Putting.{own_put_same, err_then}
use Rattle.abi_services.proofs.properties.put.Goals as goal

pub returns-in-Some-clause-err : goal.returns-in-Some-clause-err
returns-in-Some-clause-err c =
    let h = c.args.contexts.now in
    let o = c.in-Some.own.now in
    err_then c.set.result
    (λ kept. ap (λ (ps : List (List ℕ × List ℕ)). put (record no_changes { own = Some (record o { properties = ps }) }) c.args.vm h) kept
    ∙ own_put_same h c.args.vm (effective_of h c.args.vm) o c.requires (sym (sym (ap option_copied_mut c.in-Some.is) ∙ c.own_mut.ensures.value)))
    c.set.ensures.err
