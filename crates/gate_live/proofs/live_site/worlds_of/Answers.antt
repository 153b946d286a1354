use Rattle.std.proofs.Common.{◌≡◌, subst}
use Rattle.std.specs.Net.Grammar.{IsSocketText}
use Rattle.gate_live.proofs.live_site.worlds_of.Goals as goal

pub returns-clause-untouched : goal.returns-clause-untouched
returns-clause-untouched g c =
    let upstream = c.in_ok-upstream.upstream in
    let same : c.as_str.result.now ≡ c.args.settings.now.upstream = (let h = c.as_str.ensures in cc) in
    (upstream, subst (λ text. IsSocketText text upstream) same c.in_ok-upstream.ensures, c.in_ok-fill.ensures.untouched)
