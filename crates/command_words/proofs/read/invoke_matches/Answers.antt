use Rattle.std.proofs.Common.{rules, ap, ap₂, codes, map, ◌≡◌, ◌∙◌, string_bytes}
use Rattle.std.proofs.lemmas.Result.{IfErr-weaker, IfOk-weaker}
use Rattle.clap.specs.Words.{App, first_of, found_of, is_simple, matches_of, new_app, rule_of, takes, with_rule}
use Rattle.clap.proofs.WalkLemmas.{first_value-rows}
use Rattle.command_words.proofs.Apps.{two_app, two_simple, module_rule, export_rule}
use Rattle.command_words.proofs.Taken.{two_reads}
use Rattle.command_words.proofs.read.invoke_matches.Goals as goal

pub returns : goal.returns
returns c =
    let words = map string_bytes c.args.words.now in
    let reads = two_reads words c.requires in
    let first_is : rule_of c.needed-module.result ≡ module_rule = search rules in
    let second_is : rule_of c.needed-export.result ≡ export_rule = search rules in
    let app_is : with_rule (with_rule (new_app (codes "invoke")) (rule_of c.needed-module.result)) (rule_of c.needed-export.result) ≡ two_app = ap₂ (λ (a b : _). with_rule (with_rule (new_app (codes "invoke")) a) b) first_is second_is in
    let parse = c.two_matches in
    record {
      file = IfOk-weaker parse.result _ _ (λ m h. first_value-rows (found_of m) (codes "module") ∙ ap (first_of (codes "module")) ((h (ap is_simple app_is ∙ two_simple)).0 ∙ ap (λ (a : App). matches_of a words) app_is) ∙ reads.0.value) parse.ensures.matches;
      export = IfOk-weaker parse.result _ _ (λ m h. first_value-rows (found_of m) (codes "export") ∙ ap (first_of (codes "export")) ((h (ap is_simple app_is ∙ two_simple)).0 ∙ ap (λ (a : App). matches_of a words) app_is) ∙ reads.1.value) parse.ensures.matches;
      err = IfErr-weaker parse.result _ _ (λ e h. h (ap (λ (a : App). takes a words) app_is ∙ reads.0.takes)) parse.ensures.passes;
    }
