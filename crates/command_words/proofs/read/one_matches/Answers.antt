use Rattle.std.proofs.Common.{rules, ap, ap₂, codes, map, ◌≡◌, ◌∙◌, refl, string_bytes}
use Rattle.std.proofs.lemmas.Result.{IfErr-weaker, IfOk-weaker}
use Rattle.clap.specs.Words.{app_of, first_of, found_of, is_simple, matches_of, rule_of, takes, with_rule}
use Rattle.clap.proofs.WalkLemmas.{first_value-rows}
use Rattle.command_words.proofs.Apps.{one_app, one_simple, value_rule}
use Rattle.command_words.proofs.Taken.{one_reads}
use Rattle.command_words.proofs.read.one_matches.Goals as goal

pub returns : goal.returns
returns c =
    let name = c.args.name.now in
    let reads = one_reads name (map string_bytes c.args.words.now) c.requires in
    let first_is : rule_of c.needed.result ≡ value_rule = search rules in
    let app_is : app_of c.in_ok-command.command ≡ one_app name = c.in_ok-command.ensures.shape (search rules) ∙ ap₂ with_rule c.new.ensures.app first_is in
    let parse = c.try_get_matches_from in
    record {
      value = IfOk-weaker parse.result _ _ (λ m h. first_value-rows (found_of m) (codes "value") ∙ ap (first_of (codes "value")) ((h (ap is_simple app_is ∙ one_simple name)).0 ∙ ap₂ matches_of app_is refl) ∙ reads.value) parse.ensures.matches;
      err = IfErr-weaker parse.result _ _ (λ e h. h (ap₂ takes app_is refl ∙ reads.takes)) parse.ensures.passes;
    }
