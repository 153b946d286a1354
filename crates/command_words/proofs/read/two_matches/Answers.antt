use Rattle.std.proofs.Common.{ap, map, ◌≡◌, ◌∙◌, string_bytes}
use Rattle.std.proofs.lemmas.Result.{IfErr-weaker, IfOk-weaker}
use Rattle.clap.specs.Words.{App, app_of, is_simple, matches_of, new_app, rule_of, subcommand_of, takes, with_rule}
use Rattle.command_words.proofs.read.two_matches.Goals as goal

pub returns : goal.returns
returns c =
    let words = map string_bytes c.args.words.now in
    let app_is : app_of c.in_ok-command.command ≡ with_rule (with_rule (new_app c.args.name.now) (rule_of c.args.first)) (rule_of c.args.second)
    = c.in_ok-command.ensures.shape c.requires.second_local ∙ ap (λ (a : App). with_rule a (rule_of c.args.second)) (c.in_ok-arg.ensures.shape c.requires.first_local ∙ ap (λ (a : App). with_rule a (rule_of c.args.first)) c.new.ensures.app) in
    let parse = c.try_get_matches_from in
    record {
      matches = IfOk-weaker parse.result _ _ (λ m h s. let was = h (ap is_simple app_is ∙ s) in (was.0 ∙ ap (λ (a : App). matches_of a words) app_is, was.1 ∙ ap (λ (a : App). subcommand_of a words) app_is)) parse.ensures.matches;
      passes = IfErr-weaker parse.result _ _ (λ e h t. h (ap (λ (a : App). takes a words) app_is ∙ t)) parse.ensures.passes;
    }
