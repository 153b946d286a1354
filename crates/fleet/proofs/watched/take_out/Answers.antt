use Rattle.std.proofs.Common.{rules, ◌≡◌, not, List, length, ap, ◌∙◌}
use Rattle.std.specs.List.{filter}
use Rattle.std.proofs.lemmas.Fn.{filter_same}
use Rattle.fleet.specs.Closing.{connection, is_in, is_one}
use Rattle.fleet.specs.declared.watched.Connection.{Connection}
use Rattle.fleet.proofs.Listing.{fewer, taken_out}
use Rattle.fleet.proofs.watched.take_out.Goals as goal

pub returns-clause-gone : goal.returns-clause-gone
returns-clause-gone c =
    let one : Connection = connection c.args.line c.args.side in
    let kept : c.retain.new.self.items ≡ filter (λ d. not (is_one one d)) c.args.list.now.items = filter_same _ _ _ (λ x b f' k. search rules) _ _ c.retain.ensures.filtered in
    λ d. ap (λ (l : List Connection). is_in d l) kept ∙ taken_out one c.args.list.now.items d

pub returns-clause-fewer : goal.returns-clause-fewer
returns-clause-fewer c =
    let one : Connection = connection c.args.line c.args.side in
    let kept : c.retain.new.self.items ≡ filter (λ d. not (is_one one d)) c.args.list.now.items = filter_same _ _ _ (λ x b f' k. search rules) _ _ c.retain.ensures.filtered in
    λ is. let less = fewer one c.args.list.now.items is in let long = ap (λ (l : List Connection). length l) kept in search rules
