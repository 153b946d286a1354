use Rattle.std.proofs.Common.{◌≡◌, ◌∙◌, ap, ap₂, sym, List, [], ◌∷◌, ◌++◌, ℕ}
use Rattle.gate_config.specs.declared.entries.RouteEntry.{RouteEntry}
use Rattle.gate_config.specs.Given.{given, route_with}
use Rattle.gate_config.specs.Routes.{Table, table_of, with_route}
use Rattle.gate_config.proofs.OneMore.{kept_more, table_more, on_ok}
use Rattle.gate_config.proofs.config.Config.add_route.Goals as goal

pub invariant_of-self-in-Ok-insert_route : goal.invariant_of-self-in-Ok-insert_route
invariant_of-self-in-Ok-insert_route c =
    let routes = c.args.self.now.routes in
    let r = route_with c.args.path.now c.args.filters.now in
    let pushed = on_ok c.push.result _ (sym c.is_err.ensures.value ∙ c.if-is_err.false) c.push.ensures.ok in
    let e : c.push.new.self ≡ routes ++ r ∷ [] = pushed ∙ ap (λ (x : RouteEntry). routes ++ x ∷ []) c.in-Ok.ensures in
    let fit = c.in-Ok-insert_route.ensures.ok in
    record {
      kept = rw e (kept_more _ _ _ routes r c.args.self.now.kept c.requires.count (record { count = c.requires.few; there = c.requires.there; differ = c.requires.differ }) (rw c.args.self.now.routed at fit.0));
      routed = fit.1 ∙ ap₂ (λ (n : ℕ) (t : Table). with_route c.args.path.now n t) c.len-place.ensures c.args.self.now.routed ∙ sym (table_more routes r) ∙ ap table_of (sym e);
    }

pub returns-in-Ok-insert_route-clause-ok : goal.returns-in-Ok-insert_route-clause-ok
returns-in-Ok-insert_route-clause-ok c =
    let pushed = on_ok c.push.result _ (sym c.is_err.ensures.value ∙ c.if-is_err.false) c.push.ensures.ok in
    let e = pushed ∙ ap (λ (x : RouteEntry). c.args.self.now.routes ++ x ∷ []) c.in-Ok.ensures in
    ap (λ (rs : List RouteEntry). record (given c.args.self.now) { routes = rs }) e
