use Rattle.std.proofs.Common.{rules, arith, ◌≡◌, refl, subst}
use Rattle.metric_seats.specs.Places.{Metered, Summed}
use Rattle.store_model.specs.declared.metric.MetricReply.TheVariants.{Total}
use Rattle.metric_table.specs.Seats.{Looked}
use Rattle.metric_seats.proofs.Summing.{Summing, none_read, read_more, read_all}
use Rattle.metric_seats.proofs.table.MetricTable.total.Goals as goal

pub loop-number-init : goal.loop-number-init
loop-number-init c = (none_read _ _ _, refl, refl)

pub loop-number-preserved : goal.loop-number-preserved
loop-number-preserved c = (
  read_more _ _ _ _ _ _ _ _ c.loop-number.invariant.0 (subst (λ n. Looked c.loop-number.place-inside.words n c.args.kind c.args.id c.look-word.result c.look-word.new.seat) (let n : c.unwrap-who.result ≡ c.loop-number.number = search rules in n) c.look-word.ensures),
  c.loop-number.invariant.1,
  c.loop-number.invariant.2,
)

pub returns : goal.returns
returns c = subst (λ (v : Metered). Summed v c.args.kind c.args.id (Total c.loop-number.total) (record { names = c.loop-number.place-inside.names; words = c.loop-number.place-inside.words })) c.place.view_is
    (read_all (record { names = c.place.inside.names; words = c.place.inside.words }) (record { names = c.loop-number.place-inside.names; words = c.loop-number.place-inside.words }) c.args.kind c.args.id c.loop-number.total (subst (λ n. Summing c.place.inside.words c.args.kind c.args.id n c.loop-number.total c.loop-number.place-inside.words) (let n : c.loop-number.number ≡ 9 = omega arith in n) c.loop-number.invariant.0) c.loop-number.invariant.1)
