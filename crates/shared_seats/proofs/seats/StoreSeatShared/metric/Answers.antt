use Rattle.shared_seats.proofs.One.{ask_goes, refusal_goes, ok_more, err_more}
use Rattle.shared_seats.proofs.seats.StoreSeatShared.metric.Goals as goal

pub returns-clause-done : goal.returns-clause-done
returns-clause-done g c = ok_more c.measure.result _ _ (λ r h. ask_goes c.args.self.now c.measure.new.self c.args.vm c.args.ask.now r h) c.measure.ensures.done

pub returns-clause-err : goal.returns-clause-err
returns-clause-err g c = err_more c.measure.result _ _ (λ h. refusal_goes c.args.self.now c.measure.new.self c.args.vm h) c.measure.ensures.err
