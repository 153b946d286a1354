use Rattle.shared_store.proofs.One.{call_goes, refusal_goes, ok_more, err_more}
use Rattle.shared_store.proofs.seats.StoreSeatShared.call.Goals as goal

pub returns-clause-done : goal.returns-clause-done
returns-clause-done g c = ok_more c.ask.result _ _ (λ r h. call_goes c.args.self.now c.ask.new.self c.args.vm c.args.call.now r h) c.ask.ensures.done

pub returns-clause-err : goal.returns-clause-err
returns-clause-err g c = err_more c.ask.result _ _ (λ h. refusal_goes c.args.self.now c.ask.new.self c.args.vm c.args.call.now h) c.ask.ensures.err
