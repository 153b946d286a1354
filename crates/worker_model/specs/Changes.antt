-- What is done to an exchange, by the code's names.
use Rattle.std.specs.Prelude.{ℕ, false}
use Rattle.exchange.specs.declared.types.Exchange.{Exchange}
use Rattle.exchange.specs.declared.types.Hub.{Hub}
use Rattle.exchange.specs.Answering.{answer}
use Rattle.exchange.specs.Passing.{resume_context, close_exchange, apply_action, refuse_exchange, put_read_items}
use Rattle.worker_model.specs.declared.types.Change.{Change}
use Rattle.worker_model.specs.declared.types.Change.TheVariants.{Resume, Close, Answer, Act, Refuse, Put}

abbrev pub apply_change : Change → ℕ → Exchange → Hub → Exchange × Hub
apply_change (Resume vm context response) n x hub = resume_context vm context response n x hub
apply_change Close n x hub = close_exchange n x hub
apply_change (Answer status fields body) n x hub = answer n false status fields.pairs body x hub
apply_change (Act response stage value) n x hub = apply_action response stage value n x hub
apply_change (Refuse status) n x hub = refuse_exchange status n x hub
apply_change (Put response items) n x hub = put_read_items response items n x hub
