-- WHAT IS TO BE DONE after the head of a request.
use Rattle.std.specs.Prelude.{◌≡◌, ◌<◌, ℕ, List, [], ◌∷◌, length, slice_get, Option, None, Some}
use Rattle.exchange.specs.declared.types.Exchange.{Exchange}
use Rattle.worker_model.specs.declared.types.Job.{Job}
use Rattle.worker_model.specs.declared.types.Job.TheVariants as jobs
use Rattle.worker_model.specs.declared.types.ReadBatch.{ReadBatch}
use Rattle.worker_model.specs.Steps.{exchange_jobs}

abbrev pub jobs_behind : ReadBatch → Option ℕ → Exchange → List Job
jobs_behind r status x = exchange_jobs r status x x.refusal

-- A refused exchange is answered, and nothing else: no context is made for it, no stage, and nothing of its request comes. Of any other a context is made for each of
-- its filters first, in order, and then its stages.
pub record BeginsInOrder (r : ReadBatch) (status : Option ℕ) (x : Exchange) : Type 0 where
  pub refused : (number : ℕ) → x.refusal ≡ Some number → jobs_behind r status x ≡ jobs.Refuse r.line number ∷ []
  pub creates : (k : ℕ) → x.refusal ≡ None → k < length x.filters → slice_get (jobs_behind r status x) k ≡ Some (jobs.Create r.line k)
  pub enters : x.refusal ≡ None → slice_get (jobs_behind r status x) (length x.filters) ≡ Some (jobs.Enter r.line)

abbrev pub ExchangesBeginInOrder : Type 0
ExchangesBeginInOrder = (r : ReadBatch) (status : Option ℕ) (x : Exchange) → BeginsInOrder r status x
