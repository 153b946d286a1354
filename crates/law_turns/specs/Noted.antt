-- What a worker changes of an exchange by itself, against the lives that the laws of exchanges speak of.
use Rattle.std.specs.Prelude.{◌≡◌, ℕ, Bool, false, List, [], ◌∷◌, Some, Ok}
use Rattle.exchange.specs.declared.types.Exchange.{Exchange}
use Rattle.exchange.specs.Heads.{status_in}
use Rattle.law_exchange.specs.Lives.{IsKin}
use Rattle.law_exchange.specs.Responses.{IsKinDown, IsHeard}
use Rattle.filter_chain.specs.declared.item.ChainItem.{ChainItem}
use Rattle.h1_model.specs.Head.{Head}
use Rattle.h1_model.specs.Length.{Measure, response_measure, is_without_body, without_body}
use Rattle.h1_model.specs.Unread.{Reading}
use Rattle.worker_model.specs.Steps.{with_reader, with_read_mark, with_further, with_response_head, head_item, exchange_with_stages, exchange_without_client}

-- WHAT A WORKER NOTES IS FAIR TO THE REQUEST: what it keeps of a reader, of an item that was read and of the head of a response, that text has come
-- or has ended, that stages are made where there are no filters, and that the client is gone
pub record NotesAreFair : Type 0 where
  pub reader : (reading : Reading) (x : Exchange) → x.request ≡ [] → IsKin x (with_reader reading x)
  pub item : (up : Bool) (item : ChainItem) (x : Exchange) → x.request ≡ [] → IsKin x (with_read_mark up item x)
  pub text : (stops : Bool) (bytes : List ℕ) (x : Exchange) → x.request ≡ [] → IsKin x (with_further stops bytes x)
  pub head : (h : Head) (x : Exchange) → x.request ≡ [] → IsKin x (with_response_head h x)
  pub stages : (dead : List ℕ) (x : Exchange) → x.request ≡ [] → x.filters ≡ [] → IsKin x (exchange_with_stages dead x)
  pub client_gone : (x : Exchange) → x.request ≡ [] → IsKin x (exchange_without_client x)

-- a head of a response as it is judged: with its status, and with the length that its lines give it where its status and the method let it have one
pub record IsJudgedHead (to_head : Bool) (h : Head) : Type 0 where
  pub minor : ℕ
  pub codings : List (List ℕ)
  pub lengths : List (List ℕ)
  pub measure : Measure
  pub status : ℕ
  pub judged : response_measure minor codings lengths ≡ Ok measure
  pub code : status_in h.fields ≡ Some status
  pub length : h.length ≡ (without_body (is_without_body to_head status) measure).length
  pub told : h.told ≡ (without_body (is_without_body to_head status) measure).told

-- And to the response; the head of one is read before one went out. A head that was judged comes as one that is heard.
pub record NotesAreFairDown : Type 0 where
  pub reader : (reading : Reading) (x : Exchange) → x.request ≡ [] → x.response ≡ [] → IsKinDown x (with_reader reading x)
  pub item : (up : Bool) (item : ChainItem) (x : Exchange) → x.request ≡ [] → x.response ≡ [] → IsKinDown x (with_read_mark up item x)
  pub text : (stops : Bool) (bytes : List ℕ) (x : Exchange) → x.request ≡ [] → x.response ≡ [] → IsKinDown x (with_further stops bytes x)
  pub head : (h : Head) (x : Exchange) → x.request ≡ [] → x.response ≡ [] → x.is_head_out ≡ false → IsKinDown x (with_response_head h x)
  pub stages : (dead : List ℕ) (x : Exchange) → x.request ≡ [] → x.response ≡ [] → x.filters ≡ [] → IsKinDown x (exchange_with_stages dead x)
  pub client_gone : (x : Exchange) → x.request ≡ [] → x.response ≡ [] → x.has_ended ≡ false → IsKinDown x (exchange_without_client x)
  pub heard : (h : Head) (items : List ChainItem) (x : Exchange) → IsJudgedHead x.is_head_up h → IsHeard (head_item h ∷ items) (with_response_head h x)
