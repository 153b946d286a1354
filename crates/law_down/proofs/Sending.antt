-- What goes down among what is sent: lists joined, and what is sent up.
use Rattle.std.proofs.Common.{◌≡◌, ℕ, List, [], ◌∷◌, ◌++◌, map, refl, ap, ◌∙◌}
use Rattle.std.proofs.lemmas.Grind.{flat_map-append}
use Rattle.std.proofs.lemmas.List.{append-nil}
use Rattle.exchange.specs.Leaving.{bytes_sent_to}
use Rattle.law_exchange.specs.Traffic.{Traffic, byte, where_line}
use Rattle.law_exchange.proofs.Traffic.{here}
use Rattle.gate_io.specs.declared.event.Sent.{Sent}
use Rattle.gate_io.specs.declared.event.Side.TheVariants.{Down, Up}
use Rattle.law_lines.specs.Clients.{client_traffic, client_of}

pub clients_join : (n : ℕ) (a b : List Sent) → client_traffic n (a ++ b) ≡ client_traffic n a ++ client_traffic n b
clients_join n a b = flat_map-append (client_of n) a b

pub client_down : (n : ℕ) (bytes : List ℕ) → client_traffic n (bytes_sent_to n Down bytes) ≡ map byte bytes
client_down n [] = refl
client_down n (b ∷ bytes) = append-nil (where_line n n (map byte (b ∷ bytes))) ∙ here n (map byte (b ∷ bytes))

pub client_up : (n : ℕ) (bytes : List ℕ) → client_traffic n (bytes_sent_to n Up bytes) ≡ []
client_up n [] = refl
client_up n (b ∷ bytes) = refl

pub grows_by : (n : ℕ) (before more : List Sent) (t : List Traffic) → client_traffic n more ≡ t → client_traffic n (before ++ more) ≡ client_traffic n before ++ t
grows_by n before more t is = clients_join n before more ∙ ap (λ s. client_traffic n before ++ s) is

pub grows_none : (n : ℕ) (before more : List Sent) → client_traffic n more ≡ [] → client_traffic n (before ++ more) ≡ client_traffic n before
grows_none n before more none = grows_by n before more [] none ∙ append-nil (client_traffic n before)
