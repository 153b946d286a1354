-- Lines that were done with stand in front of the others.
use Rattle.std.proofs.Common.{◌≡◌, List, [], ◌∷◌, ◌++◌, sym, ◌∙◌}
use Rattle.std.proofs.lemmas.List.{append_assoc}
use Rattle.exchange.specs.declared.types.Hub.{Hub}
use Rattle.worker_model.specs.declared.types.TcpLine.{TcpLine}
use Rattle.streams_model.specs.Lines.{LineChanges}
use Rattle.streams_model.specs.Rooms.{all_lines}

abbrev pub in_front_of : List TcpLine → List TcpLine × Hub → List TcpLine × Hub
in_front_of done (lines, hub) = (done ++ lines, hub)

pub in_front_more : (change : LineChanges) (done lines : List TcpLine) (line new : TcpLine) (hub now : Hub) → change line hub ≡ (new, now)
    → in_front_of (done ++ new ∷ []) (all_lines change lines now) ≡ in_front_of done (all_lines change (line ∷ lines) hub)
in_front_more change done lines line new hub now is =
    let one : in_front_of done (all_lines change (line ∷ lines) hub) ≡ (done ++ new ∷ (all_lines change lines now).0, (all_lines change lines now).1)
    = λ i. (done ++ (is i).0 ∷ (all_lines change lines (is i).1).0, (all_lines change lines (is i).1).1) in
    let two : (done ++ new ∷ []) ++ (all_lines change lines now).0 ≡ done ++ new ∷ (all_lines change lines now).0 = rw append_assoc in
    (λ i. (two i, (all_lines change lines now).1)) ∙ sym one
