use Rattle.std.proofs.Common.{◌++◌, ◌%◌, codes}
use Rattle.std.specs.Fmt.{decimal}
use Rattle.workload.proofs.Sharing.{three}
use Rattle.workload.proofs.exchanges.put_head.Goals as goal

pub returns : goal.returns
returns c =
    three c.args.text.now c.put_number.new.text c.put_number-2.new.text c.extend_from_slice.new.self (codes "POST /k" ++ decimal (c.args.number % 8))
    (codes " HTTP/1.1\r\nHost: a\r\nContent-Length: " ++ decimal (c.args.number % 1024)) (codes "\r\n\r\n") c.in_ok-put_number.ensures c.in_ok-put_number-2.ensures c.in_ok-extend_from_slice.ensures.ok
