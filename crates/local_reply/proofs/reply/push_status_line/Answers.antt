use Rattle.std.proofs.Common.{◌≡◌, List, ℕ, ◌++◌, OnOk, codes, subst}
use Rattle.httparse.specs.Ascii.{crlf_bytes}
use Rattle.local_reply.proofs.reply.push_status_line.Goals as goal

pub returns : goal.returns
returns c =
    subst
    (λ (code : List ℕ). OnOk c.push_code.result (c.push_code.new.out ≡ c.args.out.now ++ (codes "HTTP/1.1 " ++ code ++ codes " " ++ crlf_bytes)))
    c.status_text.ensures c.push_code.ensures
