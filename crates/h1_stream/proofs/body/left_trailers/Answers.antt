use Rattle.std.proofs.Common.{◌≡◌, Result, Ok, Err, OnOk, IsOk, codes, ap, sym, ◌∙◌, subst, refl}
use Rattle.header_maps.specs.Operations.{without}
use Rattle.http_header.specs.Token.{is_token_byte}
use Rattle.h1_head.specs.declared.head.Kind.{Kind}
use Rattle.h1_model.specs.Messages.{trailers_left}
use Rattle.h1_stream.specs.Seen.{asked_of}
use Rattle.h1_stream.proofs.body.left_trailers.Goals as goal

on_ok : {A B : Type 0} {P : Type 0} (r : Result A B) → IsOk r → OnOk r P → P
on_ok (Ok x) is p = p
on_ok (Err e) is p = absurd (cc)

pub returns-in-Request : goal.returns-in-Request
unfolding is_token_byte
returns-in-Request c =
    let removed = on_ok c.remove.result (c.remove.ensures.sure refl) c.remove.ensures.ok in
    subst (λ (k : Kind). c.remove.new.self.pairs ≡ trailers_left (asked_of k) c.args.connection.now c.args.trailers.pairs) (sym c.in-Request.is) (ap (λ h. h.pairs) removed ∙ ap (without (codes "host")) c.without_listed-trailers.ensures)
