use Rattle.std.proofs.Common.{◌≡◌, ◌+◌, ◌&&◌, true, false, drop, sym, ap, ◌∙◌, arith}
use Rattle.std.proofs.lemmas.List.{take_rest}
use Rattle.std.specs.List.{list_all}
use Rattle.http_uri.specs.ByteClasses.{split_once_front, split_once_back}
use Rattle.h1_head.specs.Targets.{is_plain_path_byte, is_plain_query_byte, query_passes}
use Rattle.h1_head.proofs.Origin.{cut_some, cut_none, and_true}
use Rattle.h1_head.proofs.target.has_plain_bytes.Goals as goal

pub returns-then-has_plain_path : goal.returns-then-has_plain_path
returns-then-has_plain_path c =
    let t = c.args.target.now in
    let found = c.in-Some.ensures in
    let cut = cut_some t c.in-Some.at found.0.high found.1 (λ k lt. found.0.before k (omega arith) lt) in
    let front : list_all is_plain_path_byte (split_once_front 63 t) ≡ true = ap (list_all is_plain_path_byte) cut.0 ∙ sym c.if-has_plain_path.ensures in
    let back : query_passes is_plain_query_byte (split_once_back 63 t) ≡ list_all is_plain_query_byte (drop (c.in-Some.at + 1) t) =
    ap (query_passes is_plain_query_byte) cut.1 in
    c.has_plain_query.ensures ∙ ap (list_all is_plain_query_byte) (take_rest t (c.in-Some.at + 1))
    ∙ sym (ap (λ a. a && query_passes is_plain_query_byte (split_once_back 63 t)) front ∙ back)

pub returns-else-has_plain_path : goal.returns-else-has_plain_path
returns-else-has_plain_path c =
    let t = c.args.target.now in
    let found = c.in-Some.ensures in
    let cut = cut_some t c.in-Some.at found.0.high found.1 (λ k lt. found.0.before k (omega arith) lt) in
    let front : list_all is_plain_path_byte (split_once_front 63 t) ≡ false = ap (list_all is_plain_path_byte) cut.0 ∙ sym c.if-has_plain_path.ensures in
    c.if-has_plain_path.false ∙ sym (ap (λ a. a && query_passes is_plain_query_byte (split_once_back 63 t)) front)

pub returns-in-None : goal.returns-in-None
returns-in-None c =
    let t = c.args.target.now in
    let cut = cut_none t (λ k lt. c.in-None.ensures k (omega arith) lt) in
    let back : query_passes is_plain_query_byte (split_once_back 63 t) ≡ true = ap (query_passes is_plain_query_byte) cut.1 in
    c.has_plain_path-in-None.ensures ∙ ap (list_all is_plain_path_byte) (sym cut.0)
    ∙ sym (ap (λ b. list_all is_plain_path_byte (split_once_front 63 t) && b) back ∙ and_true (list_all is_plain_path_byte (split_once_front 63 t)))
