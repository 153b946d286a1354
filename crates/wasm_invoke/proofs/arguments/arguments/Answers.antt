use Rattle.std.proofs.Common.{map, string_bytes, Global, ◌≡◌, ◌+◌, ◌<◌, length, List, [], ◌∷◌, ◌++◌, get_or, ap, sym, ◌∙◌, subst, arith}
use Rattle.std.proofs.lemmas.List.{get_or-map, length-map}
use Rattle.wasm_syntax.specs.declared.types.Value.{Value}
use Rattle.wasm_invoke.proofs.Fitting.{Rests, rests_more, rests_fail, fit_lengths}
use Rattle.wasm_invoke.proofs.arguments.arguments.Goals as goal

pub returns-then-types-words : goal.returns-then-types-words
returns-then-types-words c = λ h.
    let e = fit_lengths c.args.types.now (map string_bytes c.args.words.now) h in
    let l = length-map c.args.words.now (string_bytes {Z = Global}) in
    c.if-types-words.true (omega arith)

pub returns-in-None : goal.returns-in-None
returns-in-None c =
    let same : length c.args.types.now ≡ length c.args.words.now = c.if-types-words.false in
    let l = length-map c.args.words.now (string_bytes {Z = Global}) in
    let in_words : c.loop-i.i < length c.args.words.now = omega arith in
    let is : get_or (map string_bytes c.args.words.now) c.loop-i.i [] ≡ c.as_str.result.now =
    get_or-map string_bytes c.args.words.now c.loop-i.i c.index-words-i.result [] in_words ∙ ap string_bytes (sym c.index-words-i.is) ∙ sym c.as_str.ensures.value in
    rests_fail c.args.types.now (map string_bytes c.args.words.now) c.loop-i.i c.loop-i.values.items c.as_str.result.now c.loop-i.invariant (omega arith) (omega arith) is c.in-None.ensures

pub loop-i-preserved : goal.loop-i-preserved
loop-i-preserved c =
    let same : length c.args.types.now ≡ length c.args.words.now = c.if-types-words.false in
    let l = length-map c.args.words.now (string_bytes {Z = Global}) in
    let in_words : c.loop-i.i < length c.args.words.now = omega arith in
    let is : get_or (map string_bytes c.args.words.now) c.loop-i.i [] ≡ c.as_str.result.now =
    get_or-map string_bytes c.args.words.now c.loop-i.i c.index-words-i.result [] in_words ∙ ap string_bytes (sym c.index-words-i.is) ∙ sym c.as_str.ensures.value in
    let more = rests_more c.args.types.now (map string_bytes c.args.words.now) c.loop-i.i c.loop-i.values.items c.as_str.result.now c.loop-i.invariant (omega arith) (omega arith) is c.in-Some.ensures.0 in
    let given = subst (λ (v : Value). Rests c.args.types.now (map string_bytes c.args.words.now) (c.loop-i.i + 1) (c.loop-i.values.items ++ v ∷ [])) (sym c.in-Some.ensures.1) more in
    subst (λ (vs : List Value). Rests c.args.types.now (map string_bytes c.args.words.now) (c.loop-i.i + 1) vs) (sym c.in_ok-push-in-Some.ensures.items) given
