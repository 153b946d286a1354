-- The worked examples, by computation.
use Rattle.std.proofs.Common.{◌≡◌, List, [], refl}
use Rattle.filter_chain.specs.declared.item.ChainItem.{ChainItem}
use Rattle.law_asked.specs.Asked.{Gathered, none, keeps, joins, drops}
use Rattle.law_asked.specs.Examples.{AskedExamples, the_head}
use Rattle.law_asked.proofs.Each.{head_of}

pub asked_examples : AskedExamples
asked_examples = record {
  unused = (
    record { waiting = refl; holding = refl; asking = refl },
    (
      record { waiting = refl; holding = refl; asking = refl },
      (record { waiting = refl; holding = refl; asking = refl }, (record { waiting = refl; holding = refl; asking = refl }, tt)),
    ),
  );
  first_asked = refl;
  second_asked = refl;
  third_asked = refl;
  fourth_asked = refl;
  fourth_lets = refl;
  all_left = refl;
  three_left = refl;
  three_asked = refl;
  held_asked = refl;
  held_goes = refl;
  held_next = refl;
  held_left = refl;
  resumed_asked = refl;
  resumed_goes = refl;
  resumed_next = refl;
  resumed_last = refl;
  resumed_left = refl;
  dead_asked = refl;
  dead_left = refl;
  dead_kept = λ kept. kept.1.1.1.0 refl;
  others_kept = (tt, (tt, (tt, ((λ e. absurd (cc e)), (tt, (tt, (tt, (tt, tt))))))));
  others_asked = refl;
  no_head_of_nothing = λ come. cc (head_of the_head come refl);
  no_head_of_a_piece = λ come. cc (head_of the_head come refl);
  no_head_is_lost = λ lost. nothing_lost lost refl refl;
  pieces_join = ([], drops (keeps none));
}
  where
    nothing_lost : {a b : List ChainItem} → Gathered a b → a ≡ the_head → b ≡ [] → ⊥
    nothing_lost none is end = cc is
    nothing_lost (keeps q) is end = cc end
    nothing_lost (joins q) is end = cc end
    nothing_lost (drops q) is end = cc is
