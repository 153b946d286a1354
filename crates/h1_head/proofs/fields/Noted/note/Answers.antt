use Rattle.std.proofs.Common.{◌≡◌, true, refl}
use Rattle.std.specs.Prelude.{codes}
use Rattle.h1_model.specs.Fields.{Pair, is_named}
use Rattle.h1_head.proofs.Noting.{noted_named, noted_other, named_alone}
use Rattle.h1_head.proofs.fields.Noted.note.Goals as goal

pub returns-then-is_same_word : goal.returns-then-is_same_word
returns-then-is_same_word c =
    let f : Pair = (c.args.name.now, c.args.value.now) in
    let name = codes "host" in
    let is : true ≡ is_named name f = c.if-is_same_word.ensures in
    λ fields noted. record {
      host = noted_named name fields f c.args.self.now.host c.and-self.result is c.and-self.ensures noted.host;
      connection = noted_other (codes "connection") fields f c.args.self.now.connection (named_alone name (codes "connection") f refl is) noted.connection;
      lengths = noted_other (codes "content-length") fields f c.args.self.now.lengths (named_alone name (codes "content-length") f refl is) noted.lengths;
      codings = noted_other (codes "transfer-encoding") fields f c.args.self.now.codings (named_alone name (codes "transfer-encoding") f refl is) noted.codings;
    }

pub returns-then-is_same_word-2 : goal.returns-then-is_same_word-2
returns-then-is_same_word-2 c =
    let f : Pair = (c.args.name.now, c.args.value.now) in
    let name = codes "connection" in
    let is : true ≡ is_named name f = c.if-is_same_word-2.ensures in
    λ fields noted. record {
      host = noted_other (codes "host") fields f c.args.self.now.host (named_alone name (codes "host") f refl is) noted.host;
      connection = noted_named name fields f c.args.self.now.connection c.and-self-then-is_same_word-2.result is c.and-self-then-is_same_word-2.ensures noted.connection;
      lengths = noted_other (codes "content-length") fields f c.args.self.now.lengths (named_alone name (codes "content-length") f refl is) noted.lengths;
      codings = noted_other (codes "transfer-encoding") fields f c.args.self.now.codings (named_alone name (codes "transfer-encoding") f refl is) noted.codings;
    }

pub returns-then-is_same_word-3 : goal.returns-then-is_same_word-3
returns-then-is_same_word-3 c =
    let f : Pair = (c.args.name.now, c.args.value.now) in
    let name = codes "content-length" in
    let is : true ≡ is_named name f = c.if-is_same_word-3.ensures in
    λ fields noted. record {
      host = noted_other (codes "host") fields f c.args.self.now.host (named_alone name (codes "host") f refl is) noted.host;
      connection = noted_other (codes "connection") fields f c.args.self.now.connection (named_alone name (codes "connection") f refl is) noted.connection;
      lengths = noted_named name fields f c.args.self.now.lengths c.and-self-then-is_same_word-3.result is c.and-self-then-is_same_word-3.ensures noted.lengths;
      codings = noted_other (codes "transfer-encoding") fields f c.args.self.now.codings (named_alone name (codes "transfer-encoding") f refl is) noted.codings;
    }

pub returns-then-is_same_word-4 : goal.returns-then-is_same_word-4
returns-then-is_same_word-4 c =
    let f : Pair = (c.args.name.now, c.args.value.now) in
    let name = codes "transfer-encoding" in
    let is : true ≡ is_named name f = c.if-is_same_word-4.ensures in
    λ fields noted. record {
      host = noted_other (codes "host") fields f c.args.self.now.host (named_alone name (codes "host") f refl is) noted.host;
      connection = noted_other (codes "connection") fields f c.args.self.now.connection (named_alone name (codes "connection") f refl is) noted.connection;
      lengths = noted_other (codes "content-length") fields f c.args.self.now.lengths (named_alone name (codes "content-length") f refl is) noted.lengths;
      codings = noted_named name fields f c.args.self.now.codings c.and-self-then-is_same_word-4.result is c.and-self-then-is_same_word-4.ensures noted.codings;
    }
