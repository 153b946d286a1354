use Rattle.std.proofs.Common.{◌∙◌, ◌∷◌, ◌++◌, [], ◌||◌, ◌<◌, false, length, option_copied, sym, ap, subst}
use Rattle.std.specs.Prelude.{slice_index_or}
use Rattle.http_header.specs.Token.{lowercase}
use Rattle.h1_model.specs.Fields.{members}
use Rattle.h1_text.specs.Members.{rest_members}
use Rattle.h1_text.specs.Names.{is_met, is_met_in, is_number, name_in_tree}
use Rattle.h1_text.proofs.Marked.{met_more}
use Rattle.h1_text.proofs.Unmarked.{still_wanted, meets, met_further, met_all}
use Rattle.h1_text.proofs.names.ListedNames.note.Goals as goal

pub loop-member-preserved-then-is_stale : goal.loop-member-preserved-then-is_stale
loop-member-preserved-then-is_stale c =
    let inv = c.loop-member.invariant in
    let listed = c.loop-member.self in
    let tree = c.args.self.now.tree in
    let m = c.in-Some.member.now in
    let behind = rest_members (option_copied c.in-Some.after) in
    let rest = rest_members (option_copied c.loop-member.rest) in
    record {
      tree = c.mark.ensures.tree ∙ inv.tree;
      count = c.mark.ensures.count ∙ inv.count;
      marks = λ k low.
          let old = slice_index_or listed.marks.items k false in
          let b = slice_index_or c.args.self.now.marks.items k false || is_met tree k (members c.args.value.now) in
          ap (λ t. t || is_met tree k behind) (c.mark.ensures.marks k (subst (λ n. k < n) (sym inv.count) low))
          ∙ ap (λ t. (old || meets listed k m) || is_met t k behind) (sym inv.tree)
          ∙ met_further listed c.loop-member.wanted inv.wanted k m behind rest b c.in-Some.ensures.members
          (ap (λ t. old || is_met t k rest) inv.tree ∙ inv.marks k low);
      blanks = c.wanted-wanted.ensures.blanks;
      wanted = c.wanted-wanted.ensures.unmarked;
    }

pub loop-member-preserved : goal.loop-member-preserved
loop-member-preserved c =
    let inv = c.loop-member.invariant in
    let listed = c.loop-member.self in
    let tree = c.args.self.now.tree in
    let m = c.in-Some.member.now in
    let behind = rest_members (option_copied c.in-Some.after) in
    let rest = rest_members (option_copied c.loop-member.rest) in
    record {
      tree = c.mark.ensures.tree ∙ inv.tree;
      count = c.mark.ensures.count ∙ inv.count;
      marks = λ k low.
          let old = slice_index_or listed.marks.items k false in
          let b = slice_index_or c.args.self.now.marks.items k false || is_met tree k (members c.args.value.now) in
          ap (λ t. t || is_met tree k behind) (c.mark.ensures.marks k (subst (λ n. k < n) (sym inv.count) low))
          ∙ ap (λ t. (old || meets listed k m) || is_met t k behind) (sym inv.tree)
          ∙ met_further listed c.loop-member.wanted inv.wanted k m behind rest b c.in-Some.ensures.members
          (ap (λ t. old || is_met t k rest) inv.tree ∙ inv.marks k low);
      blanks = inv.blanks;
      wanted = still_wanted listed c.mark.new.self c.loop-member.wanted (λ k. is_number k (name_in_tree listed.tree (lowercase m)))
          c.mark.ensures.tree c.mark.ensures.count c.mark.ensures.marks inv.wanted;
    }

pub returns-clause-marks : goal.returns-clause-marks
returns-clause-marks c = λ values are.
    let inv = c.loop-member.invariant in
    let listed = c.loop-member.self in
    let tree = c.args.self.now.tree in
    let value = c.args.value.now in
    let rest = rest_members (option_copied c.loop-member.rest) in
    record {
      each = λ k low.
          let among = subst (λ t. k < length t.names) inv.tree low in
          let low_mark = subst (λ n. k < n) (sym are.count) among in
          let old = slice_index_or listed.marks.items k false in
          let b = slice_index_or c.args.self.now.marks.items k false || is_met tree k (members value) in
          met_all listed c.loop-member.wanted inv.wanted k rest b (λ p lost. c.in_default.ensures.members p lost)
          (ap (λ t. old || is_met t k rest) inv.tree ∙ inv.marks k low_mark)
          ∙ ap (λ t. t || is_met tree k (members value)) (are.each k among)
          ∙ sym (met_more tree k values value)
          ∙ ap (λ t. is_met_in t k (values ++ value ∷ [])) (sym inv.tree);
      count = inv.count ∙ are.count ∙ sym (ap (λ t. length t.names) inv.tree);
    }
