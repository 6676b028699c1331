use Rattle.std.proofs.Common.{◌≡◌, Bool, true, false, cond, Option, Some, sym, ◌∙◌, subst}
use Rattle.std.specs.Prelude.{bytes_eq}
use Rattle.std.specs.BTreeMap.{get_by_text}
use Rattle.std.specs.String.{string_bytes}
use Rattle.std.proofs.lemmas.Option.{same_Some}
use Rattle.std.proofs.lemmas.Map.Text.{btree_map_updates_text}
use Rattle.lola_elab.specs.declared.meaning.Meaning.{Meaning}
use Rattle.lola_elab.specs.Meanings.{IsVector}
use Rattle.lola_designs.proofs.expressions.enter.Goals as goal

-- what is chosen of two is a vector where both are
chosen : (b : Bool) (one : Meaning) (other : Option Meaning) (m : Meaning) → IsVector one → (other ≡ Some m → IsVector m) → cond b (Some one) other ≡ Some m → IsVector m
chosen true one other m is are e = subst IsVector (same_Some one m e) is
chosen false one other m is are e = are e

pub returns : goal.returns
returns c = record {
  each = λ q m e.
      let now = btree_map_updates_text (string_bytes c.in_ok-text.text) c.args.names.now c.insert.new.self (Some c.args.meaning) c.in_ok-insert.ensures.updates q in
      chosen (bytes_eq (string_bytes c.in_ok-text.text) q) c.args.meaning (get_by_text c.args.names.now q) m c.requires.is (c.requires.are.each q m) (sym now ∙ e);
}
