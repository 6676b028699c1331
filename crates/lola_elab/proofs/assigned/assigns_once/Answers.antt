use Rattle.std.proofs.Common.{◌≡◌, ◌↔◌, ℕ, ◌≤◌, Bool, false, List, [], ◌∷◌, length, map, drop, Global, IsTrue, refl, sym, ◌∙◌, subst}
use Rattle.std.specs.List.{list_any}
use Rattle.std.specs.Ordering.{nat_cmp}
use Rattle.std.specs.Cmp.Lexicographic.{slice_cmp}
use Rattle.std.specs.String.{string_bytes}
use Rattle.std.specs.BTreeMap.{is_at}
use Rattle.std.specs.declared.string.String.{String}
use Rattle.std.proofs.lemmas.Bool.{false≢true, or_parts}
use Rattle.std.proofs.lemmas.List.{drop_all}
use Rattle.std.proofs.lemmas.Map.Text.{is_eq-slice_cmp}
use Rattle.lola_bits.proofs.Names.{same_name}
use Rattle.lola_tree.specs.declared.module.Stmt.{Stmt}
use Rattle.lola_tree.specs.Tree.{stmt_tree}
use Rattle.lola_elab.specs.Assigned.{AssignsOnce}
use Rattle.lola_elab.proofs.Statements.{once_at, once_end}
use Rattle.lola_elab.proofs.assigned.assigns_once.Goals as goal

-- whether a set with these keys has a name
abbrev has : List (String Global) → List ℕ → Bool
has keys q = list_any (is_at (λ (k : String Global). slice_cmp nat_cmp q (string_bytes k))) keys

-- a set has no name where it has no keys
empty : (keys : List (String Global)) → (length keys ≡ 0) ↔ ((q : List ℕ) → has keys q ≡ false)
empty [] = (λ _ q. refl, λ _. refl)
empty (k ∷ keys) = (
  λ none. cc,
  λ none.
      let here = (or_parts (is_at (λ (k' : String Global). slice_cmp nat_cmp (string_bytes k) (string_bytes k')) k) (has keys (string_bytes k)) (none (string_bytes k))).0 in
      absurd (false≢true (sym here ∙ is_eq-slice_cmp (string_bytes k) (string_bytes k) ∙ same_name (string_bytes k) (string_bytes k) refl)),
)

at_end : {Q : Type 0} (body : List Stmt) (i : ℕ) (keys : List (String Global)) (t : Bool) → length body ≤ i → (IsTrue t ↔ (length keys ≡ 0)) →
    (AssignsOnce (has keys) (map stmt_tree (drop i body)) ↔ Q) → (IsTrue t ↔ Q)
at_end body i keys t end is so =
    let done = drop_all i body end in (
      λ yes. so.0 (subst (λ (l : List Stmt). AssignsOnce (has keys) (map stmt_tree l)) (sym done) ((once_end (has keys)).0 ((empty keys).0 (is.0 yes)))),
      λ q. is.1 ((empty keys).1 ((once_end (has keys)).1 (subst (λ (l : List Stmt). AssignsOnce (has keys) (map stmt_tree l)) done (so.1 q)))),
    )

pub loop-stmt-preserved : goal.loop-stmt-preserved
loop-stmt-preserved c =
    once_at _ _ c.stmt-item.result _ _ c.loop-stmt-test.true c.stmt-item.is
    (c.take_target.ensures.there.0 c.if-not-take_target.false) (c.take_target.ensures.taken c.if-not-take_target.false) c.loop-stmt.invariant

pub returns : goal.returns
returns c = at_end c.args.body.now c.loop-stmt.stmt-index c.loop-stmt.left.keys _ c.loop-stmt-test.false c.is_empty.ensures c.loop-stmt.invariant
