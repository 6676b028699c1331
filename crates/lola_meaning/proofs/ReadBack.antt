-- A table gives back the values that stand in it, and values that are the same stand in the same table.
use Rattle.std.proofs.Common.{◌≡◌, ◌≢◌, ◌≤◌, List, [], ◌∷◌, map, get_or, refl, ◌∙◌, ap, ap₂, inl, inr}
use Rattle.lola_bits.specs.Lists.{IsIn}
use Rattle.lola_tree.specs.Tree.{SourceTree}
use Rattle.lola_tree.specs.Value.{Path, Values}
use Rattle.lola_tree.specs.design.Signals.{Kind, clock, input, pad, wire, register, Signal, signals, signal_paths}
use Rattle.lola_tree.specs.design.Cycle.{IsSignal, AreSame}
use Rattle.lola_design.specs.Paths.{count}
use Rattle.lola_unfold.specs.Flat.{numbers_of}
use Rattle.lola_meaning.specs.Tables.{elements_of, shown_by, table_of, stored_by, state_of, values_of}
use Rattle.lola_meaning.proofs.Tables.{at_table, table_has}
use Rattle.lola_meaning.proofs.Lookups.{same_elements, from_elements}
use Rattle.lola_meaning.proofs.KindTests.{no_clock}

module _ (S : SourceTree) (once : (x : Path) → count x (signal_paths S) ≤ 1) where
  pub values_back : (v : Values) (x : Signal) → IsIn x (signals S) → x.kind ≢ clock → AreSame x.names x.type (values_of S (table_of S v) x.path) (v x.path)
  values_back v x there other = from_elements x.names x.type (get_or (table_of S v) (numbers_of S x.path) []) (v x.path) (table_has S once v x there other)

  pub state_back : (s : Values) (x : Signal) → IsSignal S register x → AreSame x.names x.type (values_of S (state_of S s) x.path) (s x.path)
  state_back s x there =
      from_elements x.names x.type (get_or (state_of S s) (numbers_of S x.path) []) (s x.path)
      (at_table S once (λ (y : Signal). stored_by y.kind (elements_of s y)) [] x there.0 ∙ ap (λ (k : Kind). stored_by k (elements_of s x)) there.1)

-- values that are the same
same_map : {X Y : Type 0} (f g : X → Y) (xs : List X) → ((x : X) → IsIn x xs → f x ≡ g x) → map f xs ≡ map g xs
same_map f g [] same = refl
same_map f g (x ∷ xs) same = ap₂ (λ y ys. y ∷ ys) (same x (inl refl)) (same_map f g xs (λ y there. same y (inr there)))

module _ (S : SourceTree) (v w : Values) (same : (x : Signal) → IsIn x (signals S) → x.kind ≢ clock → AreSame x.names x.type (v x.path) (w x.path)) where
  shown_same : (x : Signal) → IsIn x (signals S) → (k : Kind) → (k ≢ clock → x.kind ≢ clock) → shown_by k (elements_of v x) ≡ shown_by k (elements_of w x)
  shown_same x there clock other = refl
  shown_same x there input other = same_elements x.names x.type (v x.path) (w x.path) (same x there (other (no_clock input (λ none. none))))
  shown_same x there pad other = same_elements x.names x.type (v x.path) (w x.path) (same x there (other (no_clock pad (λ none. none))))
  shown_same x there wire other = same_elements x.names x.type (v x.path) (w x.path) (same x there (other (no_clock wire (λ none. none))))
  shown_same x there register other = same_elements x.names x.type (v x.path) (w x.path) (same x there (other (no_clock register (λ none. none))))

  pub same_table : table_of S v ≡ table_of S w
  same_table =
      same_map (λ (x : Signal). shown_by x.kind (elements_of v x)) (λ (x : Signal). shown_by x.kind (elements_of w x)) (signals S) (λ x there. shown_same x there x.kind (λ other. other))
