-- What is read and set in a well sized module has the types that the module gives it.
use Rattle.std.proofs.Common.{◌≡◌, ℕ, List, ◌++◌, Some, sym, ◌∙◌, ap, subst}
use Rattle.lola_bits.specs.Lists.{IsIn}
use Rattle.lola_bits.proofs.Lists.{from_map}
use Rattle.lola_tree.specs.declared.named.Ref.{Ref}
use Rattle.lola_tree.specs.declared.named.Shape.{Shape}
use Rattle.lola_tree.specs.declared.named.Shape.TheVariants.{Vector, Array}
use Rattle.lola_tree.specs.Names.{Names, names_of, count_number}
use Rattle.lola_tree.specs.Tree.{Tree, ModuleTree, SourceTree}
use Rattle.lola_tree.specs.Width.{scope_of, vector_width, element_width, elements_width}
use Rattle.lola_tree.specs.Value.{Path}
use Rattle.lola_tree.specs.design.Signals.{Signal, signals}
use Rattle.lola_tree.specs.design.Equations.{Right, Equation}
use Rattle.lola_tree.specs.design.Chains.{elements_in, flat_left}
use Rattle.lola_design.specs.Regular.{IsVector}
use Rattle.lola_values.proofs.Standing.{Stands}
use Rattle.lola_values.proofs.Reading.{VectorRead, ArrayRead, names_read, elements_read}
use Rattle.lola_values.proofs.Widths.{checked_is}
use Rattle.lola_values.proofs.Known.{Known}
use Rattle.lola_values.proofs.Lefts.{PathsOnce, the_signal}
use Rattle.lola_values.proofs.Sound.{IsSound}
use Rattle.lola_meaning.specs.Typed.{HasWidth, IsVectorRead, IsArrayRead, IsTyped, IsOfWidth, RightHasWidth}

-- what sets a vector has its width
abbrev pub LeftHas : SourceTree → Path → Right → Type 0
LeftHas S left r = (x : Signal) → IsIn x (signals S) → x.path ≡ left → (w : ℕ) × (vector_width x.names (Some x.type) ≡ Some w) × RightHasWidth S w r

abbrev pub FlatHas : SourceTree → Equation → Type 0
FlatHas S e = LeftHas S (flat_left e.left e.right) e.right

-- a width of one bit at least
pub known_vector : (names : Names) (type : Shape) → IsVector type → HasWidth names type → Known (vector_width names (Some type))
known_vector names (Vector c) is has = let k = checked_is (count_number names c) has.0 has.1 in (has.0, k.1, has.1)
known_vector names (Array n c) is has = absurd is

module _ (S : SourceTree) (m : ModuleTree) (p : Path) (clocks : List (List ℕ)) (s : Stands S m p clocks) where
  vector_typed : (r : Ref) → VectorRead S m p clocks s r → IsVectorRead S m p r
  vector_typed r x = record { signal = x.0; there = x.1; no_clock = x.2; vector = x.3; path_is = x.4; wide = x.5 }

  abbrev array_typed : (r : Ref) → ArrayRead S m p clocks s r → IsArrayRead S m p r
  array_typed r x = record {
    signal = x.0;
    there = x.1;
    array = x.2;
    path_is = x.3;
    wide = ap (element_width (names_of m)) x.4 ∙ ap (λ (k : Names). element_width k (Some x.0.type)) (sym x.5);
    places = ap (elements_width (names_of m)) x.4 ∙ ap (λ (k : Names). elements_width k (Some x.0.type)) (sym x.5);
  }

  pub sound_typed : (e : Tree) → IsSound S m p clocks s e → IsTyped S m p e
  sound_typed e good = record {
    vectors = λ r is. vector_typed r (names_read S m p clocks s e good.written good.free r is);
    arrays = λ r is.
        let a = from_map (λ (b : Ref × Tree). b.0) r (elements_in e) is in
        subst (IsArrayRead S m p) (sym a.2) (array_typed a.0.0 (elements_read S m p clocks s e good.written good.free a.0 a.1));
  }

  module _ (once : PathsOnce S) (r : Ref) where
    -- the width of what a name sets
    pub left_width : VectorRead S m p clocks s r → (x : Signal) → IsIn x (signals S) → x.path ≡ p ++ r.path → vector_width x.names (Some x.type) ≡ (scope_of m).width r
    left_width y x there same =
        ap (λ (k : Signal). vector_width k.names (Some k.type)) (the_signal S once (p ++ r.path) x y.0 there y.1 same y.4) ∙ sym y.5

    pub left_element : ArrayRead S m p clocks s r → (x : Signal) → IsIn x (signals S) → x.path ≡ p ++ r.path → element_width x.names (Some x.type) ≡ (scope_of m).element r
    left_element y x there same =
        ap (λ (k : Signal). element_width k.names (Some k.type)) (the_signal S once (p ++ r.path) x y.0 there y.1.0 same y.3) ∙ sym (array_typed r y).wide

    pub left_places : ArrayRead S m p clocks s r → (x : Signal) → IsIn x (signals S) → x.path ≡ p ++ r.path → elements_width x.names (Some x.type) ≡ (scope_of m).place r
    left_places y x there same =
        ap (λ (k : Signal). elements_width k.names (Some k.type)) (the_signal S once (p ++ r.path) x y.0 there y.1.0 same y.3) ∙ sym (array_typed r y).places

    pub left_known : ((x : Signal) → IsIn x (signals S) → HasWidth x.names x.type) → VectorRead S m p clocks s r → (x : Signal) → IsIn x (signals S) → x.path ≡ p ++ r.path → Known (vector_width x.names (Some x.type))
    left_known has y x there same =
        let one = the_signal S once (p ++ r.path) x y.0 there y.1 same y.4 in
        known_vector x.names x.type (subst (λ (k : Signal). IsVector k.type) (sym one) y.3) (has x there)

  -- and of what is copied
  pub copied_width : (r : Ref) → VectorRead S m p clocks s r → (path : Path) → path ≡ p ++ r.path → (w : ℕ) → (scope_of m).width r ≡ Some w → IsOfWidth S w path
  copied_width r y path same w wide = record { signal = y.0; there = y.1; no_clock = y.2; vector = y.3; path_is = y.4 ∙ sym same; wide = sym y.5 ∙ wide }
