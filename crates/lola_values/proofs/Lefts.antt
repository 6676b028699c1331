-- The signal that an equation or an update sets: a number of its width fits its type.
use Rattle.std.proofs.Common.{◌≡◌, ℕ, ◌≤◌, List, [], ◌∷◌, ◌++◌, Option, Some, sym, ◌∙◌, ap, subst, inl, inr}
use Rattle.lola_bits.specs.Lists.{IsIn}
use Rattle.lola_bits.proofs.Lists.{in_front, in_back}
use Rattle.lola_tree.specs.declared.named.Ref.{Ref}
use Rattle.lola_tree.specs.declared.named.Shape.{Shape}
use Rattle.lola_tree.specs.declared.named.Shape.TheVariants.{Vector, Array}
use Rattle.lola_tree.specs.Names.{Names, names_of}
use Rattle.lola_tree.specs.Tree.{ModuleTree, SourceTree}
use Rattle.lola_tree.specs.Value.{Path, Values}
use Rattle.lola_tree.specs.Width.{scope_of, vector_width, element_width}
use Rattle.lola_tree.specs.Cycle.{FitsIn}
use Rattle.lola_tree.specs.design.Signals.{Signal, signals, signal_paths, pad}
use Rattle.lola_tree.specs.design.Equations.{Right, right_value}
use Rattle.lola_tree.specs.design.Chains.{right_paths, right_arrays}
use Rattle.lola_tree.specs.design.Cycle.{IsSignal, Suits}
use Rattle.lola_design.specs.Paths.{count}
use Rattle.lola_design.specs.Regular.{IsVector, IsArray, FitsType, ReadsSuit, IsRightWithin}
use Rattle.lola_values.proofs.OneSignal.{one_signal}
use Rattle.lola_values.proofs.Standing.{Stands}
use Rattle.lola_values.proofs.Reading.{VectorRead, ArrayRead}

-- no path comes twice among the signals
abbrev pub PathsOnce : SourceTree → Type 0
PathsOnce S = (q : Path) → count q (signal_paths S) ≤ 1

-- a right side fits what it sets
abbrev pub LeftFits : SourceTree → Path → Right → Type 0
LeftFits S left r = (x : Signal) → IsIn x (signals S) → x.path ≡ left → (outside v : Values) →
    ((y : Signal) → IsSignal S pad y → Suits y.names y.type (outside y.path)) → ReadsSuit S (right_paths r) (right_arrays r) v →
    FitsType x.names x.type (right_value outside v r) × IsRightWithin S v r

-- what suits the reads of two suits those of each
pub suit_front : (S : SourceTree) (xs ys us vs : List Path) (v : Values) → ReadsSuit S (xs ++ ys) (us ++ vs) v → ReadsSuit S xs us v
suit_front S xs ys us vs v suit x there is = suit x there (elim is [ inl vector ↦ inl (in_front x.path xs ys vector) | inr array ↦ inr (in_front x.path us vs array) ])

pub suit_back : (S : SourceTree) (xs ys us vs : List Path) (v : Values) → ReadsSuit S (xs ++ ys) (us ++ vs) v → ReadsSuit S ys vs v
suit_back S xs ys us vs v suit x there is = suit x there (elim is [ inl vector ↦ inl (in_back x.path xs ys vector) | inr array ↦ inr (in_back x.path us vs array) ])

-- numbers of types by their widths
pub of_vector : (names : Names) (type : Shape) (n : ℕ) → IsVector type → FitsIn (vector_width names (Some type)) n → FitsType names type n
of_vector names (Vector width) n is fits = fits
of_vector names (Array count width) n is fits = absurd is

of_array : (names : Names) (type : Shape) (n : ℕ) → IsArray type → FitsIn (element_width names (Some type)) n → FitsType names type n
of_array names (Vector width) n is fits = absurd is
of_array names (Array count width) n is fits = fits

pub suits_vector : (names : Names) (type : Shape) (x : ℕ → ℕ) → IsVector type → Suits names type x → FitsIn (vector_width names (Some type)) (x 0)
suits_vector names (Vector width) x is suits = suits
suits_vector names (Array count width) x is suits = absurd is

module _ (S : SourceTree) (once : PathsOnce S) where
  pub the_signal : (q : Path) (x y : Signal) → IsIn x (signals S) → IsIn y (signals S) → x.path ≡ q → y.path ≡ q → x ≡ y
  the_signal q x y = one_signal q (signals S) (once q) x y

  module _ (m : ModuleTree) (p : Path) (clocks : List (List ℕ)) (s : Stands S m p clocks) (r : Ref) where
    pub vector_left : VectorRead S m p clocks s r → (x : Signal) → IsIn x (signals S) → x.path ≡ p ++ r.path → (n : ℕ) → FitsIn ((scope_of m).width r) n → FitsType x.names x.type n
    vector_left y x there same n fits =
        let one = the_signal (p ++ r.path) x y.0 there y.1 same y.4 in
        subst (λ (k : Signal). FitsType k.names k.type n) (sym one) (of_vector y.0.names y.0.type n y.3 (subst (λ (o : Option ℕ). FitsIn o n) y.5 fits))

    pub array_left : ArrayRead S m p clocks s r → (x : Signal) → IsIn x (signals S) → x.path ≡ p ++ r.path → (n : ℕ) → FitsIn ((scope_of m).element r) n → FitsType x.names x.type n
    array_left y x there same n fits =
        let one = the_signal (p ++ r.path) x y.0 there y.1.0 same y.3 in
        let wide : (scope_of m).element r ≡ element_width y.0.names (Some y.0.type) = ap (element_width (names_of m)) y.4 ∙ ap (λ (k : Names). element_width k (Some y.0.type)) (sym y.5) in
        subst (λ (k : Signal). FitsType k.names k.type n) (sym one) (of_array y.0.names y.0.type n y.2 (subst (λ (o : Option ℕ). FitsIn o n) wide fits))

    -- the value that a vector has
    pub copied_fits : VectorRead S m p clocks s r → (v : Values) (path : Path) → path ≡ p ++ r.path → ReadsSuit S (path ∷ []) [] v → FitsIn ((scope_of m).width r) (v path 0)
    copied_fits y v path same suit =
        let here : y.0.path ≡ path = y.4 ∙ sym same in
        let fits = suits_vector y.0.names y.0.type (v y.0.path) y.3 (suit y.0 y.1 (inl (inl here))) in
        subst (λ (q : Path). FitsIn ((scope_of m).width r) (v q 0)) here (subst (λ (o : Option ℕ). FitsIn o (v y.0.path 0)) (sym y.5) fits)
