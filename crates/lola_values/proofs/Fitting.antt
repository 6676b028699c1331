-- Where what an expression of a well sized module reads has values of its types, its value is below 2 to its width,
-- and no place that it reads is past an array.
use Rattle.std.proofs.Common.{◌≡◌, ℕ, ◌^◌, ◌<◌, List, [], ◌++◌, Option, Some, None, sym, ◌∙◌, ap, subst, inl, inr}
use Rattle.lola_bits.specs.Lists.{IsIn}
use Rattle.lola_bits.specs.Vector.{FitsWidth}
use Rattle.lola_bits.proofs.Lists.{to_map}
use Rattle.lola_tree.specs.declared.named.Ref.{Ref}
use Rattle.lola_tree.specs.declared.named.Shape.{Shape}
use Rattle.lola_tree.specs.declared.named.Shape.TheVariants.{Vector, Array}
use Rattle.lola_tree.specs.Names.{Entry, port, constant, local, Names, names_of, count_number, constant_number, ref_name}
use Rattle.lola_tree.specs.Tree.{Tree, ModuleTree, SourceTree}
use Rattle.lola_tree.specs.Width.{scope_of, width, vector_width, element_width, elements_width, entry_width, named_shape, checked_place}
use Rattle.lola_tree.specs.Value.{Path, Values, value, or_zero}
use Rattle.lola_tree.specs.Cycle.{names_at, FitsIn}
use Rattle.lola_tree.specs.design.Signals.{Signal, elements}
use Rattle.lola_tree.specs.design.Cycle.{Suits}
use Rattle.lola_tree.specs.design.Chains.{names_in, elements_in, arrays_in, paths_of}
use Rattle.lola_width.specs.NameFaults.{expr_faults}
use Rattle.lola_design.specs.Regular.{IsVector, IsArray, ReadsSuit, AreWithin}
use Rattle.lola_regular.specs.Written.{IsWrittenTree}
use Rattle.lola_values.proofs.Standing.{Stands}
use Rattle.lola_values.proofs.Reading.{the_clock, VectorRead, ArrayRead, names_read, elements_read}
use Rattle.lola_values.proofs.Widths.{checked_is, number_in}
use Rattle.lola_values.proofs.Known.{NumbersAll}
use Rattle.lola_values.proofs.Below.{value_fits}
use Rattle.lola_values.proofs.Lefts.{PathsOnce, the_signal}

-- a value of a type, by its width
vector_fits : (names : Names) (type : Shape) (x : ℕ → ℕ) (w : ℕ) → IsVector type → Suits names type x → vector_width names (Some type) ≡ Some w → FitsWidth w (x 0)
vector_fits names (Vector c) x w is suits e =
    let k = checked_is (count_number names c) w e in
    record { positive = k.1; at_most = k.2; below = subst (λ (o : Option ℕ). FitsIn o (x 0)) e suits }
vector_fits names (Array n c) x w is suits e = absurd is

element_fits : (names : Names) (type : Shape) (x : ℕ → ℕ) (n w : ℕ) → IsArray type → Suits names type x → n < elements names type → element_width names (Some type) ≡ Some w → FitsWidth w (x n)
element_fits names (Vector c) x n w is suits within e = absurd is
element_fits names (Array k c) x n w is suits within e =
    let q = checked_is (count_number names c) w e in
    record { positive = q.1; at_most = q.2; below = subst (λ (o : Option ℕ). FitsIn o (x n)) e (suits n within) }

-- an array has as many elements as its places tell apart
place_elements : NumbersAll → (o : Option ℕ) (k : ℕ) → checked_place o ≡ Some k → or_zero o ≡ 2 ^ k
place_elements numbers None k e = absurd (let f : None ≡ Some k = e in cc)
place_elements numbers (Some n) k e = ((numbers n k).0 e).2

pub elements_are : NumbersAll → (names : Names) (type : Shape) (k : ℕ) → IsArray type → elements_width names (Some type) ≡ Some k → elements names type ≡ 2 ^ k
elements_are numbers names (Vector c) k is e = absurd is
elements_are numbers names (Array n c) k is e = place_elements numbers (count_number names n) k e

-- a constant fits its width
constant_fits : (names : Names) (o : Option Entry) (c w : ℕ) → constant_number o ≡ Some c → entry_width names o ≡ Some w → FitsWidth w c
constant_fits names None c w e f = absurd (let g : None ≡ Some c = e in cc)
constant_fits names (Some (port q)) c w e f = absurd (let g : None ≡ Some c = e in cc)
constant_fits names (Some (local l)) c w e f = absurd (let g : None ≡ Some c = e in cc)
constant_fits names (Some (constant k)) c w e f = let same : k.value ≡ c = (let g : Some k.value ≡ Some c = e in cc) in subst (λ (n : ℕ). FitsWidth w n) same (number_in k.value k.width w f).1

-- how many elements what has a type has
abbrev pub limit_of : Names → Option Shape → ℕ
limit_of names None = 0
limit_of names (Some type) = elements names type

module _ (numbers : NumbersAll) (S : SourceTree) (m : ModuleTree) (p : Path) (clocks : List (List ℕ)) (s : Stands S m p clocks) (v : Values) (e : Tree)
    (suit : ReadsSuit S (paths_of p (names_in (scope_of m) e)) (paths_of p (arrays_in e)) v) where
  abbrev IsNameRead : Ref → Type 0
  IsNameRead r = VectorRead S m p clocks s r × IsIn r (names_in (scope_of m) e)

  abbrev IsElementRead : Ref → Type 0
  IsElementRead r = ArrayRead S m p clocks s r × IsIn r (arrays_in e)

  read_fits : (r : Ref) → IsNameRead r → (w : ℕ) → (scope_of m).width r ≡ Some w → FitsWidth w (names_at p v r 0)
  read_fits r is w wide =
      let x = is.0 in
      let suits = suit x.0 x.1 (inl (subst (λ (y : Path). IsIn y (paths_of p (names_in (scope_of m) e))) (sym x.4) (to_map (λ (r : Ref). p ++ r.path) r (names_in (scope_of m) e) is.1))) in
      subst (λ (y : Path). FitsWidth w (v y 0)) x.4 (vector_fits x.0.names x.0.type (v x.0.path) w x.3 suits (sym x.5 ∙ wide))

  stored_fits : (r : Ref) → IsElementRead r → (n : ℕ) → n < limit_of (names_of m) (named_shape (names_of m (ref_name r))) → (w : ℕ) → (scope_of m).element r ≡ Some w → FitsWidth w (names_at p v r n)
  stored_fits r is n within w wide =
      let x = is.0 in
      let suits = suit x.0 x.1.0 (inr (subst (λ (y : Path). IsIn y (paths_of p (arrays_in e))) (sym x.3) (to_map (λ (r : Ref). p ++ r.path) r (arrays_in e) is.1))) in
      let less : n < elements x.0.names x.0.type = subst (λ (k : Names). n < elements k x.0.type) (sym x.5) (subst (λ (o : Option Shape). n < limit_of (names_of m) o) x.4 within) in
      let typed : element_width x.0.names (Some x.0.type) ≡ Some w = ap (λ (k : Names). element_width k (Some x.0.type)) x.5 ∙ ap (element_width (names_of m)) (sym x.4) ∙ wide in
      subst (λ (y : Path). FitsWidth w (v y n)) x.3 (element_fits x.0.names x.0.type (v x.0.path) n w x.2 suits less typed)

  limit_is : (r : Ref) → IsElementRead r → (k : ℕ) → (scope_of m).place r ≡ Some k → limit_of (names_of m) (named_shape (names_of m (ref_name r))) ≡ 2 ^ k
  limit_is r is k place =
      let x = is.0 in
      ap (limit_of (names_of m)) x.4 ∙ elements_are numbers (names_of m) x.0.type k x.2 (ap (elements_width (names_of m)) (sym x.4) ∙ place)

  -- its value fits, and so do the places of the elements that it reads
  sound : IsWrittenTree e → expr_faults (names_of m) (the_clock S m p clocks s) e ≡ [] → (w : ℕ) → width (scope_of m) e ≡ Some w →
      FitsWidth w (value (scope_of m) e (names_at p v)) × ((a : Ref × Tree) → IsIn a (elements_in e) → value (scope_of m) a.1 (names_at p v) < limit_of (names_of m) (named_shape (names_of m (ref_name a.0))))
  sound written none w wide =
      value_fits (scope_of m) (names_at p v) (λ r. limit_of (names_of m) (named_shape (names_of m (ref_name r)))) IsNameRead IsElementRead read_fits
      (λ r c k is_number is_wide. constant_fits (names_of m) (names_of m (ref_name r)) c k is_number is_wide) stored_fits limit_is
      e (λ r is. (names_read S m p clocks s e written none r is, is)) (λ a is. (elements_read S m p clocks s e written none a is, to_map (λ (b : Ref × Tree). b.0) a (elements_in e) is)) w wide

  pub expression_fits : IsWrittenTree e → expr_faults (names_of m) (the_clock S m p clocks s) e ≡ [] → (w : ℕ) → width (scope_of m) e ≡ Some w → FitsWidth w (value (scope_of m) e (names_at p v))
  expression_fits written none w wide = (sound written none w wide).0

  pub elements_within : PathsOnce S → IsWrittenTree e → expr_faults (names_of m) (the_clock S m p clocks s) e ≡ [] → (w : ℕ) → width (scope_of m) e ≡ Some w → AreWithin S m p v e
  elements_within once written none w wide a is x stored same =
      let y = elements_read S m p clocks s e written none a is in
      let one = the_signal S once (p ++ a.0.path) x y.0 stored.0 y.1.0 same y.3 in
      let limit : limit_of (names_of m) (named_shape (names_of m (ref_name a.0))) ≡ elements x.names x.type =
      ap (limit_of (names_of m)) y.4 ∙ ap (λ (k : Names). elements k y.0.type) (sym y.5) ∙ ap (λ (k : Signal). elements k.names k.type) (sym one) in
      subst (λ (n : ℕ). value (scope_of m) a.1 (names_at p v) < n) limit ((sound written none w wide).1 a is)
