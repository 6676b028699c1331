-- What the expressions of a flat design read.
use Rattle.std.proofs.Common.{◌≡◌, ℕ, cond, List, [], ◌∷◌, ◌++◌, Option, Some, None, refl, sym, ◌∙◌, ap, subst, inl, inr}
use Rattle.std.specs.Option.{is_none}
use Rattle.std.specs.List.{AllByRecursion}
use Rattle.lola_bits.specs.Lists.{IsIn}
use Rattle.lola_bits.proofs.Lists.{in_front, in_back}
use Rattle.lola_bits.proofs.All.{all_append}
use Rattle.lola_flat.specs.Value.{Read, vector_of, array_of, outside_of, reads, all_reads}
use Rattle.lola_tree.specs.declared.named.Ref.{Ref}
use Rattle.lola_tree.specs.Tree.{Tree, number, whole, bit, slice, index, concat, negation, binary, choice, Parts, no_part, one_part}
use Rattle.lola_tree.specs.Names.{Entry, port, constant, local, Names, ref_name, constant_number}
use Rattle.lola_tree.specs.Width.{Scope, scope_over}
use Rattle.lola_tree.specs.design.Chains.{name_in, names_in, part_names_in, elements_in, part_elements_in}
use Rattle.lola_unfold.specs.Translated.{Numbers, meant, translated, translated_parts}

-- vectors and arrays of some kinds are read, and nothing from outside
abbrev pub IsInner : (V A : ℕ → Type 0) → Read → Type 0
IsInner V A (vector_of n) = V n
IsInner V A (array_of n) = A n
IsInner V A (outside_of n) = ⊥

module _ (names : Names) (numbers : Numbers) (V A : ℕ → Type 0) where
  abbrev scope : Scope
  scope = scope_over names

  abbrev Inner : List Read → Type 0
  Inner rs = AllByRecursion (IsInner V A) rs

  abbrev AreNamed : List Ref → Type 0
  AreNamed rs = (r : Ref) → IsIn r rs → V (numbers r.path)

  abbrev ArePlaced : List (Ref × Tree) → Type 0
  ArePlaced as_ = (a : Ref × Tree) → IsIn a as_ → A (numbers a.0.path)

  name_inner : (r : Ref) → AreNamed (name_in scope r) → Inner (reads (meant (names (ref_name r)) (numbers r.path)))
  name_inner r named = by_entry (names (ref_name r)) refl
    where
      free : (o : Option Entry) → names (ref_name r) ≡ o → constant_number o ≡ None → V (numbers r.path)
      free o e none =
          let number : scope.number r ≡ None = ap constant_number e ∙ none in
          named r (subst (λ (c : Option ℕ). IsIn r (cond (is_none c) (r ∷ []) [])) (sym number) (inl refl))

      by_entry : (o : Option Entry) → names (ref_name r) ≡ o → Inner (reads (meant o (numbers r.path)))
      by_entry None e = (free None e refl, tt)
      by_entry (Some (port q)) e = (free (Some (port q)) e refl, tt)
      by_entry (Some (local l)) e = (free (Some (local l)) e refl, tt)
      by_entry (Some (constant c)) e = tt

  mutual
    pub inner : (e : Tree) → AreNamed (names_in scope e) → ArePlaced (elements_in e) → Inner (reads (translated names numbers e))
    inner (number n written at) named placed = tt
    inner (whole of) named placed = name_inner of named
    inner (bit of place at) named placed = name_inner of named
    inner (slice of high low at) named placed = name_inner of named
    inner (index of place at) named placed = (placed (of, place) (inl refl), inner place named (λ a is. placed a (inr is)))
    inner (concat parts at) named placed = parts_inner parts named placed
    inner (negation e at) named placed = all_append (IsInner V A) (reads (translated names numbers e)) [] (inner e named placed) tt
    inner (binary o a b at) named placed =
        all_append (IsInner V A) (reads (translated names numbers a)) (reads (translated names numbers b) ++ [])
        (inner a (λ r is. named r (in_front r (names_in scope a) (names_in scope b) is)) (λ r is. placed r (in_front r (elements_in a) (elements_in b) is)))
        (all_append (IsInner V A) (reads (translated names numbers b)) []
        (inner b (λ r is. named r (in_back r (names_in scope a) (names_in scope b) is)) (λ r is. placed r (in_back r (elements_in a) (elements_in b) is))) tt)
    inner (choice test first second at) named placed =
        let n = λ (r : Ref) (is : IsIn r (names_in scope first ++ names_in scope second)). named r (in_back r (names_in scope test) (names_in scope first ++ names_in scope second) is) in
        let q = λ (a : Ref × Tree) (is : IsIn a (elements_in first ++ elements_in second)). placed a (in_back a (elements_in test) (elements_in first ++ elements_in second) is) in
        all_append (IsInner V A) (reads (translated names numbers test)) (reads (translated names numbers first) ++ (reads (translated names numbers second) ++ []))
        (inner test (λ r is. named r (in_front r (names_in scope test) (names_in scope first ++ names_in scope second) is)) (λ a is. placed a (in_front a (elements_in test) (elements_in first ++ elements_in second) is)))
        (all_append (IsInner V A) (reads (translated names numbers first)) (reads (translated names numbers second) ++ [])
        (inner first (λ r is. n r (in_front r (names_in scope first) (names_in scope second) is)) (λ a is. q a (in_front a (elements_in first) (elements_in second) is)))
        (all_append (IsInner V A) (reads (translated names numbers second)) []
        (inner second (λ r is. n r (in_back r (names_in scope first) (names_in scope second) is)) (λ a is. q a (in_back a (elements_in first) (elements_in second) is))) tt))

    parts_inner : (ps : Parts) → AreNamed (part_names_in scope ps) → ArePlaced (part_elements_in ps) → Inner (all_reads (translated_parts names numbers ps))
    parts_inner no_part named placed = tt
    parts_inner (one_part e times behind) named placed =
        all_append (IsInner V A) (reads (translated names numbers e)) (all_reads (translated_parts names numbers behind))
        (inner e (λ r is. named r (in_front r (names_in scope e) (part_names_in scope behind) is)) (λ a is. placed a (in_front a (elements_in e) (part_elements_in behind) is)))
        (parts_inner behind (λ r is. named r (in_back r (names_in scope e) (part_names_in scope behind) is)) (λ a is. placed a (in_back a (elements_in e) (part_elements_in behind) is)))
