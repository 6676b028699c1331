-- What the equations of a flat design use is what occurs in the equations of its source.
use Rattle.std.proofs.Common.{◌≡◌, ℕ, suc, ◌+◌, ◌≤◌, Bool, true, false, cond, if◌then◌else◌, List, [], ◌∷◌, ◌++◌, map, flat_map, Option, Some, None, refl, sym, ap, ap₂, ◌∙◌, inl, inr, arith}
use Rattle.std.specs.Option.{is_none}
use Rattle.std.proofs.lemmas.List.{map-append}
use Rattle.std.proofs.lemmas.Grind.{flat_map-append}
use Rattle.lola_bits.specs.Lists.{IsIn}
use Rattle.lola_tree.specs.declared.named.Ref.{Ref}
use Rattle.lola_tree.specs.Tree.{Tree, number, whole, bit, slice, index, concat, negation, binary, choice, Parts, no_part, one_part, SourceTree}
use Rattle.lola_tree.specs.Names.{Entry, port, constant, local, Names, names_of, ref_name, constant_number}
use Rattle.lola_tree.specs.Width.{scope_over, scope_of}
use Rattle.lola_tree.specs.Value.{Path}
use Rattle.lola_tree.specs.design.Signals.{Kind, clock, input, pad, wire, register, Signal, signals, signal_paths}
use Rattle.lola_tree.specs.design.Equations.{Right, expression, copied, driven, Equation, Update, updates}
use Rattle.lola_tree.specs.design.Chains.{names_in, part_names_in, paths_of, right_paths, flat_equations}
use Rattle.lola_design.specs.Paths.{path_eq, one_if, count, lefts, has_equation, paths_where}
use Rattle.lola_design.specs.Graph.{number_of, right_of, uses_of, design_graph}
use Rattle.lola_design.proofs.Found.{where_less}
use Rattle.lola_flat.specs.Tree.{ExprTree, ExprTrees, from_outside, no_expr, one_expr, SignalTree}
use Rattle.lola_flat.specs.Value.{reads, all_reads}
use Rattle.lola_unfold.specs.Translated.{Numbers, meant, translated, translated_parts}
use Rattle.lola_unfold.specs.Flat.{seen_from, flat_right, flat_rights, flat_kind, equation_by, update_of, flat_signal, vector_read, vectors_read, some_uses, kind_uses, flat_graph}

abbrev all_vectors : ExprTrees → List ℕ
all_vectors es = flat_map vector_read (all_reads es)

-- the numbers of names at a path
abbrev at_path : Numbers → Path → List Ref → List ℕ
at_path N p refs = map N (paths_of p refs)

at_append : (N : Numbers) (p : Path) (xs ys : List Ref) → at_path N p (xs ++ ys) ≡ at_path N p xs ++ at_path N p ys
at_append N p xs ys = ap (map N) (map-append (λ (r : Ref). p ++ r.path) xs ys) ∙ map-append N (paths_of p xs) (paths_of p ys)

append_none : {X : Type 0} (xs : List X) → xs ++ [] ≡ xs
append_none [] = refl
append_none (x ∷ xs) = ap (λ l. x ∷ l) (append_none xs)

meant_vectors : (o : Option Entry) (N : Numbers) (p : Path) (r : Ref) → vectors_read (meant o (N (p ++ r.path))) ≡ at_path N p (cond (is_none (constant_number o)) (r ∷ []) [])
meant_vectors None N p r = refl
meant_vectors (Some (port q)) N p r = refl
meant_vectors (Some (constant q)) N p r = refl
meant_vectors (Some (local q)) N p r = refl

-- one argument, two, and three
one_vectors : (a : ExprTree) → all_vectors (one_expr a no_expr) ≡ vectors_read a
one_vectors a = ap (flat_map vector_read) (append_none (reads a))

more_vectors : (a : ExprTree) (es : ExprTrees) → all_vectors (one_expr a es) ≡ vectors_read a ++ all_vectors es
more_vectors a es = flat_map-append vector_read (reads a) (all_reads es)

two_vectors : (a b : ExprTree) → all_vectors (one_expr a (one_expr b no_expr)) ≡ vectors_read a ++ vectors_read b
two_vectors a b = more_vectors a (one_expr b no_expr) ∙ ap (λ l. vectors_read a ++ l) (one_vectors b)

three_vectors : (a b c : ExprTree) → all_vectors (one_expr a (one_expr b (one_expr c no_expr))) ≡ vectors_read a ++ (vectors_read b ++ vectors_read c)
three_vectors a b c = more_vectors a (one_expr b (one_expr c no_expr)) ∙ ap (λ l. vectors_read a ++ l) (two_vectors b c)

-- an expression reads the vectors that occur in it
mutual
  pub translated_vectors : (names : Names) (N : Numbers) (p : Path) (e : Tree) → vectors_read (translated names (seen_from N p) e) ≡ at_path N p (names_in (scope_over names) e)
  translated_vectors names N p (number n written at) = refl
  translated_vectors names N p (whole r) = meant_vectors (names (ref_name r)) N p r
  translated_vectors names N p (bit r place at) = meant_vectors (names (ref_name r)) N p r
  translated_vectors names N p (slice r high low at) = meant_vectors (names (ref_name r)) N p r
  translated_vectors names N p (index r place at) = translated_vectors names N p place
  translated_vectors names N p (concat parts at) = part_vectors names N p parts
  translated_vectors names N p (negation e at) = one_vectors (translated names (seen_from N p) e) ∙ translated_vectors names N p e
  translated_vectors names N p (binary o a b at) =
      two_vectors (translated names (seen_from N p) a) (translated names (seen_from N p) b)
      ∙ ap (λ l. l ++ vectors_read (translated names (seen_from N p) b)) (translated_vectors names N p a)
      ∙ ap (λ l. at_path N p (names_in (scope_over names) a) ++ l) (translated_vectors names N p b)
      ∙ sym (at_append N p (names_in (scope_over names) a) (names_in (scope_over names) b))
  translated_vectors names N p (choice a b c at) =
      three_vectors (translated names (seen_from N p) a) (translated names (seen_from N p) b) (translated names (seen_from N p) c)
      ∙ ap (λ l. l ++ (vectors_read (translated names (seen_from N p) b) ++ vectors_read (translated names (seen_from N p) c))) (translated_vectors names N p a)
      ∙ ap (λ l. at_path N p (names_in (scope_over names) a) ++ (l ++ vectors_read (translated names (seen_from N p) c))) (translated_vectors names N p b)
      ∙ ap (λ l. at_path N p (names_in (scope_over names) a) ++ (at_path N p (names_in (scope_over names) b) ++ l)) (translated_vectors names N p c)
      ∙ ap (λ l. at_path N p (names_in (scope_over names) a) ++ l) (sym (at_append N p (names_in (scope_over names) b) (names_in (scope_over names) c)))
      ∙ sym (at_append N p (names_in (scope_over names) a) (names_in (scope_over names) b ++ names_in (scope_over names) c))

  part_vectors : (names : Names) (N : Numbers) (p : Path) (parts : Parts) → all_vectors (translated_parts names (seen_from N p) parts) ≡ at_path N p (part_names_in (scope_over names) parts)
  part_vectors names N p no_part = refl
  part_vectors names N p (one_part e times behind) =
      flat_map-append vector_read (reads (translated names (seen_from N p) e)) (all_reads (translated_parts names (seen_from N p) behind))
      ∙ ap (λ l. l ++ all_vectors (translated_parts names (seen_from N p) behind)) (translated_vectors names N p e)
      ∙ ap (λ l. at_path N p (names_in (scope_over names) e) ++ l) (part_vectors names N p behind)
      ∙ sym (at_append N p (names_in (scope_over names) e) (part_names_in (scope_over names) behind))

-- and so does the right side of an equation
right_vectors : (N : Numbers) (r : Right) → vectors_read (flat_right N r) ≡ map N (right_paths r)
right_vectors N (expression m p e) = translated_vectors (names_of m) N p e
right_vectors N (copied other) = refl
right_vectors N (driven m p drive release io) =
    let a = translated (names_of m) (seen_from N p) release in
    let b = translated (names_of m) (seen_from N p) drive in
    more_vectors a (one_expr (from_outside (N io)) (one_expr b no_expr))
    ∙ ap (λ l. vectors_read a ++ l) (one_vectors b)
    ∙ ap (λ l. l ++ vectors_read b) (translated_vectors (names_of m) N p release)
    ∙ ap (λ l. at_path N p (names_in (scope_of m) release) ++ l) (translated_vectors (names_of m) N p drive)
    ∙ sym (map-append N (paths_of p (names_in (scope_of m) release)) (paths_of p (names_in (scope_of m) drive)))

uses_are : (paths : List Path) (r : Option Right) → some_uses (flat_rights (number_of paths) r) ≡ uses_of paths r
uses_are paths None = refl
uses_are paths (Some r) = ap Some (right_vectors (number_of paths) r)

-- what has no equation
no_right_test : (b : Bool) (r : Right) (o : Option Right) (n : ℕ) → (n ≡ 0 → o ≡ None) → one_if b + n ≡ 0 → (if b then Some r else o) ≡ None
no_right_test true r o n rest e = let f : 1 + n ≡ 0 = e in absurd (omega arith)
no_right_test false r o n rest e = rest (let f : 0 + n ≡ 0 = e in omega arith)

no_right : (E : List Equation) (x : Path) → count x (lefts E) ≡ 0 → right_of E x ≡ None
no_right [] x e = refl
no_right (q ∷ E) x e = no_right_test (path_eq q.left x) q.right (right_of E x) (count x (lefts E)) (no_right E x) e

given_uses : (paths : List Path) (r : Option Right) → r ≡ None → None ≡ uses_of paths r
given_uses paths r is = sym (ap (uses_of paths) is)

-- a signal of any kind
kind_same : (k : Kind) (paths : List Path) (r : Option Right) (u : Option Update) → (has_equation k ≡ false → r ≡ None) → kind_uses (flat_kind k) (equation_by k r u (number_of paths)) ≡ uses_of paths r
kind_same clock paths r u none = given_uses paths r (none refl)
kind_same input paths r u none = given_uses paths r (none refl)
kind_same register paths r u none = given_uses paths r (none refl)
kind_same pad paths r u none = uses_are paths r
kind_same wire paths r u none = uses_are paths r

map_same : {X Y Z : Type 0} (f : Y → Z) (g : X → Y) (h : X → Z) (xs : List X) → ((x : X) → IsIn x xs → f (g x) ≡ h x) → map f (map g xs) ≡ map h xs
map_same f g h [] same = refl
map_same f g h (x ∷ xs) same = ap₂ (λ y ys. y ∷ ys) (same x (inl refl)) (map_same f g h xs (λ y there. same y (inr there)))

pub same_graph : (S : SourceTree) → ((x : Path) → count x (lefts (flat_equations S)) ≡ count x (paths_where has_equation (signals S))) → ((x : Path) → count x (signal_paths S) ≤ 1) →
    flat_graph (map (flat_signal S) (signals S)) ≡ design_graph S
same_graph S equations once =
    map_same (λ (s : SignalTree). kind_uses s.kind s.equation) (flat_signal S) (λ (s : Signal). uses_of (signal_paths S) (right_of (flat_equations S) s.path)) (signals S) each
    ∙ sym (map_same (λ (x : Path). uses_of (signal_paths S) (right_of (flat_equations S) x)) (λ (s : Signal). s.path) (λ (s : Signal). uses_of (signal_paths S) (right_of (flat_equations S) s.path)) (signals S) (λ s there. refl))
  where
    each : (s : Signal) → IsIn s (signals S) → kind_uses (flat_signal S s).kind (flat_signal S s).equation ≡ uses_of (signal_paths S) (right_of (flat_equations S) s.path)
    each s there = kind_same s.kind (signal_paths S) (right_of (flat_equations S) s.path) (update_of (updates S) s.path) (λ none.
        no_right (flat_equations S) s.path (let few = once s.path in let less : suc (count s.path (paths_where has_equation (signals S))) ≤ count s.path (signal_paths S) = where_less has_equation s (signals S) there none in equations s.path ∙ (omega arith)))
