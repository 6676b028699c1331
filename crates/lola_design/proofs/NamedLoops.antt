-- A loop among the numbers of signals is one of their paths.
use Rattle.std.proofs.Common.{◌≡◌, ℕ, zero, suc, ◌≤◌, List, [], ◌∷◌, take, drop, get_or, Some, None, refl, sym, ◌∙◌, ap, subst, inl, inr, arith}
use Rattle.std.specs.Prelude.{slice_get}
use Rattle.lola_bits.specs.Lists.{IsIn, AreDistinct}
use Rattle.lola_bits.proofs.Lists.{from_map}
use Rattle.lola_bits.proofs.Places.{around, get_in}
use Rattle.lola_bits.proofs.All.{of_all, all_of}
use Rattle.lola_tree.specs.Tree.{SourceTree}
use Rattle.lola_tree.specs.Value.{Path, Values}
use Rattle.lola_tree.specs.design.Signals.{signal_paths}
use Rattle.lola_tree.specs.design.Chains.{flat_equations, Occurs}
use Rattle.lola_tree.specs.design.Chains as design
use Rattle.lola_order.specs.Graph.{IsWanted, IsUse, IsChain, IsLoop}
use Rattle.lola_design.specs.Graph.{design_graph, paths_at}
use Rattle.lola_design.specs.Regular.{IsRegular}
use Rattle.lola_design.proofs.Paths.{paths_once}
use Rattle.lola_design.proofs.Graphs.{one_place, occurs_of, path_at}
use Rattle.lola_design.proofs.Derived.{fixed, are_equations}

-- an item by its number
got : (paths : List Path) (i : ℕ) (x : Path) → slice_get paths i ≡ Some x → get_or paths i [] ≡ x
got [] i x is = absurd (let e : None ≡ Some x = is in cc)
got (y ∷ ys) zero x is = let e : Some y ≡ Some x = is in cc
got (y ∷ ys) (suc i) x is = got ys i x is

-- what stands behind a place
at_behind : (paths : List Path) (i j : ℕ) (x : Path) → i ≤ j → slice_get paths j ≡ Some x → IsIn x (drop i paths)
at_behind paths zero j x most is = get_in paths j x is
at_behind [] (suc i) j x most is = absurd (let e : None ≡ Some x = is in cc)
at_behind (y ∷ ys) (suc i) zero x most is = absurd (omega arith)
at_behind (y ∷ ys) (suc i) (suc j) x most is = at_behind ys i j x (omega arith) is

drop_here : (paths : List Path) (i : ℕ) (x : Path) → slice_get paths i ≡ Some x → drop i paths ≡ x ∷ drop (suc i) paths
drop_here [] i x is = absurd (let e : None ≡ Some x = is in cc)
drop_here (y ∷ ys) zero x is = let e : Some y ≡ Some x = is in cc
drop_here (y ∷ ys) (suc i) x is = drop_here ys i x is

module _ (S : SourceTree) (is : IsRegular S) (v : Values) where
  -- each number of a chain is that of a signal
  abbrev HasPath : ℕ → Type 0
  HasPath i = slice_get (signal_paths S) i ≡ Some (get_or (signal_paths S) i [])

  has_path : (i : ℕ) → IsWanted (design_graph S) i → HasPath i
  has_path i wanted =
      let p = path_at S (fixed S is v v) (signal_paths S) (are_equations S is v v) i wanted in
      p.1 ∙ ap (λ (x : Path). Some x) (sym (got (signal_paths S) i p.0 p.1))

  of_use : (j i : ℕ) → IsUse (design_graph S) j i → IsWanted (design_graph S) i
  of_use j i used = record { uses = used.uses; equation = used.equation }

  last_wanted : (x : ℕ) (xs : List ℕ) (y : ℕ) → IsChain (design_graph S) x xs y → IsWanted (design_graph S) y
  last_wanted x [] y used = of_use x y used
  last_wanted x (z ∷ zs) y chain = last_wanted z zs y chain.1

  all_paths : (x : ℕ) (xs : List ℕ) (y : ℕ) → HasPath x → IsChain (design_graph S) x xs y → (n : ℕ) → IsIn n (x ∷ xs) → HasPath n
  all_paths x xs y here chain n (inl same) = subst (λ (k : ℕ). HasPath k) (sym same) here
  all_paths x [] y here chain n (inr none) = absurd none
  all_paths x (z ∷ zs) y here chain n (inr later) = all_paths z zs y (has_path z (of_use x z chain.0)) chain.1 n later

  occurs : (j i : ℕ) → HasPath j → HasPath i → IsUse (design_graph S) j i → Occurs S (get_or (signal_paths S) j []) (get_or (signal_paths S) i [])
  occurs j i at_j at_i used = occurs_of S (fixed S is v v) (signal_paths S) (are_equations S is v v) j i (get_or (signal_paths S) j []) (get_or (signal_paths S) i []) at_j at_i used

  chained : (x : ℕ) (xs : List ℕ) (y : ℕ) → HasPath x → HasPath y → IsChain (design_graph S) x xs y → design.IsChain S (get_or (signal_paths S) x []) (paths_at (signal_paths S) xs) (get_or (signal_paths S) y [])
  chained x [] y at_x at_y used = occurs x y at_x at_y used
  chained x (z ∷ zs) y at_x at_y chain =
      let at_z = has_path z (of_use x z chain.0) in
      (occurs x z at_x at_z chain.0, chained z zs y at_z at_y chain.1)

  distinct : (ns : List ℕ) → ((n : ℕ) → IsIn n ns → HasPath n) → AreDistinct ns → AreDistinct (paths_at (signal_paths S) ns)
  distinct [] all once = tt
  distinct (n ∷ ns) all once = (
    λ there.
        let m = from_map (λ (i : ℕ). get_or (signal_paths S) i []) (get_or (signal_paths S) n []) ns there in
        let at_m = all m.0 (inr m.1) in
        let at_n = all n (inl refl) in
        let same = one_place (signal_paths S) (get_or (signal_paths S) n []) (paths_once S is.names (get_or (signal_paths S) n [])) n m.0 at_n (at_m ∙ ap (λ (x : Path). Some x) (sym m.2)) in
        once.0 (subst (λ (k : ℕ). IsIn k ns) (sym same) m.1),
    distinct ns (λ k among. all k (inr among)) once.1,
  )

  pub named_loop : (numbers : List ℕ) → IsLoop (design_graph S) numbers → design.IsLoop S (paths_at (signal_paths S) numbers)
  named_loop numbers l =
      let at_first = has_path l.first (last_wanted l.first l.others l.first l.closed) in
      let each : (n : ℕ) → IsIn n numbers → HasPath n = λ n among. all_paths l.first l.others l.first at_first l.closed n (subst (λ (ns : List ℕ). IsIn n ns) l.is among) in
      let first = get_or (signal_paths S) l.first [] in
      record {
        first = first;
        others = paths_at (signal_paths S) l.others;
        is = ap (paths_at (signal_paths S)) l.is;
        closed = chained l.first l.others l.first at_first at_first l.closed;
        distinct = distinct numbers each l.distinct;
        earliest = record {
          before = take l.first (signal_paths S);
          behind = drop (suc l.first) (signal_paths S);
          stands = around (signal_paths S) l.first first at_first;
          each = all_of (λ (x : Path). IsIn x (first ∷ drop (suc l.first) (signal_paths S))) (paths_at (signal_paths S) numbers) (λ x among.
              let n = from_map (λ (i : ℕ). get_or (signal_paths S) i []) x numbers among in
              let least = of_all (λ (k : ℕ). l.first ≤ k) n.0 numbers l.earliest n.1 in
              subst (λ (xs : List Path). IsIn x xs) (drop_here (signal_paths S) l.first first at_first)
              (at_behind (signal_paths S) l.first n.0 x least (each n.0 n.1 ∙ ap (λ (y : Path). Some y) (sym n.2))));
        };
      }
