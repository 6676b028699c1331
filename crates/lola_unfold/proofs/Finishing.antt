-- One signal more, with what gives it its value.
use Rattle.std.proofs.Common.{◌≡◌, List, [], ◌∷◌, ◌++◌, map, drop, get_or, slice_get, Option, Some, None, refl, sym, ap, ap₂, ◌∙◌, append_assoc}
use Rattle.std.proofs.lemmas.List.{map-append}
use Rattle.lola_bits.proofs.Options.{some_same, nothing}
use Rattle.lola_flat.specs.declared.design.Signal.{Signal as FlatSignal}
use Rattle.lola_flat.specs.declared.expr.FExpr.{FExpr}
use Rattle.lola_flat.specs.Tree.{ExprTree, some_tree, SignalTree, signal_tree}
use Rattle.lola_unfold.specs.declared.made.Head.{Head}
use Rattle.lola_unfold.specs.declared.made.Next.{Next}
use Rattle.lola_unfold.specs.Pieces.{NextTree, some_next}
use Rattle.lola_unfold.specs.Finished.{signal_from, signals_from}

first_head : (hs : List Head) (h : Head) (es : List (Option ExprTree)) (ns : List (Option NextTree)) → slice_get hs 0 ≡ Some h →
    signals_from hs es ns ≡ signal_from h (get_or es 0 None) (get_or ns 0 None) ∷ signals_from (drop 1 hs) (drop 1 es) (drop 1 ns)
first_head [] h es ns is = nothing h is
first_head (k ∷ hs) h es ns is = ap (λ (x : Head). signal_from x (get_or es 0 None) (get_or ns 0 None) ∷ signals_from hs (drop 1 es) (drop 1 ns)) (some_same k h is)

first_tree : (es : List (Option FExpr)) → get_or (map some_tree es) 0 None ≡ some_tree (get_or es 0 None)
first_tree [] = refl
first_tree (e ∷ es) = refl

first_next : (ns : List (Option Next)) → get_or (map some_next ns) 0 None ≡ some_next (get_or ns 0 None)
first_next [] = refl
first_next (n ∷ ns) = refl

later_trees : (es : List (Option FExpr)) → drop 1 (map some_tree es) ≡ map some_tree (drop 1 es)
later_trees [] = refl
later_trees (e ∷ es) = refl

later_nexts : (ns : List (Option Next)) → drop 1 (map some_next ns) ≡ map some_next (drop 1 ns)
later_nexts [] = refl
later_nexts (n ∷ ns) = refl

pub finish_step : (old new : List FlatSignal) (s : FlatSignal) (hs : List Head) (h : Head) (es : List (Option FExpr)) (ns : List (Option Next)) (e : Option FExpr) (n : Option Next) → new ≡ old ++ s ∷ [] →
    slice_get hs 0 ≡ Some h → e ≡ get_or es 0 None → n ≡ get_or ns 0 None → signal_tree s ≡ signal_from h (some_tree e) (some_next n) →
    map signal_tree new ++ signals_from (drop 1 hs) (map some_tree (drop 1 es)) (map some_next (drop 1 ns)) ≡ map signal_tree old ++ signals_from hs (map some_tree es) (map some_next ns)
finish_step old new s hs h es ns e n more head first next is =
    let rest = signals_from (drop 1 hs) (map some_tree (drop 1 es)) (map some_next (drop 1 ns)) in
    let one : signal_tree s ≡ signal_from h (get_or (map some_tree es) 0 None) (get_or (map some_next ns) 0 None) =
    is ∙ ap₂ (λ (x : Option ExprTree) (y : Option NextTree). signal_from h x y) (ap some_tree first ∙ sym (first_tree es)) (ap some_next next ∙ sym (first_next ns)) in
    ap (λ (l : List FlatSignal). map signal_tree l ++ rest) more
    ∙ ap (λ (l : List SignalTree). l ++ rest) (map-append signal_tree old (s ∷ []))
    ∙ append_assoc (map signal_tree old) (signal_tree s ∷ []) rest
    ∙ ap (λ (l : List SignalTree). map signal_tree old ++ l)
    (ap (λ (x : SignalTree). x ∷ rest) one
    ∙ ap₂ (λ (xs : List (Option ExprTree)) (ys : List (Option NextTree)). signal_from h (get_or (map some_tree es) 0 None) (get_or (map some_next ns) 0 None) ∷ signals_from (drop 1 hs) xs ys) (sym (later_trees es)) (sym (later_nexts ns))
    ∙ sym (first_head hs h (map some_tree es) (map some_next ns) head))
