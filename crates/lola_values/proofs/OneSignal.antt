-- A path that comes once among the signals has one signal.
use Rattle.std.proofs.Common.{◌≡◌, ◌≤◌, true, List, [], ◌∷◌, map, refl, sym, ◌∙◌, ap, inl, inr, arith}
use Rattle.std.specs.Prelude.{bytes_eq}
use Rattle.std.proofs.lemmas.Bool.{and_from}
use Rattle.lola_bits.specs.Lists.{IsIn}
use Rattle.lola_bits.proofs.Names.{same_name}
use Rattle.lola_tree.specs.Value.{Path}
use Rattle.lola_tree.specs.design.Signals.{Signal}
use Rattle.lola_design.specs.Paths.{path_eq, one_if, count}

path_same : (p : Path) → path_eq p p ≡ true
path_same [] = refl
path_same (n ∷ p) = and_from (bytes_eq n n) (path_eq p p) (same_name n n refl) (path_same p)

abbrev paths : List Signal → List Path
paths xs = map (λ (s : Signal). s.path) xs

one_here : (s : Signal) (p : Path) → s.path ≡ p → one_if (path_eq s.path p) ≡ 1
one_here s p is = ap one_if (ap (λ (q : Path). path_eq q p) is ∙ path_same p)

path_present : (p : Path) (xs : List Signal) (x : Signal) → IsIn x xs → x.path ≡ p → 1 ≤ count p (paths xs)
path_present p [] x there is = absurd there
path_present p (s ∷ xs) x (inl same) is = let e = one_here s p (ap (λ (k : Signal). k.path) (sym same) ∙ is) in omega arith
path_present p (s ∷ xs) x (inr later) is = let e = path_present p xs x later is in omega arith

pub one_signal : (p : Path) (xs : List Signal) → count p (paths xs) ≤ 1 → (x y : Signal) → IsIn x xs → IsIn y xs → x.path ≡ p → y.path ≡ p → x ≡ y
one_signal p [] few x y there also is same = absurd there
one_signal p (s ∷ xs) few x y (inl first) (inl second) is same = first ∙ sym second
one_signal p (s ∷ xs) few x y (inl first) (inr second) is same =
    let e = one_here s p (ap (λ (k : Signal). k.path) (sym first) ∙ is) in let more = path_present p xs y second same in absurd (omega arith)
one_signal p (s ∷ xs) few x y (inr first) (inl second) is same =
    let e = one_here s p (ap (λ (k : Signal). k.path) (sym second) ∙ same) in let more = path_present p xs x first is in absurd (omega arith)
one_signal p (s ∷ xs) few x y (inr first) (inr second) is same = one_signal p xs (omega arith) x y first second is same
