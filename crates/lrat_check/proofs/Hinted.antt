-- What a clause is, as one goes along its literals.
use Rattle.std.proofs.Common.{◌≡◌, ◌≢◌, ℕ, ◌+◌, ◌<◌, ℤ, pos, drop, length, get_or, true, false, List, [], ◌∷◌, ◌++◌, Option, None, Some, refl, sym, ◌∙◌, ap, inl, inr}
use Rattle.std.specs.Option.{option_to_list}
use Rattle.std.specs.Ordering.{int_eq}
use Rattle.std.proofs.lemmas.Bool.{cases_Bool}
use Rattle.std.proofs.lemmas.List.{drop_more}
use Rattle.std.proofs.lemmas.Bool.Decides.{Decides-int_eq}
use Rattle.lrat_check.specs.declared.hint.Hint.{Hint}
use Rattle.lrat_check.specs.declared.hint.Hint.TheVariants.{Forces, Idle}
use Rattle.lrat_check.specs.Hints.{Falses, is_true, open_in, hint_with}

-- what a clause is, where all its open literals so far are `first`, if there is one, and these literals follow
abbrev pub hint_from : Falses → Option ℤ → List ℤ → Hint
hint_from F first rest = hint_with F (option_to_list first ++ open_in F rest)

pub passes_false : (F : Falses) (first : Option ℤ) (x : ℤ) (rest : List ℤ) → F x ≡ true → hint_from F first (x ∷ rest) ≡ hint_from F first rest
passes_false F first x rest is = rw is refl

pub takes_first : (F : Falses) (x : ℤ) (rest : List ℤ) → F x ≡ false → hint_from F None (x ∷ rest) ≡ hint_from F (Some x) rest
takes_first F x rest is = rw is refl

pub passes_same : (F : Falses) (o x : ℤ) (rest : List ℤ) → F x ≡ false → x ≡ o → hint_from F (Some o) (x ∷ rest) ≡ hint_from F (Some o) rest
passes_same F o x rest is same = let e : int_eq o x ≡ true = (Decides-int_eq o x).1 (sym same) in rw (is, e) refl

pub stops_at_other : (F : Falses) (o x : ℤ) (rest : List ℤ) → F x ≡ false → x ≢ o → hint_from F (Some o) (x ∷ rest) ≡ Idle
stops_at_other F o x rest is other = elim (cases_Bool (int_eq o x)) [
  | inl t ↦ absurd (other (sym ((Decides-int_eq o x).0 t)))
  | inr f ↦ rw (is, f) refl
]

pub ends_idle : (F : Falses) (o : ℤ) → is_true F o ≡ true → hint_from F (Some o) [] ≡ Idle
ends_idle F o is = rw is refl

pub ends_forced : (F : Falses) (o : ℤ) → is_true F o ≡ false → hint_from F (Some o) [] ≡ Forces o
ends_forced F o is = rw is refl

-- the number at an index, before what is left
pub number_here : (xs : List ℤ) (i : ℕ) (x : ℤ) → i < length xs → x ≡ get_or xs i (pos 0) → drop i xs ≡ x ∷ drop (i + 1) xs
number_here xs i x within is = drop_more xs i (pos 0) within ∙ ap (λ (y : ℤ). y ∷ drop (i + 1) xs) (sym is)
