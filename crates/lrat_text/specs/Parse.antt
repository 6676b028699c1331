-- What the items of a line are, found item by item.
use Rattle.std.specs.Prelude.{ℕ, ℤ, cond, nat_eq, bytes_eq, length, codes, List, [], ◌∷◌, ◌++◌, Option, None, Some}
use Rattle.lrat_check.specs.declared.line.Line.TheVariants.{Add, Delete}
use Rattle.lrat_text.specs.declared.text.Text.{Text}
use Rattle.lrat_text.specs.declared.text.Text.TheVariants as text
use Rattle.std.specs.List.{list_all}
use Rattle.lrat_text.specs.Text.{TextLine, First, Named, Taken, Ended, is_name_byte}
use Rattle.lrat_text.specs.Number.{read_number, read_id, read_literal, read_hint}

-- numbers up to the item 0, and the items behind it
abbrev pub with_numbers : {N : Type 0} → List N → Option (List N × List (List ℕ)) → Option (List N × List (List ℕ))
with_numbers front None = None
with_numbers front (Some p) = Some (front ++ p.0, p.1)

abbrev pub with_number : {N : Type 0} → Option N → Option (List N × List (List ℕ)) → Option (List N × List (List ℕ))
with_number None found = None
with_number (Some n) found = with_numbers (n ∷ []) found

abbrev pub numbers : {N : Type 0} → (List ℕ → Option N) → List (List ℕ) → Option (List N × List (List ℕ))
numbers read [] = None
numbers read (x ∷ xs) = cond (bytes_eq x (codes "0")) (Some ([], xs)) (with_number (read x) (numbers read xs))

abbrev pub deleted : ℕ → Option (List ℕ × List (List ℕ)) → Option TextLine
deleted id None = None
deleted id (Some p) = cond (nat_eq (length p.1) 0) (Some (Taken (Delete id p.0))) None

abbrev pub hinted : ℕ → List ℤ → Option (List ℤ × List (List ℕ)) → Option TextLine
hinted id literals None = None
hinted id literals (Some p) = cond (nat_eq (length p.1) 0) (Some (Taken (Add id (record { literals = literals }) p.0))) None

abbrev pub added : ℕ → Option (List ℤ × List (List ℕ)) → Option TextLine
added id None = None
added id (Some p) = hinted id p.0 (numbers read_hint p.1)

abbrev pub numbered : ℕ → List (List ℕ) → Option TextLine
numbered id [] = None
numbered id (x ∷ xs) = cond (bytes_eq x (codes "d")) (deleted id (numbers read_id xs)) (added id (numbers read_literal (x ∷ xs)))

abbrev pub of_id : Option ℕ → List (List ℕ) → Option TextLine
of_id None xs = None
of_id (Some id) xs = numbered id xs

abbrev pub named : List (List ℕ) → Option TextLine
named [] = None
named (name ∷ []) = cond (nat_eq (length name) 0) None (cond (list_all is_name_byte name) (Some (Named name)) None)
named (name ∷ x ∷ xs) = None

abbrev pub of_count : Option ℕ → Option TextLine
of_count None = None
of_count (Some count) = Some (Ended count)

abbrev pub ended : List (List ℕ) → Option TextLine
ended [] = None
ended (count ∷ []) = of_count (read_number count)
ended (count ∷ x ∷ xs) = None

abbrev pub first : List (List ℕ) → Option TextLine
first [] = None
first (one ∷ []) = cond (bytes_eq one (codes "1")) (Some First) None
first (one ∷ x ∷ xs) = None

abbrev pub parse : List (List ℕ) → Option TextLine
parse [] = None
parse (x ∷ xs) = cond (bytes_eq x (codes "o")) (named xs) (cond (bytes_eq x (codes "end")) (ended xs)
    (cond (bytes_eq x (codes "lola-cert")) (first xs) (of_id (read_id x) xs)))

-- what the code has of a line
abbrev pub text_line : Text → TextLine
text_line text.First = First
text_line (text.Named name) = Named name.now
text_line (text.Taken line) = Taken line
text_line (text.Ended count) = Ended count
