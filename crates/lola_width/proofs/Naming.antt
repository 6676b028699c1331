-- Tables of names after one more declaration.
use Rattle.std.proofs.Common.{◌≡◌, ℕ, List, [], ◌∷◌, ◌++◌, append_assoc, bytes_eq, arith, Bool, true, false, cond, nat_lt, Option, Some, None, refl, sym, ◌∙◌, ap}
use Rattle.std.proofs.lemmas.Bool.{cond-true, cond-false}
use Rattle.lola_width.specs.declared.declared.Declared.{Declared}
use Rattle.lola_tree.specs.Names.{Entry, entry_name, entry_at, earlier, Names, first_named}
use Rattle.lola_width.specs.NameFaults.{no_names, comes_first, names_with, names_with_all, doubled, doubled_faults}
use Rattle.lola_width.specs.Interface.{or_first}
use Rattle.std.specs.declared.alloc.Global.{Global}
use Rattle.std.specs.declared.vec.Vec.{Vec}
use Rattle.lola_width.specs.declared.interface.Pin.{Pin}
use Rattle.lola_width.specs.Table.{entry_of, some_entry, pins_seen}

-- a name stands for the earlier declaration, and each other for what it stood for
pub entry_added : (same : Bool) (old : Option Declared) (d : Declared) → (same ≡ true → comes_first (entry_of d) (some_entry old) ≡ true) →
    some_entry (cond same (Some d) old) ≡ earlier (some_entry old) (cond same (Some (entry_of d)) None)
entry_added true None d first = refl
entry_added true (Some e) d first = sym (cond-true (nat_lt (entry_at (entry_of d)) (entry_at (entry_of e))) (Some (entry_of d)) (Some (entry_of e)) (first refl))
entry_added false None d first = refl
entry_added false (Some e) d first = refl

-- an earlier declaration stays
pub earlier_stays : (same : Bool) (old : Option Entry) (e : Entry) → (same ≡ true → comes_first e old ≡ false) → earlier old (cond same (Some e) None) ≡ old
earlier_stays true None e later = absurd (let f = later refl in cc)
earlier_stays true (Some o) e later = cond-false (nat_lt (entry_at e) (entry_at o)) (Some e) (Some o) (later refl)
earlier_stays false None e later = refl
earlier_stays false (Some o) e later = refl

pub pins_added : (same : Bool) (old : Option (Vec Pin Global)) (d : Vec Pin Global) → (same ≡ true → old ≡ None) →
    pins_seen (cond same (Some d) old) ≡ or_first (pins_seen old) (cond same (Some d.items) None)
pins_added true old d new = ap (λ o. or_first (pins_seen o) (Some d.items)) (sym (new refl))
pins_added false None d new = refl
pins_added false (Some e) d new = refl

-- declarations one list after another
pub with_all_append : (names : Names) (xs ys : List Entry) → names_with_all names (xs ++ ys) ≡ names_with_all (names_with_all names xs) ys
with_all_append names [] ys = refl
with_all_append names (x ∷ xs) ys = with_all_append (names_with names (entry_name x) x) xs ys

pub doubled_append : (names : Names) (xs ys : List Entry) →
    doubled_faults names (xs ++ ys) ≡ doubled_faults names xs ++ doubled_faults (names_with_all names xs) ys
doubled_append names [] ys = refl
doubled_append names (x ∷ xs) ys =
    ap (λ fs. doubled (names (entry_name x)) (entry_at x) (entry_name x) ++ fs) (doubled_append (names_with names (entry_name x) x) xs ys)
    ∙ sym (append_assoc (doubled (names (entry_name x)) (entry_at x) (entry_name x)) _ _)

below : (a b c : ℕ) → nat_lt b a ≡ true → nat_lt c b ≡ true → nat_lt c a ≡ true
below a b c p q = grind (arith, p, q)

not_below : (a b c : ℕ) → nat_lt b a ≡ false → nat_lt c b ≡ false → nat_lt c a ≡ false
not_below a b c p q = grind (arith, p, q)

earlier_of_three : (a b c : Option Entry) → earlier (earlier a b) c ≡ earlier a (earlier b c)
earlier_of_three None b c = refl
earlier_of_three (Some e) None c = refl
earlier_of_three (Some e) (Some f) None = last (nat_lt (entry_at f) (entry_at e)) where
  last : (b : Bool) → earlier (cond b (Some f) (Some e)) None ≡ cond b (Some f) (Some e)
  last true = refl
  last false = refl
earlier_of_three (Some e) (Some f) (Some g) = three (nat_lt (entry_at f) (entry_at e)) (nat_lt (entry_at g) (entry_at f)) refl refl where
  three : (x y : Bool) → nat_lt (entry_at f) (entry_at e) ≡ x → nat_lt (entry_at g) (entry_at f) ≡ y →
      earlier (earlier (Some e) (Some f)) (Some g) ≡ earlier (Some e) (earlier (Some f) (Some g))
  three true true p q = rw (p, q) (sym (cond-true (nat_lt (entry_at g) (entry_at e)) (Some g) (Some e) (below (entry_at e) (entry_at f) (entry_at g) p q)))
  three true false p q = rw (p, q, p) refl
  three false true p q = rw (p, q) refl
  three false false p q = rw (p, q, p) (cond-false (nat_lt (entry_at g) (entry_at e)) (Some g) (Some e) (not_below (entry_at e) (entry_at f) (entry_at g) p q))

no_more : (o : Option Entry) → earlier o None ≡ o
no_more None = refl
no_more (Some e) = refl

-- of several declarations the earliest counts
pub with_all_first : (names : Names) (es : List Entry) (name : List ℕ) → names_with_all names es name ≡ earlier (names name) (first_named es name)
with_all_first names [] name = sym (no_more (names name))
with_all_first names (e ∷ es) name =
    with_all_first (names_with names (entry_name e) e) es name
    ∙ earlier_of_three (names name) (cond (bytes_eq (entry_name e) name) (Some e) None) (first_named es name)

pub all_named : (es : List Entry) → names_with_all no_names es ≡ first_named es
all_named es = λ i name. with_all_first no_names es name i
