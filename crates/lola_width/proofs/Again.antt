-- The faults of declarations, told by two declarations of one name.
use Rattle.std.proofs.Common.{◌≡◌, ◌⊎◌, ℕ, ◌≤◌, Bool, true, false, cond, nat_lt, bytes_eq, List, [], ◌∷◌, ◌++◌, Option, Some, None, inl, inr, refl, sym, ap, ◌∙◌, subst, append_assoc, arith}
use Rattle.lola_bits.proofs.Lists.{parted, is_between, in_front, in_back, in_either}
use Rattle.lola_bits.specs.Lists.{IsIn}
use Rattle.lola_bits.proofs.Names.{is_same_name, same_name}
use Rattle.lola_tree.specs.Tree.{ModuleTree}
use Rattle.lola_tree.specs.Names.{Entry, entry_name, entry_at, entries, earlier, Names}
use Rattle.lola_width.specs.declared.fault.SourceFault.TheVariants.{Doubled}
use Rattle.lola_width.specs.NameFaults.{no_names, names_with, doubled, doubled_faults}
use Rattle.lola_width.specs.Said.{later_place, IsDeclaredAgain, AreDoubled}

-- what a name stands for is among the declarations so far, under that name
abbrev Stands : Names → List Entry → Type 0
Stands names prior = (n : List ℕ) (g : Entry) → names n ≡ Some g → IsIn g prior × (entry_name g ≡ n)

from_earlier : (old : Option Entry) (b : Bool) (e g : Entry) → earlier old (cond b (Some e) None) ≡ Some g → (old ≡ Some g) ⊎ ((b ≡ true) × (e ≡ g))
from_earlier None true e g h = inr (refl, (let f : Some e ≡ Some g = h in cc))
from_earlier None false e g h = absurd (let f : None ≡ Some g = h in cc)
from_earlier (Some o) false e g h = inl h
from_earlier (Some o) true e g h = told (nat_lt (entry_at e) (entry_at o)) h where
  told : (t : Bool) → cond t (Some e) (Some o) ≡ Some g → (Some o ≡ Some g) ⊎ ((true ≡ true) × (e ≡ g))
  told true h = inr (refl, (let f : Some e ≡ Some g = h in cc))
  told false h = inl h

stands_more : (names : Names) (prior : List Entry) (e : Entry) → Stands names prior → Stands (names_with names (entry_name e) e) (prior ++ e ∷ [])
stands_more names prior e stands n g h = elim (from_earlier (names n) (bytes_eq (entry_name e) n) e g h) [
  | inl old ↦ (let r = stands n g old in (in_front g prior (e ∷ []) r.0, r.1))
  | inr new ↦ (in_back g prior (e ∷ []) (inl (sym new.1)), ap entry_name (sym new.1) ∙ is_same_name (entry_name e) n new.0)
]

-- a fault is told by two declarations
here_again : (names : Names) (prior : List Entry) (e : Entry) (es : List Entry) → Stands names prior → (at : ℕ) (name : List ℕ) →
    IsIn (Doubled at name) (doubled (names (entry_name e)) (entry_at e) (entry_name e)) → IsDeclaredAgain (prior ++ e ∷ es) at name
here_again names prior e es stands at name h = told (names (entry_name e)) refl h where
  told : (o : Option Entry) → names (entry_name e) ≡ o → IsIn (Doubled at name) (doubled o (entry_at e) (entry_name e)) → IsDeclaredAgain (prior ++ e ∷ es) at name
  told None is none = absurd none
  told (Some g) is (inr none) = absurd none
  told (Some g) is (inl same) =
      let place : later_place g e ≡ at = cc in
      let named : entry_name e ≡ name = cc in
      let known = stands (entry_name e) g is in
      let parts = parted g prior known.0 in
      record {
        front = parts.0;
        one = g;
        between = parts.1;
        other = e;
        behind = es;
        stand = ap (λ ps. ps ++ e ∷ es) parts.2 ∙ append_assoc parts.0 (g ∷ parts.1) (e ∷ es);
        one_named = known.1 ∙ named;
        other_named = named;
        later = place;
      }

again_is : (names : Names) (prior es : List Entry) → Stands names prior → (at : ℕ) (name : List ℕ) → IsIn (Doubled at name) (doubled_faults names es) → IsDeclaredAgain (prior ++ es) at name
again_is names prior [] stands at name h = absurd h
again_is names prior (e ∷ es) stands at name h =
    elim (in_either (Doubled at name) (doubled (names (entry_name e)) (entry_at e) (entry_name e)) (doubled_faults (names_with names (entry_name e) e) es) h) [
      | inl here ↦ here_again names prior e es stands at name here
      | inr there ↦ subst (λ (all : List Entry). IsDeclaredAgain all at name) (append_assoc prior (e ∷ []) es)
          (again_is (names_with names (entry_name e) e) (prior ++ e ∷ []) es (stands_more names prior e stands) at name there)
    ]

-- the fault of a declaration where its name stands for another
doubled_at : (old : Option Entry) (g : Entry) (place at : ℕ) (name n : List ℕ) → old ≡ Some g → cond (nat_lt place (entry_at g)) (entry_at g) place ≡ at → name ≡ n →
    IsIn (Doubled at n) (doubled old place name)
doubled_at old g place at name n is later same =
    subst (λ (o : Option Entry). IsIn (Doubled at n) (doubled o place name)) (sym is) (inl (let a = sym later in let b = sym same in rw (a, b) refl))

low_place : (g x : ℕ) → g ≤ x → cond (nat_lt x g) g x ≡ x
low_place g x le = grind (arith, le)

high_place : (g x : ℕ) → x ≤ g → cond (nat_lt x g) g x ≡ g
high_place g x le = grind (arith, le)

-- a name stands for no later declaration after one more
stays_low : (g x : Entry) (b : Bool) → (h : Entry) × (earlier (Some g) (cond b (Some x) None) ≡ Some h) × (entry_at h ≤ entry_at g)
stays_low g x false = (g, refl, omega arith)
stays_low g x true = told (nat_lt (entry_at x) (entry_at g)) refl where
  told : (t : Bool) → nat_lt (entry_at x) (entry_at g) ≡ t → (h : Entry) × (cond t (Some x) (Some g) ≡ Some h) × (entry_at h ≤ entry_at g)
  told true e = (x, refl, grind (arith, e))
  told false e = (g, refl, omega arith)

-- a declaration whose name stands for one that is no later is at fault
known_before : (names : Names) (es : List Entry) (e g : Entry) (n : List ℕ) → IsIn e es → entry_name e ≡ n → names n ≡ Some g → entry_at g ≤ entry_at e →
    IsIn (Doubled (entry_at e) n) (doubled_faults names es)
known_before names [] e g n h named is le = absurd h
known_before names (x ∷ es) e g n (inl same) named is le =
    in_front (Doubled (entry_at e) n) (doubled (names (entry_name x)) (entry_at x) (entry_name x)) (doubled_faults (names_with names (entry_name x) x) es)
    (subst (λ (y : Entry). IsIn (Doubled (entry_at e) n) (doubled (names (entry_name y)) (entry_at y) (entry_name y))) same
    (doubled_at (names (entry_name e)) g (entry_at e) (entry_at e) (entry_name e) n (ap names named ∙ is) (low_place (entry_at g) (entry_at e) le) named))
known_before names (x ∷ es) e g n (inr there) named is le =
    let low = stays_low g x (bytes_eq (entry_name x) n) in
    let now : names_with names (entry_name x) x n ≡ Some low.0 = ap (λ (o : Option Entry). earlier o (cond (bytes_eq (entry_name x) n) (Some x) None)) is ∙ low.1 in
    let below : entry_at low.0 ≤ entry_at e = let p = low.2 in omega (arith, p, le) in
    in_back (Doubled (entry_at e) n) (doubled (names (entry_name x)) (entry_at x) (entry_name x)) (doubled_faults (names_with names (entry_name x) x) es)
    (known_before (names_with names (entry_name x) x) es e low.0 n there named now below)

-- a declaration that a name stands for is at fault where one that is no later follows
known_after : (names : Names) (es : List Entry) (f g : Entry) (n : List ℕ) → IsIn f es → entry_name f ≡ n → names n ≡ Some g → entry_at f ≤ entry_at g →
    IsIn (Doubled (entry_at g) n) (doubled_faults names es)
known_after names [] f g n h named is le = absurd h
known_after names (x ∷ es) f g n (inl same) named is le =
    in_front (Doubled (entry_at g) n) (doubled (names (entry_name x)) (entry_at x) (entry_name x)) (doubled_faults (names_with names (entry_name x) x) es)
    (subst (λ (y : Entry). IsIn (Doubled (entry_at g) n) (doubled (names (entry_name y)) (entry_at y) (entry_name y))) same
    (doubled_at (names (entry_name f)) g (entry_at f) (entry_at g) (entry_name f) n (ap names named ∙ is) (high_place (entry_at g) (entry_at f) le) named))
known_after names (x ∷ es) f g n (inr there) named is le =
    told (bytes_eq (entry_name x) n) (nat_lt (entry_at x) (entry_at g)) refl refl
    (λ now. in_back (Doubled (entry_at g) n) (doubled (names (entry_name x)) (entry_at x) (entry_name x)) (doubled_faults (names_with names (entry_name x) x) es)
    (known_after (names_with names (entry_name x) x) es f g n there named now le))
  where
    All : Type 0
    All = IsIn (Doubled (entry_at g) n) (doubled_faults names (x ∷ es))

    told : (b t : Bool) → bytes_eq (entry_name x) n ≡ b → nat_lt (entry_at x) (entry_at g) ≡ t → (names_with names (entry_name x) x n ≡ Some g → All) → All
    told false t e lt further = further (rw (is, e) refl)
    told true false e lt further = further (rw (is, e, lt) refl)
    told true true e lt further =
        let same = is_same_name (entry_name x) n e in
        let low : entry_at x ≤ entry_at g = grind (arith, lt) in
        in_front (Doubled (entry_at g) n) (doubled (names (entry_name x)) (entry_at x) (entry_name x)) (doubled_faults (names_with names (entry_name x) x) es)
        (doubled_at (names (entry_name x)) g (entry_at x) (entry_at g) (entry_name x) n (ap names same ∙ is) (high_place (entry_at g) (entry_at x) low) same)

-- a name stands for a declaration that is no later than one that is added
added_low : (old : Option Entry) (x : Entry) → (h : Entry) × (earlier old (Some x) ≡ Some h) × (entry_at h ≤ entry_at x)
added_low None x = (x, refl, omega arith)
added_low (Some g) x = told (nat_lt (entry_at x) (entry_at g)) refl where
  told : (t : Bool) → nat_lt (entry_at x) (entry_at g) ≡ t → (h : Entry) × (cond t (Some x) (Some g) ≡ Some h) × (entry_at h ≤ entry_at x)
  told true e = (x, refl, omega arith)
  told false e = (g, refl, grind (arith, e))

-- the two declarations, behind which more may stand
added : (names : Names) (x : Entry) (n : List ℕ) → entry_name x ≡ n → names_with names (entry_name x) x n ≡ earlier (names n) (Some x)
added names x n named = ap (λ b. earlier (names n) (cond b (Some x) None)) (same_name (entry_name x) n named)

first_again : (names : Names) (x y : Entry) (rest : List Entry) (n : List ℕ) → IsIn y rest → entry_name x ≡ n → entry_name y ≡ n → (t : Bool) → nat_lt (entry_at y) (entry_at x) ≡ t →
    IsIn (Doubled (cond t (entry_at x) (entry_at y)) n) (doubled_faults names (x ∷ rest))
first_again names x y rest n there xn yn false e =
    let low = added_low (names n) x in
    let below : entry_at low.0 ≤ entry_at y = let p = low.2 in let q : entry_at x ≤ entry_at y = grind (arith, e) in omega (arith, p, q) in
    in_back (Doubled (entry_at y) n) (doubled (names (entry_name x)) (entry_at x) (entry_name x)) (doubled_faults (names_with names (entry_name x) x) rest)
    (known_before (names_with names (entry_name x) x) rest y low.0 n there yn (added names x n xn ∙ low.1) below)
first_again names x y rest n there xn yn true e = told (names n) refl where
  later : entry_at y ≤ entry_at x
  later = grind (arith, e)

  stays : names_with names (entry_name x) x n ≡ Some x → IsIn (Doubled (entry_at x) n) (doubled_faults names (x ∷ rest))
  stays now =
      in_back (Doubled (entry_at x) n) (doubled (names (entry_name x)) (entry_at x) (entry_name x)) (doubled_faults (names_with names (entry_name x) x) rest)
      (known_after (names_with names (entry_name x) x) rest y x n there yn now later)

  two : (g : Entry) (t : Bool) → names n ≡ Some g → nat_lt (entry_at x) (entry_at g) ≡ t → IsIn (Doubled (entry_at x) n) (doubled_faults names (x ∷ rest))
  two g true is lt = stays (added names x n xn ∙ rw (is, lt) refl)
  two g false is lt =
      in_front (Doubled (entry_at x) n) (doubled (names (entry_name x)) (entry_at x) (entry_name x)) (doubled_faults (names_with names (entry_name x) x) rest)
      (doubled_at (names (entry_name x)) g (entry_at x) (entry_at x) (entry_name x) n (ap names xn ∙ is) (rw lt refl) xn)

  told : (o : Option Entry) → names n ≡ o → IsIn (Doubled (entry_at x) n) (doubled_faults names (x ∷ rest))
  told None is = stays (added names x n xn ∙ rw is refl)
  told (Some g) is = two g (nat_lt (entry_at x) (entry_at g)) is refl

is_again : (names : Names) (front : List Entry) (x : Entry) (between : List Entry) (y : Entry) (behind : List Entry) (n : List ℕ) → entry_name x ≡ n → entry_name y ≡ n →
    IsIn (Doubled (later_place x y) n) (doubled_faults names (front ++ x ∷ (between ++ y ∷ behind)))
is_again names [] x between y behind n xn yn = first_again names x y (between ++ y ∷ behind) n (is_between y between behind) xn yn (nat_lt (entry_at y) (entry_at x)) refl
is_again names (u ∷ front) x between y behind n xn yn =
    in_back (Doubled (later_place x y) n) (doubled (names (entry_name u)) (entry_at u) (entry_name u)) (doubled_faults (names_with names (entry_name u) u) (front ++ x ∷ (between ++ y ∷ behind)))
    (is_again (names_with names (entry_name u) u) front x between y behind n xn yn)

none_stands : Stands no_names []
none_stands n g h = absurd (let f : None ≡ Some g = h in cc)

pub are_doubled : (m : ModuleTree) (at : ℕ) (name : List ℕ) → AreDoubled m at name
are_doubled m at name = (
  again_is no_names [] (entries m) none_stands at name,
  (λ d. subst (λ (es : List Entry). IsIn (Doubled at name) (doubled_faults no_names es)) (sym d.stand)
      (subst (λ k. IsIn (Doubled k name) (doubled_faults no_names (d.front ++ d.one ∷ (d.between ++ d.other ∷ d.behind)))) d.later
      (is_again no_names d.front d.one d.between d.other d.behind name d.one_named d.other_named))),
)
