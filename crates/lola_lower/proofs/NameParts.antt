-- The name of a bit tells which signal's it is, of which element, and which bit.
use Rattle.std.proofs.Common.{◌≡◌, ◌≢◌, ◌⊎◌, ℕ, zero, suc, ◌+◌, ◌<◌, ◌≤◌, ◌^◌, List, [], ◌∷◌, ◌++◌, length, map, flat_map, Option, Some, None, inl, inr, refl, sym, ◌∙◌, ap, ap₂, subst, arith, append_assoc, append-nil}
use Rattle.std.specs.Prelude.{codes, decimal, ◌%◌, ◌/◌}
use Rattle.std.specs.List.{AllByRecursion}
use Rattle.std.proofs.lemmas.Fmt.{decimal_by_steps, decimal_injective, decimal_nonempty}
use Rattle.lola_bits.specs.Lists.{IsIn, AreDistinct}
use Rattle.lola_bits.proofs.All.{all_append, all_weaker}
use Rattle.lola_bits.proofs.Lists.{but_last, from_flat_map, to_map, distinct_join}
use Rattle.lola_bits.proofs.Places.{same_items}
use Rattle.lola_flat.specs.Numbers.{first_numbers}
use Rattle.lola_flat.specs.Tree.{ExprTree, SignalTree}
use Rattle.lola_lower.specs.Names.{path_behind, path_text, element_text, stem, bit_name, names_down, signal_names}
use Rattle.lola_lower.specs.Named.{IsLetter, IsDigit, IsIdentifier}

-- no `_` stands in it
abbrev pub IsWord : List ℕ → Type 0
IsWord w = AllByRecursion (λ (c : ℕ). c ≢ 95) w

abbrev Starts : List ℕ → Type 0
Starts [] = ⊥
Starts (c ∷ more) = c ≡ 95

-- `_` and then a digit
abbrev pub IsTail : List ℕ → Type 0
IsTail [] = ⊥
IsTail (c ∷ []) = ⊥
IsTail (c ∷ b ∷ more) = (c ≡ 95) × IsDigit b

letter_other : (c : ℕ) → IsLetter c → c ≢ 95
letter_other c (inl p) e = (let a = p.1 in omega arith)
letter_other c (inr p) e = (let a = p.0 in omega arith)

digit_other : (c : ℕ) → IsDigit c → c ≢ 95
digit_other c p e = (let a = p.1 in omega arith)

letter_no_digit : (c : ℕ) → IsLetter c → IsDigit c → ⊥
letter_no_digit c (inl p) d = (let a = p.0 in let b = d.1 in omega arith)
letter_no_digit c (inr p) d = (let a = p.0 in let b = d.1 in omega arith)

identifier_word : (n : List ℕ) → IsIdentifier n → IsWord n
identifier_word [] h = absurd h
identifier_word (b ∷ more) h = (letter_other b h.0, all_weaker (λ c. IsLetter c ⊎ IsDigit c) (λ (c : ℕ). c ≢ 95) each more h.1)
  where
    each : (c : ℕ) → IsLetter c ⊎ IsDigit c → c ≢ 95
    each c (inl l) = letter_other c l
    each c (inr d) = digit_other c d

-- numbers
pub decimal_digits : (n : ℕ) → n < 2 ^ 64 → AllByRecursion IsDigit (decimal n)
decimal_digits n small =
    decimal_by_steps (λ k ds. AllByRecursion IsDigit ds) (λ k few. ((omega arith, omega arith), tt))
    (λ k ds large all. all_append IsDigit ds ((48 + k % 10) ∷ []) all ((omega arith, omega arith), tt)) n small

decimal_word : (n : ℕ) → n < 2 ^ 64 → IsWord (decimal n)
decimal_word n small = all_weaker IsDigit (λ (c : ℕ). c ≢ 95) digit_other (decimal n) (decimal_digits n small)

digits_tail : (ds rest : List ℕ) → AllByRecursion IsDigit ds → 0 < length ds → IsTail (codes "_" ++ (ds ++ rest))
digits_tail [] rest all some = absurd (omega arith)
digits_tail (d ∷ ds) rest all some = (refl, all.0)

pub bit_tail : (place : Option ExprTree) (element bit : ℕ) → element < 2 ^ 64 → bit < 2 ^ 64 → IsTail (element_text place element ++ (codes "_" ++ decimal bit))
bit_tail None element bit e b = subst (λ (l : List ℕ). IsTail (codes "_" ++ l)) (append-nil (decimal bit)) (digits_tail (decimal bit) [] (decimal_digits bit b) (decimal_nonempty bit b))
bit_tail (Some p) element bit e b =
    subst IsTail (sym (append_assoc (codes "_") (decimal element) (codes "_" ++ decimal bit))) (digits_tail (decimal element) (codes "_" ++ decimal bit) (decimal_digits element e) (decimal_nonempty element e))

-- words before `_` are parted in one way
split_word : (m n r t : List ℕ) → IsWord m → IsWord n → Starts r → Starts t → m ++ r ≡ n ++ t → (m ≡ n) × (r ≡ t)
split_word [] [] r t p q a b e = (refl, e)
split_word [] (c ∷ n) [] t p q a b e = absurd a
split_word [] (c ∷ n) (x ∷ r) t p q a b e = absurd (q.0 (sym (same_items x c r (n ++ t) e).0 ∙ a))
split_word (c ∷ m) [] r [] p q a b e = absurd b
split_word (c ∷ m) [] r (y ∷ t) p q a b e = absurd (p.0 ((same_items c y (m ++ r) t e).0 ∙ b))
split_word (c ∷ m) (d ∷ n) r t p q a b e =
    let h = same_items c d (m ++ r) (n ++ t) e in
    let k = split_word m n r t p.1 q.1 a b h.1 in
    (ap₂ (λ (x : ℕ) (xs : List ℕ). x ∷ xs) h.0 k.0, k.1)

tail_starts : (u : List ℕ) → IsTail u → Starts u
tail_starts [] h = absurd h
tail_starts (c ∷ []) h = absurd h
tail_starts (c ∷ b ∷ more) h = h.0

path_starts : (p : List (List ℕ)) (u : List ℕ) → IsTail u → Starts (path_behind p ++ u)
path_starts [] u h = tail_starts u h
path_starts (n ∷ p) u h = refl

-- behind a path that is through, no name stands
no_name : (n : List ℕ) (q : List (List ℕ)) (u v : List ℕ) → IsIdentifier n → IsTail u → u ≡ path_behind (n ∷ q) ++ v → ⊥
no_name [] q u v i h e = i
no_name (l ∷ n) q [] v i h e = h
no_name (l ∷ n) q (c ∷ []) v i h e = h
no_name (l ∷ n) q (c ∷ b ∷ more) v i h e =
    let first = same_items c 95 (b ∷ more) ((l ∷ (n ++ path_behind q)) ++ v) e in
    let second = same_items b l more ((n ++ path_behind q) ++ v) first.1 in
    letter_no_digit l i.0 (subst IsDigit second.0 h.1)

split_behind : (p q : List (List ℕ)) (u v : List ℕ) → AllByRecursion IsIdentifier p → AllByRecursion IsIdentifier q → IsTail u → IsTail v → path_behind p ++ u ≡ path_behind q ++ v → (p ≡ q) × (u ≡ v)
split_behind [] [] u v i j h k e = (refl, e)
split_behind [] (n ∷ q) u v i j h k e = absurd (no_name n q u v j.0 h e)
split_behind (m ∷ p) [] u v i j h k e = absurd (no_name m p v u i.0 k (sym e))
split_behind (m ∷ p) (n ∷ q) u v i j h k e =
    let behind = (same_items 95 95 ((m ++ path_behind p) ++ u) ((n ++ path_behind q) ++ v) e).1 in
    let s = split_word m n (path_behind p ++ u) (path_behind q ++ v) (identifier_word m i.0) (identifier_word n j.0) (path_starts p u h) (path_starts q v k) (sym (append_assoc m (path_behind p) u) ∙ behind ∙ append_assoc n (path_behind q) v) in
    let r = split_behind p q u v i.1 j.1 h k s.1 in
    (ap₂ (λ (x : List ℕ) (xs : List (List ℕ)). x ∷ xs) s.0 r.0, r.1)

split_path : (p q : List (List ℕ)) (u v : List ℕ) → p ≢ [] → q ≢ [] → AllByRecursion IsIdentifier p → AllByRecursion IsIdentifier q → IsTail u → IsTail v → path_text p ++ u ≡ path_text q ++ v → (p ≡ q) × (u ≡ v)
split_path [] q u v some other i j h k e = absurd (some refl)
split_path (m ∷ p) [] u v some other i j h k e = absurd (other refl)
split_path (m ∷ p) (n ∷ q) u v some other i j h k e =
    let s = split_word m n (path_behind p ++ u) (path_behind q ++ v) (identifier_word m i.0) (identifier_word n j.0) (path_starts p u h) (path_starts q v k) (sym (append_assoc m (path_behind p) u) ∙ e ∙ append_assoc n (path_behind q) v) in
    let r = split_behind p q u v i.1 j.1 h k s.1 in
    (ap₂ (λ (x : List ℕ) (xs : List (List ℕ)). x ∷ xs) s.0 r.0, r.1)

-- bits of one text with one name
bit_behind : (bit other : ℕ) → bit < 2 ^ 64 → other < 2 ^ 64 → codes "_" ++ decimal bit ≡ codes "_" ++ decimal other → bit ≡ other
bit_behind bit other b c e = decimal_injective bit other b c (same_items 95 95 (decimal bit) (decimal other) e).1

pub same_bit : (text : List ℕ) (bit other : ℕ) → bit < 2 ^ 64 → other < 2 ^ 64 → bit_name text bit ≡ bit_name text other → bit ≡ other
same_bit [] bit other b c e = bit_behind bit other b c e
same_bit (x ∷ text) bit other b c e = same_bit text bit other b c (same_items x x (bit_name text bit) (bit_name text other) e).1

same_element : (first second bit other : ℕ) → first < 2 ^ 64 → second < 2 ^ 64 → (codes "_" ++ decimal first) ++ (codes "_" ++ decimal bit) ≡ (codes "_" ++ decimal second) ++ (codes "_" ++ decimal other) → first ≡ second
same_element first second bit other f s e =
    let behind = (same_items 95 95 (decimal first ++ (codes "_" ++ decimal bit)) (decimal second ++ (codes "_" ++ decimal other)) e).1 in
    decimal_injective first second f s (split_word (decimal first) (decimal second) (codes "_" ++ decimal bit) (codes "_" ++ decimal other) (decimal_word first f) (decimal_word second s) refl refl behind).0

-- the names of a signal
pub record IsBitOf (s : SignalTree) (name : List ℕ) : Type 0 where
  pub element : ℕ
  pub element_within : element < s.count
  pub bit : ℕ
  pub bit_within : bit < s.width
  pub is : name ≡ bit_name (stem s element) bit

pub in_first : (count n : ℕ) → IsIn n (first_numbers count) → n < count
in_first zero n among = absurd among
in_first (suc count) n among = elim (but_last n count (first_numbers count) among) [ inl e ↦ omega arith | inr earlier ↦ (let h = in_first count n earlier in omega arith) ]

in_down : (text : List ℕ) (width : ℕ) (name : List ℕ) → IsIn name (names_down text width) → (bit : ℕ) × ((bit < width) × (name ≡ bit_name text bit))
in_down text zero name among = absurd among
in_down text (suc w) name (inl e) = (w, (omega arith, e))
in_down text (suc w) name (inr more) = let h = in_down text w name more in (h.0, (let k = h.1.0 in omega arith, h.1.1))

pub bit_of : (s : SignalTree) (name : List ℕ) → IsIn name (signal_names s) → IsBitOf s name
bit_of s name among =
    let found = from_flat_map (λ (element : ℕ). names_down (stem s element) s.width) name (first_numbers s.count) among in
    let down = in_down (stem s found.0) s.width name found.2 in
    record { element = found.0; element_within = in_first s.count found.0 found.1; bit = down.0; bit_within = down.1.0; is = down.1.1 }

-- a signal whose path has identifiers, with few elements of few bits
pub record IsNamed (s : SignalTree) : Type 0 where
  pub some : s.path ≢ []
  pub identifiers : AllByRecursion IsIdentifier s.path
  pub few : s.count < 2 ^ 64
  pub narrow : s.width < 2 ^ 64

name_parts : (s : SignalTree) (element bit : ℕ) → bit_name (stem s element) bit ≡ path_text s.path ++ (element_text s.place element ++ (codes "_" ++ decimal bit))
name_parts s element bit = append_assoc (path_text s.path) (element_text s.place element) (codes "_" ++ decimal bit)

module _ (s t : SignalTree) (x : IsNamed s) (y : IsNamed t) (name : List ℕ) (a : IsBitOf s name) (b : IsBitOf t name) where
  split : (s.path ≡ t.path) × (element_text s.place a.element ++ (codes "_" ++ decimal a.bit) ≡ element_text t.place b.element ++ (codes "_" ++ decimal b.bit))
  split =
      let p = a.element_within in
      let q = a.bit_within in
      let r = b.element_within in
      let u = b.bit_within in
      let few = x.few in
      let narrow = x.narrow in
      let other = y.few in
      let slim = y.narrow in
      split_path s.path t.path (element_text s.place a.element ++ (codes "_" ++ decimal a.bit)) (element_text t.place b.element ++ (codes "_" ++ decimal b.bit)) x.some y.some x.identifiers y.identifiers
      (bit_tail s.place a.element a.bit (omega arith) (omega arith)) (bit_tail t.place b.element b.bit (omega arith) (omega arith))
      (sym (name_parts s a.element a.bit) ∙ sym a.is ∙ b.is ∙ name_parts t b.element b.bit)

  -- a name that is one of two signals' is of one path
  pub one_path : s.path ≡ t.path
  one_path = split.0

-- lists of names that have a key each
pub flat_distinct : {X K : Type 0} (key : X → K) (g : X → List (List ℕ)) (xs : List X) → AreDistinct (map key xs) → ((x : X) → IsIn x xs → AreDistinct (g x)) →
    ((x y : X) → IsIn x xs → IsIn y xs → (name : List ℕ) → IsIn name (g x) → IsIn name (g y) → key x ≡ key y) → AreDistinct (flat_map g xs)
flat_distinct key g [] distinct each apart = tt
flat_distinct key g (x ∷ xs) distinct each apart =
    distinct_join (g x) (flat_map g xs) (each x (inl refl)) (flat_distinct key g xs distinct.1 (λ y among. each y (inr among)) (λ y z p q. apart y z (inr p) (inr q)))
    (λ name here there.
    let found = from_flat_map g name xs there in
    distinct.0 (subst (λ k. IsIn k (map key xs)) (sym (apart x found.0 (inl refl) (inr found.1) name here found.2)) (to_map key found.0 xs found.1)))

pub down_distinct : (text : List ℕ) (width : ℕ) → width < 2 ^ 64 → AreDistinct (names_down text width)
down_distinct text zero few = tt
down_distinct text (suc w) few = (
  (λ among. let h = in_down text w (bit_name text w) among in let k = h.1.0 in let e = same_bit text w h.0 (omega arith) (omega arith) h.1.1 in omega arith),
  down_distinct text w (omega arith),
)

pub first_distinct : (count : ℕ) → AreDistinct (first_numbers count)
first_distinct zero = tt
first_distinct (suc count) = distinct_join (first_numbers count) (count ∷ []) (first_distinct count) ((λ none. none), tt) (λ n before here. elim here [ inl e ↦ (let h = in_first count n before in omega arith) | inr none ↦ none ])

map_same : {X : Type 0} (xs : List X) → map (λ x. x) xs ≡ xs
map_same [] = refl
map_same (x ∷ xs) = ap (λ l. x ∷ l) (map_same xs)

pub numbers_distinct : (ns : List ℕ) → AreDistinct ns → AreDistinct (map (λ (n : ℕ). n) ns)
numbers_distinct ns distinct = subst AreDistinct (sym (map_same ns)) distinct

-- no name of a signal comes twice
pub names_distinct : (s : SignalTree) → IsNamed s → (s.place ≡ None → s.count ≡ 1) → AreDistinct (signal_names s)
names_distinct s x alone =
    flat_distinct (λ (n : ℕ). n) (λ (element : ℕ). names_down (stem s element) s.width) (first_numbers s.count) (numbers_distinct (first_numbers s.count) (first_distinct s.count))
    (λ element among. down_distinct (stem s element) s.width x.narrow) one_element
  where
    by : (place : Option ExprTree) → s.place ≡ place → (a b c e : ℕ) → a < s.count → b < s.count → element_text place a ++ (codes "_" ++ decimal c) ≡ element_text place b ++ (codes "_" ++ decimal e) → a ≡ b
    by None is a b c e p q same = (let one = alone is in omega arith)
    by (Some t) is a b c e p q same = (let few = x.few in same_element a b c e (omega arith) (omega arith) same)

    one_element : (a b : ℕ) → IsIn a (first_numbers s.count) → IsIn b (first_numbers s.count) → (name : List ℕ) → IsIn name (names_down (stem s a) s.width) → IsIn name (names_down (stem s b) s.width) → a ≡ b
    one_element a b p q name here there =
        let i = in_down (stem s a) s.width name here in
        let j = in_down (stem s b) s.width name there in
        let u : IsBitOf s name = record { element = a; element_within = in_first s.count a p; bit = i.0; bit_within = i.1.0; is = i.1.1 } in
        let v : IsBitOf s name = record { element = b; element_within = in_first s.count b q; bit = j.0; bit_within = j.1.0; is = j.1.1 } in
        by s.place refl a b i.0 j.0 (in_first s.count a p) (in_first s.count b q) (split s s x x name u v).1
