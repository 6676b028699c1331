-- Where an expression stands at the front and may end, each step of the descent can only find its parts.
use Rattle.std.proofs.Common.{◌≡◌, ℕ, ◌≤◌, List, [], ◌∷◌, ◌++◌, length, Some, None, Result, Ok, Err, sym, ap, subst, ◌∙◌, arith}
use Rattle.lola_bits.specs.declared.op.Op.{Op}
use Rattle.lola_bits.specs.declared.op.Op.TheVariants as op
use Rattle.lola_tree.specs.declared.named.Count.{Count}
use Rattle.lola_tree.specs.declared.named.Count.TheVariants as count
use Rattle.lola_tree.specs.declared.named.Ref.{Ref}
use Rattle.lola_tree.specs.declared.expr.Part.{Part}
use Rattle.lola_tree.specs.Tree.{Tree, tree, binary, choice, Parts, no_part, one_part, parts_tree}
use Rattle.lola_parse.specs.declared.symbol.Symbol.{Symbol}
use Rattle.lola_parse.specs.declared.symbol.Symbol.TheVariants as s
use Rattle.lola_parse.specs.declared.symbol.Language.{Language}
use Rattle.lola_parse.specs.declared.cursor.Next.{Next}
use Rattle.lola_parse.specs.Symbols.{Item}
use Rattle.lola_parse.specs.Parts.{part_tree}
use Rattle.lola_parse.specs.Grammar.{Counted, Stands, Passes, Times, once, repeated, Expression, one_rel, chosen, Rel, one_sum, related, Sum, sum, Terms, no_term, one_term, Term, term, Factors, no_factor, one_factor, Factor, OnePart, part, MoreParts, no_more, one_more, with_part, relation_of, adding_of, place_of}
use Rattle.lola_parse.specs.Behind.{ChoiceBehind, NestedBehind, ShiftBehind, ConcatBehind, IndexBehind, PartRead}
use Rattle.std.specs.Result.{IsErrAnd}
use Rattle.lola_parse.specs.declared.fault.Fault.{Fault}
use Rattle.lola_parse.specs.MayEnd.{Closes, Sole}
use Rattle.lola_parse.specs.Read.{front, IsWant, IsRead, IsMade}
use Rattle.lola_parse.proofs.Parts.{parts_more}
use Rattle.lola_parse.proofs.Fronts.{IsNextOf}
use Rattle.lola_parse.proofs.Suffix.{expression_ends, sum_ends, term_ends, terms_ends, factors_ends, factor_ends, part_ends, parts_ends, counted_ends}
use Rattle.lola_parse.proofs.Follow.{moved, head, tail, Same, one_front, front_is, is_shorter, ends_within, closes_at, no_close, closes_more, relation_tight, adding_tight}

-- whatever stands behind the symbol is this
abbrev pub After : Symbol → List Item → List Item → Type 0
After symbol all behind = (rest : List Item) → Passes symbol all rest → behind ≡ rest

-- what stands at the front is what is next
pub next_front : (all : List Item) (n : Next) → IsNextOf all n → front all ≡ n.symbol
next_front [] n next = sym next.0
next_front (item ∷ more) n next = ap (λ (i : Item). i.symbol) next.0

pub next_is : {symbol : Symbol} {at : ℕ} {rest : List Item} (all : List Item) (n : Next) → IsNextOf all n → Stands symbol at all rest → Same symbol n.symbol at n.at rest n.rest
next_is [] n next stands = absurd (let e = stands.splits in cc)
next_is (item ∷ more) n next stands =
    let same = sym (head _ _ _ _ stands.splits) ∙ next.0 in
    record { symbol_is = ap (λ (i : Item). i.symbol) same; at_is = ap (λ (i : Item). i.at) same; rest_is = sym (tail _ _ _ _ stands.splits) ∙ next.1 }

-- expr
pub arrow_closes : {l : Language} {arrow arm colon other_arm rest : List Item} {first second : Tree} {at place floor : ℕ} → Stands s.Arrow at arrow arm →
    Expression l arm first colon → Stands s.Colon place colon other_arm → Expression l other_arm second rest → Closes 3 floor rest → Closes 4 floor arrow
arrow_closes a first c second closes =
    let one = ends_within (expression_ends first) in
    let two = is_shorter c in
    let three = ends_within (expression_ends second) in
    let within = closes.within in
    closes_at a (omega arith) (omega arith)

pub expression_begins : {l : Language} {all rest : List Item} {e : Tree} {floor : ℕ} → Expression l all e rest → Closes 3 floor rest →
    (test : Tree) × (more : List Item) × (Rel l all test more) × Closes 4 floor more
expression_begins {rest = rest} {e = e} (one_rel r) closes = (e, rest, r, closes_more closes (omega arith))
expression_begins (chosen {test = test} arrow arm colon other_arm read a first c second is) closes = (test, arrow, read, arrow_closes a first c second closes)

pub expression_alone : {l : Language} {all rest b : List Item} {e t : Tree} {floor : ℕ} → Expression l all e rest → Closes 3 floor rest →
    Sole (Rel l all) (Closes 4 floor) t b → (front b ≡ s.Arrow → ⊥) → (t ≡ e) × (b ≡ rest)
expression_alone (one_rel r) closes sole none = sole _ _ r (closes_more closes (omega arith))
expression_alone (chosen arrow arm colon other_arm test a first c second is) closes sole none =
    let same = sole _ _ test (arrow_closes a first c second closes) in
    absurd (none (ap front same.1 ∙ front_is a))

pub expression_chosen : {l : Language} {all rest b behind : List Item} {e t : Tree} {floor at : ℕ} → Expression l all e rest → Closes 3 floor rest →
    Sole (Rel l all) (Closes 4 floor) t b → Stands s.Arrow at b behind → ChoiceBehind l t at behind e rest
expression_chosen (one_rel r) closes sole stands =
    let same = sole _ _ r (closes_more closes (omega arith)) in
    no_close (moved same.1 stands) (omega arith) closes
expression_chosen {l = l} {t = t} {at = at} (chosen {first = one} {second = two} {at = place} arrow arm colon other_arm test a first c second is) closes sole stands =
    let same = sole _ _ test (arrow_closes a first c second closes) in
    let f = one_front a (moved same.1 stands) in
    record {
      first = one;
      second = two;
      colon = colon;
      no = other_arm;
      first_read = subst (λ all. Expression l all one colon) f.rest_is first;
      colon_passed = (_, c);
      second_read = second;
      tree_is = is ∙ (ap (λ test. choice test one two place) (sym same.0) ∙ ap (choice t one two) f.at_is);
    }

-- expr ":" expr, behind a test and its "->"
pub choice_first : {l : Language} {all rest : List Item} {e test : Tree} {at floor : ℕ} (h : ChoiceBehind l test at all e rest) → Closes 3 floor rest → Closes 3 floor h.colon
choice_first h closes =
    let within = closes.within in
    let longer = ends_within (expression_ends h.second_read) in
    closes_at h.colon_passed.1 (omega arith) (omega arith)

pub choice_colon : {l : Language} {all rest b : List Item} {e test y : Tree} {at floor : ℕ} (h : ChoiceBehind l test at all e rest) → Closes 3 floor rest →
    Sole (Expression l all) (Closes 3 floor) y b → Passes s.Colon b h.no
choice_colon h closes sole =
    let same = sole _ _ h.first_read (choice_first h closes) in
    subst (λ all. Passes s.Colon all h.no) (sym same.1) h.colon_passed

pub choice_second : {l : Language} {all rest b r : List Item} {e test y : Tree} {at floor : ℕ} (h : ChoiceBehind l test at all e rest) → Closes 3 floor rest →
    Sole (Expression l all) (Closes 3 floor) y b → After s.Colon b r → Expression l r h.second rest
choice_second {l = l} {rest = rest} h closes sole after =
    let same = after _ (choice_colon h closes sole) in
    subst (λ all. Expression l all h.second rest) (sym same) h.second_read

pub choice_made : {l : Language} {all rest b r more : List Item} {e test y n made : Tree} {at floor : ℕ} (h : ChoiceBehind l test at all e rest) → Closes 3 floor rest →
    Sole (Expression l all) (Closes 3 floor) y b → After s.Colon b r → Sole (Expression l r) (Closes 3 floor) n more → made ≡ choice test y n at →
    (made ≡ e) × (more ≡ rest)
choice_made {test = test} {y = y} {at = at} h closes sole after second is =
    let one = sole _ _ h.first_read (choice_first h closes) in
    let two = second _ _ (choice_second h closes sole after) closes in
    (is ∙ (ap (λ n. choice test y n at) two.0 ∙ (ap (λ y. choice test y h.second at) one.0 ∙ sym h.tree_is)), two.1)

-- rel
pub sign_closes : {l : Language} {sign behind rest : List Item} {symbol : Symbol} {o : Op} {b : Tree} {at floor : ℕ} → Stands symbol at sign behind →
    relation_of symbol ≡ Some o → Sum l behind b rest → Closes 4 floor rest → Closes 5 floor sign
sign_closes {symbol = symbol} {o = o} stands is read closes =
    let within = closes.within in
    let longer = ends_within (sum_ends read) in
    let tight = relation_tight symbol o is in
    closes_at stands (omega arith) (omega arith)

pub rel_begins : {l : Language} {all rest : List Item} {e : Tree} {floor : ℕ} → Rel l all e rest → Closes 4 floor rest →
    (a : Tree) × (more : List Item) × (Sum l all a more) × Closes 5 floor more
rel_begins {rest = rest} {e = e} (one_sum r) closes = (e, rest, r, closes_more closes (omega arith))
rel_begins (related {a = a} sign behind first stands op second is) closes = (a, sign, first, sign_closes stands op second closes)

pub rel_alone : {l : Language} {all rest b : List Item} {e t : Tree} {floor : ℕ} → Rel l all e rest → Closes 4 floor rest →
    Sole (Sum l all) (Closes 5 floor) t b → relation_of (front b) ≡ None → (t ≡ e) × (b ≡ rest)
rel_alone (one_sum r) closes sole none = sole _ _ r (closes_more closes (omega arith))
rel_alone (related {o = o} sign behind first stands op second is) closes sole none =
    let same = sole _ _ first (sign_closes stands op second closes) in
    absurd (let e : None ≡ Some o = sym none ∙ (ap (λ all. relation_of (front all)) same.1 ∙ (ap relation_of (front_is stands) ∙ op)) in cc)

pub rel_second : {l : Language} {all rest b behind : List Item} {e t : Tree} {symbol : Symbol} {o : Op} {floor at : ℕ} → Rel l all e rest → Closes 4 floor rest →
    Sole (Sum l all) (Closes 5 floor) t b → Stands symbol at b behind → relation_of symbol ≡ Some o →
    (second : Tree) × (Sum l behind second rest) × (e ≡ binary o t second at)
rel_second {symbol = symbol} {o = o} (one_sum r) closes sole stands is =
    let same = sole _ _ r (closes_more closes (omega arith)) in
    let tight = relation_tight symbol o is in
    no_close (moved same.1 stands) (omega arith) closes
rel_second {l = l} {rest = rest} {t = t} {symbol = symbol} {o = o} {at = at} (related {b = b} sign behind first stood op second is) closes sole stands with =
    let same = sole _ _ first (sign_closes stood op second closes) in
    let f = one_front stood (moved same.1 stands) in
    let o_is = sym op ∙ (ap relation_of f.symbol_is ∙ with) in
    (b, subst (λ all. Sum l all b rest) f.rest_is second, is ∙ (let a_is = same.0 in let at_is = f.at_is in cc))

pub rel_made : {l : Language} {all rest b behind more : List Item} {e t r made : Tree} {symbol : Symbol} {o : Op} {floor at : ℕ} → Rel l all e rest → Closes 4 floor rest →
    Sole (Sum l all) (Closes 5 floor) t b → Stands symbol at b behind → relation_of symbol ≡ Some o → Sole (Sum l behind) (Closes 5 floor) r more →
    made ≡ binary o t r at → (made ≡ e) × (more ≡ rest)
rel_made {t = t} {o = o} {at = at} read closes sole stands with second is =
    let w = rel_second read closes sole stands with in
    let two = second _ _ w.1 (closes_more closes (omega arith)) in
    (is ∙ (ap (λ r. binary o t r at) two.0 ∙ sym w.2), two.1)

-- sum
pub terms_close : {l : Language} {all rest : List Item} {a e : Tree} {floor : ℕ} → Terms l a all e rest → Closes 5 floor rest → Closes 6 floor all
terms_close {floor = floor} (no_term is none) closes = closes_more (subst (Closes 5 floor) none closes) (omega arith)
terms_close (one_term {symbol = symbol} {o = o} first behind stands op b more) closes =
    let within = closes.within in
    let one = ends_within (term_ends b) in
    let two = ends_within (terms_ends more) in
    let tight = adding_tight symbol o op in
    closes_at stands (omega arith) (omega arith)

pub sum_begins : {l : Language} {all rest : List Item} {e : Tree} {floor : ℕ} → Sum l all e rest → Closes 5 floor rest →
    (a : Tree) × (behind : List Item) × (Term l all a behind) × Closes 6 floor behind
sum_begins (sum {a = a} behind first more) closes = (a, behind, first, terms_close more closes)

pub sum_more : {l : Language} {all rest b : List Item} {e t : Tree} {floor : ℕ} → Sum l all e rest → Closes 5 floor rest →
    Sole (Term l all) (Closes 6 floor) t b → Terms l t b e rest
sum_more {l = l} {rest = rest} {b = b} {e = e} (sum {a = a} behind first more) closes sole =
    let same = sole _ _ first (terms_close more closes) in
    subst (λ t. Terms l t b e rest) (sym same.0) (subst (λ b. Terms l a b e rest) (sym same.1) more)

pub terms_none : {l : Language} {all rest : List Item} {a e : Tree} → Terms l a all e rest → adding_of (front all) ≡ None → (a ≡ e) × (all ≡ rest)
terms_none (no_term is none) over = (sym is, sym none)
terms_none (one_term {o = o} first behind stands op b more) over =
    absurd (let e : None ≡ Some o = sym over ∙ (ap adding_of (front_is stands) ∙ op) in cc)

pub terms_term : {l : Language} {all rest behind : List Item} {a e : Tree} {symbol : Symbol} {o : Op} {floor at : ℕ} → Terms l a all e rest → Closes 5 floor rest →
    Stands symbol at all behind → adding_of symbol ≡ Some o →
    (b : Tree) × (next : List Item) × (Term l behind b next) × (Closes 6 floor next) × Terms l (binary o a b at) next e rest
terms_term {symbol = symbol} {o = o} {floor = floor} (no_term is none) closes stands with =
    let tight = adding_tight symbol o with in
    no_close stands (omega arith) (subst (Closes 5 floor) none closes)
terms_term {l = l} {rest = rest} {a = a} {e = e} {symbol = symbol} {o = o} {at = at} (one_term {b = b} {symbol = other} {o = p} {at = place} first next stood op read more) closes stands with =
    let f = one_front stood stands in
    let o_is : p ≡ o = let one = op in let two = with in let three = ap adding_of f.symbol_is in cc in (
      b,
      next,
      subst (λ all. Term l all b next) f.rest_is read,
      terms_close more closes,
      subst (λ o. Terms l (binary o a b at) next e rest) o_is (subst (λ at. Terms l (binary p a b at) next e rest) f.at_is more),
    )

pub terms_more : {l : Language} {all rest behind b : List Item} {a e t made : Tree} {symbol : Symbol} {o : Op} {floor at : ℕ} → Terms l a all e rest → Closes 5 floor rest →
    Stands symbol at all behind → adding_of symbol ≡ Some o → Sole (Term l behind) (Closes 6 floor) t b → made ≡ binary o a t at → Terms l made b e rest
terms_more {l = l} {rest = rest} {b = b} {a = a} {e = e} {t = t} {made = made} {o = o} {at = at} read closes stands with sole is =
    let w = terms_term read closes stands with in
    let same = sole _ _ w.2 w.3 in
    let made_is : binary o a w.0 at ≡ made = sym (is ∙ ap (λ t. binary o a t at) same.0) in
    subst (λ m. Terms l m b e rest) made_is (subst (λ b. Terms l (binary o a w.0 at) b e rest) (sym same.1) w.4)

-- term
pub factors_close : {l : Language} {all rest : List Item} {a e : Tree} {floor : ℕ} → Factors l a all e rest → Closes 6 floor rest → Closes 7 floor all
factors_close {floor = floor} (no_factor is none) closes = closes_more (subst (Closes 6 floor) none closes) (omega arith)
factors_close (one_factor first behind stands b more) closes =
    let within = closes.within in
    let one = ends_within (factor_ends b) in
    let two = ends_within (factors_ends more) in
    closes_at stands (omega arith) (omega arith)

pub term_begins : {l : Language} {all rest : List Item} {e : Tree} {floor : ℕ} → Term l all e rest → Closes 6 floor rest →
    (a : Tree) × (behind : List Item) × (Factor l all a behind) × Closes 7 floor behind
term_begins (term {a = a} behind first more) closes = (a, behind, first, factors_close more closes)

pub term_more : {l : Language} {all rest b : List Item} {e t : Tree} {floor : ℕ} → Term l all e rest → Closes 6 floor rest →
    Sole (Factor l all) (Closes 7 floor) t b → Factors l t b e rest
term_more {l = l} {rest = rest} {b = b} {e = e} (term {a = a} behind first more) closes sole =
    let same = sole _ _ first (factors_close more closes) in
    subst (λ t. Factors l t b e rest) (sym same.0) (subst (λ b. Factors l a b e rest) (sym same.1) more)

pub factors_none : {l : Language} {all rest : List Item} {a e : Tree} → Factors l a all e rest → (front all ≡ s.And → ⊥) → (a ≡ e) × (all ≡ rest)
factors_none (no_factor is none) over = (sym is, sym none)
factors_none (one_factor first behind stands b more) over = absurd (over (front_is stands))

pub factors_factor : {l : Language} {all rest behind : List Item} {a e : Tree} {floor at : ℕ} → Factors l a all e rest → Closes 6 floor rest →
    Stands s.And at all behind → (b : Tree) × (next : List Item) × (Factor l behind b next) × (Closes 7 floor next) × Factors l (binary op.And a b at) next e rest
factors_factor {floor = floor} (no_factor is none) closes stands = no_close stands (omega arith) (subst (Closes 6 floor) none closes)
factors_factor {l = l} {rest = rest} {a = a} {e = e} (one_factor {b = b} first next stood read more) closes stands =
    let f = one_front stood stands in (
      b,
      next,
      subst (λ all. Factor l all b next) f.rest_is read,
      factors_close more closes,
      subst (λ at. Factors l (binary op.And a b at) next e rest) f.at_is more,
    )

pub factors_more : {l : Language} {all rest behind b : List Item} {a e t made : Tree} {floor at : ℕ} → Factors l a all e rest → Closes 6 floor rest →
    Stands s.And at all behind → Sole (Factor l behind) (Closes 7 floor) t b → made ≡ binary op.And a t at → Factors l made b e rest
factors_more {l = l} {rest = rest} {b = b} {a = a} {e = e} {t = t} {made = made} {at = at} read closes stands sole is =
    let w = factors_factor read closes stands in
    let same = sole _ _ w.2 w.3 in
    let made_is : binary op.And a w.0 at ≡ made = sym (is ∙ ap (λ t. binary op.And a t at) same.0) in
    subst (λ m. Factors l m b e rest) made_is (subst (λ b. Factors l (binary op.And a w.0 at) b e rest) (sym same.1) w.4)

-- what is handed on is the fault of the call
pub handed_on : {X T : Type 0} (view : X → T) (tree : T) (rest : List Item) (f : Fault) (r : Result (X × List Item) Fault) → IsErrAnd r (λ g. g ≡ f) → IsWant f →
    IsRead view tree rest r
handed_on view tree rest f (Ok x) h want = absurd h
handed_on view tree rest f (Err g) h want = subst IsWant (sym h) want

pub not_front : {symbol : Symbol} (all : List Item) (n : Next) → IsNextOf all n → (n.symbol ≡ symbol → ⊥) → front all ≡ symbol → ⊥
not_front all n next not e = not (sym (next_front all n next) ∙ e)

-- parts
pub times_close : {l : Language} {place : ℕ} {all rest : List Item} {times : Count} {floor : ℕ} → Times l place all times rest → Closes 2 floor rest → Closes 3 floor all
times_close {floor = floor} (once is none) closes = closes_more (subst (Closes 2 floor) none closes) (omega arith)
times_close (repeated behind stands read) closes =
    let within = closes.within in
    let longer = ends_within (counted_ends read) in
    closes_at stands (omega arith) (omega arith)

pub part_begins : {l : Language} {all rest : List Item} {p : Tree × Count} {floor : ℕ} → PartRead l all p rest → Closes 2 floor rest →
    (behind : List Item) × (Expression l all p.0 behind) × (Closes 3 floor behind) × Times l (place_of all) behind p.1 rest
part_begins (part behind value times) closes = (behind, value, times_close times closes, times)

pub part_times : {l : Language} {all rest b : List Item} {p : Tree × Count} {v : Tree} {floor at : ℕ} → PartRead l all p rest → Closes 2 floor rest →
    Sole (Expression l all) (Closes 3 floor) v b → at ≡ place_of all → Times l at b p.1 rest
part_times {l = l} {all = all} {rest = rest} {b = b} {p = p} read closes sole place =
    let w = part_begins read closes in
    let same = sole _ _ w.1 w.2 in
    subst (λ at. Times l at b p.1 rest) (sym place) (subst (λ b. Times l (place_of all) b p.1 rest) (sym same.1) w.3)

pub part_value : {l : Language} {all rest b : List Item} {p : Tree × Count} {v : Tree} {floor : ℕ} → PartRead l all p rest → Closes 2 floor rest →
    Sole (Expression l all) (Closes 3 floor) v b → v ≡ p.0
part_value read closes sole = let w = part_begins read closes in (sole _ _ w.1 w.2).0

pub parts_close : {l : Language} {all rest : List Item} {before parts : Parts} {floor : ℕ} → MoreParts l before all parts rest → Closes 1 floor rest → Closes 2 floor all
parts_close {floor = floor} (no_more is none) closes = closes_more (subst (Closes 1 floor) none closes) (omega arith)
parts_close (one_more first behind stands value more) closes =
    let within = closes.within in
    let one = ends_within (part_ends value) in
    let two = ends_within (parts_ends more) in
    closes_at stands (omega arith) (omega arith)

pub parts_none : {l : Language} {all rest : List Item} {before parts : Parts} → MoreParts l before all parts rest → (front all ≡ s.Comma → ⊥) →
    (before ≡ parts) × (all ≡ rest)
parts_none (no_more is none) over = (sym is, sym none)
parts_none (one_more first behind stands value more) over = absurd (over (front_is stands))

pub parts_part : {l : Language} {all rest behind : List Item} {before parts : Parts} {floor at : ℕ} → MoreParts l before all parts rest → Closes 1 floor rest →
    Stands s.Comma at all behind →
    (p : Tree × Count) × (next : List Item) × (PartRead l behind p next) × (Closes 2 floor next) × MoreParts l (with_part before p.0 p.1) next parts rest
parts_part {floor = floor} (no_more is none) closes stands = no_close stands (omega arith) (subst (Closes 1 floor) none closes)
parts_part {l = l} (one_more {e = e} {times = times} first next stood value more) closes stands =
    let f = one_front stood stands in
    ((e, times), next, subst (λ all. OnePart l all e times next) f.rest_is value, parts_close more closes, more)

pub parts_next : {l : Language} {all rest behind b : List Item} {parts : Parts} {floor at : ℕ} (before made : List Part) (p : Part) →
    MoreParts l (parts_tree before) all parts rest → Closes 1 floor rest → Stands s.Comma at all behind →
    Sole (PartRead l behind) (Closes 2 floor) (part_tree p) b → made ≡ before ++ p ∷ [] → MoreParts l (parts_tree made) b parts rest
parts_next {l = l} {rest = rest} {b = b} {parts = parts} before made p read closes stands sole is =
    let w = parts_part read closes stands in
    let same = sole _ _ w.2 w.3 in
    let longer : with_part (parts_tree before) w.0.0 w.0.1 ≡ parts_tree made =
    sym (ap parts_tree is ∙ (parts_more before p ∙ ap (λ (q : Tree × Count). with_part (parts_tree before) q.0 q.1) same.0)) in
    subst (λ m. MoreParts l m b parts rest) longer (subst (λ b. MoreParts l (with_part (parts_tree before) w.0.0 w.0.1) b parts rest) (sym same.1) w.4)

-- part {"," part} "}", behind a "{"
pub brace_closes : {l : Language} {all rest : List Item} {e : Tree} {at floor : ℕ} (h : ConcatBehind l at all e rest) → floor ≤ length rest → Closes 1 floor h.close
brace_closes h within = closes_at h.close_passed.1 (omega arith) within

pub concat_first : {l : Language} {all rest : List Item} {e : Tree} {at floor : ℕ} (h : ConcatBehind l at all e rest) → floor ≤ length rest → Closes 2 floor h.behind
concat_first h within = parts_close h.more_read (brace_closes h within)

pub concat_more : {l : Language} {all rest b : List Item} {e : Tree} {at floor : ℕ} (p : Part) (made : List Part) (h : ConcatBehind l at all e rest) →
    floor ≤ length rest → Sole (PartRead l all) (Closes 2 floor) (part_tree p) b → made ≡ p ∷ [] → MoreParts l (parts_tree made) b h.parts h.close
concat_more {l = l} {b = b} p made h within sole is =
    let same = sole (h.value, h.times) _ h.first_read (concat_first h within) in
    let only : one_part h.value h.times no_part ≡ parts_tree made = sym (ap parts_tree is ∙ ap (λ (q : Tree × Count). one_part q.0 q.1 no_part) same.0) in
    subst (λ m. MoreParts l m b h.parts h.close) only (subst (λ b. MoreParts l (one_part h.value h.times no_part) b h.parts h.close) (sym same.1) h.more_read)

-- expr ")", behind a "("
pub nested_closes : {l : Language} {all rest : List Item} {e : Tree} {floor : ℕ} (h : NestedBehind l all e rest) → floor ≤ length rest → Closes 3 floor h.close
nested_closes h within = closes_at h.close_passed.1 (omega arith) within

-- expr "]", behind the "[" of an index
pub index_closes : {l : Language} {of : Ref} {all rest : List Item} {e : Tree} {at floor : ℕ} (h : IndexBehind l of at all e rest) → floor ≤ length rest → Closes 3 floor h.close
index_closes h within = closes_at h.close_passed.1 (omega arith) within

-- "(" expr "," expr ")", behind the word of a shift
pub shift_open : {l : Language} {o : Op} {all rest r : List Item} {e : Tree} {at : ℕ} (h : ShiftBehind l o at all e rest) → After s.OpenParen all r →
    Expression l r h.value h.comma
shift_open {l = l} h after = subst (λ all. Expression l all h.value h.comma) (sym (after _ h.open_passed)) h.value_read

pub shift_second : {l : Language} {o : Op} {all rest : List Item} {e : Tree} {at floor : ℕ} (h : ShiftBehind l o at all e rest) → floor ≤ length rest → Closes 3 floor h.close
shift_second h within = closes_at h.close_passed.1 (omega arith) within

pub shift_first : {l : Language} {o : Op} {all rest : List Item} {e : Tree} {at floor : ℕ} (h : ShiftBehind l o at all e rest) → floor ≤ length rest → Closes 3 floor h.comma
shift_first h within =
    let longer = ends_within (expression_ends h.by_read) in
    let one = is_shorter h.close_passed.1 in
    closes_at h.comma_passed.1 (omega arith) (omega arith)

pub shift_comma : {l : Language} {o : Op} {all rest r b : List Item} {e v : Tree} {at floor : ℕ} (h : ShiftBehind l o at all e rest) → floor ≤ length rest →
    After s.OpenParen all r → Sole (Expression l r) (Closes 3 floor) v b → Passes s.Comma b h.second
shift_comma h within after sole =
    subst (λ all. Passes s.Comma all h.second) (sym (sole _ _ (shift_open h after) (shift_first h within)).1) h.comma_passed

pub shift_by : {l : Language} {o : Op} {all rest r b second : List Item} {e v : Tree} {at floor : ℕ} (h : ShiftBehind l o at all e rest) → floor ≤ length rest →
    After s.OpenParen all r → Sole (Expression l r) (Closes 3 floor) v b → After s.Comma b second → Expression l second h.by h.close
shift_by {l = l} h within after sole comma =
    subst (λ all. Expression l all h.by h.close) (sym (comma _ (shift_comma h within after sole))) h.by_read

pub shift_close : {l : Language} {o : Op} {all rest r b second more : List Item} {e v w : Tree} {at floor : ℕ} (h : ShiftBehind l o at all e rest) → floor ≤ length rest →
    After s.OpenParen all r → Sole (Expression l r) (Closes 3 floor) v b → After s.Comma b second → Sole (Expression l second) (Closes 3 floor) w more →
    Passes s.CloseParen more rest
shift_close {rest = rest} h within after sole comma last =
    subst (λ all. Passes s.CloseParen all rest) (sym (last _ _ (shift_by h within after sole comma) (shift_second h within)).1) h.close_passed

pub shift_made : {l : Language} {o : Op} {all rest r b second more : List Item} {e v w made : Tree} {at floor : ℕ} (h : ShiftBehind l o at all e rest) → floor ≤ length rest →
    After s.OpenParen all r → Sole (Expression l r) (Closes 3 floor) v b → After s.Comma b second → Sole (Expression l second) (Closes 3 floor) w more →
    made ≡ binary o v w at → made ≡ e
shift_made {o = o} {v = v} {w = w} {at = at} h within after sole comma last is =
    let one = (sole _ _ (shift_open h after) (shift_first h within)).0 in
    let two = (last _ _ (shift_by h within after sole comma) (shift_second h within)).0 in
    is ∙ (ap (λ w. binary o v w at) two ∙ (ap (λ v. binary o v h.by at) one ∙ sym h.tree_is))

pub times_count : {l : Language} {place at floor : ℕ} {all first rest : List Item} {times : Count} → Times l place all times rest → Closes 2 floor rest →
    Stands s.Times at all first → Counted l first times rest
times_count {floor = floor} (once is none) closes stands = no_close stands (omega arith) (subst (Closes 2 floor) none closes)
times_count {l = l} {rest = rest} {times = times} (repeated behind stood read) closes stands =
    subst (λ all. Counted l all times rest) (one_front stood stands).rest_is read

pub times_once : {l : Language} {place : ℕ} {all rest : List Item} {times : Count} → Times l place all times rest → (front all ≡ s.Times → ⊥) →
    (count.Fixed 1 place ≡ times) × (all ≡ rest)
times_once (once is none) over = (sym is, sym none)
times_once (repeated behind stands read) over = absurd (over (front_is stands))

pub passes_on : {symbol : Symbol} {all other rest : List Item} → all ≡ other → Passes symbol other rest → Passes symbol all rest
passes_on {symbol = symbol} {rest = rest} e passed = subst (λ all. Passes symbol all rest) (sym e) passed

pub any_floor : {tight floor : ℕ} {rest : List Item} → Closes tight floor rest → Closes tight 0 rest
any_floor closes = record { looser = closes.looser; within = omega arith }

pub pair_is : {v w : Tree} {t u : Count} → v ≡ w → t ≡ u → ◌≡◌ {A = Tree × Count} (v, t) (w, u)
pair_is a b = λ i. (a i, b i)

-- what is handed on is the fault of the call, where there is no rest
pub made_on : {X T : Type 0} (view : X → T) (tree : T) (f : Fault) (r : Result X Fault) → IsErrAnd r (λ g. g ≡ f) → IsWant f → IsMade view tree r
made_on view tree f (Ok x) h want = absurd h
made_on view tree f (Err g) h want = subst IsWant (sym h) want
