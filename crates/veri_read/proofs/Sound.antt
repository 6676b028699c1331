-- What is made uses only what is there.
use Rattle.std.proofs.Common.{◌≡◌, ◌≤◌, ℕ, zero, suc, ◌+◌, ◌*◌, ◌/◌, Bool, true, false, cond, List, [], ◌∷◌, ◌++◌, length, nat_eq, nat_lt, bytes_eq, refl, sym, ap, subst, ◌∙◌, Some, arith}
use Rattle.std.specs.Prelude.{◌&&◌}
use Rattle.std.specs.List.{AllByRecursion}
use Rattle.std.proofs.lemmas.Bool.Decides.{nat_tests}
use Rattle.lola_bits.proofs.Places.{length_more}
use Rattle.lola_alg.specs.Algebra.{Stays}
use Rattle.lola_net.specs.declared.node.Node.{Node}
use Rattle.lola_net.specs.Equations.{uses_smaller, ordered_from, is_ordered}
use Rattle.lola_gate.specs.Gates.{gates_calls, gates_meaning, knows_literal}
use Rattle.veri_read.specs.Tables.{Names, find, put}
use Rattle.veri_read.specs.Made.{Made, literal_or}
use Rattle.veri_read.specs.Making.{IsSound}
use Rattle.veri_read.proofs.Ascii.{both_pass}

-- one more node
ordered_behind : (n : ℕ) (d : List Node) (x : Node) → ordered_from n d ≡ true → uses_smaller (n + length d) x ≡ true → ordered_from n (d ++ x ∷ []) ≡ true
ordered_behind n [] x order smaller = let e : n + 0 ≡ n = omega arith in ap (λ (b : Bool). b && true) (ap (λ k. uses_smaller k x) (sym e) ∙ smaller)
ordered_behind n (y ∷ d) x order smaller =
    let parts = both_pass (uses_smaller n y) (ordered_from (suc n) d) order in
    let e : n + suc (length d) ≡ suc n + length d = omega arith in
    ap (λ (b : Bool). b && ordered_from (suc n) (d ++ x ∷ [])) parts.0 ∙ ordered_behind (suc n) d x parts.1 (ap (λ k. uses_smaller k x) (sym e) ∙ smaller)

pub ordered_more : (d : List Node) (x : Node) → is_ordered d ≡ true → uses_smaller (suc (length d)) x ≡ true → is_ordered (d ++ x ∷ []) ≡ true
ordered_more d x order smaller = let e : suc (length d) ≡ 1 + length d = omega arith in ordered_behind 1 d x order (ap (λ k. uses_smaller k x) (sym e) ∙ smaller)

-- literals of names
abbrev pub AreWithin : ℕ → Names ℕ → Type 0
AreWithin n names = AllByRecursion (λ e. e.1 / 2 ≤ n) names

pub within_more : (n m : ℕ) (names : Names ℕ) → n ≤ m → AreWithin n names → AreWithin m names
within_more n m [] few all = tt
within_more n m (e ∷ names) few all = let h = all.0 in (omega arith, within_more n m names few all.1)

pub within_found : (n : ℕ) (names : Names ℕ) (name : List ℕ) → AreWithin n names → literal_or (find names name) / 2 ≤ n
within_found n [] name all = omega arith
within_found n (e ∷ names) name all = by (bytes_eq name e.0) all.0 (within_found n names name all.1)
  where
    by : (b : Bool) → e.1 / 2 ≤ n → literal_or (find names name) / 2 ≤ n → literal_or (cond b (Some e.1) (find names name)) / 2 ≤ n
    by true h more = h
    by false h more = more

pub within_put : (n : ℕ) (names : Names ℕ) (name : List ℕ) (l : ℕ) → AreWithin n names → l / 2 ≤ n → AreWithin n (put names name l)
within_put n [] name l all few = (few, tt)
within_put n (e ∷ names) name l all few = by (bytes_eq name e.0) all few (within_put n names name l all.1 few)
  where
    by : (b : Bool) → AreWithin n (e ∷ names) → l / 2 ≤ n → AreWithin n (put names name l) → AreWithin n (cond b ((e.0, l) ∷ names) (e ∷ put names name l))
    by true all few more = (few, all.1)
    by false all few more = (all.0, more)

-- literals of nodes that are there are known, and the other way round
pub knows_within : (d : List Node) (l : ℕ) → is_ordered d ≡ true → l / 2 ≤ length d → knows_literal d l ≡ true
knows_within d l order few =
    let small : nat_lt (l / 2) (suc (length d)) ≡ true = grind (arith, nat_tests) in
    ap (λ (b : Bool). cond (nat_eq (l / 2) 0) true (b && nat_lt (l / 2) (suc (length d)))) order ∙ ap (λ (b : Bool). cond (nat_eq (l / 2) 0) true b) small ∙ by (nat_eq (l / 2) 0)
  where
    by : (b : Bool) → cond b true true ≡ true
    by true = refl
    by false = refl

pub known_within : (d : List Node) (l : ℕ) → knows_literal d l ≡ true → l / 2 ≤ length d
known_within d l is = grind (arith, nat_tests)

-- a name stands for a literal
pub sound_now : (nodes : List Node) (before now : Names ℕ) (name : List ℕ) (l : ℕ) → IsSound (record { nodes = nodes; literals = before }) → l / 2 ≤ length nodes → now ≡ put before name l → IsSound (record { nodes = nodes; literals = now })
sound_now nodes before now name l sound few is = record {
  ordered = sound.ordered;
  known = subst (λ (names : Names ℕ). AreWithin (length nodes) names) (sym is) (within_put (length nodes) before name l sound.known few);
}

-- a node is put behind the others
pub sound_behind : (before now : List Node) (x : Node) (literals : Names ℕ) → IsSound (record { nodes = before; literals = literals }) → uses_smaller (suc (length before)) x ≡ true → now ≡ before ++ x ∷ [] → IsSound (record { nodes = now; literals = literals })
sound_behind before now x literals sound smaller is =
    let more = length_more before x in
    let long : length now ≡ length (before ++ x ∷ []) = ap length is in
    record {
      ordered = ap is_ordered is ∙ ordered_more before x sound.ordered smaller;
      known = within_more (length before) (length now) literals (omega arith) sound.known;
    }

pub pad_smaller : (n value release : ℕ) → value / 2 ≤ n → release / 2 ≤ n → (nat_lt (value / 2) (suc n) && nat_lt (release / 2) (suc n)) ≡ true
pad_smaller n value release few few' = grind (arith, nat_tests)

-- without nodes there are but the constants
none_made : (a b : ℕ) (made : List Node × ℕ) → a / 2 ≤ 0 → b / 2 ≤ 0 → gates_calls.both [] a b ≡ Some made → made.0 ≡ []
none_made zero zero made few few' is = cc
none_made zero (suc zero) made few few' is = cc
none_made (suc zero) zero made few few' is = cc
none_made (suc zero) (suc zero) made few few' is = cc
none_made zero (suc (suc b)) made few few' is = absurd (omega arith)
none_made (suc zero) (suc (suc b)) made few few' is = absurd (omega arith)
none_made (suc (suc a)) b made few few' is = absurd (omega arith)

-- the `and` of two literals
pub sound_both : (m : Made) (made : List Node × ℕ) (a b : ℕ) → IsSound m → a / 2 ≤ length m.nodes → b / 2 ≤ length m.nodes → gates_calls.both m.nodes a b ≡ Some made → Stays gates_meaning m.nodes made.0 →
    IsSound (record { nodes = made.0; literals = m.literals })
sound_both m made a b sound few few' is stays = by m.nodes sound.ordered sound.known few few' is stays
  where
    by : (d : List Node) → is_ordered d ≡ true → AreWithin (length d) m.literals → a / 2 ≤ length d → b / 2 ≤ length d → gates_calls.both d a b ≡ Some made → Stays gates_meaning d made.0 → IsSound (record { nodes = made.0; literals = m.literals })
    by [] order known few few' is stays =
        let none = none_made a b made few few' is in
        record { ordered = ap is_ordered none; known = subst (λ (d : List Node). AreWithin (length d) m.literals) (sym none) known }
    by (x ∷ d) order known few few' is stays =
        let one = (stays 2 (knows_within (x ∷ d) 2 order (omega arith))).0 in
        let n = length (x ∷ d) in
        let last = known_within made.0 (2 * n) (stays (2 * n) (knows_within (x ∷ d) (2 * n) order (omega arith))).0 in
        let more : n ≤ length made.0 = omega arith in
        record {
          ordered = (both_pass (is_ordered made.0) (nat_lt 1 (suc (length made.0))) one).0;
          known = within_more n (length made.0) m.literals more known;
        }
