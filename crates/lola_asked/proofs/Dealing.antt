-- Vectors dealt out signal by signal, name by name.
use Rattle.std.proofs.Common.{◌≡◌, ℕ, zero, suc, ◌+◌, ◌<◌, ◌≤◌, List, [], ◌∷◌, ◌++◌, length, map, take, drop, get_or, refl, sym, ap, ◌∙◌, subst, append_assoc, append-nil, arith}
use Rattle.lola_bits.proofs.Places.{drop_item}
use Rattle.lola_flat.specs.declared.design.Signal.{Signal}
use Rattle.lola_flat.specs.Tree.{SignalTree, signal_tree, FlatTree}
use Rattle.lola_cases.specs.Free.{free_count}
use Rattle.lola_asked.specs.declared.bits.CaseBit.{CaseBit}
use Rattle.lola_asked.specs.declared.setting.Further.{Further}
use Rattle.lola_asked.specs.Setting.{shared}
use Rattle.lola_asked.specs.Tables.{row_in, outside_part, dealt, dealt_outside}
use Rattle.lola_asked.proofs.Vectors.{moved}

-- as many as are asked for, or all
pub all_front : {X : Type 0} (n : ℕ) (xs : List X) → length xs ≤ n → take (length xs) xs ≡ take n xs
all_front n [] few = none n
  where
    none : {X : Type 0} (n : ℕ) → ◌≡◌ {A = List X} (take 0 []) (take n [])
    none zero = refl
    none (suc n) = refl
all_front zero (x ∷ xs) few = absurd (omega arith)
all_front {X = X} (suc n) (x ∷ xs) few = ap (λ (l : List X). x ∷ l) (all_front n xs (omega arith))

pub none_back : {X : Type 0} (n : ℕ) (xs : List X) → length xs ≤ n → drop (length xs) xs ≡ drop n xs
none_back zero [] few = refl
none_back (suc n) [] few = refl
none_back zero (x ∷ xs) few = absurd (omega arith)
none_back (suc n) (x ∷ xs) few = none_back n xs (omega arith)

pub dealt_more : (F : FlatTree) (signals : List Signal) (at : ℕ) (s : Signal) (rest share later : List (List CaseBit)) (before now all : List (List (List CaseBit))) (row : List (List CaseBit)) (count : ℕ) → at < length signals →
    s ≡ get_or signals at s → count ≡ free_count F (signal_tree s) → share ≡ take count rest → later ≡ drop count rest → row ≡ row_in s.kind share → now ≡ before ++ row ∷ [] → before ++ dealt F (map signal_tree (drop at signals)) rest ≡ all →
    now ++ dealt F (map signal_tree (drop (at + 1) signals)) later ≡ all
dealt_more F signals at s rest share later before now all row count within is counted front back row_is pushed so =
    let opened : before ++ dealt F (signal_tree s ∷ map signal_tree (drop (at + 1) signals)) rest ≡ all =
    subst (λ (l : List Signal). before ++ dealt F (map signal_tree l) rest ≡ all) (drop_item signals at s within is) so in
    let row_too : row ≡ row_in s.kind (take (free_count F (signal_tree s)) rest) = row_is ∙ ap (row_in s.kind) (front ∙ ap (λ (n : ℕ). take n rest) counted) in
    let later_too : later ≡ drop (free_count F (signal_tree s)) rest = back ∙ ap (λ (n : ℕ). drop n rest) counted in
    moved before now row (dealt F (map signal_tree (drop (at + 1) signals)) later) all pushed
    (ap (λ (r : List (List CaseBit)). before ++ r ∷ dealt F (map signal_tree (drop (at + 1) signals)) later) row_too
    ∙ (ap (λ (l : List (List CaseBit)). before ++ row_in s.kind (take (free_count F (signal_tree s)) rest) ∷ dealt F (map signal_tree (drop (at + 1) signals)) l) later_too ∙ opened))

pub dealt_done : (F : FlatTree) (left : List SignalTree) (rest : List (List CaseBit)) (made all : List (List (List CaseBit))) → left ≡ [] → made ++ dealt F left rest ≡ all → made ≡ all
dealt_done F left rest made all none so = sym (append-nil made) ∙ (ap (λ (l : List SignalTree). made ++ dealt F l rest) (sym none) ∙ so)

pub outside_more : (F : FlatTree) (signals : List Signal) (at : ℕ) (s : Signal) (rest share later : List (List CaseBit)) (before now all : List (List CaseBit)) (bits : List CaseBit) (count : ℕ) → at < length signals →
    s ≡ get_or signals at s → count ≡ free_count F (signal_tree s) → share ≡ take count rest → later ≡ drop count rest → bits ≡ outside_part [] s.kind share → now ≡ before ++ bits ∷ [] →
    before ++ dealt_outside [] F (map signal_tree (drop at signals)) rest ≡ all → now ++ dealt_outside [] F (map signal_tree (drop (at + 1) signals)) later ≡ all
outside_more F signals at s rest share later before now all bits count within is counted front back bits_are pushed so =
    let opened : before ++ dealt_outside [] F (signal_tree s ∷ map signal_tree (drop (at + 1) signals)) rest ≡ all =
    subst (λ (l : List Signal). before ++ dealt_outside [] F (map signal_tree l) rest ≡ all) (drop_item signals at s within is) so in
    let bits_too : bits ≡ outside_part [] s.kind (take (free_count F (signal_tree s)) rest) = bits_are ∙ ap (outside_part [] s.kind) (front ∙ ap (λ (n : ℕ). take n rest) counted) in
    let later_too : later ≡ drop (free_count F (signal_tree s)) rest = back ∙ ap (λ (n : ℕ). drop n rest) counted in
    moved before now bits (dealt_outside [] F (map signal_tree (drop (at + 1) signals)) later) all pushed
    (ap (λ (r : List CaseBit). before ++ r ∷ dealt_outside [] F (map signal_tree (drop (at + 1) signals)) later) bits_too
    ∙ (ap (λ (l : List (List CaseBit)). before ++ outside_part [] s.kind (take (free_count F (signal_tree s)) rest) ∷ dealt_outside [] F (map signal_tree (drop (at + 1) signals)) l) later_too ∙ opened))

pub outside_done : (F : FlatTree) (left : List SignalTree) (rest made all : List (List CaseBit)) → left ≡ [] → made ++ dealt_outside [] F left rest ≡ all → made ≡ all
outside_done F left rest made all none so = sym (append-nil made) ∙ (ap (λ (l : List SignalTree). made ++ dealt_outside [] F l rest) (sym none) ∙ so)
