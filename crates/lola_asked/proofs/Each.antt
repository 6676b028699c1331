-- Items side by side, and the words of vectors.
use Rattle.std.proofs.Common.{◌≡◌, ℕ, zero, suc, ◌+◌, ◌*◌, ◌<◌, ◌^◌, Bool, true, List, [], ◌∷◌, ◌++◌, length, map, take, drop, get_or, refl, sym, ap, ap₂, ◌∙◌, subst, arith}
use Rattle.std.specs.List.{AllByRecursion}
use Rattle.std.proofs.lemmas.Bool.{lt-ltb}
use Rattle.lola_bits.specs.Lists.{AreEach}
use Rattle.lola_bits.specs.Number.{number}
use Rattle.lola_bits.specs.BitLists.{number_of}
use Rattle.lola_bits.proofs.Places.{take_item}
use Rattle.lola_alg.specs.Means.{AreKnown, number_at}
use Rattle.lola_flat.specs.Value.{Env, env, mapped}
use Rattle.lola_eval.specs.Means.{EnvKnown, numbers}
use Rattle.lola_lanes.specs.Lanes.{lane, case_of, assigned, lane_meaning}
use Rattle.lola_asked.specs.declared.bits.CaseBit.{CaseBit}
use Rattle.lola_asked.specs.CaseBits.{bit_in, number_in_case}
use Rattle.lola_asked.specs.Words.{IsWord, AreWords, AreRowWords, AreTableWords}

-- one more of each
pub each_more : {X Y : Type 0} (P : X → Y → Type 0) (xs : List X) (ys : List Y) (x : X) (y : Y) → AreEach P xs ys → P x y → AreEach P (xs ++ x ∷ []) (ys ++ y ∷ [])
each_more P [] [] x y all one = (one, tt)
each_more P [] (v ∷ ys) x y all one = absurd all
each_more P (u ∷ xs) [] x y all one = absurd all
each_more P (u ∷ xs) (v ∷ ys) x y all one = (all.0, each_more P xs ys x y all.1 one)

-- in a loop
pub each_step : {X Y : Type 0} (P : X → Y → Type 0) (xs : List X) (at : ℕ) (x : X) (before now : List Y) (y : Y) → at < length xs → x ≡ get_or xs at x → now ≡ before ++ y ∷ [] →
    AreEach P (take at xs) before → P x y → AreEach P (take (at + 1) xs) now
each_step {X = X} {Y = Y} P xs at x before now y within is pushed all one =
    subst (λ (l : List X). AreEach P l now) (sym (take_item xs at x within is))
    (subst (λ (l : List Y). AreEach P (take at xs ++ x ∷ []) l) (sym pushed) (each_more P (take at xs) before x y all one))

pub each_start : {X Y : Type 0} (P : X → Y → Type 0) (xs : List X) (none : List Y) → none ≡ [] → AreEach P (take 0 xs) none
each_start {Y = Y} P [] none is = subst (λ (l : List Y). AreEach P [] l) (sym is) tt
each_start {Y = Y} P (x ∷ xs) none is = subst (λ (l : List Y). AreEach P [] l) (sym is) tt

-- words are as long as their vectors
same_long : {X Y : Type 0} (P : X → Y → Type 0) (xs : List X) (ys : List Y) → AreEach P xs ys → length ys ≡ length xs
same_long P [] [] all = refl
same_long P [] (y ∷ ys) all = absurd all
same_long P (x ∷ xs) [] all = absurd all
same_long P (x ∷ xs) (y ∷ ys) all = ap suc (same_long P xs ys all.1)

same_images : {X Y Z : Type 0} (P : X → Y → Type 0) (f : X → Z) (g : Y → Z) → ((x : X) (y : Y) → P x y → g y ≡ f x) → (xs : List X) (ys : List Y) → AreEach P xs ys → map g ys ≡ map f xs
same_images P f g same [] [] all = refl
same_images P f g same [] (y ∷ ys) all = absurd all
same_images P f g same (x ∷ xs) [] all = absurd all
same_images {Z = Z} P f g same (x ∷ xs) (y ∷ ys) all = ap₂ (λ (z : Z) (zs : List Z). z ∷ zs) (same x y all.0) (same_images P f g same xs ys all.1)

-- all words are known
all_known : {X Y : Type 0} (P : X → Y → Type 0) (Q : Y → Type 0) → ((x : X) (y : Y) → P x y → Q y) → (xs : List X) (ys : List Y) → AreEach P xs ys → AllByRecursion Q ys
all_known P Q knows [] [] all = tt
all_known P Q knows [] (y ∷ ys) all = absurd all
all_known P Q knows (x ∷ xs) [] all = absurd all
all_known P Q knows (x ∷ xs) (y ∷ ys) all = (knows x y all.0, all_known P Q knows xs ys all.1)

module _ (block : ℕ) where
  word_known : (b : CaseBit) (w : ℕ) → IsWord block b w → lane_meaning.knows tt w ≡ true
  word_known b w is = lt-ltb w (2 ^ 64) is.0

  words_known : (bits : List CaseBit) (words : List ℕ) → AreWords block bits words → AreKnown lane_meaning tt words
  words_known bits words are = all_known (IsWord block) (λ w. lane_meaning.knows tt w ≡ true) word_known bits words are

  pub row_known : (row : List (List CaseBit)) (words : List (List ℕ)) → AreRowWords block row words → AllByRecursion (AreKnown lane_meaning tt) words
  row_known row words are = all_known (AreWords block) (AreKnown lane_meaning tt) words_known row words are

  pub table_known : (table : List (List (List CaseBit))) (words : List (List (List ℕ))) → AreTableWords block table words → AllByRecursion (AllByRecursion (AreKnown lane_meaning tt)) words
  table_known table words are = all_known (AreRowWords block) (AllByRecursion (AreKnown lane_meaning tt)) row_known table words are

  pub row_long : (row : List (List CaseBit)) (words : List (List ℕ)) → AreRowWords block row words → map length words ≡ map length row
  row_long row words are = same_images (AreWords block) length length (λ bits ws is. same_long (IsWord block) bits ws is) row words are

  pub table_long : (table : List (List (List CaseBit))) (words : List (List (List ℕ))) → AreTableWords block table words → map (map length) words ≡ map (map length) table
  table_long table words are = same_images (AreRowWords block) (map length) (map length) row_long table words are

  -- in a case of the block
  module _ (n : ℕ) (inside : n < 64) (at : case_of (assigned n) ≡ n) where
    words_number : (bits : List CaseBit) (words : List ℕ) → AreWords block bits words → number_at lane_meaning tt (assigned n) words ≡ number_in_case (64 * block + n) bits
    words_number [] [] are = refl
    words_number [] (w ∷ words) are = absurd are
    words_number (b ∷ bits) [] are = absurd are
    words_number (b ∷ bits) (w ∷ words) are =
        ap₂ (λ (x : Bool) (y : ℕ). number x + 2 * y) (ap (λ (k : ℕ). lane k w) at ∙ sym (are.0.1 n inside)) (words_number bits words are.1)

    pub row_numbers : (row : List (List CaseBit)) (words : List (List ℕ)) → AreRowWords block row words → map (number_at lane_meaning tt (assigned n)) words ≡ map (number_in_case (64 * block + n)) row
    row_numbers row words are = same_images (AreWords block) (number_in_case (64 * block + n)) (number_at lane_meaning tt (assigned n)) words_number row words are

    pub table_numbers : (table : List (List (List CaseBit))) (words : List (List (List ℕ))) → AreTableWords block table words →
        map (map (number_at lane_meaning tt (assigned n))) words ≡ map (map (number_in_case (64 * block + n))) table
    table_numbers table words are = same_images (AreRowWords block) (map (number_in_case (64 * block + n))) (map (number_at lane_meaning tt (assigned n))) row_numbers table words are
