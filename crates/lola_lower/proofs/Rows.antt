-- The literals of inputs and registers have the values that come in.
use Rattle.std.proofs.Common.{◌≡◌, ◌⊎◌, ℕ, zero, suc, ◌+◌, ◌*◌, ◌<◌, ◌≤◌, ◌^◌, Bool, true, false, cond, List, [], ◌∷◌, ◌++◌, length, map, flat_map, get_or, Option, Some, None, inl, inr, refl, sym, ◌∙◌, ap, ap₂, subst, arith, append_assoc, append-nil}
use Rattle.std.specs.Prelude.{slice_get, reverse}
use Rattle.std.specs.List.{AllByRecursion}
use Rattle.std.proofs.lemmas.Bool.{cases_Bool}
use Rattle.lola_bits.specs.BitLists.{number_of}
use Rattle.lola_bits.proofs.Options.{some_same}
use Rattle.lola_net.specs.Literals.{at_literal}
use Rattle.lola_flat.specs.Tree.{SignalTree, FlatTree}
use Rattle.lola_flat.specs.Cycle.{HasValues}
use Rattle.lola_lower.specs.Sources.{has_input, has_latch, input_nodes, latch_nodes, bits_at, elements_at, given_row, given_from}
use Rattle.lola_lower.specs.Cycles.{bits_down, element_bits, bits_of}
use Rattle.lola_lower.proofs.Bits.{down_long, number_down, literals_are}
use Rattle.lola_lower.proofs.Given.{input_long, latch_long}

-- the numbers of vectors where nodes have these values
abbrev pub number_by : List Bool → List ℕ → ℕ
number_by V bits = number_of (map (at_literal V) bits)

abbrev pub numbers_by : List Bool → List (List ℕ) → List ℕ
numbers_by V vectors = map (number_by V) vectors

length_both : {X : Type 0} (xs ys : List X) → length (xs ++ ys) ≡ length xs + length ys
length_both [] ys = omega arith
length_both (x ∷ xs) ys = let h = length_both xs ys in omega arith

pub elements_long : (w : ℕ) (ns : List ℕ) → length (element_bits w ns) ≡ length ns * w
elements_long w [] = omega arith
elements_long w (n ∷ ns) =
    let h = elements_long w ns in
    let a = length_both (bits_down w n) (element_bits w ns) in
    let b = down_long w n in
    let t = times_more (length ns) w in
    omega arith
  where
    times_more : (k w : ℕ) → suc k * w ≡ w + k * w
    times_more k w = omega arith

pub element_numbers : (w : ℕ) (ns : List ℕ) → AllByRecursion (λ n. n < 2 ^ w) ns → (front behind : List Bool) → numbers_by (front ++ (element_bits w ns ++ behind)) (elements_at (suc (length front)) w (length ns)) ≡ ns
element_numbers w [] below front behind = refl
element_numbers w (n ∷ ns) below front behind = ap₂ (λ m ms. m ∷ ms) here (more (element_numbers w ns below.1 (front ++ bits_down w n) behind))
  where
    V : List Bool
    V = front ++ ((bits_down w n ++ element_bits w ns) ++ behind)

    split : front ++ (bits_down w n ++ (element_bits w ns ++ behind)) ≡ V
    split = ap (λ l. front ++ l) (sym (append_assoc (bits_down w n) (element_bits w ns) behind))

    here : number_by V (bits_at (suc (length front)) w) ≡ n
    here =
        ap (λ (W : List Bool). number_by W (bits_at (suc (length front)) w)) (sym split)
        ∙ ap (λ k. number_by (front ++ (bits_down w n ++ (element_bits w ns ++ behind))) (bits_at (suc (length front)) k)) (sym (down_long w n))
        ∙ ap number_of (literals_are front (bits_down w n) (element_bits w ns ++ behind)) ∙ number_down w n below.0

    more : numbers_by ((front ++ bits_down w n) ++ (element_bits w ns ++ behind)) (elements_at (suc (length (front ++ bits_down w n))) w (length ns)) ≡ ns → numbers_by V (elements_at (suc (length front) + w) w (length ns)) ≡ ns
    more h =
        let long : suc (length front) + w ≡ suc (length (front ++ bits_down w n)) = (let a = length_both front (bits_down w n) in let b = down_long w n in omega arith) in
        ap₂ (λ (W : List Bool) k. numbers_by W (elements_at k w (length ns))) (sym split ∙ sym (append_assoc front (bits_down w n) (element_bits w ns ++ behind))) long
        ∙ h

module _ (F : FlatTree) (V : List Bool) where
  -- the rows of signals, where inputs and registers have their elements
  pub given_numbers : (signals : List SignalTree) (table : List (List ℕ)) (fi bi fl bl : List Bool) → V ≡ fi ++ (bits_of (has_input F) signals table ++ bi) → V ≡ fl ++ (bits_of has_latch signals table ++ bl) → length table ≡ length signals →
      ((k : ℕ) (s : SignalTree) → slice_get signals k ≡ Some s → (has_input F s ≡ true) ⊎ (has_latch s ≡ true) → HasValues s (get_or table k [])) →
      (k : ℕ) (s : SignalTree) → slice_get signals k ≡ Some s → (has_input F s ≡ true) ⊎ (has_latch s ≡ true) → numbers_by V (get_or (given_from F (suc (length fi)) (suc (length fl)) signals) k []) ≡ get_or table k []
  given_numbers [] table fi bi fl bl vi vl long have k s is kind = absurd (let e : None ≡ Some s = is in cc)
  given_numbers (x ∷ signals) [] fi bi fl bl vi vl long have k s is kind = absurd (omega arith)
  given_numbers (x ∷ signals) (ns ∷ table) fi bi fl bl vi vl long have zero s is kind = by (has_input F x) refl (has_latch x) refl
    where
      same : x ≡ s
      same = some_same x s is

      values : HasValues x ns
      values = have 0 x refl (subst (λ (y : SignalTree). (has_input F y ≡ true) ⊎ (has_latch y ≡ true)) (sym same) kind)

      inputs : has_input F x ≡ true → numbers_by V (elements_at (suc (length fi)) x.width x.count) ≡ ns
      inputs e =
          ap₂ (λ (W : List Bool) c. numbers_by W (elements_at (suc (length fi)) x.width c))
          (vi ∙ ap (λ t. fi ++ ((cond t (element_bits x.width ns) [] ++ bits_of (has_input F) signals table) ++ bi)) e ∙ ap (λ l. fi ++ l) (append_assoc (element_bits x.width ns) (bits_of (has_input F) signals table) bi)) (sym values.count)
          ∙ element_numbers x.width ns values.below fi (bits_of (has_input F) signals table ++ bi)

      latches : has_latch x ≡ true → numbers_by V (elements_at (suc (length fl)) x.width x.count) ≡ ns
      latches e =
          ap₂ (λ (W : List Bool) c. numbers_by W (elements_at (suc (length fl)) x.width c))
          (vl ∙ ap (λ t. fl ++ ((cond t (element_bits x.width ns) [] ++ bits_of has_latch signals table) ++ bl)) e ∙ ap (λ l. fl ++ l) (append_assoc (element_bits x.width ns) (bits_of has_latch signals table) bl)) (sym values.count)
          ∙ element_numbers x.width ns values.below fl (bits_of has_latch signals table ++ bl)

      by : (t : Bool) → has_input F x ≡ t → (u : Bool) → has_latch x ≡ u → numbers_by V (cond (has_input F x) (elements_at (suc (length fi)) x.width x.count) (cond (has_latch x) (elements_at (suc (length fl)) x.width x.count) [])) ≡ ns
      by true e u f = ap (λ t. numbers_by V (cond t (elements_at (suc (length fi)) x.width x.count) (cond (has_latch x) (elements_at (suc (length fl)) x.width x.count) []))) e ∙ inputs e
      by false e true f = ap₂ (λ t u. numbers_by V (cond t (elements_at (suc (length fi)) x.width x.count) (cond u (elements_at (suc (length fl)) x.width x.count) []))) e f ∙ latches f
      by false e false f = absurd (elim kind [
        | inl k ↦ (let g : false ≡ true = sym e ∙ ap (has_input F) same ∙ k in cc)
        | inr k ↦ (let g : false ≡ true = sym f ∙ ap (λ (y : SignalTree). has_latch y) same ∙ k in cc)
      ])
  given_numbers (x ∷ signals) (ns ∷ table) fi bi fl bl vi vl long have (suc k) s is kind =
      ap₂ (λ i l. numbers_by V (get_or (given_from F i l signals) k [])) (behind fi (cond (has_input F x) (element_bits x.width ns) []) (length (input_nodes F x)) (inputs_long (has_input F x) refl))
      (behind fl (cond (has_latch x) (element_bits x.width ns) []) (length (latch_nodes x)) (latches_long (has_latch x) refl))
      ∙ given_numbers signals table (fi ++ cond (has_input F x) (element_bits x.width ns) []) bi (fl ++ cond (has_latch x) (element_bits x.width ns) []) bl
      (vi ∙ moved fi (cond (has_input F x) (element_bits x.width ns) []) (bits_of (has_input F) signals table) bi)
      (vl ∙ moved fl (cond (has_latch x) (element_bits x.width ns) []) (bits_of has_latch signals table) bl)
      (omega arith) (λ j. have (suc j)) k s is kind
    where
      moved : (a b c e : List Bool) → a ++ ((b ++ c) ++ e) ≡ (a ++ b) ++ (c ++ e)
      moved a b c e = ap (λ l. a ++ l) (append_assoc b c e) ∙ sym (append_assoc a b (c ++ e))

      behind : (a b : List Bool) (n : ℕ) → length b ≡ n → suc (length a) + n ≡ suc (length (a ++ b))
      behind a b n e = let h = length_both a b in omega arith

      inputs_long : (t : Bool) → has_input F x ≡ t → length (cond (has_input F x) (element_bits x.width ns) []) ≡ length (input_nodes F x)
      inputs_long true e =
          ap (λ t. length (cond t (element_bits x.width ns) [])) e ∙ elements_long x.width ns ∙ ap (λ c. c * x.width) (have 0 x refl (inl e)).count
          ∙ sym (input_long F x ∙ ap (λ t. cond t (x.count * x.width) 0) e)
      inputs_long false e = ap (λ t. length (cond t (element_bits x.width ns) [])) e ∙ sym (input_long F x ∙ ap (λ t. cond t (x.count * x.width) 0) e)

      latches_long : (t : Bool) → has_latch x ≡ t → length (cond (has_latch x) (element_bits x.width ns) []) ≡ length (latch_nodes x)
      latches_long true e =
          ap (λ t. length (cond t (element_bits x.width ns) [])) e ∙ elements_long x.width ns ∙ ap (λ c. c * x.width) (have 0 x refl (inr e)).count
          ∙ sym (latch_long x ∙ ap (λ t. cond t (x.count * x.width) 0) e)
      latches_long false e = ap (λ t. length (cond t (element_bits x.width ns) [])) e ∙ sym (latch_long x ∙ ap (λ t. cond t (x.count * x.width) 0) e)
