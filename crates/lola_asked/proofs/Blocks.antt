-- The words of a block are those of its cycles, and of a check in them.
use Rattle.std.proofs.Common.{◌≡◌, ℕ, zero, suc, ◌+◌, ◌*◌, ◌^◌, ◌<◌, Bool, true, false, List, [], ◌∷◌, ◌++◌, length, map, replicate, get_or, Option, refl, sym, ap, ap₂, ◌∙◌, subst, append_assoc, inl, inr, arith}
use Rattle.std.specs.List.{AllByRecursion}
use Rattle.std.proofs.Math.ListN.{get_or-map}
use Rattle.std.proofs.lemmas.Bool.{ltb-true}
use Rattle.std.proofs.lemmas.List.{length-map, map-append}
use Rattle.lola_bits.proofs.All.{all_append}
use Rattle.lola_alg.specs.Algebra.{Answers}
use Rattle.lola_alg.specs.Means.{AreKnown, number_at}
use Rattle.lola_flat.specs.declared.design.SigKind.{SigKind}
use Rattle.lola_flat.specs.declared.design.SigKind.TheVariants.{Input, Pad, Wire, Register}
use Rattle.lola_flat.specs.Tree.{ExprTree, SignalTree, FlatTree}
use Rattle.lola_flat.specs.Value.{Env, env, mapped}
use Rattle.lola_flat.specs.Signals.{IsSignal, IsClock, widths_of}
use Rattle.lola_flat.specs.Formed.{IsFormed}
use Rattle.lola_flat.specs.Cycle.{IsValueOf, IsCycle, next_elements, IsNextOf, IsNext}
use Rattle.lola_eval.specs.Means.{IsWideAs, IsGivenBits, AreGivenBits, AreSignalBits, EnvKnown, numbers, MeansCycle, MeansState}
use Rattle.lola_cases.proofs.Clocks.{clock_or_not, clock_is_input, none_of_clock, all_of_input}
use Rattle.lola_lanes.specs.Lanes.{lane, case_of, assigned, lane_meaning}
use Rattle.lola_checks.specs.Tree.{CheckTree}
use Rattle.lola_checks.specs.Holds.{violated}
use Rattle.lola_asked.specs.declared.bits.CaseBit.{CaseBit}
use Rattle.lola_asked.specs.declared.block.BlockWords.{BlockWords}
use Rattle.lola_asked.specs.Setting.{row_count, row_widths, behind_count, behind_widths, joined_tables, widths_with}
use Rattle.lola_asked.specs.CaseBits.{number_in_case}
use Rattle.lola_asked.specs.Words.{AreRowWords, AreTableWords, numbers_in, further_in, AreTables, IsInCase, AreBlockWords, IsViolatedIn, IsViolatedWord}
use Rattle.lola_asked.proofs.Each.{row_known, table_known, row_long, table_long, row_numbers, table_numbers}
use Rattle.lola_asked.proofs.Suited.{same_at_each, no_images}

module _ (F : FlatTree) (E : Env (List CaseBit)) (further : List (List (List CaseBit))) (suits : AreTables F E further) (block : ℕ) (given : List (List (List ℕ))) (outside : List (List ℕ)) (given_are : AreTableWords block E.signals given)
    (outside_are : AreRowWords block E.outside outside) where
  -- they suit the design as the bits do
  row_same : (n : ℕ) → map length (get_or given n []) ≡ map length (get_or E.signals n [])
  row_same n = sym (get_or-map (map length) given n []) ∙ (ap (λ (l : List (List ℕ)). get_or l n []) (table_long block E.signals given given_are) ∙ get_or-map (map length) E.signals n [])

  bits_same : (n : ℕ) → length (get_or outside n []) ≡ length (get_or E.outside n [])
  bits_same n = sym (get_or-map length outside n []) ∙ (ap (λ (l : List ℕ). get_or l n 0) (row_long block E.outside outside outside_are) ∙ get_or-map length E.outside n [])

  given_at : (n : ℕ) (s : SignalTree) (kind : SigKind) → IsGivenBits F s kind (get_or E.signals n []) (get_or E.outside n []) → IsGivenBits F s kind (get_or given n []) (get_or outside n [])
  given_at n s Input is = λ other. row_same n ∙ is other
  given_at n s Register is = row_same n ∙ is
  given_at n s Pad is = bits_same n ∙ is
  given_at n s Wire is = tt

  pub words_given : AreGivenBits F (env given outside)
  words_given = record {
    long = sym (length-map given (map length)) ∙ (ap length (table_long block E.signals given given_are) ∙ (length-map E.signals (map length) ∙ suits.given.long));
    each = λ n s is. given_at n s s.kind (suits.given.each n s is);
  }

  pub words_known : EnvKnown lane_meaning tt (env given outside)
  words_known = record { signals = table_known block E.signals given given_are; outside = row_known block E.outside outside outside_are }

  -- what signals mean, and the state behind them
  module _ (formed : IsFormed F) (table behind : List (List (List ℕ))) (means : MeansCycle lane_meaning F (env given outside) tt tt table) (state : MeansState lane_meaning F table tt tt behind) where
    -- the clock has no elements
    clock_value : (kind : SigKind) (N : Env ℕ) (equation : Option ExprTree) (old ns : List ℕ) → kind ≡ Input → old ≡ [] → IsValueOf F N kind equation old ns → ns ≡ []
    clock_value Input N equation old ns input none v = v ∙ none
    clock_value Register N equation old ns input none v = v ∙ none
    clock_value Pad N equation old ns input none v = absurd (cc)
    clock_value Wire N equation old ns input none v = absurd (cc)

    anywhere : ℕ → Bool
    anywhere n = false

    clock_row : (n : ℕ) (s : SignalTree) → IsSignal F n s → IsClock F s → s.kind ≡ Input → get_or table n [] ≡ []
    clock_row n s is clock kind =
        let number = number_at lane_meaning tt anywhere in
        let none : get_or given n [] ≡ [] = no_images length (get_or given n []) (row_same n ∙ ap (map length) (suits.clock n s is clock)) in
        let old : get_or (map (map number) given) n [] ≡ [] = get_or-map (map number) given n [] ∙ ap (map number) none in
        no_images number (get_or table n [])
        (sym (get_or-map (map number) table n [])
        ∙ clock_value s.kind (env (map (map number) table) (map number outside)) s.equation (get_or (map (map number) given) n []) (get_or (map (map number) table) n []) kind old ((means.means anywhere).each n s is))

    other_count : (s : SignalTree) → (IsClock F s → ⊥) → (kind : SigKind) → s.kind ≡ kind → s.count ≡ row_count F s kind
    other_count s other Input kind = sym (all_of_input F s kind other)
    other_count s other Pad kind = refl
    other_count s other Wire kind = refl
    other_count s other Register kind = refl

    row_wide : (n : ℕ) (s : SignalTree) → IsSignal F n s → map length (get_or table n []) ≡ row_widths F s
    row_wide n s is = elim (clock_or_not F s) [
      | inl clock ↦
          let kind : s.kind ≡ Input = clock_is_input F formed n s is clock in
          ap (map length) (clock_row n s is clock kind) ∙ sym (ap₂ (λ (k : ℕ) (w : ℕ). replicate k w) (ap (row_count F s) kind ∙ none_of_clock F s kind clock) refl)
      | inr other ↦ means.wide.each n s is other ∙ ap (λ (k : ℕ). replicate k s.width) (other_count s other s.kind refl)
    ]

    table_wide : map (map length) table ≡ map (row_widths F) F.signals
    table_wide =
        same_at_each (row_widths F) [] (map (map length) table) F.signals (length-map table (map length) ∙ means.wide.long) (λ n s is. get_or-map (map length) table n [] ∙ row_wide n s is)

    nothing_there : (n : ℕ) → get_or (map (map (number_at lane_meaning tt anywhere)) behind) n [] ≡ [] → map length (get_or behind n []) ≡ []
    nothing_there n none =
        ap (map length) (no_images (number_at lane_meaning tt anywhere) (get_or behind n []) (sym (get_or-map (map (number_at lane_meaning tt anywhere)) behind n []) ∙ none))

    behind_at : (n : ℕ) (s : SignalTree) → IsSignal F n s → (kind : SigKind) → s.kind ≡ kind → (next : List ℕ) → IsNextOf kind next (get_or (map (map (number_at lane_meaning tt anywhere)) behind) n []) →
        map length (get_or behind n []) ≡ replicate (behind_count s kind) s.width
    behind_at n s is Register kind next v = state.wide n s is kind
    behind_at n s is Input kind next v = nothing_there n v
    behind_at n s is Pad kind next v = nothing_there n v
    behind_at n s is Wire kind next v = nothing_there n v

    behind_wide : map (map length) behind ≡ map behind_widths F.signals
    behind_wide =
        let number = number_at lane_meaning tt anywhere in
        let next = state.means anywhere in
        same_at_each behind_widths [] (map (map length) behind) F.signals (length-map behind (map length) ∙ (sym (length-map behind (map number)) ∙ next.long))
        (λ n s is. get_or-map (map length) behind n [] ∙ behind_at n s is s.kind refl (next_elements (widths_of F) (env (map (map number) table) []) s.place s.equation (get_or (map (map number) table) n [])) (next.each n s is))

    -- images of the joined tables
    joined_images : {Y : Type 0} (f : List ℕ → Y) (more : List (List (List ℕ))) → map (map f) (table ++ (behind ++ more)) ≡ joined_tables (map (map f) table) (map (map f) behind) (map (map f) more)
    joined_images {Y = Y} f more = map-append (map f) table (behind ++ more) ∙ ap (λ (l : List (List Y)). map (map f) table ++ l) (map-append (map f) behind more)

    -- all words one behind another
    module _ (more : List (List (List ℕ))) (more_are : AreTableWords block further more) where
      abbrev whole : Env (List ℕ)
      whole = env (table ++ (behind ++ more)) outside

      whole_known : EnvKnown lane_meaning tt whole
      whole_known = record {
        signals = all_append (AllByRecursion (AreKnown lane_meaning tt)) table (behind ++ more) means.known
            (all_append (AllByRecursion (AreKnown lane_meaning tt)) behind more state.known (table_known block further more more_are));
        outside = row_known block E.outside outside outside_are;
      }

      whole_wide : mapped length whole ≡ widths_with F (map (map length) further)
      whole_wide =
          ap₂ env (joined_images length more ∙ ap₂ (λ (x y : List (List ℕ)). x ++ y) table_wide (ap₂ (λ (x y : List (List ℕ)). x ++ y) behind_wide (table_long block further more more_are)))
          (row_long block E.outside outside outside_are ∙ suits.outside)

      whole_case : ((n : ℕ) → n < 64 → case_of (assigned n) ≡ n) → (n : ℕ) → n < 64 → IsInCase F E further (64 * block + n) (numbers lane_meaning tt (assigned n) whole)
      whole_case at n inside N after cycle next =
          let number = number_at lane_meaning tt (assigned n) in
          let c = 64 * block + n in
          let one = suits.one c in
          let here : List (List ℕ) = map (map number) table in
          let then : List (List ℕ) = map (map number) behind in
          let given_same : map (map number) given ≡ map (map (number_in_case c)) E.signals = table_numbers block n inside (at n inside) E.signals given given_are in
          let outside_same : map number outside ≡ map (number_in_case c) E.outside = row_numbers block n inside (at n inside) E.outside outside outside_are in
          let cycle_here : IsCycle F (numbers_in E c).signals (numbers_in E c).outside here =
          subst (λ (o : List ℕ). IsCycle F (numbers_in E c).signals o here) outside_same (subst (λ (g : List (List ℕ)). IsCycle F g (map number outside) here) given_same (means.means (assigned n))) in
          let same : here ≡ N = one.only here cycle_here ∙ sym (one.only N cycle) in
          let same_then : then ≡ after =
          one.only_next then (subst (λ (M : List (List ℕ)). IsNext F M then) (one.only here cycle_here) (state.means (assigned n)))
          ∙ sym (one.only_next after (subst (λ (M : List (List ℕ)). IsNext F M after) (one.only N cycle) next)) in
          ap₂ env (joined_images number more ∙ ap₂ (λ (x y : List (List ℕ)). x ++ y) same (ap₂ (λ (x y : List (List ℕ)). x ++ y) same_then (table_numbers block n inside (at n inside) further more more_are))) outside_same

      pub all_words : ((n : ℕ) → n < 64 → case_of (assigned n) ≡ n) → (made : BlockWords) → made.signals.items ≡ (table ++ behind) ++ more → made.outside.items ≡ outside → AreBlockWords F E further block made
      all_words at made signals_is outside_is =
          let is : whole ≡ env made.signals.items made.outside.items = ap₂ env (sym (signals_is ∙ append_assoc table behind more)) (sym outside_is) in
          record {
            known = subst (EnvKnown lane_meaning tt) is whole_known;
            widths = subst (λ (e : Env (List ℕ)). mapped length e ≡ widths_with F (map (map length) further)) is whole_wide;
            each = λ n inside. subst (λ (e : Env (List ℕ)). IsInCase F E further (64 * block + n) (numbers lane_meaning tt (assigned n) e)) is (whole_case at n inside);
          }

-- the bit of a check is its word
pub is_violated_word : (F : FlatTree) (E : Env (List CaseBit)) (further : List (List (List CaseBit))) (k : CheckTree) (block w : ℕ) (made : BlockWords) → ((n : ℕ) → n < 64 → case_of (assigned n) ≡ n) → AreBlockWords F E further block made →
    Answers lane_meaning tt (tt, w) (λ v. violated (mapped length (env made.signals.items made.outside.items)) (numbers lane_meaning tt v (env made.signals.items made.outside.items)) k) → IsViolatedWord F E further k block w
is_violated_word F E further k block w made at words answers = record {
  below = ltb-true w (2 ^ 64) answers.known;
  each = λ n inside N after cycle next.
      sym (ap (λ (m : ℕ). lane m w) (sym (at n inside)) ∙ (answers.means (assigned n) ∙ ap₂ (λ (W : Env ℕ) (M : Env ℕ). violated W M k) words.widths (words.each n inside N after cycle next)));
}
