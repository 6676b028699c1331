-- The tables of a setting suit the design, and have the setting's numbers in its cases.
use Rattle.std.proofs.Common.{◌≡◌, ℕ, zero, suc, ◌+◌, ◌^◌, ◌<◌, ◌≤◌, List, [], ◌∷◌, ◌++◌, length, map, take, drop, replicate, get_or, Some, refl, sym, ap, ap₂, ◌∙◌, subst, inl, inr, arith}
use Rattle.std.specs.Prelude.{slice_get}
use Rattle.std.specs.List.{AllByRecursion}
use Rattle.std.proofs.Math.ListN.{get_or-map}
use Rattle.std.proofs.lemmas.List.{take-map, drop-map, length-map}
use Rattle.lola_bits.proofs.All.{all_take, all_drop}
use Rattle.lola_bits.proofs.Places.{length_more}
use Rattle.lola_flat.specs.declared.design.SigKind.{SigKind}
use Rattle.lola_flat.specs.declared.design.SigKind.TheVariants.{Input, Pad, Wire, Register}
use Rattle.lola_flat.specs.Numbers.{first_numbers}
use Rattle.lola_flat.specs.Tree.{SignalTree, FlatTree}
use Rattle.lola_flat.specs.Value.{Env, env, sum_of}
use Rattle.lola_flat.specs.Signals.{IsSignal, IsClock}
use Rattle.lola_flat.specs.Formed.{IsFormed}
use Rattle.lola_eval.specs.Means.{IsGivenBits, AreGivenBits}
use Rattle.lola_eval.specs.OneCycle.{HasOneCycle}
use Rattle.lola_cases.specs.declared.free.FreeElement.{FreeElement}
use Rattle.lola_cases.specs.Free.{free_count, element_of, free_of, free_elements, free_widths}
use Rattle.lola_cases.specs.Cases.{AreWithin, IsCase, elements_in, outside_in, given_from, outside_from, given_of, outside_of, GivesValues}
use Rattle.lola_cases.specs.Counting.{numbers_of}
use Rattle.lola_cases.specs.Bits.{outside_width}
use Rattle.lola_cases.proofs.Clocks.{clock_is_input, none_of_clock, all_of_input, all_of_register, one_of_pad}
use Rattle.lola_asked.specs.declared.bits.CaseBit.{CaseBit}
use Rattle.lola_asked.specs.declared.setting.Setting.{Setting}
use Rattle.lola_asked.specs.Setting.{element_widths, all_widths, IsSetting, open_widths, setting_widths, free_bits, filled, shared, design_numbers, further_numbers, further_widths}
use Rattle.lola_asked.specs.CaseBits.{number_in_case, IsSmall, vectors_of}
use Rattle.lola_asked.specs.Tables.{dealt, dealt_outside}
use Rattle.lola_asked.specs.Words.{numbers_in, further_in, AreTables, AreNumbersOf}
use Rattle.lola_asked.proofs.Vectors.{vectors_wide, vectors_are, vectors_small, numbers_within}
use Rattle.lola_asked.proofs.Dealt.{dealt_map, outside_map, shared_map, dealt_is, outside_is, dealt_all, outside_all, shared_all, both_parts, shared_widths}

-- a list has for each signal what it should
pub same_at_each : {X : Type 0} (f : SignalTree → X) (none : X) (xs : List X) (signals : List SignalTree) → length xs ≡ length signals → ((n : ℕ) (s : SignalTree) → slice_get signals n ≡ Some s → get_or xs n none ≡ f s) → xs ≡ map f signals
same_at_each f none [] [] long each = refl
same_at_each f none [] (s ∷ signals) long each = absurd (omega arith)
same_at_each f none (x ∷ xs) [] long each = absurd (omega arith)
same_at_each {X = X} f none (x ∷ xs) (s ∷ signals) long each =
    ap₂ (λ (y : X) (ys : List X). y ∷ ys) (each 0 s refl) (same_at_each f none xs signals (omega arith) (λ n t is. each (suc n) t is))

-- no images, no items
pub no_images : {X Y : Type 0} (f : X → Y) (xs : List X) → map f xs ≡ [] → xs ≡ []
no_images f [] none = refl
no_images f (x ∷ xs) none = absurd (let e : f x ∷ map f xs ≡ [] = none in cc)

so_many : (n : ℕ) → length (first_numbers n) ≡ n
so_many zero = refl
so_many (suc n) = length_more (first_numbers n) n ∙ ap suc (so_many n)

own_widths : (n w : ℕ) (numbers : List ℕ) → map (λ (e : FreeElement). e.width) (map (element_of n w) numbers) ≡ replicate (length numbers) w
own_widths n w [] = refl
own_widths n w (k ∷ numbers) = ap (λ (l : List ℕ). w ∷ l) (own_widths n w numbers)

dealt_long : {X : Type 0} (F : FlatTree) (signals : List SignalTree) (xs : List X) → length (dealt F signals xs) ≡ length signals
dealt_long F [] xs = refl
dealt_long F (s ∷ signals) xs = ap suc (dealt_long F signals (drop (free_count F s) xs))

outside_long : {X : Type 0} (none : X) (F : FlatTree) (signals : List SignalTree) (xs : List X) → length (dealt_outside none F signals xs) ≡ length signals
outside_long none F [] xs = refl
outside_long none F (s ∷ signals) xs = ap suc (outside_long none F signals (drop (free_count F s) xs))

module _ (F : FlatTree) (s : Setting) (fit : IsSetting F s) where
  abbrev vectors : List (List CaseBit)
  vectors = vectors_of s.given (all_widths F s)

  abbrev pub design : List (List CaseBit)
  design = take (length (free_widths F)) vectors

  abbrev pub behind : List (List CaseBit)
  behind = drop (length (free_widths F)) vectors

  design_wide : map length design ≡ free_widths F
  design_wide =
      sym (take-map length (length (free_widths F)) vectors) ∙ (ap (take (length (free_widths F))) (vectors_wide s.given (all_widths F s) fit) ∙ (both_parts (free_widths F) (element_widths s.further)).0)

  behind_wide : map length behind ≡ element_widths s.further
  behind_wide =
      sym (drop-map length (length (free_widths F)) vectors) ∙ (ap (drop (length (free_widths F))) (vectors_wide s.given (all_widths F s) fit) ∙ (both_parts (free_widths F) (element_widths s.further)).1)

  pub further_wide : map (map length) (shared s.further behind) ≡ further_widths s.further
  further_wide = shared_map length s.further behind ∙ (ap (shared s.further) behind_wide ∙ shared_widths s.further)

  -- in a case
  abbrev numbers_at : ℕ → List ℕ
  numbers_at c = map (number_in_case c) design

  is_case : (c : ℕ) → IsCase F (numbers_at c)
  is_case c = subst (λ (ws : List ℕ). AreWithin ws (numbers_at c)) design_wide (numbers_within c design)

  signals_in : (c : ℕ) → map (map (number_in_case c)) (dealt F F.signals design) ≡ given_of F (numbers_at c)
  signals_in c = dealt_map (number_in_case c) F F.signals design ∙ dealt_is F F.signals (numbers_at c)

  outside_in_case : (c : ℕ) → map (number_in_case c) (dealt_outside [] F F.signals design) ≡ outside_of F (numbers_at c)
  outside_in_case c = outside_map (number_in_case c) [] F F.signals design ∙ outside_is F F.signals (numbers_at c)

  -- the setting's numbers
  module _ (c : ℕ) (inside : c < 2 ^ free_bits F s) where
    these : map (number_in_case c) vectors ≡ filled s.given (numbers_of (setting_widths F s) c)
    these = vectors_are c s.given (all_widths F s) fit inside

    design_are : numbers_at c ≡ design_numbers F s (numbers_of (setting_widths F s) c)
    design_are = sym (take-map (number_in_case c) (length (free_widths F)) vectors) ∙ ap (take (length (free_widths F))) these

    behind_are : map (number_in_case c) behind ≡ drop (length (free_widths F)) (filled s.given (numbers_of (setting_widths F s) c))
    behind_are = sym (drop-map (number_in_case c) (length (free_widths F)) vectors) ∙ ap (drop (length (free_widths F))) these

  tables_number : AreNumbersOf F s (env (dealt F F.signals design) (dealt_outside [] F F.signals design)) (shared s.further behind)
  tables_number = record {
    given = λ c inside. signals_in c ∙ ap (given_of F) (design_are c inside);
    outside = λ c inside. outside_in_case c ∙ ap (outside_of F) (design_are c inside);
    more = λ c inside. shared_map (number_in_case c) s.further behind ∙ ap (shared s.further) (behind_are c inside);
  }

  -- what lola_cases says of values, here of widths
  module _ (gives : GivesValues F (λ (e : FreeElement). e.width)) where
    share_wide : (n : ℕ) (t : SignalTree) → map (λ (e : FreeElement). e.width) (free_of F n t) ≡ replicate (free_count F t) t.width
    share_wide n t = own_widths n t.width (first_numbers (free_count F t)) ∙ ap (λ (k : ℕ). replicate k t.width) (so_many (free_count F t))

    row_wide : (n : ℕ) (t : SignalTree) → IsSignal F n t → map length (get_or (dealt F F.signals design) n []) ≡ elements_in t.kind (replicate (free_count F t) t.width)
    row_wide n t is =
        sym (get_or-map (map length) (dealt F F.signals design) n [])
        ∙ (ap (λ (l : List (List ℕ)). get_or l n []) (dealt_map length F F.signals design ∙ (ap (dealt F F.signals) design_wide ∙ dealt_is F F.signals (free_widths F)))
        ∙ (gives.given n t is ∙ ap (elements_in t.kind) (share_wide n t)))

    pad_wide : (n : ℕ) (t : SignalTree) → IsSignal F n t → (kind : SigKind) → t.kind ≡ kind → outside_in kind (replicate (free_count F t) t.width) ≡ outside_width kind t.width
    pad_wide n t is Pad kind = ap (λ (k : ℕ). get_or (replicate k t.width) 0 0) (one_of_pad F t kind)
    pad_wide n t is Input kind = refl
    pad_wide n t is Register kind = refl
    pad_wide n t is Wire kind = refl

    outside_wide : map length (dealt_outside [] F F.signals design) ≡ map (λ (t : SignalTree). outside_width t.kind t.width) F.signals
    outside_wide =
        outside_map length [] F F.signals design
        ∙ (ap (dealt_outside 0 F F.signals) design_wide
        ∙ same_at_each (λ (t : SignalTree). outside_width t.kind t.width) 0 (dealt_outside 0 F F.signals (free_widths F)) F.signals (outside_long 0 F F.signals (free_widths F)) (λ n t is.
        ap (λ (l : List ℕ). get_or l n 0) (outside_is F F.signals (free_widths F)) ∙ (gives.outside n t is ∙ (ap (outside_in t.kind) (share_wide n t) ∙ pad_wide n t is t.kind refl))))

    bits_wide : (n : ℕ) (t : SignalTree) → IsSignal F n t → length (get_or (dealt_outside [] F F.signals design) n []) ≡ outside_width t.kind t.width
    bits_wide n t is =
        sym (get_or-map length (dealt_outside [] F F.signals design) n [])
        ∙ (ap (λ (l : List ℕ). get_or l n 0) (outside_map length [] F F.signals design ∙ (ap (dealt_outside 0 F F.signals) design_wide ∙ outside_is F F.signals (free_widths F)))
        ∙ (gives.outside n t is ∙ (ap (outside_in t.kind) (share_wide n t) ∙ pad_wide n t is t.kind refl)))

    given_at : (n : ℕ) (t : SignalTree) → IsSignal F n t → (kind : SigKind) → t.kind ≡ kind → IsGivenBits F t kind (get_or (dealt F F.signals design) n []) (get_or (dealt_outside [] F F.signals design) n [])
    given_at n t is Input kind = λ other. row_wide n t is ∙ ap₂ (λ (k : SigKind) (m : ℕ). elements_in k (replicate m t.width)) kind (all_of_input F t kind other)
    given_at n t is Register kind = row_wide n t is ∙ ap₂ (λ (k : SigKind) (m : ℕ). elements_in k (replicate m t.width)) kind (all_of_register F t kind)
    given_at n t is Pad kind = bits_wide n t is ∙ ap (λ (k : SigKind). outside_width k t.width) kind
    given_at n t is Wire kind = tt

    tables_suit : IsFormed F → free_bits F s ≤ 16 → ((numbers : List ℕ) → IsCase F numbers → HasOneCycle F (given_of F numbers) (outside_of F numbers)) →
        AreTables F (env (dealt F F.signals design) (dealt_outside [] F F.signals design)) (shared s.further behind)
    tables_suit formed few cycles =
        let small : AllByRecursion (AllByRecursion IsSmall) vectors = vectors_small s.given (all_widths F s) (omega (arith, few)) in
        let front : AllByRecursion (AllByRecursion IsSmall) design = all_take (AllByRecursion IsSmall) (length (free_widths F)) vectors small in
        record {
          small = dealt_all (AllByRecursion IsSmall) F F.signals design front;
          small_outside = outside_all (AllByRecursion IsSmall) [] tt F F.signals design front;
          small_further = shared_all (AllByRecursion IsSmall) s.further behind (all_drop (AllByRecursion IsSmall) (length (free_widths F)) vectors small);
          given = record { long = dealt_long F F.signals design; each = λ n t is. given_at n t is t.kind refl };
          clock = λ n t is clock.
              let kind : t.kind ≡ Input = clock_is_input F formed n t is clock in
              no_images length (get_or (dealt F F.signals design) n [])
              (row_wide n t is ∙ ap₂ (λ (k : SigKind) (m : ℕ). elements_in k (replicate m t.width)) kind (none_of_clock F t kind clock));
          outside = outside_wide;
          one = λ c.
              subst (λ (g : List (List ℕ)). HasOneCycle F g (map (number_in_case c) (dealt_outside [] F F.signals design))) (sym (signals_in c))
              (subst (λ (o : List ℕ). HasOneCycle F (given_of F (numbers_at c)) o) (sym (outside_in_case c)) (cycles (numbers_at c) (is_case c)));
        }

-- tables that are these
pub numbers_of_tables : (F : FlatTree) (s : Setting) (given further : List (List (List CaseBit))) (outside : List (List CaseBit)) → IsSetting F s → given ≡ dealt F F.signals (take (length (free_widths F)) (vectors_of s.given (all_widths F s))) →
    outside ≡ dealt_outside [] F F.signals (take (length (free_widths F)) (vectors_of s.given (all_widths F s))) → further ≡ shared s.further (drop (length (free_widths F)) (vectors_of s.given (all_widths F s))) →
    AreNumbersOf F s (env given outside) further
numbers_of_tables F s given further outside fit a b e =
    subst (λ (g : List (List (List CaseBit))). AreNumbersOf F s (env g outside) further) (sym a)
    (subst (λ (o : List (List CaseBit)). AreNumbersOf F s (env (dealt F F.signals (design F s fit)) o) further) (sym b)
    (subst (λ (f : List (List (List CaseBit))). AreNumbersOf F s (env (dealt F F.signals (design F s fit)) (dealt_outside [] F F.signals (design F s fit))) f) (sym e) (tables_number F s fit)))

pub suit_of_tables : (F : FlatTree) (s : Setting) (given further : List (List (List CaseBit))) (outside : List (List CaseBit)) → IsSetting F s → given ≡ dealt F F.signals (take (length (free_widths F)) (vectors_of s.given (all_widths F s))) →
    outside ≡ dealt_outside [] F F.signals (take (length (free_widths F)) (vectors_of s.given (all_widths F s))) → further ≡ shared s.further (drop (length (free_widths F)) (vectors_of s.given (all_widths F s))) →
    GivesValues F (λ (e : FreeElement). e.width) → IsFormed F → free_bits F s ≤ 16 → ((numbers : List ℕ) → IsCase F numbers → HasOneCycle F (given_of F numbers) (outside_of F numbers)) → AreTables F (env given outside) further
suit_of_tables F s given further outside fit a b e gives formed few cycles =
    subst (λ (g : List (List (List CaseBit))). AreTables F (env g outside) further) (sym a)
    (subst (λ (o : List (List CaseBit)). AreTables F (env (dealt F F.signals (design F s fit)) o) further) (sym b)
    (subst (λ (f : List (List (List CaseBit))). AreTables F (env (dealt F F.signals (design F s fit)) (dealt_outside [] F F.signals (design F s fit))) f) (sym e) (tables_suit F s fit gives formed few cycles)))

pub further_of_tables : (F : FlatTree) (s : Setting) (further : List (List (List CaseBit))) → IsSetting F s → further ≡ shared s.further (drop (length (free_widths F)) (vectors_of s.given (all_widths F s))) →
    map (map length) further ≡ further_widths s.further
further_of_tables F s further fit e = ap (map (map length)) e ∙ further_wide F s fit
