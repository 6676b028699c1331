-- What a case gives is what a cycle is given, and each such is given by exactly one case.
use Rattle.std.proofs.Common.{◌≡◌, ℕ, zero, suc, ◌<◌, ◌^◌, List, [], ◌∷◌, ◌++◌, length, take, drop, get_or, Some, refl, sym, ◌∙◌, ap, ap₂, subst, inl, inr, arith}
use Rattle.std.specs.Prelude.{slice_get}
use Rattle.std.proofs.lemmas.List.{take-append-drop}
use Rattle.std.proofs.lemmas.Nat.{pow_pos}
use Rattle.lola_bits.proofs.All.{at_any_place}
use Rattle.lola_bits.proofs.Options.{some_same, nothing}
use Rattle.lola_flat.specs.declared.design.SigKind.{SigKind}
use Rattle.lola_flat.specs.declared.design.SigKind.TheVariants.{Input, Pad, Wire, Register}
use Rattle.lola_flat.specs.Tree.{SignalTree, FlatTree}
use Rattle.lola_flat.specs.Cycle.{AreBelow, IsGivenTo, AreGiven, AreOutside}
use Rattle.lola_cases.specs.Free.{free_count}
use Rattle.lola_cases.specs.Cases.{AreWithin, IsCase, elements_in, outside_in, given_from, outside_from, given_of, outside_of, GiveSameTo, HasOneCase}
use Rattle.lola_cases.proofs.Clocks.{none_of_clock, all_of_input, all_of_register, one_of_pad, none_of_wire, clock_or_not}
use Rattle.lola_cases.proofs.Elements.{widths_from, widths_are}
use Rattle.lola_cases.proofs.Shares.{parted, joined, empty, first_share, share_at, given_long}

module _ (F : FlatTree) where
  -- what a case gives
  given_kind : (s : SignalTree) (share : List ℕ) → length share ≡ free_count F s → AreBelow s share → (kind : SigKind) → s.kind ≡ kind → IsGivenTo F s kind (elements_in kind share)
  given_kind s share long below Input kind = (below, (λ clock. empty share (long ∙ none_of_clock F s kind clock), λ other. long ∙ all_of_input F s kind other))
  given_kind s share long below Register kind = record { count = long ∙ all_of_register F s kind; below = below }
  given_kind s share long below Pad kind = tt
  given_kind s share long below Wire kind = tt

  pub within_shares : (numbers : List ℕ) → IsCase F numbers → AreWithin (widths_from F F.signals) numbers
  within_shares numbers is = subst (λ (ws : List ℕ). AreWithin ws numbers) (widths_are F) is

  pub case_given : (numbers : List ℕ) → IsCase F numbers → AreGiven F (given_of F numbers)
  case_given numbers is = record {
    long = given_long F F.signals numbers;
    each = λ n s at.
        let r = share_at F F.signals numbers (within_shares numbers is) n s at in
        subst (IsGivenTo F s s.kind) (sym r.given) (given_kind s r.share r.long r.below s.kind refl);
  }

  pub case_outside : (numbers : List ℕ) → IsCase F numbers → AreOutside F (outside_of F numbers)
  case_outside numbers is = record {
    each = λ n s at pad.
        let r = share_at F F.signals numbers (within_shares numbers is) n s at in
        let value : get_or (outside_of F numbers) n 0 ≡ get_or r.share 0 0 = r.outside ∙ ap (λ (k : SigKind). outside_in k r.share) pad in
        subst (λ (x : ℕ). x < 2 ^ s.width) (sym value) (at_any_place (λ x. x < 2 ^ s.width) r.share 0 0 (pow_pos s.width) r.below);
  }

  -- the share of a signal that is given these elements, and this from outside
  abbrev part : SigKind → List ℕ → ℕ → List ℕ
  part Input elements outside = elements
  part Register elements outside = elements
  part Pad elements outside = outside ∷ []
  part Wire elements outside = []

  -- all shares one behind another
  abbrev collected : List SignalTree → (ℕ → List ℕ) → (ℕ → ℕ) → List ℕ
  collected [] given outside = []
  collected (s ∷ signals) given outside = part s.kind (given 0) (outside 0) ++ collected signals (λ n. given (suc n)) (λ n. outside (suc n))

  -- it has as many numbers as are free, below 2 to the width
  record IsShare (s : SignalTree) (share : List ℕ) : Type 0 where
    pub long : length share ≡ free_count F s
    pub below : AreBelow s share

  abbrev AreShares : List SignalTree → (ℕ → List ℕ) → (ℕ → ℕ) → Type 0
  AreShares signals given outside = (n : ℕ) (s : SignalTree) → slice_get signals n ≡ Some s → IsShare s (part s.kind (given n) (outside n))

  collected_within : (signals : List SignalTree) (given : ℕ → List ℕ) (outside : ℕ → ℕ) → AreShares signals given outside → AreWithin (widths_from F signals) (collected signals given outside)
  collected_within [] given outside shares = tt
  collected_within (s ∷ signals) given outside shares =
      let first = shares 0 s refl in
      joined (free_count F s) s.width (widths_from F signals) (part s.kind (given 0) (outside 0)) (collected signals (λ n. given (suc n)) (λ n. outside (suc n))) first.long first.below
      (collected_within signals (λ n. given (suc n)) (λ n. outside (suc n)) (λ n t is. shares (suc n) t is))

  -- what a signal is given of its share is what the share was made of
  part_same : (kind : SigKind) (elements : List ℕ) (outside : ℕ) → GiveSameTo kind elements (elements_in kind (part kind elements outside)) outside (outside_in kind (part kind elements outside))
  part_same Input elements outside = refl
  part_same Register elements outside = refl
  part_same Pad elements outside = refl
  part_same Wire elements outside = tt

  abbrev GivesSame : List SignalTree → (ℕ → List ℕ) → (ℕ → ℕ) → List ℕ → Type 0
  GivesSame signals given outside numbers =
      (n : ℕ) (s : SignalTree) → slice_get signals n ≡ Some s → GiveSameTo s.kind (given n) (get_or (given_from F signals numbers) n []) (outside n) (get_or (outside_from F signals numbers) n 0)

  collected_same : (signals : List SignalTree) (given : ℕ → List ℕ) (outside : ℕ → ℕ) → AreShares signals given outside → GivesSame signals given outside (collected signals given outside)
  collected_same [] given outside shares n s is = nothing s is
  collected_same (t ∷ signals) given outside shares zero s is =
      let rest : List ℕ = collected signals (λ n. given (suc n)) (λ n. outside (suc n)) in
      let first = first_share (free_count F t) (part t.kind (given 0) (outside 0)) rest (shares 0 t refl).long in
      subst (λ (u : SignalTree). GiveSameTo u.kind (given 0) (elements_in t.kind (take (free_count F t) (part t.kind (given 0) (outside 0) ++ rest))) (outside 0) (outside_in t.kind (take (free_count F t) (part t.kind (given 0) (outside 0) ++ rest)))) (some_same t s is)
      (subst (λ (share : List ℕ). GiveSameTo t.kind (given 0) (elements_in t.kind share) (outside 0) (outside_in t.kind share)) (sym first.0) (part_same t.kind (given 0) (outside 0)))
  collected_same (t ∷ signals) given outside shares (suc n) s is =
      let rest : List ℕ = collected signals (λ n. given (suc n)) (λ n. outside (suc n)) in
      let first = first_share (free_count F t) (part t.kind (given 0) (outside 0)) rest (shares 0 t refl).long in
      subst (λ (numbers : List ℕ). GiveSameTo s.kind (given (suc n)) (get_or (given_from F signals numbers) n []) (outside (suc n)) (get_or (outside_from F signals numbers) n 0)) (sym first.1)
      (collected_same signals (λ m. given (suc m)) (λ m. outside (suc m)) (λ m u at. shares (suc m) u at) n s is)

  -- a share is what it gives
  share_is : (s : SignalTree) (share elements : List ℕ) (outside : ℕ) → length share ≡ free_count F s → (kind : SigKind) → s.kind ≡ kind → GiveSameTo kind elements (elements_in kind share) outside (outside_in kind share) → share ≡ part kind elements outside
  share_is s share elements outside long Input kind same = sym same
  share_is s share elements outside long Register kind same = sym same
  share_is s share elements outside long Pad kind same = only share (long ∙ one_of_pad F s kind) same
    where
      only : (xs : List ℕ) → length xs ≡ 1 → outside ≡ get_or xs 0 0 → xs ≡ outside ∷ []
      only [] long e = absurd (omega arith)
      only (x ∷ []) long e = ap (λ (y : ℕ). y ∷ []) (sym e)
      only (x ∷ y ∷ xs) long e = absurd (omega arith)
  share_is s share elements outside long Wire kind same = empty share (long ∙ none_of_wire F s kind)

  collected_only : (signals : List SignalTree) (given : ℕ → List ℕ) (outside : ℕ → ℕ) (numbers : List ℕ) → AreWithin (widths_from F signals) numbers → GivesSame signals given outside numbers → numbers ≡ collected signals given outside
  collected_only [] given outside [] within same = refl
  collected_only [] given outside (n ∷ numbers) within same = absurd within
  collected_only (s ∷ signals) given outside numbers within same =
      let r = parted (free_count F s) s.width (widths_from F signals) numbers within in
      sym (take-append-drop (free_count F s) numbers)
      ∙ ap₂ (λ (xs ys : List ℕ). xs ++ ys) (share_is s (take (free_count F s) numbers) (given 0) (outside 0) r.long s.kind refl (same 0 s refl))
      (collected_only signals (λ n. given (suc n)) (λ n. outside (suc n)) (drop (free_count F s) numbers) r.others (λ n t is. same (suc n) t is))

  -- what a cycle is given are such shares
  given_share : (given : List (List ℕ)) (outside : List ℕ) → AreGiven F given → AreOutside F outside → AreShares F.signals (λ n. get_or given n []) (λ n. get_or outside n 0)
  given_share given outside fits outer n s is = at s.kind refl (fits.each n s is)
    where
      input : s.kind ≡ Input → IsGivenTo F s Input (get_or given n []) → IsShare s (get_or given n [])
      input kind is_given = elim (clock_or_not F s) [
        | inl clock ↦ record { long = ap length (is_given.1.0 clock) ∙ sym (none_of_clock F s kind clock); below = is_given.0 }
        | inr other ↦ record { long = is_given.1.1 other ∙ sym (all_of_input F s kind other); below = is_given.0 }
      ]

      at : (kind : SigKind) → s.kind ≡ kind → IsGivenTo F s kind (get_or given n []) → IsShare s (part kind (get_or given n []) (get_or outside n 0))
      at Input kind is_given = input kind is_given
      at Register kind is_given = record { long = is_given.count ∙ sym (all_of_register F s kind); below = is_given.below }
      at Pad kind is_given = record { long = sym (one_of_pad F s kind); below = (outer.each n s is kind, tt) }
      at Wire kind is_given = record { long = sym (none_of_wire F s kind); below = tt }

  pub one_case : (given : List (List ℕ)) (outside : List ℕ) → AreGiven F given → AreOutside F outside → HasOneCase F given outside
  one_case given outside fits outer =
      let shares = given_share given outside fits outer in
      record {
        numbers = collected F.signals (λ n. get_or given n []) (λ n. get_or outside n 0);
        is_case = subst (λ (ws : List ℕ). AreWithin ws (collected F.signals (λ n. get_or given n []) (λ n. get_or outside n 0))) (sym (widths_are F))
            (collected_within F.signals (λ n. get_or given n []) (λ n. get_or outside n 0) shares);
        same = record { each = collected_same F.signals (λ n. get_or given n []) (λ n. get_or outside n 0) shares };
        only = λ others is same. collected_only F.signals (λ n. get_or given n []) (λ n. get_or outside n 0) others (within_shares others is) same.each;
      }
