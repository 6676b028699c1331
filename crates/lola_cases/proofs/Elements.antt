-- What is free, signal by signal.
use Rattle.std.proofs.Common.{◌≡◌, ℕ, zero, suc, ◌+◌, List, [], ◌∷◌, ◌++◌, map, replicate, refl, ◌∙◌, ap, add-one}
use Rattle.std.proofs.lemmas.List.{map-append, replicate-append-replicate}
use Rattle.lola_flat.specs.Numbers.{first_numbers}
use Rattle.lola_flat.specs.Tree.{SignalTree, FlatTree}
use Rattle.lola_cases.specs.declared.free.FreeElement.{FreeElement}
use Rattle.lola_cases.specs.Free.{free_count, element_of, free_of, free_from, widths, free_widths}

-- the widths of what is free, signal by signal
abbrev pub widths_from : FlatTree → List SignalTree → List ℕ
widths_from F [] = []
widths_from F (s ∷ signals) = replicate (free_count F s) s.width ++ widths_from F signals

widths_of_one : (n w c : ℕ) → widths (map (element_of n w) (first_numbers c)) ≡ replicate c w
widths_of_one n w zero = refl
widths_of_one n w (suc c) =
    ap widths (map-append (element_of n w) (first_numbers c) (c ∷ []))
    ∙ map-append (λ (e : FreeElement). e.width) (map (element_of n w) (first_numbers c)) (element_of n w c ∷ [])
    ∙ ap (λ (ws : List ℕ). ws ++ w ∷ []) (widths_of_one n w c) ∙ (replicate-append-replicate c 1 w ∙ ap (λ (k : ℕ). replicate k w) (add-one c))

widths_behind : (F : FlatTree) (n : ℕ) (signals : List SignalTree) → widths (free_from F n signals) ≡ widths_from F signals
widths_behind F n [] = refl
widths_behind F n (s ∷ signals) =
    map-append (λ (e : FreeElement). e.width) (free_of F n s) (free_from F (n + 1) signals)
    ∙ ap (λ (ws : List ℕ). ws ++ widths (free_from F (n + 1) signals)) (widths_of_one n s.width (free_count F s))
    ∙ ap (λ (ws : List ℕ). replicate (free_count F s) s.width ++ ws) (widths_behind F (n + 1) signals)

pub widths_are : (F : FlatTree) → free_widths F ≡ widths_from F F.signals
widths_are F = widths_behind F 0 F.signals
