-- Vectors that are dealt out: their images, and what all of them have.
use Rattle.std.proofs.Common.{◌≡◌, ℕ, zero, suc, ◌+◌, List, [], ◌∷◌, ◌++◌, length, map, take, drop, replicate, get_or, refl, sym, ap, ap₂, ◌∙◌, subst}
use Rattle.std.specs.List.{AllByRecursion}
use Rattle.std.proofs.lemmas.List.{take-map, drop-map}
use Rattle.lola_bits.proofs.All.{all_take, all_drop, at_any_place}
use Rattle.lola_flat.specs.declared.design.SigKind.{SigKind}
use Rattle.lola_flat.specs.declared.design.SigKind.TheVariants.{Input, Pad, Wire, Register}
use Rattle.lola_flat.specs.Tree.{SignalTree, FlatTree}
use Rattle.lola_cases.specs.Free.{free_count}
use Rattle.lola_cases.specs.Cases.{elements_in, outside_in, given_from, outside_from}
use Rattle.lola_asked.specs.declared.setting.Further.{Further}
use Rattle.lola_asked.specs.Setting.{element_widths, shared, further_widths}
use Rattle.lola_asked.specs.Tables.{row_in, outside_part, dealt, dealt_outside}

module _ {X Y : Type 0} (f : X → Y) where
  row_map : (kind : SigKind) (share : List X) → map f (row_in kind share) ≡ row_in kind (map f share)
  row_map Input share = refl
  row_map Register share = refl
  row_map Pad share = refl
  row_map Wire share = refl

  first_map : (xs : List X) (none : X) → f (get_or xs 0 none) ≡ get_or (map f xs) 0 (f none)
  first_map [] none = refl
  first_map (x ∷ xs) none = refl

  part_map : (none : X) (kind : SigKind) (share : List X) → f (outside_part none kind share) ≡ outside_part (f none) kind (map f share)
  part_map none Pad share = first_map share none
  part_map none Input share = refl
  part_map none Register share = refl
  part_map none Wire share = refl

  pub dealt_map : (F : FlatTree) (signals : List SignalTree) (xs : List X) → map (map f) (dealt F signals xs) ≡ dealt F signals (map f xs)
  dealt_map F [] xs = refl
  dealt_map F (s ∷ signals) xs =
      ap₂ (λ (r : List Y) (rs : List (List Y)). r ∷ rs) (row_map s.kind (take (free_count F s) xs) ∙ ap (row_in s.kind) (sym (take-map f (free_count F s) xs)))
      (dealt_map F signals (drop (free_count F s) xs) ∙ ap (dealt F signals) (sym (drop-map f (free_count F s) xs)))

  pub outside_map : (none : X) (F : FlatTree) (signals : List SignalTree) (xs : List X) → map f (dealt_outside none F signals xs) ≡ dealt_outside (f none) F signals (map f xs)
  outside_map none F [] xs = refl
  outside_map none F (s ∷ signals) xs =
      ap₂ (λ (r : Y) (rs : List Y). r ∷ rs) (part_map none s.kind (take (free_count F s) xs) ∙ ap (outside_part (f none) s.kind) (sym (take-map f (free_count F s) xs)))
      (outside_map none F signals (drop (free_count F s) xs) ∙ ap (dealt_outside (f none) F signals) (sym (drop-map f (free_count F s) xs)))

  pub shared_map : (further : List Further) (xs : List X) → map (map f) (shared further xs) ≡ shared further (map f xs)
  shared_map [] xs = refl
  shared_map (g ∷ further) xs =
      ap₂ (λ (r : List Y) (rs : List (List Y)). r ∷ rs) (sym (take-map f g.count xs)) (shared_map further (drop g.count xs) ∙ ap (shared further) (sym (drop-map f g.count xs)))

-- numbers are dealt as a case deals them
row_is : (kind : SigKind) (share : List ℕ) → row_in kind share ≡ elements_in kind share
row_is Input share = refl
row_is Register share = refl
row_is Pad share = refl
row_is Wire share = refl

part_is : (kind : SigKind) (share : List ℕ) → outside_part 0 kind share ≡ outside_in kind share
part_is Input share = refl
part_is Register share = refl
part_is Pad share = refl
part_is Wire share = refl

pub dealt_is : (F : FlatTree) (signals : List SignalTree) (ns : List ℕ) → dealt F signals ns ≡ given_from F signals ns
dealt_is F [] ns = refl
dealt_is F (s ∷ signals) ns = ap₂ (λ (r : List ℕ) (rs : List (List ℕ)). r ∷ rs) (row_is s.kind (take (free_count F s) ns)) (dealt_is F signals (drop (free_count F s) ns))

pub outside_is : (F : FlatTree) (signals : List SignalTree) (ns : List ℕ) → dealt_outside 0 F signals ns ≡ outside_from F signals ns
outside_is F [] ns = refl
outside_is F (s ∷ signals) ns = ap₂ (λ (r : ℕ) (rs : List ℕ). r ∷ rs) (part_is s.kind (take (free_count F s) ns)) (outside_is F signals (drop (free_count F s) ns))

-- what all have stays
module _ {X : Type 0} (P : X → Type 0) where
  row_all : (kind : SigKind) (share : List X) → AllByRecursion P share → AllByRecursion P (row_in kind share)
  row_all Input share all = all
  row_all Register share all = all
  row_all Pad share all = tt
  row_all Wire share all = tt

  part_all : (none : X) → P none → (kind : SigKind) (share : List X) → AllByRecursion P share → P (outside_part none kind share)
  part_all none one Pad share all = at_any_place P share 0 none one all
  part_all none one Input share all = one
  part_all none one Register share all = one
  part_all none one Wire share all = one

  pub dealt_all : (F : FlatTree) (signals : List SignalTree) (xs : List X) → AllByRecursion P xs → AllByRecursion (AllByRecursion P) (dealt F signals xs)
  dealt_all F [] xs all = tt
  dealt_all F (s ∷ signals) xs all =
      (row_all s.kind (take (free_count F s) xs) (all_take P (free_count F s) xs all), dealt_all F signals (drop (free_count F s) xs) (all_drop P (free_count F s) xs all))

  pub outside_all : (none : X) → P none → (F : FlatTree) (signals : List SignalTree) (xs : List X) → AllByRecursion P xs → AllByRecursion P (dealt_outside none F signals xs)
  outside_all none one F [] xs all = tt
  outside_all none one F (s ∷ signals) xs all =
      (part_all none one s.kind (take (free_count F s) xs) (all_take P (free_count F s) xs all), outside_all none one F signals (drop (free_count F s) xs) (all_drop P (free_count F s) xs all))

  pub shared_all : (further : List Further) (xs : List X) → AllByRecursion P xs → AllByRecursion (AllByRecursion P) (shared further xs)
  shared_all [] xs all = tt
  shared_all (g ∷ further) xs all = (all_take P g.count xs all, shared_all further (drop g.count xs) (all_drop P g.count xs all))

-- so many items, and those behind them
pub front_of : {X : Type 0} (n : ℕ) (x : X) (xs : List X) → (take n (replicate n x ++ xs) ≡ replicate n x) × (drop n (replicate n x ++ xs) ≡ xs)
front_of zero x [] = (refl, refl)
front_of zero x (y ∷ xs) = (refl, refl)
front_of {X = X} (suc n) x xs = let r = front_of n x xs in (ap (λ (l : List X). x ∷ l) r.0, r.1)

pub both_parts : {X : Type 0} (xs ys : List X) → (take (length xs) (xs ++ ys) ≡ xs) × (drop (length xs) (xs ++ ys) ≡ ys)
both_parts [] [] = (refl, refl)
both_parts [] (y ∷ ys) = (refl, refl)
both_parts {X = X} (x ∷ xs) ys = let r = both_parts xs ys in (ap (λ (l : List X). x ∷ l) r.0, r.1)

pub shared_widths : (further : List Further) → shared further (element_widths further) ≡ further_widths further
shared_widths [] = refl
shared_widths (f ∷ further) =
    let r = front_of f.count f.width (element_widths further) in
    ap₂ (λ (x : List ℕ) (xs : List (List ℕ)). x ∷ xs) r.0 (ap (shared further) r.1 ∙ shared_widths further)
