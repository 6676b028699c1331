-- What trying all valuations answers.
use Rattle.std.specs.Prelude.{◌≡◌, ℕ, ◌<◌, ◌≤◌, List, take, Some, slice_get}
use Rattle.std.specs.List.{AllByRecursion}
use Rattle.lola_app.specs.declared.subject.Subject.{Subject}
use Rattle.lola_app.specs.declared.obligation.Obligation.{Obligation}
use Rattle.lola_app.specs.declared.decide.Decided.{Decided}
use Rattle.lola_app.specs.declared.decide.Decided.TheVariants.{All, Fails}
use Rattle.lola_app.specs.Obligations.{total}
use Rattle.lola_app.specs.Trial.{passes, tried_widths}
use Rattle.lola_app.specs.Valuations.{Always, IsLeast}

-- an obligation leaves at most 16 bits free
abbrev pub IsFew : Subject → Obligation → Type 0
IsFew subject o = total (tried_widths subject o.which) ≤ 16

-- the first obligation that leaves more
pub record IsFirstWide (subject : Subject) (list : List Obligation) (number : ℕ) : Type 0 where
  pub obligation : Obligation
  pub there : slice_get list number ≡ Some obligation
  pub earlier : AllByRecursion (IsFew subject) (take number list)
  pub wide : 16 < total (tried_widths subject obligation.which)

-- an obligation passes at every valuation
abbrev pub PassesAlways : Subject → Obligation → Type 0
PassesAlways subject o = Always (passes subject o.which) (tried_widths subject o.which)

-- the first obligation that doesn't, and the least valuation that shows it
pub record IsFirstFailing (subject : Subject) (list : List Obligation) (number : ℕ) (numbers : List ℕ) : Type 0 where
  pub obligation : Obligation
  pub there : slice_get list number ≡ Some obligation
  pub earlier : AllByRecursion (PassesAlways subject) (take number list)
  pub least : IsLeast (passes subject obligation.which) (tried_widths subject obligation.which) numbers

-- all pass always, or the first that doesn't is named with its least valuation
abbrev pub IsDecidedBy : Subject → List Obligation → Decided → Type 0
IsDecidedBy subject list All = AllByRecursion (PassesAlways subject) list
IsDecidedBy subject list (Fails number numbers) = IsFirstFailing subject list number numbers.items
