-- Loops make the steps of their lists, one after another.
use Rattle.std.proofs.Common.{◌≡◌, ℕ, ◌+◌, ◌-◌, ◌<◌, List, length, drop, map, get_or, Option, Some, refl, ◌∙◌, ap, arith}
use Rattle.std.specs.Prelude.{Err, slice_get}
use Rattle.std.proofs.lemmas.List.{length-drop}
use Rattle.std.proofs.lemmas.Option.{slice_get_read}
use Rattle.std.specs.List.{AllByRecursion}
use Rattle.lola_bits.proofs.All.{of_all}
use Rattle.lola_bits.proofs.Lists.{to_map}
use Rattle.lola_bits.proofs.Places.{drop_item, item_in}
use Rattle.lola_alg.specs.Algebra.{Calls}
use Rattle.lola_alg.specs.declared.algebra.AlgError.{AlgError}
use Rattle.lola_alg.specs.declared.algebra.AlgError.TheVariants.{Full, Memory}
use Rattle.lola_alg.specs.Steps.{into, Went}
use Rattle.lola_checks.specs.declared.check.Mark.{Mark}
use Rattle.lola_checks.specs.Steps.{mark_step, fits_from}

-- what holds of each tree of a list holds of that of an item
pub suits_at : {X Y : Type 0} (P : Y → Type 0) (f : X → Y) (xs : List X) (at : ℕ) (x : X) → at < length xs → x ≡ get_or xs at x → AllByRecursion P (map f xs) → P (f x)
suits_at P f xs at x within is all = of_all P (f x) (map f xs) all (to_map f x xs (item_in xs at x within is))

module _ {D B : Type 0} (c : Calls D B) where
  -- the bit of a mark
  marks_front : (pattern : List Mark) (bits : List B) (at : ℕ) (mark : Mark) (b so : B) (d : D) → at < length pattern → length bits ≡ length pattern → mark ≡ get_or pattern at mark → b ≡ get_or bits (length pattern - 1 - at) b →
      fits_from c (drop at pattern) bits so d ≡ into (mark_step c mark (Some b) so d) (λ then e. fits_from c (drop (at + 1) pattern) bits then e)
  marks_front pattern bits at mark b so d within long is is' =
      let count : length (drop (at + 1) pattern) ≡ length pattern - 1 - at = let h = length-drop (at + 1) pattern in h ∙ (omega arith) in
      ap (λ ms. fits_from c ms bits so d) (drop_item pattern at mark within is)
      ∙ ap (λ o. into (mark_step c mark o so d) (λ then e. fits_from c (drop (at + 1) pattern) bits then e))
      (ap (slice_get bits) count ∙ slice_get_read bits (length bits) (length pattern - 1 - at) b refl (omega arith) is')

  pub marks_more : (pattern : List Mark) (bits : List B) (at : ℕ) (mark : Mark) (b so then : B) (d now : D) (whole : Option (D × B)) → at < length pattern → length bits ≡ length pattern → mark ≡ get_or pattern at mark →
      b ≡ get_or bits (length pattern - 1 - at) b → mark_step c mark (Some b) so d ≡ Some (now, then) → whole ≡ fits_from c (drop at pattern) bits so d → whole ≡ fits_from c (drop (at + 1) pattern) bits then now
  marks_more pattern bits at mark b so then d now whole within long is is' step steps =
      steps ∙ marks_front pattern bits at mark b so d within long is is' ∙ ap (λ o. into o (λ y e. fits_from c (drop (at + 1) pattern) bits y e)) step

  -- an error of a mark is one of the whole
  pub marks_fail : (pattern : List Mark) (bits : List B) (at : ℕ) (mark : Mark) (b so : B) (d now : D) (whole : Option (D × B)) (error : AlgError) → at < length pattern → length bits ≡ length pattern → mark ≡ get_or pattern at mark →
      b ≡ get_or bits (length pattern - 1 - at) b → Went (λ x. x) (mark_step c mark (Some b) so d) now (Err error) → whole ≡ fits_from c (drop at pattern) bits so d → Went {X = B} {V = B} (λ x. x) whole now (Err error)
  marks_fail pattern bits at mark b so d now whole Full within long is is' went steps =
      steps ∙ marks_front pattern bits at mark b so d within long is is' ∙ ap (λ o. into o (λ y e. fits_from c (drop (at + 1) pattern) bits y e)) went
  marks_fail pattern bits at mark b so d now whole Memory within long is is' went steps = tt
