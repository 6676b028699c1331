use Rattle.std.proofs.Common.{◌≡◌, ◌++◌, ℕ, List, Option, sym, ap, ap₂, subst, ◌∙◌}
use Rattle.lola_bits.specs.Lists.{AreEach}
use Rattle.lola_flat.specs.Tree.{flat_tree}
use Rattle.lola_cases.specs.Free.{widths}
use Rattle.lola_asked.specs.Setting.{element_widths, all_widths, GivenFits}
use Rattle.lola_asked.proofs.setting.setting_widths.Goals as goal

pub open_widths-requires : goal.open_widths-requires
open_widths-requires c =
    let F = flat_tree c.args.flat.now in
    let s = c.args.setting.now in
    let are : c.as_slice-2.result.now ≡ all_widths F s =
    c.as_slice-2.ensures.value
    ∙ (c.in_ok-push_further.ensures ∙ ap₂ (λ (x y : List ℕ). x ++ y) (c.in_ok-all.ensures ∙ ap widths (c.as_slice.ensures.value ∙ c.in_ok-elements.ensures)) (ap element_widths c.items.ensures)) in
    subst (λ (g : List (Option ℕ)). AreEach GivenFits g c.as_slice-2.result.now) (sym c.items-2.ensures) (subst (λ (ws : List ℕ). AreEach GivenFits s.given ws) (sym are) c.requires.setting)
