use Rattle.std.proofs.Common.{ℕ, List, [], ◌∷◌, refl, ap, ◌∙◌}
use Rattle.lola_tree.specs.declared.module.Port.{Port}
use Rattle.lola_unfold.specs.declared.slots.Base.{Base}
use Rattle.lola_unfold.specs.declared.site.Site.{Site}
use Rattle.lola_unfold.specs.Slots.{number_from}
use Rattle.lola_unfold.specs.Tables.{no_pads, pads_with_all, own_numbers}
use Rattle.lola_unfold.specs.Pieces.{MadeTree, grow}
use Rattle.lola_unfold.specs.Parts.{path_in}
use Rattle.lola_unfold.specs.Root.{root_numbers, root_piece_of}
use Rattle.lola_unfold.proofs.Rooted.{the_root, root_stands}
use Rattle.lola_unfold.proofs.root.made_at.Goals as goal

pub returns : goal.returns
returns c = λ E m ready few.
    let base : Base = record { tables = c.args.tables; at = c.args.at; first = 0; none = c.args.count } in
    let site : Site = record { base = base; path = c.new.result; pads = c.in_ok-pads.pads } in
    let N = root_numbers (m ∷ E) in
    let a = the_root E m in
    let stands = root_stands c.args.tables c.args.parts.now c.args.part.now c.args.at c.args.count E m ready few site refl (ap path_in c.new.ensures.items)
    (c.in_ok-pads.ensures.found ∙ ap (λ (ps : List Port). pads_with_all no_pads (own_numbers (λ (name : List ℕ). number_from base (name ∷ [])) ps)) c.items.ensures)
    c.in_ok-pads.ensures.none in
    c.in_ok-walk_root.ensures N E a stands (record { path = refl; caller = refl }) ∙ ap (λ (f : MadeTree). grow f (root_piece_of N E a)) c.in_ok-made.ensures
