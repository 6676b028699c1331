use Rattle.std.proofs.Common.{◌≡◌, ◌≤◌, ℕ, List, Option, [], length, map, take, drop, refl, sym, ap, ap₂, subst, ◌∙◌}
use Rattle.std.specs.Prelude.{Result, Ok, Err, IfOk}
use Rattle.lola_bits.specs.Lists.{AreEach}
use Rattle.lola_flat.specs.Tree.{flat_tree}
use Rattle.lola_flat.specs.Value.{sum_of}
use Rattle.lola_cases.specs.declared.free.FreeElement.{FreeElement}
use Rattle.lola_cases.specs.Free.{free_widths}
use Rattle.lola_asked.specs.declared.bits.CaseBit.{CaseBit}
use Rattle.lola_asked.specs.Setting.{GivenFits, all_widths, open_widths, shared}
use Rattle.lola_asked.specs.CaseBits.{vectors_of}
use Rattle.lola_asked.specs.Tables.{dealt, dealt_outside}
use Rattle.lola_asked.proofs.Suited.{numbers_of_tables, suit_of_tables, further_of_tables}
use Rattle.lola_asked.proofs.least.setting_tables.Goals as goal

pub vectors_of-requires-clause-each : goal.vectors_of-requires-clause-each
vectors_of-requires-clause-each c =
    subst (λ (g : List (Option ℕ)). AreEach GivenFits g c.as_slice.result.now) (sym c.items-given.ensures)
    (subst (λ (ws : List ℕ). AreEach GivenFits c.args.setting.now.given ws) (sym (c.as_slice.ensures.value ∙ c.requires.all)) c.requires.setting)

pub vectors_of-requires-clause-bits : goal.vectors_of-requires-clause-bits
vectors_of-requires-clause-bits c = c.requires.bits ∙ sym (ap₂ (λ (g : List (Option ℕ)) (ws : List ℕ). sum_of (open_widths g ws)) c.items-given.ensures (c.as_slice.ensures.value ∙ c.requires.all))

if_ok : {X F : Type 0} {P Q R S : X → Type 0} (r : Result X F) → ((x : X) → P x → Q x → R x → S x) → IfOk r P → IfOk r Q → IfOk r R → IfOk r S
if_ok (Ok x) f p q s = f x p q s
if_ok (Err e) f p q s = tt

pub returns-clause-suit : goal.returns-clause-suit
returns-clause-suit c =
    let F = flat_tree c.args.flat.now in
    let s = c.args.setting.now in
    let vs : c.as_slice-2.result.now ≡ vectors_of s.given (all_widths F s) = c.as_slice-2.ensures.value ∙ (c.in_ok-vectors.ensures ∙ ap₂ vectors_of c.items-given.ensures (c.as_slice.ensures.value ∙ c.requires.all)) in
    let front : take c.args.widths.now.design c.as_slice-2.result.now ≡ take (length (free_widths F)) (vectors_of s.given (all_widths F s)) = ap₂ take c.requires.design vs in
    let back : drop c.args.widths.now.design c.as_slice-2.result.now ≡ drop (length (free_widths F)) (vectors_of s.given (all_widths F s)) = ap₂ drop c.requires.design vs in
    if_ok c.case_tables.result
    (λ made a b e. suit_of_tables F s made.given.items made.further.items made.outside.items c.requires.setting (a ∙ ap (dealt F F.signals) front) (b ∙ ap (dealt_outside [] F F.signals) front) (e ∙ ap₂ shared c.items.ensures back)
    (c.values_are_given.ensures.given F (λ (x : FreeElement). x.width)) c.requires.formed (subst (λ (n : ℕ). n ≤ 16) c.requires.bits c.requires.few) (λ numbers is. c.each_has_one_cycle.ensures F numbers c.requires.formed is)) c.case_tables.ensures.given
    c.case_tables.ensures.outside c.case_tables.ensures.further

pub returns-clause-widths : goal.returns-clause-widths
returns-clause-widths c =
    let F = flat_tree c.args.flat.now in
    let s = c.args.setting.now in
    let vs : c.as_slice-2.result.now ≡ vectors_of s.given (all_widths F s) = c.as_slice-2.ensures.value ∙ (c.in_ok-vectors.ensures ∙ ap₂ vectors_of c.items-given.ensures (c.as_slice.ensures.value ∙ c.requires.all)) in
    let back : drop c.args.widths.now.design c.as_slice-2.result.now ≡ drop (length (free_widths F)) (vectors_of s.given (all_widths F s)) = ap₂ drop c.requires.design vs in
    if_ok c.case_tables.result (λ made a b e. further_of_tables F s made.further.items c.requires.setting (e ∙ ap₂ shared c.items.ensures back)) c.case_tables.ensures.given c.case_tables.ensures.outside c.case_tables.ensures.further

pub returns-clause-numbers : goal.returns-clause-numbers
returns-clause-numbers c =
    let F = flat_tree c.args.flat.now in
    let s = c.args.setting.now in
    let vs : c.as_slice-2.result.now ≡ vectors_of s.given (all_widths F s) = c.as_slice-2.ensures.value ∙ (c.in_ok-vectors.ensures ∙ ap₂ vectors_of c.items-given.ensures (c.as_slice.ensures.value ∙ c.requires.all)) in
    let front : take c.args.widths.now.design c.as_slice-2.result.now ≡ take (length (free_widths F)) (vectors_of s.given (all_widths F s)) = ap₂ take c.requires.design vs in
    let back : drop c.args.widths.now.design c.as_slice-2.result.now ≡ drop (length (free_widths F)) (vectors_of s.given (all_widths F s)) = ap₂ drop c.requires.design vs in
    if_ok c.case_tables.result
    (λ made a b e. numbers_of_tables F s made.given.items made.further.items made.outside.items c.requires.setting (a ∙ ap (dealt F F.signals) front) (b ∙ ap (dealt_outside [] F F.signals) front) (e ∙ ap₂ shared c.items.ensures back))
    c.case_tables.ensures.given c.case_tables.ensures.outside c.case_tables.ensures.further
