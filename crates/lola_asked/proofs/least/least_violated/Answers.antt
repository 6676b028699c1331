use Rattle.std.proofs.Common.{◌≡◌, ◌≤◌, ◌<◌, ◌^◌, ◌*◌, ◌%◌, ℕ, List, Option, Some, None, [], length, map, refl, sym, ap, ap₂, subst, ◌∙◌, arith}
use Rattle.std.proofs.Math.Pow.{pow_mono}
use Rattle.lola_flat.specs.Tree.{flat_tree}
use Rattle.lola_flat.specs.Value.{Env, env, sum_of}
use Rattle.lola_checks.specs.Tree.{check_tree}
use Rattle.lola_checks.specs.Suits.{CheckSuits}
use Rattle.lola_asked.specs.Setting.{widths_with, free_bits, setting_widths}
use Rattle.lola_cases.specs.Counting.{numbers_of}
use Rattle.lola_asked.specs.Words.{IsFirstViolated}
use Rattle.lola_asked.proofs.Firsts.{shl_one, always, least}
use Rattle.lola_asked.proofs.least.least_violated.Goals as goal

pub first_violated-requires-clause-check : goal.first_violated-requires-clause-check
first_violated-requires-clause-check c =
    let F = flat_tree c.args.flat.now in
    subst (λ (ws : List (List ℕ)). CheckSuits (widths_with F ws) (check_tree c.args.check.now)) (sym c.in_ok-tables.ensures.widths) c.requires.check

pub first_violated-requires-clause-few : goal.first_violated-requires-clause-few
first_violated-requires-clause-few c =
    let one = shl_one c.args.bits c.requires.few in
    let small : 2 ^ c.args.bits ≤ 2 ^ 16 = pow_mono {i = c.args.bits} {j = 16} c.requires.few in
    omega (arith, one, small)

pub returns-in-Some : goal.returns-in-Some
returns-in-Some c =
    let F = flat_tree c.args.flat.now in
    let s = c.args.setting.now in
    let t = c.in_ok-tables.tables in
    let E = env t.given.items t.outside.items in
    let k = check_tree c.args.check.now in
    let cases : ℕ = 1 * 2 ^ c.args.bits % 18446744073709551616 in
    let first : IsFirstViolated F E t.further.items k cases (Some c.in-Some.case) = subst (λ (o : Option ℕ). IsFirstViolated F E t.further.items k cases o) c.in-Some.is c.in_ok-case.ensures in
    let one = shl_one c.args.bits c.requires.few in
    let below = first.0 in
    let under : c.in-Some.case < 2 ^ c.args.bits = omega (arith, one, below) in
    let inside : c.in-Some.case < 2 ^ free_bits F s = subst (λ (b : ℕ). c.in-Some.case < 2 ^ b) c.requires.bits under in
    least F E t.further.items k s c.in_ok-tables.ensures.suit c.in_ok-tables.ensures.numbers c.in_ok-tables.ensures.widths c.counting.ensures.counted c.counting.ensures.met (λ ws ms ns a b. (c.counting.ensures.order ws ms ns a b).0) c.in-Some.case
    c.in_ok-numbers-in-Some.numbers.items (c.in_ok-numbers-in-Some.ensures ∙ ap (λ (ws : List ℕ). numbers_of ws c.in-Some.case) (c.as_slice.ensures.value ∙ c.requires.open)) inside first.1.0 first.1.1

pub returns : goal.returns
returns c =
    let F = flat_tree c.args.flat.now in
    let s = c.args.setting.now in
    let t = c.in_ok-tables.tables in
    let E = env t.given.items t.outside.items in
    let k = check_tree c.args.check.now in
    let cases : ℕ = 1 * 2 ^ c.args.bits % 18446744073709551616 in
    let first : IsFirstViolated F E t.further.items k cases None = subst (λ (o : Option ℕ). IsFirstViolated F E t.further.items k cases o) c.in-None.is c.in_ok-case.ensures in
    let one : cases ≡ 2 ^ c.args.bits = shl_one c.args.bits c.requires.few in
    always F E t.further.items k s c.in_ok-tables.ensures.suit c.in_ok-tables.ensures.numbers c.in_ok-tables.ensures.widths c.counting.ensures.counted c.counting.ensures.met (λ ws ms ns a b. (c.counting.ensures.order ws ms ns a b).0)
    (λ e inside. first e (subst (λ (n : ℕ). e < n) (sym one) (subst (λ (b : ℕ). e < 2 ^ b) (sym c.requires.bits) inside)))
