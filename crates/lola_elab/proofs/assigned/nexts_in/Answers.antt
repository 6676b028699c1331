use Rattle.std.proofs.Common.{◌≡◌, ℕ, ◌≤◌, List, [], ◌++◌, length, map, drop, Err, sym, ap, subst, append-nil}
use Rattle.std.specs.String.{string_bytes}
use Rattle.std.proofs.lemmas.List.{drop_all}
use Rattle.lola_bits.specs.Lists.{IsIn}
use Rattle.lola_bits.proofs.All.{of_all}
use Rattle.lola_bits.proofs.Lists.{to_map}
use Rattle.lola_bits.proofs.Places.{item_in}
use Rattle.lola_tree.specs.Tree.{StmtTree, stmt_tree}
use Rattle.lola_elab.specs.declared.fault.ElabError.{ElabError}
use Rattle.lola_elab.specs.declared.fault.ElabError.TheVariants.{NotBuilt}
use Rattle.lola_elab.specs.declared.flat.Flat.{Flat}
use Rattle.lola_elab.specs.declared.vector.Vector.{Vector}
use Rattle.lola_elab.specs.Meanings.{Meanings}
use Rattle.lola_elab.specs.Small.{target_of}
use Rattle.lola_elab.specs.Assigned.{AreNexts}
use Rattle.lola_elab.proofs.assigned.nexts_in.Goals as goal

pub returns-in-Err-clause-none : goal.returns-in-Err-clause-none
returns-in-Err-clause-none c = λ was targets scope widths are values among.
    let fault : c.in-Err.fault ≡ NotBuilt = cc in
    let there = of_all (λ (name : List ℕ). IsIn name (map target_of (map stmt_tree c.args.body.now))) (string_bytes c.register-item.result.name) (map (λ (v : Vector). string_bytes v.name) c.args.registers.now) among
    (to_map (λ (v : Vector). string_bytes v.name) c.register-item.result c.args.registers.now (item_in _ _ _ c.loop-register-test.true c.register-item.is)) in
    c.in-Err.ensures.none (ap (λ (e : ElabError). Err e) fault) (map stmt_tree c.args.body.now) c.in_ok-values.ensures targets scope widths are values
    (subst (λ (name : List ℕ). IsIn name (map target_of (map stmt_tree c.args.body.now))) (sym c.as_str.ensures.value) there)

at_end : (names : Meanings) (ts : List StmtTree) (registers : List Vector) (i : ℕ) (flats : List Flat) → length registers ≤ i →
    ((more : List Flat) → AreNexts names ts (map (λ (v : Vector). string_bytes v.name) (drop i registers)) more → AreNexts names ts (map (λ (v : Vector). string_bytes v.name) registers) (flats ++ more)) →
    AreNexts names ts (map (λ (v : Vector). string_bytes v.name) registers) flats
at_end names ts registers i flats end so =
    subst (λ (l : List Flat). AreNexts names ts (map (λ (v : Vector). string_bytes v.name) registers) l) (append-nil flats)
    (so [] (subst (λ (l : List Vector). AreNexts names ts (map (λ (v : Vector). string_bytes v.name) l) []) (sym (drop_all i registers end)) tt))

pub returns-clause-ok : goal.returns-clause-ok
returns-clause-ok c = at_end _ _ _ _ _ c.loop-register-test.false c.loop-register.invariant
