use Rattle.std.proofs.Common.{◌≤◌, length, List, [], ◌∷◌, ◌++◌, map, sym, ap, subst, ◌∙◌, arith}
use Rattle.lola_bits.proofs.Places.{map_more, no_items}
use Rattle.lola_tree.specs.Tree.{ModuleTree, module_tree, source_tree}
use Rattle.lola_parse.specs.Design.{MoreModules, no_module, next_module, spells}
use Rattle.lola_parse.proofs.Whole.{made_on}
use Rattle.lola_parse.proofs.Steps.{was_read, by_read}
use Rattle.lola_parse.proofs.Modules.{source_step, more_modules_step, more_modules_over}
use Rattle.lola_parse.proofs.Suffix.{◌then◌}
use Rattle.lola_parse.proofs.Endings.{module_ends, long_on}
use Rattle.lola_parse.proofs.module.source.Goals as goal

pub modules-init : goal.modules-init
modules-init c =
    let items = ap (map module_tree) (c.in_ok-push.ensures.items ∙ ap (λ v. v ++ c.in_ok-first.first ∷ []) c.new-modules.ensures.items) in
    record {
      whole = λ t read.
          subst (λ ms. MoreModules ms c.in_ok-first.behind t.modules []) (sym items)
          (was_read (λ m mid. MoreModules (m ∷ []) mid t.modules []) (source_step read) c.in_ok-first.ensures.whole);
      ends = module_ends c.in_ok-first.ensures.ok;
      reads = λ t more. spells _ c.in_ok-first.ensures.ok (subst (λ ms. MoreModules ms c.in_ok-first.behind t.modules []) items more);
    }

pub modules-preserved : goal.modules-preserved
modules-preserved c =
    let items = map_more module_tree c.modules.modules.items _ c.in_ok-next.next c.in_ok-push-2.ensures.items in
    let left = c.left.ensures in
    record {
      whole = λ t read.
          subst (λ ms. MoreModules ms c.in_ok-next.rest t.modules []) (sym items)
          (was_read (λ m mid. MoreModules (map module_tree c.modules.modules.items ++ m ∷ []) mid t.modules [])
          (more_modules_step (c.modules.invariant.whole t read) (omega arith)) c.in_ok-next.ensures.whole);
      ends = c.modules.invariant.ends then module_ends c.in_ok-next.ensures.ok;
      reads = λ t more.
          c.modules.invariant.reads t (next_module _ c.in_ok-next.ensures.ok (subst (λ ms. MoreModules ms c.in_ok-next.rest t.modules []) items more));
    }

pub returns : goal.returns
returns c =
    let none : length c.modules.behind ≤ 0 = omega arith in
    record {
      ok = c.modules.invariant.reads (source_tree record { modules = c.of.result })
          (no_module (ap (map module_tree) c.of.ensures) (no_items c.modules.behind none));
      whole = λ t read.
          let same = ap (map module_tree) c.of.ensures ∙ more_modules_over (c.modules.invariant.whole t read) none in
          ap (λ (ms : List ModuleTree). record { modules = ms }) same;
      long = tt;
    }

pub returns-in_err-first-clause-whole : goal.returns-in_err-first-clause-whole
returns-in_err-first-clause-whole c = λ t read. made_on _ t _ _ c.from_residual.ensures.1 (by_read (source_step read) c.in_err-first.ensures.whole)

pub returns-in_err-next-clause-whole : goal.returns-in_err-next-clause-whole
returns-in_err-next-clause-whole c =
    λ t read.
    let left = c.left.ensures in
    made_on _ t _ _ c.from_residual-in_err-next.ensures.1
    (by_read (more_modules_step (c.modules.invariant.whole t read) (omega arith)) c.in_err-next.ensures.whole)

pub returns-in_err-next-clause-long : goal.returns-in_err-next-clause-long
returns-in_err-next-clause-long c =
    long_on _ _ c.modules.invariant.ends c.from_residual-in_err-next.ensures.1 c.in_err-next.ensures.long
