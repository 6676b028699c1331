use Rattle.std.proofs.Common.{◌≡◌, ◌∙◌, sym, ap, flat_map, drop, ◌+◌, ◌∷◌, arith, List, ℕ}
use Rattle.lola_bits.proofs.Places.{drop_item}
use Rattle.lola_tree.specs.declared.module.Local.{Local}
use Rattle.lola_unfold.specs.Tables.{Among, calls_in, args_or_none, clocks_found, clocks_with, clocks_by, no_clock}
use Rattle.lola_unfold.specs.Measured.{outline_of, outline_ports}
use Rattle.lola_unfold.proofs.Tables.{clocks_append}
use Rattle.lola_unfold.proofs.measure.clocks_of.Goals as goal

-- one name more
step : (old new all : Among) (by : Local → List (List ℕ)) (l : Local) (ls more : List Local) → ls ≡ l ∷ more → new ≡ clocks_with old (by l) → clocks_with old (flat_map by ls) ≡ all → clocks_with new (flat_map by more) ≡ all
step old new all by l ls more cut is before =
    ap (λ (c : Among). clocks_with c (flat_map by more)) is ∙ sym (clocks_append old (by l) (flat_map by more)) ∙ sym (ap (λ (xs : List Local). clocks_with old (flat_map by xs)) cut) ∙ before

pub loop-local-init : goal.loop-local-init
loop-local-init c =
    ap (λ (a : Among). clocks_with a (flat_map (λ (x : Local). clocks_by (λ other. outline_ports (outline_of c.args.known.now other)) (λ other. args_or_none (calls_in c.args.calls.now other)) x.name x.kind) c.args.locals.now))
    c.new-clocks.ensures

pub loop-local-preserved : goal.loop-local-preserved
loop-local-preserved c =
    let by = λ (x : Local). clocks_by (λ other. outline_ports (outline_of c.args.known.now other)) (λ other. args_or_none (calls_in c.args.calls.now other)) x.name x.kind in
    let locals = c.args.locals.now in
    step (clocks_found c.loop-local.clocks) (clocks_found c.add_kind_clocks.new.clocks) (clocks_with no_clock (flat_map by locals)) by c.local-item.result (drop c.loop-local.local-index locals)
    (drop (c.loop-local.local-index + 1) locals) (drop_item locals c.loop-local.local-index c.local-item.result (omega arith) c.local-item.is)
    (c.in_ok-add_kind_clocks.ensures ∙ ap (λ (n : List ℕ). clocks_with (clocks_found c.loop-local.clocks) (clocks_by (λ other. outline_ports (outline_of c.args.known.now other)) (λ other. args_or_none (calls_in c.args.calls.now other)) n c.local-item.result.kind)) c.text.ensures)
    c.loop-local.invariant
