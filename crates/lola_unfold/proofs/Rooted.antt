-- The root of a design at its place, and the signals of the whole.
use Rattle.std.proofs.Common.{◌≡◌, ℕ, ◌+◌, ◌≤◌, List, [], ◌∷◌, map, flat_map, length, replicate, reverse, Option, Some, None, refl, sym, ap, ap₂, ◌∙◌, subst, arith, Bor}
use Rattle.std.proofs.lemmas.List.{reverse-reverse, length-map}
use Rattle.lola_tree.specs.Tree.{ModuleTree, SourceTree}
use Rattle.lola_tree.specs.Value.{Path}
use Rattle.lola_tree.specs.design.Clocks.{clocks_in, clock_ports}
use Rattle.lola_tree.specs.design.Places.{pad_of, own_pads, Place, root_places}
use Rattle.lola_tree.specs.design.Signals.{Signal, root_signals, signals, signal_paths}
use Rattle.lola_design.specs.Once.{AllOnce}
use Rattle.lola_design.specs.Paths.{count}
use Rattle.lola_design.specs.Graph.{number_of}
use Rattle.lola_design.proofs.Paths.{paths, paths_once}
use Rattle.lola_flat.specs.Numbers.{first_numbers}
use Rattle.lola_flat.specs.Tree.{SignalTree}
use Rattle.lola_unfold.specs.declared.slots.Slots.{Slots as SlotTable}
use Rattle.lola_unfold.specs.declared.slots.Base.{Base}
use Rattle.lola_unfold.specs.declared.part.Part.{Part}
use Rattle.lola_unfold.specs.declared.site.Site.{Site}
use Rattle.lola_unfold.specs.Slots.{capped, plus, number_after, number_from, offset_of}
use Rattle.lola_unfold.specs.Tables.{PadNumbers, no_clock, no_pads, pads_with_all, pad_or, pads_found, pad_number, own_numbers}
use Rattle.lola_unfold.specs.Translated.{Numbers}
use Rattle.lola_unfold.specs.Flat.{seen_from, flat_signal, clock_name, root_name, port_count, flat_design}
use Rattle.lola_unfold.specs.Offsets.{find, own_paths, paths_inside, IsTable, AreTables}
use Rattle.lola_unfold.specs.Pieces.{view_at, head, put_all, place_puts, place_nexts}
use Rattle.lola_unfold.specs.Parts.{path_in, view_in, Stands}
use Rattle.lola_unfold.specs.Root.{IsReady, root_numbers, all_made, turned, all_signals, design_of}
use Rattle.lola_unfold.specs.Finished.{signals_from}
use Rattle.lola_unfold.proofs.Find.{or_all, number_found, IsBelow, found_below}
use Rattle.lola_unfold.proofs.Laying.{root_leads, root_count}
use Rattle.lola_unfold.proofs.Inside.{root_paths}
use Rattle.lola_unfold.proofs.Entering.{numbered, pad_found, own_are}
use Rattle.lola_unfold.proofs.Walking.{same_view}
use Rattle.lola_unfold.proofs.Filled.{equations_put, updates_put, finished_are}

after_found : (n : ℕ) (o : Option ℕ) → IsBelow n o → n ≤ 65536 → number_after 0 n (plus 0 o) ≡ or_all n o
after_found n None below few = refl
after_found n (Some k) below few = let e : capped (0 + capped (0 + k)) ≡ k = omega arith in e

few_capped : (n k : ℕ) → n ≡ capped k → n ≤ 65536 → n ≡ k
few_capped n k e few = omega arith

-- the root
abbrev pub the_root : List ModuleTree → ModuleTree → Place
the_root E m = record { module_ = m; path = []; clocks = clocks_in (clock_ports E) m; pads = own_pads m.ports; caller = None }

module _ (tables : Bor (List SlotTable)) (parts : List Part) (part : Part) (at count : ℕ) (E : List ModuleTree) (m : ModuleTree) (ready : IsReady tables.now parts part at count E m) (few : count ≤ 65536) where
  abbrev pub xs : List Path
  xs = own_paths no_clock (paths_inside E) m

  abbrev pub N : Numbers
  N = root_numbers (m ∷ E)

  count_is : count ≡ length (own_paths no_clock (paths_inside E) m)
  count_is = few_capped count (length (own_paths no_clock (paths_inside E) m)) (ready.counts ∙ root_count tables.now E m no_clock ready.all_tables ready.once) few

  abbrev pub base : Base
  base = record { tables = tables; at = at; first = 0; none = count }

  here_at : (x : Path) → number_from base x ≡ N x
  here_at x =
      ap (number_after 0 count) (ap (λ (k : ℕ). offset_of tables.now k x) ready.is_at ∙ root_leads tables.now E m no_clock ready.all_tables ready.table ready.once x)
      ∙ ap (λ (n : ℕ). number_after 0 n (plus 0 (find xs x))) count_is
      ∙ after_found (length xs) (find xs x) (found_below xs x) (subst (λ (n : ℕ). n ≤ 65536) count_is few)
      ∙ sym (ap (λ (ys : List Path). number_of ys x) (root_paths E m) ∙ number_found xs x)

  pub root_count_is : count ≡ length (paths (root_signals (m ∷ E)))
  root_count_is = count_is ∙ sym (ap length (root_paths E m))

  pub root_stands : (site : Site) → site.base ≡ base → path_in site.path.items ≡ [] →
      pads_found site.pads ≡ pads_with_all no_pads (own_numbers (λ (name : List ℕ). number_from base (name ∷ [])) part.declared.now.ports) → site.pads.none ≡ count → Stands N parts site part E (the_root E m)
  root_stands site is_base path pads none = record {
    at = ap (λ (b : Base). b.at) is_base ∙ ready.is_at;
    all_parts = ready.all_parts;
    is_part = ready.is_part;
    all_tables = subst (λ (b : Base). AreTables b.tables.now E) (sym is_base) ready.all_tables;
    clocks = no_clock;
    table = subst (λ (b : Base). IsTable b.tables.now (length E) no_clock E m) (sym is_base) ready.table;
    once = ready.once;
    view = same_view (view_in part site) (view_at N (the_root E m)) ready.is_part.names ready.is_part.registers ready.is_part.clocks here pads_are path;
    none = none_is;
  }
    where
      here : number_from site.base ≡ seen_from N []
      here = ap number_from is_base ∙ (λ i x. here_at x i)

      none_is : site.pads.none ≡ N []
      none_is = none ∙ here_at []

      found_are : pads_found site.pads ≡ pads_with_all no_pads (numbered N (own_pads m.ports))
      found_are =
          pads
          ∙ ap (λ (f : List ℕ → ℕ). pads_with_all no_pads (own_numbers f part.declared.now.ports)) (λ i name. here_at (name ∷ []) i)
          ∙ ap (λ (n : ModuleTree). pads_with_all no_pads (own_numbers (λ (name : List ℕ). N (name ∷ [])) n.ports)) ready.is_part.is
          ∙ ap (pads_with_all no_pads) (own_are N m.ports)

      pads_at : (name : List ℕ) → pad_number site.pads name ≡ N (pad_of (own_pads m.ports) name)
      pads_at name = ap₂ (λ (n : ℕ) (f : PadNumbers). pad_or n (f name)) none_is found_are ∙ pad_found N (own_pads m.ports) name

      pads_are : pad_number site.pads ≡ (λ (name : List ℕ). N (pad_of (own_pads m.ports) name))
      pads_are = λ i name. pads_at name i

-- the signals of a design with all that gives them values
abbrev made_signals : List ModuleTree → List SignalTree
made_signals ms =
    signals_from (map head (root_signals ms)) (put_all (replicate (length (paths (root_signals ms))) None) (flat_map (place_puts (root_numbers ms)) (root_places ms)))
    (put_all (replicate (length (paths (root_signals ms))) None) (flat_map (place_nexts (root_numbers ms)) (root_places ms)))

design_signals : (S : SourceTree) → ((x : Path) → count x (signal_paths S) ≤ 1) → made_signals (reverse S.modules) ≡ map (flat_signal S) (signals S)
design_signals S once = ap₂ (λ es ns. signals_from (map head (signals S)) es ns) (equations_put S once) (updates_put S once) ∙ finished_are S (signals S)

pub turned_back : (S : SourceTree) → turned (reverse S.modules) ≡ S
turned_back S = let e = reverse-reverse S.modules in λ i. record { modules = e i }

pub made_are : (n : ℕ) (ms : List ModuleTree) → AllOnce ms → n ≡ length (paths (root_signals ms)) →
    signals_from (all_made n ms).heads (all_made n ms).equations (all_made n ms).nexts ≡ all_signals ms
made_are n ms once is =
    ap (λ (k : ℕ). signals_from (all_made k ms).heads (all_made k ms).equations (all_made k ms).nexts) is
    ∙ subst (λ (ks : List ModuleTree). made_signals ks ≡ map (flat_signal (turned ms)) (root_signals ks)) (reverse-reverse ms)
    (design_signals (turned ms) (paths_once (turned ms) (subst AllOnce (sym (reverse-reverse ms)) once)))

-- the design of a source
pub design_is : (S : SourceTree) → design_of (reverse S.modules) ≡ flat_design S []
design_is S =
    let e = ap (λ (T : SourceTree). map (flat_signal T) (signals S)) (turned_back S) in
    λ i. record { root = root_name (reverse S.modules); clock = clock_name (signals S); ports = first_numbers (port_count (reverse S.modules)); signals = e i; order = [] }

pub signals_count : (n : ℕ) (ms : List ModuleTree) (made : List SignalTree) → made ≡ all_signals ms → n ≡ length (paths (root_signals ms)) → length made ≡ n
signals_count n ms made is count = ap length is ∙ length-map (root_signals ms) (flat_signal (turned ms)) ∙ sym (length-map (root_signals ms) (λ (s : Signal). s.path)) ∙ sym count
