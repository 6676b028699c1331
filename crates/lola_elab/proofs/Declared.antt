-- What is read of a module's declarations, in the module's terms.
use Rattle.std.proofs.Common.{◌≡◌, ℕ, ◌+◌, ◌≤◌, not, ◌&&◌, List, ◌++◌, length, map, filter, None, refl, sym, ◌∙◌, ap, subst, arith}
use Rattle.std.specs.List.{AllByRecursion}
use Rattle.std.proofs.lemmas.List.{length-map}
use Rattle.lola_bits.proofs.Lists.{filter_few}
use Rattle.lola_bits.specs.Names.{is_among}
use Rattle.lola_bits.specs.Lists.{AreDistinct}
use Rattle.lola_tree.specs.declared.named.Shape.{Shape}
use Rattle.lola_tree.specs.declared.named.Shape.TheVariants as shape
use Rattle.lola_tree.specs.declared.module.Port.{Port}
use Rattle.lola_tree.specs.declared.module.Const.{Const}
use Rattle.lola_tree.specs.declared.module.Local.{Local}
use Rattle.lola_tree.specs.Tree.{ModuleTree}
use Rattle.lola_tree.specs.Names.{entry_name, entries}
use Rattle.lola_tree.specs.Width.{checked_width}
use Rattle.lola_tree.specs.Signals.{is_inward}
use Rattle.lola_elab.specs.declared.vector.Vector.{Vector}
use Rattle.lola_elab.specs.Small.{Wide, wide_in, IsSmallConst}
use Rattle.lola_elab.specs.Declares.{Sized, sized, sized_port, sized_local, inputs_under, wide_of, const_entry, port_names, const_names, local_names}
use Rattle.lola_elab.specs.Meanings.{Meanings}
use Rattle.lola_elab.specs.Tables.{updated}
use Rattle.lola_elab.proofs.Entries.{entry_names}
use Rattle.lola_elab.proofs.Tables.{IsTableOf, counts_are, const_table}

wide_same : (m : ModuleTree) (names : Meanings) → AreDistinct (map entry_name (entries m)) → IsTableOf m names → (type : Shape) → wide_of names type ≡ wide_in m type
wide_same m names distinct table (shape.Vector width) = ap checked_width (sym (counts_are m names distinct table width))
wide_same m names distinct table (shape.Array count width) = refl

pub wides_are : (m : ModuleTree) (names : Meanings) → AreDistinct (map entry_name (entries m)) → IsTableOf m names → wide_of names ≡ wide_in m
wides_are m names distinct table = λ i type. wide_same m names distinct table type i

pub distinct_entries : (m : ModuleTree) → AreDistinct (port_names m.ports ++ (const_names m.consts ++ local_names m.locals)) → AreDistinct (map entry_name (entries m))
distinct_entries m distinct = subst AreDistinct (sym (entry_names m.ports m.consts m.locals)) distinct

pub constants_wide : (m : ModuleTree) (names : Meanings) (consts : List Const) → AreDistinct (map entry_name (entries m)) → AllByRecursion IsSmallConst m.consts → consts ≡ m.consts →
    ((q : List ℕ) → names q ≡ updated (map const_entry consts) q None) → wide_of names ≡ wide_in m
constants_wide m names consts distinct fit same is =
    wides_are m names distinct (const_table m names fit (subst (λ (ks : List Const). (q : List ℕ) → names q ≡ updated (map const_entry ks) q None) same is))

pub few_vectors : (wide : Wide) (clock : List (List ℕ)) (ports : List Port) (locals : List Local) (inputs registers : List Vector) → map sized inputs ≡ inputs_under wide clock ports →
    map sized registers ≡ map (sized_local wide) locals → length ports + length locals ≤ 65536 → length inputs + length registers ≤ 65536
few_vectors wide clock ports locals inputs registers i r few =
    let a : length inputs ≡ length (inputs_under wide clock ports) = sym (length-map inputs sized) ∙ ap (λ (l : List Sized). length l) i in
    let b : length registers ≡ length locals = sym (length-map registers sized) ∙ ap (λ (l : List Sized). length l) r ∙ length-map locals (sized_local wide) in
    let c = length-map (filter (λ (p : Port). is_inward p.way && not (is_among clock p.name)) ports) (sized_port wide) in
    let d = filter_few (λ (p : Port). is_inward p.way && not (is_among clock p.name)) ports in
    omega (arith, a, b, c, d)
