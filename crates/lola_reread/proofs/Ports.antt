-- Ports and constants are printed so that they are read again.
use Rattle.std.proofs.Common.{◌≡◌, ℕ, ◌<◌, ◌^◌, List, [], ◌∷◌, ◌++◌, map, codes, Some, refl, sym, ap, subst, ◌∙◌}
use Rattle.std.specs.List.{AllByRecursion}
use Rattle.lola_bits.proofs.All.{all_append, all_map}
use Rattle.lola_tree.specs.declared.named.Named.{Named}
use Rattle.lola_tree.specs.declared.named.Shape.{Shape}
use Rattle.lola_tree.specs.declared.module.Way.{Way}
use Rattle.lola_tree.specs.declared.module.Way.TheVariants.{Inward, Outward, Both}
use Rattle.lola_tree.specs.declared.module.Port.{Port}
use Rattle.lola_tree.specs.declared.module.Const.{Const}
use Rattle.lola_tree.specs.Places.{placeless_port, placeless_const}
use Rattle.lola_tree.specs.Print.{way_text, port_text, ports_text, const_text, consts_text}
use Rattle.lola_parse.specs.declared.symbol.Symbol.{Symbol}
use Rattle.lola_parse.specs.declared.symbol.Symbol.TheVariants as s
use Rattle.lola_parse.specs.Symbols.{Item}
use Rattle.lola_parse.specs.Grammar.{Stands, Passes, Names}
use Rattle.lola_parse.specs.Design.{MoreNames, no_name, one_name, NameList, name_list, way_of, port_of, Group, group, Directed, as_before, said, MoreGroups, no_group, one_group, Ports, no_port, some_ports, Constant, constant, MoreConstants, no_constant, one_constant}
use Rattle.lola_reread.proofs.GoodItems.{AllGood}
use Rattle.lola_reread.proofs.Prints.{Prints, Then, ◌and◌, read_as, nothing, reserved, named, numbered as number_printed, IsName, IsWidth}
use Rattle.lola_reread.proofs.Levels.{colon, assign, past_good}
use Rattle.lola_reread.proofs.Expressions.{past_name, past_number}
use Rattle.lola_reread.proofs.Lists.{grown, grown_none}
use Rattle.lola_reread.proofs.Shapes.{ShapeAgain, ShapePrinted, shape_done}
use Rattle.lola_reread.proofs.Statements.{NameAgain, semicolon}

abbrev pub HasName : Named → Type 0
HasName n = IsName n.name

-- the names of a list are names
more_names_done : (before names : List Named) (all rest : List Item) → MoreNames before all names rest → AllByRecursion HasName before → AllGood all → AllByRecursion HasName names × AllGood rest
more_names_done before names all rest (no_name same none) each good = (subst (AllByRecursion HasName) (sym same) each, subst AllGood (sym none) good)
more_names_done before names all rest (one_name {n = n} first behind stands name more) each good =
    let d = past_name name (past_good stands good) in
    more_names_done (before ++ n ∷ []) names behind rest more (all_append HasName before (n ∷ []) each (d.0, tt)) d.1.0

pub names_done : (names : List Named) (all rest : List Item) → NameList all names rest → AllGood all → AllByRecursion HasName names × AllGood rest
names_done names all rest (name_list {n = n} behind name more) good =
    let d = past_name name good in
    more_names_done (n ∷ []) names behind rest more (d.0, tt) d.1.0

-- a list of one name
pub one_listed : (n : Named) (all rest : List Item) → Names n.name n.at all rest → NameList all (n ∷ []) rest
one_listed n all rest name = name_list rest name (no_name refl refl)

pub record PortGood (p : Port) : Type 0 where
  pub name : IsName p.name
  pub shape : ShapePrinted p.shape

group_done : (way : Way) (before ports : List Port) (all rest : List Item) → Group way before all ports rest → AllByRecursion PortGood before → AllGood all → AllByRecursion PortGood ports × AllGood rest
group_done way before ports all rest (group {t = t} {names = names} mid behind list stands shaped is) each good =
    let d = names_done names all mid list good in
    let e = shape_done t behind rest shaped (past_good stands d.1) in
    let added = all_map HasName PortGood (port_of way t) (λ n name. record { name = name; shape = e.0 }) names d.0 in
    (subst (AllByRecursion PortGood) (sym is) (all_append PortGood before (map (port_of way t) names) each added), e.1)

directed_done : (before way : Way) (all rest : List Item) → Directed before all way rest → AllGood all → AllGood rest
directed_done before way all rest (as_before same none) good = subst AllGood (sym none) good
directed_done before way all rest (said stands reads) good = past_good stands good

more_groups_done : (way : Way) (before ports : List Port) (all rest : List Item) → MoreGroups way before all ports rest → AllByRecursion PortGood before → AllGood all → AllByRecursion PortGood ports × AllGood rest
more_groups_done way before ports all rest (no_group same none) each good = (subst (AllByRecursion PortGood) (sym same) each, subst AllGood (sym none) good)
more_groups_done way before ports all rest (one_group {next = next} {longer = longer} first second behind stands directed one more) each good =
    let d = group_done next before longer second behind one each (directed_done way next first second directed (past_good stands good)) in
    more_groups_done next longer ports behind rest more d.0 d.1

pub ports_done : (ports : List Port) (all rest : List Item) → Ports all ports rest → AllGood all → AllByRecursion PortGood ports × AllGood rest
ports_done ports all rest (no_port same none) good = (subst (AllByRecursion PortGood) (sym same) tt, subst AllGood (sym none) good)
ports_done ports all rest (some_ports {first = first} {way = way} second behind stands reads one more) good =
    let d = group_done way [] first second behind one tt (past_good stands good) in
    more_groups_done way first ports behind rest more d.0 d.1

-- the word of a direction
abbrev WayAgain : Way → List Item → List Item → Type 0
WayAgain way all rest = (symbol : Symbol) × ((at : ℕ) × (Stands symbol at all rest × (way_of symbol ≡ Some way)))

way_printed : (way : Way) → Prints (way_text way) 1 (WayAgain way)
way_printed Inward = read_as {Q = WayAgain Inward} (λ xs ys h. (s.In, (h.0, (h.1, refl)))) (reserved 73 (codes "N") 32 s.In refl refl refl refl)
way_printed Outward = read_as {Q = WayAgain Outward} (λ xs ys h. (s.Out, (h.0, (h.1, refl)))) (reserved 79 (codes "UT") 32 s.Out refl refl refl refl)
way_printed Both = read_as {Q = WayAgain Both} (λ xs ys h. (s.Inout, (h.0, (h.1, refl)))) (reserved 73 (codes "NOUT") 32 s.Inout refl refl refl refl)

-- a port: a direction and then a group of one
abbrev PortAgain : Port → List Item → List Item → Type 0
PortAgain p all rest =
    (again : Port) × ((second : List Item) × (WayAgain p.way all second × (((before : List Port) → Group p.way before second (before ++ again ∷ []) rest) × (placeless_port again ≡ placeless_port p))))

record PortPrinted (p : Port) : Type 0 where
  pub count : ℕ
  pub printed : Prints (port_text p) count (PortAgain p)

port_printed : (p : Port) → PortGood p → PortPrinted p
port_printed p good = record { count = _; printed = read_as {Q = PortAgain p} again (way_printed p.way and (named p.name good.name and (colon and good.shape.printed))) }
  where
    again : (all rest : List Item) → Then (WayAgain p.way) (Then (NameAgain p.name) (Then (Passes s.Colon) (ShapeAgain p.shape))) all rest → PortAgain p all rest
    again all rest (m1, (way, (m2, ((at, name), (m3, ((c, co), (t, (shaped, same)))))))) =
        let n : Named = record { name = p.name; at = at } in (
          port_of p.way t n,
          (
            m1,
            (
              way,
              (
                (λ before. group {names = n ∷ []} m2 m3 (one_listed n m1 m2 name) co shaped refl),
                ap (λ (x : Shape). let r : Port = record { way = p.way; name = p.name; shape = x; at = 0 } in r) same,
              ),
            ),
          ),
        )

-- the ports behind some
abbrev MorePortsAgain : List Port → List Item → List Item → Type 0
MorePortsAgain added all rest =
    (way : Way) (before : List Port) → (again : List Port) × (MoreGroups way before all again rest × (map placeless_port again ≡ map placeless_port before ++ map placeless_port added))

record MorePortsPrinted (added : List Port) : Type 0 where
  pub count : ℕ
  pub printed : Prints (ports_text (codes ";\n") added) count (MorePortsAgain added)

one_port_more : (p : Port) (added : List Port) → PortPrinted p → MorePortsPrinted added → MorePortsPrinted (p ∷ added)
one_port_more p added one more = record { count = _; printed = read_as {Q = MorePortsAgain (p ∷ added)} again (semicolon and (one.printed and more.printed)) }
  where
    again : (all rest : List Item) → Then (Passes s.Semicolon) (Then (PortAgain p) (MorePortsAgain added)) all rest → MorePortsAgain (p ∷ added) all rest
    again all rest (m1, ((q, semi), (m2, ((p', (second, ((symbol, (at, (st, reads))), (grouped, same)))), others)))) = λ way before.
        let go = others p.way (before ++ p' ∷ []) in
        (go.0, (one_group m1 second m2 semi (said st reads) (grouped before) go.1.0, grown placeless_port before added go.0 p' p go.1.1 same))

more_ports_printed : (added : List Port) → AllByRecursion PortGood added → MorePortsPrinted added
more_ports_printed [] each = record {
  count = 0;
  printed = read_as {Q = MorePortsAgain []} (λ xs ys h way before. (before, (no_group refl (sym h), grown_none placeless_port before))) nothing;
}
more_ports_printed (p ∷ added) each = one_port_more p added (port_printed p each.0) (more_ports_printed added each.1)

abbrev pub PortsAgain : List Port → List Item → List Item → Type 0
PortsAgain ports all rest = (again : List Port) × (Ports all again rest × (map placeless_port again ≡ map placeless_port ports))

pub record PortsPrinted (ports : List Port) : Type 0 where
  pub count : ℕ
  pub printed : Prints (ports_text [] ports) count (PortsAgain ports)

first_port : (p : Port) (added : List Port) → PortPrinted p → MorePortsPrinted added → PortsPrinted (p ∷ added)
first_port p added one more = record { count = _; printed = read_as {Q = PortsAgain (p ∷ added)} again (one.printed and more.printed) }
  where
    again : (all rest : List Item) → Then (PortAgain p) (MorePortsAgain added) all rest → PortsAgain (p ∷ added) all rest
    again all rest (m2, ((p', (second, ((symbol, (at, (st, reads))), (grouped, same)))), others)) =
        let go = others p.way (p' ∷ []) in
        (go.0, (some_ports second m2 st reads (grouped []) go.1.0, go.1.1 ∙ ap (λ x. x ∷ map placeless_port added) same))

pub ports_printed : (ports : List Port) → AllByRecursion PortGood ports → PortsPrinted ports
ports_printed [] each = record { count = 0; printed = read_as {Q = PortsAgain []} (λ xs ys h. ([], (no_port refl (sym h), refl))) nothing }
ports_printed (p ∷ added) each = first_port p added (port_printed p each.0) (more_ports_printed added each.1)

-- constants
pub record ConstGood (c : Const) : Type 0 where
  pub name : IsName c.name
  pub value : c.value < 2 ^ 128
  pub width : IsWidth c.width

const_done : (c : Const) (all rest : List Item) → Constant all c rest → AllGood all → ConstGood c × AllGood rest
const_done c all rest (constant sign behind mid name a num semi is) good =
    let d = past_name name good in
    let after = past_good a d.1.0 in
    let bounds = past_number num after in
    (subst ConstGood (sym is) (record { name = d.0; value = bounds.0; width = bounds.1 }), past_good semi (past_good num after))

pub more_consts_done : (before consts : List Const) (all rest : List Item) → MoreConstants before all consts rest → AllByRecursion ConstGood before → AllGood all → AllByRecursion ConstGood consts × AllGood rest
more_consts_done before consts all rest (no_constant same none) each good = (subst (AllByRecursion ConstGood) (sym same) each, subst AllGood (sym none) good)
more_consts_done before consts all rest (one_constant {c = c} behind one more) each good =
    let d = const_done c all behind one good in
    more_consts_done (before ++ c ∷ []) consts behind rest more (all_append ConstGood before (c ∷ []) each (d.0, tt)) d.1

abbrev ConstAgain : Const → List Item → List Item → Type 0
ConstAgain c all rest = (again : Const) × (Constant all again rest × (placeless_const again ≡ placeless_const c))

const_printed : (c : Const) → ConstGood c → Prints (const_text c) 4 (ConstAgain c)
const_printed c good = read_as {Q = ConstAgain c} again (named c.name good.name and (assign and (number_printed c.value c.width good.value good.width and semicolon)))
  where
    again : (all rest : List Item) → Then (NameAgain c.name) (Then (Passes s.Assign) (Then (λ xs ys. (at : ℕ) × Stands (s.Number c.value c.width) at xs ys) (Passes s.Semicolon))) all rest →
        ConstAgain c all rest
    again all rest (m1, ((at, name), (m2, ((p, a), (m3, ((q, num), (r, semi))))))) =
        (record { name = c.name; value = c.value; width = c.width; at = at; number_at = q }, (constant m1 m2 m3 name a num semi refl, refl))

-- the constants behind some
abbrev pub MoreConstsAgain : List Const → List Item → List Item → Type 0
MoreConstsAgain added all rest =
    (before : List Const) → (again : List Const) × (MoreConstants before all again rest × (map placeless_const again ≡ map placeless_const before ++ map placeless_const added))

pub record MoreConstsPrinted (added : List Const) : Type 0 where
  pub count : ℕ
  pub printed : Prints (consts_text [] added) count (MoreConstsAgain added)

one_const_more : (c : Const) (added : List Const) → ConstGood c → MoreConstsPrinted added → MoreConstsPrinted (c ∷ added)
one_const_more c added one more = record { count = _; printed = read_as {Q = MoreConstsAgain (c ∷ added)} again (const_printed c one and more.printed) }
  where
    again : (all rest : List Item) → Then (ConstAgain c) (MoreConstsAgain added) all rest → MoreConstsAgain (c ∷ added) all rest
    again all rest (m1, ((c', (one', same)), others)) = λ before.
        let go = others (before ++ c' ∷ []) in
        (go.0, (one_constant m1 one' go.1.0, grown placeless_const before added go.0 c' c go.1.1 same))

pub more_consts_printed : (added : List Const) → AllByRecursion ConstGood added → MoreConstsPrinted added
more_consts_printed [] each = record {
  count = 0;
  printed = read_as {Q = MoreConstsAgain []} (λ xs ys h before. (before, (no_constant refl (sym h), grown_none placeless_const before))) nothing;
}
more_consts_printed (c ∷ added) each = one_const_more c added each.0 (more_consts_printed added each.1)
