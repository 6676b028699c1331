-- Names that are declared once stand for their declarations.
use Rattle.std.proofs.Common.{◌≡◌, ◌≢◌, ℕ, List, [], ◌∷◌, ◌++◌, map, Some, None, refl, sym, ◌∙◌, ap, ap₂, subst, inl, inr}
use Rattle.std.specs.Prelude.{bytes_eq}
use Rattle.std.proofs.lemmas.Bool.{cond-true, cond-false}
use Rattle.lola_bits.specs.Lists.{IsIn, AreDistinct}
use Rattle.lola_bits.proofs.Lists.{to_map, in_front, in_back}
use Rattle.lola_bits.proofs.Names.{same_name, other_name}
use Rattle.lola_tree.specs.declared.module.Port.{Port}
use Rattle.lola_tree.specs.declared.module.Const.{Const}
use Rattle.lola_tree.specs.declared.module.Local.{Local}
use Rattle.lola_tree.specs.Tree.{ModuleTree}
use Rattle.lola_tree.specs.Names.{Entry, port, constant, local, entry_name, entries, earlier, first_named, names_of}

-- a name that isn't among the declared stands for nothing
none_named : (es : List Entry) (name : List ℕ) → (IsIn name (map entry_name es) → ⊥) → first_named es name ≡ None
none_named [] name none = refl
none_named (x ∷ xs) name none =
    ap₂ earlier
    (cond-false (bytes_eq (entry_name x) name) (Some x) None (other_name (entry_name x) name (λ same. none (inl (sym same)))))
    (none_named xs name (λ later. none (inr later)))

-- among distinct names a name is first where it is
first_is : (es : List Entry) (e : Entry) → AreDistinct (map entry_name es) → IsIn e es → first_named es (entry_name e) ≡ Some e
first_is [] e distinct is = absurd is
first_is (x ∷ xs) e distinct (inl same) =
    let name : entry_name x ≡ entry_name e = ap entry_name (sym same) in
    ap₂ earlier
    (cond-true (bytes_eq (entry_name x) (entry_name e)) (Some x) None (same_name (entry_name x) (entry_name e) name) ∙ ap (λ (y : Entry). Some y) (sym same))
    (none_named xs (entry_name e) (λ later. distinct.0 (subst (λ (n : List ℕ). IsIn n (map entry_name xs)) (sym name) later)))
first_is (x ∷ xs) e distinct (inr later) =
    let apart : entry_name x ≢ entry_name e = λ same. distinct.0 (subst (λ (n : List ℕ). IsIn n (map entry_name xs)) (sym same) (to_map entry_name e xs later)) in
    ap₂ earlier
    (cond-false (bytes_eq (entry_name x) (entry_name e)) (Some x) None (other_name (entry_name x) (entry_name e) apart))
    (first_is xs e distinct.1 later)

-- a port and a local stand for themselves
pub port_named : (m : ModuleTree) (p : Port) → AreDistinct (map entry_name (entries m)) → IsIn p m.ports → names_of m p.name ≡ Some (port p)
port_named m p distinct is = first_is (entries m) (port p) distinct (in_front (port p) (map port m.ports) (map constant m.consts ++ map local m.locals) (to_map port p m.ports is))

pub const_named : (m : ModuleTree) (c : Const) → AreDistinct (map entry_name (entries m)) → IsIn c m.consts → names_of m c.name ≡ Some (constant c)
const_named m c distinct is =
    first_is (entries m) (constant c) distinct (in_back (constant c) (map port m.ports) (map constant m.consts ++ map local m.locals)
    (in_front (constant c) (map constant m.consts) (map local m.locals) (to_map constant c m.consts is)))

pub local_named : (m : ModuleTree) (l : Local) → AreDistinct (map entry_name (entries m)) → IsIn l m.locals → names_of m l.name ≡ Some (local l)
local_named m l distinct is =
    first_is (entries m) (local l) distinct (in_back (local l) (map port m.ports) (map constant m.consts ++ map local m.locals)
    (in_back (local l) (map constant m.consts) (map local m.locals) (to_map local l m.locals is)))

-- the declared names are those of ports, constants and locals
local_entries : (ls : List Local) → map entry_name (map local ls) ≡ map (λ (l : Local). l.name) ls
local_entries [] = refl
local_entries (l ∷ ls) = ap (λ (ns : List (List ℕ)). l.name ∷ ns) (local_entries ls)

const_entries : (cs : List Const) (ls : List Local) → map entry_name (map constant cs ++ map local ls) ≡ map (λ (c : Const). c.name) cs ++ map (λ (l : Local). l.name) ls
const_entries [] ls = local_entries ls
const_entries (c ∷ cs) ls = ap (λ (ns : List (List ℕ)). c.name ∷ ns) (const_entries cs ls)

pub entry_names : (ps : List Port) (cs : List Const) (ls : List Local) →
    map entry_name (map port ps ++ (map constant cs ++ map local ls)) ≡ map (λ (p : Port). p.name) ps ++ (map (λ (c : Const). c.name) cs ++ map (λ (l : Local). l.name) ls)
entry_names [] cs ls = const_entries cs ls
entry_names (p ∷ ps) cs ls = ap (λ (ns : List (List ℕ)). p.name ∷ ns) (entry_names ps cs ls)
