-- What the names of a well sized module are.
use Rattle.std.proofs.Common.{◌≡◌, ◌≢◌, ℕ, Bool, true, false, cond, List, [], ◌∷◌, map, Option, Some, None, refl, ap, ◌∙◌, inl, inr}
use Rattle.std.specs.Prelude.{bytes_eq, nat_lt}
use Rattle.std.specs.List.{AllByRecursion}
use Rattle.lola_bits.specs.Lists.{IsIn, AreDistinct}
use Rattle.lola_bits.proofs.Names.{same_name, is_same_name}
use Rattle.lola_bits.proofs.Tests.{chosen_yes, none_unless}
use Rattle.lola_bits.proofs.Lists.{both_none}
use Rattle.lola_tree.specs.declared.named.Count.{Count}
use Rattle.lola_tree.specs.declared.named.Count.TheVariants as count
use Rattle.lola_tree.specs.declared.named.Shape.{Shape}
use Rattle.lola_tree.specs.declared.named.Shape.TheVariants as shape
use Rattle.lola_tree.specs.declared.module.Way.TheVariants.{Both}
use Rattle.lola_tree.specs.declared.module.Port.{Port}
use Rattle.lola_tree.specs.declared.module.Const.{Const}
use Rattle.lola_tree.specs.declared.module.LocalKind.{LocalKind}
use Rattle.lola_tree.specs.declared.module.LocalKind.TheVariants.{Reg, Var, Inst}
use Rattle.lola_tree.specs.declared.module.Local.{Local}
use Rattle.lola_tree.specs.Tree.{ModuleTree}
use Rattle.lola_tree.specs.Names.{Entry, port, constant, local, entry_name, entry_at, earlier, Names, names_of, count_number, constant_number}
use Rattle.lola_tree.specs.Width.{is_width, checked_width, is_number, written_width, vector_width}
use Rattle.lola_width.specs.NameFaults.{names_with, doubled, doubled_faults, no_clock, end_faults, count_faults, use_faults, is_constant, shape_faults, array_faults, type_faults, port_faults, kind_faults, local_faults}
use Rattle.lola_width.specs.declared.uses.Use.TheVariants as use_
use Rattle.lola_width.specs.Interface.{Seen}
use Rattle.lola_width.specs.WidthFaults.{count_at, too_wide, shape_widths, port_widths, kind_widths, local_widths, const_widths, number_faults}
use Rattle.lola_elab.specs.Small.{IsSmallConst, wide_in, IsSmallPort, IsSmallKind}
use Rattle.lola_elab.specs.Built.{IsPlain, IsPlainKind}

-- the name behind END
pub ends_right : (m : ModuleTree) → end_faults m ≡ [] → m.ends.name ≡ m.name
ends_right m none = is_same_name m.ends.name m.name (none_unless (bytes_eq m.ends.name m.name) _ none)

pub true_and_false : {b : Bool} → b ≡ true → b ≡ false → ⊥
true_and_false p q = cc

-- each name is declared once
neither : (a b : Option Entry) → earlier a b ≡ None → (a ≡ None) × (b ≡ None)
neither None b e = (refl, e)
neither (Some x) None e = absurd (cc)
neither (Some x) (Some y) e = absurd (go (nat_lt (entry_at y) (entry_at x)) e) where
  go : (b : Bool) → cond b (Some y) (Some x) ≡ None → ⊥
  go true e = cc
  go false e = cc

not_here : (b : Bool) (x : Entry) → cond b (Some x) None ≡ None → b ≡ false
not_here false x e = refl
not_here true x e = absurd (cc)

none_before : (o : Option Entry) (at : ℕ) (name : List ℕ) → doubled o at name ≡ [] → o ≡ None
none_before None at name e = refl
none_before (Some x) at name e = absurd (cc)

pub distinct_names : (names : Names) (es : List Entry) → doubled_faults names es ≡ [] →
    AreDistinct (map entry_name es) × ((n : List ℕ) → IsIn n (map entry_name es) → names n ≡ None)
distinct_names names [] none = (tt, λ n among. absurd among)
distinct_names names (e ∷ es) none =
    let split = both_none (doubled (names (entry_name e)) (entry_at e) (entry_name e)) (doubled_faults (names_with names (entry_name e) e) es) none in
    let ih = distinct_names (names_with names (entry_name e) e) es split.1 in
    let apart : (n : List ℕ) → IsIn n (map entry_name es) → (names n ≡ None) × (entry_name e ≢ n) = λ n among.
    let two = neither (names n) (cond (bytes_eq (entry_name e) n) (Some e) None) (ih.1 n among) in
    (two.0, λ same. true_and_false (same_name (entry_name e) n same) (not_here (bytes_eq (entry_name e) n) e two.1)) in (
      (λ among. (apart (entry_name e) among).1 refl, ih.0),
      λ n among. elim among [
        | inl same ↦ ap names same ∙ none_before (names (entry_name e)) (entry_at e) (entry_name e) split.0
        | inr later ↦ (apart n later).0
      ],
    )

-- constants are below 2 to their widths
pub constants_small : (cs : List Const) → const_widths cs ≡ [] → AllByRecursion IsSmallConst cs
constants_small [] none = tt
constants_small (c ∷ cs) none =
    let split = both_none (number_faults c.value c.width c.number_at) (const_widths cs) none in (
      record {
        width = written_width c.width;
        is = chosen_yes (is_number c.value c.width) (written_width c.width) (none_unless (is_number c.value c.width) _ split.0);
      },
      constants_small cs split.1,
    )

-- a count is a number
constant_has : (e : Entry) → is_constant e ≡ true → (n : ℕ) × (constant_number (Some e) ≡ Some n)
constant_has (port p) is = absurd (cc)
constant_has (constant c) is = (c.value, refl)
constant_has (local l) is = absurd (cc)

named_count : (o : Option Entry) (at : ℕ) (name : List ℕ) → use_faults use_.Count at name o ≡ [] → (n : ℕ) × (constant_number o ≡ Some n)
named_count None at name none = absurd (cc)
named_count (Some e) at name none = constant_has e (none_unless (is_constant e) _ none)

pub count_known : (names : Names) (c : Count) → count_faults names c ≡ [] → (n : ℕ) × (count_number names c ≡ Some n)
count_known names (count.Fixed value at) none = (value, refl)
count_known names (count.Const name) none = named_count (names name.name) name.at name.name none

-- vectors have their widths
not_too_wide : (at : ℕ) (o : Option ℕ) (n : ℕ) → o ≡ Some n → too_wide at o ≡ [] → checked_width o ≡ Some n
not_too_wide at None n is none = absurd (cc)
not_too_wide at (Some k) n is none =
    let same : k ≡ n = cc in
    chosen_yes (is_width k) k (none_unless (is_width k) _ none) ∙ ap (λ (j : ℕ). Some j) same

pub plain_wide : (names : Names) (type : Shape) → IsPlain type → shape_faults names type ≡ [] → shape_widths names type ≡ [] →
    (w : ℕ) × (vector_width names (Some type) ≡ Some w)
plain_wide names (shape.Vector width) plain counted wide =
    let n = count_known names width counted in
    (n.0, not_too_wide (count_at width) (count_number names width) n.0 n.1 wide)
plain_wide names (shape.Array count width) plain counted wide = absurd plain

plain_port : (names : Names) (at : ℕ) (name : List ℕ) (type : Shape) → array_faults names false at name type ≡ [] → IsPlain type
plain_port names at name (shape.Vector width) none = tt
plain_port names at name (shape.Array count width) none = absurd (cc)

pub ports_small : (m : ModuleTree) (ps : List Port) → AllByRecursion (λ (p : Port). p.way ≢ Both) ps → port_faults (names_of m) ps ≡ [] → port_widths (names_of m) ps ≡ [] →
    AllByRecursion (IsSmallPort (wide_in m)) ps
ports_small m [] ways named wide = tt
ports_small m (p ∷ ps) ways named wide =
    let names = names_of m in
    let one = both_none (type_faults names false p.at p.name p.shape) (port_faults names ps) named in
    let two = both_none (shape_faults names p.shape) (array_faults names false p.at p.name p.shape) one.0 in
    let three = both_none (shape_widths names p.shape) (port_widths names ps) wide in
    let w = plain_wide names p.shape (plain_port names p.at p.name p.shape two.1) two.0 three.0 in
    ((ways.0, record { width = w.0; is = w.1 }), ports_small m ps ways.1 one.1 three.1)

register_small : (m : ModuleTree) (seen : Seen) (clock : Option (List ℕ)) (at : ℕ) (name : List ℕ) (k : LocalKind) → IsPlainKind k →
    kind_faults (names_of m) seen clock at name k ≡ [] → kind_widths (names_of m) k ≡ [] → IsSmallKind (wide_in m) k
register_small m seen clock at name (Reg under type) plain named wide =
    let names = names_of m in
    let one = both_none (no_clock names clock under.at under.name (names under.name)) (type_faults names true at name type) named in
    let two = both_none (shape_faults names type) (array_faults names true at name type) one.1 in
    let w = plain_wide names type plain two.0 wide in
    record { width = w.0; is = w.1 }
register_small m seen clock at name (Var type) plain named wide = absurd plain
register_small m seen clock at name (Inst of) plain named wide = absurd plain

pub registers_small : (m : ModuleTree) (seen : Seen) (clock : Option (List ℕ)) (ls : List Local) → AllByRecursion (λ (l : Local). IsPlainKind l.kind) ls →
    local_faults (names_of m) seen clock ls ≡ [] → local_widths (names_of m) ls ≡ [] → AllByRecursion (λ (l : Local). IsSmallKind (wide_in m) l.kind) ls
registers_small m seen clock [] plain named wide = tt
registers_small m seen clock (l ∷ ls) plain named wide =
    let one = both_none (kind_faults (names_of m) seen clock l.at l.name l.kind) (local_faults (names_of m) seen clock ls) named in
    let two = both_none (kind_widths (names_of m) l.kind) (local_widths (names_of m) ls) wide in
    (register_small m seen clock l.at l.name l.kind plain.0 one.0 two.0, registers_small m seen clock ls plain.1 one.1 two.1)
