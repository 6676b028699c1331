-- What is known of modules, and what is known with one more.
use Rattle.std.proofs.Common.{◌≡◌, ℕ, suc, ◌+◌, max, sum, Bool, true, false, cond, if◌then◌else◌, bytes_eq, List, [], ◌∷◌, ◌++◌, map, flat_map, Option, Some, None, refl, sym, ap, ap₂, ◌∙◌, arith}
use Rattle.lola_bits.specs.Names.{is_among}
use Rattle.lola_tree.specs.declared.module.Port.{Port}
use Rattle.lola_tree.specs.declared.module.LocalKind.{LocalKind}
use Rattle.lola_tree.specs.declared.module.LocalKind.TheVariants.{Reg, Var, Inst}
use Rattle.lola_tree.specs.declared.module.Local.{Local}
use Rattle.lola_tree.specs.Tree.{ActualTree, StmtTree, ModuleTree}
use Rattle.lola_tree.specs.Names.{Names, names_of}
use Rattle.lola_tree.specs.design.Calls.{args_of}
use Rattle.lola_tree.specs.design.Clocks.{kind_clocks, clocks_in, clock_ports, passed_clocks}
use Rattle.lola_tree.specs.design.Signals.{kind_height, locals_height, height_inside}
use Rattle.lola_unfold.specs.declared.known.Outline.{Outline}
use Rattle.lola_unfold.specs.declared.known.Known.{Known}
use Rattle.lola_unfold.specs.Slots.{capped}
use Rattle.lola_unfold.specs.Tables.{Among, no_clock, clocks_with, clocks_by}
use Rattle.lola_unfold.specs.Measured.{port_size, kind_size, size_at, size_inside, outline_of, outline_ports, outline_size, outline_height, Knows, IsOutline}
use Rattle.lola_unfold.proofs.Tables.{clocks_are}
use Rattle.lola_unfold.proofs.Sums.{sum_cons}

-- the clocks of a module, by what is known of the ports of those before it and of its calls
kind_same : (ports known : List ℕ → List Bool) (args : List ℕ → List ActualTree) (body : List StmtTree) → ((name : List ℕ) → known name ≡ ports name) → ((name : List ℕ) → args name ≡ args_of body name) →
    (name : List ℕ) (k : LocalKind) → clocks_by known args name k ≡ kind_clocks ports body name k
kind_same ports known args body p a name (Reg clock type) = refl
kind_same ports known args body p a name (Var type) = refl
kind_same ports known args body p a name (Inst of) = ap₂ passed_clocks (p of.name) (a name)

locals_same : (ports known : List ℕ → List Bool) (args : List ℕ → List ActualTree) (body : List StmtTree) → ((name : List ℕ) → known name ≡ ports name) → ((name : List ℕ) → args name ≡ args_of body name) →
    (locals : List Local) → flat_map (λ (l : Local). clocks_by known args l.name l.kind) locals ≡ flat_map (λ (l : Local). kind_clocks ports body l.name l.kind) locals
locals_same ports known args body p a [] = refl
locals_same ports known args body p a (l ∷ locals) = ap₂ (λ xs ys. xs ++ ys) (kind_same ports known args body p a l.name l.kind) (locals_same ports known args body p a locals)

pub module_clocks : (E : List ModuleTree) (m : ModuleTree) (known : List ℕ → List Bool) (args : List ℕ → List ActualTree) → ((name : List ℕ) → known name ≡ clock_ports E name) →
    ((name : List ℕ) → args name ≡ args_of m.body name) → clocks_with no_clock (flat_map (λ (l : Local). clocks_by known args l.name l.kind) m.locals) ≡ is_among (clocks_in (clock_ports E) m)
module_clocks E m known args p a = clocks_are (flat_map (λ (l : Local). clocks_by known args l.name l.kind) m.locals) ∙ ap is_among (locals_same (clock_ports E) known args m.body p a m.locals)

-- heights that stand still
max_capped : (a b : ℕ) → max (capped a) (capped b) ≡ capped (max a b)
max_capped a b = omega arith

kind_capped : (known inside : List ℕ → ℕ) → ((name : List ℕ) → known name ≡ capped (inside name)) → (k : LocalKind) → kind_height known k ≡ capped (kind_height inside k)
kind_capped known inside same (Reg clock type) = omega arith
kind_capped known inside same (Var type) = omega arith
kind_capped known inside same (Inst of) = same of.name

pub locals_capped : (known inside : List ℕ → ℕ) → ((name : List ℕ) → known name ≡ capped (inside name)) → (locals : List Local) → locals_height known locals ≡ capped (locals_height inside locals)
locals_capped known inside same [] = omega arith
locals_capped known inside same (l ∷ locals) =
    ap₂ max (kind_capped known inside same l.kind) (locals_capped known inside same locals) ∙ max_capped (kind_height inside l.kind) (locals_height inside locals)

-- and sizes
plus_capped : (a b c d : ℕ) → capped a ≡ capped c → capped b ≡ capped d → capped (a + b) ≡ capped (c + d)
plus_capped a b c d e f = omega arith

capped_more : (a b : ℕ) → a ≡ capped b → capped (suc a) ≡ capped (suc b)
capped_more a b e = omega arith

size_capped : (known inside : List ℕ → ℕ) → ((name : List ℕ) → known name ≡ capped (inside name)) → (names : Names) (k : LocalKind) → capped (kind_size known names k) ≡ capped (kind_size inside names k)
size_capped known inside same names (Reg clock type) = refl
size_capped known inside same names (Var type) = refl
size_capped known inside same names (Inst of) = capped_more (known of.name) (inside of.name) (same of.name)

sizes_capped : (known inside : List ℕ → ℕ) → ((name : List ℕ) → known name ≡ capped (inside name)) → (names : Names) (locals : List Local) →
    capped (sum (map (λ (l : Local). kind_size known names l.kind) locals)) ≡ capped (sum (map (λ (l : Local). kind_size inside names l.kind) locals))
sizes_capped known inside same names [] = refl
sizes_capped known inside same names (l ∷ locals) =
    ap capped (sum_cons (kind_size known names l.kind) (map (λ (x : Local). kind_size known names x.kind) locals))
    ∙ plus_capped (kind_size known names l.kind) (sum (map (λ (x : Local). kind_size known names x.kind) locals)) (kind_size inside names l.kind) (sum (map (λ (x : Local). kind_size inside names x.kind) locals))
    (size_capped known inside same names l.kind) (sizes_capped known inside same names locals)
    ∙ sym (ap capped (sum_cons (kind_size inside names l.kind) (map (λ (x : Local). kind_size inside names x.kind) locals)))

capped_both : (a b c : ℕ) → capped b ≡ capped c → capped (capped a + capped b) ≡ capped (a + c)
capped_both a b c e = omega arith

-- ports and local names together
pub both_capped : (known inside : List ℕ → ℕ) → ((name : List ℕ) → known name ≡ capped (inside name)) → (names : Names) (clocks : Among) (ports : List Port) (locals : List Local) →
    capped (capped (sum (map (port_size names clocks) ports)) + capped (sum (map (λ (l : Local). kind_size known names l.kind) locals))) ≡ capped (size_at inside names clocks ports locals)
both_capped known inside same names clocks ports locals =
    capped_both (sum (map (port_size names clocks) ports)) (sum (map (λ (l : Local). kind_size known names l.kind) locals)) (sum (map (λ (l : Local). kind_size inside names l.kind) locals))
    (sizes_capped known inside same names locals)

-- no module is known at first
pub none_known : (known : Known) → ((name : List ℕ) → outline_of known name ≡ None) → Knows known []
none_known known none = record {
  ports = λ name. ap outline_ports (none name);
  sizes = λ name. ap outline_size (none name) ∙ (let e : 0 ≡ capped 0 = omega arith in e);
  heights = λ name. ap outline_height (none name) ∙ (let e : 0 ≡ capped 0 = omega arith in e);
}

one_more : {X : Type 0} (what : Option Outline → X) (b : Bool) (o : Outline) (old : Option Outline) (new others : X) → what (Some o) ≡ new → what old ≡ others → what (cond b (Some o) old) ≡ (if b then new else others)
one_more what true o old new others e f = e
one_more what false o old new others e f = f

capped_test : (b : Bool) (x y : ℕ) → (if b then capped x else capped y) ≡ capped (if b then x else y)
capped_test true x y = refl
capped_test false x y = refl

-- one module more
pub more_known : (old new : Known) (E : List ModuleTree) (m : ModuleTree) (o : Outline) → Knows old E → IsOutline o E m →
    ((name : List ℕ) → outline_of new name ≡ cond (bytes_eq m.name name) (Some o) (outline_of old name)) → Knows new (m ∷ E)
more_known old new E m o known is more = record {
  ports = λ name. ap outline_ports (more name) ∙ one_more outline_ports (bytes_eq m.name name) o (outline_of old name) (map (λ (p : Port). is_among (clocks_in (clock_ports E) m) p.name) m.ports) (clock_ports E name) is.ports (known.ports name);
  sizes = λ name.
      ap outline_size (more name)
      ∙ one_more outline_size (bytes_eq m.name name) o (outline_of old name) (capped (size_at (size_inside E) (names_of m) (is_among (clocks_in (clock_ports E) m)) m.ports m.locals)) (capped (size_inside E name)) is.size (known.sizes name)
      ∙ capped_test (bytes_eq m.name name) (size_at (size_inside E) (names_of m) (is_among (clocks_in (clock_ports E) m)) m.ports m.locals) (size_inside E name);
  heights = λ name.
      ap outline_height (more name)
      ∙ one_more outline_height (bytes_eq m.name name) o (outline_of old name) (capped (suc (locals_height (height_inside E) m.locals))) (capped (height_inside E name)) is.height (known.heights name)
      ∙ capped_test (bytes_eq m.name name) (suc (locals_height (height_inside E) m.locals)) (height_inside E name);
}

-- sizes and heights of what is the same
pub ports_same : (f g : Names) (a b : Among) (ps qs : List Port) → f ≡ g → a ≡ b → ps ≡ qs → capped (sum (map (port_size f a) ps)) ≡ capped (sum (map (port_size g b) qs))
ports_same f g a b ps qs d e h =
    ap (λ (x : Names). capped (sum (map (port_size x a) ps))) d ∙ ap (λ (x : Among). capped (sum (map (port_size g x) ps))) e ∙ ap (λ (x : List Port). capped (sum (map (port_size g b) x))) h

pub kinds_same : (known : List ℕ → ℕ) (f g : Names) (ls ms : List Local) → f ≡ g → ls ≡ ms →
    capped (sum (map (λ (l : Local). kind_size known f l.kind) ls)) ≡ capped (sum (map (λ (l : Local). kind_size known g l.kind) ms))
kinds_same known f g ls ms d e =
    ap (λ (x : Names). capped (sum (map (λ (l : Local). kind_size known x l.kind) ls))) d ∙ ap (λ (x : List Local). capped (sum (map (λ (l : Local). kind_size known g l.kind) x))) e

pub capped_suc : (n : ℕ) → capped (capped n + 1) ≡ capped (suc n)
capped_suc n = omega arith
