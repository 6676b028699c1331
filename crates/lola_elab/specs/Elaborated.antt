-- What a design of vectors has of the source that it was made of.
use Rattle.std.specs.Prelude.{◌≡◌, ℕ, List, ◌++◌, map, Option, Some, string_bytes}
use Rattle.lola_tree.specs.Tree.{ModuleTree, SourceTree}
use Rattle.lola_tree.specs.Names.{names_of}
use Rattle.lola_tree.specs.Width.{entry_width}
use Rattle.lola_tree.specs.Value.{Path, Values}
use Rattle.lola_tree.specs.Cycle.{IsRegister, IsState, Cycle, Next}
use Rattle.lola_tree.specs.Signals.{input_names, register_names, values_of, IsSignal}
use Rattle.lola_tree.specs.declared.named.Shape.{Shape}
use Rattle.lola_elab.specs.declared.design.Design.{Design}
use Rattle.lola_elab.specs.declared.flat.Flat.{Flat}
use Rattle.lola_elab.specs.declared.vector.Vector.{Vector}
use Rattle.lola_elab.specs.Flat.{flat_width, flat_number}
use Rattle.lola_elab.specs.Small.{IsSmallSource}

-- the leaves: the inputs but the clock, and then the registers
abbrev pub leaf_names : ModuleTree → List (List ℕ)
leaf_names m = input_names m ++ register_names m.locals

-- the names and the widths of vectors
abbrev pub vector_names : List Vector → List (List ℕ)
vector_names vectors = map (λ (v : Vector). string_bytes v.name) vectors

abbrev pub vector_widths : List Vector → List ℕ
vector_widths vectors = map (λ (v : Vector). v.width) vectors

-- the widths of a module's names, where they have one
abbrev pub widths_of : ModuleTree → List (List ℕ) → List (Option ℕ)
widths_of m names = map (λ (name : List ℕ). entry_width (names_of m) (names_of m name)) names

-- the widths of the leaves of a design
abbrev pub leaf_widths : Design → List ℕ
leaf_widths d = vector_widths d.inputs.items ++ vector_widths d.registers.items

-- the design of a source in the small form: its names are the source's, in text order, with their
-- widths, and the registers' next values over the leaves are those of the source, whatever the leaves'
-- values are, each in its register's width
pub record Elaborates (S : SourceTree) (d : Design) : Type 0 where
  pub small : IsSmallSource S
  pub root : string_bytes d.root ≡ small.root.name
  pub inputs : vector_names d.inputs.items ≡ input_names small.root
  pub registers : vector_names d.registers.items ≡ register_names small.root.locals
  pub widths : map (λ (w : ℕ). Some w) (leaf_widths d) ≡ widths_of small.root (leaf_names small.root)
  pub next_widths : map (flat_width (leaf_widths d)) d.nexts.items ≡ map (λ (v : Vector). Some v.width) d.registers.items
  pub nexts : (v s' : Values) → Next S v s' →
      values_of s' (register_names small.root.locals) ≡ map (λ (f : Flat). flat_number (leaf_widths d) f (values_of v (leaf_names small.root))) d.nexts.items

-- a state and an input have one cycle: there is one, any two agree on each signal, next values stand
-- behind it, any two agree on each register, and they are a state
pub record HasOneCycle (S : SourceTree) (s inp : Values) : Type 0 where
  pub cycle : (v : Values) × Cycle S s inp v
  pub same : (v w : Values) → Cycle S s inp v → Cycle S s inp w → (path : Path) → IsSignal S path → v path 0 ≡ w path 0
  pub next : (v : Values) → (s' : Values) × Next S v s'
  pub same_next : (v s' t' : Values) → Next S v s' → Next S v t' → (path : Path) (type : Shape) → IsRegister S path type → s' path 0 ≡ t' path 0
  pub next_state : (v s' : Values) → Cycle S s inp v → Next S v s' → IsState S s'
