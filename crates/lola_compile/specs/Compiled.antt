-- What the text of a source is compiled to, and when it is not.
use Rattle.std.specs.Prelude.{◌≡◌, ℕ, List, length, Some, None}
use Rattle.lola_net.specs.declared.node.Node.{Node}
use Rattle.lola_net.specs.declared.node.Node.TheVariants.{Free, Latch, Pad, Gate}
use Rattle.lola_net.specs.declared.net.Net.{Net}
use Rattle.lola_net.specs.Counts as node
use Rattle.veri_text.specs.Layout.{net_text}
use Rattle.lola_lower.specs.Steps.{net_of}
use Rattle.lola_tree.specs.Tree.{SourceTree}
use Rattle.lola_flat.specs.Tree.{FlatTree}
use Rattle.lola_unfold.specs.Flat.{IsElaborated}
use Rattle.lola_source.specs.declared.fault.SourceRefusal.{SourceRefusal}
use Rattle.lola_source.specs.Accepts.{Accepts}
use Rattle.lola_source.specs.Refused.{IsRefused}
use Rattle.lola_compile.specs.declared.compiling.Counts.{Counts}
use Rattle.lola_compile.specs.declared.compiling.Compiled.{Compiled}
use Rattle.lola_compile.specs.declared.compiling.CompileError.{CompileError}
use Rattle.lola_compile.specs.declared.compiling.CompileError.TheVariants.{Refused, TooManyGates, Memory}

-- 1 for a gate, and how many there are
abbrev pub gate_here : Node → ℕ
gate_here (Free name) = 0
gate_here (Latch name next) = 0
gate_here (Pad name value release) = 0
gate_here (Gate a b) = 1

abbrev pub gate_count : List Node → ℕ
gate_count nodes = node.count_of gate_here nodes

-- the counts of a net: its bits of each kind, and its gates
pub record AreCounts (net : Net) (c : Counts) : Type 0 where
  pub inputs : c.inputs ≡ node.frees net.nodes
  pub outputs : c.outputs ≡ length net.outputs
  pub pads : c.pads ≡ node.pads net.nodes
  pub registers : c.registers ≡ node.latches net.nodes
  pub gates : c.gates ≡ gate_count net.nodes

-- the bytes spell an accepted source, whose flat design has this net
pub record HasNet (bytes : List ℕ) (net : Net) : Type 0 where
  pub S : SourceTree
  pub accepts : Accepts bytes S
  pub F : FlatTree
  pub elaborated : IsElaborated S F
  pub lowered : net_of F ≡ Some net

-- what was compiled is the text of the net of the source that the bytes spell, with the counts of that net
pub record IsCompiledOf (bytes : List ℕ) (compiled : Compiled) : Type 0 where
  pub net : Net
  pub has : HasNet bytes net
  pub text : compiled.text.items ≡ net_text net
  pub counts : AreCounts net compiled.counts

-- the bytes spell an accepted source, and the net of its flat design would have more gates than a net may have
pub record HasManyGates (bytes : List ℕ) : Type 0 where
  pub S : SourceTree
  pub accepts : Accepts bytes S
  pub F : FlatTree
  pub elaborated : IsElaborated S F
  pub none : net_of F ≡ None

-- when each refusal comes, want of memory aside
abbrev pub IsNotCompiled : List ℕ → CompileError → Type 0
IsNotCompiled bytes (Refused refusal) = IsRefused bytes refusal
IsNotCompiled bytes TooManyGates = HasManyGates bytes
IsNotCompiled bytes Memory = Unit {0}

-- a text has one result: at most one net, and it isn't refused besides
pub record HasOneNet (bytes : List ℕ) : Type 0 where
  pub same : (a b : Net) → HasNet bytes a → HasNet bytes b → a ≡ b
  pub never_full : (a : Net) → HasNet bytes a → HasManyGates bytes → ⊥
  pub never_refused : (a : Net) (r : SourceRefusal) → HasNet bytes a → IsRefused bytes r → ⊥
  pub never_full_refused : (r : SourceRefusal) → HasManyGates bytes → IsRefused bytes r → ⊥
