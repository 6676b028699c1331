-- Worked tables, evaluated: turns, an access, a word with fields, and the widths and names of each.
use Rattle.std.proofs.Common.{◌≡◌, ℕ, List, [], ◌∷◌, refl, Some, None, true, false, arith}
use Rattle.std.specs.Prelude.{codes}
use Rattle.std.specs.List.{AllByRecursion}
use Rattle.lola_bits.specs.declared.op.Op.TheVariants as op
use Rattle.lola_tree.specs.declared.named.Count.TheVariants.{Fixed}
use Rattle.lola_tree.specs.declared.named.Shape.{Shape}
use Rattle.lola_tree.specs.declared.named.Shape.TheVariants.{Vector, Array}
use Rattle.lola_tree.specs.declared.module.Way.TheVariants.{Inward, Outward}
use Rattle.lola_tree.specs.declared.module.Port.{Port}
use Rattle.lola_tree.specs.declared.module.LocalKind.TheVariants.{Reg, Inst}
use Rattle.lola_tree.specs.declared.module.Local.{Local}
use Rattle.lola_tree.specs.Tree.{Tree, number, whole, slice, negation, binary, SourceTree}
use Rattle.lola_tree.specs.Width.{width}
use Rattle.tab_tree.specs.declared.value.StateValue.TheVariants.{One, Many}
use Rattle.tab_tree.specs.declared.value.Answer.{Answer}
use Rattle.tab_tree.specs.declared.value.Access.TheVariants.{Idle, Store, Fetch}
use Rattle.tab_tree.specs.Table.{SetTree, idle_row, take_row, store_row, fetch_row, PhaseTree, InsideTree, TableTree}
use Rattle.tab_tree.specs.Names.{vector, vector_form, look, scope_by}
use Rattle.tab_tree.specs.Registers.{registers_of}
use Rattle.tab_tree.specs.Step.{next_arch, next_word, instruction_rows, cycles_of, fits}
use Rattle.tab_tree.specs.Headline.{shown, shown_word}
use Rattle.tab_tree.specs.Placed.{Placed, placed, word_width}
use Rattle.tab_tree.specs.Fits.{HasWidth, Reads, IsAVector, IsAnArray, PhasesShaped, is_word_name}

abbrev named : List ℕ → Tree
named name = whole (record { source = false; path = name ∷ []; at = 0 })

abbrev register : List ℕ → Tree
register name = whole (record { source = true; path = name ∷ []; at = 0 })

abbrev sized : ℕ → ℕ → Tree
sized n width = number n (Some width) 0

abbrev bare : ℕ → Tree
bare n = number n None 0

abbrev of_width : ℕ → Shape
of_width n = Vector (Fixed n 0)

abbrev equal : Tree → Tree → Tree
equal a b = binary op.Eq a b 0

abbrev plus : Tree → Tree → Tree
plus a b = binary op.Add a b 0

abbrev both : Tree → Tree → Tree
both a b = binary op.And a b 0

abbrev port : List ℕ → ℕ → Port
port name width = record { way = Inward; name = name; shape = of_width width; at = 0 }

abbrev local : List ℕ → ℕ → Local
local name width = record { kind = Reg (record { name = codes "clk"; at = 0 }) (of_width width); name = name; at = 0 }

abbrev design : List Port → List Local → SourceTree
design ports locals = record {
  modules = record { name = codes "M"; ports = ports; consts = []; locals = locals; body = []; ends = record { name = codes "M"; at = 0 }; at = 0 } ∷ [];
}

abbrev quiet : PhaseTree
quiet = record { turns = None; access = idle_row; shows = []; link = bare 1 }

abbrev sets : List ℕ → Tree → SetTree
sets name e = record { name = name; place = None; value = e }

-- two turns: FROM q STEP ~t1, then q := ~t1
abbrev turns_inside : InsideTree
turns_inside = record {
  lets = [];
  phases =
      quiet
      ∷ record {
        turns = Some (record { times = 2; shape = of_width 1; first = named (codes "q"); step = negation (named (codes "t1")) 0 });
        access = idle_row;
        shows = [];
        link = both (equal (register (codes "a")) (named (codes "t1")))
            (equal (register (codes "c")) (plus (slice (record { source = false; path = codes "k" ∷ []; at = 0 }) (Fixed 1 0) (Fixed 0 0) 0) (sized 1 2)));
      }
      ∷ record { turns = None; access = idle_row; shows = []; link = both (equal (register (codes "a")) (named (codes "t1"))) (equal (register (codes "c")) (sized 3 2)) } ∷ [];
  sets = sets (codes "q") (negation (named (codes "t1")) 0) ∷ [];
}

abbrev turns_table : TableTree
turns_table = record {
  name = codes "TT";
  root = codes "M";
  roles = record {
    reset = record { port = codes "rst"; value = true };
    stall = Some (record { port = codes "st"; value = true });
    code = None;
    fetched = None;
    loaded = None;
    bus = None;
  };
  states = record { name = codes "q"; shape = of_width 1; shown = register (codes "q") } ∷ [];
  fields = [];
  invariant = bare 1;
  boundary = equal (register (codes "c")) (sized 0 2);
  starts = sets (codes "q") (bare 0) ∷ [];
  start_fetch = None;
  classes = record { name = codes "go"; pattern = codes "-"; inside = Some turns_inside } ∷ [];
}

abbrev turns_design : SourceTree
turns_design = design (port (codes "clk") 1 ∷ port (codes "rst") 1 ∷ port (codes "st") 1 ∷ []) (local (codes "q") 1 ∷ local (codes "a") 1 ∷ local (codes "c") 2 ∷ [])

turns_take : cycles_of turns_inside.phases ≡ 4
turns_take = refl

turns_step : next_arch turns_table turns_inside (One (vector 1 0) ∷ []) (vector 1 0) [] 0 ≡ One (vector 1 1) ∷ []
turns_step = refl

turns_back : next_arch turns_table turns_inside (One (vector 1 1) ∷ []) (vector 1 0) [] 0 ≡ One (vector 1 0) ∷ []
turns_back = refl

turns_idle : instruction_rows turns_table turns_inside (One (vector 1 0) ∷ []) (vector 1 0) [] 0 ≡ Idle ∷ Idle ∷ Idle ∷ Idle ∷ []
turns_idle = refl

turns_shaped : PhasesShaped turns_table turns_inside.phases
turns_shaped = (
  record { turns = tt; last = tt; access = tt; fetch = refl },
  (
    record { turns = (omega arith, omega arith, refl); last = tt; access = tt; fetch = refl },
    (record { turns = tt; last = refl; access = tt; fetch = refl }, tt),
  ),
)

turns_widths : AllByRecursion (λ (e : Placed). HasWidth e.wanted (width (scope_by e.names) e.expr)) (placed turns_design turns_table)
turns_widths = (refl, (refl, (refl, (refl, (refl, (refl, (refl, (refl, (refl, (refl, tt))))))))))

turns_known : AllByRecursion (λ (e : Placed). Reads (λ r. IsAVector (look e.names r)) (λ r. IsAnArray (look e.names r)) e.expr) (placed turns_design turns_table)
turns_known = (tt, (tt, ((tt, tt), (tt, (tt, (tt, (tt, (((tt, tt), (tt, (tt, tt))), (((tt, tt), (tt, tt)), (tt, tt))))))))))

-- an access: STORE q DATA q, then q := ~q
abbrev store_inside : InsideTree
store_inside = record {
  lets = [];
  phases = record { turns = None; access = store_row (named (codes "q")) (bare 0) (named (codes "q")); shows = []; link = bare 1 } ∷ [];
  sets = sets (codes "q") (negation (named (codes "q")) 0) ∷ [];
}

store_rows : instruction_rows turns_table store_inside (One (vector 1 1) ∷ []) (vector 1 0) [] 0 ≡ Store (vector 1 1) false (vector 1 1) ∷ []
store_rows = refl

store_sets : next_arch turns_table store_inside (One (vector 1 1) ∷ []) (vector 1 0) [] 0 ≡ One (vector 1 0) ∷ []
store_sets = refl

-- a word with fields: a processor that stores its own words, or goes on
abbrev next_place : Tree
next_place = plus (named (codes "p")) (sized 4 8)

abbrev word_table : TableTree
word_table = record {
  name = codes "TM";
  root = codes "M";
  roles = record {
    reset = record { port = codes "rst"; value = true };
    stall = Some (record { port = codes "st"; value = true });
    code = Some (register (codes "I"));
    fetched = Some (codes "m");
    loaded = Some (codes "m");
    bus = Some (record { read = codes "rd"; write = codes "wr"; address = codes "adr"; byte = codes "be"; word = codes "d" });
  };
  states = record { name = codes "p"; shape = of_width 8; shown = register (codes "p") } ∷ [];
  fields = record { name = codes "low"; value = slice (record { source = false; path = codes "i" ∷ []; at = 0 }) (Fixed 7 0) (Fixed 0 0) 0 } ∷ [];
  invariant = bare 1;
  boundary = negation (register (codes "f")) 0;
  starts = sets (codes "p") (sized 0 8) ∷ [];
  start_fetch = Some (sized 0 8);
  classes =
      record {
        name = codes "nop";
        pattern = codes "0-------------------------------";
        inside = Some (record {
          lets = [];
          phases = record { turns = None; access = fetch_row next_place; shows = []; link = bare 1 } ∷ [];
          sets = sets (codes "p") next_place ∷ [];
        });
      }
      ∷ record {
        name = codes "sto";
        pattern = codes "1-------------------------------";
        inside = Some (record {
          lets = record { name = codes "n"; value = next_place } ∷ [];
          phases =
              record { turns = None; access = store_row (named (codes "low")) (bare 0) (named (codes "i")); shows = []; link = bare 1 }
              ∷ record { turns = None; access = fetch_row (named (codes "n")); shows = []; link = register (codes "f") } ∷ [];
          sets = sets (codes "p") (named (codes "n")) ∷ [];
        });
      } ∷ [];
}

abbrev word_design : SourceTree
word_design =
    design
    (port (codes "clk") 1 ∷ port (codes "rst") 1 ∷ port (codes "st") 1 ∷ port (codes "m") 32 ∷ record { way = Outward; name = codes "adr"; shape = of_width 8; at = 0 }
    ∷ record { way = Outward; name = codes "d"; shape = of_width 32; at = 0 } ∷ [])
    (local (codes "I") 32 ∷ local (codes "p") 8 ∷ local (codes "f") 1 ∷ [])

abbrev sto : InsideTree
sto = record {
  lets = record { name = codes "n"; value = next_place } ∷ [];
  phases =
      record { turns = None; access = store_row (named (codes "low")) (bare 0) (named (codes "i")); shows = []; link = bare 1 }
      ∷ record { turns = None; access = fetch_row (named (codes "n")); shows = []; link = register (codes "f") } ∷ [];
  sets = sets (codes "p") (named (codes "n")) ∷ [];
}

word_fits : fits (codes "1-------------------------------") 2147483680 ≡ true
word_fits = refl

abbrev answer : ℕ → Answer
answer n = record { code = vector 32 n; loaded = vector 32 n }

word_rows : instruction_rows word_table sto (One (vector 8 0) ∷ []) (vector 32 2147483680) (answer 7 ∷ answer 9 ∷ []) 0
    ≡ Store (vector 8 32) false (vector 32 2147483680) ∷ Fetch (vector 8 4) ∷ []
word_rows = refl

word_steps : next_arch word_table sto (One (vector 8 0) ∷ []) (vector 32 2147483680) (answer 7 ∷ answer 9 ∷ []) 0 ≡ One (vector 8 4) ∷ []
word_steps = refl

word_next : next_word sto (answer 7 ∷ answer 9 ∷ answer 11 ∷ []) 0 ≡ vector 32 9
word_next = refl

word_is : word_width word_design word_table ≡ 32
word_is = refl

word_widths : AllByRecursion (λ (e : Placed). HasWidth e.wanted (width (scope_by e.names) e.expr)) (placed word_design word_table)
word_widths = (refl, (refl, ((λ e. cc), (refl, (refl, (refl, (refl, (refl, (refl, (refl, ((λ e. cc), (refl, (refl, (refl, (refl, (refl, (refl, (refl, tt))))))))))))))))))

-- the word that a phase loads is that of its own cycle's answer, and SET rows count together
abbrev swap_table : TableTree
swap_table = record turns_table {
  states =
      record { name = codes "x"; shape = of_width 8; shown = register (codes "x") }
      ∷ record { name = codes "y"; shape = of_width 8; shown = register (codes "y") }
      ∷ record { name = codes "r"; shape = Array (Fixed 2 0) (Fixed 8 0); shown = register (codes "r") } ∷ [];
}

abbrev swap_inside : InsideTree
swap_inside = record {
  lets = [];
  phases = quiet ∷ record { turns = None; access = take_row; shows = []; link = bare 1 } ∷ quiet ∷ [];
  sets = sets (codes "x") (named (codes "y")) ∷ sets (codes "y") (named (codes "x")) ∷ record { name = codes "r"; place = Some (bare 1); value = named (codes "d1") } ∷ [];
}

swap_steps : next_arch swap_table swap_inside (One (vector 8 3) ∷ One (vector 8 5) ∷ Many (vector 8 0 ∷ vector 8 1 ∷ []) ∷ []) (vector 1 0)
    (record { code = vector 1 0; loaded = vector 8 20 } ∷ record { code = vector 1 0; loaded = vector 8 21 } ∷ record { code = vector 1 0; loaded = vector 8 22 } ∷ []) 0
    ≡ One (vector 8 5) ∷ One (vector 8 3) ∷ Many (vector 8 0 ∷ vector 8 21 ∷ []) ∷ []
swap_steps = refl

-- a register of an instance is named by its path
abbrev two_modules : SourceTree
two_modules = record {
  modules =
      record { name = codes "A"; ports = []; consts = []; locals = local (codes "x") 5 ∷ []; body = []; ends = record { name = codes "A"; at = 0 }; at = 0 }
      ∷ record {
        name = codes "B";
        ports = [];
        consts = [];
        locals = record { kind = Inst (record { name = codes "A"; at = 0 }); name = codes "u"; at = 0 } ∷ [];
        body = [];
        ends = record { name = codes "B"; at = 0 };
        at = 0;
      } ∷ [];
}

path_is : registers_of two_modules (codes "u" ∷ codes "x" ∷ []) ≡ Some (vector_form 5)
path_is = refl

path_is_none : registers_of two_modules (codes "x" ∷ []) ≡ None
path_is_none = refl

shown_is : shown turns_design turns_table (λ path n. 1) ≡ One (vector 1 1) ∷ []
shown_is = refl

word_shown_is : shown_word word_design word_table (λ path n. 77) ≡ vector 32 77
word_shown_is = refl

words : (is_word_name (codes "i") ≡ true) × (is_word_name (codes "d00") ≡ true) × (is_word_name (codes "t1") ≡ true) × (is_word_name (codes "d") ≡ false) × (is_word_name (codes "d1x") ≡ false) × (is_word_name (codes "in") ≡ false)
words = (refl, refl, refl, refl, refl, refl)
