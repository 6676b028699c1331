-- Worked tables: the lists of their obligations, by name.
use Rattle.std.proofs.Common.{◌≡◌, ℕ, List, [], ◌∷◌, ◌++◌, length, refl, Some, None, true, false}
use Rattle.std.specs.Prelude.{codes, decimal}
use Rattle.lola_bits.specs.declared.op.Op.TheVariants as op
use Rattle.lola_tree.specs.declared.named.Count.TheVariants.{Fixed}
use Rattle.lola_tree.specs.declared.named.Shape.{Shape}
use Rattle.lola_tree.specs.declared.named.Shape.TheVariants.{Vector}
use Rattle.lola_tree.specs.Tree.{Tree, number, whole, slice, negation, binary}
use Rattle.tab_tree.specs.Table.{SetTree, idle_row, store_row, fetch_row, PhaseTree, InsideTree, ClassTree, TableTree}
use Rattle.obl_def.specs.Obligations.{obligations, obligation_names}

-- the name of an obligation of a class in a phase
abbrev pub at_phase : List ℕ → ℕ → List ℕ → List ℕ
at_phase class p text = class ++ (codes "/" ++ (decimal p ++ (codes "/" ++ text)))

abbrev pub named : List ℕ → Tree
named name = whole (record { source = false; path = name ∷ []; at = 0 })

abbrev pub register : List ℕ → Tree
register name = whole (record { source = true; path = name ∷ []; at = 0 })

abbrev pub sized : ℕ → ℕ → Tree
sized n width = number n (Some width) 0

abbrev pub bare : ℕ → Tree
bare n = number n None 0

abbrev pub of_width : ℕ → Shape
of_width n = Vector (Fixed n 0)

abbrev pub equal : Tree → Tree → Tree
equal a b = binary op.Eq a b 0

abbrev pub both : Tree → Tree → Tree
both a b = binary op.And a b 0

abbrev pub quiet : PhaseTree
quiet = record { turns = None; access = idle_row; shows = []; link = bare 1 }

abbrev pub sets : List ℕ → Tree → SetTree
sets name e = record { name = name; place = None; value = e }

-- a first phase, two turns and a last phase, where cycles may be stalled; q is shown throughout
abbrev pub turning_link : Tree
turning_link = both (equal (register (codes "a")) (named (codes "t1")))
    (equal (register (codes "c")) (binary op.Add (slice (record { source = false; path = codes "k" ∷ []; at = 0 }) (Fixed 1 0) (Fixed 0 0) 0) (sized 1 2) 0))

abbrev pub turning_phase : PhaseTree
turning_phase = record {
  turns = Some (record { times = 2; shape = of_width 1; first = named (codes "q"); step = negation (named (codes "t1")) 0 });
  access = idle_row;
  shows = [];
  link = turning_link;
}

abbrev pub last_phase : PhaseTree
last_phase = record { turns = None; access = idle_row; shows = []; link = both (equal (register (codes "a")) (named (codes "t1"))) (equal (register (codes "c")) (sized 3 2)) }

abbrev pub turning : InsideTree
turning = record { lets = []; phases = quiet ∷ turning_phase ∷ last_phase ∷ []; sets = sets (codes "q") (negation (named (codes "t1")) 0) ∷ [] }

abbrev pub turning_class : ClassTree
turning_class = record { name = codes "go"; pattern = codes "-"; inside = Some turning }

abbrev pub turning_table : TableTree
turning_table = record {
  name = codes "TT";
  root = codes "Tri";
  roles = record {
    reset = record { port = codes "rst"; value = true };
    stall = Some (record { port = codes "st"; value = true });
    code = None;
    fetched = None;
    loaded = None;
    bus = None;
  };
  states = record { name = codes "q"; shape = of_width 1; shown = register (codes "q") } ∷ [];
  fields = [];
  invariant = bare 1;
  boundary = equal (register (codes "c")) (sized 0 2);
  starts = sets (codes "q") (bare 0) ∷ [];
  start_fetch = None;
  classes = turning_class ∷ [];
}

turning_names : obligation_names turning_table
    ≡ codes "cover" ∷ codes "reset/INVARIANT" ∷ codes "reset/BOUNDARY" ∷ codes "reset/q"
    ∷ at_phase (codes "go") 0 (codes "stall/INVARIANT") ∷ at_phase (codes "go") 0 (codes "stall/BOUNDARY") ∷ at_phase (codes "go") 0 (codes "stall/q")
    ∷ at_phase (codes "go") 0 (codes "on/INVARIANT") ∷ at_phase (codes "go") 0 (codes "on/LINK") ∷ at_phase (codes "go") 0 (codes "on/q")
    ∷ at_phase (codes "go") 1 (codes "stall/INVARIANT") ∷ at_phase (codes "go") 1 (codes "stall/LINK") ∷ at_phase (codes "go") 1 (codes "stall/q")
    ∷ at_phase (codes "go") 1 (codes "turn/INVARIANT") ∷ at_phase (codes "go") 1 (codes "turn/LINK") ∷ at_phase (codes "go") 1 (codes "turn/q")
    ∷ at_phase (codes "go") 1 (codes "on/INVARIANT") ∷ at_phase (codes "go") 1 (codes "on/LINK") ∷ at_phase (codes "go") 1 (codes "on/q")
    ∷ at_phase (codes "go") 2 (codes "stall/INVARIANT") ∷ at_phase (codes "go") 2 (codes "stall/LINK") ∷ at_phase (codes "go") 2 (codes "stall/q")
    ∷ at_phase (codes "go") 2 (codes "end/INVARIANT") ∷ at_phase (codes "go") 2 (codes "end/BOUNDARY") ∷ at_phase (codes "go") 2 (codes "end/q") ∷ []
turning_names = refl

turning_count : length (obligations turning_table) ≡ 25
turning_count = refl

-- one phase with an access, without STALL and CODE
abbrev pub storing_phase : PhaseTree
storing_phase = record { turns = None; access = store_row (named (codes "q")) (bare 0) (named (codes "q")); shows = []; link = bare 1 }

abbrev pub storing : InsideTree
storing = record { lets = []; phases = storing_phase ∷ []; sets = sets (codes "q") (negation (named (codes "q")) 0) ∷ [] }

abbrev pub storing_class : ClassTree
storing_class = record { name = codes "go"; pattern = codes "-"; inside = Some storing }

abbrev pub storing_table : TableTree
storing_table = record {
  name = codes "TA";
  root = codes "Acc";
  roles = record {
    reset = record { port = codes "rst"; value = true };
    stall = None;
    code = None;
    fetched = None;
    loaded = None;
    bus = Some (record { read = codes "rd"; write = codes "wr"; address = codes "ad"; byte = codes "be"; word = codes "d" });
  };
  states = record { name = codes "q"; shape = of_width 1; shown = register (codes "q") } ∷ [];
  fields = [];
  invariant = bare 1;
  boundary = bare 1;
  starts = sets (codes "q") (bare 0) ∷ [];
  start_fetch = None;
  classes = storing_class ∷ [];
}

storing_names : obligation_names storing_table
    ≡ codes "cover" ∷ codes "reset/INVARIANT" ∷ codes "reset/BOUNDARY" ∷ codes "reset/q"
    ∷ at_phase (codes "go") 0 (codes "end/INVARIANT") ∷ at_phase (codes "go") 0 (codes "end/BOUNDARY") ∷ at_phase (codes "go") 0 (codes "end/q") ∷ at_phase (codes "go") 0 (codes "end/ACCESS") ∷ []
storing_names = refl

storing_count : length (obligations storing_table) ≡ 8
storing_count = refl

-- a table with CODE, a bus, a stall, a fetch and a class outside
abbrev pub coded_table : TableTree
coded_table = record storing_table {
  roles = record storing_table.roles { stall = Some (record { port = codes "st"; value = true }); code = Some (register (codes "I")); fetched = Some (codes "m") };
  start_fetch = Some (bare 0);
  classes =
      record {
        name = codes "nop";
        pattern = codes "0";
        inside = Some (record {
          lets = [];
          phases = record { turns = None; access = fetch_row (named (codes "q")); shows = []; link = bare 1 } ∷ [];
          sets = [];
        });
      }
      ∷ record { name = codes "rest"; pattern = codes "1"; inside = None } ∷ [];
}

coded_names : obligation_names coded_table
    ≡ codes "cover" ∷ codes "reset/INVARIANT" ∷ codes "reset/BOUNDARY" ∷ codes "reset/CODE" ∷ codes "reset/q" ∷ codes "reset/ACCESS"
    ∷ at_phase (codes "nop") 0 (codes "stall/INVARIANT") ∷ at_phase (codes "nop") 0 (codes "stall/BOUNDARY") ∷ at_phase (codes "nop") 0 (codes "stall/CODE") ∷ at_phase (codes "nop") 0 (codes "stall/q")
    ∷ at_phase (codes "nop") 0 (codes "end/INVARIANT") ∷ at_phase (codes "nop") 0 (codes "end/BOUNDARY") ∷ at_phase (codes "nop") 0 (codes "end/CODE") ∷ at_phase (codes "nop") 0 (codes "end/q") ∷ at_phase (codes "nop") 0 (codes "end/ACCESS") ∷ []
coded_names = refl
