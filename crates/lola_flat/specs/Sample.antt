-- A flat design with a signal of each kind, by their numbers: the clock c and an input a, the pad p, a wire w, a
-- register r and an array R of two elements. The pad is driven with r where a is 0, w is what the pad carries, the
-- register's next value is the element of R at w, and w is written to R at a.
use Rattle.std.specs.Prelude.{[], ◌∷◌, Some, None}
use Rattle.lola_bits.specs.declared.op.Op.TheVariants as op
use Rattle.lola_flat.specs.declared.design.SigKind.TheVariants.{Input, Pad, Wire, Register}
use Rattle.lola_flat.specs.Tree.{signal, from_outside, element, apply, no_expr, one_expr, SignalTree, FlatTree}

abbrev pub the_clock : SignalTree
the_clock = record { path = (99 ∷ []) ∷ []; kind = Input; width = 1; count = 1; place = None; equation = None }

abbrev pub the_input : SignalTree
the_input = record { path = (97 ∷ []) ∷ []; kind = Input; width = 1; count = 1; place = None; equation = None }

abbrev pub the_pad : SignalTree
the_pad = record {
  path = (112 ∷ []) ∷ [];
  kind = Pad;
  width = 1;
  count = 1;
  place = None;
  equation = Some (apply op.Mux (one_expr (signal 1) (one_expr (from_outside 2) (one_expr (signal 4) no_expr))));
}

abbrev pub the_wire : SignalTree
the_wire = record { path = (119 ∷ []) ∷ []; kind = Wire; width = 1; count = 1; place = None; equation = Some (signal 2) }

abbrev pub the_register : SignalTree
the_register = record { path = (114 ∷ []) ∷ []; kind = Register; width = 1; count = 1; place = None; equation = Some (element 5 (signal 3)) }

abbrev pub the_array : SignalTree
the_array = record { path = (82 ∷ []) ∷ []; kind = Register; width = 1; count = 2; place = Some (signal 1); equation = Some (signal 3) }

abbrev pub sample : FlatTree
sample = record {
  root = 83 ∷ [];
  clock = Some (99 ∷ []);
  ports = 0 ∷ 1 ∷ 2 ∷ [];
  signals = the_clock ∷ the_input ∷ the_pad ∷ the_wire ∷ the_register ∷ the_array ∷ [];
  order = 2 ∷ 3 ∷ [];
}
