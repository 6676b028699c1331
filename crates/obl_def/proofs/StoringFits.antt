-- The table of the worked design with an access suits that design, so that its obligations say something.
use Rattle.std.proofs.Common.{[], ◌∷◌, refl, arith, inl, inr}
use Rattle.std.specs.Prelude.{codes}
use Rattle.lola_tree.specs.Names.{names_of}
use Rattle.lola_tree.specs.Tree.{ModuleTree}
use Rattle.lola_tree.specs.design.Signals.{input}
use Rattle.lola_tree.specs.declared.module.Way.TheVariants.{Outward}
use Rattle.tab_tree.specs.Fits.{IsInPort, IsOutPort, IsFitting}
use Rattle.obl_def.proofs.Tables.{named, of_width, storing_class, storing_table}
use Rattle.obl_def.proofs.Storing.{port, acc_module, acc}

abbrev root : ModuleTree
root = acc_module (named (codes "q"))

reset_port : IsInPort acc (codes "rst")
reset_port = record {
  signal = record { path = codes "rst" ∷ []; kind = input; names = names_of root; type = of_width 1 };
  listed = (inr (inl refl), refl);
  leads = refl;
  vector = λ e. cc;
}

reads : IsOutPort acc (codes "rd")
reads = record { root = root; is_root = ([], refl); port = port Outward (codes "rd"); declared = inr (inr (inl refl)); outward = refl; named = refl; vector = λ e. cc }

writes : IsOutPort acc (codes "wr")
writes = record { root = root; is_root = ([], refl); port = port Outward (codes "wr"); declared = inr (inr (inr (inl refl))); outward = refl; named = refl; vector = λ e. cc }

bytes : IsOutPort acc (codes "be")
bytes = record { root = root; is_root = ([], refl); port = port Outward (codes "be"); declared = inr (inr (inr (inr (inl refl)))); outward = refl; named = refl; vector = λ e. cc }

address : IsOutPort acc (codes "ad")
address = record { root = root; is_root = ([], refl); port = port Outward (codes "ad"); declared = inr (inr (inr (inr (inr (inl refl))))); outward = refl; named = refl; vector = λ e. cc }

word : IsOutPort acc (codes "d")
word = record { root = root; is_root = ([], refl); port = port Outward (codes "d"); declared = inr (inr (inr (inr (inr (inr (inl refl)))))); outward = refl; named = refl; vector = λ e. cc }

storing_fits : IsFitting acc storing_table
storing_fits = record {
  small = record { classes = omega arith; phases = (omega arith, tt) };
  once = record {
    classes = ((λ is. is), tt);
    names = ((λ is. is), tt);
    declarable = (refl, tt);
    starts = ((λ is. is), tt);
    inside = (record { names = ((λ is. is), tt); declarable = (refl, tt); sets = ((λ is. is), tt); shows = (tt, tt) }, tt);
  };
  known = record {
    root = record { root = root; is_root = ([], refl); named = refl };
    read = ((λ e. cc), (tt, (tt, (tt, ((λ e. cc), (tt, ((λ e. cc), (tt, ((λ e. cc), tt)))))))));
    starts = ((λ e. cc), tt);
    sets = ((((λ e. cc), tt), (tt, tt)), tt);
  };
  kinds = record {
    read = (tt, (tt, (tt, (tt, (tt, (tt, (tt, (tt, (tt, tt)))))))));
    arrays = (tt, tt);
    starts = ((tt, refl), tt);
    sets = (((refl, tt), (tt, tt)), tt);
    turns = ((tt, tt), tt);
  };
  roles = record {
    reset = (reset_port, refl);
    stall = tt;
    fetched = tt;
    loaded = tt;
    bus = record { read = (reads, refl); write = (writes, refl); byte = (bytes, refl); address = address; word = word };
    code = refl;
    fetches_apart = ((λ is. is), tt);
    loads_apart = ((λ is. is), tt);
  };
  widths = record {
    exprs = (refl, (refl, (refl, (refl, (refl, (refl, (refl, (refl, (refl, tt)))))))));
    states = (refl, tt);
    arrays = (tt, tt);
    turns = ((tt, tt), tt);
  };
  patterns = ((refl, (inl refl, tt)), tt);
  phases = record {
    start = refl;
    first = (record { shows = refl; link = (refl, refl); turns = refl }, tt);
    each = ((record { turns = tt; last = refl; access = λ e. cc; fetch = refl }, tt), tt);
  };
  apart = (tt, tt);
  inside = record { class = storing_class; listed = inl refl; inside = λ e. cc };
}
