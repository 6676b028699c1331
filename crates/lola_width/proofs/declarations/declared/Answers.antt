use Rattle.std.proofs.Common.{refl}
use Rattle.lola_width.proofs.Faults.{first_append}
use Rattle.lola_width.proofs.Naming.{with_all_append, doubled_append, all_named}
use Rattle.lola_width.proofs.declarations.declared.Goals as goal

pub returns-clause-table : goal.returns-clause-table
returns-clause-table c =
    rw (
      c.in_ok-declare_locals.ensures.table,
      c.in_ok-declare_consts.ensures.table,
      c.in_ok-declare_ports.ensures.table,
      c.new-table.ensures,
      c.items.ensures,
      c.items-2.ensures,
      c.items-3.ensures,
      ← with_all_append,
      ← with_all_append,
      all_named,
    ) refl

pub returns-clause-first : goal.returns-clause-first
returns-clause-first c =
    rw (
      c.in_ok-declare_locals.ensures.first,
      c.in_ok-declare_consts.ensures.first,
      c.in_ok-declare_ports.ensures.first,
      c.in_ok-declare_consts.ensures.table,
      c.in_ok-declare_ports.ensures.table,
      c.new-table.ensures,
      c.items.ensures,
      c.items-2.ensures,
      c.items-3.ensures,
    )
    (simp (doubled_append, first_append, with_all_append))
