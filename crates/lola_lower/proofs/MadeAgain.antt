-- A lowered net stands so that it can be made again.
use Rattle.std.proofs.Common.{◌≡◌, ℕ, Bool, true, false, List, [], map, flat_map, length, Option, Some, None, refl, sym, ◌∙◌, ap, subst}
use Rattle.std.specs.Prelude.{slice_get, IsSome, cond}
use Rattle.lola_bits.specs.Lists.{IsIn}
use Rattle.lola_net.specs.declared.net.Net.{Net}
use Rattle.lola_gate.specs.Gates.{with_next}
use Rattle.lola_flat.specs.Tree.{SignalTree, FlatTree}
use Rattle.lola_flat.specs.Formed.{IsFormed}
use Rattle.lola_lower.specs.Sources.{has_latch}
use Rattle.lola_lower.specs.Steps.{literals_down, clock_name, net_of}
use Rattle.lola_lower.specs.Named.{IsIdentifier, HasIdentifiers, latch_name}
use Rattle.lola_lower.specs.Standing.{StandsAsMade}
use Rattle.lola_lower.proofs.NamedNet.{latches_are, nodes_are, register_kind}
use Rattle.lola_lower.proofs.NetNames.{if_is}
use Rattle.lola_lower.proofs.Parted.{IsParted, parted}
use Rattle.lola_lower.proofs.PortRuns.{has_ports, if_none}
use Rattle.lola_lower.proofs.Stands.{stand_in_order, are_shared, next_many}

module _ (F : FlatTree) (formed : IsFormed F) (identifiers : HasIdentifiers F) (net : Net) (p : IsParted F net) where
  no_clock : clock_name F.clock ≡ None → F.clock ≡ None
  no_clock e = by F.clock refl e
    where
      by : (c : Option (List ℕ)) → F.clock ≡ c → clock_name c ≡ None → F.clock ≡ None
      by None is e = is
      by (Some name) is e = absurd (cc)

  no_latches : F.clock ≡ None → flat_map (if_is has_latch) F.signals ≡ []
  no_latches none = if_none has_latch F.signals (λ n s is latch.
      let has : IsSome F.clock = (formed.signals n s is).registers_have_a_clock (register_kind s.kind latch) in
      let false_one : false ≡ true = subst IsSome none has in
      cc)

  stands : IsIdentifier F.root → StandsAsMade net
  stands root = record {
    named = subst (λ (n : Net). IsIdentifier n.name) p.is root;
    made = p.all;
    next = flat_map literals_down p.next;
    nodes = nodes_are F formed identifiers net p;
    many = next_many F formed net p;
    order = stand_in_order F formed net p;
    shared = are_shared F formed net p;
    ports = has_ports F formed identifiers net p;
    clocked = λ none. latches_are F formed identifiers net p ∙ no_latches (no_clock (ap (λ (n : Net). n.clock) p.is ∙ none));
  }

pub stands_as_made : (F : FlatTree) (net : Net) → IsFormed F → HasIdentifiers F → IsIdentifier F.root → net_of F ≡ Some net → StandsAsMade net
stands_as_made F net formed identifiers root made = stands F formed identifiers net (parted F net made) root
