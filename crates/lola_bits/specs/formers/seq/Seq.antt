-- How a `Seq` holds its items, so that a recursive type may hold a `Seq` of itself: it shows the
-- items of its one vector, in their order.
use mathlib.Core.Path.{◌≡◌, refl, sym}
use mathlib.Core.List.{List, []}
use mathlib.Core.Former.{Former, this, list, via, children}
use base.Stored.{code_map}
use denote.RattleType.{RattleType}
use denote.HoleLaws.{Alike}
use denote.HolePlaces.{Recodes, struct_places, laid}
use denote.Hole.Carrier.{listed, list-listed}
use denote.Hole.Fix.{over}
use denote.Param.Weighed.{Weighed, w_list}
use denote.Model.Placed.{view_places}
use Rattle.std.specs.formers.vec.Vec as vector
use Rattle.std.specs.declared.alloc.Global.{Global}
use Rattle.std.specs.contracts.alloc.Global as global
use Rattle.std.specs.contracts.impls.GlobalAllocator.TheImpl.{ghosts}
use Rattle.lola_bits.specs.declared.seq.Seq.TheInside.{Inside}
use Rattle.lola_bits.specs.declared.seq.Seq.TheView.{view, invariant}
use Rattle.lola_bits.specs.contracts.seq.Seq as seq
use Rattle.lola_bits.specs.contracts.seq.Seq.TheInside as inside

-- contracts see a list
abbrev pub the_former : Former {0} → Former {0}
the_former item = list item

abbrev pub the_weighed : {item : Former {0}} → Weighed item → Weighed (the_former item)
the_weighed weighed = w_list weighed

abbrev pub the_items : (X : Type 0) → List X → List X
the_items X items = items

pub the_items_listed : (X : Type 0) (items : List X) → listed _ (children (the_former this) X items) ≡ the_items X items
the_items_listed X items = list-listed X items

-- with no item at all there is the empty list
pub the_empty : List ⊥
the_empty = []

-- the fields hold their items as the vector does
abbrev held : Former {0}
held = via (vector.the_former this Global) Inside (λ X fields. fields.items) (λ X items. record { items = items }) (λ X fields. refl) (λ X items. refl)

module _ (From To : RattleType) (move : From.Denot → To.Denot) where
  pub the_codes_placed : Recodes From To move → Recodes (seq.the_row From) (seq.the_row To) ((the_former this).map From.Denot To.Denot move)
  the_codes_placed same items = sym (code_map From.coded.code To.coded.code move (λ x. sym (same x)) items)

  pub the_places : Alike From To move → Alike (seq.the_row From) (seq.the_row To) ((the_former this).map From.Denot To.Denot move)
  the_places alike = view_places held (list this) view (λ X Y f fields. refl) (λ X fields. refl) From.Denot To.Denot move (seq.the_row From).coded (seq.the_row To).coded
      (invariant From.Denot) (invariant To.Denot) (λ fields p q. refl) (λ fields p q. refl) (λ fields e. tt) (λ fields e. tt)
      (over (inside.the_row From)) (over (inside.the_row To))
      (struct_places (inside.the_type From) (inside.the_type To) (vector.mapped move, tt) _ (λ d. refl) refl (laid _ _ _ (vector.the_places global.the_row ghosts From To move alike), tt))
