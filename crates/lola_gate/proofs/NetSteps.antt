-- The steps of the loop that makes the nodes of a net.
use Rattle.std.proofs.Common.{◌≡◌, ℕ, ◌+◌, ◌<◌, List, [], ◌∷◌, ◌++◌, length, drop, sym, ap, ◌∙◌, append_assoc}
use Rattle.std.proofs.Math.ListN.{get_or}
use Rattle.std.proofs.lemmas.List.{drop_more}
use Rattle.lola_net.specs.declared.node.Node.{Node}
use Rattle.lola_gate.specs.declared.other.Other.{Other}
use Rattle.lola_gate.specs.Gates.{node_with, left_with, with_next}
use Rattle.lola_gate.specs.Held.{node_here, others_behind, nodes_of}

module _ (held : List (ℕ × ℕ)) (i : ℕ) (p : ℕ × ℕ) (inside : i < length held) (is : p ≡ get_or held i p) where
  pub held_cut : drop i held ≡ p ∷ drop (i + 1) held
  held_cut = drop_more held i p inside ∙ ap (λ b. b ∷ drop (i + 1) held) (sym is)

  pub next_more : (made : List Node) (others : List Other) (next : List ℕ) (total : List Node) → made ++ with_next next (nodes_of others (drop i held)) ≡ total →
      (made ++ node_with next (node_here others p) ∷ []) ++ with_next (left_with next (node_here others p)) (nodes_of (others_behind others p) (drop (i + 1) held)) ≡ total
  next_more made others next total e =
      append_assoc made (node_with next (node_here others p) ∷ []) (with_next (left_with next (node_here others p)) (nodes_of (others_behind others p) (drop (i + 1) held))) ∙
      sym (ap (λ hs. made ++ with_next next (nodes_of others hs)) held_cut) ∙ e
