-- One more name is put into a set.
use Rattle.std.proofs.Common.{◌≡◌, ℕ, ◌+◌, ◌<◌, List, length, drop, get_or, sym, ap, ◌∙◌}
use Rattle.lola_bits.proofs.Places.{drop_item}
use Rattle.lola_net.specs.declared.node.Node.{Node}
use Rattle.veri_text.specs.Names.{Taken, taken_with, pad_taken, outputs_taken, pads_taken}

pub outputs_more : (taken now whole : Taken) (outputs : List (List ℕ × ℕ)) (i : ℕ) (o : List ℕ × ℕ) → i < length outputs → o ≡ get_or outputs i o → now ≡ taken_with taken o.0 →
    outputs_taken taken (drop i outputs) ≡ whole → outputs_taken now (drop (i + 1) outputs) ≡ whole
outputs_more taken now whole outputs i o within is added h = ap (λ t. outputs_taken t (drop (i + 1) outputs)) added ∙ sym (ap (outputs_taken taken) (drop_item outputs i o within is)) ∙ h

pub pads_more : (taken now whole : Taken) (nodes : List Node) (i : ℕ) (x : Node) → i < length nodes → x ≡ get_or nodes i x → now ≡ pad_taken taken x →
    pads_taken taken (drop i nodes) ≡ whole → pads_taken now (drop (i + 1) nodes) ≡ whole
pads_more taken now whole nodes i x within is added h = ap (λ t. pads_taken t (drop (i + 1) nodes)) added ∙ sym (ap (pads_taken taken) (drop_item nodes i x within is)) ∙ h
