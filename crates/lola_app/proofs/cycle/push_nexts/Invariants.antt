use Rattle.std.proofs.Common.{◌≡◌, ◌++◌, Some, drop, length, map}
use Rattle.lola_bits.specs.BitLists.{number_of}
use Rattle.lola_elab.specs.declared.flat.Flat.{Flat}
use Rattle.lola_elab.specs.declared.vector.Vector.{Vector}
use Rattle.lola_elab.specs.Elaborated.{vector_widths}
use Rattle.lola_elab.specs.Flat.{flat_width, flat_number}
use Rattle.lola_app.specs.Trial.{seen}
use Rattle.lola_app.proofs.cycle.push_nexts.Given as goal

-- the bits so far, and those behind
abbrev pub invariant-loop-place : goal.invariant-loop-place
invariant-loop-place l = record {
  wide : map (flat_width (map length l.vectors)) (drop l.place l.nexts) ≡ map (λ (v : Vector). Some v.width) (drop l.place l.registers);
  made : l.after.items ++ seen (vector_widths (drop l.place l.registers)) (map (λ (f : Flat). flat_number (map length l.vectors) f (map number_of l.vectors)) (drop l.place l.nexts))
      ≡ l.fn.after.items ++ seen (vector_widths l.registers) (map (λ (f : Flat). flat_number (map length l.vectors) f (map number_of l.vectors)) l.nexts);
}
