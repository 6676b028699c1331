-- The parts of a certificate as they are handed to the writer.
use Rattle.std.specs.Prelude.{ℕ, List, [], ◌∷◌}
use Rattle.std.specs.List.{AllByRecursion}
use Rattle.lrat_check.specs.declared.line.Line.{Line}
use Rattle.lrat_text.specs.Text.{LineFits, NameFits}

-- names with their lists of lines
abbrev pub parts_of : List (List ℕ) → List (List Line) → List (List ℕ × List Line)
parts_of [] proofs = []
parts_of (name ∷ names) [] = []
parts_of (name ∷ names) (lines ∷ proofs) = (name, lines) ∷ parts_of names proofs

-- each name and each line can be written
abbrev pub PartsFit : List (List ℕ × List Line) → Type 0
PartsFit parts = AllByRecursion (λ p. NameFits p.0 × AllByRecursion LineFits p.1) parts
