-- What is written line by line is the text.
use Rattle.std.proofs.Common.{◌≡◌, ℕ, suc, ◌+◌, ◌<◌, ℤ, List, [], ◌∷◌, ◌++◌, map, drop, length, get_or, codes, decimal, flat_map, refl, sym, ◌∙◌, ap, ap₂, arith, append_assoc}
use Rattle.lola_bits.proofs.Places.{drop_item}
use Rattle.std.specs.Fmt.{signed_decimal}
use Rattle.std.specs.List.{join_with_byte}
use Rattle.std.proofs.lemmas.List.Folds.{flat_map-map}
use Rattle.std.proofs.lemmas.Grind.{flat_map-append}
use Rattle.lrat_check.specs.declared.clause.Clause.{Clause}
use Rattle.lrat_check.specs.declared.line.Line.{Line}
use Rattle.lrat_check.specs.declared.line.Line.TheVariants.{Add, Delete}
use Rattle.lrat_text.specs.Text.{TextLine, Named, Taken, Ended, line_text, lines_text, parts_lines, cert_text}
use Rattle.lrat_text.specs.Written.{parts_of}
use Rattle.lrat_text.specs.Lists.{blank_before}

nothing_behind : (xs : List ℕ) → xs ≡ xs ++ []
nothing_behind [] = refl
nothing_behind (x ∷ xs) = ap (λ (ys : List ℕ). x ∷ ys) (nothing_behind xs)

-- items with one blank between are the first and the others behind blanks
joined : (x : List ℕ) (xs : List (List ℕ)) → join_with_byte 32 (x ∷ xs) ≡ x ++ flat_map blank_before xs
joined x [] = nothing_behind x
joined x (y ∷ ys) = ap (λ (zs : List ℕ). x ++ 32 ∷ zs) (joined y ys)

behind_blanks : {N : Type 0} (text : N → List ℕ) (ns : List N) (rest : List (List ℕ))
    → flat_map blank_before (map text ns ++ rest) ≡ flat_map (λ n. blank_before (text n)) ns ++ flat_map blank_before rest
behind_blanks text ns rest = flat_map-append blank_before (map text ns) rest ∙ ap (λ (xs : List ℕ). xs ++ flat_map blank_before rest) (flat_map-map blank_before text ns)

pub written_add : (out : List ℕ) (id : ℕ) (clause : Clause) (hints : List ℤ)
    → ((((out ++ decimal id) ++ flat_map (λ n. blank_before (signed_decimal n)) clause.literals) ++ 32 ∷ 48 ∷ []) ++ flat_map (λ n. blank_before (signed_decimal n)) hints) ++ 32 ∷ 48 ∷ []
    ≡ out ++ line_text (Taken (Add id clause hints))
written_add out id clause hints =
    let F = flat_map (λ (n : ℤ). blank_before (signed_decimal n)) clause.literals in
    let G = flat_map (λ (n : ℤ). blank_before (signed_decimal n)) hints in
    let z : List ℕ = 32 ∷ 48 ∷ [] in
    let last : flat_map blank_before (map signed_decimal hints ++ codes "0" ∷ []) ≡ G ++ z = behind_blanks signed_decimal hints (codes "0" ∷ []) in
    let all : line_text (Taken (Add id clause hints)) ≡ decimal id ++ (F ++ (z ++ (G ++ z))) =
    joined (decimal id) (map signed_decimal clause.literals ++ codes "0" ∷ (map signed_decimal hints ++ codes "0" ∷ []))
    ∙ ap (λ (xs : List ℕ). decimal id ++ xs) (behind_blanks signed_decimal clause.literals (codes "0" ∷ (map signed_decimal hints ++ codes "0" ∷ [])) ∙ ap (λ (xs : List ℕ). F ++ (z ++ xs)) last) in
    append_assoc (((out ++ decimal id) ++ F) ++ z) G z ∙ append_assoc ((out ++ decimal id) ++ F) z (G ++ z) ∙ append_assoc (out ++ decimal id) F (z ++ (G ++ z))
    ∙ append_assoc out (decimal id) (F ++ (z ++ (G ++ z))) ∙ ap (λ (xs : List ℕ). out ++ xs) (sym all)

pub written_delete : (out : List ℕ) (id : ℕ) (ids : List ℕ)
    → (((out ++ decimal id) ++ 32 ∷ 100 ∷ []) ++ flat_map (λ n. blank_before (decimal n)) ids) ++ 32 ∷ 48 ∷ [] ≡ out ++ line_text (Taken (Delete id ids))
written_delete out id ids =
    let F = flat_map (λ (n : ℕ). blank_before (decimal n)) ids in
    let z : List ℕ = 32 ∷ 48 ∷ [] in
    let d : List ℕ = 32 ∷ 100 ∷ [] in
    let all : line_text (Taken (Delete id ids)) ≡ decimal id ++ (d ++ (F ++ z)) =
    joined (decimal id) (codes "d" ∷ (map decimal ids ++ codes "0" ∷ [])) ∙ ap (λ (xs : List ℕ). decimal id ++ (d ++ xs)) (behind_blanks decimal ids (codes "0" ∷ [])) in
    append_assoc ((out ++ decimal id) ++ d) F z ∙ append_assoc (out ++ decimal id) d (F ++ z) ∙ append_assoc out (decimal id) (d ++ (F ++ z)) ∙ ap (λ (xs : List ℕ). out ++ xs) (sym all)

-- one more part of those that are written
parts_step : (name : List ℕ) (lines : List Line) (ps : List (List ℕ × List Line))
    → lines_text (parts_lines ((name, lines) ∷ ps)) ≡ lines_text (Named name ∷ map Taken lines) ++ lines_text (parts_lines ps)
parts_step name lines ps = ap (λ (xs : List ℕ). (line_text (Named name) ++ 10 ∷ []) ++ xs) (flat_map-append (λ (t : TextLine). line_text t ++ 10 ∷ []) (map Taken lines) (parts_lines ps))
    ∙ sym (append_assoc (line_text (Named name) ++ 10 ∷ []) (lines_text (map Taken lines)) (lines_text (parts_lines ps)))

pub part_written : (old out : List ℕ) (all : List ℕ) (names : List (List ℕ)) (proofs : List (List Line)) (i : ℕ) (name : List ℕ) (lines : List Line) → i < length names → length proofs ≡ length names
    → name ≡ get_or names i name → lines ≡ get_or proofs i lines → out ≡ old ++ lines_text (Named name ∷ map Taken lines)
    → old ++ lines_text (parts_lines (parts_of (drop i names) (drop i proofs))) ≡ all → out ++ lines_text (parts_lines (parts_of (drop (i + 1) names) (drop (i + 1) proofs))) ≡ all
part_written old out all names proofs i name lines h l n p e inv =
    let rest = parts_of (drop (i + 1) names) (drop (i + 1) proofs) in
    let d : drop i names ≡ name ∷ drop (i + 1) names = drop_item names i name h n in
    let f : drop i proofs ≡ lines ∷ drop (i + 1) proofs = drop_item proofs i lines (omega (arith, h, l)) p in
    let q : parts_of (drop i names) (drop i proofs) ≡ (name, lines) ∷ rest = ap₂ parts_of d f in
    ap (λ (xs : List ℕ). xs ++ lines_text (parts_lines rest)) e
    ∙ append_assoc old (lines_text (Named name ∷ map Taken lines)) (lines_text (parts_lines rest))
    ∙ ap (λ (xs : List ℕ). old ++ xs) (sym (parts_step name lines rest)) ∙ ap (λ (ps : List (List ℕ × List Line)). old ++ lines_text (parts_lines ps)) (sym q) ∙ inv

parts_length : (names : List (List ℕ)) (proofs : List (List Line)) → length proofs ≡ length names → length (parts_of names proofs) ≡ length names
parts_length [] proofs l = refl
parts_length (n ∷ ns) [] l = omega (arith, l)
parts_length (n ∷ ns) (p ∷ ps) l = ap suc (parts_length ns ps (omega (arith, l)))

pub cert_written : (out : List ℕ) (names : List (List ℕ)) (proofs : List (List Line)) → length proofs ≡ length names
    → ((((out ++ codes "lola-cert 1\n") ++ lines_text (parts_lines (parts_of names proofs))) ++ codes "end ") ++ decimal (length names)) ++ 10 ∷ [] ≡ out ++ cert_text (parts_of names proofs)
cert_written out names proofs l =
    let ps = parts_of names proofs in
    let m = lines_text (parts_lines ps) in
    let tail : lines_text (Ended (length ps) ∷ []) ≡ codes "end " ++ (decimal (length names) ++ 10 ∷ []) =
    ap (λ (n : ℕ). lines_text (Ended n ∷ [])) (parts_length names proofs l) ∙ sym (nothing_behind (codes "end " ++ decimal (length names) ++ 10 ∷ [])) in
    let all : cert_text ps ≡ codes "lola-cert 1\n" ++ (m ++ (codes "end " ++ (decimal (length names) ++ 10 ∷ []))) =
    ap (λ (xs : List ℕ). codes "lola-cert 1\n" ++ xs) (flat_map-append (λ (t : TextLine). line_text t ++ 10 ∷ []) (parts_lines ps) (Ended (length ps) ∷ []) ∙ ap (λ (xs : List ℕ). m ++ xs) tail) in
    append_assoc (((out ++ codes "lola-cert 1\n") ++ m) ++ codes "end ") (decimal (length names)) (10 ∷ [])
    ∙ append_assoc ((out ++ codes "lola-cert 1\n") ++ m) (codes "end ") (decimal (length names) ++ 10 ∷ [])
    ∙ append_assoc (out ++ codes "lola-cert 1\n") m (codes "end " ++ (decimal (length names) ++ 10 ∷ []))
    ∙ append_assoc out (codes "lola-cert 1\n") (m ++ (codes "end " ++ (decimal (length names) ++ 10 ∷ []))) ∙ ap (λ (xs : List ℕ). out ++ xs) (sym all)
