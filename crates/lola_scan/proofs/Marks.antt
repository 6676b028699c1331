-- The longest mark at the front of a text.
use Rattle.std.proofs.Common.{◌≡◌, ℕ, ◌≤◌, true, cond, List, [], ◌∷◌, ◌++◌, length, take, drop, Option, Some, None, refl, sym, ap, ◌∙◌, inl, inr, arith, take-append-drop}
use Rattle.std.proofs.lemmas.Bool.{cases_Bool, cond-true, cond-false}
use Rattle.lola_scan.specs.Piece.{Piece, Comment, Mark, IsPiece, IsFront, text_of, is_mark, Opens}
use Rattle.lola_scan.specs.Tokens.{NoPiece}
use Rattle.lola_scan.specs.Front.{mark_length}
use Rattle.lola_scan.proofs.FirstByte.{other, kind_of, kind, first_kind, comment_opens, mark_length_at_most}

-- where a mark stands, one as long is found
mark_here : (b : ℕ) (bs bytes behind : List ℕ) → is_mark bytes ≡ true → b ∷ bs ≡ bytes ++ behind →
    (n : ℕ) × (mark_length (b ∷ bs) ≡ Some n) × (length bytes ≤ n)
mark_here b bs [] behind p s = absurd (let l = mark_length_at_most [] p in omega arith)
mark_here b [] (m ∷ []) behind p s =
    let e : m ≡ b = cc in
    let q : is_mark (b ∷ []) ≡ true = ap (λ x. is_mark (x ∷ [])) (sym e) ∙ p in
    (1, cond-true (is_mark (b ∷ [])) (Some 1) None q, omega arith)
mark_here b (c ∷ cs) (m ∷ []) behind p s =
    let e : m ≡ b = cc in
    let q : is_mark (b ∷ []) ≡ true = ap (λ x. is_mark (x ∷ [])) (sym e) ∙ p in
    elim (cases_Bool (is_mark (b ∷ c ∷ []))) [
      | inl t ↦ (2, cond-true (is_mark (b ∷ c ∷ [])) (Some 2) (cond (is_mark (b ∷ [])) (Some 1) None) t, omega arith)
      | inr t ↦ (1, cond-false (is_mark (b ∷ c ∷ [])) (Some 2) (cond (is_mark (b ∷ [])) (Some 1) None) t ∙ cond-true (is_mark (b ∷ [])) (Some 1) None q, omega arith)
    ]
mark_here b [] (m ∷ k ∷ ms) behind p s = absurd (cc)
mark_here b (c ∷ cs) (m ∷ k ∷ []) behind p s =
    let e : m ∷ k ∷ [] ≡ b ∷ c ∷ [] = cc in
    let q : is_mark (b ∷ c ∷ []) ≡ true = ap is_mark (sym e) ∙ p in
    (2, cond-true (is_mark (b ∷ c ∷ [])) (Some 2) (cond (is_mark (b ∷ [])) (Some 1) None) q, omega arith)
mark_here b (c ∷ cs) (m ∷ k ∷ l ∷ ms) behind p s = absurd (let n = mark_length_at_most (m ∷ k ∷ l ∷ ms) p in omega arith)

-- what is found is a mark, and stands there
pub mark_found : (b : ℕ) (bs : List ℕ) (n : ℕ) → mark_length (b ∷ bs) ≡ Some n → (is_mark (take n (b ∷ bs)) ≡ true) × (length (take n (b ∷ bs)) ≡ n)
mark_found b [] n f = elim (cases_Bool (is_mark (b ∷ []))) [
  | inl t ↦ (let g : mark_length (b ∷ []) ≡ Some 1 = cond-true (is_mark (b ∷ [])) (Some 1) None t in let e : n ≡ 1 = cc in rw e (t, refl))
  | inr t ↦ (let g : mark_length (b ∷ []) ≡ None = cond-false (is_mark (b ∷ [])) (Some 1) None t in absurd (cc))
]
mark_found b (c ∷ cs) n f =
    let single : Option ℕ = cond (is_mark (b ∷ [])) (Some 1) None in
    elim (cases_Bool (is_mark (b ∷ c ∷ []))) [
      | inl t ↦ (let g : mark_length (b ∷ c ∷ cs) ≡ Some 2 = cond-true (is_mark (b ∷ c ∷ [])) (Some 2) single t in let e : n ≡ 2 = cc in rw e (t, refl))
      | inr t ↦
          let g : mark_length (b ∷ c ∷ cs) ≡ single = cond-false (is_mark (b ∷ c ∷ [])) (Some 2) single t in
          elim (cases_Bool (is_mark (b ∷ []))) [
            | inl u ↦ (let h : single ≡ Some 1 = cond-true (is_mark (b ∷ [])) (Some 1) None u in let e : n ≡ 1 = cc in rw e (u, refl))
            | inr u ↦ (let h : single ≡ None = cond-false (is_mark (b ∷ [])) (Some 1) None u in absurd (cc))
          ]
    ]

mark_longest : (b : ℕ) (bs : List ℕ) (n : ℕ) (piece : Piece) (behind : List ℕ) → (Opens (b ∷ bs) → ⊥) → mark_length (b ∷ bs) ≡ Some n → kind piece ≡ other →
    IsPiece piece → b ∷ bs ≡ text_of piece ++ behind → length (text_of piece) ≤ n
mark_longest b bs n (Mark bytes) behind o f k p s =
    let h = mark_here b bs bytes behind p s in
    let e : h.0 ≡ n = cc in
    omega (arith, h.2)
mark_longest b bs n (Comment inside) behind o f k p s = absurd (o (comment_opens (b ∷ bs) inside behind s))
mark_longest b bs n piece behind o f k p s = cc

pub front_mark : (b : ℕ) (bs : List ℕ) (n : ℕ) → kind_of b ≡ other → (Opens (b ∷ bs) → ⊥) → mark_length (b ∷ bs) ≡ Some n →
    IsFront (b ∷ bs) (Mark (take n (b ∷ bs))) (drop n (b ∷ bs))
front_mark b bs n k o f = record {
  is_piece = (mark_found b bs n f).0;
  splits = sym (take-append-drop n (b ∷ bs));
  longest = λ piece behind p s. omega (arith, (mark_found b bs n f).1, mark_longest b bs n piece behind o f (sym (first_kind piece behind b bs p s) ∙ k) p s);
  comment = o;
}

-- where no mark is found and no comment opens no piece stands
no_mark_piece : (b : ℕ) (bs : List ℕ) (piece : Piece) (behind : List ℕ) → (Opens (b ∷ bs) → ⊥) → mark_length (b ∷ bs) ≡ None → kind piece ≡ other →
    IsPiece piece → b ∷ bs ≡ text_of piece ++ behind → ⊥
no_mark_piece b bs (Mark bytes) behind o f k p s = let h = mark_here b bs bytes behind p s in cc
no_mark_piece b bs (Comment inside) behind o f k p s = o (comment_opens (b ∷ bs) inside behind s)
no_mark_piece b bs piece behind o f k p s = cc

pub no_mark : (b : ℕ) (bs : List ℕ) → kind_of b ≡ other → (Opens (b ∷ bs) → ⊥) → mark_length (b ∷ bs) ≡ None → NoPiece (b ∷ bs)
no_mark b bs k o f = λ piece rest p s. no_mark_piece b bs piece rest o f (sym (first_kind piece rest b bs p s) ∙ k) p s
