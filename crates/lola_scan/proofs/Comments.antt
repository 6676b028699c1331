-- The end of a comment.
use Rattle.std.proofs.Common.{◌≡◌, ℕ, suc, ◌+◌, ◌<◌, ◌≤◌, Bool, true, false, List, [], ◌∷◌, ◌++◌, length, take, drop, get_or, nat_eq, codes, Option, Some, None, refl, sym, ap, ◌∙◌, arith, append_assoc}
use Rattle.std.proofs.lemmas.Bool.Decides.{Decides-eqb}
use Rattle.std.proofs.lemmas.Slice.Eq.{starts_is}
use Rattle.std.specs.Cmp.Lexicographic.{pointwise}
use Rattle.std.proofs.lemmas.List.{drop_more, drop_all}
use Rattle.std.specs.Option.{option_map}
use Rattle.lola_scan.specs.Piece.{Piece, Blank, Comment, Word, Number, Pattern, Mark, IsPiece, IsFront, IsComment, text_of, NoEnd}
use Rattle.lola_scan.specs.Front.{EndsAt}
use Rattle.lola_scan.proofs.FirstByte.{other, kind, first_kind, mark_length_at_most}
use Rattle.lola_scan.proofs.Runs.{heads, tails}

-- one more byte in front of bytes that have no end makes none, where it closes nothing
no_end_more : (b : ℕ) (bs : List ℕ) → NoEnd bs → ((back : List ℕ) → b ∷ bs ≡ 42 ∷ 41 ∷ back → ⊥) → NoEnd (b ∷ bs)
no_end_more b bs n h [] back s = h back s
no_end_more b bs n h (f ∷ fs) back s = n fs back (cc)

no_end_empty : NoEnd []
no_end_empty [] back s = cc
no_end_empty (f ∷ fs) back s = cc

no_end_star : NoEnd (codes "*")
no_end_star = no_end_more 42 [] no_end_empty (λ back s. cc)

-- the end of a comment is found where it stands
pub ends_here : (bs : List ℕ) → EndsAt (42 ∷ 41 ∷ bs) (Some 0)
ends_here bs = ([], bs, refl, refl, no_end_star)

pub ends_nowhere : EndsAt [] None
ends_nowhere = no_end_empty

closes_later : (b : ℕ) (bs front rest : List ℕ) → ((back : List ℕ) → b ∷ bs ≡ 42 ∷ 41 ∷ back → ⊥) → bs ≡ front ++ (codes "*)" ++ rest) →
    (back : List ℕ) → b ∷ (front ++ codes "*") ≡ 42 ∷ 41 ∷ back → ⊥
closes_later b bs [] rest h e back s = absurd (omega (arith, heads {x = 42} {y = 41} (tails s)))
closes_later b bs (f ∷ fs) rest h e back s = h (fs ++ (codes "*)" ++ rest)) (let p : b ≡ 42 = heads s in let q : f ≡ 41 = heads (tails s) in cc)

-- and one byte on where it doesn't stand here
pub ends_later : (b : ℕ) (bs : List ℕ) (r : Option ℕ) → ((back : List ℕ) → b ∷ bs ≡ 42 ∷ 41 ∷ back → ⊥) → EndsAt bs r → EndsAt (b ∷ bs) (option_map suc r)
ends_later b bs None h e = no_end_more b bs e h
ends_later b bs (Some n) h (front, rest, s, l, no_end) =
    (b ∷ front, rest, ap (λ t. b ∷ t) s, ap suc l, no_end_more b (front ++ codes "*") no_end (closes_later b bs front rest h s))

-- two comments at the front of a text are one
pub comment_same : (front rest inside behind : List ℕ) → NoEnd (front ++ codes "*") → front ++ (codes "*)" ++ rest) ≡ (inside ++ codes "*)") ++ behind →
    NoEnd (inside ++ codes "*") → front ≡ inside
comment_same [] rest [] behind n s m = refl
comment_same [] rest (x ∷ []) behind n s m = absurd (omega (arith, heads {x = 41} {y = 42} (tails s)))
comment_same [] rest (x ∷ y ∷ xs) behind n s m =
    absurd (m [] (xs ++ codes "*") (let p : 42 ≡ x = heads s in let q : 41 ≡ y = heads (tails s) in cc))
comment_same (f ∷ []) rest [] behind n s m = absurd (omega (arith, heads {x = 42} {y = 41} (tails s)))
comment_same (f ∷ g ∷ fs) rest [] behind n s m =
    absurd (n [] (fs ++ codes "*") (let p : f ≡ 42 = heads s in let q : g ≡ 41 = heads (tails s) in cc))
comment_same (f ∷ fs) rest (x ∷ xs) behind n s m =
    let p : f ≡ x = heads s in
    let q : fs ≡ xs = comment_same fs rest xs behind (λ a b e. n (f ∷ a) b (ap (λ t. f ∷ t) e)) (tails s) (λ a b e. m (x ∷ a) b (ap (λ t. x ∷ t) e)) in
    cc

comment_longest : (text front rest : List ℕ) (piece : Piece) (behind : List ℕ) → NoEnd (front ++ codes "*") → text ≡ 40 ∷ 42 ∷ (front ++ (codes "*)" ++ rest)) →
    IsPiece piece → text ≡ text_of piece ++ behind → kind piece ≡ other → length (text_of piece) ≤ length (text_of (Comment front))
comment_longest text front rest (Comment inside) behind n t p s k =
    let e : front ≡ inside = comment_same front rest inside behind n (tails (tails (sym t ∙ s))) p in
    rw e (omega arith)
comment_longest text front rest (Mark bytes) behind n t p s k = omega (arith, (mark_length_at_most bytes p).1)
comment_longest text front rest piece behind n t p s k = cc

pub front_comment : (inside front rest : List ℕ) → NoEnd (front ++ codes "*") → inside ≡ front ++ (codes "*)" ++ rest) →
    IsFront (40 ∷ 42 ∷ inside) (Comment front) rest
front_comment inside front rest n e = record {
  is_piece = n;
  splits = ap (λ t. 40 ∷ 42 ∷ t) (e ∙ sym (append_assoc front (codes "*)") rest));
  longest = λ piece behind p s. comment_longest (40 ∷ 42 ∷ inside) front rest piece behind n (ap (λ t. 40 ∷ 42 ∷ t) e) p s (sym (first_kind piece behind 40 (42 ∷ inside) p s));
  comment = λ _. tt;
}

-- no piece stands where a comment opens and has no end
pub no_comment : (inside : List ℕ) (piece : Piece) (rest : List ℕ) → NoEnd inside → IsPiece piece → 40 ∷ 42 ∷ inside ≡ text_of piece ++ rest → IsComment piece → ⊥
no_comment inside (Comment found) rest n p s c = n found rest (tails (tails s) ∙ append_assoc found (codes "*)") rest)
no_comment inside (Blank b) rest n p s c = c
no_comment inside (Word first more) rest n p s c = c
no_comment inside (Number first more hexadecimal width) rest n p s c = c
no_comment inside (Pattern found) rest n p s c = c
no_comment inside (Mark bytes) rest n p s c = c

-- the search for the end has come to a place
abbrev pub Comes : List ℕ → ℕ → Type 0
Comes inside n = (r : Option ℕ) → EndsAt (drop n inside) r → EndsAt inside (option_map (λ k. n + k) r)

comes_on : (inside : List ℕ) (n b : ℕ) → Comes inside n → drop n inside ≡ b ∷ drop (n + 1) inside → ((back : List ℕ) → b ∷ drop (n + 1) inside ≡ 42 ∷ 41 ∷ back → ⊥) → Comes inside (n + 1)
comes_on inside n b c s h None e = c None (rw s (ends_later b (drop (n + 1) inside) None h e))
comes_on inside n b c s h (Some k) e =
    let f : EndsAt inside (Some (n + suc k)) = c (Some (suc k)) (rw s (ends_later b (drop (n + 1) inside) (Some k) h e)) in
    let g : n + suc k ≡ n + 1 + k = omega arith in
    rw g at f

-- `starts_with` found a `*)`, or none
abbrev pub Tells : List ℕ → Bool → Type 0
Tells text found = found ≡ pointwise nat_eq (codes "*)") (take 2 text)

pub ends_on : (inside : List ℕ) (n : ℕ) (found : Bool) → Comes inside n → n < length inside → Tells (drop n inside) found → found ≡ false → Comes inside (n + 1)
ends_on inside n found c l t e =
    let s = drop_more inside n 0 l in
    comes_on inside n (get_or inside n 0) c s (λ back u. let f : found ≡ true = (starts_is Decides-eqb (drop n inside) (codes "*)") found t).1 back (s ∙ u) in cc)

pub ends_found : (inside : List ℕ) (n : ℕ) (found : Bool) → Comes inside n → Tells (drop n inside) found → found ≡ true → EndsAt inside (Some n)
ends_found inside n found c t e =
    let s : drop n inside ≡ codes "*)" ++ drop 2 (drop n inside) = (starts_is Decides-eqb (drop n inside) (codes "*)") found t).0 e in
    let f : EndsAt inside (Some (n + 0)) = c (Some 0) (rw s (ends_here (drop 2 (drop n inside)))) in
    let g : n + 0 ≡ n = omega arith in
    rw g at f

pub ends_none : (inside : List ℕ) (n : ℕ) → Comes inside n → length inside ≤ n → NoEnd inside
ends_none inside n c l = c None (rw (drop_all n inside l) ends_nowhere)
