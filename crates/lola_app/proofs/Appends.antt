-- Pieces that are appended one after another.
use Rattle.std.proofs.Common.{◌≡◌, ℕ, ◌+◌, ◌-◌, ◌≤◌, List, ◌++◌, length, take, drop, sym, ap, ◌∙◌, append_assoc, subst, arith, length-drop}
use Rattle.std.proofs.lemmas.List.{take-append-drop, length-take-le}
use Rattle.std.proofs.Math.Seq.{take-append-add, take-length}
use Rattle.std.specs.Prelude.{Option, Some, None, Result, Ok, Err}
use Rattle.lola_port.specs.declared.sink.SinkError.{SinkError}
use Rattle.lola_port.specs.declared.sink.SinkError.TheVariants as sink
use Rattle.lola_app.specs.Printing.{AppendedFront, Wrote}
use Rattle.lola_port.specs.Outside.{Appended, Took}

-- three pieces
pub three_pieces : (old first second third one two three : List ℕ) → one ≡ old ++ first → two ≡ one ++ second → three ≡ two ++ third → three ≡ old ++ (first ++ (second ++ third))
three_pieces old first second third one two three e f g =
    g ∙ ap (λ x. x ++ third) (f ∙ ap (λ x. x ++ second) e) ∙ simp append_assoc

-- and four
pub four_pieces : (old first second third fourth one two three four : List ℕ) → one ≡ old ++ first → two ≡ one ++ second → three ≡ two ++ third → four ≡ three ++ fourth →
    four ≡ old ++ (first ++ (second ++ (third ++ fourth)))
four_pieces old first second third fourth one two three four e f g h =
    h ∙ ap (λ x. x ++ fourth) (g ∙ ap (λ x. x ++ third) (f ∙ ap (λ x. x ++ second) e)) ∙ simp append_assoc

-- a longer front is a front and a front of what is left
pub take-sum : (text : List ℕ) (m n : ℕ) → m ≤ length text → take (m + n) text ≡ take m text ++ take n (drop m text)
take-sum text m n within =
    let whole : take m text ++ drop m text ≡ text = take-append-drop m text in
    let long : length (take m text) ≡ m = length-take-le m text within in
    ap (λ x. take (m + n) x) (sym whole) ∙ ap (λ k. take (k + n) (take m text ++ drop m text)) (sym long) ∙ take-append-add (take m text) (drop m text) n

-- one more piece of a text
pub one_more : (first then' now : Option (List ℕ)) (text : List ℕ) (m n : ℕ) → m ≤ length text → Appended first then' (take m text) → Appended then' now (take n (drop m text)) → Appended first now (take (m + n) text)
one_more None then' now text m n within a b = tt
one_more (Some old) (Some then') (Some now) text m n within a b = b ∙ ap (λ x. x ++ take n (drop m text)) a ∙ append_assoc old (take m text) (take n (drop m text)) ∙ ap (λ x. old ++ x) (sym (take-sum text m n within))
one_more (Some old) (Some then') None text m n within a b = absurd b
one_more (Some old) None now text m n within a b = absurd a

-- a sink that took some of the rest of a text holds a longer front of it, and no fault rose
pub record Longer (first now : Option (List ℕ)) (text : List ℕ) (before after at : ℕ) : Type 0 where
  pub within : at ≤ length text
  pub same : after ≡ before
  pub printed : Appended first now (take at text)

pub took_more : (first then' now : Option (List ℕ)) (text rest : List ℕ) (before middle after at n : ℕ) → at ≤ length text → middle ≡ before → Appended first then' (take at text) → rest ≡ drop at text → Took rest n then' now middle after → Longer first now text before after (at + n)
took_more first then' now text rest before middle after at n within quiet a e took =
    let fits : n ≤ length rest = took.within in
    let long : length rest ≡ length text - at = ap length e ∙ length-drop at text in
    record {
      within = omega arith;
      same = took.same ∙ quiet;
      printed = one_more first then' now text at n within a (subst (λ (piece : List ℕ). Appended then' now (take n piece)) e took.appended);
    }

-- whatever a sink answers, a front of the text was appended
pub front_appended : (text : List ℕ) (old new : Option (List ℕ)) (before now : ℕ) (r : Result Unit SinkError) → Wrote text old new before now r → AppendedFront old new text
front_appended text old new before now (Ok done) wrote = (length text, subst (λ (piece : List ℕ). Appended old new piece) (sym (take-length text)) wrote.0)
front_appended text old new before now (Err sink.Failed) wrote = wrote.0
front_appended text old new before now (Err sink.Memory) wrote = wrote.0
