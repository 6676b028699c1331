-- The tables of a case, signal by signal: those so far with what is left make up the whole.
use Rattle.std.proofs.Common.{◌≡◌, ℕ, ◌+◌, ◌<◌, ◌≤◌, ◌^◌, Bool, List, [], ◌∷◌, ◌++◌, length, map, take, drop, replicate, get_or, Some, refl, sym, ◌∙◌, ap, ap₂, subst, append_assoc, append-nil, arith}
use Rattle.std.specs.Prelude.{slice_get}
use Rattle.std.specs.List.{AllByRecursion}
use Rattle.std.proofs.Math.ListN.{get_or-map}
use Rattle.std.proofs.lemmas.List.{map-append, length-map, length-take}
use Rattle.std.proofs.lemmas.Option.{get_or_from_slice_get}
use Rattle.lola_bits.specs.BitLists.{number_of}
use Rattle.lola_bits.proofs.Places.{drop_item, get_map}
use Rattle.lola_flat.specs.declared.design.SigKind.{SigKind}
use Rattle.lola_flat.specs.declared.design.SigKind.TheVariants.{Input, Pad, Wire, Register}
use Rattle.lola_flat.specs.declared.design.Signal.{Signal}
use Rattle.lola_flat.specs.Tree.{SignalTree, signal_tree, FlatTree}
use Rattle.lola_flat.specs.Signals.{IsSignal}
use Rattle.lola_eval.specs.Means.{IsGivenBits}
use Rattle.lola_cases.specs.declared.tables.CaseBits.{CaseBits}
use Rattle.lola_cases.specs.Free.{free_count}
use Rattle.lola_cases.specs.Cases.{AreWithin, IsCase, elements_in, outside_in, given_from, outside_from, given_of, outside_of}
use Rattle.lola_cases.specs.Bits.{HasNumber, HaveNumbers, outside_width, table_numbers, AreBitsOf}
use Rattle.lola_cases.proofs.Clocks.{all_of_input, all_of_register}
use Rattle.lola_cases.proofs.Elements.{widths_from, widths_are}
use Rattle.lola_cases.proofs.Shares.{IsParted, parted}

-- how many elements a signal is given where so many numbers are its share
abbrev pub given_count : SigKind → ℕ → ℕ
given_count Input count = count
given_count Register count = count
given_count Pad count = 0
given_count Wire count = 0

elements_count : (kind : SigKind) (share : List ℕ) → length (elements_in kind share) ≡ given_count kind (length share)
elements_count Input share = refl
elements_count Register share = refl
elements_count Pad share = refl
elements_count Wire share = refl

-- the widths of what a signal is given
abbrev pub given_widths : FlatTree → SignalTree → List ℕ
given_widths F s = replicate (given_count s.kind (free_count F s)) s.width

abbrev pub pad_width : SignalTree → ℕ
pad_width s = outside_width s.kind s.width

-- the tables so far, where these signals and numbers are left
pub record AreSoFar (F : FlatTree) (numbers : List ℕ) (left : List SignalTree) (rest : List ℕ) (given : List (List (List Bool))) (outside : List (List Bool)) : Type 0 where
  pub within : AreWithin (widths_from F left) rest
  pub given_wide : map (map length) given ++ map (given_widths F) left ≡ map (given_widths F) F.signals
  pub given_is : table_numbers given ++ given_from F left rest ≡ given_of F numbers
  pub outside_wide : map length outside ++ map pad_width left ≡ map pad_width F.signals
  pub outside_is : map number_of outside ++ outside_from F left rest ≡ outside_of F numbers

pub begun : (F : FlatTree) (numbers : List ℕ) (left : List SignalTree) (given : List (List (List Bool))) (outside : List (List Bool)) → left ≡ F.signals → given ≡ [] → outside ≡ [] → IsCase F numbers → AreSoFar F numbers left numbers given outside
begun F numbers left given outside whole none none_outside is =
    subst (λ (o : List (List Bool)). AreSoFar F numbers left numbers given o) (sym none_outside)
    (subst (λ (g : List (List (List Bool))). AreSoFar F numbers left numbers g []) (sym none)
    (subst (λ (ss : List SignalTree). AreSoFar F numbers ss numbers [] []) (sym whole) (record {
      within = subst (λ (ws : List ℕ). AreWithin ws numbers) (widths_are F) is;
      given_wide = refl;
      given_is = refl;
      outside_wide = refl;
      outside_is = refl;
    })))

-- the signal whose turn it is, before those behind it
pub turn : (F : FlatTree) (numbers : List ℕ) (signals : List Signal) (at : ℕ) (s : Signal) (rest : List ℕ) (given : List (List (List Bool))) (outside : List (List Bool)) → at < length signals → s ≡ get_or signals at s →
    AreSoFar F numbers (map signal_tree (drop at signals)) rest given outside → AreSoFar F numbers (signal_tree s ∷ map signal_tree (drop (at + 1) signals)) rest given outside
turn F numbers signals at s rest given outside within is so = subst (λ (ss : List Signal). AreSoFar F numbers (map signal_tree ss) rest given outside) (drop_item signals at s within is) so

-- an image goes from what is left to what is made
moved : {X Y : Type 0} (f : X → Y) (old now : List X) (x : X) (y : Y) (rest all : List Y) → now ≡ old ++ x ∷ [] → f x ≡ y → map f old ++ y ∷ rest ≡ all → map f now ++ rest ≡ all
moved {X = X} {Y = Y} f old now x y rest all pushed is so =
    ap (λ (l : List X). map f l ++ rest) pushed ∙ ap (λ (l : List Y). l ++ rest) (map-append f old (x ∷ [])) ∙ append_assoc (map f old) (f x ∷ []) rest ∙ ap (λ (z : Y). map f old ++ z ∷ rest) is ∙ so

share_of : (F : FlatTree) (numbers : List ℕ) (s : SignalTree) (left : List SignalTree) (rest : List ℕ) (given : List (List (List Bool))) (outside : List (List Bool)) → AreSoFar F numbers (s ∷ left) rest given outside →
    IsParted (free_count F s) s.width (widths_from F left) rest
share_of F numbers s left rest given outside so = parted (free_count F s) s.width (widths_from F left) rest so.within

-- its share is there, of numbers below 2 to its width
pub share_fits : (F : FlatTree) (numbers : List ℕ) (s : SignalTree) (left : List SignalTree) (rest : List ℕ) (given : List (List (List Bool))) (outside : List (List Bool)) → AreSoFar F numbers (s ∷ left) rest given outside →
    free_count F s ≤ length rest
share_fits F numbers s left rest given outside so = let long = (share_of F numbers s left rest given outside so).long in let e = length-take (free_count F s) rest in omega (arith, long, e)

pub share_below : (F : FlatTree) (numbers : List ℕ) (s : SignalTree) (left : List SignalTree) (rest share : List ℕ) (given : List (List (List Bool))) (outside : List (List Bool)) → AreSoFar F numbers (s ∷ left) rest given outside →
    share ≡ take (free_count F s) rest → AllByRecursion (λ n. n < 2 ^ s.width) share
share_below F numbers s left rest share given outside so front = subst (AllByRecursion (λ n. n < 2 ^ s.width)) (sym front) (share_of F numbers s left rest given outside so).below

pub table_more : (F : FlatTree) (numbers : List ℕ) (s : SignalTree) (left : List SignalTree) (rest share later : List ℕ) (given given_now : List (List (List Bool))) (outside outside_now : List (List Bool)) (row : List (List Bool)) (bits : List Bool) →
    AreSoFar F numbers (s ∷ left) rest given outside → share ≡ take (free_count F s) rest → later ≡ drop (free_count F s) rest → HaveNumbers s.width (elements_in s.kind share) row →
    HasNumber (pad_width s) (outside_in s.kind share) bits → given_now ≡ given ++ row ∷ [] → outside_now ≡ outside ++ bits ∷ [] → AreSoFar F numbers left later given_now outside_now
table_more F numbers s left rest share later given given_now outside outside_now row bits so front back have has pushed pushed_outside =
    let part = share_of F numbers s left rest given outside so in
    let long : length share ≡ free_count F s = ap length front ∙ part.long in
    let wide : map length row ≡ given_widths F s = have.long ∙ ap (λ (c : ℕ). replicate c s.width) (elements_count s.kind share ∙ ap (given_count s.kind) long) in
    subst (λ (ns : List ℕ). AreSoFar F numbers left ns given_now outside_now) (sym back) (record {
      within = part.others;
      given_wide = moved (map length) given given_now row (given_widths F s) (map (given_widths F) left) (map (given_widths F) F.signals) pushed wide so.given_wide;
      given_is = moved (map number_of) given given_now row (elements_in s.kind (take (free_count F s) rest)) (given_from F left (drop (free_count F s) rest)) (given_of F numbers) pushed
          (have.mean ∙ ap (elements_in s.kind) front) so.given_is;
      outside_wide = moved length outside outside_now bits (pad_width s) (map pad_width left) (map pad_width F.signals) pushed_outside has.long so.outside_wide;
      outside_is = moved number_of outside outside_now bits (outside_in s.kind (take (free_count F s) rest)) (outside_from F left (drop (free_count F s) rest)) (outside_of F numbers) pushed_outside
          (has.means ∙ ap (outside_in s.kind) front) so.outside_is;
    })

-- the image at a place
image_at : {X Y : Type 0} (f : X → Y) (xs : List X) (n : ℕ) (x : X) (z : Y) → slice_get xs n ≡ Some x → get_or (map f xs) n z ≡ f x
image_at f xs n x z is = get_or_from_slice_get (map f xs) n (f x) z (get_map f xs n x is)

pub tables_done : (F : FlatTree) (numbers : List ℕ) (left : List SignalTree) (rest : List ℕ) (made : CaseBits) → left ≡ [] → AreSoFar F numbers left rest made.given.items made.outside.items → AreBitsOf F numbers made
tables_done F numbers left rest made none so = record {
  suit = record { long = sym (length-map made.given.items (map length)) ∙ ap length wide ∙ length-map F.signals (given_widths F); each = λ n s is. at n s is s.kind refl };
  given = sym (append-nil (table_numbers made.given.items)) ∙ (ap (λ (ss : List SignalTree). table_numbers made.given.items ++ given_from F ss rest) (sym none) ∙ so.given_is);
  outside = sym (append-nil (map number_of made.outside.items)) ∙ (ap (λ (ss : List SignalTree). map number_of made.outside.items ++ outside_from F ss rest) (sym none) ∙ so.outside_is);
}
  where
    wide : map (map length) made.given.items ≡ map (given_widths F) F.signals
    wide = sym (append-nil (map (map length) made.given.items)) ∙ (ap (λ (ss : List SignalTree). map (map length) made.given.items ++ map (given_widths F) ss) (sym none) ∙ so.given_wide)

    outside_wide : map length made.outside.items ≡ map pad_width F.signals
    outside_wide = sym (append-nil (map length made.outside.items)) ∙ (ap (λ (ss : List SignalTree). map length made.outside.items ++ map pad_width ss) (sym none) ∙ so.outside_wide)

    row_wide : (n : ℕ) (s : SignalTree) → IsSignal F n s → map length (get_or made.given.items n []) ≡ given_widths F s
    row_wide n s is = sym (get_or-map (map length) made.given.items n []) ∙ (ap (λ (t : List (List ℕ)). get_or t n []) wide ∙ image_at (given_widths F) F.signals n s [] is)

    bits_wide : (n : ℕ) (s : SignalTree) → IsSignal F n s → length (get_or made.outside.items n []) ≡ pad_width s
    bits_wide n s is = sym (get_or-map length made.outside.items n []) ∙ (ap (λ (t : List ℕ). get_or t n 0) outside_wide ∙ image_at pad_width F.signals n s 0 is)

    at : (n : ℕ) (s : SignalTree) → IsSignal F n s → (kind : SigKind) → s.kind ≡ kind → IsGivenBits F s kind (get_or made.given.items n []) (get_or made.outside.items n [])
    at n s is Input kind = λ other. row_wide n s is ∙ ap₂ (λ k c. replicate (given_count k c) s.width) kind (all_of_input F s kind other)
    at n s is Register kind = row_wide n s is ∙ ap₂ (λ k c. replicate (given_count k c) s.width) kind (all_of_register F s kind)
    at n s is Pad kind = bits_wide n s is ∙ ap (λ k. outside_width k s.width) kind
    at n s is Wire kind = tt
