-- What two texts lead to, from what trying the claim that was made of them came to.
use Rattle.std.proofs.Common.{◌≡◌, ℕ, ◌+◌, ◌<◌, ◌≤◌, List, [], ◌∷◌, length, map, Some, refl, sym, ap, ap₂, ◌∙◌, subst, arith, inl, inr}
use Rattle.std.specs.Prelude.{filter, nat_eq, slice_get, string_bytes, Result, Ok, Err, IfOk}
use Rattle.std.proofs.lemmas.List.{length-map}
use Rattle.std.proofs.lemmas.Bool.{cases_Bool}
use Rattle.lola_bits.specs.declared.memory.Memory.{Memory}
use Rattle.lola_bits.specs.Lists.{IsAt}
use Rattle.lola_bits.proofs.Lists.{filter_few}
use Rattle.lola_tree.specs.Tree.{ModuleTree, SourceTree}
use Rattle.lola_tree.specs.Value.{Values}
use Rattle.lola_tree.specs.Cycle.{IsState, IsGiven, Cycle, Next}
use Rattle.lola_elab.specs.declared.design.Design.{Design}
use Rattle.lola_elab.specs.declared.vector.Vector.{Vector}
use Rattle.lola_elab.specs.Small.{IsSmallSource}
use Rattle.lola_elab.specs.Elaborated.{vector_names, vector_widths, leaf_widths, Elaborates, HasOneCycle}
use Rattle.lola_elab.proofs.Roots.{root_is}
use Rattle.small_tree.specs.Table.{TableTree}
use Rattle.lola_app.specs.declared.claim.Claim.{Claim}
use Rattle.lola_app.specs.declared.decide_reply.DecideReply.{DecideReply}
use Rattle.lola_app.specs.declared.face.Face.{Face}
use Rattle.lola_app.specs.declared.subject.Subject.{Subject}
use Rattle.lola_app.specs.Accepts.{Fits, AcceptsTable}
use Rattle.lola_app.specs.Claiming.{IsClaimOf}
use Rattle.lola_app.specs.Decided.{IsYes, IsNo, IsLimited, IsDecided}
use Rattle.lola_app.specs.DecideReply.{DecideOutcome, refused, table_not_built, too_many_bits, accepted, failed, decide_outcome}
use Rattle.lola_app.specs.Headline.{Resets, Commutes}
use Rattle.lola_app.specs.Listing.{named_of}
use Rattle.lola_app.specs.Made.{IsDesignOf, IsTableOf}
use Rattle.lola_app.specs.Obligations.{obligations, AllHold, free_names, free_widths}
use Rattle.lola_app.specs.Small.{Interface, width_in, bits_among, interface_of, IsSmallTable}
use Rattle.lola_app.specs.Trial.{IsTriable}
use Rattle.lola_app.specs.Tried.{AllPass, OneFails, OneIsWide, IsTried}
use Rattle.lola_app.specs.Values.{Line, lines_of}
use Rattle.lola_app.specs.Vectors.{bit_names, face_of, interface_in}
use Rattle.lola_app.proofs.Behaves.{Behaves, behaves, input_widths_are, register_widths_are}
use Rattle.lola_app.proofs.Bridge.{Fitting}
use Rattle.lola_app.proofs.Verdict.{IsEntry, each_long, each_entry, all_hold, all_narrow, first_fails, first_is_wide}

-- the laws that a yes stands on
abbrev pub OneCycleLaw : Type 0
OneCycleLaw = (S : SourceTree) → IsSmallSource S → (s inp : Values) → IsState S s → IsGiven S inp → HasOneCycle S s inp

abbrev pub NextLaw : Type 0
NextLaw = (S : SourceTree) (s inp v s' : Values) → IsSmallSource S → IsState S s → IsGiven S inp → Cycle S s inp v → Next S v s' → IsState S s'

abbrev pub HeadlineLaw : Type 0
HeadlineLaw = (S : SourceTree) (T : TableTree) → IsSmallSource S → Fits S T → AllHold S T → Resets S T × Commutes S T

-- the vectors of one bit are those whose names are that wide
bits_are : (W : List ℕ → ℕ) (vs : List Vector) → vector_widths vs ≡ map W (vector_names vs) → bit_names vs ≡ filter (λ (name : List ℕ). nat_eq (W name) 1) (vector_names vs)
bits_are W [] e = refl
bits_are W (x ∷ xs) e =
    let head : x.width ≡ W (string_bytes x.name) = cc in
    let tail : vector_widths xs ≡ map W (vector_names xs) = cc in
    elim (cases_Bool (nat_eq x.width 1)) [
      | inl on ↦
          let on' = ap (λ (n : ℕ). nat_eq n 1) (sym head) ∙ on in
          rw (on, on') (ap (λ (ns : List (List ℕ)). string_bytes x.name ∷ ns) (bits_are W xs tail))
      | inr off ↦
          let off' = ap (λ (n : ℕ). nat_eq n 1) (sym head) ∙ off in
          rw (off, off') (bits_are W xs tail)
    ]

-- the interface of a design is that of its source's root
face_is : (S : SourceTree) (design : Design) (made : Elaborates S design) → face_of design ≡ interface_of made.small.root
face_is S design made i = record {
  root = made.root i;
  inputs = (bits_are (width_in made.small.root) design.inputs.items (input_widths_are S design made) ∙ ap (bits_among made.small.root) made.inputs) i;
  registers = (bits_are (width_in made.small.root) design.registers.items (register_widths_are S design made) ∙ ap (bits_among made.small.root) made.registers) i;
}

pub fits_of : (S : SourceTree) (design : Design) (T : TableTree) (made : Elaborates S design) → IsSmallTable (face_of design) T → Fits S T
fits_of S design T made small = record {
  root = made.small.root;
  is_root = ([], made.small.only);
  small = subst (λ (face : Interface). IsSmallTable face T) (face_is S design made) small;
}

-- a table that fits the source is in the small form for what is seen of its design
pub small_face : (S : SourceTree) (design : Design) (face : Face) (T : TableTree) → Elaborates S design → interface_in face ≡ face_of design → Fits S T → IsSmallTable (interface_in face) T
small_face S design face T made sees fits =
    let same : fits.root ≡ made.small.root = root_is S made.small.root fits.root made.small.only fits.is_root in
    subst (λ (f : Interface). IsSmallTable f T) (sym (sees ∙ face_is S design made)) (subst (λ (m : ModuleTree). IsSmallTable (interface_of m) T) same fits.small)

-- a design's vectors of one bit aren't more than its vectors
few_bits : (vs : List Vector) → length (bit_names vs) ≤ length vs
few_bits vs =
    let a = length-map (filter (λ (v : Vector). nat_eq v.width 1) vs) (λ (v : Vector). string_bytes v.name) in
    let b = filter_few (λ (v : Vector). nat_eq v.width 1) vs in
    omega (arith, a, b)

pub few_seen : (S : SourceTree) (design : Design) (face : Face) → Elaborates S design → interface_in face ≡ face_of design → length face.inputs.items + length face.registers.items ≤ 65536
few_seen S design face made sees =
    let a : length face.inputs.items ≡ length (bit_names design.inputs.items) = sym (length-map face.inputs.items string_bytes) ∙ ap (λ (f : Interface). length f.inputs) sees in
    let b : length face.registers.items ≡ length (bit_names design.registers.items) = sym (length-map face.registers.items string_bytes) ∙ ap (λ (f : Interface). length f.registers) sees in
    let c = few_bits design.inputs.items in
    let d = few_bits design.registers.items in
    let e : length design.inputs.items + length design.registers.items ≤ 65536 = Behaves.few (behaves S design made) in
    omega (arith, a, b, c, d, e)

module _ (source table : List ℕ) (design : Design) (face : Face) (claim : Claim) (subject : Subject) (made : IsDesignOf source design) (seen : interface_in face ≡ face_of design) (told : IsTableOf table claim) (kept : claim.face ≡ face) (same : (subject.design ≡ design) × (subject.claim ≡ claim)) (named : (name : List ℕ) → IsAt (bit_names design.inputs.items) claim.reset name → IsAt (vector_names design.inputs.items) subject.reset name) (bit : (name : List ℕ) → IsAt (bit_names design.inputs.items) claim.reset name → slice_get (vector_widths design.inputs.items) subject.reset ≡ Some 1) where
  elaborated : Elaborates made.S subject.design
  elaborated = subst (Elaborates made.S) (sym same.0) made.elaborated

  does : Behaves made.S subject.design
  does = behaves made.S subject.design elaborated

  claims : IsClaimOf told.T subject.claim
  claims = subst (IsClaimOf told.T) (sym same.1) told.claims

  sees : interface_in subject.claim.face ≡ face_of subject.design
  sees = ap (λ (c : Claim). interface_in c.face) same.1 ∙ ap interface_in kept ∙ seen ∙ ap face_of (sym same.0)

  reset_bit : IsAt (bit_names design.inputs.items) claim.reset told.T.reset.port
  reset_bit = subst (λ (f : Interface). IsAt f.inputs claim.reset told.T.reset.port) (ap interface_in kept ∙ seen) told.claims.reset

  one_bit : slice_get (vector_widths subject.design.inputs.items) subject.reset ≡ Some 1
  one_bit = subst (λ (d : Design). slice_get (vector_widths d.inputs.items) subject.reset ≡ Some 1) (sym same.0) (bit told.T.reset.port reset_bit)

  pub triable : subject.widths.items ≡ leaf_widths design → IsTriable subject
  triable widths = record {
    widths = widths ∙ ap leaf_widths (sym same.0);
    reset = one_bit;
    nexts = elaborated.next_widths;
    few = does.few_bits;
  }

  fits : Fits made.S told.T
  fits = fits_of made.S subject.design told.T elaborated (subst (λ (f : Interface). IsSmallTable f told.T) sees claims.small)

  fitting : AcceptsTable made.S table told.T
  fitting = record { spelled = told.spelled; fits = fits }

  module _ (one_cycle : OneCycleLaw) (next_law : NextLaw) (headline : HeadlineLaw) where
    fit : Fitting made.S told.T subject
    fit = record {
      does = does;
      is = claims;
      sees = sees;
      at = subst (λ (d : Design). IsAt (vector_names d.inputs.items) subject.reset told.T.reset.port) (sym same.0) (named told.T.reset.port reset_bit);
      bit = one_bit;
      one = one_cycle made.S elaborated.small;
      after = λ s inp v s' suits given cycle next. next_law made.S s inp v s' elaborated.small suits given cycle next;
    }

    yes : (obliged inside : ℕ) → AllPass subject obliged inside → IsYes source table obliged inside
    yes obliged inside pass =
        let all = all_hold made.S told.T subject fit pass.list pass.is_listed pass.all in
        let both = headline made.S told.T elaborated.small fits all in
        record {
          headline = record { S = made.S; T = told.T; design = made.accepts; fitting = fitting; cycles = one_cycle made.S elaborated.small; resets = both.0; commutes = both.1 };
          narrow = all_narrow made.S told.T subject fit pass.list pass.is_listed pass.few;
          all = all;
          obliged_is = pass.obliged_is ∙ sym (each_long (λ o entry. IsEntry made.S told.T subject o (named_of entry)) (obligations told.T) pass.list (each_entry made.S told.T subject fit pass.list pass.is_listed));
          inside_is = pass.inside_is ∙ sym (ap length claims.small.one_class);
        }

    no : (name : List ℕ) (lines : List Line) → OneFails subject name lines → IsNo source table name lines
    no name lines fails =
        let first = first_fails made.S told.T subject fit fails.list fails.number fails.numbers fails.is_listed fails.failing in
        record {
          S = made.S;
          T = told.T;
          design = made.accepts;
          fitting = fitting;
          narrow = all_narrow made.S told.T subject fit fails.list fails.is_listed fails.few;
          before = first.before;
          first = first.first;
          later = first.later;
          listed = first.splits;
          earlier = first.earlier;
          valuation = first.valuation;
          least = first.least;
          name_is = fails.name_is ∙ first.named;
          lines_are = fails.lines_are ∙ ap₂ (λ (names : List (List ℕ)) (widths : List ℕ). lines_of names widths fails.numbers) first.printed first.widths
              ∙ ap (lines_of (free_names made.S told.T first.first) (free_widths made.S told.T first.first)) (sym first.values);
        }

    limited : (name : List ℕ) (count : ℕ) → OneIsWide subject name count → IsLimited source table name count
    limited name count wide =
        let first = first_is_wide made.S told.T subject fit wide.list wide.number wide.is_listed wide.wide in
        record {
          S = made.S;
          T = told.T;
          design = made.accepts;
          fitting = fitting;
          before = first.before;
          first = first.first;
          later = first.later;
          listed = first.splits;
          earlier = first.earlier;
          wide = subst (λ (n : ℕ). 16 < n) first.counted wide.wide.wide;
          name_is = wide.name_is ∙ first.named;
          count_is = wide.count_is ∙ first.counted;
        }

    decided : (outcome : DecideOutcome) → IsTried subject outcome → IsDecided source table outcome
    decided (refused refusal) tried = absurd tried
    decided table_not_built tried = absurd tried
    decided (too_many_bits name count) tried = limited name count tried
    decided (accepted obliged inside) tried = yes obliged inside tried
    decided (failed name lines) tried = no name lines tried

    pub decided_of : (r : Result DecideReply Memory) → IfOk r (λ reply. IsTried subject (decide_outcome reply)) → IfOk r (λ reply. IsDecided source table (decide_outcome reply))
    decided_of (Ok reply) tried = decided (decide_outcome reply) tried
    decided_of (Err memory) tried = tt
