-- A well formed flat design has at most one cycle.
use Rattle.std.proofs.Common.{◌≡◌, ◌⊎◌, ℕ, zero, suc, ◌<◌, List, [], ◌∷◌, ◌++◌, length, get_or, Option, Some, None, inl, inr, refl, sym, ◌∙◌, ap, ap₂, subst, arith, append_assoc, append-nil}
use Rattle.std.specs.Prelude.{slice_get, IfSome}
use Rattle.std.specs.List.{AllByRecursion}
use Rattle.lola_bits.specs.Lists.{IsIn}
use Rattle.lola_bits.proofs.All.{all_of, of_all}
use Rattle.lola_bits.proofs.Lists.{but_last, is_between}
use Rattle.lola_bits.proofs.Options.{some_same, none_or_some}
use Rattle.lola_flat.specs.declared.design.SigKind.{SigKind}
use Rattle.lola_flat.specs.declared.design.SigKind.TheVariants.{Input, Pad, Wire, Register}
use Rattle.lola_flat.specs.Tree.{ExprTree, SignalTree, FlatTree}
use Rattle.lola_flat.specs.Value.{Env, env, value, Read, vector_of, array_of, outside_of, reads}
use Rattle.lola_flat.specs.Signals.{IsSignal, widths_of, HaveSame}
use Rattle.lola_flat.specs.Formed.{IsKind, EquationFits, IsReadyBehind, IsFormed}
use Rattle.lola_flat.specs.Cycle.{IsValueOf, IsCycle}
use Rattle.lola_flat.proofs.SameReads.{value_same}

-- what has an equation
abbrev pub IsDriven : SigKind → Type 0
IsDriven kind = (kind ≡ Wire) ⊎ (kind ≡ Pad)

pub has_equation : (kind : SigKind) (equation : Option ExprTree) → IsDriven kind → EquationFits kind equation → (e : ExprTree) × (equation ≡ Some e)
has_equation kind None driven fits = absurd (none kind driven fits)
  where
    none : (kind : SigKind) → IsDriven kind → EquationFits kind None → ⊥
    none Input (inl e) fits = cc
    none Input (inr e) fits = cc
    none Register (inl e) fits = cc
    none Register (inr e) fits = cc
    none Wire driven fits = cc
    none Pad driven fits = cc
has_equation kind (Some e) driven fits = (e, refl)

-- it has the value of its equation, and all else what is given
pub driven_value : (F : FlatTree) (N : Env ℕ) (kind : SigKind) (equation : Option ExprTree) (given ns : List ℕ) → IsDriven kind → (e : ExprTree) → equation ≡ Some e → IsValueOf F N kind equation given ns →
    ns ≡ value (widths_of F) N e ∷ []
driven_value F N Input equation given ns driven e is v = absurd (elim driven [ inl f ↦ cc | inr f ↦ cc ])
driven_value F N Register equation given ns driven e is v = absurd (elim driven [ inl f ↦ cc | inr f ↦ cc ])
driven_value F N Wire None given ns driven e is v = absurd v
driven_value F N Wire (Some f) given ns driven e is v = v ∙ ap (λ t. value (widths_of F) N t ∷ []) (some_same f e is)
driven_value F N Pad None given ns driven e is v = absurd v
driven_value F N Pad (Some f) given ns driven e is v = v ∙ ap (λ t. value (widths_of F) N t ∷ []) (some_same f e is)

pub given_value : (F : FlatTree) (N : Env ℕ) (kind : SigKind) (equation : Option ExprTree) (given ns : List ℕ) → (kind ≡ Input) ⊎ (kind ≡ Register) → IsValueOf F N kind equation given ns → ns ≡ given
given_value F N Input equation given ns is v = v
given_value F N Register equation given ns is v = v
given_value F N Wire equation given ns is v = absurd (elim is [ inl f ↦ cc | inr f ↦ cc ])
given_value F N Pad equation given ns is v = absurd (elim is [ inl f ↦ cc | inr f ↦ cc ])

-- a kind by its cases
pub kinds : (kind : SigKind) → ((kind ≡ Input) ⊎ (kind ≡ Register)) ⊎ IsDriven kind
kinds Input = inl (inl refl)
kinds Register = inl (inr refl)
kinds Wire = inr (inl refl)
kinds Pad = inr (inr refl)

-- lists with the same at each place
pub same_lists : {X : Type 0} (xs ys : List X) (z : X) → length xs ≡ length ys → ((n : ℕ) → n < length xs → get_or xs n z ≡ get_or ys n z) → xs ≡ ys
same_lists [] [] z long each = refl
same_lists [] (y ∷ ys) z long each = absurd (omega arith)
same_lists (x ∷ xs) [] z long each = absurd (omega arith)
same_lists (x ∷ xs) (y ∷ ys) z long each = ap₂ (λ a more. a ∷ more) (each zero (omega arith)) (same_lists xs ys z (omega arith) (λ n within. each (suc n) (omega arith)))

module _ (F : FlatTree) (formed : IsFormed F) (given : List (List ℕ)) (outer : List ℕ) (N M : List (List ℕ)) (p : IsCycle F given outer N) (q : IsCycle F given outer M) where
  abbrev Same : ℕ → Type 0
  Same n = get_or N n [] ≡ get_or M n []

  same_given : (n : ℕ) (s : SignalTree) → IsSignal F n s → (s.kind ≡ Input) ⊎ (s.kind ≡ Register) → Same n
  same_given n s is kind =
      given_value F (env N outer) s.kind s.equation (get_or given n []) (get_or N n []) kind (p.each n s is)
      ∙ sym (given_value F (env M outer) s.kind s.equation (get_or given n []) (get_or M n []) kind (q.each n s is))

  -- what is ready is the same, where all before are
  same_ready : (before : List ℕ) → ((k : ℕ) → IsIn k before → Same k) → (r : Read) → IsReadyBehind F before r → HaveSame (env N outer) (env M outer) r
  same_ready before all (vector_of n) (inl k) = same_given n k.0 k.1.0 (inl k.1.1)
  same_ready before all (vector_of n) (inr (inl k)) = same_given n k.0 k.1.0 (inr k.1.1)
  same_ready before all (vector_of n) (inr (inr among)) = all n among
  same_ready before all (array_of n) k = same_given n k.0 k.1.0 (inr k.1.1)
  same_ready before all (outside_of n) ready = refl

  wide_read : (r : Read) → HaveSame (widths_of F) (widths_of F) r
  wide_read (vector_of n) = refl
  wide_read (array_of n) = refl
  wide_read (outside_of n) = refl

  same_driven : (before after : List ℕ) (n : ℕ) (s : SignalTree) → F.order ≡ before ++ n ∷ after → ((k : ℕ) → IsIn k before → Same k) → IsSignal F n s → IsDriven s.kind → Same n
  same_driven before after n s split all is driven =
      let found = has_equation s.kind s.equation driven (formed.signals n s is).equation in
      let ready : AllByRecursion (IsReadyBehind F before) (reads found.0) =
      subst (λ (o : Option ExprTree). IfSome o (λ e. AllByRecursion (IsReadyBehind F before) (reads e))) found.1 (formed.order.uses before after n s split is) in
      let same : value (widths_of F) (env N outer) found.0 ≡ value (widths_of F) (env M outer) found.0 =
      value_same (widths_of F) (widths_of F) (env N outer) (env M outer) found.0
      (all_of (HaveSame (widths_of F) (widths_of F)) (reads found.0) (λ r among. wide_read r))
      (all_of (HaveSame (env N outer) (env M outer)) (reads found.0)
      (λ r among. same_ready before all r (of_all (IsReadyBehind F before) r (reads found.0) ready among))) in
      driven_value F (env N outer) s.kind s.equation (get_or given n []) (get_or N n []) driven found.0 found.1 (p.each n s is)
      ∙ ap (λ x. x ∷ []) same
      ∙ sym (driven_value F (env M outer) s.kind s.equation (get_or given n []) (get_or M n []) driven found.0 found.1 (q.each n s is))

  same_kind : (n : ℕ) (before after : List ℕ) → F.order ≡ before ++ n ∷ after → ((k : ℕ) → IsIn k before → Same k) → IsKind F n Wire ⊎ IsKind F n Pad → Same n
  same_kind n before after split all (inl k) = same_driven before after n k.0 split all k.1.0 (inl k.1.1)
  same_kind n before after split all (inr k) = same_driven before after n k.0 split all k.1.0 (inr k.1.1)

  same_order : (before after : List ℕ) → F.order ≡ before ++ after → ((k : ℕ) → IsIn k before → Same k) → (k : ℕ) → IsIn k F.order → Same k
  same_order before [] split all k among = all k (subst (IsIn k) (split ∙ append-nil before) among)
  same_order before (n ∷ after) split all k among =
      let there : IsIn n F.order = subst (IsIn n) (sym split) (is_between n before after) in
      let here : Same n = same_kind n before after split all (formed.order.only n there) in
      same_order (before ++ n ∷ []) after (split ∙ sym (append_assoc before (n ∷ []) after))
      (λ j is. elim (but_last j n before is) [ inl e ↦ subst Same (sym e) here | inr e ↦ all j e ]) k among

  same_signal : (n : ℕ) (s : SignalTree) → IsSignal F n s → Same n
  same_signal n s is = elim (kinds s.kind) [
    | inl kind ↦ same_given n s is kind
    | inr driven ↦ same_order [] F.order refl (λ k none. absurd none) n
        (elim driven [ inl wire ↦ formed.order.wires n (s, (is, wire)) | inr pad ↦ formed.order.pads n (s, (is, pad)) ])
  ]

  pub same_cycle : N ≡ M
  same_cycle = same_lists N M [] (p.long ∙ sym q.long) (λ n within.
      let inside : n < length F.signals = subst (λ k. n < k) p.long within in
      at n inside)
    where
      at : (n : ℕ) → n < length F.signals → get_or N n [] ≡ get_or M n []
      at n inside = elim (none_or_some (slice_get F.signals n)) [
        | inl none ↦ absurd (is_there F.signals n inside none)
        | inr found ↦ same_signal n found.0 found.1
      ]
        where
          is_there : (xs : List SignalTree) (n : ℕ) → n < length xs → slice_get xs n ≡ None → ⊥
          is_there [] n inside none = omega arith
          is_there (x ∷ xs) zero inside none = cc
          is_there (x ∷ xs) (suc n) inside none = is_there xs n (omega arith) none
