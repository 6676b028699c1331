-- Where the signals of a flat design are well formed and its order is that of its equations, each equation reads what
-- is ready before it.
use Rattle.std.proofs.Common.{◌≡◌, ℕ, true, false, List, [], ◌∷◌, ◌++◌, Option, Some, None, refl, sym, ◌∙◌, ap, subst, ◌⊎◌, inl, inr, append_assoc, append-nil}
use Rattle.std.specs.Prelude.{slice_get, IsSome, IfSome}
use Rattle.std.specs.List.{AllByRecursion}
use Rattle.lola_bits.specs.Lists.{IsIn, AreDistinct}
use Rattle.lola_bits.proofs.All.{all_of, of_all}
use Rattle.lola_bits.proofs.Lists.{in_front, in_back, is_between, to_flat_map}
use Rattle.lola_bits.proofs.Options.{some_same}
use Rattle.lola_bits.proofs.Places.{get_map, from_get}
use Rattle.lola_flat.specs.declared.design.SigKind.{SigKind}
use Rattle.lola_flat.specs.declared.design.SigKind.TheVariants.{Input, Pad, Wire, Register}
use Rattle.lola_flat.specs.Tree.{ExprTree, SignalTree, FlatTree}
use Rattle.lola_flat.specs.Value.{Read, vector_of, array_of, outside_of, reads}
use Rattle.lola_flat.specs.Signals.{IsSignal, there, expressions}
use Rattle.lola_flat.specs.Formed.{IsKind, CountFits, ReadFits, IsFormedSignal, IsReadyBehind, IsOrdered}
use Rattle.lola_flat.proofs.OneCycle.{IsDriven, has_equation}
use Rattle.lola_order.specs.Graph.{Graph, IsWanted, IsUse, IsFirstReady, ArePlaced, IsOrder}
use Rattle.lola_unfold.specs.Flat.{vector_read, vectors_read, some_uses, kind_uses, flat_graph}

-- what is placed at a place of an order is the first that is ready there
ready_at : (g : Graph) (placed before after : List ℕ) (n : ℕ) → ArePlaced g placed (before ++ n ∷ after) → IsFirstReady g (placed ++ before) n
ready_at g placed [] after n are = subst (λ (l : List ℕ). IsFirstReady g l n) (sym (append-nil placed)) are.0
ready_at g placed (i ∷ before) after n are =
    subst (λ (l : List ℕ). IsFirstReady g l n) (append_assoc placed (i ∷ []) before) (ready_at g (placed ++ i ∷ []) before after n are.1)

placed_new : (g : Graph) (placed xs : List ℕ) → ArePlaced g placed xs → (n : ℕ) → IsIn n xs → IsIn n placed → ⊥
placed_new g placed [] are n is there = is
placed_new g placed (i ∷ xs) are n (inl same) there = are.0.ready.new (subst (λ (k : ℕ). IsIn k placed) same there)
placed_new g placed (i ∷ xs) are n (inr later) there = placed_new g (placed ++ i ∷ []) xs are.1 n later (in_front n placed (i ∷ []) there)

placed_distinct : (g : Graph) (placed xs : List ℕ) → ArePlaced g placed xs → AreDistinct xs
placed_distinct g placed [] are = tt
placed_distinct g placed (i ∷ xs) are =
    (λ again. placed_new g (placed ++ i ∷ []) xs are.1 i again (in_back i placed (i ∷ []) (inl refl)), placed_distinct g (placed ++ i ∷ []) xs are.1)

placed_wanted : (g : Graph) (placed xs : List ℕ) → ArePlaced g placed xs → (n : ℕ) → IsIn n xs → IsWanted g n
placed_wanted g placed [] are n is = absurd is
placed_wanted g placed (i ∷ xs) are n (inl same) = subst (λ (k : ℕ). IsWanted g k) (sym same) are.0.ready.wanted
placed_wanted g placed (i ∷ xs) are n (inr later) = placed_wanted g (placed ++ i ∷ []) xs are.1 n later

-- what is wanted is a wire or a pad
wanted_kind : (kind : SigKind) (equation : Option ExprTree) (us : List ℕ) → kind_uses kind equation ≡ Some us → IsDriven kind
wanted_kind Input equation us e = absurd (let f : None ≡ Some us = e in cc)
wanted_kind Register equation us e = absurd (let f : None ≡ Some us = e in cc)
wanted_kind Wire equation us e = inl refl
wanted_kind Pad equation us e = inr refl

driven_uses : (kind : SigKind) (equation : Option ExprTree) (e : ExprTree) → IsDriven kind → equation ≡ Some e → kind_uses kind equation ≡ Some (vectors_read e)
driven_uses Input equation e driven is = absurd (elim driven [ inl f ↦ cc | inr f ↦ cc ])
driven_uses Register equation e driven is = absurd (elim driven [ inl f ↦ cc | inr f ↦ cc ])
driven_uses Wire equation e driven is = ap some_uses is
driven_uses Pad equation e driven is = ap some_uses is

array_stored : (kind : SigKind) (place : Option ExprTree) (count : ℕ) → CountFits kind place count → IsSome place → kind ≡ Register
array_stored kind None count fits some = absurd (let e : false ≡ true = some in cc)
array_stored kind (Some place) count fits some = fits.0

module _ (F : FlatTree) (formed : (n : ℕ) (s : SignalTree) → IsSignal F n s → IsFormedSignal F n s) (ordered : IsOrder (flat_graph F.signals) F.order) where
  abbrev g : Graph
  g = flat_graph F.signals

  entry : (n : ℕ) (s : SignalTree) → IsSignal F n s → slice_get g n ≡ Some (kind_uses s.kind s.equation)
  entry n s is = get_map (λ (t : SignalTree). kind_uses t.kind t.equation) F.signals n s is

  equation_of : (n : ℕ) (s : SignalTree) → IsSignal F n s → IsDriven s.kind → (e : ExprTree) × (s.equation ≡ Some e)
  equation_of n s is driven = has_equation s.kind s.equation driven (formed n s is).equation

  wanted : (n : ℕ) (s : SignalTree) → IsSignal F n s → IsDriven s.kind → IsWanted g n
  wanted n s is driven =
      let e = equation_of n s is driven in
      record { uses = vectors_read e.0; equation = entry n s is ∙ ap (λ (o : Option (List ℕ)). Some o) (driven_uses s.kind s.equation e.0 driven e.1) }

  driven_at : (n : ℕ) → IsWanted g n → (s : SignalTree) × IsSignal F n s × IsDriven s.kind
  driven_at n w =
      let f = from_get (λ (t : SignalTree). kind_uses t.kind t.equation) F.signals n (Some w.uses) w.equation in
      (f.0, f.1, wanted_kind f.0.kind f.0.equation w.uses f.2)

  -- what is read is given, or placed before
  ready : (before : List ℕ) (n : ℕ) (s : SignalTree) → IsSignal F n s → (e : ExprTree) → s.equation ≡ Some e → IsDriven s.kind → IsFirstReady g before n → (r : Read) → IsIn r (reads e) → ReadFits F r → IsReadyBehind F before r
  ready before n s is e equation driven first (outside_of j) there fits = tt
  ready before n s is e equation driven first (array_of j) there fits =
      (fits.0, (fits.1.0, array_stored fits.0.kind fits.0.place fits.0.count (formed j fits.0 fits.1.0).count fits.1.1))
  ready before n s is e equation driven first (vector_of j) there fits = by_kind fits.0.kind refl
    where
      placed : IsDriven fits.0.kind → IsIn j before
      placed other =
          let used : IsUse g j n = record {
            uses = vectors_read e;
            equation = entry n s is ∙ ap (λ (o : Option (List ℕ)). Some o) (driven_uses s.kind s.equation e driven equation);
            among = to_flat_map vector_read j (vector_of j) (reads e) there (inl refl);
          } in
          first.ready.met j used (wanted j fits.0 fits.1.0 other)

      by_kind : (k : SigKind) → fits.0.kind ≡ k → IsReadyBehind F before (vector_of j)
      by_kind Input kind = inl (fits.0, (fits.1.0, kind))
      by_kind Register kind = inr (inl (fits.0, (fits.1.0, kind)))
      by_kind Wire kind = inr (inr (placed (inl kind)))
      by_kind Pad kind = inr (inr (placed (inr kind)))

  expression_in : (s : SignalTree) (e : ExprTree) → s.equation ≡ Some e → IsIn e (expressions s)
  expression_in s e is = in_back e (there s.place) (there s.equation) (subst (λ (o : Option ExprTree). IsIn e (there o)) (sym is) (inl refl))

  uses_ready : (before after : List ℕ) (n : ℕ) (s : SignalTree) → F.order ≡ before ++ n ∷ after → IsSignal F n s → (o : Option ExprTree) → s.equation ≡ o → IfSome o (λ e. AllByRecursion (IsReadyBehind F before) (reads e))
  uses_ready before after n s split is None equation = tt
  uses_ready before after n s split is (Some e) equation =
      let among : IsIn n F.order = subst (λ (l : List ℕ). IsIn n l) (sym split) (is_between n before after) in
      let at = driven_at n (placed_wanted g [] F.order ordered.placed n among) in
      let same : at.0 ≡ s = some_same at.0 s (sym at.1 ∙ is) in
      let driven : IsDriven s.kind = subst (λ (t : SignalTree). IsDriven t.kind) same at.2 in
      let first = ready_at g [] before after n (subst (λ (l : List ℕ). ArePlaced g [] l) split ordered.placed) in
      let fits = (formed n s is).reads e (expression_in s e equation) in
      all_of (IsReadyBehind F before) (reads e) (λ r there. ready before n s is e equation driven first r there (of_all (ReadFits F) r (reads e) fits there))

  kind_of : (n : ℕ) (s : SignalTree) → IsSignal F n s → IsDriven s.kind → IsKind F n Wire ⊎ IsKind F n Pad
  kind_of n s is (inl kind) = inl (s, (is, kind))
  kind_of n s is (inr kind) = inr (s, (is, kind))

  pub is_ordered : IsOrdered F
  is_ordered = record {
    once = placed_distinct g [] F.order ordered.placed;
    only = λ n there. let at = driven_at n (placed_wanted g [] F.order ordered.placed n there) in kind_of n at.0 at.1 at.2;
    wires = λ n k. ordered.all n (wanted n k.0 k.1.0 (inl k.1.1));
    pads = λ n k. ordered.all n (wanted n k.0 k.1.0 (inr k.1.1));
    uses = λ before after n s split is. uses_ready before after n s split is s.equation refl;
  }
