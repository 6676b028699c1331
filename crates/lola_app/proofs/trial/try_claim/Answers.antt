use Rattle.std.proofs.Common.{◌≡◌, ℕ, ◌<◌, List, length, ap, ap₂, subst, sym, ◌∙◌, string_bytes}
use Rattle.std.specs.List.{AllByRecursion}
use Rattle.std.proofs.lemmas.Option.{get_or_from_slice_get, slice_get_within}
use Rattle.lola_app.specs.declared.obligation.Obligation.{Obligation}
use Rattle.lola_app.specs.Deciding.{IsFew, IsFirstWide, IsDecidedBy, IsFirstFailing}
use Rattle.lola_app.specs.Obligations.{total}
use Rattle.lola_app.specs.Values.{lines_of}
use Rattle.lola_app.specs.Trial.{tried_widths}
use Rattle.lola_app.specs.Tried.{printed_names}
use Rattle.lola_app.proofs.trial.try_claim.Goals as goal

pub returns-in-Some : goal.returns-in-Some
returns-in-Some c =
    let subject = c.args.subject.now in
    let list = c.in_ok-list.list.items in
    let found : IsFirstWide subject c.as_slice.result.now c.in-Some.number = rw c.in-Some.is at c.in_ok-number.ensures in
    let wide : IsFirstWide subject list c.in-Some.number = subst (λ (l : List Obligation). IsFirstWide subject l c.in-Some.number) c.as_slice.ensures.value found in
    let same : c.index-obligation.result.now ≡ wide.obligation =
    c.index-obligation.ensures ∙ get_or_from_slice_get list c.in-Some.number wide.obligation c.index-obligation.result.now wide.there in
    record {
      list = list;
      number = c.in-Some.number;
      is_listed = c.in_ok-list.ensures;
      wide = wide;
      name_is = c.in_ok-clone.ensures.cases ∙ ap (λ (o : Obligation). string_bytes o.name) same;
      count_is = c.in_ok-free_bits.ensures ∙ ap (λ (o : Obligation). total (tried_widths subject o.which)) same;
    }

pub index-obligation-requires-in-Fails : goal.index-obligation-requires-in-Fails
index-obligation-requires-in-Fails c =
    let subject = c.args.subject.now in
    let failing : IsFirstFailing subject c.in_ok-list.list.items c.in-Fails.number c.in-Fails.numbers.items =
    subst (λ (l : List Obligation). IsFirstFailing subject l c.in-Fails.number c.in-Fails.numbers.items) c.as_slice-2.ensures.value (subst (IsDecidedBy subject c.as_slice-2.result.now) c.in-Fails.is c.in_ok-decide.ensures) in
    subst (λ n. c.in-Fails.number < n) (ap length (sym c.as_slice-2.ensures.value) ∙ c.as_slice-2.ensures.len) (slice_get_within c.in_ok-list.list.items c.in-Fails.number failing.obligation failing.there)

pub returns : goal.returns
returns c =
    let subject = c.args.subject.now in
    let list = c.in_ok-list.list.items in
    let failing : IsFirstFailing subject list c.in-Fails.number c.in-Fails.numbers.items =
    subst (λ (l : List Obligation). IsFirstFailing subject l c.in-Fails.number c.in-Fails.numbers.items) c.as_slice-2.ensures.value (subst (IsDecidedBy subject c.as_slice-2.result.now) c.in-Fails.is c.in_ok-decide.ensures) in
    let same : c.index-obligation-in-Fails.result.now ≡ failing.obligation =
    c.index-obligation-in-Fails.ensures ∙ get_or_from_slice_get list c.in-Fails.number failing.obligation c.index-obligation-in-Fails.result.now failing.there in
    let few : AllByRecursion (IsFew subject) c.as_slice.result.now = rw c.in_default.is at c.in_ok-number.ensures in
    record {
      list = list;
      number = c.in-Fails.number;
      numbers = c.in-Fails.numbers.items;
      is_listed = c.in_ok-list.ensures;
      few = subst (AllByRecursion (IsFew subject)) c.as_slice.ensures.value few;
      failing = failing;
      name_is = c.in_ok-clone-in-Fails.ensures.cases ∙ ap (λ (o : Obligation). string_bytes o.name) same;
      lines_are = c.in_ok-named_numbers-in-Fails.ensures
          ∙ ap₂ (λ (o : Obligation) (numbers : List ℕ). lines_of (printed_names subject o.which) (tried_widths subject o.which) numbers) same c.as_slice-in-Fails.ensures.value;
    }
