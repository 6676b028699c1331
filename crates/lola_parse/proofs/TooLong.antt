-- An expression that is too long: from the faults of the descent to the place of its 513th token.
use Rattle.std.proofs.Common.{◌≡◌, ℕ, zero, suc, ◌+◌, ◌-◌, ◌<◌, ◌≤◌, List, [], ◌∷◌, ◌++◌, length, take, drop, refl, sym, ap, subst, ◌∙◌, arith}
use Rattle.std.proofs.lemmas.List.{append_assoc, length-append, drop-drop, take-append-drop}
use Rattle.std.proofs.Math.Seq.{drop-append_seam}
use Rattle.lola_scan.specs.declared.token.Token.{Token}
use Rattle.lola_tree.specs.Tree.{Tree}
use Rattle.lola_parse.specs.declared.symbol.Language.{Language}
use Rattle.lola_parse.specs.declared.symbol.Language.TheVariants.{Design}
use Rattle.lola_parse.specs.declared.fault.Fault.{Fault}
use Rattle.lola_parse.specs.declared.fault.Fault.TheVariants as fault
use Rattle.lola_parse.specs.declared.parser.ParseError.{ParseError}
use Rattle.lola_parse.specs.declared.parser.ParseError.TheVariants as error
use Rattle.lola_parse.specs.Symbols.{Item, items_of}
use Rattle.lola_parse.specs.Grammar.{Expression, place_of}
use Rattle.lola_parse.specs.Long.{BeginsTooLong, IsTooLong, Any, Begins, FailsBy, LongAt, LongFront, LongWithin, LongSays, LongPlaced}
use Rattle.lola_parse.proofs.Suffix.{items_drop, items_long}
use Rattle.lola_parse.proofs.Local.{expression_local}

-- a list cut at one of its items
record Cut (n : ℕ) (all : List Item) : Type 0 where
  pub before : List Item
  pub item : Item
  pub behind : List Item
  pub splits : all ≡ before ++ item ∷ behind
  pub many : length before ≡ n

cut : (n : ℕ) (all : List Item) → n < length all → Cut n all
cut n [] within = absurd (omega arith)
cut zero (item ∷ more) within = record { before = []; item = item; behind = more; splits = refl; many = refl }
cut (suc n) (item ∷ more) within =
    let c = cut n more (omega arith) in
    record { before = item ∷ c.before; item = c.item; behind = c.behind; splits = ap (λ m. item ∷ m) c.splits; many = ap suc c.many }

-- what stands behind so many tokens
drop_is : (n : ℕ) (before behind : List Item) → length before ≡ n → drop n (before ++ behind) ≡ behind
drop_is n before behind many = ap (λ k. drop k (before ++ behind)) (sym many) ∙ drop-append_seam before behind

-- an expression begins with a run that leaves fewer tokens than it must
pub long_at : (l : Language) (all : List Item) (left k : ℕ) → left ≡ length all - 512 → k < left → Begins (Any (Expression l)) all k → LongAt l all left
long_at l all left k floor past b =
    let count = b.count in
    let all_long : length all ≡ length b.run + length b.behind = ap length b.splits ∙ length-append b.run b.behind in
    let enough : 512 < length b.run = omega arith in
    let c = cut 512 b.run enough in
    let splits : all ≡ c.before ++ c.item ∷ (c.behind ++ b.behind) =
    b.splits ∙ (ap (λ r. r ++ b.behind) c.splits ∙ append_assoc c.before (c.item ∷ c.behind) b.behind) in
    let run : b.run ++ (b.more ++ []) ≡ c.before ++ c.item ∷ (c.behind ++ (b.more ++ [])) =
    ap (λ r. r ++ (b.more ++ [])) c.splits ∙ append_assoc c.before (c.item ∷ c.behind) (b.more ++ []) in
    let whole = b.whole [] in
    let front : drop 512 all ≡ c.item ∷ (c.behind ++ b.behind) = ap (drop 512) splits ∙ drop_is 512 c.before _ c.many in
    record {
      many = omega arith;
      some = omega arith;
      long = record {
        run = c.before;
        last = c.item;
        behind = c.behind ++ b.behind;
        splits = splits;
        many = c.many;
        more = c.behind ++ (b.more ++ []);
        e = whole.0;
        begun = subst (λ r. Expression l r whole.0 []) run whole.1;
        place = ap place_of front;
      };
    }

-- a whole expression begins with itself
pub begins_whole : {l : Language} {all rest : List Item} {e : Tree} → Expression l all e rest → Begins (Any (Expression l)) all (length rest)
begins_whole {rest = rest} read =
    let h = expression_local read in
    record { run = h.run; behind = rest; more = []; splits = h.splits; count = refl; whole = h.anew }

pub front_long : (l : Language) (all : List Item) (floor : ℕ) (f : Fault) → floor ≡ length all - 512 → FailsBy (Any (Expression l)) floor all f → LongFront l all f
front_long l all floor (fault.Syntax left) is h = tt
front_long l all floor (fault.Long left) is h = long_at l all left h.1 (h.0 ∙ is) (subst (λ n. h.1 < n) (sym h.0) h.2) h.3
front_long l all floor fault.Memory is h = tt

-- the tokens behind the first 512 of an end of a text, by their number
tokens_behind : (l : Language) (text : List ℕ) (tokens : List Token) (before here : List Item) (left : ℕ) → items_of l text tokens ≡ before ++ here →
    length here ≡ left + 512 → drop 512 here ≡ items_of l text (drop (length tokens - left) tokens)
tokens_behind l text tokens before here left splits many =
    let long : length tokens ≡ length before + length here = sym (items_long l text tokens) ∙ (ap length splits ∙ length-append before here) in
    let number : length before + 512 ≡ length tokens - left = omega arith in
    let one : here ≡ drop (length before) (items_of l text tokens) = sym (ap (drop (length before)) splits ∙ drop-append_seam before here) in
    let two : drop 512 here ≡ drop (length before + 512) (items_of l text tokens) =
    ap (drop 512) one ∙ drop-drop 512 (length before) (items_of l text tokens) in
    two ∙ (items_drop l text (length before + 512) tokens ∙ ap (λ n. items_of l text (drop n tokens)) number)

tokens_enough : (l : Language) (text : List ℕ) (tokens : List Token) (before here : List Item) (left : ℕ) → items_of l text tokens ≡ before ++ here →
    length here ≡ left + 512 → left ≤ length tokens
tokens_enough l text tokens before here left splits many =
    let long : length tokens ≡ length before + length here = sym (items_long l text tokens) ∙ (ap length splits ∙ length-append before here) in
    omega arith

-- so the error's place is that of the 513th token
long_place : (l : Language) (text : List ℕ) (tokens : List Token) (before here : List Item) (left at : ℕ) → items_of l text tokens ≡ before ++ here →
    LongAt l here left → LongPlaced text tokens (fault.Long left) at → BeginsTooLong l here at
long_place l text tokens before here left at splits h placed =
    let is : place_of (drop 512 here) ≡ place_of (items_of l text (drop (length tokens - left) tokens)) =
    ap place_of (tokens_behind l text tokens before here left splits h.many) in
    let enough = tokens_enough l text tokens before here left splits h.many in
    subst (BeginsTooLong l here) (is ∙ sym (placed l h.some enough)) h.long

-- of one expression from a token on
pub from_long : (l : Language) (text : List ℕ) (tokens : List Token) (from : ℕ) (f : Fault) (e : ParseError) → LongFront l (items_of l text (drop from tokens)) f →
    LongSays (LongPlaced text tokens f) e → LongSays (BeginsTooLong l (items_of l text (drop from tokens))) e
from_long l text tokens from (fault.Long left) (error.Long at) h placed =
    let here = items_of l text (drop from tokens) in
    let all = items_of l text tokens in
    let splits : all ≡ take from all ++ here =
    sym (ap (λ m. take from all ++ m) (sym (items_drop l text from tokens)) ∙ take-append-drop from all) in
    long_place l text tokens (take from all) here left at splits h placed
from_long l text tokens from (fault.Syntax left) (error.Long at) h placed = absurd placed
from_long l text tokens from fault.Memory (error.Long at) h placed = absurd placed
from_long l text tokens from f (error.Syntax at) h placed = tt
from_long l text tokens from f error.Memory h placed = tt

-- of a design
pub text_long : (text : List ℕ) (tokens : List Token) (f : Fault) (e : ParseError) → LongWithin Design (items_of Design text tokens) f →
    LongSays (LongPlaced text tokens f) e → LongSays (IsTooLong Design (items_of Design text tokens)) e
text_long text tokens (fault.Long left) (error.Long at) h placed =
    record { before = h.before; here = h.here; splits = h.splits; long = long_place Design text tokens h.before h.here left at h.splits h.long placed }
text_long text tokens (fault.Syntax left) (error.Long at) h placed = absurd placed
text_long text tokens fault.Memory (error.Long at) h placed = absurd placed
text_long text tokens f (error.Syntax at) h placed = tt
text_long text tokens f error.Memory h placed = tt
