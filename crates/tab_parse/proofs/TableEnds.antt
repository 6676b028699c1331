-- Lemmas on the sections of a table: what stands behind their parts, and a table made of them.
use Rattle.std.proofs.Common.{◌≡◌, ℕ, false, List, [], Option, Some, None, refl, sym, ap, subst, ◌∙◌}
use Rattle.std.specs.Prelude.{codes}
use Rattle.lola_tree.specs.declared.named.Named.{Named}
use Rattle.lola_tree.specs.Tree.{ActualTree}
use Rattle.lola_parse.specs.declared.symbol.Symbol.TheVariants as s
use Rattle.lola_parse.specs.Symbols.{Item}
use Rattle.lola_parse.specs.Grammar.{Passes}
use Rattle.lola_parse.specs.MayEnd.{Before}
use Rattle.tab_parse.specs.Placed.{LetAt, ClassAt, HeadingAt, ViewsAt, EffectsAt, TableAt}
use Rattle.tab_parse.specs.Grammar.{Keyword, More, no_row, one_row, LetRow, Fields, no_fields, some_fields, Ended, StartFetch, no_fetch, one_fetch, ClassRow, outside, inside}
use Rattle.tab_parse.specs.Fronts.{at_word, at_name, at_role, is_name, EndsFields}
use Rattle.tab_parse.proofs.Fronts.{keyword_one, keyword_at}
use Rattle.tab_parse.proofs.ClassEnds.{end_no_word}
use Rattle.tab_parse.proofs.Parts.{clash}

word_no_name : {word : List ℕ} {all rest : List Item} → Keyword word all rest → at_name all ≡ false
word_no_name h = rw h.1.splits refl

pub state_no_role : {all rest : List Item} → Keyword (codes "STATE") all rest → at_role all ≡ false
state_no_role h = rw h.1.splits refl

pub end_front : {all rest : List Item} → Passes s.End all rest → Before s.End all
end_front h = rw h.1.splits refl

-- behind the STATE rows stands FIELDS or INVARIANT, and this one behind the fields
pub fields_no_name : {fields : List LetAt} {all rest more : List Item} → Fields all fields rest → Keyword (codes "INVARIANT") rest more → at_name all ≡ false
fields_no_name (no_fields e f) word = subst (λ all. at_name all ≡ false) f (word_no_name word)
fields_no_name (some_fields first passed read) word = word_no_name passed

pub invariant_ends : {all rest : List Item} → Keyword (codes "INVARIANT") all rest → EndsFields all
invariant_ends h = record { no_name = word_no_name h; no_fields = keyword_at (codes "FIELDS") h refl }

-- behind the START rows stands FETCH, a class or END, and one of the last two behind FETCH
pub classes_no_name : {before classes : List ClassAt} {all rest : List Item} → More ClassRow before all classes rest → Before s.End rest → at_name all ≡ false
classes_no_name (no_row e f) h = ap is_name (subst (Before s.End) f h)
classes_no_name (one_row behind (outside first word read) more) h = word_no_name word
classes_no_name (one_row behind (inside first word read) more) h = word_no_name word

pub classes_no_fetch : {before classes : List ClassAt} {all rest : List Item} → More ClassRow before all classes rest → Before s.End rest →
    at_word (codes "FETCH") all ≡ false
classes_no_fetch {all = all} (no_row e f) h = end_no_word all (codes "FETCH") (subst (Before s.End) f h)
classes_no_fetch (one_row behind (outside first word read) more) h = keyword_at (codes "FETCH") word refl
classes_no_fetch (one_row behind (inside first word read) more) h = keyword_at (codes "FETCH") word refl

pub fetch_no_name : {fetch : Option ActualTree} {all rest : List Item} → StartFetch all fetch rest → at_name rest ≡ false → at_name all ≡ false
fetch_no_name (no_fetch e f) lacks = subst (λ all. at_name all ≡ false) f lacks
fetch_no_name (one_fetch e first word read is) lacks = word_no_name word

-- FIELDS and FETCH that are there, and that aren't
pub fields_there : {fields : List LetAt} {all rest first : List Item} → Fields all fields rest → at_word (codes "FIELDS") rest ≡ false →
    Keyword (codes "FIELDS") all first → More LetRow [] first fields rest
fields_there (no_fields e f) lacks word = clash (keyword_at (codes "FIELDS") word refl) (ap (at_word (codes "FIELDS")) (sym f) ∙ lacks)
fields_there {fields = fields} {rest = rest} (some_fields first passed read) lacks word = subst (λ all. More LetRow [] all fields rest) (keyword_one passed word) read

pub fields_none : {fields : List LetAt} {all rest : List Item} → Fields all fields rest → at_word (codes "FIELDS") all ≡ false → ([] ≡ fields) × (all ≡ rest)
fields_none (no_fields e f) lacks = (sym e, sym f)
fields_none (some_fields first passed read) lacks = clash (keyword_at (codes "FIELDS") passed refl) lacks

pub record FetchRead (first : List Item) (fetch : Option ActualTree) (rest : List Item) : Type 0 where
  pub e : ActualTree
  pub read : Ended first e rest
  pub is : fetch ≡ Some e

pub fetch_there : {fetch : Option ActualTree} {all rest first : List Item} → StartFetch all fetch rest → at_word (codes "FETCH") rest ≡ false →
    Keyword (codes "FETCH") all first → FetchRead first fetch rest
fetch_there (no_fetch e f) lacks word = clash (keyword_at (codes "FETCH") word refl) (ap (at_word (codes "FETCH")) (sym f) ∙ lacks)
fetch_there {rest = rest} (one_fetch e first passed read is) lacks word =
    record { e = e; read = subst (λ all. Ended all e rest) (keyword_one passed word) read; is = is }

pub fetch_none : {fetch : Option ActualTree} {all rest : List Item} → StartFetch all fetch rest → at_word (codes "FETCH") all ≡ false → (None ≡ fetch) × (all ≡ rest)
fetch_none (no_fetch e f) lacks = (sym e, sym f)
fetch_none (one_fetch e first passed read is) lacks = clash (keyword_at (codes "FETCH") passed refl) lacks

-- the table of its sections
abbrev pub table_from : HeadingAt → ViewsAt → EffectsAt → Named → TableAt
table_from heading views effects ends = record {
  name = heading.name;
  root = heading.root;
  roles = heading.roles;
  states = views.states;
  fields = views.fields;
  invariant = views.invariant;
  boundary = views.boundary;
  starts = effects.starts;
  start_fetch = effects.start_fetch;
  classes = effects.classes;
  ends = ends;
}
