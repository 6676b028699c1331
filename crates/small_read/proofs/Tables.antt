-- A table by its four parts.
use Rattle.std.proofs.Common.{◌≡◌, ℕ, List, refl}
use Rattle.lola_parse.specs.Symbols.{Item}
use Rattle.small_tree.specs.Table.{TableTree}
use Rattle.small_read.specs.declared.reader.Heading.{Heading}
use Rattle.small_read.specs.Grammar.{SpellsTable}
use Rattle.small_read.specs.Kept.{ViewsTree, EffectsTree}
use Rattle.small_read.specs.Read.{Headed, Viewed, Effected, Ending}

abbrev pub table_of : Heading → ViewsTree → EffectsTree → List ℕ → TableTree
table_of heading views effects ends = record {
  name = heading.name;
  root = heading.root;
  reset = heading.reset;
  loaded = heading.loaded;
  states = views.states;
  invariant = views.invariant;
  boundary = views.boundary;
  starts = effects.starts;
  classes = effects.classes;
  ends = ends;
}

pub record Parts (all : List Item) (T : TableTree) : Type 0 where
  pub heading : Heading
  pub views : ViewsTree
  pub effects : EffectsTree
  pub word_state : List Item
  pub word_start : List Item
  pub word_end : List Item
  pub headed : Headed all heading word_state
  pub viewed : Viewed word_state views word_start
  pub effected : Effected word_start effects word_end
  pub ending : Ending word_end T.ends
  pub table_is : T ≡ table_of heading views effects T.ends

pub parts : {all : List Item} {T : TableTree} → SpellsTable all T → Parts all T
parts {T = T} h = record {
  heading = record { name = T.name; root = T.root; reset = T.reset; loaded = T.loaded };
  views = record { states = T.states; invariant = T.invariant; boundary = T.boundary };
  effects = record { starts = T.starts; classes = T.classes };
  word_state = h.word_state;
  word_start = h.word_start;
  word_end = h.word_end;
  headed = record {
    title = h.title;
    word_for = h.word_for;
    root = h.root;
    semicolon = h.semicolon;
    word_roles = h.word_roles;
    roles = h.roles;
    table_passed = h.table_passed;
    name_read = h.name_read;
    for_passed = h.for_passed;
    root_read = h.root_read;
    semicolon_passed = h.semicolon_passed;
    roles_passed = h.roles_passed;
    roles_read = h.roles_read;
  };
  viewed = record {
    first = h.states;
    word_invariant = h.word_invariant;
    second = h.invariant;
    word_boundary = h.word_boundary;
    third = h.boundary;
    state_passed = h.state_passed;
    states_read = h.states_read;
    invariant_passed = h.invariant_passed;
    invariant_read = h.invariant_read;
    boundary_passed = h.boundary_passed;
    boundary_read = h.boundary_read;
  };
  effected = record { first = h.starts; behind = h.classes; start_passed = h.start_passed; starts_read = h.starts_read; classes_read = h.classes_read };
  ending = record { ends = h.ends; dot = h.dot; end_passed = h.end_passed; ends_read = h.ends_read; dot_passed = h.dot_passed };
  table_is = refl;
}

pub table_spelled : {all first second third : List Item} {heading : Heading} {views : ViewsTree} {effects : EffectsTree} {ends : List ℕ} →
    Headed all heading first → Viewed first views second → Effected second effects third → Ending third ends → SpellsTable all (table_of heading views effects ends)
table_spelled {first = first} {second = second} {third = third} headed viewed effected ending = record {
  title = headed.title;
  word_for = headed.word_for;
  root = headed.root;
  semicolon = headed.semicolon;
  word_roles = headed.word_roles;
  roles = headed.roles;
  word_state = first;
  states = viewed.first;
  word_invariant = viewed.word_invariant;
  invariant = viewed.second;
  word_boundary = viewed.word_boundary;
  boundary = viewed.third;
  word_start = second;
  starts = effected.first;
  classes = effected.behind;
  word_end = third;
  ends = ending.ends;
  dot = ending.dot;
  table_passed = headed.table_passed;
  name_read = headed.name_read;
  for_passed = headed.for_passed;
  root_read = headed.root_read;
  semicolon_passed = headed.semicolon_passed;
  roles_passed = headed.roles_passed;
  roles_read = headed.roles_read;
  state_passed = viewed.state_passed;
  states_read = viewed.states_read;
  invariant_passed = viewed.invariant_passed;
  invariant_read = viewed.invariant_read;
  boundary_passed = viewed.boundary_passed;
  boundary_read = viewed.boundary_read;
  start_passed = effected.start_passed;
  starts_read = effected.starts_read;
  classes_read = effected.classes_read;
  end_passed = ending.end_passed;
  ends_read = ending.ends_read;
  dot_passed = ending.dot_passed;
}
