-- What holds of all that names stand for holds wherever they are looked up.
use Rattle.std.proofs.Common.{ℕ, Bool, true, false, List, Option, Some, None}
use Rattle.std.specs.Prelude.{if◌then◌else◌, bytes_eq, codes}
use Rattle.lola_tree.specs.declared.named.Ref.{Ref}
use Rattle.lola_tree.specs.Names.{ref_name}
use Rattle.tab_tree.specs.Names.{Names, or_else, numbered, bare_name, look}

-- a relation of what names stand for, name by name
module _ {X Y : Type 0} (R : Option X → Option Y → Type 0) where
  pub record Related (f : Names X) (g : Names Y) : Type 0 where
    pub word : R f.word g.word
    pub count : R f.count g.count
    pub loaded : (j : ℕ) → R (f.loaded j) (g.loaded j)
    pub turned : (j : ℕ) → R (f.turned j) (g.turned j)
    pub named : (name : List ℕ) → R (f.named name) (g.named name)
    pub register : (path : List (List ℕ)) → R (f.register path) (g.register path)

  pub if_by : (b : Bool) (x u : Option X) (y v : Option Y) → R x y → R u v → R (if b then x else u) (if b then y else v)
  if_by true x u y v p q = p
  if_by false x u y v p q = q

  else_by : (o : Option ℕ) (f : ℕ → Option X) (g : ℕ → Option Y) (x : Option X) (y : Option Y) → ((j : ℕ) → R (f j) (g j)) → R x y → R (or_else o f x) (or_else o g y)
  else_by None f g x y p q = q
  else_by (Some j) f g x y p q = p j

  bare_by : (f : Names X) (g : Names Y) → Related f g → (name : List ℕ) → R (bare_name f name) (bare_name g name)
  bare_by f g e name =
      let turned = else_by (numbered 116 name) f.turned g.turned (f.named name) (g.named name) e.turned (e.named name) in
      let loaded = else_by (numbered 100 name) f.loaded g.loaded (or_else (numbered 116 name) f.turned (f.named name)) (or_else (numbered 116 name) g.turned (g.named name)) e.loaded turned in
      if_by (bytes_eq name (codes "i")) f.word _ g.word _ e.word (if_by (bytes_eq name (codes "k")) f.count _ g.count _ e.count loaded)

  pub look_by : (f : Names X) (g : Names Y) → Related f g → (r : Ref) → R (look f r) (look g r)
  look_by f g e r = if_by r.source (f.register r.path) (bare_name f (ref_name r)) (g.register r.path) (bare_name g (ref_name r)) (e.register r.path) (bare_by f g e (ref_name r))
