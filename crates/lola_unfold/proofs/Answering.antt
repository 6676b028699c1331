-- What elaboration answers for a flat design with an order or a loop.
use Rattle.std.proofs.Common.{◌≡◌, ℕ, ◌<◌, ◌≤◌, ◌-◌, ◌^◌, List, [], ◌∷◌, map, get_or, Result, Ok, Err, refl, sym, ap, ◌∙◌, subst, arith}
use Rattle.lola_tree.specs.Tree.{SourceTree}
use Rattle.lola_tree.specs.Value.{Path}
use Rattle.lola_tree.specs.design.Signals.{Signal, height, size, signals, signal_paths}
use Rattle.lola_tree.specs.design.Chains.{IsLoop}
use Rattle.lola_order.specs.declared.ordering.Ordered.{Ordered}
use Rattle.lola_order.specs.declared.ordering.Ordered.TheVariants.{Order, Loop}
use Rattle.lola_order.specs.Graph.{IsOrder, IsLoop as IsGraphLoop}
use Rattle.lola_design.specs.Graph.{paths_at}
use Rattle.lola_design.specs.Regular.{IsRegular}
use Rattle.lola_flat.specs.declared.design.Flat.{Flat}
use Rattle.lola_flat.specs.declared.design.Signal.{Signal as FlatSignal}
use Rattle.lola_flat.specs.Tree.{SignalTree, signal_tree, FlatTree, flat_tree}
use Rattle.lola_unfold.specs.declared.unfolding.ElabError.{ElabError}
use Rattle.lola_unfold.specs.declared.unfolding.ElabError.TheVariants as error
use Rattle.lola_unfold.specs.Slots.{capped}
use Rattle.lola_unfold.specs.Flat.{flat_signal, flat_design, flat_graph}
use Rattle.lola_unfold.specs.Finished.{dotted, name_at, IsOrdered, IsAnswer, IsAccepted, IsNamedLoop, Answers}

-- the paths of the signals of a flat design
flat_paths : (xs : List FlatSignal) → map (λ (s : FlatSignal). s.path) xs ≡ map (λ (s : SignalTree). s.path) (map signal_tree xs)
flat_paths [] = refl
flat_paths (x ∷ xs) = ap (λ (l : List Path). x.path ∷ l) (flat_paths xs)

design_paths : (S : SourceTree) (xs : List Signal) → map (λ (s : SignalTree). s.path) (map (flat_signal S) xs) ≡ map (λ (s : Signal). s.path) xs
design_paths S [] = refl
design_paths S (x ∷ xs) = ap (λ (l : List Path). x.path ∷ l) (design_paths S xs)

names_are : (paths : List Path) (numbers : List ℕ) → map (λ (n : ℕ). dotted (get_or paths n [])) numbers ≡ map dotted (paths_at paths numbers)
names_are paths [] = refl
names_are paths (n ∷ numbers) = ap (λ (l : List (List ℕ)). dotted (get_or paths n []) ∷ l) (names_are paths numbers)

module _ (S : SourceTree) (F : Flat) (tall : height S ≤ 64) (few : size S ≤ 65536) (is : flat_tree F ≡ flat_design S []) (law : (numbers : List ℕ) → IsRegular S → IsGraphLoop (flat_graph (map (flat_signal S) (signals S))) numbers → IsLoop S (paths_at (signal_paths S) numbers)) where
  signals_are : map signal_tree F.signals ≡ map (flat_signal S) (signals S)
  signals_are = ap (λ (G : FlatTree). G.signals) is

  paths_are : map (λ (s : FlatSignal). s.path) F.signals ≡ signal_paths S
  paths_are = flat_paths F.signals ∙ ap (map (λ (s : SignalTree). s.path)) signals_are ∙ design_paths S (signals S)

  with_order : (G : Flat) (order : List ℕ) → flat_tree G ≡ record (flat_tree F) { order = order } → IsOrder (flat_graph (map signal_tree F.signals)) order → IsAccepted S G
  with_order G order same ordered = record {
    flat = tall;
    few = few;
    elaborated = record {
      is = same ∙ ap (λ (H : FlatTree). record H { order = order }) is ∙ sym (ap (λ (H : FlatTree). flat_design S H.order) same);
      order = subst (λ (H : FlatTree). IsOrder (flat_graph H.signals) H.order) (sym same) ordered;
    };
  }

  with_loop : (names : List (List ℕ)) (numbers : List ℕ) → names ≡ map (name_at F.signals) numbers → IsGraphLoop (flat_graph (map signal_tree F.signals)) numbers → IsNamedLoop S names
  with_loop names numbers same loop =
      let is_loop = subst (λ (ss : List SignalTree). IsGraphLoop (flat_graph ss) numbers) signals_are loop in
      record {
        flat = tall;
        few = few;
        numbers = numbers;
        is_loop = is_loop;
        are = same ∙ ap (λ (ps : List Path). map (λ (n : ℕ). dotted (get_or ps n [])) numbers) paths_are ∙ names_are (signal_paths S) numbers;
        closed = λ regular. law numbers regular is_loop;
      }

  pub answers_are : (found : Ordered) (r : Result Flat ElabError) → IsOrdered (flat_tree F) found → IsAnswer F found r → Answers S r
  answers_are (Order order) (Ok G) ordered answer = with_order G order answer ordered
  answers_are (Order order) (Err (error.TooDeep n)) ordered answer = absurd answer
  answers_are (Order order) (Err error.TooMany) ordered answer = absurd answer
  answers_are (Order order) (Err (error.Loop names)) ordered answer = absurd answer
  answers_are (Order order) (Err error.Memory) ordered answer = tt
  answers_are (Loop numbers) (Ok G) ordered answer = absurd answer
  answers_are (Loop numbers) (Err (error.TooDeep n)) ordered answer = absurd answer
  answers_are (Loop numbers) (Err error.TooMany) ordered answer = absurd answer
  answers_are (Loop numbers) (Err (error.Loop names)) ordered answer = with_loop names numbers answer ordered
  answers_are (Loop numbers) (Err error.Memory) ordered answer = tt

-- limits that stand still
pub above_capped : (m n : ℕ) → m < 2 ^ 32 - 1 → m < capped n → m < n
above_capped m n small above = omega arith

pub within_capped : (m n : ℕ) → m < 2 ^ 32 - 1 → capped n ≤ m → n ≤ m
within_capped m n small within = omega arith
