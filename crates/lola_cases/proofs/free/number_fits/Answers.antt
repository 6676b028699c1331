use Rattle.std.proofs.Common.{arith}
use Rattle.std.proofs.lemmas.List.{length-map}
use Rattle.lola_flat.specs.Tree.{flat_tree, signal_tree}
use Rattle.lola_cases.proofs.Few.{few_signals}
use Rattle.lola_cases.proofs.free.number_fits.Goals as goal

pub returns : goal.returns
returns c = let few = few_signals (flat_tree c.args.flat.now) c.requires.formed in let long = length-map c.args.flat.now.signals signal_tree in let within = c.requires.within in omega (arith, few, long, within)
