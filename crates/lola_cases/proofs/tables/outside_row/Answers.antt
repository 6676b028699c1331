use Rattle.std.proofs.Common.{ℕ, ◌<◌, ◌^◌, sym, subst}
use Rattle.std.proofs.lemmas.Nat.{pow_pos}
use Rattle.lola_bits.proofs.All.{at_any_place}
use Rattle.lola_cases.proofs.tables.outside_row.Goals as goal

pub number_bits-requires : goal.number_bits-requires
number_bits-requires c =
    subst (λ (n : ℕ). n < 2 ^ c.args.width) (sym c.first_of.ensures) (at_any_place (λ n. n < 2 ^ c.args.width) c.args.share.now 0 0 (pow_pos c.args.width) c.requires)
