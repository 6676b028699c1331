use Rattle.std.proofs.Common.{◌+◌, ◌*◌, length}
use Rattle.lola_parse.proofs.expression.Descent.+descent.Given as goal

abbrev pub decreases-expr : goal.decreases-expr
decreases-expr l = 12 * length l.here + 9

abbrev pub decreases-choice : goal.decreases-choice
decreases-choice l = 12 * length l.here + 10

abbrev pub decreases-rel : goal.decreases-rel
decreases-rel l = 12 * length l.here + 8

abbrev pub decreases-sum : goal.decreases-sum
decreases-sum l = 12 * length l.here + 7

abbrev pub decreases-terms : goal.decreases-terms
decreases-terms l = 12 * length l.here + 6

abbrev pub decreases-term : goal.decreases-term
decreases-term l = 12 * length l.here + 5

abbrev pub decreases-factors : goal.decreases-factors
decreases-factors l = 12 * length l.here + 4

abbrev pub decreases-factor : goal.decreases-factor
decreases-factor l = 12 * length l.here + 3

abbrev pub decreases-reference : goal.decreases-reference
decreases-reference l = 12 * length l.here + 2

abbrev pub decreases-negation : goal.decreases-negation
decreases-negation l = 12 * length l.here + 10

abbrev pub decreases-nested : goal.decreases-nested
decreases-nested l = 12 * length l.here + 10

abbrev pub decreases-shift : goal.decreases-shift
decreases-shift l = 12 * length l.here + 10

abbrev pub decreases-concat : goal.decreases-concat
decreases-concat l = 12 * length l.here + 11

abbrev pub decreases-parts : goal.decreases-parts
decreases-parts l = 12 * length l.here + 10

abbrev pub decreases-part : goal.decreases-part
decreases-part l = 12 * length l.here + 10

abbrev pub decreases-index : goal.decreases-index
decreases-index l = 12 * length l.here + 10
