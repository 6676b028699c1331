use Rattle.std.proofs.Common.{◌≡◌, drop}
use Rattle.tab_tree.specs.Step.{fits}
use Rattle.tab_mach.proofs.pattern.fits.Given as goal

-- the places so far fit
abbrev pub invariant-loop-number : goal.invariant-loop-number
invariant-loop-number l = fits (drop l.number l.pattern) l.word ≡ fits l.pattern l.word
