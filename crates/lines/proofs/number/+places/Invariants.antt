use Rattle.lines.proofs.number.+places.Given as goal

-- `lines::number::places` calls itself of a smaller number.
abbrev pub decreases-places : goal.decreases-places
decreases-places l = l.n
