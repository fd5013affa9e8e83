use Rattle.body_forms.proofs.vint.+read_within.Given as goal

abbrev pub decreases-read_within : goal.decreases-read_within
decreases-read_within l = l.more
