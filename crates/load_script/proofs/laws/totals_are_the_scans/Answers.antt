use Rattle.load_script.proofs.Searching.{totals_are}
use Rattle.load_script.proofs.laws.totals_are_the_scans.Goals as goal

pub returns : goal.returns
returns c = totals_are c.args.n c.args.h.now c.requires.few c.requires.legal c.requires.serves
