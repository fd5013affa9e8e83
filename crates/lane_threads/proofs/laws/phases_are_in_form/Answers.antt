use Rattle.lane_threads.proofs.ScriptLemmas.{form_of}
use Rattle.lane_threads.proofs.laws.phases_are_in_form.Goals as goal

pub returns : goal.returns
returns c = form_of _ c.requires
