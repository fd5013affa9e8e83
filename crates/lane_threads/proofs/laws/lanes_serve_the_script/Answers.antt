use Rattle.lane_threads.proofs.ScriptLemmas.{form_of, script_served, script_none, script_first}
use Rattle.lane_threads.proofs.laws.lanes_serve_the_script.Goals as goal

pub returns : goal.returns
returns c = record {
  serves = script_served _ _ _ (form_of _ c.requires.form) c.requires.ends c.requires.history;
  none = script_none _ _ (form_of _ c.requires.form) c.requires.ends;
  first = script_first _ _ (form_of _ c.requires.form) c.requires.ends;
}
