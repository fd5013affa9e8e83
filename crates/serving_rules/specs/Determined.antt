-- A script and the text of a history determine the history.
use Rattle.std.specs.Prelude.{◌≡◌}
use Rattle.history_rules.specs.declared.entry.History.{History}
use Rattle.report_text.specs.Texts.{text_of}
use Rattle.script_serving.specs.declared.script.Script.{Script}
use Rattle.script_serving.specs.Serves.{Serves}

-- two histories that serve one script and have one text are equal
abbrev pub TextsDetermineHistories : Script → History → History → Type 0
TextsDetermineHistories script h k = Serves script h → Serves script k → text_of h ≡ text_of k → h ≡ k
