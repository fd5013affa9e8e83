-- A line that is answered at once has no entry behind its first.
use Rattle.std.proofs.Common.{◌≡◌, Bool, true, false}
use Rattle.std.proofs.lemmas.Bool.{false≢true}
use Rattle.history_rules.specs.declared.entry.Event.{Event}
use Rattle.history_rules.specs.declared.entry.Event.TheVariants.{Refused}
use Rattle.script_serving.specs.declared.script.LineCommand.{LineCommand}
use Rattle.script_serving.specs.declared.script.LineCommand.TheVariants.{Publish, Copy, Settle, Search, Ask, Commit}
use Rattle.script_serving.specs.Serves.{Follows}

-- a line that is answered at once
abbrev pub is_short : LineCommand → Bool
is_short Publish = false
is_short (Copy n) = false
is_short Settle = false
is_short (Search n query) = false
is_short (Ask t query) = false
is_short (Commit n) = false
is_short command = true

pub none_follows : (command : LineCommand) (last e : Event) → is_short command ≡ true → Follows command last e → ⊥
none_follows Publish last e short h = false≢true short
none_follows (Copy n) last e short h = false≢true short
none_follows Settle last e short h = false≢true short
none_follows (Search n query) last e short h = false≢true short
none_follows (Ask t query) last e short h = false≢true short
none_follows (Commit n) last e short h = false≢true short
none_follows command last (Refused cause) short h = false≢true h
none_follows command last e short h = h
