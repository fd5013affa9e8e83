-- The lines of a part, one after another.
use Rattle.std.proofs.Common.{◌≡◌, ◌&&◌, ◌==◌, ℕ, ◌+◌, ◌<◌, ◌≤◌, Bool, true, List, [], ◌∷◌, ◌++◌, Some, None, refl, ap, ◌∙◌, sym, subst, if◌then◌else◌, get_or, take, drop, length, suc, add-one, drop-cons}
use Rattle.std.specs.List.{list_all}
use Rattle.std.proofs.lemmas.List.{take-append-drop, take_more, take_all}
use Rattle.std.proofs.lemmas.List.Folds.{list_all-append}
use Rattle.std.proofs.lemmas.Bool.{and_parts, and_from, or_left, eqb-true}
use Rattle.history_tables.proofs.RowLemmas.{same_at_self}
use Rattle.nrt_base.specs.declared.numbers.At.{At}
use Rattle.history_rules.specs.Nodes.{Past}
use Rattle.history_rules.specs.Lines.{same_at, is_answered, entries_of_line}
use Rattle.script_serving.specs.declared.script.Line.{Line}
use Rattle.script_serving.specs.declared.script.LineCommand.{LineCommand}
use Rattle.script_serving.specs.Lines.{command_at, has_line, all_answered, earlier_answered}
use Rattle.script_serving.specs.Form.{are_ascending}
use Rattle.history_book.specs.Log.{Log, printed}
use Rattle.lane_threads.specs.Owes.{FaultsFit}
use Rattle.lane_threads.specs.Walks.{ServesSince, AreUnbegun, ArePart, LineGoes, LineRan, StillFresh, Going, LinesRan}
use Rattle.lane_threads.proofs.WalkLemmas.{all_answered_stays, since_append, log_then, goes_then}
use Rattle.lane_threads.proofs.PartLemmas.{command_past, earlier_past}
use Rattle.lane_threads.proofs.FormLemmas.{line_behind, ascending_back, answered-append}
use Rattle.lane_threads.proofs.PhaseLemmas.{fresh_beyond}

-- nothing was done yet
pub goes_first : (logged : Bool) (command : LineCommand) (at : At) (log : Log) → FaultsFit logged log → LineGoes logged command at log log
goes_first logged command at log faults = record { more = []; log = refl; faults = faults; serves = λ lines found early. tt }

pub ran_after : (logged : Bool) (command : LineCommand) (at : At) (old mid new : Log) → LineGoes logged command at old mid → LineRan logged command at mid new
    → LineRan logged command at old new
ran_after logged command at old mid new h k = record { goes = goes_then logged command at old mid new h k.goes; replied = k.replied }

pub fresh_after : (logged : Bool) (command : LineCommand) (at : At) (old mid new : Log) → LineGoes logged command at old mid → StillFresh logged command at mid new
    → StillFresh logged command at old new
fresh_after logged command at old mid new h k = record { goes = goes_then logged command at old mid new h k.goes; fresh = k.fresh }

-- no line was done yet
pub going_first : (logged : Bool) (lane : ℕ) (lines : List Line) (log : Log) → FaultsFit logged log → AreUnbegun lines (printed log) → Going logged lane lines 0 log log
going_first logged lane lines log faults fresh =
    record { goes = record { more = []; log = refl; serves = tt; faults = faults }; answered = refl; fresh = fresh }

-- one line more
module _ (logged : Bool) (lane : ℕ) (lines : List Line) (i : ℕ) (line : Line) (item : line ≡ get_or lines i line) (within : i < length lines) where
  dropped : drop i lines ≡ line ∷ drop (i + 1) lines
  dropped = rw (add-one, drop-cons lines i line) (ap (λ (x : Line). x ∷ drop (suc i) lines) (sym item))

  whole : lines ≡ take i lines ++ line ∷ drop (i + 1) lines
  whole = sym (take-append-drop i lines) ∙ ap (λ (ls : List Line). take i lines ++ ls) dropped

  taken : take (i + 1) lines ≡ take i lines ++ line ∷ []
  taken = take_more lines i line within ∙ ap (λ (x : Line). take i lines ++ x ∷ []) (sym item)

  -- the line is of the lane, and so are those behind it
  owned : ArePart lane lines → ((line.at.lane.0 == lane) ≡ true) × (list_all (λ (l : Line). l.at.lane.0 == lane) (drop (i + 1) lines) ≡ true)
  owned part =
      let all = subst (λ (ls : List Line). list_all (λ (l : Line). l.at.lane.0 == lane) ls ≡ true) whole part.own in
      let rest = and_parts (list_all (λ (l : Line). l.at.lane.0 == lane) (take i lines)) (list_all (λ (l : Line). l.at.lane.0 == lane) (line ∷ drop (i + 1) lines))
      (sym (list_all-append (λ (l : Line). l.at.lane.0 == lane) (take i lines) (line ∷ drop (i + 1) lines)) ∙ all) in
      and_parts (line.at.lane.0 == lane) (list_all (λ (l : Line). l.at.lane.0 == lane) (drop (i + 1) lines)) rest.1

  pub line_lane : ArePart lane lines → line.at.lane.0 ≡ lane
  line_lane part = eqb-true line.at.lane.0 lane (owned part).0

  pub line_fresh : (past : Past) → AreUnbegun (drop i lines) past → entries_of_line line.at past ≡ []
  line_fresh past fresh = (subst (λ (ls : List Line). AreUnbegun ls past) dropped fresh).0

  ascending_here : ArePart lane lines → are_ascending (take i lines ++ line ∷ drop (i + 1) lines) ≡ true
  ascending_here part = subst (λ (ls : List Line). are_ascending ls ≡ true) whole part.ascending

  -- the line stands among the lines of the part, behind those that are done
  found_here : ArePart lane lines → command_at lines line.at ≡ Some line.command
  found_here part =
      let rest : List Line = drop (i + 1) lines in
      let here : command_at (line ∷ rest) line.at ≡ Some line.command =
      ap (λ (b : Bool). if b then Some line.command else command_at rest line.at) (same_at_self line.at) in
      let first : has_line (line ∷ rest) line.at ≡ true = or_left (same_at line.at line.at) (has_line rest line.at) (same_at_self line.at) in
      let behind = line_behind (take i lines) (line ∷ rest) line.at (ascending_here part) first in
      subst (λ (ls : List Line). command_at ls line.at ≡ Some line.command) (sym whole) (command_past (take i lines) (line ∷ rest) line.at behind ∙ here)

  turn_here : (past : Past) → all_answered (take i lines) past ≡ true → earlier_answered lines line.at past ≡ true
  turn_here past d =
      let rest : List Line = drop (i + 1) lines in
      let turn : earlier_answered (line ∷ rest) line.at past ≡ true =
      ap (λ (b : Bool). if b then true else is_answered line.at past && earlier_answered rest line.at past) (same_at_self line.at) in
      subst (λ (ls : List Line). earlier_answered ls line.at past ≡ true) (sym whole) (earlier_past (take i lines) (line ∷ rest) line.at past d turn)

  single_serves : (old new : Log) → line.at.lane.0 ≡ lane → (goes : LineGoes logged line.command line.at old new) → ServesSince logged lane (line ∷ []) None goes.more old
  single_serves old new mine goes =
      subst (λ (n : ℕ). ServesSince logged n (line ∷ []) None goes.more old) mine
      (goes.serves (line ∷ []) (ap (λ (b : Bool). if b then Some line.command else None) (same_at_self line.at))
      (ap (λ (b : Bool). if b then true else is_answered line.at (printed old) && true) (same_at_self line.at)))

  pub going_on : (initial old new : Log) → ArePart lane lines → Going logged lane lines i initial old → LineRan logged line.command line.at old new
      → Going logged lane lines (i + 1) initial new
  going_on initial old new part s r =
      let mine : line.at.lane.0 ≡ lane = line_lane part in
      let more : Log = r.goes.more in
      let serves : ServesSince logged lane lines None more old =
      subst (λ (n : ℕ). ServesSince logged n lines None more old) mine (r.goes.serves lines (found_here part) (turn_here (printed old) s.answered)) in
      let faults : FaultsFit logged (more ++ old) = subst (FaultsFit logged) r.goes.log r.goes.faults in
      let stays : all_answered (take i lines) (printed new) ≡ true =
      subst (λ (l : Log). all_answered (take i lines) (printed l) ≡ true) (sym r.goes.log) (all_answered_stays (take i lines) more old s.answered) in
      record {
        goes = record {
          more = more ++ s.goes.more;
          log = log_then initial old new s.goes.more more s.goes.log r.goes.log;
          serves = since_append logged lane lines None more s.goes.more initial (subst (λ (l : Log). ServesSince logged lane lines None more l) s.goes.log serves) s.goes.serves;
          faults = r.goes.faults;
        };
        answered = subst (λ (ls : List Line). all_answered ls (printed new) ≡ true) (sym taken)
            (answered-append (take i lines) (line ∷ []) (printed new) stays (and_from _ _ r.replied refl));
        fresh = subst (λ (l : Log). AreUnbegun (drop (i + 1) lines) (printed l)) (sym r.goes.log)
            (fresh_beyond logged lane (line ∷ []) (drop (i + 1) lines) (drop (i + 1) lines) more old (λ at h. h) (owned part).1
            (ascending_back (take i lines) (line ∷ drop (i + 1) lines) (ascending_here part)) (single_serves old new mine r.goes) faults
            (subst (λ (ls : List Line). AreUnbegun ls (printed old)) dropped s.fresh).1);
      }

-- all lines were done
pub lines_ran : (logged : Bool) (lane : ℕ) (lines : List Line) (i : ℕ) (initial now : Log) → length lines ≤ i → Going logged lane lines i initial now
    → LinesRan logged lane lines initial now
lines_ran logged lane lines i initial now whole s =
    record { goes = s.goes; answered = subst (λ (ls : List Line). all_answered ls (printed now) ≡ true) (take_all i lines whole) s.answered }
