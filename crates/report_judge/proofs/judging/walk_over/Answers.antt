use Rattle.std.proofs.Common.{Option, List, ◌∷◌, sym, subst, ◌∙◌, reverse}
use Rattle.documents.specs.declared.operation.Op.{Op}
use Rattle.history_rules.specs.declared.entry.Entry.{Entry}
use Rattle.history_rules.specs.Nodes.{Past}
use Rattle.history_points.specs.AskedPoints.{IsAskedPoint}
use Rattle.report_judge.specs.Judgements.{FitsNext}
use Rattle.report_judge.specs.Readings.{IsEntryOf, IsEntryRead}
use Rattle.report_judge.specs.Walks.{IsShown, ServesTo}
use Rattle.report_judge.specs.declared.judging.WalkEnd.TheVariants.{Unserved, Unread}
use Rattle.report_judge.proofs.WalkLaws.{walk_ends, some_left, none_begins, none_fits_there, serves_next, reversed_push}
use Rattle.report_judge.specs.Turns.{ArePhasesAnswered}
use Rattle.report_judge.proofs.TurnLaws.{phases_still}
use Rattle.report_judge.proofs.judging.walk_over.Goals as goal

pub returns-in_default-2 : goal.returns-in_default-2
returns-in_default-2 c =
    walk_ends c.args.script.now c.args.report.now c.history_of.result Unread c.loop-line.entries.items c.loop-line.left.now c.history_of.ensures.nodes c.history_of.ensures.entries c.loop-line.invariant.serves (
      some_left c.loop-line.left.now c.in-Some.rest.now c.in-Some.ensures.shorter,
      none_begins c.args.script.now c.due.result.now c.loop-line.left.now c.in-Some.line.now c.in-Some.ensures.lines.0
          (subst (λ (read : Option Entry). IsEntryRead c.args.script.now c.due.result.now c.in-Some.line.now read) c.in_default-2.is c.in_ok-entry.ensures),
    )

pub returns-then-not-branch : goal.returns-then-not-branch
returns-then-not-branch c =
    let read : IsEntryOf c.args.script.now c.due.result.now c.in-Some.line.now c.in-Some-2.entry =
    subst (λ (read : Option Entry). IsEntryRead c.args.script.now c.due.result.now c.in-Some.line.now read) c.in-Some-2.is c.in_ok-entry.ensures in
    walk_ends c.args.script.now c.args.report.now c.history_of-then-not-branch.result Unserved c.loop-line.entries.items c.loop-line.left.now
    c.history_of-then-not-branch.ensures.nodes c.history_of-then-not-branch.ensures.entries c.loop-line.invariant.serves (
      some_left c.loop-line.left.now c.in-Some.rest.now c.in-Some.ensures.shorter,
      none_fits_there c.args.script.now (reverse c.loop-line.entries.items) c.loop-line.left.now c.in-Some.line.now c.in-Some-2.entry c.requires.form c.in-Some.ensures.lines.0
          (subst (λ (ops : List Op). IsEntryOf c.args.script.now ops c.in-Some.line.now c.in-Some-2.entry) (c.due.ensures ∙ c.loop-line.invariant.shown.replay.due) read)
          (λ fits.
          let there = subst (λ (es : List Entry). FitsNext c.args.script.now (reverse es) c.in-Some-2.entry) (sym c.as_slice-before.ensures.value) fits in
          let h = c.in_ok-fits_next.ensures.1 there in
          let k = c.if-not-branch.true in
          cc),
    )

pub loop-line-preserved : goal.loop-line-preserved
loop-line-preserved c =
    let items = c.loop-line.entries.items in
    let read : IsEntryOf c.args.script.now c.due.result.now c.in-Some.line.now c.in-Some-2.entry =
    subst (λ (read : Option Entry). IsEntryRead c.args.script.now c.due.result.now c.in-Some.line.now read) c.in-Some-2.is c.in_ok-entry.ensures in
    let fits = subst (λ (es : List Entry). FitsNext c.args.script.now (reverse es) c.in-Some-2.entry) c.as_slice-before.ensures.value (c.in_ok-fits_next.ensures.0 c.if-not-branch.false) in
    let shown = subst (λ (es : List Entry). IsShown c.args.script.now (c.in-Some-2.entry ∷ reverse es) c.in_ok-shown.shown) c.as_slice-before.ensures.value c.in_ok-shown.ensures in
    let serves =
    serves_next c.args.script.now c.args.report.now (reverse items) c.loop-line.left.now c.in-Some.line.now c.in-Some.rest.now c.in-Some-2.entry c.loop-line.invariant.serves
    c.in-Some.ensures.lines.0 c.in-Some.ensures.lines.1 read.text read.narrow fits in
    let phases = subst (λ (es : List Entry). ArePhasesAnswered c.args.script.now (reverse es) c.in_ok-passed.passed) c.as_slice-before.ensures.value c.in_ok-passed.ensures in
    let asked = subst (λ (es : List Entry). IsAskedPoint (c.in-Some-2.entry ∷ reverse es) c.take.new.self) c.as_slice-before.ensures.value c.in_ok-take.ensures in
    record {
      passed = reversed_push (λ (past : Past). ArePhasesAnswered c.args.script.now past c.in_ok-passed.passed) items c.push.new.self.items c.in-Some-2.entry c.in_ok-push.ensures.items
          (phases_still c.args.script.now (reverse items) c.in-Some-2.entry c.in_ok-passed.passed phases);
      shown = reversed_push (λ (past : Past). IsShown c.args.script.now past c.in_ok-shown.shown) items c.push.new.self.items c.in-Some-2.entry c.in_ok-push.ensures.items shown;
      asked = reversed_push (λ (past : Past). IsAskedPoint past c.take.new.self) items c.push.new.self.items c.in-Some-2.entry c.in_ok-push.ensures.items asked;
      serves = reversed_push (λ (past : Past). ServesTo c.args.script.now c.args.report.now past c.in-Some.rest.now) items c.push.new.self.items c.in-Some-2.entry c.in_ok-push.ensures.items serves;
    }
