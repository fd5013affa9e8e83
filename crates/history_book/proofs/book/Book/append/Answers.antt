use Rattle.std.proofs.Common.{◌≡◌, ◌∙◌, ◌+◌, ◌++◌, ◌∷◌, [], ℕ, sym, subst, ap, arith, rules, true, false, length, Bool, length-append, reverse}
use Rattle.history_rules.specs.declared.entry.Entry.{Entry}
use Rattle.history_rules.specs.Legal.{KeepsRule}
use Rattle.history_tables.specs.Numbering.{IsFound}
use Rattle.history_tables.specs.WorkRows.{IsCommitter}
use Rattle.history_tables.specs.Openings.{IsLife}
use Rattle.history_book.specs.declared.inner.Stop.{Stop}
use Rattle.history_book.specs.Log.{Log, Pages, FollowsMerging, printed, weave, mark_for, stop_for}
use Rattle.history_book.specs.Turns.{InTurn, StartsOnce}
use Rattle.history_book.specs.Tells.{Tells}
use Rattle.history_book.specs.Told.{IsSo}
use Rattle.history_book.proofs.LineLaws.{open_none}
use Rattle.history_book.proofs.BookLemmas.{told, tells_next, woven, woven_next, log_tells, holds_shown, rows_low}
use Rattle.history_book.proofs.ToldLaws.{told_shown}
use Rattle.history_book.proofs.book.Book.append.Goals as goal

pub step-requires-clause-fresh : goal.step-requires-clause-fresh
step-requires-clause-fresh c = λ start.
    let t = told c.args.self.now _ _ _ _ _ _ _ _ _ _ c.self.view_is c.self.invariant.1 in
    t.lines_tell c.args.at ∙ open_none c.args.at (printed c.args.self.now.log) (subst (λ (b : Bool). StartsOnce b c.args.at (printed c.args.self.now.log)) start c.requires.turn.once).begun

pub step_rows-requires-clause-low : goal.step_rows-requires-clause-low
step_rows-requires-clause-low c =
    let size : length c.self.inside.entries.items ≡ c.len-size.result = search rules in
    rows_low _ c.self.inside.rows.items c.len-size.result c.self.invariant.1.rows_tell (sym c.self.invariant.1.entries ∙ size)

pub invariant_of-self : goal.invariant_of-self
invariant_of-self c =
    let old : Log = weave (reverse c.self.inside.stops.items) (reverse c.self.inside.entries.items) (reverse c.self.inside.inners.items) in
    let entry : Entry = record { at = c.args.at; event = c.args.event } in
    let stopped : c.push_reserved-2.new.self.items ≡ c.self.inside.stops.items ++ stop_for c.args.by_task ∷ [] =
    c.push_reserved-2.ensures.items ∙ ap (λ (s : Stop). c.self.inside.stops.items ++ s ∷ []) c.stop_for-stop.ensures in
    let more : length c.push_reserved.new.self.items ≡ length c.self.inside.entries.items + 1 = ap length c.push_reserved.ensures.items ∙ length-append c.self.inside.entries.items _ in
    let size : length c.self.inside.entries.items ≡ c.len-size.result = search rules in
    let count : c.len-size.result + 1 ≡ length c.push_reserved.new.self.items = ap (λ (n : ℕ). n + 1) (sym size) ∙ sym more in (
      woven_next c.args.by_task _ _ _ _ _ entry _ _ stopped c.push_reserved.ensures.items
          (subst (λ (p : Pages). c.args.by_task ≡ true → FollowsMerging c.args.at c.args.event (printed p.log)) (sym c.self.view_is) c.requires.merge) more c.self.invariant.0,
      log_tells c.args.by_task entry old _ c.self.inside.nodes (length c.push_reserved.new.self.items) c.after-self-inside.result c.step_rows.new.rows.items c.step.new.self.rows c.step-2.new.self.rows
          (woven c.args.by_task _ _ _ _ _ _ stopped c.push_reserved.ensures.items)
          (subst (λ (n : ℕ). Tells (entry ∷ printed old) c.self.inside.nodes n c.after-self-inside.result c.step_rows.new.rows.items c.step.new.self.rows c.step-2.new.self.rows) count
          (tells_next c.self.inside.nodes (printed old) c.args.at c.args.event c.len-size.result c.self.inside.numbers _ c.self.inside.rows.items _ c.self.inside.lines.rows _ c.self.inside.tickets.rows _ c.started-started.result c.life-life.result c.committer-line.result
          (subst (λ (n : ℕ). Tells (printed old) c.self.inside.nodes n c.self.inside.numbers c.self.inside.rows.items c.self.inside.lines.rows c.self.inside.tickets.rows) size c.self.invariant.1)
          (subst (λ (p : Pages). KeepsRule p.nodes (printed p.log) c.args.at c.args.event) (sym c.self.view_is) c.requires.rule)
          (subst (λ (p : Pages). InTurn (printed p.log) c.args.at c.args.event) (sym c.self.view_is) c.requires.turn)
          c.after-self-inside.ensures
          (subst (λ (p : Pages). IsFound c.args.at (printed p.log) c.args.event c.started-started.result) (sym c.self.view_is) c.started-started.ensures)
          c.step_rows.ensures.count
          c.step_rows.ensures.rows
          (subst (λ (p : Pages). IsCommitter c.args.at (printed p.log) c.args.event c.committer-line.result) (sym c.self.view_is) c.committer-line.ensures)
          c.step.ensures.rows
          c.step-2.ensures.rows
          (subst (λ (p : Pages). IsLife c.args.event (printed p.log) c.life-life.result) (sym c.self.view_is) c.life-life.ensures))),
      holds_shown c.args.by_task entry c.self.inside.nodes old _ _ _ (woven c.args.by_task _ _ _ _ _ entry stopped c.push_reserved.ensures.items) c.self.invariant.2,
      told_shown c.args.by_task entry old _ (woven c.args.by_task _ _ _ _ _ entry stopped c.push_reserved.ensures.items)
          (subst (λ (p : Pages). c.args.by_task ≡ false → IsSo p.log c.args.at c.args.event) (sym c.self.view_is) c.requires.told) c.self.invariant.3,
      record {
        of_entries = let h = c.self.invariant.4.of_entries in let a = c.push_reserved.ensures.len in let b = c.push_reserved.ensures.capacity in omega arith;
        of_inners = let h = c.self.invariant.4.of_inners in omega arith;
        of_stops = let h = c.self.invariant.4.of_stops in let a = c.push_reserved-2.ensures.len in let b = c.push_reserved-2.ensures.capacity in omega arith;
      },
    )

pub returns-clause-log : goal.returns-clause-log
returns-clause-log c =
    let stopped : c.push_reserved-2.new.self.items ≡ c.self.inside.stops.items ++ stop_for c.args.by_task ∷ [] =
    c.push_reserved-2.ensures.items ∙ ap (λ (s : Stop). c.self.inside.stops.items ++ s ∷ []) c.stop_for-stop.ensures in
    woven c.args.by_task _ _ _ _ _ (record { at = c.args.at; event = c.args.event }) stopped c.push_reserved.ensures.items
    ∙ ap (λ (p : Pages). mark_for c.args.by_task (record { at = c.args.at; event = c.args.event }) ∷ p.log) c.self.view_is
