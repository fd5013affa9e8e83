use Rattle.std.proofs.Common.{◌≡◌, ◌∙◌, sym, subst, arith, rules, length, reverse}
use Rattle.history_book.specs.Jobs.{IsInside}
use Rattle.history_book.specs.Log.{Log, Pages, weave}
use Rattle.history_book.proofs.BookLemmas.{kept_in, kept_next, kept_tells, holds_kept}
use Rattle.history_book.proofs.ToldLaws.{told_kept}
use Rattle.history_book.proofs.book.Book.keep.Goals as goal

pub invariant_of-self : goal.invariant_of-self
invariant_of-self c =
    let old : Log = weave (reverse c.self.inside.stops.items) (reverse c.self.inside.entries.items) (reverse c.self.inside.inners.items) in
    let size : length c.self.inside.entries.items ≡ c.len-before.result = search rules in (
      kept_next c.args.inner _ _ _ _ _ _ c.push_reserved-2.ensures.items c.push_reserved.ensures.items c.self.invariant.0,
      kept_tells c.args.inner _ _ _ _ _ _ _ _ (kept_in c.args.inner _ _ _ _ _ c.push_reserved-2.ensures.items c.push_reserved.ensures.items) c.self.invariant.1,
      holds_kept c.args.inner c.job_step-step.result c.len-before.result c.self.inside.nodes old _ c.self.inside.node_jobs.rows c.step.new.self.rows c.self.inside.lane_jobs.rows c.step-2.new.self.rows
          (kept_in c.args.inner _ _ _ _ _ c.push_reserved-2.ensures.items c.push_reserved.ensures.items) c.job_step-step.ensures (sym size ∙ c.self.invariant.1.entries)
          (subst (λ (p : Pages). IsInside p.nodes p.log c.args.inner) (sym c.self.view_is) c.requires.turn) c.step.ensures c.step-2.ensures c.self.invariant.2,
      told_kept c.args.inner old _ (kept_in c.args.inner _ _ _ _ _ c.push_reserved-2.ensures.items c.push_reserved.ensures.items) c.self.invariant.3,
      record {
        of_entries = let h = c.self.invariant.4.of_entries in omega arith;
        of_inners = let h = c.self.invariant.4.of_inners in let a = c.push_reserved.ensures.len in let b = c.push_reserved.ensures.capacity in omega arith;
        of_stops = let h = c.self.invariant.4.of_stops in let a = c.push_reserved-2.ensures.len in let b = c.push_reserved-2.ensures.capacity in omega arith;
      },
    )
