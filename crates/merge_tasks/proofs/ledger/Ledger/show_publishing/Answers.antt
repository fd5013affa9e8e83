use Rattle.std.proofs.Common.{◌≡◌, ◌≢◌, ◌<◌, ◌-◌, ◌⊎◌, ⊎_elim, inl, inr, None, sym, subst, true, false, arith, length}
use Rattle.std.proofs.lemmas.List.{length-drop}
use Rattle.history_rules.specs.Nodes.{primary_of}
use Rattle.history_rules.specs.Lines.{is_free_for, publish_in_flight}
use Rattle.history_rules.specs.Faults.{has_met_fault}
use Rattle.history_rules.specs.Points.{cut_of, operations_of_generation, published_in_generation}
use Rattle.history_book.specs.Log.{Log, printed}
use Rattle.merge_tasks.specs.Merging.{MergesShow, Sheet}
use Rattle.merge_tasks.proofs.MergeFrames.{merges_publishing, publish_some, publish_told}
use Rattle.history_rules.specs.Legal.{IsLegalPast}
use Rattle.history_book.specs.Turns.{AreInTurn}
use Rattle.merge_tasks.proofs.FateLaws.{plans_at}
use Rattle.merge_tasks.proofs.ledger.Ledger.show_publishing.Goals as goal

pub show-requires-clause-rule : goal.show-requires-clause-rule
show-requires-clause-rule c =
    let some = subst (λ (s : Sheet). (0 < length (cut_of (printed s.log))) ⊎ (s.cut ≡ true)) (sym c.self.view_is) c.requires.some in
    record {
      running = subst (λ (s : Sheet). primary_of (printed s.log) ≢ None) (sym c.self.view_is) c.requires.primary;
      alone = subst (λ (s : Sheet). is_free_for c.args.at (publish_in_flight (printed s.log)) ≡ true) (sym c.self.view_is) c.requires.alone;
      spared = subst (λ (s : Sheet). has_met_fault c.args.at (printed s.log) ≡ false) (sym c.self.view_is) c.requires.spared;
      some = ⊎_elim (λ ops. inl ops) (λ cut. inr (publish_some _ c.self.inside.merges cut c.self.invariant.0)) some;
    }

pub invariant_of-self : goal.invariant_of-self
invariant_of-self c =
    let some = subst (λ (s : Sheet). (0 < length (cut_of (printed s.log))) ⊎ (s.cut ≡ true)) (sym c.self.view_is) c.requires.some in (
      subst (λ (l : Log). MergesShow l c.self.inside.merges) (sym c.show.ensures.log)
          (merges_publishing _ c.self.inside.merges c.args.at
          (λ few. ⊎_elim (λ ops. absurd (let n = length-drop (published_in_generation (printed c.self.inside.book.log)) (operations_of_generation (printed c.self.inside.book.log)) in omega arith)) (λ cut. cut) some) c.self.invariant.0),
      plans_at c.self.inside.plans.items c.show.ensures.log c.show.ensures.nodes (record { count = c.self.invariant.1.count; each = c.self.invariant.1.each }),
    )

pub returns-clause-legal : goal.returns-clause-legal
returns-clause-legal c = subst (λ (s : Sheet). IsLegalPast s.nodes (printed s.log)) c.self.view_is c.show.ensures.legal

pub returns-clause-turns : goal.returns-clause-turns
returns-clause-turns c = subst (λ (s : Sheet). AreInTurn (printed s.log)) c.self.view_is c.show.ensures.turns

pub show-requires-clause-told : goal.show-requires-clause-told
show-requires-clause-told c =
    let some = subst (λ (s : Sheet). (0 < length (cut_of (printed s.log))) ⊎ (s.cut ≡ true)) (sym c.self.view_is) c.requires.some in
    publish_told _ c.self.inside.merges c.args.at some c.self.invariant.0
