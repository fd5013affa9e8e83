use Rattle.std.proofs.Common.{sym, refl, ◌∙◌}
use Rattle.std.specs.Prelude.{slice_get}
use Rattle.query_eval.specs.Best.{hit_with}
use Rattle.query_eval.proofs.BestLemmas.{not_kept, each_doc, bar_same, live_counts}
use Rattle.query_eval.proofs.best.BestHits.add_refused.Goals as goal

pub returns-then-is_live-clause-refused : goal.returns-then-is_live-clause-refused
returns-then-is_live-clause-refused c = λ is_refused. live_counts c.args.seg.now c.args.row c.args.rank c.args.self.now _ (sym c.is_live.ensures ∙ c.if-is_live.true)
    (each_doc (slice_get c.args.seg.now.docs c.args.row) c.args.rank c.args.self.now _ (λ doc is.
    not_kept c.args.self.now c.self.inside.total c.self.inside.hits.items c.self.inside.hits.items (hit_with doc.key c.args.rank) (sym c.self.view_is) refl
    (λ best. (bar_same c.args.seg.now.docs c.args.places.now c.args.bar.now c.args.self.now c.self.inside.total c.self.inside.hits.items (sym c.self.view_is) c.requires.bar) (c.refuses.ensures.some c.if-refuses.true) c.args.row c.args.rank doc is (c.refuses.ensures.place c.if-refuses.true) (c.refuses.ensures.rank c.if-refuses.true))))
