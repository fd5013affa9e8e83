use Rattle.std.proofs.Common.{◌≤◌, List, refl, sym, subst, arith}
use Rattle.documents.specs.declared.answer.Hit.{Hit}
use Rattle.std.specs.Prelude.{slice_get}
use Rattle.seg_reader.specs.Placing.{place_in}
use Rattle.query_eval.specs.Best.{hit_with, count_ahead, AreBest}
use Rattle.query_eval.proofs.BestLemmas.{kept, not_kept, by_key, any_key, key_kind, cut_is, best_more, each_doc, bar_same, bar_row, bar_stays}
use Rattle.query_eval.proofs.best.BestHits.add.Goals as goal

pub returns-then-are_beyond-clause-counts : goal.returns-then-are_beyond-clause-counts
returns-then-are_beyond-clause-counts c = any_key (slice_get c.args.seg.now.docs c.args.row) c.args.rank c.args.self.now _ (λ key.
    not_kept c.args.self.now c.self.inside.total c.self.inside.hits.items c.as_slice.result.now (hit_with key c.args.rank) (sym c.self.view_is) c.as_slice.ensures.value
    (λ best. c.if-are_beyond.ensures refl best key))

pub returns-then-are_beyond-clause-bar : goal.returns-then-are_beyond-clause-bar
returns-then-are_beyond-clause-bar c = bar_same c.args.seg.now.docs c.args.places.now c.args.bar.now c.args.self.now c.self.inside.total c.self.inside.hits.items (sym c.self.view_is) c.requires.bar

pub returns-then-refuses-clause-counts : goal.returns-then-refuses-clause-counts
returns-then-refuses-clause-counts c = each_doc (slice_get c.args.seg.now.docs c.args.row) c.args.rank c.args.self.now _ (λ doc is.
    not_kept c.args.self.now c.self.inside.total c.self.inside.hits.items c.self.inside.hits.items (hit_with doc.key c.args.rank) (sym c.self.view_is) refl
    (λ best. (bar_same c.args.seg.now.docs c.args.places.now c.args.bar.now c.args.self.now c.self.inside.total c.self.inside.hits.items (sym c.self.view_is) c.requires.bar) (c.refuses.ensures.some c.if-refuses.true) c.args.row c.args.rank doc is (c.refuses.ensures.place c.if-refuses.true) (c.refuses.ensures.rank c.if-refuses.true)))

pub returns-then-refuses-clause-bar : goal.returns-then-refuses-clause-bar
returns-then-refuses-clause-bar c = bar_same c.args.seg.now.docs c.args.places.now c.args.bar.now c.args.self.now c.self.inside.total c.self.inside.hits.items (sym c.self.view_is) c.requires.bar

pub new-requires : goal.new-requires
new-requires c = key_kind c.args.seg.now.docs c.args.row c.key-key.result.now c.requires.row c.key-key.ensures.value c.key-key.ensures.kind

pub insert-requires : goal.insert-requires
insert-requires c =
    let within = c.count_ahead-place.ensures.within in
    let len = c.as_slice-2.ensures.len in
    omega (arith, within, len)

pub returns-in_ok-insert-clause-counts : goal.returns-in_ok-insert-clause-counts
returns-in_ok-insert-clause-counts c = by_key (slice_get c.args.seg.now.docs c.args.row) c.key-key.result.now c.args.rank c.args.self.now _ c.key-key.ensures.value
    (kept c.args.self.now c.self.inside.total c.self.inside.hits.items c.as_slice-2.result.now c.insert.new.self.items c.truncate.new.self.items c.count_ahead-place.result c.key-key.result.now
    c.in_ok-key.key c.args.rank (sym c.self.view_is) c.as_slice-2.ensures.value c.count_ahead-place.ensures.ahead c.in_ok-key.ensures c.in_ok-insert.ensures.items c.truncate.ensures.items)

pub returns-in_ok-insert-clause-bar : goal.returns-in_ok-insert-clause-bar
returns-in_ok-insert-clause-bar c =
    bar_stays c.args.seg.now.docs c.args.places.now c.args.bar.now c.self.inside.hits.items c.truncate.new.self.items (hit_with c.key-key.result.now c.args.rank)
    (cut_is c.self.inside.hits.items c.as_slice-2.result.now c.insert.new.self.items c.truncate.new.self.items c.count_ahead-place.result c.key-key.result.now
    c.in_ok-key.key c.args.rank c.as_slice-2.ensures.value c.count_ahead-place.ensures.ahead c.in_ok-key.ensures c.in_ok-insert.ensures.items c.truncate.ensures.items c.self.invariant)
    (bar_same c.args.seg.now.docs c.args.places.now c.args.bar.now c.args.self.now c.self.inside.total c.self.inside.hits.items (sym c.self.view_is) c.requires.bar)

pub invariant_of-self-then-place-lt-MOST_HITS : goal.invariant_of-self-then-place-lt-MOST_HITS
invariant_of-self-then-place-lt-MOST_HITS c =
    best_more c.self.inside.hits.items c.truncate.new.self.items (hit_with c.key-key.result.now c.args.rank)
    (cut_is c.self.inside.hits.items c.as_slice-2.result.now c.insert.new.self.items c.truncate.new.self.items c.count_ahead-place.result c.key-key.result.now
    c.in_ok-key.key c.args.rank c.as_slice-2.ensures.value c.count_ahead-place.ensures.ahead c.in_ok-key.ensures c.in_ok-insert.ensures.items c.truncate.ensures.items c.self.invariant)
    c.self.invariant

pub returns-else-place-lt-MOST_HITS-clause-counts : goal.returns-else-place-lt-MOST_HITS-clause-counts
returns-else-place-lt-MOST_HITS-clause-counts c = by_key (slice_get c.args.seg.now.docs c.args.row) c.key-key.result.now c.args.rank c.args.self.now _ c.key-key.ensures.value
    (not_kept c.args.self.now c.self.inside.total c.self.inside.hits.items c.as_slice-2.result.now (hit_with c.key-key.result.now c.args.rank) (sym c.self.view_is) c.as_slice-2.ensures.value
    (λ best. let at = c.count_ahead-place.ensures.ahead best in let beyond = c.if-place-lt-MOST_HITS.false in omega (arith, at, beyond)))

pub returns-else-place-lt-MOST_HITS-clause-bar : goal.returns-else-place-lt-MOST_HITS-clause-bar
returns-else-place-lt-MOST_HITS-clause-bar c =
    let at = c.count_ahead-place.ensures.ahead (subst AreBest (sym c.as_slice-2.ensures.value) c.self.invariant) in
    let beyond = c.if-place-lt-MOST_HITS.false in
    bar_row c.args.seg.now.docs c.args.places.now c.args.row c.args.rank (place_in c.args.places.now c.args.row) c.key-key.result.now c.self.inside.hits.items c.requires.order c.requires.row c.key-key.ensures.value refl
    (subst (λ (hs : List Hit). 20 ≤ count_ahead hs (hit_with c.key-key.result.now c.args.rank)) c.as_slice-2.ensures.value (omega (arith, at, beyond)))
