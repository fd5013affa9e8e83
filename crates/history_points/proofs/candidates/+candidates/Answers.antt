use Rattle.std.proofs.Common.{◌≡◌, ◌≤◌, Bool, true, false, inl, inr, length, ap, ◌∙◌, sym, arith}
use Rattle.std.specs.List.{list_any}
use Rattle.std.proofs.Math.ListN.{drop_of_length-le}
use Rattle.documents.specs.declared.query.Query.{Query}
use Rattle.documents.specs.Matching.{matches}
use Rattle.documents.specs.Words.{words_of}
use Rattle.documents.proofs.MatchingLemmas.{matches_all, matches_any}
use Rattle.history_points.proofs.CandidateLaws.{all_from, some_from}
use Rattle.history_points.proofs.candidates.+candidates.Goals as goal

pub may_match-returns-in-All : goal.may_match-returns-in-All
may_match-returns-in-All t c = λ matched.
    c.all_may.ensures
    (sym (matches_all c.in-All.parts (words_of c.args.text.now)) ∙ ap (λ (q : Query). matches q (words_of c.args.text.now)) (sym c.in-All.is) ∙ matched)

pub may_match-returns-in-Any : goal.may_match-returns-in-Any
may_match-returns-in-Any t c = λ matched.
    c.some_may.ensures
    (sym (matches_any c.in-Any.parts (words_of c.args.text.now)) ∙ ap (λ (q : Query). matches q (words_of c.args.text.now)) (sym c.in-Any.is) ∙ matched)

pub all_may-returns-then-not-may_match : goal.all_may-returns-then-not-may_match
all_may-returns-then-not-may_match t c = λ all.
    let test : Query → Bool = λ part. matches part (words_of c.args.text.now) in
    let both = all_from test c.as_slice-part-items.result.now c.loop-part.part-index c.part-item.result c.loop-part-test.true c.part-item.is (c.loop-part.invariant all) in
    sym c.if-not-may_match.true ∙ c.may_match.ensures both.0

pub all_may-loop-part-preserved : goal.all_may-loop-part-preserved
all_may-loop-part-preserved t c = λ all.
    let test : Query → Bool = λ part. matches part (words_of c.args.text.now) in
    (all_from test c.as_slice-part-items.result.now c.loop-part.part-index c.part-item.result c.loop-part-test.true c.part-item.is (c.loop-part.invariant all)).1

pub some_may-loop-part-preserved : goal.some_may-loop-part-preserved
some_may-loop-part-preserved t c = λ some.
    let test : Query → Bool = λ part. matches part (words_of c.args.text.now) in
    elim (some_from test c.as_slice-part-items.result.now c.loop-part.part-index c.part-item.result c.loop-part-test.true c.part-item.is (c.loop-part.invariant some)) [
      | inl here ↦
          let bad : false ≡ true = sym c.if-may_match.false ∙ c.may_match.ensures here in
          absurd cc
      | inr later ↦ later
    ]

pub some_may-returns : goal.some_may-returns
some_may-returns t c = λ some.
    let test : Query → Bool = λ part. matches part (words_of c.args.text.now) in
    let items = c.as_slice-part-items.result.now in
    let all : length items ≤ c.loop-part.part-index = omega arith in
    sym (ap (list_any test) (drop_of_length-le items all)) ∙ c.loop-part.invariant some
