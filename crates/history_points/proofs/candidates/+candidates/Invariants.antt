use Rattle.std.proofs.Common.{◌≡◌, drop, true}
use Rattle.std.specs.List.{list_any, list_all}
use Rattle.documents.specs.Matching.{matches}
use Rattle.documents.specs.Words.{words_of}
use Rattle.history_points.proofs.candidates.+candidates.Given as goal

abbrev pub invariant-all_may-loop-part : goal.invariant-all_may-loop-part
invariant-all_may-loop-part l =
    list_all (λ part. matches part (words_of l.text)) l.parts ≡ true → list_all (λ part. matches part (words_of l.text)) (drop l.part-index l.part-items) ≡ true

abbrev pub invariant-some_may-loop-part : goal.invariant-some_may-loop-part
invariant-some_may-loop-part l =
    list_any (λ part. matches part (words_of l.text)) l.parts ≡ true → list_any (λ part. matches part (words_of l.text)) (drop l.part-index l.part-items) ≡ true
