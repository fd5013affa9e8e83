use Rattle.std.proofs.Common.{◌≡◌, drop}
use Rattle.std.specs.List.{list_any, list_all}
use Rattle.documents.specs.Matching.{matches}
use Rattle.documents.proofs.matching.+matching.Given as goal

abbrev pub invariant-all_match-loop-part : goal.invariant-all_match-loop-part
invariant-all_match-loop-part l =
    list_all (λ part. matches part l.words) (drop l.part-index l.part-items) ≡ list_all (λ part. matches part l.words) l.parts

abbrev pub invariant-any_matches-loop-part : goal.invariant-any_matches-loop-part
invariant-any_matches-loop-part l =
    list_any (λ part. matches part l.words) (drop l.part-index l.part-items) ≡ list_any (λ part. matches part l.words) l.parts
