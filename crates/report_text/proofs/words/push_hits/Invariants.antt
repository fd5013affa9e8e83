use Rattle.std.proofs.Common.{◌≡◌, ◌++◌, drop, map}
use Rattle.report_text.specs.Texts.{all_spaced, hit_text}
use Rattle.report_text.proofs.words.push_hits.Given as goal

abbrev pub invariant-loop-hit : goal.invariant-loop-hit
invariant-loop-hit l =
    l.out.items ++ all_spaced (map hit_text (drop l.hit-index l.hits)) ≡ l.fn.out.items ++ all_spaced (map hit_text l.hits)
