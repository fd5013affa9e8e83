use Rattle.postings_plain.proofs.JoiningLaws.{HasJoined}
use Rattle.postings_plain.proofs.joining.Joined.add.Given as goal

abbrev pub invariant-loop-place : goal.invariant-loop-place
invariant-loop-place l = HasJoined l.fn.self l.self-inside.found l.post.entries l.place l.numbers
