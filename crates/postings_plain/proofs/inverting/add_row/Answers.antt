use Rattle.std.proofs.Common.{◌≡◌, ◌++◌, ◌∷◌, [], List, length, take, ◌+◌, ℕ, subst, sym, ap, ◌∙◌, arith}
use Rattle.std.proofs.lemmas.List.{take_more, length-take}
use Rattle.postings_plain.specs.Gathering.{Gathers}
use Rattle.postings_plain.proofs.GatheringLaws.{key_added, word_added}
use Rattle.postings_plain.proofs.inverting.add_row.Goals as goal

pub loop-place-init : goal.loop-place-init
loop-place-init c = λ rows len g.
    let u = c.in_ok-add_key.ensures in
    key_added c.args.found.now c.add_key.new.found rows c.args.number c.args.row.now.key len g u

pub loop-place-preserved : goal.loop-place-preserved
loop-place-preserved c = λ rows len g.
    let u = c.in_ok-add_word.ensures in
    let words = c.as_slice-words.result.now in
    let place = c.loop-place.place in
    let w = c.index-words-place.result in
    let more : take (place + 1) words ≡ take place words ++ w ∷ [] = take_more words place w c.loop-place-test.true ∙ ap (λ (x : List ℕ). take place words ++ x ∷ []) (sym c.index-words-place.is) in
    let long : length (take place words) ≡ place = omega (arith, length-take place words) in
    subst (λ (ws : List (List ℕ)). Gathers c.add_word.new.found.entries (rows ++ record { key = c.args.row.now.key; words = ws } ∷ [])) (sym more)
    (word_added c.loop-place.found c.add_word.new.found rows c.args.number place c.args.row.now.key (take place words) w u.0 len long (c.loop-place.invariant rows len g) u.1 u.2)
