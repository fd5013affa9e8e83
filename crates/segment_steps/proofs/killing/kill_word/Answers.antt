use Rattle.std.proofs.Common.{subst, List, ℕ, arith, refl}
use Rattle.documents.specs.declared.operation.Op.TheVariants.{Drop}
use Rattle.documents.specs.Documents.{removes}
use Rattle.postings_plain.specs.Body.{HasEntry, HasNoEntry}
use Rattle.segment_steps.proofs.TermRows.{docs_killed, none_killed_by}
use Rattle.segment_steps.proofs.killing.kill_word.Goals as goal

pub returns-in_ok-kill_hits : goal.returns-in_ok-kill_hits
returns-in_ok-kill_hits c =
    let s = c.args.segment.now in
    let word = c.args.word.now in
    docs_killed 1 word (removes (Drop word)) s c.in-Some.hits c.args.change.now c.kill_hits.new.change (λ d. refl) c.requires.rows c.requires.sound
    (subst (λ (t : List ℕ). HasEntry s.entries 1 t c.in-Some.hits) c.as_slice.ensures.bytes c.in-Some.ensures.found) c.in_ok-kill_hits.ensures

pub returns-in_default : goal.returns-in_default
returns-in_default c =
    let s = c.args.segment.now in
    let word = c.args.word.now in
    none_killed_by 1 word (removes (Drop word)) s c.args.change.now (omega arith) (λ d. refl) c.requires.rows c.requires.sound
    (subst (λ (t : List ℕ). HasNoEntry s.entries 1 t) c.as_slice.ensures.bytes c.in_default.ensures.found)
