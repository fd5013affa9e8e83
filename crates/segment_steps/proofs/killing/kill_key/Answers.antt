use Rattle.std.proofs.Common.{subst, List, ℕ, arith}
use Rattle.documents.specs.declared.operation.Op.TheVariants.{Delete}
use Rattle.documents.specs.Documents.{removes}
use Rattle.postings_plain.specs.Body.{HasEntry, HasNoEntry}
use Rattle.segment_steps.proofs.Segments.{one_way}
use Rattle.segment_steps.proofs.TermRows.{docs_killed, none_killed_by}
use Rattle.segment_steps.proofs.killing.kill_key.Goals as goal

pub returns-in_ok-kill_hits : goal.returns-in_ok-kill_hits
returns-in_ok-kill_hits c =
    let s = c.args.segment.now in
    let key = c.args.key.now in
    docs_killed 0 key (removes (Delete key)) s c.in-Some.hits c.args.change.now c.kill_hits.new.change (λ d. one_way d.key c.args.key.now) c.requires.rows c.requires.sound
    (subst (λ (t : List ℕ). HasEntry s.entries 0 t c.in-Some.hits) c.as_slice.ensures.bytes c.in-Some.ensures.found) c.in_ok-kill_hits.ensures

pub returns-in_default : goal.returns-in_default
returns-in_default c =
    let s = c.args.segment.now in
    let key = c.args.key.now in
    none_killed_by 0 key (removes (Delete key)) s c.args.change.now (omega arith) (λ d. one_way d.key c.args.key.now) c.requires.rows c.requires.sound
    (subst (λ (t : List ℕ). HasNoEntry s.entries 0 t) c.as_slice.ensures.bytes c.in_default.ensures.found)
