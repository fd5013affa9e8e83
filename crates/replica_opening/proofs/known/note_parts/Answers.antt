use Rattle.std.proofs.Common.{◌≡◌, ◌∙◌, refl, sym, ap, subst, List, ℕ, Option, Some, None}
use Rattle.disk_model.specs.Disk.{Name}
use Rattle.copy_state.specs.declared.meta.FileMetaData.{FileMetaData}
use Rattle.replica_opening.specs.Known.{TellsMeta, LearnsFile}
use Rattle.replica_opening.proofs.Metas.{told_docs, told_post, told_info, told_live, learns_parts, learns_all}
use Rattle.replica_opening.proofs.known.note_parts.Goals as goal

-- what was learned of a slice of a file is learned of the file
learned : (name own : Name) (slice bytes : List ℕ) (old new : List (Name × FileMetaData)) → name ≡ own → slice ≡ bytes → LearnsFile name slice old new → LearnsFile own bytes old new
learned name own slice bytes old new e f h = subst (λ (n : Name). LearnsFile n bytes old new) e (subst (λ (b : List ℕ). LearnsFile name b old new) f h)

pub note_file-requires : goal.note_file-requires
note_file-requires c = subst (λ (bytes : List ℕ). TellsMeta bytes) (sym c.as_slice.ensures) (told_docs c.args.record.now c.args.parts.now c.requires.segment.0 c.requires.segment.1)

pub note_file-requires-2 : goal.note_file-requires-2
note_file-requires-2 c = subst (λ (bytes : List ℕ). TellsMeta bytes) (sym c.as_slice-2.ensures) (told_post c.args.record.now c.args.parts.now c.requires.segment.0 c.requires.segment.1)

pub note_file-requires-3 : goal.note_file-requires-3
note_file-requires-3 c = subst (λ (bytes : List ℕ). TellsMeta bytes) (sym c.as_slice-3.ensures) (told_info c.args.record.now c.args.parts.now c.requires.segment.0 c.requires.segment.1)

pub note_file-requires-4 : goal.note_file-requires-4
note_file-requires-4 c = told_live c.args.record.now c.args.parts.now c.requires.segment.0 c.requires.segment.1 c.requires.fits c.as_slice-4.result.now (c.in-Some.is ∙ ap Some (sym c.as_slice-4.ensures))

pub returns-in_default : goal.returns-in_default
returns-in_default c reads is =
    learns_parts reads c.args.record.now c.args.parts.now is c.args.known.now c.note_file.new.known c.note_file-2.new.known c.note_file-3.new.known
    (learned _ _ _ _ _ _ c.part_name.ensures.name c.as_slice.ensures c.in_ok-note_file.ensures)
    (learned _ _ _ _ _ _ c.part_name-2.ensures.name c.as_slice-2.ensures c.in_ok-note_file-2.ensures)
    (learned _ _ _ _ _ _ c.part_name-3.ensures.name c.as_slice-3.ensures c.in_ok-note_file-3.ensures)
    (none c.args.parts.now.live c.in_default.not-Some)
  where
    none : (live : Option (List ℕ)) → ((bytes : List ℕ) → live ≡ Some bytes → ⊥) → live ≡ None
    none None h = cc
    none (Some bytes) h = absurd (h bytes (cc))

pub returns-in-Ok : goal.returns-in-Ok
returns-in-Ok c reads is =
    learns_all reads c.args.record.now c.args.parts.now is c.args.known.now c.note_file.new.known c.note_file-2.new.known c.note_file-3.new.known
    (learned _ _ _ _ _ _ c.part_name.ensures.name c.as_slice.ensures c.in_ok-note_file.ensures)
    (learned _ _ _ _ _ _ c.part_name-2.ensures.name c.as_slice-2.ensures c.in_ok-note_file-2.ensures)
    (learned _ _ _ _ _ _ c.part_name-3.ensures.name c.as_slice-3.ensures c.in_ok-note_file-3.ensures)
    c.as_slice-4.result.now c.note_file-4.new.known (c.in-Some.is ∙ ap Some (sym c.as_slice-4.ensures))
    (learned _ _ _ _ _ _ c.live_name.ensures.name refl c.in-Ok.ensures)
