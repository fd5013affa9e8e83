-- What a cut makes dead, as it is held: the marks of its own rows, and the keys and words that it names.
use Rattle.std.specs.Prelude.{◌≡◌, List, [], ◌∷◌, ◌++◌, Bool, ◌||◌}
use Rattle.std.specs.List.{list_any}
use Rattle.std.specs.BTreeSet.{contains}
use Rattle.nrt_base.specs.declared.doc.Doc.{Doc}
use Rattle.documents.specs.declared.operation.Op.{Op}
use Rattle.documents.specs.declared.operation.Op.TheVariants.{Put, Delete, Drop}
use Rattle.documents.specs.Documents.{key_cmp, removes}
use Rattle.documents.specs.Words.{words_of}
use Rattle.seg_merge.specs.Given.{live_of}
use Rattle.segment_steps.specs.declared.cut.Gone.{Gone}
use Rattle.segment_steps.specs.declared.cut.Marks.{Marks}
use Rattle.segment_steps.specs.Cut.{removed_by, puts_live}

-- a document is gone: its key is one of these, or a word of its text is
abbrev pub is_gone : Gone → Doc → Bool
is_gone gone d = contains key_cmp gone.keys d.key || list_any (contains key_cmp gone.words) (words_of d.text)

-- a put's mark, where later operations take these documents away
abbrev pub dead_mark : Op → (Doc → Bool) → List Bool
dead_mark (Put doc) gone = gone doc ∷ []
dead_mark (Delete key) gone = []
dead_mark (Drop word) gone = []

-- what was marked, with one more operation before
pub record IsMarkedBefore (op : Op) (old new : Marks) : Type 0 where
  pub gone : (d : Doc) → is_gone new.gone d ≡ (removes op d || is_gone old.gone d)
  pub dead : new.dead.items ≡ old.dead.items ++ dead_mark op (is_gone old.gone)

-- the marks are those of the cut: which of its rows are live, and which documents it takes away
pub record AreMarksOf (ops : List Op) (marks : Marks) : Type 0 where
  pub live : live_of marks.dead.items ≡ puts_live ops
  pub gone : (d : Doc) → is_gone marks.gone d ≡ removed_by ops d
