-- The rows that a segment is built from, and the marks of those that are dead.
use Rattle.std.specs.Prelude.{◌≡◌, List, map, Bool, not}
use Rattle.nrt_base.specs.declared.doc.Doc.{Doc}
use Rattle.documents.specs.Words.{words_of}
use Rattle.seg_build.specs.declared.rows.Prepared.{Prepared}

-- the words of a row are those of its text
abbrev pub IsPrepared : Prepared → Type 0
IsPrepared row = row.words ≡ words_of row.doc.text

-- the document of each row
abbrev pub docs_of : List Prepared → List Doc
docs_of rows = map (λ row. row.doc) rows

-- a row is live where it is not marked dead
abbrev pub live_of : List Bool → List Bool
live_of dead = map not dead
