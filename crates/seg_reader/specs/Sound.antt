-- Sound segments: the postings are those of the documents.
use Rattle.std.specs.Prelude.{List, map}
use Rattle.nrt_base.specs.declared.doc.Doc.{Doc}
use Rattle.documents.specs.Words.{words_of}
use Rattle.postings_plain.specs.declared.row.TermRow.{TermRow}
use Rattle.postings_plain.specs.Inverting.{AreEntriesOf}
use Rattle.seg_reader.specs.Shown.{Shown}

-- a document as a row of terms: its key, and the words of its text
abbrev pub term_row : Doc → TermRow
term_row doc = record { key = doc.key; words = words_of doc.text }

-- the postings of every key and every word are exactly the rows and positions that the documents and the words of their texts give
pub record IsSound (shown : Shown) : Type 0 where
  pub entries : AreEntriesOf (map term_row shown.docs) shown.entries
