-- What a segment shows to those who read it, and the documents of live rows.
use Rattle.std.specs.Prelude.{◌≡◌, ℕ, List, Bool, map}
use Rattle.std.specs.List.{filter, zip, flat_map}
use Rattle.std.specs.List.Sorted.{IsPermutation, IsSortedByKey}
use Rattle.nrt_base.specs.declared.doc.Doc.{Doc}
use Rattle.documents.specs.Documents.{key_cmp}
use Rattle.postings_plain.specs.Postings.{Entry}

-- the document of each row, which rows are live, and the postings
pub record Shown : Type 0 where
  pub docs : List Doc
  pub live : List Bool
  pub entries : List Entry

-- the same segment with other live rows
abbrev pub shown_with : Shown → List Bool → Shown
shown_with shown live = record shown { live = live }

-- the field of keys in postings
abbrev pub key_field : ℕ
key_field = 0

-- the field of words in postings
abbrev pub word_field : ℕ
word_field = 1

-- the documents of a segment's live rows, in order of row
abbrev pub live_documents_of : Shown → List Doc
live_documents_of shown = map (λ x. x.0) (filter (λ x. x.1) (zip shown.docs shown.live))

-- the documents of the live rows of segments, one segment after the other
abbrev pub live_documents : List Shown → List Doc
live_documents segs = flat_map live_documents_of segs

-- keys do not descend
abbrev pub IsInKeyOrder : List Doc → Type 0
IsInKeyOrder docs = IsSortedByKey (λ doc. doc.key) key_cmp docs

-- the documents are those of the live rows of the segments, in order of key
pub record AreLiveDocuments (segs : List Shown) (docs : List Doc) : Type 0 where
  pub same : IsPermutation (live_documents segs) docs
  pub in_order : IsInKeyOrder docs
