-- The live rows of segments, and two of them that have one key.
use Rattle.std.specs.Prelude.{◌≡◌, ◌≢◌, ℕ, List, [], ◌∷◌, ◌++◌, map}
use Rattle.std.specs.List.{AllPairs, Contains}
use Rattle.std.specs.List.Sorted.{IsPermutation}
use Rattle.file_names.specs.Names.{part_name_of}
use Rattle.file_names.specs.declared.composed.SegPart.TheVariants.{Docs}
use Rattle.nrt_base.specs.declared.doc.Doc.{Doc}
use Rattle.nrt_base.specs.declared.numbers.SegNo.{SegNo}
use Rattle.segment_infos.specs.declared.infos.SegRecord.{SegRecord}
use Rattle.seg_reader.specs.Shown.{Shown, live_documents_of, IsInKeyOrder}
use Rattle.index_check.specs.declared.fault.CheckFault.{CheckFault}
use Rattle.index_check.specs.declared.fault.CheckFault.TheVariants.{TwoRows}
use Rattle.index_check.specs.declared.rows.LiveRow.{LiveRow}

-- a document in a live row of a segment
abbrev pub live_row : SegNo → Doc → LiveRow
live_row seg doc = record { seg = seg; doc = doc }

-- the live rows of a segment, in order
abbrev pub rows_of_segment : SegRecord → Shown → List LiveRow
rows_of_segment r shown = map (live_row r.seg) (live_documents_of shown)

-- the live rows of segments, one segment after the other
abbrev pub rows_of_segments : List SegRecord → List Shown → List LiveRow
rows_of_segments [] segs = []
rows_of_segments (r ∷ rs) [] = []
rows_of_segments (r ∷ rs) (s ∷ segs) = rows_of_segment r s ++ rows_of_segments rs segs

-- the key of each row
abbrev pub keys_of : List LiveRow → List (List ℕ)
keys_of rows = map (λ row. row.doc.key) rows

-- no two rows have one key
abbrev pub HaveOwnKeys : List LiveRow → Type 0
HaveOwnKeys rows = AllPairs (λ a b. a ≢ b) (keys_of rows)

-- of the rows this is the first that has the key of a row before it
pub record IsFirstTwin (rows : List LiveRow) (twin : LiveRow) : Type 0 where
  pub before : List LiveRow
  pub after : List LiveRow
  pub parts : rows ≡ before ++ twin ∷ after
  pub own : HaveOwnKeys before
  pub again : Contains (keys_of before) twin.doc.key

-- the document of each row
abbrev pub row_documents : List LiveRow → List Doc
row_documents rows = map (λ row. row.doc) rows

-- no two rows have one key, and the documents are those of the rows, in order of key
pub record AreOwnDocuments (rows : List LiveRow) (docs : List Doc) : Type 0 where
  pub own : HaveOwnKeys rows
  pub same : IsPermutation (row_documents rows) docs
  pub in_order : IsInKeyOrder docs

-- this row is the first that has the key of one before it; its segment's file of documents has this name
pub record IsTwinOf (rows : List LiveRow) (name key : List ℕ) : Type 0 where
  pub twin : LiveRow
  pub first : IsFirstTwin rows twin
  pub name_is : name ≡ part_name_of twin.seg.0 Docs
  pub key_is : key ≡ twin.doc.key

-- two rows have one key
abbrev pub HaveTwin : List LiveRow → CheckFault → Type 0
HaveTwin rows (TwoRows name key) = IsTwinOf rows name key
HaveTwin rows other = ⊥
