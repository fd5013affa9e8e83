-- The documents that a body spells, as a function of its bytes.
use Rattle.std.specs.Prelude.{◌≡◌, ◌<◌, ◌^◌, ℕ, List, [], length, map, Some, None, if◌then◌else◌}
use Rattle.nrt_base.specs.Bytes.{is_key}
use Rattle.nrt_base.specs.declared.doc.Doc.{Doc}
use Rattle.body_forms.specs.Format.{Read, ◌>>=◌}
use Rattle.body_forms.specs.Numbers.{string_at}
use Rattle.body_forms.specs.ItemTable.{items_in}
use Rattle.docs_plain.specs.Documents.{row, IsRow, SpellsDocuments}

-- a key as a string
abbrev pub key_at : List ℕ → Read (List ℕ)
key_at bytes = string_at bytes >>= λ key. if is_key key.0 then Some key else None

-- the document whose key was read, with the rest as its text
abbrev pub with_rest : Read (List ℕ) → Doc
with_rest None = record { key = []; text = [] }
with_rest (Some key) = record { key = key.0; text = key.1 }

-- the document of a row
abbrev pub doc_in : List ℕ → Doc
doc_in item = with_rest (key_at item)

-- the documents of a body's rows
unfoldable pub docs_in : List ℕ → List Doc
docs_in body = map doc_in (items_in body)

-- the bytes are the row of some document
abbrev pub IsRowOfSome : List ℕ → Type 0
IsRowOfSome item = (doc : Doc) × IsRow doc × (item ≡ row doc)

-- the body spells the documents, and has fewer than 2^32 bytes
pub record SpellsSmall (body : List ℕ) (docs : List Doc) : Type 0 where
  pub spelled : SpellsDocuments body docs
  pub small : length body < 2 ^ 32
