-- Stored documents: the body of their file, and the file.
use Rattle.std.specs.Prelude.{ℕ, ◌<◌, List, [], ◌++◌, length, map, codes, IsTrue, Some}
use Rattle.std.specs.List.{All}
use Rattle.nrt_base.specs.Bytes.{is_key, is_text}
use Rattle.nrt_base.specs.declared.doc.Doc.{Doc}
use Rattle.body_forms.specs.Numbers.{string}
use Rattle.body_forms.specs.ItemTable.{IsItemTable}
use Rattle.body_forms.specs.File.{IsFile}
use Rattle.body_forms.specs.Given.{Wanted}

-- a row: the key as a string, then the text
abbrev pub row : Doc → List ℕ
row doc = string doc.key ++ doc.text

-- the key is one, and the text too
pub record IsRow (doc : Doc) : Type 0 where
  pub key : IsTrue (is_key doc.key)
  pub text : IsTrue (is_text doc.text)

-- the bytes are the body of these documents: a table of their rows, at least one
pub record SpellsDocuments (body : List ℕ) (docs : List Doc) : Type 0 where
  pub some : 0 < length docs
  pub fit : All IsRow docs
  pub table : IsItemTable body (map row docs)

-- what is wanted of a file of stored documents
abbrev pub documents_wanted : List ℕ → Wanted
documents_wanted id = record { name = codes "NrtDocs"; min = 1; max = 1; id = Some id; suffix = [] }

-- the bytes are the file of these documents: their body, framed
abbrev pub IsDocumentsFile : List ℕ → List Doc → List ℕ → Type 0
IsDocumentsFile id docs bytes = IsFile SpellsDocuments (documents_wanted id) id docs bytes
