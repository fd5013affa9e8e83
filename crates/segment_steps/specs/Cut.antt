-- What a cut of operations makes of documents: the rows of its new segment, and which rows stay live.
use Rattle.std.specs.Prelude.{ℕ, List, [], ◌∷◌, Bool, not, ◌&&◌}
use Rattle.std.specs.List.{filter, list_any}
use Rattle.nrt_base.specs.declared.doc.Doc.{Doc}
use Rattle.documents.specs.declared.operation.Op.{Op}
use Rattle.documents.specs.declared.operation.Op.TheVariants.{Put, Delete, Drop}
use Rattle.documents.specs.Documents.{removes}

-- some operation takes the document away
abbrev pub removed_by : List Op → Doc → Bool
removed_by ops d = list_any (λ op. removes op d) ops

-- the document has one of these keys
abbrev pub has_key_of : List (List ℕ) → Doc → Bool
has_key_of keys d = list_any (λ key. removes (Delete key) d) keys

-- the document has one of these words in its text
abbrev pub has_word_of : List (List ℕ) → Doc → Bool
has_word_of words d = list_any (λ word. removes (Drop word) d) words

-- the documents, after that of a put
abbrev pub with_put : Op → List Doc → List Doc
with_put (Put doc) docs = doc ∷ docs
with_put (Delete key) docs = docs
with_put (Drop word) docs = docs

-- the documents of the puts, in order of acceptance
abbrev pub puts_of : List Op → List Doc
puts_of [] = []
puts_of (op ∷ ops) = with_put op (puts_of ops)

-- the live rows, after that of a put
abbrev pub with_mark : Op → (Doc → Bool) → List Bool → List Bool
with_mark (Put doc) gone live = not (gone doc) ∷ live
with_mark (Delete key) gone live = live
with_mark (Drop word) gone live = live

-- a put's row is live where no later operation takes its document away
abbrev pub puts_live : List Op → List Bool
puts_live [] = []
puts_live (op ∷ ops) = with_mark op (removed_by ops) (puts_live ops)

-- the documents that are not gone
abbrev pub lacking : (Doc → Bool) → List Doc → List Doc
lacking gone docs = filter (λ doc. not (gone doc)) docs

-- a row stays live where its document is not gone
abbrev pub live_left : (Doc → Bool) → List Doc → List Bool → List Bool
live_left gone [] live = live
live_left gone (doc ∷ docs) [] = []
live_left gone (doc ∷ docs) (row ∷ live) = (row && not (gone doc)) ∷ live_left gone docs live
