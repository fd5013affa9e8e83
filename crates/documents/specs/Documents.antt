-- The documents that a list of operations leaves.
use Rattle.std.specs.Prelude.{ℕ, List, [], ◌∷◌, Bool, false, true, not, map, filter, bytes_eq}
use Rattle.std.specs.List.Sorted.{IsStrictlySortedBy}
use Rattle.std.specs.Ordering.{nat_cmp, on}
use Rattle.std.specs.BTreeMap.{BTreeMap}
use Rattle.std.specs.Cmp.Lexicographic.{slice_cmp}
use Rattle.std.specs.declared.cmp.Ordering.{Ordering}
use Rattle.nrt_base.specs.declared.doc.Doc.{Doc}
use Rattle.documents.specs.declared.operation.Op.{Op}
use Rattle.documents.specs.declared.operation.Op.TheVariants.{Put, Delete, Drop}
use Rattle.documents.specs.InOrder.{with_item}
use Rattle.documents.specs.Words.{words_of, has_word}

-- keys are in the order of their bytes
abbrev pub key_cmp : List ℕ → List ℕ → Ordering
key_cmp = slice_cmp nat_cmp

-- the operation takes the document away: it puts or deletes its key, or drops a word of its text
abbrev pub removes : Op → Doc → Bool
removes (Put put) doc = bytes_eq put.key doc.key
removes (Delete key) doc = bytes_eq key doc.key
removes (Drop word) doc = has_word word (words_of doc.text)

-- the operation puts a document
abbrev pub is_put : Op → Bool
is_put (Put doc) = true
is_put (Delete key) = false
is_put (Drop word) = false

-- the documents that the operation does not take away
abbrev pub remaining : Op → List Doc → List Doc
remaining op docs = filter (λ doc. not (removes op doc)) docs

-- documents in ascending order of key, with one more
abbrev pub with_doc : List Doc → Doc → List Doc
with_doc = with_item (on (λ d. d.key) key_cmp)

-- the documents after one more operation: those that remain, and the one that it puts
abbrev pub after_op : List Doc → Op → List Doc
after_op docs (Put doc) = with_doc (remaining (Put doc) docs) doc
after_op docs (Delete key) = remaining (Delete key) docs
after_op docs (Drop word) = remaining (Drop word) docs

-- the documents after some more operations, in order
abbrev pub after_ops : List Doc → List Op → List Doc
after_ops docs [] = docs
after_ops docs (op ∷ ops) = after_ops (after_op docs op) ops

-- the documents that these operations leave, in ascending order of key
abbrev pub documents_after : List Op → List Doc
documents_after ops = after_ops [] ops

-- the keys ascend, so no two documents have one key
abbrev pub IsAscending : List Doc → Type 0
IsAscending docs = IsStrictlySortedBy key_cmp (map (λ d. d.key) docs)

-- an entry of a map from keys to texts, as a document
abbrev pub document_of : List ℕ × List ℕ → Doc
document_of entry = record { key = entry.0; text = entry.1 }

-- the documents in a map from keys to texts, in ascending order of key
abbrev pub documents_in : BTreeMap (List ℕ) (List ℕ) → List Doc
documents_in texts = map document_of texts.entries
