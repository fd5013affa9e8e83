-- Records of the log: the body of their file, and the file.
use Rattle.std.specs.Prelude.{◌≡◌, ℕ, ◌<◌, ◌^◌, List, [], ◌∷◌, ◌++◌, length, codes, IsTrue, Some}
use Rattle.nrt_base.specs.Bytes.{is_key, is_text, is_word}
use Rattle.codec_frame.specs.Frame.{Wanted}
use Rattle.body_forms.specs.Numbers.{u32_bytes, u64_bytes, string}
use Rattle.body_forms.specs.File.{IsFile}
use Rattle.documents.specs.declared.operation.Op.{Op}
use Rattle.documents.specs.declared.operation.Op.TheVariants.{Put, Delete, Drop}
use Rattle.trans_log.specs.declared.record.LogOp.{LogOp}

-- the kind in one byte, then the key and the text of a put, the key of a delete or the word of a drop, each as a string
abbrev pub op_bytes : Op → List ℕ
op_bytes (Put doc) = 1 ∷ (string doc.key ++ string doc.text)
op_bytes (Delete key) = 2 ∷ string key
op_bytes (Drop word) = 3 ∷ string word

-- keys, texts and words are such, and a word has fewer than 2^32 bytes
abbrev pub OpFits : Op → Type 0
OpFits (Put doc) = IsTrue (is_key doc.key) × IsTrue (is_text doc.text)
OpFits (Delete key) = IsTrue (is_key key)
OpFits (Drop word) = IsTrue (is_word word) × (length word < 2 ^ 32)

-- the generation, the number in it, and the operation
unfoldable pub record_body : LogOp → List ℕ
record_body r = u64_bytes r.generation.0 ++ (u32_bytes r.seq ++ op_bytes r.op)

-- the bytes are the body of this record
pub record SpellsRecord (body : List ℕ) (r : LogOp) : Type 0 where
  pub generation : r.generation.0 < 2 ^ 64
  pub seq : r.seq < 2 ^ 32
  pub op : OpFits r.op
  pub whole : body ≡ record_body r

-- the id of the file of a record: its number in the log, and zero
abbrev pub log_file_id : ℕ → List ℕ
log_file_id number = u64_bytes number ++ u64_bytes 0

-- what is wanted of a file of the log with this id
abbrev pub log_wanted : List ℕ → Wanted
log_wanted id = record { name = codes "NrtLog"; min = 1; max = 1; id = Some id; suffix = [] }

-- what is wanted of the file of the record with this number
abbrev pub record_wanted : ℕ → Wanted
record_wanted number = log_wanted (log_file_id number)

-- the bytes are the file of this record, which has this number in the log
abbrev pub IsRecordFile : ℕ → LogOp → List ℕ → Type 0
IsRecordFile number r bytes = IsFile SpellsRecord (record_wanted number) (log_file_id number) r bytes
