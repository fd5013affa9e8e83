-- The file of a record, as one of the framed files.
use Rattle.std.proofs.Common.{◌≡◌, ℕ, ◌^◌, ◌<◌, ◌++◌, List, [], length, Option, Some, None, Result, Ok, Err, refl, sym, ap, subst, ◌∙◌, arith}
use Rattle.std.specs.Prelude.{codes, IfErr}
use Rattle.std.specs.Option.{option_map}
use Rattle.std.proofs.lemmas.Option.{same_Some}
use Rattle.codec_frame.specs.Frame.{IsFramed, index_header, with_footer}
use Rattle.codec_frame.specs.Checking.{IsChecked}
use Rattle.codec_frame.specs.Bytes.{AreBytes}
use Rattle.codec_frame.specs.declared.frame.Framed.{Framed}
use Rattle.codec_frame.specs.declared.frame.FrameFault.{FrameFault}
use Rattle.codec_frame.specs.declared.frame.FileFault.{FileFault}
use Rattle.codec_frame.specs.declared.frame.FileFault.TheVariants.{Frame, Body}
use Rattle.codec_frame.proofs.CheckLaws.{not_framed}
use Rattle.body_forms.specs.Numbers.{u32_bytes, u64_bytes}
use Rattle.body_forms.specs.File.{IsFileAnswer, AddsSpelling}
use Rattle.body_forms.specs.declared.read_fault.ReadFault.{ReadFault}
use Rattle.body_forms.specs.declared.read_fault.ReadFault.TheVariants.{File, Memory}
use Rattle.body_forms.proofs.FileLaws.{IsFileKind, body_of, Tells, framed_file, frame_refused, body_refused, cut_short, file_read, stands_in, files_one_to_one}
use Rattle.trans_log.specs.declared.record.LogOp.{LogOp}
use Rattle.trans_log.specs.declared.parts.Fields.{Fields}
use Rattle.trans_log.specs.Records.{op_bytes, OpFits, record_body, SpellsRecord, log_file_id, log_wanted, record_wanted, IsRecordFile}
use Rattle.trans_log.specs.Reading.{Three, three_at, whole_read, record_of_three, record_of_fields}
use Rattle.trans_log.proofs.RecordLaws.{record_spelled, record_read, record_one_to_one}
use Rattle.std.proofs.lemmas.List.{append_assoc}

pub log_kind : (id : List ℕ) → IsFileKind SpellsRecord (log_wanted id) id
log_kind id = record { version = record { same = refl; small = omega arith }; one_to_one = record_one_to_one; id_wanted = refl }

pub record_file : (number : ℕ) (id start head body out footed file : List ℕ) (r : LogOp) → length id ≡ 16 → id ≡ log_file_id number → start ≡ [] → head ≡ start ++ index_header (codes "NrtLog") 1 id []
    → out ≡ head ++ body → SpellsRecord body r → footed ≡ with_footer out → file ≡ footed → IsRecordFile number r file
record_file number id start head body out footed file r len same z e f s g h = record {
  body = body;
  framed = subst (λ (i : List ℕ). IsFramed (log_wanted i) 1 i body file) same (framed_file (log_wanted id) id start head body out footed file (log_kind id).version len refl z e f g h);
  spelled = s;
}

-- the body of a record is added, field by field
pub adds_record : (before one two three : List ℕ) (r : LogOp) → r.generation.0 < 2 ^ 64 → r.seq < 2 ^ 32 → OpFits r.op
    → one ≡ before ++ u64_bytes r.generation.0 → two ≡ one ++ u32_bytes r.seq → three ≡ two ++ op_bytes r.op → AddsSpelling SpellsRecord r before three
unfolding record_body
adds_record before one two three r g s op a b c = record {
  body = record_body r;
  added = c ∙ ap (λ (x : List ℕ). x ++ op_bytes r.op) (b ∙ ap (λ (x : List ℕ). x ++ u32_bytes r.seq) a)
      ∙ append_assoc (before ++ u64_bytes r.generation.0) (u32_bytes r.seq) (op_bytes r.op) ∙ append_assoc before (u64_bytes r.generation.0) (u32_bytes r.seq ++ op_bytes r.op);
  spelled = record { generation = g; seq = s; op = op; whole = refl };
}

-- ---- what reading answers

told_apart : Tells File
told_apart a b e = cc

not_memory : (fault : FileFault) → File fault ≡ Memory → ⊥
not_memory fault e = cc

some_three : (o : Option Three) (f : Fields) → ◌≡◌ {A = Option LogOp} (Some (record_of_fields f)) (option_map record_of_three o) → (t : Three) × (o ≡ Some t) × (record_of_three t ≡ record_of_fields f)
some_three None f e = absurd cc
some_three (Some t) f e = (t, refl, sym (same_Some (record_of_fields f) (record_of_three t) e))

no_three : (o : Option Three) → ◌≡◌ {A = Option LogOp} None (option_map record_of_three o) → o ≡ None
no_three None e = refl
no_three (Some t) e = absurd cc

-- the fields that were read are those of the record that the body spells
pub fields_spelled : (body : List ℕ) (f : Fields) → AreBytes body → ◌≡◌ {A = Option LogOp} (Some (record_of_fields f)) (option_map record_of_three (whole_read (three_at body))) → SpellsRecord body (record_of_fields f)
fields_spelled body f fits e = let t = some_three (whole_read (three_at body)) f e in subst (SpellsRecord body) t.2 (record_spelled body t.0 fits t.1)

-- where none were read the body spells no record
pub none_spelled : (body : List ℕ) → ◌≡◌ {A = Option LogOp} None (option_map record_of_three (whole_read (three_at body))) → (r : LogOp) → SpellsRecord body r → ⊥
none_spelled body e r s = let bad = sym (no_three (whole_read (three_at body)) e) ∙ record_read body r s in cc

module _ (id bytes : List ℕ) (found : Result Framed FrameFault) (k : IsChecked (log_wanted id) bytes found) where
  pub frame_told : (fault : FrameFault) (result : Result LogOp ReadFault) → found ≡ Err fault → result ≡ Err (File (Frame fault)) → IsFileAnswer SpellsRecord (log_wanted id) (λ _. id) File bytes result
  frame_told fault result e f = frame_refused SpellsRecord (log_wanted id) (λ _. id) File bytes found fault result told_apart k e f

  pub body_told : (frame : Framed) (result : Result LogOp ReadFault) → found ≡ Ok frame → ((r : LogOp) → SpellsRecord (body_of bytes frame) r → ⊥) → result ≡ Err (File Body)
      → IsFileAnswer SpellsRecord (log_wanted id) (λ _. id) File bytes result
  body_told frame result e none f = body_refused SpellsRecord (log_wanted id) (λ _. id) File bytes found frame result (log_kind id).version told_apart k e (λ x s. none x s.spelled) f

  pub memory_told : (frame : Framed) (r : LogOp) (result : Result LogOp ReadFault) → found ≡ Ok frame → SpellsRecord (body_of bytes frame) r → result ≡ Err Memory
      → IsFileAnswer SpellsRecord (log_wanted id) (λ _. id) File bytes result
  memory_told frame r result e s f = cut_short SpellsRecord (log_wanted id) (λ _. id) File bytes found frame r Memory result (log_kind id).version not_memory k e (stands_in (log_kind id) k frame r e s) f

  pub record_told : (frame : Framed) (r : LogOp) (result : Result LogOp ReadFault) → found ≡ Ok frame → SpellsRecord (body_of bytes frame) r → result ≡ Ok r
      → IsFileAnswer SpellsRecord (log_wanted id) (λ _. id) File bytes result
  record_told frame r result e s f = file_read SpellsRecord (log_wanted id) (λ _. id) File bytes found frame r result (log_kind id).version k e (stands_in (log_kind id) k frame r e s) f

-- the record of the fields, with an equal operation
pub same_record : (f : Fields) (r : LogOp) → r.generation.0 ≡ f.generation → r.seq ≡ f.seq → r.op ≡ (record_of_fields f).op → r ≡ record_of_fields f
same_record f r g s o = λ i. record { generation = record { 0 = g i }; seq = s i; op = o i }

-- the file of a record is never refused
pub whole_file : (number : ℕ) (bytes : List ℕ) (result : Result LogOp ReadFault) (r : LogOp) → AreBytes bytes → IsFileAnswer SpellsRecord (record_wanted number) (λ _. log_file_id number) File bytes result → IsRecordFile number r bytes → IfErr result (λ fault. fault ≡ Memory)
whole_file number bytes (Ok x) r fits a file = tt
whole_file number bytes (Err Memory) r fits a file = refl
whole_file number bytes (Err (File (Frame fault))) r fits a file = absurd (not_framed (record_wanted number) bytes fault fits (λ _. omega arith) ((a.frame fault).0 refl) 1 (log_file_id number) file.body file.framed)
whole_file number bytes (Err (File Body)) r fits a file = absurd ((a.body.0 refl).1 r file)

-- the bytes are the file of one record
pub one_record : (number : ℕ) (bytes : List ℕ) (x y : LogOp) → IsRecordFile number x bytes → IsRecordFile number y bytes → x ≡ y
one_record number bytes x y = (files_one_to_one (log_kind (log_file_id number))).one_value bytes x y
