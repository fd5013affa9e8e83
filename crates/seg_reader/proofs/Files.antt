-- What readers answer of files, and that a file in its grammar has no fault.
use Rattle.std.proofs.Common.{◌≡◌, ◌↔◌, ℕ, ◌<◌, ◌≤◌, Bool, List, Option, Some, None, Result, Ok, Err, refl, sym, ap, subst, ◌∙◌, inl, inr, arith}
use Rattle.std.specs.Prelude.{◌⊎◌, IfOk}
use Rattle.nrt_base.specs.declared.doc.Doc.{Doc}
use Rattle.codec_frame.specs.Bytes.{AreBytes}
use Rattle.codec_frame.specs.Frame.{Wanted}
use Rattle.codec_frame.specs.declared.frame.FileFault.{FileFault}
use Rattle.codec_frame.specs.declared.frame.FileFault.TheVariants.{Frame, Body}
use Rattle.codec_frame.proofs.CheckLaws.{not_framed}
use Rattle.segment_infos.specs.Given.{ReadFault, File as FileOf, Memory as NoMemory, IsFile, IsFileRead, IsFileAnswer}
use Rattle.segment_infos.proofs.Given.{one_value_of}
use Rattle.nrt_base.proofs.Plain.{ok_never_err, same_ok, same_err}
use Rattle.docs_plain.specs.Documents.{SpellsDocuments, documents_wanted, IsDocumentsFile}
use Rattle.postings_plain.specs.Body.{postings_wanted, FormattedEntries, IsPostingsFile, IsPostingsRead}
use Rattle.live_bits.specs.LiveRows.{SpellsLiveRows, live_wanted, IsLiveFile}
use Rattle.live_bits.proofs.FileLaws.{live_kind}
use Rattle.segment_infos.specs.declared.info.SegInfo.{SegInfo}
use Rattle.segment_infos.specs.declared.infos.SegRecord.{SegRecord}
use Rattle.segment_infos.specs.SegmentInfo.{SpellsSegmentInfo, info_wanted, IsInfoFile}
use Rattle.seg_reader.specs.declared.parts.SegParts.{SegParts}
use Rattle.seg_reader.specs.declared.parts.SegFile.{SegFile}
use Rattle.seg_reader.specs.declared.parts.SegFile.TheVariants.{Docs, Post, Info, Live}
use Rattle.seg_reader.specs.declared.parts.SegFault.{SegFault}
use Rattle.seg_reader.specs.declared.parts.SegFault.TheVariants.{Memory, File, Disagrees}
use Rattle.seg_reader.specs.Files.{record_id}
use Rattle.seg_reader.specs.Faults.{IsFaultOf, HasLiveFault, HasFault, SaysLive, IsInGrammar}
use Rattle.seg_reader.specs.Reading.{IsOr, IsLiveRead}

-- ---- one file

-- what reading a file answered is what the file is due
pub record Answers {X : Type 0} (IsFileOf : X → Type 0) (want : Wanted) (bytes : List ℕ) (result : Result X FileFault) : Type 0 where
  pub value : (x : X) → (result ≡ Ok x) ↔ IsFileOf x
  pub fault : (fault : FileFault) → (result ≡ Err fault) ↔ IsFaultOf IsFileOf want bytes fault

answers : {X : Type 0} (Spells : List ℕ → X → Type 0) (want : Wanted) (id bytes : List ℕ) (result : Result X FileFault) → IsFileRead Spells want id bytes result → Answers (λ x. IsFile Spells want id x bytes) want bytes result
answers {X} Spells want id bytes result k = record { value = k.value; fault = each }
  where
    each : (fault : FileFault) → (result ≡ Err fault) ↔ IsFaultOf (λ (x : X). IsFile Spells want id x bytes) want bytes fault
    each (Frame fault) = k.frame fault
    each Body = k.body

-- a file that is in its grammar has no fault, and a file has one fault at most
pub record Judged (parts : SegParts) (r : SegRecord) (part : SegFile) : Type 0 where
  pub apart : IsInGrammar parts r part → (fault : FileFault) → HasFault parts r part fault → ⊥
  pub one : (a b : FileFault) → HasFault parts r part a → HasFault parts r part b → a ≡ b

no_fault : {X : Type 0} (IsFileOf : X → Type 0) (want : Wanted) (bytes : List ℕ) (result : Result X FileFault) → Answers IsFileOf want bytes result
    → (x : X) → IsFileOf x → (fault : FileFault) → IsFaultOf IsFileOf want bytes fault → ⊥
no_fault IsFileOf want bytes result k x is fault has = ok_never_err x fault (sym ((k.value x).1 is) ∙ (k.fault fault).1 has)

one_fault : {X : Type 0} (IsFileOf : X → Type 0) (want : Wanted) (bytes : List ℕ) (result : Result X FileFault) → Answers IsFileOf want bytes result
    → (a b : FileFault) → IsFaultOf IsFileOf want bytes a → IsFaultOf IsFileOf want bytes b → a ≡ b
one_fault IsFileOf want bytes result k a b has other = same_err a b (sym ((k.fault a).1 has) ∙ (k.fault b).1 other)

-- ---- each of the files

abbrev pub DocsAnswers : SegParts → SegRecord → Result (List Doc) FileFault → Type 0
DocsAnswers parts r result = Answers (λ docs. IsDocumentsFile (record_id r) docs parts.docs) (documents_wanted (record_id r)) parts.docs result

abbrev pub PostAnswers : SegParts → SegRecord → Result FormattedEntries FileFault → Type 0
PostAnswers parts r result = Answers (λ post. IsPostingsFile (record_id r) post parts.post) (postings_wanted (record_id r)) parts.post result

abbrev pub InfoAnswers : SegParts → SegRecord → Result SegInfo FileFault → Type 0
InfoAnswers parts r result = Answers (λ info. IsInfoFile (record_id r) info parts.info) (info_wanted (record_id r)) parts.info result

pub docs_answers : (parts : SegParts) (r : SegRecord) (id : List ℕ) (result : Result (List Doc) FileFault) → id ≡ record_id r → IsFileRead SpellsDocuments (documents_wanted id) id parts.docs result → DocsAnswers parts r result
docs_answers parts r id result e k =
    subst (λ (i : List ℕ). Answers (λ docs. IsDocumentsFile i docs parts.docs) (documents_wanted i) parts.docs result) e (answers SpellsDocuments (documents_wanted id) id parts.docs result k)

postings_answer : (id bytes : List ℕ) (result : Result FormattedEntries FileFault) → IsPostingsRead id bytes result → Answers (λ post. IsPostingsFile id post bytes) (postings_wanted id) bytes result
postings_answer id bytes result k = record { value = k.value; fault = each }
  where
    each : (fault : FileFault) → (result ≡ Err fault) ↔ IsFaultOf (λ (post : FormattedEntries). IsPostingsFile id post bytes) (postings_wanted id) bytes fault
    each (Frame fault) = k.frame fault
    each Body = k.body

pub post_answers : (parts : SegParts) (r : SegRecord) (id : List ℕ) (result : Result FormattedEntries FileFault) → id ≡ record_id r → IsPostingsRead id parts.post result → PostAnswers parts r result
post_answers parts r id result e k =
    subst (λ (i : List ℕ). Answers (λ post. IsPostingsFile i post parts.post) (postings_wanted i) parts.post result) e (postings_answer id parts.post result k)

pub info_answers : (parts : SegParts) (r : SegRecord) (id bytes : List ℕ) (result : Result SegInfo FileFault) → id ≡ record_id r → bytes ≡ parts.info → IsFileRead SpellsSegmentInfo (info_wanted id) id bytes result → InfoAnswers parts r result
info_answers parts r id bytes result e f k =
    subst (λ (i : List ℕ). Answers (λ info. IsInfoFile i info parts.info) (info_wanted i) parts.info result) e
    (subst (λ (b : List ℕ). Answers (λ info. IsInfoFile id info b) (info_wanted id) b result) f (answers SpellsSegmentInfo (info_wanted id) id bytes result k))

pub docs_judged : (parts : SegParts) (r : SegRecord) (result : Result (List Doc) FileFault) → DocsAnswers parts r result → Judged parts r Docs
docs_judged parts r result k = record { apart = λ x fault has. no_fault _ _ _ _ k x.0 x.1 fault has; one = one_fault _ _ _ _ k }

pub post_judged : (parts : SegParts) (r : SegRecord) (result : Result FormattedEntries FileFault) → PostAnswers parts r result → Judged parts r Post
post_judged parts r result k = record { apart = λ x fault has. no_fault _ _ _ _ k x.0 x.1 fault has; one = one_fault _ _ _ _ k }

pub info_judged : (parts : SegParts) (r : SegRecord) (result : Result SegInfo FileFault) → InfoAnswers parts r result → Judged parts r Info
info_judged parts r result k = record { apart = λ x fault has. no_fault _ _ _ _ k x.0 x.1 fault has; one = one_fault _ _ _ _ k }

-- ---- the live file

not_two : {X : Type 0} (result : Result X SegFault) (x : X) (part : SegFile) (fault : FileFault) → IsOr result (Ok x) → result ≡ Err (File part fault) → ⊥
not_two result x part fault (inl e) f = absurd cc
not_two result x part fault (inr e) f = absurd cc

same_file : (part : SegFile) (a b : FileFault) → ◌≡◌ {A = SegFault} (File part a) (File part b) → a ≡ b
same_file part a b e = cc

pub live_judged : (parts : SegParts) (r : SegRecord) (result : Result (Option (List Bool)) SegFault) → IsLiveRead parts.live r result → Judged parts r Live
live_judged parts r result k = record {
  apart = λ x fault has. not_two result x.0 Live fault (k.each_value x.0 x.1) ((k.fault fault).1 has);
  one = λ a b has other. same_file Live a b (same_err _ _ (sym ((k.fault a).1 has) ∙ (k.fault b).1 other));
}

no_live : (r : SegRecord) (live : Option (List Bool)) → SaysLive None r live → live ≡ None
no_live r None says = refl
no_live r (Some live) says = absurd says

pub no_live_file : (r : SegRecord) → IsLiveRead None r (Ok None)
no_live_file r = record {
  value = λ live e. subst (SaysLive None r) (same_ok _ _ e) tt;
  fault = λ fault. (λ e. ok_never_err _ _ e, λ has. absurd has);
  each_value = λ live says. inr (ap Ok (sym (no_live r live says)));
  only = λ fault e. absurd (ok_never_err _ _ e);
}

-- what reading a live file answered, told in the words of its reader
abbrev pub LiveAnswers : (id : List ℕ) (live_gen : ℕ) (bytes : List ℕ) → Result (List Bool) ReadFault → Type 0
LiveAnswers id live_gen bytes result = IsFileAnswer SpellsLiveRows (live_wanted id live_gen) (λ _. id) FileOf bytes result

live_fault : (id : List ℕ) (live_gen : ℕ) (bytes : List ℕ) (result : Result (List Bool) ReadFault) → LiveAnswers id live_gen bytes result
    → (fault : FileFault) → (result ≡ Err (FileOf fault)) ↔ IsFaultOf (λ live. IsLiveFile id live_gen live bytes) (live_wanted id live_gen) bytes fault
live_fault id live_gen bytes result k (Frame fault) = k.frame fault
live_fault id live_gen bytes result k Body = k.body

-- a live file that is in its grammar has no fault
live_apart : (id : List ℕ) (live_gen : ℕ) (bytes : List ℕ) (live : List Bool) → AreBytes bytes → IsLiveFile id live_gen live bytes
    → (fault : FileFault) → IsFaultOf (λ live. IsLiveFile id live_gen live bytes) (live_wanted id live_gen) bytes fault → ⊥
live_apart id live_gen bytes live fits is (Frame fault) has = not_framed (live_wanted id live_gen) bytes fault fits (λ _. omega arith) has 1 id is.body is.framed
live_apart id live_gen bytes live fits is Body has = has.1 live is

the_live : (r : SegRecord) (bytes : List ℕ) (live : Option (List Bool)) → SaysLive (Some bytes) r live → (rows : List Bool) × (live ≡ Some rows) × IsLiveFile (record_id r) r.live_gen rows bytes
the_live r bytes None says = absurd says
the_live r bytes (Some rows) says = (rows, refl, says)

same_read : (a b : FileFault) → ◌≡◌ {A = ReadFault} (FileOf a) (FileOf b) → a ≡ b
same_read a b e = cc

not_memory : (fault : FileFault) → ◌≡◌ {A = ReadFault} NoMemory (FileOf fault) → ⊥
not_memory fault e = cc

memory_alone : (fault : FileFault) → ◌≡◌ {A = SegFault} Memory (File Live fault) → ⊥
memory_alone fault e = cc

file_read : (r : SegRecord) (bytes : List ℕ) (live : List Bool) → LiveAnswers (record_id r) r.live_gen bytes (Ok live) → IsLiveRead (Some bytes) r (Ok (Some live))
file_read r bytes live k = record {
  value = λ other e. subst (SaysLive (Some bytes) r) (same_ok _ _ e) k.value;
  fault = λ fault. (λ e. absurd (ok_never_err _ _ e), λ has. absurd (ok_never_err _ _ ((live_fault _ _ _ _ k fault).1 has)));
  each_value = λ other says.
      let x = the_live r bytes other says in
      inr (ap Ok (ap Some (one_value_of (live_kind (record_id r) r.live_gen) bytes live x.0 k.value x.2) ∙ sym x.1));
  only = λ fault e. absurd (ok_never_err _ _ e);
}

file_refused : (r : SegRecord) (bytes : List ℕ) (fault : FileFault) → AreBytes bytes → LiveAnswers (record_id r) r.live_gen bytes (Err (FileOf fault)) → IsLiveRead (Some bytes) r (Err (File Live fault))
file_refused r bytes fault fits k = record {
  value = λ live e. absurd (ok_never_err _ _ (sym e));
  fault = λ other. (
    λ e. subst (HasLiveFault (Some bytes) r) (same_file Live fault other (same_err _ _ e)) ((live_fault _ _ _ _ k fault).0 refl),
    λ has. ap (λ (f : FileFault). Err (File Live f)) (same_read fault other (same_err _ _ ((live_fault _ _ _ _ k other).1 has))),
  );
  each_value = λ live says.
      let x = the_live r bytes live says in
      absurd (live_apart (record_id r) r.live_gen bytes x.0 fits x.2 fault ((live_fault _ _ _ _ k fault).0 refl));
  only = λ other e. inr (fault, sym (same_err _ _ e));
}

memory_wanting : (r : SegRecord) (bytes : List ℕ) → LiveAnswers (record_id r) r.live_gen bytes (Err NoMemory) → IsLiveRead (Some bytes) r (Err Memory)
memory_wanting r bytes k = record {
  value = λ live e. absurd (ok_never_err _ _ (sym e));
  fault = λ fault. (
    λ e. absurd (memory_alone fault (same_err _ _ e)),
    λ has. absurd (not_memory fault (same_err _ _ ((live_fault _ _ _ _ k fault).1 has))),
  );
  each_value = λ live says. inl refl;
  only = λ fault e. inl (sym (same_err _ _ e));
}

-- the same where the id was computed
module _ (r : SegRecord) (id bytes : List ℕ) (answer : Result (List Bool) ReadFault) (same_id : id ≡ record_id r) (k : LiveAnswers id r.live_gen bytes answer) where
  told : (result : Result (List Bool) ReadFault) → answer ≡ result → LiveAnswers (record_id r) r.live_gen bytes result
  told result e = subst (LiveAnswers (record_id r) r.live_gen bytes) e (subst (λ (i : List ℕ). LiveAnswers i r.live_gen bytes answer) same_id k)

  pub live_file_read : (live : List Bool) → answer ≡ Ok live → IsLiveRead (Some bytes) r (Ok (Some live))
  live_file_read live e = file_read r bytes live (told (Ok live) e)

  pub live_file_refused : (fault : FileFault) → AreBytes bytes → answer ≡ Err (FileOf fault) → IsLiveRead (Some bytes) r (Err (File Live fault))
  live_file_refused fault fits e = file_refused r bytes fault fits (told (Err (FileOf fault)) e)

  pub no_memory_for_live : answer ≡ Err NoMemory → IsLiveRead (Some bytes) r (Err Memory)
  no_memory_for_live e = memory_wanting r bytes (told (Err NoMemory) e)

pub live_file_is : (r : SegRecord) (seen bytes : List ℕ) (file : Option (List ℕ)) (result : Result (Option (List Bool)) SegFault) → seen ≡ bytes → file ≡ Some bytes → IsLiveRead (Some seen) r result → IsLiveRead file r result
live_file_is r seen bytes file result e f k = subst (λ (x : Option (List ℕ)). IsLiveRead x r result) (ap Some e ∙ sym f) k
