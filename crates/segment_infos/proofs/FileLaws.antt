-- The info file of a segment and the file of infos, as framed files.
use Rattle.std.proofs.Common.{◌≡◌, ℕ, ◌-◌, ◌⊎◌, Bool, true, false, List, [], ◌++◌, length, Result, Ok, Err, refl, sym, ap, subst, ◌∙◌, arith, inl, inr}
use Rattle.std.specs.Prelude.{codes, IsOkAnd, nat_eq}
use Rattle.std.specs.Cmp.Lexicographic.{pointwise}
use Rattle.std.proofs.lemmas.Slice.Eq.{bytes_eq-Decides}
use Rattle.body_forms.specs.Given.{Wanted, IsFramed, index_header, with_footer, IsChecked, Framed, FrameFault, Frame, Body}
use Rattle.body_forms.specs.File.{IsOneToOne, IsFileAnswer}
use Rattle.body_forms.proofs.FileLaws.{OneVersion, IsFileKind, body_of, StandsIn, Tells, frame_refused, body_refused, file_read, one_file_value, one_file_bytes, framed_file}
use Rattle.segment_infos.specs.declared.info.SegInfo.{SegInfo}
use Rattle.segment_infos.specs.declared.infos.Infos.{Infos}
use Rattle.body_forms.specs.declared.read_fault.ReadFault.{ReadFault}
use Rattle.body_forms.specs.declared.read_fault.ReadFault.TheVariants.{Memory, File}
use Rattle.segment_infos.specs.SegmentInfo.{SpellsSegmentInfo, info_wanted, IsInfoFile}
use Rattle.segment_infos.specs.Infos.{SpellsInfos, infos_id, infos_wanted, IsInfosFile, IsOfNoInfos}
use Rattle.segment_infos.specs.Reading.{IsDecoded}
use Rattle.segment_infos.proofs.InfoLaws.{info_one_to_one}
use Rattle.segment_infos.proofs.BodyLaws.{infos_one_to_one}

-- ---- info files

pub info_kind : (id : List ℕ) → IsFileKind SpellsSegmentInfo (info_wanted id) id
info_kind id = record { version = record { same = refl; small = omega arith }; one_to_one = info_one_to_one; id_wanted = refl }

pub info_file : (id start head body out footed file : List ℕ) (info : SegInfo) → length id ≡ 16 → start ≡ [] → head ≡ start ++ index_header (codes "NrtSegmentInfo") 1 id [] → out ≡ head ++ body
    → SpellsSegmentInfo body info → footed ≡ with_footer out → file ≡ footed → IsInfoFile id info file
info_file id start head body out footed file info len z e f s g h =
    record { body = body; framed = framed_file (info_wanted id) id start head body out footed file (info_kind id).version len refl z e f g h; spelled = s }

-- ---- files of infos

infos_version : OneVersion infos_wanted
infos_version = record { same = refl; small = omega arith }

told_apart : Tells (λ fault. File fault)
told_apart a b e = cc

one_infos_file : (bytes : List ℕ) (infos other : Infos) → IsInfosFile infos bytes → IsInfosFile other bytes → infos ≡ other
one_infos_file bytes infos other d e = one_file_value SpellsInfos infos_wanted (infos_id infos) (infos_id other) bytes infos other infos_version infos_one_to_one d e

pub infos_files_one_to_one : IsOneToOne (λ bytes infos. IsInfosFile infos bytes)
infos_files_one_to_one = record { one_value = one_infos_file; one_spelling = λ a b infos d e. one_file_bytes SpellsInfos infos_wanted (infos_id infos) a b infos infos_one_to_one d e }

pub infos_file : (id start head body out footed file : List ℕ) (infos : Infos) → length id ≡ 16 → id ≡ infos_id infos → start ≡ [] → head ≡ start ++ index_header (codes "NrtInfos") 1 id [] → out ≡ head ++ body
    → SpellsInfos body infos → footed ≡ with_footer out → file ≡ footed → IsInfosFile infos file
infos_file id start head body out footed file infos len same z e f s g h =
    record {
      body = body;
      framed = subst (λ (i : List ℕ). IsFramed infos_wanted 1 i body file) same (framed_file infos_wanted id start head body out footed file infos_version len tt z e f g h);
      spelled = s;
    }

decoded : (bytes : List ℕ) (result : Result Infos ReadFault) → IsFileAnswer SpellsInfos infos_wanted infos_id (λ fault. File fault) bytes result
    → ((fault : FrameFault) → result ≡ Err (File (Frame fault)) → (version : ℕ) (id body : List ℕ) → IsFramed infos_wanted version id body bytes → ⊥) → IsDecoded bytes result
decoded bytes result a never = record { value = a.value; frame = a.frame; unframed = never; body = a.body.0 }

-- neither infos nor a fault of the body is a fault of the frame
not_ok : (infos : Infos) (fault : FrameFault) → ◌≡◌ {A = Result Infos ReadFault} (Ok infos) (Err (File (Frame fault))) → ⊥
not_ok infos fault e = cc

not_body : (fault : FrameFault) → ◌≡◌ {A = Result Infos ReadFault} (Err (File Body)) (Err (File (Frame fault))) → ⊥
not_body fault e = cc

not_framed : (want : Wanted) (bytes : List ℕ) (found : Result Framed FrameFault) (fault : FrameFault) → IsChecked want bytes found → found ≡ Err fault → (version : ℕ) (id body : List ℕ) → IsFramed want version id body bytes → ⊥
not_framed want bytes found fault k e version id body f = refused _ found e (k.written version id body f)
  where
    refused : (P : Framed → Type 0) (r : Result Framed FrameFault) → r ≡ Err fault → IsOkAnd r P → ⊥
    refused P r e h = subst (λ (x : Result Framed FrameFault). IsOkAnd x P) e h

pub frame_is_refused : (bytes : List ℕ) (found : Result Framed FrameFault) (fault : FrameFault) (result : Result Infos ReadFault) → IsChecked infos_wanted bytes found → found ≡ Err fault
    → result ≡ Err (File (Frame fault)) → IsDecoded bytes result
frame_is_refused bytes found fault result k e f =
    decoded bytes result (frame_refused SpellsInfos infos_wanted infos_id (λ fault. File fault) bytes found fault result told_apart k e f) (λ other g. not_framed infos_wanted bytes found fault k e)

pub infos_are_read : (bytes : List ℕ) (found : Result Framed FrameFault) (frame : Framed) (infos : Infos) (result : Result Infos ReadFault) → IsChecked infos_wanted bytes found → found ≡ Ok frame
    → SpellsInfos (body_of bytes frame) infos → frame.id ≡ infos_id infos → result ≡ Ok infos → IsDecoded bytes result
infos_are_read bytes found frame infos result k was s i f =
    decoded bytes result (file_read SpellsInfos infos_wanted infos_id (λ fault. File fault) bytes found frame infos result infos_version k was (record { id = i; spelled = s }) f)
    (λ fault g. absurd (not_ok infos fault (sym f ∙ g)))

body_is_refused : (bytes : List ℕ) (found : Result Framed FrameFault) (frame : Framed) (result : Result Infos ReadFault) → IsChecked infos_wanted bytes found → found ≡ Ok frame
    → ((infos : Infos) → StandsIn SpellsInfos infos_id bytes frame infos → ⊥) → result ≡ Err (File Body) → IsDecoded bytes result
body_is_refused bytes found frame result k was none f =
    decoded bytes result (body_refused SpellsInfos infos_wanted infos_id (λ fault. File fault) bytes found frame result infos_version told_apart k was none f) (λ fault g. absurd (not_body fault (sym f ∙ g)))

pub another_id : (bytes : List ℕ) (found : Result Framed FrameFault) (frame : Framed) (infos : Infos) (result : Result Infos ReadFault) → IsChecked infos_wanted bytes found → found ≡ Ok frame
    → SpellsInfos (body_of bytes frame) infos → (frame.id ≡ infos_id infos → ⊥) → result ≡ Err (File Body) → IsDecoded bytes result
another_id bytes found frame infos result k was s other f =
    body_is_refused bytes found frame result k was (λ x t. other (t.id ∙ ap infos_id (infos_one_to_one.one_value (body_of bytes frame) x infos t.spelled s))) f

-- two ids that are compared
pub same_id : (a b c : List ℕ) (test : Bool) → test ≡ pointwise nat_eq a b → test ≡ true → b ≡ c → a ≡ c
same_id a b c test e t f = (bytes_eq-Decides a b).0 (sym e ∙ t) ∙ f

pub other_id : (a b c : List ℕ) (test : Bool) → test ≡ pointwise nat_eq a b → test ≡ false → b ≡ c → a ≡ c → ⊥
other_id a b c test e t f same = let yes = (bytes_eq-Decides a b).1 (same ∙ sym f) in let bad : false ≡ true = sym t ∙ e ∙ yes in cc

-- ---- all infos are answered, and each body of none is refused

pub each_infos : (bytes : List ℕ) (result : Result Infos ReadFault) → IsDecoded bytes result → (infos : Infos) → IsInfosFile infos bytes → (result ≡ Err Memory) ⊎ (result ≡ Ok infos)
each_infos bytes (Ok x) d infos file = inr (ap (λ (y : Infos). Ok y) (one_infos_file bytes x infos d.value file))
each_infos bytes (Err Memory) d infos file = inl refl
each_infos bytes (Err (File (Frame fault))) d infos file = absurd (d.unframed fault refl 1 (infos_id infos) file.body file.framed)
each_infos bytes (Err (File Body)) d infos file = absurd ((d.body refl).1 infos file)

pub each_body : (bytes : List ℕ) (result : Result Infos ReadFault) → IsDecoded bytes result → IsOfNoInfos bytes → (result ≡ Err Memory) ⊎ (result ≡ Err (File Body))
each_body bytes (Ok x) d none = absurd (none.1 x d.value)
each_body bytes (Err Memory) d none = inl refl
each_body bytes (Err (File (Frame fault))) d none = let f = none.0.1 in absurd (d.unframed fault refl none.0.0.version none.0.0.id (body_of bytes none.0.0) f.framed)
each_body bytes (Err (File Body)) d none = inr refl
