-- A file of postings, in either format.
use Rattle.std.proofs.Common.{◌≡◌, ℕ, ◌≤◌, List, [], length, Result, Ok, Err, refl, sym, ap, subst, ◌∙◌, inl, inr, arith}
use Rattle.std.proofs.lemmas.Bool.{cases_lt}
use Rattle.nrt_base.proofs.Plain.{ok_never_err, same_ok, same_err}
use Rattle.codec_frame.specs.Frame.{IsFramed, IsFrame, framed}
use Rattle.codec_frame.specs.Checking.{IsFirstFault, IsChecked}
use Rattle.codec_frame.specs.declared.frame.Framed.{Framed}
use Rattle.codec_frame.specs.declared.frame.FrameFault.{FrameFault}
use Rattle.codec_frame.specs.declared.frame.FileFault.{FileFault}
use Rattle.codec_frame.specs.declared.frame.FileFault.TheVariants.{Frame, Body}
use Rattle.codec_frame.proofs.CheckLaws.{one_reading_lem}
use Rattle.body_forms.specs.File.{IsOneToOne}
use Rattle.body_forms.proofs.FileLaws.{IsFileKind, body_of, same_body, one_file_of, same_fault, kinds, not_ok}
use Rattle.postings_plain.specs.declared.format.Format.{Format}
use Rattle.postings_plain.specs.declared.format.Format.TheVariants.{One, Two}
use Rattle.postings_plain.specs.Postings.{Entry, format_number}
use Rattle.postings_plain.specs.Body.{SpellsPostings, versions_wanted, postings_wanted, format_wanted, FormattedEntries, in_format, IsPostingsFile, IsPostingsRead, IsRowCount}
use Rattle.postings_plain.specs.Reading.{entries_in}
use Rattle.postings_plain.proofs.BodyLaws.{one_list, one_body, reads_as_itself, entries_in-is}

pub postings_one_to_one : (format : Format) → IsOneToOne (SpellsPostings format)
postings_one_to_one format = record { one_value = one_list format; one_spelling = one_body format }

-- ---- formats and their numbers

number_first : (format : Format) → 1 ≤ format_number format
number_first One = omega arith
number_first Two = omega arith

number_last : (format : Format) → format_number format ≤ 2
number_last One = omega arith
number_last Two = omega arith

pub same_format : (a b : Format) → format_number a ≡ format_number b → a ≡ b
same_format One One e = refl
same_format One Two e = absurd (omega arith)
same_format Two One e = absurd (omega arith)
same_format Two Two e = refl

pub known_format : (version : ℕ) → 1 ≤ version → version ≤ 2 → (format : Format) × (version ≡ format_number format)
known_format version first last = elim (cases_lt version 2) [
  | inl lt ↦ (One, omega arith)
  | inr ge ↦ (Two, omega arith)
]

pub postings_kind : (format : Format) (id : List ℕ) → IsFileKind (SpellsPostings format) (format_wanted format id) id
postings_kind format id = record { version = record { same = refl; small = omega (arith, number_last format) }; one_to_one = postings_one_to_one format; id_wanted = refl }

pub versions_are : (min max : ℕ) (id : List ℕ) → min ≡ 1 → max ≡ 2 → versions_wanted min max id ≡ postings_wanted id
versions_are min max id e f = ap (λ (n : ℕ). versions_wanted n max id) e ∙ ap (λ (n : ℕ). versions_wanted 1 n id) f

-- ---- a file and its frame

abbrev IsFramedIn : Format → List ℕ → List ℕ → List ℕ → Type 0
IsFramedIn format id body bytes = IsFramed (format_wanted format id) (format_number format) id body bytes

-- what is wanted in one format is wanted in either
in_either : (format : Format) (id body bytes : List ℕ) → IsFramedIn format id body bytes → IsFramed (postings_wanted id) (format_number format) id body bytes
in_either format id body bytes f = record { whole = f.whole; not_older = number_first format; not_newer = number_last format; id_length = f.id_length; id_wanted = f.id_wanted }

in_one : (format : Format) (id body bytes : List ℕ) (version : ℕ) (other : List ℕ) → version ≡ format_number format → IsFramed (postings_wanted id) version other body bytes → IsFramedIn format id body bytes
in_one format id body bytes version other e f =
    let same : other ≡ id = f.id_wanted in
    let wanted = postings_wanted id in
    record {
      whole = f.whole ∙ ap (λ (v : ℕ). framed wanted.name v other [] body) e ∙ ap (λ (i : List ℕ). framed wanted.name (format_number format) i [] body) same;
      not_older = omega arith;
      not_newer = omega arith;
      id_length = subst (λ (i : List ℕ). length i ≡ 16) same f.id_length;
      id_wanted = refl;
    }

-- the entries stand in the frame: its version is the format's number, and its body spells them
pub record StandInFrame (bytes : List ℕ) (frame : Framed) (post : FormattedEntries) : Type 0 where
  pub version : frame.version ≡ format_number post.format
  pub spelled : SpellsPostings post.format (body_of bytes frame) post.entries

pub file_in_frame : (id bytes : List ℕ) (frame : Framed) (post : FormattedEntries) → IsFrame (postings_wanted id) bytes frame → StandInFrame bytes frame post → IsPostingsFile id post bytes
file_in_frame id bytes frame post f s = record { body = body_of bytes frame; framed = in_one post.format id (body_of bytes frame) bytes frame.version frame.id s.version f.framed; spelled = s.spelled }

pub frame_of_file : (id bytes : List ℕ) (frame : Framed) (post : FormattedEntries) → IsFrame (postings_wanted id) bytes frame → IsPostingsFile id post bytes → StandInFrame bytes frame post
frame_of_file id bytes frame post f d =
    let q = one_reading_lem (postings_wanted id) (omega arith) bytes (format_number post.format) frame.version id frame.id d.body (body_of bytes frame) (in_either post.format id d.body bytes d.framed) f.framed in
    record { version = sym q.0; spelled = subst (λ (body : List ℕ). SpellsPostings post.format body post.entries) q.2 d.spelled }

-- ---- a file is of one list of entries in one format

same_formatted : (f g : Format) (es fs : List Entry) → f ≡ g → es ≡ fs → in_format f es ≡ in_format g fs
same_formatted f g es fs e h = cc

pub one_post : (id bytes : List ℕ) (x y : FormattedEntries) → IsPostingsFile id x bytes → IsPostingsFile id y bytes → x ≡ y
one_post id bytes x y d e =
    let q = one_reading_lem (postings_wanted id) (omega arith) bytes (format_number x.format) (format_number y.format) id id d.body e.body (in_either x.format id d.body bytes d.framed) (in_either y.format id e.body bytes e.framed) in
    let f : x.format ≡ y.format = same_format x.format y.format q.0 in
    let s : SpellsPostings y.format e.body x.entries =
    subst (λ (g : Format). SpellsPostings g e.body x.entries) f (subst (λ (body : List ℕ). SpellsPostings x.format body x.entries) q.2 d.spelled) in
    same_formatted x.format y.format x.entries y.entries f (one_list y.format e.body x.entries y.entries s e.spelled)

pub files_one_to_one : (id : List ℕ) → IsOneToOne (λ bytes post. IsPostingsFile id post bytes)
files_one_to_one id = record { one_value = one_post id; one_spelling = λ a b post d e. one_file_of (postings_kind post.format id) a b post.entries d e }

-- ---- what reading answers

module _ {id bytes : List ℕ} {found : Result Framed FrameFault} (k : IsChecked (postings_wanted id) bytes found) where
  no_fault : (frame : Framed) → found ≡ Ok frame → (fault : FrameFault) → IsFirstFault (postings_wanted id) bytes fault → ⊥
  no_fault frame e fault p = ok_never_err frame fault (sym e ∙ (k.fault fault).1 p)

  pub frame_told : (fault : FrameFault) (result : Result FormattedEntries FileFault) → found ≡ Err fault → result ≡ Err (Frame fault) → IsPostingsRead id bytes result
  frame_told fault result e f = record {
    value = λ post. (
      λ g. absurd (ok_never_err post (Frame fault) (sym g ∙ f)),
      λ d. absurd (not_ok found fault _ e (k.written (format_number post.format) id d.body (in_either post.format id d.body bytes d.framed))),
    );
    frame = λ other. (
      λ g. subst (IsFirstFault (postings_wanted id) bytes) (same_fault fault other (same_err _ _ (sym f ∙ g))) ((k.fault fault).0 e),
      λ p. f ∙ ap (λ (x : FrameFault). Err (Frame x)) (same_err fault other (sym e ∙ (k.fault other).1 p)),
    );
    body = (λ g. absurd (kinds fault (same_err _ _ (sym f ∙ g))), λ x. absurd (ok_never_err x.0.0 fault (sym ((k.frame x.0.0).1 x.0.1) ∙ e)));
  }

  pub body_told : (frame : Framed) (format : Format) (result : Result FormattedEntries FileFault) → found ≡ Ok frame → frame.version ≡ format_number format → ((es : List Entry) → SpellsPostings format (body_of bytes frame) es → ⊥)
      → result ≡ Err Body → IsPostingsRead id bytes result
  body_told frame format result e version none f =
      let here = (k.frame frame).0 e in
      let never_file : (post : FormattedEntries) → IsPostingsFile id post bytes → ⊥ = λ post d.
      let s = frame_of_file id bytes frame post here d in
      let same : post.format ≡ format = same_format post.format format (sym s.version ∙ version) in
      none post.entries (subst (λ (g : Format). SpellsPostings g (body_of bytes frame) post.entries) same s.spelled) in
      record {
        value = λ post. (λ g. absurd (ok_never_err post Body (sym g ∙ f)), λ d. absurd (never_file post d));
        frame = λ fault. (λ g. absurd (kinds fault (same_err _ _ (sym g ∙ f))), λ p. absurd (no_fault frame e fault p));
        body = (λ _. ((frame, here), never_file), λ _. f);
      }

  pub value_told : (frame : Framed) (post : FormattedEntries) (result : Result FormattedEntries FileFault) → found ≡ Ok frame → StandInFrame bytes frame post → result ≡ Ok post → IsPostingsRead id bytes result
  value_told frame post result e s f =
      let file = file_in_frame id bytes frame post ((k.frame frame).0 e) s in
      record {
        value = λ other. (
          λ g. subst (λ (z : FormattedEntries). IsPostingsFile id z bytes) (same_ok post other (sym f ∙ g)) file,
          λ d. f ∙ ap Ok (one_post id bytes post other file d),
        );
        frame = λ fault. (λ g. absurd (ok_never_err post (Frame fault) (sym f ∙ g)), λ p. absurd (no_fault frame e fault p));
        body = (λ g. absurd (ok_never_err post Body (sym f ∙ g)), λ x. absurd (x.1 post file));
      }

  -- the version of a frame is that of one of the formats
  pub version_is : (frame : Framed) (format : Format) → found ≡ Ok frame → ((other : Format) → frame.version ≡ format_number other → format ≡ other) → frame.version ≡ format_number format
  version_is frame format e told =
      let f = (k.frame frame).0 e in
      let x = known_format frame.version f.framed.not_older f.framed.not_newer in
      x.1 ∙ ap format_number (sym (told x.0 x.1))

-- the body is one, and speaks of so many rows
pub record Spoken (format : Format) (body : List ℕ) (n : ℕ) : Type 0 where
  pub spelled : SpellsPostings format body (entries_in format body)
  pub rows : IsRowCount (entries_in format body) n

spoken : (format : Format) (body : List ℕ) (n : ℕ) (es : List Entry) → SpellsPostings format body es → IsRowCount es n → Spoken format body n
spoken format body n es s c = record { spelled = reads_as_itself format body es s; rows = subst (λ (x : List Entry). IsRowCount x n) (sym (entries_in-is format body es s)) c }

pub own_entries : (format : Format) (a bytes : List ℕ) (frame : Framed) (n : ℕ) → a ≡ bytes → (es : List Entry) × SpellsPostings format (body_of a frame) es × IsRowCount es n → Spoken format (body_of bytes frame) n
own_entries format a bytes frame n e x = same_body (λ body. Spoken format body n) a bytes frame e (spoken format (body_of a frame) n x.0 x.1 x.2)

pub no_entries : (format : Format) (a bytes : List ℕ) (frame : Framed) → a ≡ bytes → ((es : List Entry) → SpellsPostings format (body_of a frame) es → ⊥) → (es : List Entry) → SpellsPostings format (body_of bytes frame) es → ⊥
no_entries format a bytes frame e never = same_body (λ body. (x : List Entry) → SpellsPostings format body x → ⊥) a bytes frame e never
