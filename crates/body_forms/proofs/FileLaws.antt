-- What reading a framed file answers, and what writing one makes, for every kind of file.
-- `ids` gives each value the id that its file has; where the id is passed it is `λ _. id`.
-- `told` is how the reader's own error tells a fault of the file.
use Rattle.std.proofs.Common.{◌≡◌, ℕ, ◌-◌, ◌^◌, ◌<◌, ◌≤◌, List, [], ◌++◌, length, drop, Option, Some, Result, Ok, Err, refl, sym, ap, subst, ◌∙◌, arith}
use Rattle.std.specs.Prelude.{IfOk, IfSome, IsOkAnd, IsErrAnd, slice_range}
use Rattle.nrt_base.proofs.Plain.{ok_never_err, same_ok, same_err}
use Rattle.codec_frame.specs.Bytes.{AreBytes}
use Rattle.codec_frame.specs.Frame.{Wanted, IsFramed, IsFrame, IsFramedAs, index_header, with_footer}
use Rattle.codec_frame.specs.Checking.{IsFirstFault, IsChecked}
use Rattle.codec_frame.specs.declared.frame.Framed.{Framed}
use Rattle.codec_frame.specs.declared.frame.FrameFault.{FrameFault}
use Rattle.codec_frame.specs.declared.frame.FileFault.{FileFault}
use Rattle.codec_frame.specs.declared.frame.FileFault.TheVariants.{Frame, Body}
use Rattle.codec_frame.proofs.ByteLaws.{AreBytes-take}
use Rattle.codec_frame.proofs.CheckLaws.{one_reading_lem}
use Rattle.codec_frame.proofs.FrameLaws.{framed-length}
use Rattle.body_forms.proofs.Formats.{AreBytes-drop}
use Rattle.body_forms.specs.File.{IsFile, IsOneToOne, IsFileAnswer, IsFileRead}

-- a file is wanted in one version
pub record OneVersion (want : Wanted) : Type 0 where
  pub same : want.min ≡ want.max
  pub small : want.max < 2 ^ 32

-- the body that a frame gives
abbrev pub body_of : List ℕ → Framed → List ℕ
body_of bytes frame = slice_range bytes frame.start frame.end

pub body_fits : (bytes : List ℕ) (frame : Framed) → AreBytes bytes → AreBytes (body_of bytes frame)
body_fits bytes frame fits = AreBytes-take (frame.end - frame.start) (drop frame.start bytes) (AreBytes-drop frame.start bytes fits)

-- the value stands in the frame: its body spells it, and its id is the value's
pub record StandsIn {X : Type 0} (Spells : List ℕ → X → Type 0) (ids : X → List ℕ) (bytes : List ℕ) (frame : Framed) (x : X) : Type 0 where
  pub id : frame.id ≡ ids x
  pub spelled : Spells (body_of bytes frame) x

framed_one : (want : Wanted) (id bytes : List ℕ) (frame : Framed) → OneVersion want → IsFrame want bytes frame → frame.id ≡ id → IsFramed want want.min id (body_of bytes frame) bytes
framed_one want id bytes frame one f e =
    let version : frame.version ≡ want.min = omega (arith, one.same, f.framed.not_older, f.framed.not_newer) in
    subst (λ (v : ℕ). IsFramed want v id (body_of bytes frame) bytes) version
    (subst (λ (i : List ℕ). IsFramed want frame.version i (body_of bytes frame) bytes) e f.framed)

pub is_file : {X : Type 0} (Spells : List ℕ → X → Type 0) (want : Wanted) (ids : X → List ℕ) (bytes : List ℕ) (frame : Framed) (x : X)
    → OneVersion want → IsFrame want bytes frame → StandsIn Spells ids bytes frame x → IsFile Spells want (ids x) x bytes
is_file Spells want ids bytes frame x one f s = record { body = body_of bytes frame; framed = framed_one want (ids x) bytes frame one f s.id; spelled = s.spelled }

pub file_stands : {X : Type 0} (Spells : List ℕ → X → Type 0) (want : Wanted) (ids : X → List ℕ) (bytes : List ℕ) (frame : Framed) (x : X)
    → OneVersion want → IsFrame want bytes frame → IsFile Spells want (ids x) x bytes → StandsIn Spells ids bytes frame x
file_stands Spells want ids bytes frame x one f d =
    let q = one_reading_lem want one.small bytes want.min frame.version (ids x) frame.id d.body (body_of bytes frame) d.framed f.framed in
    record { id = sym q.1; spelled = subst (λ (body : List ℕ). Spells body x) q.2 d.spelled }

-- a file is that of one value
pub one_file_value : {X : Type 0} (Spells : List ℕ → X → Type 0) (want : Wanted) (id other bytes : List ℕ) (x y : X)
    → OneVersion want → IsOneToOne Spells → IsFile Spells want id x bytes → IsFile Spells want other y bytes → x ≡ y
one_file_value Spells want id other bytes x y one each d e =
    let q = one_reading_lem want one.small bytes want.min want.min id other d.body e.body d.framed e.framed in
    each.one_value e.body x y (subst (λ (body : List ℕ). Spells body x) q.2 d.spelled) e.spelled

-- a value has one file
pub one_file_bytes : {X : Type 0} (Spells : List ℕ → X → Type 0) (want : Wanted) (id a b : List ℕ) (x : X) → IsOneToOne Spells → IsFile Spells want id x a → IsFile Spells want id x b → a ≡ b
one_file_bytes Spells want id a b x each d e =
    let same = each.one_spelling d.body e.body x d.spelled e.spelled in
    let first : IsFramed want want.min id e.body a = subst (λ (body : List ℕ). IsFramed want want.min id body a) same d.framed in
    first.whole ∙ sym e.framed.whole

-- ---- what reading answers

pub moved : (want other : Wanted) (a b : List ℕ) (found : Result Framed FrameFault) → want ≡ other → a ≡ b → IsChecked want a found → IsChecked other b found
moved want other a b found e f k = subst (λ (w : Wanted). IsChecked w b found) e (subst (λ (x : List ℕ). IsChecked want x found) f k)

-- the error tells each fault by an answer of its own
abbrev pub Tells : {E : Type 0} → (FileFault → E) → Type 0
Tells {E} told = (a b : FileFault) → told a ≡ told b → a ≡ b

pub same_fault : (a b : FrameFault) → ◌≡◌ {A = FileFault} (Frame a) (Frame b) → a ≡ b
same_fault a b e = cc

pub kinds : (a : FrameFault) → ◌≡◌ {A = FileFault} (Frame a) Body → ⊥
kinds a e = cc

pub not_ok : (found : Result Framed FrameFault) (fault : FrameFault) (P : Framed → Type 0) → found ≡ Err fault → IsOkAnd found P → ⊥
not_ok found fault P e h = subst (λ (r : Result Framed FrameFault). IsOkAnd r P) e h

pub err_of : {X E : Type 0} (result : Result X E) (e : E) → IsErrAnd result (λ x. x ≡ e) → result ≡ Err e
err_of (Ok x) e h = absurd h
err_of (Err x) e h = ap Err h

-- an error leaves nothing to be said of a value
if_err : {X E : Type 0} (P : X → Type 0) (result : Result X E) (e : E) → result ≡ Err e → IfOk result P
if_err {X} {E} P result e f = subst (λ (r : Result X E). IfOk r P) (sym f) tt

no_fault : (want : Wanted) (bytes : List ℕ) (found : Result Framed FrameFault) (frame : Framed) → IsChecked want bytes found → found ≡ Ok frame → (fault : FrameFault) → IsFirstFault want bytes fault → ⊥
no_fault want bytes found frame k e fault p = ok_never_err frame fault (sym e ∙ (k.fault fault).1 p)

module _ {X E : Type 0} (Spells : List ℕ → X → Type 0) (want : Wanted) (ids : X → List ℕ) (told : FileFault → E) where
  pub frame_refused : (bytes : List ℕ) (found : Result Framed FrameFault) (fault : FrameFault) (result : Result X E)
      → Tells told → IsChecked want bytes found → found ≡ Err fault → result ≡ Err (told (Frame fault)) → IsFileAnswer Spells want ids told bytes result
  frame_refused bytes found fault result tells k e f =
      let no_frame : IsFramedAs want bytes → ⊥ = λ x. ok_never_err x.0 fault (sym ((k.frame x.0).1 x.1) ∙ e) in
      record {
        value = if_err (λ x. IsFile Spells want (ids x) x bytes) result (told (Frame fault)) f;
        frame = λ other. (
          λ g. subst (IsFirstFault want bytes) (same_fault fault other (tells (Frame fault) (Frame other) (same_err _ _ (sym f ∙ g)))) ((k.fault fault).0 e),
          λ p. f ∙ ap (λ (x : FrameFault). Err (told (Frame x))) (same_err fault other (sym e ∙ (k.fault other).1 p)),
        );
        body = (λ g. absurd (kinds fault (tells (Frame fault) Body (same_err _ _ (sym f ∙ g)))), λ x. absurd (no_frame x.0));
      }

  pub body_refused : (bytes : List ℕ) (found : Result Framed FrameFault) (frame : Framed) (result : Result X E)
      → OneVersion want → Tells told → IsChecked want bytes found → found ≡ Ok frame → ((x : X) → StandsIn Spells ids bytes frame x → ⊥) → result ≡ Err (told Body) → IsFileAnswer Spells want ids told bytes result
  body_refused bytes found frame result one tells k e none f =
      let here = (k.frame frame).0 e in
      let never_file : (x : X) → IsFile Spells want (ids x) x bytes → ⊥ = λ x d. none x (file_stands Spells want ids bytes frame x one here d) in
      record {
        value = if_err (λ x. IsFile Spells want (ids x) x bytes) result (told Body) f;
        frame = λ fault. (λ g. absurd (kinds fault (tells (Frame fault) Body (same_err _ _ (sym g ∙ f)))), λ p. absurd (no_fault want bytes found frame k e fault p));
        body = (λ _. ((frame, here), never_file), λ _. f);
      }

  -- the value was there, and the reader was out of memory
  pub cut_short : (bytes : List ℕ) (found : Result Framed FrameFault) (frame : Framed) (x : X) (wanting : E) (result : Result X E)
      → OneVersion want → ((fault : FileFault) → told fault ≡ wanting → ⊥) → IsChecked want bytes found → found ≡ Ok frame → StandsIn Spells ids bytes frame x → result ≡ Err wanting → IsFileAnswer Spells want ids told bytes result
  cut_short bytes found frame x wanting result one apart k e s f =
      let here = (k.frame frame).0 e in
      let file = is_file Spells want ids bytes frame x one here s in
      record {
        value = if_err (λ y. IsFile Spells want (ids y) y bytes) result wanting f;
        frame = λ fault. (λ g. absurd (apart (Frame fault) (same_err _ _ (sym g ∙ f))), λ p. absurd (no_fault want bytes found frame k e fault p));
        body = (λ g. absurd (apart Body (same_err _ _ (sym g ∙ f))), λ y. absurd (y.1 x file));
      }

  pub file_read : (bytes : List ℕ) (found : Result Framed FrameFault) (frame : Framed) (x : X) (result : Result X E)
      → OneVersion want → IsChecked want bytes found → found ≡ Ok frame → StandsIn Spells ids bytes frame x → result ≡ Ok x → IsFileAnswer Spells want ids told bytes result
  file_read bytes found frame x result one k e s f =
      let here = (k.frame frame).0 e in
      let file = is_file Spells want ids bytes frame x one here s in
      record {
        value = subst (λ (r : Result X E). IfOk r (λ y. IsFile Spells want (ids y) y bytes)) (sym f) file;
        frame = λ fault. (λ g. absurd (ok_never_err x (told (Frame fault)) (sym f ∙ g)), λ p. absurd (no_fault want bytes found frame k e fault p));
        body = (λ g. absurd (ok_never_err x (told Body) (sym f ∙ g)), λ y. absurd (y.1 x file));
      }

-- the frame's body lies in the bytes
pub record Lies (bytes : List ℕ) (frame : Framed) : Type 0 where
  pub ordered : frame.start ≤ frame.end
  pub within : frame.end ≤ length bytes

pub frame_lies : {want : Wanted} {bytes : List ℕ} {found : Result Framed FrameFault} (k : IsChecked want bytes found) (frame : Framed) → found ≡ Ok frame → Lies bytes frame
frame_lies {want} {bytes} k frame e =
    let f = (k.frame frame).0 e in
    let long = framed-length want frame.version frame.id (body_of bytes frame) bytes f.framed in
    record { ordered = omega (arith, long, f.start, f.end); within = omega (arith, f.end) }

-- where the id is wanted, a value that the body spells stands in the frame
pub stands : {X : Type 0} (Spells : List ℕ → X → Type 0) (want : Wanted) (id bytes : List ℕ) (found : Result Framed FrameFault) (frame : Framed) (x : X)
    → want.id ≡ Some id → IsChecked want bytes found → found ≡ Ok frame → Spells (body_of bytes frame) x → StandsIn Spells (λ _. id) bytes frame x
stands Spells want id bytes found frame x e k was s =
    let f = (k.frame frame).0 was in
    record { id = subst (λ (o : Option (List ℕ)). IfSome o (λ the_id. frame.id ≡ the_id)) e f.framed.id_wanted; spelled = s }

-- ---- files whose id is given

-- files of one version and of this id, each of one value, and each value with one file
pub record IsFileKind {X : Type 0} (Spells : List ℕ → X → Type 0) (want : Wanted) (id : List ℕ) : Type 0 where
  pub version : OneVersion want
  pub one_to_one : IsOneToOne Spells
  pub id_wanted : want.id ≡ Some id

module _ {X : Type 0} {Spells : List ℕ → X → Type 0} {want : Wanted} {id : List ℕ} (kind : IsFileKind Spells want id) where
  -- a file is that of one value
  pub one_value_of : (bytes : List ℕ) (x y : X) → IsFile Spells want id x bytes → IsFile Spells want id y bytes → x ≡ y
  one_value_of bytes x y d e = one_file_value Spells want id id bytes x y kind.version kind.one_to_one d e

  -- a value has one file
  pub one_file_of : (a b : List ℕ) (x : X) → IsFile Spells want id x a → IsFile Spells want id x b → a ≡ b
  one_file_of a b x d e = one_file_bytes Spells want id a b x kind.one_to_one d e

  -- of files as of bodies: bytes are the file of one value, and a value has one file
  pub files_one_to_one : IsOneToOne (λ bytes x. IsFile Spells want id x bytes)
  files_one_to_one = record { one_value = one_value_of; one_spelling = one_file_of }

  -- a value that the body spells stands in the frame
  pub stands_in : {bytes : List ℕ} {found : Result Framed FrameFault} (k : IsChecked want bytes found) (frame : Framed) (x : X) → found ≡ Ok frame → Spells (body_of bytes frame) x → StandsIn Spells (λ _. id) bytes frame x
  stands_in {bytes} {found} k frame x was s = stands Spells want id bytes found frame x kind.id_wanted k was s

  -- a reader that takes no memory answers the value exactly where the bytes are its file
  exactly : (bytes : List ℕ) (found : Result Framed FrameFault) (result : Result X FileFault) → IsChecked want bytes found → IsFileAnswer Spells want (λ _. id) (λ fault. fault) bytes result → IsFileRead Spells want id bytes result
  exactly bytes found (Ok y) k a =
      record { value = λ x. (λ e. subst (λ (z : X). IsFile Spells want id z bytes) (same_ok y x e) a.value, λ d. ap Ok (one_value_of bytes y x a.value d)); frame = a.frame; body = a.body }
  exactly bytes found (Err (Frame fault)) k a = record {
    value = λ x. (λ e. absurd (ok_never_err x (Frame fault) (sym e)), λ d. absurd (not_ok found fault _ ((k.fault fault).1 ((a.frame fault).0 refl)) (k.written want.min id d.body d.framed)));
    frame = a.frame;
    body = a.body;
  }
  exactly bytes found (Err Body) k a = record { value = λ x. (λ e. absurd (ok_never_err x Body (sym e)), λ d. absurd ((a.body.0 refl).1 x d)); frame = a.frame; body = a.body }

  pub frame_told : {bytes : List ℕ} {found : Result Framed FrameFault} (k : IsChecked want bytes found) (fault : FrameFault) (result : Result X FileFault) → found ≡ Err fault
      → result ≡ Err (Frame fault) → IsFileRead Spells want id bytes result
  frame_told {bytes} {found} k fault result e f = exactly bytes found result k (frame_refused Spells want (λ _. id) (λ fault. fault) bytes found fault result (λ a b same. same) k e f)

  pub body_told : {bytes : List ℕ} {found : Result Framed FrameFault} (k : IsChecked want bytes found) (frame : Framed) (result : Result X FileFault) → found ≡ Ok frame
      → ((x : X) → Spells (body_of bytes frame) x → ⊥) → result ≡ Err Body → IsFileRead Spells want id bytes result
  body_told {bytes} {found} k frame result e none f =
      exactly bytes found result k (body_refused Spells want (λ _. id) (λ fault. fault) bytes found frame result kind.version (λ a b same. same) k e (λ x s. none x s.spelled) f)

  pub value_told : {bytes : List ℕ} {found : Result Framed FrameFault} (k : IsChecked want bytes found) (frame : Framed) (x : X) (result : Result X FileFault) → found ≡ Ok frame
      → Spells (body_of bytes frame) x → result ≡ Ok x → IsFileRead Spells want id bytes result
  value_told {bytes} {found} k frame x result e s f =
      exactly bytes found result k (file_read Spells want (λ _. id) (λ fault. fault) bytes found frame x result kind.version k e (stands_in k frame x e s) f)

-- what holds of the body in some bytes holds of it in equal ones
pub same_body : (P : List ℕ → Type 0) (a bytes : List ℕ) (frame : Framed) → a ≡ bytes → P (body_of a frame) → P (body_of bytes frame)
same_body P a bytes frame e x = subst (λ (b : List ℕ). P (body_of b frame)) e x

-- ---- what writing makes

pub framed_file : (want : Wanted) (id start head body out footed file : List ℕ) → OneVersion want → length id ≡ 16 → IfSome want.id (λ the_id. id ≡ the_id) → start ≡ []
    → head ≡ start ++ index_header want.name want.min id want.suffix → out ≡ head ++ body → footed ≡ with_footer out → file ≡ footed → IsFramed want want.min id body file
framed_file want id start head body out footed file one len is_wanted z e f g h = record {
  whole = h ∙ g ∙ ap with_footer (f ∙ ap (λ (x : List ℕ). x ++ body) (e ∙ ap (λ (x : List ℕ). x ++ index_header want.name want.min id want.suffix) z));
  not_older = omega arith;
  not_newer = omega (arith, one.same);
  id_length = len;
  id_wanted = is_wanted;
}

-- what is known of the body that was written is known of each body of the file
pub of_each_body : (want : Wanted) (id file first : List ℕ) (P : List ℕ → Type 0) → OneVersion want → IsFramed want want.min id first file → P first → (body : List ℕ) → IsFramed want want.min id body file → P body
of_each_body want id file first P one d h body f =
    let q = one_reading_lem want one.small file want.min want.min id id first body d f in
    subst P q.2 h
