-- A file of live rows, as one of the framed files.
use Rattle.std.proofs.Common.{◌≡◌, ℕ, Bool, List, Result, Ok, Err, refl, arith}
use Rattle.std.specs.Prelude.{IsErrAnd}
use Rattle.codec_frame.specs.Checking.{IsChecked}
use Rattle.codec_frame.specs.declared.frame.Framed.{Framed}
use Rattle.codec_frame.specs.declared.frame.FrameFault.{FrameFault}
use Rattle.codec_frame.specs.declared.frame.FileFault.{FileFault}
use Rattle.codec_frame.specs.declared.frame.FileFault.TheVariants.{Frame, Body}
use Rattle.body_forms.specs.declared.read_fault.ReadFault.{ReadFault}
use Rattle.body_forms.specs.declared.read_fault.ReadFault.TheVariants.{File, Memory}
use Rattle.body_forms.specs.File.{IsOneToOne, IsFileAnswer}
use Rattle.body_forms.proofs.FileLaws.{IsFileKind, body_of, err_of, frame_refused, body_refused, cut_short, file_read, stands_in}
use Rattle.live_bits.specs.LiveRows.{SpellsLiveRows, live_wanted}
use Rattle.live_bits.proofs.Bodies.{one_body, one_list}

pub live_one_to_one : IsOneToOne SpellsLiveRows
live_one_to_one = record { one_value = one_list; one_spelling = one_body }

pub live_kind : (id : List ℕ) (live_gen : ℕ) → IsFileKind SpellsLiveRows (live_wanted id live_gen) id
live_kind id live_gen = record { version = record { same = refl; small = omega arith }; one_to_one = live_one_to_one; id_wanted = refl }

tells : (a b : FileFault) → ◌≡◌ {A = ReadFault} (File a) (File b) → a ≡ b
tells a b e = cc

not_memory : (a : FileFault) → ◌≡◌ {A = ReadFault} (File a) Memory → ⊥
not_memory a e = cc

-- what reading answers, of a file with this id at this live generation
module _ (id : List ℕ) (live_gen : ℕ) {bytes : List ℕ} {found : Result Framed FrameFault} (k : IsChecked (live_wanted id live_gen) bytes found) (result : Result (List Bool) ReadFault) where
  abbrev Answers : Type 0
  Answers = IsFileAnswer SpellsLiveRows (live_wanted id live_gen) (λ _. id) File bytes result

  pub refused_frame : (fault : FrameFault) → found ≡ Err fault → IsErrAnd result (λ e. e ≡ File (Frame fault)) → Answers
  refused_frame fault e f = frame_refused SpellsLiveRows (live_wanted id live_gen) (λ _. id) File bytes found fault result tells k e (err_of result (File (Frame fault)) f)

  pub refused_body : (frame : Framed) → found ≡ Ok frame → ((live : List Bool) → SpellsLiveRows (body_of bytes frame) live → ⊥) → result ≡ Err (File Body) → Answers
  refused_body frame e none f =
      body_refused SpellsLiveRows (live_wanted id live_gen) (λ _. id) File bytes found frame result (live_kind id live_gen).version tells k e (λ live s. none live s.spelled) f

  pub no_memory : (frame : Framed) (live : List Bool) → found ≡ Ok frame → SpellsLiveRows (body_of bytes frame) live → IsErrAnd result (λ e. e ≡ Memory) → Answers
  no_memory frame live e s f =
      cut_short SpellsLiveRows (live_wanted id live_gen) (λ _. id) File bytes found frame live Memory result (live_kind id live_gen).version not_memory k e
      (stands_in (live_kind id live_gen) k frame live e s) (err_of result Memory f)

  pub read_whole : (frame : Framed) (live : List Bool) → found ≡ Ok frame → SpellsLiveRows (body_of bytes frame) live → result ≡ Ok live → Answers
  read_whole frame live e s f =
      file_read SpellsLiveRows (live_wanted id live_gen) (λ _. id) File bytes found frame live result (live_kind id live_gen).version k e (stands_in (live_kind id live_gen) k frame live e s) f
