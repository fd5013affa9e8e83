-- Where no read and no write failed, an answer is that all was done, or that memory ran out.
use Rattle.std.proofs.Common.{◌≡◌, ◌≢◌, ℕ, ◌+◌, ◌-◌, ◌^◌, ◌≤◌, ◌<◌, List, [], ◌++◌, length, min, Option, Some, None, IfSome, refl, sym, ap, subst, ◌∙◌, arith, inl, inr}
use Rattle.std.specs.Prelude.{◌⊎◌}
use Rattle.std.specs.Io.KnownBytes.{Consumes, IsAtEnd}
use Rattle.std.proofs.KnownBytes.{Consumes-whole}
use Rattle.std.proofs.lemmas.List.{length-append}
use Rattle.nrt_base.specs.Causes.{Rose}
use Rattle.wire_frames.specs.declared.message.WireFault.{WireFault}
use Rattle.wire_frames.specs.Streams.{AreMessagesOf, IsStreamFault}
use Rattle.wire_frames.specs.declared.running.FramesEnd.{FramesEnd}
use Rattle.wire_frames.specs.declared.running.FramesEnd.TheVariants.{BadStream as EndsBad}
use Rattle.wire_frames.specs.Runs.{GaveMore, GaveBadStream, SaysFrames}
use Rattle.wire_frames.proofs.StreamLaws.{are_messages, fault_stays, never_faulty, nothing_unfinished, one_reading}
use Rattle.index_check.specs.Images.{NamedFile, IsImageOf, IsNoImage}
use Rattle.stream_commands.specs.declared.status.Status.{Status}
use Rattle.stream_commands.specs.declared.status.Status.TheVariants.{Done, ReadFault, WriteFault, Memory, TooLarge, BadIndex, BadImage, BadStream}
use Rattle.script_text.specs.Grammar.{SpellsScript}
use Rattle.stream_commands.specs.Reads.{TakesMore}
use Rattle.stream_commands.specs.Scripts.{AnswersWhole}
use Rattle.stream_commands.specs.Complete.{NoneFailed, Offers, OffersScript, OffersMessages, OffersImage, IsDoneOrMemory, IsCheckedOrMemory}
use Rattle.stream_commands.specs.Pictures.{has_report, AnswersShown, OffersShown}
use Rattle.stream_commands.proofs.FrameAnswers.{more_taken}

-- the answer is want of memory, or not
is_memory : (answer : Status) → (answer ≡ Memory) ⊎ (answer ≢ Memory)
is_memory Memory = inl refl
is_memory answer = inr (λ e. cc)

-- a count that rose is not as before
rose_on : (before now : ℕ) → before < 2 ^ 64 - 1 → Rose before now → now ≡ before → ⊥
rose_on before now low rose same =
    let least : min (before + 1) (2 ^ 64 - 1) ≤ now = rose in
    omega (arith, low, least, same)

module _ (left after : Option (List ℕ)) (bytes : List ℕ) (offers : Offers left bytes) where
  -- a source that was read to its end gave what it had left
  gave_all : (taken : List ℕ) → Consumes left after taken → IsAtEnd after → taken ≡ bytes
  gave_all taken consumed ended =
      subst (λ (a : Option (List ℕ)). IfSome a (λ xs. taken ≡ xs)) offers.is (Consumes-whole left after taken (λ xs. taken ≡ xs) consumed ended refl)

  -- what was taken is the front of what it had left
  front_of : (taken : List ℕ) → Consumes left after taken → (rest : List ℕ) × (bytes ≡ taken ++ rest)
  front_of taken consumed = by after (subst (λ (a : Option (List ℕ)). Consumes a after taken) offers.is consumed)
    where
      by : (b : Option (List ℕ)) → Consumes (Some bytes) b taken → (rest : List ℕ) × (bytes ≡ taken ++ rest)
      by None e = absurd e
      by (Some rest) e = (rest, e)

  -- it does not give more than are read
  not_more : TakesMore left after → ⊥
  not_more more =
      let front = front_of more.bytes more.taken in
      let size : length bytes ≡ length more.bytes + length front.0 = ap length front.1 ∙ length-append more.bytes front.0 in
      let within = offers.within in
      let beyond = more.beyond in
      omega (arith, size, within, beyond)

module _ (left after : Option (List ℕ)) (r s w x : ℕ) (answer : Status) (read : answer ≡ ReadFault → r < s) (write : answer ≡ WriteFault → w < x)
    (large : answer ≡ TooLarge → TakesMore left after) (calm : NoneFailed r s w x) where
  no_read : answer ≢ ReadFault
  no_read is =
      let rose = read is in
      let same = calm.read in
      omega (arith, rose, same)

  no_write : answer ≢ WriteFault
  no_write is =
      let rose = write is in
      let same = calm.written in
      omega (arith, rose, same)

  no_large : (bytes : List ℕ) → Offers left bytes → answer ≢ TooLarge
  no_large bytes offers is = not_more left after bytes offers (large is)

  -- a script that was offered was run
  pub script_done : (answer ≢ ReadFault → answer ≢ TooLarge → answer ≢ Memory → AnswersWhole left after answer) → OffersScript left → IsDoneOrMemory answer
  script_done answers o = elim (is_memory answer) [
    | inl memory ↦ inr memory
    | inr other ↦ by (answers no_read (no_large o.bytes o.offered) other)
  ]
    where
      by : AnswersWhole left after answer → IsDoneOrMemory answer
      by whole =
          let same : whole.bytes ≡ o.bytes = gave_all left after o.bytes o.offered whole.bytes whole.read.taken whole.read.ended in
          elim (whole.given.runs o.script (subst (λ (b : List ℕ). SpellsScript b o.script) (sym same) o.grammar)) [
            | inl done ↦ inl done
            | inr failed ↦ absurd (no_write failed)
          ]

  -- a script that was offered alone was shown
  pub shown_done : (answer ≢ ReadFault → answer ≢ TooLarge → answer ≢ Memory → AnswersShown left after answer) → OffersShown left → IsDoneOrMemory answer
  shown_done answers o = script_done
      (λ read large memory.
      let whole = answers read large memory in
      let same : whole.bytes ≡ o.bytes = gave_all left after o.bytes o.offered whole.bytes whole.read.taken whole.read.ended in
      record { bytes = whole.bytes; read = whole.read; given = whole.given.script (ap has_report same ∙ o.none) })
      (record { bytes = o.bytes; offered = o.offered; script = o.script; grammar = o.grammar })

-- ---- a load

pub load_done : (w x : ℕ) (answer : Status) → w < 2 ^ 64 - 1 → (answer ≢ Memory → (answer ≡ Done) ⊎ (answer ≡ WriteFault)) → (answer ≡ WriteFault → Rose w x) → x ≡ w → IsDoneOrMemory answer
load_done w x answer low answers write same = elim (is_memory answer) [
  | inl memory ↦ inr memory
  | inr other ↦ elim (answers other) [
    | inl done ↦ inl done
    | inr failed ↦ absurd (rose_on w x low (write failed) same)
  ]
]

-- ---- what is answered at once

pub all_done : IsDoneOrMemory Done
all_done = inl refl

pub out_of_memory : IsDoneOrMemory Memory
out_of_memory = inr refl

pub checked_right : IsCheckedOrMemory Done
checked_right = inr all_done

pub checked_wrong : IsCheckedOrMemory BadIndex
checked_wrong = inl refl

pub unchecked : IsCheckedOrMemory Memory
unchecked = inr out_of_memory

-- ---- a source or a sink that failed

module _ (r s w x : ℕ) (calm : NoneFailed r s w x) where
  pub not_unread : r < 2 ^ 64 - 1 → Rose r s → IsDoneOrMemory ReadFault
  not_unread low rose = absurd (rose_on r s low rose calm.read)

  pub not_unwritten : w < 2 ^ 64 - 1 → Rose w x → IsDoneOrMemory WriteFault
  not_unwritten low rose = absurd (rose_on w x low rose calm.written)

  pub check_not_unread : r < 2 ^ 64 - 1 → Rose r s → IsCheckedOrMemory ReadFault
  check_not_unread low rose = inr (not_unread low rose)

pub check_not_unwritten : (w x : ℕ) → x ≡ w → w < 2 ^ 64 - 1 → Rose w x → IsCheckedOrMemory WriteFault
check_not_unwritten w x same low rose = absurd (rose_on w x low rose same)

-- ---- a stream of messages

module _ (left after : Option (List ℕ)) (o : OffersMessages left) where
  pub stream_not_more : GaveMore left after → IsDoneOrMemory TooLarge
  stream_not_more more = absurd (not_more left after o.bytes o.offered (more_taken left after more))

  -- it is not bad
  stream_not_bad : (k : ℕ) → GaveBadStream left after k → IsDoneOrMemory (BadStream k)
  stream_not_bad k (inl bad) =
      let fault : WireFault = bad.0 in
      let gave = bad.1 in
      let front = front_of left after o.bytes o.offered gave.bytes gave.gave.taken in
      let faulty : IsStreamFault o.bytes fault = subst (λ (b : List ℕ). IsStreamFault b fault) (sym front.1) (fault_stays gave.bytes front.0 fault gave.faulty) in
      absurd (never_faulty o.bytes o.messages [] fault o.are.front nothing_unfinished faulty)
  stream_not_bad k (inr bad) =
      let gave = bad.1 in
      let same : gave.bytes ≡ o.bytes = gave_all left after o.bytes o.offered gave.bytes gave.gave.taken gave.ended in
      let are : AreMessagesOf gave.bytes o.messages [] = subst (λ (b : List ℕ). AreMessagesOf b o.messages []) (sym same) o.are in
      let none : gave.rest ≡ [] = (one_reading gave.bytes gave.messages o.messages gave.rest [] (are_messages gave.bytes gave.messages gave.rest gave.are.front gave.are.unfinished) are).1 in
      let size : length gave.rest ≡ 0 = ap length none in
      let some = gave.some in
      absurd (omega (arith, size, some))

  pub stream_ends_well : (end : FramesEnd) (k : ℕ) → SaysFrames left after end → end ≡ EndsBad k → IsDoneOrMemory (BadStream k)
  stream_ends_well end k said is = stream_not_bad k (subst (SaysFrames left after) is said)

-- ---- an image

pub is_an_image : (bytes : List ℕ) (files : List NamedFile) → IsImageOf bytes files → IsNoImage bytes → IsCheckedOrMemory BadImage
is_an_image bytes files image none = absurd (none files image)

module _ (left after : Option (List ℕ)) (o : OffersImage left) where
  pub image_not_more : TakesMore left after → IsCheckedOrMemory TooLarge
  image_not_more more = absurd (not_more left after o.bytes o.offered more)

  -- the image that was offered was checked
  pub image_checked : (bytes : List ℕ) (r s w x : ℕ) (answer : Status) → NoneFailed r s w x → Consumes left after bytes → IsAtEnd after
      → ((files : List NamedFile) → IsImageOf bytes files → x ≡ w → IsCheckedOrMemory answer) → IsCheckedOrMemory answer
  image_checked bytes r s w x answer calm taken ended complete =
      complete o.files (subst (λ (b : List ℕ). IsImageOf b o.files) (sym (gave_all left after o.bytes o.offered bytes taken ended)) o.image) calm.written
