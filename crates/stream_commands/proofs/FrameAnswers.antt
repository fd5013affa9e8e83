-- The answer to a stream is the answer to its bytes.
use Rattle.std.proofs.Common.{◌≡◌, ℕ, ◌+◌, ◌<◌, List, [], ◌++◌, length, sym, ap, ◌∙◌, arith, Option, inl, inr}
use Rattle.std.specs.Prelude.{◌⊎◌}
use Rattle.std.proofs.lemmas.List.{length-append}
use Rattle.wire_frames.specs.declared.message.Message.{Message}
use Rattle.wire_frames.specs.declared.message.WireFault.{WireFault}
use Rattle.wire_frames.specs.Streams.{AreMessagesOf}
use Rattle.wire_frames.proofs.StreamLaws.{one_reading, one_fault, never_faulty, are_messages, nothing_unfinished}
use Rattle.wire_frames.specs.Runs.{Gave, IsTextOf, AreUnfinished, GaveMore, GaveBadStream, wire_number}
use Rattle.stream_commands.specs.Reads.{TakesWithin, TakesMore}
use Rattle.stream_commands.specs.declared.status.Status.{Status}
use Rattle.stream_commands.specs.declared.status.Status.TheVariants.{Done, WriteFault, BadStream}
use Rattle.stream_commands.specs.Frames.{IsFramesAnswer}

module _ (before after : Option (List ℕ)) where
  -- the bytes are messages, which were written
  pub text_answer : (text : List ℕ) (answer : Status) → IsTextOf before after text → (answer ≡ Done) ⊎ (answer ≡ WriteFault) → IsFramesAnswer before after answer
  text_answer text answer t ran =
      let m = t.gave in
      record {
        bytes = m.bytes;
        gave = m.gave;
        faulty = λ fault f. absurd (never_faulty m.bytes t.messages [] fault m.are.front nothing_unfinished f);
        stopped = λ e messages rest u some. absurd (none_left m.bytes t.messages messages rest m.are u some);
        right = λ e messages a. ran;
      }
    where
      none_left : (bytes : List ℕ) (ms ns : List Message) (rest : List ℕ) → AreMessagesOf bytes ms [] → AreUnfinished bytes ns rest → 0 < length rest → ⊥
      none_left bytes ms ns rest a u some =
          let same : [] ≡ rest = (one_reading bytes ms ns [] rest a (are_messages bytes ns rest u.front u.unfinished)).1 in
          let none : length rest ≡ 0 = ap length (sym same) in
          omega (arith, none, some)

  bad_number : (k : ℕ) (fault : WireFault) → k ≡ wire_number fault → BadStream k ≡ BadStream (wire_number fault)
  bad_number k fault e = ap BadStream e

  -- the bytes are a bad stream
  pub bad_answer : (k : ℕ) → GaveBadStream before after k → IsFramesAnswer before after (BadStream k)
  bad_answer k (inl b) =
      let fault = b.0 in
      let g = b.1 in
      record {
        bytes = g.bytes;
        gave = g.gave;
        faulty = λ other f. ap BadStream (b.2 ∙ ap wire_number (one_fault g.bytes fault other g.faulty f));
        stopped = λ e messages rest u some. absurd (never_faulty g.bytes messages rest fault u.front u.unfinished g.faulty);
        right = λ e messages a. absurd (never_faulty g.bytes messages [] fault a.front nothing_unfinished g.faulty);
      }
  bad_answer k (inr b) =
      let g = b.1 in
      record {
        bytes = g.bytes;
        gave = g.gave;
        faulty = λ other f. absurd (never_faulty g.bytes g.messages g.rest other g.are.front g.are.unfinished f);
        stopped = λ e messages rest u some. ap BadStream b.0;
        right = λ e messages a. absurd (some_left messages a);
      }
    where
      some_left : (messages : List Message) → AreMessagesOf b.1.bytes messages [] → ⊥
      some_left messages a =
          let g = b.1 in
          let same : g.rest ≡ [] = (one_reading g.bytes g.messages messages g.rest [] (are_messages g.bytes g.messages g.rest g.are.front g.are.unfinished) a).1 in
          let none : length g.rest ≡ 0 = ap length same in
          let some = g.some in
          omega (arith, none, some)

  -- how many bytes were taken
  pub text_within : (text : List ℕ) → IsTextOf before after text → TakesWithin before after
  text_within text t = let m = t.gave in record { bytes = m.bytes; taken = m.gave.taken; within = m.gave.within }

  pub bad_within : (k : ℕ) → GaveBadStream before after k → TakesWithin before after
  bad_within k (inl b) = let g = b.1 in record { bytes = g.bytes; taken = g.gave.taken; within = g.gave.within }
  bad_within k (inr b) = let g = b.1 in record { bytes = g.bytes; taken = g.gave.taken; within = g.gave.within }

  pub some_within : (bytes : List ℕ) → Gave before after bytes → TakesWithin before after
  some_within bytes g = record { bytes = bytes; taken = g.taken; within = g.within }

  pub more_taken : GaveMore before after → TakesMore before after
  more_taken g = record {
    bytes = g.bytes ++ g.more;
    taken = g.taken;
    beyond = (let len = length-append g.bytes g.more in let full = g.full in let one = g.one in omega (arith, len, full, one));
  }
