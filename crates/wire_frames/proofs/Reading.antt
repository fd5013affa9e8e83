-- What was read of a source, piece by piece, and how the reading ends.
use Rattle.std.proofs.Common.{◌≡◌, ℕ, zero, suc, ◌+◌, ◌<◌, ◌≤◌, List, [], ◌∷◌, ◌++◌, length, take, refl, sym, ap, subst, ◌∙◌, append_assoc, arith, Option, Some, None, inl, inr}
use Rattle.std.specs.List.{flat_map}
use Rattle.std.specs.Io.KnownBytes.{Consumes, Keeps, IsAtEnd}
use Rattle.std.proofs.KnownBytes.{Consumes-trans, Consumes-kept}
use Rattle.std.proofs.lemmas.List.{append-nil, length-append, length-take-le}
use Rattle.wire_frames.specs.declared.message.Message.{Message}
use Rattle.wire_frames.specs.declared.message.WireFault.{WireFault}
use Rattle.wire_frames.specs.declared.message.WireFault.TheVariants.{Length, Kind, Body, Memory}
use Rattle.wire_frames.specs.Streams.{BeginsWith, AreMessagesOf, IsUnfinished, IsCauseOf, IsStreamFault}
use Rattle.wire_frames.proofs.StreamLaws.{begins_none, begins_then, cause_then, are_messages}
use Rattle.wire_frames.specs.declared.running.FramesEnd.TheVariants.{Fault}
use Rattle.wire_frames.specs.Lines.{message_line}
use Rattle.wire_frames.specs.Runs.{Gave, GaveMessages, IsTextOf, GaveFault, AreUnfinished, GaveFront, GaveMore, GaveBadStream, SaysFrames, end_of, HasRead, Taken, longest_stream}

lines_joined : (ms ns : List Message) → flat_map message_line (ms ++ ns) ≡ flat_map message_line ms ++ flat_map message_line ns
lines_joined [] ns = refl
lines_joined (m ∷ ms) ns = ap (λ (x : List ℕ). message_line m ++ x) (lines_joined ms ns) ∙ sym (append_assoc (message_line m) (flat_map message_line ms) (flat_map message_line ns))

pub nothing_read : HasRead [] [] []
nothing_read = record { messages = []; front = begins_none []; lines = refl }

-- a piece more was read
pub read_more : (bytes piece held rest text more : List ℕ) (ms : List Message) → HasRead bytes held text → AreMessagesOf (held ++ piece) ms rest → more ≡ text ++ flat_map message_line ms → HasRead (bytes ++ piece) rest more
read_more bytes piece held rest text more ms h a e = record {
  messages = h.messages ++ ms;
  front = begins_then bytes piece h.messages ms held rest h.front a.front;
  lines = e ∙ ap (λ (x : List ℕ). x ++ flat_map message_line ms) h.lines ∙ sym (lines_joined h.messages ms);
}

pub read_cause : (bytes piece held text : List ℕ) (fault : WireFault) → HasRead bytes held text → IsCauseOf (held ++ piece) fault → IsCauseOf (bytes ++ piece) fault
read_cause bytes piece held text fault h c = cause_then bytes piece h.messages held fault h.front c

-- ---- how the reading ends

pub taken_none : (before : Option (List ℕ)) (n : ℕ) → n ≡ 0 → Taken before before n [] []
taken_none None n e = record { bytes = []; taken = tt; size = sym e; read = nothing_read }
taken_none (Some xs) n e = record { bytes = []; taken = refl; size = sym e; read = nothing_read }

pub taken_more : (a b c : Option (List ℕ)) (count n : ℕ) (space piece held rest text more : List ℕ) → Taken a b count held text → Consumes b c (take n space) → n ≤ length space
    → ((bytes : List ℕ) → HasRead bytes held text → HasRead (bytes ++ piece) rest more) → piece ≡ take n space → Taken a c (count + n) rest more
taken_more a b c count n space piece held rest text more t p le f e = record {
  bytes = t.bytes ++ take n space;
  taken = Consumes-trans a b c t.bytes (take n space) t.taken p;
  size = (let s = t.size in let l = length-append t.bytes (take n space) in let k = length-take-le n space le in omega (arith, s, l, k));
  read = subst (λ (x : List ℕ). HasRead (t.bytes ++ x) rest more) e (f t.bytes t.read);
}

-- nothing more was taken
pub taken_same : (a b c : Option (List ℕ)) (count n : ℕ) (space held text : List ℕ) → Taken a b count held text → Consumes b c (take n space) → n ≡ 0 → Taken a c count held text
taken_same a b c count n space held text t p zero_is =
    let now : Consumes a c (t.bytes ++ take n space) = Consumes-trans a b c t.bytes (take n space) t.taken p in
    let same : t.bytes ++ take n space ≡ t.bytes = ap (λ (k : ℕ). t.bytes ++ take k space) zero_is ∙ append-nil t.bytes in
    record { bytes = t.bytes; taken = subst (Consumes a c) same now; size = t.size; read = t.read }

-- the source is at its end, and nothing is held
pub ends_right : (a c : Option (List ℕ)) (count : ℕ) (held text given : List ℕ) → Taken a c count held text → count ≤ longest_stream → IsAtEnd c → given ≡ text → held ≡ [] → IsUnfinished held → IsTextOf a c given
ends_right a c count held text given t le at_end e none u = record {
  messages = t.read.messages;
  gave = record {
    bytes = t.bytes;
    gave = record { taken = t.taken; within = (let s = t.size in omega (arith, s)) };
    ended = at_end;
    are = subst (AreMessagesOf t.bytes t.read.messages) none (are_messages t.bytes t.read.messages held t.read.front u);
  };
  lines = e ∙ t.read.lines;
}

-- the source is at its end, and the front of a frame is held
pub ends_within : (a c : Option (List ℕ)) (count : ℕ) (held text : List ℕ) → Taken a c count held text → count ≤ longest_stream → IsAtEnd c → 0 < length held → IsUnfinished held → GaveBadStream a c 4
ends_within a c count held text t le at_end some u =
    inr (
      refl,
      record {
        bytes = t.bytes;
        gave = record { taken = t.taken; within = (let s = t.size in omega (arith, s)) };
        ended = at_end;
        messages = t.read.messages;
        rest = held;
        are = record { front = t.read.front; unfinished = u };
        some = some;
      },
    )

-- one byte more came than is read
pub ends_large : (a b c : Option (List ℕ)) (count n : ℕ) (space held text : List ℕ) → Taken a b count held text → count ≡ longest_stream → Consumes b c (take n space) → 0 < n → n ≤ 1 → n ≤ length space
    → IsUnfinished held → GaveMore a c
ends_large a b c count n space held text t full p some one le u = record {
  bytes = t.bytes;
  more = take n space;
  taken = Consumes-trans a b c t.bytes (take n space) t.taken p;
  full = t.size ∙ full;
  one = (let k = length-take-le n space le in omega (arith, k, some, one));
  messages = t.read.messages;
  rest = held;
  are = record { front = t.read.front; unfinished = u };
}

-- a faulty frame came
module _ (a c : Option (List ℕ)) (bytes : List ℕ) (gave : Gave a c bytes) where
  pub fault_said : (fault : WireFault) → IsCauseOf bytes fault → SaysFrames a c (end_of fault)
  fault_said Memory h = tt
  fault_said (Length m) h = inl (Length m, record { bytes = bytes; gave = gave; faulty = h }, refl)
  fault_said (Kind k) h = inl (Kind k, record { bytes = bytes; gave = gave; faulty = h }, refl)
  fault_said Body h = inl (Body, record { bytes = bytes; gave = gave; faulty = h }, refl)

pub ends_faulty : (a b c : Option (List ℕ)) (count n : ℕ) (space piece held text : List ℕ) (fault : WireFault) → Taken a b count held text → count + n ≤ longest_stream → Consumes b c (take n space) → n ≤ length space
    → ((bytes : List ℕ) → HasRead bytes held text → IsCauseOf (bytes ++ piece) fault) → piece ≡ take n space → SaysFrames a c (end_of fault)
ends_faulty a b c count n space piece held text fault t within p le f e =
    let size = t.size in
    let joined = length-append t.bytes (take n space) in
    let len = length-take-le n space le in
    let gave : Gave a c (t.bytes ++ take n space) = record {
      taken = Consumes-trans a b c t.bytes (take n space) t.taken p;
      within = omega (arith, size, joined, len, within);
    } in
    fault_said a c (t.bytes ++ take n space) gave fault (subst (λ (x : List ℕ). IsCauseOf (t.bytes ++ x) fault) e (f t.bytes t.read))

-- the source failed
pub ends_failed : (a b c : Option (List ℕ)) (count : ℕ) (held text : List ℕ) → Taken a b count held text → count ≤ longest_stream → Keeps b c → SaysFrames a c Fault
ends_failed a b c count held text t le k =
    (t.bytes, record { taken = Consumes-kept a b c t.bytes t.taken k; within = (let s = t.size in omega (arith, s)) })
