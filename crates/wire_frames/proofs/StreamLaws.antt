-- A stream has one list of messages and one first fault, and a stream that goes on begins as it did.
use Rattle.std.proofs.Common.{◌≡◌, ℕ, suc, ◌+◌, ◌<◌, ◌≤◌, ◌⊎◌, Bool, true, false, List, [], ◌∷◌, ◌++◌, length, Result, Ok, Err, refl, sym, ap, subst, ◌∙◌, append_assoc, arith, inl, inr}
use Rattle.std.specs.Prelude.{IsTrue, not, IfOk, IfErr}
use Rattle.std.specs.Int.{w32, from_be_bytes}
use Rattle.std.specs.List.{All, flat_map}
use Rattle.std.proofs.lemmas.List.{append-nil, length-append, take-append-le}
use Rattle.std.proofs.lemmas.List.Elements.{All-nil, All-cons, All-append}
use Rattle.std.proofs.lemmas.List.Concat.{flat_map-append}
use Rattle.codec_frame.specs.Bytes.{AreBytes}
use Rattle.wire_frames.specs.declared.message.Message.{Message}
use Rattle.wire_frames.specs.declared.message.Message.TheVariants.{Notice, State, File, Completed, Chunk}
use Rattle.wire_frames.specs.declared.message.WireFault.{WireFault}
use Rattle.wire_frames.specs.declared.message.WireFault.TheVariants.{Length, Kind, Body, Memory}
use Rattle.wire_frames.specs.Wire.{message_kind, message_body, frame_of, wire_of, IsFramable}
use Rattle.wire_frames.specs.Streams.{BeginsWith, BeginsWithMessage, AreMessagesOf, IsUnfinished, HasFrame, IsFrameFault, IsStreamFault, IsCauseOf, IsFrontFault, TakesMessage, is_message_kind, told_length}
use Rattle.wire_frames.proofs.FrameLaws.{length_frame, frame_not_unfinished, frame_not_wrong, one_frame, one_message}

-- ---- one frame

-- an unfinished frame is no message
pub unfinished_ends : (bytes : List ℕ) → IsUnfinished bytes → ¬ BeginsWithMessage bytes
unfinished_ends bytes u b = frame_not_unfinished (message_kind b.0) (message_body b.0) b.1 b.2.short (subst IsUnfinished b.3 u)

kind_of_message : (m : Message) → is_message_kind (message_kind m) ≡ true
kind_of_message (Notice generation version) = refl
kind_of_message (State version generation primary_gen files completed infos) = refl
kind_of_message (File name meta) = refl
kind_of_message (Completed name) = refl
kind_of_message (Chunk name at bytes) = refl

true_not : (b : Bool) → b ≡ true → IsTrue (not b) → ⊥
true_not true h k = cc
true_not false h k = cc

-- a faulty frame is no message
fault_ends : (bytes : List ℕ) (fault : WireFault) → IsFrameFault bytes fault → ¬ BeginsWithMessage bytes
fault_ends bytes (Length n) f b = frame_not_wrong (message_kind b.0) (message_body b.0) b.1 n b.2.short (subst (λ (x : List ℕ). IsFrameFault x (Length n)) b.3 f)
fault_ends bytes (Kind k) f b =
    let frame = f.1 in
    let same = one_frame k (message_kind b.0) f.0 (message_body b.0) frame.after b.1 frame.short b.2.short (sym frame.whole ∙ b.3) in
    true_not (is_message_kind k) (ap is_message_kind same.0 ∙ kind_of_message b.0) f.2
fault_ends bytes Body f b =
    let frame = f.2 in
    let same = one_frame f.0 (message_kind b.0) f.1 (message_body b.0) frame.after b.1 frame.short b.2.short (sym frame.whole ∙ b.3) in
    f.4 b.0 b.2 (sym same.0) (sym same.1.0)
fault_ends bytes Memory f b = f

-- an unfinished frame is not faulty
fault_not_unfinished : (bytes : List ℕ) (fault : WireFault) → IsFrameFault bytes fault → IsUnfinished bytes → ⊥
fault_not_unfinished bytes (Length n) f (inl few) = let there = f.there in absurd (omega (arith, there, few))
fault_not_unfinished bytes (Length n) f (inr short) = f.wrong (subst right (sym f.told) short.0)
  where
    right : ℕ → Type 0
    right k = (1 ≤ k) × (k ≤ 65536)
fault_not_unfinished bytes (Kind k) f u = let frame = f.1 in frame_not_unfinished k f.0 frame.after frame.short (subst IsUnfinished frame.whole u)
fault_not_unfinished bytes Body f u = let frame = f.2 in frame_not_unfinished f.0 f.1 frame.after frame.short (subst IsUnfinished frame.whole u)
fault_not_unfinished bytes Memory f u = f

-- a frame has one fault
one_frame_fault : (bytes : List ℕ) (f g : WireFault) → IsFrameFault bytes f → IsFrameFault bytes g → f ≡ g
one_frame_fault bytes (Length n) (Length m) p q = ap Length (p.told ∙ sym q.told)
one_frame_fault bytes (Length n) (Kind k) p q =
    let frame = q.1 in absurd (frame_not_wrong k q.0 frame.after n frame.short (subst (λ (x : List ℕ). IsFrameFault x (Length n)) frame.whole p))
one_frame_fault bytes (Length n) Body p q =
    let frame = q.2 in absurd (frame_not_wrong q.0 q.1 frame.after n frame.short (subst (λ (x : List ℕ). IsFrameFault x (Length n)) frame.whole p))
one_frame_fault bytes (Kind k) (Length m) p q =
    let frame = p.1 in absurd (frame_not_wrong k p.0 frame.after m frame.short (subst (λ (x : List ℕ). IsFrameFault x (Length m)) frame.whole q))
one_frame_fault bytes (Kind k) (Kind l) p q =
    let a = p.1 in
    let b = q.1 in
    ap Kind (one_frame k l p.0 q.0 a.after b.after a.short b.short (sym a.whole ∙ b.whole)).0
one_frame_fault bytes (Kind k) Body p q =
    let a = p.1 in
    let b = q.2 in
    let same = one_frame k q.0 p.0 q.1 a.after b.after a.short b.short (sym a.whole ∙ b.whole) in
    absurd (true_not (is_message_kind k) (ap is_message_kind same.0 ∙ q.3) p.2)
one_frame_fault bytes Body (Length m) p q =
    let frame = p.2 in absurd (frame_not_wrong p.0 p.1 frame.after m frame.short (subst (λ (x : List ℕ). IsFrameFault x (Length m)) frame.whole q))
one_frame_fault bytes Body (Kind l) p q =
    let a = q.1 in
    let b = p.2 in
    let same = one_frame l p.0 q.0 p.1 a.after b.after a.short b.short (sym a.whole ∙ b.whole) in
    absurd (true_not (is_message_kind l) (ap is_message_kind same.0 ∙ p.3) q.2)
one_frame_fault bytes Body Body p q = refl
one_frame_fault bytes Memory g p q = absurd p
one_frame_fault bytes f Memory p q = absurd q

-- ---- one stream

first_of_all : (m : Message) (ms : List Message) → All IsFramable (m ∷ ms) → IsFramable m
first_of_all m ms h = h 0 m (omega arith)

rest_of_all : (m : Message) (ms : List Message) → All IsFramable (m ∷ ms) → All IsFramable ms
rest_of_all m ms h = λ i d lt. h (suc i) d (omega arith)

begins_by : (m : Message) (ms : List Message) (r : List ℕ) → flat_map wire_of (m ∷ ms) ++ r ≡ wire_of m ++ (flat_map wire_of ms ++ r)
begins_by m ms r = append_assoc (wire_of m) (flat_map wire_of ms) r

one_front : (ms ns : List Message) (r q : List ℕ) → All IsFramable ms → All IsFramable ns → flat_map wire_of ms ++ r ≡ flat_map wire_of ns ++ q
    → ¬ BeginsWithMessage r → ¬ BeginsWithMessage q → (ms ≡ ns) × (r ≡ q)
one_front [] [] r q h k e a b = (refl, e)
one_front [] (n ∷ ns) r q h k e a b = absurd (a (n, flat_map wire_of ns ++ q, first_of_all n ns k, e ∙ begins_by n ns q))
one_front (m ∷ ms) [] r q h k e a b = absurd (b (m, flat_map wire_of ms ++ r, first_of_all m ms h, sym e ∙ begins_by m ms r))
one_front (m ∷ ms) (n ∷ ns) r q h k e a b =
    let s = one_message m n (flat_map wire_of ms ++ r) (flat_map wire_of ns ++ q) (first_of_all m ms h) (first_of_all n ns k) (sym (begins_by m ms r) ∙ e ∙ begins_by n ns q) in
    let t = one_front ms ns r q (rest_of_all m ms h) (rest_of_all n ns k) s.1 a b in
    (let first = s.0 in let others = t.0 in cc, t.1)

-- a stream has one list of messages, and one rest
pub one_reading : (stream : List ℕ) (ms ns : List Message) (r q : List ℕ) → AreMessagesOf stream ms r → AreMessagesOf stream ns q → (ms ≡ ns) × (r ≡ q)
one_reading stream ms ns r q h k = one_front ms ns r q h.front.each k.front.each (sym h.front.parts ∙ k.front.parts) h.ended k.ended

-- a stream has one first fault
pub one_fault : (stream : List ℕ) (f g : WireFault) → IsStreamFault stream f → IsStreamFault stream g → f ≡ g
one_fault stream f g p q =
    let s = one_front p.messages q.messages p.rest q.rest p.front.each q.front.each (sym p.front.parts ∙ q.front.parts) (fault_ends p.rest f p.faulty) (fault_ends q.rest g q.faulty) in
    one_frame_fault q.rest f g (subst (λ (x : List ℕ). IsFrameFault x f) s.1 p.faulty) q.faulty

-- a stream that is messages and an unfinished frame has no fault
pub never_faulty : (stream : List ℕ) (ms : List Message) (r : List ℕ) (f : WireFault) → BeginsWith stream ms r → IsUnfinished r → IsStreamFault stream f → ⊥
never_faulty stream ms r f h u p =
    let s = one_front ms p.messages r p.rest h.each p.front.each (sym h.parts ∙ p.front.parts) (unfinished_ends r u) (fault_ends p.rest f p.faulty) in
    fault_not_unfinished p.rest f p.faulty (subst IsUnfinished s.1 u)

-- ---- streams that go on

-- no bytes are the front of a frame
pub nothing_unfinished : IsUnfinished []
nothing_unfinished = inl (omega arith)

pub begins_none : (stream : List ℕ) → BeginsWith stream [] stream
begins_none stream = record { each = All-nil IsFramable; parts = refl }

joined : (ms ns : List Message) → flat_map wire_of (ms ++ ns) ≡ flat_map wire_of ms ++ flat_map wire_of ns
joined [] ns = refl
joined (m ∷ ms) ns = ap (λ (x : List ℕ). wire_of m ++ x) (joined ms ns) ∙ sym (append_assoc (wire_of m) (flat_map wire_of ms) (flat_map wire_of ns))

all_joined : (ms ns : List Message) → All IsFramable ms → All IsFramable ns → All IsFramable (ms ++ ns)
all_joined [] ns h k = k
all_joined (m ∷ ms) ns h k = All-cons IsFramable m (ms ++ ns) (first_of_all m ms h) (all_joined ms ns (rest_of_all m ms h) k)

-- what begins the rest follows what begins the stream
pub begins_then : (stream piece : List ℕ) (ms ns : List Message) (held rest : List ℕ) → BeginsWith stream ms held → BeginsWith (held ++ piece) ns rest → BeginsWith (stream ++ piece) (ms ++ ns) rest
begins_then stream piece ms ns held rest h k = record {
  each = all_joined ms ns h.each k.each;
  parts =
      ap (λ (x : List ℕ). x ++ piece) h.parts
      ∙ append_assoc (flat_map wire_of ms) held piece
      ∙ ap (λ (x : List ℕ). flat_map wire_of ms ++ x) k.parts
      ∙ sym (append_assoc (flat_map wire_of ms) (flat_map wire_of ns) rest)
      ∙ ap (λ (x : List ℕ). x ++ rest) (sym (joined ms ns));
}

-- a message takes bytes
pub message_shorter : (bytes : List ℕ) (m : Message) (after : List ℕ) → TakesMessage bytes m after → length after < length bytes
message_shorter bytes m after t = let a = ap length t.parts in let b = length_frame (message_kind m) (message_body m) after in omega (arith, a, b)

-- one message more
pub begins_more : (stream : List ℕ) (ms : List Message) (rest : List ℕ) (m : Message) (after : List ℕ) → BeginsWith stream ms rest → TakesMessage rest m after → BeginsWith stream (ms ++ m ∷ []) after
begins_more stream ms rest m after h t = record {
  each = all_joined ms (m ∷ []) h.each (All-cons IsFramable m [] t.framable (All-nil IsFramable));
  parts =
      h.parts
      ∙ ap (λ (x : List ℕ). flat_map wire_of ms ++ x) (t.parts ∙ ap (λ (x : List ℕ). x ++ after) (sym (append-nil (wire_of m))))
      ∙ sym (append_assoc (flat_map wire_of ms) (wire_of m ++ []) after)
      ∙ ap (λ (x : List ℕ). x ++ after) (sym (joined ms (m ∷ [])));
}

pub fault_then : (stream piece : List ℕ) (ms : List Message) (held : List ℕ) (f : WireFault) → BeginsWith stream ms held → IsStreamFault (held ++ piece) f → IsStreamFault (stream ++ piece) f
fault_then stream piece ms held f h p = record {
  messages = ms ++ p.messages;
  rest = p.rest;
  front = begins_then stream piece ms p.messages held p.rest h p.front;
  faulty = p.faulty;
}

-- the length bytes stay where more follows
told_stays : (bytes more : List ℕ) → 4 ≤ length bytes → told_length (bytes ++ more) ≡ told_length bytes
unfolding told_length
told_stays bytes more there = ap (from_be_bytes w32) (take-append-le 4 bytes more there)

frame_stays : (bytes more : List ℕ) (kind : ℕ) (body : List ℕ) → HasFrame bytes kind body → HasFrame (bytes ++ more) kind body
frame_stays bytes more kind body h = record {
  after = h.after ++ more;
  whole = ap (λ (x : List ℕ). x ++ more) h.whole ∙ append_assoc (frame_of kind body) h.after more;
  short = h.short;
}

frame_fault_stays : (bytes more : List ℕ) (f : WireFault) → IsFrameFault bytes f → IsFrameFault (bytes ++ more) f
frame_fault_stays bytes more (Length n) f = record {
  there = (let there = f.there in let size = length-append bytes more in omega (arith, there, size));
  told = f.told ∙ sym (told_stays bytes more f.there);
  wrong = f.wrong;
}
frame_fault_stays bytes more (Kind k) f = (f.0, frame_stays bytes more k f.0 f.1, f.2)
frame_fault_stays bytes more Body f = (f.0, f.1, frame_stays bytes more f.0 f.1 f.2, f.3, f.4)
frame_fault_stays bytes more Memory f = f

-- the fault of a stream is one of every longer stream
pub fault_stays : (stream more : List ℕ) (f : WireFault) → IsStreamFault stream f → IsStreamFault (stream ++ more) f
fault_stays stream more f p = record {
  messages = p.messages;
  rest = p.rest ++ more;
  front = record { each = p.front.each; parts = ap (λ (x : List ℕ). x ++ more) p.front.parts ∙ append_assoc (flat_map wire_of p.messages) p.rest more };
  faulty = frame_fault_stays p.rest more f p.faulty;
}

pub cause_then : (stream piece : List ℕ) (ms : List Message) (held : List ℕ) (f : WireFault) → BeginsWith stream ms held → IsCauseOf (held ++ piece) f → IsCauseOf (stream ++ piece) f
cause_then stream piece ms held Memory h p = tt
cause_then stream piece ms held (Length n) h p = fault_then stream piece ms held (Length n) h p
cause_then stream piece ms held (Kind k) h p = fault_then stream piece ms held (Kind k) h p
cause_then stream piece ms held Body h p = fault_then stream piece ms held Body h p

-- a faulty frame behind messages
pub cause_here : (stream : List ℕ) (ms : List Message) (rest : List ℕ) (f : WireFault) → BeginsWith stream ms rest → IsFrontFault rest f → IsCauseOf stream f
cause_here stream ms rest Memory h p = tt
cause_here stream ms rest (Length n) h p = record { messages = ms; rest = rest; front = h; faulty = p }
cause_here stream ms rest (Kind k) h p = record { messages = ms; rest = rest; front = h; faulty = p }
cause_here stream ms rest Body h p = record { messages = ms; rest = rest; front = h; faulty = p }

pub are_messages : (stream : List ℕ) (ms : List Message) (rest : List ℕ) → BeginsWith stream ms rest → IsUnfinished rest → AreMessagesOf stream ms rest
are_messages stream ms rest h u = record { front = h; ended = unfinished_ends rest u }

fault_or_memory : (stream : List ℕ) (f g : WireFault) → IsStreamFault stream f → IsCauseOf stream g → (g ≡ f) ⊎ (g ≡ Memory)
fault_or_memory stream f Memory p c = inr refl
fault_or_memory stream f (Length n) p c = inl (one_fault stream (Length n) f c p)
fault_or_memory stream f (Kind k) p c = inl (one_fault stream (Kind k) f c p)
fault_or_memory stream f Body p c = inl (one_fault stream Body f c p)

-- where a stream has a fault, it is answered, or memory
pub fault_answer : {X : Type 0} (messages : X → List Message) (stream rest : List ℕ) (result : Result X WireFault) → IfOk result (λ x. BeginsWith stream (messages x) rest) → IsUnfinished rest
    → IfErr result (IsCauseOf stream) → (f : WireFault) → IsStreamFault stream f → (result ≡ Err f) ⊎ (result ≡ Err Memory)
fault_answer messages stream rest (Ok x) ok u err f p = absurd (never_faulty stream (messages x) rest f ok u p)
fault_answer messages stream rest (Err e) ok u err f p = elim (fault_or_memory stream f e p err) [ inl same ↦ inl (ap Err same) | inr same ↦ inr (ap Err same) ]
