-- A chunk in its frame, and chunks that are joined.
use Rattle.std.proofs.Common.{◌≡◌, ℕ, ◌+◌, ◌<◌, ◌≤◌, List, [], ◌∷◌, ◌++◌, length, take, drop, Result, refl, sym, ap, subst, ◌∙◌, arith}
use Rattle.std.specs.Prelude.{◌-◌, slice_range, IfOk}
use Rattle.std.proofs.Math.Seq.{take-add}
use Rattle.std.proofs.lemmas.List.{append-nil, length-take-le, length-drop, take_all}
use Rattle.std.proofs.lemmas.List.Elements.{All-nil, All-cons}
use Rattle.std.proofs.lemmas.Result.{IfOk-weaker}
use Rattle.wire_frames.specs.declared.message.Message.{Message}
use Rattle.wire_frames.specs.declared.message.Message.TheVariants.{Chunk}
use Rattle.wire_frames.specs.declared.message.WireFault.{WireFault}
use Rattle.wire_frames.specs.declared.message.WireFault.TheVariants.{Length, Kind, Body, Memory}
use Rattle.wire_frames.specs.Wire.{wire_of, IsFramable}
use Rattle.wire_frames.specs.Streams.{BeginsWith, AreMessagesOf, IsUnfinished, IsStreamFault, IsCauseOf}
use Rattle.wire_frames.proofs.StreamLaws.{one_reading, never_faulty, nothing_unfinished, begins_then, fault_then, fault_stays, are_messages}

-- ---- a decoder that is fed

-- what refuses a stream without a fault is want of memory
pub only_memory : (stream : List ℕ) (f : WireFault) → ((g : WireFault) → IsStreamFault stream g → ⊥) → IsCauseOf stream f → f ≡ Memory
only_memory stream Memory none c = refl
only_memory stream (Length n) none c = absurd (none (Length n) c)
only_memory stream (Kind k) none c = absurd (none (Kind k) c)
only_memory stream Body none c = absurd (none Body c)

module _ (stream front back : List ℕ) (whole : stream ≡ front ++ back) where
  -- a stream of whole messages has no fault in its first piece
  pub front_faultless : (start : List ℕ) → start ≡ [] → (messages : List Message) × BeginsWith stream messages [] → (f : WireFault) → IsStreamFault (start ++ front) f → ⊥
  front_faultless start none h f p =
      let here : IsStreamFault front f = subst (λ (s : List ℕ). IsStreamFault (s ++ front) f) none p in
      never_faulty stream h.0 [] f h.1 nothing_unfinished (subst (λ (s : List ℕ). IsStreamFault s f) (sym whole) (fault_stays front back f here))

  module _ (start held : List ℕ) (none : start ≡ []) (first : List Message) (read : AreMessagesOf (start ++ front) first held) where
    begins_first : BeginsWith front first held
    begins_first = subst (λ (s : List ℕ). BeginsWith (s ++ front) first held) none read.front

    -- nor in its second
    pub back_faultless : (messages : List Message) × BeginsWith stream messages [] → (f : WireFault) → IsStreamFault (held ++ back) f → ⊥
    back_faultless h f p =
        never_faulty stream h.0 [] f h.1 nothing_unfinished (subst (λ (s : List ℕ). IsStreamFault s f) (sym whole) (fault_then front back first held f begins_first p))

    -- the messages of both pieces are those of the stream
    pub pieces_read : (second : List Message) (rest : List ℕ) → AreMessagesOf (held ++ back) second rest → IsUnfinished rest → (messages : List Message) → BeginsWith stream messages [] → first ++ second ≡ messages
    pieces_read second rest more u messages h =
        let both : BeginsWith stream (first ++ second) rest =
        subst (λ (s : List ℕ). BeginsWith s (first ++ second) rest) (sym whole) (begins_then front back first second held rest begins_first more.front) in
        (one_reading stream (first ++ second) messages rest [] (are_messages stream (first ++ second) rest both u) (are_messages stream messages [] h nothing_unfinished)).0

-- ---- a chunk in its frame

module _ (name : List ℕ) (at : ℕ) (bytes head lent : List ℕ) (framable : IsFramable (Chunk name at bytes)) (whole : head ++ bytes ≡ wire_of (Chunk name at bytes)) (same : lent ≡ head) where
  frame : BeginsWith (lent ++ bytes) (Chunk name at bytes ∷ []) []
  frame = record {
    each = All-cons IsFramable (Chunk name at bytes) [] framable (All-nil IsFramable);
    parts =
        ap (λ (h : List ℕ). h ++ bytes) same
        ∙ whole
        ∙ sym (append-nil (wire_of (Chunk name at bytes)))
        ∙ sym (append-nil (wire_of (Chunk name at bytes) ++ []));
  }

  -- a chunk's head and its bytes are whole messages
  pub is_frame : (messages : List Message) × BeginsWith (lent ++ bytes) messages []
  is_frame = (Chunk name at bytes ∷ [], frame)

  module _ (read seen : List Message) (all : (messages : List Message) → BeginsWith (lent ++ bytes) messages [] → read ≡ messages) (shown : seen ≡ read) where
    alone : seen ≡ Chunk name at bytes ∷ []
    alone = shown ∙ all (Chunk name at bytes ∷ []) frame

    -- what they are read as is that chunk alone
    pub frame_begins : (part : List ℕ) × (seen ≡ Chunk name at part ∷ [])
    frame_begins = (bytes, alone)

    pub chunk_read : {E : Type 0} (result : Result (List ℕ) E) → IfOk result (λ part. seen ≡ Chunk name at part ∷ []) → IfOk result (λ part. part ≡ bytes)
    chunk_read result is = IfOk-weaker result _ _ (λ part here. (let whole_list : Chunk name at part ∷ [] ≡ Chunk name at bytes ∷ [] = sym here ∙ alone in cc)) is

-- ---- what was joined

-- how long a part of the bytes is
pub part_size : (bytes : List ℕ) (done end : ℕ) (part : List ℕ) → end ≤ length bytes → part ≡ slice_range bytes done end → length part ≡ end - done
part_size bytes done end part within is =
    let rest = length-drop done bytes in
    let some : end - done ≤ length (drop done bytes) = omega (arith, rest, within) in
    ap length is ∙ length-take-le (end - done) (drop done bytes) some

pub joined_on : (bytes : List ℕ) (done end : ℕ) (part file read seen next : List ℕ) → done ≤ end → end ≤ length bytes → part ≡ slice_range bytes done end → file ≡ take done bytes
    → read ≡ part → seen ≡ read → next ≡ file ++ seen → next ≡ take end bytes
joined_on bytes done end part file read seen next later within is was brought shown put =
    let size : done + (end - done) ≡ end = omega (arith, later) in
    put
    ∙ ap (λ (s : List ℕ). file ++ s) (shown ∙ brought ∙ is)
    ∙ ap (λ (f : List ℕ). f ++ slice_range bytes done end) was
    ∙ sym (take-add done (end - done) bytes)
    ∙ ap (λ (n : ℕ). take n bytes) size

pub joined_last : (bytes : List ℕ) (done : ℕ) (file read : List ℕ) → length bytes ≤ done → file ≡ take done bytes → read ≡ file → read ≡ bytes
joined_last bytes done file read all was is = is ∙ was ∙ take_all done bytes all
