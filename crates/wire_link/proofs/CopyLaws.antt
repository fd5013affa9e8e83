-- Frames that are put one behind the other are a stream of their messages.
use Rattle.std.proofs.Common.{◌≡◌, ℕ, ◌+◌, ◌*◌, ◌<◌, ◌≤◌, List, [], ◌∷◌, ◌++◌, get_or, length, take, drop, map, refl, sym, ap, subst, ◌∙◌, append_assoc, arith}
use Rattle.std.specs.Prelude.{◌-◌, min, slice_range}
use Rattle.std.specs.Int.{div_ceil}
use Rattle.std.specs.List.{All, flat_map, range_with_len}
use Rattle.std.proofs.lemmas.Grind.{flat_map-append, div_ceil_times}
use Rattle.std.proofs.lemmas.List.{append-nil, length-take, length-drop, take_min, take_more}
use Rattle.std.proofs.lemmas.List.Elements.{All-nil, All-cons, All-append}
use Rattle.std.proofs.lemmas.List.FromFn.{map-range_with_len_more}
use Rattle.copy_state.specs.declared.state.CopyState.{CopyState}
use Rattle.copy_state.specs.States.{IsCopyState}
use Rattle.wire_frames.specs.declared.message.Message.{Message}
use Rattle.wire_frames.specs.declared.message.Message.TheVariants.{Completed, Chunk}
use Rattle.wire_frames.specs.Wire.{longest_chunk, wire_of, CanEncode, IsFramable}
use Rattle.wire_frames.specs.States.{file_message, state_message, messages_of_state}
use Rattle.wire_frames.specs.Streams.{AreMessagesOf}
use Rattle.wire_frames.proofs.StreamLaws.{are_messages, nothing_unfinished}
use Rattle.wire_link.specs.Copies.{chunk_from, chunk_messages, messages_of_copy, AddsFrames}
use Rattle.wire_link.proofs.ShortInfos.{infos_short}

-- ---- what can be put into frames

all_map : {X : Type 0} (make : X → Message) → ((x : X) → CanEncode (make x)) → (xs : List X) → All CanEncode (map make xs)
all_map make can [] = All-nil CanEncode
all_map make can (x ∷ xs) = All-cons CanEncode (make x) (map make xs) (can x) (all_map make can xs)

-- the messages of a copy state
pub state_encodes : (state : CopyState) (messages : List Message) → IsCopyState state → messages ≡ messages_of_state state → All CanEncode messages
state_encodes state messages copy are =
    subst (All CanEncode) (sym are)
    (All-cons CanEncode (state_message state) (map file_message state.files ++ map Completed state.completed) (infos_short copy.infos state.infos copy.spelled)
    (All-append CanEncode (map file_message state.files) (map Completed state.completed) (all_map file_message (λ f. tt) state.files) (all_map Completed (λ name. tt) state.completed)))

-- ---- frames that were added

pub adds_none : (old : List ℕ) → AddsFrames [] old old
adds_none old = record { each = All-nil IsFramable; added = sym (append-nil old) }

pub adds_one : (m : Message) (old new : List ℕ) → IsFramable m → new ≡ old ++ wire_of m → AddsFrames (m ∷ []) old new
adds_one m old new framable put = record {
  each = All-cons IsFramable m [] framable (All-nil IsFramable);
  added = put ∙ ap (λ (x : List ℕ). old ++ x) (sym (append-nil (wire_of m)));
}

-- and more behind them
pub adds_more : (ms ns : List Message) (old mid new : List ℕ) → AddsFrames ms old mid → AddsFrames ns mid new → AddsFrames (ms ++ ns) old new
adds_more ms ns old mid new first second = record {
  each = All-append IsFramable ms ns first.each second.each;
  added =
      second.added
      ∙ ap (λ (x : List ℕ). x ++ flat_map wire_of ns) first.added
      ∙ append_assoc old (flat_map wire_of ms) (flat_map wire_of ns)
      ∙ ap (λ (x : List ℕ). old ++ x) (sym (flat_map-append wire_of ms ns));
}

-- one message of a list more
pub messages_more : (ms : List Message) (i : ℕ) (m : Message) (old mid new : List ℕ) → i < length ms → m ≡ get_or ms i m → AddsFrames (take i ms) old mid → IsFramable m → new ≡ mid ++ wire_of m
    → AddsFrames (take (i + 1) ms) old new
messages_more ms i m old mid new lt is before framable put =
    subst (λ (xs : List Message). AddsFrames xs old new)
    (sym (take_more ms i m lt ∙ ap (λ (x : Message). take i ms ++ x ∷ []) (sym is)))
    (adds_more (take i ms) (m ∷ []) old mid new before (adds_one m mid new framable put))

-- one file more
pub files_more : (files : List (List ℕ × List ℕ)) (i : ℕ) (file : List ℕ × List ℕ) (old mid new : List ℕ) → i < length files → file ≡ get_or files i file
    → AddsFrames (flat_map chunk_messages (take i files)) old mid → AddsFrames (chunk_messages file) mid new → AddsFrames (flat_map chunk_messages (take (i + 1) files)) old new
files_more files i file old mid new lt is before more =
    subst (λ (xs : List Message). AddsFrames xs old new)
    (sym (ap (λ (fs : List (List ℕ × List ℕ)). flat_map chunk_messages fs) (take_more files i file lt ∙ ap (λ (f : List ℕ × List ℕ). take i files ++ f ∷ []) (sym is))
    ∙ flat_map-append chunk_messages (take i files) (file ∷ [])
    ∙ ap (λ (xs : List Message). flat_map chunk_messages (take i files) ++ xs) (append-nil (chunk_messages file))))
    (adds_more (flat_map chunk_messages (take i files)) (chunk_messages file) old mid new before more)

-- what was put behind nothing is a stream of these messages, and nothing else
adds_stream : (ms : List Message) (start stream : List ℕ) → start ≡ [] → AddsFrames ms start stream → AreMessagesOf stream ms []
adds_stream ms start stream none adds =
    are_messages stream ms []
    (record { each = adds.each; parts = adds.added ∙ ap (λ (x : List ℕ). x ++ flat_map wire_of ms) none ∙ sym (append-nil (flat_map wire_of ms)) })
    nothing_unfinished

-- so are the frames of a copy state, and those of files behind them
pub copy_stream : (state : CopyState) (files : List (List ℕ × List ℕ)) (messages : List Message) (start mid stream : List ℕ) → messages ≡ messages_of_state state → start ≡ [] → AddsFrames messages start mid
    → AddsFrames (flat_map chunk_messages files) mid stream → AreMessagesOf stream (messages_of_copy state files) []
copy_stream state files messages start mid stream are none first second =
    subst (λ (ms : List Message). AreMessagesOf stream (ms ++ flat_map chunk_messages files) []) are
    (adds_stream (messages ++ flat_map chunk_messages files) start stream none (adds_more messages (flat_map chunk_messages files) start mid stream first second))

-- ---- chunks

-- the bytes of a file from a place on, as many as a chunk has at most
pub part_is : (bytes : List ℕ) (at few : ℕ) (part : List ℕ) → at < length bytes → few ≡ min longest_chunk (length bytes - at) → part ≡ slice_range bytes at (at + few) → part ≡ take longest_chunk (drop at bytes)
part_is bytes at few part within least is =
    let size : (at + few) - at ≡ few = omega arith in
    is
    ∙ ap (λ (n : ℕ). take n (drop at bytes)) (size ∙ least ∙ ap (λ (n : ℕ). min longest_chunk n) (sym (length-drop at bytes)))
    ∙ take_min longest_chunk (drop at bytes)

-- it has some bytes, and not too many
pub part_fits : (bytes : List ℕ) (at : ℕ) (part : List ℕ) → at < length bytes → part ≡ take longest_chunk (drop at bytes) → (0 < length part) × (length part ≤ longest_chunk)
part_fits bytes at part within is =
    let size = ap length is ∙ length-take longest_chunk (drop at bytes) in
    let rest = length-drop at bytes in
    (omega (arith, within, size, rest), omega (arith, size))

-- its frame was put
pub chunk_added : (name bytes : List ℕ) (at : ℕ) (part old new : List ℕ) → part ≡ take longest_chunk (drop at bytes) → IsFramable (Chunk name at part) → new ≡ old ++ wire_of (Chunk name at part)
    → AddsFrames (chunk_from name at bytes ∷ []) old new
chunk_added name bytes at part old new is framable put =
    subst (λ (x : List ℕ). AddsFrames (Chunk name at x ∷ []) old new) is (adds_one (Chunk name at part) old new framable put)

-- a chunk of the file begins before its end
pub chunk_begins : (bytes : List ℕ) (k count : ℕ) → count ≡ div_ceil (length bytes) longest_chunk → k < count → k * longest_chunk < length bytes
chunk_begins bytes k count is lt =
    let most = (div_ceil_times (length bytes) longest_chunk (omega arith)).1 in
    let same = ap (λ (n : ℕ). n * longest_chunk) is in
    omega (arith, most, same, lt)

-- one chunk more
pub chunks_more : (name bytes : List ℕ) (k : ℕ) (old mid new : List ℕ)
    → AddsFrames (map (λ i. chunk_from name (i * longest_chunk) bytes) (range_with_len 0 k)) old mid → AddsFrames (chunk_from name (k * longest_chunk) bytes ∷ []) mid new
    → AddsFrames (map (λ i. chunk_from name (i * longest_chunk) bytes) (range_with_len 0 (k + 1))) old new
chunks_more name bytes k old mid new before one =
    subst (λ (ms : List Message). AddsFrames ms old new)
    (sym (map-range_with_len_more (λ i. chunk_from name (i * longest_chunk) bytes) 0 k k (omega arith)))
    (adds_more (map (λ i. chunk_from name (i * longest_chunk) bytes) (range_with_len 0 k)) (chunk_from name (k * longest_chunk) bytes ∷ []) old mid new before one)

-- all of them
pub chunks_whole : (name bytes : List ℕ) (k : ℕ) (old new : List ℕ) → AddsFrames (map (λ i. chunk_from name (i * longest_chunk) bytes) (range_with_len 0 k)) old new → k ≡ div_ceil (length bytes) longest_chunk
    → AddsFrames (chunk_messages (name, bytes)) old new
chunks_whole name bytes k old new adds all =
    subst (λ (n : ℕ). AddsFrames (map (λ i. chunk_from name (i * longest_chunk) bytes) (range_with_len 0 n)) old new) all adds
