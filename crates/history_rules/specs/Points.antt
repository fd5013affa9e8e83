-- The points that the entries before a place show: which operations each has, and so which documents.
use Rattle.std.specs.Prelude.{ℕ, ◌≡◌, ◌+◌, List, [], ◌∷◌, ◌++◌, Bool, true, ◌&&◌, ◌==◌, length, drop, nat_lt, nat_le, if◌then◌else◌}
use Rattle.std.specs.List.{list_any}
use Rattle.nrt_base.specs.declared.doc.Doc.{Doc}
use Rattle.nrt_base.specs.declared.numbers.At.{At}
use Rattle.nrt_base.specs.SegNumbers.{segment_generation, segment_place}
use Rattle.file_names.specs.Names.{IsFileOfSegment, IsTemporaryOfSegment}
use Rattle.documents.specs.declared.operation.Op.{Op}
use Rattle.history_rules.specs.declared.entry.Event.{Event}
use Rattle.history_rules.specs.declared.entry.Event.TheVariants.{Accepted, Publishing, Published, Promoted, Merging}
use Rattle.history_rules.specs.declared.point.Point.{Point}
use Rattle.documents.specs.Documents.{documents_after, is_put}
use Rattle.history_rules.specs.Nodes.{Past, over, generation_of, version_of}
use Rattle.history_rules.specs.Lines.{same_at, is_start, before_start}

abbrev mutual
  -- the operations on which the generation started, and those that it accepted since
  pub operations_written : Past → List Op
  operations_written [] = []
  operations_written (e ∷ past) = let ops = operations_written past in
      elim e.event [
        | Accepted seq op ↦ ops ++ op ∷ []
        | Promoted m g f w ↦ operations_at past (version_of m.0 past)
        | _ ↦ ops
      ]

  -- the same at the start entry of a line
  pub operations_at_start : At → Past → List Op
  operations_at_start at [] = []
  operations_at_start at (e ∷ past) = if is_start e.event && same_at e.at at then operations_written past else operations_at_start at past

  -- the operations of the point of a version: what a publish found written when it started, or what the promoted node had
  pub operations_at : Past → ℕ → List Op
  operations_at [] v = []
  operations_at (e ∷ past) v = let points = operations_at past in
      elim e.event [
        | Published g w ↦ if w.0 == v then operations_at_start e.at past else points v
        | Promoted m g f w ↦ if w.0 == v then points (version_of m.0 past) else points v
        | _ ↦ points v
      ]

-- the documents of the point of a version
abbrev pub documents_at : Past → ℕ → List Doc
documents_at past v = documents_after (operations_at past v)

-- the point of this version has documents
abbrev pub has_documents : Past → ℕ → Bool
has_documents past v = nat_lt 0 (length (documents_at past v))

abbrev pub points_by : Event → Past → (ℕ → List Doc) → List Point → List Point
points_by (Published g w) past docs points = points ++ record { generation = g; version = w; docs = docs w.0 } ∷ []
points_by (Promoted m g f w) past docs points = points ++ record { generation = g; version = w; docs = docs w.0 } ∷ []
points_by e past docs points = points

-- the points, in the order in which they were made, the opening point first
abbrev pub points_of : Past → List Point
points_of [] = record { generation = record { 0 = 1 }; version = record { 0 = 1 }; docs = [] } ∷ []
points_of (e ∷ past) = points_by e.event past (documents_at (e ∷ past)) (points_of past)

-- the operations that the generation has accepted, in order
abbrev pub operations_of_generation : Past → List Op
operations_of_generation = over [] (λ e past ops.
    elim e.event [ Accepted seq op ↦ ops ++ op ∷ [] | Promoted m g f w ↦ [] | _ ↦ ops ])

-- how many operations the generation had accepted at the start entry of a line
abbrev pub accepted_at_start : At → Past → ℕ
accepted_at_start at past = length (operations_of_generation (before_start at past))

-- how many operations of the generation its last publish has
abbrev pub published_in_generation : Past → ℕ
published_in_generation = over 0 (λ e past k.
    elim e.event [ Published g w ↦ accepted_at_start e.at past | Promoted m g f w ↦ 0 | _ ↦ k ])

-- the cut: the operations of the generation that its last publish does not have, which a publish takes now
abbrev pub cut_of : Past → List Op
cut_of past = drop (published_in_generation past) (operations_of_generation past)

-- the cut has a put, so its publish makes a segment and draws a name
abbrev pub cut_has_put : Past → Bool
cut_has_put past = list_any is_put (cut_of past)

-- how many segment names the generation has drawn: one per publish with a put, one per merge
abbrev pub names_drawn : Past → ℕ
names_drawn = over 0 (λ e past k. elim e.event [
  | Publishing ↦ if cut_has_put past then k + 1 else k
  | Merging seg ↦ k + 1
  | Promoted m g f w ↦ 0
  | _ ↦ k
])

-- how many segment names a generation has drawn, or had when it was the present one
abbrev pub names_drawn_in : ℕ → Past → ℕ
names_drawn_in g [] = 0
names_drawn_in g (e ∷ past) = if generation_of (e ∷ past) == g then names_drawn (e ∷ past) else names_drawn_in g past

-- the segment's name was drawn: its place is below the number of names that its generation has drawn
abbrev pub is_drawn : ℕ → Past → Bool
is_drawn seg past = nat_lt (segment_place seg) (names_drawn_in (segment_generation seg) past)

-- the name of a file of a segment whose name was drawn
abbrev pub IsDrawnFile : Past → List ℕ → Type 0
IsDrawnFile past name = (seg : ℕ) × (is_drawn seg past ≡ true) × IsFileOfSegment seg name

-- the temporary name of such a file
abbrev pub IsDrawnTemporary : Past → List ℕ → Type 0
IsDrawnTemporary past name = (seg : ℕ) × (is_drawn seg past ≡ true) × IsTemporaryOfSegment seg name

-- how many merges the generation has started
abbrev pub merges_started : Past → ℕ
merges_started =
    over 0 (λ e past k. elim e.event [ Merging seg ↦ k + 1 | Promoted m g f w ↦ 0 | _ ↦ k ])

-- a publish of the line adds no operation to the last one
abbrev pub adds_none : At → Past → Bool
adds_none at past = nat_le (accepted_at_start at past) (published_in_generation past)

-- how many publishes of the generation added no operation
abbrev pub idle_publishes : Past → ℕ
idle_publishes = over 0 (λ e past k. let idle = adds_none e.at past in
    elim e.event [ Published g w ↦ if idle then k + 1 else k | Promoted m g f w ↦ 0 | _ ↦ k ])
