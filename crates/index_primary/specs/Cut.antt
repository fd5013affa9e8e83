-- The operations that wait, and what a publish of them draws.
use Rattle.std.specs.Prelude.{◌≡◌, ◌+◌, ◌<◌, ◌≤◌, ℕ, Bool, true, false, if◌then◌else◌, List, [], length, take, drop, Option, Some, None, unwrap_or}
use Rattle.std.specs.List.{list_any}
use Rattle.std.specs.Option.{option_map}
use Rattle.nrt_base.specs.SegNumbers.{segments_of_generation}
use Rattle.nrt_base.specs.declared.numbers.SegNo.{SegNo}
use Rattle.documents.specs.declared.operation.Op.{Op}
use Rattle.documents.specs.Documents.{is_put}
use Rattle.segment_infos.specs.declared.infos.Infos.{Infos}
use Rattle.segment_steps.specs.Given.{Shown}
use Rattle.commit_steps.specs.declared.stage.CommitBook.{CommitBook}
use Rattle.index_primary.specs.declared.parts.Publish.{Publish}
use Rattle.index_primary.specs.Held.{drawn_to}

-- the operations that a publish in flight takes
abbrev pub cut_by : Option Publish → List Op → List Op
cut_by None ops = []
cut_by (Some f) ops = take f.count ops

-- what waits once it has ended
abbrev pub after_cut : Option Publish → List Op → List Op
after_cut None ops = ops
after_cut (Some f) ops = drop f.count ops

-- the number of the last commit, or 0
abbrev pub last_number : CommitBook → ℕ
last_number book = unwrap_or (option_map (λ c. c.number) book.last) 0

-- some operation is a put, so a publish needs a name
abbrev pub has_put : List Op → Bool
has_put ops = list_any is_put ops

-- there is nothing to publish: no operation waits, and nothing was cut over since the last point
abbrev pub IsIdle : List Op → Bool → Type 0
IsIdle ops has_cut_over = (length ops ≡ 0) × (has_cut_over ≡ false)

-- a name is needed, and the generation has drawn all
abbrev pub AreSpent : List Op → Infos → Type 0
AreSpent ops infos = (has_put ops ≡ true) × (infos.counter ≡ segments_of_generation)

-- a name is needed and can be drawn, and there are as many segments as there may be
abbrev pub AreTooMany : List Op → Infos → List Shown → Type 0
AreTooMany ops infos segs = (has_put ops ≡ true) × (infos.counter < segments_of_generation) × (256 ≤ length segs)

-- what is noted of a publish in flight: the number that it drew, and that it takes these operations
abbrev pub noted : Option SegNo → List Op → Option Publish
noted seg ops = Some (record { seg = seg; count = length ops })

-- the number that is drawn, where there is a put
abbrev pub number_drawn : Bool → Infos → Option SegNo
number_drawn is_there infos = if is_there then Some (record { 0 = drawn_to infos }) else None

-- the infos once it is drawn
abbrev pub infos_drawn : Bool → Infos → Infos
infos_drawn is_there infos = if is_there then record infos { counter = infos.counter + 1 } else infos
