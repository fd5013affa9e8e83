-- Which image a crash of the memory disk leaves, by a number.
use Rattle.std.specs.Prelude.{ℕ, ◌+◌, ◌-◌, ◌*◌, ◌/◌, ◌%◌, ◌^◌, Bool, ◌||◌, if◌then◌else◌, nat_eq, nat_lt, List, [], ◌∷◌, length, take, slice_index_or, Option, Some, None, is_some}
use Rattle.std.specs.Cmp.Lexicographic.{slice_cmp}
use Rattle.std.specs.Ordering.{nat_cmp}
use Rattle.std.specs.BTreeMap.{is_at}
use Rattle.std.specs.Map.{lookup}
use Rattle.disk_model.specs.Disk.{Name, Content, Image}
use Rattle.disk_memory.specs.declared.state.State.TheVariants.{Absent, Synced}
use Rattle.disk_memory.specs.declared.state.Outcome.{Outcome}
use Rattle.disk_memory.specs.declared.state.Outcome.TheVariants.{Gone, Exactly, Any}
use Rattle.disk_memory.specs.Held.{Held, content_of, outcome_of}

-- the next of the numbers that a pick runs through
abbrev pub next_number : ℕ → ℕ
next_number x = (x * 6364136223846793005 + 1442695040888963407) % 2 ^ 64

-- a number below n, drawn from x
abbrev pub drawn_below : ℕ → ℕ → ℕ
drawn_below n x = (x / 2 ^ 33) % n

-- the place of the outcome that is picked among n: the last for 0, the first for 1
abbrev pub place_picked : ℕ → ℕ → ℕ → ℕ
place_picked pick x n = if nat_eq pick 0 then n - 1 else (if nat_eq pick 1 then 0 else drawn_below n x)

-- how many of the n bytes written any bytes become: all for 0, none for 1
abbrev pub length_left : ℕ → ℕ → ℕ → ℕ
length_left pick x n = if nat_eq pick 0 then n else (if nat_eq pick 1 then 0 else drawn_below (n + 1) x)

-- the content that an outcome becomes
abbrev pub content_left : ℕ → ℕ → Outcome → Content
content_left pick x Gone = None
content_left pick x (Exactly bytes) = Some bytes
content_left pick x (Any bytes) = Some (take (length_left pick x (length bytes)) bytes)

-- the outcome at a place: the past ones, oldest first, and behind them that of the state
abbrev pub outcome_at : Held → ℕ → Outcome
outcome_at h place = slice_index_or h.past place (outcome_of h.state)

-- the content that a crash leaves under one name
abbrev pub picked : ℕ → ℕ → Held → Content
picked pick x h = content_left pick x (outcome_at h (place_picked pick x (length h.past + 1)))

-- there is something to pick: the name exists or has a past outcome
abbrev pub is_picked : Held → Bool
is_picked h = is_some (content_of h.state) || nat_lt 0 (length h.past)

-- the number after a name: it moves on before each name that has something to pick
abbrev pub number_at : ℕ → Held → ℕ
number_at x h = if is_picked h then next_number x else x

-- the content that a crash leaves under a name, given the number before it
abbrev pub left_at : ℕ → ℕ → Held → Content
left_at pick x h = if is_picked h then picked pick (next_number x) h else None

-- the contents that a crash leaves, over the names in ascending order
abbrev pub contents_left : ℕ → ℕ → List (Name × Held) → List (Name × Content)
contents_left pick x [] = []
contents_left pick x (e ∷ entries) = (e.0, left_at pick x e.1) ∷ contents_left pick (number_at x e.1) entries

-- the content under a name; without one, nothing
abbrev pub content_at : Option Content → Content
content_at None = None
content_at (Some content) = content

-- the image that a crash with this number leaves
abbrev pub image_picked : ℕ → List (Name × Held) → Image
image_picked pick entries q = content_at (lookup (is_at (slice_cmp nat_cmp q)) (contents_left pick pick entries))

-- a name that starts from a content
abbrev pub started : Content → Held
started None = record { state = Absent; past = [] }
started (Some bytes) = record { state = Synced bytes; past = [] }

-- what is held under a name after the crash with this number
abbrev pub held_after_crash : ℕ → List (Name × Held) → Name → Held
held_after_crash pick entries q = started (image_picked pick entries q)
