-- A source and a sink in memory: what each call moves, and which calls fail.
use Rattle.std.specs.Prelude.{ℕ, ◌+◌, ◌-◌, ◌^◌, min, List, [], ◌++◌, length, take, drop, Bool, ◌&&◌, ◌||◌, if◌then◌else◌, nat_eq, nat_lt}
use Rattle.std.specs.List.{list_any}

-- a count, raised by one, that stays at its end
abbrev pub raised : ℕ → ℕ
raised count = min (count + 1) (2 ^ 64 - 1)

-- a source: the bytes left, the most that a call moves, the numbers of the calls that are to fail, the calls so far and the faults so far
pub record Input : Type 0 where
  pub left : List ℕ
  pub step : ℕ
  pub fails : List ℕ
  pub calls : ℕ
  pub faults : ℕ

-- a sink: the bytes held, the most bytes that it holds, and as with a source
pub record Output : Type 0 where
  pub held : List ℕ
  pub room : ℕ
  pub step : ℕ
  pub fails : List ℕ
  pub calls : ℕ
  pub faults : ℕ

-- a source of these bytes that no call has read: the most that a call moves, and the numbers of the calls that are to fail
abbrev pub whole_source : List ℕ → ℕ → List ℕ → Input
whole_source bytes step fails = record { left = bytes; step = step; fails = fails; calls = 0; faults = 0 }

-- a sink that holds nothing and was not called: its room, and as with a source
abbrev pub empty_sink : ℕ → ℕ → List ℕ → Output
empty_sink room step fails = record { held = []; room = room; step = step; fails = fails; calls = 0; faults = 0 }

-- the next call is one that is to fail
abbrev pub is_to_fail : List ℕ → ℕ → Bool
is_to_fail fails calls = list_any (nat_eq (raised calls)) fails

-- the bytes that the next read gives into so much space
abbrev pub read_by : Input → ℕ → List ℕ
read_by input space = take (min input.step space) input.left

-- a source after a read into so much space
abbrev pub after_read : Input → ℕ → Input
after_read input space =
    if is_to_fail input.fails input.calls
    then record input { calls = raised input.calls; faults = raised input.faults }
    else record input { left = drop (min input.step space) input.left; calls = raised input.calls }

-- the next write of these bytes fails: it is to fail, or the sink is full
abbrev pub is_refused : Output → List ℕ → Bool
is_refused output bytes = is_to_fail output.fails output.calls || (nat_lt 0 (length bytes) && nat_eq (length output.held) output.room)

-- the bytes that the next write of these bytes takes
abbrev pub taken_by : Output → List ℕ → List ℕ
taken_by output bytes = take (min output.step (output.room - length output.held)) bytes

-- a sink after a write of these bytes
abbrev pub after_write : Output → List ℕ → Output
after_write output bytes =
    if is_refused output bytes
    then record output { calls = raised output.calls; faults = raised output.faults }
    else record output { held = output.held ++ taken_by output bytes; calls = raised output.calls }
