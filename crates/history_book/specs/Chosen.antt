-- That a merge takes the first range of the primary's segments that is due, by the sizes that its entry tells.
use Rattle.std.specs.Prelude.{ℕ, ◌≡◌, List, map, take, drop, Option, Some}
use Rattle.nrt_base.specs.declared.numbers.At.{At}
use Rattle.nrt_base.specs.declared.numbers.SegNo.{SegNo}
use Rattle.seg_reader.specs.Given.{live_rows}
use Rattle.seg_reader.specs.Shown.{Shown}
use Rattle.merge_choice.specs.Choice.{IsFirstRange}
use Rattle.history_book.specs.declared.inner.Inner.TheVariants.{MergeOut}
use Rattle.history_book.specs.declared.inner.Mark.{Mark}
use Rattle.history_book.specs.declared.inner.Mark.TheVariants.{Kept}

-- the sizes of segments that no merge has: their live rows
abbrev pub input_sizes : List Shown → List (Option ℕ)
input_sizes inputs = map (λ s. Some (live_rows s.live)) inputs

-- the inputs are as many neighbours as the factor, of the first range that is due by these sizes
pub record TakesFirst (factor : ℕ) (sizes : List (Option ℕ)) (inputs : List Shown) : Type 0 where
  pub from : ℕ
  pub first : IsFirstRange factor sizes from
  pub taken : take factor (drop from sizes) ≡ input_sizes inputs

-- the entry right behind the start of a merge hands it out, with inputs that are the first range by the sizes in it
pub record HandsOutFirst (factor : ℕ) (at : At) (seg : SegNo) (behind : Option Mark) : Type 0 where
  pub inputs : List Shown
  pub sizes : List (Option ℕ)
  pub out : behind ≡ Some (Kept (MergeOut at.line seg inputs sizes))
  pub takes : TakesFirst factor sizes inputs
