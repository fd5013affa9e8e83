use Rattle.std.proofs.Common.{◌≡◌, ◌<◌, ◌^◌, true, drop}
use Rattle.std.specs.List.{list_all}
use Rattle.file_names.specs.Base36.{is_base36_digit, value_after, base36_value}
use Rattle.file_names.proofs.radix.value_of.Given as goal

abbrev pub invariant-loop-byte : goal.invariant-loop-byte
invariant-loop-byte l = record {
  digits : list_all is_base36_digit (drop l.byte-index l.digits) ≡ true;
  below : l.value < 2 ^ 64;
  whole : value_after l.value (drop l.byte-index l.digits) ≡ base36_value l.digits;
}
