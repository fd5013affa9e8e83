use Rattle.body_forms.proofs.TableTests.{Rises}
use Rattle.body_forms.proofs.item_table.is_item_table.Given as goal

abbrev pub invariant-loop-i : goal.invariant-loop-i
invariant-loop-i l = Rises l.bytes l.i
