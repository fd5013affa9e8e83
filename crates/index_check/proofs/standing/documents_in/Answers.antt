use Rattle.std.proofs.Common.{List, sym, subst, inr}
use Rattle.std.specs.List.Sorted.{IsPermutation}
use Rattle.nrt_base.specs.declared.doc.Doc.{Doc}
use Rattle.seg_reader.specs.Shown.{IsInKeyOrder}
use Rattle.index_check.specs.declared.rows.LiveRow.{LiveRow}
use Rattle.index_check.specs.Rows.{HaveOwnKeys, IsFirstTwin}
use Rattle.index_check.proofs.standing.documents_in.Goals as goal

pub returns-in_ok-key-in-Some-clause-fault : goal.returns-in_ok-key-in-Some-clause-fault
returns-in_ok-key-in-Some-clause-fault c =
    let twin = rw c.in-Some.is at c.in_ok-twin.ensures in
    inr (record {
      twin = c.in-Some.twin.now;
      first = subst (λ (rows : List LiveRow). IsFirstTwin rows c.in-Some.twin.now) c.as_slice.ensures.value twin;
      name_is = c.part_name.ensures.name;
      key_is = c.in_ok-key-in-Some.ensures;
    })

pub returns-in_ok-docs-in-None-clause-docs : goal.returns-in_ok-docs-in-None-clause-docs
returns-in_ok-docs-in-None-clause-docs c =
    let own = rw c.in-None.is at c.in_ok-twin.ensures in
    record {
      own = subst HaveOwnKeys c.as_slice.ensures.value own;
      same = subst (λ (ds : List Doc). IsPermutation ds c.from_vec.result) c.in_ok-docs-in-None.ensures (subst (IsPermutation c.in_ok-docs-in-None.docs.items) (sym c.from_vec.ensures) c.in_order.ensures.same);
      in_order = subst IsInKeyOrder (sym c.from_vec.ensures) c.in_order.ensures.in_order;
    }
