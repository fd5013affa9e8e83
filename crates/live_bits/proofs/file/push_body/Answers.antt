use Rattle.std.proofs.Common.{List, ◌++◌, Bool, refl, subst}
use Rattle.body_forms.specs.Numbers.{u32_bytes}
use Rattle.live_bits.specs.LiveRows.{SpellsLiveRows}
use Rattle.live_bits.proofs.Bodies.{spelled, put_together}
use Rattle.live_bits.proofs.file.push_body.Goals as goal

pub returns : goal.returns
returns c =
    let a = c.in_ok-push_u32.ensures in
    let b = c.in_ok-push_u32-2.ensures in
    let e = c.in_ok-extend_from_slice.ensures in
    let held = c.live.inside in
    let body = u32_bytes held.rows ++ (u32_bytes held.live ++ held.bits.items) in
    record {
      body = body;
      added = put_together c.args.out.now.items c.push_u32.new.out.items c.push_u32-2.new.out.items c.extend_from_slice.new.self.items held.rows held.live c.deref.result.now held.bits.items a.ok b.ok e.items c.deref.ensures.value;
      spelled = subst (λ (live : List Bool). SpellsLiveRows body live) c.live.view_is (spelled body held.bits.items held.rows held.live c.live.invariant refl);
    }
