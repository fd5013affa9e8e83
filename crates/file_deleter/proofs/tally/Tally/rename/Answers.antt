use Rattle.std.proofs.Common.{◌≡◌, ◌+◌, ◌<◌, List, ap, sym, subst, arith}
use Rattle.disk_model.specs.Disk.{Name, is_among}
use Rattle.file_deleter.specs.Holdings.{Holdings, count_of}
use Rattle.file_deleter.specs.Tally.{HasRoom, holdings_of}
use Rattle.file_deleter.proofs.Sounding.{apart_counts}
use Rattle.file_deleter.proofs.Writing.{renames_ok, renames_err}
use Rattle.file_deleter.proofs.tally.Tally.rename.Goals as goal

pub returns-in-Err-clause-renames : goal.returns-in-Err-clause-renames
returns-in-Err-clause-renames g c = rw (← c.in_ok-reserve.ensures.holdings)
    (renames_err _ _ _ _ _ _ _ c.in_ok-retry.ensures.retried (apart_counts _ _ c.in_ok-reserve.ensures.sound.order) (apart_counts _ _ c.in_ok-retry.ensures.sound.order) c.in-Err.fault c.in-Err.ensures.cells)

pub shift-requires-clause-room : goal.shift-requires-clause-room
shift-requires-clause-room g c =
    let r : HasRoom c.retry.new.self (1 + c.args.self.now.places) = c.in_ok-retry.ensures.room _ c.in_ok-reserve.ensures.room in
    record { counts = omega (arith, r.counts); due = omega (arith, r.due); fallen = omega (arith, r.fallen) }

pub returns-in-Ok-clause-renames : goal.returns-in-Ok-clause-renames
returns-in-Ok-clause-renames g c =
    let same_before = sym c.in_ok-reserve.ensures.holdings in
    let counted : 0 < count_of (holdings_of c.reserve.new.self) c.args.from.now = subst (λ (h : Holdings). 0 < count_of h c.args.from.now) same_before c.requires.counted in
    let free : count_of (holdings_of c.reserve.new.self) c.args.to.now ≡ 0 = subst (λ (h : Holdings). count_of h c.args.to.now ≡ 0) same_before c.requires.free in
    rw (← c.in_ok-reserve.ensures.holdings)
    (renames_ok _ _ _ _ _ _ _ c.in_ok-retry.ensures.retried (apart_counts _ _ c.in_ok-reserve.ensures.sound.order) (apart_counts _ _ c.in_ok-retry.ensures.sound.order) _ c.in-Ok.ensures.cells
    counted free c.in_ok-retry.ensures.done c.shift.ensures.moves (λ q. ap (λ (ns : List Name). is_among ns q) c.shift.ensures.due))
