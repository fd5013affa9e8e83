use Rattle.known_past.proofs.past.KnownPast.was_replica.Goals as goal

pub returns-then-is_as_then : goal.returns-then-is_as_then
returns-then-is_as_then c =
    let same = c.is_as_then.ensures c.if-is_as_then.true in
    (λ now. same.0 (c.is_replica.ensures.0 now), λ was. c.is_replica.ensures.1 (same.1 was))
