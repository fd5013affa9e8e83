-- A rename puts the file under its new name, and then takes it from the old one.
use Rattle.std.proofs.Common.{◌≡◌, ◌≢◌, true, None, is_some, sym, ap, ◌∙◌, true≢false}
use Rattle.disk_model.specs.Disk.{Name, put}
use Rattle.disk_model.proofs.CellLemmas.{put_apart}
use Rattle.disk_memory.specs.Held.{Held, content_of}
use Rattle.disk_memory.specs.Table.{Table}

-- a name that has a file and one that has none differ
names_apart : (old : Table) (from to : Name) → is_some (content_of (old from).state) ≡ true → content_of (old to).state ≡ None → to ≢ from
names_apart old from to there free e = true≢false (sym there ∙ ap (λ (q : Name). is_some (content_of (old q).state)) (sym e) ∙ ap is_some free)

still : (old mid : Table) (from to : Name) (h : Held) → is_some (content_of (old from).state) ≡ true → content_of (old to).state ≡ None → mid ≡ put old to h → mid from ≡ old from
still old mid from to h there free e = ap (λ (table : Table). table from) e ∙ put_apart old to h from (names_apart old from to there free)

-- the source is there still
pub there_still : (old mid : Table) (from to : Name) (h : Held) → is_some (content_of (old from).state) ≡ true → content_of (old to).state ≡ None → mid ≡ put old to h
    → is_some (content_of (mid from).state) ≡ true
there_still old mid from to h there free e = ap (λ (k : Held). is_some (content_of k.state)) (still old mid from to h there free e) ∙ there

-- a change of the target and then one of the source
pub both_put : (old mid new : Table) (from to : Name) (h : Held) (f : Held → Held) → is_some (content_of (old from).state) ≡ true → content_of (old to).state ≡ None
    → mid ≡ put old to h → new ≡ put mid from (f (mid from)) → new ≡ put (put old to h) from (f (old from))
both_put old mid new from to h f there free first second =
    second ∙ ap (λ (k : Held). put mid from (f k)) (still old mid from to h there free first) ∙ ap (λ (table : Table). put table from (f (old from))) first
