use Rattle.std.proofs.Common.{◌≡◌, ◌∙◌, Some, Bor, sym, ap}
use Rattle.std.specs.Option.{option_map}
use Rattle.copy_state.specs.declared.state.CopyState.{CopyState}
use Rattle.copy_job.specs.Jobs.{Job}
use Rattle.replica_node.specs.Merges.{copy_at}
use Rattle.replica_node.proofs.Naming.{placeable_some, unplaced_whole, unplaced_places, placing_whole, placing_standing, placing_sourced, placing_held, placing_places, placing_appears}
use Rattle.replica_node.proofs.settling.place_copy.Goals as goal

pub place-requires-clause-placeable : goal.place-requires-clause-placeable
place-requires-clause-placeable g c = placeable_some g.D.Dir.cells c.args.parts.now c.requires.whole c.args.job c.requires.complete

pub returns-in_default-note_wanted-clause-whole : goal.returns-in_default-note_wanted-clause-whole
returns-in_default-note_wanted-clause-whole g c =
    let p = c.args.parts.now in
    let looked : copy_at c.args.job p.copies.running ≡ Some c.in-Some.copy.now = sym c.copy.ensures ∙ ap (option_map (λ (b : Bor Job). b.now)) c.in-Some.is in
    let wanted : c.as_slice.result.now ≡ c.in-Some.copy.now.want.files = c.as_slice.ensures ∙ ap (λ (w : CopyState). w.files) c.want.ensures in
    unplaced_whole g.D.Dir.cells p c.requires.whole c.args.job c.in-Some.copy.now looked c.requires.complete c.note_wanted.new.known c.as_slice.result.now wanted c.note_wanted.ensures.some

pub returns-in_default-note_wanted-clause-places : goal.returns-in_default-note_wanted-clause-places
returns-in_default-note_wanted-clause-places g c =
    let p = c.args.parts.now in
    let looked : copy_at c.args.job p.copies.running ≡ Some c.in-Some.copy.now = sym c.copy.ensures ∙ ap (option_map (λ (b : Bor Job). b.now)) c.in-Some.is in
    let wanted : c.as_slice.result.now ≡ c.in-Some.copy.now.want.files = c.as_slice.ensures ∙ ap (λ (w : CopyState). w.files) c.want.ensures in
    unplaced_places g.D.Dir.cells p c.requires.whole c.args.job c.in-Some.copy.now looked c.requires.complete c.note_wanted.new.known c.as_slice.result.now wanted c.note_wanted.ensures.some _ _ _

pub returns-in-Ok-place-clause-whole : goal.returns-in-Ok-place-clause-whole
returns-in-Ok-place-clause-whole g c =
    let p = c.args.parts.now in
    let looked : copy_at c.args.job p.copies.running ≡ Some c.in-Some.copy.now = sym c.copy.ensures ∙ ap (option_map (λ (b : Bor Job). b.now)) c.in-Some.is in
    let wanted : c.as_slice.result.now ≡ c.in-Some.copy.now.want.files = c.as_slice.ensures ∙ ap (λ (w : CopyState). w.files) c.want.ensures in
    placing_whole g.D.Dir.cells p c.requires.whole c.args.job c.in-Some.copy.now looked c.requires.complete c.note_wanted.new.known c.as_slice.result.now wanted c.note_wanted.ensures.some c.in-Ok.ensures.all _ c.place.new.dir c.place.new.files c.place.new.self c.in-Ok-place.ensures.copy

pub returns-in-Ok-place-clause-standing : goal.returns-in-Ok-place-clause-standing
returns-in-Ok-place-clause-standing g c =
    let p = c.args.parts.now in
    let looked : copy_at c.args.job p.copies.running ≡ Some c.in-Some.copy.now = sym c.copy.ensures ∙ ap (option_map (λ (b : Bor Job). b.now)) c.in-Some.is in
    let wanted : c.as_slice.result.now ≡ c.in-Some.copy.now.want.files = c.as_slice.ensures ∙ ap (λ (w : CopyState). w.files) c.want.ensures in
    placing_standing g.D.Dir.cells p c.requires.whole c.args.job c.in-Some.copy.now looked c.requires.complete c.note_wanted.new.known c.as_slice.result.now wanted c.note_wanted.ensures.some c.in-Ok.ensures.all _ c.place.new.dir c.place.new.files c.place.new.self c.in-Ok-place.ensures.copy

pub returns-in-Ok-place-clause-sourced : goal.returns-in-Ok-place-clause-sourced
returns-in-Ok-place-clause-sourced g c =
    let p = c.args.parts.now in
    let looked : copy_at c.args.job p.copies.running ≡ Some c.in-Some.copy.now = sym c.copy.ensures ∙ ap (option_map (λ (b : Bor Job). b.now)) c.in-Some.is in
    let wanted : c.as_slice.result.now ≡ c.in-Some.copy.now.want.files = c.as_slice.ensures ∙ ap (λ (w : CopyState). w.files) c.want.ensures in
    placing_sourced g.D.Dir.cells p c.requires.whole c.args.job c.in-Some.copy.now looked c.requires.complete c.note_wanted.new.known c.as_slice.result.now wanted c.note_wanted.ensures.some c.in-Ok.ensures.all _ c.place.new.dir c.place.new.files c.place.new.self c.in-Ok-place.ensures.copy

pub returns-in-Ok-place-clause-held : goal.returns-in-Ok-place-clause-held
returns-in-Ok-place-clause-held g c =
    let p = c.args.parts.now in
    let looked : copy_at c.args.job p.copies.running ≡ Some c.in-Some.copy.now = sym c.copy.ensures ∙ ap (option_map (λ (b : Bor Job). b.now)) c.in-Some.is in
    let wanted : c.as_slice.result.now ≡ c.in-Some.copy.now.want.files = c.as_slice.ensures ∙ ap (λ (w : CopyState). w.files) c.want.ensures in
    placing_held g.D.Dir.cells p c.requires.whole c.args.job c.in-Some.copy.now looked c.requires.complete c.note_wanted.new.known c.as_slice.result.now wanted c.note_wanted.ensures.some c.in-Ok.ensures.all _ c.place.new.dir c.place.new.files c.place.new.self c.in-Ok-place.ensures.copy

pub returns-in-Ok-place-clause-places : goal.returns-in-Ok-place-clause-places
returns-in-Ok-place-clause-places g c =
    let p = c.args.parts.now in
    let looked : copy_at c.args.job p.copies.running ≡ Some c.in-Some.copy.now = sym c.copy.ensures ∙ ap (option_map (λ (b : Bor Job). b.now)) c.in-Some.is in
    let wanted : c.as_slice.result.now ≡ c.in-Some.copy.now.want.files = c.as_slice.ensures ∙ ap (λ (w : CopyState). w.files) c.want.ensures in
    placing_places g.D.Dir.cells p c.requires.whole c.args.job c.in-Some.copy.now looked c.requires.complete c.note_wanted.new.known c.as_slice.result.now wanted c.note_wanted.ensures.some c.in-Ok.ensures.all _ c.place.new.dir c.place.new.files c.place.new.self c.in-Ok-place.ensures.copy

pub returns-in-Ok-place-clause-appears : goal.returns-in-Ok-place-clause-appears
returns-in-Ok-place-clause-appears g c =
    let p = c.args.parts.now in
    let looked : copy_at c.args.job p.copies.running ≡ Some c.in-Some.copy.now = sym c.copy.ensures ∙ ap (option_map (λ (b : Bor Job). b.now)) c.in-Some.is in
    let wanted : c.as_slice.result.now ≡ c.in-Some.copy.now.want.files = c.as_slice.ensures ∙ ap (λ (w : CopyState). w.files) c.want.ensures in
    placing_appears g.D.Dir.cells p c.requires.whole c.args.job c.in-Some.copy.now looked c.requires.complete c.note_wanted.new.known c.as_slice.result.now wanted c.note_wanted.ensures.some c.in-Ok.ensures.all _ c.place.new.dir c.place.new.files c.place.new.self c.in-Ok-place.ensures.copy

pub returns-in-Err-clause-whole : goal.returns-in-Err-clause-whole
returns-in-Err-clause-whole g c =
    let p = c.args.parts.now in
    let looked : copy_at c.args.job p.copies.running ≡ Some c.in-Some.copy.now = sym c.copy.ensures ∙ ap (option_map (λ (b : Bor Job). b.now)) c.in-Some.is in
    let wanted : c.as_slice.result.now ≡ c.in-Some.copy.now.want.files = c.as_slice.ensures ∙ ap (λ (w : CopyState). w.files) c.want.ensures in
    placing_whole g.D.Dir.cells p c.requires.whole c.args.job c.in-Some.copy.now looked c.requires.complete c.note_wanted.new.known c.as_slice.result.now wanted c.note_wanted.ensures.some c.in-Ok.ensures.all _ c.place.new.dir c.place.new.files c.place.new.self c.in-Err.ensures.copy

pub returns-in-Err-clause-standing : goal.returns-in-Err-clause-standing
returns-in-Err-clause-standing g c =
    let p = c.args.parts.now in
    let looked : copy_at c.args.job p.copies.running ≡ Some c.in-Some.copy.now = sym c.copy.ensures ∙ ap (option_map (λ (b : Bor Job). b.now)) c.in-Some.is in
    let wanted : c.as_slice.result.now ≡ c.in-Some.copy.now.want.files = c.as_slice.ensures ∙ ap (λ (w : CopyState). w.files) c.want.ensures in
    placing_standing g.D.Dir.cells p c.requires.whole c.args.job c.in-Some.copy.now looked c.requires.complete c.note_wanted.new.known c.as_slice.result.now wanted c.note_wanted.ensures.some c.in-Ok.ensures.all _ c.place.new.dir c.place.new.files c.place.new.self c.in-Err.ensures.copy

pub returns-in-Err-clause-sourced : goal.returns-in-Err-clause-sourced
returns-in-Err-clause-sourced g c =
    let p = c.args.parts.now in
    let looked : copy_at c.args.job p.copies.running ≡ Some c.in-Some.copy.now = sym c.copy.ensures ∙ ap (option_map (λ (b : Bor Job). b.now)) c.in-Some.is in
    let wanted : c.as_slice.result.now ≡ c.in-Some.copy.now.want.files = c.as_slice.ensures ∙ ap (λ (w : CopyState). w.files) c.want.ensures in
    placing_sourced g.D.Dir.cells p c.requires.whole c.args.job c.in-Some.copy.now looked c.requires.complete c.note_wanted.new.known c.as_slice.result.now wanted c.note_wanted.ensures.some c.in-Ok.ensures.all _ c.place.new.dir c.place.new.files c.place.new.self c.in-Err.ensures.copy

pub returns-in-Err-clause-held : goal.returns-in-Err-clause-held
returns-in-Err-clause-held g c =
    let p = c.args.parts.now in
    let looked : copy_at c.args.job p.copies.running ≡ Some c.in-Some.copy.now = sym c.copy.ensures ∙ ap (option_map (λ (b : Bor Job). b.now)) c.in-Some.is in
    let wanted : c.as_slice.result.now ≡ c.in-Some.copy.now.want.files = c.as_slice.ensures ∙ ap (λ (w : CopyState). w.files) c.want.ensures in
    placing_held g.D.Dir.cells p c.requires.whole c.args.job c.in-Some.copy.now looked c.requires.complete c.note_wanted.new.known c.as_slice.result.now wanted c.note_wanted.ensures.some c.in-Ok.ensures.all _ c.place.new.dir c.place.new.files c.place.new.self c.in-Err.ensures.copy

pub returns-in-Err-clause-places : goal.returns-in-Err-clause-places
returns-in-Err-clause-places g c =
    let p = c.args.parts.now in
    let looked : copy_at c.args.job p.copies.running ≡ Some c.in-Some.copy.now = sym c.copy.ensures ∙ ap (option_map (λ (b : Bor Job). b.now)) c.in-Some.is in
    let wanted : c.as_slice.result.now ≡ c.in-Some.copy.now.want.files = c.as_slice.ensures ∙ ap (λ (w : CopyState). w.files) c.want.ensures in
    placing_places g.D.Dir.cells p c.requires.whole c.args.job c.in-Some.copy.now looked c.requires.complete c.note_wanted.new.known c.as_slice.result.now wanted c.note_wanted.ensures.some c.in-Ok.ensures.all _ c.place.new.dir c.place.new.files c.place.new.self c.in-Err.ensures.copy

pub returns-in-Err-clause-appears : goal.returns-in-Err-clause-appears
returns-in-Err-clause-appears g c =
    let p = c.args.parts.now in
    let looked : copy_at c.args.job p.copies.running ≡ Some c.in-Some.copy.now = sym c.copy.ensures ∙ ap (option_map (λ (b : Bor Job). b.now)) c.in-Some.is in
    let wanted : c.as_slice.result.now ≡ c.in-Some.copy.now.want.files = c.as_slice.ensures ∙ ap (λ (w : CopyState). w.files) c.want.ensures in
    placing_appears g.D.Dir.cells p c.requires.whole c.args.job c.in-Some.copy.now looked c.requires.complete c.note_wanted.new.known c.as_slice.result.now wanted c.note_wanted.ensures.some c.in-Ok.ensures.all _ c.place.new.dir c.place.new.files c.place.new.self c.in-Err.ensures.copy
