-- Files that a call counts for the first time, and those that are not written yet.
use Rattle.std.proofs.Common.{◌≡◌, ◌<◌, ℕ, List, [], ◌++◌, ◌⊎◌, inl, inr, Option, None, Result, Ok, Err, refl, ap, subst, ◌∙◌, arith}
use Rattle.std.specs.List.{Contains}
use Rattle.std.proofs.lemmas.Bool.{lt-ltb}
use Rattle.disk_model.specs.Disk.{Name, Cells}
use Rattle.segment_infos.specs.declared.infos.SegRecord.{SegRecord}
use Rattle.segment_infos.specs.declared.infos.Infos.{Infos}
use Rattle.file_deleter.specs.Holdings.{times}
use Rattle.file_deleter.proofs.NameLemmas.{among_is}
use Rattle.commit_steps.proofs.Safe.{contains_of}
use Rattle.commit_steps.specs.Book.{book_names}
use Rattle.commit_steps.specs.declared.stage.CommitBook.{CommitBook}
use Rattle.searcher_switch.specs.Node.{AddsOnly}
use Rattle.index_primary.specs.declared.parts.PrimaryParts.{PrimaryParts}
use Rattle.index_primary.specs.declared.parts.Publish.{Publish}
use Rattle.index_primary.specs.Held.{IsUndrawn, IsUnused, IsNextLive, part, live, next_live}
use Rattle.index_primary.specs.Primary.{publish_loose, rest_loose, loose_of, filled_of, IsUnwritten, primary_names, IsPrimary}
use Rattle.index_primary.specs.Calls.{KeepsPoint, FillsUndrawn, DrawsOnly, HoldsNoNew}
use Rattle.index_primary.proofs.Keeping.{counts_same}
use Rattle.std.proofs.lemmas.List.Elements.{Contains-append_right}

-- what holds beside a refusal holds where there is none
pub where_ok : {V E : Type 0} (r : Result V E) (v : V) (e : E) (P : Type 0) → r ≡ Ok v → (r ≡ Err e) ⊎ P → P
where_ok r v e P is (inl refused) = absurd cc
where_ok r v e P is (inr holds) = holds

-- a name that a list has so often is in it
pub named_of : (names : List Name) (q : Name) → 0 < times names q → Contains names q
named_of names q some = contains_of names q (among_is names q ∙ lt-ltb 0 (times names q) some)

pub undrawn_of : (infos other : Infos) (loose still filled left : List ℕ) → ((seg : ℕ) → IsUnused other still seg → IsUnused infos loose seg) → ((seg : ℕ) → IsUnused other still seg → (Contains left seg → ⊥) → Contains filled seg → ⊥)
    → ((r : SegRecord) (live_gen : ℕ) → IsNextLive other r live_gen → IsNextLive infos r live_gen)
    → (q : Name) → IsUndrawn other still left q → IsUndrawn infos loose filled q
undrawn_of infos other loose still filled left unused outs lives q (part seg which u out e) = part seg which (unused seg u) (outs seg u out) e
undrawn_of infos other loose still filled left unused outs lives q (live seg live_gen u small e) = live seg live_gen (unused seg u) small e
undrawn_of infos other loose still filled left unused outs lives q (next_live r live_gen is e) = next_live r live_gen (lives r live_gen is) e

-- what is loose beside a publish
pub behind_loose : (infos : Infos) (first rest : List ℕ) (seg : ℕ) → IsUnused infos rest seg → IsUnused infos (first ++ rest) seg
behind_loose infos first rest seg (small, inl le) = (small, inl le)
behind_loose infos first rest seg (small, inr c) = (small, inr (Contains-append_right first rest seg c))

module _ {D : Type 0} (cells : D → Cells) (p n : PrimaryParts D) where
  -- where a primary names no more, it counts no other file
  pub no_new_named : IsPrimary cells p → IsPrimary cells n → n.commits ≡ p.commits → AddsOnly [] (primary_names p) (primary_names n) → HoldsNoNew p n
  no_new_named is now same only = record {
    each = λ q none.
        let book : times (book_names n.commits) q ≡ times (book_names p.commits) q = ap (λ (b : CommitBook). times (book_names b) q) same in
        let zero : times (primary_names p) q ≡ 0 = omega (arith, none, is.node.counts q) in
        omega (arith, none, is.node.counts q, now.node.counts q, book, only.each q zero refl);
  }

  -- a publish that ends without a point counts no file, and no file is unwritten after it that was not before
  pub kept_fills : IsPrimary cells p → IsPrimary cells n → KeepsPoint p n → FillsUndrawn p n
  kept_fills is now kept = record { each = λ q none some. let same = (counts_same cells p n is now kept).each q in absurd (omega (arith, none, some, same)) }

  pub kept_draws : KeepsPoint p n → (n.publish ≡ None) ⊎ (n.publish ≡ p.publish) → DrawsOnly p n
  kept_draws kept ended = record { each = each }
    where
      rest : rest_loose n ≡ rest_loose p
      rest = ap (λ (x : PrimaryParts D). rest_loose x) kept

      infos : n.infos ≡ p.infos
      infos = ap (λ (x : PrimaryParts D). x.infos) kept

      filled : filled_of n ≡ filled_of p
      filled = ap (λ (x : PrimaryParts D). filled_of x) kept

      each : (q : Name) → IsUnwritten n q → IsUnwritten p q
      each q undrawn = elim ended [
        | inl none ↦
            let loose : loose_of n ≡ rest_loose p = ap (λ (o : Option Publish). publish_loose o ++ rest_loose n) none ∙ rest in
            undrawn_of p.infos p.infos (loose_of p) (rest_loose p) (filled_of p) (filled_of p) (behind_loose p.infos (publish_loose p.publish) (rest_loose p)) (λ seg u out. out) (λ r live_gen h. h) q
            (subst (λ (fs : List ℕ). IsUndrawn p.infos (rest_loose p) fs q) filled (subst (λ (i : Infos). IsUndrawn i (rest_loose p) (filled_of n) q) infos (subst (λ (ls : List ℕ). IsUndrawn n.infos ls (filled_of n) q) loose undrawn)))
        | inr same ↦
            let loose : loose_of n ≡ loose_of p = ap (λ (o : Option Publish). publish_loose o ++ rest_loose n) same ∙ ap (λ (ls : List ℕ). publish_loose p.publish ++ ls) rest in
            subst (λ (fs : List ℕ). IsUndrawn p.infos (loose_of p) fs q) filled (subst (λ (i : Infos). IsUndrawn i (loose_of p) (filled_of n) q) infos (subst (λ (ls : List ℕ). IsUndrawn n.infos ls (filled_of n) q) loose undrawn))
      ]

-- where nothing changes
pub same_fills : {D : Type 0} (p : PrimaryParts D) → FillsUndrawn p p
same_fills p = record { each = λ q none some. absurd (omega (arith, none, some)) }

pub same_draws : {D : Type 0} (p : PrimaryParts D) → DrawsOnly p p
same_draws p = record { each = λ q undrawn. undrawn }

pub same_no_new : {D : Type 0} (p : PrimaryParts D) → HoldsNoNew p p
same_no_new p = record { each = λ q none. none }
