-- The files of segments are none of a commit and none that is being copied.
use Rattle.std.proofs.Common.{◌≡◌, ◌≢◌, ◌<◌, ◌++◌, ◌∷◌, ℕ, zero, suc, true, true≢false, List, None, is_some, get_or, codes, refl, ap, ◌∙◌, sym, arith}
use Rattle.std.specs.Prelude.{not, nat_eq}
use Rattle.std.specs.List.{list_all}
use Rattle.file_names.specs.Base36.{base36_of}
use Rattle.file_names.specs.Names.{part_name_of, live_name_of, temp_name_of}
use Rattle.file_names.specs.declared.composed.SegPart.{SegPart}
use Rattle.file_names.specs.declared.composed.SegPart.TheVariants.{Docs, Post, Info}
use Rattle.file_names.proofs.NameLaws.{cut_last, part_name_not_commit, part_name_not_pending, live_name_not_commit, live_name_not_pending}
use Rattle.disk_model.specs.Disk.{Name, Content, Cells}
use Rattle.file_deleter.specs.Holdings.{Holdings, count_of}
use Rattle.file_deleter.proofs.Keeping.{known_counted}
use Rattle.commit_steps.specs.declared.stage.CommitBook.{CommitBook}
use Rattle.searcher_switch.specs.Node.{IsWholeNode}
use Rattle.replica_node.specs.Given.{IsLasting}
use Rattle.replica_node.specs.Sources.{HeldReadAs}

-- a name with another ending than `.tmp` is no temporary one
ends_apart : (front : List ℕ) (ending : List ℕ) (name : Name) (job : ℕ) → list_all (λ b. not (nat_eq b 46)) ending ≡ true → get_or ending 0 0 ≢ 116 → front ++ 46 ∷ ending ≢ temp_name_of name job
ends_apart front ending name job plain other is =
    let same : ending ≡ codes "tmp" = (cut_last 46 front (name ++ codes "_" ++ base36_of job) ending (codes "tmp") plain refl is).1 in
    other (ap (λ (xs : List ℕ). get_or xs 0 0) same)

part_apart : (seg : ℕ) (part : SegPart) (name : Name) (job : ℕ) → part_name_of seg part ≢ temp_name_of name job
part_apart seg Docs name job is = ends_apart (codes "_" ++ base36_of seg) (codes "docs") name job refl (λ e. omega (arith, e)) is
part_apart seg Post name job is = ends_apart (codes "_" ++ base36_of seg) (codes "post") name job refl (λ e. omega (arith, e)) is
part_apart seg Info name job is = ends_apart (codes "_" ++ base36_of seg) (codes "si") name job refl (λ e. omega (arith, e)) is

pub part_lasts : (seg : ℕ) (part : SegPart) → IsLasting (part_name_of seg part)
part_lasts seg part = record { commit = part_name_not_commit seg part; pending = part_name_not_pending seg part; temporary = λ name job is. part_apart seg part name job is }

pub live_lasts : (seg live_gen : ℕ) → IsLasting (live_name_of seg live_gen)
live_lasts seg live_gen = record {
  commit = live_name_not_commit seg live_gen;
  pending = live_name_not_pending seg live_gen;
  temporary = λ name job is. ends_apart (codes "_" ++ base36_of seg ++ codes "_" ++ base36_of live_gen) (codes "liv") name job refl (λ e. omega (arith, e)) is;
}

-- what means nothing is not held where what is held reads as it means
pub unheld : (source : Name → Content) (cells : Cells) (holdings : Holdings) (others : List Name) (book : CommitBook) → IsWholeNode cells holdings others book → HeldReadAs source cells holdings
    → (name : Name) → IsLasting name → source name ≡ None → count_of holdings name ≡ 0
unheld source cells holdings others book whole held name lasting none = by (count_of holdings name) refl
  where
    by : (k : ℕ) → count_of holdings name ≡ k → k ≡ 0
    by zero is = refl
    by (suc k) is =
        let some : 0 < count_of holdings name = omega (arith, is) in
        let there : is_some (cells name).now ≡ true = whole.whole.names name ∙ known_counted holdings name some in
        absurd (true≢false (sym there ∙ ap is_some (held.each name lasting some ∙ none)))
