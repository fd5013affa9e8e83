-- The parts of a job while they arrive.
use Rattle.std.proofs.Common.{◌≡◌, ◌≢◌, ◌^◌, ◌⊎◌, ℕ, zero, suc, ◌+◌, ◌<◌, ◌≤◌, not, Bool, true, false, List, [], ◌∷◌, Some, cond, refl, sym, ap, subst, ◌∙◌, arith, inl, inr}
use Rattle.std.specs.Prelude.{Contains, filter, insert}
use Rattle.std.specs.List.{flat_map}
use Rattle.std.proofs.lemmas.List.Elements.{All-contains}
use Rattle.file_names.specs.Names.{temp_name_of, is_commit_name, is_pending_name}
use Rattle.file_names.proofs.NameLaws.{temp_name_apart, temp_name_not_commit, temp_name_not_pending}
use Rattle.disk_model.specs.Disk.{Name, same, is_among}
use Rattle.disk_model.proofs.CellLemmas.{same_true}
use Rattle.file_deleter.specs.Holdings.{Holdings, count_of, times}
use Rattle.file_deleter.proofs.NameLemmas.{times-append, times-cons, times_one, same_self, once, times_apart}
use Rattle.segment_infos.specs.declared.infos.Infos.{Infos}
use Rattle.segment_infos.specs.Files.{files_of_segment, AreFilesOf}
use Rattle.segment_infos.proofs.SetLaws.{files_plain}
use Rattle.commit_steps.proofs.Safe.{contains_of}
use Rattle.searcher_switch.specs.Node.{HoldsNoMore}
use Rattle.copy_state.specs.States.{meta_names}
use Rattle.copy_job.specs.declared.part.JobPart.{JobPart}
use Rattle.copy_job.specs.Parts.{part_at, parts_below, present_names, own_names, written_names, placed_to, IsPlaceable, ArePlaceable}
use Rattle.copy_job.specs.Jobs.{Job, IsJob, job_names, with_part}
use Rattle.copy_job.proofs.Placings.{written_is}
use Rattle.replica_node.specs.Replica.{CanPlace}
use Rattle.replica_node.specs.Waiting.{IsLoose, IsWaiting}
use Rattle.replica_node.proofs.Named.{some_among}
use Rattle.replica_node.proofs.Temporary.{file_apart}

-- ---- names
pub own_some : (ps : List JobPart) (i : ℕ) (p : JobPart) → part_at ps i ≡ Some p → 0 < times (own_names ps) p.own
own_some [] i p at = cc
own_some (y ∷ ps) zero p at =
    let e : y ≡ p = cc in
    subst (λ (x : Name). 0 < times (y.own ∷ own_names ps) x) (ap (λ (x : JobPart). x.own) e) (omega (arith, times-cons y.own (own_names ps) y.own, times_self y.own))
  where
    times_self : (q : Name) → times (q ∷ []) q ≡ 1
    times_self q = times_one q q ∙ ap (λ b. cond b 1 0) (same_self q)
own_some (y ∷ ps) (suc i) p at = omega (arith, times-cons y.own (own_names ps) p.own, own_some ps i p at)

one_or_none : (a q : Name) → ((a ≡ q) × (times (a ∷ []) q ≡ 1)) ⊎ (times (a ∷ []) q ≡ 0)
one_or_none a q = by (same a q) refl
  where
    by : (b : Bool) → same a q ≡ b → ((a ≡ q) × (times (a ∷ []) q ≡ 1)) ⊎ (times (a ∷ []) q ≡ 0)
    by true e = inl (same_true a q e, times_one a q ∙ ap (λ b. cond b 1 0) e)
    by false e = inr (times_one a q ∙ ap (λ b. cond b 1 0) e)

self_once : (a : Name) → times (a ∷ []) a ≡ 1
self_once a = times_one a a ∙ ap (λ b. cond b 1 0) (same_self a)

part_put : (ps : List JobPart) (k : ℕ) (x : JobPart) (i : ℕ) (p : JobPart) → part_at (insert ps k x) i ≡ Some p → ((place : ℕ) × (part_at ps place ≡ Some p)) ⊎ (x ≡ p)
part_put [] zero x zero p at = inr (cc)
part_put [] zero x (suc i) p at = absurd (cc)
part_put [] (suc k) x zero p at = inr (cc)
part_put [] (suc k) x (suc i) p at = absurd (cc)
part_put (y ∷ ps) zero x zero p at = inr (cc)
part_put (y ∷ ps) zero x (suc i) p at = inl (i, at)
part_put (y ∷ ps) (suc k) x zero p at = inl (0, at)
part_put (y ∷ ps) (suc k) x (suc i) p at = elim (part_put ps k x i p at) [ inl h ↦ inl (suc h.0, h.1) | inr e ↦ inr e ]

placed_at : (ps : List JobPart) (n k : ℕ) (p : JobPart) → part_at (placed_to n ps) k ≡ Some p → (p.now ≡ p.own) ⊎ (part_at ps k ≡ Some p)
placed_at ps zero k p at = inr at
placed_at [] (suc n) k p at = absurd (cc)
placed_at (y ∷ ps) (suc n) zero p at = inl (let e : record y { now = y.own } ≡ p = cc in subst (λ (x : JobPart). x.now ≡ x.own) e refl)
placed_at (y ∷ ps) (suc n) (suc k) p at = placed_at ps n k p at

-- a name that no part has
no_present : (ps : List JobPart) (q : Name) → ((place : ℕ) (p : JobPart) → part_at ps place ≡ Some p → p.now ≢ q) → times (present_names ps) q ≡ 0
no_present [] q none = refl
no_present (y ∷ ps) q none =
    let rest : times (present_names ps) q ≡ 0 = no_present ps q (λ place p at. none (suc place) p at) in
    omega (arith, rest, times-cons y.now (present_names ps) q, times_one y.now q, times_apart y.now q (none 0 y refl))

-- what is left of names without one of them
pub filtered : (names : List Name) (name q : Name) → 0 < times (filter (λ x. not (same x name)) names) q → 0 < times names q
filtered [] name q some = some
filtered (x ∷ xs) name q some = by (filtered xs name q) (same x name) some
  where
    by : (0 < times (filter (λ x. not (same x name)) xs) q → 0 < times xs q) → (b : Bool) → 0 < times (cond (not b) (x ∷ filter (λ x. not (same x name)) xs) (filter (λ x. not (same x name)) xs)) q → 0 < times (x ∷ xs) q
    by rest true h = omega (arith, rest h, times-cons x xs q)
    by rest false h = split (one_or_none x q)
      where
        split : ((x ≡ q) × (times (x ∷ []) q ≡ 1)) ⊎ (times (x ∷ []) q ≡ 0) → 0 < times (x ∷ xs) q
        split (inl one) = omega (arith, one.1, times-cons x xs q, times_one x q)
        split (inr none) =
            let more : 0 < times xs q = rest (omega (arith, h, none, times-cons x (filter (λ x. not (same x name)) xs) q, times_one x q)) in
            omega (arith, more, times-cons x xs q)

-- ---- the files of a job's state
module _ (infos : Infos) (j : Job) (is : IsJob j) (files : AreFilesOf infos (meta_names j.want.files)) where
  named : (q : Name) → 0 < times (meta_names j.want.files) q → Contains (flat_map files_of_segment infos.segs) q
  named q some = (files.named q).0 (contains_of (meta_names j.want.files) q (some_among (meta_names j.want.files) q some))

  plain : (q : Name) → 0 < times (meta_names j.want.files) q → (is_commit_name q ≡ false) × (is_pending_name q ≡ false)
  plain q some = All-contains (λ n. (is_commit_name n ≡ false) × (is_pending_name n ≡ false)) (meta_names j.want.files) q (files_plain infos (meta_names j.want.files) files)
      (contains_of (meta_names j.want.files) q (some_among (meta_names j.want.files) q some))

  lasting : (q : Name) → 0 < times (meta_names j.want.files) q → (name : Name) (job : ℕ) → q ≢ temp_name_of name job
  lasting q some name job = file_apart infos q (named q some) name job

  pub own_wanted : (place : ℕ) (p : JobPart) → part_at j.parts place ≡ Some p → 0 < times (meta_names j.want.files) p.own
  own_wanted place p at = omega (arith, own_some j.parts place p at, is.each p.own)

  wanted_once : (q : Name) → times (meta_names j.want.files) q ≤ 1
  wanted_once q = once (meta_names j.want.files) q files.ascending

  -- ---- what a finish asks for
  module _ (holdings : Holdings) (waits : IsWaiting holdings j) where
    each_placeable : (place : ℕ) (p : JobPart) → part_at j.parts place ≡ Some p → IsPlaceable holdings p
    each_placeable place p at = elim (waits.each place p at) [ inl e ↦ inl e | inr l ↦ inr (l.once, l.free) ]

    written_plain : (q : Name) → is_among (written_names j.parts) q ≡ true → (is_commit_name q ≡ false) × (is_pending_name q ≡ false)
    written_plain q there =
        let w = written_is j.parts q there in
        elim w.is [
          | inl e ↦ elim (waits.each w.place w.part w.at) [
            | inl f ↦ absurd (w.apart f)
            | inr l ↦ subst (λ (x : Name). (is_commit_name x ≡ false) × (is_pending_name x ≡ false)) (sym l.temporary ∙ e) (temp_name_not_commit w.part.own l.job, temp_name_not_pending w.part.own l.job)
          ]
          | inr e ↦ subst (λ (x : Name). (is_commit_name x ≡ false) × (is_pending_name x ≡ false)) e (plain w.part.own (own_wanted w.place w.part w.at))
        ]

    pub can_place : (others : List Name) → ((q : Name) → count_of holdings q ≡ times others q + times (job_names j) q) → CanPlace holdings j
    can_place others counts = record {
      able = record {
        each = each_placeable;
        counted = λ q. omega (arith, counts q, times-append (present_names j.parts) j.reused q);
        apart = λ q. omega (arith, is.each q, wanted_once q);
      };
      plain = written_plain;
    }

    -- ---- temporary names of other files
    module _ (number : ℕ) (fewer : number < 2 ^ 64) (name : Name) (other : times (own_names j.parts) name ≡ 0) where
      no_foreign : (place : ℕ) (p : JobPart) → part_at j.parts place ≡ Some p → p.now ≢ temp_name_of name number
      no_foreign place p at e = elim (waits.each place p at) [
        | inl own ↦ lasting p.own (own_wanted place p at) name number (sym own ∙ e)
        | inr l ↦ (
            let f : p.own ≡ name = (temp_name_apart p.own name l.job number l.small fewer (sym l.temporary ∙ e)).0 in
            let some : 0 < times (own_names j.parts) name = subst (λ (x : Name). 0 < times (own_names j.parts) x) f (own_some j.parts place p at) in
            absurd (omega (arith, some, other)))
      ]

      foreign_reused : times j.reused (temp_name_of name number) ≡ 0
      foreign_reused = by (times j.reused (temp_name_of name number)) refl
        where
          by : (n : ℕ) → times j.reused (temp_name_of name number) ≡ n → times j.reused (temp_name_of name number) ≡ 0
          by zero e = e
          by (suc n) e =
              let some : 0 < times (meta_names j.want.files) (temp_name_of name number) = omega (arith, e, is.each (temp_name_of name number)) in
              absurd (lasting (temp_name_of name number) some name number refl)

      -- the job holds no temporary file of a file of which it has no part
      pub job_foreign : times (job_names j) (temp_name_of name number) ≡ 0
      job_foreign = omega (arith, no_present j.parts (temp_name_of name number) no_foreign, foreign_reused, times-append (present_names j.parts) j.reused (temp_name_of name number))

    -- ---- the temporary name of a file that is missing
    module _ (few : j.number < 2 ^ 64) (name : Name) (missing : 0 < times j.missing name) where
      no_part : times (own_names j.parts) name ≡ 0
      no_part = omega (arith, missing, is.each name, wanted_once name)

      part_apart : (place : ℕ) (p : JobPart) → part_at j.parts place ≡ Some p → p.now ≢ temp_name_of name j.number
      part_apart = no_foreign j.number few name no_part

      pub job_lacks : times (job_names j) (temp_name_of name j.number) ≡ 0
      job_lacks = job_foreign j.number few name no_part

      pub temp_free : (others : List Name) → times others (temp_name_of name j.number) ≡ 0 → ((q : Name) → count_of holdings q ≡ times others q + times (job_names j) q) → count_of holdings (temp_name_of name j.number) ≡ 0
      temp_free others none counts = omega (arith, counts (temp_name_of name j.number), none, job_lacks)

      -- ---- it arrives
      module _ (new : Holdings) (now : Job) (is_now : now ≡ with_part j name) (free : count_of holdings (temp_name_of name j.number) ≡ 0)
          (counts : (q : Name) → count_of new q ≡ count_of holdings q + times (temp_name_of name j.number ∷ []) q) where
        kept : (q : Name) → 0 < times (meta_names j.want.files) q → count_of new q ≡ count_of holdings q
        kept q some = omega (arith, counts q, times_apart (temp_name_of name j.number) q (λ e. lasting q some name j.number (sym e)))

        old_loose : (place : ℕ) (p : JobPart) → part_at j.parts place ≡ Some p → IsLoose holdings p → IsLoose new p
        old_loose place p at l = record {
          job = l.job;
          small = l.small;
          temporary = l.temporary;
          once = omega (arith, counts p.now, l.once, times_apart (temp_name_of name j.number) p.now (λ e. part_apart place p at (sym e)));
          free = kept p.own (own_wanted place p at) ∙ l.free;
        }

        new_loose : (p : JobPart) → record { own = name; now = temp_name_of name j.number } ≡ p → IsLoose new p
        new_loose p e = subst (IsLoose new) e (record {
          job = j.number;
          small = few;
          temporary = refl;
          once = omega (arith, counts (temp_name_of name j.number), free, self_once (temp_name_of name j.number));
          free = kept name (omega (arith, missing, is.each name)) ∙ waits.missing name missing;
        })

        pub waits_arrived : IsWaiting new now
        waits_arrived = subst (IsWaiting new) (sym is_now) (record {
          each = λ place p at. elim (part_put j.parts (parts_below name j.parts) (record { own = name; now = temp_name_of name j.number }) place p at) [
            | inl old ↦ elim (waits.each old.0 p old.1) [ inl e ↦ inl e | inr l ↦ inr (old_loose old.0 p old.1 l) ]
            | inr e ↦ inr (new_loose p e)
          ];
          missing = λ q some.
              let was : 0 < times j.missing q = filtered j.missing name q some in
              kept q (omega (arith, was, is.each q)) ∙ waits.missing q was;
        })

    -- ---- calls beside the job
    module _ (new : Holdings) (temporary : (name : Name) (number : ℕ) → count_of new (temp_name_of name number) ≡ count_of holdings (temp_name_of name number)) (beside : HoldsNoMore holdings new) where
      still_loose : (place : ℕ) (p : JobPart) → part_at j.parts place ≡ Some p → IsLoose holdings p → IsLoose new p
      still_loose place p at l =
          let own = plain p.own (own_wanted place p at) in
          record {
            job = l.job;
            small = l.small;
            temporary = l.temporary;
            once = ap (count_of new) l.temporary ∙ temporary p.own l.job ∙ sym (ap (count_of holdings) l.temporary) ∙ l.once;
            free = beside.each p.own own.0 own.1 l.free;
          }

      pub waits_beside : IsWaiting new j
      waits_beside = record {
        each = λ place p at. elim (waits.each place p at) [ inl e ↦ inl e | inr l ↦ inr (still_loose place p at l) ];
        missing = λ q some.
            let is_plain = plain q (omega (arith, some, is.each q)) in
            beside.each q is_plain.0 is_plain.1 (waits.missing q some);
      }

    -- ---- the first parts get their own names, as in a finish that is refused
    module _ (new : Holdings) (n : ℕ) (now : Job) (is_now : now ≡ record j { parts = placed_to n j.parts }) (able : ArePlaceable new now.parts) (complete : j.missing ≡ []) where
      still_waits : (place : ℕ) (p : JobPart) → part_at (placed_to n j.parts) place ≡ Some p → IsPlaceable new p → (p.now ≡ p.own) ⊎ IsLoose new p
      still_waits place p at can = elim (placed_at j.parts n place p at) [
        | inl e ↦ inl e
        | inr old ↦ elim (waits.each place p old) [
          | inl e ↦ inl e
          | inr l ↦ elim can [ inl e ↦ inl e | inr h ↦ inr (record { job = l.job; small = l.small; temporary = l.temporary; once = h.0; free = h.1 }) ]
        ]
      ]

      pub waits_placed : IsWaiting new now
      waits_placed = subst (IsWaiting new) (sym is_now) (record {
        each = λ place p at. still_waits place p at ((subst (λ (x : Job). ArePlaceable new x.parts) is_now able).each place p at);
        missing = λ q some. absurd (let z : times j.missing q ≡ 0 = ap (λ (ns : List Name). times ns q) complete in omega (arith, some, z));
      })

-- ---- a job that begins
pub waits_begun : (holdings : Holdings) (j : Job) → j.parts ≡ [] → ((q : Name) → 0 < times j.missing q → count_of holdings q ≡ 0) → IsWaiting holdings j
waits_begun holdings j e free = record {
  each = λ place p at. absurd (nothing place p (ap (λ (ps : List JobPart). part_at ps place) (sym e) ∙ at));
  missing = free;
}
  where
    nothing : (place : ℕ) (p : JobPart) → part_at [] place ≡ Some p → ⊥
    nothing place p at = cc
