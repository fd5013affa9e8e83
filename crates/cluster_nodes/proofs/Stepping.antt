-- What calls of a primary and of a replica make of jobs, put together.
use Rattle.std.proofs.Common.{◌≡◌, ◌≤◌, ◌<◌, ◌+◌, ◌^◌, ℕ, zero, suc, Bool, true, false, true≢false, List, [], ◌∷◌, ◌++◌, Some, None, Option, max, refl, ap, ◌∙◌, sym, subst, arith, cond, if◌then◌else◌}
use Rattle.std.specs.Prelude.{IfSome, IsSome, IsSomeAnd, nat_lt}
use Rattle.nrt_base.specs.declared.numbers.Gen.{Gen}
use Rattle.nrt_base.specs.declared.doc.Doc.{Doc}
use Rattle.disk_model.specs.Disk.{Name, Content, Cells, reads_of, same, is_among}
use Rattle.file_deleter.specs.Holdings.{Holdings, count_of, times}
use Rattle.file_deleter.proofs.NameLemmas.{same_self, not_among_times}
use Rattle.file_names.specs.Names.{temp_name_of}
use Rattle.searcher_switch.specs.Appearing.{NoneAppears, AppearsOnly}
use Rattle.replica_node.specs.declared.job.PointJob.{PointJob}
use Rattle.replica_node.specs.declared.merges.MergeCopies.{MergeCopies}
use Rattle.replica_node.specs.declared.parts.ReplicaParts.{ReplicaParts}
use Rattle.replica_node.specs.Merges.{copies_seen, no_copies}
use Rattle.replica_node.specs.Replica.{IsWholeReplica, AreStanding}
use Rattle.replica_node.specs.Jobs.{IsPointJob, job_on, job_taking, job_seen, running_point}
use Rattle.replica_node.specs.Sources.{IsSourced, KeepsSource, IsWantedName}
use Rattle.replica_node.specs.Overlapping.{copies_beside}
use Rattle.replica_node.specs.Parting.{pending_after}
use Rattle.searcher_switch.proofs.Appearing.{only_none}
use Rattle.seg_reader.specs.Stands.{StandsFor}
use Rattle.copy_state.specs.declared.state.CopyState.{CopyState}
use Rattle.copy_state.specs.States.{meta_names}
use Rattle.copy_job.specs.declared.copying.Part.{Part}
use Rattle.copy_job.specs.Jobs.{Job, reads_under, with_part}
use Rattle.copy_job.proofs.Naming.{times-own_insert}
use Rattle.index_primary.specs.declared.parts.PrimaryParts.{PrimaryParts}
use Rattle.index_primary.specs.declared.states.Out.{Out}
use Rattle.index_primary.specs.Primary.{IsPrimary, KeepsHeldBytes, IsUnwritten}
use Rattle.index_primary.specs.Calls.{HoldsNoNew}
use Rattle.index_primary.specs.States.{out_of, states_without, is_out, same_out, IsStateOf}
use Rattle.cluster_nodes.specs.Outs.{want_of}
use Rattle.cluster_nodes.specs.JobChanges.{given_back, copies_begun, AltersStates, AltersJob, BeginsAt, FinishesAt, HasTaken, TakesPart, IsTemporaryIn}
use Rattle.cluster_nodes.specs.Ends.{TakesBack}
use Rattle.cluster_nodes.proofs.JobFiles.{none_struck}
use Rattle.replica_node.proofs.Lent.{RunsHere}

pub out_push : (s t : Out) (ts : List Out) → is_out s ts ≡ true → is_out s (ts ++ t ∷ []) ≡ true
out_push s t [] out = absurd (true≢false (sym out))
out_push s t (u ∷ ts) out = tests (same_out s u) out (λ o. out_push s t ts o)
  where
    tests : (b : Bool) → (if b then true else is_out s ts) ≡ true → (is_out s ts ≡ true → is_out s (ts ++ t ∷ []) ≡ true) → (if b then true else is_out s (ts ++ t ∷ [])) ≡ true
    tests true out more = refl
    tests false out more = more out

pub out_pushed : (o : Option Out) (t : Out) (ts us : List Out) → us ≡ ts ++ t ∷ [] → IfSome o (λ s. is_out s ts ≡ true) → IfSome o (λ s. is_out s us ≡ true)
out_pushed None t ts us is out = tt
out_pushed (Some s) t ts us is out = ap (is_out s) is ∙ out_push s t ts out

-- a directory that is as it was
pub none_by : {before after : Cells} → after ≡ before → NoneAppears before after
none_by is = record { each = λ name none. ap (λ (c : Cells). (c name).now) is ∙ none }

module _ {D : Type 0} (cells : D → Cells) where
  -- ---- the primary

  pub alters_by : (p q : PrimaryParts D) → KeepsHeldBytes cells p q → HoldsNoNew p q → NoneAppears (cells p.dir) (cells q.dir) → q ≡ record p { dir = q.dir; files = q.files; states = q.states } → (IsPrimary cells p → IsPrimary cells q) → AltersStates cells p q
  alters_by p q stays no_new appears is whole = record {
    others = is;
    whole = whole;
    files = record {
      stays = stays;
      no_new = no_new;
      drawn = record { each = λ name undrawn. subst (λ (x : PrimaryParts D). IsUnwritten x name) is undrawn };
      appears = appears;
      commits = ap (λ (x : PrimaryParts D). x.commits) is;
      point = ap (λ (x : PrimaryParts D). x.point_infos) is;
      generation = ap (λ (x : PrimaryParts D). x.infos.generation) is;
    };
  }

  pub alters_none : (p : PrimaryParts D) → AltersStates cells p p
  alters_none p = alters_by p p (record { held = λ q a b. refl }) (record { each = λ q none. none }) (record { each = λ q none. none }) refl (λ w. w)

  pub alters_then : (p q s : PrimaryParts D) → AltersStates cells p q → AltersStates cells q s → AltersStates cells p s
  alters_then p q s a b = alters_by p s
      (record { held = λ name before after. held name before after (count_of q.files name) refl })
      (record { each = λ name none. b.files.no_new.each name (a.files.no_new.each name none) })
      (record { each = λ name none. b.files.appears.each name (a.files.appears.each name none) })
      (b.others ∙ ap (λ (x : PrimaryParts D). record x { dir = s.dir; files = s.files; states = s.states }) a.others)
      (λ w. b.whole (a.whole w))
    where
      held : (name : Name) → 0 < count_of p.files name → 0 < count_of s.files name → (k : ℕ) → count_of q.files name ≡ k → (cells s.dir name).now ≡ (cells p.dir name).now
      held name before after zero is = absurd (let none = b.files.no_new.each name is in omega (arith, none, after))
      held name before after (suc k) is = let between : 0 < count_of q.files name = omega (arith, is) in b.files.stays.held name between after ∙ a.files.stays.held name before between

  -- ---- the replica

  pub job_none : (r : ReplicaParts D) → AltersJob cells r r
  job_none r = record { others = refl; whole = λ w. w; standing = λ w. w; sourced = λ source was. was; appears = record { each = λ name none. none } }

  pub job_then : (r s t : ReplicaParts D) → AltersJob cells r s → AltersJob cells s t → AltersJob cells r t
  job_then r s t a b = record {
    others = b.others ∙ ap (λ (x : ReplicaParts D). record x { dir = t.dir; files = t.files; seen = t.seen; jobs = t.jobs; job = t.job; copies = t.copies }) a.others;
    whole = λ w. b.whole (a.whole w);
    standing = λ w. b.standing (a.standing w);
    sourced = λ source was. b.sourced source (a.sourced source was);
    appears = record { each = λ name none. b.appears.each name (a.appears.each name none) };
  }

  -- the replica has seen another generation
  pub job_noted : (r s : ReplicaParts D) → s ≡ record r { dir = s.dir; files = s.files; seen = s.seen; job = s.job; copies = s.copies } → (IsWholeReplica cells r → IsWholeReplica cells s) → (AreStanding cells r → AreStanding cells s) → KeepsSource cells r s
      → NoneAppears (cells r.dir) (cells s.dir) → AltersJob cells r s
  job_noted r s is whole standing sourced appears = record {
    others = is ∙ ap (λ (x : ReplicaParts D). record r { dir = s.dir; files = s.files; seen = s.seen; jobs = x.jobs; job = s.job; copies = s.copies }) (sym is);
    whole = whole;
    standing = standing;
    sourced = sourced;
    appears = appears;
  }

  -- a job of it began
  pub job_by : (r s : ReplicaParts D) → s ≡ record r { dir = s.dir; files = s.files; jobs = s.jobs; job = s.job; copies = s.copies } → (IsWholeReplica cells r → IsWholeReplica cells s) → (AreStanding cells r → AreStanding cells s) → KeepsSource cells r s
      → NoneAppears (cells r.dir) (cells s.dir) → AltersJob cells r s
  job_by r s is whole standing sourced appears = record {
    others = is ∙ ap (λ (x : ReplicaParts D). record r { dir = s.dir; files = s.files; seen = x.seen; jobs = s.jobs; job = s.job; copies = s.copies }) (sym is);
    whole = whole;
    standing = standing;
    sourced = sourced;
    appears = appears;
  }

  -- ---- a job that begins

  some_job : (o : Option PointJob) (number : ℕ) (state : CopyState) (holdings : Holdings) (old : Option PointJob) → IfSome o (IsPointJob number state holdings old) → IsSome o → (j : PointJob) × (o ≡ Some j) × IsPointJob number state holdings old j
  some_job None number state holdings old is some = absurd (true≢false (sym some))
  some_job (Some j) number state holdings old is some = (j, refl, is)

  -- a job that takes over another one's parts keeps its number and its state
  taking_want : (old : Option PointJob) (j : Job) → (job_taking old j).want ≡ j.want
  taking_want None j = refl
  taking_want (Some old) j = refl

  taking_number : (old : Option PointJob) (j : Job) → (job_taking old j).number ≡ j.number
  taking_number None j = refl
  taking_number (Some old) j = refl

  pub begins : (p q t : PrimaryParts D) (r u v : ReplicaParts D) (state : CopyState) (number last : ℕ) (completed : List Name)
      → IsStateOf (reads_of (cells p.dir)) p.point_infos p.searchers.point.names last completed state
      → q.states ≡ p.states ++ out_of state ∷ [] → AltersStates cells p q → TakesBack cells (want_of r.job) q t
      → u.seen.0 ≡ max r.seen.0 state.primary_gen.0 → AltersJob cells r u → u.jobs ≡ r.jobs → u.copies ≡ copies_seen r.seen.0 state.primary_gen.0 r.copies
      → u.job ≡ job_seen r.seen.0 state.primary_gen.0 r.job → ((q : Name) → count_of u.files q ≤ count_of r.files q) → (nat_lt r.seen.0 state.primary_gen.0 ≡ false → u ≡ r)
      → AltersJob cells u v → v.seen ≡ u.seen → number ≡ u.jobs + 1 → v.jobs ≡ u.jobs + 1 → IfSome v.job (IsPointJob (u.jobs + 1) state u.files u.job) → IsSome v.job
      → v.copies ≡ record u.copies { running = copies_beside (meta_names state.files) u.copies.running }
      → r.seen.0 ≤ p.point_infos.generation.0
      → BeginsAt cells number p t r v
  begins p q t r u v state number last completed of_point pushed taken back top looked kept left went fewer quiet began seen_now next jobs_now job some beside low =
      let j = some_job v.job (u.jobs + 1) state u.files u.job job some in
      let gen : state.primary_gen.0 ≡ p.point_infos.generation.0 = ap (λ (g : Gen). g.0) of_point.primary_gen in
      let is : v.seen.0 ≡ p.point_infos.generation.0 = (let now : v.seen.0 ≡ u.seen.0 = ap (λ (g : Gen). g.0) seen_now in omega (arith, now, top, gen, low)) in
      let older : u.job ≡ job_seen r.seen.0 p.point_infos.generation.0 r.job = went ∙ ap (λ (k : ℕ). job_seen r.seen.0 k r.job) gen in
      record {
        primary = alters_then p q t taken back.alters;
        replica = job_then r u v looked began;
        state = state;
        of_point = record { infos = of_point.infos_file; version = of_point.version; generation = of_point.primary_gen; names = of_point.names_are; metas = of_point.metas };
        job = j.0;
        there = j.1;
        want = ap (λ (x : Job). x.want) j.2.copy ∙ taking_want u.job (job_on (u.jobs + 1) state u.files);
        infos = j.2.state_is.spelled;
        number_is = ap (λ (x : Job). x.number) j.2.copy ∙ taking_number u.job (job_on (u.jobs + 1) state u.files) ∙ sym next;
        next = next ∙ ap (λ (k : ℕ). k + 1) kept;
        jobs = jobs_now ∙ ap (λ (k : ℕ). k + 1) kept;
        seen = λ i. record { 0 = is i };
        states = back.states ∙ ap (given_back (want_of r.job)) pushed;
        copies = beside ∙ ap (λ (c : MergeCopies). record c { running = copies_beside (meta_names state.files) c.running }) left;
        holdings = u.files;
        begun = subst (λ (k : ℕ). IsPointJob k state u.files (job_seen r.seen.0 p.point_infos.generation.0 r.job) j.0) (sym next) (subst (λ (o : Option PointJob). IsPointJob (u.jobs + 1) state u.files o j.0) older j.2);
        fewer = fewer;
        quiet = λ same. ap (λ (x : ReplicaParts D). x.files) (quiet (ap (nat_lt r.seen.0) gen ∙ same));
      }

  -- ---- no copies of merged segments, where there were none

  none_left : (seen : ℕ) (state : CopyState) → copies_begun seen state no_copies ≡ no_copies
  none_left seen state = tests (nat_lt seen state.primary_gen.0)
    where
      tests : (b : Bool) → record (if b then no_copies else no_copies) { running = copies_beside (meta_names state.files) (if b then no_copies else no_copies).running } ≡ no_copies
      tests true = refl
      tests false = refl

  pub none_begun : (number : ℕ) (p q : PrimaryParts D) (r s : ReplicaParts D) → r.copies ≡ no_copies → BeginsAt cells number p q r s → s.copies ≡ no_copies
  none_begun number p q r s none b = b.copies ∙ (ap (copies_begun r.seen.0 b.state) none ∙ none_left r.seen.0 b.state)

  pub none_finished : (j : PointJob) (p q : PrimaryParts D) (r s : ReplicaParts D) → r.copies ≡ no_copies → FinishesAt cells j p q r s → s.copies ≡ no_copies
  none_finished j p q r s none f = f.copies ∙ ap (λ (c : MergeCopies). record c { pending = pending_after (meta_names j.copy.want.files) j.copy.want.completed c.pending }) none

  -- ---- a part

  -- the job did not lack it
  pub takes_none : (part : Part) (r : ReplicaParts D) (c : Job) → RunsHere c r.job → is_among c.missing part.name ≡ false → TakesPart cells part r r
  takes_none part r c is none = record {
    others = refl;
    whole = λ w. w;
    standing = λ w. w;
    sourced = λ source given was. was;
    job = subst (λ (o : Option PointJob). IfSome o (λ j. IsSomeAnd o (HasTaken part.name j))) (sym is.point) (record {
      number = refl;
      want = refl;
      infos = refl;
      stopped = refl;
      missing = none_struck is.job.copy.missing part.name out;
      stays = λ q some. some;
      part = λ some. absurd (let z : times is.job.copy.missing part.name ≡ 0 = not_among_times is.job.copy.missing part.name out in omega (arith, z, some));
    });
    appears = subst (λ (o : Option PointJob). IfSome o (λ j. AppearsOnly (IsTemporaryIn j part.name) (cells r.dir) (cells r.dir))) (sym is.point)
        (only_none (IsTemporaryIn is.job part.name) (cells r.dir) (cells r.dir) (record { each = λ q none. none }));
  }
    where
      out : is_among is.job.copy.missing part.name ≡ false
      out = subst (λ (k : Job). is_among k.missing part.name ≡ false) is.copy none

  -- the job has one part more
  with_taken : (j : PointJob) (name : Name) → HasTaken name j (record j { copy = with_part j.copy name })
  with_taken j name = record {
    number = refl;
    want = refl;
    infos = refl;
    stopped = refl;
    missing = refl;
    stays = λ q some. omega (arith, some, times-own_insert (record { own = name; now = temp_name_of name j.copy.number }) j.copy.parts q);
    part = λ some.
        let one : cond (same name name) 1 0 ≡ 1 = ap (λ (b : Bool). let k : ℕ = cond b 1 0 in k) (same_self name) in
        omega (arith, one, times-own_insert (record { own = name; now = temp_name_of name j.copy.number }) j.copy.parts name);
  }

  pub takes_in : (part : Part) (r s : ReplicaParts D) (c : Job) (is : RunsHere c r.job) (number : ℕ) → s ≡ record r { dir = s.dir; files = s.files; job = Some (record is.job { copy = with_part is.job.copy part.name }) } → IsWholeReplica cells s
      → (AreStanding cells r → AreStanding cells s) → ((source : Name → Content) → source part.name ≡ Some part.bytes → IsSourced source cells r → IsSourced source cells s) → number ≡ is.job.copy.number → number < 2 ^ 64
      → 0 < times is.job.copy.missing part.name → AppearsOnly (λ q. q ≡ temp_name_of part.name number) (cells r.dir) (cells s.dir) → TakesPart cells part r s
  takes_in part r s c here number is whole standing sourced same_number small lacks appears = record {
    others = is ∙ ap (λ (x : ReplicaParts D). record r { dir = s.dir; files = s.files; job = x.job }) (sym is);
    whole = λ w. whole;
    standing = standing;
    sourced = sourced;
    job = subst (λ (o : Option PointJob). IfSome o (λ i. IsSomeAnd (running_point s.job) (HasTaken part.name i))) (sym here.point)
        (subst (λ (o : Option PointJob). IsSomeAnd o (HasTaken part.name here.job))
        (sym (ap (λ (x : ReplicaParts D). running_point x.job) is ∙ ap (λ (b : Bool). if b then None else Some (record here.job { copy = with_part here.job.copy part.name })) here.going)) (with_taken here.job part.name));
    appears = subst (λ (o : Option PointJob). IfSome o (λ i. AppearsOnly (IsTemporaryIn i part.name) (cells r.dir) (cells s.dir))) (sym here.point)
        (record { each = λ q none stands. (lacks, (omega (arith, same_number, small)), appears.each q none stands ∙ ap (temp_name_of part.name) same_number) });
  }

  -- ---- a job that ends

  pub finishes : (p q : PrimaryParts D) (r s : ReplicaParts D) (state : CopyState) (c : Job) → RunsHere c r.job → state ≡ c.want
      → AltersStates cells p q → q.states ≡ states_without (out_of state) p.states
      → s ≡ record r { dir = s.dir; files = s.files; searchers = s.searchers; infos = s.infos; segs = s.segs; job = s.job; copies = s.copies; known = s.known } → IsWholeReplica cells s → (AreStanding cells r → AreStanding cells s) → KeepsSource cells r s
      → AppearsOnly (IsWantedName r.job) (cells r.dir) (cells s.dir) → IfSome r.job (λ j. s.infos ≡ j.infos) → s.job ≡ None → s.searchers.tickets ≡ r.searchers.tickets
      → IfSome r.job (λ j. s.copies ≡ record r.copies { pending = pending_after (meta_names j.copy.want.files) j.copy.want.completed r.copies.pending })
      → IfSome r.job (λ j. (docs : List Doc) → StandsFor (reads_under j.copy.parts (reads_of (cells r.dir))) j.infos docs → StandsFor (reads_of (cells s.dir)) s.infos docs)
      → IfSome (running_point r.job) (λ j. FinishesAt cells j p q r s)
  finishes p q r s state c is want altered back others whole standing sourced appears infos none tickets pending stands = subst (λ (o : Option PointJob). IfSome o (λ j. FinishesAt cells j p q r s)) (sym is.point) (record {
    primary = altered;
    states = back ∙ ap (λ (x : CopyState). states_without (out_of x) p.states) (want ∙ ap (λ (x : Job). x.want) is.copy);
    others = others;
    whole = whole;
    standing = standing;
    sourced = sourced;
    appears = subst (λ (o : Option PointJob). AppearsOnly (IsWantedName o) (cells r.dir) (cells s.dir)) is.there appears;
    infos = subst (λ (o : Option PointJob). IfSome o (λ j. s.infos ≡ j.infos)) is.there infos;
    job = none;
    tickets = tickets;
    copies = subst (λ (o : Option PointJob). IfSome o (λ j. s.copies ≡ record r.copies { pending = pending_after (meta_names j.copy.want.files) j.copy.want.completed r.copies.pending })) is.there pending;
    stands = subst (λ (o : Option PointJob). IfSome o (λ j. (docs : List Doc) → StandsFor (reads_under j.copy.parts (reads_of (cells r.dir))) j.infos docs → StandsFor (reads_of (cells s.dir)) s.infos docs)) is.there stands;
  })
