-- What calls leave of the names that stand at a node, and of what names mean.
use Rattle.std.proofs.Common.{◌≡◌, ◌⊎◌, ◌<◌, ◌≤◌, ◌+◌, ◌-◌, ◌*◌, ◌^◌, inl, inr, nat_lt, ℕ, zero, suc, get_or, Bool, true, false, List, [], ◌∷◌, ◌++◌, Some, None, Option, is_some, length, refl, ap, ◌∙◌, sym, subst, arith, if◌then◌else◌}
use Rattle.std.specs.Prelude.{IfSome, ⊤}
use Rattle.std.proofs.lemmas.Bool.{ltb-true}
use Rattle.std.specs.List.{All, Contains, flat_map}
use Rattle.std.specs.Option.{option_or}
use Rattle.std.proofs.lemmas.List.Elements.{All-contains, Contains-append_left, Contains-append_right}
use Rattle.disk_model.specs.Disk.{Name, Content, Cells}
use Rattle.file_names.specs.Names.{part_name_of, live_name_of, IsFileOfSegment}
use Rattle.file_names.specs.declared.composed.SegPart.TheVariants.{Docs}
use Rattle.file_names.proofs.NameReading.{file_apart}
use Rattle.file_deleter.specs.Holdings.{Holdings, IsThere, count_of, times}
use Rattle.file_deleter.proofs.Keeping.{known_counted}
use Rattle.file_deleter.proofs.NameLemmas.{times-append, among_times}
use Rattle.segment_infos.specs.declared.infos.SegRecord.{SegRecord}
use Rattle.segment_infos.specs.declared.infos.Infos.{Infos}
use Rattle.segment_infos.specs.Files.{files_of_segment, AreFilesOf}
use Rattle.commit_steps.proofs.Safe.{among_of}
use Rattle.searcher_switch.specs.Appearing.{AppearsOnly}
use Rattle.searcher_switch.proofs.Appearing.{stood_or, only_none}
use Rattle.seg_reader.specs.Shown.{Shown}
use Rattle.searcher_switch.specs.declared.open.Open.{Open}
use Rattle.searcher_switch.specs.Searching.{searcher_names}
use Rattle.index_primary.specs.declared.parts.PrimaryParts.{PrimaryParts}
use Rattle.index_primary.specs.Held.{IsOwnSegment, IsOwnFile, IsDrawnRecord}
use Rattle.index_primary.specs.Primary.{IsPrimary, loose_of, primary_names, rest_names}
use Rattle.index_primary.proofs.NewFiles.{named_of}
use Rattle.copy_state.specs.States.{meta_names}
use Rattle.copy_job.specs.declared.copying.Part.{Part}
use Rattle.replica_node.specs.Given.{IsLasting, HasMeta}
use Rattle.replica_node.specs.declared.job.PointJob.{PointJob}
use Rattle.replica_node.specs.Jobs.{running_point}
use Rattle.replica_node.specs.Replica.{IsJobAbove}
use Rattle.replica_node.proofs.Metas.{some_meta}
use Rattle.replica_node.specs.declared.parts.ReplicaParts.{ReplicaParts}
use Rattle.history_rules.specs.Nodes.{Past, generation_of}
use Rattle.segment_steps.specs.Next.{record_generation, live_base}
use Rattle.history_rules.specs.Points.{is_drawn, IsDrawnFile}
use Rattle.history_rules.specs.Rules.{MayHaveName}
use Rattle.cluster_nodes.specs.declared.nodes.Node.{Node}
use Rattle.cluster_nodes.specs.declared.nodes.Node.TheVariants.{Primary, Replica, Down}
use Rattle.cluster_nodes.specs.Places.{tickets_of}
use Rattle.cluster_nodes.specs.KeptFiles.{KeepsNodeFiles}
use Rattle.cluster_nodes.specs.JobChanges.{AltersStates, AltersJob, FinishesAt, TakesPart, IsTemporaryIn}
use Rattle.cluster_state.specs.Names.{NamesDocuments, AreNamesShown, NamesShow, loose_at}
use Rattle.cluster_state.specs.Files.{MeansDrawn}
use Rattle.cluster_state.proofs.Wider.{meta_at_source}
use Rattle.cluster_state.proofs.Living.{drawn_small}
use Rattle.cluster_state.proofs.Drawn.{Grows, file_more, may_have_more, lasting_drawn, temporary_drawn}

-- what is known of the files of infos
abbrev pub FilesLast : Type 0
FilesLast = (infos : Infos) (names : List Name) → AreFilesOf infos names → (q : Name) → Contains (flat_map files_of_segment infos.segs) q → IsLasting q

-- ---- one node

-- what a call makes of the names at a node: what appears may stand there, and what is held now was held, or is named or drawn
pub record StepsNames (now : Past) (before after : Cells) (old new : List (Open Shown)) (gone left : List ℕ) : Type 0 where
  pub appears : AppearsOnly (MayHaveName now) before after
  pub tickets : (o : Open Shown) → Contains new o → Contains old o ⊎ NamesDocuments o.point
  pub loose : (seg : ℕ) → Contains left seg → Contains gone seg ⊎ (is_drawn seg now ≡ true)

pub names_step : (past now : Past) (before after : Cells) (old new : List (Open Shown)) (gone loose : List ℕ) → Grows past now → StepsNames now before after old new gone loose
    → AreNamesShown past before old gone → AreNamesShown now after new loose
names_step past now before after old new gone loose g s shown = record {
  kinds = λ q there. elim (stood_or (MayHaveName now) before after s.appears q there) [ inl stood ↦ may_have_more past now q g (shown.kinds q stood) | inr may ↦ may ];
  tickets = λ o held. elim (s.tickets o held) [ inl before ↦ shown.tickets o before | inr named ↦ named ];
  loose = λ seg held. elim (s.loose seg held) [ inl before ↦ g.drawn seg (shown.loose seg before) | inr drawn ↦ drawn ];
}

pub names_grow : (past now : Past) (cells : Cells) (tickets : List (Open Shown)) (loose : List ℕ) → Grows past now → AreNamesShown past cells tickets loose → AreNamesShown now cells tickets loose
names_grow past now cells tickets loose g shown = record {
  kinds = λ q there. may_have_more past now q g (shown.kinds q there);
  tickets = shown.tickets;
  loose = λ seg held. g.drawn seg (shown.loose seg held);
}

module _ {D : Type 0} (cells : D → Cells) where
  -- the same of a node
  abbrev pub NodeSteps : Past → Node D → Node D → Type 0
  NodeSteps now (Primary p) (Primary q) = StepsNames now (cells p.dir) (cells q.dir) p.searchers.tickets q.searchers.tickets (loose_of p) (loose_of q)
  NodeSteps now (Replica r) (Replica s) = StepsNames now (cells r.dir) (cells s.dir) r.searchers.tickets s.searchers.tickets [] []
  NodeSteps now (Down d) (Down e) = ⊤
  NodeSteps now x y = ⊥

  pub node_steps : (past now : Past) (x y : Node D) → Grows past now → NodeSteps now x y → NamesShow cells past x → NamesShow cells now y
  node_steps past now (Primary p) (Primary q) g s shown = names_step past now (cells p.dir) (cells q.dir) p.searchers.tickets q.searchers.tickets (loose_of p) (loose_of q) g s shown
  node_steps past now (Replica r) (Replica t) g s shown = names_step past now (cells r.dir) (cells t.dir) r.searchers.tickets t.searchers.tickets [] [] g s shown
  node_steps past now (Down d) (Down e) g s shown = tt
  node_steps past now (Primary p) (Replica t) g s shown = absurd s
  node_steps past now (Primary p) (Down e) g s shown = absurd s
  node_steps past now (Replica r) (Primary q) g s shown = absurd s
  node_steps past now (Replica r) (Down e) g s shown = absurd s
  node_steps past now (Down d) (Primary q) g s shown = absurd s
  node_steps past now (Down d) (Replica t) g s shown = absurd s

  -- a node that no call changed
  pub node_grows : (past now : Past) (x : Node D) → Grows past now → NamesShow cells past x → NamesShow cells now x
  node_grows past now (Primary p) g shown = names_grow past now (cells p.dir) p.searchers.tickets (loose_of p) g shown
  node_grows past now (Replica r) g shown = names_grow past now (cells r.dir) r.searchers.tickets [] g shown
  node_grows past now (Down d) g shown = tt

  -- what a node holds now it held, or it is named or drawn
  pub record HoldsFrom (now : Past) (old new : Node D) : Type 0 where
    pub tickets : (o : Open Shown) → Contains (tickets_of new) o → Contains (tickets_of old) o ⊎ NamesDocuments o.point
    pub loose : (seg : ℕ) → Contains (loose_at new) seg → Contains (loose_at old) seg ⊎ (is_drawn seg now ≡ true)

  pub holds_same : (now : Past) (x y : Node D) → tickets_of y ≡ tickets_of x → loose_at y ≡ loose_at x → HoldsFrom now x y
  holds_same now x y tickets loose = record {
    tickets = λ o held. inl (subst (λ (ts : List (Open Shown)). Contains ts o) tickets held);
    loose = λ seg held. inl (subst (λ (ns : List ℕ). Contains ns seg) loose held);
  }

  pub kept_steps : (now : Past) (x y : Node D) → KeepsNodeFiles cells x y → HoldsFrom now x y → NodeSteps now x y
  kept_steps now (Primary p) (Primary q) keeps holds = record {
    appears = only_none (MayHaveName now) (cells p.dir) (cells q.dir) keeps.0.appears;
    tickets = holds.tickets;
    loose = holds.loose;
  }
  kept_steps now (Replica r) (Replica t) keeps holds = record {
    appears = only_none (MayHaveName now) (cells r.dir) (cells t.dir) keeps.appears;
    tickets = holds.tickets;
    loose = holds.loose;
  }
  kept_steps now (Down d) (Down e) keeps holds = tt
  kept_steps now (Primary p) (Replica t) keeps holds = absurd keeps
  kept_steps now (Primary p) (Down e) keeps holds = absurd keeps
  kept_steps now (Replica r) (Primary q) keeps holds = absurd keeps
  kept_steps now (Replica r) (Down e) keeps holds = absurd keeps
  kept_steps now (Down d) (Primary q) keeps holds = absurd keeps
  kept_steps now (Down d) (Replica t) keeps holds = absurd keeps

  -- ---- jobs

  -- the primary, but for its directory, its counts and the copy states that are out
  pub altered_steps : (now : Past) (p q : PrimaryParts D) → AltersStates cells p q → NodeSteps now (Primary p) (Primary q)
  altered_steps now p q a = record {
    appears = only_none (MayHaveName now) (cells p.dir) (cells q.dir) a.files.appears;
    tickets = λ o held. inl (subst (λ (ts : List (Open Shown)). Contains ts o) (ap (λ (z : PrimaryParts D). z.searchers.tickets) a.others) held);
    loose = λ seg held. inl (subst (λ (ns : List ℕ). Contains ns seg) (ap (λ (z : PrimaryParts D). loose_of z) a.others) held);
  }

  -- a replica, but for its directory, its counts, what it has seen and its job
  pub altered_job : (now : Past) (r s : ReplicaParts D) → AltersJob cells r s → NodeSteps now (Replica r) (Replica s)
  altered_job now r s a = record {
    appears = only_none (MayHaveName now) (cells r.dir) (cells s.dir) a.appears;
    tickets = λ o held. inl (subst (λ (ts : List (Open Shown)). Contains ts o) (ap (λ (z : ReplicaParts D). z.searchers.tickets) a.others) held);
    loose = λ seg held. inl held;
  }

  -- what a job wants is drawn, where its files mean something
  pub wanted_drawn : (source : Name → Content) (now : Past) (version : ℕ) (j : PointJob) → FilesLast → MeansDrawn source now → All (λ f. HasMeta source f.0 f.1) j.copy.want.files → IsJobAbove version j
      → (q : Name) → 0 < times (meta_names j.copy.want.files) q → IsDrawnFile now q
  wanted_drawn source now version j lasting drawn metas above q wanted =
      let meta = some_meta j.copy.want.files q wanted in
      let has = meta_at_source source j.copy.want.files q meta.0 metas meta.1 in
      let listed : Contains (flat_map files_of_segment j.infos.segs) q = (above.state.files.named q).0 (named_of (meta_names j.copy.want.files) q wanted) in
      drawn.drawn q has.bytes (lasting j.infos (meta_names j.copy.want.files) above.state.files q listed) has.there

  -- a replica that switched to the point of its job
  pub finished_steps : (source : Name → Content) (now : Past) (j : PointJob) (p q : PrimaryParts D) (r s : ReplicaParts D) (version : ℕ) → FilesLast → MeansDrawn source now → All (λ f. HasMeta source f.0 f.1) j.copy.want.files → IsJobAbove version j
      → FinishesAt cells j p q r s → NodeSteps now (Replica r) (Replica s)
  finished_steps source now j p q r s version lasting drawn metas above f = record {
    appears = record { each = λ name none there. inr (inr (inl (wanted_drawn source now version j lasting drawn metas above name (f.appears.each name none there)))) };
    tickets = λ o held. inl (subst (λ (ts : List (Open Shown)). Contains ts o) f.tickets held);
    loose = λ seg held. inl held;
  }

  -- a replica whose job took a part
  pub took_steps : (source : Name → Content) (now : Past) (j : PointJob) (part : Part) (r s : ReplicaParts D) (version : ℕ) → FilesLast → MeansDrawn source now → All (λ f. HasMeta source f.0 f.1) j.copy.want.files → IsJobAbove version j
      → running_point r.job ≡ Some j → TakesPart cells part r s → NodeSteps now (Replica r) (Replica s)
  took_steps source now j part r s version lasting drawn metas above runs takes = record {
    appears = record { each = λ name none there. arrived name (appears.each name none there) };
    tickets = λ o held. inl (subst (λ (ts : List (Open Shown)). Contains ts o) (ap (λ (z : ReplicaParts D). z.searchers.tickets) takes.others) held);
    loose = λ seg held. inl held;
  }
    where
      appears : AppearsOnly (IsTemporaryIn j part.name) (cells r.dir) (cells s.dir)
      appears = subst (λ (o : Option PointJob). IfSome o (λ k. AppearsOnly (IsTemporaryIn k part.name) (cells r.dir) (cells s.dir))) runs takes.appears

      arrived : (name : Name) → IsTemporaryIn j part.name name → MayHaveName now name
      arrived name (lacks, small, is) =
          let parts = above.copy.each part.name in
          temporary_drawn now part.name name j.copy.number (wanted_drawn source now version j lasting drawn metas above part.name (omega (arith, parts, lacks))) small is

-- ---- what names mean

pub means_more : (source : Name → Content) (past now : Past) → Grows past now → MeansDrawn source past → MeansDrawn source now
means_more source past now g was = record {
  drawn = λ q bytes lasting is. file_more past now q g (was.drawn q bytes lasting is);
  live = λ r live_gen bytes small fits is. base_more (generation_of past) (generation_of now) (record_generation r) live_gen g.generation (was.live r live_gen bytes small fits is);
}
  where
    base_more : (g h made live_gen : ℕ) → g ≤ h → live_gen < (g + 1 - made) * 4294967296 → live_gen < (h + 1 - made) * 4294967296
    base_more g h made live_gen low below = fits (g + 1 - made) (h + 1 - made) (omega (arith, low)) below
      where
        fits : (d e : ℕ) → d ≤ e → live_gen < d * 4294967296 → live_gen < e * 4294967296
        fits d e low below = omega (arith, low, below)

-- a live file that is held and meant nothing has a live generation that no later generation gives
abbrev pub HoldsLow : (Name → Content) → Holdings → Past → Type 0
HoldsLow source holdings now = (r : SegRecord) (live_gen : ℕ) → r.seg.0 < 2 ^ 64 → live_gen < 2 ^ 64 → source (live_name_of r.seg.0 live_gen) ≡ None → 0 < count_of holdings (live_name_of r.seg.0 live_gen)
    → live_gen < live_base (generation_of now + 1) r

-- names that get a meaning where a file of them is held, all of which may stand there
pub means_wider : (source : Name → Content) (cells : Cells) (holdings : Holdings) (now : Past) → MeansDrawn source now → ((q : Name) → IsThere cells q → MayHaveName now q) → HoldsLow source holdings now
    → MeansDrawn (λ q. option_or (source q) (if nat_lt 0 (count_of holdings q) then (cells q).now else None)) now
means_wider source cells holdings now was kinds low = record {
  drawn = λ q bytes lasting is. by q (source q) refl (λ b e. was.drawn q b lasting e) (λ none some there. lasting_drawn now q lasting (kinds q there)) is;
  live = λ r live_gen bytes small fits is. by (live_name_of r.seg.0 live_gen) (source (live_name_of r.seg.0 live_gen)) refl (λ b e. was.live r live_gen b small fits e) (λ none some there. low r live_gen small fits none some) is;
}
  where
    -- it meant something, or is held and stands
    by : {P : Type 0} {bytes : List ℕ} (q : Name) (o : Content) → source q ≡ o → ((b : List ℕ) → source q ≡ Some b → P) → (source q ≡ None → 0 < count_of holdings q → IsThere cells q → P)
        → option_or o (if nat_lt 0 (count_of holdings q) then (cells q).now else None) ≡ Some bytes → P
    by q (Some b) e meant held got = meant b e
    by {P = P} {bytes = bytes} q None e meant held got = counted (nat_lt 0 (count_of holdings q)) refl got
      where
        counted : (t : Bool) → nat_lt 0 (count_of holdings q) ≡ t → (if t then (cells q).now else None) ≡ Some bytes → P
        counted true some got = held e (ltb-true 0 (count_of holdings q) some) (ap is_some got)
        counted false none got = absurd (cc)

-- ---- the primary's own segments

-- a file of a segment of infos is one of theirs
pub in_segments : (records : List SegRecord) (r : SegRecord) (q : Name) → Contains records r → Contains (files_of_segment r) q → Contains (flat_map files_of_segment records) q
in_segments [] r q (i, lt, e) named = absurd (omega (arith, lt))
in_segments (x ∷ xs) r q (i, lt, e) named = at i lt e (λ k lt' e'. in_segments xs r q (k, lt', e') named)
  where
    at : (i : ℕ) → i < length (x ∷ xs) → get_or (x ∷ xs) i r ≡ r → ((k : ℕ) → k < length xs → get_or xs k r ≡ r → Contains (flat_map files_of_segment xs) q) → Contains (flat_map files_of_segment (x ∷ xs)) q
    at zero lt e rest = Contains-append_left (files_of_segment x) (flat_map files_of_segment xs) q (subst (λ (s : SegRecord). Contains (files_of_segment s) q) (sym e) named)
    at (suc k) lt e rest = Contains-append_right (files_of_segment x) (flat_map files_of_segment xs) q (rest k (omega (arith, lt)) e)

module _ {D : Type 0} (cells : D → Cells) (past : Past) (p : PrimaryParts D) (lasting : FilesLast) (whole : IsPrimary cells p) (shown : AreNamesShown past (cells p.dir) p.searchers.tickets (loose_of p)) where
  -- a name of the writer's infos stands
  written_there : (q : Name) → Contains p.names q → IsThere (cells p.dir) q
  written_there q named =
      let counts = whole.node.counts q in
      let first : times (primary_names p) q ≡ times (searcher_names p.searchers) q + times (p.names ++ rest_names p) q = times-append (searcher_names p.searchers) (p.names ++ rest_names p) q in
      let second : times (p.names ++ rest_names p) q ≡ times p.names q + times (rest_names p) q = times-append p.names (rest_names p) q in
      let some : 0 < times p.names q = among_times p.names q (among_of p.names q named) in
      whole.node.whole.names q ∙ known_counted p.files q (omega (arith, counts, first, second, some))

  record_drawn : (r : SegRecord) → Contains p.infos.segs r → is_drawn r.seg.0 past ≡ true
  record_drawn r held =
      let q : Name = part_name_of r.seg.0 Docs in
      let listed : Contains (flat_map files_of_segment p.infos.segs) q = in_segments p.infos.segs r q held (0, omega arith, refl) in
      let file = lasting_drawn past q (lasting p.infos p.names whole.writer.files q listed) (shown.kinds q (written_there q ((whole.writer.files.named q).1 listed))) in
      let below = (All-contains (IsDrawnRecord p.infos) p.infos.segs r whole.numbered.segs held).below in
      let mine : IsFileOfSegment r.seg.0 q = (drawn_small p.infos r.seg.0 whole.numbered.generation whole.numbered.counter below, inl (Docs, refl)) in
      subst (λ (s : ℕ). is_drawn s past ≡ true) (file_apart file.0 r.seg.0 q file.2 mine) file.1

  -- the files of its own segments are drawn
  pub own_drawn : (q : Name) → IsOwnFile p.infos (loose_of p) q → IsDrawnFile past q
  own_drawn q (seg, own, file) = (seg, drawn own, file)
    where
      drawn : IsOwnSegment p.infos (loose_of p) seg → is_drawn seg past ≡ true
      drawn (inl held) = shown.loose seg held
      drawn (inr (r, held, is)) = subst (λ (s : ℕ). is_drawn s past ≡ true) (sym is) (record_drawn r held)
