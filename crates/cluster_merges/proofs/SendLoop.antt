-- Copies of a merged segment that begin at one replica after the other.
use Rattle.std.proofs.Common.{◌≡◌, ◌≤◌, ◌<◌, ◌+◌, ◌==◌, ℕ, Bool, false, List, [], ◌∷◌, ◌++◌, map, Some, Option, length, take, get_or, refl, ap, ◌∙◌, sym, subst, arith, if◌then◌else◌}
use Rattle.std.specs.Prelude.{IsSome, is_some, IsSomeAnd}
use Rattle.std.specs.List.{All, AllByRecursion}
use Rattle.std.proofs.lemmas.Bool.{ne_eqb}
use Rattle.std.proofs.lemmas.List.{map-append, get_or_default, take_all, take_more}
use Rattle.nrt_base.specs.declared.numbers.NodeNo.{NodeNo}
use Rattle.disk_model.specs.Disk.{Cells}
use Rattle.copy_state.specs.declared.state.CopyState.{CopyState}
use Rattle.history_rules.specs.Nodes.{IsNode, generation_of}
use Rattle.history_tables.proofs.RowLemmas.{by_test}
use Rattle.history_book.specs.Log.{printed}
use Rattle.merge_tasks.specs.Merging.{Sheet}
use Rattle.merge_tasks.specs.declared.tasks.OpenMerge.{OpenMerge}
use Rattle.merge_tasks.specs.declared.tasks.Sent.{Sent}
use Rattle.merge_tasks.specs.declared.tasks.Spread.{Spread}
use Rattle.merge_tasks.specs.Board.{Board, open_merge, spread_at, with_spread, sent_more}
use Rattle.merge_tasks.proofs.BoardRows.{with_last}
use Rattle.cluster_nodes.specs.declared.nodes.Node.TheVariants.{Replica}
use Rattle.cluster_nodes.specs.declared.nodes.NodePlace.{NodePlace}
use Rattle.cluster_nodes.specs.Places.{place_of}
use Rattle.cluster_nodes.specs.JobChanges.{HasReplica}
use Rattle.node_merges.specs.MergeChanges.{MaySend}
use Rattle.node_merges.specs.MergePlaces.{IsReplicaIn}
use Rattle.cluster_nodes.specs.Outs.{jobs_like}
use Rattle.cluster_state.specs.Files.{NodeFiles}
use Rattle.cluster_state.proofs.FileFrames.{other_place}
use Rattle.cluster_state.proofs.Frames.{some_at}
use Rattle.cluster_merges.specs.Running.{AllShown}
use Rattle.cluster_merges.specs.Sending.{spread_to, SendsOne, MaySendAll, SendsAll}
use Rattle.cluster_merges.specs.SentTold.{TellsSends}
use Rattle.cluster_merges.proofs.SendSteps.{sent_path}
use Rattle.cluster_merges.proofs.SentTold.{below_more, none_told, told_next}

-- ---- the row of the merge

-- what stands there already is written
with_same : (rows : List OpenMerge) (seg : ℕ) (s : Option Spread) → spread_at (open_merge seg rows) ≡ s → with_spread seg s rows ≡ rows
with_same [] seg s is = refl
with_same (r ∷ rows) seg s is =
    by_test (r.seg.0 == seg) (λ b. spread_at (if b then Some r else open_merge seg rows) ≡ s → (if b then record r { spread = s } ∷ rows else r ∷ with_spread seg s rows) ≡ r ∷ rows)
    (λ here is. ap (λ (o : Option Spread). record r { spread = o } ∷ rows) (sym is))
    (λ apart is. ap (λ (l : List OpenMerge). r ∷ l) (with_same rows seg s is))
    is

-- what was written there is read
pub spread_with : (rows new : List OpenMerge) (seg : ℕ) (was now : Spread) → spread_at (open_merge seg rows) ≡ Some was → new ≡ with_spread seg (Some now) rows → spread_at (open_merge seg new) ≡ Some now
spread_with rows new seg was now there is = ap (λ (l : List OpenMerge). spread_at (open_merge seg l)) is ∙ written rows there
  where
    written : (rs : List OpenMerge) → spread_at (open_merge seg rs) ≡ Some was → spread_at (open_merge seg (with_spread seg (Some now) rs)) ≡ Some now
    written [] there = absurd (cc)
    written (r ∷ rs) there =
        by_test (r.seg.0 == seg) (λ b. (r.seg.0 == seg) ≡ b → spread_at (if b then Some r else open_merge seg rs) ≡ Some was
        → spread_at (open_merge seg (if b then record r { spread = Some now } ∷ rs else r ∷ with_spread seg (Some now) rs)) ≡ Some now)
        (λ here e there. ap (λ (b : Bool). spread_at (if b then Some (record r { spread = Some now }) else open_merge seg rs)) e)
        (λ apart e there. ap (λ (b : Bool). spread_at (if b then Some r else open_merge seg (with_spread seg (Some now) rs))) e ∙ written rs there)
        refl there

pub is_spread : (o : Option Spread) (s : Spread) → o ≡ Some s → IsSome o
is_spread o s is = ap is_some is

-- one copy more is noted
rows_more : (rows mid new : List OpenMerge) (seg : ℕ) (state : CopyState) (n : NodeNo) (one : Sent) (sent now : List Sent) → spread_at (open_merge seg rows) ≡ Some (spread_to state []) → mid ≡ with_spread seg (Some (spread_to state sent)) rows
    → new ≡ with_spread seg (sent_more n one.job (spread_at (open_merge seg mid))) mid → one.node ≡ n → now ≡ sent ++ one ∷ [] → new ≡ with_spread seg (Some (spread_to state now)) rows
rows_more rows mid new seg state n one sent now there was is node pushed =
    is ∙ (ap (λ (o : Option Spread). with_spread seg (sent_more n one.job o) mid) (spread_with rows mid seg (spread_to state []) (spread_to state sent) there was)
    ∙ (ap (λ (m : NodeNo). with_spread seg (Some (spread_to state (sent ++ record { node = m; job = one.job } ∷ []))) mid) (sym node)
    ∙ (ap (λ (l : List Sent). with_spread seg (Some (spread_to state l)) mid) (sym pushed)
    ∙ (ap (λ (l : List OpenMerge). with_spread seg (Some (spread_to state now)) l) was ∙ with_last rows seg (Some (spread_to state now)) (Some (spread_to state sent))))))

-- ---- the loop

module _ {D : Type 0} (cells : D → Cells) where
  -- copies to the first of these nodes have begun
  pub record SendsUpTo (seg : ℕ) (state : CopyState) (nodes : List NodeNo) (i : ℕ) (sent : List Sent) (board after : Board) (old new : List (Option (NodePlace D))) : Type 0 where
    pub to : map (λ s. s.node) sent ≡ take i nodes
    pub rows : after.rows ≡ with_spread seg (Some (spread_to state sent)) board.rows
    pub posted : after.posted ≡ board.posted
    pub counts : after.counts ≡ board.counts
    pub count : length new ≡ length old
    pub others : (k : ℕ) (d : NodeNo) → i ≤ k → k < length nodes → place_of new (get_or nodes k d).0 ≡ place_of old (get_or nodes k d).0
    pub shown : (b : Sheet) → state.primary_gen.0 ≡ generation_of (printed b.log) → All (λ n. IsNode b.nodes n.0) nodes → AllShown cells b board old → AllShown cells b after new
    pub below : (d : NodeNo) → i < length nodes → AllByRecursion (λ s. s.node.0 < (get_or nodes i d).0) sent
    pub told : (b : Sheet) → state.primary_gen.0 ≡ generation_of (printed b.log) → All (λ n. IsNode b.nodes n.0) nodes → AllShown cells b board old → TellsSends b.log state sent old new

  module _ (seg : ℕ) (state : CopyState) (nodes : List NodeNo) (board : Board) (old : List (Option (NodePlace D))) (may : MaySendAll state nodes old) (written : spread_at (open_merge seg board.rows) ≡ Some (spread_to state [])) where
    pub none_yet : (sent : List Sent) → sent ≡ [] → SendsUpTo seg state nodes 0 sent board board old old
    none_yet sent none = record {
      to = ap (λ (l : List Sent). map (λ (s : Sent). s.node) l) none;
      rows = sym (ap (λ (l : List Sent). with_spread seg (Some (spread_to state l)) board.rows) none ∙ with_same board.rows seg (Some (spread_to state [])) written);
      posted = refl;
      counts = refl;
      count = refl;
      others = λ k d low high. refl;
      shown = λ b generation all_nodes all. all;
      below = λ d within. subst (λ (l : List Sent). AllByRecursion (λ s. s.node.0 < (get_or nodes 0 d).0) l) (sym none) tt;
      told = λ b generation all_nodes all. subst (λ (l : List Sent). TellsSends b.log state l old old) (sym none) (none_told b.log state old);
    }

    module _ (i : ℕ) (sent : List Sent) (mid : Board) (p : List (Option (NodePlace D))) (was : SendsUpTo seg state nodes i sent board mid old p) where
      -- the row has them
      pub row_there : spread_at (open_merge seg mid.rows) ≡ Some (spread_to state sent)
      row_there = spread_with board.rows mid.rows seg (spread_to state []) (spread_to state sent) written was.rows

      -- the next one may have it
      pub may_next : (n d : NodeNo) → i < length nodes → n ≡ get_or nodes i d → IsReplicaIn (MaySend state) n.0 p
      may_next n d within is = record {
        slot = (mine.slot.0, subst (λ (k : ℕ). n.0 ≤ k) (sym was.count) mine.slot.1);
        replica = subst (λ (o : Option (NodePlace D)). HasReplica o) (sym same) mine.replica;
        may = λ r held there. mine.may r held (sym same ∙ there);
      }
        where
          mine : IsReplicaIn (MaySend state) n.0 old
          mine = subst (λ (m : NodeNo). IsReplicaIn (MaySend state) m.0 old) (sym is) (may.each i d within)

          same : place_of p n.0 ≡ place_of old n.0
          same = ap (λ (m : NodeNo). place_of p m.0) is ∙ (was.others i d (omega arith) within ∙ ap (λ (m : NodeNo). place_of old m.0) (sym is))

      -- it has
      pub sent_next : (n d : NodeNo) (one : Sent) (now : List Sent) (after : Board) (new : List (Option (NodePlace D))) → i < length nodes → n ≡ get_or nodes i d → SendsOne cells seg state n one mid after p new → now ≡ sent ++ one ∷ []
          → SendsUpTo seg state nodes (i + 1) now board after old new
      sent_next n d one now after new within is sends pushed = record {
        to = ap (λ (l : List Sent). map (λ (s : Sent). s.node) l) pushed ∙ (map-append (λ (s : Sent). s.node) sent (one ∷ [])
            ∙ (ap (λ (l : List NodeNo). l ++ one.node ∷ []) was.to ∙ (ap (λ (m : NodeNo). take i nodes ++ m ∷ []) (sends.node ∙ is) ∙ sym (take_more nodes i d within))));
        rows = rows_more board.rows mid.rows after.rows seg state n one sent now written was.rows sends.rows sends.node pushed;
        posted = sends.posted ∙ was.posted;
        counts = sends.counts ∙ was.counts;
        count = sends.moves.moves.count ∙ was.count;
        others = λ k e low high. other_place n.0 (record { node = Replica sends.moves.replica; held = sends.moves.at.held }) p new (get_or nodes k e).0 sends.moves.moves (apart k e low high) ∙ was.others k e (omega (arith, low)) high;
        shown = λ b generation all_nodes all. sent_path cells b p new mid after seg n one.job state sends.moves.at.parts sends.moves.replica sends.moves.at.held sends.moves.moves (subst (λ (m : NodeNo). IsNode b.nodes m.0) (sym is) (all_nodes i d within))
            sends.moves.at.there sends.moves.step generation (subst (λ (o : Option Spread). IsSomeAnd o (λ z. (z.state ≡ state) × (z.all ≡ false))) (sym row_there) (refl, refl)) sends.rows sends.posted sends.counts (was.shown b generation all_nodes all);
        below = λ e high. subst (λ (l : List Sent). AllByRecursion (λ s. s.node.0 < (get_or nodes (i + 1) e).0) l) (sym pushed) (below_more sent one n.0 (get_or nodes (i + 1) e).0 low_all (ap (λ (m : NodeNo). m.0) sends.node) (less (i + 1) e (omega arith) high));
        told = λ b generation all_nodes all. subst (λ (l : List Sent). TellsSends b.log state l old new) (sym pushed)
            (told_next cells all.1.source b.log state sent one old p new n.0 sends.moves.at.parts sends.moves.replica sends.moves.at.held sends.moves.moves sends.moves.at.there sends.moves.step (ap (λ (m : NodeNo). m.0) sends.node) same low_all
            (some_at (λ z. NodeFiles all.1.source cells b.log (λ o. jobs_like old o b.nodes) n.0 z.node) (place_of old n.0) (record { node = Replica sends.moves.at.parts; held = sends.moves.at.held }) (sym same ∙ sends.moves.at.there)
            (all.1.each n.0 (subst (λ (m : NodeNo). IsNode b.nodes m.0) (sym is) (all_nodes i d within)))).job
            generation (was.told b generation all_nodes all));
      }
        where
          same : place_of p n.0 ≡ place_of old n.0
          same = ap (λ (m : NodeNo). place_of p m.0) is ∙ (was.others i d (omega arith) within ∙ ap (λ (m : NodeNo). place_of old m.0) (sym is))

          low_all : AllByRecursion (λ s. s.node.0 < n.0) sent
          low_all = subst (λ (m : NodeNo). AllByRecursion (λ s. s.node.0 < m.0) sent) (sym is) (was.below d within)

          less : (k : ℕ) (e : NodeNo) → i < k → k < length nodes → n.0 < (get_or nodes k e).0
          less k e low high = subst (λ (m : NodeNo). m.0 < (get_or nodes k e).0) (sym (is ∙ get_or_default nodes i d e within)) (may.ascending i k e low high)

          apart : (k : ℕ) (e : NodeNo) → i + 1 ≤ k → k < length nodes → (n.0 == (get_or nodes k e).0) ≡ false
          apart k e low high = ne_eqb n.0 (get_or nodes k e).0 (λ same. (let more = less k e (omega (arith, low)) high in absurd (omega (arith, more, same))))

      -- all have
      pub sent_last : length nodes ≤ i → SendsAll cells seg state nodes sent board mid old p
      sent_last end = record {
        to = was.to ∙ take_all i nodes end;
        rows = was.rows;
        posted = was.posted;
        counts = was.counts;
        shown = was.shown;
        told = was.told;
      }
