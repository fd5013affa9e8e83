-- A primary that opens on its parts.
use Rattle.std.proofs.Common.{◌≡◌, ◌<◌, ◌≤◌, ◌+◌, true, is_some, ℕ, List, [], ◌++◌, Option, None, sym, ap, subst, ◌∙◌, arith, length}
use Rattle.std.specs.List.{Contains, AllByRecursion}
use Rattle.std.specs.Prelude.{IfSome}
use Rattle.disk_model.specs.Disk.{Name, Cells, reads_of}
use Rattle.segment_infos.specs.declared.infos.Infos.{Infos}
use Rattle.segment_infos.specs.Files.{AreFilesOf}
use Rattle.segment_infos.proofs.SetLaws.{one_list_of}
use Rattle.copy_state.specs.States.{AreShortNames}
use Rattle.searcher_switch.specs.Given.{Shown}
use Rattle.file_deleter.specs.Holdings.{Holdings, times, AreThere}
use Rattle.file_deleter.specs.Moves.{HoldsFiles}
use Rattle.file_deleter.proofs.NameLemmas.{times-append}
use Rattle.searcher_switch.specs.declared.open.SearchPoint.{SearchPoint}
use Rattle.searcher_switch.specs.declared.open.Open.{Open}
use Rattle.searcher_switch.specs.declared.searchers.Searchers.{Searchers}
use Rattle.searcher_switch.specs.Tickets.{ticket_names}
use Rattle.searcher_switch.specs.Searching.{searcher_names}
use Rattle.searcher_switch.specs.Node.{IsWholeNode}
use Rattle.searcher_switch.specs.Standing.{IsStanding}
use Rattle.searcher_switch.proofs.Carry.{node_kept, node_there, nothing_written}
use Rattle.index_primary.specs.declared.parts.PrimaryParts.{PrimaryParts}
use Rattle.index_primary.specs.declared.parts.Publish.{Publish}
use Rattle.index_primary.specs.declared.states.Out.{Out}
use Rattle.index_primary.specs.declared.states.Merging.{Merging}
use Rattle.index_primary.specs.Held.{IsHeld, AreUndrawn, AreNumbered}
use Rattle.index_primary.specs.States.{state_names}
use Rattle.index_primary.specs.Merges.{merge_names, merge_loose, merge_filled, IsMerging, AreApartMerges}
use Rattle.index_primary.specs.Primary.{rest_names, publish_loose, rest_loose, filled_of, IsPrimary, loose_in}
use Rattle.index_primary.proofs.Holding.{undrawn_kept}

module _ {D : Type 0} (cells : D → Cells) (p : PrimaryParts D) (node : IsWholeNode (cells p.dir) p.files (searcher_names p.searchers) p.commits) (held : IsHeld (reads_of (cells p.dir)) p.infos p.segs p.searchers.point.names)
    (names : List Name) (named : AreFilesOf p.infos names) where
  same_names : (q : Name) → times names q ≡ times p.searchers.point.names q
  same_names q = ap (λ (ns : List Name). times ns q) (one_list_of p.infos names p.searchers.point.names named held.files)

  old_split : (q : Name) → times (searcher_names p.searchers) q ≡ times p.searchers.point.names q + times (ticket_names p.searchers.tickets) q
  old_split q = times-append p.searchers.point.names (ticket_names p.searchers.tickets) q

  pub names_there : AreThere (cells p.dir) names
  names_there = node_there (cells p.dir) p.files (searcher_names p.searchers) names p.commits node (λ q none. omega (arith, none, same_names q, old_split q))

  module _ (files : Holdings) (holds : HoldsFiles names p.files files (cells p.dir)) (searchers : Searchers Shown) (point_names : List Name) (readers : List Shown) (point_infos : Infos)
      (point : searchers.point ≡ record { version = point_infos.version; names = point_names; readers = readers }) (tickets : searchers.tickets ≡ p.searchers.tickets)
      (n : point_names ≡ names) (r : readers ≡ p.segs) (i : point_infos ≡ p.infos) (states : p.states ≡ []) (merges : p.merges ≡ []) (publish : p.publish ≡ None) where
    new_split : (q : Name) → times (searcher_names searchers ++ (names ++ rest_names p)) q ≡ times (searcher_names p.searchers) q + times names q
    new_split q =
        let a : times (searcher_names searchers ++ (names ++ rest_names p)) q ≡ times (searcher_names searchers) q + times (names ++ rest_names p) q = times-append (searcher_names searchers) (names ++ rest_names p) q in
        let b : times (searcher_names searchers) q ≡ times searchers.point.names q + times (ticket_names searchers.tickets) q = times-append searchers.point.names (ticket_names searchers.tickets) q in
        let c : times (names ++ rest_names p) q ≡ times names q + times (rest_names p) q = times-append names (rest_names p) q in
        let s : times (state_names p.states) q ≡ 0 = ap (λ (ss : List Out). times (state_names ss) q) states in
        let m : times (merge_names p.merges) q ≡ 0 = ap (λ (ms : List Merging). times (merge_names ms) q) merges in
        let d : times (rest_names p) q ≡ 0 = times-append (state_names p.states) (merge_names p.merges) q ∙ omega (arith, s, m) in
        let e : times searchers.point.names q ≡ times names q = ap (λ (x : SearchPoint Shown). times x.names q) point ∙ ap (λ (ns : List Name). times ns q) n in
        let f : times (ticket_names searchers.tickets) q ≡ times (ticket_names p.searchers.tickets) q = ap (λ (ts : List (Open Shown)). times (ticket_names ts) q) tickets in
        omega (arith, a, b, c, d, e, f, same_names q, old_split q)

    node_open : IsWholeNode (cells p.dir) files (searcher_names searchers ++ (names ++ rest_names p)) p.commits
    node_open = node_kept (cells p.dir) (cells p.dir) p.files files (searcher_names p.searchers) (searcher_names searchers ++ (names ++ rest_names p)) p.commits [] node (nothing_written p.commits) holds.keeps
        (λ q. omega (arith, node.counts q, holds.counts q, new_split q))
        (record { each = λ q is. omega (arith, node.plain.each q is, new_split q, same_names q, old_split q) })

    pub primary_opens : AreShortNames p.completed → IsStanding (reads_of (cells p.dir)) p.commits → AreUndrawn p.files p.infos [] [] → AreNumbered p.infos [] → IsPrimary cells (record p { files = files; searchers = searchers; point_infos = point_infos; names = names })
    primary_opens completed standing undrawn numbered = record {
      node = node_open;
      standing = standing;
      writer = record { spelled = held.spelled; files = named; docs = held.docs; stands = held.stands };
      searched = subst (λ (x : SearchPoint Shown). IsHeld (reads_of (cells p.dir)) point_infos x.readers x.names) (sym point)
          (subst (λ (x : Infos). IsHeld (reads_of (cells p.dir)) x readers point_names) (sym i)
          (subst (λ (ss : List Shown). IsHeld (reads_of (cells p.dir)) p.infos ss point_names) (sym r)
          (subst (λ (ns : List Name). IsHeld (reads_of (cells p.dir)) p.infos p.segs ns) (sym n) (record { spelled = held.spelled; files = named; docs = held.docs; stands = held.stands }))));
      version = sym (ap (λ (x : SearchPoint Shown). x.version) point);
      versions = sym (ap (λ (x : Infos). x.version) i);
      merging = subst (λ (ms : List Merging). AllByRecursion (IsMerging (reads_of (cells p.dir)) p.infos.segs p.segs) ms) (sym merges) tt;
      merges_apart = subst AreApartMerges (sym merges) tt;
      undrawn = subst (λ (o : Option Publish). AreUndrawn files p.infos (publish_loose o ++ rest_loose p) (filled_of p)) (sym publish) (subst (λ (ms : List Merging). AreUndrawn files p.infos (merge_loose ms) (merge_filled ms)) (sym merges) (undrawn_kept p.files files p.infos [] [] undrawn
          (record { each = λ q plain not_pending none. omega (arith, none, node.counts q, node_open.counts q, new_split q, same_names q, old_split q) })));
      numbered = subst (λ (o : Option Publish). AreNumbered p.infos (publish_loose o ++ rest_loose p)) (sym publish) (subst (λ (ms : List Merging). AreNumbered p.infos (merge_loose ms)) (sym merges) numbered);
      few = subst (λ (o : Option Publish). IfSome o (λ f. is_some f.seg ≡ true → length p.segs < 256)) (sym publish) tt;
      completed = completed;
      alone = subst (λ (o : Option Publish). IfSome o (λ f. (n : ℕ) → Contains (loose_in f.seg) n → Contains (rest_loose p) n → ⊥)) (sym publish) tt;
      waits = subst (λ (o : Option Publish). IfSome o (λ f. f.count ≤ length p.waiting)) (sym publish) tt;
    }
