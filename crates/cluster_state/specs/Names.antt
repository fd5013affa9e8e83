-- Which names stand in the directories of a cluster's running nodes, and what the points of open tickets name.
use Rattle.std.specs.Prelude.{ℕ, ◌≡◌, ◌<◌, true, List, [], length, ⊤}
use Rattle.std.specs.List.{Contains, list_any}
use Rattle.disk_model.specs.Disk.{Name, Cells}
use Rattle.file_names.specs.Names.{is_documents_name}
use Rattle.file_deleter.specs.Holdings.{IsThere}
use Rattle.seg_reader.specs.Shown.{Shown}
use Rattle.searcher_switch.specs.declared.open.Open.{Open}
use Rattle.searcher_switch.specs.declared.open.SearchPoint.{SearchPoint}
use Rattle.index_primary.specs.Primary.{loose_of}
use Rattle.history_rules.specs.Nodes.{Past}
use Rattle.history_rules.specs.Points.{is_drawn}
use Rattle.history_rules.specs.Rules.{MayHaveName}
use Rattle.cluster_nodes.specs.declared.nodes.Node.{Node}
use Rattle.cluster_nodes.specs.declared.nodes.Node.TheVariants.{Primary, Replica, Down}

-- where a point has segments, one of its names is that of stored documents
abbrev pub NamesDocuments : SearchPoint Shown → Type 0
NamesDocuments point = 0 < length point.readers → list_any is_documents_name point.names ≡ true

-- Each name that stands in the directory of a running node is one that a file may have, the point of each open ticket names its
-- documents, and each number that was drawn for segments to come is one that the past shows.
pub record AreNamesShown (past : Past) (cells : Cells) (opens : List (Open Shown)) (numbers : List ℕ) : Type 0 where
  pub kinds : (q : Name) → IsThere cells q → MayHaveName past q
  pub tickets : (o : Open Shown) → Contains opens o → NamesDocuments o.point
  pub loose : (seg : ℕ) → Contains numbers seg → is_drawn seg past ≡ true

module _ {D : Type 0} where
  -- the same of a node, where it runs
  abbrev pub NamesShow : (D → Cells) → Past → Node D → Type 0
  NamesShow cells past (Primary p) = AreNamesShown past (cells p.dir) p.searchers.tickets (loose_of p)
  NamesShow cells past (Replica r) = AreNamesShown past (cells r.dir) r.searchers.tickets []
  NamesShow cells past (Down d) = ⊤

  -- the numbers of segments that a node drew and that have no file yet
  abbrev pub loose_at : Node D → List ℕ
  loose_at (Primary p) = loose_of p
  loose_at (Replica r) = []
  loose_at (Down d) = []
