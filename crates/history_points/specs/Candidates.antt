-- Which documents a search may leave out.
use Rattle.std.specs.Prelude.{List, length, ◌≡◌, ◌≤◌}
use Rattle.std.specs.List.{list_any}
use Rattle.nrt_base.specs.declared.doc.Doc.{Doc}
use Rattle.documents.specs.declared.query.Query.{Query}
use Rattle.documents.specs.Ranking.{matching_hits, is_too_high}

-- of all documents, these have each that the query matches
pub record HaveMatches (query : Query) (all some : List Doc) : Type 0 where
  pub hits : matching_hits query some ≡ matching_hits query all
  pub high : list_any (is_too_high query) some ≡ list_any (is_too_high query) all
  pub few : length some ≤ length all
