-- The hits of the queries that were asked, kept beside the texts.
use Rattle.std.specs.Prelude.{ℕ, ◌≡◌, List, [], ◌∷◌, map, take, Option, Some, None}
use Rattle.std.specs.List.{All}
use Rattle.std.specs.List.Sorted.{IsSorted}
use Rattle.std.specs.Map.{lookup}
use Rattle.std.specs.declared.cmp.Ordering.TheVariants.{Less}
use Rattle.std.specs.BTreeMap.{BTreeMap, IsOrdered, get, is_at}
use Rattle.nrt_base.specs.declared.doc.Doc.{Doc}
use Rattle.documents.specs.declared.answer.Hit.{Hit}
use Rattle.documents.specs.Documents.{documents_in, key_cmp}
use Rattle.documents.specs.InOrder.{in_order}
use Rattle.documents.specs.Ranking.{hit_cmp, matching_hits}
use Rattle.history_points.specs.declared.kept.KeptQuery.{KeptQuery}
use Rattle.history_points.specs.declared.searched.SearchedTexts.{SearchedTexts}

-- hits, each as its key and its rank
abbrev pub ranks_of : List Hit → List (List ℕ × ℕ)
ranks_of hits = map (λ h. (h.key, h.rank)) hits

-- a key and a rank, as a hit
abbrev pub ranked_hit : List ℕ × ℕ → Hit
ranked_hit entry = record { key = entry.0; rank = entry.1 }

-- the map has the rank of each of these hits, and no other
abbrev pub HasHits : List Hit → BTreeMap (List ℕ) ℕ → Type 0
HasHits hits ranks =
    (key : List ℕ) → get key_cmp ranks key ≡ lookup (is_at (key_cmp key)) (ranks_of hits)

-- the rank of the first hit, where there is one
abbrev pub head_rank : List Hit → Option ℕ
head_rank [] = None
head_rank (hit ∷ hits) = Some hit.rank

-- the query's hits among the documents are kept
abbrev pub KeepsHits : List Doc → KeptQuery → Type 0
KeepsHits docs kept = HasHits (matching_hits kept.query docs) kept.ranks

-- those of each of the queries
abbrev pub KeepAllHits : List Doc → List KeptQuery → Type 0
KeepAllHits docs kept = All (KeepsHits docs) kept

-- the texts are in order, and what is kept are the hits among them
pub record IsSearched (searched : SearchedTexts) : Type 0 where
  pub ordered : IsOrdered key_cmp searched.texts
  pub kept : KeepAllHits (documents_in searched.texts) searched.kept.items

-- these are the first 20 of some hits, in order
pub record AreFirst (hits best : List Hit) : Type 0 where
  pub first : best ≡ take 20 (in_order hit_cmp hits)
  pub sorted : IsSorted hit_cmp best

-- the keys of these hits are below a key
abbrev pub AreKeysBelow : List ℕ → List Hit → Type 0
AreKeysBelow key hits = All (λ h. key_cmp h.key key ≡ Less) hits
