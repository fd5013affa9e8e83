-- The hits of a query follow the documents.
use Rattle.std.proofs.Common.{◌≡◌, ℕ, List, [], ◌∷◌, ◌++◌, map, length, take, Bool, true, false, Option, Some, None, Result, Ok, Err, IfOk, refl, sym, ap, subst, ◌∙◌}
use Rattle.std.specs.Prelude.{bytes_eq, filter, not, if◌then◌else◌, ◌&&◌, IfSome}
use Rattle.std.specs.Ordering.{is_lt}
use Rattle.std.specs.Cmp.Lexicographic.{texts_ties}
use Rattle.std.specs.List.{All}
use Rattle.std.specs.List.Sorted.{IsStrictlySortedBy}
use Rattle.std.specs.Map.{lookup, keys_of}
use Rattle.std.specs.Option.{option_to_list}
use Rattle.std.specs.BTreeMap.{BTreeMap, IsOrdered, get, is_at}
use Rattle.std.proofs.lemmas.Bool.{and_parts}
use Rattle.std.proofs.lemmas.Cmp.{nat_list_eq_equiv}
use Rattle.std.proofs.lemmas.List.{length-map}
use Rattle.std.proofs.lemmas.List.Elements.{All-nil, All-pop, All-push}
use Rattle.nrt_base.specs.declared.doc.Doc.{Doc}
use Rattle.documents.specs.declared.answer.Answer.{Answer}
use Rattle.documents.specs.declared.answer.Hit.{Hit}
use Rattle.documents.specs.declared.operation.Op.{Op}
use Rattle.documents.specs.declared.operation.Op.TheVariants.{Put, Delete}
use Rattle.documents.specs.declared.query.Query.{Query}
use Rattle.documents.specs.Documents.{IsAscending, after_op, document_of, documents_in, key_cmp, remaining, with_doc}
use Rattle.documents.specs.InOrder.{in_order}
use Rattle.documents.specs.Matching.{matches, matches_doc}
use Rattle.documents.specs.Ranking.{hit_of, hit_cmp, matching_hits, rank_of, scan_of}
use Rattle.documents.specs.Words.{words_of}
use Rattle.documents.proofs.DocumentLemmas.{ascending_passing}
use Rattle.history_points.specs.declared.kept.KeptQuery.{KeptQuery}
use Rattle.history_points.specs.declared.searched.SearchedTexts.{SearchedTexts}
use Rattle.history_points.proofs.EntryLaws.{at_equal, at_itself, same_entries}
use Rattle.history_points.specs.Kept.{HasHits, KeepsHits, KeepAllHits, IsSearched, head_rank, ranked_hit, ranks_of}

-- ---- a key among others

at_other : (a b : List ℕ) → is_at (key_cmp a) b ≡ is_at (key_cmp b) a
at_other a b = sym (texts_ties a b) ∙ nat_list_eq_equiv.symm a b ∙ texts_ties b a

-- where a key is that of a document, it is another one as the document's is
at_found : (key other k : List ℕ) → is_at (key_cmp k) other ≡ true → is_at (key_cmp key) k ≡ bytes_eq key other
at_found key other k e =
    ap (λ (x : List ℕ). is_at (key_cmp key) x) (at_equal k other e) ∙ sym (texts_ties key other)

-- ---- of the first of some that pass, by one of them

gone : (b p s : Bool) (r x y : Option ℕ) → (p ≡ true → s ≡ b) → x ≡ (if s then None else y)
    → (if b then x else (if p then r else x)) ≡ (if s then None else (if p then r else y))
gone true true true r x y same e = e
gone true true false r x y same e = let bad : false ≡ true = same refl in absurd cc
gone true false s r x y same e = e
gone false true true r x y same e = let bad : true ≡ false = same refl in absurd cc
gone false true false r x y same e = refl
gone false false s r x y same e = e

come : (l n p : Bool) (m r x y : Option ℕ) → (p ≡ true → n ≡ false) → x ≡ (if n then m else y)
    → (if l then (if p then r else x) else (if n then m else (if p then r else y))) ≡ (if n then m else (if p then r else y))
come false n p m r x y other e = refl
come true true true m r x y other e = let bad : true ≡ false = other refl in absurd cc
come true false true m r x y other e = refl
come true n false m r x y other e = e

turned : (m t s : Bool) (r y : Option ℕ) → t ≡ s → (if m && t then r else (if s then None else y)) ≡ (if s then (if m then r else None) else y)
turned true true true r y e = refl
turned true true false r y e = absurd cc
turned true false true r y e = absurd cc
turned true false false r y e = refl
turned false t true r y e = refl
turned false t false r y e = refl

not_some : (p : Bool) (rank : ℕ) (rest : Option ℕ) → (if p then Some rank else rest) ≡ None → (p ≡ false) × (rest ≡ None)
not_some true rank rest e = absurd cc
not_some false rank rest e = (refl, e)

unmatched : (b may : Bool) → (b ≡ true → may ≡ true) → may ≡ false → b ≡ false
unmatched true may told none = sym (told refl) ∙ none
unmatched false may told none = refl

module _ (query : Query) where
  -- the rank of the hit with a key
  abbrev rank_at : List Doc → List ℕ → Option ℕ
  rank_at docs key = lookup (is_at (key_cmp key)) (ranks_of (matching_hits query docs))

  abbrev own_rank : Doc → Option ℕ
  own_rank doc = Some (rank_of query (words_of doc.text))

  -- the document matches, and has this key
  abbrev is_found : Doc → List ℕ → Bool
  is_found doc key = matches_doc query doc && is_at (key_cmp key) doc.key

  rank_at-cons : (d : Doc) (docs : List Doc) (k : List ℕ) → rank_at (d ∷ docs) k ≡ (if is_found d k then own_rank d else rank_at docs k)
  rank_at-cons d docs k =
      elim (matches_doc query d) as (λ b. lookup (is_at (key_cmp k)) (ranks_of (map (hit_of query) (if b then d ∷ filter (matches_doc query) docs else filter (matches_doc query) docs))) ≡ (if b && is_at (key_cmp k) d.key then own_rank d else rank_at docs k)) [
        | true ↦ refl
        | false ↦ refl
      ]

  -- without the documents of a key
  rank_at-remaining : (key : List ℕ) (docs : List Doc) (k : List ℕ) → rank_at (remaining (Delete key) docs) k ≡ (if is_at (key_cmp key) k then None else rank_at docs k)
  rank_at-remaining key [] k =
      elim (is_at (key_cmp key) k) as (λ b. ◌≡◌ {A = Option ℕ} None (if b then None else None)) [
        | true ↦ refl
        | false ↦ refl
      ]
  rank_at-remaining key (d ∷ docs) k =
      let rest = remaining (Delete key) docs in
      let step : rank_at (remaining (Delete key) (d ∷ docs)) k ≡ (if bytes_eq key d.key then rank_at rest k else (if is_found d k then own_rank d else rank_at rest k)) =
      elim (bytes_eq key d.key) as (λ b. rank_at (if not b then d ∷ rest else rest) k ≡ (if b then rank_at rest k else (if is_found d k then own_rank d else rank_at rest k))) [
        | true ↦ refl
        | false ↦ rank_at-cons d rest k
      ] in
      let found : is_found d k ≡ true → is_at (key_cmp key) k ≡ bytes_eq key d.key = λ e. at_found key d.key k (and_parts (matches_doc query d) (is_at (key_cmp k) d.key) e).1 in
      step ∙ gone (bytes_eq key d.key) (is_found d k) (is_at (key_cmp key) k) (own_rank d) (rank_at rest k) (rank_at docs k) found (rank_at-remaining key docs k)
      ∙ ap (λ (o : Option ℕ). if is_at (key_cmp key) k then None else o) (sym (rank_at-cons d docs k))

  -- with one more document, whose key none of them has
  rank_at-with_doc : (docs : List Doc) (doc : Doc) (k : List ℕ) → rank_at docs doc.key ≡ None → rank_at (with_doc docs doc) k ≡ (if is_found doc k then own_rank doc else rank_at docs k)
  rank_at-with_doc [] doc k none = rank_at-cons doc [] k
  rank_at-with_doc (d ∷ docs) doc k none =
      let more = with_doc docs doc in
      let step : rank_at (with_doc (d ∷ docs) doc) k ≡ (if is_lt (key_cmp d.key doc.key) then (if is_found d k then own_rank d else rank_at more k) else (if is_found doc k then own_rank doc else (if is_found d k then own_rank d else rank_at docs k))) =
      elim (is_lt (key_cmp d.key doc.key)) as (λ b. rank_at (if b then d ∷ more else doc ∷ d ∷ docs) k ≡ (if b then (if is_found d k then own_rank d else rank_at more k) else (if is_found doc k then own_rank doc else (if is_found d k then own_rank d else rank_at docs k)))) [
        | true ↦ rank_at-cons d more k
        | false ↦ rank_at-cons doc (d ∷ docs) k ∙ ap (λ (o : Option ℕ). if is_found doc k then own_rank doc else o) (rank_at-cons d docs k)
      ] in
      let lacks = not_some (is_found d doc.key) (rank_of query (words_of d.text)) (rank_at docs doc.key) (sym (rank_at-cons d docs doc.key) ∙ none) in
      let other : is_found d k ≡ true → is_found doc k ≡ false = λ e. apart d doc k (and_parts (matches_doc query d) (is_at (key_cmp k) d.key) e) lacks.0 in
      step ∙ come (is_lt (key_cmp d.key doc.key)) (is_found doc k) (is_found d k) (own_rank doc) (own_rank d) (rank_at more k) (rank_at docs k) other (rank_at-with_doc docs doc k lacks.1)
      ∙ ap (λ (o : Option ℕ). if is_found doc k then own_rank doc else o) (sym (rank_at-cons d docs k))
    where
      right_false : (m t : Bool) → t ≡ false → (m && t) ≡ false
      right_false true t e = e
      right_false false t e = refl

      left_true : (m t : Bool) → m ≡ true → (m && t) ≡ false → t ≡ false
      left_true true t e f = f
      left_true false t e f = absurd cc

      apart : (d doc : Doc) (k : List ℕ) → (matches_doc query d ≡ true) × (is_at (key_cmp k) d.key ≡ true) → is_found d doc.key ≡ false → is_found doc k ≡ false
      apart d doc k here lacks =
          let same : k ≡ d.key = at_equal k d.key here.1 in
          let other : is_at (key_cmp doc.key) d.key ≡ false = left_true (matches_doc query d) (is_at (key_cmp doc.key) d.key) here.0 lacks in
          right_false (matches_doc query doc) (is_at (key_cmp k) doc.key) (ap (λ (x : List ℕ). is_at (key_cmp x) doc.key) same ∙ at_other d.key doc.key ∙ other)

  head_of : (doc : Doc) → head_rank (matching_hits query (doc ∷ [])) ≡ (if matches_doc query doc then own_rank doc else None)
  head_of doc =
      elim (matches_doc query doc) as (λ b. head_rank (map (hit_of query) (if b then doc ∷ [] else [])) ≡ (if b then own_rank doc else None)) [
        | true ↦ refl
        | false ↦ refl
      ]

  rank_at-put : (docs : List Doc) (doc : Doc) (k : List ℕ)
      → rank_at (after_op docs (Put doc)) k ≡ (if is_at (key_cmp doc.key) k then head_rank (matching_hits query (doc ∷ [])) else rank_at docs k)
  rank_at-put docs doc k =
      let rest = remaining (Delete doc.key) docs in
      let none : rank_at rest doc.key ≡ None =
      rank_at-remaining doc.key docs doc.key ∙ ap (λ (b : Bool). if b then None else rank_at docs doc.key) (at_itself doc.key) in
      rank_at-with_doc rest doc k none ∙ ap (λ (o : Option ℕ). if is_found doc k then own_rank doc else o) (rank_at-remaining doc.key docs k)
      ∙ turned (matches_doc query doc) (is_at (key_cmp k) doc.key) (is_at (key_cmp doc.key) k) (own_rank doc) (rank_at docs k) (at_other k doc.key)
      ∙ ap (λ (o : Option ℕ). if is_at (key_cmp doc.key) k then o else rank_at docs k) (sym (head_of doc))

  -- the ranks after a put, where the key got that of the document
  pub has_put : (docs : List Doc) (doc : Doc) (old new : BTreeMap (List ℕ) ℕ) (hits : List Hit) → hits ≡ matching_hits query (doc ∷ [])
      → ((k : List ℕ) → get key_cmp new k ≡ (if is_at (key_cmp doc.key) k then head_rank hits else get key_cmp old k))
      → HasHits (matching_hits query docs) old → HasHits (matching_hits query (after_op docs (Put doc))) new
  has_put docs doc old new hits are set has = λ k.
      set k ∙ ap (λ (hs : List Hit). if is_at (key_cmp doc.key) k then head_rank hs else get key_cmp old k) are
      ∙ ap (λ (o : Option ℕ). if is_at (key_cmp doc.key) k then head_rank (matching_hits query (doc ∷ [])) else o) (has k) ∙ sym (rank_at-put docs doc k)

  -- where the query may not match the document, its key is taken out
  pub has_put_other : (docs : List Doc) (doc : Doc) (old new : BTreeMap (List ℕ) ℕ) (text : List ℕ) (may : Bool) → text ≡ doc.text → (matches query (words_of text) ≡ true → may ≡ true) → may ≡ false
      → ((k : List ℕ) → get key_cmp new k ≡ (if is_at (key_cmp doc.key) k then None else get key_cmp old k))
      → HasHits (matching_hits query docs) old → HasHits (matching_hits query (after_op docs (Put doc))) new
  has_put_other docs doc old new text may is told not_may set =
      let other : matches_doc query doc ≡ false = ap (λ (t : List ℕ). matches query (words_of t)) (sym is) ∙ unmatched (matches query (words_of text)) may told not_may in
      let none : matching_hits query (doc ∷ []) ≡ [] = rw other refl in
      has_put docs doc old new [] (sym none) set

  -- the ranks after a delete
  pub has_deleted : (docs : List Doc) (key : List ℕ) (old new : BTreeMap (List ℕ) ℕ)
      → ((k : List ℕ) → get key_cmp new k ≡ (if is_at (key_cmp key) k then None else get key_cmp old k))
      → HasHits (matching_hits query docs) old → HasHits (matching_hits query (after_op docs (Delete key))) new
  has_deleted docs key old new set has = λ k.
      set k ∙ ap (λ (o : Option ℕ). if is_at (key_cmp key) k then None else o) (has k) ∙ sym (rank_at-remaining key docs k)

  keys-ranks : (docs : List Doc) → keys_of (ranks_of (map (hit_of query) docs)) ≡ map (λ d. d.key) docs
  keys-ranks [] = refl
  keys-ranks (d ∷ docs) = ap (λ (ks : List (List ℕ)). d.key ∷ ks) (keys-ranks docs)

  hits-ranks : (docs : List Doc) → map ranked_hit (ranks_of (map (hit_of query) docs)) ≡ map (hit_of query) docs
  hits-ranks [] = refl
  hits-ranks (d ∷ docs) = ap (λ (hs : List Hit). hit_of query d ∷ hs) (hits-ranks docs)

  -- the ranks in order of key are the hits
  pub hits_in : (docs : List Doc) (ranks : BTreeMap (List ℕ) ℕ) → IsAscending docs → IsOrdered key_cmp ranks → HasHits (matching_hits query docs) ranks
      → map ranked_hit ranks.entries ≡ matching_hits query docs
  hits_in docs ranks ascending ordered has =
      let hits = filter (matches_doc query) docs in
      let up : IsStrictlySortedBy key_cmp (keys_of (ranks_of (matching_hits query docs))) = subst (IsStrictlySortedBy key_cmp) (sym (keys-ranks hits)) (ascending_passing (matches_doc query) docs ascending) in
      let same : ranks.entries ≡ ranks_of (matching_hits query docs) = same_entries ranks.entries (ranks_of (matching_hits query docs)) ordered up has in
      ap (map ranked_hit) same ∙ hits-ranks hits

-- a map of texts in order has documents in order
pub texts_ascend : (texts : BTreeMap (List ℕ) (List ℕ)) → IsOrdered key_cmp texts → IsAscending (documents_in texts)
texts_ascend texts ordered = subst (IsStrictlySortedBy key_cmp) (sym (keys_in texts.entries)) ordered
  where
    keys_in : (entries : List (List ℕ × List ℕ)) → map (λ d. d.key) (map document_of entries) ≡ keys_of entries
    keys_in [] = refl
    keys_in (e ∷ entries) = ap (λ (ks : List (List ℕ)). e.0 ∷ ks) (keys_in entries)

-- what the first 20 and their number answer
pub answer_is : (docs : List Doc) (query : Query) (ranks : BTreeMap (List ℕ) ℕ) (total : ℕ) (best : List Hit) → IsAscending docs → IsOrdered key_cmp ranks → HasHits (matching_hits query docs) ranks
    → total ≡ length ranks.entries → best ≡ take 20 (in_order hit_cmp (map ranked_hit ranks.entries)) → ◌≡◌ {A = Answer} (record { total = total; hits = best }) (scan_of docs query)
answer_is docs query ranks total best ascending ordered has count first =
    let same = hits_in query docs ranks ascending ordered has in
    same_answer total (length (matching_hits query docs)) best (take 20 (in_order hit_cmp (matching_hits query docs)))
    (count ∙ sym (length-map ranks.entries ranked_hit) ∙ ap (λ (hs : List Hit). length hs) same) (first ∙ ap (λ (hs : List Hit). take 20 (in_order hit_cmp hs)) same)
  where
    same_answer : (m n : ℕ) (hits others : List Hit) → m ≡ n → hits ≡ others → ◌≡◌ {A = Answer} (record { total = m; hits = hits }) (record { total = n; hits = others })
    same_answer m n hits others e f = cc

-- one query after another is kept
pub kept_next : (docs : List Doc) (op : Op) (kept rest new more : List KeptQuery) (one : KeptQuery) → kept ≡ rest ++ option_to_list (Some one)
    → (KeepsHits docs one → KeepAllHits (after_op docs op) new → KeepAllHits (after_op docs op) more)
    → KeepAllHits docs kept × KeepAllHits (after_op docs op) new → KeepAllHits docs rest × KeepAllHits (after_op docs op) more
kept_next docs op kept rest new more one is next both =
    let parts = All-pop (KeepsHits docs) kept rest (Some one) is both.0 in
    (parts.0, next parts.1 both.1)

-- what hits answer is what they answer for these documents
pub told_there : {E : Type 0} (docs : List Doc) (query : Query) (ranks : BTreeMap (List ℕ) ℕ) (r : Result (Option Answer) E) → IsAscending docs → HasHits (matching_hits query docs) ranks
    → IfOk r (λ found. IfSome found (λ answer. (docs : List Doc) (query : Query) → IsAscending docs → HasHits (matching_hits query docs) ranks → answer ≡ scan_of docs query))
    → IfOk r (λ found. IfSome found (λ answer. answer ≡ scan_of docs query))
told_there docs query ranks (Ok (Some answer)) ascending has told = told docs query ascending has
told_there docs query ranks (Ok None) ascending has told = tt
told_there docs query ranks (Err e) ascending has told = tt

-- ---- the texts and what is kept beside them

-- nothing is kept
pub none_kept : (searched : SearchedTexts) → IsOrdered key_cmp searched.texts → searched.kept.items ≡ [] → IsSearched searched
none_kept searched ordered none = record {
  ordered = ordered;
  kept = subst (All (KeepsHits (documents_in searched.texts))) (sym none) (All-nil (KeepsHits (documents_in searched.texts)));
}

-- one more query is kept
pub one_kept : (old new : SearchedTexts) (one : KeptQuery) → IsSearched old → KeepsHits (documents_in old.texts) one → new.texts ≡ old.texts → new.kept.items ≡ old.kept.items ++ one ∷ [] → IsSearched new
one_kept old new one was keeps texts more =
    let keep : KeptQuery → Type 0 = KeepsHits (documents_in old.texts) in
    record {
      ordered = subst (IsOrdered key_cmp) (sym texts) was.ordered;
      kept = subst (λ (ts : BTreeMap (List ℕ) (List ℕ)). KeepAllHits (documents_in ts) new.kept.items) (sym texts) (subst (All keep) (sym more) (All-push keep old.kept.items one was.kept keeps));
    }

-- what is kept followed an operation
pub all_followed : (old new : SearchedTexts) (op : Op) (left : List KeptQuery) → left ≡ old.kept.items → IsSearched old → IsOrdered key_cmp new.texts → documents_in new.texts ≡ after_op (documents_in old.texts) op
    → ((docs : List Doc) → KeepAllHits docs left → KeepAllHits (after_op docs op) new.kept.items) → IsSearched new
all_followed old new op left is was ordered after follow =
    let had : KeepAllHits (documents_in old.texts) left = subst (KeepAllHits (documents_in old.texts)) (sym is) was.kept in
    record {
      ordered = ordered;
      kept = subst (λ (docs : List Doc). KeepAllHits docs new.kept.items) (sym after) (follow (documents_in old.texts) had);
    }
