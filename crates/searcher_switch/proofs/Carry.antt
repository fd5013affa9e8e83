-- The node's files over any call that tells what it wrote and how the counts changed.
use Rattle.std.proofs.Common.{◌≡◌, ◌⊎◌, ◌<◌, ◌≤◌, true≢false, ℕ, zero, suc, ◌+◌, Bool, true, false, List, [], ◌++◌, is_some, refl, sym, ◌∙◌, arith, inl, inr, get_or}
use Rattle.std.proofs.lemmas.List.Elements.{All-contains_itself}
use Rattle.disk_model.specs.Disk.{Name, Cells, same, is_among}
use Rattle.file_names.specs.Names.{is_commit_name, is_pending_name}
use Rattle.file_deleter.specs.Holdings.{Holdings, count_of, times, AreThere, AreCounted}
use Rattle.file_deleter.specs.Moves.{KeepsFiles, LetsGo, MovesCounts, Shifts}
use Rattle.file_deleter.proofs.NameLemmas.{times-append, among_times}
use Rattle.file_deleter.proofs.Keeping.{keeps_refl, known_counted}
use Rattle.commit_steps.specs.Commits.{ImagesAre}
use Rattle.commit_steps.specs.Book.{book_names, shown_by, IsBookSound}
use Rattle.commit_steps.specs.declared.stage.CommitBook.{CommitBook}
use Rattle.commit_steps.proofs.Safe.{among_of}
use Rattle.commit_steps.proofs.Beside.{sound_beside, sound_images}
use Rattle.searcher_switch.specs.Node.{HasNoPending, IsWholeNode, IsApart, AddsOnly}
use Rattle.searcher_switch.proofs.Freeing.{free_shifted}

not_written : (written : List Name) (book : CommitBook) (q : Name) → IsApart written book → (is_commit_name q ≡ true) ⊎ (is_pending_name q ≡ true) → is_among written q ≡ false
not_written written book q apart named = by (is_among written q) refl
  where
    by : (x : Bool) → is_among written q ≡ x → is_among written q ≡ false
    by true e = elim named [ inl h ↦ absurd (true≢false (sym h ∙ (apart.plain q e).0)) | inr h ↦ absurd (true≢false (sym h ∙ (apart.plain q e).1)) ]
    by false e = e

pub node_kept : (before after : Cells) (old new : Holdings) (hs more : List Name) (book : CommitBook) (written : List Name)
    → IsWholeNode before old hs book → IsApart written book → KeepsFiles written old new before after
    → ((q : Name) → count_of new q ≡ times more q + times (book_names book) q)
    → HasNoPending more
    → IsWholeNode after new more book
node_kept before after old new hs more book written node apart keeps counts plain = record {
  counts = counts;
  whole = keeps.whole node.whole;
  sound = sound_beside book old new before after
      (record {
        written = written;
        plain = apart.plain;
        apart = apart.files;
        keeps = keeps;
        counted = record { each = λ q. omega (arith, node.counts q) };
        still_counted = record { each = λ q. omega (arith, counts q) };
        alone = λ q is. omega (arith, counts q, node.counts q, plain.each q is);
      })
      node.whole node.sound;
  plain = plain;
  free = record {
    commits = λ q is le. keeps.none q (not_written written book q apart (inl is)) (node.free.commits q is le);
    pending = λ q is le. keeps.none q (not_written written book q apart (inr is)) (node.free.pending q is le);
  };
}

pub nothing_written : (book : CommitBook) → IsApart [] book
nothing_written book = record { plain = λ q h. absurd (true≢false (sym h)); files = λ q n. refl }

-- names that nobody holds are apart from the commits'
pub unheld_apart : (cells : Cells) (es : Holdings) (hs names : List Name) (book : CommitBook) → IsWholeNode cells es hs book
    → ((q : Name) → is_among names q ≡ true → (is_commit_name q ≡ false) × (is_pending_name q ≡ false)) → ((q : Name) → is_among names q ≡ true → count_of es q ≡ 0) → IsApart names book
unheld_apart cells es hs names book node plain free = record { plain = plain; files = λ q there. by q (among_times (book_names book) q there) (is_among names q) refl }
  where
    by : (q : Name) → 0 < times (book_names book) q → (b : Bool) → is_among names q ≡ b → is_among names q ≡ false
    by q n true e = let z : count_of es q ≡ 0 = free q e in absurd (omega (arith, n, z, node.counts q))
    by q n false e = e

-- ---- a call that is lent a value which holds files
pub node_moves : (before after : Cells) (old new : Holdings) (hs more from to : List Name) (book : CommitBook) (written : List Name)
    → IsWholeNode before old hs book → IsApart written book → MovesCounts written from to old new before after
    → ((q : Name) → times hs q + times to q ≡ times more q + times from q) → HasNoPending more
    → IsWholeNode after new more book
node_moves before after old new hs more from to book written node apart m e plain =
    node_kept before after old new hs more book written node apart m.keeps (λ q. omega (arith, node.counts q, m.balance q, e q)) plain

-- the same, where that value's names stand first, second, or last, nothing is written, and the value names no other files than before
module _ (before after : Cells) (old new : Holdings) (book : CommitBook) where
  pub node_front : (from to rest : List Name)
      → IsWholeNode before old (from ++ rest) book → MovesCounts [] from to old new before after → AddsOnly [] from to → IsWholeNode after new (to ++ rest) book
  node_front from to rest node m only =
      node_moves before after old new (from ++ rest) (to ++ rest) from to book [] node (nothing_written book) m
      (λ q. omega (arith, times-append from rest q, times-append to rest q))
      (record {
        each = λ q is.
            let none : times (from ++ rest) q ≡ 0 = node.plain.each q is in
            let split : times (from ++ rest) q ≡ times from q + times rest q = times-append from rest q in
            omega (arith, none, split, times-append to rest q, only.each q (omega (arith, none, split)) refl);
      })

  pub node_second : (a from to rest : List Name)
      → IsWholeNode before old (a ++ (from ++ rest)) book → MovesCounts [] from to old new before after → AddsOnly a from to → IsWholeNode after new (a ++ (to ++ rest)) book
  node_second a from to rest node m only =
      node_moves before after old new (a ++ (from ++ rest)) (a ++ (to ++ rest)) from to book [] node (nothing_written book) m
      (λ q. omega (arith, times-append a (from ++ rest) q, times-append a (to ++ rest) q, times-append from rest q, times-append to rest q))
      (record {
        each = λ q is.
            let none : times (a ++ (from ++ rest)) q ≡ 0 = node.plain.each q is in
            let split : times (a ++ (from ++ rest)) q ≡ times a q + times (from ++ rest) q = times-append a (from ++ rest) q in
            let more : times (from ++ rest) q ≡ times from q + times rest q = times-append from rest q in
            omega (arith, none, split, more, times-append a (to ++ rest) q, times-append to rest q, only.each q (omega (arith, none, split, more)) (omega (arith, none, split)));
      })

-- the whole list of holders changes as counts do
pub node_turns : (before after : Cells) (old new : Holdings) (hs more : List Name) (book : CommitBook) → IsWholeNode before old hs book → MovesCounts [] hs more old new before after → AddsOnly [] hs more → IsWholeNode after new more book
node_turns before after old new hs more book node m only =
    node_moves before after old new hs more hs more book [] node (nothing_written book) m (λ q. omega arith) (record { each = λ q is. only.each q (node.plain.each q is) refl })

-- ---- files in hand: counted, and not yet named by a value
pub node_gathers : (before after : Cells) (old new : Holdings) (hs names written : List Name) (book : CommitBook) → IsWholeNode before old hs book → IsApart written book → KeepsFiles written old new before after
    → ((q : Name) → count_of new q ≡ count_of old q + times names q) → HasNoPending names → IsWholeNode after new (names ++ hs) book
node_gathers before after old new hs names written book node apart keeps counts plain =
    node_kept before after old new hs (names ++ hs) book written node apart keeps (λ q. omega (arith, node.counts q, counts q, times-append names hs q))
    (record { each = λ q is. omega (arith, plain.each q is, node.plain.each q is, times-append names hs q) })

pub node_lets_go : (before after : Cells) (old new : Holdings) (hs names : List Name) (book : CommitBook) → IsWholeNode before old (names ++ hs) book → LetsGo names old new before after → IsWholeNode after new hs book
node_lets_go before after old new hs names book node r =
    node_kept before after old new (names ++ hs) hs book [] node (nothing_written book) r.keeps (λ q. omega (arith, node.counts q, r.counts q, times-append names hs q))
    (record { each = λ q is. omega (arith, node.plain.each q is, times-append names hs q) })

-- nothing is done, and the holders are told in another order
pub node_same_names : (cells : Cells) (es : Holdings) (hs more : List Name) (book : CommitBook) → IsWholeNode cells es hs book → ((q : Name) → times more q ≡ times hs q) → IsWholeNode cells es more book
node_same_names cells es hs more book node e =
    node_kept cells cells es es hs more book [] node (nothing_written book) (keeps_refl [] es cells) (λ q. omega (arith, node.counts q, e q)) (record { each = λ q is. omega (arith, e q, node.plain.each q is) })

-- a call after which as many are counted
pub node_same_counts : (before after : Cells) (old new : Holdings) (hs written : List Name) (book : CommitBook) → IsWholeNode before old hs book → IsApart written book → KeepsFiles written old new before after
    → ((q : Name) → count_of new q ≡ count_of old q) → IsWholeNode after new hs book
node_same_counts before after old new hs written book node apart keeps same =
    node_kept before after old new hs hs book written node apart keeps (λ q. omega (arith, node.counts q, same q)) node.plain

-- ---- what is held is there, and counted
pub node_exist : (cells : Cells) (es : Holdings) (hs : List Name) (book : CommitBook) → IsWholeNode cells es hs book → (q : Name) → 0 < times hs q → is_some (cells q).now ≡ true
node_exist cells es hs book node q lt = node.whole.names q ∙ known_counted es q (omega (arith, lt, node.counts q))

pub node_there : (cells : Cells) (es : Holdings) (hs names : List Name) (book : CommitBook) → IsWholeNode cells es hs book → ((q : Name) → times hs q ≡ 0 → times names q ≡ 0) → AreThere cells names
node_there cells es hs names book node within = record {
  each = λ k d lt.
      let x : Name = get_or names k d in
      let n : 0 < times names x = among_times names x (among_of names x (All-contains_itself names k d lt)) in
      node_exist cells es hs book node x (held x n (times hs x) refl);
}
  where
    held : (x : Name) → 0 < times names x → (n : ℕ) → times hs x ≡ n → 0 < times hs x
    held x some zero e = absurd (omega (arith, some, within x e))
    held x some (suc n) e = omega (arith, e)

pub node_counted : (cells : Cells) (es : Holdings) (hs names : List Name) (book : CommitBook) → IsWholeNode cells es hs book → ((q : Name) → times names q ≤ times hs q) → AreCounted names es
node_counted cells es hs names book node within = record { each = λ q. omega (arith, node.counts q, within q) }

-- the files of a value whose names stand first
pub front_there : (cells : Cells) (es : Holdings) (names more rest : List Name) (book : CommitBook) → IsWholeNode cells es ((names ++ more) ++ rest) book → AreThere cells names
front_there cells es names more rest book node = node_there cells es ((names ++ more) ++ rest) names book node (λ q none. omega (arith, none, times-append (names ++ more) rest q, times-append names more q))

pub front_counted : (cells : Cells) (es : Holdings) (names rest : List Name) (book : CommitBook) → IsWholeNode cells es (names ++ rest) book → AreCounted names es
front_counted cells es names rest book node = node_counted cells es (names ++ rest) names book node (λ q. omega (arith, times-append names rest q))

-- ---- the commits' own calls
pub node_commits : (before after : Cells) (old new : Holdings) (hs : List Name) (book next : CommitBook) → IsWholeNode before old hs book → Shifts (book_names book) (book_names next) old new before after
    → IsBookSound after new next → next.next ≡ book.next → IsWholeNode after new hs next
node_commits before after old new hs book next node shifts sound e = record {
  counts = λ q. omega (arith, node.counts q, shifts.balance q);
  whole = shifts.whole node.whole;
  sound = sound;
  plain = node.plain;
  free = free_shifted before after old new book next sound e shifts node.free;
}

pub node_begins : (cells : Cells) (old new : Holdings) (hs : List Name) (book next : CommitBook) → IsWholeNode cells old hs book → MovesCounts [] (book_names book) (book_names next) old new cells cells
    → IsBookSound cells new next → next.next ≡ book.next + 1 → IsWholeNode cells new hs next
node_begins cells old new hs book next node m sound e = record {
  counts = λ q. omega (arith, node.counts q, m.balance q);
  whole = m.keeps.whole node.whole;
  sound = sound;
  plain = node.plain;
  free = record { commits = λ q is le. node.free.commits q is (omega (arith, le, e)); pending = λ q is le. node.free.pending q is (omega (arith, le, e)) };
}

pub node_images : (cells : Cells) (holdings : Holdings) (others : List Name) (book : CommitBook) → IsWholeNode cells holdings others book → ImagesAre cells book.last (shown_by book.stage)
node_images cells holdings others book node = sound_images cells holdings book node.sound
