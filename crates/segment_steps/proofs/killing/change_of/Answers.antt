use Rattle.std.proofs.Common.{rules, ◌≡◌, ap, sym, subst, ◌∙◌, length, map, List, ◌∷◌, [], ℕ}
use Rattle.std.specs.Map.Iter.{deref}
use Rattle.std.proofs.lemmas.List.{map-append}
use Rattle.std.proofs.lemmas.Map.Iter.{iter_end}
use Rattle.live_bits.specs.LiveRows.{live_rows}
use Rattle.segment_steps.specs.Cut.{live_left, has_key_of, has_word_of}
use Rattle.segment_steps.specs.Segments.{changed}
use Rattle.segment_steps.specs.Marks.{is_gone}
use Rattle.segment_steps.proofs.FlushLemmas.{gone_agree}
use Rattle.segment_steps.proofs.RowsLeft.{no_key, no_word, one_key_more, one_word_more, keys_and_words, change_told}
use Rattle.segment_steps.proofs.killing.change_of.Goals as goal

pub loop-key-init : goal.loop-key-init
loop-key-init c =
    let s = c.args.segment.now in
    record { rows = sym (ap length c.live_rows.ensures.live) ∙ c.live_rows.ensures.rows; live = no_key s.docs s.live }

pub loop-key-preserved : goal.loop-key-preserved
loop-key-preserved c =
    let s = c.args.segment.now in
    record {
      rows = c.in_ok-kill_key.ensures.rows;
      live =
          subst (λ (keys : List (List ℕ)). (changed s c.kill_key.new.change).live ≡ live_left (has_key_of keys) s.docs s.live) (sym (map-append deref c.loop-key.yielded (c.in-Some.key ∷ [])))
          (one_key_more s.docs s.live (changed s c.loop-key.change).live (changed s c.kill_key.new.change).live (map deref c.loop-key.yielded) c.in-Some.key.now c.loop-key.invariant.live c.in_ok-kill_key.ensures.live);
    }

pub loop-word-init : goal.loop-word-init
loop-word-init c =
    let s = c.args.segment.now in
    record { rows = c.loop-key.invariant.rows; live = no_word s.docs (changed s c.loop-key.change).live }

pub loop-word-preserved : goal.loop-word-preserved
loop-word-preserved c =
    let s = c.args.segment.now in
    let was = (changed s c.loop-key.change).live in
    record {
      rows = c.in_ok-kill_word.ensures.rows;
      live =
          subst (λ (words : List (List ℕ)). (changed s c.kill_word.new.change).live ≡ live_left (has_word_of words) s.docs was) (sym (map-append deref c.loop-word.yielded (c.in-Some-word.word ∷ [])))
          (one_word_more s.docs was (changed s c.loop-word.change).live (changed s c.kill_word.new.change).live (map deref c.loop-word.yielded) c.in-Some-word.word.now c.loop-word.invariant.live c.in_ok-kill_word.ensures.live);
    }

pub returns : goal.returns
returns c =
    let s = c.args.segment.now in
    let gone = c.args.gone.now in
    let keys : map deref c.loop-key.yielded ≡ gone.keys.keys = search (rules, iter_end) in
    let words : map deref c.loop-word.yielded ≡ gone.words.keys = search (rules, iter_end) in
    let first : (changed s c.loop-key.change).live ≡ live_left (has_key_of gone.keys.keys) s.docs s.live = c.loop-key.invariant.live ∙ ap (λ (ks : List (List ℕ)). live_left (has_key_of ks) s.docs s.live) keys in
    let second : (changed s c.loop-word.change).live ≡ live_left (has_word_of gone.words.keys) s.docs (changed s c.loop-key.change).live =
    c.loop-word.invariant.live ∙ ap (λ (ws : List (List ℕ)). live_left (has_word_of ws) s.docs (changed s c.loop-key.change).live) words in
    let left = keys_and_words s.docs s.live (changed s c.loop-key.change).live (changed s c.loop-word.change).live gone.keys.keys gone.words.keys (is_gone gone) (gone_agree gone) first second in
    c.if_fewer.ensures ∙ change_told (is_gone gone) s c.loop-word.change c.counts-before.result.1 left (c.counts-before.ensures.live ∙ ap live_rows c.live_rows.ensures.live)
