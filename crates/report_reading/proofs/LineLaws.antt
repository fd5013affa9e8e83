-- The line of an entry is cut off a text as it is, and cut into the words of the entry.
use Rattle.std.proofs.Common.{◌≡◌, ℕ, ◌^◌, ◌<◌, Bool, true, false, not, nat_lt, List, [], ◌∷◌, ◌++◌, refl, ap, ◌∙◌, arith, append_assoc}
use Rattle.std.specs.Prelude.{◌==◌}
use Rattle.std.specs.List.{list_all, onto_first}
use Rattle.std.specs.Fmt.{decimal}
use Rattle.std.proofs.lemmas.Bool.{and_parts, and_from, lt-ltb, ltb-true}
use Rattle.std.proofs.lemmas.Bool.Decides.{nat_tests}
use Rattle.nrt_base.specs.Bytes.{is_key_byte, is_key}
use Rattle.documents.specs.declared.answer.Hit.{Hit}
use Rattle.history_rules.specs.declared.cause.Cause.{Cause}
use Rattle.history_rules.specs.declared.cause.Cause.TheVariants.{ForceLow, Cancelled, Damaged}
use Rattle.history_rules.specs.declared.cause.FaultPlan.{FaultPlan}
use Rattle.history_rules.specs.declared.cause.FaultPlan.TheVariants.{Link, Damage, Disk, Stop}
use Rattle.history_rules.specs.declared.entry.Event.{Event}
use Rattle.history_rules.specs.declared.entry.Event.TheVariants.{Accepted, Publishing, Published, Copying, Switched, Copied, Settling, Settled, Opened, Asking, Answered, Closed, Committing, Committed, Crashed, Reopened, Promoted, Merging, Drained, Files, Planned, Fault, Refused}
use Rattle.history_rules.specs.declared.entry.Entry.{Entry}
use Rattle.report_text.specs.Texts.{all_spaced, event_words, text_of_entry}
use Rattle.report_text.specs.Printed.{hit_fits, CauseFits, PlanFits, EventFits, EntryFits}
use Rattle.report_text.proofs.TextLaws.{line_words_are}
use Rattle.report_reading.specs.Cuts.{first_line, behind_line, cut_words, later_words}
use Rattle.report_reading.specs.Widths.{CauseIsNarrow, PlanIsNarrow, hit_is_narrow, EventIsNarrow, EntryIsNarrow}

-- ---- a narrow entry can be printed

node_fits : (n : ℕ) → n < 256 → n < 2 ^ 64
node_fits n h = omega (arith, h)

ticket_fits : (n : ℕ) → n < 65536 → n < 2 ^ 64
ticket_fits n h = omega (arith, h)

count_fits : (n : ℕ) → n < 2 ^ 32 → n < 2 ^ 64
count_fits n h = omega (arith, h)

hits_fit : (hits : List Hit) → list_all hit_is_narrow hits ≡ true → list_all hit_fits hits ≡ true
hits_fit [] h = refl
hits_fit (hit ∷ hits) h =
    let parts = and_parts (hit_is_narrow hit) (list_all hit_is_narrow hits) h in
    let both = and_parts (nat_lt hit.rank (2 ^ 32)) (is_key hit.key) parts.0 in
    let rank : nat_lt hit.rank (2 ^ 64) ≡ true = lt-ltb hit.rank (2 ^ 64) (count_fits hit.rank (ltb-true hit.rank (2 ^ 32) both.0)) in
    and_from (hit_fits hit) (list_all hit_fits hits) (and_from (nat_lt hit.rank (2 ^ 64)) (is_key hit.key) rank both.1) (hits_fit hits parts.1)

cause_fits : (cause : Cause) → CauseIsNarrow cause → CauseFits cause
cause_fits (ForceLow v) h = h
cause_fits (Cancelled v) h = h
cause_fits (Damaged name) h = h
cause_fits cause h = tt

plan_fits : (p : FaultPlan) → PlanIsNarrow p → PlanFits p
plan_fits (Link k) h = count_fits k h
plan_fits (Damage k at) h = (count_fits k h.0, count_fits at h.1)
plan_fits (Disk k) h = count_fits k h
plan_fits (Stop k) h = count_fits k h

event_fits : (e : Event) → EventIsNarrow e → EventFits e
event_fits (Accepted seq op) h = count_fits seq h
event_fits Publishing h = tt
event_fits (Published g v) h = h
event_fits (Copying n v) h = (node_fits n.0 h.0, h.1)
event_fits (Switched n v) h = (node_fits n.0 h.0, h.1)
event_fits (Copied n v) h = (node_fits n.0 h.0, h.1)
event_fits (Settling v) h = h
event_fits (Settled v) h = h
event_fits (Opened n t v) h = (node_fits n.0 h.0, ticket_fits t.0 h.1, h.2)
event_fits (Asking n t v) h = (node_fits n.0 h.0, ticket_fits t.0 h.1, h.2)
event_fits (Answered n t v query answer) h = (node_fits n.0 h.0, ticket_fits t.0 h.1, h.2, count_fits answer.total h.3, hits_fit answer.hits h.4)
event_fits (Closed n t) h = (node_fits n.0 h.0, ticket_fits t.0 h.1)
event_fits (Committing n v) h = (node_fits n.0 h.0, h.1)
event_fits (Committed n v) h = (node_fits n.0 h.0, h.1)
event_fits (Crashed n) h = node_fits n.0 h
event_fits (Reopened n v) h = (node_fits n.0 h.0, h.1)
event_fits (Promoted n g forced v) h = (node_fits n.0 h.0, h.1, h.2, h.3)
event_fits (Merging seg) h = h
event_fits (Drained done most) h = count_fits done h
event_fits (Files n names) h = (node_fits n.0 h.0, h.1)
event_fits (Planned n p) h = (node_fits n.0 h.0, plan_fits p h.1)
event_fits (Fault n k) h = node_fits n.0 h
event_fits (Refused cause) h = cause_fits cause h

-- what is narrow can be printed
pub narrow_fits : (e : Entry) → EntryIsNarrow e → EntryFits e
narrow_fits e h = record { line = count_fits e.at.line.0 h.line; event = event_fits e.event h.event }

-- ---- words

abbrev is_token : List ℕ → Bool
is_token word = list_all is_key_byte word

no_feed : (b : ℕ) → is_key_byte b ≡ true → (b == 10) ≡ false
no_feed b h = grind (arith, nat_tests)

no_space : (b : ℕ) → is_key_byte b ≡ true → (b == 32) ≡ false
no_space b h = grind (arith, nat_tests)

-- what stands behind a word begins a word, or ends the line
begins_word : (words : List (List ℕ)) (x : List ℕ) → cut_words (all_spaced words ++ 10 ∷ x) ≡ [] ∷ later_words (all_spaced words ++ 10 ∷ x)
begins_word [] x = refl
begins_word (word ∷ words) x = refl

word_cut : (word rest : List ℕ) → is_token word ≡ true → cut_words rest ≡ [] ∷ later_words rest → cut_words (word ++ rest) ≡ word ∷ later_words rest
word_cut [] rest h e = e
word_cut (b ∷ word) rest h e =
    let parts = and_parts (is_key_byte b) (list_all is_key_byte word) h in
    rw (no_feed b parts.0) (rw (no_space b parts.0) (ap (onto_first b) (word_cut word rest parts.1 e)))

pub words_cut : (words : List (List ℕ)) (x : List ℕ) → list_all is_token words ≡ true → later_words (all_spaced words ++ 10 ∷ x) ≡ words
words_cut [] x h = refl
words_cut (word ∷ words) x h =
    let parts = and_parts (is_token word) (list_all is_token words) h in
    ap cut_words (append_assoc word (all_spaced words) (10 ∷ x))
    ∙ word_cut word (all_spaced words ++ 10 ∷ x) parts.0 (begins_word words x)
    ∙ ap (λ (ws : List (List ℕ)). word ∷ ws) (words_cut words x parts.1)

-- a text with a space before it is cut from its first byte on
cut_after_space : (text : List ℕ) → later_words (32 ∷ text) ≡ cut_words text
cut_after_space text = refl

line_joined : (e : Entry) (x : List ℕ) → text_of_entry e ++ x ≡ (decimal e.at.line.0 ++ all_spaced (event_words e.event)) ++ 10 ∷ x
line_joined e x = append_assoc (decimal e.at.line.0 ++ all_spaced (event_words e.event)) (10 ∷ []) x

-- the words of an entry's line are the number of its line and the words of its event
pub line_is_cut : (e : Entry) → EntryIsNarrow e → cut_words (text_of_entry e) ≡ decimal e.at.line.0 ∷ event_words e.event
line_is_cut e h = words_cut (decimal e.at.line.0 ∷ event_words e.event) [] (line_words_are e (narrow_fits e h))

-- ---- lines

abbrev is_no_feed : ℕ → Bool
is_no_feed b = not (b == 10)

token_has_no_feed : (word : List ℕ) → is_token word ≡ true → (rest : List ℕ) → list_all is_no_feed rest ≡ true → list_all is_no_feed (word ++ rest) ≡ true
token_has_no_feed [] h rest k = k
token_has_no_feed (b ∷ word) h rest k =
    let parts = and_parts (is_key_byte b) (list_all is_key_byte word) h in
    let first : is_no_feed b ≡ true = rw (no_feed b parts.0) refl in
    and_from (is_no_feed b) (list_all is_no_feed (word ++ rest)) first (token_has_no_feed word parts.1 rest k)

words_have_no_feed : (words : List (List ℕ)) → list_all is_token words ≡ true → list_all is_no_feed (all_spaced words) ≡ true
words_have_no_feed [] h = refl
words_have_no_feed (word ∷ words) h =
    let parts = and_parts (is_token word) (list_all is_token words) h in
    token_has_no_feed word parts.0 (all_spaced words) (words_have_no_feed words parts.1)

to_feed : (t x : List ℕ) → list_all is_no_feed t ≡ true → (first_line (t ++ 10 ∷ x) ≡ t ++ 10 ∷ []) × (behind_line (t ++ 10 ∷ x) ≡ x)
to_feed [] x h = (refl, refl)
to_feed (b ∷ t) x h =
    let parts = and_parts (is_no_feed b) (list_all is_no_feed t) h in
    let ih = to_feed t x parts.1 in
    rw (apart (b == 10) parts.0) (ap (λ (u : List ℕ). b ∷ u) ih.0, ih.1)
  where
    apart : (q : Bool) → not q ≡ true → q ≡ false
    apart true e = absurd cc
    apart false e = refl

-- the first line of a text that begins with the line of an entry is this line
pub line_is_first : (e : Entry) (x : List ℕ) → EntryIsNarrow e → (first_line (text_of_entry e ++ x) ≡ text_of_entry e) × (behind_line (text_of_entry e ++ x) ≡ x)
line_is_first e x h =
    let words = and_parts (is_token (decimal e.at.line.0)) (list_all is_token (event_words e.event)) (line_words_are e (narrow_fits e h)) in
    let free = token_has_no_feed (decimal e.at.line.0) words.0 (all_spaced (event_words e.event)) (words_have_no_feed (event_words e.event) words.1) in
    let cut = to_feed (decimal e.at.line.0 ++ all_spaced (event_words e.event)) x free in
    (ap first_line (line_joined e x) ∙ cut.0, ap behind_line (line_joined e x) ∙ cut.1)

-- the first line and what stands behind it are the text
pub lines_joined : (text : List ℕ) → first_line text ++ behind_line text ≡ text
lines_joined [] = refl
lines_joined (b ∷ text) = by_test (b == 10) refl (lines_joined text)
  where
    by_test : (q : Bool) → (b == 10) ≡ q → first_line text ++ behind_line text ≡ text → first_line (b ∷ text) ++ behind_line (b ∷ text) ≡ b ∷ text
    by_test true e ih = rw e refl
    by_test false e ih = rw e (ap (λ (t : List ℕ). b ∷ t) ih)
