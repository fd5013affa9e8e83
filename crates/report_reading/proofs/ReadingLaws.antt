-- The words of an event are read as that event, with what its line says in place of what they do not say.
use Rattle.std.proofs.Common.{◌≡◌, ℕ, ◌-◌, ◌^◌, ◌<◌, true, false, not, nat_lt, List, [], ◌∷◌, ◌++◌, take, drop, length, map, Option, Some, Result, Ok, Err, IfOk, refl, sym, ap, subst, ◌∙◌, arith}
use Rattle.std.specs.Prelude.{◌&&◌, ◌==◌}
use Rattle.std.specs.Option.{option_map, option_and_then}
use Rattle.std.specs.List.{list_all, prefix_len}
use Rattle.std.proofs.lemmas.List.Folds.{length-prefix_len}
use Rattle.std.specs.Fmt.{decimal}
use Rattle.std.proofs.lemmas.Bool.{and_parts, and_from, lt-ltb, ltb-true}
use Rattle.std.proofs.lemmas.Bool.Decides.{nat_tests}
use Rattle.nrt_base.specs.Bytes.{is_between, is_key}
use Rattle.nrt_base.specs.declared.numbers.NodeNo.{NodeNo}
use Rattle.nrt_base.specs.declared.numbers.TicketNo.{TicketNo}
use Rattle.nrt_base.specs.declared.numbers.SegNo.{SegNo}
use Rattle.file_names.specs.Names.{is_file_name}
use Rattle.file_names.specs.Base36.{is_base36_digit, base36_of, base36_value, has_leading_zero}
use Rattle.file_names.proofs.Base36Lemmas.{base36_spells}
use Rattle.documents.specs.declared.answer.Hit.{Hit}
use Rattle.documents.specs.declared.answer.Answer.{Answer}
use Rattle.documents.specs.declared.operation.Op.{Op}
use Rattle.history_rules.specs.declared.cause.Cause.{Cause}
use Rattle.history_rules.specs.declared.cause.Cause.TheVariants.{Down, Primary, NoPrimary, PrimaryUp, ForceLow, NoTicket, Lost, Cancelled, LinkFault, Damaged, DiskFault, Nothing, Up, NameUsed, NamesSpent, TooManySegments, ForceHigh}
use Rattle.history_rules.specs.declared.cause.FaultKind.{FaultKind}
use Rattle.history_rules.specs.declared.cause.FaultKind.TheVariants as kind
use Rattle.history_rules.specs.declared.cause.FaultPlan.{FaultPlan}
use Rattle.history_rules.specs.declared.cause.FaultPlan.TheVariants as plan
use Rattle.history_rules.specs.declared.entry.Event.{Event}
use Rattle.history_rules.specs.declared.entry.Event.TheVariants.{Accepted, Publishing, Published, Copying, Switched, Copied, Settling, Settled, Opened, Asking, Answered, Closed, Committing, Committed, Crashed, Reopened, Promoted, Merging, Drained, Files, Planned, Fault, Refused}
use Rattle.history_rules.specs.Faults.{plan_words}
use Rattle.report_text.specs.Texts.{hit_text, kind_text, cause_words, event_words}
use Rattle.script_text.proofs.NumberLaws.{value_of-decimal, digits_of-decimal, number_in}
use Rattle.script_text.specs.Refused.{is_digit}
use Rattle.script_serving.specs.declared.script.LineCommand.{LineCommand}
use Rattle.report_reading.specs.Widths.{IsNodeWide, IsTicketWide, IsCountWide, CauseIsNarrow, PlanIsNarrow, hit_is_narrow, EventIsNarrow}
use Rattle.report_reading.specs.Readings.{IsEventRead, as_told, number_read, node_fitting, ticket_fitting, count_fitting, node_word, ticket_word, count_word, version_from, one_number, two_numbers, three_numbers, node_first, node_version, node_ticket_version, node_count, node_counts, name_read, names_read, is_base36_number, segment_named, rank_length, hit_keyed, hit_read, hits_read, cause_read, kind_named, planned_read, answer_read, event_with, event_read}

-- ---- numbers

in_range : (n : ℕ) → n < 2 ^ 64 → is_between 0 (2 ^ 64 - 1) n ≡ true
in_range n h = grind (arith, nat_tests)

number_is : (n : ℕ) → n < 2 ^ 64 → number_read (decimal n) ≡ Some n
number_is n h = rw (number_in 0 (2 ^ 64 - 1) n h (in_range n h)) (ap Some (value_of-decimal n h))

wide_node : (n : ℕ) → IsNodeWide n → n < 2 ^ 64
wide_node n h = omega (arith, h)

wide_ticket : (n : ℕ) → IsTicketWide n → n < 2 ^ 64
wide_ticket n h = omega (arith, h)

wide_count : (n : ℕ) → IsCountWide n → n < 2 ^ 64
wide_count n h = omega (arith, h)

abbrev node : ℕ → NodeNo
node n = record { 0 = n }

abbrev ticket : ℕ → TicketNo
ticket n = record { 0 = n }

node_is : (n : ℕ) → IsNodeWide n → node_fitting n ≡ Some (node n)
node_is n h = rw (lt-ltb n 256 h) refl

ticket_is : (n : ℕ) → IsTicketWide n → ticket_fitting n ≡ Some (ticket n)
ticket_is n h = rw (lt-ltb n 65536 h) refl

count_is : (n : ℕ) → IsCountWide n → count_fitting n ≡ Some n
count_is n h = rw (lt-ltb n 4294967296 h) refl

-- what is found goes on
then_is : {X Y : Type 0} (f : X → Option Y) (o : Option X) (x : X) (y : Option Y) → o ≡ Some x → f x ≡ y → option_and_then f o ≡ y
then_is f o x y e h = rw e h

map_is : {X Y : Type 0} (f : X → Y) (o : Option X) (x : X) → o ≡ Some x → option_map f o ≡ Some (f x)
map_is f o x e = rw e refl

node_word_is : (n : ℕ) → IsNodeWide n → node_word (decimal n) ≡ Some (node n)
node_word_is n h = then_is node_fitting (number_read (decimal n)) n (Some (node n)) (number_is n (wide_node n h)) (node_is n h)

ticket_word_is : (n : ℕ) → IsTicketWide n → ticket_word (decimal n) ≡ Some (ticket n)
ticket_word_is n h = then_is ticket_fitting (number_read (decimal n)) n (Some (ticket n)) (number_is n (wide_ticket n h)) (ticket_is n h)

pub count_word_is : (n : ℕ) → IsCountWide n → count_word (decimal n) ≡ Some n
count_word_is n h = then_is count_fitting (number_read (decimal n)) n (Some n) (number_is n (wide_count n h)) (count_is n h)

two_are : (a b : ℕ) → a < 2 ^ 64 → b < 2 ^ 64 → two_numbers (decimal a ∷ decimal b ∷ []) ≡ Some (a, b)
two_are a b h k =
    then_is (λ (x : ℕ). option_map (λ (y : ℕ). (x, y)) (number_read (decimal b))) (number_read (decimal a)) a (Some (a, b)) (number_is a h)
    (map_is (λ (y : ℕ). (a, y)) (number_read (decimal b)) b (number_is b k))

three_are : (a b c : ℕ) → a < 2 ^ 64 → b < 2 ^ 64 → c < 2 ^ 64 → three_numbers (decimal a ∷ decimal b ∷ decimal c ∷ []) ≡ Some (a, b, c)
three_are a b c h k l =
    then_is (λ (x : ℕ). option_map (λ (p : ℕ × ℕ). (x, p.0, p.1)) (two_numbers (decimal b ∷ decimal c ∷ []))) (number_read (decimal a)) a (Some (a, b, c)) (number_is a h)
    (map_is (λ (p : ℕ × ℕ). (a, p.0, p.1)) (two_numbers (decimal b ∷ decimal c ∷ [])) (b, c) (two_are b c k l))

node_first_is : (n b : ℕ) → IsNodeWide n → b < 2 ^ 64 → node_first (decimal n ∷ decimal b ∷ []) ≡ Some (node n, b)
node_first_is n b h k =
    then_is (λ (p : ℕ × ℕ). option_map (λ (m : NodeNo). (m, p.1)) (node_fitting p.0)) (two_numbers (decimal n ∷ decimal b ∷ [])) (n, b) (Some (node n, b)) (two_are n b (wide_node n h) k)
    (map_is (λ (m : NodeNo). (m, b)) (node_fitting n) (node n) (node_is n h))

node_version_is : (n b : ℕ) → IsNodeWide n → b < 2 ^ 64 → node_version (decimal n ∷ decimal b ∷ []) ≡ Some (node n, version_from b)
node_version_is n b h k = map_is (λ (p : NodeNo × ℕ). (p.0, version_from p.1)) (node_first (decimal n ∷ decimal b ∷ [])) (node n, b) (node_first_is n b h k)

node_count_is : (n b : ℕ) → IsNodeWide n → IsCountWide b → node_count (decimal n ∷ decimal b ∷ []) ≡ Some (node n, b)
node_count_is n b h k =
    then_is (λ (p : NodeNo × ℕ). option_map (λ (c : ℕ). (p.0, c)) (count_fitting p.1)) (node_first (decimal n ∷ decimal b ∷ [])) (node n, b) (Some (node n, b)) (node_first_is n b h (wide_count b k))
    (map_is (λ (c : ℕ). (node n, c)) (count_fitting b) b (count_is b k))

node_counts_is : (n a b : ℕ) → IsNodeWide n → IsCountWide a → IsCountWide b → node_counts (decimal n ∷ decimal a ∷ decimal b ∷ []) ≡ Some (node n, a, b)
node_counts_is n a b h k l =
    rw (three_are n a b (wide_node n h) (wide_count a k) (wide_count b l)) (rw (node_is n h) (rw (count_is a k) (rw (count_is b l) refl)))

three_words_is : (n t v : ℕ) → IsNodeWide n → IsTicketWide t → v < 2 ^ 64 → node_ticket_version (decimal n ∷ decimal t ∷ decimal v ∷ []) ≡ Some (node n, ticket t, version_from v)
three_words_is n t v h k l =
    rw (three_are n t v (wide_node n h) (wide_ticket t k) l) (rw (node_is n h) (rw (ticket_is t k) refl))

-- ---- names, segments and hits

names_are : (names : List (List ℕ)) → list_all is_file_name names ≡ true → names_read names ≡ Some names
names_are [] h = refl
names_are (name ∷ names) h =
    let parts = and_parts (is_file_name name) (list_all is_file_name names) h in
    let is : name_read name ≡ Some name = rw parts.0 refl in
    then_is (λ (x : List ℕ). option_map (λ (xs : List (List ℕ)). x ∷ xs) (names_read names)) (name_read name) name (Some (name ∷ names)) is
    (map_is (λ (xs : List (List ℕ)). name ∷ xs) (names_read names) names (names_are names parts.1))

segment_is : (n : ℕ) → n < 2 ^ 64 → segment_named (95 ∷ base36_of n) ≡ Some (record { 0 = n })
segment_is n h =
    let spelled = base36_spells n h in
    let value : base36_value (base36_of n) ≡ n = spelled.value in
    let low : nat_lt (base36_value (base36_of n)) (2 ^ 64) ≡ true = rw value (lt-ltb n (2 ^ 64) h) in
    let unled : not (has_leading_zero (base36_of n)) ≡ true = rw spelled.leading refl in
    let is : is_base36_number (base36_of n) ≡ true =
    and_from (nat_lt 0 (length (base36_of n))) (list_all is_base36_digit (base36_of n) && (not (has_leading_zero (base36_of n)) && nat_lt (base36_value (base36_of n)) (2 ^ 64)))
    (lt-ltb 0 (length (base36_of n)) spelled.some)
    (and_from (list_all is_base36_digit (base36_of n)) (not (has_leading_zero (base36_of n)) && nat_lt (base36_value (base36_of n)) (2 ^ 64)) spelled.digits
    (and_from (not (has_leading_zero (base36_of n))) (nat_lt (base36_value (base36_of n)) (2 ^ 64)) unled low)) in
    rw is (ap (λ (k : ℕ). Some (segment k)) value)
  where
    segment : ℕ → SegNo
    segment k = record { 0 = k }

-- the rank ends before the first colon
colon_at : (digits key : List ℕ) → list_all is_digit digits ≡ true → prefix_len (λ b. not (b == 58)) (digits ++ 58 ∷ key) ≡ length digits
colon_at [] key h = refl
colon_at (b ∷ digits) key h =
    let parts = and_parts (is_digit b) (list_all is_digit digits) h in
    rw (no_colon b parts.0) (rw (colon_at digits key parts.1) (omega arith))
  where
    no_colon : (b : ℕ) → is_digit b ≡ true → (b == 58) ≡ false
    no_colon b h = grind (arith, nat_tests)

front_of : (digits key : List ℕ) → (take (length digits) (digits ++ 58 ∷ key) ≡ digits) × (drop (length digits) (digits ++ 58 ∷ key) ≡ 58 ∷ key)
front_of [] key = (refl, refl)
front_of (b ∷ digits) key = let ih = front_of digits key in (ap (λ (t : List ℕ). b ∷ t) ih.0, ih.1)

rank_front : (digits key : List ℕ) → list_all is_digit digits ≡ true
    → (take (rank_length (digits ++ 58 ∷ key)) (digits ++ 58 ∷ key) ≡ digits) × (drop (rank_length (digits ++ 58 ∷ key)) (digits ++ 58 ∷ key) ≡ 58 ∷ key)
rank_front digits key h =
    let same : rank_length (digits ++ 58 ∷ key) ≡ length digits = length-prefix_len (λ (b : ℕ). not (b == 58)) (digits ++ 58 ∷ key) ∙ colon_at digits key h in
    subst (λ (n : ℕ). (take n (digits ++ 58 ∷ key) ≡ digits) × (drop n (digits ++ 58 ∷ key) ≡ 58 ∷ key)) (sym same) (front_of digits key)

hit_is : (hit : Hit) → hit_is_narrow hit ≡ true → hit_read (hit_text hit) ≡ Some hit
hit_is hit h =
    let parts = and_parts (nat_lt hit.rank (2 ^ 32)) (is_key hit.key) h in
    let low : hit.rank < 2 ^ 32 = ltb-true hit.rank (2 ^ 32) parts.0 in
    let cut = rank_front (decimal hit.rank) hit.key (digits_of-decimal hit.rank (wide_count hit.rank low)) in
    let word = hit_text hit in
    let rank : count_word (take (rank_length word) word) ≡ Some hit.rank = ap count_word cut.0 ∙ count_word_is hit.rank low in
    let key : hit_keyed hit.rank (drop 1 (drop (rank_length word) word)) ≡ Some hit = ap (λ (t : List ℕ). hit_keyed hit.rank (drop 1 t)) cut.1 ∙ rw parts.1 refl in
    then_is (λ (rank : ℕ). hit_keyed rank (drop 1 (drop (rank_length word) word))) (count_word (take (rank_length word) word)) hit.rank (Some hit) rank key

hits_are : (hits : List Hit) → list_all hit_is_narrow hits ≡ true → hits_read (map hit_text hits) ≡ Some hits
hits_are [] h = refl
hits_are (hit ∷ hits) h =
    let parts = and_parts (hit_is_narrow hit) (list_all hit_is_narrow hits) h in
    then_is (λ (x : Hit). option_map (λ (xs : List Hit). x ∷ xs) (hits_read (map hit_text hits))) (hit_read (hit_text hit)) hit (Some (hit ∷ hits)) (hit_is hit parts.0)
    (map_is (λ (xs : List Hit). hit ∷ xs) (hits_read (map hit_text hits)) hits (hits_are hits parts.1))

-- ---- causes and faults

cause_is : (cause : Cause) → CauseIsNarrow cause → cause_read (cause_words cause) ≡ Some cause
cause_is (ForceLow v) h = map_is (λ (k : ℕ). ForceLow (version_from k)) (one_number (decimal v.0 ∷ [])) v.0 (number_is v.0 h)
cause_is (Cancelled v) h = map_is (λ (k : ℕ). Cancelled (version_from k)) (one_number (decimal v.0 ∷ [])) v.0 (number_is v.0 h)
cause_is (Damaged name) h = rw h refl
cause_is Down h = refl
cause_is Primary h = refl
cause_is NoPrimary h = refl
cause_is PrimaryUp h = refl
cause_is NoTicket h = refl
cause_is Lost h = refl
cause_is LinkFault h = refl
cause_is DiskFault h = refl
cause_is Nothing h = refl
cause_is Up h = refl
cause_is NameUsed h = refl
cause_is NamesSpent h = refl
cause_is TooManySegments h = refl
cause_is ForceHigh h = refl

kind_is : (k : FaultKind) → kind_named (kind_text k) ≡ Some k
kind_is kind.Link = refl
kind_is kind.Damage = refl
kind_is kind.Disk = refl
kind_is kind.Stop = refl

planned_is : (n : NodeNo) (p : FaultPlan) → IsNodeWide n.0 → PlanIsNarrow p → planned_read (plan_words n.0 p) ≡ Some (Planned n p)
planned_is n (plan.Link k) h i = map_is (λ (q : NodeNo × ℕ). Planned q.0 (plan.Link q.1)) (node_count (decimal n.0 ∷ decimal k ∷ [])) (n, k) (node_count_is n.0 k h i)
planned_is n (plan.Damage k at) h i =
    map_is (λ (q : NodeNo × ℕ × ℕ). Planned q.0 (plan.Damage q.1 q.2)) (node_counts (decimal n.0 ∷ decimal k ∷ decimal at ∷ [])) (n, k, at) (node_counts_is n.0 k at h i.0 i.1)
planned_is n (plan.Disk k) h i = map_is (λ (q : NodeNo × ℕ). Planned q.0 (plan.Disk q.1)) (node_count (decimal n.0 ∷ decimal k ∷ [])) (n, k) (node_count_is n.0 k h i)
planned_is n (plan.Stop k) h i = map_is (λ (q : NodeNo × ℕ). Planned q.0 (plan.Stop q.1)) (node_count (decimal n.0 ∷ decimal k ∷ [])) (n, k) (node_count_is n.0 k h i)

-- ---- events

answer_is : (answer : Answer) → IsCountWide answer.total → list_all hit_is_narrow answer.hits ≡ true → answer_read (decimal answer.total ∷ map hit_text answer.hits) ≡ Some answer
answer_is answer h k =
    then_is (λ (total : ℕ). option_map (λ (hits : List Hit). with_hits total hits) (hits_read (map hit_text answer.hits))) (count_word (decimal answer.total)) answer.total (Some answer)
    (count_word_is answer.total h)
    (map_is (λ (hits : List Hit). with_hits answer.total hits) (hits_read (map hit_text answer.hits)) answer.hits (hits_are answer.hits k))
  where
    with_hits : ℕ → List Hit → Answer
    with_hits total hits = record { total = total; hits = hits }

module _ (due : List Op) (command : LineCommand) where
  -- the words of each event are read as it
  event_is : (e : Event) → EventIsNarrow e → event_read due command (event_words e) ≡ Some (as_told due command e)
  event_is (Accepted seq op) h = rw (number_is seq (wide_count seq h)) (rw (count_is seq h) refl)
  event_is Publishing h = refl
  event_is (Published g v) h = rw (two_are g.0 v.0 h.0 h.1) refl
  event_is (Copying n v) h = rw (node_version_is n.0 v.0 h.0 h.1) refl
  event_is (Switched n v) h = rw (node_version_is n.0 v.0 h.0 h.1) refl
  event_is (Copied n v) h = rw (node_version_is n.0 v.0 h.0 h.1) refl
  event_is (Settling v) h = rw (number_is v.0 h) refl
  event_is (Settled v) h = rw (number_is v.0 h) refl
  event_is (Opened n t v) h = rw (three_words_is n.0 t.0 v.0 h.0 h.1 h.2) refl
  event_is (Asking n t v) h = rw (three_words_is n.0 t.0 v.0 h.0 h.1 h.2) refl
  event_is (Answered n t v query answer) h =
      rw (node_word_is n.0 h.0) (rw (ticket_word_is t.0 h.1) (rw (number_is v.0 h.2) (rw (answer_is answer h.3 h.4) refl)))
  event_is (Closed n t) h = rw (node_first_is n.0 t.0 h.0 (wide_ticket t.0 h.1)) (rw (ticket_is t.0 h.1) refl)
  event_is (Committing n v) h = rw (node_version_is n.0 v.0 h.0 h.1) refl
  event_is (Committed n v) h = rw (node_version_is n.0 v.0 h.0 h.1) refl
  event_is (Crashed n) h = rw (number_is n.0 (wide_node n.0 h)) (rw (node_is n.0 h) refl)
  event_is (Reopened n v) h = rw (node_version_is n.0 v.0 h.0 h.1) refl
  event_is (Promoted n g forced v) h = rw (node_word_is n.0 h.0) (rw (three_are g.0 forced.0 v.0 h.1 h.2 h.3) refl)
  event_is (Merging seg) h = rw (segment_is seg.0 h) refl
  event_is (Drained done most) h = rw (number_is done (wide_count done h)) (rw (count_is done h) refl)
  event_is (Files n names) h = rw (node_word_is n.0 h.0) (rw (names_are names h.1) refl)
  event_is (Planned n p) h = planned_is n p h.0 h.1
  event_is (Fault n k) h = rw (node_word_is n.0 h) (rw (kind_is k) refl)
  event_is (Refused cause) h = map_is (λ (c : Cause). Refused c) (cause_read (cause_words cause)) cause (cause_is cause h)

  pub each_event : (words : List (List ℕ)) (e : Event) → EventIsNarrow e → event_words e ≡ words → event_read due command words ≡ Some (as_told due command e)
  each_event words e h same = subst (λ (ws : List (List ℕ)). event_read due command ws ≡ Some (as_told due command e)) same (event_is e h)

  -- what a name and the words behind it are read as is what all are read as
  pub read_is : {E : Type 0} (words : List (List ℕ)) (word : List ℕ) (rest : List (List ℕ)) (r : Result (Option Event) E) → words ≡ word ∷ rest
      → IfOk r (λ read. read ≡ event_with due command word rest) → IfOk r (IsEventRead due command words)
  read_is words word rest (Ok read) same h = λ e narrow spelled. h ∙ each_event (word ∷ rest) e narrow (spelled ∙ same)
  read_is words word rest (Err fault) same h = h
