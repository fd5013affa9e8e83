-- What the text of an entry determines of it, and that a report is cut into its lines in one way only.
use Rattle.std.proofs.Common.{◌≡◌, ℕ, true, false, List, [], ◌∷◌, ◌++◌, map, codes, refl, sym, ap, ◌∙◌}
use Rattle.std.specs.List.{list_all, flat_map}
use Rattle.std.specs.Str.{bytes_eq}
use Rattle.std.specs.Fmt.{decimal}
use Rattle.std.proofs.lemmas.List.{append_assoc, append-nil}
use Rattle.nrt_base.specs.declared.numbers.NodeNo.{NodeNo}
use Rattle.nrt_base.specs.declared.numbers.TicketNo.{TicketNo}
use Rattle.nrt_base.specs.declared.numbers.Version.{Version}
use Rattle.nrt_base.specs.declared.numbers.Gen.{Gen}
use Rattle.nrt_base.specs.declared.numbers.SegNo.{SegNo}
use Rattle.nrt_base.specs.declared.numbers.LineNo.{LineNo}
use Rattle.nrt_base.proofs.Plain.{cons_first, cons_rest}
use Rattle.file_names.specs.Names.{is_file_name}
use Rattle.file_names.specs.Base36.{base36_of}
use Rattle.std.proofs.lemmas.Bool.{and_from}
use Rattle.std.proofs.lemmas.Slice.Eq.{bytes_eq-Decides}
use Rattle.file_names.proofs.Base36Lemmas.{base36_apart}
use Rattle.history_rules.specs.declared.cause.Cause.{Cause}
use Rattle.history_rules.specs.declared.cause.Cause.TheVariants.{Down, Primary, NoPrimary, PrimaryUp, ForceLow, NoTicket, Lost, Cancelled, LinkFault, Damaged, DiskFault, Nothing, Up, NameUsed, NamesSpent, TooManySegments, ForceHigh}
use Rattle.history_rules.specs.declared.cause.FaultKind.{FaultKind}
use Rattle.history_rules.specs.declared.cause.FaultKind.TheVariants.{Link, Damage, Disk, Stop}
use Rattle.history_rules.specs.declared.cause.FaultPlan.{FaultPlan}
use Rattle.history_rules.specs.declared.cause.FaultPlan.TheVariants.{Link as LinkPlan, Damage as DamagePlan, Disk as DiskPlan, Stop as StopPlan}
use Rattle.documents.specs.declared.answer.Answer.{Answer}
use Rattle.documents.specs.declared.answer.Hit.{Hit}
use Rattle.history_rules.specs.declared.entry.Event.{Event}
use Rattle.history_rules.specs.declared.entry.Event.TheVariants.{Accepted, Publishing, Published, Copying, Switched, Copied, Settling, Settled, Opened, Asking, Answered, Closed, Committing, Committed, Crashed, Reopened, Promoted, Merging, Drained, Files, Planned, Fault, Refused}
use Rattle.history_rules.specs.declared.entry.Entry.{Entry}
use Rattle.history_rules.specs.declared.entry.History.{History}
use Rattle.report_text.specs.Texts.{all_spaced, hit_text, kind_text, cause_words, event_words, text_of_entry, text_of}
use Rattle.history_rules.specs.Faults.{plan_words}
use Rattle.report_text.specs.Printed.{IsNumber, hit_fits, CauseFits, PlanFits, EventFits, EntryFits, AllFit, SamePrintedEvent, SamePrinted, AllSamePrinted}
use Rattle.report_text.proofs.TextCuts.{is_token, same_words, decimal_is_token, base36_is_token, name_is_token, words_weaker, same_number, hits_are_tokens, same_hits}

-- ---- each is a word

more_words : (n : ℕ) (words : List (List ℕ)) → IsNumber n → list_all is_token words ≡ true → list_all is_token (decimal n ∷ words) ≡ true
more_words n words h k = and_from (is_token (decimal n)) (list_all is_token words) (decimal_is_token n h) k

one_word : (word : List ℕ) → is_token word ≡ true → list_all is_token (word ∷ []) ≡ true
one_word word h = and_from (is_token word) true h refl

one_is : (a : ℕ) → IsNumber a → list_all is_token (decimal a ∷ []) ≡ true
one_is a h = more_words a [] h refl

two_are : (a b : ℕ) → IsNumber a → IsNumber b → list_all is_token (decimal a ∷ decimal b ∷ []) ≡ true
two_are a b h k = more_words a (decimal b ∷ []) h (one_is b k)

three_are : (a b c : ℕ) → IsNumber a → IsNumber b → IsNumber c → list_all is_token (decimal a ∷ decimal b ∷ decimal c ∷ []) ≡ true
three_are a b c h k l = more_words a (decimal b ∷ decimal c ∷ []) h (two_are b c k l)

plan_words_are : (n : ℕ) (plan : FaultPlan) → IsNumber n → PlanFits plan → list_all is_token (plan_words n plan) ≡ true
plan_words_are n (LinkPlan k) h p = two_are n k h p
plan_words_are n (DamagePlan k at) h p = three_are n k at h p.0 p.1
plan_words_are n (DiskPlan k) h p = two_are n k h p
plan_words_are n (StopPlan k) h p = two_are n k h p

cause_words_are : (cause : Cause) → CauseFits cause → list_all is_token (cause_words cause) ≡ true
cause_words_are (ForceLow v) h = one_is v.0 h
cause_words_are (Cancelled v) h = one_is v.0 h
cause_words_are (Damaged name) h = one_word name (name_is_token name h)
cause_words_are Down h = refl
cause_words_are Primary h = refl
cause_words_are NoPrimary h = refl
cause_words_are PrimaryUp h = refl
cause_words_are NoTicket h = refl
cause_words_are Lost h = refl
cause_words_are LinkFault h = refl
cause_words_are DiskFault h = refl
cause_words_are Nothing h = refl
cause_words_are Up h = refl
cause_words_are NameUsed h = refl
cause_words_are NamesSpent h = refl
cause_words_are TooManySegments h = refl
cause_words_are ForceHigh h = refl

kind_is_word : (kind : FaultKind) → is_token (kind_text kind) ≡ true
kind_is_word Link = refl
kind_is_word Damage = refl
kind_is_word Disk = refl
kind_is_word Stop = refl

pub event_words_are : (e : Event) → EventFits e → list_all is_token (event_words e) ≡ true
event_words_are (Accepted seq op) h = one_is seq h
event_words_are Publishing h = refl
event_words_are (Published g v) h = two_are g.0 v.0 h.0 h.1
event_words_are (Copying n v) h = two_are n.0 v.0 h.0 h.1
event_words_are (Switched n v) h = two_are n.0 v.0 h.0 h.1
event_words_are (Copied n v) h = two_are n.0 v.0 h.0 h.1
event_words_are (Settling v) h = one_is v.0 h
event_words_are (Settled v) h = one_is v.0 h
event_words_are (Opened n t v) h = three_are n.0 t.0 v.0 h.0 h.1 h.2
event_words_are (Asking n t v) h = three_are n.0 t.0 v.0 h.0 h.1 h.2
event_words_are (Answered n t v query answer) h =
    let hits = map hit_text answer.hits in
    more_words n.0 (decimal t.0 ∷ decimal v.0 ∷ decimal answer.total ∷ hits) h.0
    (more_words t.0 (decimal v.0 ∷ decimal answer.total ∷ hits) h.1
    (more_words v.0 (decimal answer.total ∷ hits) h.2 (more_words answer.total hits h.3 (hits_are_tokens answer.hits h.4))))
event_words_are (Closed n t) h = two_are n.0 t.0 h.0 h.1
event_words_are (Committing n v) h = two_are n.0 v.0 h.0 h.1
event_words_are (Committed n v) h = two_are n.0 v.0 h.0 h.1
event_words_are (Crashed n) h = one_is n.0 h
event_words_are (Reopened n v) h = two_are n.0 v.0 h.0 h.1
event_words_are (Promoted n g forced v) h = more_words n.0 (decimal g.0 ∷ decimal forced.0 ∷ decimal v.0 ∷ []) h.0 (three_are g.0 forced.0 v.0 h.1 h.2 h.3)
event_words_are (Merging seg) h = one_word (95 ∷ base36_of seg.0) (base36_is_token seg.0 h)
event_words_are (Drained done most) h = one_is done h
event_words_are (Files n names) h = more_words n.0 names h.0 (words_weaker is_file_name is_token name_is_token names h.1)
event_words_are (Planned n plan) h = plan_words_are n.0 plan h.0 h.1
event_words_are (Fault n kind) h = more_words n.0 (kind_text kind ∷ []) h (one_word (kind_text kind) (kind_is_word kind))
event_words_are (Refused cause) h = cause_words_are cause h

-- ---- what equal words say

abbrev first_of : List (List ℕ) → List ℕ
first_of [] = []
first_of (w ∷ words) = w

-- words that differ in their first word differ
apart : (xs ys : List (List ℕ)) → bytes_eq (first_of xs) (first_of ys) ≡ false → xs ≡ ys → ⊥
apart xs ys other same =
    let first = (bytes_eq-Decides (first_of xs) (first_of ys)).1 (ap first_of same) in
    let bad : true ≡ false = sym first ∙ other in cc

same_one : (word : List ℕ) (a b : ℕ) → IsNumber a → IsNumber b → word ∷ decimal a ∷ [] ≡ word ∷ decimal b ∷ [] → a ≡ b
same_one word a b h k e = (same_number a b [] [] h k (cons_rest word word (decimal a ∷ []) (decimal b ∷ []) e)).0

same_two : (word : List ℕ) (a b c d : ℕ) → IsNumber a × IsNumber b → IsNumber c × IsNumber d → word ∷ decimal a ∷ decimal b ∷ [] ≡ word ∷ decimal c ∷ decimal d ∷ [] → (a ≡ c) × (b ≡ d)
same_two word a b c d h k e =
    let first = same_number a c (decimal b ∷ []) (decimal d ∷ []) h.0 k.0 (cons_rest word word (decimal a ∷ decimal b ∷ []) (decimal c ∷ decimal d ∷ []) e) in
    let second = same_number b d [] [] h.1 k.1 first.1 in
    (first.0, second.0)

same_three : (word : List ℕ) (a b c x y z : ℕ) → IsNumber a × IsNumber b × IsNumber c → IsNumber x × IsNumber y × IsNumber z
    → word ∷ decimal a ∷ decimal b ∷ decimal c ∷ [] ≡ word ∷ decimal x ∷ decimal y ∷ decimal z ∷ [] → (a ≡ x) × (b ≡ y) × (c ≡ z)
same_three word a b c x y z h k e =
    let first = same_number a x (decimal b ∷ decimal c ∷ []) (decimal y ∷ decimal z ∷ []) h.0 k.0 (cons_rest word word (decimal a ∷ decimal b ∷ decimal c ∷ []) (decimal x ∷ decimal y ∷ decimal z ∷ []) e) in
    let second = same_number b y (decimal c ∷ []) (decimal z ∷ []) h.1 k.1 first.1 in
    let third = same_number c z [] [] h.2 k.2 second.1 in
    (first.0, second.0, third.0)

abbrev node : ℕ → NodeNo
node k = record { 0 = k }

abbrev ticket : ℕ → TicketNo
ticket k = record { 0 = k }

abbrev version : ℕ → Version
version k = record { 0 = k }

abbrev generation : ℕ → Gen
generation k = record { 0 = k }

abbrev segment : ℕ → SegNo
segment k = record { 0 = k }

node_version : (C : NodeNo → Version → Event) (n m : NodeNo) (v w : Version) → (n.0 ≡ m.0) × (v.0 ≡ w.0) → C n v ≡ C m w
node_version C n m v w e = ap (λ (k : ℕ). C (node k) v) e.0 ∙ ap (λ (k : ℕ). C m (version k)) e.1

node_ticket_version : (C : NodeNo → TicketNo → Version → Event) (n m : NodeNo) (t u : TicketNo) (v w : Version) → (n.0 ≡ m.0) × (t.0 ≡ u.0) × (v.0 ≡ w.0) → C n t v ≡ C m u w
node_ticket_version C n m t u v w e = ap (λ (k : ℕ). C (node k) t v) e.0 ∙ ap (λ (k : ℕ). C m (ticket k) v) e.1 ∙ ap (λ (k : ℕ). C m u (version k)) e.2

same_kind_from : (a b : FaultKind) → kind_text a ≡ kind_text b → a ≡ b
same_kind_from Link Link e = refl
same_kind_from Damage Damage e = refl
same_kind_from Disk Disk e = refl
same_kind_from Stop Stop e = refl
same_kind_from a b e = absurd (apart (kind_text a ∷ []) (kind_text b ∷ []) refl (ap (λ (w : List ℕ). w ∷ []) e))

same_plan : (n m : ℕ) (a b : FaultPlan) → IsNumber n → IsNumber m → PlanFits a → PlanFits b → plan_words n a ≡ plan_words m b → (n ≡ m) × (a ≡ b)
same_plan n m (LinkPlan k) (LinkPlan l) h i p q e = let s = same_two (codes "link") n k m l (h, p) (i, q) e in (s.0, ap LinkPlan s.1)
same_plan n m (DamagePlan k at) (DamagePlan l by) h i p q e =
    let s = same_three (codes "damage") n k at m l by (h, p.0, p.1) (i, q.0, q.1) e in (s.0, ap (λ (x : ℕ). DamagePlan x at) s.1 ∙ ap (DamagePlan l) s.2)
same_plan n m (DiskPlan k) (DiskPlan l) h i p q e = let s = same_two (codes "disk") n k m l (h, p) (i, q) e in (s.0, ap DiskPlan s.1)
same_plan n m (StopPlan k) (StopPlan l) h i p q e = let s = same_two (codes "stop") n k m l (h, p) (i, q) e in (s.0, ap StopPlan s.1)
same_plan n m a b h i p q e = absurd (apart (plan_words n a) (plan_words m b) refl e)

same_cause : (a b : Cause) → CauseFits a → CauseFits b → cause_words a ≡ cause_words b → a ≡ b
same_cause Down Down p q e = refl
same_cause Primary Primary p q e = refl
same_cause NoPrimary NoPrimary p q e = refl
same_cause PrimaryUp PrimaryUp p q e = refl
same_cause (ForceLow v) (ForceLow w) p q e = ap (λ (k : ℕ). ForceLow (version k)) (same_one (codes "force-low") v.0 w.0 p q e)
same_cause NoTicket NoTicket p q e = refl
same_cause Lost Lost p q e = refl
same_cause (Cancelled v) (Cancelled w) p q e = ap (λ (k : ℕ). Cancelled (version k)) (same_one (codes "cancelled") v.0 w.0 p q e)
same_cause LinkFault LinkFault p q e = refl
same_cause (Damaged a) (Damaged b) p q e = ap Damaged (cons_first a b [] [] (cons_rest (codes "damaged") (codes "damaged") (a ∷ []) (b ∷ []) e))
same_cause DiskFault DiskFault p q e = refl
same_cause Nothing Nothing p q e = refl
same_cause Up Up p q e = refl
same_cause NameUsed NameUsed p q e = refl
same_cause NamesSpent NamesSpent p q e = refl
same_cause TooManySegments TooManySegments p q e = refl
same_cause ForceHigh ForceHigh p q e = refl
same_cause a b p q e = absurd (apart (cause_words a) (cause_words b) refl e)

same_answer : (n m : NodeNo) (t u : TicketNo) (v w : Version) (a b : Answer) → IsNumber n.0 × IsNumber t.0 × IsNumber v.0 × IsNumber a.total × (list_all hit_fits a.hits ≡ true)
    → IsNumber m.0 × IsNumber u.0 × IsNumber w.0 × IsNumber b.total × (list_all hit_fits b.hits ≡ true)
    → decimal n.0 ∷ decimal t.0 ∷ decimal v.0 ∷ decimal a.total ∷ map hit_text a.hits ≡ decimal m.0 ∷ decimal u.0 ∷ decimal w.0 ∷ decimal b.total ∷ map hit_text b.hits
    → (n ≡ m) × (t ≡ u) × (v ≡ w) × (a ≡ b)
same_answer n m t u v w a b p q e =
    let xs = map hit_text a.hits in
    let ys = map hit_text b.hits in
    let s = same_number n.0 m.0 (decimal t.0 ∷ decimal v.0 ∷ decimal a.total ∷ xs) (decimal u.0 ∷ decimal w.0 ∷ decimal b.total ∷ ys) p.0 q.0 e in
    let x = same_number t.0 u.0 (decimal v.0 ∷ decimal a.total ∷ xs) (decimal w.0 ∷ decimal b.total ∷ ys) p.1 q.1 s.1 in
    let y = same_number v.0 w.0 (decimal a.total ∷ xs) (decimal b.total ∷ ys) p.2 q.2 x.1 in
    let z = same_number a.total b.total xs ys p.3 q.3 y.1 in
    (ap node s.0, ap ticket x.0, ap version y.0, ap (λ (k : ℕ). answer k a.hits) z.0 ∙ ap (answer b.total) (same_hits a.hits b.hits p.4 q.4 z.1))
  where
    answer : ℕ → List Hit → Answer
    answer total hits = record { total = total; hits = hits }

same_promotion : (n m : NodeNo) (g h : Gen) (x y v w : Version) → IsNumber n.0 × IsNumber g.0 × IsNumber x.0 × IsNumber v.0 → IsNumber m.0 × IsNumber h.0 × IsNumber y.0 × IsNumber w.0
    → codes "promoted" ∷ decimal n.0 ∷ decimal g.0 ∷ decimal x.0 ∷ decimal v.0 ∷ [] ≡ codes "promoted" ∷ decimal m.0 ∷ decimal h.0 ∷ decimal y.0 ∷ decimal w.0 ∷ []
    → Promoted n g x v ≡ Promoted m h y w
same_promotion n m g h x y v w p q e =
    let s = same_number n.0 m.0 (decimal g.0 ∷ decimal x.0 ∷ decimal v.0 ∷ []) (decimal h.0 ∷ decimal y.0 ∷ decimal w.0 ∷ []) p.0 q.0 (cons_rest (codes "promoted") (codes "promoted") (decimal n.0 ∷ decimal g.0 ∷ decimal x.0 ∷ decimal v.0 ∷ []) (decimal m.0 ∷ decimal h.0 ∷ decimal y.0 ∷ decimal w.0 ∷ []) e) in
    let a = same_number g.0 h.0 (decimal x.0 ∷ decimal v.0 ∷ []) (decimal y.0 ∷ decimal w.0 ∷ []) p.1 q.1 s.1 in
    let b = same_number x.0 y.0 (decimal v.0 ∷ []) (decimal w.0 ∷ []) p.2 q.2 a.1 in
    let c = same_number v.0 w.0 [] [] p.3 q.3 b.1 in
    ap (λ (k : ℕ). Promoted (node k) g x v) s.0 ∙ ap (λ (k : ℕ). Promoted m (generation k) x v) a.0 ∙ ap (λ (k : ℕ). Promoted m h (version k) v) b.0 ∙ ap (λ (k : ℕ). Promoted m h y (version k)) c.0

same_files : (n m : NodeNo) (a b : List (List ℕ)) → IsNumber n.0 → IsNumber m.0 → codes "files" ∷ decimal n.0 ∷ a ≡ codes "files" ∷ decimal m.0 ∷ b → Files n a ≡ Files m b
same_files n m a b h k e =
    let s = same_number n.0 m.0 a b h k (cons_rest (codes "files") (codes "files") (decimal n.0 ∷ a) (decimal m.0 ∷ b) e) in
    ap (λ (j : ℕ). Files (node j) a) s.0 ∙ ap (Files m) s.1

same_fault : (n m : NodeNo) (a b : FaultKind) → IsNumber n.0 → IsNumber m.0 → codes "fault" ∷ decimal n.0 ∷ kind_text a ∷ [] ≡ codes "fault" ∷ decimal m.0 ∷ kind_text b ∷ [] → Fault n a ≡ Fault m b
same_fault n m a b h k e =
    let s = same_number n.0 m.0 (kind_text a ∷ []) (kind_text b ∷ []) h k (cons_rest (codes "fault") (codes "fault") (decimal n.0 ∷ kind_text a ∷ []) (decimal m.0 ∷ kind_text b ∷ []) e) in
    ap (λ (j : ℕ). Fault (node j) a) s.0 ∙ ap (Fault m) (same_kind_from a b (cons_first (kind_text a) (kind_text b) [] [] s.1))

same_merging : (s t : SegNo) → IsNumber s.0 → IsNumber t.0 → codes "merging" ∷ (95 ∷ base36_of s.0) ∷ [] ≡ codes "merging" ∷ (95 ∷ base36_of t.0) ∷ [] → Merging s ≡ Merging t
same_merging s t h k e =
    let name : 95 ∷ base36_of s.0 ≡ 95 ∷ base36_of t.0 = cons_first (95 ∷ base36_of s.0) (95 ∷ base36_of t.0) [] [] (cons_rest (codes "merging") (codes "merging") ((95 ∷ base36_of s.0) ∷ []) ((95 ∷ base36_of t.0) ∷ []) e) in
    ap (λ (j : ℕ). Merging (segment j)) (base36_apart s.0 t.0 h k (cons_rest 95 95 (base36_of s.0) (base36_of t.0) name))

same_event : (e f : Event) → EventFits e → EventFits f → event_words e ≡ event_words f → SamePrintedEvent e f
same_event (Accepted seq op) (Accepted other_seq other_op) p q h = same_one (codes "accepted") seq other_seq p q h
same_event Publishing Publishing p q h = refl
same_event (Published g v) (Published i w) p q h =
    let s = same_two (codes "published") g.0 v.0 i.0 w.0 p q h in
    ap (λ (j : ℕ). Published (generation j) v) s.0 ∙ ap (λ (j : ℕ). Published i (version j)) s.1
same_event (Copying n v) (Copying m w) p q h = node_version Copying n m v w (same_two (codes "copying") n.0 v.0 m.0 w.0 p q h)
same_event (Switched n v) (Switched m w) p q h = node_version Switched n m v w (same_two (codes "switched") n.0 v.0 m.0 w.0 p q h)
same_event (Copied n v) (Copied m w) p q h = node_version Copied n m v w (same_two (codes "copied") n.0 v.0 m.0 w.0 p q h)
same_event (Settling v) (Settling w) p q h = ap (λ (j : ℕ). Settling (version j)) (same_one (codes "settling") v.0 w.0 p q h)
same_event (Settled v) (Settled w) p q h = ap (λ (j : ℕ). Settled (version j)) (same_one (codes "settled") v.0 w.0 p q h)
same_event (Opened n t v) (Opened m u w) p q h = node_ticket_version Opened n m t u v w (same_three (codes "opened") n.0 t.0 v.0 m.0 u.0 w.0 p q h)
same_event (Asking n t v) (Asking m u w) p q h = node_ticket_version Asking n m t u v w (same_three (codes "asking") n.0 t.0 v.0 m.0 u.0 w.0 p q h)
same_event (Answered n t v query answer) (Answered m u w other_query other_answer) p q h =
    same_answer n m t u v w answer other_answer p q
    (cons_rest (codes "answer") (codes "answer") (decimal n.0 ∷ decimal t.0 ∷ decimal v.0 ∷ decimal answer.total ∷ map hit_text answer.hits) (decimal m.0 ∷ decimal u.0 ∷ decimal w.0 ∷ decimal other_answer.total ∷ map hit_text other_answer.hits) h)
same_event (Closed n t) (Closed m u) p q h =
    let s = same_two (codes "closed") n.0 t.0 m.0 u.0 p q h in
    ap (λ (j : ℕ). Closed (node j) t) s.0 ∙ ap (λ (j : ℕ). Closed m (ticket j)) s.1
same_event (Committing n v) (Committing m w) p q h = node_version Committing n m v w (same_two (codes "committing") n.0 v.0 m.0 w.0 p q h)
same_event (Committed n v) (Committed m w) p q h = node_version Committed n m v w (same_two (codes "committed") n.0 v.0 m.0 w.0 p q h)
same_event (Crashed n) (Crashed m) p q h = ap (λ (j : ℕ). Crashed (node j)) (same_one (codes "crashed") n.0 m.0 p q h)
same_event (Reopened n v) (Reopened m w) p q h = node_version Reopened n m v w (same_two (codes "reopened") n.0 v.0 m.0 w.0 p q h)
same_event (Promoted n g x v) (Promoted m i y w) p q h = same_promotion n m g i x y v w p q h
same_event (Merging s) (Merging t) p q h = same_merging s t p q h
same_event (Drained done most) (Drained other_done other_most) p q h = same_one (codes "drained") done other_done p q h
same_event (Files n a) (Files m b) p q h = same_files n m a b p.0 q.0 h
same_event (Planned n a) (Planned m b) p q h =
    let s = same_plan n.0 m.0 a b p.0 q.0 p.1 q.1 (cons_rest (codes "planned") (codes "planned") (plan_words n.0 a) (plan_words m.0 b) h) in
    ap (λ (j : ℕ). Planned (node j) a) s.0 ∙ ap (Planned m) s.1
same_event (Fault n a) (Fault m b) p q h = same_fault n m a b p q h
same_event (Refused a) (Refused b) p q h = ap Refused (same_cause a b p q (cons_rest (codes "refused") (codes "refused") (cause_words a) (cause_words b) h))
same_event e f p q h = absurd (apart (event_words e) (event_words f) refl h)

-- ---- lines and reports

abbrev line_words : Entry → List (List ℕ)
line_words e = decimal e.at.line.0 ∷ event_words e.event

pub line_words_are : (e : Entry) → EntryFits e → list_all is_token (line_words e) ≡ true
line_words_are e h = more_words e.at.line.0 (event_words e.event) h.line (event_words_are e.event h.event)

-- a line with a space before it and more text behind it, as its words
line_cut : (e : Entry) (x : List ℕ) → 32 ∷ (text_of_entry e ++ x) ≡ all_spaced (line_words e) ++ 10 ∷ x
line_cut e x = ap (λ (t : List ℕ). 32 ∷ t) (append_assoc (decimal e.at.line.0 ++ all_spaced (event_words e.event)) (10 ∷ []) x)

abbrev line_number : ℕ → LineNo
line_number k = record { 0 = k }

-- two lines that begin one text are of entries that are printed alike, and what follows is one
pub same_line : (e f : Entry) (x y : List ℕ) → EntryFits e → EntryFits f → text_of_entry e ++ x ≡ text_of_entry f ++ y → SamePrinted e f × (x ≡ y)
same_line e f x y p q h =
    let words = same_words (line_words e) (line_words f) x y (line_words_are e p) (line_words_are f q) (sym (line_cut e x) ∙ ap (λ (t : List ℕ). 32 ∷ t) h ∙ line_cut f y) in
    let number = same_number e.at.line.0 f.at.line.0 (event_words e.event) (event_words f.event) p.line q.line words.0 in
    (record { line = ap line_number number.0; event = same_event e.event f.event p.event q.event number.1 }, words.1)

-- two entries with one text are printed alike
pub same_text_of_entry : (e f : Entry) → EntryFits e → EntryFits f → text_of_entry e ≡ text_of_entry f → SamePrinted e f
same_text_of_entry e f p q h = (same_line e f [] [] p q (append-nil (text_of_entry e) ∙ h ∙ sym (append-nil (text_of_entry f)))).0

some_line : (e : Entry) (x : List ℕ) → text_of_entry e ++ x ≡ [] → ⊥
some_line e x h = no_cell (all_spaced (event_words e.event)) x (sym (line_cut e x) ∙ ap (λ (t : List ℕ). 32 ∷ t) h)
  where
    no_tail : (a x : List ℕ) → a ++ 10 ∷ x ≡ [] → ⊥
    no_tail [] x e = absurd cc
    no_tail (b ∷ a) x e = absurd cc

    one_left : (xs ys : List ℕ) → 32 ∷ xs ≡ 32 ∷ ys → xs ≡ ys
    one_left xs ys e = cc

    no_cell : (a x : List ℕ) → (32 ∷ decimal e.at.line.0) ++ a ++ 10 ∷ x ≡ 32 ∷ [] → ⊥
    no_cell a x h = no_tail (decimal e.at.line.0 ++ a) x (one_left (decimal e.at.line.0 ++ a ++ 10 ∷ x) [] h)

-- two lists of entries with one text are as long and printed alike, entry by entry
pub same_texts : (es fs : List Entry) → AllFit es → AllFit fs → flat_map text_of_entry es ≡ flat_map text_of_entry fs → AllSamePrinted es fs
same_texts [] [] p q h = tt
same_texts [] (f ∷ fs) p q h = some_line f (flat_map text_of_entry fs) (sym h)
same_texts (e ∷ es) [] p q h = some_line e (flat_map text_of_entry es) h
same_texts (e ∷ es) (f ∷ fs) p q h =
    let cut = same_line e f (flat_map text_of_entry es) (flat_map text_of_entry fs) p.0 q.0 h in
    (cut.0, same_texts es fs p.1 q.1 cut.1)

-- two histories with one text have entries that are printed alike
pub same_text : (h k : History) → AllFit h.entries → AllFit k.entries → text_of h ≡ text_of k → AllSamePrinted h.entries k.entries
same_text h k p q e = same_texts h.entries k.entries p q e
