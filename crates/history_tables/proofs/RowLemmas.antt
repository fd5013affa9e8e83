-- Rows of lines after a removal and after one more, and what rows of tickets say then.
use Rattle.std.proofs.Common.{◌≡◌, ◌&&◌, ◌==◌, ◌++◌, ℕ, Bool, true, false, true≢false, List, [], ◌∷◌, Option, Some, None, refl, sym, ap, ◌∙◌, arith, if◌then◌else◌}
use Rattle.std.specs.Prelude.{not}
use Rattle.std.specs.List.{filter}
use Rattle.std.specs.Option.{option_map}
use Rattle.std.specs.Map.{lookup}
use Rattle.std.specs.Prelude.{Result, Ok, Err, IsOk, OnOk}
use Rattle.std.proofs.lemmas.Bool.Decides.{nat_tests}
use Rattle.nrt_base.specs.declared.numbers.At.{At}
use Rattle.history_tables.specs.declared.tickets.Opening.{Opening}
use Rattle.history_rules.specs.declared.cause.Cause.{Cause}
use Rattle.history_rules.specs.declared.entry.Event.TheVariants.{Refused}
use Rattle.history_rules.specs.Nodes.{Past}
use Rattle.history_rules.specs.Lines.{same_at}
use Rattle.history_tables.specs.declared.lines.BegunLine.{BegunLine}
use Rattle.history_tables.specs.declared.lines.LineRow.{LineRow}
use Rattle.history_tables.specs.Begins.{begun_under, open_line}
use Rattle.history_tables.specs.Openings.{TicketRow, ticket_of, is_ticket_key, opened_of}

-- a fact by which way a test went
pub by_test : (b : Bool) (P : Bool → Type 0) → (b ≡ true → P true) → (b ≡ false → P false) → P b
by_test true P f g = f refl
by_test false P f g = g refl

pub same_at_self : (at : At) → same_at at at ≡ true
same_at_self at = grind (arith, nat_tests)

pub same_at_is : (a b : At) → same_at a b ≡ true → a ≡ b
same_at_is a b e =
    let lanes : a.lane.0 ≡ b.lane.0 = grind (arith, nat_tests) in
    let lines : a.line.0 ≡ b.line.0 = grind (arith, nat_tests) in
    λ i. record { lane = record { 0 = lanes i }; line = record { 0 = lines i } }

-- a refused line is closed
pub refused_closed : (at : At) (past : Past) (cause : Cause) → open_line at (record { at = at; event = Refused cause } ∷ past) ≡ None
refused_closed at past cause = rw (same_at_self at) refl

row_without : (rows : List LineRow) (at b : At) → begun_under (filter (λ r. not (same_at r.at at)) rows) b ≡ (if same_at at b then None else begun_under rows b)
row_without [] at b = grind (arith, nat_tests)
row_without (r ∷ rows) at b = grind (arith, nat_tests, row_without rows at b)

pub row_kept : (old new : List LineRow) (at b : At) → new ≡ filter (λ r. not (same_at r.at at)) old → begun_under new b ≡ (if same_at at b then None else begun_under old b)
row_kept old new at b e = ap (λ rows. begun_under rows b) e ∙ row_without old at b

row_end : (rows : List LineRow) (r : LineRow) (b : At) → begun_under rows r.at ≡ None → begun_under (rows ++ r ∷ []) b ≡ (if same_at r.at b then Some r.begun else begun_under rows b)
row_end [] r b fresh = refl
row_end (q ∷ rows) r b fresh = ends (same_at q.at r.at) refl fresh (row_end rows r b)
  where
    ends : (t : Bool) → same_at q.at r.at ≡ t → (if t then Some q.begun else begun_under rows r.at) ≡ None
        → (begun_under rows r.at ≡ None → begun_under (rows ++ r ∷ []) b ≡ (if same_at r.at b then Some r.begun else begun_under rows b))
        → (if same_at q.at b then Some q.begun else begun_under (rows ++ r ∷ []) b) ≡ (if same_at r.at b then Some r.begun else if same_at q.at b then Some q.begun else begun_under rows b)
    ends true is none more = absurd (cc)
    ends false is none more = let rest = more none in grind (arith, nat_tests, rest, is)

pub row_last : (old new : List LineRow) (at : At) (begun : BegunLine) (b : At) → new ≡ old ++ (record { at = at; begun = begun }) ∷ [] → begun_under old at ≡ None
    → begun_under new b ≡ (if same_at at b then Some begun else begun_under old b)
row_last old new at begun b e fresh = ap (λ rows. begun_under rows b) e ∙ row_end old (record { at = at; begun = begun }) b fresh

-- what holds where a call succeeds, of one that did
pub when_ok : {T E P : Type 0} (r : Result T E) → IsOk r → OnOk r P → P
when_ok (Ok x) ok so = so
when_ok (Err e) ok so = absurd (true≢false (sym ok))

-- what a table of tickets says after one of them is opened or closed
pub opened_by : (b : Bool) (one : Option Opening) (old new : List TicketRow) (l t : ℕ)
    → lookup (is_ticket_key l t) new ≡ (if b then one else lookup (is_ticket_key l t) old)
    → opened_of new l t ≡ (if b then option_map ticket_of one else opened_of old l t)
opened_by true one old new l t is = ap (option_map ticket_of) is
opened_by false one old new l t is = ap (option_map ticket_of) is
