-- The tickets that are held, after one is let go and after one more.
use Rattle.std.proofs.Common.{◌≡◌, ℕ, ◌+◌, ◌-◌, ◌<◌, ◌≤◌, Bool, true, false, true≢false, List, [], ◌∷◌, ◌++◌, length, take, get_or, Option, Some, None, refl, ap, ◌∙◌, sym, subst, if◌then◌else◌, arith}
use Rattle.std.specs.Prelude.{not}
use Rattle.std.specs.List.{filter}
use Rattle.std.specs.Option.{option_or}
use Rattle.std.proofs.lemmas.List.{take_more}
use Rattle.history_tables.proofs.RowLemmas.{by_test}
use Rattle.cluster_nodes.specs.declared.held.HeldTicket.{HeldTicket}
use Rattle.cluster_nodes.specs.declared.held.HeldKey.{HeldKey}
use Rattle.cluster_nodes.specs.Held.{same_key, held_number}
use Rattle.cluster_nodes.proofs.Keys.{same_key_is, same_key_self}

apart_keys : (r key k : HeldKey) → same_key r key ≡ false → same_key r k ≡ true → same_key key k ≡ false
apart_keys r key k apart here =
    by_test (same_key key k) (λ b. b ≡ false)
    (λ same. absurd (true≢false (sym (subst (λ (x : HeldKey). same_key r x ≡ true) (same_key_is r k here ∙ sym (same_key_is key k same)) (same_key_self r)) ∙ apart)))
    (λ other. refl)

or_none : (o : Option ℕ) → option_or o None ≡ o
or_none None = refl
or_none (Some n) = refl

gone : (r : HeldTicket) (o rest : Option ℕ) (key k : HeldKey) → same_key r.key key ≡ true → rest ≡ (if same_key key k then None else o)
    → rest ≡ (if same_key key k then None else option_or o (if same_key r.key k then Some r.number else None))
gone r o rest key k here was =
    was ∙ by_test (same_key key k) (λ b. (if b then None else o) ≡ (if b then None else option_or o (if same_key r.key k then Some r.number else None)))
    (λ same. refl)
    (λ apart. sym (ap (λ (b : Bool). option_or o (if b then Some r.number else None)) (subst (λ (x : HeldKey). same_key x k ≡ false) (sym (same_key_is r.key key here)) apart) ∙ or_none o))

left : (r : HeldTicket) (o rest : Option ℕ) (key k : HeldKey) → same_key r.key key ≡ false → rest ≡ (if same_key key k then None else o)
    → option_or rest (if same_key r.key k then Some r.number else None) ≡ (if same_key key k then None else option_or o (if same_key r.key k then Some r.number else None))
left r o rest key k apart was =
    ap (λ (x : Option ℕ). option_or x (if same_key r.key k then Some r.number else None)) was
    ∙ by_test (same_key r.key k)
    (λ b. option_or (if same_key key k then None else o) (if b then Some r.number else None) ≡ (if same_key key k then None else option_or o (if b then Some r.number else None)))
    (λ here. subst (λ (q : Bool). option_or (if q then None else o) (Some r.number) ≡ (if q then None else option_or o (Some r.number))) (sym (apart_keys r.key key k apart here)) refl)
    (λ there. by_test (same_key key k) (λ q. option_or (if q then None else o) None ≡ (if q then None else option_or o None)) (λ same. refl) (λ other. refl))

pub held_without : (rows : List HeldTicket) (key k : HeldKey) → held_number (filter (λ h. not (same_key h.key key)) rows) k ≡ (if same_key key k then None else held_number rows k)
held_without [] key k = by_test (same_key key k) (λ b. held_number [] k ≡ (if b then None else held_number [] k)) (λ same. refl) (λ apart. refl)
held_without (r ∷ rows) key k =
    by_test (same_key r.key key)
    (λ b. same_key r.key key ≡ b → held_number (if not b then r ∷ filter (λ h. not (same_key h.key key)) rows else filter (λ h. not (same_key h.key key)) rows) k
    ≡ (if same_key key k then None else option_or (held_number rows k) (if same_key r.key k then Some r.number else None)))
    (λ here q. gone r (held_number rows k) (held_number (filter (λ h. not (same_key h.key key)) rows) k) key k here (held_without rows key k))
    (λ apart q. left r (held_number rows k) (held_number (filter (λ h. not (same_key h.key key)) rows) k) key k apart (held_without rows key k))
    refl

-- one more ticket is held
pub held_more : (rows : List HeldTicket) (row : HeldTicket) (k : HeldKey) → held_number (rows ++ row ∷ []) k ≡ (if same_key row.key k then Some row.number else held_number rows k)
held_more [] row k = refl
held_more (r ∷ rows) row k =
    ap (λ (o : Option ℕ). option_or o (if same_key r.key k then Some r.number else None)) (held_more rows row k)
    ∙ by_test (same_key row.key k)
    (λ b. option_or (if b then Some row.number else held_number rows k) (if same_key r.key k then Some r.number else None)
    ≡ (if b then Some row.number else option_or (held_number rows k) (if same_key r.key k then Some r.number else None)))
    (λ here. refl) (λ there. refl)

held_last : (rows : List HeldTicket) (count : ℕ) (none : HeldTicket) (k : HeldKey) → 0 < count → count ≤ length rows
    → held_number (take count rows) k ≡ (if same_key (get_or rows (count - 1) none).key k then Some (get_or rows (count - 1) none).number else held_number (take (count - 1) rows) k)
held_last rows count none k some up =
    let at : count ≡ count - 1 + 1 = omega (arith, some) in
    ap (λ (n : ℕ). held_number (take n rows) k) at
    ∙ ap (λ (xs : List HeldTicket). held_number xs k) (take_more rows (count - 1) none (omega (arith, some, up)))
    ∙ held_more (take (count - 1) rows) (get_or rows (count - 1) none) k

-- the last of the first rows is the one
pub held_here : (rows : List HeldTicket) (count : ℕ) (none : HeldTicket) (k : HeldKey) → 0 < count → count ≤ length rows → same_key (get_or rows (count - 1) none).key k ≡ true
    → held_number (take count rows) k ≡ Some (get_or rows (count - 1) none).number
held_here rows count none k some up here =
    held_last rows count none k some up ∙ ap (λ (b : Bool). if b then Some (get_or rows (count - 1) none).number else held_number (take (count - 1) rows) k) here

-- it is not, so those before it tell
pub held_before : (rows : List HeldTicket) (count : ℕ) (none : HeldTicket) (k : HeldKey) → 0 < count → count ≤ length rows → same_key (get_or rows (count - 1) none).key k ≡ false
    → held_number (take count rows) k ≡ held_number (take (count - 1) rows) k
held_before rows count none k some up there =
    held_last rows count none k some up ∙ ap (λ (b : Bool). if b then Some (get_or rows (count - 1) none).number else held_number (take (count - 1) rows) k) there
