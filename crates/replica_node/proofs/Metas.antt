-- Metadata in lists.
use Rattle.std.proofs.Common.{◌≡◌, ◌≢◌, ◌==◌, ℕ, zero, suc, ◌+◌, ◌<◌, ◌≤◌, Bool, true, false, List, [], ◌∷◌, ◌++◌, length, get_or, Option, Some, None, cond, is_some, not, ◌&&◌, ◌||◌, refl, sym, ap, subst, ◌∙◌, arith, true≢false}
use Rattle.std.specs.Prelude.{Contains, filter}
use Rattle.disk_model.specs.Disk.{Name, same, is_among}
use Rattle.disk_model.proofs.CellLemmas.{same_true}
use Rattle.file_deleter.specs.Holdings.{Holdings, count_of, times}
use Rattle.file_deleter.proofs.NameLemmas.{same_self, times-cons, times_one, fewer}
use Rattle.copy_state.specs.declared.meta.FileMetaData.{FileMetaData}
use Rattle.copy_state.specs.States.{meta_names, meta_in}
use Rattle.replica_node.specs.Held.{with_meta, held_metas}

pub metas_some : (metas : List (Name × FileMetaData)) (q : Name) → is_some (meta_in metas q) ≡ true → 0 < times (meta_names metas) q
metas_some [] q h = absurd (true≢false (sym h))
metas_some (m ∷ ms) q h = by (metas_some ms q) (same q m.0) refl h
  where
    by : (is_some (meta_in ms q) ≡ true → 0 < times (meta_names ms) q) → (b : Bool) → same q m.0 ≡ b → is_some (cond b (Some m.1) (meta_in ms q)) ≡ true → 0 < times (m.0 ∷ meta_names ms) q
    by rest true e h = let z : times (m.0 ∷ meta_names ms) q ≡ 1 + times (meta_names ms) q = times-cons m.0 (meta_names ms) q ∙ ap (λ b. cond b 1 0 + times (meta_names ms) q) (ap (same m.0) (same_true q m.0 e) ∙ same_self m.0) in omega (arith, z)
    by rest false e h = let some : 0 < times (meta_names ms) q = rest h in omega (arith, some, times-cons m.0 (meta_names ms) q)

pub meta_some : (metas : List (Name × FileMetaData)) (q : Name) (meta : FileMetaData) → meta_in metas q ≡ Some meta → 0 < times (meta_names metas) q
meta_some metas q meta e = metas_some metas q (ap is_some e)

-- a name among those of files has metadata
pub some_meta : (metas : List (Name × FileMetaData)) (q : Name) → 0 < times (meta_names metas) q → (meta : FileMetaData) × (meta_in metas q ≡ Some meta)
some_meta [] q some = absurd (let none : times [] q ≡ 0 = refl in omega (arith, some, none))
some_meta (m ∷ ms) q some = by (some_meta ms q) (same q m.0) refl
  where
    by : (0 < times (meta_names ms) q → (meta : FileMetaData) × (meta_in ms q ≡ Some meta)) → (b : Bool) → same q m.0 ≡ b → (meta : FileMetaData) × (cond (same q m.0) (Some m.1) (meta_in ms q) ≡ Some meta)
    by rest true e = (m.1, ap (λ b. cond b (Some m.1) (meta_in ms q)) e)
    by rest false e =
        let other : same m.0 q ≡ false = flip (same m.0 q) refl in
        let z : times (m.0 ∷ meta_names ms) q ≡ 0 + times (meta_names ms) q = times-cons m.0 (meta_names ms) q ∙ ap (λ b. cond b 1 0 + times (meta_names ms) q) other in
        let r = rest (omega (arith, some, z)) in
        (r.0, ap (λ b. cond b (Some m.1) (meta_in ms q)) e ∙ r.1)
      where
        flip : (b : Bool) → same m.0 q ≡ b → same m.0 q ≡ false
        flip true f = absurd (true≢false (sym (ap (same q) (same_true m.0 q f) ∙ same_self q) ∙ e))
        flip false f = f

-- where each name stands once, what a file is listed with is found
pub one_meta : (files : List (Name × FileMetaData)) → ((q : Name) → times (meta_names files) q ≤ 1) → (q : Name) (meta : FileMetaData) → Contains files (q, meta) → meta_in files q ≡ Some meta
one_meta [] once q meta c = absurd (omega (arith, c.1))
one_meta (f ∷ fs) once q meta c = at c.0 c.1 c.2 (one_meta fs (fewer f.0 (meta_names fs) once) q meta)
  where
    later : meta_in fs q ≡ Some meta → (b : Bool) → same q f.0 ≡ b → cond (same q f.0) (Some f.1) (meta_in fs q) ≡ Some meta
    later rest true e =
        let more : 0 < times (meta_names fs) q = meta_some fs q meta rest in
        let z : times (f.0 ∷ meta_names fs) q ≡ 1 + times (meta_names fs) q = times-cons f.0 (meta_names fs) q ∙ ap (λ b. cond b 1 0 + times (meta_names fs) q) (ap (same f.0) (same_true q f.0 e) ∙ same_self f.0) in
        absurd (omega (arith, more, z, once q))
    later rest false e = ap (λ b. cond b (Some f.1) (meta_in fs q)) e ∙ rest

    at : (i : ℕ) → i < length (f ∷ fs) → get_or (f ∷ fs) i (q, meta) ≡ (q, meta) → (Contains fs (q, meta) → meta_in fs q ≡ Some meta) → meta_in (f ∷ fs) q ≡ Some meta
    at zero lt is rest =
        let name : q ≡ f.0 = ap (λ (x : Name × FileMetaData). x.0) (sym is) in
        ap (λ b. cond b (Some f.1) (meta_in fs q)) (ap (same q) (sym name) ∙ same_self q) ∙ ap (λ (x : Name × FileMetaData). Some x.1) is
    at (suc i) lt is rest = later (rest (i, omega (arith, lt), is)) (same q f.0) refl

-- what is found is listed
pub listed_meta : (files : List (Name × FileMetaData)) (q : Name) (meta : FileMetaData) → meta_in files q ≡ Some meta → Contains files (q, meta)
listed_meta [] q meta e = cc
listed_meta (f ∷ fs) q meta e = by (listed_meta fs q meta) (same q f.0) refl
  where
    by : (meta_in fs q ≡ Some meta → Contains fs (q, meta)) → (b : Bool) → same q f.0 ≡ b → Contains (f ∷ fs) (q, meta)
    by rest true t =
        let here : ◌≡◌ {A = Option FileMetaData} (Some f.1) (Some meta) = sym (ap (λ b. cond b (Some f.1) (meta_in fs q)) t) ∙ e in
        let value : f.1 ≡ meta = cc in
        (0, omega arith, λ i. (sym (same_true q f.0 t) i, value i))
    by rest false t =
        let c = rest (sym (ap (λ b. cond b (Some f.1) (meta_in fs q)) t) ∙ e) in
        (suc c.0, omega (arith, c.1), c.2)

-- ---- metadata that does not differ is the same
same_list : (a b : List ℕ) → (a ≢ b → ⊥) → a ≡ b
same_list a b h = by (same a b) refl
  where
    by : (t : Bool) → same a b ≡ t → a ≡ b
    by true e = same_true a b e
    by false e = absurd (h (λ f. true≢false (sym (ap (same a) (sym f) ∙ same_self a) ∙ e)))

same_number : (m n : ℕ) → (m ≢ n → ⊥) → m ≡ n
same_number m n h = let e : m ∷ [] ≡ n ∷ [] = same_list (m ∷ []) (n ∷ []) (λ d. h (λ f. d (ap (λ (x : ℕ). x ∷ []) f))) in cc

pub same_meta : (a b : FileMetaData) → (a ≢ b → ⊥) → a ≡ b
same_meta a b h =
    let header : a.header ≡ b.header = same_list a.header b.header (λ d. h (λ e. d (ap (λ (m : FileMetaData). m.header) e))) in
    let footer : a.footer ≡ b.footer = same_list a.footer b.footer (λ d. h (λ e. d (ap (λ (m : FileMetaData). m.footer) e))) in
    let long : a.length ≡ b.length = same_number a.length b.length (λ d. h (λ e. d (ap (λ (m : FileMetaData). m.length) e))) in
    let sum : a.checksum ≡ b.checksum = same_number a.checksum b.checksum (λ d. h (λ e. d (ap (λ (m : FileMetaData). m.checksum) e))) in
    λ i. record { header = header i; footer = footer i; length = long i; checksum = sum i }

-- ---- the files that are held
module _ (known : List (Name × FileMetaData)) (holdings : Holdings) where
  pub held_more : (names : List Name) (x : Name) → held_metas known holdings (names ++ x ∷ []) ≡ held_metas known holdings names ++ held_metas known holdings (x ∷ [])
  held_more [] x = refl
  held_more (n ∷ ns) x = ap (λ (rest : List (Name × FileMetaData)). cond (count_of holdings n == 0) [] (with_meta n (meta_in known n)) ++ rest) (held_more ns x)
      ∙ append_twice (cond (count_of holdings n == 0) [] (with_meta n (meta_in known n))) (held_metas known holdings ns) (held_metas known holdings (x ∷ []))
    where
      append_twice : (xs ys zs : List (Name × FileMetaData)) → xs ++ (ys ++ zs) ≡ (xs ++ ys) ++ zs
      append_twice [] ys zs = refl
      append_twice (x ∷ xs) ys zs = ap (λ (ws : List (Name × FileMetaData)). x ∷ ws) (append_twice xs ys zs)

  -- the test that a name is held and known
  abbrev pub is_held : Name → Bool
  is_held q = not (count_of holdings q == 0) && is_some (meta_in known q)

  pub held_names_are : (names : List Name) → meta_names (held_metas known holdings names) ≡ filter is_held names
  held_names_are [] = refl
  held_names_are (n ∷ ns) = by (count_of holdings n == 0) (meta_in known n) (held_names_are ns)
    where
      by : (t : Bool) (o : Option FileMetaData) → meta_names (held_metas known holdings ns) ≡ filter is_held ns
          → meta_names (cond t [] (with_meta n o) ++ held_metas known holdings ns) ≡ cond (not t && is_some o) (n ∷ filter is_held ns) (filter is_held ns)
      by true None rest = rest
      by true (Some m) rest = rest
      by false None rest = rest
      by false (Some m) rest = ap (λ (xs : List Name). n ∷ xs) rest

  -- what is known of a name among them
  pub held_in : (names : List Name) (q : Name) → meta_in (held_metas known holdings names) q ≡ cond (is_among names q) (cond (count_of holdings q == 0) None (meta_in known q)) None
  held_in [] q = refl
  held_in (n ∷ ns) q = at (same n q) refl (held_in ns q)
    where
      here : (t : Bool) (o : Option FileMetaData) → (b : Bool) → meta_in (held_metas known holdings ns) q ≡ cond b (cond t None o) None → (e : n ≡ q) → meta_in (cond t [] (with_meta n o) ++ held_metas known holdings ns) q ≡ cond t None o
      here true o true rest e = rest
      here true o false rest e = rest
      here false None true rest e = rest
      here false None false rest e = rest
      here false (Some m) b rest e = ap (λ x. cond x (Some m) (meta_in (held_metas known holdings ns) q)) (ap (same q) e ∙ same_self q)

      there : same q n ≡ false → (t : Bool) (o : Option FileMetaData) → meta_in (cond t [] (with_meta n o) ++ held_metas known holdings ns) q ≡ meta_in (held_metas known holdings ns) q
      there other true o = refl
      there other false None = refl
      there other false (Some m) = ap (λ x. cond x (Some m) (meta_in (held_metas known holdings ns) q)) other

      flip : same n q ≡ false → (b : Bool) → same q n ≡ b → same q n ≡ false
      flip e true f = absurd (true≢false (sym (ap (same n) (same_true q n f) ∙ same_self n) ∙ e))
      flip e false f = f

      at : (b : Bool) → same n q ≡ b → meta_in (held_metas known holdings ns) q ≡ cond (is_among ns q) (cond (count_of holdings q == 0) None (meta_in known q)) None
          → meta_in (held_metas known holdings (n ∷ ns)) q ≡ cond (is_among (n ∷ ns) q) (cond (count_of holdings q == 0) None (meta_in known q)) None
      at true e rest =
          let name : n ≡ q = same_true n q e in
          let mine : meta_in (held_metas known holdings (n ∷ ns)) q ≡ cond (count_of holdings n == 0) None (meta_in known n) =
          here (count_of holdings n == 0) (meta_in known n) (is_among ns q) (subst (λ (x : Name). meta_in (held_metas known holdings ns) q ≡ cond (is_among ns q) (cond (count_of holdings x == 0) None (meta_in known x)) None) (sym name) rest) name in
          mine ∙ ap (λ (x : Name). cond (count_of holdings x == 0) None (meta_in known x)) name ∙ ap (λ b. cond b (cond (count_of holdings q == 0) None (meta_in known q)) None) (sym (among_head e))
        where
          among_head : same n q ≡ true → is_among (n ∷ ns) q ≡ true
          among_head e = ap (λ b. b || is_among ns q) e
      at false e rest =
          there (flip e (same q n) refl) (count_of holdings n == 0) (meta_in known n) ∙ rest ∙ ap (λ b. cond b (cond (count_of holdings q == 0) None (meta_in known q)) None) (sym (among_tail e))
        where
          among_tail : same n q ≡ false → is_among (n ∷ ns) q ≡ is_among ns q
          among_tail e = ap (λ b. b || is_among ns q) e

-- ---- filters
-- two tests that agree on the names keep the same of them
pub same_filter : (p t : Name → Bool) (names : List Name) → ((q : Name) → 0 < times names q → p q ≡ t q) → filter p names ≡ filter t names
same_filter p t [] agree = refl
same_filter p t (n ∷ ns) agree =
    let rest : filter p ns ≡ filter t ns = same_filter p t ns (λ q some. agree q (omega (arith, some, times-cons n ns q))) in
    let one : times (n ∷ []) n ≡ 1 = times_one n n ∙ ap (λ b. cond b 1 0) (same_self n) in
    let here : p n ≡ t n = agree n (omega (arith, one, times-cons n ns n, times_one n n)) in
    ap (λ b. cond b (n ∷ filter p ns) (filter p ns)) here ∙ ap (λ (xs : List Name). cond (t n) (n ∷ xs) xs) rest

-- a name that is left passed the test, and stood there
pub passed : (test : Name → Bool) (names : List Name) (q : Name) → 0 < times (filter test names) q → (test q ≡ true) × (0 < times names q)
passed test [] q some = let none : times [] q ≡ 0 = refl in absurd (omega (arith, some, none))
passed test (x ∷ xs) q some = by (passed test xs q) (test x) refl some
  where
    more : (test q ≡ true) × (0 < times xs q) → (test q ≡ true) × (0 < times (x ∷ xs) q)
    more h = (h.0, (let some : 0 < times xs q = h.1 in omega (arith, some, times-cons x xs q)))

    here : (b : Bool) → same x q ≡ b → test x ≡ true → (0 < times (filter test xs) q → (test q ≡ true) × (0 < times xs q)) → 0 < times (x ∷ filter test xs) q → (test q ≡ true) × (0 < times (x ∷ xs) q)
    here true e t rest h = (
      subst (λ (n : Name). test n ≡ true) (same_true x q e) t,
      let z : times (x ∷ xs) q ≡ 1 + times xs q = times-cons x xs q ∙ ap (λ b. cond b 1 0 + times xs q) e in omega (arith, z),
    )
    here false e t rest h = let z : times (x ∷ filter test xs) q ≡ 0 + times (filter test xs) q = times-cons x (filter test xs) q ∙ ap (λ b. cond b 1 0 + times (filter test xs) q) e in more (rest (omega (arith, h, z)))

    by : (0 < times (filter test xs) q → (test q ≡ true) × (0 < times xs q)) → (b : Bool) → test x ≡ b → 0 < times (cond b (x ∷ filter test xs) (filter test xs)) q → (test q ≡ true) × (0 < times (x ∷ xs) q)
    by rest true t h = here (same x q) refl t rest h
    by rest false t h = more (rest h)
