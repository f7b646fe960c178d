-- What a journal commits of whose commits and writes one is one's own, and the others are nobody's.
use Rattle.std.proofs.Common.{◌≡◌, ◌⊎◌, inl, inr, ℕ, zero, suc, ◌+◌, ◌<◌, Bool, true, false, List, [], ◌∷◌, ◌++◌, length, None, Some, slice_get, refl, sym, ap, ◌∙◌, subst, arith, length-append, ℤ}
use mathlib.Core.List.{IsPrefix}
use Rattle.slate_types.specs.declared.types.Ulid.{Ulid}
use Rattle.slate_mem.specs.Batch.{Ops, batch_keys}
use Rattle.slate_txn.specs.declared.event.Event.{Event}
use Rattle.slate_txn.specs.declared.event.Event.TheVariants as events
use Rattle.slate_txn.specs.Places.{install_of, last_install, newer_or}
use Rattle.slate_txn.specs.Replay.{apply, apply_all, replay}
use Rattle.slate_txn.specs.State.{Commit, State, opening}
use Rattle.slate_db.specs.Installs.{installed}
use Rattle.slate_shared.specs.Shared.{OwnsAll, is_own, times}

abbrev is_commit : Event → Bool
is_commit (events.Begin id level start) = false
is_commit (events.End id) = false
is_commit (events.Commit id n now ops tracked ts) = true
is_commit (events.Write n now ops) = true
is_commit events.Freeze = false
is_commit (events.Install through tables) = false
is_commit (events.Snapshot id n) = false
is_commit (events.Release id) = false

own_commit : (e : Event) → is_commit e ≡ true → is_own e ≡ true
own_commit (events.Begin id level start) is = cc is
own_commit (events.End id) is = cc is
own_commit (events.Commit id n now ops tracked ts) is = refl
own_commit (events.Write n now ops) is = refl
own_commit events.Freeze is = cc is
own_commit (events.Install through tables) is = cc
own_commit (events.Snapshot id n) is = cc is
own_commit (events.Release id) is = cc is

-- none of the events is a commit or a write
abbrev AddsNone : List Event → Type 0
AddsNone es = (i : ℕ) (e : Event) → slice_get es i ≡ Some e → is_commit e ≡ true → ⊥

-- ---- places

get_front : (xs ys : List Event) (i : ℕ) (e : Event) → slice_get xs i ≡ Some e → slice_get (xs ++ ys) i ≡ Some e
get_front [] ys i e at = absurd (cc at)
get_front (x ∷ xs) ys zero e at = at
get_front (x ∷ xs) ys (suc i) e at = get_front xs ys i e at

get_behind : (xs ys : List Event) (i n : ℕ) (e : Event) → n ≡ length xs + i → slice_get ys i ≡ Some e → slice_get (xs ++ ys) n ≡ Some e
get_behind [] ys i n e is at = subst (λ (k : ℕ). slice_get ys k ≡ Some e) (let z : i ≡ n = omega (arith, is) in z) at
get_behind (x ∷ xs) ys i zero e is at = absurd (omega (arith, is))
get_behind (x ∷ xs) ys i (suc n) e is at = get_behind xs ys i n e (let z : n ≡ length xs + i = omega (arith, is) in z) at

get_within : (xs zs : List Event) (i : ℕ) (e : Event) → IsPrefix xs zs → slice_get xs i ≡ Some e → slice_get zs i ≡ Some e
get_within xs zs i e pre at = subst (λ (es : List Event). slice_get es i ≡ Some e) pre.1 (get_front xs pre.0 i e at)

below : (xs : List Event) (e : Event) (i : ℕ) → slice_get xs i ≡ Some e → i < length xs
below [] e i at = absurd (cc at)
below (x ∷ xs) e zero at = omega arith
below (x ∷ xs) e (suc i) at = let h = below xs e i at in omega (arith, h)

-- the last event of a beginning
pub get_last : (xs zs : List Event) (e : Event) → IsPrefix (xs ++ e ∷ []) zs → slice_get zs (length xs) ≡ Some e
get_last xs zs e pre = get_within (xs ++ e ∷ []) zs (length xs) e pre (get_behind xs (e ∷ []) 0 (length xs) e (omega arith) refl)

-- ---- commits

apply_more : (s : State) (es more : List Event) → apply_all s (es ++ more) ≡ apply_all (apply_all s es) more
apply_more s [] more = refl
apply_more s (e ∷ es) more = apply_more (apply s e) es more

adds_none : (s : State) (es : List Event) → AddsNone es → (apply_all s es).commits ≡ s.commits
adds_none s [] none = refl
adds_none s (e ∷ es) none = adds_none (apply s e) es (λ i x at. none (suc i) x at) ∙ one e (none zero e refl)
  where
    one : (x : Event) → (is_commit x ≡ true → ⊥) → (apply s x).commits ≡ s.commits
    one (events.Begin id level start) clear = refl
    one (events.End id) clear = refl
    one (events.Commit id n now ops tracked ts) clear = absurd (clear refl)
    one (events.Write n now ops) clear = absurd (clear refl)
    one events.Freeze clear = refl
    one (events.Install through tables) clear = refl
    one (events.Snapshot id n) clear = refl
    one (events.Release id) clear = refl

-- none of the events is an install
abbrev pub AddsNoInstall : List Event → Type 0
AddsNoInstall es = (i through : ℕ) (tables : List (Ulid × List ℕ)) → slice_get es i ≡ Some (events.Install through tables) → ⊥

none_flushed : (s : State) (es : List Event) → AddsNoInstall es → (apply_all s es).flushed ≡ s.flushed
none_flushed s [] none = refl
none_flushed s (e ∷ es) none = none_flushed (apply s e) es (λ i through tables at. none (suc i) through tables at) ∙ one e (λ through tables is. none zero through tables (ap Some is))
  where
    one : (x : Event) → ((through : ℕ) (tables : List (Ulid × List ℕ)) → x ≡ events.Install through tables → ⊥) → (apply s x).flushed ≡ s.flushed
    one (events.Begin id level start) clear = refl
    one (events.End id) clear = refl
    one (events.Commit id n now ops tracked ts) clear = refl
    one (events.Write n now ops) clear = refl
    one events.Freeze clear = refl
    one (events.Install through tables) clear = absurd (clear through tables refl)
    one (events.Snapshot id n) clear = refl
    one (events.Release id) clear = refl

pub nothing_installed : (es : List Event) → AddsNoInstall es → installed es ≡ 0
nothing_installed es none = none_flushed opening es none

pub none_last : (es : List Event) → AddsNoInstall es → last_install es ≡ None
none_last [] none = refl
none_last (e ∷ es) none = ap (λ o. newer_or o (install_of e)) (none_last es (λ i through tables at. none (suc i) through tables at)) ∙ one e (λ through tables is. none zero through tables (ap Some is))
  where
    one : (x : Event) → ((through : ℕ) (tables : List (Ulid × List ℕ)) → x ≡ events.Install through tables → ⊥) → install_of x ≡ None
    one (events.Begin id level start) clear = refl
    one (events.End id) clear = refl
    one (events.Commit id n now ops tracked ts) clear = refl
    one (events.Write n now ops) clear = refl
    one events.Freeze clear = refl
    one (events.Install through tables) clear = absurd (clear through tables refl)
    one (events.Snapshot id n) clear = refl
    one (events.Release id) clear = refl

abbrev pub commit_of : ℕ → ℤ → Ops → Commit
commit_of n now ops = record { seq = n; now = now; ops = ops; tracked = batch_keys ops }

one_write : (before later : List Event) (n : ℕ) (now : ℤ) (ops : Ops) → AddsNone before → AddsNone later → (replay ((before ++ events.Write n now ops ∷ []) ++ later)).commits ≡ commit_of n now ops ∷ []
one_write before later n now ops first last =
    ap (λ (s : State). s.commits) (apply_more opening (before ++ events.Write n now ops ∷ []) later)
    ∙ adds_none (apply_all opening (before ++ events.Write n now ops ∷ [])) later last
    ∙ ap (λ (s : State). s.commits) (apply_more opening before (events.Write n now ops ∷ []))
    ∙ ap (λ cs. cs ++ commit_of n now ops ∷ []) (adds_none opening before first)

-- an install stands at the place i, behind k
pub record IsInstallBehind (es : List Event) (k i : ℕ) : Type 0 where
  pub later : k < i
  pub through : ℕ
  pub tables : List (Ulid × List ℕ)
  pub stands : slice_get es i ≡ Some (events.Install through tables)

-- own: the places of all commits, writes and installs of es, which are those of one write and of installs behind it
module _ (own : List ℕ) (es before : List Event) (n : ℕ) (now : ℤ) (ops : Ops) (all : OwnsAll own es) (written : IsPrefix (before ++ events.Write n now ops ∷ []) es)
    (places : (i : ℕ) → 0 < times i own → (i ≡ length before) ⊎ IsInstallBehind es (length before) i)
  where
    front : AddsNone before
    front i e at commit =
        let there : slice_get es i ≡ Some e = get_within (before ++ events.Write n now ops ∷ []) es i e written (get_front before (events.Write n now ops ∷ []) i e at) in
        let once : times i own ≡ 1 = all i e there (own_commit e commit) in
        by (below before e i at) (places i (omega (arith, once)))
      where
        by : i < length before → (i ≡ length before) ⊎ IsInstallBehind es (length before) i → ⊥
        by short (inl is) = omega (arith, is, short)
        by short (inr h) = omega (arith, h.later, short)

    behind : (later : List Event) → IsPrefix ((before ++ events.Write n now ops ∷ []) ++ later) es → AddsNone later
    behind later pre i e at commit = by (all at_place e there (own_commit e commit))
      where
        at_place : ℕ
        at_place = length (before ++ events.Write n now ops ∷ []) + i

        there : slice_get es at_place ≡ Some e
        there = get_within ((before ++ events.Write n now ops ∷ []) ++ later) es at_place e pre (get_behind (before ++ events.Write n now ops ∷ []) later i at_place e refl at)

        one_more : length (before ++ events.Write n now ops ∷ []) ≡ length before + 1
        one_more = length-append before (events.Write n now ops ∷ [])

        apart : (i' : ℕ) → i' ≡ at_place → (i' ≡ length before) ⊎ IsInstallBehind es (length before) i' → ⊥
        apart i' is (inl first) = omega (arith, is, first, one_more)
        apart i' is (inr h) =
            let same : Some (events.Install h.through h.tables) ≡ Some e = sym h.stands ∙ ap (slice_get es) is ∙ there in
            let event : events.Install h.through h.tables ≡ e = cc same in
            let clash : false ≡ true = ap is_commit event ∙ commit in
            cc clash

        by : times at_place own ≡ 1 → ⊥
        by once = apart at_place refl (places at_place (omega (arith, once)))

    -- no install stands in a beginning whose own places are no place but the write's
    pub no_install : (j : List Event) → IsPrefix j es → ((i : ℕ) → 0 < times i own → i < length j → i ≡ length before) → AddsNoInstall j
    no_install j pre only i through tables at = cc (sym there ∙ ap (slice_get es) is ∙ get_last before es (events.Write n now ops) written)
      where
        there : slice_get es i ≡ Some (events.Install through tables)
        there = get_within j es i (events.Install through tables) pre at

        once : times i own ≡ 1
        once = all i (events.Install through tables) there refl

        is : i ≡ length before
        is = only i (omega (arith, once)) (below j (events.Install through tables) i at)

    pub none_before : (replay before).commits ≡ []
    none_before = adds_none opening before front

    -- each journal between the write and this one
    pub commits_one : (j : List Event) → IsPrefix (before ++ events.Write n now ops ∷ []) j → IsPrefix j es → (replay j).commits ≡ commit_of n now ops ∷ []
    commits_one j from until = ap (λ xs. (replay xs).commits) (sym from.1) ∙ one_write before from.0 n now ops front (behind from.0 (until.0, ap (λ (xs : List Event). xs ++ until.0) from.1 ∙ until.1))
