-- Rows of a slot that are marked as gone.
use Rattle.std.proofs.Common.{◌≡◌, ℕ, zero, suc, ◌+◌, ◌<◌, ◌≤◌, Bool, true, false, cond, not, ◌==◌, ◌||◌, ◌⊎◌, inl, inr, List, [], ◌∷◌, ◌++◌, filter, length, drop, set, replicate, get_or, slice_get, Option, Some, None, refl, sym, ap, subst, ◌∙◌, arith}
use Rattle.std.specs.List.{list_any}
use Rattle.std.specs.Option.{option_to_list, unwrap_or}
use Rattle.std.proofs.lemmas.List.{drop_more}
use Rattle.std.proofs.lemmas.Option.{get_or_from_slice_get}
use Rattle.slate_types.specs.declared.types.RowEntry.{RowEntry}
use Rattle.slate_types.proofs.Plain.{neither}
use Rattle.slate_mem.specs.declared.slots.Slot.{Slot}
use Rattle.slate_mem.specs.Slots.{AreMarked, is_gone, kept_from, rows_from, rows_in, slot_rows}
use Rattle.slate_mem.proofs.SlotLaws.{drop_past}

-- ---- the rows from an index on

kept_step : (marks : Option (List Bool)) (i : ℕ) (row : RowEntry) (rows : List RowEntry) (b : Bool) → is_gone marks i ≡ b → kept_from marks i (row ∷ rows) ≡ cond b (kept_from marks (i + 1) rows) (row ∷ kept_from marks (i + 1) rows)
kept_step marks i row rows b is = ap (λ c. cond c (kept_from marks (i + 1) rows) (row ∷ kept_from marks (i + 1) rows)) is

gone_at : (marks : Option (List Bool)) (i at : ℕ) (rows : List RowEntry) → at < length rows → is_gone marks i ≡ true → kept_from marks i (drop at rows) ≡ kept_from marks (i + 1) (drop (at + 1) rows)
gone_at marks i at [] lt gone = absurd (omega (arith, lt))
gone_at marks i zero (r ∷ rs) lt gone = kept_step marks i r rs true gone
gone_at marks i (suc at) (r ∷ rs) lt gone = rw (drop_past r rs at) (gone_at marks i at rs (omega (arith, lt)) gone)

pub row_gone : (s : Slot) (at : ℕ) → at < length (slot_rows s) → is_gone s.gone at ≡ true → rows_from s at ≡ rows_from s (at + 1)
row_gone s at lt gone = gone_at s.gone at at (slot_rows s) lt gone

pub row_here : (s : Slot) (at : ℕ) (row : RowEntry) → at < length (slot_rows s) → row ≡ get_or (slot_rows s) at row → is_gone s.gone at ≡ false → rows_from s at ≡ row ∷ rows_from s (at + 1)
row_here s at row lt is here =
    ap (kept_from s.gone at) (drop_more (slot_rows s) at row lt) ∙ kept_step s.gone at (get_or (slot_rows s) at row) (drop (at + 1) (slot_rows s)) false here
    ∙ ap (λ r. r ∷ rows_from s (at + 1)) (sym is)

-- there are no marks behind the last
pub none_beyond : (marks : List Bool) (i : ℕ) → length marks ≤ i → is_gone (Some marks) i ≡ false
none_beyond [] i le = refl
none_beyond (m ∷ ms) zero le = absurd (omega (arith, le))
none_beyond (m ∷ ms) (suc i) le = none_beyond ms i (omega (arith, le))

-- ---- marks that were set

marked_from : (keeps : RowEntry → Bool) (old new : Option (List Bool)) (i : ℕ) (rows : List RowEntry) → ((j : ℕ) (r : RowEntry) → slice_get rows j ≡ Some r → is_gone new (i + j) ≡ (is_gone old (i + j) || not (keeps r))) →
    kept_from new i rows ≡ filter keeps (kept_from old i rows)
marked_from keeps old new i [] h = refl
marked_from keeps old new i (r ∷ rs) h =
    by (is_gone old i) (keeps r) refl refl
    (marked_from keeps old new (i + 1) rs (λ j s is. let same : i + suc j ≡ i + 1 + j = omega arith in subst (λ n. is_gone new n ≡ (is_gone old n || not (keeps s))) same (h (suc j) s is)))
  where
    here : is_gone new i ≡ (is_gone old i || not (keeps r))
    here = let same : i + 0 ≡ i = omega arith in subst (λ n. is_gone new n ≡ (is_gone old n || not (keeps r))) same (h 0 r refl)

    by : (b k : Bool) → is_gone old i ≡ b → keeps r ≡ k → kept_from new (i + 1) rs ≡ filter keeps (kept_from old (i + 1) rs) → kept_from new i (r ∷ rs) ≡ filter keeps (kept_from old i (r ∷ rs))
    by true k was is later = kept_step new i r rs true (here ∙ ap (λ b. b || not (keeps r)) was) ∙ later ∙ ap (filter keeps) (sym (kept_step old i r rs true was))
    by false true was is later =
        kept_step new i r rs false (here ∙ (λ t. was t || not (is t))) ∙ ap (λ ys. r ∷ ys) later
        ∙ sym (ap (λ b. cond b (r ∷ filter keeps (kept_from old (i + 1) rs)) (filter keeps (kept_from old (i + 1) rs))) is)
        ∙ ap (filter keeps) (sym (kept_step old i r rs false was))
    by false false was is later =
        kept_step new i r rs true (here ∙ (λ t. was t || not (is t))) ∙ later
        ∙ sym (ap (λ b. cond b (r ∷ filter keeps (kept_from old (i + 1) rs)) (filter keeps (kept_from old (i + 1) rs))) is)
        ∙ ap (filter keeps) (sym (kept_step old i r rs false was))

pub marked_rows : (keeps : RowEntry → Bool) (rows : List RowEntry) (old new : Option (List Bool)) → AreMarked keeps rows old new → kept_from new 0 rows ≡ filter keeps (kept_from old 0 rows)
marked_rows keeps rows old new h = marked_from keeps old new 0 rows (λ j r is. let same : j ≡ 0 + j = omega arith in subst (λ n. is_gone new n ≡ (is_gone old n || not (keeps r))) same (h j r is))

-- ---- as far as a loop has come

pub record Marked (keeps : RowEntry → Bool) (rows : List RowEntry) (old now : List Bool) (at : ℕ) : Type 0 where
  pub room : length now ≡ length old
  pub done : (i : ℕ) (r : RowEntry) → i < at → slice_get rows i ≡ Some r → is_gone (Some now) i ≡ (is_gone (Some old) i || not (keeps r))
  pub rest : (i : ℕ) → at ≤ i → is_gone (Some now) i ≡ is_gone (Some old) i

pub none_marked : (keeps : RowEntry → Bool) (rows : List RowEntry) (old : List Bool) → Marked keeps rows old old 0
none_marked keeps rows old = record { room = refl; done = λ i r lt is. absurd (omega (arith, lt)); rest = λ i le. refl }

or_false : (b : Bool) → b ≡ (b || false)
or_false true = refl
or_false false = refl

or_true : (b : Bool) → true ≡ (b || true)
or_true true = refl
or_true false = refl

get_set : (gs : List Bool) (at : ℕ) (x d : Bool) → at < length gs → get_or (set gs at x) at d ≡ x
get_set [] at x d lt = absurd (omega (arith, lt))
get_set (g ∷ gs) zero x d lt = refl
get_set (g ∷ gs) (suc at) x d lt = get_set gs at x d (omega (arith, lt))

get_other : (gs : List Bool) (at i : ℕ) (x d : Bool) → (at ≡ i → ⊥) → get_or (set gs at x) i d ≡ get_or gs i d
get_other [] at i x d isnt = refl
get_other (g ∷ gs) zero zero x d isnt = absurd (isnt refl)
get_other (g ∷ gs) zero (suc i) x d isnt = refl
get_other (g ∷ gs) (suc at) zero x d isnt = refl
get_other (g ∷ gs) (suc at) (suc i) x d isnt = get_other gs at i x d (λ e. isnt (ap suc e))

set_length : (gs : List Bool) (at : ℕ) (x : Bool) → length (set gs at x) ≡ length gs
set_length [] at x = refl
set_length (g ∷ gs) zero x = refl
set_length (g ∷ gs) (suc at) x = ap suc (set_length gs at x)

up_to_here : (i at : ℕ) → i < at + 1 → (i < at) ⊎ (i ≡ at)
up_to_here zero zero lt = inr refl
up_to_here zero (suc at) lt = inl (omega arith)
up_to_here (suc i) zero lt = absurd (omega (arith, lt))
up_to_here (suc i) (suc at) lt = by (up_to_here i at (omega (arith, lt)))
  where
    by : (i < at) ⊎ (i ≡ at) → (suc i < suc at) ⊎ (suc i ≡ suc at)
    by (inl below) = inl (omega (arith, below))
    by (inr same) = inr (ap suc same)

-- the row at an index is the one that was read
row_there : (rows : List RowEntry) (i at : ℕ) (r row : RowEntry) → slice_get rows i ≡ Some r → i ≡ at → row ≡ get_or rows at row → r ≡ row
row_there rows i at r row is same here = sym (here ∙ get_or_from_slice_get rows at r row (subst (λ n. slice_get rows n ≡ Some r) same is))

pub marked_on : (keeps : RowEntry → Bool) (rows : List RowEntry) (old now : List Bool) (at : ℕ) (row : RowEntry) → Marked keeps rows old now at → row ≡ get_or rows at row → keeps row ≡ true → Marked keeps rows old now (at + 1)
marked_on keeps rows old now at row m here keep =
    record {
      room = m.room;
      done = λ i r lt is. by i r is (up_to_here i at lt);
      rest = λ i le. m.rest i (omega (arith, le));
    }
  where
    by : (i : ℕ) (r : RowEntry) → slice_get rows i ≡ Some r → (i < at) ⊎ (i ≡ at) → is_gone (Some now) i ≡ (is_gone (Some old) i || not (keeps r))
    by i r is (inl below) = m.done i r below is
    by i r is (inr same) =
        m.rest i (omega (arith, same)) ∙ or_false (is_gone (Some old) i)
        ∙ ap (λ b. is_gone (Some old) i || not b) (sym (ap keeps (row_there rows i at r row is same here) ∙ keep))

pub marked_off : (keeps : RowEntry → Bool) (rows : List RowEntry) (old now : List Bool) (at : ℕ) (row : RowEntry) → Marked keeps rows old now at → row ≡ get_or rows at row → keeps row ≡ false → at < length now → Marked keeps rows old (set now at true) (at + 1)
marked_off keeps rows old now at row m here drops lt =
    record {
      room = set_length now at true ∙ m.room;
      done = λ i r below is. by i r is (up_to_here i at below);
      rest = λ i le. get_other now at i true false (λ same. absurd (omega (arith, le, same))) ∙ m.rest i (omega (arith, le));
    }
  where
    by : (i : ℕ) (r : RowEntry) → slice_get rows i ≡ Some r → (i < at) ⊎ (i ≡ at) → is_gone (Some (set now at true)) i ≡ (is_gone (Some old) i || not (keeps r))
    by i r is (inl below) = get_other now at i true false (λ same. absurd (omega (arith, below, same))) ∙ m.done i r below is
    by i r is (inr same) =
        ap (λ n. get_or (set now at true) n false) same ∙ get_set now at true false lt ∙ or_true (is_gone (Some old) i)
        ∙ ap (λ b. is_gone (Some old) i || not b) (sym (ap keeps (row_there rows i at r row is same here) ∙ drops))

within_rows : (rows : List RowEntry) (i : ℕ) (r : RowEntry) → slice_get rows i ≡ Some r → i < length rows
within_rows [] i r is = absurd cc
within_rows (x ∷ xs) zero r is = omega arith
within_rows (x ∷ xs) (suc i) r is = omega (arith, within_rows xs i r is)

pub all_marked : (keeps : RowEntry → Bool) (rows : List RowEntry) (old now : List Bool) (at : ℕ) → Marked keeps rows old now at → length rows ≤ at → AreMarked keeps rows (Some old) (Some now)
all_marked keeps rows old now at m le = λ i r is. m.done i r (omega (arith, le, within_rows rows i r is)) is

-- where no marks were made yet, none is set
none_set : (n i : ℕ) → is_gone (Some (replicate n false)) i ≡ false
none_set zero i = refl
none_set (suc n) zero = refl
none_set (suc n) (suc i) = none_set n i

made : (old : Option (List Bool)) (n i : ℕ) → is_gone (Some (unwrap_or old (replicate n false))) i ≡ is_gone old i
made None n i = none_set n i
made (Some marks) n i = refl

same_marks : (a b : Option (List Bool)) → ((i : ℕ) → is_gone a i ≡ is_gone b i) → (i : ℕ) (rows : List RowEntry) → kept_from a i rows ≡ kept_from b i rows
same_marks a b same i [] = refl
same_marks a b same i (r ∷ rs) = (λ t. cond (same i t) (same_marks a b same (i + 1) rs t) (r ∷ same_marks a b same (i + 1) rs t))

pub marked_in : (keeps : RowEntry → Bool) (rows : List RowEntry) (old : Option (List Bool)) (was now : List Bool) → was ≡ unwrap_or old (replicate 32 false) → AreMarked keeps rows (Some was) (Some now) → kept_from (Some now) 0 rows ≡ filter keeps (kept_from old 0 rows)
marked_in keeps rows old was now is marked =
    marked_rows keeps rows (Some was) (Some now) marked ∙ ap (filter keeps) (ap (λ (gs : List Bool). kept_from (Some gs) 0 rows) is ∙ same_marks (Some (unwrap_or old (replicate 32 false))) old (made old 32) 0 rows)

-- where no row has the sequence, none is taken out
pub none_taken : (marks : Option (List Bool)) (i n : ℕ) (rows : List RowEntry) → list_any (λ r. r.seq == n) rows ≡ false → filter (λ r. not (r.seq == n)) (kept_from marks i rows) ≡ kept_from marks i rows
none_taken marks i n [] isnt = refl
none_taken marks i n (r ∷ rs) isnt = by (is_gone marks i) (none_taken marks (i + 1) n rs parts.1)
  where
    parts : ((r.seq == n) ≡ false) × (list_any (λ x. x.seq == n) rs ≡ false)
    parts = neither (r.seq == n) (list_any (λ x. x.seq == n) rs) isnt

    by : (b : Bool) → filter (λ x. not (x.seq == n)) (kept_from marks (i + 1) rs) ≡ kept_from marks (i + 1) rs →
        filter (λ x. not (x.seq == n)) (cond b (kept_from marks (i + 1) rs) (r ∷ kept_from marks (i + 1) rs)) ≡ cond b (kept_from marks (i + 1) rs) (r ∷ kept_from marks (i + 1) rs)
    by true later = later
    by false later =
        ap (λ b. cond (not b) (r ∷ filter (λ x. not (x.seq == n)) (kept_from marks (i + 1) rs)) (filter (λ x. not (x.seq == n)) (kept_from marks (i + 1) rs))) parts.0
        ∙ ap (λ ys. r ∷ ys) later
