-- Reads of runs of tables, one after another.
use Rattle.std.proofs.Common.{◌≡◌, ℕ, zero, suc, ◌+◌, ◌<◌, ◌≤◌, ◌⊎◌, inl, inr, true, List, [], ◌∷◌, ◌++◌, take, drop, length, get_or, Option, refl, sym, ap, subst, ◌∙◌, arith, append_assoc, append-nil}
use Rattle.std.specs.Prelude.{Contains}
use Rattle.std.specs.List.{AllByRecursion}
use Rattle.std.proofs.lemmas.Grind.{flat_map-append}
use Rattle.std.proofs.lemmas.List.{take-append-drop, drop_all}
use Rattle.std.proofs.lemmas.List.Elements.{Contains-append_left, Contains-append_right}
use Rattle.slate_types.specs.declared.error.SlateDBError.{SlateDBError}
use Rattle.slate_types.specs.declared.types.RowEntry.{RowEntry}
use Rattle.slate_types.specs.Outside.{Act, IsFault, IsLater, Meaning, Objects, Reach}
use Rattle.slate_types.specs.World.{Made}
use Rattle.slate_types.proofs.Calls.{call_both}
use Rattle.slate_types.proofs.Lists.{AllByRecursion_append, AllByRecursion_weaken}
use Rattle.slate_types.proofs.OutsideLaws.{counted_earlier}
use Rattle.slate_mem.specs.Lookup.{is_decided, newest_first}
use Rattle.slate_mem.specs.Table.{newest}
use Rattle.slate_mem.proofs.LayerLaws.{first_both}
use Rattle.slate_read.specs.declared.sorted_run.SortedRun.{SortedRun}
use Rattle.slate_table.specs.declared.info.SsTableHandle.{SsTableHandle}
use Rattle.slate_table.specs.Parts.{Encode}
use Rattle.slate_db.specs.Installs.{handles_of}
use Rattle.slate_db.specs.Lookup.{AreStored, AreStoredAs, FindsBehind, IsUnknown}
use Rattle.slate_db.specs.Model.{Rows}
use Rattle.slate_db.specs.Shown.{Asking, BringsRow, BringsRows, ShowsDamage}
use Rattle.slate_db.proofs.Shown.{more_reads}
use Rattle.slate_db.proofs.UnderOwn.{behind_stays}

-- ---- the tables of a run among all

pub handle_among : (runs : List SortedRun) (i : ℕ) (run : SortedRun) → i < length runs → run ≡ get_or runs i run → (h : SsTableHandle) → Contains run.tables.items h → Contains (handles_of runs) h
handle_among [] i run within is h among = absurd (omega (arith, within))
handle_among (x ∷ runs) zero run within is h among = Contains-append_left x.tables.items (handles_of runs) h (subst (λ (r : SortedRun). Contains r.tables.items h) is among)
handle_among (x ∷ runs) (suc i) run within is h among = Contains-append_right x.tables.items (handles_of runs) h (handle_among runs i run (omega (arith, within)) is h among)

pub run_here : (runs : List SortedRun) (i : ℕ) (run : SortedRun) → i < length runs → run ≡ get_or runs i run → drop i runs ≡ run ∷ drop (i + 1) runs
run_here [] i run within is = absurd (omega (arith, within))
run_here (x ∷ runs) zero run within is = ap (λ (r : SortedRun). r ∷ runs) (sym is)
run_here (x ∷ runs) (suc i) run within is = run_here runs i run (omega (arith, within)) is ∙ (let place : suc (i + 1) ≡ suc i + 1 = omega arith in ap (λ n. run ∷ drop n (x ∷ runs)) place)

-- ---- the layers of some tables, and of the others

record Split (encode decode : Encode) (objects : Option Objects) (front back : List SsTableHandle) (layers : List Rows) : Type 0 where
  pub first : List Rows
  pub last : List Rows
  pub is : layers ≡ first ++ last
  pub front_stored : AreStored encode decode objects front first
  pub back_stored : AreStored encode decode objects back last

split_stored : (encode decode : Encode) (objects : Option Objects) (front back : List SsTableHandle) (layers : List Rows) → AreStored encode decode objects (front ++ back) layers → Split encode decode objects front back layers
split_stored encode decode objects [] back layers are = record { first = []; last = layers; is = refl; front_stored = tt; back_stored = are }
split_stored encode decode objects (h ∷ front) back [] are = absurd are
split_stored encode decode objects (h ∷ front) back (rows ∷ layers) are =
    let rest = split_stored encode decode objects front back layers are.1 in
    record { first = rows ∷ rest.first; last = rest.last; is = ap (λ ls. rows ∷ ls) rest.is; front_stored = (are.0, rest.front_stored); back_stored = rest.back_stored }

-- runs: those that were looked at
abbrev pub FoundSoFar : Meaning → Objects → List SortedRun → List ℕ → ℕ → List RowEntry → List RowEntry → Type 0
FoundSoFar m os runs k n newer found = (layers : List Rows) → AreStoredAs m os (handles_of runs) layers → FindsBehind k n layers newer found

pub none_found : (m : Meaning) (os : Objects) (runs : List SortedRun) (i : ℕ) (k : List ℕ) (n : ℕ) (newer : List RowEntry) → i ≡ length runs → FoundSoFar m os (drop i runs) k n newer newer
none_found m os runs i k n newer all layers are own above operands h =
    by layers (subst (λ (rs : List SortedRun). AreStoredAs m os (handles_of rs) layers) (drop_all i runs (omega (arith, all))) are)
  where
    by : (layers : List Rows) → AreStoredAs m os [] layers → newer ≡ own ++ newest k n (above ++ newest_first layers)
    by [] are = h ∙ ap (λ xs. own ++ newest k n xs) (sym (append-nil above))
    by (rows ∷ layers) are = absurd are

-- one run more
pub run_found : (m : Meaning) (os : Objects) (runs : List SortedRun) (i : ℕ) (run : SortedRun) (k : List ℕ) (n : ℕ) (newer found all : List RowEntry) → i < length runs → run ≡ get_or runs i run → FoundSoFar m os (drop (i + 1) runs) k n newer found →
    ((layers : List Rows) → AreStoredAs m os run.tables.items layers → FindsBehind k n layers found all) → FoundSoFar m os (drop i runs) k n newer all
run_found m os runs i run k n newer found all within is before one layers are own above operands h =
    let s = split_stored m.encode m.decode _ run.tables.items (handles_of (drop (i + 1) runs)) layers (subst (λ (rs : List SortedRun). AreStoredAs m os (handles_of rs) layers) (run_here runs i run within is) are) in
    one s.first s.front_stored own (above ++ newest_first s.last) operands (before s.last s.back_stored own above operands h)
    ∙ ap (λ xs. own ++ newest k n xs) (append_assoc above (newest_first s.last) (newest_first s.first) ∙ ap (λ ys. above ++ ys) (sym (first_both s.first s.last) ∙ ap newest_first (sym s.is)))

-- the runs that were looked at decide, or are all
pub runs_decide : (m : Meaning) (os : Objects) (runs : List SortedRun) (i : ℕ) (k : List ℕ) (n : ℕ) (newer found : List RowEntry) → FoundSoFar m os (drop i runs) k n newer found → is_decided found ≡ true → FoundSoFar m os runs k n newer found
runs_decide m os runs i k n newer found so_far decided layers are own above operands h =
    let all : handles_of runs ≡ handles_of (take i runs) ++ handles_of (drop i runs) = ap handles_of (sym (take-append-drop i runs)) ∙ flat_map-append (λ (run : SortedRun). run.tables.items) (take i runs) (drop i runs) in
    let s = split_stored m.encode m.decode _ (handles_of (take i runs)) (handles_of (drop i runs)) layers (subst (λ (hs : List SsTableHandle). AreStoredAs m os hs layers) all are) in
    behind_stays k n own operands (above ++ newest_first s.last) (newest_first s.first) found (so_far s.last s.back_stored own above operands h) decided
    ∙ ap (λ xs. own ++ newest k n xs) (append_assoc above (newest_first s.last) (newest_first s.first) ∙ ap (λ ys. above ++ ys) (sym (first_both s.first s.last) ∙ ap newest_first (sym s.is)))

pub runs_end : (m : Meaning) (os : Objects) (runs : List SortedRun) (i : ℕ) (k : List ℕ) (n : ℕ) (newer found : List RowEntry) → FoundSoFar m os (drop i runs) k n newer found → i ≤ 0 → FoundSoFar m os runs k n newer found
runs_end m os runs i k n newer found so_far none = subst (λ (j : ℕ). FoundSoFar m os (drop j runs) k n newer found) (let z : i ≡ 0 = omega (arith, none) in z) so_far

-- the tables of one run are stored
pub run_stored : (m : Meaning) (os : Objects) (runs : List SortedRun) (i : ℕ) (run : SortedRun) (layers : List Rows) → i < length runs → run ≡ get_or runs i run → AreStoredAs m os (handles_of runs) layers → (own : List Rows) × AreStoredAs m os run.tables.items own
run_stored m os runs i run layers within is are =
    let all : handles_of runs ≡ handles_of (take i runs) ++ (run.tables.items ++ handles_of (drop (i + 1) runs)) =
    ap handles_of (sym (take-append-drop i runs)) ∙ flat_map-append (λ (r : SortedRun). r.tables.items) (take i runs) (drop i runs) ∙ ap (λ (rs : List SortedRun). handles_of (take i runs) ++ handles_of rs) (run_here runs i run within is) in
    let s = split_stored m.encode m.decode _ (handles_of (take i runs)) (run.tables.items ++ handles_of (drop (i + 1) runs)) layers (subst (λ (hs : List SsTableHandle). AreStoredAs m os hs layers) all are) in
    let t = split_stored m.encode m.decode _ run.tables.items (handles_of (drop (i + 1) runs)) s.last s.back_stored in
    (t.first, t.front_stored)

-- ---- which rows are brought, and what damage is shown

pub rows_of_run : (a b c : Reach) (asking : Asking) (upto : ℕ) (hs ks : List SsTableHandle) (newer found all : List RowEntry) → ((h : SsTableHandle) → Contains ks h → Contains hs h) → Made a b (BringsRows a.meaning.decode asking upto hs newer found) →
    Made b c (BringsRows b.meaning.decode asking upto ks found all) → Made a c (BringsRows a.meaning.decode asking upto hs newer all)
rows_of_run a b c asking upto hs ks newer found all among (first, f, (some, behind, each)) (last, l, (more, is, others)) = (
  first ++ last,
  call_both a b c first last f l,
  (
    some ++ more,
    is ∙ ap (λ (x : List RowEntry). x ++ more) behind ∙ append_assoc newer some more,
    AllByRecursion_append (BringsRow a.meaning.decode asking upto hs (first ++ last)) some more
        (AllByRecursion_weaken (BringsRow a.meaning.decode asking upto hs first) (BringsRow a.meaning.decode asking upto hs (first ++ last)) (λ r row. more_reads a.meaning.decode asking upto hs first last r row) some each)
        (AllByRecursion_weaken (BringsRow a.meaning.decode asking upto ks last) (BringsRow a.meaning.decode asking upto hs (first ++ last)) (λ r row. by r row) more (subst (λ (m : Meaning). AllByRecursion (BringsRow m.decode asking upto ks last) more) f.meaning others)),
  ),
)
  where
    by : (r : RowEntry) → BringsRow a.meaning.decode asking upto ks last r → BringsRow a.meaning.decode asking upto hs (first ++ last) r
    by r x = record {
      table = x.table;
      among = among x.table x.among;
      earlier = first ++ x.earlier;
      acts = x.acts;
      later = x.later;
      split = ap (λ (y : List Act). first ++ y) x.split ∙ sym (append_assoc first x.earlier (x.acts ++ x.later));
      row = x.row;
      asked = x.asked;
      within = x.within;
    }

pub damage_of_run : {X : List Act → Type 0} (a b c : Reach) (asking : Asking) (hs ks : List SsTableHandle) (e : SlateDBError) → ((h : SsTableHandle) → Contains ks h → Contains hs h) → IsLater a.faults b.faults → Made a b X →
    IsFault b c e ⊎ Made b c (λ reads. ShowsDamage b.meaning.decode asking ks reads e) ⊎ ((x : SsTableHandle) × Contains ks x × IsUnknown x.format_version e) →
    IsFault a c e ⊎ Made a c (λ reads. ShowsDamage a.meaning.decode asking hs reads e) ⊎ ((x : SsTableHandle) × Contains hs x × IsUnknown x.format_version e)
damage_of_run a b c asking hs ks e among later first (inl f) = inl (counted_earlier a.faults b.faults c.faults e later f)
damage_of_run a b c asking hs ks e among later first (inr (inl last)) =
    let x : ShowsDamage a.meaning.decode asking ks last.0 e = subst (λ (m : Meaning). ShowsDamage m.decode asking ks last.0 e) first.1.meaning last.2 in
    inr (inl (
      first.0 ++ last.0,
      call_both a b c first.0 last.0 first.1 last.1,
      record {
        table = x.table;
        among = among x.table x.among;
        earlier = first.0 ++ x.earlier;
        last = x.last;
        split = ap (λ (l : List Act). first.0 ++ l) x.split ∙ sym (append_assoc first.0 x.earlier x.last);
        shown = x.shown;
      },
    ))
damage_of_run a b c asking hs ks e among later first (inr (inr (x, there, u))) = inr (inr (x, among x there, u))
