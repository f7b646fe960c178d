-- The world of the tables that objects hold.
use Rattle.std.proofs.Common.{◌≡◌, ◌⊎◌, inl, inr, ℕ, ◌+◌, ◌^◌, ◌<◌, ◌≤◌, Bool, true, false, cond, List, [], ◌∷◌, ◌++◌, length, map, flat_map, filter, Option, Some, None, bytes_eq, refl, sym, ap, subst, ◌∙◌, arith, append_assoc, append-nil}
use Rattle.std.specs.Prelude.{IfSome}
use Rattle.std.specs.List.{AllByRecursion}
use Rattle.std.proofs.lemmas.List.{append_cancel_left}
use Rattle.std.proofs.lemmas.Option.{same_Some}
use Rattle.std.proofs.lemmas.Slice.Eq.{bytes_eq-Decides}
use Rattle.slate_types.specs.declared.bytes_range.BytesRange.{BytesRange}
use Rattle.slate_types.specs.declared.types.RowEntry.{RowEntry}
use Rattle.slate_types.specs.declared.types.Ulid.{Ulid}
use Rattle.slate_types.specs.Lawful.{IsLawfulTransform}
use Rattle.slate_types.specs.Outside.{Act, Objects, OnlyReads, Reach, object_at, part_of}
use Rattle.slate_types.specs.World.{AnswersWorld, Checks, HoldsWorld, IsCall, IsReadAct, IsSlip, IsSlipOf, Kept, Sees, Slips, World}
use Rattle.slate_block.specs.BlockSpelling.{as_read}
use Rattle.slate_block.specs.ReadingLaws.{EachIsAByte}
use Rattle.slate_table.specs.declared.info.SsTableHandle.{SsTableHandle}
use Rattle.slate_table.specs.InfoReading.{seen_info}
use Rattle.slate_table.specs.Parts.{sum_fits}
use Rattle.slate_table.specs.Paths.{path_of, table_id}
use Rattle.slate_table.specs.Table.{IsTableOf}
use Rattle.slate_table.specs.TableEnd.{HasInfo}
use Rattle.slate_table.proofs.TableFinds.{same_version}
use Rattle.slate_read.specs.declared.sorted_run.SortedRun.{SortedRun}
use Rattle.slate_read.specs.Readable.{kept_of, TablesAreReadable}
use Rattle.slate_read.specs.TableWalk.{IsReadable, path_in}
use Rattle.slate_txn.specs.Named.{find_named}
use Rattle.slate_db.specs.Answered.{AnswersAct, AnswersFrom, AnswersAs}
use Rattle.slate_db.specs.Checked.{ChecksFrom, IsSlipFrom, OrSlips, SlipsFrom, StandsAt}
use Rattle.slate_db.specs.Installs.{AreHandles, AreRuns, ArePlaced, NumberedFrom, handles_of, root}
use Rattle.slate_db.specs.Lookup.{AreStoredAs, IsStoredAs}
use Rattle.slate_db.specs.Meaning.{Meaning}
use Rattle.slate_db.specs.Model.{Rows}
use Rattle.slate_db.specs.Scanned.{AreStoredRuns}
use Rattle.slate_db.specs.Scans.{IsWorldOf}
use Rattle.slate_db.proofs.Checks.{slips_among, slips_first, slips_last}
use Rattle.slate_db.proofs.PathsApart.{IsEarlier, earlier_apart, still_earlier}
use Rattle.slate_types.proofs.Lists.{AllByRecursion_append, AllByRecursion_front, AllByRecursion_behind, AllByRecursion_weaken}

-- ---- one table

pub record IsTableHeld (m : Meaning) (os : Objects) (h : SsTableHandle) (rows : Rows) : Type 0 where
  pub bytes : List ℕ
  pub blocks : List Rows
  pub filters : List (List ℕ × List ℕ)
  pub lawful : IsLawfulTransform m.encode m.decode
  pub there : object_at os (path_of root h.id.0) ≡ Some bytes
  pub each : EachIsAByte bytes
  pub is : IsTableOf m.encode bytes h.format_version h.id.0 blocks filters
  pub info : HasInfo bytes h.format_version h.id.0 (seen_info h.info)
  pub rows_are : rows ≡ map (as_read h.format_version) (flat_map (λ b. b) blocks)

pub table_held : (m : Meaning) (os : Objects) (h : SsTableHandle) (rows : Rows) → IsStoredAs m os h rows → IsTableHeld m os h rows
table_held m os h rows s =
    let t = s.is.is in
    let same : h.format_version ≡ s.is.written = same_version m.encode s.bytes h.format_version h.id.0 (seen_info h.info) s.is.written t.0 t.1 t.2 s.is.info in
    record {
      bytes = s.bytes;
      blocks = t.0;
      filters = t.1;
      lawful = s.lawful;
      there = ap (λ (l : Objects). object_at l (path_of root h.id.0)) (same_Some _ _ s.told) ∙ s.there;
      each = s.each;
      is = subst (λ v. IsTableOf m.encode s.bytes v h.id.0 t.0 t.1) (sym same) t.2;
      info = s.is.info;
      rows_are = t.3 ∙ ap (λ v. map (as_read v) (flat_map (λ b. b) t.0)) (sym same);
    }

abbrev pub kept_in : (m : Meaning) (os : Objects) (h : SsTableHandle) (rows : Rows) → IsStoredAs m os h rows → Kept
kept_in m os h rows s = let t = table_held m os h rows s in kept_of m.encode h.format_version h.id.0 t.blocks t.filters t.bytes

-- ---- what the objects hold of tables, by their paths

abbrev pub Held : Type 0
Held = List (List ℕ × Kept)

abbrev pub held : (m : Meaning) (os : Objects) (hs : List SsTableHandle) (layers : List Rows) → AreStoredAs m os hs layers → Held
held m os [] [] s = []
held m os (h ∷ hs) (rows ∷ layers) s = (path_in h, kept_in m os h rows s.0) ∷ held m os hs layers s.1
held m os [] (rows ∷ layers) s = absurd s
held m os (h ∷ hs) [] s = absurd s

abbrev pub held_runs : (m : Meaning) (os : Objects) (runs : List SortedRun) (groups : List (List Rows)) → AreStoredRuns m os runs groups → Held
held_runs m os [] [] s = []
held_runs m os (run ∷ runs) (layers ∷ groups) s = held m os run.tables.items layers s.0 ++ held_runs m os runs groups s.1
held_runs m os [] (layers ∷ groups) s = absurd s
held_runs m os (run ∷ runs) [] s = absurd s

abbrev pub paths_of : List (Ulid × List ℕ) → List (List ℕ)
paths_of ts = map (λ t. path_of root t.0.0) ts

pub held_paths : (m : Meaning) (os : Objects) (ts : List (Ulid × List ℕ)) (hs : List SsTableHandle) (layers : List Rows) (s : AreStoredAs m os hs layers) → AreHandles ts hs → map (λ e. e.0) (held m os hs layers s) ≡ paths_of ts
unfolding path_in
held_paths m os [] [] [] s are = refl
held_paths m os (t ∷ ts) (h ∷ hs) (rows ∷ layers) s are = λ i. path_of root (are.0.id i).0 ∷ held_paths m os ts hs layers s.1 are.1 i
held_paths m os [] [] (rows ∷ layers) s are = absurd s
held_paths m os (t ∷ ts) (h ∷ hs) [] s are = absurd s
held_paths m os [] (h ∷ hs) layers s are = absurd are
held_paths m os (t ∷ ts) [] layers s are = absurd are

-- ---- each path is new

abbrev pub AreNew : List (List ℕ) → List (List ℕ) → Type 0
AreNew earlier [] = Unit {0}
AreNew earlier (p ∷ ps) = AllByRecursion (λ q. p ≡ q → ⊥) earlier × AreNew (earlier ++ (p ∷ [])) ps

new_both : (earlier ps qs : List (List ℕ)) → AreNew earlier ps → AreNew (earlier ++ ps) qs → AreNew earlier (ps ++ qs)
new_both earlier [] qs h k = subst (λ (l : List (List ℕ)). AreNew l qs) (append-nil earlier) k
new_both earlier (p ∷ ps) qs h k = (h.0, new_both (earlier ++ (p ∷ [])) ps qs h.1 (subst (λ (l : List (List ℕ)). AreNew l qs) (sym (append_assoc earlier (p ∷ []) ps)) k))

apart_paths : (n p : ℕ) (t : Ulid × List ℕ) (ts : List (Ulid × List ℕ)) → t.0.0 ≡ table_id n p → n < 2 ^ 64 → p < 2 ^ 64 → AllByRecursion (IsEarlier n p) ts → AllByRecursion (λ q. path_of root t.0.0 ≡ q → ⊥) (paths_of ts)
apart_paths n p t [] id fits place h = tt
apart_paths n p t (u ∷ ts) id fits place h = (λ same. earlier_apart n p u h.0 fits place (sym (ap (path_of root) id) ∙ same), apart_paths n p t ts id fits place h.1)

pub map_both : {X Y : Type 0} (f : X → Y) (xs ys : List X) → map f (xs ++ ys) ≡ map f xs ++ map f ys
map_both f [] ys = refl
map_both f (x ∷ xs) ys = ap (λ l. f x ∷ l) (map_both f xs ys)

run_new : (n p : ℕ) (ts us : List (Ulid × List ℕ)) → n < 2 ^ 64 → AllByRecursion (IsEarlier n p) ts → ArePlaced n p us → AreNew (paths_of ts) (paths_of us)
run_new n p ts [] fits earlier placed = tt
run_new n p ts (u ∷ us) fits earlier placed = (
  apart_paths n p u ts placed.0 fits placed.1 earlier,
  subst (λ (l : List (List ℕ)). AreNew l (paths_of us)) (map_both (λ t. path_of root t.0.0) ts (u ∷ []))
      (run_new n (p + 1) (ts ++ (u ∷ [])) us fits (AllByRecursion_append (IsEarlier n (p + 1)) ts (u ∷ []) (still_earlier n p ts earlier) (record { number = n; place = p; id = placed.0; fits = placed.1; earlier = inr (refl, omega arith) }, tt)) placed.2),
)

-- of a later flush
later_flush : (n : ℕ) (ts : List (Ulid × List ℕ)) → AllByRecursion (IsEarlier n 0) ts → AllByRecursion (IsEarlier (n + 1) 0) ts
later_flush n ts h = AllByRecursion_weaken (IsEarlier n 0) (IsEarlier (n + 1) 0) (λ t e. record { number = e.number; place = e.place; id = e.id; fits = e.fits; earlier = by e.number e.place e.earlier }) ts h
  where
    by : (i q : ℕ) → (i < n) ⊎ ((i ≡ n) × (q < 0)) → (i < n + 1) ⊎ ((i ≡ n + 1) × (q < 0))
    by i q (inl below) = inl (omega (arith, below))
    by i q (inr (same, below)) = absurd (omega (arith, below))

this_flush : (n p : ℕ) (ts : List (Ulid × List ℕ)) → ArePlaced n p ts → AllByRecursion (IsEarlier (n + 1) 0) ts
this_flush n p [] h = tt
this_flush n p (t ∷ ts) h = (record { number = n; place = p; id = h.0; fits = h.1; earlier = inl (omega arith) }, this_flush n (p + 1) ts h.2)

pub runs_new : (n : ℕ) (ts : List (Ulid × List ℕ)) (runs : List (List (Ulid × List ℕ))) → AllByRecursion (IsEarlier n 0) ts → NumberedFrom n runs → n + length runs ≤ 2 ^ 64 → AreNew (paths_of ts) (paths_of (flat_map (λ us. us) runs))
runs_new n ts [] earlier numbered fits = tt
runs_new n ts (us ∷ runs) earlier numbered fits =
    subst (AreNew (paths_of ts)) (sym (map_both (λ t. path_of root t.0.0) us (flat_map (λ xs. xs) runs)))
    (new_both (paths_of ts) (paths_of us) (paths_of (flat_map (λ xs. xs) runs))
    (run_new n 0 ts us (omega arith) earlier numbered.0)
    (subst (λ (l : List (List ℕ)). AreNew l (paths_of (flat_map (λ xs. xs) runs))) (map_both (λ t. path_of root t.0.0) ts us)
    (runs_new (n + 1) (ts ++ us) runs (AllByRecursion_append (IsEarlier (n + 1) 0) ts us (later_flush n ts earlier) (this_flush n 0 us numbered.0)) numbered.1 (omega arith))))

-- ---- each is found

found_in : (path : List ℕ) (kept : Kept) (earlier later : Held) → AllByRecursion (λ q. path ≡ q → ⊥) (map (λ e. e.0) earlier) → find_named path (earlier ++ ((path, kept) ∷ later)) ≡ Some kept
found_in path kept [] later h = ap (λ b. cond b (Some kept) (find_named path later)) ((bytes_eq-Decides path path).1 refl)
found_in path kept (e ∷ earlier) later h = by (bytes_eq e.0 path) refl (found_in path kept earlier later h.1)
  where
    by : (b : Bool) → bytes_eq e.0 path ≡ b → find_named path (earlier ++ ((path, kept) ∷ later)) ≡ Some kept → cond b (Some e.1) (find_named path (earlier ++ ((path, kept) ∷ later))) ≡ Some kept
    by true is later = absurd (h.0 (sym ((bytes_eq-Decides e.0 path).0 is)))
    by false is later = later

pub all_found : (earlier here : Held) → AreNew (map (λ e. e.0) earlier) (map (λ e. e.0) here) → AllByRecursion (λ e. find_named e.0 (earlier ++ here) ≡ Some e.1) here
all_found earlier [] h = tt
all_found earlier (e ∷ here) h = (
  found_in e.0 e.1 earlier here h.0,
  subst (λ (l : Held). AllByRecursion (λ x. find_named x.0 l ≡ Some x.1) here) (append_assoc earlier (e ∷ []) here)
      (all_found (earlier ++ (e ∷ [])) here (subst (λ (l : List (List ℕ)). AreNew l (map (λ x. x.0) here)) (sym (map_both (λ x. x.0) earlier (e ∷ []))) h.1)),
)

-- ---- the world

abbrev pub world_of : Meaning → Held → World
world_of m here = record { holds = λ path. find_named path here; fits = sum_fits; meaning = m }

abbrev Stands : Meaning → Objects → List ℕ × Kept → Type 0
Stands m os e = StandsAt m.encode os e.0 e.1

pub table_stands : (m : Meaning) (os : Objects) (h : SsTableHandle) (rows : Rows) (s : IsStoredAs m os h rows) → StandsAt m.encode os (path_in h) (kept_in m os h rows s)
unfolding path_in
table_stands m os h rows s =
    let t = table_held m os h rows s in
    record { id = h.id.0; named = refl; there = t.there; version = h.format_version; blocks = t.blocks; filters = t.filters; is = t.is; sections = refl }

held_stand : (m : Meaning) (os : Objects) (hs : List SsTableHandle) (layers : List Rows) (s : AreStoredAs m os hs layers) → AllByRecursion (Stands m os) (held m os hs layers s)
held_stand m os [] [] s = tt
held_stand m os (h ∷ hs) (rows ∷ layers) s = (table_stands m os h rows s.0, held_stand m os hs layers s.1)
held_stand m os [] (rows ∷ layers) s = absurd s
held_stand m os (h ∷ hs) [] s = absurd s

runs_stand : (m : Meaning) (os : Objects) (runs : List SortedRun) (groups : List (List Rows)) (s : AreStoredRuns m os runs groups) → AllByRecursion (Stands m os) (held_runs m os runs groups s)
runs_stand m os [] [] s = tt
runs_stand m os (run ∷ runs) (layers ∷ groups) s = AllByRecursion_append (Stands m os) (held m os run.tables.items layers s.0) (held_runs m os runs groups s.1) (held_stand m os run.tables.items layers s.0) (runs_stand m os runs groups s.1)
runs_stand m os [] (layers ∷ groups) s = absurd s
runs_stand m os (run ∷ runs) [] s = absurd s

found_stands : (m : Meaning) (os : Objects) (here : Held) (path : List ℕ) (kept : Kept) → AllByRecursion (Stands m os) here → find_named path here ≡ Some kept → StandsAt m.encode os path kept
found_stands m os [] path kept h is = cc
found_stands m os (e ∷ here) path kept h is = by (bytes_eq e.0 path) refl is (found_stands m os here path kept h.1)
  where
    by : (b : Bool) → bytes_eq e.0 path ≡ b → cond b (Some e.1) (find_named path here) ≡ Some kept → (find_named path here ≡ Some kept → StandsAt m.encode os path kept) → StandsAt m.encode os path kept
    by true same is later = subst (λ (p : List ℕ). StandsAt m.encode os p kept) ((bytes_eq-Decides e.0 path).0 same) (subst (λ (k : Kept). StandsAt m.encode os e.0 k) (same_Some _ _ is) h.0)
    by false same is later = later is

pub is_world : (m : Meaning) (os : Objects) (runs : List SortedRun) (groups : List (List Rows)) (s : AreStoredRuns m os runs groups) → IsWorldOf os m (world_of m (held_runs m os runs groups s))
is_world m os runs groups s = record { meaning = refl; fits = refl; tables = λ path kept is. found_stands m os (held_runs m os runs groups s) path kept (runs_stand m os runs groups s) is }

-- the objects hold its tables
pub world_holds : (os : Objects) (m : Meaning) (w : World) → IsWorldOf os m w → HoldsWorld os w
world_holds os m w is = λ path kept found. (is.tables path kept found).there

-- a call that the objects answered met their world
pub sees_world : (os : Objects) (w : World) (before after : Reach) → w.meaning ≡ before.meaning → HoldsWorld os w → AnswersFrom os before after → Sees w before after
sees_world os w before after same holds (inl tells) = record { meaning = same; met = inl (record { os = os; tells = tells; holds = holds }) }
sees_world os w before after same holds (inr a) = record { meaning = same; met = inr (record { known = a.known; reads = a.more; began = a.began; ended = a.ended; each = AllByRecursion_weaken (AnswersAct os) (AnswersWorld w) one a.more a.each }) }
  where
    known : (start len : ℕ) (answer : Option (List ℕ)) (path : List ℕ) → answer ≡ part_of (object_at os path) start len → (found : Option Kept) → w.holds path ≡ found → IfSome found (λ kept. answer ≡ part_of (Some kept.bytes) start len)
    known start len answer path is None at = tt
    known start len answer path is (Some kept) at = is ∙ ap (λ (o : Option (List ℕ)). part_of o start len) (holds path kept at)

    one : (act : Act) → AnswersAct os act → AnswersWorld w act
    one (Act.put path bytes) k = tt
    one (Act.read path start len answer) k = known start len answer path k (w.holds path) refl
    one (Act.len path answer) k = tt

-- ---- a call over a store that tells its acts

-- a slip in the world is one among the objects
slip_from : (os : Objects) (m : Meaning) (w : World) (act : Act) → IsWorldOf os m w → IsSlip w act → IsSlipFrom m.encode os act
slip_from os m w (Act.put path bytes) is slip = absurd slip
slip_from os m w (Act.read path start len answer) is (kept, bytes, found, given, slip) =
    (kept, bytes, is.tables path kept found, given, subst (λ (fits : List ℕ → List ℕ → Bool). IsSlipOf fits kept start len bytes) is.fits slip)
slip_from os m w (Act.len path answer) is slip = absurd slip

pub slips_of_world : (os : Objects) (m : Meaning) (w : World) (a b : Reach) (reads : List Act) → IsWorldOf os m w → IsCall a b reads → Slips w a b → SlipsFrom m.encode os a.acts b.acts
slips_of_world os m w a b reads is call s = record {
  known = s.known;
  acts = s.reads;
  began = s.began;
  ended = s.ended;
  slipped = slips_among m.encode os s.reads s.act (subst (AllByRecursion IsReadAct) same call.each) s.among (slip_from os m w s.act is s.slip);
}
  where
    same : reads ≡ s.reads
    same = append_cancel_left s.known reads s.reads (same_Some _ _ (sym (call.adds s.known s.began) ∙ s.ended))

-- where a call that met the world means this, it holds, or a section slipped
pub or_slips_world : (os : Objects) (w : World) (a b : Reach) (reads : List Act) (holds : Type 0) → IsWorldOf os a.meaning w → IsCall a b reads → Checks w a b → (Sees w a b → holds) → OrSlips os a b holds
or_slips_world os w a b reads holds is call checks met_it known began = by (checks known began is.meaning)
  where
    by : Sees w a b ⊎ Slips w a b → holds ⊎ SlipsFrom a.meaning.encode os a.acts b.acts
    by (inl sees) = inl (met_it sees)
    by (inr slips) = inr (slips_of_world os a.meaning w a b reads is call slips)

-- of two parts
pub or_slips_last : (os : Objects) (a b c : Reach) (holds : Type 0) → OnlyReads a b → OnlyReads b c → ChecksFrom os a b → (AnswersFrom os a b → OrSlips os b c holds) → OrSlips os a c holds
or_slips_last os a b c holds first last checks later known began = by (checks known began)
  where
    behind : holds ⊎ SlipsFrom b.meaning.encode os b.acts c.acts → holds ⊎ SlipsFrom a.meaning.encode os a.acts c.acts
    behind (inl h) = inl h
    behind (inr s) = inr (slips_last a.meaning.encode os a b c first known began (subst (λ (m : Meaning). SlipsFrom m.encode os b.acts c.acts) first.meaning s))

    by : AnswersFrom os a b ⊎ SlipsFrom a.meaning.encode os a.acts b.acts → holds ⊎ SlipsFrom a.meaning.encode os a.acts c.acts
    by (inl answers) = let more = first.acts known began in behind (later answers (known ++ more.0) more.1)
    by (inr s) = inr (slips_first a.meaning.encode os a b c last s)
