-- What a get finds, and what it folds to.
use Rattle.std.proofs.Common.{◌≡◌, ℕ, ◌≤◌, Bool, true, false, ◌||◌, cond, List, [], ◌∷◌, ◌++◌, reverse, Option, Some, None, refl, sym, ap, subst, ◌∙◌, bytes_eq, nat_le, nat_lt, append-nil}
use Rattle.std.specs.List.{AllByRecursion, list_any}
use Rattle.std.proofs.lemmas.Grind.{flat_map-append}
use Rattle.std.proofs.lemmas.List.{reverse-append}
use Rattle.std.proofs.lemmas.List.Folds.{list_any-append}
use Rattle.std.proofs.lemmas.Slice.Eq.{bytes_eq-Decides}
use Rattle.slate_types.specs.declared.types.Ulid.{Ulid}
use Rattle.slate_types.specs.Fold.{AreShort, IsShort, fold_rows, fold_taken, taken}
use Rattle.slate_types.specs.Join.{AreOf}
use Rattle.slate_types.specs.Outside.{Objects}
use Rattle.slate_types.specs.Rows.{is_base, of_key, operand}
use Rattle.slate_store.specs.Store.{object_at}
use Rattle.slate_mem.specs.Table.{newest, up_to as rows_up_to}
use Rattle.slate_mem.proofs.MemLaws.{taken_newest}
use Rattle.slate_table.specs.declared.info.SsTableHandle.{SsTableHandle}
use Rattle.slate_table.specs.Parts.{Encode}
use Rattle.slate_table.specs.Paths.{path_of}
use Rattle.slate_table.specs.Table.{IsTable}
use Rattle.slate_txn.specs.declared.event.Event.{Event}
use Rattle.slate_txn.specs.Reads.{up_to, key_rows}
use Rattle.slate_db.specs.Installs.{tables_of, installed, root, AreHandles, Holds, HoldsTables, handles_of}
use Rattle.slate_mem.specs.Lookup.{newest_first, is_merge_among}
use Rattle.slate_db.specs.Lookup.{AreStored, AreStoredAs}
use Rattle.slate_db.specs.Meaning.{Meaning, IsLawfulMeaning, rules_of, combine_of}
use Rattle.slate_db.specs.Model.{CoreModel, Rows, memory, versions, versions_in}
use Rattle.slate_db.specs.Readable.{IsOwnRow}
use Rattle.slate_db.specs.Sound.{AreBases, AreTables, IsKept, IsOperable, IsTied, at_most, above}
use Rattle.slate_db.specs.Whole.{IsWhole, Unseen}
use Rattle.slate_db.proofs.Bases.{no_merge_among}
use Rattle.slate_mem.proofs.LayerLaws.{first_both}
use Rattle.slate_db.proofs.Newest.{versions_are}
use Rattle.slate_db.proofs.NoMerges.{memory_bases, own_bases_of}
use Rattle.slate_db.proofs.Runs.{all_handles}
use Rattle.slate_db.proofs.Seen.{seen_fold}
use Rattle.slate_db.proofs.Tables.{all_same}
use Rattle.slate_db.proofs.Short.{all_from_last, commits_short, fine_short}
use Rattle.slate_db.proofs.Versions.{all_versions_in, short_versions, twice}
use Rattle.slate_types.proofs.Lists.{AllByRecursion_append, AllByRecursion_weaken, AllByRecursion_filter, AllByRecursion_reverse}

-- ---- the store holds the tables that the core knows

pub all_stored : (m : Meaning) → IsLawfulMeaning m → (os : Objects) (ts : List (Ulid × List ℕ)) (hs : List SsTableHandle) (layers : List Rows) → AreTables m ts layers → AreHandles ts hs → Holds os ts → AreStored m.encode m.decode (Some os) hs layers
all_stored m law os [] [] layers tables handles holds = subst (AreStored m.encode m.decode (Some os) []) (sym tables) tt
all_stored m law os [] (h ∷ hs) layers tables handles holds = absurd handles
all_stored m law os (t ∷ ts) [] layers tables handles holds = absurd handles
all_stored m law os (t ∷ ts) (h ∷ hs) layers (version, rows, rest, is, others, same) handles holds =
    subst (AreStored m.encode m.decode (Some os) (h ∷ hs)) (sym same) (
      record {
        lawful = law.transformer;
        os = os;
        told = refl;
        bytes = t.1;
        there = ap (λ x. object_at os (path_of root x.0)) handles.0.id ∙ holds.0;
        each = handles.0.bytes;
        is = record { written = version; is = subst (λ (x : Ulid). IsTable m.encode t.1 version x.0 rows) (sym handles.0.id) is; info = handles.0.info };
      },
      all_stored m law os ts hs rest others handles.1 holds.1,
    )

pub stored_tables : (m : Meaning) (c : CoreModel) (u : Unseen) (objects : Option Objects) (layers : List Rows) → IsWhole c u → IsLawfulMeaning m → AreTables m (tables_of c.events) layers → HoldsTables objects c.events →
    AreStored m.encode m.decode objects (handles_of u.runs) layers
stored_tables m c u None layers w law tables held = absurd held
stored_tables m c u (Some os) layers w law tables held = all_stored m law os (tables_of c.events) (handles_of u.runs) layers tables (all_handles c.events u.runs w.tied.runs) held

pub stored_known : (m : Meaning) (c d : CoreModel) (u : Unseen) (known : List SsTableHandle) (objects : Option Objects) (layers : List Rows) (encode decode : Encode) → d ≡ c → known ≡ handles_of u.runs → m.encode ≡ encode → m.decode ≡ decode →
    IsWhole d u → IsLawfulMeaning m → AreTables m (tables_of c.events) layers → HoldsTables objects c.events → AreStored encode decode objects known layers
stored_known m c d u known objects layers encode decode same kept encodes decodes w law tables held =
    subst (λ (xs : List SsTableHandle). AreStored encode decode objects xs layers) (sym kept)
    (all_same m.encode encode m.decode decode objects (handles_of u.runs) layers (sym encodes) (sym decodes)
    (stored_tables m d u objects layers w law
    (subst (λ (v : CoreModel). AreTables m (tables_of v.events) layers) (sym same) tables)
    (subst (λ (v : CoreModel). HoldsTables objects v.events) (sym same) held)))

pub stored_as : (m : Meaning) (c d : CoreModel) (u : Unseen) (known : List SsTableHandle) (os : Objects) (layers : List Rows) → d ≡ c → known ≡ handles_of u.runs →
    IsWhole d u → IsLawfulMeaning m → AreTables m (tables_of c.events) layers → Holds os (tables_of c.events) → AreStoredAs m os known layers
stored_as m c d u known os layers same kept w law tables held = stored_known m c d u known (Some os) layers m.encode m.decode same kept refl refl w law tables held

-- a store that holds tables tells its objects
pub held : (objects : Option Objects) (events : List Event) → HoldsTables objects events → (os : Objects) × (objects ≡ Some os) × HoldsTables (Some os) events
held None events h = absurd h
held (Some os) events h = (os, refl, h)

-- ---- the rows that are found

pub layers_are : (c : CoreModel) (layers : List Rows) → newest_first (layers ++ memory c) ≡ (c.active ++ newest_first c.frozen) ++ newest_first layers
layers_are c layers =
    first_both layers (memory c) ∙ ap (λ xs. xs ++ newest_first layers) (first_both c.frozen (c.active ∷ []) ∙ ap (λ xs. xs ++ newest_first c.frozen) (append-nil c.active))

of_keys : (k : List ℕ) (rows : Rows) → AllByRecursion (λ r. r.key ≡ k) (of_key k rows)
of_keys k [] = tt
of_keys k (r ∷ rs) = by (bytes_eq r.key k) refl (of_keys k rs)
  where
    by : (t : Bool) → bytes_eq r.key k ≡ t → AllByRecursion (λ r. r.key ≡ k) (of_key k rs) → AllByRecursion (λ r. r.key ≡ k) (cond t (r ∷ of_key k rs) (of_key k rs))
    by true e rest = ((bytes_eq-Decides r.key k).0 e, rest)
    by false e rest = rest

key_versions : (k : List ℕ) (layers : List Rows) → AllByRecursion (λ r. r.key ≡ k) (versions_in k layers)
key_versions k [] = tt
key_versions k (rows ∷ layers) = AllByRecursion_append _ (versions k rows) (versions_in k layers) (AllByRecursion_reverse _ (of_key k rows) (of_keys k rows)) (key_versions k layers)

pairs : (k : List ℕ) (rows : Rows) → AllByRecursion (λ r. r.key ≡ k) rows → AreShort rows → AreOf k rows
pairs k [] h s = tt
pairs k (r ∷ rs) h s = ((h.0, s.0), pairs k rs h.1 s.1)

pub own_pairs : (k : List ℕ) (own : Rows) → AllByRecursion (λ r. r.key ≡ k) own → AreShort own → AreOf k (reverse own)
own_pairs k own keys short = pairs k (reverse own) (AllByRecursion_reverse (λ r. r.key ≡ k) own keys) (AllByRecursion_reverse (λ r. IsShort (operand r)) own short)

memory_short : (m : Meaning) (c : CoreModel) (u : Unseen) (k : List ℕ) → IsWhole c u → IsLawfulMeaning m → IsKept m c → AreShort (versions_in k (memory c))
memory_short m c u k w law kept =
    subst (λ (xs : Rows). AreShort xs) (sym (kept.0 k)) (commits_short (rules_of c.settings m) k (law.short k) _ (AllByRecursion_filter _ (λ x. nat_lt (installed c.events) x.seq) c.state.commits (AllByRecursion_weaken _ _ (λ x. fine_short x.ops) c.state.commits w.log.fine)))

pub found_turned : (c : CoreModel) (k : List ℕ) (at : ℕ) (own found : Rows) (layers : List Rows) → found ≡ own ++ newest k at ((c.active ++ newest_first c.frozen) ++ newest_first layers) →
    reverse found ≡ taken (at_most at (versions_in k (layers ++ memory c))) ++ reverse own
found_turned c k at own found layers is =
    ap reverse (is ∙ ap (λ rows. own ++ newest k at rows) (sym (layers_are c layers)))
    ∙ reverse-append own (newest k at (newest_first (layers ++ memory c)))
    ∙ ap (λ rows. rows ++ reverse own) (taken_newest (rows_up_to k at (newest_first (layers ++ memory c))) ∙ ap taken (versions_are k at (layers ++ memory c)))

-- what stands before the newest row that is no operand doesn't count under newer rows either
taken_on : (xs ys : Rows) → taken (taken xs ++ ys) ≡ taken (xs ++ ys)
taken_on [] ys = refl
taken_on (x ∷ xs) ys = by (list_any is_base xs) refl (taken_on xs ys)
  where
    by : (b : Bool) → list_any is_base xs ≡ b → taken (taken xs ++ ys) ≡ taken (xs ++ ys) → taken (cond b (taken xs) (x ∷ xs) ++ ys) ≡ cond (list_any is_base (xs ++ ys)) (taken (xs ++ ys)) (x ∷ (xs ++ ys))
    by true e rest = rest ∙ sym (ap (λ b. cond b (taken (xs ++ ys)) (x ∷ (xs ++ ys))) (list_any-append is_base xs ys ∙ ap (λ b. b || list_any is_base ys) e))
    by false e rest = refl

-- without an operator none of them is an operand
pub found_bases : (m : Meaning) (c : CoreModel) (k : List ℕ) (at : ℕ) (own found : Rows) (layers : List Rows) → m.combine ≡ None → IsTied m c → IsOperable m c → AllByRecursion AreBases layers → AllByRecursion (IsOwnRow c) own →
    found ≡ own ++ newest k at ((c.active ++ newest_first c.frozen) ++ newest_first layers) → is_merge_among found ≡ false
found_bases m c k at own found layers none tied operable bases owns is =
    no_merge_among found (twice (λ r. is_base r ≡ true) found (subst AreBases (sym (found_turned c k at own found layers is)) (AllByRecursion_append (λ r. is_base r ≡ true) _ (reverse own) below (AllByRecursion_reverse (λ r. is_base r ≡ true) own (own_bases_of c own (operable none) owns)))))
  where
    below : AreBases (taken (at_most at (versions_in k (layers ++ memory c))))
    below = all_from_last (λ r. is_base r ≡ true) is_base _ (AllByRecursion_filter (λ r. is_base r ≡ true) (λ r. nat_le r.seq at) _ (all_versions_in (λ r. is_base r ≡ true) k (layers ++ memory c) (AllByRecursion_append AreBases layers (memory c) bases (memory_bases m c none tied operable))))

-- the rows that were found can be folded, and fold as the commits do under own rows
pub record Folds (m : Meaning) (c : CoreModel) (k : List ℕ) (at : ℕ) (own found : Rows) : Type 0 where
  pub are : AreOf k (reverse found)
  pub fold : fold_rows (combine_of m k) (reverse found) ≡ fold_rows (combine_of m k) (key_rows (rules_of c.settings m) k (up_to at c.state.commits) ++ reverse own)

pub found_folds : (m : Meaning) (c : CoreModel) (u : Unseen) (k : List ℕ) (at : ℕ) (own found : Rows) (layers : List Rows) → IsWhole c u → IsLawfulMeaning m → IsKept m c → AreTables m (tables_of c.events) layers → AllByRecursion AreShort layers → c.floor ≤ at →
    AllByRecursion (λ r. r.key ≡ k) own → AreShort own → found ≡ own ++ newest k at ((c.active ++ newest_first c.frozen) ++ newest_first layers) → Folds m c k at own found
found_folds m c u k at own found layers w law kept tables short above keys own_short is = record {
  are = subst (AreOf k) (sym turned) (AllByRecursion_append _ (taken seen) (reverse own) (pairs k (taken seen) (all_from_last _ is_base seen (AllByRecursion_filter _ (λ r. nat_le r.seq at) _ (key_versions k all))) (all_from_last _ is_base seen (AllByRecursion_filter _ (λ r. nat_le r.seq at) _ all_short)))
      (own_pairs k own keys own_short));
  fold = ap (fold_rows (combine_of m k)) turned ∙ ap (fold_taken (combine_of m k)) (taken_on seen (reverse own))
      ∙ seen_fold m c u layers k at (reverse own) w law kept tables above (AllByRecursion_reverse (λ r. IsShort (operand r)) own own_short);
}
  where
    all : List Rows
    all = layers ++ memory c

    seen : Rows
    seen = at_most at (versions_in k all)

    turned : reverse found ≡ taken seen ++ reverse own
    turned = found_turned c k at own found layers is

    all_short : AreShort (versions_in k all)
    all_short = subst (λ (xs : Rows). AreShort xs) (sym (flat_map-append (versions k) layers (memory c))) (AllByRecursion_append _ (versions_in k layers) (versions_in k (memory c)) (short_versions k layers short) (memory_short m c u k w law kept))
