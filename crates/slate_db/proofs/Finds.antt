-- A get that needs the tables read a block with its key.
use Rattle.std.proofs.Common.{◌≡◌, ℕ, zero, suc, ◌+◌, ◌<◌, ◌≤◌, ◌^◌, ◌-◌, true, List, [], ◌∷◌, ◌++◌, reverse, Option, Some, None, refl, sym, ap, subst, ◌∙◌, arith, nat_le, append-nil}
use Rattle.std.specs.Prelude.{Contains, IfOk, Result, Ok, Err, slice_get}
use Rattle.std.specs.List.{AllByRecursion}
use Rattle.std.proofs.lemmas.Grind.{flat_map-append}
use Rattle.std.proofs.lemmas.List.{append_cancel_left}
use Rattle.std.proofs.lemmas.List.Elements.{All-contains, All-from_recursion, Contains-append_left, Contains-append_right, filter-append, filter_map-append}
use Rattle.std.proofs.lemmas.Option.{same_Some}
use Rattle.std.proofs.lemmas.Slice.Eq.{bytes_eq-Decides}
use Rattle.slate_types.specs.declared.types.RowEntry.{RowEntry}
use Rattle.slate_types.specs.declared.types.Ulid.{Ulid}
use Rattle.slate_types.specs.Fold.{taken}
use Rattle.slate_types.specs.Outside.{Act, Meaning, Objects}
use Rattle.slate_store.specs.Store.{object_at, part_of}
use Rattle.slate_block.specs.declared.block.Block.{Block}
use Rattle.slate_mem.specs.Lookup.{newest_first}
use Rattle.slate_mem.specs.Table.{newest}
use Rattle.slate_table.specs.declared.info.SsTableHandle.{SsTableHandle}
use Rattle.slate_table.specs.Finding.{blocks_answer, index_answer}
use Rattle.slate_table.specs.InfoReading.{seen_info}
use Rattle.slate_table.specs.Parts.{Encode}
use Rattle.slate_table.specs.Paths.{path_of}
use Rattle.slate_table.specs.Reading.{IsBlockRead, IsIndexRead, block_start, blocks_size, of_blocks, of_index, whole_answer}
use Rattle.slate_table.specs.Table.{IsTableOf, block_places}
use Rattle.slate_read.specs.WalkLaws.{whole_part}
use Rattle.slate_txn.specs.Reads.{key_rows, up_to}
use Rattle.slate_txn.specs.State.{Commit, Rules}
use Rattle.slate_db.specs.Answered.{AnswersAct}
use Rattle.slate_db.specs.Asked.{ReadsKey, takes_flushed}
use Rattle.slate_db.specs.Installs.{AreHandles, Holds, installed, root}
use Rattle.slate_db.specs.Lookup.{AreStored, AreStoredAs, IsStored}
use Rattle.slate_db.specs.Meaning.{combine_of, rules_of}
use Rattle.slate_db.specs.Model.{CoreModel, Rows, memory, versions, versions_in}
use Rattle.slate_db.specs.Readable.{IsOwnRow}
use Rattle.slate_db.specs.Shown.{Asking, BringsRow, BringsRows, HasBlock, IsOpened, IsRowOf, blocks_act, index_act}
use Rattle.slate_db.specs.Sound.{IsSound, above, at_most}
use Rattle.slate_db.specs.Whole.{IsWhole, Unseen}
use Rattle.slate_db.proofs.Behind.{named_by}
use Rattle.slate_db.proofs.Folds.{rows_of_commits}
use Rattle.slate_db.proofs.Gets.{found_turned}
use Rattle.slate_db.proofs.KeyBlocks.{key_held_in}
use Rattle.slate_db.proofs.Needs.{needs_older}
use Rattle.slate_db.proofs.Rises.{rows_above}
use Rattle.slate_db.proofs.ScanWorlds.{table_held}
use Rattle.slate_db.proofs.Split.{split_at}
use Rattle.slate_types.proofs.Lists.{AllByRecursion_weaken, AllByRecursion_filter, AllByRecursion_reverse}

-- ---- the table that brought a row

stored_among : (encode decode : Encode) (objects : Option Objects) (hs : List SsTableHandle) (layers : List Rows) (h : SsTableHandle) → AreStored encode decode objects hs layers → Contains hs h → (rows : Rows) × IsStored encode decode objects h rows
stored_among encode decode objects [] layers h are (i, lt, is) = absurd (omega (arith, lt))
stored_among encode decode objects (k ∷ hs) [] h are among = absurd are
stored_among encode decode objects (k ∷ hs) (rows ∷ layers) h are (zero, lt, is) = (rows, subst (λ (x : SsTableHandle). IsStored encode decode objects x rows) is are.0)
stored_among encode decode objects (k ∷ hs) (rows ∷ layers) h are (suc i, lt, is) = stored_among encode decode objects hs layers h are.1 (i, omega (arith, lt), is)

-- what is read of an answer was given
some_given : (decode : Encode) (h : SsTableHandle) (entries : List (ℕ × List ℕ)) (first size i : ℕ) (given : Option (List ℕ)) (block : Block) → IsBlockRead decode (of_blocks h entries first (whole_answer size given) i) block →
    (bytes : List ℕ) × (given ≡ Some bytes)
some_given decode h entries first size i None block (part, (stored, is, decoded), apart) = cc
some_given decode h entries first size i (Some bytes) block read = (bytes, refl)

pub brought_key : (m : Meaning) (asking : Asking) (upto : ℕ) (os : Objects) (ts : List (Ulid × List ℕ)) (hs : List SsTableHandle) (layers : List Rows) (reads : List Act) (k : List ℕ) (r : RowEntry) → AreHandles ts hs → Holds os ts → AreStoredAs m os hs layers → AllByRecursion (AnswersAct os) reads →
    BringsRow m.decode asking upto hs reads r → r.key ≡ k → ReadsKey m.encode k ts reads
brought_key m asking upto os ts hs layers reads k r are holds stored answered b key = record {
  table = named.table;
  among = named.among;
  version = h.format_version;
  blocks = held.blocks;
  filters = held.filters;
  is = subst (λ (n : ℕ). IsTableOf m.encode named.table.1 h.format_version n held.blocks held.filters) id (subst (λ (l : List ℕ). IsTableOf m.encode l h.format_version h.id.0 held.blocks held.filters) same held.is);
  block = found.block;
  rows = found.rows;
  place = found.place;
  at_block = found.at_block;
  at_place = subst (λ (n : ℕ). slice_get (block_places m.encode h.format_version n held.blocks) found.block ≡ Some found.place) id found.at_place;
  holds = found.holds;
  act = blocks_act h o.entries o.first o.stop o.blocks;
  done = among (blocks_act h o.entries o.first o.stop o.blocks) (1, omega arith, refl);
  covers = (ap (λ (x : Ulid). path_of root x.0) named.handle.id, record { bytes = given.0; returned = given.1; from = found.from; upto = found.upto });
}
  where
    h : SsTableHandle
    h = b.table

    held : Rattle.slate_db.proofs.ScanWorlds.IsTableHeld m os h (stored_among m.encode m.decode (Some os) hs layers h stored b.among).0
    held = let s = stored_among m.encode m.decode (Some os) hs layers h stored b.among in table_held m os h s.0 s.1

    named : Rattle.slate_db.proofs.Behind.Named os ts h
    named = named_by os ts hs h are holds b.among

    id : h.id.0 ≡ named.table.0.0
    id = ap (λ (x : Ulid). x.0) named.handle.id

    same : held.bytes ≡ named.table.1
    same = same_Some held.bytes named.table.1 (sym held.there ∙ ap (λ (x : Ulid). object_at os (path_of root x.0)) named.handle.id ∙ named.there)

    has : HasBlock m.decode h b.row.opened b.row.meant.0
    has = b.row.meant.1

    o : IsOpened m.decode h b.row.opened
    o = has.table

    among : (act : Act) → Contains (index_act h o.index ∷ blocks_act h o.entries o.first o.stop o.blocks ∷ []) act → Contains reads act
    among act there =
        let opened = subst (λ (l : List Act). Contains l act) (sym o.are) there in
        let acts = subst (λ (l : List Act). Contains l act) (sym b.row.are) (Contains-append_right b.row.filters b.row.opened act opened) in
        subst (λ (l : List Act). Contains l act) (sym b.split) (Contains-append_right b.earlier (b.acts ++ b.later) act (Contains-append_left b.acts b.later act acts))

    by_table : (start size : ℕ) (answer : Option (List ℕ)) → Contains reads (Act.read (path_of root h.id.0) start size answer) → whole_answer size answer ≡ part_of (Some held.bytes) start size
    by_table start size answer there =
        let by_objects : answer ≡ part_of (object_at os (path_of root h.id.0)) start size = All-contains (AnswersAct os) reads (Act.read (path_of root h.id.0) start size answer) (All-from_recursion _ reads answered) there in
        ap (whole_answer size) (by_objects ∙ ap (λ (x : Option (List ℕ)). part_of x start size) held.there) ∙ whole_part held.bytes start size

    index : IsIndexRead m.decode h.info.filter_offset (index_answer h.format_version h.id.0 held.bytes (seen_info h.info)) o.entries
    index = subst (λ (a : Option (List ℕ)). IsIndexRead m.decode h.info.filter_offset (of_index h a) o.entries) (by_table h.info.index_offset h.info.index_len o.index (among (index_act h o.index) (0, omega arith, refl))) o.read

    block : IsBlockRead m.decode (of_blocks h o.entries o.first (blocks_answer held.bytes (seen_info h.info) o.entries o.first o.stop) has.i) b.row.meant.0
    block = subst (λ (a : Option (List ℕ)). IsBlockRead m.decode (of_blocks h o.entries o.first a has.i) b.row.meant.0)
        (by_table (block_start h.info.filter_offset o.entries o.first) (blocks_size h.info.filter_offset o.entries o.first o.stop) o.blocks (among (blocks_act h o.entries o.first o.stop o.blocks) (1, omega arith, refl))) has.read

    given : (bytes : List ℕ) × (o.blocks ≡ Some bytes)
    given = some_given m.decode h o.entries o.first (blocks_size h.info.filter_offset o.entries o.first o.stop) has.i o.blocks b.row.meant.0 has.read

    row : IsRowOf h.format_version b.row.meant.0 r
    row = b.row.meant.2

    found : Rattle.slate_db.proofs.KeyBlocks.KeyHeld m.encode h.format_version h.id.0 held.blocks k (block_start h.info.filter_offset o.entries o.first) (blocks_size h.info.filter_offset o.entries o.first o.stop)
    found = key_held_in m.encode m.decode held.lawful held.bytes h.format_version h.id.0 held.blocks held.filters (seen_info h.info) o.entries k o.first o.stop has.i b.row.meant.0 row.1 r
        held.is held.info index has.from has.upto o.within row.0 block row.2 row.3 ((bytes_eq-Decides r.key k).1 key)

-- ---- some row was brought

owns_above : (c : CoreModel) (f : ℕ) (own : Rows) → f ≤ 2 ^ 64 - 2 → AllByRecursion (IsOwnRow c) own → AllByRecursion (λ r. f < r.seq) own
owns_above c f own fits owns = AllByRecursion_weaken (IsOwnRow c) (λ (r : RowEntry). f < r.seq) (λ r o. let seq : r.seq ≡ 2 ^ 64 - 1 = ap (λ (x : RowEntry). x.seq) o.is in omega (arith, fits, seq)) own owns

-- where nothing was, the tables hold nothing that is taken
pub none_brought : (m : Meaning) (c : CoreModel) (u : Unseen) (k : List ℕ) (at : ℕ) (own : Rows) (sound : IsSound m c) → IsWhole c u → versions_in k (memory c) ≡ key_rows (rules_of c.settings m) k (above (installed c.events) c.state.commits) → c.floor ≤ at → AllByRecursion (IsOwnRow c) own →
    takes_flushed c.state (key_rows (rules_of c.settings m) k (up_to at c.state.commits) ++ reverse own) ≡ true →
    own ++ newest k at ((c.active ++ newest_first c.frozen) ++ newest_first sound.layers) ≡ own ++ newest k at (c.active ++ newest_first c.frozen) → ⊥
none_brought m c u k at own sound w tied above_floor owns needs same =
    needs_older (combine_of m k) f older flushed newer (reverse own) (sound.folds k at above_floor) newer_above (AllByRecursion_reverse (λ r. f < r.seq) own (owns_above c f own fits owns))
    (ap (λ (l : Rows). takes_flushed c.state (l ++ reverse own)) all ∙ needs) equal
  where
    r : Rules
    r = rules_of c.settings m

    f : ℕ
    f = c.state.flushed

    i : ℕ
    i = installed c.events

    cs : List Commit
    cs = c.state.commits

    fits : c.state.flushed ≤ 2 ^ 64 - 2
    fits = let a = w.log.flushed_within in let b = w.log.last_fits in omega (arith, a, b)

    older : Rows
    older = at_most at (versions_in k sound.layers)

    newer : Rows
    newer = at_most at (versions_in k (memory c))

    flushed : Rows
    flushed = key_rows r k (up_to at (up_to i cs))

    newer_is : newer ≡ key_rows r k (up_to at (above i cs))
    newer_is = ap (at_most at) tied ∙ rows_of_commits (λ s. nat_le s at) r k (above i cs)

    all : flushed ++ newer ≡ key_rows r k (up_to at cs)
    all =
        ap (λ (l : Rows). flushed ++ l) newer_is ∙ sym (filter_map-append _ (up_to at (up_to i cs)) (up_to at (above i cs)))
        ∙ ap (key_rows r k) (sym (filter-append (λ d. nat_le d.seq at) (up_to i cs) (above i cs)) ∙ ap (up_to at) (split_at c.settings.start_seq i cs w.log.rising))

    same_above : above i cs ≡ above f cs
    same_above = append_cancel_left (up_to i cs) (above i cs) (above f cs)
        (split_at c.settings.start_seq i cs w.log.rising ∙ sym (split_at c.settings.start_seq f cs w.log.rising) ∙ ap (λ (l : List Commit). l ++ above f cs) w.log.flushed_through)

    newer_above : AllByRecursion (λ x. f < x.seq) newer
    newer_above = AllByRecursion_filter (λ x. f < x.seq) (λ x. nat_le x.seq at) (versions_in k (memory c))
        (subst (AllByRecursion (λ (x : RowEntry). f < x.seq)) (sym (tied ∙ ap (key_rows r k) same_above)) (rows_above r k f cs))

    layered : at_most at (versions_in k (sound.layers ++ memory c)) ≡ older ++ newer
    layered = ap (at_most at) (flat_map-append (versions k) sound.layers (memory c)) ∙ filter-append (λ x. nat_le x.seq at) (versions_in k sound.layers) (versions_in k (memory c))

    near : Rows
    near = newest k at (c.active ++ newest_first c.frozen)

    cancelled : newest k at ((c.active ++ newest_first c.frozen) ++ newest_first sound.layers) ≡ near
    cancelled = append_cancel_left own _ near same

    with_tables : reverse near ≡ taken (older ++ newer)
    with_tables = found_turned c k at [] near sound.layers (sym cancelled) ∙ append-nil (taken (at_most at (versions_in k (sound.layers ++ memory c)))) ∙ ap taken layered

    without : reverse near ≡ taken newer
    without = found_turned c k at [] near [] (ap (newest k at) (sym (append-nil (c.active ++ newest_first c.frozen)))) ∙ append-nil (taken newer)

    equal : taken (older ++ newer) ≡ taken newer
    equal = sym with_tables ∙ without

pub if_any : {A E : Type 0} {X : Type 0} (r : Result A E) → X → IfOk r (λ a. X)
if_any (Ok a) x = x
if_any (Err e) x = tt

-- of the rows that were found, some stands behind those of memory
pub some_brought : (m : Meaning) (asking : Asking) (upto : ℕ) (hs : List SsTableHandle) (reads : List Act) (k : List ℕ) (near found : Rows) → (found ≡ near → ⊥) → AllByRecursion (λ r. r.key ≡ k) found → BringsRows m.decode asking upto hs near found reads → (r : RowEntry) × BringsRow m.decode asking upto hs reads r × (r.key ≡ k)
some_brought m asking upto hs reads k near found differs keys ([], is, each) = absurd (differs (is ∙ append-nil near))
some_brought m asking upto hs reads k near found differs keys ((r ∷ more), is, each) =
    (r, each.0, All-contains (λ (x : RowEntry). x.key ≡ k) found r (All-from_recursion _ found keys) (subst (λ (l : Rows). Contains l r) (sym is) (Contains-append_right near (r ∷ more) r (0, omega arith, refl))))
