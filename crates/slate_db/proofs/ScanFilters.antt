-- What a scan is left by the filters of tables.
use Rattle.slate_table.specs.Reading.{of_filters}
use Rattle.std.proofs.Common.{◌≡◌, ℕ, zero, suc, ◌+◌, ◌<◌, ◌≤◌, ◌⊎◌, inl, inr, Bool, true, false, cond, List, [], ◌∷◌, ◌++◌, drop, length, get_or, Option, Some, Result, Ok, Err, refl, sym, ap, subst, ◌∙◌, arith, append_assoc, append-nil}
use Rattle.std.specs.Prelude.{Contains, IfErr, IfOk}
use Rattle.std.specs.List.{AllByRecursion}
use Rattle.std.proofs.lemmas.Grind.{flat_map-append}
use Rattle.std.proofs.lemmas.List.{drop_all}
use Rattle.std.proofs.lemmas.List.Elements.{All-contains, All-from_recursion, Contains-append_cases, Contains-append_left, Contains-append_right}
use Rattle.std.proofs.lemmas.Option.{same_Some}
use Rattle.slate_types.specs.declared.bytes_range.BytesRange.{BytesRange}
use Rattle.slate_types.specs.declared.error.SlateDBError.{SlateDBError}
use Rattle.slate_types.specs.declared.error.SlateDBError.TheVariants.{OutOfMemory}
use Rattle.slate_types.specs.declared.filter_policy.FilterQuery.{FilterQuery}
use Rattle.slate_types.specs.Keys.{in_range}
use Rattle.slate_types.specs.Outside.{Act, IsFault, Meaning, Objects, OnlyReads, Reach}
use Rattle.slate_types.specs.World.{Made}
use Rattle.slate_types.proofs.Calls.{call_both}
use Rattle.slate_types.proofs.Reaching.{fault_earlier}
use Rattle.slate_store.specs.Store.{part_of}
use Rattle.slate_filter.specs.Policy.{IsOf, Policy}
use Rattle.slate_mem.specs.Table.{ranged}
use Rattle.slate_read.specs.declared.sorted_run.SortedRun.{SortedRun}
use Rattle.slate_table.specs.declared.info.SsTableHandle.{SsTableHandle}
use Rattle.slate_table.specs.Filtered.{IsAsked, RefusesQuery}
use Rattle.slate_table.specs.InfoReading.{seen_info}
use Rattle.slate_table.specs.Parts.{Encode}
use Rattle.slate_table.specs.Paths.{path_of}
use Rattle.slate_db.specs.Answered.{AnswersFrom}
use Rattle.slate_db.specs.Asked.{IsFiltersRead, IsLetThrough}
use Rattle.slate_db.specs.Checked.{ChecksFrom}
use Rattle.slate_db.specs.Installs.{handles_of, root}
use Rattle.slate_db.specs.Lookup.{AreFilteredAs, AreStoredAs, IsStoredAs}
use Rattle.slate_db.specs.Model.{Rows}
use Rattle.slate_db.specs.ScanFilters.{AddsLeft, AddsRun, AreLeft, AreLetIn, AreRunsLeft, AreTablesThere, AsksOf, FailsAsking, IsAskingRead, IsLetIn, ShowsFilters, TablesAreLeft}
use Rattle.slate_db.specs.Scanned.{AreStoredRuns}
use Rattle.slate_db.specs.Shown.{Asking, IsUnreadable, LetsThrough, RefusesFiltersRead, filters_act}
use Rattle.slate_db.proofs.Answered.{from_first, from_last}
use Rattle.slate_db.proofs.Checks.{checks_both}
use Rattle.slate_db.proofs.Causes.{store_fault, transform_fault}
use Rattle.slate_db.proofs.Filters.{Asks, IsAsking, WhyNot, asked_alone, asked_cause, asked_filters, asks_err, asks_some, filtered_one, filtered_some, table_there}
use Rattle.slate_db.proofs.RangeFilters.{denied_range}
use Rattle.slate_db.proofs.RunReads.{handle_among, run_here}
use Rattle.slate_db.proofs.Tables.{answered_by, read_part, table_as}
use Rattle.slate_types.proofs.Lists.{AllByRecursion_append, AllByRecursion_weaken}

-- ---- reads of filters

-- of one table
asking_one : (h : SsTableHandle) (reads : List Act) → AllByRecursion (IsFiltersRead h) reads → AllByRecursion (IsAskingRead (h ∷ [])) reads
asking_one h reads each = AllByRecursion_weaken (IsFiltersRead h) (IsAskingRead (h ∷ [])) (λ act is. (h, (0, omega arith, refl), is)) reads each

-- and of more
pub asking_more : (hs ks : List SsTableHandle) (reads : List Act) → ((h : SsTableHandle) → Contains hs h → Contains ks h) → AllByRecursion (IsAskingRead hs) reads → AllByRecursion (IsAskingRead ks) reads
asking_more hs ks reads among each = AllByRecursion_weaken (IsAskingRead hs) (IsAskingRead ks) (λ act is. (is.0, among is.0 is.1, is.2)) reads each

asking_both : (hs ks : List SsTableHandle) (done reads : List Act) → ((h : SsTableHandle) → Contains hs h → Contains ks h) → AllByRecursion (IsAskingRead ks) done → AllByRecursion (IsAskingRead hs) reads → AllByRecursion (IsAskingRead ks) (done ++ reads)
asking_both hs ks done reads among first last = AllByRecursion_append (IsAskingRead ks) done reads first (asking_more hs ks reads among last)

pub asks_then : (a b c : Reach) (hs ks : List SsTableHandle) → ((h : SsTableHandle) → Contains hs h → Contains ks h) → Made a b (AllByRecursion (IsAskingRead ks)) → Made b c (AllByRecursion (IsAskingRead hs)) → Made a c (AllByRecursion (IsAskingRead ks))
asks_then a b c hs ks among (done, f, first) (reads, call, last) = (done ++ reads, call_both a b c done reads f call, asking_both hs ks done reads among first last)

-- ---- one table, whose filters were asked

record Unhurt (asking : Asking) (m : Meaning) (h : SsTableHandle) (bytes : List ℕ) (range : BytesRange) (rows : Rows) : Type 0 where
  pub denied : IsAsked m.decode asking.policies asking.query (of_filters h (part_of (Some bytes) h.info.filter_offset h.info.filter_len)) false → ranged range rows ≡ []
  pub refused : (e : SlateDBError) → RefusesQuery m.decode asking.policies asking.query (of_filters h (part_of (Some bytes) h.info.filter_offset h.info.filter_len)) e → ⊥

abbrev Matches : Asking → BytesRange → Type 0
Matches asking range = (k : List ℕ) → in_range range k ≡ true → IsOf asking.query.target k

unhurt : (asking : Asking) (m : Meaning) (os : Objects) (h : SsTableHandle) (range : BytesRange) (rows : Rows) → (stored : IsStoredAs m os h rows) → Matches asking range → AreFilteredAs asking.policies m os (h ∷ []) →
    Asks asking h ≡ true → Unhurt asking m h stored.bytes range rows
unhurt asking m os h range rows stored matches filtered asks =
    let laws = denied_range m.encode m.decode stored.lawful asking.policies filtered.0 stored.bytes h.format_version h.id.0 (seen_info h.info) rows stored.each stored.is (filtered.1.0 stored.bytes (table_there m os h rows stored)) asking.query range matches
    (asks_some asking.policies h.info.filter_len asks) in
    record { denied = laws.0; refused = laws.1 }

pub left_denied : (asking : Asking) (h : SsTableHandle) (a c : Reach) (r : Result Bool SlateDBError) (range : BytesRange) (rows : Rows) (os : Objects) → IsAsking asking h a c r → Matches asking range →
    IsStoredAs a.meaning os h rows → AreFilteredAs asking.policies a.meaning os (h ∷ []) → AnswersFrom os a c → IfOk r (λ passes. passes ≡ false → ranged range rows ≡ [])
left_denied asking h a c (Err e) range rows os known matches stored filtered answers = tt
left_denied asking h a c (Ok true) range rows os known matches stored filtered answers = λ no. cc
left_denied asking h a c (Ok false) range rows os known matches stored filtered answers = λ no. by (Asks asking h) refl
  where
    by : (t : Bool) → Asks asking h ≡ t → ranged range rows ≡ []
    by true is = (unhurt asking a.meaning os h range rows stored matches filtered is).denied
        (read_part a.objects a.acts c.acts (path_of root h.id.0) h.info.filter_offset h.info.filter_len (λ answer. IsAsked a.meaning.decode asking.policies asking.query (of_filters h answer) false) stored.bytes (answered_by stored answers) (known.asked is))
    by false is = let clash : Ok false ≡ Ok true = (known.none is).0 in absurd cc

left_whole : (asking : Asking) (h : SsTableHandle) (a c : Reach) (e : SlateDBError) (range : BytesRange) (rows : Rows) (os : Objects) → IsAsking asking h a c (Err e) → Matches asking range →
    IsStoredAs a.meaning os h rows → AreFilteredAs asking.policies a.meaning os (h ∷ []) → AnswersFrom os a c → IsFault a c e
left_whole asking h a c e range rows os known matches stored filtered answers = by known.cause
  where
    by : WhyNot asking h a c e → IsFault a c e
    by (inl f) = store_fault a.faults c.faults e f
    by (inr (inl f)) = transform_fault a.faults c.faults e (inr (f.2.0, f.2.1))
    by (inr (inr r)) = absurd ((unhurt asking a.meaning os h range rows stored matches filtered (asks_err asking h a c e known)).refused e
        (read_part a.objects a.acts c.acts (path_of root h.id.0) h.info.filter_offset h.info.filter_len (λ answer. RefusesQuery a.meaning.decode asking.policies asking.query (of_filters h answer) e) stored.bytes (answered_by stored answers) r))

pub left_refused : (asking : Asking) (h : SsTableHandle) (a c : Reach) (r : Result Bool SlateDBError) (range : BytesRange) → IsAsking asking h a c r → Matches asking range → IfErr r (FailsAsking asking.policies (Some asking.query) a c (h ∷ []))
left_refused asking h a c (Ok passes) range known matches = tt
left_refused asking h a c (Err e) range known matches = record {
  undamaged = λ os there filtered answers. left_whole asking h a c e range there.0.0 os known matches there.0.1 filtered answers;
  cause = by (asked_cause asking h a c (Err e) known);
  asks = (let alone = asked_alone asking h a c (Err e) known in (alone.0, alone.1, asking_one h alone.0 alone.2));
}
  where
    by : IsFault a c e ⊎ Made a c (λ reads. IsUnreadable e × RefusesFiltersRead a.meaning.decode asking h reads e) → IsFault a c e ⊎ Made a c (λ reads. ShowsFilters a.meaning.decode asking.policies (Some asking.query) (h ∷ []) reads e)
    by (inl fault) = inl fault
    by (inr (reads, call, (kind, (asks, (given, are, refuses))))) = inr (
      reads,
      call,
      record {
        table = h;
        among = (0, omega arith, refl);
        asked = asking.query;
        is = refl;
        asks = asks;
        given = given;
        read = subst (λ (l : List Act). Contains l (filters_act h given)) (sym are) (0, omega arith, refl);
        kind = kind;
        refuses = refuses;
      },
    )

-- acts that let a query through have what they asked
through : (decode : Encode) (asking : Asking) (h : SsTableHandle) (reads : List Act) → LetsThrough decode asking h reads → IsLetThrough decode asking h reads
through decode asking h reads (inl (unasked, none)) asks = let clash : true ≡ false = sym asks ∙ unasked in cc
through decode asking h reads (inr (asked, (given, one, says))) asks = (given, subst (λ (l : List Act). Contains l (filters_act h given)) (sym one) (0, omega arith, refl), says)

pub left_let_in : (asking : Asking) (h : SsTableHandle) (a c : Reach) (r : Result Bool SlateDBError) → IsAsking asking h a c r → IfOk r (λ passes. AsksOf (h ∷ []) a c (λ reads. passes ≡ true → IsLetIn a.meaning.decode asking.policies (Some asking.query) h reads))
left_let_in asking h a c (Err e) known = tt
left_let_in asking h a c (Ok passes) known =
    let made = asked_filters asking h a c (Ok passes) known in (
      made.0,
      made.1,
      (
        asking_one h made.0 made.2.0,
        λ yes query is. subst (λ (q : FilterQuery). IsLetThrough a.meaning.decode (record { policies = asking.policies; query = q }) h made.0) (same_Some asking.query query is) (through a.meaning.decode asking h made.0 (made.2.1 yes)),
      ),
    )

-- ---- what filters show of some tables they show of more

pub shows_more : {decode : List ℕ → List ℕ} {policies : List Policy} {query : Option FilterQuery} (hs ks : List SsTableHandle) (done reads : List Act) (e : SlateDBError) → ((h : SsTableHandle) → Contains hs h → Contains ks h) →
    ShowsFilters decode policies query hs reads e → ShowsFilters decode policies query ks (done ++ reads) e
shows_more hs ks done reads e among s = record {
  table = s.table;
  among = among s.table s.among;
  asked = s.asked;
  is = s.is;
  asks = s.asks;
  given = s.given;
  read = Contains-append_right done reads _ s.read;
  kind = s.kind;
  refuses = s.refuses;
}

-- what reads let in they let in among others
in_first : (decode : Encode) (policies : List Policy) (query : Option FilterQuery) (h : SsTableHandle) (first last : List Act) → IsLetIn decode policies query h first → IsLetIn decode policies query h (first ++ last)
in_first decode policies query h first last lets asked is asks = let l = lets asked is asks in (l.0, Contains-append_left first last (filters_act h l.0) l.1, l.2)

in_last : (decode : Encode) (policies : List Policy) (query : Option FilterQuery) (h : SsTableHandle) (first last : List Act) → IsLetIn decode policies query h last → IsLetIn decode policies query h (first ++ last)
in_last decode policies query h first last lets asked is asks = let l = lets asked is asks in (l.0, Contains-append_right first last (filters_act h l.0) l.1, l.2)

pub let_in_before : (decode : Encode) (policies : List Policy) (query : Option FilterQuery) (hs : List SsTableHandle) (first last : List Act) → AreLetIn decode policies query hs first → AreLetIn decode policies query hs (first ++ last)
let_in_before decode policies query hs first last are h there = in_first decode policies query h first last (are h there)

pub let_in_none : (decode : Encode) (policies : List Policy) (query : Option FilterQuery) (left : List SsTableHandle) (reads : List Act) → left ≡ [] → AreLetIn decode policies query left reads
let_in_none decode policies query left reads none h there = by (subst (λ (l : List SsTableHandle). Contains l h) none there)
  where
    by : Contains [] h → IsLetIn decode policies query h reads
    by (k, lt, at) = absurd (omega (arith, lt))

-- behind a call that asked others
pub fails_more : (policies : List Policy) (query : Option FilterQuery) (a b c : Reach) (hs ks : List SsTableHandle) (e : SlateDBError) → ((h : SsTableHandle) → Contains hs h → Contains ks h) → Made a b (AllByRecursion (IsAskingRead ks)) → OnlyReads a b → OnlyReads b c →
    FailsAsking policies query b c hs e → FailsAsking policies query a c ks e
fails_more policies query a b c hs ks e among made first last f = record {
  undamaged = λ os there filtered answers. fault_earlier a b c e first.later
      (f.undamaged os (each os hs (λ h k. subst (λ (m : Meaning). (rows : Rows) × IsStoredAs m os h rows) (sym first.meaning) (All-contains (λ (t : SsTableHandle). (rows : Rows) × IsStoredAs a.meaning os t rows) ks h (All-from_recursion _ ks there) (among h k))))
      (filtered_some policies a.meaning b.meaning os ks hs first.meaning filtered among) (from_last os a b c first last answers));
  cause = by f.cause;
  asks = asks_then a b c hs ks among made f.asks;
}
  where
    each : (os : Objects) (xs : List SsTableHandle) → ((h : SsTableHandle) → Contains xs h → (rows : Rows) × IsStoredAs b.meaning os h rows) → AreTablesThere b.meaning os xs
    each os [] all = tt
    each os (x ∷ xs) all = (all x (0, omega arith, refl), each os xs (λ h k. all h (suc k.0, (let lt = k.1 in omega (arith, lt)), k.2)))

    by : IsFault b c e ⊎ Made b c (λ reads. ShowsFilters b.meaning.decode policies query hs reads e) → IsFault a c e ⊎ Made a c (λ reads. ShowsFilters a.meaning.decode policies query ks reads e)
    by (inl fault) = inl (fault_earlier a b c e first.later fault)
    by (inr (reads, call, shows)) = inr (made.0 ++ reads, call_both a b c made.0 reads made.1 call, subst (λ (m : Meaning). ShowsFilters m.decode policies query ks (made.0 ++ reads) e) first.meaning (shows_more hs ks made.0 reads e among shows))

-- want of memory
pub fails_memory : (policies : List Policy) (query : Option FilterQuery) (a c : Reach) (hs : List SsTableHandle) (e : SlateDBError) → Made a c (AllByRecursion (IsAskingRead hs)) → e ≡ OutOfMemory → FailsAsking policies query a c hs e
fails_memory policies query a c hs e made is =
    let fault : IsFault a c e = subst (IsFault a c) (sym is) tt in
    record { undamaged = λ os there filtered answers. fault; cause = inl fault; asks = made }

-- ---- several tables

pub handle_here : (hs : List SsTableHandle) (i : ℕ) (h : SsTableHandle) → i < length hs → h ≡ get_or hs i h → (drop i hs ≡ h ∷ drop (i + 1) hs) × Contains hs h
handle_here [] i h within is = absurd (omega (arith, within))
handle_here (x ∷ hs) zero h within is = (ap (λ (y : SsTableHandle). y ∷ hs) (sym is), (0, omega arith, sym is))
handle_here (x ∷ hs) (suc i) h within is =
    let later = handle_here hs i h (omega (arith, within)) is in
    let place : suc (i + 1) ≡ suc i + 1 = omega arith in
    (later.0 ∙ ap (λ n. h ∷ drop n (x ∷ hs)) place, (suc later.1.0, (let lt = later.1.1 in omega (arith, lt)), later.1.2))

-- tables from a place on are to come
abbrev pub SoFar : List Policy → Reach → Reach → BytesRange → List SsTableHandle → ℕ → List SsTableHandle → Type 0
SoFar policies a b range hs i left =
    (later : List SsTableHandle) (layers : List Rows) (os : Objects) → AreStoredAs a.meaning os hs layers → AreFilteredAs policies a.meaning os hs → AnswersFrom os a b → AreLeft range (drop i hs) (drop i layers) later → AreLeft range hs layers (left ++ later)

pub so_far_none : (policies : List Policy) (a : Reach) (range : BytesRange) (hs left : List SsTableHandle) → left ≡ [] → SoFar policies a a range hs 0 left
so_far_none policies a range hs left none later layers os stored filtered answers h = subst (λ (l : List SsTableHandle). AreLeft range hs layers (l ++ later)) (sym none) h

pub so_far_more : (policies : List Policy) (query : Option FilterQuery) (a b c : Reach) (range : BytesRange) (hs : List SsTableHandle) (i : ℕ) (h : SsTableHandle) (left next : List SsTableHandle) → OnlyReads a b → OnlyReads b c → i < length hs → h ≡ get_or hs i h →
    SoFar policies a b range hs i left → AddsLeft policies query b c range h left next → SoFar policies a c range hs (i + 1) next
so_far_more policies query a b c range hs i h left next first last within is before adds later layers os stored filtered answers rest =
    subst (λ (l : List SsTableHandle). AreLeft range hs layers (l ++ later)) (sym adds.are) (by adds.kept refl)
  where
    here : (drop i hs ≡ h ∷ drop (i + 1) hs) × Contains hs h
    here = handle_here hs i h within is

    with_one : (rows : Rows) (xs : List SsTableHandle) → drop i layers ≡ rows ∷ drop (i + 1) layers → AreLeft range (h ∷ drop (i + 1) hs) (rows ∷ drop (i + 1) layers) xs → AreLeft range (drop i hs) (drop i layers) xs
    with_one rows xs at k = subst (λ (ks : List SsTableHandle). AreLeft range ks (drop i layers) xs) (sym here.0) (subst (λ (ls : List Rows). AreLeft range (h ∷ drop (i + 1) hs) ls xs) (sym at) k)

    by : (kept : Bool) → adds.kept ≡ kept → AreLeft range hs layers (cond kept (left ++ (h ∷ [])) left ++ later)
    by true k =
        let at = table_as a.meaning b.meaning os hs layers i h first.meaning stored within is in
        subst (AreLeft range hs layers) (sym (append_assoc left (h ∷ []) later))
        (before (h ∷ later) layers os stored filtered (from_first os a b c first last answers) (with_one at.rows (h ∷ later) at.here (inl (later, refl, rest))))
    by false k =
        let at = table_as a.meaning b.meaning os hs layers i h first.meaning stored within is in
        before later layers os stored filtered (from_first os a b c first last answers)
        (with_one at.rows later at.here (inr (adds.denied at.rows os at.is (filtered_one policies a.meaning b.meaning os hs h first.meaning filtered here.1) (from_last os a b c first last answers) k, rest)))

-- of all
pub so_far_all : (policies : List Policy) (a b : Reach) (range : BytesRange) (hs : List SsTableHandle) (i : ℕ) (left : List SsTableHandle) → length hs ≤ i → SoFar policies a b range hs i left →
    (layers : List Rows) (os : Objects) → AreStoredAs a.meaning os hs layers → AreFilteredAs policies a.meaning os hs → AnswersFrom os a b → AreLeft range hs layers left
so_far_all policies a b range hs i left end before layers os stored filtered answers =
    subst (AreLeft range hs layers) (append-nil left)
    (before [] layers os stored filtered answers (subst (λ (ks : List SsTableHandle). AreLeft range ks (drop i layers) []) (sym (drop_all i hs end)) (subst (λ (ls : List Rows). AreLeft range [] ls []) (sym (drop_all i layers (as_long hs layers stored end))) refl)))
  where
    as_long : (ks : List SsTableHandle) (ls : List Rows) → AreStoredAs a.meaning os ks ls → length ks ≤ i → length ls ≤ i
    as_long ks ls s le = by ks ls i s le
      where
        by : (ks : List SsTableHandle) (ls : List Rows) (n : ℕ) → AreStoredAs a.meaning os ks ls → length ks ≤ n → length ls ≤ n
        by [] [] n s le = le
        by [] (rows ∷ ls) n s le = absurd s
        by (k ∷ ks) [] n s le = absurd s
        by (k ∷ ks) (rows ∷ ls) zero s le = absurd (omega (arith, le))
        by (k ∷ ks) (rows ∷ ls) (suc n) s le = let rest = by ks ls n s.1 (omega (arith, le)) in omega (arith, rest)

-- the objects answered the reads so far, or a section slipped
abbrev pub TablesChecked : Reach → Reach → List SsTableHandle → Type 0
TablesChecked a b hs = (layers : List Rows) (os : Objects) → AreStoredAs a.meaning os hs layers → ChecksFrom os a b

pub tables_checked_more : (a b c : Reach) (hs : List SsTableHandle) (i : ℕ) (h : SsTableHandle) → OnlyReads a b → OnlyReads b c → i < length hs → h ≡ get_or hs i h →
    TablesChecked a b hs → ((rows : Rows) (os : Objects) → IsStoredAs b.meaning os h rows → ChecksFrom os b c) → TablesChecked a c hs
tables_checked_more a b c hs i h first last within is before one layers os stored =
    let at = table_as a.meaning b.meaning os hs layers i h first.meaning stored within is in
    checks_both os a b c first last (before layers os stored) (one at.rows os at.is)

pub among_more : (hs : List SsTableHandle) (i : ℕ) (h : SsTableHandle) (left next : List SsTableHandle) (kept : Bool) → i < length hs → h ≡ get_or hs i h → next ≡ cond kept (left ++ (h ∷ [])) left →
    ((t : SsTableHandle) → Contains left t → Contains hs t) → (t : SsTableHandle) → Contains next t → Contains hs t
among_more hs i h left next kept within is are before t there = by kept (subst (λ (l : List SsTableHandle). Contains l t) are there)
  where
    one : Contains (h ∷ []) t → Contains hs t
    one (zero, lt, at) = subst (Contains hs) at (handle_here hs i h within is).1
    one (suc n, lt, at) = absurd (omega (arith, lt))

    by : (b : Bool) → Contains (cond b (left ++ (h ∷ [])) left) t → Contains hs t
    by true k = elim (Contains-append_cases left (h ∷ []) t k) [ inl l ↦ before t l | inr o ↦ one o ]
    by false k = before t k

pub among_none : (hs left : List SsTableHandle) → left ≡ [] → (t : SsTableHandle) → Contains left t → Contains hs t
among_none hs left none t there = by (subst (λ (l : List SsTableHandle). Contains l t) none there)
  where
    by : Contains [] t → Contains hs t
    by (k, lt, at) = absurd (omega (arith, lt))

pub one_among : (hs : List SsTableHandle) (i : ℕ) (h : SsTableHandle) → i < length hs → h ≡ get_or hs i h → (t : SsTableHandle) → Contains (h ∷ []) t → Contains hs t
one_among hs i h within is t there = among_more hs i h [] (h ∷ []) true within is refl (λ u k. among_none hs [] refl u k) t there

-- the tables that were left, and one that the next call asked
pub let_in_more : (policies : List Policy) (query : Option FilterQuery) (a b c : Reach) (hs : List SsTableHandle) (h : SsTableHandle) (left next : List SsTableHandle) (kept : Bool) → ((t : SsTableHandle) → Contains (h ∷ []) t → Contains hs t) → OnlyReads a b → next ≡ cond kept (left ++ (h ∷ [])) left →
    AsksOf hs a b (λ reads. AreLetIn a.meaning.decode policies query left reads) → AsksOf (h ∷ []) b c (λ reads. kept ≡ true → IsLetIn b.meaning.decode policies query h reads) → AsksOf hs a c (λ reads. AreLetIn a.meaning.decode policies query next reads)
let_in_more policies query a b c hs h left next kept among first are (done, f, (filters, before)) (reads, call, (more, one)) =
    (done ++ reads, call_both a b c done reads f call, (asking_both (h ∷ []) hs done reads among filters more, λ t there. by t kept refl (subst (λ (l : List SsTableHandle). Contains l t) are there)))
  where
    asked : (t : SsTableHandle) → kept ≡ true → Contains (h ∷ []) t → IsLetIn a.meaning.decode policies query t (done ++ reads)
    asked t is (zero, lt, at) =
        subst (λ (u : SsTableHandle). IsLetIn a.meaning.decode policies query u (done ++ reads)) at
        (in_last a.meaning.decode policies query h done reads (subst (λ (m : Meaning). IsLetIn m.decode policies query h reads) first.meaning (one is)))
    asked t is (suc n, lt, at) = absurd (omega (arith, lt))

    by : (t : SsTableHandle) (k : Bool) → kept ≡ k → Contains (cond k (left ++ (h ∷ [])) left) t → IsLetIn a.meaning.decode policies query t (done ++ reads)
    by t true is there = elim (Contains-append_cases left (h ∷ []) t there) [ inl l ↦ in_first a.meaning.decode policies query t done reads (before t l) | inr o ↦ asked t is o ]
    by t false is there = in_first a.meaning.decode policies query t done reads (before t there)

-- ---- several runs

record LayersHere (m : Meaning) (os : Objects) (run : SortedRun) (i : ℕ) (groups : List (List Rows)) : Type 0 where
  pub layers : List Rows
  pub here : drop i groups ≡ layers ∷ drop (i + 1) groups
  pub stored : AreStoredAs m os run.tables.items layers

layers_here : (m : Meaning) (os : Objects) (runs : List SortedRun) (groups : List (List Rows)) (i : ℕ) (run : SortedRun) → AreStoredRuns m os runs groups → i < length runs → run ≡ get_or runs i run → LayersHere m os run i groups
layers_here m os [] groups i run stored within is = absurd (omega (arith, within))
layers_here m os (x ∷ runs) [] i run stored within is = absurd stored
layers_here m os (x ∷ runs) (layers ∷ groups) zero run stored within is = record { layers = layers; here = refl; stored = subst (λ (r : SortedRun). AreStoredAs m os r.tables.items layers) (sym is) stored.0 }
layers_here m os (x ∷ runs) (layers ∷ groups) (suc i) run stored within is =
    let later = layers_here m os runs groups i run stored.1 (omega (arith, within)) is in
    let place : suc (i + 1) ≡ suc i + 1 = omega arith in
    record { layers = later.layers; here = later.here ∙ ap (λ n. later.layers ∷ drop n (layers ∷ groups)) place; stored = later.stored }

-- runs from a place on are to come
abbrev pub RunsSoFar : List Policy → Reach → Reach → BytesRange → List SortedRun → ℕ → List SortedRun → Type 0
RunsSoFar policies a b range runs i left =
    (later : List SortedRun) (groups : List (List Rows)) (os : Objects) → AreStoredRuns a.meaning os runs groups → AreFilteredAs policies a.meaning os (handles_of runs) → AnswersFrom os a b → AreRunsLeft range (drop i runs) (drop i groups) later → AreRunsLeft range runs groups (left ++ later)

pub runs_so_far_none : (policies : List Policy) (a : Reach) (range : BytesRange) (runs left : List SortedRun) → left ≡ [] → RunsSoFar policies a a range runs 0 left
runs_so_far_none policies a range runs left none later groups os stored filtered answers h = subst (λ (l : List SortedRun). AreRunsLeft range runs groups (l ++ later)) (sym none) h

pub runs_so_far_more : (policies : List Policy) (query : Option FilterQuery) (a b c : Reach) (range : BytesRange) (runs : List SortedRun) (i : ℕ) (run one : SortedRun) (left next : List SortedRun) → OnlyReads a b → OnlyReads b c → i < length runs → run ≡ get_or runs i run →
    RunsSoFar policies a b range runs i left → TablesAreLeft policies query b c range run.tables.items one.tables.items → AddsRun one left next → RunsSoFar policies a c range runs (i + 1) next
runs_so_far_more policies query a b c range runs i run one left next first last within is before tables added later groups os stored filtered answers rest = by added
  where
    at : LayersHere a.meaning os run i groups
    at = layers_here a.meaning os runs groups i run stored within is

    kept : AreLeft range run.tables.items at.layers one.tables.items
    kept = tables.others at.layers os (subst (λ (m : Meaning). AreStoredAs m os run.tables.items at.layers) (sym first.meaning) at.stored)
        (filtered_some policies a.meaning b.meaning os (handles_of runs) run.tables.items first.meaning filtered (handle_among runs i run within is)) (from_last os a b c first last answers)

    with_run : (xs : List SortedRun) → AreRunsLeft range (run ∷ drop (i + 1) runs) (at.layers ∷ drop (i + 1) groups) xs → AreRunsLeft range runs groups (left ++ xs)
    with_run xs h =
        before xs groups os stored filtered (from_first os a b c first last answers)
        (subst (λ (rs : List SortedRun). AreRunsLeft range rs (drop i groups) xs) (sym (run_here runs i run within is))
        (subst (λ (gs : List (List Rows)). AreRunsLeft range (run ∷ drop (i + 1) runs) gs xs) (sym at.here) h))

    by : AddsRun one left next → AreRunsLeft range runs groups (next ++ later)
    by (inl (none, same)) = subst (λ (l : List SortedRun). AreRunsLeft range runs groups (l ++ later)) (sym same) (with_run later (inr (subst (AreLeft range run.tables.items at.layers) none kept, rest)))
    by (inr (some, more)) =
        subst (AreRunsLeft range runs groups) (sym (append_assoc left (one ∷ []) later) ∙ ap (λ (l : List SortedRun). l ++ later) (sym more)) (with_run (one ∷ later) (inl (one, later, refl, kept, rest)))

pub runs_so_far_all : (policies : List Policy) (a b : Reach) (range : BytesRange) (runs : List SortedRun) (i : ℕ) (left : List SortedRun) → length runs ≤ i → RunsSoFar policies a b range runs i left →
    (groups : List (List Rows)) (os : Objects) → AreStoredRuns a.meaning os runs groups → AreFilteredAs policies a.meaning os (handles_of runs) → AnswersFrom os a b → AreRunsLeft range runs groups left
runs_so_far_all policies a b range runs i left end before groups os stored filtered answers =
    subst (AreRunsLeft range runs groups) (append-nil left)
    (before [] groups os stored filtered answers (subst (λ (rs : List SortedRun). AreRunsLeft range rs (drop i groups) []) (sym (drop_all i runs end)) (subst (λ (gs : List (List Rows)). AreRunsLeft range [] gs []) (sym (drop_all i groups (as_long runs groups i stored end))) refl)))
  where
    as_long : (rs : List SortedRun) (gs : List (List Rows)) (n : ℕ) → AreStoredRuns a.meaning os rs gs → length rs ≤ n → length gs ≤ n
    as_long [] [] n s le = le
    as_long [] (layers ∷ gs) n s le = absurd s
    as_long (r ∷ rs) [] n s le = absurd s
    as_long (r ∷ rs) (layers ∷ gs) zero s le = absurd (omega (arith, le))
    as_long (r ∷ rs) (layers ∷ gs) (suc n) s le = let rest = as_long rs gs n s.1 (omega (arith, le)) in omega (arith, rest)

abbrev pub RunsChecked : Reach → Reach → List SortedRun → Type 0
RunsChecked a b runs = (groups : List (List Rows)) (os : Objects) → AreStoredRuns a.meaning os runs groups → ChecksFrom os a b

pub runs_checked_more : (a b c : Reach) (runs : List SortedRun) (i : ℕ) (run : SortedRun) → OnlyReads a b → OnlyReads b c → i < length runs → run ≡ get_or runs i run →
    RunsChecked a b runs → TablesChecked b c run.tables.items → RunsChecked a c runs
runs_checked_more a b c runs i run first last within is before tables groups os stored =
    let at = layers_here a.meaning os runs groups i run stored within is in
    checks_both os a b c first last (before groups os stored) (tables at.layers os (subst (λ (m : Meaning). AreStoredAs m os run.tables.items at.layers) (sym first.meaning) at.stored))

pub runs_among : (runs : List SortedRun) (i : ℕ) (run one : SortedRun) (left next : List SortedRun) → i < length runs → run ≡ get_or runs i run → AddsRun one left next → ((h : SsTableHandle) → Contains one.tables.items h → Contains run.tables.items h) →
    ((h : SsTableHandle) → Contains (handles_of left) h → Contains (handles_of runs) h) → (h : SsTableHandle) → Contains (handles_of next) h → Contains (handles_of runs) h
runs_among runs i run one left next within is (inl (none, same)) mine before h there = before h (subst (λ (l : List SortedRun). Contains (handles_of l) h) same there)
runs_among runs i run one left next within is (inr (some, more)) mine before h there =
    by (Contains-append_cases (handles_of left) (one.tables.items ++ []) h (subst (λ (l : List SsTableHandle). Contains l h) (ap handles_of more ∙ flat_map-append (λ (r : SortedRun). r.tables.items) left (one ∷ [])) there))
  where
    by : Contains (handles_of left) h ⊎ Contains (one.tables.items ++ []) h → Contains (handles_of runs) h
    by (inl k) = before h k
    by (inr k) = handle_among runs i run within is h (mine h (subst (λ (l : List SsTableHandle). Contains l h) (append-nil one.tables.items) k))

pub runs_let_in : (policies : List Policy) (query : Option FilterQuery) (a b c : Reach) (hs ks : List SsTableHandle) (one : SortedRun) (left next : List SortedRun) → ((t : SsTableHandle) → Contains hs t → Contains ks t) → OnlyReads a b → AddsRun one left next →
    AsksOf ks a b (λ reads. AreLetIn a.meaning.decode policies query (handles_of left) reads) → AsksOf hs b c (λ reads. AreLetIn b.meaning.decode policies query one.tables.items reads) → AsksOf ks a c (λ reads. AreLetIn a.meaning.decode policies query (handles_of next) reads)
runs_let_in policies query a b c hs ks one left next among first added (done, f, (filters, before)) (reads, call, (more, mine)) =
    (done ++ reads, call_both a b c done reads f call, (asking_both hs ks done reads among filters more, λ t there. by t added there))
  where
    each : (t : SsTableHandle) → Contains (handles_of left) t ⊎ Contains (one.tables.items ++ []) t → IsLetIn a.meaning.decode policies query t (done ++ reads)
    each t (inl k) = in_first a.meaning.decode policies query t done reads (before t k)
    each t (inr k) =
        in_last a.meaning.decode policies query t done reads (subst (λ (m : Meaning). IsLetIn m.decode policies query t reads) first.meaning (mine t (subst (λ (l : List SsTableHandle). Contains l t) (append-nil one.tables.items) k)))

    by : (t : SsTableHandle) → AddsRun one left next → Contains (handles_of next) t → IsLetIn a.meaning.decode policies query t (done ++ reads)
    by t (inl (none, same)) there = each t (inl (subst (λ (l : List SortedRun). Contains (handles_of l) t) same there))
    by t (inr (some, more)) there =
        each t (Contains-append_cases (handles_of left) (one.tables.items ++ []) t (subst (λ (l : List SsTableHandle). Contains l t) (ap handles_of more ∙ flat_map-append (λ (r : SortedRun). r.tables.items) left (one ∷ [])) there))

-- the tables of runs are there
pub tables_there : (m : Meaning) (os : Objects) (runs : List SortedRun) (groups : List (List Rows)) → AreStoredRuns m os runs groups → AreTablesThere m os (handles_of runs)
tables_there m os [] [] s = tt
tables_there m os (run ∷ runs) (layers ∷ groups) s = AllByRecursion_append (λ (h : SsTableHandle). (rows : Rows) × IsStoredAs m os h rows) run.tables.items (handles_of runs) (each run.tables.items layers s.0) (tables_there m os runs groups s.1)
  where
    each : (hs : List SsTableHandle) (ls : List Rows) → AreStoredAs m os hs ls → AreTablesThere m os hs
    each [] [] k = tt
    each (h ∷ hs) (rows ∷ ls) k = ((rows, k.0), each hs ls k.1)
    each [] (rows ∷ ls) k = absurd k
    each (h ∷ hs) [] k = absurd k
tables_there m os [] (layers ∷ groups) s = absurd s
tables_there m os (run ∷ runs) [] s = absurd s
