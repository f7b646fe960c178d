-- What the filters of a table say to a get.
use Rattle.std.proofs.Common.{◌≡◌, ℕ, zero, suc, ◌<◌, ◌⊎◌, inl, inr, Bool, true, false, List, [], ◌∷◌, map, Option, Some, Result, Ok, Err, refl, sym, ap, subst, ◌∙◌, arith}
use Rattle.std.specs.Prelude.{Contains, IfErr, IfOk, OnErr}
use Rattle.std.specs.List.{AllByRecursion}
use Rattle.std.proofs.lemmas.Bool.Decides.{nat_tests}
use Rattle.std.proofs.lemmas.Option.{same_Some}
use Rattle.std.proofs.lemmas.List.Elements.{All-contains, All-from_recursion}
use Rattle.slate_types.specs.declared.error.SlateDBError.{SlateDBError}
use Rattle.slate_types.specs.declared.filter_policy.FilterQuery.{FilterQuery}
use Rattle.slate_types.specs.declared.filter_policy.PrefixTarget.{PrefixTarget}
use Rattle.slate_types.specs.declared.filter_policy.PrefixTarget.TheVariants.{Point}
use Rattle.slate_types.specs.declared.types.Ulid.{Ulid}
use Rattle.slate_types.specs.Outside.{Act, Meaning, Objects, IsFault, Reach}
use Rattle.slate_types.specs.Rows.{of_key}
use Rattle.slate_types.specs.World.{Made}
use Rattle.slate_store.specs.Store.{object_at, part_of}
use Rattle.slate_filter.specs.Policy.{Policy}
use Rattle.slate_table.specs.declared.info.SsTableHandle.{SsTableHandle}
use Rattle.slate_table.specs.Filtered.{asks_filters, AreLawful, HasFiltersOf, IsAsked, RefusesQuery, point_query}
use Rattle.slate_table.specs.InfoReading.{seen_info}
use Rattle.slate_table.specs.Parts.{Encode}
use Rattle.slate_table.specs.Paths.{path_of}
use Rattle.slate_table.specs.Reading.{Reads, IsStoreFault, FailsDecoding, whole_answer, of_filters}
use Rattle.slate_table.specs.SectionReading.{IsTransformFault}
use Rattle.slate_table.proofs.FilteredLaws.{denied_lack}
use Rattle.slate_table.proofs.ReadCalls.{call_of, call_quiet}
use Rattle.slate_db.specs.Answered.{AddsReads, AnswersFrom}
use Rattle.slate_db.specs.Asked.{IsFiltersRead}
use Rattle.slate_db.specs.Installs.{AreHandles, Holds, root}
use Rattle.slate_db.specs.Lookup.{AreFilteredAs, IsFilteredAs, IsStoredAs}
use Rattle.slate_db.specs.Model.{CoreModel, Rows}
use Rattle.slate_db.specs.Readable.{AreFiltered, IsRead}
use Rattle.slate_db.specs.Shown.{Asking, IsUnreadable, LetsThrough, RefusesFiltersRead, filters_act}
use Rattle.slate_db.proofs.Answered.{Knows, adds_once, adds_read, adds_same}
use Rattle.slate_db.proofs.Behind.{filters_alone}
use Rattle.slate_db.proofs.Causes.{read_fault, store_fault, transform_fault}
use Rattle.slate_db.proofs.Damaged.{filters_unreadable}
use Rattle.slate_db.proofs.Tables.{answered_by, read_part}

-- ---- what is asked of a table. r: what the store's tables answer

abbrev pub Asks : Asking → SsTableHandle → Bool
Asks asking h = asks_filters asking.policies h.info.filter_len

abbrev pub FiltersRead : Asking → SsTableHandle → Reach → Reach → (Option (List ℕ) → Type 0) → Type 0
FiltersRead asking h a c means = Reads a.objects a.acts c.acts (path_of root h.id.0) h.info.filter_offset h.info.filter_len means

-- why a call doesn't say
abbrev pub WhyNot : Asking → SsTableHandle → Reach → Reach → SlateDBError → Type 0
WhyNot asking h a c e =
    IsStoreFault a.faults.store c.faults.store e
    ⊎ FiltersRead asking h a c (λ answer. FailsDecoding a.faults.transformer c.faults.transformer (of_filters h answer) e)
    ⊎ FiltersRead asking h a c (λ answer. RefusesQuery a.meaning.decode asking.policies asking.query (of_filters h answer) e)

-- what is known of the call that asks
pub record IsAsking (asking : Asking) (h : SsTableHandle) (a c : Reach) (r : Result Bool SlateDBError) : Type 0 where
  pub objects : c.objects ≡ a.objects
  pub combine : c.meaning.combine ≡ a.meaning.combine
  pub encode : c.meaning.encode ≡ a.meaning.encode
  pub decode : c.meaning.decode ≡ a.meaning.decode
  pub none : Asks asking h ≡ false → (r ≡ Ok true) × (c.acts ≡ a.acts)
  pub asked : Asks asking h ≡ true → IfOk r (λ passes. FiltersRead asking h a c (λ answer. IsAsked a.meaning.decode asking.policies asking.query (of_filters h answer) passes))
  pub cause : IfErr r (WhyNot asking h a c)
  pub once : OnErr r ((c.acts ≡ a.acts) ⊎ FiltersRead asking h a c (λ _. Unit {0}))

same_parts : (asking : Asking) (h : SsTableHandle) (a c : Reach) (r : Result Bool SlateDBError) → IsAsking asking h a c r → c.meaning ≡ a.meaning
same_parts asking h a c r k = λ i. record { combine = k.combine i; encode = k.encode i; decode = k.decode i }

-- asks: whether they are read
pub asked_adds : (objects : Option Objects) (before after : Option (List Act)) (path : List ℕ) (start size : ℕ) (means : Bool → Option (List ℕ) → Type 0) (asks : Bool) (r : Result Bool SlateDBError) → (asks ≡ false → (r ≡ Ok true) × (after ≡ before)) →
    (asks ≡ true → IfOk r (λ passes. Reads objects before after path start size (means passes))) → OnErr r ((after ≡ before) ⊎ Reads objects before after path start size (λ _. Unit {0})) → AddsReads before after
asked_adds objects before after path start size means asks (Err e) none asked once = adds_once objects before after path start size once
asked_adds objects before after path start size means true (Ok passes) none asked once = adds_read objects before after path start size (means passes) (asked refl)
asked_adds objects before after path start size means false (Ok passes) none asked once = adds_same before after (none refl).1

-- nothing but its filters is read
pub asked_filters : (asking : Asking) (h : SsTableHandle) (a c : Reach) (r : Result Bool SlateDBError) → IsAsking asking h a c r → IfOk r (λ passes. Made a c (λ reads. AllByRecursion (IsFiltersRead h) reads × (passes ≡ true → LetsThrough a.meaning.decode asking h reads)))
asked_filters asking h a c (Err e) k = tt
asked_filters asking h a c (Ok passes) k = by (Asks asking h) refl
  where
    by : (t : Bool) → Asks asking h ≡ t → Made a c (λ reads. AllByRecursion (IsFiltersRead h) reads × (passes ≡ true → LetsThrough a.meaning.decode asking h reads))
    by true is =
        let call = call_of a c (path_of root h.id.0) h.info.filter_offset h.info.filter_len (λ answer. IsAsked a.meaning.decode asking.policies asking.query (of_filters h answer) passes) k.objects (same_parts asking h a c _ k) (k.asked is) in (
          filters_act h call.0 ∷ [],
          call.1,
          (((call.0, refl), tt), λ yes. inr (is, (call.0, refl, subst (λ (b : Bool). IsAsked a.meaning.decode asking.policies asking.query (of_filters h (whole_answer h.info.filter_len call.0)) b) yes call.2))),
        )
    by false is = ([], call_quiet a c k.objects (same_parts asking h a c _ k) (k.none is).1, (tt, λ yes. inl (is, refl)))

pub asked_passes : (asking : Asking) (h : SsTableHandle) (a c : Reach) (r : Result Bool SlateDBError) → IsAsking asking h a c r → IfOk r (λ passes. Made a c (λ reads. passes ≡ true → LetsThrough a.meaning.decode asking h reads))
asked_passes asking h a c (Err e) k = tt
asked_passes asking h a c (Ok passes) k = let made = asked_filters asking h a c (Ok passes) k in (made.0, made.1, made.2.1)

pub asks_err : (asking : Asking) (h : SsTableHandle) (a c : Reach) (e : SlateDBError) → IsAsking asking h a c (Err e) → Asks asking h ≡ true
asks_err asking h a c e k = by (Asks asking h) refl
  where
    by : (t : Bool) → Asks asking h ≡ t → t ≡ true
    by true is = refl
    by false is = let clash : Err e ≡ Ok true = (k.none is).0 in absurd cc

pub asked_cause : (asking : Asking) (h : SsTableHandle) (a c : Reach) (r : Result Bool SlateDBError) → IsAsking asking h a c r →
    IfErr r (λ e. IsFault a c e ⊎ Made a c (λ reads. IsUnreadable e × RefusesFiltersRead a.meaning.decode asking h reads e))
asked_cause asking h a c (Ok passes) k = tt
asked_cause asking h a c (Err e) k = by k.cause
  where
    by : WhyNot asking h a c e → IsFault a c e ⊎ Made a c (λ reads. IsUnreadable e × RefusesFiltersRead a.meaning.decode asking h reads e)
    by (inl f) = inl (store_fault a.faults c.faults e f)
    by (inr (inl f)) = inl (transform_fault a.faults c.faults e (inr (f.2.0, f.2.1)))
    by (inr (inr r)) =
        let call = call_of a c (path_of root h.id.0) h.info.filter_offset h.info.filter_len (λ answer. RefusesQuery a.meaning.decode asking.policies asking.query (of_filters h answer) e) k.objects (same_parts asking h a c _ k) r in
        let kind = filters_unreadable a.meaning.decode asking.policies asking.query (of_filters h (whole_answer h.info.filter_len call.0)) e call.2 in
        inr (filters_act h call.0 ∷ [], call.1, (kind, (asks_err asking h a c e k, (call.0, refl, call.2))))

-- nothing else is read
pub asked_alone : (asking : Asking) (h : SsTableHandle) (a c : Reach) (r : Result Bool SlateDBError) → IsAsking asking h a c r → Made a c (AllByRecursion (IsFiltersRead h))
asked_alone asking h a c (Err e) k = by k.once
  where
    by : (c.acts ≡ a.acts) ⊎ FiltersRead asking h a c (λ _. Unit {0}) → Made a c (AllByRecursion (IsFiltersRead h))
    by (inl none) = ([], call_quiet a c k.objects (same_parts asking h a c _ k) none, tt)
    by (inr read) = filters_alone a c h (λ _. Unit {0}) k.objects (same_parts asking h a c _ k) read
asked_alone asking h a c (Ok passes) k = by (Asks asking h) refl
  where
    by : (t : Bool) → Asks asking h ≡ t → Made a c (AllByRecursion (IsFiltersRead h))
    by true is = filters_alone a c h (λ answer. IsAsked a.meaning.decode asking.policies asking.query (of_filters h answer) passes) k.objects (same_parts asking h a c _ k) (k.asked is)
    by false is = ([], call_quiet a c k.objects (same_parts asking h a c _ k) (k.none is).1, tt)

-- ---- where the objects that answer hold the table, with its filters

pub asks_some : (policies : List Policy) (len : ℕ) → asks_filters policies len ≡ true → 0 < len
asks_some [] len h = cc
asks_some (p ∷ ps) len h = grind (arith, nat_tests, h)

for_point : (query : FilterQuery) (k : List ℕ) → query.target ≡ Point k → query ≡ point_query k query.context
for_point query k is = λ i. record { target = is i; context = query.context }

pub table_there : (m : Meaning) (os : Objects) (h : SsTableHandle) (rows : Rows) → (stored : IsStoredAs m os h rows) → object_at os (path_of root h.id.0) ≡ Some stored.bytes
table_there m os h rows stored = subst (λ (o : Objects). object_at o (path_of root h.id.0) ≡ Some stored.bytes) (sym (same_Some os stored.os stored.told)) stored.there

-- what the law says of such a table
record Unhurt (asking : Asking) (m : Meaning) (os : Objects) (h : SsTableHandle) (rows : Rows) (stored : IsStoredAs m os h rows) (k : List ℕ) : Type 0 where
  pub denied : IsAsked m.decode asking.policies asking.query (of_filters h (part_of (Some stored.bytes) h.info.filter_offset h.info.filter_len)) false → of_key k rows ≡ []
  pub refused : (e : SlateDBError) → RefusesQuery m.decode asking.policies asking.query (of_filters h (part_of (Some stored.bytes) h.info.filter_offset h.info.filter_len)) e → ⊥

unhurt : (asking : Asking) (m : Meaning) (os : Objects) (h : SsTableHandle) (rows : Rows) (k : List ℕ) → (stored : IsStoredAs m os h rows) → asking.query.target ≡ Point k → AreFilteredAs asking.policies m os (h ∷ []) →
    Asks asking h ≡ true → Unhurt asking m os h rows stored k
unhurt asking m os h rows k stored target filtered asks =
    let query : asking.query ≡ point_query k asking.query.context = for_point asking.query k target in
    let section = of_filters h (part_of (Some stored.bytes) h.info.filter_offset h.info.filter_len) in
    let laws = denied_lack m.encode m.decode stored.lawful asking.policies filtered.0 stored.bytes h.format_version h.id.0 (seen_info h.info) rows stored.each stored.is (filtered.1.0 stored.bytes (table_there m os h rows stored)) k asking.query.context
    (asks_some asking.policies h.info.filter_len asks) in
    record {
      denied = λ d. laws.0 (subst (λ (q : FilterQuery). IsAsked m.decode asking.policies q section false) query d);
      refused = λ e r. laws.1 e (subst (λ (q : FilterQuery). RefusesQuery m.decode asking.policies q section e) query r);
    }

pub asked_denied : (asking : Asking) (h : SsTableHandle) (a c : Reach) (r : Result Bool SlateDBError) (k : List ℕ) (rows : Rows) (os : Objects) → IsAsking asking h a c r → asking.query.target ≡ Point k →
    IsStoredAs a.meaning os h rows → AreFilteredAs asking.policies a.meaning os (h ∷ []) → AnswersFrom os a c → IfOk r (λ passes. passes ≡ false → of_key k rows ≡ [])
asked_denied asking h a c (Err e) k rows os known target stored filtered answers = tt
asked_denied asking h a c (Ok true) k rows os known target stored filtered answers = λ no. cc
asked_denied asking h a c (Ok false) k rows os known target stored filtered answers = λ no. by (Asks asking h) refl
  where
    by : (t : Bool) → Asks asking h ≡ t → of_key k rows ≡ []
    by true is = (unhurt asking a.meaning os h rows k stored target filtered is).denied
        (read_part a.objects a.acts c.acts (path_of root h.id.0) h.info.filter_offset h.info.filter_len (λ answer. IsAsked a.meaning.decode asking.policies asking.query (of_filters h answer) false) stored.bytes (answered_by stored answers) (known.asked is))
    by false is = let clash : Ok false ≡ Ok true = (known.none is).0 in absurd cc

pub asked_whole : (asking : Asking) (h : SsTableHandle) (a c : Reach) (r : Result Bool SlateDBError) (k : List ℕ) (rows : Rows) (os : Objects) → IsAsking asking h a c r → asking.query.target ≡ Point k →
    IsStoredAs a.meaning os h rows → AreFilteredAs asking.policies a.meaning os (h ∷ []) → AnswersFrom os a c → IfErr r (IsFault a c)
asked_whole asking h a c (Ok passes) k rows os known target stored filtered answers = tt
asked_whole asking h a c (Err e) k rows os known target stored filtered answers = by known.cause
  where
    by : WhyNot asking h a c e → IsFault a c e
    by (inl f) = store_fault a.faults c.faults e f
    by (inr (inl f)) = transform_fault a.faults c.faults e (inr (f.2.0, f.2.1))
    by (inr (inr r)) = absurd ((unhurt asking a.meaning os h rows k stored target filtered (asks_err asking h a c e known)).refused e
        (read_part a.objects a.acts c.acts (path_of root h.id.0) h.info.filter_offset h.info.filter_len (λ answer. RefusesQuery a.meaning.decode asking.policies asking.query (of_filters h answer) e) stored.bytes (answered_by stored answers) r))

-- ---- of several tables

-- the same table behind a call that changed nothing
pub stored_still : (m m2 : Meaning) (os : Objects) (h : SsTableHandle) (rows : Rows) → m2 ≡ m → IsStoredAs m os h rows → IsStoredAs m2 os h rows
stored_still m m2 os h rows same stored = subst (λ (x : Meaning). IsStoredAs x os h rows) (sym same) stored

same_filtered : (policies : List Policy) (m m2 : Meaning) (os : Objects) (hs : List SsTableHandle) → m2 ≡ m → AreFilteredAs policies m os hs → AreFilteredAs policies m2 os hs
same_filtered policies m m2 os hs same are = subst (λ (x : Meaning). AreFilteredAs policies x os hs) (sym same) are

filtered_of : (policies : List Policy) (m : Meaning) (os : Objects) (hs : List SsTableHandle) (h : SsTableHandle) → AreFilteredAs policies m os hs → Contains hs h → IsFilteredAs policies m os h
filtered_of policies m os hs h are among = All-contains (IsFilteredAs policies m os) hs h (All-from_recursion _ hs are.1) among

-- one of them
pub filtered_one : (policies : List Policy) (m m2 : Meaning) (os : Objects) (hs : List SsTableHandle) (h : SsTableHandle) → m2 ≡ m → AreFilteredAs policies m os hs → Contains hs h → AreFilteredAs policies m2 os (h ∷ [])
filtered_one policies m m2 os hs h same are among = same_filtered policies m m2 os (h ∷ []) same (are.0, (filtered_of policies m os hs h are among, tt))

-- and some of them
pub filtered_some : (policies : List Policy) (m m2 : Meaning) (os : Objects) (hs ks : List SsTableHandle) → m2 ≡ m → AreFilteredAs policies m os hs → ((h : SsTableHandle) → Contains ks h → Contains hs h) → AreFilteredAs policies m2 os ks
filtered_some policies m m2 os hs ks same are among = same_filtered policies m m2 os ks same (are.0, by ks among)
  where
    by : (xs : List SsTableHandle) → ((h : SsTableHandle) → Contains xs h → Contains hs h) → AllByRecursion (IsFilteredAs policies m os) xs
    by [] all = tt
    by (x ∷ xs) all = (filtered_of policies m os hs x are (all x (0, omega arith, refl)), by xs (λ h there. all h (suc there.0, (let lt = there.1 in omega (arith, lt)), there.2)))

-- the tables that the journal names
pub filtered_known : (policies : List Policy) (m : Meaning) (os : Objects) (ts : List (Ulid × List ℕ)) (hs : List SsTableHandle) → AreLawful policies → AreFiltered m.encode policies ts → AreHandles ts hs → Holds os ts → AreFilteredAs policies m os hs
filtered_known policies m os ts hs lawful filtered handles holds = (lawful, by ts hs filtered handles holds)
  where
    one : (u : Ulid × List ℕ) (k : SsTableHandle) → HasFiltersOf m.encode policies u.0.0 u.1 → k.id ≡ u.0 → object_at os (path_of root u.0.0) ≡ Some u.1 → IsFilteredAs policies m os k
    one u k has same here bytes there =
        let path : object_at os (path_of root k.id.0) ≡ Some u.1 = ap (λ (x : Ulid). object_at os (path_of root x.0)) same ∙ here in
        subst (HasFiltersOf m.encode policies k.id.0) (same_Some u.1 bytes (sym path ∙ there)) (subst (λ (x : Ulid). HasFiltersOf m.encode policies x.0 u.1) (sym same) has)

    by : (us : List (Ulid × List ℕ)) (ks : List SsTableHandle) → AreFiltered m.encode policies us → AreHandles us ks → Holds os us → AllByRecursion (IsFilteredAs policies m os) ks
    by [] [] f a h = tt
    by [] (k ∷ ks) f a h = absurd a
    by (u ∷ us) [] f a h = absurd a
    by (u ∷ us) (k ∷ ks) f a h = (one u k f.0 a.0.id h.0, by us ks f.1 a.1 h.1)

-- ---- a read by equal policies, for an equal query

abbrev pub asking_of : List Policy → FilterQuery → Asking
asking_of policies query = record { policies = policies; query = query }

pub asked_so : {P A : Type 0} (meaning : P → Policy) (xs ys : List P) (q r : FilterQuery) (upto : ℕ) (before after : Reach) (c : CoreModel) (means : A → Type 0) (result : Result A SlateDBError) → xs ≡ ys → q ≡ r →
    IsRead (asking_of (map meaning xs) q) upto before after c means result → IsRead (asking_of (map meaning ys) r) upto before after c means result
asked_so {P = P} meaning xs ys q r upto before after c means result same is h =
    subst (λ (zs : List P). IsRead (asking_of (map meaning zs) r) upto before after c means result) same (subst (λ (s : FilterQuery). IsRead (asking_of (map meaning xs) s) upto before after c means result) is h)
