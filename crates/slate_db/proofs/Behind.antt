-- Reads of tables, behind those of their filters.
use Rattle.std.proofs.Common.{◌≡◌, ◌≢◌, ◌⊎◌, inl, inr, ℕ, zero, suc, ◌+◌, ◌^◌, ◌<◌, Bool, true, false, List, [], ◌∷◌, ◌++◌, length, map, Option, Some, refl, sym, ap, subst, ◌∙◌, arith, append-nil}
use Rattle.std.specs.Prelude.{Contains, Result}
use Rattle.std.specs.List.{AllByRecursion}
use Rattle.std.proofs.lemmas.List.{append_cancel_left}
use Rattle.std.proofs.lemmas.List.Elements.{All-contains, All-from_recursion, Contains-append_left, Contains-append_right}
use Rattle.std.proofs.lemmas.Option.{same_Some}
use Rattle.slate_types.specs.declared.error.SlateDBError.{SlateDBError}
use Rattle.slate_types.specs.declared.filter_policy.FilterQuery.{FilterQuery}
use Rattle.slate_types.specs.declared.types.RowEntry.{RowEntry}
use Rattle.slate_types.specs.declared.types.Ulid.{Ulid}
use Rattle.slate_types.specs.Lawful.{IsLawfulTransform}
use Rattle.slate_types.specs.Outside.{Act, Meaning, Objects, Reach}
use Rattle.slate_types.specs.World.{IsCall, AnswersObjects, Made, Section}
use Rattle.slate_types.proofs.Calls.{call_both, call_none}
use Rattle.slate_types.proofs.Lists.{AllByRecursion_append, AllByRecursion_weaken}
use Rattle.slate_store.specs.Store.{object_at, part_of}
use Rattle.slate_filter.specs.Policy.{Policy, is_denied}
use Rattle.slate_table.specs.declared.info.SsTableHandle.{SsTableHandle}
use Rattle.slate_table.specs.Filtered.{HasFiltersOf, IsAsked}
use Rattle.slate_table.specs.InfoReading.{seen_info}
use Rattle.slate_table.specs.Parts.{Encode, cover_of, filters_kind}
use Rattle.slate_table.specs.Paths.{path_of}
use Rattle.slate_table.specs.Reading.{Reads, SectionRead, of_filters, section_read, whole_answer}
use Rattle.slate_table.specs.Table.{blocks_end, filter_place, filter_section, filters_section}
use Rattle.slate_table.specs.TableEnd.{HasInfo}
use Rattle.slate_table.proofs.ReadCalls.{call_of, call_quiet}
use Rattle.slate_table.proofs.TableFinds.{same_version}
use Rattle.slate_db.specs.Answered.{AnswersAct, AnswersFrom}
use Rattle.slate_db.specs.Asked.{AreBehindFilters, Asks, Covers, Finds, IsBehindFilters, IsFiltersRead, IsLetThrough, IsReadOf, ReadsFiltersFirst}
use Rattle.slate_db.specs.Installs.{AreHandles, Holds, IsHandle, root, tables_of}
use Rattle.slate_db.specs.Model.{CoreModel}
use Rattle.slate_db.specs.Shown.{Asking, LetsThrough, filters_act}
use Rattle.slate_db.proofs.PathsApart.{one_id}
use Rattle.slate_db.proofs.Places.{FiltersStand, asks_some, before_filters, filters_stand, none_denies}

-- ---- lists that are split before an item

tail : {X : Type 0} → List X → List X
tail [] = []
tail (x ∷ xs) = xs

head_or : {X : Type 0} → X → List X → X
head_or d [] = d
head_or d (x ∷ xs) = x

-- it stands in the front or behind it
split_both : {X : Type 0} (xs ys before : List X) (x : X) (after : List X) → xs ++ ys ≡ before ++ (x ∷ after) → ((rest : List X) × (xs ≡ before ++ (x ∷ rest))) ⊎ ((more : List X) × (before ≡ xs ++ more) × (ys ≡ more ++ (x ∷ after)))
unfolding head_or tail
split_both [] ys before x after is = inr (before, refl, is)
split_both (z ∷ xs) ys [] x after is = let first : z ≡ x = ap (head_or z) is in inl (xs, ap (λ (y : _). y ∷ xs) first)
split_both (z ∷ xs) ys (b ∷ before) x after is =
    let first : z ≡ b = ap (head_or z) is in
    by first (split_both xs ys before x after (ap tail is))
  where
    by : z ≡ b → ((rest : List _) × (xs ≡ before ++ (x ∷ rest))) ⊎ ((more : List _) × (before ≡ xs ++ more) × (ys ≡ more ++ (x ∷ after))) →
        ((rest : List _) × (z ∷ xs ≡ b ∷ (before ++ (x ∷ rest)))) ⊎ ((more : List _) × (b ∷ before ≡ z ∷ (xs ++ more)) × (ys ≡ more ++ (x ∷ after)))
    by first (inl (rest, is)) = inl (rest, (λ i. first i ∷ is i))
    by first (inr (more, is, last)) = inr (more, (λ i. sym first i ∷ is i), last)

split_contains : {X : Type 0} (xs before : List X) (x : X) (after : List X) → xs ≡ before ++ (x ∷ after) → Contains xs x
split_contains xs before x after is = subst (λ (l : List _). Contains l x) (sym is) (Contains-append_right before (x ∷ after) x (0, omega arith, refl))

none_split : {A X : Type 0} (before : List X) (x : X) (after : List X) → [] ≡ before ++ (x ∷ after) → A
none_split [] x after is = cc
none_split (b ∷ before) x after is = cc

-- ---- the reads of a call

let_later : (decode : Encode) (asking : Asking) (h : SsTableHandle) (first before : List Act) → IsLetThrough decode asking h before → IsLetThrough decode asking h (first ++ before)
let_later decode asking h first before lets asks = let l = lets asks in (l.0, Contains-append_right first before (filters_act h l.0) l.1, l.2)

behind_later : (decode : Encode) (asking : Asking) (hs : List SsTableHandle) (first before : List Act) (act : Act) → IsBehindFilters decode asking hs before act → IsBehindFilters decode asking hs (first ++ before) act
behind_later decode asking hs first before act (h, among, inl filters) = (h, among, inl filters)
behind_later decode asking hs first before act (h, among, inr (read, lets)) = (h, among, inr (read, let_later decode asking h first before lets))

pub none_behind : (decode : Encode) (asking : Asking) (hs : List SsTableHandle) → AreBehindFilters decode asking hs []
none_behind decode asking hs before act after is = none_split before act after is

both_behind : (decode : Encode) (asking : Asking) (hs : List SsTableHandle) (first last : List Act) → AreBehindFilters decode asking hs first → AreBehindFilters decode asking hs last → AreBehindFilters decode asking hs (first ++ last)
both_behind decode asking hs first last f l before act after is = by (split_both first last before act after is)
  where
    by : ((rest : List Act) × (first ≡ before ++ (act ∷ rest))) ⊎ ((more : List Act) × (before ≡ first ++ more) × (last ≡ more ++ (act ∷ after))) → IsBehindFilters decode asking hs before act
    by (inl (rest, is)) = f before act rest is
    by (inr (more, is, then)) = subst (λ (b : List Act). IsBehindFilters decode asking hs b act) (sym is) (behind_later decode asking hs first more act (l more act after then))

some_behind : (decode : Encode) (asking : Asking) (hs ks : List SsTableHandle) (reads : List Act) → ((h : SsTableHandle) → Contains ks h → Contains hs h) → AreBehindFilters decode asking ks reads → AreBehindFilters decode asking hs reads
some_behind decode asking hs ks reads among b before act after is = let r = b before act after is in (r.0, among r.0 r.1, r.2)

-- ---- of one table

filters_behind : (decode : Encode) (asking : Asking) (h : SsTableHandle) (reads : List Act) → AllByRecursion (IsFiltersRead h) reads → AreBehindFilters decode asking (h ∷ []) reads
filters_behind decode asking h reads each before act after is =
    (h, (0, omega arith, refl), inl (All-contains (IsFiltersRead h) reads act (All-from_recursion _ reads each) (split_contains reads before act after is)))

-- what is read behind filters that let the query through
passed_behind : (decode : Encode) (asking : Asking) (h : SsTableHandle) (first last : List Act) → LetsThrough decode asking h first → AllByRecursion (IsReadOf h) last → AreBehindFilters decode asking (h ∷ []) (first ++ last)
passed_behind decode asking h first last lets each before act after is = by (split_both first last before act after is)
  where
    filters : LetsThrough decode asking h first → AllByRecursion (IsFiltersRead h) first
    filters (inl (unasked, none)) = subst (AllByRecursion (IsFiltersRead h)) (sym none) tt
    filters (inr (asked, (given, one, says))) = subst (AllByRecursion (IsFiltersRead h)) (sym one) ((given, refl), tt)

    through : LetsThrough decode asking h first → (more : List Act) → IsLetThrough decode asking h (first ++ more)
    through (inl (unasked, none)) more asks = let clash : true ≡ false = sym asks ∙ unasked in cc
    through (inr (asked, (given, one, says))) more asks = (given, Contains-append_left first more (filters_act h given) (subst (λ (l : List Act). Contains l (filters_act h given)) (sym one) (0, omega arith, refl)), says)

    by : ((rest : List Act) × (first ≡ before ++ (act ∷ rest))) ⊎ ((more : List Act) × (before ≡ first ++ more) × (last ≡ more ++ (act ∷ after))) → IsBehindFilters decode asking (h ∷ []) before act
    by (inl (rest, is)) = filters_behind decode asking h first (filters lets) before act rest is
    by (inr (more, is, then)) = (
      h,
      (0, omega arith, refl),
      inr (All-contains (IsReadOf h) last act (All-from_recursion _ last each) (split_contains last more act after then), subst (IsLetThrough decode asking h) (sym is) (through lets more)),
    )

-- ---- calls

pub behind_none : (a : Reach) (asking : Asking) (hs : List SsTableHandle) → Made a a (AreBehindFilters a.meaning.decode asking hs)
behind_none a asking hs = ([], call_none a, none_behind a.meaning.decode asking hs)

pub behind_filters : (a b : Reach) (asking : Asking) (h : SsTableHandle) → Made a b (AllByRecursion (IsFiltersRead h)) → Made a b (AreBehindFilters a.meaning.decode asking (h ∷ []))
behind_filters a b asking h (reads, call, each) = (reads, call, filters_behind a.meaning.decode asking h reads each)

pub behind_passed : (a b c : Reach) (asking : Asking) (h : SsTableHandle) → Made a b (LetsThrough a.meaning.decode asking h) → Made b c (AllByRecursion (IsReadOf h)) → Made a c (AreBehindFilters a.meaning.decode asking (h ∷ []))
behind_passed a b c asking h (first, f, lets) (last, l, each) = (first ++ last, call_both a b c first last f l, passed_behind a.meaning.decode asking h first last lets each)

-- some more tables, all of them among the others
pub behind_more : (a b c : Reach) (asking : Asking) (hs ks : List SsTableHandle) → ((h : SsTableHandle) → Contains ks h → Contains hs h) → Made a b (AreBehindFilters a.meaning.decode asking hs) → Made b c (AreBehindFilters b.meaning.decode asking ks) →
    Made a c (AreBehindFilters a.meaning.decode asking hs)
behind_more a b c asking hs ks among (first, f, fs) (last, l, ls) =
    (first ++ last, call_both a b c first last f l, both_behind a.meaning.decode asking hs first last fs (some_behind a.meaning.decode asking hs ks last among (subst (λ (m : Meaning). AreBehindFilters m.decode asking ks last) f.meaning ls)))

-- one more table
pub behind_one : (a b c : Reach) (asking : Asking) (hs : List SsTableHandle) (h : SsTableHandle) → Contains hs h → Made a b (AreBehindFilters a.meaning.decode asking hs) → Made b c (AreBehindFilters b.meaning.decode asking (h ∷ [])) →
    Made a c (AreBehindFilters a.meaning.decode asking hs)
behind_one a b c asking hs h among first last = behind_more a b c asking hs (h ∷ []) only first last
  where
    only : (k : SsTableHandle) → Contains (h ∷ []) k → Contains hs k
    only k (zero, lt, is) = subst (Contains hs) is among
    only k (suc i, lt, is) = absurd (omega (arith, lt))

-- nothing is read behind them
pub made_quiet : (a b c : Reach) (means : List Act → Type 0) → c.objects ≡ b.objects → c.meaning ≡ b.meaning → c.acts ≡ b.acts → Made a b means → Made a c means
made_quiet a b c means objects meaning acts (reads, call, m) = (reads, subst (IsCall a c) (append-nil reads) (call_both a b c reads [] call (call_quiet b c objects meaning acts)), m)

-- ---- the reads of a table, one after another

pub filters_alone : (a c : Reach) (h : SsTableHandle) (means : Option (List ℕ) → Type 0) → c.objects ≡ a.objects → c.meaning ≡ a.meaning → Reads a.objects a.acts c.acts (path_of root h.id.0) h.info.filter_offset h.info.filter_len means → Made a c (AllByRecursion (IsFiltersRead h))
filters_alone a c h means objects meaning r = let call = call_of a c (path_of root h.id.0) h.info.filter_offset h.info.filter_len means objects meaning r in (filters_act h call.0 ∷ [], call.1, ((call.0, refl), tt))

pub read_of : (a c : Reach) (h : SsTableHandle) (start size : ℕ) (means : Option (List ℕ) → Type 0) → c.objects ≡ a.objects → c.meaning ≡ a.meaning → Reads a.objects a.acts c.acts (path_of root h.id.0) start size means → Made a c (AllByRecursion (IsReadOf h))
read_of a c h start size means objects meaning r = let call = call_of a c (path_of root h.id.0) start size means objects meaning r in (Act.read (path_of root h.id.0) start size call.0 ∷ [], call.1, (refl, tt))

-- or none
pub once_of : (a c : Reach) (h : SsTableHandle) (start size : ℕ) → c.objects ≡ a.objects → c.meaning ≡ a.meaning → (c.acts ≡ a.acts) ⊎ Reads a.objects a.acts c.acts (path_of root h.id.0) start size (λ _. Unit {0}) → Made a c (AllByRecursion (IsReadOf h))
once_of a c h start size objects meaning (inl none) = ([], call_quiet a c objects meaning none, tt)
once_of a c h start size objects meaning (inr r) = read_of a c h start size (λ _. Unit {0}) objects meaning r

pub reads_of_both : (a b c : Reach) (h : SsTableHandle) → Made a b (AllByRecursion (IsReadOf h)) → Made b c (AllByRecursion (IsReadOf h)) → Made a c (AllByRecursion (IsReadOf h))
reads_of_both a b c h (first, f, fs) (last, l, ls) = (first ++ last, call_both a b c first last f l, AllByRecursion_append (IsReadOf h) first last fs ls)

-- behind a first one
pub two_of : (a c : Reach) (h : SsTableHandle) (s1 n1 s2 n2 : ℕ) (m1 : Option (List ℕ) → Type 0) (objects : Option Objects) (acts : Option (List Act)) → objects ≡ a.objects → c.objects ≡ objects → c.meaning ≡ a.meaning →
    Reads a.objects a.acts acts (path_of root h.id.0) s1 n1 m1 → (c.acts ≡ acts) ⊎ Reads objects acts c.acts (path_of root h.id.0) s2 n2 (λ _. Unit {0}) → Made a c (AllByRecursion (IsReadOf h))
two_of a c h s1 n1 s2 n2 m1 objects acts first_objects last_objects meaning r last =
    let b : Reach = record a { objects = objects; acts = acts } in
    reads_of_both a b c h (read_of a b h s1 n1 m1 first_objects refl r) (once_of b c h s2 n2 last_objects meaning last)

pub quietly : {N : Type 0} (objects : Option Objects) (before after : Option (List Act)) (path : List ℕ) (start size : ℕ) (means : Option (List ℕ) → Type 0) → Reads objects before after path start size means → N ⊎ Reads objects before after path start size (λ _. Unit {0})
quietly objects before after path start size means r = inr (r.0, r.1, tt)

pub meanings : (a c : Meaning) → c.combine ≡ a.combine → c.encode ≡ a.encode → c.decode ≡ a.decode → c ≡ a
meanings a c combine encode decode = λ i. record { combine = combine i; encode = encode i; decode = decode i }

-- ---- what answered

act_answered : (os : Objects) (act : Act) → AnswersObjects os act → AnswersAct os act
act_answered os (Act.read path start len answer) h = h
act_answered os (Act.put path bytes) h = tt
act_answered os (Act.len path answer) h = tt

all_answered : (os : Objects) (acts : List Act) → AllByRecursion (AnswersObjects os) acts → AllByRecursion (AnswersAct os) acts
all_answered os [] h = tt
all_answered os (act ∷ acts) h = (act_answered os act h.0, all_answered os acts h.1)

pub acts_answered : (os : Objects) (a c : Reach) (reads : List Act) → IsCall a c reads → AnswersFrom os a c → AllByRecursion (AnswersAct os) reads
acts_answered os a c reads call (inl tells) = all_answered os reads (call.answered os tells)
acts_answered os a c reads call (inr known) =
    let same : known.more ≡ reads = append_cancel_left known.known known.more reads (same_Some _ _ (sym known.ended ∙ call.adds known.known known.began)) in
    subst (AllByRecursion (AnswersAct os)) same known.each

-- ---- the tables that the journal names

pub record Named (os : Objects) (ts : List (Ulid × List ℕ)) (h : SsTableHandle) : Type 0 where
  pub table : Ulid × List ℕ
  pub among : Contains ts table
  pub handle : IsHandle table h
  pub there : object_at os (path_of root table.0.0) ≡ Some table.1

pub named_by : (os : Objects) (ts : List (Ulid × List ℕ)) (hs : List SsTableHandle) (h : SsTableHandle) → AreHandles ts hs → Holds os ts → Contains hs h → Named os ts h
named_by os [] [] h are holds (i, lt, is) = absurd (omega (arith, lt))
named_by os (t ∷ ts) (k ∷ hs) h are holds (zero, lt, is) = record { table = t; among = (0, omega arith, refl); handle = subst (IsHandle t) is are.0; there = holds.0 }
named_by os (t ∷ ts) (k ∷ hs) h are holds (suc i, lt, is) =
    let r = named_by os ts hs h are.1 holds.1 (i, omega (arith, lt), is) in
    record { table = r.table; among = (suc r.among.0, (let l = r.among.1 in omega (arith, l)), r.among.2); handle = r.handle; there = r.there }
named_by os [] (k ∷ hs) h are holds among = absurd are
named_by os (t ∷ ts) [] h are holds among = absurd are

-- the table at the path of a handle has the bytes that its info was kept of
pub same_bytes : (os : Objects) (ts : List (Ulid × List ℕ)) (h : SsTableHandle) (t : Ulid × List ℕ) → (n : Named os ts h) → object_at os (path_of root t.0.0) ≡ Some t.1 → path_of root h.id.0 ≡ path_of root t.0.0 → n.table.1 ≡ t.1
same_bytes os ts h t n there path =
    let at : object_at os (path_of root n.table.0.0) ≡ object_at os (path_of root t.0.0) = ap (λ (x : Ulid). object_at os (path_of root x.0)) (sym n.handle.id) ∙ ap (object_at os) path in
    same_Some n.table.1 t.1 (sym n.there ∙ at ∙ there)

path_read : (h : SsTableHandle) (act : Act) (path : List ℕ) (place : Section) → IsReadOf h act → Covers act path place → path_of root h.id.0 ≡ path
path_read h (Act.read at start len answer) path place is covers = sym is ∙ covers.0
path_read h (Act.put at bytes) path place is covers = absurd is
path_read h (Act.len at answer) path place is covers = absurd is

-- what is kept of a table, which its path names
record IsKeptOf (encode : Encode) (table : Ulid × List ℕ) (v : ℕ) (blocks : List (List RowEntry)) (filters : List (List ℕ × List ℕ)) (h : SsTableHandle) : Type 0 where
  pub id : h.id.0 ≡ table.0.0
  pub version : h.format_version ≡ v
  pub stand : FiltersStand encode table.1 v table.0.0 blocks filters (seen_info h.info)

pub filters_first : (encode decode : Encode) → IsLawfulTransform encode decode → (asking : Asking) (os : Objects) (ts : List (Ulid × List ℕ)) (hs : List SsTableHandle) (reads : List Act) → AllByRecursion (λ t. t.0.0 < 2 ^ 128) ts → AreHandles ts hs → Holds os ts →
    AllByRecursion (AnswersAct os) reads → asking.policies ≢ [] → AreBehindFilters decode asking hs reads → ReadsFiltersFirst encode asking ts reads
filters_first encode decode lawful asking os ts hs reads small are holds answered set behind before act after split table among version blocks filters is some place at covers = by (behind before act after split)
  where
    there : object_at os (path_of root table.0.0) ≡ Some table.1
    there = All-contains (λ t. object_at os (path_of root t.0.0) ≡ Some t.1) ts table (All-from_recursion _ ts holds) among

    kept_of : (h : SsTableHandle) → Contains hs h → path_of root h.id.0 ≡ path_of root table.0.0 → IsKeptOf encode table version blocks filters h
    kept_of h known path =
        let n = named_by os ts hs h are holds known in
        let same = same_bytes os ts h table n there path in
        let below : n.table.0.0 < 2 ^ 128 = All-contains (λ (t : Ulid × List ℕ). t.0.0 < 2 ^ 128) ts n.table (All-from_recursion _ ts small) n.among in
        let id : h.id.0 ≡ table.0.0 = one_id h.id.0 table.0.0 (subst (λ (u : Ulid). u.0 < 2 ^ 128) (sym n.handle.id) below) is.named path in
        let has : HasInfo table.1 h.format_version table.0.0 (seen_info h.info) =
        subst (λ (b : List ℕ). HasInfo b h.format_version table.0.0 (seen_info h.info)) same (subst (λ (m : ℕ). HasInfo n.table.1 h.format_version m (seen_info h.info)) id n.handle.info) in
        record {
          id = id;
          version = same_version encode table.1 h.format_version table.0.0 (seen_info h.info) version blocks filters is has;
          stand = filters_stand encode table.1 h.format_version table.0.0 (seen_info h.info) version blocks filters is has;
        }

    -- a read of filters holds no block
    apart : (h : SsTableHandle) (given : Option (List ℕ)) → Contains hs h → Covers (filters_act h given) (path_of root table.0.0) place → ⊥
    apart h given known c =
        let stand = (kept_of h known c.0).stand in
        let low = c.1.from in
        let ends = before_filters encode version table.0.0 blocks place at in
        let start : h.info.filter_offset ≡ blocks_end encode version table.0.0 blocks = stand.at in
        omega (arith, low, ends.0, ends.1, start)

    by : IsBehindFilters decode asking hs before act → ((asked : Act) × Contains before asked × Covers asked (path_of root table.0.0) (filter_place encode version table.0.0 blocks filters)) × (is_denied asking.policies filters asking.query ≡ false)
    by (h, known, inl (given, is_filters)) = absurd (apart h given known (subst (λ (x : Act). Covers x (path_of root table.0.0) place) is_filters covers))
    by (h, known, inr (read, lets)) =
        let path = path_read h act (path_of root table.0.0) place read covers in
        let kept = kept_of h known path in
        let stand = kept.stand in
        let from = h.info.filter_offset in
        let len = h.info.filter_len in
        let cover = cover_of version table.0.0 filters_kind from in
        let through = lets (asks_some cover encode asking.policies filters len set some stand.len) in
        let act_there : Contains reads (filters_act h through.0) = subst (λ (l : List Act). Contains l (filters_act h through.0)) (sym split) (Contains-append_left before (act ∷ after) (filters_act h through.0) through.1) in
        let by_objects : through.0 ≡ part_of (object_at os (path_of root h.id.0)) from len = All-contains (AnswersAct os) reads (filters_act h through.0) (All-from_recursion _ reads answered) act_there in
        let given : through.0 ≡ part_of (Some table.1) from len = by_objects ∙ ap (λ (o : Option (List ℕ)). part_of o from len) (ap (object_at os) path ∙ there) in
        let start : from ≡ blocks_end encode version table.0.0 blocks = stand.at in
        let size : len ≡ length (filters_section encode version table.0.0 blocks filters) =
        stand.len ∙ ap (λ (n : ℕ). length (filter_section (cover_of version table.0.0 filters_kind n) encode filters)) start in
        let section : of_filters h (whole_answer len through.0) ≡ section_read version table.0.0 filters_kind from (whole_answer len (part_of (Some table.1) from len)) =
        λ i. section_read (kept.version i) (kept.id i) filters_kind from (whole_answer len (given i)) in (
          (
            filters_act h through.0,
            through.1,
            (path, record { bytes = filter_section cover encode filters; returned = given ∙ stand.answer; from = omega (arith, start); upto = omega (arith, start, size) }),
          ),
          none_denies encode decode lawful asking.policies asking.query table.1 version table.0.0 blocks filters (seen_info h.info) is stand some
              (subst (λ (s : SectionRead). IsAsked decode asking.policies asking.query s true) section through.2),
        )

-- ---- of the core

pub asks_by : (asking : Asking) (a b : Reach) (c : CoreModel) (hs : List SsTableHandle) → AreHandles (tables_of c.events) hs → Made a b (AreBehindFilters a.meaning.decode asking hs) → Asks asking a b c
asks_by asking a b c hs are (reads, call, behind) is set = (
  reads,
  call,
  filters_first a.meaning.encode a.meaning.decode is.readable.lawful.transformer asking is.os (tables_of c.events) hs reads
      (AllByRecursion_weaken (λ (t : Ulid × List ℕ). HasFiltersOf a.meaning.encode asking.policies t.0.0 t.1) (λ (t : Ulid × List ℕ). t.0.0 < 2 ^ 128) (λ t has. has.is.named) (tables_of c.events) is.readable.filtered) are is.readable.holds (acts_answered is.os a b reads call is.answers) set behind,
)

-- where nothing is read
pub asks_none : (asking : Asking) (a b : Reach) (c : CoreModel) → IsCall a b [] → Asks asking a b c
asks_none asking a b c call is set = ([], call, λ before act after split table among version blocks filters t some place at covers. none_split before act after split)

pub asks_so : {Q : Type 0} (meaning : Q → Policy) (xs ys : List Q) (q r : FilterQuery) (a b : Reach) (c : CoreModel) → xs ≡ ys → q ≡ r → Asks (record { policies = map meaning xs; query = q }) a b c → Asks (record { policies = map meaning ys; query = r }) a b c
asks_so {Q} meaning xs ys q r a b c same is h =
    subst (λ (zs : List Q). Asks (record { policies = map meaning zs; query = r }) a b c) same (subst (λ (s : FilterQuery). Asks (record { policies = map meaning xs; query = s }) a b c) is h)

pub finds_so : {Q A : Type 0} (meaning : Q → Policy) (xs ys : List Q) (q r : FilterQuery) (k : List ℕ) (needs : Bool) (a b : Reach) (c : CoreModel) (result : Result A SlateDBError) → xs ≡ ys → q ≡ r →
    Finds (record { policies = map meaning xs; query = q }) k needs a b c result → Finds (record { policies = map meaning ys; query = r }) k needs a b c result
finds_so {Q} meaning xs ys q r k needs a b c result same is h =
    subst (λ (zs : List Q). Finds (record { policies = map meaning zs; query = r }) k needs a b c result) same (subst (λ (s : FilterQuery). Finds (record { policies = map meaning xs; query = s }) k needs a b c result) is h)
