-- What the lines of a run have done so far, each its part.
--     Includes all some      each of some tables is among all
--     StandApart all      at one path there is one of the tables
--     IsReadSoFar t ls known acts tables      of the lines each has its part of the acts; tables: those that the journal names, which more may join
--     read_none, read_on, read_whole      at the beginning, one line more, and at the end
--     lines_end      all lines were given at the end of the script
use Rattle.std.proofs.Common.{◌≡◌, ℕ, ◌+◌, ◌-◌, ◌^◌, ◌≤◌, ◌<◌, ◌⊎◌, inl, inr, Bool, true, false, cond, List, [], ◌∷◌, ◌++◌, append-nil, flat_map, length, take, Option, Some, None, Ok, refl, sym, ap, subst, ◌∙◌, arith, append_assoc}
use Rattle.std.specs.Prelude.{Contains, bytes_eq}
use Rattle.std.specs.List.{AllByRecursion}
use Rattle.std.proofs.lemmas.Grind.{flat_map-append}
use Rattle.std.proofs.lemmas.List.{append_cancel_left}
use Rattle.std.proofs.lemmas.List.Elements.{All-contains, All-from_recursion, Contains-append_left}
use Rattle.std.proofs.lemmas.Option.{same_Some}
use Rattle.std.proofs.lemmas.Slice.Eq.{bytes_eq-Decides}
use Rattle.slate_types.specs.declared.types.Ulid.{Ulid}
use Rattle.slate_types.specs.Outside.{Act, AddsReads, Objects, Meaning, PutsNothing, Reach, object_at, part_of}
use Rattle.slate_types.specs.World.{AnswersObjects, IsCall, Made, Section}
use Rattle.slate_types.proofs.Lists.{AllByRecursion_behind}
use Rattle.slate_store.specs.Lines.{lines_of, script_limit, IsEnd, LinesModel}
use Rattle.slate_table.specs.Parts.{Encode}
use Rattle.slate_table.specs.Paths.{path_of}
use Rattle.slate_mem.specs.KeyTests.{Segments}
use Rattle.slate_txn.specs.declared.line.Line.{Line}
use Rattle.slate_txn.specs.declared.line.Line.TheVariants as lines
use Rattle.slate_txn.specs.Settings.{settings_of}
use Rattle.slate_txn.specs.State.{Rules, State, opening}
use Rattle.slate_txn.specs.Step.{Reader}
use Rattle.slate_db.specs.Answered.{AddsActs}
use Rattle.slate_db.specs.Asked.{Covers, ReadsFiltersFirst, ReadsKey, needs_tables}
use Rattle.slate_db.specs.Flushed.{Layout}
use Rattle.slate_db.specs.Installs.{root, runs_of, tables_of, Holds, HoldsTables}
use Rattle.slate_db.specs.Load.{weight}
use Rattle.slate_db.specs.Log.{ends_of}
use Rattle.slate_db.specs.Meaning.{rules_of}
use Rattle.slate_db.specs.Model.{CoreModel}
use Rattle.slate_db.specs.Readable.{IsAnswered}
use Rattle.slate_db.specs.Settled.{HasTables, IsSettledIn}
use Rattle.slate_db.specs.Shown.{Asking}
use Rattle.slate_db.proofs.PathsApart.{IsEarlier, earlier_all, one_id}
use Rattle.slate_db.proofs.RunsOf.{tables_are}
use Rattle.slate_db.proofs.Settled.{settled_answered}
use Rattle.slate_language.specs.declared.tally.Tally.{Tally}
use Rattle.slate_language.specs.Replies.{after_lines, meanings}
use Rattle.slate_script.specs.Calls.Line.{AddsNothing, AsksAt, AsksLine, IsGetAsked, IsPutAct, OnlyPuts}
use Rattle.slate_script.specs.LineReads.{HasAsked, IsReadInParts, ReadsByLine, ReadsFor, ReadsOf}
use Rattle.slate_script.specs.Run.{AreLines}
use Rattle.slate_script.specs.Session.{HasTablesAlone, SessionModel, StandsFor}
use Rattle.slate_script.specs.StoredState.{IsObjectOf}
use Rattle.slate_script.specs.Terms.{Terms, rules_by}
use Rattle.slate_script.specs.Told.{PutsTables, asking_for}
use Rattle.slate_script.proofs.Answered.{state_append}
use Rattle.slate_script.proofs.RunEnds.{end_there}
use Rattle.slate_script.proofs.Taken.{IsAt, given_are}

abbrev pub Includes : List (Ulid × List ℕ) → List (Ulid × List ℕ) → Type 0
Includes all some = (t : Ulid × List ℕ) → Contains some t → Contains all t

abbrev pub StandApart : List (Ulid × List ℕ) → Type 0
StandApart all = (t u : Ulid × List ℕ) → Contains all t → Contains all u → path_of root t.0.0 ≡ path_of root u.0.0 → t ≡ u

pub record IsReadSoFar (t : Terms) (ls : List (List ℕ)) (known : List Act) (now : Option (List Act)) (tables : List (Ulid × List ℕ)) : Type 0 where
  pub acts : List Act
  pub told : now ≡ Some (known ++ acts)
  pub parts : List (List Act)
  pub whole : acts ≡ flat_map (λ part. part) parts
  pub each : (all : List (Ulid × List ℕ)) → Includes all tables → StandApart all → ReadsByLine t all opening ls parts

-- ---- acts that were added

-- what is told behind the known acts, told in two ways
same_acts : (known some acts : List Act) (after : Option (List Act)) → after ≡ Some (known ++ some) → after ≡ Some (known ++ acts) → some ≡ acts
same_acts known some acts after is ended = append_cancel_left known some acts (same_Some _ _ (sym is ∙ ended))

-- what a call read is all that was told of it
told_reads : (known acts reads : List Act) (now after : Reach) → now.acts ≡ Some known → after.acts ≡ Some (known ++ acts) → IsCall now after reads → reads ≡ acts
told_reads known acts reads now after began ended call = same_acts known reads acts after.acts (call.adds known began) ended

told_alone : (known acts : List Act) (before after : Option (List Act)) → before ≡ Some known → after ≡ Some (known ++ acts) → AddsReads before after → AllByRecursion PutsNothing acts
told_alone known acts before after began ended adds = let p = adds known began in subst (AllByRecursion PutsNothing) (same_acts known p.0 acts after p.1 ended) p.2

told_nothing : (known acts : List Act) (before after : Option (List Act)) → before ≡ Some known → after ≡ Some (known ++ acts) → AddsNothing before after → acts ≡ []
told_nothing known acts before after began ended adds = sym (same_acts known [] acts after (adds known began ∙ ap (λ (l : List Act). Some l) (sym (append-nil known))) ended)

-- ---- tables that join others

object_there : (os : Objects) (path : List ℕ) (start len : ℕ) (bytes : List ℕ) → Some bytes ≡ part_of (object_at os path) start len → (found : List ℕ) × (object_at os path ≡ Some found)
object_there os path start len bytes h = by (object_at os path) refl h
  where
    by : (o : Option (List ℕ)) → object_at os path ≡ o → Some bytes ≡ part_of o start len → (found : List ℕ) × (object_at os path ≡ Some found)
    by None is k = absurd cc
    by (Some found) is k = (found, is)

table_there : (os : Objects) (tables : List (Ulid × List ℕ)) (path found : List ℕ) → AllByRecursion (IsObjectOf tables) os → object_at os path ≡ Some found → IsObjectOf tables (path, found)
table_there [] tables path found h is = absurd cc
table_there (o ∷ os) tables path found h is = by (bytes_eq o.0 path) refl (table_there os tables path found h.1) is
  where
    by : (b : Bool) → bytes_eq o.0 path ≡ b → (object_at os path ≡ Some found → IsObjectOf tables (path, found)) → cond b (Some o.1) (object_at os path) ≡ Some found → IsObjectOf tables (path, found)
    by true same rest k =
        let paths : o.0 ≡ path = (bytes_eq-Decides o.0 path).0 same in
        let bytes : o.1 ≡ found = same_Some o.1 found k in
        (h.0.0, h.0.1, sym (λ i. (paths i, bytes i)) ∙ h.0.2)
    by false other rest k = rest k

-- a block that was read is of a table that was there
key_among : (encode : Encode) (k : List ℕ) (tables all : List (Ulid × List ℕ)) (reads : List Act) → Includes all tables → ReadsKey encode k tables reads → ReadsKey encode k all reads
key_among encode k tables all reads includes h = record {
  table = h.table;
  among = includes h.table h.among;
  version = h.version;
  blocks = h.blocks;
  filters = h.filters;
  is = h.is;
  block = h.block;
  rows = h.rows;
  place = h.place;
  at_block = h.at_block;
  at_place = h.at_place;
  holds = h.holds;
  act = h.act;
  done = h.done;
  covers = h.covers;
}

filters_among : (encode : Encode) (by : Asking) (os : Objects) (tables all : List (Ulid × List ℕ)) (reads : List Act) → AllByRecursion (IsObjectOf tables) os → Includes all tables → StandApart all → AllByRecursion (AnswersObjects os) reads →
    ReadsFiltersFirst encode by tables reads → ReadsFiltersFirst encode by all reads
filters_among encode by os tables all reads named includes apart answered first = λ before act after is table among version blocks filters built some place at covers.
    let each : AllByRecursion (AnswersObjects os) (before ++ (act ∷ after)) = subst (AllByRecursion (AnswersObjects os)) is answered in
    first before act after is table (there table place among act (AllByRecursion_behind (AnswersObjects os) before (act ∷ after) each).0 covers) version blocks filters built some place at covers
  where
    there : (table : Ulid × List ℕ) (place : Section) → Contains all table → (act : Act) → AnswersObjects os act → Covers act (path_of root table.0.0) place → Contains tables table
    there table place among (Act.put path bytes) answer covers = absurd covers
    there table place among (Act.len path size) answer covers = absurd covers
    there table place among (Act.read path start len given) answer covers =
        let found = object_there os path start len covers.1.bytes (sym covers.1.returned ∙ answer) in
        let named_there : IsObjectOf tables (path, found.0) = table_there os tables path found.0 named found.1 in
        let same : named_there.0 ≡ table = apart named_there.0 table (includes named_there.0 named_there.1) among (sym (ap (λ (o : List ℕ × List ℕ). o.0) named_there.2) ∙ covers.0) in
        subst (Contains tables) same named_there.1

-- ---- a get

get_reads : {T : Type 0} (v : T) (t : Terms) (name k : List ℕ) (s : State) (known acts : List Act) (os : Objects) (all : List (Ulid × List ℕ)) (now after : Reach) (old : SessionModel) → now.meaning ≡ t.parts → old.core.settings ≡ settings_of t.options →
    IsAnswered t.policies now after old.core → StandsFor old s → now.objects ≡ Some os → AllByRecursion (IsObjectOf (tables_of old.core.events)) os → Includes all (tables_of old.core.events) → StandApart all →
    now.acts ≡ Some known → after.acts ≡ Some (known ++ acts) → IsGetAsked {A = T} t.policies name k now after old (Ok v) → HasAsked t all s name k acts
get_reads v t name k s known acts os all now after old meaning settings answered stands told named includes apart began ended asked = record {
  filters = λ some.
      let made = asked.filters answered some in
      subst (ReadsFiltersFirst t.parts.encode (asking_for t.policies k) all) (told_reads known acts made.0 now after began ended made.1)
      (filters_among t.parts.encode (asking_for t.policies k) os (tables_of old.core.events) all made.0 named includes apart (made.1.answered os told)
      (subst (λ (m : Meaning). ReadsFiltersFirst m.encode (asking_for t.policies k) (tables_of old.core.events) made.0) meaning made.2));
  finds = λ from is needs.
      let made : Made now after (ReadsKey now.meaning.encode k (tables_of old.core.events)) = asked.finds s stands from is answered (same from ∙ needs) in
      subst (ReadsKey t.parts.encode k all) (told_reads known acts made.0 now after began ended made.1)
      (key_among t.parts.encode k (tables_of old.core.events) all made.0 includes
      (subst (λ (m : Meaning). ReadsKey m.encode k (tables_of old.core.events) made.0) meaning made.2));
  alone = told_alone known acts now.acts after.acts began ended asked.alone;
  closed = λ not. told_nothing known acts now.acts after.acts began ended (asked.closed s stands not);
}
  where
    same : (from : Reader) → needs_tables (rules_of old.core.settings now.meaning) s from.at from.ops k ≡ needs_tables (rules_by t) s from.at from.ops k
    same from = λ i. needs_tables (rules_of (settings i) (meaning i)) s from.at from.ops k

-- ---- lines

read_more : (t : Terms) (all : List (Ulid × List ℕ)) (s : State) (ls : List (List ℕ)) (l : List ℕ) (parts : List (List Act)) (part : List Act) → AreLines ls → ReadsByLine t all s ls parts →
    ReadsOf t all (after_lines (rules_by t) s ls) (meanings (l ∷ [])) part → ReadsByLine t all s (ls ++ (l ∷ [])) (parts ++ (part ∷ []))
read_more t all s [] l [] part lines h k = (k, tt)
read_more t all s [] l (p ∷ parts) part lines h k = absurd h
read_more t all s (x ∷ ls) l [] part lines h k = absurd h
read_more t all s (x ∷ ls) l (p ∷ parts) part lines h k = (
  h.0,
  read_more t all (after_lines (rules_by t) s (x ∷ [])) ls l parts part lines.1 h.1
      (subst (λ (st : State). ReadsOf t all st (meanings (l ∷ [])) part) (state_append (rules_by t) s (x ∷ []) ls (lines.0, tt)) k),
)

pub read_none : (t : Terms) (script : List ℕ) (given : ℕ) (known : List Act) (now : Option (List Act)) (tables : List (Ulid × List ℕ)) → given ≡ 0 → now ≡ Some known → IsReadSoFar t (lines_of (take given script)) known now tables
read_none t script given known now tables none began = subst (λ (n : ℕ). IsReadSoFar t (lines_of (take n script)) known now tables) (sym none) (record {
  acts = [];
  told = began ∙ ap (λ (l : List Act). Some l) (sym (append-nil known));
  parts = [];
  whole = refl;
  each = λ all includes apart. tt;
})

parts_more : (parts : List (List Act)) (part : List Act) → flat_map (λ (p : List Act). p) parts ++ part ≡ flat_map (λ p. p) (parts ++ (part ∷ []))
parts_more parts part = sym (flat_map-append (λ (p : List Act). p) parts (part ∷ []) ∙ ap (λ (l : List Act). flat_map (λ p. p) parts ++ l) (append-nil part))

pub read_on : {T : Type 0} (v : T) (t : Terms) (line : List ℕ) (ls : List (List ℕ)) (known : List Act) (m : Meaning) (layout : Layout) (seg : Segments) (now after : Reach) (old new : SessionModel) → AreLines ls → now.meaning ≡ t.parts → old.core.settings ≡ settings_of t.options →
    IsSettledIn t.policies seg now old.core → HasTablesAlone m layout now.objects (runs_of old.core.events) → StandsFor old (after_lines (rules_by t) opening ls) →
    AddsActs now.acts after.acts → PutsTables (tables_of old.core.events) (tables_of new.core.events) now.acts after.acts → AsksLine {A = T} t.policies (meanings (line ∷ [])) now after old (Ok v) →
    IsReadSoFar t ls known now.acts (tables_of old.core.events) → IsReadSoFar t (ls ++ (line ∷ [])) known after.acts (tables_of new.core.events)
read_on {T = T} v t line ls known m layout seg now after old new meant meaning settings settled alone stands adds puts asked far = record {
  acts = far.acts ++ acts;
  told = ended ∙ ap (λ (l : List Act). Some l) (append_assoc known far.acts acts);
  parts = far.parts ++ (acts ∷ []);
  whole = ap (λ (l : List Act). l ++ acts) far.whole ∙ parts_more far.parts acts;
  each = λ all includes apart.
      let before : Includes all (tables_of old.core.events) = λ u among. includes u (subst (λ (us : List (Ulid × List ℕ)). Contains us u) (sym grown.3) (Contains-append_left (tables_of old.core.events) grown.1 u among)) in
      read_more t all opening ls line far.parts acts meant (far.each all before apart)
      (reads_of_line all before apart (meanings (line ∷ [])) asked);
}
  where
    acts : List Act
    acts = (adds (known ++ far.acts) far.told).0

    ended : after.acts ≡ Some ((known ++ far.acts) ++ acts)
    ended = (adds (known ++ far.acts) far.told).1

    grown : (more : List Act) × (added : List (Ulid × List ℕ)) × (after.acts ≡ Some ((known ++ far.acts) ++ more)) × (tables_of new.core.events ≡ tables_of old.core.events ++ added) × Unit {0}
    grown = let p = puts (known ++ far.acts) far.told in (p.0, p.1, p.2, p.3, tt)

    named : AllByRecursion (IsObjectOf (tables_of old.core.events)) alone.os
    named = subst (λ (ts : List (Ulid × List ℕ)). AllByRecursion (IsObjectOf ts) alone.os) (sym (tables_are old.core.events)) alone.named

    none : AddsNothing now.acts after.acts → acts ≡ []
    none = told_nothing (known ++ far.acts) acts now.acts after.acts far.told ended

    alone_told : AddsReads now.acts after.acts → AllByRecursion PutsNothing acts
    alone_told = told_alone (known ++ far.acts) acts now.acts after.acts far.told ended

    only_puts : OnlyPuts now.acts after.acts → AllByRecursion IsPutAct acts
    only_puts flushed = let p = flushed (known ++ far.acts) far.told in subst (AllByRecursion IsPutAct) (same_acts (known ++ far.acts) p.0 acts after.acts p.1 ended) p.2

    reads_for : (all : List (Ulid × List ℕ)) → Includes all (tables_of old.core.events) → StandApart all → (l : Line) → AsksAt {A = T} t.policies l now after old (Ok v) → ReadsFor t all (after_lines (rules_by t) opening ls) l acts
    reads_for all includes apart (lines.Get name k) h =
        get_reads v t name k (after_lines (rules_by t) opening ls) (known ++ far.acts) acts alone.os all now after old meaning settings (settled_answered t.policies now after old.core settled) stands alone.told named includes apart far.told ended h
    reads_for all includes apart (lines.Scan name order start end sts) h = alone_told h
    reads_for all includes apart (lines.Prefix name order p start end sts) h = alone_told h
    reads_for all includes apart lines.Flush h = only_puts h
    reads_for all includes apart l h = none h

    reads_of_line : (all : List (Ulid × List ℕ)) → Includes all (tables_of old.core.events) → StandApart all → (meant : List Line) → AsksLine {A = T} t.policies meant now after old (Ok v) → ReadsOf t all (after_lines (rules_by t) opening ls) meant acts
    reads_of_line all includes apart [] h = none h
    reads_of_line all includes apart (l ∷ rest) h = reads_for all includes apart l h

-- ---- the end

small_id : (n : ℕ) (t : Ulid × List ℕ) → n < 2 ^ 64 → IsEarlier n 0 t → t.0.0 < 2 ^ 128
small_id n t few e = by e.earlier
  where
    by : (e.number < n) ⊎ ((e.number ≡ n) × (e.place < 0)) → t.0.0 < 2 ^ 128
    by (inl below) = omega (arith, e.id, e.fits)
    by (inr (number, below)) = omega (arith, below)

held_there : (os : Objects) (ts : List (Ulid × List ℕ)) (t : Ulid × List ℕ) → Holds os ts → Contains ts t → object_at os (path_of root t.0.0) ≡ Some t.1
held_there os ts t holds among = All-contains (λ (u : Ulid × List ℕ). object_at os (path_of root u.0.0) ≡ Some u.1) ts t (All-from_recursion (λ (u : Ulid × List ℕ). object_at os (path_of root u.0.0) ≡ Some u.1) ts holds) among

stand_apart : (os : Objects) (n : ℕ) (ts : List (Ulid × List ℕ)) → n < 2 ^ 64 → AllByRecursion (IsEarlier n 0) ts → Holds os ts → StandApart ts
stand_apart os n ts few earlier holds = λ t u one other same.
    let small : (x : Ulid × List ℕ) → Contains ts x → x.0.0 < 2 ^ 128 = λ x among. small_id n x few (All-contains (IsEarlier n 0) ts x (All-from_recursion (IsEarlier n 0) ts earlier) among) in
    let ids : t.0.0 ≡ u.0.0 = one_id t.0.0 u.0.0 (small t one) (small u other) same in
    let bytes : t.1 ≡ u.1 = same_Some t.1 u.1 (sym (held_there os ts t holds one) ∙ ap (object_at os) same ∙ held_there os ts u holds other) in
    λ i. (record { 0 = ids i }, bytes i)

-- a session that runs has few events
pub few_events : (c : CoreModel) (number given : ℕ) → weight c ≤ number + number → number ≤ given → given ≤ script_limit → length c.events < 2 ^ 63
few_events c number given weighs counted within =
    let sum : length c.events + ends_of c.state ≤ number + number = weighs in
    let limit : given ≤ 2 ^ 32 - 1 = within in
    omega (arith, sum, counted, limit)

pub read_whole : (t : Terms) (ls : List (List ℕ)) (known : List Act) (acts : Option (List Act)) (m : Meaning) (layout : Layout) (objects : Option Objects) (e : SessionModel) → length e.core.events < 2 ^ 63 → HasTables objects e.core.events →
    HasTablesAlone m layout objects (runs_of e.core.events) → IsReadSoFar t ls known acts (tables_of e.core.events) → IsReadInParts t ls known acts objects
read_whole t ls known acts m layout objects e room tables alone far = record {
  acts = far.acts;
  told = far.told;
  os = alone.os;
  stand = alone.told;
  tables = tables_of e.core.events;
  are = record { held = holds; each = subst (λ (ts : List (Ulid × List ℕ)). AllByRecursion (IsObjectOf ts) alone.os) (sym (tables_are e.core.events)) alone.named };
  parts = far.parts;
  whole = far.whole;
  each = far.each (tables_of e.core.events) (λ u among. among)
      (stand_apart alone.os (length (runs_of e.core.events) + 1) (tables_of e.core.events) (omega (arith, tables.few, room))
      (subst (AllByRecursion (IsEarlier (length (runs_of e.core.events) + 1) 0)) (sym (tables_are e.core.events)) (earlier_all 1 (length (runs_of e.core.events) + 1) (runs_of e.core.events) tables.numbered (omega arith))) holds);
}
  where
    holds : Holds alone.os (tables_of e.core.events)
    holds = subst (λ (o : Option Objects). HoldsTables o e.core.events) alone.told tables.holds

pub lines_end : {P : Type 0} {r : Rules} {script : List ℕ} {source told sink : Option (List ℕ)} {first tally : Tally} {old : LinesModel} {number : ℕ} {e : SessionModel} (new : LinesModel) (rest : List ℕ) (at : IsAt P r script source told sink first tally old number e) → IsEnd old at.left new rest → take old.given script ≡ script
lines_end new rest at is = given_are at ∙ sym (end_there new rest at is).0
