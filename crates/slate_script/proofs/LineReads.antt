-- What the get of a line reads.
--     FindsFrom policies k id before after c      what a core says of a get under the id: where its fold needs the tables, a block was read that has the key
--     asks_nothing, closed_asked      a get that isn't made asks nothing, nor one of a name that isn't open
--     get_asked      so says the session of the name's
--     not_closed      what is read under is open
--     nothing_put, nothing_added, call_adds_nothing      where nothing is reached, and a call without reads
--     line_asked, reply_asked, silent_asked      so does a line that is answered, whose reply is written, and a silent one
use Rattle.std.proofs.Common.{◌≡◌, ◌++◌, ◌∷◌, ◌∙◌, ℕ, true, false, List, [], Option, Some, None, Result, Ok, Err, OnOk, ap, append-nil, map, subst, sym}
use Rattle.std.specs.Prelude.{IsSome, nat_le}
use Rattle.std.specs.List.{list_any}
use Rattle.slate_types.specs.declared.error.SlateDBError.{SlateDBError}
use Rattle.slate_types.specs.Fold.{taken}
use Rattle.slate_types.specs.Outside.{Act, AddsReads, Reach}
use Rattle.slate_types.specs.World.{IsCall, Made}
use Rattle.slate_types.proofs.Calls.{call_none}
use Rattle.slate_types.proofs.Reaching.{reads_none}
use Rattle.slate_filter.specs.Policy.{Policy}
use Rattle.slate_mem.specs.Batch.{Ops, kept}
use Rattle.slate_mem.specs.RowOf.{own_row}
use Rattle.slate_txn.specs.declared.line.Line.{Line}
use Rattle.slate_txn.specs.declared.line.Line.TheVariants as lines
use Rattle.slate_txn.specs.Reads.{key_rows, up_to}
use Rattle.slate_txn.specs.State.{Rules, State}
use Rattle.slate_txn.specs.Step.{Reader, reader}
use Rattle.slate_db.specs.Asked.{Asks, ReadsKey, needs_tables}
use Rattle.slate_db.specs.Installs.{tables_of}
use Rattle.slate_db.specs.Meaning.{rules_of}
use Rattle.slate_db.specs.Model.{CoreModel}
use Rattle.slate_db.specs.Readable.{IsAnswered}
use Rattle.slate_db.specs.Shown.{Asking}
use Rattle.slate_language.specs.declared.reply.Answer.{Answer}
use Rattle.slate_language.specs.Parse.{parse}
use Rattle.slate_language.specs.Replies.{is_silent, meanings, onto_meanings}
use Rattle.slate_script.specs.Calls.Line.{AddsNothing, AsksAt, AsksLine, IsGetAsked, OnlyPuts}
use Rattle.slate_script.specs.Session.{SessionModel, StandsFor, reader_under}
use Rattle.slate_script.specs.Told.{asking_for}
use Rattle.slate_script.proofs.Running.{always}

abbrev pub FindsFrom : List Policy → List ℕ → List ℕ → Reach → Reach → CoreModel → Type 0
FindsFrom policies k id before after c = (from : Reader) → reader c.state id ≡ Some from → IsAnswered policies before after c →
    needs_tables (rules_of c.settings before.meaning) c.state from.at from.ops k ≡ true → Made before after (ReadsKey before.meaning.encode k (tables_of c.events))

pub asks_nothing : (by : Asking) (reach : Reach) (c : CoreModel) → Asks by reach reach c
asks_nothing by reach c = λ answered some. ([], call_none reach, λ before act after is. absurd (none before act after is))
  where
    none : (before : List Act) (act : Act) (after : List Act) → [] ≡ before ++ (act ∷ after) → ⊥
    none [] act after is = cc
    none (a ∷ before) act after is = cc

-- under: the id that the name is read under
pub closed_asked : {A : Type 0} (policies : List Policy) (name k : List ℕ) (under : Option (List ℕ)) (reach : Reach) (old : SessionModel) (result : Result A SlateDBError) → ((s : State) → StandsFor old s → reader s name ≡ reader_under old.core.state under) → under ≡ None →
    IsGetAsked {A = A} policies name k reach reach old result
closed_asked policies name k under reach old result reads closed = record {
  filters = asks_nothing (asking_for policies k) reach old.core;
  finds = λ s stands from is answered needs. absurd (none from (sym (reads s stands ∙ ap (reader_under old.core.state) closed) ∙ is));
  alone = (reads_none reach).acts;
  closed = λ s stands not known is. is;
}
  where
    none : (from : Reader) → None ≡ Some from → ⊥
    none from h = cc

needs_same : (r : Rules) (c s : State) (n : ℕ) (ops : Ops) (k : List ℕ) → s.commits ≡ c.commits → s.flushed ≡ c.flushed → needs_tables r s n ops k ≡ needs_tables r c n ops k
needs_same r c s n ops k commits flushed = λ i. list_any (λ row. nat_le row.seq (flushed i)) (taken (key_rows r k (up_to n (commits i)) ++ map (own_row k) (kept ops k)))

pub not_closed : {P : Type 0} (name id : List ℕ) (under : Option (List ℕ)) (old : SessionModel) (s : State) → reader s name ≡ reader_under old.core.state under → under ≡ Some id → IsSome (reader old.core.state id) → reader s name ≡ None → P
not_closed name id under old s reads opened live not = absurd (none (reader old.core.state id) live (sym (reads ∙ ap (reader_under old.core.state) opened) ∙ not))
  where
    none : (o : Option Reader) → IsSome o → o ≡ None → ⊥
    none None some is = cc
    none (Some from) some is = cc

pub get_asked : (policies : List Policy) (name k id : List ℕ) (under : Option (List ℕ)) (before after : Reach) (old : SessionModel) (a : Answer) → ((s : State) → StandsFor old s → reader s name ≡ reader_under old.core.state under) → under ≡ Some id → IsSome (reader old.core.state id) →
    Asks (asking_for policies k) before after old.core → FindsFrom policies k id before after old.core → AddsReads before.acts after.acts → IsGetAsked {A = Answer} policies name k before after old (Ok a)
get_asked policies name k id under before after old a reads opened live asks finds alone = record {
  filters = asks;
  finds = λ s stands from is answered needs. finds from (sym (reads s stands ∙ ap (reader_under old.core.state) opened) ∙ is) answered (sym (needs_same (rules_of old.core.settings before.meaning) old.core.state s from.at from.ops k stands.commits stands.flushed) ∙ needs);
  alone = alone;
  closed = λ s stands not. not_closed name id under old s (reads s stands) opened live not;
}

-- ---- a line

pub nothing_put : (acts : Option (List Act)) → OnlyPuts acts acts
nothing_put acts known is = ([], is ∙ ap (λ (l : List Act). Some l) (sym (append-nil known)), tt)

pub nothing_added : (acts : Option (List Act)) → AddsNothing acts acts
nothing_added acts known is = is

pub call_adds_nothing : {A : Type 0} (result : Result A SlateDBError) (before after : Reach) → IsCall before after [] → OnOk result (AddsNothing before.acts after.acts)
call_adds_nothing result before after call = always result (λ known is. call.adds known is ∙ ap (λ (l : List Act). Some l) (append-nil known))

pub line_asked : {A B : Type 0} (a : A) (b : B) (policies : List Policy) (line : Line) (before after : Reach) (old : SessionModel) → AsksAt {A = A} policies line before after old (Ok a) → AsksAt {A = B} policies line before after old (Ok b)
line_asked a b policies (lines.Get name k) before after old asked = record {
  filters = asked.filters;
  finds = λ s stands from is answered needs. asked.finds s stands from is answered needs;
  alone = asked.alone;
  closed = asked.closed;
}
line_asked a b policies line before after old asked = asked

pub reply_asked : {A B : Type 0} (result : Result B SlateDBError) (a : A) (policies : List Policy) (l : List ℕ) (line : Line) (before after : Reach) (old : SessionModel) → is_silent l ≡ false → parse l ≡ Some line → AsksAt {A = A} policies line before after old (Ok a) →
    OnOk result (AsksLine {A = B} policies (meanings (l ∷ [])) before after old result)
reply_asked (Err e) a policies l line before after old loud is asked = tt
reply_asked {B = B} (Ok b) a policies l line before after old loud is asked =
    subst (λ (ls : List Line). AsksLine {A = B} policies ls before after old (Ok b)) (sym (λ i. onto_meanings (loud i) (is i) [])) (line_asked a b policies line before after old asked)

pub silent_asked : {B : Type 0} (b : B) (policies : List Policy) (l : List ℕ) (reach : Reach) (old : SessionModel) → is_silent l ≡ true → AsksLine {A = B} policies (meanings (l ∷ [])) reach reach old (Ok b)
silent_asked {B = B} b policies l reach old silent = subst (λ (ls : List Line). AsksLine {A = B} policies ls reach reach old (Ok b)) (sym (λ i. onto_meanings (silent i) (parse l) [])) (nothing_added reach.acts)
