-- What own rows of a key are, and what a read under them answers.
use Rattle.std.proofs.Common.{inl, ◌≡◌, ℕ, ◌≤◌, List, [], ◌∷◌, ◌++◌, map, reverse, true, false, Some, None, Option, refl, sym, ap, subst, ◌∙◌}
use Rattle.std.specs.Prelude.{not, ◌||◌, Result, Ok, Err}
use Rattle.std.specs.List.{AllByRecursion, list_any}
use Rattle.slate_types.specs.declared.error.SlateDBError.{SlateDBError}
use Rattle.slate_types.specs.declared.error.SlateDBError.TheVariants.{OutOfMemory}
use Rattle.slate_types.specs.declared.filter_policy.FilterQuery.{FilterQuery}
use Rattle.slate_types.specs.declared.types.RowEntry.{RowEntry}
use Rattle.slate_types.specs.Fold.{Combine, fold_rows}
use Rattle.slate_types.specs.Outside.{Reach, unblamed}
use Rattle.slate_types.proofs.Calls.{call_none}
use Rattle.slate_types.proofs.Reaching.{reads_none}
use Rattle.slate_filter.specs.Policy.{Policy}
use Rattle.slate_mem.specs.declared.WriteOp.{WriteOp}
use Rattle.slate_mem.specs.Batch.{Ops, kept, replaces}
use Rattle.slate_mem.specs.BatchModel.{holds_merge}
use Rattle.slate_mem.specs.Lookup.{is_decided}
use Rattle.slate_mem.specs.RowOf.{own_row}
use Rattle.slate_txn.specs.Named.{find_named}
use Rattle.slate_txn.specs.Reads.{key_rows, up_to}
use Rattle.slate_txn.specs.State.{Tx}
use Rattle.slate_db.specs.Asked.{takes_flushed}
use Rattle.slate_db.specs.KeyShares.{IsFolded, IsKeyRead, IsOwnAnswer, IsSeen, IsUnder}
use Rattle.slate_db.specs.Log.{AreFine}
use Rattle.slate_db.specs.Meaning.{combine_of, rules_of}
use Rattle.slate_db.specs.Model.{CoreModel, Rows}
use Rattle.slate_db.specs.Readable.{decides_own, keeps_merge}
use Rattle.slate_db.specs.Shown.{Asking}
use Rattle.slate_db.proofs.Behind.{asks_none}
use Rattle.slate_db.proofs.Plain.{kept_replace}
use Rattle.slate_db.proofs.OwnRows.{oldest_first, own_decided, own_decides, own_keys, own_of_open, own_operands, own_short, own_some}

-- its own rows, of which none decides
pub under_own : (c : CoreModel) (id : List ℕ) (t : Tx) (k : List ℕ) (own : Rows) → find_named id c.state.txns ≡ Some t → own ≡ map (own_row k) (reverse (kept t.ops k)) → AreFine t.ops → is_decided own ≡ false → IsUnder c k own
under_own c id t k own there rows fine undecided = record {
  operands = own_operands k t.ops own rows undecided;
  own = own_of_open k t.ops own rows c id t there refl;
  keys = own_keys k t.ops own rows;
  short = own_short k t.ops own rows fine;
}

pub read_under : (by : Asking) (before after : Reach) (c : CoreModel) (k : List ℕ) (t : Tx) (own : Rows) (r : Result (Option RowEntry) SlateDBError) → c.floor ≤ t.begin → own ≡ map (own_row k) (reverse (kept t.ops k)) → IsSeen by before after c k t.begin own r → IsKeyRead by before after c k t IsFolded r
read_under by before after c k t own (Ok row) above rows s = record {
  read = record { answer = λ is. s.read.answer is above ∙ ap (λ (xs : Rows). fold_rows (combine_of before.meaning k) (key_rows (rules_of c.settings before.meaning) k (up_to t.begin c.state.commits) ++ xs)) (oldest_first k t.ops own rows); undamaged = s.read.undamaged; checked = s.read.checked; cause = s.read.cause; reads = s.read.reads; still = s.read.still };
  asks = s.asks;
  finds = λ is needs. s.finds above is (ap (λ (xs : Rows). takes_flushed c.state (key_rows (rules_of c.settings before.meaning) k (up_to t.begin c.state.commits) ++ xs)) (oldest_first k t.ops own rows) ∙ needs);
  missing = λ lacks some. s.missing lacks (own_some k t.ops own rows some);
  operand = λ lacks meets. s.merged lacks meets.1;
}
read_under by before after c k t own (Err e) above rows s = record {
  read = record { answer = λ is. tt; undamaged = s.read.undamaged; checked = s.read.checked; cause = s.read.cause; reads = s.read.reads; still = s.read.still };
  asks = s.asks;
  finds = λ is needs. tt;
  missing = λ lacks some. tt;
  operand = λ lacks meets. tt;
}

-- ---- what is asked

pub asking_same : {X : Type 0} (f : X → Policy) (xs ys : List X) (q r : FilterQuery) → xs ≡ ys → q ≡ r → ◌≡◌ {A = Asking} (record { policies = map f xs; query = q }) (record { policies = map f ys; query = r })
asking_same f xs ys q r same query = λ i. record { policies = map f (same i); query = query i }

-- ---- a refusal before anything was done

pub own_refused : {A : Type 0} (a : Reach) (k : List ℕ) (t : Tx) (means : Combine → Rows → A → Type 0) (r : Result A SlateDBError) → r ≡ Err OutOfMemory → IsOwnAnswer a a k t means r
own_refused {A} a k t means r is = subst (IsOwnAnswer a a k t means) (sym is) (record {
  quiet = call_none a;
  folded = λ lawful short. tt;
  own = λ op one replaces. record { answer = tt; cause = refl; reached = refl };
  missing = λ lacks some. tt;
  cause = inl tt;
  still = refl;
})

pub seen_refused : (by : Asking) (a : Reach) (c : CoreModel) (k : List ℕ) (n : ℕ) (own : Rows) (r : Result (Option RowEntry) SlateDBError) → r ≡ Err OutOfMemory → IsSeen by a a c k n own r
seen_refused by a c k n own r is = subst (IsSeen by a a c k n own) (sym is) (record {
  read = record { answer = λ is. tt; undamaged = λ is. tt; checked = λ os is. tt; cause = inl tt; reads = reads_none a; still = refl };
  asks = asks_none by a a c (call_none a);
  finds = λ above is needs. tt;
  missing = λ lacks some. tt;
  merged = λ lacks some. tt;
})

-- ---- what becomes of a read

module _ {A B : Type 0} (by : Asking) (a b : Reach) (c : CoreModel) (k : List ℕ) (t : Tx) (first : Combine → Rows → A → Type 0) (then : Combine → Rows → B → Type 0) where
  pub read_on : (x : A) (y : B) → ((f : Combine) (rows : Rows) → first f rows x → then f rows y) → IsKeyRead by a b c k t first (Ok x) → IsKeyRead by a b c k t then (Ok y)
  read_on x y so r = record {
    read = record { answer = λ is. so _ _ (r.read.answer is); undamaged = r.read.undamaged; checked = r.read.checked; cause = r.read.cause; reads = r.read.reads; still = r.read.still };
    asks = r.asks;
    finds = r.finds;
    missing = r.missing;
    operand = r.operand;
  }

  pub read_refused : (e : SlateDBError) → IsKeyRead by a b c k t first (Err e) → IsKeyRead by a b c k t then (Err e)
  read_refused e r = record {
    read = record { answer = λ is. tt; undamaged = r.read.undamaged; checked = r.read.checked; cause = r.read.cause; reads = r.read.reads; still = r.read.still };
    asks = r.asks;
    finds = λ is needs. tt;
    missing = λ lacks some. tt;
    operand = λ lacks meets. tt;
  }

  pub read_unnoted : (x : A) → IsKeyRead by a b c k t first (Ok x) → IsKeyRead by a b c k t then (Err OutOfMemory)
  read_unnoted x r = record {
    read = record { answer = λ is. tt; undamaged = λ is. tt; checked = λ os is. tt; cause = inl tt; reads = r.read.reads; still = ap (unblamed OutOfMemory) r.read.still };
    asks = r.asks;
    finds = λ is needs. tt;
    missing = λ lacks some. tt;
    operand = λ lacks meets. tt;
  }

module _ {A B : Type 0} (a b : Reach) (k : List ℕ) (t : Tx) (first : Combine → Rows → A → Type 0) (then : Combine → Rows → B → Type 0) where
  pub own_on : (x : A) (y : B) → ((f : Combine) (rows : Rows) → first f rows x → then f rows y) → IsOwnAnswer a b k t first (Ok x) → IsOwnAnswer a b k t then (Ok y)
  own_on x y so r = record {
    quiet = r.quiet;
    folded = λ lawful short. so _ _ (r.folded lawful short);
    own = λ op one replaces. let o = r.own op one replaces in record { answer = λ f. so _ _ (o.answer f); cause = o.cause; reached = o.reached };
    missing = r.missing;
    cause = r.cause;
    still = r.still;
  }

  pub own_not : (e : SlateDBError) → IsOwnAnswer a b k t first (Err e) → IsOwnAnswer a b k t then (Err e)
  own_not e r = record {
    quiet = r.quiet;
    folded = λ lawful short. tt;
    own = λ op one replaces. let o = r.own op one replaces in record { answer = tt; cause = o.cause; reached = o.reached };
    missing = λ lacks some. tt;
    cause = r.cause;
    still = r.still;
  }

  pub own_unnoted : (x : A) → IsOwnAnswer a b k t first (Ok x) → IsOwnAnswer a b k t then (Err OutOfMemory)
  own_unnoted x r = record {
    quiet = r.quiet;
    folded = λ lawful short. tt;
    own = λ op one replaces. let o = r.own op one replaces in record { answer = tt; cause = refl; reached = o.reached };
    missing = λ lacks some. tt;
    cause = inl tt;
    still = ap (unblamed OutOfMemory) r.still;
  }

-- ---- operations of which none is a merge

none_merges : (xs : List WriteOp) → AllByRecursion (λ op. replaces op ≡ true) xs → list_any (λ op. not (replaces op)) xs ≡ false
none_merges [] h = refl
none_merges (x ∷ xs) h = λ i. not (h.0 i) || none_merges xs h.1 i

pub plain_keeps : (k : List ℕ) (ops : Ops) → holds_merge ops ≡ false → keeps_merge k ops ≡ false
plain_keeps k ops none = none_merges (kept ops k) (kept_replace ops k none)

-- own operations that decide hide what is older
pub decided_fold : (f : Combine) (k : List ℕ) (ops : Ops) (older : Rows) → decides_own k ops ≡ true → fold_rows f (map (own_row k) (kept ops k)) ≡ fold_rows f (older ++ map (own_row k) (kept ops k))
decided_fold f k ops older some =
    let own : Rows = map (own_row k) (reverse (kept ops k)) in
    ap (fold_rows f) (sym (oldest_first k ops own refl)) ∙ own_decided k ops own refl f older (own_decides k ops ∙ some)
