-- What a get leaves of its transaction, what an Ok that was taken out tells, and what a test of
-- names does.
use Rattle.std.proofs.Common.{◌≡◌, ◌∙◌, Bool, List, ℕ, Option, Some, ap, map, subst, sym, true}
use Rattle.std.specs.Prelude.{◌↔◌, Result, Ok, Err, IfOk}
use Rattle.std.specs.Result.{result_ok}
use Rattle.std.proofs.lemmas.Option.{same_Some}
use Rattle.slate_types.specs.declared.config.Options.{Options}
use Rattle.slate_types.specs.declared.error.SlateDBError.{SlateDBError}
use Rattle.slate_types.specs.declared.types.KeyValue.{KeyValue}
use Rattle.slate_types.specs.Outside.{Meaning, Reach}
use Rattle.slate_filter.specs.Laws.{AreValidNames}
use Rattle.slate_db.specs.Shown.{Asking}
use Rattle.slate_shared.specs.KeyReads.{IsGet}
use Rattle.slate_shared.specs.Passes.{Opened}

pub same_table : {o : Options} {m : Meaning} {by : Asking} {k : List ℕ} {old new : Opened}
    {before after : Reach} (r : Result (Option KeyValue) SlateDBError) →
    IsGet o m by k old new before after r → new.table ≡ old.table
same_table (Ok a) g = ap (λ (t : Opened). t.table) g.noted
same_table (Err e) g = ap (λ (t : Opened). t.table) g.unnoted

pub of_ok : {A : Type 0} (P : A → Type 0) (r : Result A SlateDBError) (o : Option A) (t : A) →
    o ≡ result_ok r → o ≡ Some t → IfOk r P → P t
of_ok P (Ok a) o t given is h = subst P (same_Some a t (sym given ∙ is)) h
of_ok P (Err e) o t given is h = cc

pub names_fit : {B : Type 0} (b : Bool) (xs ys : List B) (name : B → List ℕ) →
    (b ≡ true) ↔ AreValidNames (map name xs) → xs ≡ ys → b ≡ true → AreValidNames (map name ys)
names_fit b xs ys name tests same is = subst (λ zs. AreValidNames (map name zs)) same (tests.0 is)
