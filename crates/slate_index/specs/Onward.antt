-- A run over lines, from line to line: what one line keeps, what some lines keep, what more of them keep behind these, and what ends a run behind them.
--     RepliesTo policies fs line n before after c d result      the reply to the line with this number, and what it keeps
--     GoesBetween policies reach core ended p q n      what so many lines keep, from a program's value to another
--     EndsBetween policies reach core ended p q e      what ends a run between them
use Rattle.std.proofs.Common.{◌≡◌, ℕ, ◌+◌, ◌*◌, ◌≤◌, ◌⊎◌, inl, inr, Bool, true, false, List, Option, Result, option_map, refl, ap, subst, ◌∙◌, arith}
use Rattle.std.specs.Prelude.{IfErr, IfOk, OnOk}
use Rattle.std.specs.Global.{Vec}
use Rattle.slate_types.specs.declared.error.SlateDBError.{SlateDBError}
use Rattle.slate_types.specs.declared.error.SlateDBError.TheVariants.{ScriptSyntax}
use Rattle.slate_types.specs.Outside.{IsFault, IsStill, Reach, unblamed}
use Rattle.slate_types.proofs.Reaching.{fault_earlier, reads_none, reads_then}
use Rattle.slate_filter.specs.Policy.{Policy}
use Rattle.slate_store.specs.Run.{LineSays, Says, said_by}
use Rattle.slate_db.specs.Load.{weight}
use Rattle.slate_db.specs.Model.{CoreModel}
use Rattle.slate_index.specs.Script.{is_taken}
use Rattle.slate_index.specs.Running.{Goes, IsRunError, RunsAs, is_limit}
use Rattle.slate_index.specs.Entries.{FieldsModel}

pub record RepliesTo (policies : List Policy) (fs : FieldsModel) (line : List ℕ) (n : ℕ) (before after : Reach) (c d : CoreModel) (result : Result (Option (Vec ℕ)) SlateDBError) : Type 0 where
  pub own : OnOk result (is_taken fs line ≡ true)
  pub said : (f : Says) → RunsAs policies fs before c f → IfOk result (λ o. LineSays f (RunsAs policies fs after d) line (said_by (option_map (λ t. t.items) o)))
  pub goes : Goes policies before after c d 1
  pub still : IsStill before.faults after.faults result
  pub cause : IfErr result (λ e. ((e ≡ ScriptSyntax n) × (is_taken fs line ≡ false)) ⊎ IsRunError policies before after c d e)

goes_still : (policies : List Policy) (a : Reach) (x : CoreModel) → Goes policies a a x x 0
goes_still policies a x = record { settled = λ h. h; grows = omega arith; reads = reads_none a }

goes_both : (policies : List Policy) (a b c : Reach) (x y z : CoreModel) (n m : ℕ) → Goes policies a b x y n → Goes policies b c y z m → Goes policies a c x z (n + m)
goes_both policies a b c x y z n m p q = record {
  settled = λ h. q.settled (p.settled h);
  grows = let one : weight y ≤ weight x + 2 * n = p.grows in let two : weight z ≤ weight y + 2 * m = q.grows in omega (arith, one, two);
  reads = reads_then a b c p.reads q.reads;
}

run_error_later : (policies : List Policy) (a b c : Reach) (x y z : CoreModel) (n : ℕ) (e : SlateDBError) → Goes policies a b x y n → IsRunError policies b c y z e → IsRunError policies a c x z e
run_error_later policies a b c x y z n e p q = record {
  apart = q.apart;
  settled = λ h. by (q.settled (p.settled h));
  limit = q.limit;
  cause = record { from = q.cause.from; upto = q.cause.upto; core = q.cause.core; first = reads_then a b q.cause.from p.reads q.cause.first; later = q.cause.later; refused = q.cause.refused };
}
  where
    by : IsFault b c e ⊎ (is_limit e ≡ true) → IsFault a c e ⊎ (is_limit e ≡ true)
    by (inl fault) = inl (fault_earlier a b c e p.reads.later fault)
    by (inr limit) = inr limit

goes_then : {ps qs : List Policy} {a b c : Reach} {x y z : CoreModel} {n m : ℕ} → qs ≡ ps → Goes ps a b x y n → Goes qs b c y z m → Goes ps a c x z (n + m)
goes_then {ps = ps} {a = a} {b = b} {c = c} {x = x} {y = y} {z = z} {n = n} {m = m} same p q = goes_both ps a b c x y z n m p (subst (λ rs. Goes rs b c y z m) same q)

refuses_then : {ps qs : List Policy} {a b c : Reach} {x y z : CoreModel} {n : ℕ} {e : SlateDBError} → qs ≡ ps → Goes ps a b x y n → IsRunError qs b c y z e → IsRunError ps a c x z e
refuses_then {ps = ps} {a = a} {b = b} {c = c} {x = x} {y = y} {z = z} {n = n} {e = e} same p q = run_error_later ps a b c x y z n e p (subst (λ rs. IsRunError rs b c y z e) same q)

-- P: the values of a program; policies, reach, core, ended: what each of them holds. Where no line has ended the run, no count of faults rose
pub record GoesBetween {P : Type 0} (policies : P → List Policy) (reach : P → Reach) (core : P → CoreModel) (ended : P → Bool) (p q : P) (n : ℕ) : Type 0 where
  pub same : policies q ≡ policies p
  pub goes : Goes (policies p) (reach p) (reach q) (core p) (core q) n
  pub still : ended q ≡ false → (ended p ≡ false) × ((reach q).faults ≡ (reach p).faults)

pub record EndsBetween {P : Type 0} (policies : P → List Policy) (reach : P → Reach) (core : P → CoreModel) (ended : P → Bool) (p q : P) (e : SlateDBError) : Type 0 where
  pub error : IsRunError (policies p) (reach p) (reach q) (core p) (core q) e
  pub going : ended p ≡ false
  pub still : unblamed e (reach q).faults ≡ unblamed e (reach p).faults

pub between_none : {P : Type 0} (policies : P → List Policy) (reach : P → Reach) (core : P → CoreModel) (ended : P → Bool) (p : P) → GoesBetween policies reach core ended p p 0
between_none policies reach core ended p = record { same = refl; goes = goes_still (policies p) (reach p) (core p); still = λ h. (h, refl) }

pub between_both : {P : Type 0} {policies : P → List Policy} {reach : P → Reach} {core : P → CoreModel} {ended : P → Bool} {a b c : P} {n m : ℕ} →
    GoesBetween policies reach core ended a b n → GoesBetween policies reach core ended b c m → GoesBetween policies reach core ended a c (n + m)
between_both p q = record {
  same = q.same ∙ p.same;
  goes = goes_then p.same p.goes q.goes;
  still = λ h. let later = q.still h in let first = p.still later.0 in (first.0, later.1 ∙ first.1);
}

pub ends_now : {P A : Type 0} {policies : P → List Policy} {reach : P → Reach} {core : P → CoreModel} {ended : P → Bool} {p q : P} {e : SlateDBError} → ended p ≡ false → unblamed e (reach q).faults ≡ unblamed e (reach p).faults →
    A ⊎ IsRunError (policies p) (reach p) (reach q) (core p) (core q) e → A ⊎ EndsBetween policies reach core ended p q e
ends_now going still (inl h) = inl h
ends_now going still (inr h) = inr (record { error = h; going = going; still = still })

pub ends_later : {P : Type 0} {policies : P → List Policy} {reach : P → Reach} {core : P → CoreModel} {ended : P → Bool} {a b c : P} {n : ℕ} {e : SlateDBError} →
    GoesBetween policies reach core ended a b n → EndsBetween policies reach core ended b c e → EndsBetween policies reach core ended a c e
ends_later {e = e} p q = let first = p.still q.going in record { error = refuses_then p.same p.goes q.error; going = first.0; still = q.still ∙ ap (unblamed e) first.1 }
