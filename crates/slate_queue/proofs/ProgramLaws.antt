-- Runs of lines: what they keep, why one ends, and how they begin.
use Rattle.std.proofs.Common.{◌≡◌, ◌⊎◌, inl, inr, ℕ, ◌+◌, ◌*◌, ◌<◌, ◌≤◌, Bool, List, [], length, map, Option, None, Some, Result, Ok, Err, refl, sym, ap, subst, ◌∙◌, arith}
use Rattle.std.specs.Prelude.{IfErr}
use Rattle.slate_types.specs.declared.config.Options.{Options}
use Rattle.slate_types.specs.declared.error.SlateDBError.{SlateDBError}
use Rattle.slate_types.specs.declared.error.SlateDBError.TheVariants.{LimitReached}
use Rattle.slate_types.specs.Outside.{IsFault, Meaning, Objects, Reach, unblamed}
use Rattle.slate_store.specs.Lines.{script_limit}
use Rattle.slate_store.specs.Run.{IsRunCause}
use Rattle.slate_filter.specs.Policy.{Policy}
use Rattle.slate_mem.specs.KeyTests.{Segments}
use Rattle.slate_table.specs.Filtered.{AreLawful}
use Rattle.slate_txn.specs.declared.event.Event.{Event}
use Rattle.slate_txn.specs.Settings.{Settings, settings_of}
use Rattle.slate_txn.specs.State.{State, last_of, opening}
use Rattle.slate_db.specs.Flushed.{NoPlace}
use Rattle.slate_db.specs.Installs.{tables_of}
use Rattle.slate_db.specs.Load.{weight}
use Rattle.slate_db.specs.Log.{LIMIT, ends_of}
use Rattle.slate_db.specs.Meaning.{IsLawfulMeaning, rules_of}
use Rattle.slate_db.specs.Model.{CoreModel}
use Rattle.slate_db.specs.Readable.{AreFiltered}
use Rattle.slate_db.specs.Segmented.{IsSegmented}
use Rattle.slate_db.specs.Settled.{HasTables, IsSettledIn}
use Rattle.slate_db.specs.Sound.{IsKept}
use Rattle.slate_queue.specs.Stored.{counter_in, counter_key, job_key}
use Rattle.slate_queue.specs.Feed.{feed_of}
use Rattle.slate_queue.specs.Onward.{EndsBetween, GoesBetween}
use Rattle.slate_queue.specs.Runs.{AnswersBy, Ends, EndsBy, GoesOn, IsFirstCore, IsRunAt, WhyEnds, WhyRunEnds}
use Rattle.slate_queue.specs.Script.{begun, last_seq, says}
use Rattle.slate_queue.specs.Standing.{job_in, value_at}
use Rattle.slate_queue.specs.Words.{fed_pair}

-- ---- a new core

pub new_at : (policies : List Policy) (seg : Segments) (before : Reach) (c : CoreModel) (options : Options) (os : Objects) → AreLawful policies → IsLawfulMeaning before.meaning → before.objects ≡ Some os → options.start_seq ≤ last_seq →
    c.settings ≡ settings_of options → c.state ≡ opening → c.events ≡ [] → ((m : Meaning) → IsKept m c) → ((g : Segments) → IsSegmented g c) → AnswersBy policies seg before c (says (begun options.start_seq))
new_at policies seg before c options os lawful_policies lawful told start settings state none kept segmented = (begun options.start_seq, at, λ ls. refl)
  where
    tables : HasTables before.objects []
    tables = subst (λ (o : Option Objects). HasTables o []) (sym told) (record { holds = tt; numbered = tt; few = omega arith })

    at : IsRunAt policies seg before c (begun options.start_seq)
    at = record {
      settled = record {
        lawful_policies = lawful_policies;
        lawful = lawful;
        kept = kept before.meaning;
        segmented = segmented seg;
        tables = subst (HasTables before.objects) (sym none) tables;
        filtered = subst (λ (es : List Event). AreFiltered before.meaning.encode policies (tables_of es)) (sym none) tt;
      };
      stands = record {
        counter = ap (λ (s : State). counter_in (value_at (rules_of c.settings before.meaning) s.commits counter_key)) state;
        jobs = λ id fits. ap (λ (s : State). job_in (value_at (rules_of c.settings before.meaning) s.commits (job_key id))) state;
        within = λ id some. cc;
        fits = omega arith;
      };
      newest = ap (λ (s : State). last_of c.settings.start_seq s.commits) state ∙ ap (λ (o : Settings). o.start_seq) settings;
      last = start;
      fed = λ n. ap (λ (es : List Event). map fed_pair (feed_of n es)) none;
    }

pub new_weight : (c : CoreModel) → c.state ≡ opening → c.events ≡ [] → weight c ≡ 0
new_weight c state none = λ i. length (none i) + ends_of (state i)

-- no limit is reached by as many lines as a run can take
never_full : (policies : List Policy) (seg : Segments) (before after : Reach) (c d : CoreModel) (n : ℕ) → weight c ≡ 0 → n ≤ script_limit → GoesOn policies seg before after c d n → NoPlace 2 d → ⊥
never_full policies seg before after c d n light few goes full =
    let place : LIMIT < weight d + 2 = full in
    let less : weight d ≤ weight c + 2 * n = goes.grows in
    omega (arith, place, less, light, few)

module _ (policies : List Policy) (before after : Reach) (c d : CoreModel) (n : ℕ) (light : weight c ≡ 0) (few : n ≤ script_limit) (goes : GoesOn policies None before after c d n) where
  run_ends : (options : Options) → IsFirstCore options c → (e : SlateDBError) → Ends policies None before after c d e → unblamed e after.faults ≡ unblamed e before.faults → EndsBy policies options before after e
  run_ends options first e h still = record { why = by h.why; still = still }
    where
      by : WhyEnds policies None before after c d e → WhyRunEnds policies options before after e
      by (WhyEnds.by_fault fault) = WhyRunEnds.by_fault fault
      by (WhyEnds.by_read m between k id on read) = WhyRunEnds.by_read c k m between id first on read
      by (WhyEnds.by_limit is place) = absurd (never_full policies None before after c d n light few goes place)

  run_fault : IsSettledIn policies None before c → (e : SlateDBError) → Ends policies None before after c d e → IsFault before after e
  run_fault settled e h = by (h.settled settled)
    where
      by : IsFault before after e ⊎ ((e ≡ LimitReached LIMIT) × NoPlace 2 d) → IsFault before after e
      by (inl fault) = fault
      by (inr limit) = absurd (never_full policies None before after c d n light few goes limit.1)

cause_map : (source sink : Type 0) (P Q : SlateDBError → Type 0) (e : SlateDBError) → (P e → Q e) → IsRunCause source sink P e → IsRunCause source sink Q e
cause_map source sink P Q e f (inl h) = inl h
cause_map source sink P Q e f (inr (inl h)) = inr (inl h)
cause_map source sink P Q e f (inr (inr (inl h))) = inr (inr (inl h))
cause_map source sink P Q e f (inr (inr (inr (inl h)))) = inr (inr (inr (inl h)))
cause_map source sink P Q e f (inr (inr (inr (inr (inl h))))) = inr (inr (inr (inr (inl h))))
cause_map source sink P Q e f (inr (inr (inr (inr (inr h))))) = inr (inr (inr (inr (inr (f h)))))

module _ {V P : Type 0} {policies : P → List Policy} {reach : P → Reach} {core : P → CoreModel} {ended : P → Bool} {p q : P} {n : ℕ} {after : Reach} where
  pub ended_by : (A B : Type 0) (options : Options) (result : Result V SlateDBError) → GoesBetween policies reach core ended p q n → IfErr result (IsRunCause A B (EndsBetween policies reach core ended p q)) → reach q ≡ after → IsFirstCore options (core p) →
      weight (core p) ≡ 0 → n ≤ script_limit → IfErr result (IsRunCause A B (EndsBy (policies p) options (reach p) after))
  ended_by A B options (Ok v) goes cause same first light few = tt
  ended_by A B options (Err e) goes cause same first light few =
      cause_map A B (EndsBetween policies reach core ended p q) (EndsBy (policies p) options (reach p) after) e
      (λ x. subst (λ t. EndsBy (policies p) options (reach p) t e) same (run_ends (policies p) (reach p) (reach q) (core p) (core q) n light few goes.goes options first e x.error x.still)) cause

  pub ended_fault : (A B : Type 0) (result : Result V SlateDBError) → GoesBetween policies reach core ended p q n → IfErr result (IsRunCause A B (EndsBetween policies reach core ended p q)) → reach q ≡ after → weight (core p) ≡ 0 → n ≤ script_limit →
      IsSettledIn (policies p) None (reach p) (core p) → IfErr result (IsRunCause A B (IsFault (reach p) after))
  ended_fault A B (Ok v) goes cause same light few settled = tt
  ended_fault A B (Err e) goes cause same light few settled =
      cause_map A B (EndsBetween policies reach core ended p q) (IsFault (reach p) after) e
      (λ x. subst (λ t. IsFault (reach p) t e) same (run_fault (policies p) (reach p) (reach q) (core p) (core q) n light few goes.goes settled e x.error)) cause
