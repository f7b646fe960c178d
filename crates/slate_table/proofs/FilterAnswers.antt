-- What the filters of a part answer that are asked where they stand.
--     asks_on, asks_no_more, all_asked      the answers so far and those still to be asked: one more, a refusal, and none left
--     answers_are, no_count      the filters that a part counts, asked
--     part_answers      the answer of a call: what the filters say, or why the part is refused
use Rattle.std.proofs.Common.{◌≡◌, ℕ, suc, ◌+◌, ◌-◌, ◌<◌, ◌≤◌, Bool, true, false, cond, eqb, List, ◌∷◌, length, Option, Some, None, Ok, Err, refl, sym, ap, ◌∙◌, inl, inr, arith}
use Rattle.std.specs.Prelude.{Result, IfOk, IfErr}
use Rattle.std.specs.Int.{w16}
use Rattle.std.specs.Option.{ok_or}
use Rattle.std.specs.Result.{result_unwrap_or}
use Rattle.std.proofs.lemmas.Bool.Decides.{nat_tests}
use Rattle.slate_types.specs.declared.error.SlateDBError.{SlateDBError}
use Rattle.slate_types.specs.declared.error.SlateDBError.TheVariants.{CorruptTable, InvalidFilterBlock}
use Rattle.slate_types.specs.declared.filter_policy.FilterQuery.{FilterQuery}
use Rattle.slate_block.specs.Damage.{◌>>=◌, Field, number_field}
use Rattle.slate_block.proofs.Groups.{IsBytes}
use Rattle.slate_filter.specs.Asking.{also, asked_by, asked}
use Rattle.slate_filter.specs.Policy.{Policy}
use Rattle.slate_table.specs.Filtered.{AnswersFilterPart, RefusesFilterPart}
use Rattle.slate_table.specs.FiltersReading.{filter_field, filters_from, filters_in, filters_say, filters_say_from}
use Rattle.slate_table.proofs.FiltersReads.{Filter, filters_reads, no_filters}

also_true : (o : Option Bool) → also o (Some true) ≡ o
also_true None = refl
also_true (Some true) = refl
also_true (Some false) = refl

also_also : (o p q : Option Bool) → also (also o p) q ≡ also o (also p q)
also_also None p q = refl
also_also (Some true) p q = refl
also_also (Some false) p q = refl

asks_one : (ps : List Policy) (q : FilterQuery) (o : Option Bool) (f : Filter) (read : Field (List Filter)) → filters_say_from ps q o (read >>= λ rest. Ok (f ∷ rest.0, rest.1)) ≡ filters_say_from ps q (also o (asked_by ps q f)) read
asks_one ps q o f (Ok x) = ap (λ (a : Option Bool). Ok (a, x.1)) (sym (also_also o (asked_by ps q f) (asked ps x.0 q)))
asks_one ps q o f (Err d) = refl

pub asks_on : (ps : List Policy) (q : FilterQuery) (o : Option Bool) (count i : ℕ) (bytes : List ℕ) (at : ℕ) (f : Filter) (next : ℕ) (total : Field (Option Bool)) → i < count → filter_field bytes at ≡ Ok (f, next) →
    filters_say_from ps q o (filters_from (count - i) bytes at) ≡ total → filters_say_from ps q (also o (asked_by ps q f)) (filters_from (count - (i + 1)) bytes next) ≡ total
unfolding filters_from
asks_on ps q o count i bytes at f next total lt h so_far =
    let k : count - i ≡ suc (count - (i + 1)) = omega arith in
    let one : filters_say_from ps q o (filters_from (count - i) bytes at) ≡ filters_say_from ps q (also o (asked_by ps q f)) (filters_from (count - (i + 1)) bytes next) =
    rw (k, h) (asks_one ps q o f (filters_from (count - (i + 1)) bytes next)) in
    sym one ∙ so_far

pub asks_no_more : (ps : List Policy) (q : FilterQuery) (o : Option Bool) (count i : ℕ) (bytes : List ℕ) (at : ℕ) (d : SlateDBError) (total : Field (Option Bool)) → i < count → filter_field bytes at ≡ Err d →
    filters_say_from ps q o (filters_from (count - i) bytes at) ≡ total → total ≡ Err d
unfolding filters_from
asks_no_more ps q o count i bytes at d total lt h so_far =
    let k : count - i ≡ suc (count - (i + 1)) = omega arith in
    let one : filters_say_from ps q o (filters_from (count - i) bytes at) ≡ Err d = rw (k, h) refl in
    sym so_far ∙ one

pub all_asked : (ps : List Policy) (q : FilterQuery) (o : Option Bool) (count i : ℕ) (bytes : List ℕ) (at : ℕ) (total : Field (Option Bool)) → count ≤ i →
    filters_say_from ps q o (filters_from (count - i) bytes at) ≡ total → total ≡ Ok (o, at)
unfolding filters_from
all_asked ps q o count i bytes at total le so_far =
    let k : count - i ≡ 0 = omega arith in
    let one : filters_say_from ps q o (filters_from (count - i) bytes at) ≡ Ok (o, at) = rw k (ap (λ (a : Option Bool). Ok (a, at)) (also_true o)) in
    sym so_far ∙ one

-- ---- a part

-- nothing is left over
at_end : List ℕ → Option Bool × ℕ → Result (Option Bool) SlateDBError
at_end bytes a = cond (eqb a.1 (length bytes)) (Ok a.0) (Err (CorruptTable a.1))

counted_answers : (ps : List Policy) (q : FilterQuery) (bytes : List ℕ) (count at : ℕ) → number_field w16 bytes 0 ≡ Ok (count, at) →
    filters_say ps q (filters_in bytes) ≡ (filters_say_from ps q (Some true) (filters_from count bytes at) >>= at_end bytes)
unfolding filters_in at_end
counted_answers ps q bytes count at h = rw h (by (filters_from count bytes at))
  where
    ended : (fs : List Filter) (next : ℕ) (t : Bool) → filters_say ps q (cond t (Ok fs) (Err (CorruptTable next))) ≡ cond t (Ok (asked ps fs q)) (Err (CorruptTable next))
    ended fs next true = refl
    ended fs next false = refl

    by : (read : Field (List Filter)) → filters_say ps q (read >>= λ fs. cond (eqb fs.1 (length bytes)) (Ok fs.0) (Err (CorruptTable fs.1))) ≡ (filters_say_from ps q (Some true) read >>= at_end bytes)
    by (Ok x) = ended x.0 x.1 (eqb x.1 (length bytes))
    by (Err d) = refl

pub no_count : (ps : List Policy) (q : FilterQuery) (bytes : List ℕ) (d : SlateDBError) → Err d ≡ number_field w16 bytes 0 → Err d ≡ filters_say ps q (filters_in bytes)
unfolding filters_in
no_count ps q bytes d h = rw (sym h) refl

pub no_answer : (ps : List Policy) (q : FilterQuery) (bytes : List ℕ) (count at : ℕ) (d : SlateDBError) → Ok (count, at) ≡ number_field w16 bytes 0 → Err d ≡ filters_say_from ps q (Some true) (filters_from count bytes at) → Err d ≡ filters_say ps q (filters_in bytes)
unfolding at_end
no_answer ps q bytes count at d h k = rw (counted_answers ps q bytes count at (sym h), sym k) refl

pub ends_there : (ps : List Policy) (q : FilterQuery) (bytes : List ℕ) (count at : ℕ) (o : Option Bool) (end : ℕ) → Ok (count, at) ≡ number_field w16 bytes 0 → Ok (o, end) ≡ filters_say_from ps q (Some true) (filters_from count bytes at) → end ≡ length bytes →
    Ok o ≡ filters_say ps q (filters_in bytes)
unfolding at_end
ends_there ps q bytes count at o end h k e =
    let all : eqb end (length bytes) ≡ true = grind (arith, nat_tests, e) in
    rw (counted_answers ps q bytes count at (sym h), sym k, all) refl

pub goes_past : (ps : List Policy) (q : FilterQuery) (bytes : List ℕ) (count at : ℕ) (o : Option Bool) (end : ℕ) (d : SlateDBError) → Ok (count, at) ≡ number_field w16 bytes 0 → Ok (o, end) ≡ filters_say_from ps q (Some true) (filters_from count bytes at) → (end ≡ length bytes → ⊥) → d ≡ CorruptTable end →
    Err d ≡ filters_say ps q (filters_in bytes)
unfolding at_end
goes_past ps q bytes count at o end d h k e is =
    let more : eqb end (length bytes) ≡ false = grind (arith, nat_tests, e) in
    rw (counted_answers ps q bytes count at (sym h), sym k, more) (ap (λ (x : SlateDBError). Err x) is)

-- ---- the call

pub record Says (ps : List Policy) (q : FilterQuery) (part : List ℕ) (r : Result Bool SlateDBError) : Type 0 where
  pub answer : IfOk r (AnswersFilterPart ps q part)
  pub cause : IfErr r (RefusesFilterPart ps q part)

pub part_answers : (ps : List Policy) (q : FilterQuery) (part : List ℕ) (r : Result (Option Bool) SlateDBError) → r ≡ filters_say ps q (filters_in part) → IfOk r (λ _. IsBytes part) →
    Says ps q part (ok_or (result_unwrap_or r None) (InvalidFilterBlock (length part)))
part_answers ps q part r is fits = by r (filters_in part) refl is fits
  where
    by : (r : Result (Option Bool) SlateDBError) (read : Result (List Filter) SlateDBError) → filters_in part ≡ read → r ≡ filters_say ps q read → IfOk r (λ _. IsBytes part) →
        Says ps q part (ok_or (result_unwrap_or r None) (InvalidFilterBlock (length part)))
    by (Err e) (Ok fs) h is fits = absurd cc
    by (Ok o) (Err d) h is fits = absurd cc
    by (Err e) (Err d) h is fits = record { answer = tt; cause = inl (refl, no_filters part d h) }
    by (Ok None) (Ok fs) h is fits = record { answer = tt; cause = inr (fs, filters_reads part fs fits h, (let same : Ok (asked ps fs q) ≡ Ok None = sym is in cc), refl) }
    by (Ok (Some b)) (Ok fs) h is fits = record { answer = (fs, filters_reads part fs fits h, (let same : Ok (asked ps fs q) ≡ Ok (Some b) = sym is in cc)); cause = tt }
