-- What the sink took in a run, by the status that the run ends with.
--     written_ok, written_err      of a run that ended well, and of one that an error ended
--     written_or_slips, refused_or_slips      the same, or a section slipped
--     summed_ok, summed_err, summed_or_slips, cut_or_slips      the same of a run that writes one line
use Rattle.std.proofs.Common.{◌≡◌, ◌⊎◌, ◌≤◌, inl, inr, ℕ, List, Option, Some, Ok, Err, refl, sym, ap, subst, ◌∙◌, arith}
use Rattle.slate_types.specs.declared.error.SlateDBError.{SlateDBError}
use Rattle.slate_types.specs.declared.error.SlateDBError.TheVariants.{BlockTransformError, Callback, OutOfMemory, StoreFault}
use Rattle.slate_txn.specs.State.{Rules}
use Rattle.slate_db.specs.Parts.{IsTableError}
use Rattle.slate_script.specs.Program.{status, HasSummed, HasWritten, IsDamageStatus}
use Rattle.slate_script.specs.Run.{script_error, HasSaid, HasTold, IsOutside, IsPartError, IsScriptError}
use Rattle.slate_script.proofs.Mains.{status_or_either}
use Rattle.slate_script.proofs.Statuses.{damage_between, is_damage, is_ended, is_part, is_read, is_write, its_own}

table_part : (e : SlateDBError) → IsTableError e → IsPartError e
table_part StoreFault damage = tt
table_part (Callback message) damage = tt
table_part BlockTransformError damage = tt
table_part e damage = damage

no_script : (n : ℕ) → n ≡ 0 → (n ≡ 3) ⊎ (n ≡ 4) → ⊥
no_script n is (inl h) = omega (arith, is, h)
no_script n is (inr h) = omega (arith, is, h)

no_part : (n : ℕ) → n ≡ 0 → (n ≡ 7) ⊎ IsDamageStatus n ⊎ (n ≡ 20) → ⊥
no_part n is (inl h) = omega (arith, is, h)
no_part n is (inr (inl h)) = let low = (damage_between n h).0 in omega (arith, is, low)
no_part n is (inr (inr h)) = omega (arith, is, h)

pub written_ok : {T : Type 0} {v : T} (r : Rules) (script : List ℕ) (left : Option (List ℕ)) (before : List ℕ) (after : Option (List ℕ)) → HasSaid {T = T} r script left before after (Ok v) → HasWritten r script left before after 0
written_ok r script left before after says = record {
  whole = λ zero. says.whole;
  by_script = λ which. absurd (no_script 0 refl which);
  by_source = λ five. absurd (omega (arith, five));
  by_sink = λ six. absurd (omega (arith, six));
  by_part = λ which. absurd (no_part 0 refl which);
}

pub written_err : {T : Type 0} (r : Rules) (script : List ℕ) (left : Option (List ℕ)) (before : List ℕ) (after : Option (List ℕ)) (e : SlateDBError) (n : ℕ) → n ≡ status e → IsOutside e ⊎ IsScriptError e → IsOutside e ⊎ (script_error script ≡ Some e) →
    HasSaid {T = T} r script left before after (Err e) → HasWritten r script left before after n
written_err r script left before after e n is ends own says = record {
  whole = λ zero. absurd (is_ended e ends (inl (sym is ∙ zero)));
  by_script = λ which. says.by_script (its_own (script_error script) e own (status_or_either is which));
  by_source = λ five. says.by_source (ap Err (is_read e ends (sym is ∙ five)));
  by_sink = λ six. says.by_sink (ap Err (is_write e ends (sym is ∙ six)));
  by_part = λ which. says.by_part (part which);
}
  where
    part : (n ≡ 7) ⊎ IsDamageStatus n ⊎ (n ≡ 20) → (e ≡ OutOfMemory) ⊎ IsPartError e
    part (inl h) = is_part e ends (inl (sym is ∙ h))
    part (inr (inl h)) = let within = subst (λ (k : ℕ). (12 ≤ k) × (k ≤ 19)) is (damage_between n h) in inr (table_part e (is_damage e ends within.0 within.1))
    part (inr (inr h)) = is_part e ends (inr (sym is ∙ h))

pub written_or_slips : {T S : Type 0} {v : T} (r : Rules) (script : List ℕ) (left : Option (List ℕ)) (before : List ℕ) (after : Option (List ℕ)) → HasSaid {T = T} r script left before after (Ok v) ⊎ S → HasWritten r script left before after 0 ⊎ S
written_or_slips r script left before after (inl says) = inl (written_ok r script left before after says)
written_or_slips r script left before after (inr slips) = inr slips

pub refused_or_slips : {T S : Type 0} (r : Rules) (script : List ℕ) (left : Option (List ℕ)) (before : List ℕ) (after : Option (List ℕ)) (e : SlateDBError) (n : ℕ) → n ≡ status e → IsOutside e ⊎ IsScriptError e → IsOutside e ⊎ (script_error script ≡ Some e) →
    HasSaid {T = T} r script left before after (Err e) ⊎ S → HasWritten r script left before after n ⊎ S
refused_or_slips r script left before after e n is ends own (inl says) = inl (written_err r script left before after e n is ends own says)
refused_or_slips r script left before after e n is ends own (inr slips) = inr slips

-- ---- one line

pub summed_ok : {T : Type 0} {v : T} (line before : List ℕ) (after : Option (List ℕ)) → HasTold {T = T} line before after (Ok v) → HasSummed line before after 0
summed_ok line before after tells = record { whole = λ zero. tells.whole; begun = λ six. absurd (omega (arith, six)) }

pub summed_err : {T : Type 0} (line before : List ℕ) (after : Option (List ℕ)) (e : SlateDBError) (n : ℕ) → n ≡ status e → IsOutside e ⊎ IsScriptError e → HasTold {T = T} line before after (Err e) → HasSummed line before after n
summed_err line before after e n is ends tells = record { whole = λ zero. absurd (is_ended e ends (inl (sym is ∙ zero))); begun = λ six. tells.begun (ap Err (is_write e ends (sym is ∙ six))) }

pub summed_or_slips : {T S : Type 0} {v : T} (line before : List ℕ) (after : Option (List ℕ)) → HasTold {T = T} line before after (Ok v) ⊎ S → HasSummed line before after 0 ⊎ S
summed_or_slips line before after (inl tells) = inl (summed_ok line before after tells)
summed_or_slips line before after (inr slips) = inr slips

pub cut_or_slips : {T S : Type 0} (line before : List ℕ) (after : Option (List ℕ)) (e : SlateDBError) (n : ℕ) → n ≡ status e → IsOutside e ⊎ IsScriptError e → HasTold {T = T} line before after (Err e) ⊎ S → HasSummed line before after n ⊎ S
cut_or_slips line before after e n is ends (inl tells) = inl (summed_err line before after e n is ends tells)
cut_or_slips line before after e n is ends (inr slips) = inr slips
