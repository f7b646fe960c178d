-- What a call of the core says of the parts, in the words of a run.
use Rattle.std.proofs.Common.{◌≡◌, ℕ, List, [], ◌∷◌, suc, ◌≤◌, ◌<◌, ◌+◌, ◌-◌, ◌^◌, ◌⊎◌, inl, inr, Result, Ok, Err, sym, ◌∙◌, arith}
use Rattle.std.specs.Prelude.{◌≢◌}
use Rattle.std.proofs.Math.Nat.{lt_of_not-le}
use Rattle.slate_types.specs.declared.error.SlateDBError.{SlateDBError}
use Rattle.slate_types.specs.declared.error.SlateDBError.TheVariants.{MergeOperatorMissing}
use Rattle.slate_types.specs.Outside.{Objects, IsFault, Reach}
use Rattle.slate_filter.specs.Policy.{Policy}
use Rattle.slate_table.specs.TableBuilding.{max_blocks}
use Rattle.slate_db.specs.Answered.{AnswersFrom}
use Rattle.slate_db.specs.Checked.{ChecksFrom, OrSlips}
use Rattle.slate_db.specs.Flushed.{IsFlushError, Layout, events_of_flush}
use Rattle.slate_types.specs.World.{Made}
use Rattle.slate_db.specs.Readable.{IsAnswered, IsReadable, IsReadError, IsRefusedBy, reader_at}
use Rattle.slate_db.specs.Model.{CoreModel, Rows}
use Rattle.slate_db.specs.Shown.{Asking}
use Rattle.slate_db.proofs.Shown.{refused_kind}
use Rattle.slate_script.proofs.Running.{not_damage}
use Rattle.slate_script.proofs.Slips.{holds_as}
use Rattle.slate_db.specs.Parts.{IsTableError}
use Rattle.slate_db.specs.Log.{LIMIT}
use Rattle.slate_script.specs.Session.{SessionModel, IsLimit, held_load}
use Rattle.slate_script.specs.Told.{IsRefusedInGet, asking_for}

two_at_most : (active : Rows) (layers : List Rows) → events_of_flush active layers ≤ 2
two_at_most [] [] = omega arith
two_at_most [] (rows ∷ layers) = omega arith
two_at_most (r ∷ rs) layers = omega arith

pub flush_cause : (before after : Reach) (layout : Layout) (session : SessionModel) (e : SlateDBError) → IsFlushError layout before after session.core e → IsFault before after e ⊎ IsLimit session e ⊎ (e ≡ MergeOperatorMissing)
flush_cause before after layout session e (inl fault) = inl fault
flush_cause before after layout session e (inr (inl (is, more))) = inr (inl (LIMIT, is, inl (omega (arith, more, two_at_most session.core.active session.core.frozen))))
flush_cause before after layout session e (inr (inr (inl (rows, folded, order, large, much)))) = let full : 2 ^ 32 - 1 < held_load session = omega (arith, much) in inr (inl (max_blocks, large.large.is, inr full))
flush_cause before after layout session e (inr (inr (inr wants))) = inr (inr wants.0)

-- where an operator isn't wanted
pub operable_cause : (before after : Reach) (session : SessionModel) (e : SlateDBError) → e ≢ MergeOperatorMissing → IsFault before after e ⊎ IsLimit session e ⊎ (e ≡ MergeOperatorMissing) → IsFault before after e ⊎ IsLimit session e
operable_cause before after session e operable (inl fault) = inl fault
operable_cause before after session e operable (inr (inl limit)) = inr limit
operable_cause before after session e operable (inr (inr wants)) = absurd (operable wants)

-- what isn't refused has room
pub has_room : (n events txns more : ℕ) (r : Result ℕ SlateDBError) (seq : ℕ) (e : SlateDBError) → r ≡ Ok seq → (n < events + txns + more → r ≡ Err e) → events ≤ n
has_room n events txns more r seq e ok limit = let below : events < suc n = lt_of_not-le passed in omega (arith, below)
  where
    passed : suc n ≤ events → ⊥
    passed over = let clash : Ok seq ≡ Err e = sym ok ∙ limit (omega (arith, over)) in cc

pub get_cause : (by : Asking) (upto : ℕ) (before after : Reach) (c : CoreModel) (e : SlateDBError) → IsReadError by upto before after c e → IsFault before after e ⊎ IsTableError e
get_cause by upto before after c e (inl fault) = inl fault
get_cause by upto before after c e (inr made) = inr (refused_kind by upto before.meaning c made.0 e made.2)

-- what isn't a fault is shown
pub get_shown : (by : Asking) (upto : ℕ) (before after : Reach) (c : CoreModel) (e : SlateDBError) → IsReadError by upto before after c e → IsTableError e → Made before after (λ reads. IsRefusedBy by upto before.meaning c reads e)
get_shown by upto before after c e (inl fault) error = absurd (not_damage {X = Unit {0}} before.faults after.faults e (inl fault) error)
get_shown by upto before after c e (inr made) error = made

-- a get by one that the core has open is refused so
pub get_refused_at : (policies : List Policy) (k id : List ℕ) (before after : Reach) (c : CoreModel) (e : SlateDBError) → IsReadError (asking_for policies k) (reader_at c.state id) before after c e →
    IsFault before after e ⊎ Made before after (λ reads. IsRefusedInGet policies k before.meaning c reads e)
get_refused_at policies k id before after c e (inl fault) = inl fault
get_refused_at policies k id before after c e (inr made) = inr (made.0, made.1, (id, made.2))

-- ---- what a session reads

-- what holds where each read was answered by the objects holds, or a section slipped
pub checked_reads : (P : Type 0) (policies : List Policy) (os : Objects) (before after : Reach) (c : CoreModel) → IsReadable policies before.meaning os c → (IsAnswered policies before after c → P) → ChecksFrom os before after → OrSlips os before after P
checked_reads P policies os before after c readable answered checks = holds_as (AnswersFrom os before after) P os before after (λ answers. answered (record { os = os; readable = readable; answers = answers })) checks
