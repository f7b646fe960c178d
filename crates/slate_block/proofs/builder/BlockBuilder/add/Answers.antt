use Rattle.std.proofs.Common.{◌≡◌, ◌<◌, ◌^◌, ◌∙◌, ◌+◌, true, refl, sym, ap, length, arith, rules, inr, inl, Bool, Ok, Result, false, Err}
use Rattle.std.proofs.lemmas.Bool.{eqb-true}
use Rattle.std.proofs.lemmas.Bool.Decides.{nat_tests}
use Rattle.std.proofs.lemmas.Result.{err_from_is_err_and, IfOk-from_err}
use Rattle.slate_block.specs.RowSpelling.{FitsStamp}
use Rattle.slate_block.specs.BlockSpelling.{FitsRow, longest}
use Rattle.slate_block.specs.Building.{Building, number, front_key, with_row}
use Rattle.slate_block.specs.Fitting.{fits_in}
use Rattle.slate_block.proofs.HeldLaws.{PartHeld, Leaves, no_key, other_error, taken_or_not, held_room, tried_held, seen_same, seen_longer}
use Rattle.slate_block.proofs.Failing.{never}
use Rattle.slate_types.specs.declared.error.SlateDBError.{SlateDBError}
use Rattle.slate_types.specs.declared.error.SlateDBError.TheVariants.{EmptyKey}
use Rattle.slate_block.proofs.builder.BlockBuilder.add.Goals as goal

yes_no : ◌≡◌ {A = Result Bool SlateDBError} (Ok false) (Ok true) → ⊥
yes_no e = cc

-- what is known where the row is taken
leaves : (c : goal.After-append-arg-1) → Leaves c.shared-shared.result c.self.inside.part c.self.inside.held c.args.entry
leaves c = record { out = c.shared-shared.ensures.front ∙ ap (λ (b : Building). longest (front_key b.version b.rows) c.args.entry.key) (sym c.self.view_is) }

fits : (c : goal.After-append-arg-1) → fits_in c.self.inside.block_size (number c.self.inside.part.version) c.self.inside.held.0.0 c.args.entry ≡ true
fits c =
    ap (λ (b : Building). fits_in b.size b.version b.rows c.args.entry) c.self.view_is ∙ sym c.has_room.ensures ∙ c.if-not-has_room.false

space : (c : goal.After-append-arg-1) → (length c.self.inside.part.body.items < 2 ^ 16) × (c.self.inside.part.num_rows + 1 < 2 ^ 16)
space c = held_room c.self.inside.block_size c.shared-shared.result c.self.inside.part c.self.inside.held c.args.entry (leaves c) c.self.invariant (fits c)

fits_row : (c : goal.After-append-arg-1) → FitsRow c.args.entry
fits_row c =
    let some : 0 < length c.args.entry.key = grind (arith, nat_tests) in
    let create : FitsStamp c.args.entry.create_ts = search rules in
    let expire : FitsStamp c.args.entry.expire_ts = search rules in
    record { key = (some, c.requires.0); value = c.requires.1; seq = omega arith; create = create; expire = expire }

pub append-requires-clause-place : goal.append-requires-clause-place
append-requires-clause-place c = (space c).0

pub append-requires-clause-few : goal.append-requires-clause-few
append-requires-clause-few c = (space c).1

pub invariant_of-self-inside : goal.invariant_of-self-inside
invariant_of-self-inside c =
    (tried_held c.append.result c.shared-shared.result c.self.inside.part c.append.new.self c.args.entry c.self.inside.held (leaves c.before) (fits_row c.before) (space c.before) c.append.ensures.appended c.append.ensures.unchanged, tt)

pub returns-in_err-append : goal.returns-in_err-append
returns-in_err-append c =
    let p = err_from_is_err_and c.from_residual.result c.from_residual.ensures.1 in
    record {
      empty = (λ e. absurd (other_error _ _ p.1 (p.2 ∙ c.in_err-append.ensures.cause) e), λ zero. absurd (no_key c.is_empty.result c.args.entry.key c.is_empty.ensures c.if-is_empty.false zero));
      fits = IfOk-from_err c.from_residual.result _ c.from_residual.ensures.0;
      taken = never c.from_residual.result c.from_residual.ensures.0;
      refused = never c.from_residual.result c.from_residual.ensures.0;
      unchanged = (let same = λ (k : PartHeld c.append.new.self). seen_same c.self.inside.block_size c.self.inside.part c.append.new.self c.self.inside.held k c.in_err-append.ensures.unchanged ∙ c.self.view_is in
          rw p.1 (search (rules, same)));
      few = never c.from_residual.result c.from_residual.ensures.0;
      cause = rw (p.1, p.2) (inr c.in_err-append.ensures.cause);
    }

pub returns-clause-taken : goal.returns-clause-taken
returns-clause-taken c =
    let longer = λ (k : PartHeld c.append.new.self). seen_longer c.self.inside.block_size c.shared-shared.result c.self.inside.part c.append.new.self c.args.entry c.self.inside.held k
    (leaves c.before.before.before.before) (fits_row c.before.before.before.before) (space c.before.before.before.before) c.in_ok-append.ensures.appended
    ∙ ap (λ (b : Building). with_row b c.args.entry) c.self.view_is in
    λ _. search (rules, longer)

-- ---- no key

pub returns-then-is_empty : goal.returns-then-is_empty
returns-then-is_empty c =
    record {
      empty = (λ _. eqb-true (length c.args.entry.key) 0 (sym c.is_empty.ensures ∙ c.if-is_empty.true), λ _. refl);
      fits = tt;
      taken = never {T = Bool} (Err EmptyKey) refl;
      refused = never {T = Bool} (Err EmptyKey) refl;
      unchanged = refl;
      few = never {T = Bool} (Err EmptyKey) refl;
      cause = inl refl;
    }

pub has_room-requires-clause-front : goal.has_room-requires-clause-front
has_room-requires-clause-front c = c.shared-shared.ensures.front

pub has_room-requires-clause-within : goal.has_room-requires-clause-within
has_room-requires-clause-within c = c.shared-shared.ensures.within

pub append-requires-clause-shared : goal.append-requires-clause-shared
append-requires-clause-shared c = c.shared-shared.ensures.within

pub invariant_of-self : goal.invariant_of-self
invariant_of-self c = c.self.invariant

pub invariant_of-self-2 : goal.invariant_of-self-2
invariant_of-self-2 c = c.self.invariant

-- ---- no room

pub returns-then-not-has_room : goal.returns-then-not-has_room
returns-then-not-has_room c =
    record {
      empty = (λ e. absurd (taken_or_not _ _ e), λ zero. absurd (no_key c.is_empty.result c.args.entry.key c.is_empty.ensures c.if-is_empty.false zero));
      fits = sym c.if-not-has_room.true ∙ c.has_room.ensures;
      taken = λ e. absurd (yes_no e);
      refused = λ _. refl;
      unchanged = tt;
      few = λ e. absurd (yes_no e);
      cause = tt;
    }

-- ---- the row is tried

pub returns-clause-empty : goal.returns-clause-empty
returns-clause-empty c = (λ e. absurd (taken_or_not _ _ e), λ zero. absurd (no_key c.is_empty.result c.args.entry.key c.is_empty.ensures c.if-is_empty.false zero))

pub returns-clause-fits : goal.returns-clause-fits
returns-clause-fits c = sym c.if-not-has_room.false ∙ c.has_room.ensures
