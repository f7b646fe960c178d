use Rattle.std.proofs.Common.{◌∷◌, [], ◌++◌, ◌≡◌, ℕ, ◌^◌, ◌<◌, List, map, length, inl, refl, arith, ap, ◌∙◌, rules, length-append}
use Rattle.std.proofs.lemmas.List.{length-map, map-append}
use Rattle.std.proofs.lemmas.Result.{IfOk-from_err, err_from_is_err_and}
use Rattle.slate_types.specs.declared.types.Ulid.{Ulid}
use Rattle.slate_types.specs.Outside.{Meaning, unblamed}
use Rattle.slate_types.proofs.Reaching.{puts_none, puts_then}
use Rattle.slate_types.proofs.StillLaws.{unasked_still}
use Rattle.slate_store.specs.Reach.{reach_of}
use Rattle.slate_db.specs.declared.cut.TableRows.{TableRows}
use Rattle.slate_table.specs.Paths.{table_id}
use Rattle.slate_db.specs.StoredParts.{IsPlace}
use Rattle.slate_db.proofs.Adding.{adds_puts, adds_same, adds_then}
use Rattle.slate_db.proofs.Built.{may_keep}
use Rattle.slate_db.proofs.RunSoFar.{next_builds, one_prefix, one_so_far, one_turned, refused_run, some_taken}
use Rattle.slate_db.proofs.flush.stored_tables.Goals as goal

-- the place of the next table: how many lists are left
next_place : (id : Ulid) (number count : ℕ) (rest : List TableRows) →
    id.0 ≡ table_id number count → count ≡ length rest → count < 2 ^ 64 →
    IsPlace id number (length (map (λ (t : TableRows). t.rows.items) rest))
next_place id number count rest is same fits =
    let places = length-map rest (λ (t : TableRows). t.rows.items) in
    record { is = omega (arith, is, same, places); fits = omega (arith, same, places, fits) }

pub stored_table-requires-clause-ready : goal.stored_table-requires-clause-ready
stored_table-requires-clause-ready g c = λ κs lives.
    let popped : c.loop-part.left.items ≡ c.pop.new.self.items ++ (c.in-Some.part ∷ []) =
    search rules in
    let next = ap (map (λ t. t.rows.items)) popped
    ∙ map-append (λ t. t.rows.items) c.pop.new.self.items (c.in-Some.part ∷ []) in
    next_builds _ _ _ _ _ _ _ _ _ _ c.loop-part.invariant.far next c.requires.each

pub returns-in_err-table : goal.returns-in_err-table
returns-in_err-table g c =
    let p = err_from_is_err_and c.from_residual-in_err-table.result
    c.from_residual-in_err-table.ensures.1 in
    let was = c.loop-part.invariant in
    let popped : c.loop-part.left.items ≡ c.pop.new.self.items ++ (c.in-Some.part ∷ []) =
    search rules in
    let next = ap (map (λ t. t.rows.items)) popped
    ∙ map-append (λ t. t.rows.items) c.pop.new.self.items (c.in-Some.part ∷ []) in
    let before = reach_of g.S.Store g.M.MergeOperator g.T.BlockTransformer c.args.env.now in
    let now = reach_of g.S.Store g.M.MergeOperator g.T.BlockTransformer c.loop-part.env in
    let after = reach_of g.S.Store g.M.MergeOperator g.T.BlockTransformer c.stored_table.new.env in
    record {
      stored = IfOk-from_err c.from_residual-in_err-table.result _
          c.from_residual-in_err-table.ensures.0;
      acts = IfOk-from_err c.from_residual-in_err-table.result _
          c.from_residual-in_err-table.ensures.0;
      prefixes = IfOk-from_err c.from_residual-in_err-table.result _
          c.from_residual-in_err-table.ensures.0;
      leaves = record {
        adds = adds_then before.acts now.acts after.acts
            (adds_puts _ before.acts now.acts was.far.acts) c.stored_table.ensures.adds;
        refused = rw p.1
            (some_taken before now after _ _ _ _ _ _ _ _ was.far next
            (ap (λ (m : Meaning). m.encode) was.puts.meaning)
            (c.in_err-table.ensures.refused c.args.number
            (length (map (λ t. t.rows.items) c.pop.new.self.items))
            (next_place _ c.args.number c.len-in-Some.result c.pop.new.self.items
            (omega arith) (c.len-in-Some.ensures ∙ c.pop.new.self.ok.0) c.len-in-Some.type_inv)));
        cause = rw (p.1, p.2) (refused_run before now after _ _ _ _ _ _ _ _ _ was.far next
            was.puts.later c.in_err-table.ensures.cause);
        operator = c.stored_table.ensures.operator ∙ was.operator;
        puts = puts_then _ _ _ was.puts c.stored_table.ensures.puts;
        still = rw (p.1, p.2)
            (c.in_err-table.ensures.still ∙ ap (unblamed c.in_err-table.field-0.0) was.still);
      };
    }

pub loop-part-preserved : goal.loop-part-preserved
loop-part-preserved g c =
    let was = c.loop-part.invariant in
    let popped : c.loop-part.left.items ≡ c.pop.new.self.items ++ (c.in-Some.part ∷ []) =
    search rules in
    let next = ap (map (λ t. t.rows.items)) popped
    ∙ map-append (λ t. t.rows.items) c.pop.new.self.items (c.in-Some.part ∷ []) in
    let named = ap (map (λ t. t.prefix)) popped
    ∙ map-append (λ t. t.prefix) c.pop.new.self.items (c.in-Some.part ∷ []) in
    let before = reach_of g.S.Store g.M.MergeOperator g.T.BlockTransformer c.args.env.now in
    let now = reach_of g.S.Store g.M.MergeOperator g.T.BlockTransformer c.loop-part.env in
    let after = reach_of g.S.Store g.M.MergeOperator g.T.BlockTransformer c.stored_table.new.env in
    let left = ap length popped ∙ length-append c.pop.new.self.items (c.in-Some.part ∷ []) in
    let more = ap length c.push_reserved.ensures.items
    ∙ length-append c.loop-part.stored.items (_ ∷ []) in
    record {
      far = one_so_far before now after _ _ _ _ _ _ _ _ _ _ _ _ was.far next
          (ap (λ (m : Meaning). m.encode) was.puts.meaning)
          (c.in_ok-table.ensures.stored c.args.number
          (length (map (λ t. t.rows.items) c.pop.new.self.items))
          (next_place _ c.args.number c.len-in-Some.result c.pop.new.self.items
          (omega arith) (c.len-in-Some.ensures ∙ c.pop.new.self.ok.0) c.len-in-Some.type_inv))
          c.in_ok-table.ensures.acts
          (one_turned (λ t. t.table) _ _ _ c.push_reserved.ensures.items)
          (one_turned (λ t. t.handle) _ _ _ c.push_reserved.ensures.items);
      prefixes = one_prefix _ _ _ _ _ _ was.prefixes named
          (one_turned (λ t. t.prefix) _ _ _ c.push_reserved.ensures.items);
      room = omega (arith, was.room, left, more, c.push_reserved.ensures.capacity);
      operator = c.stored_table.ensures.operator ∙ was.operator;
      puts = puts_then _ _ _ was.puts c.stored_table.ensures.puts;
      still = c.in_ok-table.ensures.still ∙ was.still;
    }

pub returns-clause-leaves : goal.returns-clause-leaves
returns-clause-leaves g c =
    let was = c.loop-part.invariant in
    record {
      adds = adds_puts _ _ _ was.far.acts;
      refused = tt;
      cause = tt;
      operator = was.operator;
      puts = was.puts;
      still = was.still;
    }

pub returns-in_err-stored-clause-leaves : goal.returns-in_err-stored-clause-leaves
returns-in_err-stored-clause-leaves g c =
    let p = err_from_is_err_and c.from_residual.result c.from_residual.ensures.1 in
    record {
      adds = adds_same _ _ refl;
      refused = rw p.1 (may_keep _ _ _ refl);
      cause = rw (p.1, p.2) (inl tt);
      operator = refl;
      puts = puts_none _;
      still = unasked_still _ c.from_residual.result;
    }
