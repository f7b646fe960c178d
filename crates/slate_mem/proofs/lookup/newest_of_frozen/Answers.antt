use Rattle.std.proofs.Common.{◌≡◌, ◌+◌, ◌-◌, ◌∷◌, ◌++◌, false, drop, map, rules, ap, ◌∙◌, arith, refl}
use Rattle.std.proofs.lemmas.Result.{IfOk-from_err}
use Rattle.slate_mem.specs.Table.{newest}
use Rattle.slate_mem.specs.Lookup.{is_decided, newest_first}
use Rattle.slate_mem.proofs.LayerLaws.{layer_step, layers_decide, layers_end, mapped_here}
use Rattle.slate_types.proofs.Exits.{err_exit}
use Rattle.slate_mem.proofs.lookup.newest_of_frozen.Goals as goal
use Rattle.slate_mem.proofs.lookup.newest_of_frozen.Goals.{then-loop-i-test+else-not-is_decided, else-loop-i-test}

pub loop-i-preserved : goal.loop-i-preserved
loop-i-preserved c =
    let i = c.loop-i.i - 1 in
    let undecided : is_decided c.loop-i.found.items ≡ false = search rules in
    let next : c.loop-i.i ≡ i + 1 = omega (arith, c.loop-i-test.true) in
    let here : drop i (map (λ t. t.rows) c.args.frozen.now) ≡ c.index-frozen-i.result.rows ∷ drop (i + 1) (map (λ t. t.rows) c.args.frozen.now) =
    mapped_here (λ t. t.rows) c.args.frozen.now i c.index-frozen-i.result c.index-frozen-i.is (omega (arith, c.loop-i-test.true, c.loop-i.invariant.within)) in
    record {
      within = omega (arith, c.loop-i.invariant.within);
      found = λ above h.
          layer_step c.args.key.now c.args.max_seq i above c.loop-i.found.items c.in_ok-more.more.items c.append.new.self.items c.index-frozen-i.result.rows (map (λ t. t.rows) c.args.frozen.now) here
          (c.loop-i.invariant.found above h ∙ ap (λ j. newest c.args.key.now c.args.max_seq (above ++ newest_first (drop j (map (λ t. t.rows) c.args.frozen.now)))) next) undecided c.in_ok-more.ensures.rows c.in_ok-append.ensures.items;
    }

pub returns-clause-found : goal.returns-clause-found
returns-clause-found c above h =
    elim c.loop-i-test.branch [
      | then-loop-i-test+else-not-is_decided w ↦ layers_decide c.args.key.now c.args.max_seq c.loop-i.i above c.loop-i.found.items (map (λ t. t.rows) c.args.frozen.now) (c.loop-i.invariant.found above h) (search rules)
      | else-loop-i-test w ↦ layers_end c.args.key.now c.args.max_seq c.loop-i.i above c.loop-i.found.items (map (λ t. t.rows) c.args.frozen.now) (c.loop-i.invariant.found above h) (omega (arith, w.loop-i-test.false))
    ]

pub returns-in_err-more : goal.returns-in_err-more
returns-in_err-more c =
    record {
      found = IfOk-from_err c.from_residual.result _ c.from_residual.ensures.0;
      cause = err_exit c.from_residual.result _ c.from_residual.ensures.1 _ c.in_err-more.ensures.cause;
    }

pub returns-in_err-append : goal.returns-in_err-append
returns-in_err-append c =
    record {
      found = IfOk-from_err c.from_residual-in_err-append.result _ c.from_residual-in_err-append.ensures.0;
      cause = err_exit c.from_residual-in_err-append.result _ c.from_residual-in_err-append.ensures.1 _ refl;
    }
