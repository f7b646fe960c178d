use Rattle.std.proofs.Common.{ℕ, List, option_map, sym, ap, ◌∙◌}
use Rattle.std.proofs.lemmas.Result.{IfOk-from_err}
use Rattle.slate_types.specs.declared.config.Ttl.{Ttl}
use Rattle.slate_mem.specs.declared.WriteOp.TheVariants as ops
use Rattle.slate_language.specs.Built.{Op}
use Rattle.slate_language.proofs.OpLaws.{pair_made}
use Rattle.slate_language.proofs.parse.read_merge_op.Goals as goal

abbrev merge_of : List ℕ → List ℕ → Ttl → Op
merge_of k v ttl = (k, ops.Merge v (record { ttl = ttl }))

pub returns-in-Some : goal.returns-in-Some
returns-in-Some c = record { op = ap (option_map (λ (q : List ℕ × List ℕ × Ttl). merge_of q.0 q.1 q.2)) (sym c.in-Some.is) ∙ pair_made merge_of c.args.tokens.now c.in_ok-key.field-0 c.in_ok-key.ensures.pair }

pub returns-in-None : goal.returns-in-None
returns-in-None c = record { op = ap (option_map (λ (q : List ℕ × List ℕ × Ttl). merge_of q.0 q.1 q.2)) (sym c.in-None.is) ∙ pair_made merge_of c.args.tokens.now c.in_ok-key.field-0 c.in_ok-key.ensures.pair }

pub returns-in_err-key : goal.returns-in_err-key
returns-in_err-key c = record { op = IfOk-from_err c.from_residual.result _ c.from_residual.ensures.0 }
