use Rattle.std.proofs.Common.{◌≡◌, ◌⊎◌, true, false, Option, Some, None, inl, inr, refl, sym, ap, ◌∙◌}
use Rattle.std.specs.Prelude.{is_some}
use Rattle.slate_store.specs.Env.{combine_of}
use Rattle.slate_db.proofs.Changes.{refused_map}
use Rattle.slate_shared.proofs.txn.DbTransaction.merge_with_options.Given as given
use Rattle.slate_shared.proofs.txn.DbTransaction.merge_with_options.Goals as goal

-- there is an operator, or none
there : {M C : Type 0} {P : Type 0} (f : M → C) (o : Option M) → is_some o ≡ true → combine_of f o ≡ None → P
there f None h none = cc
there f (Some operator) h none = cc

absent : {M C : Type 0} (f : M → C) (o : Option M) → is_some o ≡ false → combine_of f o ≡ None
absent f None h = refl
absent f (Some operator) h = cc

some_none : {C : Type 0} {P : Type 0} (o : Option C) → is_some o ≡ true → o ≡ None → P
some_none None h none = cc
some_none (Some x) h none = cc

pub returns-then-is_none-clause-refused : goal.returns-then-is_none-clause-refused
returns-then-is_none-clause-refused g c = λ e has h. some_none g.P.Parts.meaning.combine has (ap (λ m. m.combine) (sym c.requires.parts) ∙ absent g.M.MergeOperator.combine c.args.env.now.operator c.if-is_none.ensures)

pub returns-then-is_none-clause-cause : goal.returns-then-is_none-clause-cause
returns-then-is_none-clause-cause g c = inr (inl (refl, ap (λ m. m.combine) (sym c.requires.parts) ∙ absent g.M.MergeOperator.combine c.args.env.now.operator c.if-is_none.ensures))

pub returns-clause-missing : goal.returns-clause-missing
returns-clause-missing g c = λ none. there g.M.MergeOperator.combine c.args.env.now.operator c.if-is_none.ensures (ap (λ m. m.combine) c.requires.parts ∙ none)

pub returns-clause-refused : goal.returns-clause-refused
returns-clause-refused g c = λ e has h. c.merge.ensures.refused e h

pub returns-clause-cause : goal.returns-clause-cause
returns-clause-cause g c = refused_map c.merge.result _ _ (λ e h. inr h) c.merge.ensures.cause
