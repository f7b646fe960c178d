use Rattle.std.proofs.Common.{◌≡◌, ℕ, List, Option, Some, None, option_map, refl, sym, ap, subst, ◌∙◌}
use Rattle.slate_txn.specs.Named.{find_named, update_named}
use Rattle.slate_txn.specs.Open.{Transactions}
use Rattle.slate_txn.specs.State.{Tx}
use Rattle.slate_txn.proofs.NamedLaws.{find_updated}
use Rattle.slate_db.specs.declared.engine.Core.TheInside.{Inside}
use Rattle.slate_db.specs.Model.{CoreModel}
use Rattle.slate_db.specs.Operated.{operated}
use Rattle.slate_db.specs.Segmented.{IsSegmented}
use Rattle.slate_db.specs.Sound.{IsKept}
use Rattle.slate_db.specs.View.{view_of, unseen_of, IsWholeInside}
use Rattle.slate_db.proofs.Changes.{operated_is}
use Rattle.slate_db.proofs.Keeps.{kept_event}
use Rattle.slate_db.proofs.Operands.{own_updated}
use Rattle.slate_db.proofs.PreparedOf.{updated_alike}
use Rattle.slate_db.proofs.Segmenting.{segmented_as}
use Rattle.slate_db.proofs.Wholes.{whole_changed}
use Rattle.slate_db.proofs.engine.Core.hand_over.Goals as goal

-- the open transaction, of the core's parts
here : (c : goal.After-put_back) → find_named c.args.id.now c.self.inside.transactions ≡ Some c.requires.0
here c = ap (λ (v : CoreModel). find_named c.args.id.now v.state.txns) c.self.view_is ∙ c.requires.1

pub put_back-requires : goal.put_back-requires
put_back-requires c =
    ap (λ (v : CoreModel). option_map (λ (t : Tx). t.begin) (find_named c.args.id.now v.state.txns)) c.self.view_is ∙ ap (option_map (λ (t : Tx). t.begin)) c.requires.1 ∙ ap Some c.requires.3

-- what it did and saw, at the level and the begin of another
abbrev at_begin : Tx → Tx → Tx
at_begin own t = record own { level = t.level; begin = t.begin }

pub invariant_of-self : goal.invariant_of-self
invariant_of-self c =
    let own : Tx = c.args.own in
    let s : Inside = c.self.inside in
    let same : own ≡ at_begin own c.requires.0 = (let a = sym c.requires.2 in let b = sym c.requires.3 in λ i. record own { level = a i; begin = b i }) in
    subst (λ (us : Transactions). IsWholeInside (record s { transactions = us })) (sym (c.put_back.ensures ∙ updated_alike c.args.id.now (λ _. own) (at_begin own) c.requires.0 s.transactions (here c) same))
    (whole_changed (view_of s) (unseen_of s) c.args.id.now (at_begin own) (λ t. refl) (λ t h. c.batch.ensures.own) c.self.invariant)

given : (c : goal.After-put_back) → view_of (record c.self.inside { transactions = c.put_back.new.self }) ≡ operated c.args.self.now c.args.id.now (λ _. c.args.own)
given c = operated_is c.self.inside c.args.self.now c.put_back.new.self c.args.id.now (λ _. c.args.own) c.self.view_is c.put_back.ensures

pub returns : goal.returns
returns c = record {
  given = given c;
  found = ap (λ (v : CoreModel). find_named c.args.id.now v.state.txns) (given c) ∙ find_updated c.args.id.now (λ _. c.args.own) c.args.self.now.state.txns ∙ ap (option_map (λ _. c.args.own)) c.requires.1;
  kept = λ m plain k.
      subst (λ (v : CoreModel). IsKept m v) (sym (given c))
      (kept_event m c.args.self.now (operated c.args.self.now c.args.id.now (λ _. c.args.own)).state c.args.self.now.events c.args.self.now.spare refl refl refl (λ none own. own_updated c.args.id.now (λ _. c.args.own) c.args.self.now.state.txns (λ t h. plain none) own) k);
  segmented = λ g z. subst (λ (v : CoreModel). IsSegmented g v) (sym (given c)) (segmented_as g c.args.self.now (operated c.args.self.now c.args.id.now (λ _. c.args.own)) refl refl z);
}
