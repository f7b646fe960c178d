use Rattle.std.proofs.Common.{◌∙◌, ℕ, List, ap, map, subst, sym}
use Rattle.std.proofs.lemmas.Result.{IfOk-from_err, on_ok_weaker}
use Rattle.slate_types.specs.Outside.{Meaning}
use Rattle.slate_db.specs.LeftLaws.{taken}
use Rattle.slate_db.specs.Model.{CoreModel}
use Rattle.slate_db.specs.Opened.{HasTransaction}
use Rattle.slate_db.specs.SerialLaws.{IsVouchedCore}
use Rattle.slate_db.proofs.Opened.{stay_on}
use Rattle.slatedb.specs.Turns.{AreBoth, ChangesAlone}
use Rattle.slatedb.proofs.OpenIds.{transaction_reads}
use Rattle.slatedb.proofs.Turning.{bare_meant, between_bare, between_both, flush_beside, flush_stands, get_beside, get_stands, put_stands}
use Rattle.slatedb.proofs.Undone.{changes_flushed, changes_none, changes_noted, changes_operated, changes_then, changes_unflushed}
use Rattle.slatedb.proofs.turns.take_turns.Goals as goal

pub get-requires-after_bounds : goal.get-requires-after_bounds
get-requires-after_bounds g c κs lives = transaction_reads c.turn.new.core c.args.id.now
    ((c.turn.ensures.stay c.args.id.now).transaction (subst (HasTransaction c.args.core.now) c.requires.named c.requires.both.x_left.is_open))

pub put-requires : goal.put-requires
put-requires g c = (stay_on c.args.core.now c.turn.new.core c.get.new.self c.turn.ensures.stay c.get.ensures.notes.stay c.args.id.now).transaction
    (subst (HasTransaction c.args.core.now) c.requires.named c.requires.both.x_left.is_open)

pub turn-requires-2 : goal.turn-requires-2
turn-requires-2 g c =
    let meant = c.flush.ensures.puts.meaning ∙ c.get.ensures.gets.read.reads.meaning ∙ c.turn.ensures.meant in
    record {
      both = subst (λ (m : Meaning). AreBoth m c.flush.new.self c.turn.new.up c.turn.new.down) (sym meant)
          (between_both _ c.turn.new.core c.get.new.self c.put.new.self c.flush.new.self c.turn.new.up c.turn.new.down c.open_scans.ensures.beside (λ it. get_beside _ _ it _ _ _ c.in_ok-get.ensures.notes.noted)
          (λ it. taken _ _ _ c.in_ok-put.ensures.taken) (λ it. flush_beside _ _ _ c.flush.ensures.settings c.in_ok-flush.ensures.step it) c.in_ok-turn.ensures.both.0);
    }

pub returns-in_err-turn : goal.returns-in_err-turn
returns-in_err-turn g c = record {
  alone = subst (λ (id : List ℕ). ChangesAlone id c.args.core.now c.turn.new.core) c.requires.named c.turn.ensures.alone;
  stay = c.turn.ensures.stay;
  meant = c.turn.ensures.meant;
  vouched = λ stands x y. IfOk-from_err c.from_residual.result _ c.from_residual.ensures.0;
}

pub returns-in_err-get : goal.returns-in_err-get
returns-in_err-get g c = record {
  alone = changes_then _ c.args.core.now c.turn.new.core c.get.new.self (subst (λ (id : List ℕ). ChangesAlone id c.args.core.now c.turn.new.core) c.requires.named c.turn.ensures.alone)
      (changes_none _ _ _ c.in_err-get.ensures.notes.same);
  stay = stay_on c.args.core.now c.turn.new.core c.get.new.self c.turn.ensures.stay c.get.ensures.notes.stay;
  meant = c.get.ensures.gets.read.reads.meaning ∙ c.turn.ensures.meant;
  vouched = λ stands x y. IfOk-from_err c.from_residual-in_err-get.result _ c.from_residual-in_err-get.ensures.0;
}

pub returns-in_err-put : goal.returns-in_err-put
returns-in_err-put g c = record {
  alone = changes_then _ c.args.core.now c.get.new.self c.put.new.self (changes_then _ c.args.core.now c.turn.new.core c.get.new.self (subst (λ (id : List ℕ). ChangesAlone id c.args.core.now c.turn.new.core) c.requires.named c.turn.ensures.alone)
      (changes_noted _ _ _ _ c.in_ok-get.ensures.notes.noted))
      (changes_none _ _ _ c.in_err-put.ensures.same);
  stay = stay_on c.args.core.now c.get.new.self c.put.new.self (stay_on c.args.core.now c.turn.new.core c.get.new.self c.turn.ensures.stay c.get.ensures.notes.stay) c.put.ensures.stay;
  meant = c.get.ensures.gets.read.reads.meaning ∙ c.turn.ensures.meant;
  vouched = λ stands x y. IfOk-from_err c.from_residual-in_err-put.result _ c.from_residual-in_err-put.ensures.0;
}

pub returns-in_err-flush : goal.returns-in_err-flush
returns-in_err-flush g c = record {
  alone = changes_then _ c.args.core.now c.put.new.self c.flush.new.self (changes_then _ c.args.core.now c.get.new.self c.put.new.self (changes_then _ c.args.core.now c.turn.new.core c.get.new.self (subst (λ (id : List ℕ). ChangesAlone id c.args.core.now c.turn.new.core) c.requires.named c.turn.ensures.alone)
      (changes_noted _ _ _ _ c.in_ok-get.ensures.notes.noted))
      (changes_operated _ _ _ _ c.in_ok-put.ensures.taken))
      (changes_unflushed _ _ c.in_err-flush.ensures.refused.0 _ c.in_err-flush.ensures.refused.1 c.in_err-flush.ensures.refused.2);
  stay = stay_on c.args.core.now c.put.new.self c.flush.new.self
      (stay_on c.args.core.now c.get.new.self c.put.new.self (stay_on c.args.core.now c.turn.new.core c.get.new.self c.turn.ensures.stay c.get.ensures.notes.stay) c.put.ensures.stay) c.flush.ensures.stay;
  meant = c.flush.ensures.puts.meaning ∙ c.get.ensures.gets.read.reads.meaning ∙ c.turn.ensures.meant;
  vouched = λ stands x y. IfOk-from_err c.from_residual-in_err-flush.result _ c.from_residual-in_err-flush.ensures.0;
}

pub returns : goal.returns
returns g c =
    let policies = map (λ p. (goal.FilterPolicy-dyn g (p.vtable, p.value)).meaning p.value) c.args.laws.now.policies.items in
    let meant = c.flush.ensures.puts.meaning ∙ c.get.ensures.gets.read.reads.meaning ∙ c.turn.ensures.meant in
    record {
      alone = changes_then _ c.args.core.now c.flush.new.self c.turn-2.new.core (changes_then _ c.args.core.now c.put.new.self c.flush.new.self (changes_then _ c.args.core.now c.get.new.self c.put.new.self (changes_then _ c.args.core.now c.turn.new.core c.get.new.self (subst (λ (id : List ℕ). ChangesAlone id c.args.core.now c.turn.new.core) c.requires.named c.turn.ensures.alone)
          (changes_noted _ _ _ _ c.in_ok-get.ensures.notes.noted))
          (changes_operated _ _ _ _ c.in_ok-put.ensures.taken))
          (changes_flushed _ _ _ _ c.in_ok-flush.ensures.step))
          (subst (λ (id : List ℕ). ChangesAlone id c.flush.new.self c.turn-2.new.core) ((c.in_ok-turn.ensures.both.1) ∙ c.requires.named) c.turn-2.ensures.alone);
      stay = stay_on c.args.core.now c.flush.new.self c.turn-2.new.core
          (stay_on c.args.core.now c.put.new.self c.flush.new.self
          (stay_on c.args.core.now c.get.new.self c.put.new.self (stay_on c.args.core.now c.turn.new.core c.get.new.self c.turn.ensures.stay c.get.ensures.notes.stay) c.put.ensures.stay) c.flush.ensures.stay) c.turn-2.ensures.stay;
      meant = c.turn-2.ensures.meant ∙ meant;
      vouched = λ stands x y.
          let first = c.in_ok-turn.ensures.stands policies _ stands x y in
          let got = get_stands policies _ _ _ c.turn.new.core c.get.new.self _ _ _ c.in_ok-get.ensures.notes.noted c.get.ensures.gets.vouched c.get.ensures.notes.kept c.get.ensures.gets.read.reads first.0 in
          let put = put_stands policies _ _ c.get.new.self c.put.new.self (ap (λ (v : CoreModel). v.settings) c.in_ok-put.ensures.taken) (ap (λ (v : CoreModel). v.events) c.in_ok-put.ensures.taken) c.put.ensures.kept c.put.ensures.vouched got in
          let flushed = flush_stands policies _ _ _ _ c.put.new.self c.in_ok-flush.ensures.installed.0 c.flush.new.self c.in_ok-flush.field-0 c.transactions.ensures.writes c.in_ok-flush.ensures.installed.1 c.in_ok-flush.ensures.installed.2
          c.flush.ensures.held c.flush.ensures.filtered c.flush.ensures.kept c.flush.ensures.puts.meaning put in
          let up = between_bare _ c.turn.new.core c.get.new.self c.put.new.self c.flush.new.self c.turn.new.up c.open_scans.ensures.beside (λ x. get_beside _ _ x _ _ _ c.in_ok-get.ensures.notes.noted)
          (λ x. taken _ _ _ c.in_ok-put.ensures.taken) (λ x. flush_beside _ _ _ c.flush.ensures.settings c.in_ok-flush.ensures.step x) first.1 in
          let down = between_bare _ c.turn.new.core c.get.new.self c.put.new.self c.flush.new.self c.turn.new.down c.open_scans.ensures.beside (λ x. get_beside _ _ x _ _ _ c.in_ok-get.ensures.notes.noted)
          (λ x. taken _ _ _ c.in_ok-put.ensures.taken) (λ x. flush_beside _ _ _ c.flush.ensures.settings c.in_ok-flush.ensures.step x) first.2 in
          on_ok_weaker c.turn-2.result (λ s. subst (λ (m : Meaning). IsVouchedCore m c.turn-2.new.core) (c.turn-2.ensures.meant ∙ meant) s.0.vouched)
          (c.turn-2.ensures.stands policies flushed.os flushed.stands (bare_meant _ _ _ _ (sym meant) up) (bare_meant _ _ _ _ (sym meant) down));
    }
