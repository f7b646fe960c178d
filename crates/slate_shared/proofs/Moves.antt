-- Each step keeps the rule.
use Rattle.std.proofs.Common.{◌≡◌, ◌≢◌, ◌⊎◌, ℕ, zero, suc, ◌+◌, ◌-◌, ◌*◌, ◌%◌, ◌<◌, ◌≤◌, eqb, Bool, true, false, true≢false, if◌then◌else◌, List, [], ◌∷◌, ◌++◌, length, get_or, set, slice_get, Option, Some, None, refl, sym, ap, ◌∙◌, subst, ⊎_elim, inl, inr, arith, length-set, length-append, get_or-set_same, eq-eqb, ne_eqb}
use mathlib.Core.Logic.{dite}
use mathlib.Core.Option.{none, some, some-injective, some-ne-none}
use mathlib.Core.List.{IsPrefix}
use native.Mathlib.Decide.{ℕ_discrete}
use lib.ListN.{get_elem?}
use lib.Seq.{set-get_or}
use prog.Atomic.{either}
use Rattle.atomic_table.specs.Table.{State, Me, Step, step, keeps, takes, gives, stepped, rest, put_back, Allows, Splits, Joins, opening}
use Rattle.atomic_table.proofs.Lists.{at_set, set_here, set_again}
use Rattle.slate_txn.specs.declared.event.Event.{Event}
use Rattle.slate_txn.specs.declared.event.Event.TheVariants.{Begin, End, Commit, Write, Freeze, Install, Snapshot, Release}
use Rattle.slate_txn.specs.Named.{find_named}
use Rattle.slate_txn.specs.Replay.{replay, apply}
use Rattle.slate_txn.specs.State.{Tx, begun}
use Rattle.slate_db.specs.declared.flight.Flight.{Flight}
use Rattle.slate_shared.specs.LockedModel.{LockedModel, holds_at}
use Rattle.slate_shared.specs.declared.board.View.{View}
use Rattle.slate_shared.specs.Shared.{IsOpen, IsNew, all_parts, total_parts, OwnsAll, less, same, times, is_own, newcomer, holding, longer, txn_after, own_after, after_event, after_none, after_look, IsOwner, either_txn, either_flight, flight_after, MayFly, NoInstall, joined, IsMine, May, Knows, IsAuthored, KeepsRule, acquired, appended, let_go, looked}
use Rattle.slate_shared.proofs.Lists.{prefix_self, prefix_more, prefix_length, total_set, total_more, total_two, view_there, at_below, at_end, get_there, last_or, last_or-snoc, get_snoc, get_below, prefix_trans, longer_begins, longer_covers, prefix_longer, longer_first, longer_second, same-eq, same-ne, times-append, mark, mark_here, mark_else, moved, moved_here, moved_else}
use Rattle.slate_shared.proofs.Names.{replay_more, found_before, found_last, found_without, mark_id, mark_id_here, mark_id_else}

abbrev Slot : Type 0
Slot = Option LockedModel

abbrev St : Type 0
St = State Slot View

abbrev M : Type 0
M = Me Slot View

off : false ≡ true → ⊥
off e = true≢false (sym e)

none_some : (o : List ℕ × Tx) → (let t : Option (List ℕ × Tx) = None in t) ≡ Some o → ⊥
none_some o e = cc e

no_flight : (f : Flight) → (let t : Option Flight = None in t) ≡ Some f → ⊥
no_flight f e = cc e

seats_stay : (K : ℕ → View → Type 0) (vs : List View) (me : ℕ) (w : View) → K me w → ((j : ℕ) (v : View) → j ≢ me → get_elem? vs j ≡ some v → K j v)
    → (j : ℕ) (v : View) → get_elem? (set vs me w) j ≡ some v → K j v
seats_stay K vs me w mine others j v e =
    ⊎_elim (λ (t : (j ≡ me) × (w ≡ v)). subst (λ (x : ℕ × View). K x.0 x.1) (λ i. (sym t.0 i, t.1 i)) mine)
    (λ (t : (j ≢ me) × (get_elem? vs j ≡ some v)). others j v t.0 t.1) (at_set vs me j w v e)

-- a seat that has seen a beginning of the journal, and nothing more
new_knows : (journal : List Event) (flight : Option Flight) (held holder pilot : ℕ) (author : ℕ → ℕ) (user : List ℕ → ℕ) (seat : ℕ) (parts : ℕ) (seen : List Event) → IsPrefix seen journal → ((p : ℕ) → author p ≢ suc seat)
    → Knows journal flight held holder pilot author user seat (newcomer parts seen)
new_knows journal flight held holder pilot author user seat parts seen pre apart = record {
  seen = pre;
  told = (journal, refl);
  own = λ p. sym (same-ne (author p) (suc seat) (apart p));
  within = λ p l. absurd (omega arith);
  txn = λ o e. absurd (none_some o e);
  idle = λ _ p. refl;
  lock = λ e. absurd (off e);
  flies = λ f e. absurd (no_flight f e);
}

-- what a seat's own places are
owns : (journal : List Event) (flight : Option Flight) (held holder pilot : ℕ) (author : ℕ → ℕ) (user : List ℕ → ℕ) (seat : ℕ) (v : View) (seats : ℕ) → Knows journal flight held holder pilot author user seat v → IsAuthored journal seats author → IsOwner v.own journal
owns journal flight held holder pilot author user seat v seats k a p some_here =
    let own = k.own p in
    let inside = k.within p some_here in
    let short = prefix_length v.seen journal k.seen in
    let there = get_there journal p (omega (arith, inside, short)) in
    let mine = dite (ℕ_discrete (author p) (suc seat)) (λ e. e) (λ ne. let z = same-ne (author p) (suc seat) ne in absurd (omega (arith, own, z, some_here))) in
    (own ∙ same-eq (author p) (suc seat) mine, (there.0, there.1, is_one (is_own there.0) (λ not. let z = a.unowned p there.0 there.1 not in omega (arith, z, mine))))
  where
    is_one : (b : Bool) → (b ≡ false → ⊥) → b ≡ true
    is_one true h = refl
    is_one false h = absurd (h refl)

module _ where
  abbrev Rule : St → Type 0
  Rule = KeepsRule

  pub opens : Rule (opening (0 ∷ []) (Some (holds_at [] None) ∷ []) (newcomer all_parts []))
  opens = record {
    journal = [];
    flight = None;
    held = 0;
    holder = 0;
    pilot = 0;
    author = λ _. 0;
    user = λ _. 0;
    one_word = refl;
    one_slot = refl;
    bit = omega arith;
    word = refl;
    home = λ _. refl;
    authored = record { beyond = λ p _. refl; owned = λ p e at. absurd (nothing_there p e at); unowned = λ p e _ _. refl; known = λ p. omega arith };
    total = refl;
    each_seat = only;
  }
    where
      nothing_there : (p : ℕ) (e : Event) → slice_get (let l : List Event = [] in l) p ≡ Some e → ⊥
      nothing_there p e at = let h = get_below [] e p at in omega (arith, h)

      only : (j : ℕ) (v : View) → get_elem? (newcomer all_parts [] ∷ []) j ≡ some v → Knows [] None 0 0 0 (λ _. 0) (λ _. 0) j v
      only zero v e = subst (Knows [] None 0 0 0 (λ _. 0) (λ _. 0) 0) (some-injective _ _ e) (new_knows [] None 0 0 0 (λ _. 0) (λ _. 0) 0 all_parts [] (prefix_self []) (λ p z. omega arith))
      only (suc j) v e = absurd (some-ne-none v (sym e))

  -- a step that changes neither a word nor a view
  unmoved : (s : St) (r : Rule s) (id : ℕ) (v : View) (cs : List (ℕ × Slot)) → get_elem? s.views id ≡ some v → Rule (stepped s 0 (get_or s.words 0 0) id cs v keeps)
  unmoved s r id v cs at =
      subst (λ (ws : List ℕ). Rule record { words = ws; homes = s.homes; views = set s.views id v }) (sym (set-get_or s.words 0 0))
      (subst (λ (vs : List View). Rule record { words = s.words; homes = s.homes; views = vs }) (sym (set_again s.views id v at)) r)

  -- a seat gives k of its parts to a new one
  splits_off : (id : ℕ) (v w : View) (k : ℕ) → w ≡ record { parts = w.parts; seen = v.seen; told = v.told; own = v.own; txn = v.txn; flight = v.flight; holds = v.holds; base = v.base; base_flight = v.base_flight } → w.parts + k ≡ v.parts → (w.parts ≡ 0 → v.parts ≡ 0) → Splits Rule id v w (newcomer k v.seen)
  splits_off id v w k is sum some_left s r at =
      let a = r.each_seat id v at in
      let K : ℕ → View → Type 0 = Knows r.journal r.flight r.held r.holder r.pilot r.author r.user in
      let n = newcomer k v.seen in
      let long = length-set s.views id w in record {
        journal = r.journal;
        flight = r.flight;
        held = r.held;
        holder = r.holder;
        pilot = r.pilot;
        author = r.author;
        user = r.user;
        one_word = r.one_word;
        one_slot = r.one_slot;
        bit = r.bit;
        word = r.word;
        home = r.home;
        authored = record {
          beyond = r.authored.beyond;
          owned = r.authored.owned;
          unowned = r.authored.unowned;
          known = λ p. let q = r.authored.known p in omega (arith, q, long, length-append (set s.views id w) (n ∷ []));
        };
        total = let t = total_set s.views id v w at in let u = total_more (set s.views id w) n in let z = r.total in omega (arith, t, u, z, sum);
        each_seat = λ j u e. ⊎_elim
            (seats_stay K s.views id w
            (subst (K id) (sym is) record { seen = a.seen; told = a.told; own = a.own; within = a.within; txn = a.txn; idle = λ z. a.idle (some_left z); lock = a.lock; flies = a.flies })
            (λ i x _ there. r.each_seat i x there) j u)
            (λ (t : (j ≡ length (set s.views id w)) × (n ≡ u)). subst (K j) t.1
            (new_knows r.journal r.flight r.held r.holder r.pilot r.author r.user j k v.seen a.seen (λ p z. let q = r.authored.known p in let x = t.0 in omega (arith, q, x, z, long))))
            (at_end (set s.views id w) n u j e);
      }

  pub splits : (id : ℕ) (v : View) → 1 < v.parts → Splits Rule id v (less v) (newcomer 1 v.seen)
  splits id v more = splits_off id v (less v) 1 refl (omega (arith, more)) (λ z. absurd (omega (arith, z, more)))

  pub offshoots : (id : ℕ) (v : View) → Splits Rule id v v (newcomer 0 v.seen)
  offshoots id v = splits_off id v v 0 refl (omega arith) (λ z. z)

  -- who has all parts owns all
  wholes : (s : St) (r : Rule s) (id : ℕ) (v : View) → get_elem? s.views id ≡ some v → v.parts ≡ all_parts → OwnsAll v.own r.journal
  wholes s r id v at all p e there own =
      let some_author = r.authored.owned p e there own in
      let fits = r.authored.known p in
      let j : ℕ = r.author p - 1 in
      let is : r.author p ≡ suc j = omega (arith, some_author) in
      let u = view_there s.views j (omega (arith, some_author, fits)) in
      let k = r.each_seat j u.0 u.1 in
      let one = k.own p ∙ same-eq (r.author p) (suc j) is in
      dite (ℕ_discrete j id)
      (λ e'. (r.each_seat id v at).own p ∙ same-eq (r.author p) (suc id) (is ∙ ap suc e'))
      (λ ne. let t = total_two s.views j id u.0 v ne u.1 at in let z = r.total in let none_left : u.0.parts ≡ 0 = omega (arith, t, z, all) in let none_own = k.idle none_left p in absurd (omega (arith, one, none_own)))

  same_total : (s : St) (r : Rule s) (id : ℕ) (v w : View) → get_elem? s.views id ≡ some v → w.parts ≡ v.parts → total_parts (set s.views id w) ≡ all_parts
  same_total s r id v w at e = let t = total_set s.views id v w at in let z = r.total in omega (arith, t, z, e)

  pub looks : (slots id : ℕ) (me : M) → Allows Rule slots id me 0 (λ n. n) (looked (step slots 0 0 0 none) me)
  looks slots id me s r _ at _ =
      let v : View = me.0 in
      let w : View = after_look v in
      let known = r.each_seat id v at in (
        w,
        keeps,
        tt,
        subst (λ (ws : List ℕ). Rule record { words = ws; homes = s.homes; views = set s.views id w }) (sym (set-get_or s.words 0 0)) record {
          journal = r.journal;
          flight = r.flight;
          pilot = r.pilot;
          held = r.held;
          holder = r.holder;
          author = r.author;
          user = r.user;
          one_word = r.one_word;
          one_slot = r.one_slot;
          bit = r.bit;
          word = r.word;
          home = r.home;
          authored = subst (λ (n : ℕ). IsAuthored r.journal n r.author) (sym (length-set s.views id w)) r.authored;
          total = same_total s r id v w at refl;
          each_seat = seats_stay (Knows r.journal r.flight r.held r.holder r.pilot r.author r.user) s.views id w
              record { seen = known.seen; told = (r.journal, refl); own = known.own; within = known.within; txn = known.txn; idle = known.idle; lock = known.lock; flies = known.flies }
              (λ j u _ there. r.each_seat j u there);
        },
        (r.journal, refl, known.seen, known.told, owns r.journal r.flight r.held r.holder r.pilot r.author r.user id v (length s.views) known r.authored),
      )

  pub acquires : (slots id : ℕ) (me : M) (old new : ℕ) → old % 2 ≡ 0 → new ≡ old + 1
      → Allows Rule slots id me 0 (λ n. either (eqb n old) new n) (acquired (step slots 0 old new none) me)
  acquires slots id me old new even up s r _ at _ =
      let x : ℕ = get_or s.words 0 0 in
      let v : View = me.0 in
      let known = r.each_seat id v at in
      dite (ℕ_discrete x old)
      (λ hit.
      let y : LockedModel = holds_at r.journal r.flight in
      let w : View = holding v y in
      let word = r.word in
      let bit = r.bit in
      let free : r.held ≡ 0 = omega arith in
      let wide = r.one_word in (
        w,
        takes 0 (Some y),
        r.home free,
        subst (λ (b : Bool). Rule (stepped s 0 (either b new x) id me.1 w (takes 0 (Some y)))) (sym (eq-eqb x old hit)) record {
          journal = r.journal;
          flight = r.flight;
          pilot = r.pilot;
          held = 1;
          holder = id;
          author = r.author;
          user = r.user;
          one_word = length-set s.words 0 new ∙ wide;
          one_slot = length-set s.homes 0 none ∙ r.one_slot;
          bit = omega arith;
          word = get_or-set_same s.words 0 new 0 (omega arith) ∙ (let e : new ≡ 2 * length r.journal + 1 = omega arith in e);
          home = λ z. absurd (omega arith);
          authored = subst (λ (n : ℕ). IsAuthored r.journal n r.author) (sym (length-set s.views id w)) r.authored;
          total = same_total s r id v w at refl;
          each_seat = seats_stay (Knows r.journal r.flight 1 id r.pilot r.author r.user) s.views id w
              record { seen = known.seen; told = known.told; own = known.own; within = known.within; txn = known.txn; idle = known.idle; lock = λ _. (refl, refl, refl); flies = known.flies }
              (λ j u other there. let k = r.each_seat j u there in record { seen = k.seen; told = k.told; own = k.own; within = k.within; txn = k.txn; idle = k.idle; lock = λ h. let one = (k.lock h).0 in absurd (omega arith); flies = k.flies });
        },
        ((λ _. (y, refl, (let e : x ≡ 2 * length r.journal = omega arith in e), known.seen, known.told, (λ o t. (known.txn o t).1), owns r.journal r.flight r.held r.holder r.pilot r.author r.user id v (length s.views) known r.authored, (λ f t. let h = known.flies f t in (h.0, h.2)), wholes s r id v at)), λ miss. absurd (miss hit)),
      ))
      (λ miss. (
        v,
        keeps,
        tt,
        subst (λ (b : Bool). Rule (stepped s 0 (either b new x) id me.1 v keeps)) (sym (ne_eqb x old miss)) (unmoved s r id v me.1 at),
        ((λ hit. absurd (miss hit)), λ _. refl),
      ))

  either_is : (t u : Option (List ℕ × Tx)) (o : List ℕ × Tx) → either_txn t u ≡ Some o → (t ≡ Some o) ⊎ (u ≡ Some o)
  either_is None u o e = inr e
  either_is (Some x) u o e = inl e

  flight_is : (t u : Option Flight) (f : Flight) → either_flight t u ≡ Some f → (t ≡ Some f) ⊎ (u ≡ Some f)
  flight_is None u f e = inr e
  flight_is (Some x) u f e = inl e

  pub joins : (id : ℕ) (v : View) (other : ℕ) (w : View) → Joins Rule id v other w (joined v w) (newcomer 0 [])
  joins id v other w s r at apart there =
      let both : View = joined v w in
      let spent : View = newcomer 0 [] in
      let found = ⊎_elim (λ (t : (other ≡ id) × (both ≡ w)). absurd (apart t.0)) (λ (t : (other ≢ id) × (get_elem? s.views other ≡ some w)). t.1) (at_set s.views id other both w there) in
      let a = r.each_seat id v at in
      let b = r.each_seat other w found in
      let inside = at_below s.views id v at in
      let author' : ℕ → ℕ = λ p. moved (suc other) (suc id) (r.author p) in
      let user' : List ℕ → ℕ = λ i. moved other id (r.user i) in
      let pilot' : ℕ = moved other id r.pilot in
      let K : ℕ → View → Type 0 = Knows r.journal r.flight r.held r.holder pilot' author' user' in
      let sum = λ (p : ℕ). dite (ℕ_discrete (r.author p) (suc other))
      (λ e. let m = moved_here (suc other) (suc id) (r.author p) e in let x = same-ne (r.author p) (suc id) (λ z. apart (omega (arith, e, z))) in let y = same-eq (r.author p) (suc other) e in let z = same-eq (author' p) (suc id) m in
      let t = times-append p v.own w.own in let t₁ = a.own p in let t₂ = b.own p in let goal : times p (v.own ++ w.own) ≡ same (author' p) (suc id) = omega (arith, t, t₁, t₂, x, y, z) in goal)
      (λ ne. let m = moved_else (suc other) (suc id) (r.author p) ne in let y = same-ne (r.author p) (suc other) ne in let z = ap (λ (n : ℕ). same n (suc id)) m in
      let t = times-append p v.own w.own in let t₁ = a.own p in let t₂ = b.own p in let goal : times p (v.own ++ w.own) ≡ same (author' p) (suc id) = omega (arith, t, t₁, t₂, y, z) in goal) in
      record {
        journal = r.journal;
        flight = r.flight;
        pilot = pilot';
        held = r.held;
        holder = r.holder;
        author = author';
        user = user';
        one_word = r.one_word;
        one_slot = r.one_slot;
        bit = r.bit;
        word = r.word;
        home = r.home;
        authored = record {
          beyond = λ p l. let z = r.authored.beyond p l in moved_else (suc other) (suc id) (r.author p) (λ e. omega (arith, z, e)) ∙ z;
          owned = λ p e h own. let z = r.authored.owned p e h own in dite (ℕ_discrete (r.author p) (suc other))
              (λ is. let m = moved_here (suc other) (suc id) (r.author p) is in omega (arith, m)) (λ ne. let m = moved_else (suc other) (suc id) (r.author p) ne in omega (arith, m, z));
          unowned = λ p e h own. let z = r.authored.unowned p e h own in moved_else (suc other) (suc id) (r.author p) (λ e. omega (arith, z, e)) ∙ z;
          known = λ p. let z = r.authored.known p in let l = length-set (set s.views id both) other spent in let l' = length-set s.views id both in dite (ℕ_discrete (r.author p) (suc other))
              (λ is. let m = moved_here (suc other) (suc id) (r.author p) is in omega (arith, m, l, l', inside)) (λ ne. let m = moved_else (suc other) (suc id) (r.author p) ne in omega (arith, m, l, l', z));
        };
        total = let t = total_set s.views id v both at in let u = total_set (set s.views id both) other w spent there in let z = r.total in omega (arith, t, u, z);
        each_seat = seats_stay K (set s.views id both) other spent
            (new_knows r.journal r.flight r.held r.holder pilot' author' user' other 0 [] (r.journal, refl)
            (λ p z. dite (ℕ_discrete (r.author p) (suc other)) (λ is. let m = moved_here (suc other) (suc id) (r.author p) is in apart (omega (arith, m, z))) (λ ne. ne (sym (moved_else (suc other) (suc id) (r.author p) ne) ∙ z))))
            (λ j u not_other here. seats_stay (λ i x. i ≢ other → K i x) s.views id both
            (λ _. record {
              seen = prefix_longer v.seen w.seen r.journal a.seen b.seen;
              told = b.seen;
              own = sum;
              within = λ p l. let t = times-append p v.own w.own in let one = longer_first v.seen w.seen in let two = longer_second v.seen w.seen in dite (ℕ_discrete (times p v.own) 0)
                  (λ none_here. let k = b.within p (omega (arith, t, l, none_here)) in omega (arith, k, two)) (λ some_here. let k = a.within p (omega (arith, some_here)) in omega (arith, k, one));
              txn = λ o e. ⊎_elim (λ (t : v.txn ≡ Some o). let k = a.txn o t in (moved_else other id (r.user o.0) (λ z. apart (sym z ∙ k.0)) ∙ k.0, k.1))
                  (λ (t : w.txn ≡ Some o). let k = b.txn o t in (moved_here other id (r.user o.0) k.0, k.1)) (either_is v.txn w.txn o e);
              idle = λ z p. let t = times-append p v.own w.own in let x = a.idle (omega (arith, z)) p in let y = b.idle (omega (arith, z)) p in omega (arith, t, x, y);
              lock = a.lock;
              flies = λ f e. ⊎_elim (λ (t : v.flight ≡ Some f). let k = a.flies f t in (k.0, moved_else other id r.pilot (λ z. apart (sym z ∙ k.1)) ∙ k.1, λ p n ts l. let one = longer_first v.seen w.seen in k.2 p n ts (omega (arith, l, one))))
                  (λ (t : w.flight ≡ Some f). let k = b.flies f t in (k.0, moved_here other id r.pilot k.1, λ p n ts l. let two = longer_second v.seen w.seen in k.2 p n ts (omega (arith, l, two)))) (flight_is v.flight w.flight f e);
            })
            (λ i x not_id was not_other'. let k = r.each_seat i x was in record {
              seen = k.seen;
              told = k.told;
              own = λ p. k.own p ∙ dite (ℕ_discrete (r.author p) (suc other))
                  (λ is. let m = moved_here (suc other) (suc id) (r.author p) is in same-ne (r.author p) (suc i) (λ z. not_other' (omega (arith, is, z))) ∙ sym (same-ne (author' p) (suc i) (λ z. not_id (omega (arith, m, z)))))
                  (λ ne. ap (λ (n : ℕ). same n (suc i)) (sym (moved_else (suc other) (suc id) (r.author p) ne)));
              within = k.within;
              txn = λ o e. let t = k.txn o e in (moved_else other id (r.user o.0) (λ z. not_other' (sym t.0 ∙ z)) ∙ t.0, t.1);
              idle = k.idle;
              lock = k.lock;
              flies = λ f e. let t = k.flies f e in (t.0, moved_else other id r.pilot (λ z. not_other' (sym t.1 ∙ z)) ∙ t.1, t.2);
            }) j u here not_other);
      }

  -- the seat that has the user of an id after its event
  abbrev user_after : ℕ → (List ℕ → ℕ) → Event → List ℕ → ℕ
  user_after id user (Begin i level at) = mark_id user i id
  user_after id user (End i) = user
  user_after id user (Commit i n now ops tracked ts) = user
  user_after id user (Write n now ops) = user
  user_after id user Freeze = user
  user_after id user (Install through tables) = user
  user_after id user (Snapshot i n) = user
  user_after id user (Release i) = user

  abbrev owner : ℕ → Event → ℕ
  owner id e = if is_own e then suc id else 0

  abbrev Opened : Type 0
  Opened = List ℕ × Tx

  -- an open transaction of another seat stays open
  stays_open : (journal : List Event) (id j : ℕ) (user : List ℕ → ℕ) (m : ℕ) (t : Option Opened) (u : Option Flight) (e : Event) (o : Opened) → j ≢ id → IsNew journal e → IsMine m t u e → ((x : Opened) → t ≡ Some x → user x.0 ≡ id)
      → user o.0 ≡ j → IsOpen journal o → (user_after id user e o.0 ≡ j) × (find_named o.0 (apply (replay journal) e).txns ≡ Some o.1)
  stays_open journal id j user m t u (Begin i level at) o other new mine uses here open' = (mark_id_else user i id o.0 (λ z. absurd (cc (open', new, z))) ∙ here, found_before o.0 o.1 i (begun level at) (replay journal).txns open')
  stays_open journal id j user m t u (End i) o other new mine uses here open' = (here, found_without i o.0 o.1 (replay journal).txns (λ z. other (sym here ∙ (ap user z ∙ uses (i, mine.0) mine.1))) open')
  stays_open journal id j user m t u (Commit i n now ops tracked ts) o other new mine uses here open' = (here, found_without i o.0 o.1 (replay journal).txns (λ z. other (sym here ∙ (ap user z ∙ uses (i, mine.0) mine.1))) open')
  stays_open journal id j user m t u (Write n now ops) o other new mine uses here open' = (here, open')
  stays_open journal id j user m t u Freeze o other new mine uses here open' = (here, open')
  stays_open journal id j user m t u (Install through tables) o other new mine uses here open' = (here, open')
  stays_open journal id j user m t u (Snapshot i n) o other new mine uses here open' = absurd mine
  stays_open journal id j user m t u (Release i) o other new mine uses here open' = absurd mine

  -- the open transaction of the seat itself
  is_open_now : (journal : List Event) (id : ℕ) (user : List ℕ → ℕ) (m : ℕ) (t : Option Opened) (u : Option Flight) (e : Event) (o : Opened) → IsNew journal e → IsMine m t u e → ((x : Opened) → t ≡ Some x → (user x.0 ≡ id) × IsOpen journal x) → txn_after t e ≡ Some o
      → (user_after id user e o.0 ≡ id) × (find_named o.0 (apply (replay journal) e).txns ≡ Some o.1)
  is_open_now journal id user m t u (Begin i level at) o new mine was is =
      let same_one : (i, begun level at) ≡ o = cc is in
      (mark_id_here user i id o.0 (sym (ap (λ (x : Opened). x.0) same_one)), subst (λ (x : Opened). find_named x.0 (apply (replay journal) (Begin i level at)).txns ≡ Some x.1) same_one (found_last i (begun level at) (replay journal).txns new))
  is_open_now journal id user m t u (End i) o new mine was is = absurd (none_some o is)
  is_open_now journal id user m t u (Commit i n now ops tracked ts) o new mine was is = absurd (none_some o is)
  is_open_now journal id user m t u (Write n now ops) o new mine was is = was o is
  is_open_now journal id user m t u Freeze o new mine was is = was o is
  is_open_now journal id user m t u (Install through tables) o new mine was is = was o is
  is_open_now journal id user m t u (Snapshot i n) o new mine was is = absurd mine
  is_open_now journal id user m t u (Release i) o new mine was is = absurd mine

  own_grows : (author : ℕ → ℕ) (own : List ℕ) (n id : ℕ) (e : Event) (b : Bool) → author n ≡ 0 → ((p : ℕ) → times p own ≡ same (author p) (suc id)) → (p : ℕ)
      → times p (if b then own ++ n ∷ [] else own) ≡ same (mark author n (if b then suc id else 0) p) (suc id)
  own_grows author own n id e true none_yet was p =
      let t = times-append p own (n ∷ []) in let w = was p in
      dite (ℕ_discrete p n)
      (λ is. let m = mark_here author n (suc id) p is in let x = same-eq (mark author n (suc id) p) (suc id) m in let y = same-eq p n is in let z : same (author p) (suc id) ≡ 0 = same-ne (author p) (suc id) (λ q. let a = ap author is in omega (arith, a, none_yet, q)) in omega (arith, t, w, x, y, z))
      (λ ne. let m = ap (λ (k : ℕ). same k (suc id)) (mark_else author n (suc id) p ne) in let y = same-ne p n ne in omega (arith, t, w, m, y))
  own_grows author own n id e false none_yet was p =
      let w = was p in
      dite (ℕ_discrete p n)
      (λ is. let m = mark_here author n 0 p is in let x = same-ne (mark author n 0 p) (suc id) (λ q. omega (arith, m, q)) in let z : same (author p) (suc id) ≡ 0 = same-ne (author p) (suc id) (λ q. let a = ap author is in omega (arith, a, none_yet, q)) in omega (arith, w, x, z))
      (λ ne. let m = ap (λ (k : ℕ). same k (suc id)) (mark_else author n 0 p ne) in omega (arith, w, m))

  others_own : (author : ℕ → ℕ) (n id j : ℕ) (b : Bool) → j ≢ id → author n ≡ 0 → (p : ℕ) → same (author p) (suc j) ≡ same (mark author n (if b then suc id else 0) p) (suc j)
  others_own author n id j true other none_yet p = dite (ℕ_discrete p n)
      (λ is. let m = mark_here author n (suc id) p is in same-ne (author p) (suc j) (λ q. let a = ap author is in omega (arith, a, none_yet, q)) ∙ sym (same-ne (mark author n (suc id) p) (suc j) (λ q. other (omega (arith, m, q)))))
      (λ ne. ap (λ (k : ℕ). same k (suc j)) (sym (mark_else author n (suc id) p ne)))
  others_own author n id j false other none_yet p = dite (ℕ_discrete p n)
      (λ is. let m = mark_here author n 0 p is in same-ne (author p) (suc j) (λ q. let a = ap author is in omega (arith, a, none_yet, q)) ∙ sym (same-ne (mark author n 0 p) (suc j) (λ q. omega (arith, m, q))))
      (λ ne. ap (λ (k : ℕ). same k (suc j)) (sym (mark_else author n 0 p ne)))

  within_grows : (own : List ℕ) (n k : ℕ) (b : Bool) → ((p : ℕ) → 0 < times p own → p < k) → k ≤ n + 1 → (p : ℕ) → 0 < times p (if b then own ++ n ∷ [] else own) → p < n + 1
  within_grows own n k true was le p l = let t = times-append p own (n ∷ []) in dite (ℕ_discrete p n) (λ is. omega (arith, is)) (λ ne. let y = same-ne p n ne in let h = was p (omega (arith, t, y, l)) in omega (arith, h, le))
  within_grows own n k false was le p l = let h = was p l in omega (arith, h, le)

  authored_more : (journal : List Event) (seats id : ℕ) (author : ℕ → ℕ) (e : Event) → id < seats → IsAuthored journal seats author → IsAuthored (journal ++ e ∷ []) seats (mark author (length journal) (owner id e))
  authored_more journal seats id author e inside was =
      let n : ℕ = length journal in
      let long = length-append journal (e ∷ []) in record {
        beyond = λ p l. mark_else author n (owner id e) p (λ z. omega (arith, long, l, z)) ∙ was.beyond p (omega (arith, long, l));
        owned = λ p x h own. ⊎_elim
            (λ (t : slice_get journal p ≡ Some x). let b = get_below journal x p t in let m = mark_else author n (owner id e) p (λ z. omega (arith, b, z)) in let k = was.owned p x t own in omega (arith, m, k))
            (λ (t : (p ≡ n) × (e ≡ x)). let m = mark_here author n (owner id e) p t.0 ∙ ap (λ (c : Bool). if c then suc id else 0) (ap is_own t.1 ∙ own) in omega (arith, m))
            (get_snoc journal e x p h);
        unowned = λ p x h own. ⊎_elim
            (λ (t : slice_get journal p ≡ Some x). let b = get_below journal x p t in mark_else author n (owner id e) p (λ z. omega (arith, b, z)) ∙ was.unowned p x t own)
            (λ (t : (p ≡ n) × (e ≡ x)). mark_here author n (owner id e) p t.0 ∙ ap (λ (c : Bool). if c then suc id else 0) (ap is_own t.1 ∙ own))
            (get_snoc journal e x p h);
        known = λ p. let k = was.known p in dite (ℕ_discrete p n)
            (λ is. let m = mark_here author n (owner id e) p is in let o = owner_fits (is_own e) in omega (arith, m, o))
            (λ ne. let m = mark_else author n (owner id e) p ne in omega (arith, m, k));
      }
    where
      owner_fits : (b : Bool) → (if b then suc id else 0) ≤ seats
      owner_fits true = omega arith
      owner_fits false = omega arith

  -- the seat that has the flight after a release
  abbrev pilot_after : ℕ → ℕ → Option Flight → Option Flight → ℕ
  pilot_after id pilot None (Some f) = id
  pilot_after id pilot None None = pilot
  pilot_after id pilot (Some b) g = pilot

  -- the flight of the seat itself
  my_flight : (id pilot : ℕ) (t b g : Option Flight) (f : Flight) → MayFly t b g → ((x : Flight) → t ≡ Some x → (b ≡ Some x) × (pilot ≡ id)) → flight_after t b g ≡ Some f → (g ≡ Some f) × (pilot_after id pilot b g ≡ id)
  my_flight id pilot t None None f may was is = absurd (no_flight f ((was f is).0))
  my_flight id pilot t None (Some x) f may was is = (is, refl)
  my_flight id pilot t (Some b) None f may was is = absurd (no_flight f is)
  my_flight id pilot t (Some b) (Some x) f may was is = (ap (λ (n : Flight). Some n) (sym may) ∙ (was f is).0, (was f is).1)

  -- and of another
  their_flight : (id j pilot : ℕ) (t b g : Option Flight) (f : Flight) → j ≢ id → MayFly t b g → ((x : Flight) → t ≡ Some x → pilot ≡ id) → b ≡ Some f → pilot ≡ j → (g ≡ Some f) × (pilot_after id pilot b g ≡ j)
  their_flight id j pilot t None g f other may mine is here = absurd (no_flight f is)
  their_flight id j pilot t (Some b) None f other may mine is here = absurd (other (sym here ∙ mine b may))
  their_flight id j pilot t (Some b) (Some x) f other may mine is here = (ap (λ (n : Flight). Some n) (sym may) ∙ is, here)

  -- an event of another seat is no install
  no_install : (journal : List Event) (e : Event) (n id j pilot m : ℕ) (t : Option Opened) (u : Option Flight) → j ≢ id → IsMine m t u e → ((x : Flight) → u ≡ Some x → pilot ≡ id) → pilot ≡ j → NoInstall journal n → NoInstall (journal ++ e ∷ []) n
  no_install journal e n id j pilot m t u other mine uses here none_yet p through tables l at =
      ⊎_elim (λ (x : slice_get journal p ≡ Some (Install through tables)). none_yet p through tables l x)
      (λ (x : (p ≡ length journal) × (e ≡ Install through tables)). let k = subst (IsMine m t u) x.1 mine in other (sym here ∙ uses k.0 k.1)) (get_snoc journal e (Install through tables) p at)

  beyond_all : (journal : List Event) (n : ℕ) → length journal ≤ n → NoInstall journal n
  beyond_all journal n all p through tables l at = let b = get_below journal (Install through tables) p at in omega (arith, b, l, all)

  -- a seat with no part owns nothing after its event either
  own_idle : (m : ℕ) (t : Option Opened) (u : Option Flight) (own : List ℕ) (n : ℕ) (e : Event) → IsMine m t u e → m ≡ 0 → ((p : ℕ) → times p own ≡ 0) → (p : ℕ) → times p (own_after own n e) ≡ 0
  own_idle m t u own n (Begin i level at) mine none_left was p = was p
  own_idle m t u own n (End i) mine none_left was p = was p
  own_idle m t u own n (Commit i x now ops tracked ts) mine none_left was p = let h = mine.2 in absurd (omega (arith, h, none_left))
  own_idle m t u own n (Write x now ops) mine none_left was p = absurd (omega (arith, mine, none_left))
  own_idle m t u own n Freeze mine none_left was p = was p
  own_idle m t u own n (Install through tables) mine none_left was p = let h = mine.2 in absurd (omega (arith, h, none_left))
  own_idle m t u own n (Snapshot i x) mine none_left was p = absurd mine
  own_idle m t u own n (Release i) mine none_left was p = absurd mine

  abbrev slot_or : List (ℕ × Slot) → LockedModel
  slot_or [] = holds_at [] None
  slot_or ((k, None) ∷ xs) = holds_at [] None
  slot_or ((k, Some y) ∷ xs) = y

  pub adds : (slots id : ℕ) (me : M) (new : ℕ) (e : Event) (g : Option Flight) → me.1 ≡ (0, Some (holds_at (me.0.base ++ e ∷ []) g)) ∷ [] → me.0.holds ≡ true → new ≡ 2 * length me.0.base + 2 → May me.0 e → MayFly me.0.flight me.0.base_flight g
      → Allows Rule slots id me 0 (λ _. new) (λ _. appended (step slots 0 new 0 none) me new)
  adds slots id me new e g out holds is may fly s r _ at _ =
      let v : View = me.0 in
      let k = r.each_seat id v at in
      let lock = k.lock holds in
      let base : List Event = v.base in
      let b : Option Flight = v.base_flight in
      let y : List Event = base ++ e ∷ [] in
      let w : View = after_event v e g in
      let n : ℕ = length base in
      let long = length-append base (e ∷ []) in
      let inside = at_below s.views id v at in
      let wide = r.one_word in
      let deep = r.one_slot in
      let authored = subst (λ (h : LockedModel). IsAuthored h.events (length s.views) r.author) (sym lock.2) r.authored in
      let each = subst (λ (h : LockedModel). (j : ℕ) (u : View) → get_elem? s.views j ≡ some u → Knows h.events h.flight r.held r.holder r.pilot r.author r.user j u) (sym lock.2) r.each_seat in
      let mine = each id v at in
      let now = replay_more base e in
      let author' : ℕ → ℕ = mark r.author n (owner id e) in
      let user' : List ℕ → ℕ = user_after id r.user e in
      let pilot' : ℕ = pilot_after id r.pilot b g in
      let none_yet = authored.beyond n (omega arith) in (
        w,
        gives,
        tt,
        record {
          journal = y;
          flight = g;
          held = 0;
          holder = id;
          pilot = pilot';
          author = author';
          user = user';
          one_word = length-set s.words 0 new ∙ wide;
          one_slot = ap (λ (cs : List (ℕ × Slot)). length (put_back s.homes cs)) out ∙ (length-set s.homes 0 (some (Some (holds_at y g))) ∙ deep);
          bit = omega arith;
          word = get_or-set_same s.words 0 new 0 (omega arith) ∙ (let x : new ≡ 2 * length y + 0 = omega (arith, is, long) in x);
          home = λ _. ap (λ (cs : List (ℕ × Slot)). get_elem? (put_back s.homes cs) 0) out ∙ set_here s.homes 0 (some (Some (holds_at y g))) (omega arith);
          authored = subst (λ (c : ℕ). IsAuthored y c author') (sym (length-set s.views id w)) (authored_more base (length s.views) id r.author e inside authored);
          total = same_total s r id v w at refl;
          each_seat = seats_stay (Knows y g 0 id pilot' author' user') s.views id w
              record {
                seen = prefix_self y;
                told = (y, refl);
                own = own_grows r.author v.own n id e (is_own e) none_yet mine.own;
                within = λ p l. let h = within_grows v.own n (length v.seen) (is_own e) mine.within (let q = prefix_length v.seen base mine.seen in omega (arith, q)) p l in omega (arith, h, long);
                txn = λ o t. let h = is_open_now base id r.user v.parts v.txn v.flight e o may.0 may.1 mine.txn t in (h.0, ap (λ x. find_named o.0 x.txns) now ∙ h.1);
                idle = λ z. own_idle v.parts v.txn v.flight v.own n e may.1 z (mine.idle z);
                lock = λ z. absurd (off z);
                flies = λ f t. let h = my_flight id r.pilot v.flight b g f fly (λ x i. let q = mine.flies x i in (q.0, q.1)) t in (h.0, h.1, beyond_all y (length y) (omega arith));
              }
              (λ j u other there. let q = each j u there in record {
                seen = prefix_more u.seen base (e ∷ []) q.seen;
                told = prefix_more u.told base (e ∷ []) q.told;
                own = λ p. q.own p ∙ others_own r.author n id j (is_own e) other none_yet p;
                within = q.within;
                txn = λ o t. let x = q.txn o t in let h = stays_open base id j r.user v.parts v.txn v.flight e o other may.0 may.1 (λ z i. (mine.txn z i).0) x.0 x.1 in (h.0, ap (λ x. find_named o.0 x.txns) now ∙ h.1);
                idle = q.idle;
                lock = λ h. absurd (other (sym (q.lock h).1 ∙ lock.1));
                flies = λ f t. let x = q.flies f t in let h = their_flight id j r.pilot v.flight b g f other fly (λ z i. (mine.flies z i).1) x.0 x.1 in (h.0, h.1, no_install base e (length u.seen) id j r.pilot v.parts v.txn v.flight other may.1 (λ z i. (mine.flies z i).1) x.1 x.2);
              });
        },
        (λ e' g' out'. let same_one : holds_at y g ≡ holds_at (base ++ e' ∷ []) g' = ap slot_or (sym out ∙ out') in
            let one : e ≡ e' = sym (last_or-snoc e e base) ∙ (ap (λ (h : LockedModel). last_or e h.events) same_one ∙ last_or-snoc e e' base) in
            let two : g ≡ g' = ap (λ (h : LockedModel). h.flight) same_one in
            λ i. (after_event v (one i) (two i), rest (out i))),
      )

  pub keeps_journal : (slots id : ℕ) (me : M) (new : ℕ) (g : Option Flight) → me.1 ≡ (0, Some (holds_at me.0.base g)) ∷ [] → me.0.holds ≡ true → new ≡ 2 * length me.0.base → MayFly me.0.flight me.0.base_flight g
      → Allows Rule slots id me 0 (λ _. new) (λ _. let_go (step slots 0 new 0 none) me new)
  keeps_journal slots id me new g out holds is fly s r _ at _ =
      let v : View = me.0 in
      let k = r.each_seat id v at in
      let lock = k.lock holds in
      let base : List Event = v.base in
      let b : Option Flight = v.base_flight in
      let w : View = after_none v g in
      let wide = r.one_word in
      let deep = r.one_slot in
      let pilot' : ℕ = pilot_after id r.pilot b g in
      let authored = subst (λ (h : LockedModel). IsAuthored h.events (length s.views) r.author) (sym lock.2) r.authored in
      let each = subst (λ (h : LockedModel). (j : ℕ) (u : View) → get_elem? s.views j ≡ some u → Knows h.events h.flight r.held r.holder r.pilot r.author r.user j u) (sym lock.2) r.each_seat in
      let mine = each id v at in (
        w,
        gives,
        tt,
        record {
          journal = base;
          flight = g;
          held = 0;
          holder = id;
          pilot = pilot';
          author = r.author;
          user = r.user;
          one_word = length-set s.words 0 new ∙ wide;
          one_slot = ap (λ (cs : List (ℕ × Slot)). length (put_back s.homes cs)) out ∙ (length-set s.homes 0 (some (Some (holds_at base g))) ∙ deep);
          bit = omega arith;
          word = get_or-set_same s.words 0 new 0 (omega arith) ∙ (let x : new ≡ 2 * length base + 0 = omega (arith, is) in x);
          home = λ _. ap (λ (cs : List (ℕ × Slot)). get_elem? (put_back s.homes cs) 0) out ∙ set_here s.homes 0 (some (Some (holds_at base g))) (omega arith);
          authored = subst (λ (c : ℕ). IsAuthored base c r.author) (sym (length-set s.views id w)) authored;
          total = same_total s r id v w at refl;
          each_seat = seats_stay (Knows base g 0 id pilot' r.author r.user) s.views id w
              record {
                seen = prefix_self base;
                told = (base, refl);
                own = mine.own;
                within = λ p l. let h = mine.within p l in let q = prefix_length v.seen base mine.seen in omega (arith, h, q);
                txn = mine.txn;
                idle = mine.idle;
                lock = λ z. absurd (off z);
                flies = λ f t. let h = my_flight id r.pilot v.flight b g f fly (λ x i. let q = mine.flies x i in (q.0, q.1)) t in (h.0, h.1, beyond_all base (length base) (omega arith));
              }
              (λ j u other there. let q = each j u there in record {
                seen = q.seen;
                told = q.told;
                own = q.own;
                within = q.within;
                txn = q.txn;
                idle = q.idle;
                lock = λ h. absurd (other (sym (q.lock h).1 ∙ lock.1));
                flies = λ f t. let x = q.flies f t in let h = their_flight id j r.pilot v.flight b g f other fly (λ z i. (mine.flies z i).1) x.0 x.1 in (h.0, h.1, x.2);
              });
        },
        (λ g' out'. let two : g ≡ g' = ap (λ (cs : List (ℕ × Slot)). (slot_or cs).flight) (sym out ∙ out') in
            λ i. (after_none v (two i), rest (out i))),
      )

  -- the releases, where the seat is known up to an equation
  pub adds_at : (slots id : ℕ) (me : M) (v : View) (y : LockedModel) (new : ℕ) → me ≡ (v, (0, Some y) ∷ []) → ((e : Event) × (y.events ≡ v.base ++ e ∷ []) × May v e) → v.holds ≡ true → new ≡ 2 * length v.base + 2 → MayFly v.flight v.base_flight y.flight
      → Allows Rule slots id me 0 (λ _. new) (λ _. appended (step slots 0 new 0 none) me new)
  adds_at slots id me v y new is event holds long fly =
      subst (λ (m : M). Allows Rule slots id m 0 (λ _. new) (λ _. appended (step slots 0 new 0 none) m new)) (sym is)
      (adds slots id (v, (0, Some y) ∷ []) new event.0 y.flight (ap (λ (l : List Event). (0, Some (holds_at l y.flight)) ∷ []) event.1) holds long event.2 fly)

  pub keeps_at : (slots id : ℕ) (me : M) (v : View) (y : LockedModel) (new : ℕ) → me ≡ (v, (0, Some y) ∷ []) → y.events ≡ v.base → v.holds ≡ true → new ≡ 2 * length v.base → MayFly v.flight v.base_flight y.flight
      → Allows Rule slots id me 0 (λ _. new) (λ _. let_go (step slots 0 new 0 none) me new)
  keeps_at slots id me v y new is same_one holds long fly =
      subst (λ (m : M). Allows Rule slots id m 0 (λ _. new) (λ _. let_go (step slots 0 new 0 none) m new)) (sym is)
      (keeps_journal slots id (v, (0, Some y) ∷ []) new y.flight (ap (λ (l : List Event). (0, Some (holds_at l y.flight)) ∷ []) same_one) holds long fly)

  -- what a release with one event asks, where the seat holds the lock at a state
  pub may_event : (m : M) (v : View) (cs : List (ℕ × Slot)) (y : LockedModel) (z : List Event) (e : Event) → m ≡ (holding v y, cs) → z ≡ y.events ++ e ∷ [] → IsNew y.events e → IsMine v.parts v.txn v.flight e
      → (x : Event) × (z ≡ m.0.base ++ x ∷ []) × May m.0 x
  may_event m v cs y z e is longer_one allowed mine =
      subst (λ (n : M). (x : Event) × (z ≡ n.0.base ++ x ∷ []) × May n.0 x) (sym is) (e, longer_one, (allowed, mine))

  -- the flight stays as it was found
  same_flight : (t b : Option Flight) → MayFly t b b
  same_flight t None = tt
  same_flight t (Some b) = refl

  pub may_fly_on : (m : M) (v : View) (cs : List (ℕ × Slot)) (y : LockedModel) (g : Option Flight) → m ≡ (holding v y, cs) → g ≡ y.flight → MayFly m.0.flight m.0.base_flight g
  may_fly_on m v cs y g is on =
      subst (λ (n : M). MayFly n.0.flight n.0.base_flight g) (sym is) (subst (λ (x : Option Flight). MayFly v.flight y.flight x) (sym on) (same_flight v.flight y.flight))

  -- what the seat knows after a release with one event
  pub view_after : (m m' : M) (v : View) (cs : List (ℕ × Slot)) (y : LockedModel) (z : List Event) (g : Option Flight) (e : Event) → m ≡ (holding v y, cs) → z ≡ y.events ++ e ∷ []
      → ((x : Event) → z ≡ m.0.base ++ x ∷ [] → m' ≡ (after_event m.0 x g, [])) → m'.0 ≡ after_event (holding v y) e g
  view_after m m' v cs y z g e is longer_one after =
      ap (λ (n : M). n.0) (after e (longer_one ∙ ap (λ (n : M). n.0.base ++ e ∷ []) (sym is))) ∙ ap (λ (n : M). after_event n.0 e g) is

-- what a release with one event tells, where the seat is known up to an equation
pub after_add : (m m' : M) (v : View) (y : LockedModel) → m ≡ (v, (0, Some y) ∷ []) → ((e : Event) (g : Option Flight) → m.1 ≡ (0, Some (holds_at (m.0.base ++ e ∷ []) g)) ∷ [] → m' ≡ (after_event m.0 e g, []))
    → (e : Event) → y.events ≡ v.base ++ e ∷ [] → m' ≡ (after_event v e y.flight, [])
after_add m m' v y is told e one =
    let out : m.1 ≡ (0, Some (holds_at (m.0.base ++ e ∷ []) y.flight)) ∷ [] =
    ap (λ (n : M). n.1) is ∙ (ap (λ (l : List Event). (0, Some (holds_at l y.flight)) ∷ []) one ∙ ap (λ (n : M). (0, Some (holds_at (n.0.base ++ e ∷ []) y.flight)) ∷ []) (sym is)) in
    told e y.flight out ∙ ap (λ (n : M). (after_event n.0 e y.flight, [])) is

-- after a join and a look
pub joined_seen : (st : Step Slot) (m m' : M) (n : ℕ) (v w : View) (cs : List (ℕ × Slot)) → m ≡ (joined v w, cs) → looked st m n m' → (m'.0.seen ≡ longer v.seen w.seen) × IsPrefix v.seen m'.0.seen × IsPrefix w.seen m'.0.seen
joined_seen st m m' n v w cs is look =
    let y : List Event = look.0 in
    let seen : m'.0.seen ≡ longer v.seen w.seen = ap (λ (x : M). x.0.seen) look.1 ∙ ap (λ (x : M). x.0.seen) is in
    let whole : IsPrefix (longer v.seen w.seen) y = subst (λ (x : M). IsPrefix x.0.seen y) is look.2 in
    let told : IsPrefix w.seen y = subst (λ (x : M). IsPrefix x.0.told y) is look.3 in
    (seen, subst (IsPrefix v.seen) (sym seen) (longer_begins v.seen w.seen), subst (IsPrefix w.seen) (sym seen) (longer_covers v.seen w.seen y whole told))

-- after a join, and then the lock taken and let go with one event more
pub grown : (v w : View) (m₁ m₂ m₃ : M) (cs ds : List (ℕ × Slot)) (y : LockedModel) (z : List Event) (g : Option Flight) (e : Event) → m₁ ≡ (joined v w, cs) → m₂ ≡ (holding m₁.0 y, ds) → IsPrefix m₁.0.seen y.events → IsPrefix m₁.0.told y.events → z ≡ y.events ++ e ∷ []
    → ((x : Event) → z ≡ m₂.0.base ++ x ∷ [] → m₃ ≡ (after_event m₂.0 x g, []))
    → IsPrefix v.seen y.events × IsPrefix w.seen y.events × (m₃.0.seen ≡ y.events ++ e ∷ []) × (m₃.0.own ≡ own_after (v.own ++ w.own) (length y.events) e)
grown v w m₁ m₂ m₃ cs ds y z g e is holds seen told longer_one after =
    let now = view_after m₂ m₃ m₁.0 ds y z g e holds longer_one after in (
      prefix_trans v.seen (longer v.seen w.seen) y.events (longer_begins v.seen w.seen) (subst (λ (x : M). IsPrefix x.0.seen y.events) is seen),
      subst (λ (x : M). IsPrefix x.0.told y.events) is told,
      ap (λ (x : View). x.seen) now,
      ap (λ (x : View). x.own) now ∙ ap (λ (x : M). own_after x.0.own (length y.events) e) is,
    )
