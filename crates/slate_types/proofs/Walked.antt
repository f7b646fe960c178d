-- Steps that follow one another to the end.
use Rattle.std.proofs.Common.{◌≡◌, ◌⊎◌, inl, inr, ℕ, List, [], ◌∷◌, ◌++◌, Option, Some, None, refl, sym, ap, subst, ◌∙◌, append-nil, append_assoc}
use Rattle.slate_types.specs.declared.error.SlateDBError.{SlateDBError}
use Rattle.slate_types.specs.declared.types.RowEntry.{RowEntry}
use Rattle.slate_types.specs.Iteration.{TakesRow}
use Rattle.slate_types.specs.Outside.{Act, IsFault, Meaning, OnlyReads, Reach}
use Rattle.slate_types.specs.Refusing.{NoMore}
use Rattle.slate_types.specs.World.{World, Checks, IsCall, Made, Sees}
use Rattle.slate_types.specs.Steps.{Step, Takes, TakesAll}
use Rattle.slate_types.proofs.Reaching.{fault_earlier, reads_none, reads_then}
use Rattle.slate_types.proofs.Calls.{call_none, call_both, sees_first, sees_last, checks_none, checks_both, no_more_both}

-- one step more
takes_more : {A : Type 0} (step : A → List Act → Option RowEntry → A → Type 0) (x y z : A) (reads more : List Act) (rows : List RowEntry) (row : RowEntry) → Takes step x reads rows y → step y more (Some row) z → Takes step x (reads ++ more) (rows ++ (row ∷ [])) z
takes_more step x y z reads more [] row s t = (z, more, [], ap (λ (l : List Act). l ++ more) s.0 ∙ sym (append-nil more), subst (λ v. step v more (Some row) z) (sym s.1) t, (refl, refl))
takes_more step x y z reads more (first ∷ rows) row s t = (s.0, s.1, s.2 ++ more, ap (λ (l : List Act). l ++ more) s.3 ∙ append_assoc s.1 s.2 more, s.4, takes_more step s.0 y z s.2 more rows row s.5 t)

-- some steps, and the rows that they brought
pub record Walked {A : Type 0} (rest : A → World → List RowEntry) (sound : A → World → Type 0) (refuses : A → Meaning → List Act → Option (List ℕ) → SlateDBError → Type 0) (takes : A → Meaning → List Act → Option RowEntry → A → Type 0)
    (before after : Reach) (x y : A) (taken : List RowEntry) : Type 0 where
  pub rows : (w : World) → Sees w before after → sound x w → taken ++ rest y w ≡ rest x w
  pub still : (w : World) → Sees w before after → sound x w → sound y w
  pub checked : (w : World) → sound x w → Checks w before after
  pub made : Made before after (λ reads. NoMore (refuses x before.meaning) reads (refuses y before.meaning) × Takes (λ u by answer v. takes u before.meaning by answer v) x reads taken y)
  pub reads : OnlyReads before after

pub walked_none : {A : Type 0} (rest : A → World → List RowEntry) (sound : A → World → Type 0) (refuses : A → Meaning → List Act → Option (List ℕ) → SlateDBError → Type 0) (takes : A → Meaning → List Act → Option RowEntry → A → Type 0)
    (a : Reach) (x : A) → Walked rest sound refuses takes a a x x []
walked_none rest sound refuses takes a x = record {
  rows = λ w s h. refl;
  still = λ w s h. h;
  checked = λ w h. checks_none w a;
  made = ([], call_none a, (λ later at e h. h, (refl, refl)));
  reads = reads_none a;
}

-- one step more
pub walked_on : {A : Type 0} (rest : A → World → List RowEntry) (sound : A → World → Type 0) (refuses : A → Meaning → List Act → Option (List ℕ) → SlateDBError → Type 0) (takes : A → Meaning → List Act → Option RowEntry → A → Type 0)
    (a b c : Reach) (x y z : A) (taken : List RowEntry) (row : RowEntry) → Walked rest sound refuses takes a b x y taken → Step rest sound refuses takes b c y (Some row) z → OnlyReads b c → Walked rest sound refuses takes a c x z (taken ++ (row ∷ []))
walked_on rest sound refuses takes a b c x y z taken row m n r = record {
  rows = λ w s h. append_assoc taken (row ∷ []) (rest z w) ∙ ap (λ (l : List RowEntry). taken ++ l) (sym (n.rows w (last w s) (m.still w (first w s) h))) ∙ m.rows w (first w s) h;
  still = λ w s h. n.still w (last w s) (m.still w (first w s) h);
  checked = λ w h. checks_both w a b c m.made.0 n.taken.0 m.made.1 n.taken.1 (m.checked w h) (λ s. n.checked w (m.still w s h));
  made = (
    m.made.0 ++ n.taken.0,
    call_both a b c m.made.0 n.taken.0 m.made.1 n.taken.1,
    (
      no_more_both (refuses x a.meaning) (refuses y a.meaning) (refuses z a.meaning) m.made.0 n.taken.0 m.made.2.0 (subst (λ (p : Meaning). NoMore (refuses y p) n.taken.0 (refuses z p)) m.made.1.meaning n.taken.2.1),
      takes_more (λ u by answer v. takes u a.meaning by answer v) x y z m.made.0 n.taken.0 taken row m.made.2.1 (subst (λ (p : Meaning). takes y p n.taken.0 (Some row) z) m.made.1.meaning n.taken.2.0),
    ),
  );
  reads = reads_then a b c m.reads r;
}
  where
    first : (w : World) → Sees w a c → Sees w a b
    first w s = sees_first w a b c m.made.0 n.taken.0 m.made.1 n.taken.1 s

    last : (w : World) → Sees w a c → Sees w b c
    last w s = sees_last w a b c m.made.0 n.taken.0 m.made.1 n.taken.1 s

-- the end
pub record Ended {A : Type 0} (rest : A → World → List RowEntry) (sound : A → World → Type 0) (takes : A → Meaning → List Act → Option RowEntry → A → Type 0) (before after : Reach) (x z : A) (taken : List RowEntry) : Type 0 where
  pub rows : (w : World) → Sees w before after → sound x w → taken ≡ rest x w
  pub spent : (w : World) → Sees w before after → sound x w → rest z w ≡ []
  pub checked : (w : World) → sound x w → Checks w before after
  pub takes_all : Made before after (λ reads. TakesAll (λ u by answer v. takes u before.meaning by answer v) x reads taken z)
  pub reads : OnlyReads before after

all_taken : (taken rest whole : List RowEntry) → rest ≡ [] → taken ++ rest ≡ whole → taken ≡ whole
all_taken taken rest whole none is = sym (append-nil taken) ∙ ap (λ rows. taken ++ rows) (sym none) ∙ is

pub walked_ended : {A : Type 0} (rest : A → World → List RowEntry) (sound : A → World → Type 0) (refuses : A → Meaning → List Act → Option (List ℕ) → SlateDBError → Type 0) (takes : A → Meaning → List Act → Option RowEntry → A → Type 0)
    (a b c : Reach) (x y z : A) (taken : List RowEntry) → Walked rest sound refuses takes a b x y taken → Step rest sound refuses takes b c y None z → OnlyReads b c → Ended rest sound takes a c x z taken
walked_ended rest sound refuses takes a b c x y z taken m n r = record {
  rows = λ w s h. all_taken taken (rest y w) (rest x w) (n.rows w (last w s) (m.still w (first w s) h)).0 (m.rows w (first w s) h);
  spent = λ w s h. (n.rows w (last w s) (m.still w (first w s) h)).1;
  checked = λ w h. checks_both w a b c m.made.0 n.taken.0 m.made.1 n.taken.1 (m.checked w h) (λ s. n.checked w (m.still w s h));
  takes_all = (
    m.made.0 ++ n.taken.0,
    call_both a b c m.made.0 n.taken.0 m.made.1 n.taken.1,
    (y, m.made.0, n.taken.0, refl, m.made.2.1, subst (λ (p : Meaning). takes y p n.taken.0 None z) m.made.1.meaning n.taken.2.0),
  );
  reads = reads_then a b c m.reads r;
}
  where
    first : (w : World) → Sees w a c → Sees w a b
    first w s = sees_first w a b c m.made.0 n.taken.0 m.made.1 n.taken.1 s

    last : (w : World) → Sees w a c → Sees w b c
    last w s = sees_last w a b c m.made.0 n.taken.0 m.made.1 n.taken.1 s

-- a refusal
pub walked_fails : {A : Type 0} (rest : A → World → List RowEntry) (sound : A → World → Type 0) (refuses : A → Meaning → List Act → Option (List ℕ) → SlateDBError → Type 0) (takes : A → Meaning → List Act → Option RowEntry → A → Type 0)
    (stays : A → Meaning → List Act → Option (List ℕ) → SlateDBError → A → Type 0) (left : List Act → Type 0) (a b c : Reach) (x y z : A) (taken : List RowEntry) (e : SlateDBError) → Walked rest sound refuses takes a b x y taken →
    Made b c (λ reads. (IsFault b c e ⊎ refuses y b.meaning reads None e) × stays y b.meaning reads None e z × left reads) → Made a c (λ reads. IsFault a c e ⊎ refuses x a.meaning reads None e)
walked_fails rest sound refuses takes stays left a b c x y z taken e m made = (m.made.0 ++ made.0, call_both a b c m.made.0 made.0 m.made.1 made.1, by made.2.0)
  where
    by : IsFault b c e ⊎ refuses y b.meaning made.0 None e → IsFault a c e ⊎ refuses x a.meaning (m.made.0 ++ made.0) None e
    by (inl h) = inl (fault_earlier a b c e m.reads.later h)
    by (inr h) = inr (m.made.2.0 made.0 None e (subst (λ (p : Meaning). refuses y p made.0 None e) m.made.1.meaning h))
