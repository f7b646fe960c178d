-- What stays consistent of a lying store as acts are noted.
use Rattle.std.proofs.Common.{◌≡◌, suc, Bool, false, None, Some, Result, Ok, Err, ◌+◌, ◌++◌, ◌∷◌, [], ℕ, List, Option, length, ap, sym, ◌∙◌, refl, append_assoc, arith, subst, length-append}
use Rattle.std.specs.Prelude.{map, OnOk}
use Rattle.std.specs.Result.{is_err}
use Rattle.std.proofs.lemmas.Bool.{true≢false}
use Rattle.std.proofs.lemmas.List.{append-nil}
use Rattle.slate_types.specs.Outside.{Objects}
use Rattle.slate_store.specs.declared.lying_store.Noted.{Noted}
use Rattle.slate_store.specs.declared.lying_store.Noted.TheVariants.{Put, Read, Len}
use Rattle.slate_store.specs.declared.lying_store.StoreRead.{StoreRead}
use Rattle.slate_store.specs.Store.{Act, part_of, object_at, len_of, with_object, IsHonest}
use Rattle.slate_store.specs.Lying.{Chosen, LyingStoreModel, told_objects, act_of, after_act, after_acts, reads_of, chosen_for, answer_as, IsAnswered, AreAnswered}
use Rattle.slate_store.specs.Noted.{acts_of, places, IsConsistent}

-- ---- one more act

pub acts_put : (noted : List Noted) (reads : List StoreRead) (path bytes : List ℕ) → acts_of (noted ++ (Put path bytes ∷ [])) reads ≡ acts_of noted reads ++ (Act.put path bytes ∷ [])
acts_put [] reads path bytes = refl
acts_put (Put p b ∷ noted) reads path bytes = ap (λ acts. Act.put p b ∷ acts) (acts_put noted reads path bytes)
acts_put (Read ∷ noted) [] path bytes = acts_put noted [] path bytes
acts_put (Read ∷ noted) (r ∷ reads) path bytes = ap (λ acts. act_of r ∷ acts) (acts_put noted reads path bytes)
acts_put (Len p l ∷ noted) reads path bytes = ap (λ acts. Act.len p l ∷ acts) (acts_put noted reads path bytes)

pub acts_len : (noted : List Noted) (reads : List StoreRead) (path : List ℕ) (len : Option ℕ) → acts_of (noted ++ (Len path len ∷ [])) reads ≡ acts_of noted reads ++ (Act.len path len ∷ [])
acts_len [] reads path len = refl
acts_len (Put p b ∷ noted) reads path len = ap (λ acts. Act.put p b ∷ acts) (acts_len noted reads path len)
acts_len (Read ∷ noted) [] path len = acts_len noted [] path len
acts_len (Read ∷ noted) (r ∷ reads) path len = ap (λ acts. act_of r ∷ acts) (acts_len noted reads path len)
acts_len (Len p l ∷ noted) reads path len = ap (λ acts. Act.len p l ∷ acts) (acts_len noted reads path len)

pub acts_read : (noted : List Noted) (reads : List StoreRead) (read : StoreRead) → places noted ≡ length reads → acts_of (noted ++ (Read ∷ [])) (reads ++ (read ∷ [])) ≡ acts_of noted reads ++ (act_of read ∷ [])
acts_read [] [] read h = refl
acts_read [] (r ∷ reads) read h = absurd (omega (arith, h))
acts_read (Put p b ∷ noted) reads read h = ap (λ acts. Act.put p b ∷ acts) (acts_read noted reads read h)
acts_read (Read ∷ noted) [] read h = absurd (omega (arith, h))
acts_read (Read ∷ noted) (r ∷ reads) read h = ap (λ acts. act_of r ∷ acts) (acts_read noted reads read (omega (arith, h)))
acts_read (Len p l ∷ noted) reads read h = ap (λ acts. Act.len p l ∷ acts) (acts_read noted reads read h)

places_put : (noted : List Noted) (path bytes : List ℕ) → places (noted ++ (Put path bytes ∷ [])) ≡ places noted
places_put [] path bytes = refl
places_put (Put p b ∷ noted) path bytes = places_put noted path bytes
places_put (Read ∷ noted) path bytes = ap (λ n. n + 1) (places_put noted path bytes)
places_put (Len p l ∷ noted) path bytes = places_put noted path bytes

places_len : (noted : List Noted) (path : List ℕ) (len : Option ℕ) → places (noted ++ (Len path len ∷ [])) ≡ places noted
places_len [] path len = refl
places_len (Put p b ∷ noted) path len = places_len noted path len
places_len (Read ∷ noted) path len = ap (λ n. n + 1) (places_len noted path len)
places_len (Len p l ∷ noted) path len = places_len noted path len

places_read : (noted : List Noted) → places (noted ++ (Read ∷ [])) ≡ places noted + 1
places_read [] = refl
places_read (Put p b ∷ noted) = places_read noted
places_read (Read ∷ noted) = ap (λ n. n + 1) (places_read noted)
places_read (Len p l ∷ noted) = places_read noted

after_push : (os : Objects) (acts : List Act) (act : Act) → after_acts os (acts ++ (act ∷ [])) ≡ after_act (after_acts os acts) act
after_push os [] act = refl
after_push os (a ∷ acts) act = after_push (after_act os a) acts act

answered_push : (answers : Chosen) (before acts : List Act) (act : Act) → AreAnswered answers before acts → IsAnswered answers (before ++ acts) act → AreAnswered answers before (acts ++ (act ∷ []))
answered_push answers before [] act all one = (subst (λ bs. IsAnswered answers bs act) (append-nil before) one, tt)
answered_push answers before (a ∷ acts) act all one = (all.0, answered_push answers (before ++ (a ∷ [])) acts act all.1 (subst (λ bs. IsAnswered answers bs act) (sym (append_assoc before (a ∷ []) acts)) one))

-- ---- the reads among the acts

pub told_reads : (noted : List Noted) (reads : List StoreRead) → places noted ≡ length reads → map act_of reads ≡ reads_of (acts_of noted reads)
told_reads [] [] h = refl
told_reads [] (r ∷ reads) h = absurd (omega (arith, h))
told_reads (Put p b ∷ noted) reads h = told_reads noted reads h
told_reads (Read ∷ noted) [] h = absurd (omega (arith, h))
told_reads (Read ∷ noted) (r ∷ reads) h = ap (λ acts. act_of r ∷ acts) (told_reads noted reads (omega (arith, h)))
told_reads (Len p l ∷ noted) reads h = told_reads noted reads h

pub length_acts : (reads : List StoreRead) → length (map act_of reads) ≡ length reads
length_acts [] = refl
length_acts (r ∷ reads) = ap suc (length_acts reads)

pub counted_reads : (noted : List Noted) (reads : List StoreRead) → places noted ≡ length reads → length reads ≡ length (reads_of (acts_of noted reads))
counted_reads noted reads h = sym (length_acts reads) ∙ ap length (told_reads noted reads h)

-- ---- what is kept stays consistent

keeps : (answers : Chosen) (os after : Objects) (noted more : List Noted) (reads reads_after : List StoreRead) (act : Act) → IsConsistent answers os noted reads →
    acts_of more reads_after ≡ acts_of noted reads ++ (act ∷ []) → places more ≡ length reads_after → after ≡ after_act os act → IsAnswered answers (acts_of noted reads) act →
    IsConsistent answers after more reads_after
keeps answers os after noted more reads reads_after act h acts counted left one = record {
  counted = counted;
  left = left ∙ ap (λ objects. after_act objects act) h.left ∙ sym (after_push [] (acts_of noted reads) act) ∙ ap (after_acts []) (sym acts);
  answered = subst (AreAnswered answers []) (sym acts) (answered_push answers [] (acts_of noted reads) act h.answered one);
}

pub keeps_put : (answers : Chosen) (os after : Objects) (noted : List Noted) (reads : List StoreRead) (path bytes : List ℕ) → IsConsistent answers os noted reads →
    after ≡ with_object os path bytes → IsConsistent answers after (noted ++ (Put path bytes ∷ [])) reads
keeps_put answers os after noted reads path bytes h left =
    keeps answers os after noted (noted ++ (Put path bytes ∷ [])) reads reads (Act.put path bytes) h (acts_put noted reads path bytes) (places_put noted path bytes ∙ h.counted) left tt

pub keeps_len : (answers : Chosen) (os : Objects) (noted : List Noted) (reads : List StoreRead) (path : List ℕ) (len : Option ℕ) → IsConsistent answers os noted reads →
    len ≡ len_of (object_at os path) → IsConsistent answers os (noted ++ (Len path len ∷ [])) reads
keeps_len answers os noted reads path len h is =
    keeps answers os os noted (noted ++ (Len path len ∷ [])) reads reads (Act.len path len) h (acts_len noted reads path len) (places_len noted path len ∙ h.counted) refl (is ∙ ap (λ objects. len_of (object_at objects path)) h.left)

pub keeps_read : (answers : Chosen) (os : Objects) (noted : List Noted) (reads : List StoreRead) (read : StoreRead) → IsConsistent answers os noted reads →
    read.bytes ≡ answer_as (chosen_for (length (reads_of (acts_of noted reads)) + 1) answers) (part_of (object_at os read.path) read.start read.len) →
    IsConsistent answers os (noted ++ (Read ∷ [])) (reads ++ (read ∷ []))
keeps_read answers os noted reads read h is =
    keeps answers os os noted (noted ++ (Read ∷ [])) reads (reads ++ (read ∷ [])) (act_of read) h (acts_read noted reads read h.counted)
    (omega (arith, places_read noted, h.counted, length-append reads (read ∷ [])))
    refl
    (is ∙ ap (λ objects. answer_as (chosen_for (length (reads_of (acts_of noted reads)) + 1) answers) (part_of (object_at objects read.path) read.start read.len)) h.left)

-- ---- as calls have it

told_none : {A : Type 0} (x : A) → None ≡ Some x → ⊥
told_none x e = cc

-- what tells its objects has no chosen answers
pub honest_answered : (cs : Chosen) (os : Objects) (acts : List Act) → AreAnswered cs [] acts → IsHonest (told_objects cs os) → AreAnswered [] [] acts
honest_answered [] os acts h k = h
honest_answered (c ∷ cs) os acts h k = absurd (told_none k.0 k.1)

pub push_told : (after before now known : List Act) (act : Act) → after ≡ before ++ (act ∷ []) → before ≡ now → Some now ≡ Some known → Some after ≡ Some (known ++ (act ∷ []))
push_told after before now known act push same is =
    let told : now ≡ known = cc in
    ap Some (push ∙ ap (λ acts. acts ++ (act ∷ [])) (same ∙ told))

pub not_err : {T E : Type 0} (r : Result T E) {Q : Type 0} → is_err r ≡ false → OnOk r Q → Q
not_err (Ok x) is q = q
not_err (Err e) is q = absurd (true≢false is)

pub on_ok : {T E : Type 0} (r : Result T E) {Q : Type 0} → Q → OnOk r Q
on_ok (Ok x) q = q
on_ok (Err e) q = tt

pub next_answer : (m : LyingStoreModel) (o : Option (ℕ × Option (List ℕ))) (n : ℕ) (given : Chosen) (honest : Option (List ℕ)) → o ≡ chosen_for (n + 1) given → n ≡ length (reads_of m.acts) → given ≡ m.answers →
    answer_as o honest ≡ answer_as (chosen_for (length (reads_of m.acts) + 1) m.answers) honest
next_answer m o n given honest is number same =
    ap (λ x. answer_as x honest) (is ∙ ap (λ k. chosen_for (k + 1) given) number ∙ ap (λ x. chosen_for (length (reads_of m.acts) + 1) x) same)

pub read_act : (read : StoreRead) (path : List ℕ) (start len : ℕ) (answer : Option (List ℕ)) → read.path ≡ path → read.start ≡ start → read.len ≡ len → read.bytes ≡ answer → act_of read ≡ Act.read path start len answer
read_act read path start len answer p s l b =
    ap (λ x. Act.read x read.start read.len read.bytes) p ∙ ap (λ x. Act.read path x read.len read.bytes) s ∙ ap (λ x. Act.read path start x read.bytes) l ∙ ap (λ x. Act.read path start len x) b

pub read_kept : (m : LyingStoreModel) (noted : List Noted) (reads : List StoreRead) (read : StoreRead) (path : List ℕ) (start len : ℕ) (answer : Option (List ℕ)) (answers : Chosen) (os : Objects) →
    IsConsistent answers os noted reads → answers ≡ m.answers → os ≡ m.objects → acts_of noted reads ≡ m.acts → read.path ≡ path → read.start ≡ start → read.len ≡ len → read.bytes ≡ answer →
    answer ≡ answer_as (chosen_for (length (reads_of m.acts) + 1) m.answers) (part_of (object_at m.objects path) start len) →
    IsConsistent answers os (noted ++ (Read ∷ [])) (reads ++ (read ∷ []))
read_kept m noted reads read path start len answer answers os h a o t p s l b is =
    let chosen = ap (λ (acts : List Act). chosen_for (length (reads_of acts) + 1) m.answers) (sym t) ∙ ap (λ (x : Chosen). chosen_for (length (reads_of (acts_of noted reads)) + 1) x) (sym a) in
    let honest = ap (λ (objects : Objects). part_of (object_at objects path) start len) (sym o) ∙ ap (λ (x : List ℕ). part_of (object_at os x) start len) (sym p) ∙ ap (λ (x : ℕ). part_of (object_at os read.path) x len) (sym s) ∙ ap (λ (x : ℕ). part_of (object_at os read.path) read.start x) (sym l) in
    keeps_read answers os noted reads read h
    (b ∙ is ∙ ap (λ x. answer_as x (part_of (object_at m.objects path) start len)) chosen ∙ ap (λ x. answer_as (chosen_for (length (reads_of (acts_of noted reads)) + 1) answers) x) honest)
